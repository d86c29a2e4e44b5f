-- The text of a route: eight lines, their words, and what each line says of the route.
use Rattle.std.specs.Prelude.{◌≡◌, ℕ, ◌+◌, ◌/◌, ◌%◌, ◌^◌, ◌<◌, List, [], ◌∷◌, ◌++◌, map, Option, Some, None, slice_get, codes, decimal}
use Rattle.text_words.specs.LineCut.{line_cut}
use Rattle.text_words.specs.LineText.{words_of_lines, text_of_lines}
use Rattle.route_types.specs.Words.{IsNumber, IsAddress, IsPrefix, IsCommunity}
use Rattle.route_types.specs.Print.{address_text, prefix_text}
use Rattle.route_types.specs.Route.{RouteParts}
use Rattle.route_types.specs.Community.{set_of}
use Rattle.route_types.specs.declared.community.Community.{Community}
use Rattle.route_types.specs.declared.route.NextHop.{NextHop}
use Rattle.route_types.specs.declared.route.NextHop.TheVariants.{At, Own}
use Rattle.route_types.specs.declared.route.Origin.{Origin}
use Rattle.route_types.specs.declared.route.Origin.TheVariants.{Igp, Egp, Incomplete}

-- the words of each line of a file; the last LF is optional, so it ends a line and begins none
unfoldable pub words_by_line : List ℕ → List (List (List ℕ))
words_by_line text = words_of_lines (line_cut text)

-- the first word has one more byte in front
abbrev pub onto_word : ℕ → List (List ℕ) → List (List ℕ)
onto_word c [] = (c ∷ []) ∷ []
onto_word c (w ∷ ws) = (c ∷ w) ∷ ws

-- ---- what each line says

-- the two lists are as long, and the items are related one by one
abbrev pub Each : {A B : Type 0} → (A → B → Type 0) → List A → List B → Type 0
Each P [] [] = Unit {0}
Each P [] (y ∷ ys) = ⊥
Each P (x ∷ xs) [] = ⊥
Each P (x ∷ xs) (y ∷ ys) = P x y × Each P xs ys

-- the words are a name and one more word, and that spells this value
pub record IsOne {A : Type 0} (name : List ℕ) (Spells : List ℕ → A → Type 0) (words : List (List ℕ)) (value : A) : Type 0 where
  pub word : List ℕ
  pub are : words ≡ name ∷ word ∷ []
  pub spelled : Spells word value

-- the words are a name and any count of words, and these spell these values one by one
pub record IsMany {A : Type 0} (name : List ℕ) (Spells : List ℕ → A → Type 0) (words : List (List ℕ)) (values : List A) : Type 0 where
  pub behind : List (List ℕ)
  pub are : words ≡ name ∷ behind
  pub spelled : Each Spells behind values

-- the words are a name and communities in any order, with or without repeats, of this set
pub record IsCommunitySet (name : List ℕ) (words : List (List ℕ)) (set : List Community) : Type 0 where
  pub listed : List Community
  pub many : IsMany name IsCommunity words listed
  pub is : set ≡ set_of listed

-- a next hop is an address, or `self`
abbrev pub SpellsNextHop : List ℕ → NextHop → Type 0
SpellsNextHop word (At a) = IsAddress word a
SpellsNextHop word Own = word ≡ codes "self"

-- the word of an origin
abbrev pub origin_text : Origin → List ℕ
origin_text Igp = codes "igp"
origin_text Egp = codes "egp"
origin_text Incomplete = codes "incomplete"

-- an origin is its word
abbrev pub SpellsOrigin : List ℕ → Origin → Type 0
SpellsOrigin word o = word ≡ origin_text o

-- what a line of a route's text speaks of
pub data LineKind : Type 0 where
  PrefixLine : LineKind
  NextHopLine : LineKind
  PathLine : LineKind
  OriginLine : LineKind
  LocalPreferenceLine : LineKind
  MedLine : LineKind
  WeightLine : LineKind
  CommunitiesLine : LineKind

-- the eight lines in their order
abbrev pub route_lines : List LineKind
route_lines = PrefixLine ∷ NextHopLine ∷ PathLine ∷ OriginLine ∷ LocalPreferenceLine ∷ MedLine ∷ WeightLine ∷ CommunitiesLine ∷ []

-- the words of the line of a route
abbrev pub SpellsLine : RouteParts → List (List ℕ) → LineKind → Type 0
SpellsLine r words PrefixLine = IsOne (codes "route") IsPrefix words r.prefix
SpellsLine r words NextHopLine = IsOne (codes "next-hop") SpellsNextHop words r.next_hop
SpellsLine r words PathLine = IsMany (codes "as-path") (IsNumber 4294967295) words r.path
SpellsLine r words OriginLine = IsOne (codes "origin") SpellsOrigin words r.origin
SpellsLine r words LocalPreferenceLine = IsOne (codes "local-preference") (IsNumber 4294967295) words r.local_preference
SpellsLine r words MedLine = IsOne (codes "med") (IsNumber 4294967295) words r.med
SpellsLine r words WeightLine = IsOne (codes "weight") (IsNumber 65535) words r.weight
SpellsLine r words CommunitiesLine = IsCommunitySet (codes "communities") words r.communities

-- a text spells a route: it has eight lines, and each of them is that of the route
abbrev pub SpellsRoute : List ℕ → RouteParts → Type 0
SpellsRoute text r = Each (SpellsLine r) (words_by_line text) route_lines

-- ---- the first line that is not the form

-- the words are the form of a line, with any values
abbrev pub IsLineForm : List (List ℕ) → LineKind → Type 0
IsLineForm words kind = (r : RouteParts) × SpellsLine r words kind

-- there is such a line, and it is the form
abbrev pub IsGoodLine : Option (List (List ℕ)) → Option LineKind → Type 0
IsGoodLine (Some words) (Some kind) = IsLineForm words kind
IsGoodLine (Some words) None = ⊥
IsGoodLine None kind = ⊥

-- a line that is not the form, one that is missing, and one behind the eight
abbrev pub IsBadLine : Option (List (List ℕ)) → Option LineKind → Type 0
IsBadLine (Some words) (Some kind) = IsLineForm words kind → ⊥
IsBadLine None (Some kind) = Unit {0}
IsBadLine (Some words) None = Unit {0}
IsBadLine None None = ⊥

-- so many lines are the form, and the next one is bad
pub record IsFirstBad (lines : List (List (List ℕ))) (kinds : List LineKind) (before : ℕ) : Type 0 where
  pub good : (k : ℕ) → k < before → IsGoodLine (slice_get lines k) (slice_get kinds k)
  pub bad : IsBadLine (slice_get lines before) (slice_get kinds before)

-- the first line that is not the form has this number, counted from 1; a missing line has the
-- number that it would have
pub record IsFirstBadLine (text : List ℕ) (number : ℕ) : Type 0 where
  pub before : ℕ
  pub counted : number ≡ before + 1
  pub first : IsFirstBad (words_by_line text) route_lines before

-- ---- the printed text

-- the word of a next hop
abbrev pub next_hop_text : NextHop → List ℕ
next_hop_text (At a) = address_text a
next_hop_text Own = codes "self"

-- the word of a community
abbrev pub community_text : Community → List ℕ
community_text c = decimal (c.0 / 2 ^ 16) ++ (58 ∷ decimal (c.0 % 2 ^ 16))

-- the words of the eight lines of a route
unfoldable pub route_words : RouteParts → List (List (List ℕ))
route_words r =
    (codes "route" ∷ prefix_text r.prefix ∷ [])
    ∷ (codes "next-hop" ∷ next_hop_text r.next_hop ∷ [])
    ∷ (codes "as-path" ∷ map decimal r.path)
    ∷ (codes "origin" ∷ origin_text r.origin ∷ [])
    ∷ (codes "local-preference" ∷ decimal r.local_preference ∷ [])
    ∷ (codes "med" ∷ decimal r.med ∷ [])
    ∷ (codes "weight" ∷ decimal r.weight ∷ [])
    ∷ (codes "communities" ∷ map community_text r.communities)
    ∷ []

-- the text of a route: single spaces, rising communities, and an LF behind each line
unfoldable pub route_text : RouteParts → List ℕ
route_text r = text_of_lines (route_words r)
