-- Which words spell which form (Cisco IOS IP Routing: BGP command reference, 'ip prefix-list', 'ip
-- community-list', 'ip as-path access-list', 'match as-path', 'match community', 'set community', 'set comm-list delete' and others; Cisco IOS IP
-- Routing: Protocol-Independent command reference, 'route-map', 'match ip address', 'continue').
use Rattle.std.specs.Prelude.{◌≡◌, ℕ, ◌-◌, ◌≤◌, ◌^◌, Bool, true, false, IsTrue, ◌⊎◌, List, [], ◌∷◌, ◌++◌, Option, Some, None, codes}
use Rattle.route_types.specs.Words.{IsNumber, IsAddress, IsPrefix, IsCommunity}
use Rattle.route_types.specs.Community.{RectParts}
use Rattle.route_types.specs.declared.address.Family.TheVariants.{V4}
use Rattle.route_types.specs.declared.community.Community.{Community}
use Rattle.prefix_sets.specs.declared.list.PrefixEntry.{PrefixEntry as Entry}
use Rattle.policy_text.specs.Names.{is_name}
use Rattle.policy_text.specs.Bounds.{SpellBounds}
use Rattle.policy_text.specs.Phrases.{Behind, One, First, Optional, AreSome, IsOneOf, IsNameWord}
use Rattle.aspath_text.specs.IosGrammar.{SpellsPattern}
use Rattle.ios_tree.specs.Names.{list_name, actions, ios_communities, origins}
use Rattle.ios_tree.specs.Forms.{is_written, written_number}
use Rattle.ios_tree.specs.declared.item.IosForm.{IosForm}
use Rattle.ios_tree.specs.declared.item.IosForm.TheVariants.{PrefixEntry, PrefixDescription, CommunityEntry, PathEntry, MapHeader, Line, Other}
use Rattle.ios_tree.specs.declared.item.PrefixListEntry.{PrefixListEntry}
use Rattle.ios_tree.specs.declared.item.PrefixDescription.{PrefixDescription as Described}
use Rattle.ios_tree.specs.declared.item.CommunityShape.{CommunityShape}
use Rattle.ios_tree.specs.declared.item.CommunityShape.TheVariants.{Standard, Expanded}
use Rattle.ios_tree.specs.declared.item.CommunitySetting.{CommunitySetting}
use Rattle.ios_tree.specs.declared.item.MapLine.{MapLine}
use Rattle.ios_tree.specs.declared.item.MapLine.TheVariants.{MatchPrefix, MatchNextHop, MatchCommunity, MatchPath, MatchMetric, SetLocalPreference, SetMetric, SetWeight, SetPrepend, SetOrigin, SetNextHop, SetCommunity, DeleteCommunities, Continue, Description}

-- ---- words

-- a word names a list: by itself, or by its number where it is digits alone
pub record IsListWord (word list : List ℕ) : Type 0 where
  pub named : IsTrue (is_name word)
  pub names : list ≡ list_name word

-- a community: `a:b`, a word of its own, or one number up to 2^32 - 1, which is its bits
abbrev pub IsCommunityWord : List ℕ → Community → Type 0
IsCommunityWord word c =
    IsCommunity word c ⊎ IsOneOf ios_communities word c ⊎ IsNumber (2 ^ 32 - 1) word c.0

-- half of an expanded entry: one number, or `[0-9]+` for all
abbrev pub IsHalf : List ℕ → ℕ → ℕ → Type 0
IsHalf word least most = (IsNumber 65535 word least × (most ≡ least)) ⊎ ((word ≡ codes "[0-9]+") × (least ≡ 0) × (most ≡ 65535))

-- the pattern of an expanded entry: two halves joined by `:`, between two `_`
pub record IsShape (word : List ℕ) (r : RectParts) : Type 0 where
  pub high : List ℕ
  pub low : List ℕ
  pub spelled : word ≡ 95 ∷ (high ++ (58 ∷ (low ++ (95 ∷ []))))
  pub high_half : IsHalf high r.high_least r.high_most
  pub low_half : IsHalf low r.low_least r.low_most

-- one or more names of lists
abbrev pub AreLists : List (List ℕ) → List (List ℕ) → Type 0
AreLists words lists = AreSome IsListWord words lists

-- one or more numbers of 32 bits
abbrev pub AreNumbers : List (List ℕ) → List ℕ → Type 0
AreNumbers words ns = AreSome (IsNumber (2 ^ 32 - 1)) words ns

-- one or more communities
abbrev pub AreCommunities : List (List ℕ) → List Community → Type 0
AreCommunities words cs = AreSome IsCommunityWord words cs

-- a number between these, which is the name of a list
pub record IsListNumber (least most : ℕ) (word list : List ℕ) : Type 0 where
  pub number : ℕ
  pub spelled : IsNumber most word number
  pub some : least ≤ number
  pub names : list ≡ word

-- a number from 1 to 2^64 - 1, which is the name of a path list
abbrev pub IsPathListWord : List ℕ → List ℕ → Type 0
IsPathListWord word list = IsListNumber 1 (2 ^ 64 - 1) word list

-- ---- lists

-- what stands behind these words: the name of a list, `permit` or `deny`, and what is asked for
abbrev pub SpellEntry : {A : Type 0} → List (List ℕ) → (List ℕ → List ℕ → Type 0) → (List (List ℕ) → A → Type 0) → List (List ℕ) → List ℕ × (Bool × A) → Type 0
SpellEntry ks Name Shape ws e = Behind ks (First Name (First (IsOneOf actions) Shape)) ws e

-- `permit|deny P [ge G] [le E]`
pub record SpellRange (ws : List (List ℕ)) (e : Entry) : Type 0 where
  pub action : List ℕ
  pub prefix_word : List ℕ
  pub bounds : List (List ℕ)
  pub words : ws ≡ action ∷ prefix_word ∷ bounds
  pub permit : IsOneOf actions action e.permit
  pub prefix : IsPrefix prefix_word e.range.prefix
  pub lengths : SpellBounds e.range.prefix.length bounds (e.range.least, e.range.most)

-- `permit|deny P [ge G] [le E]`, or `description W..`
abbrev pub SpellRangeOr : List (List ℕ) → Option Entry → Type 0
SpellRangeOr ws (Some e) = SpellRange ws e
SpellRangeOr ws None = (rest : List (List ℕ)) × (ws ≡ codes "description" ∷ rest)

-- `ip prefix-list N [seq S]`, and what stands behind it
abbrev pub SpellPrefixList : List (List ℕ) → List ℕ × (Option ℕ × Option Entry) → Type 0
SpellPrefixList ws x = Behind (codes "ip" ∷ codes "prefix-list" ∷ []) (First IsListWord (Optional (codes "seq" ∷ []) (IsNumber (2 ^ 64 - 1)) SpellRangeOr)) ws x

-- `ip prefix-list N [seq S] permit|deny P [ge G] [le E]`; a number that isn't written is 0 until the entry
-- gets one by its place
pub record SpellPrefixEntry (ws : List (List ℕ)) (e : PrefixListEntry) : Type 0 where
  pub seq : Option ℕ
  pub words : SpellPrefixList ws (e.list, (seq, Some e.entry))
  pub written : e.has_seq ≡ is_written seq
  pub number : e.number ≡ written_number seq

-- `ip prefix-list N [seq S] description W..`
pub record SpellPrefixDescription (ws : List (List ℕ)) (d : Described) : Type 0 where
  pub seq : Option ℕ
  pub words : SpellPrefixList ws (d.list, (seq, None))
  pub family : d.family ≡ V4

-- `ip community-list n|standard N permit|deny C..` with n from 1 to 99, `ip community-list n|expanded N
-- permit|deny X` with n from 100 to 500
abbrev pub SpellCommunityEntry : List (List ℕ) → List ℕ → Bool → CommunityShape → Type 0
SpellCommunityEntry ws list permit (Standard cs) =
    SpellEntry (codes "ip" ∷ codes "community-list" ∷ codes "standard" ∷ []) IsListWord AreCommunities ws (list, (permit, cs))
    ⊎ SpellEntry (codes "ip" ∷ codes "community-list" ∷ []) (IsListNumber 1 99) AreCommunities ws (list, (permit, cs))
SpellCommunityEntry ws list permit (Expanded r) =
    SpellEntry (codes "ip" ∷ codes "community-list" ∷ codes "expanded" ∷ []) IsListWord (One IsShape) ws (list, (permit, r))
    ⊎ SpellEntry (codes "ip" ∷ codes "community-list" ∷ []) (IsListNumber 100 500) (One IsShape) ws (list, (permit, r))

-- ---- lines of route-maps

-- words and an option behind them; where it isn't taken, they don't end in its word behind another one
abbrev pub SpellOption : List ℕ → List (List ℕ) → Bool → List (List ℕ) → Type 0
SpellOption key ws true words = ws ≡ words ++ (key ∷ [])
SpellOption key ws false words = (ws ≡ words) × ((first : List ℕ) (front : List (List ℕ)) → ws ≡ first ∷ (front ++ (key ∷ [])) → ⊥)

-- one or more words with their values, and an option behind them
pub record WithOption {A : Type 0} (key : List ℕ) (P : List ℕ → A → Type 0) (ws : List (List ℕ)) (x : List A × Bool) : Type 0 where
  pub words : List (List ℕ)
  pub option : SpellOption key ws x.1 words
  pub values : AreSome P words x.0

-- `C.. [additive]`, or `none`
abbrev pub SpellCommunities : List (List ℕ) → CommunitySetting → Type 0
SpellCommunities ws s = ((ws ≡ codes "none" ∷ []) × (s.communities ≡ []) × (s.additive ≡ false)) ⊎ WithOption (codes "additive") IsCommunityWord ws (s.communities, s.additive)

-- a word that spells the value, and this one behind it
abbrev pub Followed : {A : Type 0} → List ℕ → (List ℕ → A → Type 0) → List (List ℕ) → A → Type 0
Followed key P ws x = (w : List ℕ) × (ws ≡ w ∷ key ∷ []) × P w x

-- nothing, or `S`
abbrev pub SpellTarget : List (List ℕ) → Option ℕ → Type 0
SpellTarget ws None = ws ≡ []
SpellTarget ws (Some n) = One (IsNumber (2 ^ 64 - 1)) ws n

-- words spell a line of an entry
abbrev pub SpellLine : List (List ℕ) → MapLine → Type 0
SpellLine ws (MatchPrefix m) = Behind (codes "match" ∷ codes "ip" ∷ codes "address" ∷ codes "prefix-list" ∷ []) AreLists ws m.lists × (m.family ≡ V4)
SpellLine ws (MatchNextHop m) = Behind (codes "match" ∷ codes "ip" ∷ codes "next-hop" ∷ codes "prefix-list" ∷ []) AreLists ws m.lists × (m.family ≡ V4)
SpellLine ws (MatchCommunity m) = Behind (codes "match" ∷ codes "community" ∷ []) (WithOption (codes "exact-match") IsListWord) ws (m.lists, m.exact)
SpellLine ws (MatchPath m) = Behind (codes "match" ∷ codes "as-path" ∷ []) (AreSome IsPathListWord) ws m.lists
SpellLine ws (MatchMetric ns) = Behind (codes "match" ∷ codes "metric" ∷ []) AreNumbers ws ns
SpellLine ws (SetLocalPreference n) = Behind (codes "set" ∷ codes "local-preference" ∷ []) (One (IsNumber (2 ^ 32 - 1))) ws n
SpellLine ws (SetMetric n) = Behind (codes "set" ∷ codes "metric" ∷ []) (One (IsNumber (2 ^ 32 - 1))) ws n
SpellLine ws (SetWeight n) = Behind (codes "set" ∷ codes "weight" ∷ []) (One (IsNumber 65535)) ws n
SpellLine ws (SetPrepend ns) = Behind (codes "set" ∷ codes "as-path" ∷ codes "prepend" ∷ []) AreNumbers ws ns
SpellLine ws (SetOrigin o) = Behind (codes "set" ∷ codes "origin" ∷ []) (One (IsOneOf origins)) ws o
SpellLine ws (SetNextHop a) = Behind (codes "set" ∷ codes "ip" ∷ codes "next-hop" ∷ []) (One IsAddress) ws a
SpellLine ws (SetCommunity s) = Behind (codes "set" ∷ codes "community" ∷ []) SpellCommunities ws s
SpellLine ws (DeleteCommunities list) = Behind (codes "set" ∷ codes "comm-list" ∷ []) (Followed (codes "delete") IsListWord) ws list
SpellLine ws (Continue target) = Behind (codes "continue" ∷ []) SpellTarget ws target
SpellLine ws Description = (rest : List (List ℕ)) × (ws ≡ codes "description" ∷ rest)

-- words spell a form
abbrev pub Spell : List (List ℕ) → IosForm → Type 0
Spell ws (PrefixEntry e) = SpellPrefixEntry ws e
Spell ws (PrefixDescription d) = SpellPrefixDescription ws d
Spell ws (CommunityEntry e) = SpellCommunityEntry ws e.list e.permit e.shape
Spell ws (PathEntry e) = SpellEntry (codes "ip" ∷ codes "as-path" ∷ codes "access-list" ∷ []) IsPathListWord (One SpellsPattern) ws (e.list, (e.permit, e.pattern))
Spell ws (MapHeader h) = SpellEntry (codes "route-map" ∷ []) IsNameWord (One (IsNumber (2 ^ 64 - 1))) ws (h.map, (h.permit, h.number))
Spell ws (Line l) = SpellLine ws l
Spell ws (Other o) = ⊥
