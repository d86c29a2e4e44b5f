-- The functions that find which form a statement has. `Spelling` says what the forms are.
use Rattle.std.specs.Prelude.{ℕ, ◌-◌, ◌^◌, Bool, true, false, ◌==◌, List, [], ◌∷◌, Option, Some, None, codes, bytes_eq, length, option_map}
use Rattle.route_types.specs.Words.{◌>>=◌, when, number_in, prefix_in, address_in}
use Rattle.route_types.specs.Community.{RectParts}
use Rattle.route_types.specs.declared.address.Family.TheVariants.{V4}
use Rattle.route_types.specs.declared.community.Community.{Community}
use Rattle.prefix_sets.specs.declared.list.PrefixEntry.{PrefixEntry as Entry}
use Rattle.policy_text.specs.Names.{first_some}
use Rattle.policy_text.specs.Bounds.{bounds_in}
use Rattle.policy_text.specs.Phrases.{after, behind, only, value_at, first_of, optional, some_each, name_in}
use Rattle.aspath_text.specs.IosRead.{ios_pattern_in}
use Rattle.path_patterns.specs.declared.pattern.IosBranch.{IosBranch}
use Rattle.ios_tree.specs.Names.{list_in, numbered_list_in, permit_in, community_word_in, shape_in, origin_in}
use Rattle.ios_tree.specs.declared.item.IosForm.{IosForm}
use Rattle.ios_tree.specs.declared.item.IosForm.TheVariants.{PrefixEntry, PrefixDescription, CommunityEntry, PathEntry, MapHeader}
use Rattle.ios_tree.specs.declared.item.CommunityShape.TheVariants.{Standard, Expanded}
use Rattle.ios_tree.specs.declared.item.CommunitySetting.{CommunitySetting}
use Rattle.ios_tree.specs.declared.item.MapLine.{MapLine}
use Rattle.ios_tree.specs.declared.item.MapLine.TheVariants.{MatchPrefix, MatchNextHop, MatchCommunity, MatchPath, MatchMetric, SetLocalPreference, SetMetric, SetWeight, SetPrepend, SetOrigin, SetNextHop, SetCommunity, DeleteCommunities, Continue, Description}

-- ---- prefix lists

-- whether a number is written
abbrev pub is_written : Option ℕ → Bool
is_written None = false
is_written (Some n) = true

-- the number, 0 for one that isn't written
abbrev pub written_number : Option ℕ → ℕ
written_number None = 0
written_number (Some n) = n

-- `permit|deny P [ge G] [le E]`
abbrev pub range_in : List (List ℕ) → Option Entry
range_in ws = do
  permit ← value_at permit_in ws
  prefix ← value_at prefix_in permit.1
  lengths ← bounds_in prefix.0.length prefix.1
  Some (record { permit = permit.0; range = record { prefix = prefix.0; least = lengths.0; most = lengths.1 } })

-- `permit|deny P [ge G] [le E]`, or `description W..`
unfoldable pub range_or_in : List (List ℕ) → Option (Option Entry)
range_or_in ws = first_some (option_map (λ e. Some e) (range_in ws)) (option_map (λ rest. None) (after (codes "description" ∷ []) ws))

-- the form by the name, the number and what stands behind them
abbrev pub prefix_form : List ℕ × (Option ℕ × Option Entry) → IosForm
prefix_form (list, (n, Some e)) = PrefixEntry (record { list = list; has_seq = is_written n; number = written_number n; entry = e })
prefix_form (list, (n, None)) = PrefixDescription (record { family = V4; list = list })

-- `ip prefix-list N [seq S] permit|deny P [ge G] [le E]`, `ip prefix-list N [seq S] description W..`
unfoldable pub prefix_list_in : List (List ℕ) → Option IosForm
prefix_list_in ws = option_map prefix_form (behind (codes "ip" ∷ codes "prefix-list" ∷ []) (first_of list_in (optional (codes "seq" ∷ []) (number_in (2 ^ 64 - 1)) range_or_in)) ws)

-- ---- other entries

-- behind these words the name of a list and `permit` or `deny`, and the words behind them
abbrev pub head_in : List (List ℕ) → (List ℕ → Option (List ℕ)) → List (List ℕ) → Option (List ℕ × Bool × List (List ℕ))
head_in ks name ws = do
  rest ← after ks ws
  list ← value_at name rest
  permit ← value_at permit_in list.1
  Some (list.0, permit.0, permit.1)

-- an entry: its head, and what is asked for
abbrev pub entry_in : {A : Type 0} → List (List ℕ) → (List ℕ → Option (List ℕ)) → (List (List ℕ) → Option A) → List (List ℕ) → Option (List ℕ × (Bool × A))
entry_in ks name shape ws = do
  head ← head_in ks name ws
  x ← shape head.2
  Some (head.0, (head.1, x))

-- an entry of a standard list
abbrev pub standard_form : List ℕ × (Bool × List Community) → IosForm
standard_form (list, (permit, cs)) = CommunityEntry (record { list = list; permit = permit; shape = Standard cs })

-- an entry of an expanded list
abbrev pub expanded_form : List ℕ × (Bool × RectParts) → IosForm
expanded_form (list, (permit, r)) = CommunityEntry (record { list = list; permit = permit; shape = Expanded r })

-- an entry of a standard list whose name stands behind these words
unfoldable pub standard_in : List (List ℕ) → (List ℕ → Option (List ℕ)) → List (List ℕ) → Option IosForm
standard_in ks name ws = option_map standard_form (entry_in ks name (some_each community_word_in) ws)

-- an entry of an expanded list whose name stands behind these words
unfoldable pub expanded_in : List (List ℕ) → (List ℕ → Option (List ℕ)) → List (List ℕ) → Option IosForm
expanded_in ks name ws = option_map expanded_form (entry_in ks name (only shape_in) ws)

-- `ip community-list n|standard N permit|deny C..`, `ip community-list n|expanded N permit|deny X`
unfoldable pub community_list_in : List (List ℕ) → Option IosForm
community_list_in ws =
    first_some (standard_in (codes "ip" ∷ codes "community-list" ∷ codes "standard" ∷ []) list_in ws)
    (first_some (expanded_in (codes "ip" ∷ codes "community-list" ∷ codes "expanded" ∷ []) list_in ws)
    (first_some (standard_in (codes "ip" ∷ codes "community-list" ∷ []) (numbered_list_in 1 99) ws)
    (expanded_in (codes "ip" ∷ codes "community-list" ∷ []) (numbered_list_in 100 500) ws)))

-- an entry of a path list
abbrev pub path_form : List ℕ × (Bool × List IosBranch) → IosForm
path_form (list, (permit, pattern)) = PathEntry (record { list = list; permit = permit; pattern = pattern })

-- the first line of an entry of a route-map
abbrev pub header_form : List ℕ × (Bool × ℕ) → IosForm
header_form (map, (permit, number)) = MapHeader (record { map = map; permit = permit; number = number })

-- `ip as-path access-list n permit|deny X`
unfoldable pub path_entry_in : List (List ℕ) → Option IosForm
path_entry_in ws = option_map path_form (entry_in (codes "ip" ∷ codes "as-path" ∷ codes "access-list" ∷ []) (numbered_list_in 1 (2 ^ 64 - 1)) (only ios_pattern_in) ws)

-- `route-map N permit|deny S`
unfoldable pub map_header_in : List (List ℕ) → Option IosForm
map_header_in ws = option_map header_form (entry_in (codes "route-map" ∷ []) name_in (only (number_in (2 ^ 64 - 1))) ws)

-- ---- lines of route-maps

-- the words before an option at the end, and whether it stands there; behind no word it is none
abbrev pub option_in : List ℕ → List (List ℕ) → List (List ℕ) × Bool
option_in key [] = ([], false)
option_in key (w ∷ []) = (w ∷ [], false)
option_in key (w ∷ v ∷ []) = elim (bytes_eq v key) [ true ↦ (w ∷ [], true) | false ↦ (w ∷ v ∷ [], false) ]
option_in key (w ∷ v ∷ u ∷ ws) = let rest = option_in key (v ∷ u ∷ ws) in (w ∷ rest.0, rest.1)

-- the values of one or more words, and whether the option stands behind them
unfoldable pub with_option : {A : Type 0} → List ℕ → (List ℕ → Option A) → List (List ℕ) → Option (List A × Bool)
with_option key f ws = do
  xs ← some_each f (option_in key ws).0
  Some (xs, (option_in key ws).1)

-- `none`: no communities
abbrev pub none_in : List (List ℕ) → Option CommunitySetting
none_in ws = do
  rest ← after (codes "none" ∷ []) ws
  when (length rest == 0) (record { communities = []; additive = false })

-- `C.. [additive]`, or `none`
unfoldable pub communities_in : List (List ℕ) → Option CommunitySetting
communities_in ws = first_some (none_in ws) (option_map (λ s. record { communities = s.0; additive = s.1 }) (with_option (codes "additive") community_word_in ws))

-- the value of a word that this one stands behind, and no more
abbrev pub followed_in : {A : Type 0} → List ℕ → (List ℕ → Option A) → List (List ℕ) → Option A
followed_in key f (w ∷ v ∷ []) = elim (bytes_eq v key) [ true ↦ f w | false ↦ None ]
followed_in key f _ = None

-- nothing, or `S`
abbrev pub target_in : List (List ℕ) → Option (Option ℕ)
target_in [] = Some None
target_in (w ∷ ws) = option_map (λ n. Some n) (only (number_in (2 ^ 64 - 1)) (w ∷ ws))

-- a line: its first words, and the value behind them
unfoldable pub line_of : {A : Type 0} → (A → MapLine) → List (List ℕ) → (List (List ℕ) → Option A) → List (List ℕ) → Option MapLine
line_of make ks f ws = option_map make (behind ks f ws)

-- a line that tests a prefix or a next hop
unfoldable pub match_prefix_in : List (List ℕ) → Option MapLine
match_prefix_in ws =
    first_some (line_of (λ lists. MatchPrefix (record { family = V4; lists = lists })) (codes "match" ∷ codes "ip" ∷ codes "address" ∷ codes "prefix-list" ∷ []) (some_each list_in) ws)
    (line_of (λ lists. MatchNextHop (record { family = V4; lists = lists })) (codes "match" ∷ codes "ip" ∷ codes "next-hop" ∷ codes "prefix-list" ∷ []) (some_each list_in) ws)

-- a line that tests
unfoldable pub match_line_in : List (List ℕ) → Option MapLine
match_line_in ws =
    first_some (match_prefix_in ws)
    (first_some (line_of (λ m. MatchCommunity (record { lists = m.0; exact = m.1 })) (codes "match" ∷ codes "community" ∷ []) (with_option (codes "exact-match") list_in) ws)
    (first_some (line_of (λ lists. MatchPath (record { lists = lists })) (codes "match" ∷ codes "as-path" ∷ []) (some_each (numbered_list_in 1 (2 ^ 64 - 1))) ws)
    (line_of (λ ns. MatchMetric ns) (codes "match" ∷ codes "metric" ∷ []) (some_each (number_in (2 ^ 32 - 1))) ws)))

-- a line that sets a number
unfoldable pub set_number_in : List (List ℕ) → Option MapLine
set_number_in ws =
    first_some (line_of (λ n. SetLocalPreference n) (codes "set" ∷ codes "local-preference" ∷ []) (only (number_in (2 ^ 32 - 1))) ws)
    (first_some (line_of (λ n. SetMetric n) (codes "set" ∷ codes "metric" ∷ []) (only (number_in (2 ^ 32 - 1))) ws)
    (line_of (λ n. SetWeight n) (codes "set" ∷ codes "weight" ∷ []) (only (number_in 65535)) ws))

-- a line that sets a single value
unfoldable pub set_value_in : List (List ℕ) → Option MapLine
set_value_in ws =
    first_some (set_number_in ws)
    (first_some (line_of (λ o. SetOrigin o) (codes "set" ∷ codes "origin" ∷ []) (only origin_in) ws)
    (line_of (λ a. SetNextHop a) (codes "set" ∷ codes "ip" ∷ codes "next-hop" ∷ []) (only address_in) ws))

-- a line that changes the path or the communities
unfoldable pub set_list_in : List (List ℕ) → Option MapLine
set_list_in ws =
    first_some (line_of (λ ns. SetPrepend ns) (codes "set" ∷ codes "as-path" ∷ codes "prepend" ∷ []) (some_each (number_in (2 ^ 32 - 1))) ws)
    (first_some (line_of (λ s. SetCommunity s) (codes "set" ∷ codes "community" ∷ []) communities_in ws)
    (line_of (λ list. DeleteCommunities list) (codes "set" ∷ codes "comm-list" ∷ []) (followed_in (codes "delete") list_in) ws))

-- a line that neither tests nor sets
unfoldable pub other_line_in : List (List ℕ) → Option MapLine
other_line_in ws =
    first_some (line_of (λ n. Continue n) (codes "continue" ∷ []) target_in ws)
    (line_of (λ rest. Description) (codes "description" ∷ []) (λ rest. Some rest) ws)

-- a line of an entry
unfoldable pub line_in : List (List ℕ) → Option MapLine
line_in ws = first_some (match_line_in ws) (first_some (set_value_in ws) (first_some (set_list_in ws) (other_line_in ws)))
