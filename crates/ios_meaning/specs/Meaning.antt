-- The meaning of an IOS policy on a route (Cisco IOS IP Routing: Protocol-Independent command reference,
-- 'route-map' and 'continue'; BGP command reference, 'match community', 'set community', 'set comm-list
-- delete', 'set as-path prepend'). That the last matching entry decides where `continue` is used, that a run
-- past the last entry accepts after a match, and that all tests read the arriving route, is this project's own.
use Rattle.std.specs.Prelude.{ℕ, Bool, true, false, ◌&&◌, not, ◌==◌, nat_le, List, [], ◌∷◌, ◌++◌, Option, Some, None, filter}
use Rattle.std.specs.List.{list_any, list_all}
use Rattle.route_types.specs.Address.{width}
use Rattle.route_types.specs.Community.{set_of}
use Rattle.route_types.specs.Route.{RouteParts}
use Rattle.route_types.specs.Change.{changed}
use Rattle.route_types.specs.declared.address.Family.{Family}
use Rattle.route_types.specs.declared.change.Change.TheVariants.{NextHop, Origin, LocalPreference, Med, Weight}
use Rattle.route_types.specs.declared.route.NextHop.{NextHop as Hop}
use Rattle.route_types.specs.declared.route.NextHop.TheVariants.{At, Own}
use Rattle.route_types.specs.declared.route.Outcome.{Outcome}
use Rattle.route_types.specs.declared.route.Outcome.TheVariants.{Reject, Accept}
use Rattle.prefix_sets.specs.FirstMatch.{first_match}
use Rattle.community_sets.specs.Tests.{list_answers}
use Rattle.ios_reader.specs.Entries.{Entry, entries_of}
use Rattle.ios_reader.specs.Profile.{PolicyParts}
use Rattle.ios_tree.specs.declared.item.IosItem.{IosItem}
use Rattle.ios_tree.specs.declared.item.MapLine.{MapLine}
use Rattle.ios_tree.specs.declared.item.MapLine.TheVariants.{MatchPrefix, MatchNextHop, MatchCommunity, MatchPath, MatchMetric, SetLocalPreference, SetMetric, SetWeight, SetPrepend, SetOrigin, SetNextHop, SetCommunity, DeleteCommunities, Continue}
use Rattle.ios_meaning.specs.Order.{in_order}
use Rattle.ios_meaning.specs.Lists.{prefix_list, community_list, path_list, path_answers}

-- some prefix list of the family holds a next hop's address, taken as a prefix of full length; the router's
-- own address is in none
abbrev pub next_hop_holds : List IosItem → Family → List (List ℕ) → Hop → Bool
next_hop_holds all family lists (At a) = list_any (λ list. first_match (prefix_list family list all) (record { address = a; length = width a.family })) lists
next_hop_holds all family lists Own = false

-- a line holds: some list, or number, that it names answers yes; a line that tests nothing holds
abbrev pub line_holds : List IosItem → RouteParts → MapLine → Bool
line_holds all r (MatchPrefix m) = list_any (λ list. first_match (prefix_list m.family list all) r.prefix) m.lists
line_holds all r (MatchNextHop m) = next_hop_holds all m.family m.lists r.next_hop
line_holds all r (MatchCommunity m) = list_any (λ list. list_answers (community_list m.exact list all) r.communities) m.lists
line_holds all r (MatchPath m) = list_any (λ list. path_answers (path_list list all) r.path) m.lists
line_holds all r (MatchMetric ns) = list_any (λ n. n == r.med) ns
line_holds all r _ = true

-- an entry holds where all its lines do
abbrev pub entry_holds : List IosItem → RouteParts → Entry → Bool
entry_holds all r e = list_all (line_holds all r) e.lines

-- what a set line makes of a route
abbrev pub set_by : List IosItem → MapLine → RouteParts → RouteParts
set_by all (SetLocalPreference n) r = changed (LocalPreference n) r
set_by all (SetMetric n) r = changed (Med n) r
set_by all (SetWeight n) r = changed (Weight n) r
set_by all (SetPrepend ns) r = record r { path = ns ++ r.path }
set_by all (SetOrigin o) r = changed (Origin o) r
set_by all (SetNextHop a) r = changed (NextHop (At a)) r
set_by all (SetCommunity s) r = record r { communities = set_of (elim s.additive [ true ↦ r.communities | false ↦ [] ] ++ s.communities) }
set_by all (DeleteCommunities list) r = record r { communities = filter (λ c. not (list_answers (community_list false list all) (c ∷ []))) r.communities }
set_by all _ r = r

-- what lines make of a route, one after the other
abbrev pub set_by_lines : List IosItem → List MapLine → RouteParts → RouteParts
set_by_lines all [] r = r
set_by_lines all (l ∷ ls) r = set_by_lines all ls (set_by all l r)

-- a `set comm-list` line
abbrev pub deletes : MapLine → Bool
deletes (DeleteCommunities list) = true
deletes _ = false

-- what an entry makes of a route: the deletion of communities comes before all else that it sets
abbrev pub set_by_entry : List IosItem → Entry → RouteParts → RouteParts
set_by_entry all e r = set_by_lines all (filter (λ l. not (deletes l)) e.lines) (set_by_lines all (filter deletes e.lines) r)

-- what entries make of a route, in the order in which they held
abbrev pub set_by_entries : List IosItem → List Entry → RouteParts → RouteParts
set_by_entries all [] r = r
set_by_entries all (e ∷ es) r = set_by_entries all es (set_by_entry all e r)

-- where a line says that the run goes on, or else the lines behind it
abbrev pub continuation_in : MapLine → Option (Option ℕ) → Option (Option ℕ)
continuation_in (Continue s) rest = Some s
continuation_in _ rest = rest

-- where the run goes on behind an entry: nowhere, at the next entry, or at the one of a number
abbrev pub continuation_of : List MapLine → Option (Option ℕ)
continuation_of [] = None
continuation_of (l ∷ ls) = continuation_in l (continuation_of ls)

-- past the last entry the run accepts where some entry held
abbrev pub at_end : List IosItem → RouteParts → List Entry → Outcome
at_end all r [] = Reject
at_end all r (e ∷ es) = Accept (set_by_entries all (e ∷ es) r)

-- the run over the remaining entries, in order of their numbers, those below `least` being passed over;
-- `held` are the entries that held so far. All tests read the arriving route.
unfoldable pub run : List IosItem → RouteParts → ℕ → List Entry → List Entry → Outcome
run all r least held [] = at_end all r held
run all r least held (e ∷ es) = elim (nat_le least e.number && entry_holds all r e) [
  | false ↦ run all r least held es
  | true ↦ elim e.permit [
    | false ↦ Reject
    | true ↦ elim (continuation_of e.lines) [
      | None ↦ Accept (set_by_entries all (held ++ e ∷ []) r)
      | Some target ↦ elim target [
        | None ↦ run all r least (held ++ e ∷ []) es
        | Some s ↦ run all r s (held ++ e ∷ []) es
      ]
    ]
  ]
]

-- the meaning of the policy of this name in a tree, on a route
unfoldable pub ios_meaning : List IosItem → List ℕ → RouteParts → Outcome
ios_meaning all name r = run all r 0 [] (in_order (λ e. e.number) (entries_of name all))

-- the first of the names
abbrev pub first_name : List (List ℕ) → List ℕ
first_name [] = []
first_name (name ∷ names) = name

-- the name that a policy stands under: it has one
abbrev pub name_of : PolicyParts → List ℕ
name_of p = first_name p.names
