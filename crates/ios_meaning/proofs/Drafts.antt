-- A draft behind lines makes the route that the lines make of the draft's route.
use Rattle.std.proofs.Common.{◌≡◌, refl, sym, ap, ◌∙◌, ℕ, Bool, true, false, not, List, [], ◌∷◌, ◌++◌}
use Rattle.std.specs.Prelude.{filter, bytes_eq}
use Rattle.route_types.specs.Address.{PrefixParts}
use Rattle.route_types.specs.Community.{number, set_of}
use Rattle.route_types.specs.Route.{RouteParts}
use Rattle.route_types.specs.declared.community.Community.{Community}
use Rattle.route_types.proofs.Sets.{same_community, set_kept}
use Rattle.route_drafts.specs.Drafts.{route_of}
use Rattle.route_drafts.specs.declared.draft.Draft.{Draft}
use Rattle.route_drafts.proofs.Drafts.{prepended, set}
use Rattle.community_sets.specs.Tests.{test_holds, list_answers}
use Rattle.community_sets.specs.declared.list.CommEntry.{CommEntry}
use Rattle.ios_reader.specs.Entries.{Entry}
use Rattle.ios_tree.specs.declared.item.CommunityListEntry.{CommunityListEntry}
use Rattle.ios_tree.specs.declared.item.IosForm.{IosForm}
use Rattle.ios_tree.specs.declared.item.IosForm.TheVariants.{CommunityEntry as OfCommunityList}
use Rattle.ios_tree.specs.declared.item.IosItem.{IosItem}
use Rattle.ios_tree.specs.declared.item.MapLine.{MapLine}
use Rattle.ios_tree.specs.declared.item.MapLine.TheVariants.{MatchPrefix, MatchNextHop, MatchCommunity, MatchPath, MatchMetric, SetLocalPreference, SetMetric, SetWeight, SetPrepend, SetOrigin, SetNextHop, SetCommunity, DeleteCommunities, Continue, Description}
use Rattle.ios_meaning.specs.Lists.{test_of, community_list, community_entry_from}
use Rattle.ios_meaning.specs.Meaning.{deletes, set_by, set_by_lines, set_by_entry, set_by_entries}
use Rattle.ios_meaning.specs.Drafts.{entries_named, entry_named, entries_at, answers_alone, Removes, removes_by, draft_by, draft_by_lines, deletes_as, draft_by_entry, draft_by_entries}
use Rattle.ios_meaning.proofs.Alike.{filter_alike}
use Rattle.ios_meaning.proofs.Maps.{Lists}

-- ---- lists

entry_answers : (list : List ℕ) (e : CommunityListEntry) (es : List CommunityListEntry) (fs : List CommEntry) (c : Community) (b : Bool) → answers_alone es c ≡ list_answers fs (c ∷ [])
    → answers_alone (elim b [ true ↦ e ∷ es | false ↦ es ]) c ≡ list_answers (elim b [ true ↦ record { permit = e.permit; test = test_of false e.shape } ∷ fs | false ↦ fs ]) (c ∷ [])
unfolding list_answers
entry_answers list e es fs c true more = ap (λ (r : Bool). elim (test_holds (test_of false e.shape) (c ∷ [])) [ true ↦ e.permit | false ↦ r ]) more
entry_answers list e es fs c false more = more

form_answers : (list : List ℕ) (form : IosForm) (es : List CommunityListEntry) (fs : List CommEntry) (c : Community) → answers_alone es c ≡ list_answers fs (c ∷ [])
    → answers_alone (entry_named list form es) c ≡ list_answers (community_entry_from false list form fs) (c ∷ [])
form_answers list (OfCommunityList e) es fs c more = entry_answers list e es fs c (bytes_eq list e.list) more
form_answers list _ es fs c more = more

-- entries answer on a community alone as the list does
pub same_answers : (list : List ℕ) (all : List IosItem) (c : Community) → answers_alone (entries_named list all) c ≡ list_answers (community_list false list all) (c ∷ [])
unfolding list_answers
same_answers list [] c = refl
same_answers list (i ∷ is) c = form_answers list i.form (entries_named list is) (community_list false list is) c (same_answers list is c)

-- ---- lines

-- the lists take away what the lists of the tree answer yes on
abbrev Right : Removes → List IosItem → Type 0
Right removes all = (list : List ℕ) (c : Community) → removes list c ≡ list_answers (community_list false list all) (c ∷ [])

by_line : (removes : Removes) (all : List IosItem) → Right removes all → (p : PrefixParts) (l : MapLine) (d : Draft) → route_of p (draft_by removes l d) ≡ set_by all l (route_of p d)
by_line removes all right p (MatchPrefix m) d = refl
by_line removes all right p (MatchNextHop m) d = refl
by_line removes all right p (MatchCommunity m) d = refl
by_line removes all right p (MatchPath m) d = refl
by_line removes all right p (MatchMetric ns) d = refl
by_line removes all right p (SetLocalPreference n) d = refl
by_line removes all right p (SetMetric n) d = refl
by_line removes all right p (SetWeight n) d = refl
by_line removes all right p (SetPrepend ns) d = prepended d (draft_by removes (SetPrepend ns) d) ns refl p
by_line removes all right p (SetOrigin o) d = refl
by_line removes all right p (SetNextHop a) d = refl
by_line removes all right p (SetCommunity s) d = set d (draft_by removes (SetCommunity s) d) s.additive s.communities refl p
by_line removes all right p (DeleteCommunities list) d =
    ap (λ (cs : List Community). record (route_of p d) { communities = cs })
    (set_kept number same_community (λ c. not (removes list c)) d.communities
    ∙ filter_alike (λ c. not (removes list c)) (λ c. not (list_answers (community_list false list all) (c ∷ []))) (λ c. ap not (right list c)) (set_of d.communities))
by_line removes all right p (Continue s) d = refl
by_line removes all right p Description d = refl

by_lines : (removes : Removes) (all : List IosItem) → Right removes all → (p : PrefixParts) (ls : List MapLine) (d : Draft) → route_of p (draft_by_lines removes ls d) ≡ set_by_lines all ls (route_of p d)
by_lines removes all right p [] d = refl
by_lines removes all right p (l ∷ ls) d = by_lines removes all right p ls (draft_by removes l d) ∙ ap (λ (r : RouteParts). set_by_lines all ls r) (by_line removes all right p l d)

by_entry : (removes : Removes) (all : List IosItem) → Right removes all → (p : PrefixParts) (e : Entry) (d : Draft) → route_of p (draft_by_entry removes e d) ≡ set_by_entry all e (route_of p d)
by_entry removes all right p e d =
    by_lines removes all right p (filter (deletes_as false) e.lines) (draft_by_lines removes (filter (deletes_as true) e.lines) d)
    ∙ ap (λ (r : RouteParts). set_by_lines all (filter (λ l. not (deletes l)) e.lines) r) (by_lines removes all right p (filter (deletes_as true) e.lines) d)

by_entries : (removes : Removes) (all : List IosItem) → Right removes all → (p : PrefixParts) (es : List Entry) (d : Draft) → route_of p (draft_by_entries removes es d) ≡ set_by_entries all es (route_of p d)
by_entries removes all right p [] d = refl
by_entries removes all right p (e ∷ es) d = by_entries removes all right p es (draft_by_entry removes e d) ∙ ap (λ (r : RouteParts). set_by_entries all es r) (by_entry removes all right p e d)

-- ---- routes

-- the route of the draft behind entries is what the entries make of the route
pub changed_route : (all : List IosItem) (m : Lists) (es : List Entry) (r : RouteParts) (d behind : Draft) (p : PrefixParts) (out : RouteParts) → ((list : List ℕ) → entries_at m list ≡ entries_named list all) → p ≡ r.prefix → route_of r.prefix d ≡ r
    → behind ≡ draft_by_entries (removes_by m) es d → out ≡ route_of p behind → out ≡ set_by_entries all es r
changed_route all m es r d behind p out lists here start run made =
    made ∙ ap (λ (q : PrefixParts). route_of q behind) here ∙ ap (λ (x : Draft). route_of r.prefix x) run
    ∙ by_entries (removes_by m) all (λ list c. ap (λ (fs : List CommunityListEntry). answers_alone fs c) (lists list) ∙ same_answers list all c) r.prefix es d
    ∙ ap (λ (x : RouteParts). set_by_entries all es x) start
