-- What a test of a route behind pending changes asks of the route as it arrives (Cisco IOS command reference,
-- 'route-map'; Junos OS Routing Policies User Guide, 'Routing Policy Match Conditions').
use Rattle.std.specs.Prelude.{◌≡◌, ℕ, Bool, nat_le, ◌==◌, List, [], ◌∷◌, map, true, false, Option, Some, None}
use Rattle.std.specs.List.{list_any}
use Rattle.route_types.specs.Route.{RouteParts}
use Rattle.route_types.specs.declared.community.CommChange.{CommChange}
use Rattle.prefix_sets.specs.FirstMatch.{hop_match}
use Rattle.community_sets.specs.declared.list.CommList.{CommList}
use Rattle.community_sets.specs.declared.list.CommTest.TheVariants.{Exactly}
use Rattle.community_cuts.specs.Earlier.{behind}
use Rattle.community_cuts.specs.Kept.{some_permits}
use Rattle.path_suffixes.specs.Behind.{pattern_behind_all}
use Rattle.pending_changes.specs.Pending.{route_behind}
use Rattle.pending_changes.specs.declared.pending.Pending.{Pending}
use Rattle.core_nodes.specs.Atoms.{same_origin, atom_holds}
use Rattle.core_nodes.specs.declared.atom.PathEntry.{PathEntry}
use Rattle.core_nodes.specs.declared.atom.PathList.{PathList}
use Rattle.core_nodes.specs.declared.atom.Atom.{Atom}
use Rattle.core_nodes.specs.declared.atom.Atom.TheVariants.{Prefix, NextHop, Path, Community as Communities, MedOneOf, MedAtLeast, MedAtMost, LocalPreference, Origin as OriginIs, NoCommunity}
use Rattle.resolved_tests.specs.declared.answer.Answer.{Answer}
use Rattle.resolved_tests.specs.declared.answer.Answer.TheVariants.{Decided, Asked, Parted}

-- ---- what an answer says

-- the answer on the arriving route
abbrev pub answer_holds : Answer → RouteParts → Bool
answer_holds (Decided b) r = b
answer_holds (Asked a) r = atom_holds a r
answer_holds (Parted l) r = some_permits l.lists (behind l.change r.communities)

-- what is asked, if anything is, passes; what no one test can say does not
abbrev pub answer_says : (Atom → Bool) → Answer → Bool
answer_says on_atom (Decided b) = true
answer_says on_atom (Asked a) = on_atom a
answer_says on_atom (Parted l) = false

-- nothing is pending for the path or the communities, if the test asks for them
abbrev pub IsApart : Pending → Atom → Type 0
IsApart p (Prefix lists) = Unit {0}
IsApart p (NextHop lists) = Unit {0}
IsApart p (Path lists) = p.prepended ≡ []
IsApart p (Communities lists) = p.communities ≡ None
IsApart p (MedOneOf numbers) = Unit {0}
IsApart p (MedAtLeast n) = Unit {0}
IsApart p (MedAtMost n) = Unit {0}
IsApart p (LocalPreference n) = Unit {0}
IsApart p (OriginIs o) = Unit {0}
IsApart p NoCommunity = p.communities ≡ None

-- the answer to a test behind what is pending
pub record Resolves (p : Pending) (a : Atom) (answer : Answer) : Type 0 where
  -- on each arriving route it is that of the test
  pub holds : (r : RouteParts) → answer_holds answer r ≡ atom_holds a (route_behind p r)
  -- it asks for no more than the test, where nothing that the test asks for is pending but single values
  pub said : (on_atom : Atom → Bool) → IsApart p a → on_atom a ≡ true → answer_says on_atom answer ≡ true

-- ---- tests of single values

-- the test of a value, if it is set
abbrev pub of_set : {A : Type 0} → (A → Bool) → Option A → Option Bool
of_set test None = None
of_set test (Some value) = Some (test value)

-- the answer to the test of a value that is set, whatever the route; none where it isn't, and to other tests
abbrev pub decided_by : Pending → Atom → Option Bool
decided_by p (Prefix lists) = None
decided_by p (NextHop lists) = of_set (λ h. list_any (λ l. hop_match l.entries h) lists) p.next_hop
decided_by p (Path lists) = None
decided_by p (Communities lists) = None
decided_by p (MedOneOf numbers) = of_set (λ m. list_any (λ n. m == n) numbers) p.med
decided_by p (MedAtLeast n) = of_set (λ m. nat_le n m) p.med
decided_by p (MedAtMost n) = of_set (λ m. nat_le m n) p.med
decided_by p (LocalPreference n) = of_set (λ m. m == n) p.local_preference
decided_by p (OriginIs o) = of_set (λ x. same_origin x o) p.origin
decided_by p NoCommunity = None

-- what is decided, else the test itself
abbrev pub decided_or : Option Bool → Atom → Answer
decided_or None a = Asked a
decided_or (Some b) a = Decided b

-- ---- tests of the path

-- path lists behind numbers that are put before the path
abbrev pub entry_behind : List ℕ → PathEntry → PathEntry
entry_behind numbers e = record { permit = e.permit; pattern = pattern_behind_all numbers e.pattern }

abbrev pub list_behind : List ℕ → PathList → PathList
list_behind numbers l = record { entries = map (λ e. entry_behind numbers e) l.entries }

abbrev pub lists_behind : List ℕ → List PathList → List PathList
lists_behind numbers lists = map (λ l. list_behind numbers l) lists

-- ---- tests of communities

-- the list that permits the empty set alone
abbrev pub empty_alone : CommList
empty_alone = record { entries = record { permit = true; test = Exactly [] } ∷ [] }

-- the answer is that of the lists
pub record SaysAs (answer : Answer) (lists : List CommList) : Type 0 where
  pub says : (r : RouteParts) → answer_holds answer r ≡ some_permits lists r.communities

-- the answer is that of the lists behind the change
pub record LeavesLists (answer : Answer) (lists : List CommList) (change : CommChange) : Type 0 where
  pub holds : (r : RouteParts) → answer_holds answer r ≡ some_permits lists (behind change r.communities)
