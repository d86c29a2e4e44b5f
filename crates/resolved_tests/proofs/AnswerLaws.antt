-- That answers are those of the tests behind what is pending.
use Rattle.std.proofs.Common.{◌≡◌, refl, sym, ap, subst, ◌∙◌, ℕ, Bool, true, false, ◌||◌, ◌++◌, List, [], ◌∷◌, Option, Some, None, map, nat_le, ◌==◌}
use Rattle.std.specs.List.{list_any}
use Rattle.route_types.specs.Route.{RouteParts}
use Rattle.route_types.specs.declared.community.Community.{Community}
use Rattle.route_types.specs.declared.community.CommChange.{CommChange}
use Rattle.community_sets.specs.Tests.{list_answers}
use Rattle.community_sets.specs.declared.list.CommList.{CommList}
use Rattle.community_cuts.specs.Earlier.{behind}
use Rattle.community_cuts.specs.Kept.{some_permits, ListsBefore}
use Rattle.path_patterns.specs.PathMatches.{path_matches}
use Rattle.path_suffixes.specs.Behind.{pattern_behind_all}
use Rattle.path_suffixes.proofs.BehindLaws.{matches_behind_all}
use Rattle.pending_changes.specs.Pending.{set_or, communities_behind, route_behind}
use Rattle.pending_changes.specs.declared.pending.Pending.{Pending}
use Rattle.core_nodes.specs.Atoms.{path_answers, same_origin, is_empty, atom_holds}
use Rattle.core_nodes.specs.declared.atom.PathEntry.{PathEntry}
use Rattle.core_nodes.specs.declared.atom.PathList.{PathList}
use Rattle.core_nodes.specs.declared.atom.Atom.{Atom}
use Rattle.core_nodes.specs.declared.atom.Atom.TheVariants.{Prefix, NextHop, Path, Community as Communities, MedOneOf, MedAtLeast, MedAtMost, LocalPreference, Origin as OriginIs, NoCommunity}
use Rattle.resolved_tests.specs.declared.answer.Answer.{Answer}
use Rattle.resolved_tests.specs.declared.answer.Answer.TheVariants.{Decided, Asked, Parted}
use Rattle.resolved_tests.specs.Decided.{has_none, DecidesLists}
use Rattle.resolved_tests.proofs.DecidedLaws.{added_there}
use Rattle.resolved_tests.specs.Answers.{answer_holds, answer_says, Resolves, of_set, decided_by, decided_or, entry_behind, lists_behind, empty_alone, SaysAs, LeavesLists}

-- ---- single values

-- a test of one value of a route, which may be set
by_value : {A : Type 0} (test : A → Bool) (value : Option A) (a : Atom) (old : RouteParts → A) → ((r : RouteParts) → atom_holds a r ≡ test (old r)) → (r : RouteParts) → answer_holds (decided_or (of_set test value) a) r ≡ test (set_or value (old r))
by_value test None a old is r = is r
by_value test (Some v) a old is r = refl

-- the tests of single values
abbrev pub IsOfValue : Atom → Type 0
IsOfValue (Prefix lists) = Unit {0}
IsOfValue (NextHop lists) = Unit {0}
IsOfValue (Path lists) = ⊥
IsOfValue (Communities lists) = ⊥
IsOfValue (MedOneOf numbers) = Unit {0}
IsOfValue (MedAtLeast n) = Unit {0}
IsOfValue (MedAtMost n) = Unit {0}
IsOfValue (LocalPreference n) = Unit {0}
IsOfValue (OriginIs o) = Unit {0}
IsOfValue NoCommunity = ⊥

value_holds : (p : Pending) (a : Atom) → IsOfValue a → (r : RouteParts) → answer_holds (decided_or (decided_by p a) a) r ≡ atom_holds a (route_behind p r)
value_holds p (Prefix lists) is r = refl
value_holds p (NextHop lists) is r = by_value (λ h. atom_holds (NextHop lists) (record r { next_hop = h })) p.next_hop (NextHop lists) (λ x. x.next_hop) (λ x. refl) r
value_holds p (Path lists) is r = absurd is
value_holds p (Communities lists) is r = absurd is
value_holds p (MedOneOf numbers) is r = by_value (λ m. list_any (λ n. m == n) numbers) p.med (MedOneOf numbers) (λ x. x.med) (λ x. refl) r
value_holds p (MedAtLeast n) is r = by_value (λ m. nat_le n m) p.med (MedAtLeast n) (λ x. x.med) (λ x. refl) r
value_holds p (MedAtMost n) is r = by_value (λ m. nat_le m n) p.med (MedAtMost n) (λ x. x.med) (λ x. refl) r
value_holds p (LocalPreference n) is r = by_value (λ m. m == n) p.local_preference (LocalPreference n) (λ x. x.local_preference) (λ x. refl) r
value_holds p (OriginIs o) is r = by_value (λ x. same_origin x o) p.origin (OriginIs o) (λ x. x.origin) (λ x. refl) r
value_holds p NoCommunity is r = absurd is

value_says : (on_atom : Atom → Bool) (o : Option Bool) (a : Atom) → on_atom a ≡ true → answer_says on_atom (decided_or o a) ≡ true
value_says on_atom None a h = h
value_says on_atom (Some b) a h = refl

-- a test of a single value is decided, or asked as it is
pub value_resolves : (p : Pending) (a : Atom) (answer : Answer) → IsOfValue a → answer ≡ decided_or (decided_by p a) a → Resolves p a answer
value_resolves p a answer is e = record {
  holds = λ r. ap (λ (x : Answer). answer_holds x r) e ∙ value_holds p a is r;
  said = λ on_atom apart h. ap (λ (x : Answer). answer_says on_atom x) e ∙ value_says on_atom (decided_by p a) a h;
}

-- ---- paths

entries_law : (ns : List ℕ) (es : List PathEntry) (path : List ℕ) → path_answers (map (λ e. entry_behind ns e) es) path ≡ path_answers es (ns ++ path)
unfolding path_answers
entries_law ns [] path = refl
entries_law ns (e ∷ es) path =
    ap (λ (b : Bool). elim b [ true ↦ e.permit | false ↦ path_answers (map (λ x. entry_behind ns x) es) path ]) (matches_behind_all ns e.pattern (pattern_behind_all ns e.pattern) refl path)
    ∙ ap (λ (b : Bool). elim (path_matches e.pattern (ns ++ path)) [ true ↦ e.permit | false ↦ b ]) (entries_law ns es path)

lists_law : (ns : List ℕ) (ls : List PathList) (path : List ℕ) → list_any (λ l. path_answers l.entries path) (lists_behind ns ls) ≡ list_any (λ l. path_answers l.entries (ns ++ path)) ls
lists_law ns [] path = refl
lists_law ns (l ∷ ls) path =
    ap (λ (b : Bool). b || list_any (λ x. path_answers x.entries path) (lists_behind ns ls)) (entries_law ns l.entries path)
    ∙ ap (λ (b : Bool). path_answers l.entries (ns ++ path) || b) (lists_law ns ls path)

entries_same : (es : List PathEntry) → map (λ e. entry_behind [] e) es ≡ es
unfolding pattern_behind_all
entries_same [] = refl
entries_same (e ∷ es) = ap (λ (xs : List PathEntry). e ∷ xs) (entries_same es)

-- behind no number lists are what they are
lists_same : (ls : List PathList) → lists_behind [] ls ≡ ls
lists_same [] = refl
lists_same (l ∷ ls) = λ i. record { entries = entries_same l.entries i } ∷ lists_same ls i

-- a path is asked for what is left behind the numbers before it
pub path_resolves : (p : Pending) (lists found : List PathList) → found ≡ lists_behind p.prepended lists → Resolves p (Path lists) (Asked (Path found))
path_resolves p lists found e = record {
  holds = λ r. ap (λ (ls : List PathList). list_any (λ l. path_answers l.entries r.path) ls) e ∙ lists_law p.prepended lists r.path;
  said = λ on_atom apart h. ap (λ (ls : List PathList). on_atom (Path ls)) (e ∙ ap (λ (ns : List ℕ). lists_behind ns lists) apart ∙ lists_same lists) ∙ h;
}

-- ---- communities

none_there : (o : Option CommChange) (change : CommChange) → o ≡ None → o ≡ Some change → ⊥
none_there o change e f = let clash : None ≡ Some change = sym e ∙ f in absurd (cc)

pub lists_unchanged : (p : Pending) (lists found : List CommList) → p.communities ≡ None → found ≡ lists → Resolves p (Communities lists) (Asked (Communities found))
lists_unchanged p lists found none e = record {
  holds = λ r. ap (λ (ls : List CommList). some_permits ls r.communities) e ∙ ap (λ (o : Option CommChange). some_permits lists (communities_behind o r.communities)) (sym none);
  said = λ on_atom apart h. ap (λ (ls : List CommList). on_atom (Communities ls)) e ∙ h;
}

pub lists_changed : (p : Pending) (lists : List CommList) (change : CommChange) (answer : Answer) → p.communities ≡ Some change → LeavesLists answer lists change → Resolves p (Communities lists) answer
lists_changed p lists change answer is l = record {
  holds = λ r. l.holds r ∙ ap (λ (o : Option CommChange). some_permits lists (communities_behind o r.communities)) (sym is);
  said = λ on_atom apart h. absurd (none_there p.communities change apart is);
}

pub lists_asked : (lists found : List CommList) (change : CommChange) (answer : Answer) → ListsBefore found lists change → SaysAs answer found → LeavesLists answer lists change
lists_asked lists found change answer before s = record { holds = λ r. s.says r ∙ before.permits r.communities }

pub lists_decided : (lists : List CommList) (o : Option Bool) (b : Bool) → o ≡ Some b → DecidesLists o lists → SaysAs (Decided b) lists
lists_decided lists o b e h =
    let all : (set : List Community) → some_permits lists set ≡ b = subst (λ (x : Option Bool). DecidesLists x lists) e h in
    record { says = λ r. sym (all r.communities) }

pub lists_themselves : (lists : List CommList) → SaysAs (Asked (Communities lists)) lists
lists_themselves lists = record { says = λ r. refl }

pub lists_parted : (lists copied : List CommList) (change same : CommChange) → copied ≡ lists → same ≡ change → LeavesLists (Parted (record { lists = copied; change = same })) lists change
lists_parted lists copied change same e f = record {
  holds = λ r. ap (λ (ls : List CommList). some_permits ls (behind same r.communities)) e ∙ ap (λ (c : CommChange). some_permits lists (behind c r.communities)) f;
}

-- the empty set alone is permitted where there is no community
empty_permitted : (set : List Community) → some_permits (empty_alone ∷ []) set ≡ is_empty set
unfolding list_answers
empty_permitted [] = refl
empty_permitted (c ∷ cs) = refl

pub none_unchanged : (p : Pending) → p.communities ≡ None → Resolves p NoCommunity (Asked NoCommunity)
none_unchanged p none = record { holds = λ r. ap (λ (o : Option CommChange). is_empty (communities_behind o r.communities)) (sym none); said = λ on_atom apart h. h }

pub none_changed : (p : Pending) (change : CommChange) (answer : Answer) → p.communities ≡ Some change → LeavesLists answer (empty_alone ∷ []) change → Resolves p NoCommunity answer
none_changed p change answer is l = record {
  holds = λ r. l.holds r ∙ empty_permitted (behind change r.communities) ∙ ap (λ (o : Option CommChange). is_empty (communities_behind o r.communities)) (sym is);
  said = λ on_atom apart h. absurd (none_there p.communities change apart is);
}

-- behind a change that adds a community there is one
pub none_left : (change : CommChange) → has_none change.added ≡ false → LeavesLists (Decided false) (empty_alone ∷ []) change
none_left change e = record { holds = λ r. sym (empty_permitted (behind change r.communities) ∙ added_there change r.communities e) }
