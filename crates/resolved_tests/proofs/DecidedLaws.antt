-- Lists whose first entries ask for nothing answer alike on every set.
use Rattle.std.proofs.Common.{◌≡◌, refl, sym, ap, ◌∙◌, Bool, true, false, ◌||◌, List, [], ◌∷◌, true≢false}
use Rattle.std.specs.Prelude.{not}
use Rattle.std.specs.List.{list_any, list_all}
use Rattle.std.proofs.lemmas.Bool.{and_parts}
use Rattle.route_types.specs.declared.community.Community.{Community}
use Rattle.route_types.specs.declared.community.CommChange.{CommChange}
use Rattle.community_sets.specs.Tests.{test_holds, list_answers}
use Rattle.community_sets.specs.declared.list.CommTest.{CommTest}
use Rattle.community_sets.specs.declared.list.CommTest.TheVariants.{AllOf, Exactly}
use Rattle.community_sets.specs.declared.list.CommEntry.{CommEntry}
use Rattle.community_sets.specs.declared.list.CommList.{CommList}
use Rattle.community_cuts.specs.Earlier.{behind}
use Rattle.community_cuts.specs.Kept.{some_permits}
use Rattle.community_cuts.proofs.FittedAfter.{any_behind}
use Rattle.core_nodes.specs.Atoms.{is_empty}
use Rattle.resolved_tests.specs.Decided.{has_none, asks_nothing, permits_each, denies_each}

nothing_asked : (test : CommTest) (set : List Community) → asks_nothing test ≡ true → test_holds test set ≡ true
nothing_asked (AllOf []) set e = refl
nothing_asked (AllOf (r ∷ rs)) set e = absurd (true≢false (sym e))
nothing_asked (Exactly members) set e = absurd (true≢false (sym e))

entry_decides : (e : CommEntry) (es : List CommEntry) (set : List Community) → asks_nothing e.test ≡ true → list_answers (e ∷ es) set ≡ e.permit
unfolding list_answers
entry_decides e es set h = ap (λ (b : Bool). elim b [ true ↦ e.permit | false ↦ list_answers es set ]) (nothing_asked e.test set h)

entries_permit : (es : List CommEntry) (set : List Community) → permits_each es ≡ true → list_answers es set ≡ true
entries_permit [] set h = absurd (true≢false (sym h))
entries_permit (e ∷ es) set h = let both = and_parts (asks_nothing e.test) e.permit h in entry_decides e es set both.0 ∙ both.1

turned : (b : Bool) → not b ≡ true → b ≡ false
turned true e = absurd (true≢false (sym e))
turned false e = refl

entries_deny : (es : List CommEntry) (set : List Community) → denies_each es ≡ true → list_answers es set ≡ false
unfolding list_answers
entries_deny [] set h = refl
entries_deny (e ∷ es) set h = let both = and_parts (asks_nothing e.test) (not e.permit) h in entry_decides e es set both.0 ∙ turned e.permit both.1

first_permits : (l : CommList) (ls : List CommList) (set : List Community) (b : Bool) → permits_each l.entries ≡ b → (b || list_any (λ x. permits_each x.entries) ls) ≡ true
    → (list_any (λ x. permits_each x.entries) ls ≡ true → some_permits ls set ≡ true) → (list_answers l.entries set || some_permits ls set) ≡ true
first_permits l ls set true e h rest = ap (λ (b : Bool). b || some_permits ls set) (entries_permit l.entries set e)
first_permits l ls set false e h rest = ap (λ (b : Bool). list_answers l.entries set || b) (rest h) ∙ or_true (list_answers l.entries set)
  where
    or_true : (b : Bool) → (b || true) ≡ true
    or_true true = refl
    or_true false = refl

pub some_permits_each : (ls : List CommList) (b : Bool) → b ≡ list_any (λ l. permits_each l.entries) ls → b ≡ true → (set : List Community) → some_permits ls set ≡ true
some_permits_each [] b is e set = absurd (true≢false (sym e ∙ is))
some_permits_each (l ∷ ls) b is e set =
    first_permits l ls set (permits_each l.entries) refl (sym is ∙ e) (λ h. some_permits_each ls (list_any (λ x. permits_each x.entries) ls) refl h set)

pub all_deny_each : (ls : List CommList) (b : Bool) → b ≡ list_all (λ l. denies_each l.entries) ls → b ≡ true → (set : List Community) → some_permits ls set ≡ false
all_deny_each [] b is e set = refl
all_deny_each (l ∷ ls) b is e set =
    let both = and_parts (denies_each l.entries) (list_all (λ x. denies_each x.entries) ls) (sym is ∙ e) in
    ap (λ (x : Bool). x || some_permits ls set) (entries_deny l.entries set both.0) ∙ all_deny_each ls (list_all (λ x. denies_each x.entries) ls) refl both.1 set

-- ---- a set that something is added to

empty_by : (set : List Community) → is_empty set ≡ not (list_any (λ c. true) set)
empty_by [] = refl
empty_by (c ∷ cs) = refl

some_there : (cs : List Community) → has_none cs ≡ false → list_any (λ c. true) cs ≡ true
some_there [] e = absurd (true≢false e)
some_there (c ∷ cs) e = refl

or_held : (a b : Bool) → b ≡ true → (a || b) ≡ true
or_held true b e = refl
or_held false b e = e

pub added_there : (change : CommChange) (set : List Community) → has_none change.added ≡ false → is_empty (behind change set) ≡ false
added_there change set e =
    empty_by (behind change set)
    ∙ ap not (any_behind (λ c. true) change set ∙ or_held _ (list_any (λ (c : Community). true) change.added) (some_there change.added e))
