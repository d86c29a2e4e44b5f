-- What is used is defined, under the name that it is used by.
use Rattle.std.proofs.Common.{◌≡◌, refl, ap, ◌∙◌, ℕ, suc, ◌+◌, Bool, true, false, not, List, [], ◌∷◌, ◌++◌, length, map, Some, option_map, zero, arith}
use Rattle.std.specs.Prelude.{slice_get}
use Rattle.std.specs.List.{flat_map, AllByRecursion}
use Rattle.route_types.specs.Community.{RectParts}
use Rattle.junos_plans.specs.declared.condition.PlannedCondition.{PlannedCondition}
use Rattle.junos_plans.specs.declared.condition.PlannedEntry.{PlannedEntry}
use Rattle.junos_plans.specs.declared.condition.PlannedList.{PlannedList}
use Rattle.junos_plans.specs.declared.condition.PlannedTest.{PlannedTest}
use Rattle.junos_plans.specs.declared.condition.PlannedTest.TheVariants.{Asked, Listed}
use Rattle.junos_plans.specs.declared.step.PlannedLiteral.{PlannedLiteral}
use Rattle.junos_plans.specs.declared.step.PlannedStep.{PlannedStep}
use Rattle.junos_layout.specs.Uses.{texts_in, sets_in, changed_sets, test_conditions, test_calls, literal_conditions, literal_calls, one_call, guard_calls, NamesPath, NamesSet, NamesCall, NamesCondition, NamesInSubroutine, NamesInStep, NamesDefinitions}
use Rattle.junos_layout.specs.Writing.{Subroutine, OfList, Unless, AllOf}
use Rattle.junos_policies.specs.Noting.{noted_all}
use Rattle.junos_policies.specs.Parts.{PartsList, is_by_lists, step_guards, guards_in, guards_of, test_lists, guard_lists, wanted_tests, tests_of, unwanted_lists, lists_of, in_test, in_literal, named_by, parts_of, definitions, written_by, place_of}
use Rattle.junos_policies.specs.Same.{same_text, same_members, same_list, same_test, same_guard}
use Rattle.junos_policies.proofs.Every.{front, both, each}
use Rattle.junos_policies.proofs.Found.{Has, place_found, all_there, all_still}
use Rattle.junos_policies.proofs.Same as one

-- ---- places

at_front : {A : Type 0} (xs ys : List A) (n : ℕ) (x : A) → slice_get xs n ≡ Some x → slice_get (xs ++ ys) n ≡ Some x
at_front [] ys n x e = absurd cc
at_front (y ∷ xs) ys zero x e = e
at_front (y ∷ xs) ys (suc n) x e = at_front xs ys n x e

at_behind : {A B : Type 0} (f : A → B) (xs : List A) (ys : List B) (n : ℕ) (y : B) → slice_get ys n ≡ Some y → slice_get (map f xs ++ ys) (length xs + n) ≡ Some y
at_behind f [] ys n y e = let same : 0 + n ≡ n = omega arith in ap (λ m. slice_get ys m) same ∙ e
at_behind f (x ∷ xs) ys n y e =
    let same : length (x ∷ xs) + n ≡ suc (length xs + n) = omega arith in
    ap (λ m. slice_get (f x ∷ (map f xs ++ ys)) m) same ∙ at_behind f xs ys n y e

at_mapped : {A B : Type 0} (f : A → B) (xs : List A) (n : ℕ) (x : A) → slice_get xs n ≡ Some x → slice_get (map f xs) n ≡ Some (f x)
at_mapped f [] n x e = absurd cc
at_mapped f (y ∷ xs) zero x e = ap (λ o. option_map f o) e
at_mapped f (y ∷ xs) (suc n) x e = at_mapped f xs n x e

-- ---- each sort

module _ (name : List ℕ) (p : PartsList) where
  path_named : (x : List ℕ) → Has same_text one.texts one.text_itself p.paths x → NamesPath name (definitions p) (written_by name p) x
  unfolding written_by
  path_named x h = (_, place_found same_text one.texts one.text_itself p.paths x h, refl)

  set_named : (x : List RectParts) → Has same_members one.members one.members_itself p.communities x → NamesSet name (definitions p) (written_by name p) x
  unfolding written_by
  set_named x h = (_, place_found same_members one.members one.members_itself p.communities x h, refl)

  list_named : (l : PlannedList) → Has same_list one.lists one.list_itself p.lists l → NamesCall name (definitions p) (written_by name p) (OfList l)
  unfolding written_by
  list_named l h = (place_of p (OfList l), at_front (map (λ x. OfList x) p.lists) _ _ _ (at_mapped (λ x. OfList x) p.lists _ l (place_found same_list one.lists one.list_itself p.lists l h)), refl)

  test_named : (t : PlannedTest) → Has same_test one.tests one.test_itself p.tests t → NamesCall name (definitions p) (written_by name p) (Unless t)
  unfolding written_by
  test_named t h =
      let found = at_front (map (λ x. Unless x) p.tests) (map (λ x. AllOf x) p.guards) _ _ (at_mapped (λ x. Unless x) p.tests _ t (place_found same_test one.tests one.test_itself p.tests t h)) in
      (place_of p (Unless t), at_behind (λ x. OfList x) p.lists (map (λ x. Unless x) p.tests ++ map (λ x. AllOf x) p.guards) _ _ found, refl)

  guard_named : (g : List PlannedLiteral) → Has same_guard one.guards one.guard_itself p.guards g → NamesCall name (definitions p) (written_by name p) (AllOf g)
  unfolding written_by
  guard_named g h =
      let found = at_behind (λ x. Unless x) p.tests (map (λ x. AllOf x) p.guards) _ _ (at_mapped (λ x. AllOf x) p.guards _ g (place_found same_guard one.guards one.guard_itself p.guards g h)) in
      (place_of p (AllOf g), at_behind (λ x. OfList x) p.lists (map (λ x. Unless x) p.tests ++ map (λ x. AllOf x) p.guards) _ _ found, refl)

  -- ---- what conditions name

  abbrev Named : PlannedCondition → Type 0
  Named c = NamesCondition name (definitions p) (written_by name p) c

  abbrev Texts : List (List ℕ) → Type 0
  Texts xs = AllByRecursion (Has same_text one.texts one.text_itself p.paths) xs

  abbrev Sets : List (List RectParts) → Type 0
  Sets xs = AllByRecursion (Has same_members one.members one.members_itself p.communities) xs

  abbrev Lists : List PlannedList → Type 0
  Lists xs = AllByRecursion (Has same_list one.lists one.list_itself p.lists) xs

  abbrev Called : Subroutine → Type 0
  Called s = NamesCall name (definitions p) (written_by name p) s

  condition_named : (c : PlannedCondition) → Texts (texts_in c) → Sets (sets_in c) → Named c
  condition_named c t s = (
    each (Has same_text one.texts one.text_itself p.paths) (NamesPath name (definitions p) (written_by name p)) path_named (texts_in c) t,
    each (Has same_members one.members one.members_itself p.communities) (NamesSet name (definitions p) (written_by name p)) set_named (sets_in c) s,
  )

  conditions_named : (cs : List PlannedCondition) → Texts (flat_map texts_in cs) → Sets (flat_map sets_in cs) → AllByRecursion Named cs
  conditions_named [] t s = tt
  conditions_named (c ∷ cs) t s =
      let ts = front (Has same_text one.texts one.text_itself p.paths) (texts_in c) (flat_map texts_in cs) t in
      let ss = front (Has same_members one.members one.members_itself p.communities) (sets_in c) (flat_map sets_in cs) s in
      (condition_named c ts.0 ss.0, conditions_named cs ts.1 ss.1)

  entries_named : (es : List PlannedEntry) → Texts (flat_map (λ e. texts_in e.condition) es) → Sets (flat_map (λ e. sets_in e.condition) es) → AllByRecursion Named (map (λ e. e.condition) es)
  entries_named [] t s = tt
  entries_named (e ∷ es) t s =
      let ts = front (Has same_text one.texts one.text_itself p.paths) (texts_in e.condition) (flat_map (λ x. texts_in x.condition) es) t in
      let ss = front (Has same_members one.members one.members_itself p.communities) (sets_in e.condition) (flat_map (λ x. sets_in x.condition) es) s in
      (condition_named e.condition ts.0 ss.0, entries_named es ts.1 ss.1)

  lists_called : (ls : List PlannedList) → Lists ls → AllByRecursion Called (map (λ l. OfList l) ls)
  lists_called [] h = tt
  lists_called (l ∷ ls) h = (list_named l h.0, lists_called ls h.1)

  -- ---- subroutines

  test_names : (t : PlannedTest) → Texts (in_test texts_in t) → Sets (in_test sets_in t) → AllByRecursion Named (test_conditions t)
  test_names (Asked c) t s = (condition_named c t s, tt)
  test_names (Listed ls) t s = tt

  test_called : (t : PlannedTest) → Lists (test_lists t) → AllByRecursion Called (test_calls t)
  test_called (Asked c) h = tt
  test_called (Listed ls) h = lists_called ls h

  literal_names : (l : PlannedLiteral) (b : Bool) → Texts (elim b [ true ↦ [] | false ↦ in_test texts_in l.test ]) → Sets (elim b [ true ↦ [] | false ↦ in_test sets_in l.test ])
      → AllByRecursion Named (elim b [ true ↦ [] | false ↦ test_conditions l.test ])
  literal_names l true t s = tt
  literal_names l false t s = test_names l.test t s

  literal_called : (l : PlannedLiteral) (b : Bool) → AllByRecursion (Has same_test one.tests one.test_itself p.tests) (elim b [ true ↦ l.test ∷ [] | false ↦ [] ])
      → Lists (elim b [ true ↦ [] | false ↦ test_lists l.test ]) → AllByRecursion Called (elim b [ true ↦ Unless l.test ∷ [] | false ↦ test_calls l.test ])
  literal_called l true t h = (test_named l.test t.0, tt)
  literal_called l false t h = test_called l.test h

  guard_names : (g : List PlannedLiteral) → Texts (flat_map (in_literal texts_in) g) → Sets (flat_map (in_literal sets_in) g) → AllByRecursion Named (flat_map literal_conditions g)
  guard_names [] t s = tt
  guard_names (l ∷ g) t s =
      let ts = front (Has same_text one.texts one.text_itself p.paths) (in_literal texts_in l) (flat_map (in_literal texts_in) g) t in
      let ss = front (Has same_members one.members one.members_itself p.communities) (in_literal sets_in l) (flat_map (in_literal sets_in) g) s in
      both Named (literal_conditions l) (flat_map literal_conditions g) (literal_names l l.wanted ts.0 ss.0) (guard_names g ts.1 ss.1)

  guard_called : (g : List PlannedLiteral) → AllByRecursion (Has same_test one.tests one.test_itself p.tests) (flat_map wanted_tests g) → Lists (flat_map unwanted_lists g)
      → AllByRecursion Called (flat_map literal_calls g)
  guard_called [] t h = tt
  guard_called (l ∷ g) t h =
      let ts = front (Has same_test one.tests one.test_itself p.tests) (wanted_tests l) (flat_map wanted_tests g) t in
      let hs = front (Has same_list one.lists one.list_itself p.lists) (unwanted_lists l) (flat_map unwanted_lists g) h in
      both Called (literal_calls l) (flat_map literal_calls g) (literal_called l l.wanted ts.0 hs.0) (guard_called g ts.1 hs.1)

  -- ---- steps

  one_called : (test : PlannedTest) (wanted : Bool)
      → AllByRecursion (Has same_guard one.guards one.guard_itself p.guards) (elim (not (is_by_lists test wanted)) [ true ↦ (record { test = test; wanted = wanted } ∷ []) ∷ [] | false ↦ [] ])
      → Lists (elim wanted [ true ↦ test_lists test | false ↦ [] ]) → AllByRecursion Called (one_call test wanted)
  one_called (Asked c) true g h = (guard_named _ g.0, tt)
  one_called (Asked c) false g h = (guard_named _ g.0, tt)
  one_called (Listed ls) true g h = lists_called ls h
  one_called (Listed ls) false g h = (guard_named _ g.0, tt)

  step_called : (ls : List PlannedLiteral) → AllByRecursion (Has same_guard one.guards one.guard_itself p.guards) (guards_in ls) → Lists (guard_lists ls) → AllByRecursion Called (guard_calls ls)
  step_called [] g h = tt
  step_called (l ∷ []) g h = one_called l.test l.wanted g h
  step_called (l ∷ m ∷ ls) g h = (guard_named (l ∷ m ∷ ls) g.0, tt)

-- ---- the whole

-- what is noted of conditions is there
module _ {T : Type 0} (same : T → T → Bool) (one_value : (a b : T) → same a b ≡ true → a ≡ b) (itself : (a : T) → same a a ≡ true) (named : PlannedCondition → List T) where
  pub record AreThere (steps : List PlannedStep) (lists : List PlannedList) (tests : List PlannedTest) (guards : List (List PlannedLiteral)) (ds : List T) : Type 0 where
    pub in_steps : AllByRecursion (Has same one_value itself ds) (flat_map (λ s. flat_map named s.guard.conditions) steps)
    pub in_lists : AllByRecursion (Has same one_value itself ds) (flat_map (λ l. flat_map (λ e. named e.condition) l.entries) lists)
    pub in_tests : AllByRecursion (Has same one_value itself ds) (flat_map (in_test named) tests)
    pub in_guards : AllByRecursion (Has same one_value itself ds) (flat_map (λ g. flat_map (in_literal named) g) guards)

  are_there : (steps : List PlannedStep) (lists : List PlannedList) (tests : List PlannedTest) (guards : List (List PlannedLiteral)) → AreThere steps lists tests guards (named_by same named steps lists tests guards)
  are_there steps lists tests guards =
      let a = flat_map (λ s. flat_map named s.guard.conditions) steps in
      let b = flat_map (λ l. flat_map (λ e. named e.condition) l.entries) lists in
      let c = flat_map (in_test named) tests in
      let d = flat_map (λ g. flat_map (in_literal named) g) guards in
      let first = noted_all same [] a in
      let second = noted_all same first b in
      let third = noted_all same second c in
      record {
        in_steps = all_still same one_value itself a d third (all_still same one_value itself a c second (all_still same one_value itself a b first (all_there same one_value itself a [])));
        in_lists = all_still same one_value itself b d third (all_still same one_value itself b c second (all_there same one_value itself b first));
        in_tests = all_still same one_value itself c d third (all_there same one_value itself c second);
        in_guards = all_there same one_value itself d third;
      }

  still_there : (steps : List PlannedStep) (lists : List PlannedList) (tests : List PlannedTest) (guards : List (List PlannedLiteral)) (ds xs : List T)
      → AreThere steps lists tests guards ds → AreThere steps lists tests guards (noted_all same ds xs)
  still_there steps lists tests guards ds xs h = record {
    in_steps = all_still same one_value itself (flat_map (λ s. flat_map named s.guard.conditions) steps) xs ds h.in_steps;
    in_lists = all_still same one_value itself (flat_map (λ l. flat_map (λ e. named e.condition) l.entries) lists) xs ds h.in_lists;
    in_tests = all_still same one_value itself (flat_map (in_test named) tests) xs ds h.in_tests;
    in_guards = all_still same one_value itself (flat_map (λ g. flat_map (in_literal named) g) guards) xs ds h.in_guards;
  }

module _ (name : List ℕ) (p : PartsList) where
  steps_named : (steps : List PlannedStep) → Texts name p (flat_map (λ s. flat_map texts_in s.guard.conditions) steps) → Sets name p (flat_map (λ s. flat_map sets_in s.guard.conditions) steps)
      → AllByRecursion (Has same_guard one.guards one.guard_itself p.guards) (flat_map step_guards steps) → Lists name p (flat_map (λ s. guard_lists s.guard.literals) steps)
      → Sets name p (flat_map (λ s. changed_sets s.changes.communities) steps) → AllByRecursion (NamesInStep name (definitions p) (written_by name p)) steps
  steps_named [] t s g l c = tt
  steps_named (x ∷ xs) t s g l c =
      let ts = front (Has same_text one.texts one.text_itself p.paths) (flat_map texts_in x.guard.conditions) (flat_map (λ y. flat_map texts_in y.guard.conditions) xs) t in
      let ss = front (Has same_members one.members one.members_itself p.communities) (flat_map sets_in x.guard.conditions) (flat_map (λ y. flat_map sets_in y.guard.conditions) xs) s in
      let gs = front (Has same_guard one.guards one.guard_itself p.guards) (step_guards x) (flat_map step_guards xs) g in
      let ls = front (Has same_list one.lists one.list_itself p.lists) (guard_lists x.guard.literals) (flat_map (λ y. guard_lists y.guard.literals) xs) l in
      let cs = front (Has same_members one.members one.members_itself p.communities) (changed_sets x.changes.communities) (flat_map (λ y. changed_sets y.changes.communities) xs) c in (
        record {
          conditions = conditions_named name p x.guard.conditions ts.0 ss.0;
          calls = step_called name p x.guard.literals gs.0 ls.0;
          changes = each (Has same_members one.members one.members_itself p.communities) (NamesSet name (definitions p) (written_by name p)) (set_named name p) (changed_sets x.changes.communities) cs.0;
        },
        steps_named xs ts.1 ss.1 gs.1 ls.1 cs.1,
      )

  lists_named : (ls : List PlannedList) → Texts name p (flat_map (λ l. flat_map (λ e. texts_in e.condition) l.entries) ls) → Sets name p (flat_map (λ l. flat_map (λ e. sets_in e.condition) l.entries) ls)
      → AllByRecursion (NamesInSubroutine name (definitions p) (written_by name p)) (map (λ l. OfList l) ls)
  lists_named [] t s = tt
  lists_named (x ∷ xs) t s =
      let ts = front (Has same_text one.texts one.text_itself p.paths) (flat_map (λ e. texts_in e.condition) x.entries) (flat_map (λ l. flat_map (λ e. texts_in e.condition) l.entries) xs) t in
      let ss = front (Has same_members one.members one.members_itself p.communities) (flat_map (λ e. sets_in e.condition) x.entries) (flat_map (λ l. flat_map (λ e. sets_in e.condition) l.entries) xs) s in
      (record { conditions = entries_named name p x.entries ts.0 ss.0; calls = tt }, lists_named xs ts.1 ss.1)

  tests_named : (xs : List PlannedTest) → Texts name p (flat_map (in_test texts_in) xs) → Sets name p (flat_map (in_test sets_in) xs) → Lists name p (flat_map test_lists xs)
      → AllByRecursion (NamesInSubroutine name (definitions p) (written_by name p)) (map (λ t. Unless t) xs)
  tests_named [] t s l = tt
  tests_named (x ∷ xs) t s l =
      let ts = front (Has same_text one.texts one.text_itself p.paths) (in_test texts_in x) (flat_map (in_test texts_in) xs) t in
      let ss = front (Has same_members one.members one.members_itself p.communities) (in_test sets_in x) (flat_map (in_test sets_in) xs) s in
      let ls = front (Has same_list one.lists one.list_itself p.lists) (test_lists x) (flat_map test_lists xs) l in
      (record { conditions = test_names name p x ts.0 ss.0; calls = test_called name p x ls.0 }, tests_named xs ts.1 ss.1 ls.1)

  guards_named : (xs : List (List PlannedLiteral)) → Texts name p (flat_map (λ g. flat_map (in_literal texts_in) g) xs) → Sets name p (flat_map (λ g. flat_map (in_literal sets_in) g) xs)
      → AllByRecursion (Has same_test one.tests one.test_itself p.tests) (flat_map (λ g. flat_map wanted_tests g) xs) → Lists name p (flat_map (λ g. flat_map unwanted_lists g) xs)
      → AllByRecursion (NamesInSubroutine name (definitions p) (written_by name p)) (map (λ g. AllOf g) xs)
  guards_named [] t s w l = tt
  guards_named (x ∷ xs) t s w l =
      let ts = front (Has same_text one.texts one.text_itself p.paths) (flat_map (in_literal texts_in) x) (flat_map (λ g. flat_map (in_literal texts_in) g) xs) t in
      let ss = front (Has same_members one.members one.members_itself p.communities) (flat_map (in_literal sets_in) x) (flat_map (λ g. flat_map (in_literal sets_in) g) xs) s in
      let ws = front (Has same_test one.tests one.test_itself p.tests) (flat_map wanted_tests x) (flat_map (λ g. flat_map wanted_tests g) xs) w in
      let ls = front (Has same_list one.lists one.list_itself p.lists) (flat_map unwanted_lists x) (flat_map (λ g. flat_map unwanted_lists g) xs) l in
      (record { conditions = guard_names name p x ts.0 ss.0; calls = guard_called name p x ws.0 ls.0 }, guards_named xs ts.1 ss.1 ws.1 ls.1)

pub names_all : (name : List ℕ) (steps : List PlannedStep) → NamesDefinitions name (definitions (parts_of steps)) (written_by name (parts_of steps)) steps
names_all name steps =
    let p : PartsList = parts_of steps in
    let guards : List (List PlannedLiteral) = guards_of steps in
    let tests : List PlannedTest = tests_of guards in
    let lists : List PlannedList = lists_of steps guards tests in
    let changes = flat_map (λ s. changed_sets s.changes.communities) steps in
    let before = named_by same_members sets_in steps lists tests guards in
    let t = are_there same_text one.texts one.text_itself texts_in steps lists tests guards in
    let s = still_there same_members one.members one.members_itself sets_in steps lists tests guards before changes (are_there same_members one.members one.members_itself sets_in steps lists tests guards) in
    let c = all_there same_members one.members one.members_itself changes before in
    let g = all_there same_guard one.guards one.guard_itself (flat_map step_guards steps) [] in
    let w = all_there same_test one.tests one.test_itself (flat_map (λ x. flat_map wanted_tests x) guards) [] in
    let of_steps = flat_map (λ x. guard_lists x.guard.literals) steps in
    let of_guards = flat_map (λ x. flat_map unwanted_lists x) guards in
    let of_tests = flat_map test_lists tests in
    let first = noted_all same_list [] of_steps in
    let second = noted_all same_list first of_guards in
    let in_steps = all_still same_list one.lists one.list_itself of_steps of_tests second (all_still same_list one.lists one.list_itself of_steps of_guards first (all_there same_list one.lists one.list_itself of_steps [])) in
    let in_guards = all_still same_list one.lists one.list_itself of_guards of_tests second (all_there same_list one.lists one.list_itself of_guards first) in
    let in_tests = all_there same_list one.lists one.list_itself of_tests second in
    let Names : Subroutine → Type 0 = NamesInSubroutine name (definitions p) (written_by name p) in
    record {
      steps = steps_named name p steps t.in_steps s.in_steps g in_steps c;
      subroutines =
          both Names (map (λ l. OfList l) lists) (map (λ x. Unless x) tests ++ map (λ x. AllOf x) guards) (lists_named name p lists t.in_lists s.in_lists)
          (both Names (map (λ x. Unless x) tests) (map (λ x. AllOf x) guards) (tests_named name p tests t.in_tests s.in_tests in_tests) (guards_named name p guards t.in_guards s.in_guards w in_guards));
    }
