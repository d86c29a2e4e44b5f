-- What steps use is among their definitions, under the names by which it is written; and where the steps fit, these fit.
use Rattle.std.proofs.Common.{◌≡◌, refl, sym, ap, ◌∙◌, ℕ, suc, Bool, true, false, ◌||◌, List, [], ◌∷◌, ◌++◌, map, Some, if◌then◌else◌}
use Rattle.std.specs.Bool.{Decides}
use Rattle.std.specs.List.{list_any, flat_map, slice_get, AllByRecursion}
use Rattle.std.proofs.lemmas.List.Folds.{list_any-append}
use Rattle.junos_plans.specs.declared.condition.PlannedList.{PlannedList}
use Rattle.junos_plans.specs.declared.condition.PlannedTest.{PlannedTest}
use Rattle.junos_plans.specs.declared.condition.PlannedTest.TheVariants.{Asked, Listed}
use Rattle.junos_plans.specs.declared.step.PlannedLiteral.{PlannedLiteral}
use Rattle.junos_plans.specs.declared.step.PlannedStep.{PlannedStep}
use Rattle.junos_layout.specs.Options.{Definitions}
use Rattle.junos_layout.specs.Sharing.{literal_subroutines, with_calls, step_subroutines, step_conditions, step_texts, step_sets, noted, noted_all, place_in, Tells, definitions_of, written_by}
use Rattle.junos_layout.specs.Uses.{texts_in, sets_in, test_calls, literal_calls, subroutine_conditions, subroutine_calls, guard_calls, changed_sets, NamesPath, NamesSet, NamesCall, NamesCondition, NamesInSubroutine, NamesInStep, NamesDefinitions}
use Rattle.junos_layout.specs.Writing.{Subroutine, OfList, Unless, AllOf, Writing}
use Rattle.junos_layout.proofs.FromSound.{all_join}

or_true : (a b : Bool) → b ≡ true → (a || b) ≡ true
or_true true b e = refl
or_true false b e = e

or_left : (a b : Bool) → a ≡ true → (a || b) ≡ true
or_left a b e = ap (λ k. k || b) e

-- ---- lists

pub front : {A : Type 0} (P : A → Type 0) (xs ys : List A) → AllByRecursion P (xs ++ ys) → AllByRecursion P xs × AllByRecursion P ys
front P [] ys h = (tt, h)
front P (x ∷ xs) ys h = let more = front P xs ys h.1 in ((h.0, more.0), more.1)

-- what holds of all in lists, list by list, and back
pub each_of : {A B : Type 0} (P : B → Type 0) (f : A → List B) (xs : List A) → AllByRecursion P (flat_map f xs) → AllByRecursion (λ x. AllByRecursion P (f x)) xs
each_of P f [] h = tt
each_of P f (x ∷ xs) h = let parts = front P (f x) (flat_map f xs) h in (parts.0, each_of P f xs parts.1)

pub all_of : {A B : Type 0} (P : B → Type 0) (f : A → List B) (xs : List A) → AllByRecursion (λ x. AllByRecursion P (f x)) xs → AllByRecursion P (flat_map f xs)
all_of P f [] h = tt
all_of P f (x ∷ xs) h = all_join P (f x) (flat_map f xs) h.0 (all_of P f xs h.1)

pub each : {A : Type 0} (P Q : A → Type 0) → ((x : A) → P x → Q x) → (xs : List A) → AllByRecursion P xs → AllByRecursion Q xs
each P Q gives [] h = tt
each P Q gives (x ∷ xs) h = (gives x h.0, each P Q gives xs h.1)

pub both : {A : Type 0} (P Q R : A → Type 0) → ((x : A) → P x → Q x → R x) → (xs : List A) → AllByRecursion P xs → AllByRecursion Q xs → AllByRecursion R xs
both P Q R gives [] h k = tt
both P Q R gives (x ∷ xs) h k = (gives x h.0 k.0, both P Q R gives xs h.1 k.1)

-- ---- what is noted

module _ {D : Type 0} (same : D → D → Bool) (decides : (a b : D) → Decides (same a b) (a ≡ b)) where
  -- what is among others stands at its place
  place_found : (ds : List D) (d : D) → list_any (same d) ds ≡ true → slice_get ds (place_in (same d) ds) ≡ Some d
  unfolding place_in
  place_found [] d h = absurd cc
  place_found (e ∷ es) d h = one (same d e) refl h (place_found es d) where
    one : (b : Bool) → same d e ≡ b → (b || list_any (same d) es) ≡ true → (list_any (same d) es ≡ true → slice_get es (place_in (same d) es) ≡ Some d)
        → slice_get (e ∷ es) (elim b [ true ↦ 0 | false ↦ suc (place_in (same d) es) ]) ≡ Some d
    one true is k more = ap (λ x. Some x) (sym ((decides d e).0 is))
    one false is k more = more k

  still : (ds : List D) (x d : D) → list_any (same d) ds ≡ true → list_any (same d) (noted same ds x) ≡ true
  still ds x d h = one (list_any (same x) ds) where
    one : (b : Bool) → list_any (same d) (if b then ds else ds ++ x ∷ []) ≡ true
    one true = h
    one false = list_any-append (same d) ds (x ∷ []) ∙ or_left (list_any (same d) ds) (list_any (same d) (x ∷ [])) h

  still_all : (xs ds : List D) (d : D) → list_any (same d) ds ≡ true → list_any (same d) (noted_all same ds xs) ≡ true
  unfolding noted_all
  still_all [] ds d h = h
  still_all (x ∷ xs) ds d h = still_all xs (noted same ds x) d (still ds x d h)

  now_there : (ds : List D) (x : D) → list_any (same x) (noted same ds x) ≡ true
  now_there ds x = one (list_any (same x) ds) refl where
    one : (b : Bool) → list_any (same x) ds ≡ b → list_any (same x) (if b then ds else ds ++ x ∷ []) ≡ true
    one true e = e
    one false e = list_any-append (same x) ds (x ∷ []) ∙ or_true (list_any (same x) ds) (list_any (same x) (x ∷ [])) (or_left (same x x) false ((decides x x).1 refl))

  all_there : (xs ds : List D) → AllByRecursion (λ x. list_any (same x) (noted_all same ds xs) ≡ true) xs
  unfolding noted_all
  all_there [] ds = tt
  all_there (x ∷ xs) ds = (still_all xs (noted same ds x) x (now_there ds x), all_there xs (noted same ds x))

-- what holds of all holds of what is noted
pub kept_noted : {D : Type 0} (P : D → Type 0) (same : D → D → Bool) (xs ds : List D) → AllByRecursion P xs → AllByRecursion P ds → AllByRecursion P (noted_all same ds xs)
unfolding noted_all
kept_noted P same [] ds h k = k
kept_noted P same (x ∷ xs) ds h k = kept_noted P same xs (noted same ds x) h.1 (one (list_any (same x) ds)) where
  one : (b : Bool) → AllByRecursion P (if b then ds else ds ++ x ∷ [])
  one true = k
  one false = all_join P ds (x ∷ []) k (h.0, tt)

-- ---- what is called is among what is used

module _ (P : Subroutine → Type 0) where
  -- lists call nothing
  lists_call : (ls : List PlannedList) → AllByRecursion (λ s. AllByRecursion P (subroutine_calls s)) (map (λ l. OfList l) ls)
  lists_call [] = tt
  lists_call (l ∷ ls) = (tt, lists_call ls)

  test_calls_call : (test : PlannedTest) → AllByRecursion (λ s. AllByRecursion P (subroutine_calls s)) (test_calls test)
  test_calls_call (Asked c) = tt
  test_calls_call (Listed ls) = lists_call ls

  literal_has : (test : PlannedTest) (wanted : Bool) → AllByRecursion P (literal_subroutines (record { test = test; wanted = wanted })) → AllByRecursion P (literal_calls (record { test = test; wanted = wanted }))
  literal_has test true h = (h.0, tt)
  literal_has test false h = h

  literals_have : (ls : List PlannedLiteral) → AllByRecursion P (flat_map literal_subroutines ls) → AllByRecursion P (flat_map literal_calls ls)
  literals_have [] h = tt
  literals_have (l ∷ ls) h =
      let parts = front P (literal_subroutines l) (flat_map literal_subroutines ls) h in
      all_join P (literal_calls l) (flat_map literal_calls ls) (literal_has l.test l.wanted parts.0) (literals_have ls parts.1)

  literal_call : (test : PlannedTest) (wanted : Bool) → AllByRecursion P (literal_subroutines (record { test = test; wanted = wanted }))
      → AllByRecursion (λ s. AllByRecursion P (subroutine_calls s)) (literal_subroutines (record { test = test; wanted = wanted }))
  literal_call test true h = (h.1, test_calls_call test)
  literal_call test false h = test_calls_call test

  literals_call : (ls : List PlannedLiteral) → AllByRecursion P (flat_map literal_subroutines ls) → AllByRecursion (λ s. AllByRecursion P (subroutine_calls s)) (flat_map literal_subroutines ls)
  literals_call [] h = tt
  literals_call (l ∷ ls) h =
      let parts = front P (literal_subroutines l) (flat_map literal_subroutines ls) h in
      all_join (λ s. AllByRecursion P (subroutine_calls s)) (literal_subroutines l) (flat_map literal_subroutines ls) (literal_call l.test l.wanted parts.0) (literals_call ls parts.1)

  calls_within : (s : Subroutine) → AllByRecursion P (with_calls s) → AllByRecursion (λ t. AllByRecursion P (subroutine_calls t)) (with_calls s)
  calls_within (OfList l) h = (tt, tt)
  calls_within (Unless test) h = (h.1, test_calls_call test)
  calls_within (AllOf ls) h = (literals_have ls h.1, literals_call ls h.1)

  itself : (s : Subroutine) → AllByRecursion P (with_calls s) → P s
  itself (OfList l) h = h.0
  itself (Unless test) h = h.0
  itself (AllOf ls) h = h.0

-- ---- the whole

module _ (tells : Tells) (name : List ℕ) (steps : List PlannedStep) where
  abbrev defs : Definitions
  defs = definitions_of tells steps

  abbrev w : Writing
  w = written_by tells name defs

  paths_named : AllByRecursion (λ s. AllByRecursion (NamesPath name defs w) (step_texts s)) steps
  paths_named =
      each_of (NamesPath name defs w) step_texts steps
      (each (λ t. list_any (tells.texts t) defs.paths ≡ true) (NamesPath name defs w) (λ t h. (place_in (tells.texts t) defs.paths, place_found tells.texts tells.texts_decide defs.paths t h, refl))
      (flat_map step_texts steps) (all_there tells.texts tells.texts_decide (flat_map step_texts steps) []))

  sets_named : AllByRecursion (λ s. AllByRecursion (NamesSet name defs w) (step_sets s)) steps
  sets_named =
      each_of (NamesSet name defs w) step_sets steps
      (each (λ t. list_any (tells.rects t) defs.communities ≡ true) (NamesSet name defs w) (λ t h. (place_in (tells.rects t) defs.communities, place_found tells.rects tells.rects_decide defs.communities t h, refl))
      (flat_map step_sets steps) (all_there tells.rects tells.rects_decide (flat_map step_sets steps) []))

  calls_named : AllByRecursion (λ s. AllByRecursion (NamesCall name defs w) (step_subroutines s)) steps
  calls_named =
      each_of (NamesCall name defs w) step_subroutines steps
      (each (λ t. list_any (tells.subroutines t) defs.subroutines ≡ true) (NamesCall name defs w)
      (λ t h. (place_in (tells.subroutines t) defs.subroutines, place_found tells.subroutines tells.subroutines_decide defs.subroutines t h, refl))
      (flat_map step_subroutines steps) (all_there tells.subroutines tells.subroutines_decide (flat_map step_subroutines steps) []))

  conditions_named : (s : PlannedStep) → AllByRecursion (NamesPath name defs w) (step_texts s) → AllByRecursion (NamesSet name defs w) (step_sets s) → AllByRecursion (NamesCondition name defs w) (step_conditions s)
  conditions_named s h k =
      both (λ c. AllByRecursion (NamesPath name defs w) (texts_in c)) (λ c. AllByRecursion (NamesSet name defs w) (sets_in c)) (NamesCondition name defs w) (λ c a b. (a, b)) (step_conditions s)
      (each_of (NamesPath name defs w) texts_in (step_conditions s) h)
      (each_of (NamesSet name defs w) sets_in (step_conditions s) (front (NamesSet name defs w) (flat_map sets_in (step_conditions s)) (changed_sets s.changes.communities) k).0)

  step_named : (s : PlannedStep) → AllByRecursion (NamesPath name defs w) (step_texts s) → AllByRecursion (NamesSet name defs w) (step_sets s) → AllByRecursion (NamesCall name defs w) (step_subroutines s)
      → NamesInStep name defs w s
  step_named s h k l = record {
    conditions = (front (NamesCondition name defs w) s.guard.conditions (flat_map subroutine_conditions (step_subroutines s)) (conditions_named s h k)).0;
    calls =
        each (λ t. AllByRecursion (NamesCall name defs w) (with_calls t)) (NamesCall name defs w) (itself (NamesCall name defs w)) (guard_calls s.guard.literals)
        (each_of (NamesCall name defs w) with_calls (guard_calls s.guard.literals) l);
    changes = (front (NamesSet name defs w) (flat_map sets_in (step_conditions s)) (changed_sets s.changes.communities) k).1;
  }

  subroutines_named : (s : PlannedStep) → AllByRecursion (NamesPath name defs w) (step_texts s) → AllByRecursion (NamesSet name defs w) (step_sets s) → AllByRecursion (NamesCall name defs w) (step_subroutines s)
      → AllByRecursion (NamesInSubroutine name defs w) (step_subroutines s)
  subroutines_named s h k l =
      both (λ t. AllByRecursion (NamesCondition name defs w) (subroutine_conditions t)) (λ t. AllByRecursion (NamesCall name defs w) (subroutine_calls t)) (NamesInSubroutine name defs w)
      (λ t a b. record { conditions = a; calls = b }) (step_subroutines s)
      (each_of (NamesCondition name defs w) subroutine_conditions (step_subroutines s)
      (front (NamesCondition name defs w) s.guard.conditions (flat_map subroutine_conditions (step_subroutines s)) (conditions_named s h k)).1)
      (all_of (λ t. AllByRecursion (NamesCall name defs w) (subroutine_calls t)) with_calls (guard_calls s.guard.literals)
      (each (λ t. AllByRecursion (NamesCall name defs w) (with_calls t)) (λ t. AllByRecursion (λ u. AllByRecursion (NamesCall name defs w) (subroutine_calls u)) (with_calls t)) (calls_within (NamesCall name defs w))
      (guard_calls s.guard.literals) (each_of (NamesCall name defs w) with_calls (guard_calls s.guard.literals) l)))

  three : (R : PlannedStep → Type 0) → ((s : PlannedStep) → AllByRecursion (NamesPath name defs w) (step_texts s) → AllByRecursion (NamesSet name defs w) (step_sets s) → AllByRecursion (NamesCall name defs w) (step_subroutines s) → R s)
      → (ss : List PlannedStep)
      → AllByRecursion (λ s. AllByRecursion (NamesPath name defs w) (step_texts s)) ss
      → AllByRecursion (λ s. AllByRecursion (NamesSet name defs w) (step_sets s)) ss
      → AllByRecursion (λ s. AllByRecursion (NamesCall name defs w) (step_subroutines s)) ss
      → AllByRecursion R ss
  three R gives [] h k l = tt
  three R gives (s ∷ ss) h k l = (gives s h.0 k.0 l.0, three R gives ss h.1 k.1 l.1)

  pub names_definitions : NamesDefinitions name defs w steps
  names_definitions = record {
    steps = three (NamesInStep name defs w) step_named steps paths_named sets_named calls_named;
    subroutines =
        kept_noted (NamesInSubroutine name defs w) tells.subroutines (flat_map step_subroutines steps) []
        (all_of (NamesInSubroutine name defs w) step_subroutines steps (three (λ s. AllByRecursion (NamesInSubroutine name defs w) (step_subroutines s)) subroutines_named steps paths_named sets_named calls_named)) tt;
  }
