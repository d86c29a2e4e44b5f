-- Classes of states: each state is in the class of what the patterns answer to its paths.
use Rattle.std.proofs.Common.{◌≡◌, refl, sym, ap, ◌∙◌, subst, ℕ, ◌+◌, ◌<◌, inl, inr, Bool, true, false, List, [], ◌∷◌, ◌++◌, length, Some, slice_get, arith}
use Rattle.std.specs.List.{IsDistinct}
use Rattle.std.proofs.lemmas.Bool.{cases_order, true≢false}
use Rattle.std.proofs.lemmas.List.{length_push}
use Rattle.std.proofs.lemmas.Map.Keys.{apart_from_distinct}
use Rattle.std.proofs.lemmas.Option.{same_Some, slice_get_within, get_or_from_slice_get}
use Rattle.path_classes.specs.Answers.{answers_of}
use Rattle.path_classes.specs.Sorting.{same_answers, HasClass, IsClassFound, IsClassPut, AddsState, AreClassed, IsMember, AreMembers, IsSorted}
use Rattle.path_classes.specs.declared.answers.Sorting.{Sorting}
use Rattle.path_classes.specs.declared.states.States.{States}
use Rattle.path_classes.specs.declared.threads.Thread.{Thread}
use Rattle.path_classes.proofs.Keys.{get_left, at_place, IsPut}

-- ---- a class is put in

pub found_new : (old new : Sorting) (answers : List Bool) (path : List ℕ) (class : ℕ) → slice_get new.answers.keys class ≡ Some answers → new.classes ≡ old.classes
    → IsPut old.answers.keys new.answers.keys answers true → new.members ≡ old.members ++ path ∷ [] → IsClassFound old new answers path class
found_new old new answers path class there classes put pushed = record { there = there; classes = classes; grown = inr (put, pushed) }

pub found_old : (old new : Sorting) (answers : List Bool) (path : List ℕ) (class : ℕ) → slice_get new.answers.keys class ≡ Some answers → new.classes ≡ old.classes
    → IsPut old.answers.keys new.answers.keys answers false → new.members ≡ old.members → IsClassFound old new answers path class
found_old old new answers path class there classes put same = record { there = there; classes = classes; grown = inl (put, same) }

pub class_put : (old mid new : Sorting) (answers : List Bool) (path : List ℕ) (class : ℕ) → IsClassFound old mid answers path class
    → new.answers.keys ≡ mid.answers.keys → new.members ≡ mid.members → new.classes ≡ mid.classes ++ class ∷ [] → IsClassPut old new answers path
class_put old mid new answers path class found keys members classes = record {
  class = class;
  there = ap (λ (rows : List (List Bool)). slice_get rows class) keys ∙ found.there;
  classes = classes ∙ ap (λ (xs : List ℕ). xs ++ class ∷ []) found.classes;
  grown = at found.grown;
}
  where
    at : HasClass old mid answers path → HasClass old new answers path
    at (inl h) = inl (keys ∙ h.0, members ∙ h.1)
    at (inr h) = inr (keys ∙ h.0, members ∙ h.1)

-- ---- all states so far

classed_more : (count : ℕ) (rows extra : List (List Bool)) (cs : List (List Thread)) (xs : List ℕ) → AreClassed count rows cs xs → AreClassed count (rows ++ extra) cs xs
classed_more count rows extra cs [] h = tt
classed_more count rows extra [] (x ∷ xs) h = absurd h
classed_more count rows extra (c ∷ cs) (x ∷ xs) h = (get_left rows extra x (answers_of count c) h.0, classed_more count rows extra cs xs h.1)

classed_push : (count : ℕ) (rows : List (List Bool)) (cs : List (List Thread)) (xs : List ℕ) (c : List Thread) (x : ℕ) → slice_get cs (length xs) ≡ Some c → slice_get rows x ≡ Some (answers_of count c)
    → AreClassed count rows cs xs → AreClassed count rows cs (xs ++ x ∷ [])
classed_push count rows [] [] c x at there h = absurd cc
classed_push count rows (b ∷ cs) [] c x at there h = (there ∙ ap (λ (ts : List Thread). Some (answers_of count ts)) (sym (same_Some b c at)), tt)
classed_push count rows [] (y ∷ xs) c x at there h = absurd h
classed_push count rows (b ∷ cs) (y ∷ xs) c x at there h = (h.0, classed_push count rows cs xs c x at there h.1)

members_push : (count : ℕ) (states : States) (rows : List (List Bool)) (ps : List (List ℕ)) (a : List Bool) (p : List ℕ) → AreMembers count states rows ps → IsMember count states a p → AreMembers count states (rows ++ a ∷ []) (ps ++ p ∷ [])
members_push count states [] [] a p h member = (member, tt)
members_push count states [] (q ∷ ps) a p h member = absurd h
members_push count states (b ∷ rows) [] a p h member = absurd h
members_push count states (b ∷ rows) (q ∷ ps) a p h member = (h.0, members_push count states rows ps a p h.1 member)

-- one more state is in its class
pub sorted_more : (count : ℕ) (states : States) (old new : Sorting) (place : ℕ) → place < length states.configs.keys → length states.configs.keys ≡ length states.paths
    → AddsState count states old new place → (IsDistinct same_answers old.answers.keys → IsDistinct same_answers new.answers.keys) → IsSorted count states old place → IsSorted count states new (place + 1)
sorted_more count states old new place below same puts distinct before =
    let state = at_place states.configs.keys place below in
    let led = at_place states.paths place (omega (arith, same)) in
    let put = puts state.0 led.0 state.1 led.1 in
    let member : IsMember count states (answers_of count state.0) led.0 = record { place = place; threads = state.0; state = state.1; led = led.1; same = refl } in
    let here : slice_get states.configs.keys (length old.classes) ≡ Some state.0 = ap (λ (i : ℕ). slice_get states.configs.keys i) before.counted ∙ state.1 in
    record {
      classed = subst (λ (xs : List ℕ). AreClassed count new.answers.keys states.configs.keys xs) (sym put.classes)
          (classed_push count new.answers.keys states.configs.keys old.classes state.0 put.class here put.there (classed (answers_of count state.0) led.0 put.grown));
      counted = ap length put.classes ∙ length_push old.classes put.class ∙ ap (λ (k : ℕ). k + 1) before.counted;
      members = members (answers_of count state.0) led.0 put.grown member;
      distinct = distinct before.distinct;
    }
  where
    classed : (a : List Bool) (p : List ℕ) → HasClass old new a p
        → AreClassed count new.answers.keys states.configs.keys old.classes
    classed a p (inl h) = subst (λ (rows : List (List Bool)). AreClassed count rows states.configs.keys old.classes) (sym h.0) before.classed
    classed a p (inr h) = subst (λ (rows : List (List Bool)). AreClassed count rows states.configs.keys old.classes) (sym h.0) (classed_more count old.answers.keys (a ∷ []) states.configs.keys old.classes before.classed)

    members : (a : List Bool) (p : List ℕ) → HasClass old new a p
        → IsMember count states a p → AreMembers count states new.answers.keys new.members
    members a p (inl h) member =
        subst (λ (rows : List (List Bool)). AreMembers count states rows new.members) (sym h.0) (subst (λ (ps : List (List ℕ)). AreMembers count states old.answers.keys ps) (sym h.1) before.members)
    members a p (inr h) member =
        subst (λ (rows : List (List Bool)). AreMembers count states rows new.members) (sym h.0)
        (subst (λ (ps : List (List ℕ)). AreMembers count states (old.answers.keys ++ a ∷ []) ps) (sym h.1) (members_push count states old.answers.keys old.members a p before.members member))

pub sorted_first : (count : ℕ) (states : States) (sorting : Sorting) → sorting.answers.keys ≡ [] → sorting.members ≡ [] → sorting.classes ≡ [] → IsDistinct same_answers sorting.answers.keys → IsSorted count states sorting 0
sorted_first count states sorting none members classes distinct = record {
  classed = subst (λ (xs : List ℕ). AreClassed count sorting.answers.keys states.configs.keys xs) (sym classes) tt;
  counted = ap length classes;
  members = subst (λ (rows : List (List Bool)). AreMembers count states rows sorting.members) (sym none) (subst (λ (ps : List (List ℕ)). AreMembers count states [] ps) (sym members) tt);
  distinct = distinct;
}

-- ---- classes differ

same_refl : (a : List Bool) → same_answers a a ≡ true
same_refl [] = refl
same_refl (true ∷ a) = same_refl a
same_refl (false ∷ a) = same_refl a

-- equal answers stand at one place
pub one_place : (rows : List (List Bool)) (i j : ℕ) (a : List Bool) → IsDistinct same_answers rows → slice_get rows i ≡ Some a → slice_get rows j ≡ Some a → i ≡ j
one_place rows i j a distinct at_i at_j = elim (cases_order i j) [
  | inl same ↦ same
  | inr apart ↦ absurd (elim apart [
    | inl less ↦ differ i j at_i at_j less
    | inr more ↦ differ j i at_j at_i more
  ])
]
  where
    differ : (m n : ℕ) → slice_get rows m ≡ Some a → slice_get rows n ≡ Some a → m < n → ⊥
    differ m n at_m at_n less =
        let within = slice_get_within rows n a at_n in
        let no = apart_from_distinct same_answers rows m n [] distinct less within in
        let first = get_or_from_slice_get rows m a [] at_m in
        let second = get_or_from_slice_get rows n a [] at_n in
        true≢false (sym (same_refl a) ∙ sym (λ x. same_answers (first x) (second x)) ∙ no)
