-- The branches of items take the same paths as the items.
use Rattle.std.proofs.Common.{◌≡◌, refl, sym, ap, subst, ◌∙◌, ℕ, ◌+◌, ◌-◌, ◌↔◌, Bool, true, false, cond, ◌&&◌, nat_le, List, [], ◌∷◌, ◌++◌, length, map, Option, arith, inl, inr, ◌⊎◌, leb-false}
use Rattle.std.specs.List.{list_all}
use Rattle.std.proofs.lemmas.Bool.{and_parts}
use Rattle.path_patterns.specs.Items.{IsPath, Takes, AtMost, Taken}
use Rattle.path_patterns.specs.SamePaths.{SamePaths, BranchesTake}
use Rattle.path_patterns.specs.PathItems.{words_hold, any_numbers, later_takes, branch_takes}
use Rattle.path_patterns.specs.IosForm.{word_takes, takes_one, is_free, branch_from, branches_from, anything, item_branches}
use Rattle.path_patterns.specs.WordItems.{IsWordItem, AreWordItems}
use Rattle.path_patterns.specs.declared.word_item.WordItem.{WordItem}
use Rattle.path_patterns.specs.declared.pattern.IosBranch.{IosBranch}
use Rattle.path_patterns.specs.declared.pattern.Mark.TheVariants.{Anchor, Under}
use Rattle.aspath_text.proofs.BranchTakes.{free_takes, branch_with, branch_there}
use Rattle.path_patterns.proofs.CountLaws.{zero_at_most}
use Rattle.path_patterns.proofs.SamePaths.{same_trans, same_eq}

-- ---- an item that can be absent

by_front : (f : ℕ → Bool) (most : Option ℕ) (ts : List Takes) (path front rest : List ℕ) → path ≡ front ++ rest → list_all f front ≡ true → AtMost (length front) most → Taken ts rest → Taken (record { fits = f; least = 1; most = most } ∷ ts) path ⊎ Taken ts path
unfolding Taken
by_front f most ts path [] rest whole fit counts taken = inr (subst (λ (p : List ℕ). Taken ts p) (sym whole) taken)
by_front f most ts path (n ∷ ns) rest whole fit counts taken = inl (n ∷ ns, rest, whole, fit, (omega arith, counts), taken)

absent_or : (f : ℕ → Bool) (least : ℕ) (most : Option ℕ) (ts : List Takes) (path : List ℕ) → Taken (record { fits = f; least = least; most = most } ∷ ts) path → Taken (record { fits = f; least = 1; most = most } ∷ ts) path ⊎ Taken ts path
unfolding Taken
absent_or f least most ts path (front, rest, whole, fit, counts, taken) = by_front f most ts path front rest whole fit counts.1 taken

from_there : (f : ℕ → Bool) (least : ℕ) (most : Option ℕ) (ts : List Takes) (path : List ℕ) → least ≡ 0 → Taken (record { fits = f; least = 1; most = most } ∷ ts) path → Taken (record { fits = f; least = least; most = most } ∷ ts) path
unfolding Taken
from_there f least most ts path zero (front, rest, whole, fit, counts, taken) = (front, rest, whole, fit, (omega (arith, zero), counts.1), taken)

from_absent : (f : ℕ → Bool) (least : ℕ) (most : Option ℕ) (ts : List Takes) (path : List ℕ) → least ≡ 0 → Taken ts path → Taken (record { fits = f; least = least; most = most } ∷ ts) path
unfolding Taken
from_absent f least most ts path zero taken = ([], path, refl, refl, (omega (arith, zero), zero_at_most most), taken)

-- ---- one branch for each first item

one_branch : (b : IosBranch) (ts : List Takes) (path : List ℕ) → SamePaths (branch_takes b) ts → IsPath path → BranchesTake (b ∷ []) path ↔ Taken ts path
one_branch b ts path h within =
    let k = h path within in
    (λ x. elim x [ inl y ↦ k.0 y | inr y ↦ absurd y ], λ y. inl (k.1 y))

least_zero : (n : ℕ) → nat_le 1 n ≡ false → n ≡ 0
least_zero n e = omega (arith, leb-false 1 n e)

one_from : (n : ℕ) → n ≡ 0 → 1 + (n - 1) ≡ 1
one_from n e = omega (arith, e)

starts_absent : (i : WordItem) (is : List WordItem) (path : List ℕ) → i.least ≡ 0 → IsWordItem i → AreWordItems is → IsPath path → BranchesTake (branches_from is) path ↔ Taken (map word_takes is) path → BranchesTake (branch_from Anchor i is ∷ branches_from is) path ↔ Taken (map word_takes (i ∷ is)) path
starts_absent i is path zero h hs within others =
    let first = branch_with Anchor i 1 is (one_from i.least zero) h hs path within in (
      λ x. elim x [
        | inl y ↦ from_there (words_hold i.words) i.least i.most (map word_takes is) path zero (first.0 y)
        | inr y ↦ from_absent (words_hold i.words) i.least i.most (map word_takes is) path zero (others.0 y)
      ],
      λ y. elim (absent_or (words_hold i.words) i.least i.most (map word_takes is) path y) [
        | inl z ↦ inl (first.1 z)
        | inr z ↦ inr (others.1 z)
      ],
    )

starts_at : (t : Bool) (i : WordItem) (is : List WordItem) (path : List ℕ) → takes_one i ≡ t → IsWordItem i → AreWordItems is → IsPath path → BranchesTake (branches_from is) path ↔ Taken (map word_takes is) path → BranchesTake (branch_from Anchor i is ∷ cond t [] (branches_from is)) path ↔ Taken (map word_takes (i ∷ is)) path
starts_at true i is path e h hs within others =
    one_branch (branch_from Anchor i is) (map word_takes (i ∷ is)) path (branch_there Anchor i is e h hs) within
starts_at false i is path e h hs within others =
    starts_absent i is path (least_zero i.least e) h hs within others

starts_taken : (is : List WordItem) (path : List ℕ) → AreWordItems is → IsPath path → BranchesTake (branches_from is) path ↔ Taken (map word_takes is) path
unfolding branches_from
starts_taken [] path h within = (λ x. elim x [ inl y ↦ y | inr y ↦ absurd y ], λ y. inl y)
starts_taken (i ∷ is) path h within = starts_at (takes_one i) i is path refl h.0 h.1 within (starts_taken is path h.1 within)

-- ---- all the branches

anything_is : branch_takes anything ≡ any_numbers 0 ∷ []
unfolding later_takes
anything_is = refl

alone_taken : (t : Bool) (i : WordItem) (path : List ℕ) → is_free i ≡ t → AreWordItems (i ∷ []) → IsPath path → BranchesTake (cond t (anything ∷ []) (branches_from (i ∷ []))) path ↔ Taken (map word_takes (i ∷ [])) path
alone_taken true i path e h within =
    one_branch anything (word_takes i ∷ []) path (same_eq (branch_takes anything) (word_takes i ∷ []) (anything_is ∙ ap (λ (t : Takes). t ∷ []) (sym (free_takes i e)))) within
alone_taken false i path e h within = starts_taken (i ∷ []) path h within

several_taken : (t : Bool) (i j : WordItem) (js : List WordItem) (path : List ℕ) → (is_free i && takes_one j) ≡ t → AreWordItems (i ∷ j ∷ js) → IsPath path → BranchesTake (cond t (branch_from Under j js ∷ []) (branches_from (i ∷ j ∷ js))) path ↔ Taken (map word_takes (i ∷ j ∷ js)) path
several_taken true i j js path e h within =
    let p = and_parts (is_free i) (takes_one j) e in
    let ts : List Takes = map word_takes (j ∷ js) in
    one_branch (branch_from Under j js) (word_takes i ∷ ts) path
    (same_trans (branch_takes (branch_from Under j js)) (any_numbers 0 ∷ ts) (word_takes i ∷ ts)
    (branch_there Under j js p.1 h.1.0 h.1.1)
    (same_eq (any_numbers 0 ∷ ts) (word_takes i ∷ ts) (ap (λ (t : Takes). t ∷ ts) (sym (free_takes i p.0)))))
    within
several_taken false i j js path e h within = starts_taken (i ∷ j ∷ js) path h within

-- the branches of items take a path exactly where the items do
pub form_taken : (is : List WordItem) (path : List ℕ) → AreWordItems is → IsPath path → BranchesTake (item_branches is) path ↔ Taken (map word_takes is) path
form_taken [] path h within = starts_taken [] path h within
form_taken (i ∷ []) path h within = alone_taken (is_free i) i path refl h within
form_taken (i ∷ j ∷ js) path h within = several_taken (is_free i && takes_one j) i j js path refl h within
