-- What the branch of items takes, of which the first one is there.
use Rattle.std.proofs.Common.{◌≡◌, refl, sym, ap, ◌∙◌, ℕ, ◌+◌, ◌-◌, ◌==◌, Bool, true, false, cond, ◌&&◌, nat_le, is_none, List, [], ◌∷◌, ◌++◌, map, Option, Some, None, arith, append_assoc, leb-true, eqb-true}
use Rattle.std.proofs.lemmas.Bool.{and_parts}
use Rattle.std.proofs.lemmas.List.{map-append}
use Rattle.path_patterns.specs.Items.{Takes}
use Rattle.path_patterns.specs.SamePaths.{SamePaths}
use Rattle.path_patterns.specs.PathItems.{words_hold, any_numbers, set_takes, tail_takes, later_takes, pieces_takes, mark_takes, branch_takes}
use Rattle.path_patterns.specs.IosForm.{PathStep, One, More, word_takes, step_takes, pieces_from, item_steps, takes_one, are_any, is_free, closes, steps_behind, right_behind, behind_first, branch_from}
use Rattle.path_patterns.specs.WordItems.{IsWordItem, AreWordItems}
use Rattle.path_patterns.specs.declared.word_item.WordItem.{WordItem}
use Rattle.path_patterns.specs.declared.pattern.DigitWord.{DigitWord}
use Rattle.path_patterns.specs.declared.pattern.DigitWord.TheVariants.{Any, Digits}
use Rattle.path_patterns.specs.declared.pattern.Mark.{Mark}
use Rattle.path_patterns.specs.declared.pattern.Mark.TheVariants.{Under}
use Rattle.path_patterns.specs.declared.pattern.PieceSet.{PieceSet}
use Rattle.path_patterns.proofs.SamePaths.{same_refl, same_trans, same_eq, same_behind, same_behind_all}
use Rattle.aspath_text.proofs.StepTakes.{steps_and, counts_behind, first_same}

-- ---- free items

any_words : (ws : List DigitWord) → are_any ws ≡ true → ws ≡ Any ∷ []
any_words [] e = absurd cc
any_words (Any ∷ []) e = refl
any_words (Any ∷ w ∷ ws) e = absurd cc
any_words (Digits ss ∷ ws) e = absurd cc

none_is : (o : Option ℕ) → is_none o ≡ true → o ≡ None
none_is None e = refl
none_is (Some m) e = absurd cc

free_is : (ws : List DigitWord) (least : ℕ) (most : Option ℕ) → ws ≡ Any ∷ [] → least ≡ 0 → most ≡ None → record { fits = words_hold ws; least = least; most = most } ≡ any_numbers 0
free_is ws least most w l m =
    ap (λ (x : List DigitWord). record { fits = words_hold x; least = least; most = most }) w
    ∙ ap (λ (x : ℕ). record { fits = words_hold (Any ∷ []); least = x; most = most }) l
    ∙ ap (λ (x : Option ℕ). record { fits = words_hold (Any ∷ []); least = 0; most = x }) m

-- a free item takes any numbers
pub free_takes : (i : WordItem) → is_free i ≡ true → word_takes i ≡ any_numbers 0
free_takes i e =
    let p = and_parts (are_any i.words) (i.least == 0 && is_none i.most) e in
    let q = and_parts (i.least == 0) (is_none i.most) p.1 in
    free_is i.words i.least i.most (any_words i.words p.0) (eqb-true i.least 0 q.0) (none_is i.most q.1)

-- ---- items behind the first one

closed : (behind : Bool) (i : WordItem) (is : List WordItem) → closes behind i is ≡ true → SamePaths (mark_takes Under) (map word_takes (i ∷ is))
closed behind i [] e =
    let p = and_parts behind (is_free i) e in
    same_eq (any_numbers 0 ∷ []) (word_takes i ∷ []) (ap (λ (t : Takes). t ∷ []) (sym (free_takes i p.1)))
closed behind i (j ∷ js) e = absurd cc

ending_at : (t behind : Bool) (i : WordItem) (is : List WordItem) → closes behind i is ≡ t → IsWordItem i
    → SamePaths (map step_takes (steps_behind (takes_one i) is) ++ mark_takes (right_behind (takes_one i) is)) (map word_takes is)
    → SamePaths (map step_takes (cond t [] (item_steps i ++ steps_behind (takes_one i) is)) ++ mark_takes (cond t Under (right_behind (takes_one i) is))) (map word_takes (i ∷ is))
ending_at true behind i is e h k = closed behind i is e
ending_at false behind i is e h k =
    steps_and i (steps_behind (takes_one i) is) (mark_takes (right_behind (takes_one i) is)) (map word_takes is) h.counts k

-- items behind another one take what their steps and the right mark take
ending_same : (behind : Bool) (is : List WordItem) → AreWordItems is → SamePaths (map step_takes (steps_behind behind is) ++ mark_takes (right_behind behind is)) (map word_takes is)
unfolding steps_behind right_behind
ending_same behind [] h = same_refl []
ending_same behind (i ∷ is) h = ending_at (closes behind i is) behind i is refl h.0 (ending_same (takes_one i) is h.1)

-- ---- pieces

pieces_later : (s : PieceSet) (us : List PathStep) → later_takes (pieces_from s us) ≡ set_takes s.words ∷ (map tail_takes s.tails ++ map step_takes us)
unfolding later_takes pieces_from
pieces_later s [] = refl
pieces_later s (One ws ∷ us) =
    ap (λ (x : List Takes). set_takes s.words ∷ (map tail_takes s.tails ++ x)) (pieces_later (record { words = ws; tails = [] }) us)
pieces_later s (More t ∷ us) =
    pieces_later (record { words = s.words; tails = s.tails ++ (t ∷ []) }) us
    ∙ ap (λ (x : List Takes). set_takes s.words ∷ x) (ap (λ (x : List Takes). x ++ map step_takes us) (map-append tail_takes s.tails (t ∷ [])) ∙ append_assoc (map tail_takes s.tails) (tail_takes t ∷ []) (map step_takes us))

pieces_first : (s : PieceSet) (us : List PathStep) → pieces_takes (pieces_from s us) ≡ later_takes (pieces_from s us)
unfolding pieces_from
pieces_first s [] = refl
pieces_first s (One ws ∷ us) = refl
pieces_first s (More t ∷ us) = pieces_first (record { words = s.words; tails = s.tails ++ (t ∷ []) }) us

branch_is : (mark : Mark) (i : WordItem) (is : List WordItem) → branch_takes (branch_from mark i is) ≡ mark_takes mark ++ (set_takes i.words ∷ (map step_takes (item_steps (behind_first i) ++ steps_behind true is) ++ mark_takes (right_behind true is)))
branch_is mark i is =
    let s : PieceSet = record { words = i.words; tails = [] } in
    let us : List PathStep = item_steps (behind_first i) ++ steps_behind true is in
    ap (λ (x : List Takes). mark_takes mark ++ (x ++ mark_takes (right_behind true is))) (pieces_first s us ∙ pieces_later s us)

-- the branch takes one number of the first item, what is left of it, and the other items
pub branch_same : (mark : Mark) (i : WordItem) (is : List WordItem) → IsWordItem i → AreWordItems is → SamePaths (branch_takes (branch_from mark i is)) (mark_takes mark ++ (set_takes i.words ∷ word_takes (behind_first i) ∷ map word_takes is))
branch_same mark i is h hs =
    let behind : List Takes = map step_takes (item_steps (behind_first i) ++ steps_behind true is) ++ mark_takes (right_behind true is) in
    let items : List Takes = word_takes (behind_first i) ∷ map word_takes is in
    same_trans (branch_takes (branch_from mark i is)) (mark_takes mark ++ (set_takes i.words ∷ behind)) (mark_takes mark ++ (set_takes i.words ∷ items))
    (same_eq (branch_takes (branch_from mark i is)) (mark_takes mark ++ (set_takes i.words ∷ behind)) (branch_is mark i is))
    (same_behind_all (mark_takes mark) (set_takes i.words ∷ behind) (set_takes i.words ∷ items)
    (same_behind (set_takes i.words) behind items
    (steps_and (behind_first i) (steps_behind true is) (mark_takes (right_behind true is)) (map word_takes is) (counts_behind i h.counts) (ending_same true is hs))))

-- the same with a least count of the first item, at least one
pub branch_with : (mark : Mark) (i : WordItem) (least : ℕ) (is : List WordItem) → 1 + (i.least - 1) ≡ least → IsWordItem i → AreWordItems is → SamePaths (branch_takes (branch_from mark i is)) (mark_takes mark ++ (record { fits = words_hold i.words; least = least; most = i.most } ∷ map word_takes is))
branch_with mark i least is e h hs =
    let parts : List Takes = set_takes i.words ∷ word_takes (behind_first i) ∷ map word_takes is in
    let whole : List Takes = record { fits = words_hold i.words; least = least; most = i.most } ∷ map word_takes is in
    same_trans (branch_takes (branch_from mark i is)) (mark_takes mark ++ parts) (mark_takes mark ++ whole)
    (branch_same mark i is h hs)
    (same_behind_all (mark_takes mark) parts whole (first_same i least (map word_takes is) e h.counts h.one))

least_one : (n : ℕ) → nat_le 1 n ≡ true → 1 + (n - 1) ≡ n
least_one n e = omega (arith, leb-true 1 n e)

-- the branch takes what the items take, where the first one can't be absent
pub branch_there : (mark : Mark) (i : WordItem) (is : List WordItem) → takes_one i ≡ true → IsWordItem i → AreWordItems is → SamePaths (branch_takes (branch_from mark i is)) (mark_takes mark ++ (word_takes i ∷ map word_takes is))
branch_there mark i is e h hs = branch_with mark i i.least is (least_one i.least e) h hs
