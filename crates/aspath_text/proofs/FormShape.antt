-- The branches of items have the shape of a pattern, and their sets are runs.
use Rattle.std.proofs.Common.{ℕ, ◌-◌, Bool, true, false, cond, ◌&&◌, List, [], ◌∷◌, ◌++◌, Option, Some, None, ◌≤◌, length, arith, replicate}
use Rattle.std.specs.List.{AllByRecursion}
use Rattle.path_patterns.specs.Shape.{AreDigitWords, IsTail, IsPiece, MarkFits, PiecesEnd, PiecesStart, IsBranch, IsShaped}
use Rattle.path_patterns.specs.IosForm.{PathStep, One, More, pieces_from, further_steps, item_steps, takes_one, is_free, closes, steps_behind, right_behind, behind_first, branch_from, branches_from, anything, item_branches}
use Rattle.aspath_text.specs.IosText.{IsRunTail, IsRunPiece, IsPrintable, IsRunBranch}
use Rattle.path_patterns.specs.RangeWords.{AreRuns}
use Rattle.path_patterns.specs.WordItems.{IsWordItem, AreWordItems}
use Rattle.path_patterns.specs.declared.word_item.WordItem.{WordItem}
use Rattle.path_patterns.specs.declared.pattern.DigitWord.{DigitWord}
use Rattle.path_patterns.specs.declared.pattern.Mark.{Mark}
use Rattle.path_patterns.specs.declared.pattern.Mark.TheVariants.{Anchor, Under}
use Rattle.path_patterns.specs.declared.pattern.Piece.{Piece}
use Rattle.path_patterns.specs.declared.pattern.Piece.TheVariants.{Set}
use Rattle.path_patterns.specs.declared.pattern.PieceSet.{PieceSet}
use Rattle.path_patterns.specs.declared.pattern.Repeat.TheVariants.{Maybe}
use Rattle.path_patterns.proofs.Lists.{all_append, all_both, all_copies}

-- words that can be written
abbrev AreGood : List DigitWord → Type 0
AreGood ws = AreDigitWords ws × AreRuns ws

-- the words of a step
abbrev IsGoodStep : PathStep → Type 0
IsGoodStep (One ws) = AreGood ws
IsGoodStep (More t) = AreGood t.words

-- a piece that can be written
abbrev IsGoodPiece : Piece → Type 0
IsGoodPiece p = IsPiece p × IsRunPiece p

-- ---- the steps of items

further_good : (ws : List DigitWord) (least : ℕ) (most : Option ℕ) → AreGood ws → AllByRecursion IsGoodStep (further_steps ws least most)
further_good ws least None h = (h, tt)
further_good ws least (Some most) h = all_copies IsGoodStep (More (record { words = ws; repeat = Maybe })) (most - least) h

item_good : (i : WordItem) → AreGood i.words → AllByRecursion IsGoodStep (item_steps i)
item_good i h =
    all_append IsGoodStep (replicate i.least (One i.words)) (further_steps i.words i.least i.most) (all_copies IsGoodStep (One i.words) i.least h) (further_good i.words i.least i.most h)

behind_at : (t : Bool) (i : WordItem) (us : List PathStep) → AreGood i.words → AllByRecursion IsGoodStep us → AllByRecursion IsGoodStep (cond t [] (item_steps i ++ us))
behind_at true i us h k = tt
behind_at false i us h k = all_append IsGoodStep (item_steps i) us (item_good i h) k

behind_good : (behind : Bool) (is : List WordItem) → AreWordItems is → AllByRecursion IsGoodStep (steps_behind behind is)
unfolding steps_behind
behind_good behind [] h = tt
behind_good behind (i ∷ is) h =
    behind_at (closes behind i is) i (steps_behind (takes_one i) is) (h.0.words, h.0.runs) (behind_good (takes_one i) is h.1)

right_at : (t : Bool) (mark : Mark) (s : PieceSet) → MarkFits mark (Set s) → MarkFits (cond t Under mark) (Set s)
right_at true mark s h = tt
right_at false mark s h = h

right_fits : (behind : Bool) (is : List WordItem) (s : PieceSet) → MarkFits (right_behind behind is) (Set s)
unfolding right_behind
right_fits behind [] s = tt
right_fits behind (i ∷ is) s = right_at (closes behind i is) (right_behind (takes_one i) is) s (right_fits (takes_one i) is s)

-- ---- pieces

pieces_good : (s : PieceSet) (us : List PathStep) → IsPiece (Set s) → IsRunPiece (Set s) → AllByRecursion IsGoodStep us → AllByRecursion IsGoodPiece (pieces_from s us)
unfolding pieces_from
pieces_good s [] p r h = ((p, r), tt)
pieces_good s (One ws ∷ us) p r h = ((p, r), pieces_good (record { words = ws; tails = [] }) us (h.0.0, tt) (h.0.1, tt) h.1)
pieces_good s (More t ∷ us) p r h =
    pieces_good (record { words = s.words; tails = s.tails ++ (t ∷ []) }) us
    (p.0, all_append IsTail s.tails (t ∷ []) p.1 (h.0.0, tt))
    (r.0, all_append IsRunTail s.tails (t ∷ []) r.1 (h.0.1, tt))
    h.1

start_fits : (mark : Mark) (s : PieceSet) (us : List PathStep) → ((x : PieceSet) → MarkFits mark (Set x)) → PiecesStart mark (pieces_from s us)
unfolding pieces_from
start_fits mark s [] h = h s
start_fits mark s (One ws ∷ us) h = h s
start_fits mark s (More t ∷ us) h = start_fits mark (record { words = s.words; tails = s.tails ++ (t ∷ []) }) us h

end_behind : (mark : Mark) (s : PieceSet) (ps : List Piece) → PiecesEnd ps mark → PiecesEnd (Set s ∷ ps) mark
end_behind mark s [] h = absurd h
end_behind mark s (p ∷ ps) h = (tt, h)

end_fits : (mark : Mark) (s : PieceSet) (us : List PathStep) → ((x : PieceSet) → MarkFits mark (Set x)) → PiecesEnd (pieces_from s us) mark
unfolding pieces_from
end_fits mark s [] h = h s
end_fits mark s (One ws ∷ us) h = end_behind mark s (pieces_from (record { words = ws; tails = [] }) us) (end_fits mark (record { words = ws; tails = [] }) us h)
end_fits mark s (More t ∷ us) h = end_fits mark (record { words = s.words; tails = s.tails ++ (t ∷ []) }) us h

-- ---- branches

branch_good : (mark : Mark) (i : WordItem) (is : List WordItem) → ((x : PieceSet) → MarkFits mark (Set x)) → IsWordItem i → AreWordItems is → IsPrintable (branch_from mark i is)
branch_good mark i is fits h hs =
    let s : PieceSet = record { words = i.words; tails = [] } in
    let us : List PathStep = item_steps (behind_first i) ++ steps_behind true is in
    let steps : AllByRecursion IsGoodStep us = all_append IsGoodStep (item_steps (behind_first i)) (steps_behind true is) (item_good (behind_first i) (h.words, h.runs)) (behind_good true is hs) in
    let both = all_both IsPiece IsRunPiece (pieces_from s us) (pieces_good s us (h.words, tt) (h.runs, tt) steps) in
    ((both.0, start_fits mark s us fits, end_fits (right_behind true is) s us (right_fits true is)), both.1)

starts_at : (t : Bool) (i : WordItem) (is : List WordItem) → IsWordItem i → AreWordItems is → AllByRecursion IsPrintable (branches_from is) → AllByRecursion IsPrintable (branch_from Anchor i is ∷ cond t [] (branches_from is))
starts_at true i is h hs k = (branch_good Anchor i is (λ x. tt) h hs, tt)
starts_at false i is h hs k = (branch_good Anchor i is (λ x. tt) h hs, k)

starts_good : (is : List WordItem) → AreWordItems is → AllByRecursion IsPrintable (branches_from is)
unfolding branches_from
starts_good [] h = ((tt, tt), tt)
starts_good (i ∷ is) h = starts_at (takes_one i) i is h.0 h.1 (starts_good is h.1)

alone_good : (t : Bool) (i : WordItem) → AreWordItems (i ∷ []) → AllByRecursion IsPrintable (cond t (anything ∷ []) (branches_from (i ∷ [])))
alone_good true i h = ((((tt, tt), tt, tt), (tt, tt)), tt)
alone_good false i h = starts_good (i ∷ []) h

several_good : (t : Bool) (i j : WordItem) (js : List WordItem) → AreWordItems (i ∷ j ∷ js) → AllByRecursion IsPrintable (cond t (branch_from Under j js ∷ []) (branches_from (i ∷ j ∷ js)))
several_good true i j js h = (branch_good Under j js (λ x. tt) h.1.0 h.1.1, tt)
several_good false i j js h = starts_good (i ∷ j ∷ js) h

-- each branch of items has the shape, and can be written
pub form_printable : (is : List WordItem) → AreWordItems is → AllByRecursion IsPrintable (item_branches is)
form_printable [] h = starts_good [] h
form_printable (i ∷ []) h = alone_good (is_free i) i h
form_printable (i ∷ j ∷ js) h = several_good (is_free i && takes_one j) i j js h

-- ---- the pattern

starts_some : (is : List WordItem) → 1 ≤ length (branches_from is)
unfolding branches_from
starts_some [] = omega arith
starts_some (i ∷ is) = omega arith

alone_some : (t : Bool) (i : WordItem) → 1 ≤ length (cond t (anything ∷ []) (branches_from (i ∷ [])))
alone_some true i = omega arith
alone_some false i = starts_some (i ∷ [])

several_some : (t : Bool) (i j : WordItem) (js : List WordItem) → 1 ≤ length (cond t (branch_from Under j js ∷ []) (branches_from (i ∷ j ∷ js)))
several_some true i j js = omega arith
several_some false i j js = starts_some (i ∷ j ∷ js)

branches_some : (is : List WordItem) → 1 ≤ length (item_branches is)
branches_some [] = starts_some []
branches_some (i ∷ []) = alone_some (is_free i) i
branches_some (i ∷ j ∷ js) = several_some (is_free i && takes_one j) i j js

-- the branches of items are of the shape of a pattern
pub form_shaped : (is : List WordItem) → AreWordItems is → IsShaped (item_branches is)
form_shaped is h = (branches_some is, (all_both IsBranch IsRunBranch (item_branches is) (form_printable is h)).0)
