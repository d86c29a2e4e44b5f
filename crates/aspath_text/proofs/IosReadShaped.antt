-- What a text spells has the shape.
use Rattle.std.proofs.Common.{◌≡◌, refl, sym, ap, ◌∙◌, subst, ℕ, ◌^◌, ◌≤◌, Bool, true, ◌||◌, List, [], ◌∷◌, length, arith, inl, inr}
use Rattle.std.specs.List.{list_any, AllByRecursion}
use Rattle.std.proofs.Math.Pow.{pow_mono, pow_pos}
use Rattle.std.proofs.lemmas.Bool.{le-leb}
use Rattle.route_types.specs.RouteText.{Each}
use Rattle.aspath_text.specs.IosGrammar.{DigitRun, SpellsRun, SpellsClass, SpellsDigitSet, SpellsWord, SpellsSet, SpellsTail, SpellsPiece, SpellsBranch, SpellsPattern}
use Rattle.path_patterns.specs.Shape.{IsDigitSet, IsDigitWord, AreDigitWords, IsTail, IsPiece, IsBranch, IsShaped}
use Rattle.path_patterns.specs.declared.pattern.IosBranch.{IosBranch}
use Rattle.path_patterns.specs.declared.pattern.IosBranch.TheVariants.{EmptyPath, Pieces}
use Rattle.path_patterns.specs.declared.pattern.Piece.{Piece}
use Rattle.path_patterns.specs.declared.pattern.Piece.TheVariants.{Anything, Set}
use Rattle.path_patterns.specs.declared.pattern.DigitWord.{DigitWord}
use Rattle.path_patterns.specs.declared.pattern.DigitWord.TheVariants.{Any, Digits}
use Rattle.path_patterns.specs.declared.pattern.DigitSet.{DigitSet}
use Rattle.path_patterns.specs.declared.pattern.Tail.{Tail}
use Rattle.aspath_text.proofs.IosReadBits.{AreDigits, in_run, some_bit}

-- what follows of each pair holds of each value
pub each_all : {A B : Type 0} (P : A → B → Type 0) (Q : B → Type 0) → ((x : A) (y : B) → P x y → Q y) → (xs : List A) (ys : List B) → Each P xs ys → AllByRecursion Q ys
each_all P Q to [] [] h = tt
each_all P Q to [] (y ∷ ys) h = absurd h
each_all P Q to (x ∷ xs) [] h = absurd h
each_all P Q to (x ∷ xs) (y ∷ ys) h = (to x y h.0, each_all P Q to xs ys h.1)

-- runs are of digits
pub runs_are_digits : (parts : List (List ℕ)) (runs : List DigitRun) → Each SpellsRun parts runs → AreDigits runs
runs_are_digits parts runs h = each_all SpellsRun (λ r. (r.least ≤ r.most) × (r.most ≤ 9)) (λ t r s. (s.rises, s.digit)) parts runs h

least_is_in : (r : DigitRun) → r.least ≤ r.most → in_run r r.least ≡ true
least_is_in r h = rw (le-leb r.least r.least (omega arith), le-leb r.least r.most h) refl

run_is_there : (runs : List DigitRun) → 1 ≤ length runs → AreDigits runs → (d : ℕ) × (d ≤ 9) × (list_any (λ r. in_run r d) runs ≡ true)
run_is_there [] some h = absurd (omega (arith, some))
run_is_there (r ∷ rs) some h = (r.least, omega (arith, h.0.0, h.0.1), ap (λ (t : Bool). t || list_any (λ q. in_run q r.least) rs) (least_is_in r h.0.0))

class_shaped : (text : List ℕ) (s : DigitSet) → SpellsClass text s → IsDigitSet s
class_shaped text s h =
    let there = run_is_there h.runs h.some (runs_are_digits h.parts h.runs h.each) in
    (some_bit s.0 there.0 (h.is.1 there.0 there.1 ∙ there.2), h.is.0)

digit_shaped : (s : DigitSet) (d : ℕ) → d ≤ 9 → s.0 ≡ 2 ^ d → IsDigitSet s
digit_shaped s d h e =
    let p : 1 ≤ 2 ^ d = pow_pos d in
    let q : 2 ^ d ≤ 2 ^ 9 = pow_mono h in
    (omega (arith, e, p), omega (arith, e, q))

digit_set_shaped : (text : List ℕ) (s : DigitSet) → SpellsDigitSet text s → IsDigitSet s
digit_set_shaped text s (inl h) = digit_shaped s h.0 h.1 h.3
digit_set_shaped text s (inr h) = class_shaped text s h

pub word_shaped : (text : List ℕ) (w : DigitWord) → SpellsWord text w → IsDigitWord w
word_shaped text Any h = tt
word_shaped text (Digits ss) h = (h.3, h.4, each_all SpellsDigitSet IsDigitSet digit_set_shaped h.0 ss h.2)

pub set_shaped : (text : List ℕ) (ws : List DigitWord) → SpellsSet text ws → AreDigitWords ws
set_shaped text ws (inl h) = subst (λ (vs : List DigitWord). AreDigitWords vs) (sym h.1) (omega arith, (word_shaped text h.0 h.2, tt))
set_shaped text ws (inr h) = (h.3, each_all SpellsWord IsDigitWord word_shaped h.0 ws h.2)

tail_shaped : (text : List ℕ) (t : Tail) → SpellsTail text t → IsTail t
tail_shaped text t h = set_shaped h.0 t.words h.2

pub piece_shaped : (text : List ℕ) (p : Piece) → SpellsPiece text p → IsPiece p
piece_shaped text Anything h = tt
piece_shaped text (Set s) h = (set_shaped h.0 s.words h.3, each_all SpellsTail IsTail tail_shaped h.1 s.tails h.4)

branch_shaped : (text : List ℕ) (b : IosBranch) → SpellsBranch text b → IsBranch b
branch_shaped text EmptyPath h = tt
branch_shaped text (Pieces b) h = h.3

pub is_shaped : (text : List ℕ) (bs : List IosBranch) → SpellsPattern text bs → IsShaped bs
is_shaped text bs h = (h.some, each_all SpellsBranch IsBranch branch_shaped h.parts bs h.each)
