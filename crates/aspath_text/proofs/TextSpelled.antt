-- The text of a pattern spells the pattern.
use Rattle.std.proofs.Common.{◌≡◌, refl, sym, ◌∙◌, ap, ℕ, ◌≤◌, List, [], ◌∷◌, ◌++◌, length, map, flat_map, inl, inr}
use Rattle.std.specs.List.{concat, AllByRecursion}
use Rattle.std.proofs.lemmas.List.Concat.{concat_is}
use Rattle.std.proofs.lemmas.List.Folds.{flat_map-map}
use Rattle.path_patterns.specs.Shape.{IsDigitWord, AreDigitWords, IsTail, IsPiece, IsBranch}
use Rattle.aspath_text.specs.IosGrammar.{SpellsDigitSet, SpellsWord, SpellsSet, SpellsTail, SpellsPiece, SpellsBranch, SpellsPattern}
use Rattle.aspath_text.specs.IosText.{digit_set_text, word_text, set_text, tail_text, piece_text, branch_text, ios_text, IsRunTail, IsRunPiece, IsRunBranch, IsPrintable}
use Rattle.path_patterns.specs.RangeWords.{IsRun, IsRunWord, AreRuns}
use Rattle.path_patterns.specs.declared.pattern.IosBranch.{IosBranch}
use Rattle.path_patterns.specs.declared.pattern.IosBranch.TheVariants.{EmptyPath, Pieces}
use Rattle.path_patterns.specs.declared.pattern.Piece.{Piece}
use Rattle.path_patterns.specs.declared.pattern.Piece.TheVariants.{Anything, Set}
use Rattle.path_patterns.specs.declared.pattern.DigitWord.{DigitWord}
use Rattle.path_patterns.specs.declared.pattern.DigitWord.TheVariants.{Any, Digits}
use Rattle.path_patterns.specs.declared.pattern.Tail.{Tail}
use Rattle.path_patterns.proofs.Lists.{each_spelled, each_of_both}
use Rattle.aspath_text.proofs.RunText.{digit_set_spelled}

-- the texts of some things, one after the other
flat_concat : {A : Type 0} (f : A → List ℕ) (xs : List A) → flat_map f xs ≡ concat (map f xs)
flat_concat f xs = sym (concat_is (map f xs) ∙ flat_map-map (λ t. t) f xs)

word_spelled : (w : DigitWord) → IsDigitWord w → IsRunWord w → SpellsWord (word_text w) w
word_spelled Any h r = refl
word_spelled (Digits ss) h r = (map digit_set_text ss, flat_concat digit_set_text ss, each_spelled IsRun SpellsDigitSet digit_set_text digit_set_spelled ss r, h.0, h.1)

set_spelled : (ws : List DigitWord) → AreDigitWords ws → AreRuns ws → SpellsSet (set_text ws) ws
set_spelled [] h r = inr ([], refl, tt, h.0)
set_spelled (w ∷ []) h r = inl (w, refl, word_spelled w h.1.0 r.0)
set_spelled (w ∷ v ∷ ws) h r =
    inr (map word_text (w ∷ v ∷ ws), refl, each_of_both IsDigitWord IsRunWord SpellsWord word_text word_spelled (w ∷ v ∷ ws) h.1 r, h.0)

tail_spelled : (t : Tail) → IsTail t → IsRunTail t → SpellsTail (tail_text t.words t.repeat) t
tail_spelled t h r = (set_text t.words, refl, set_spelled t.words h r)

piece_spelled : (p : Piece) → IsPiece p → IsRunPiece p → SpellsPiece (piece_text p) p
piece_spelled Anything h r = refl
piece_spelled (Set s) h r = (
  set_text s.words,
  map (λ (t : Tail). tail_text t.words t.repeat) s.tails,
  ap (λ (x : List ℕ). set_text s.words ++ x) (flat_concat (λ (t : Tail). tail_text t.words t.repeat) s.tails),
  set_spelled s.words h.0 r.0,
  each_of_both IsTail IsRunTail SpellsTail (λ (t : Tail). tail_text t.words t.repeat) tail_spelled s.tails h.1 r.1,
)

branch_spelled : (b : IosBranch) → IsBranch b → IsRunBranch b → SpellsBranch (branch_text b) b
branch_spelled EmptyPath h r = refl
branch_spelled (Pieces b) h r =
    (map piece_text b.pieces, refl, each_of_both IsPiece IsRunPiece SpellsPiece piece_text piece_spelled b.pieces h.0 r, h)

-- the text of branches that can be written spells them
pub pattern_spelled : (bs : List IosBranch) → 1 ≤ length bs → AllByRecursion IsPrintable bs → SpellsPattern (ios_text bs) bs
pattern_spelled bs some h = record { parts = map branch_text bs; spelled = refl; each = each_spelled IsPrintable SpellsBranch branch_text (λ b k. branch_spelled b k.0 k.1) bs h; some = some }
