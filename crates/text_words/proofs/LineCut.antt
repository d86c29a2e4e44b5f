-- The steps of the cut of lines.
use Rattle.std.proofs.Common.{◌≡◌, refl, sym, ℕ, ◌+◌, List, [], ◌∷◌, ◌++◌, append_assoc}
use Rattle.text_words.specs.declared.statement.Statement.{Statement}
use Rattle.text_words.specs.declared.line_cut.ByteSort.TheVariants.{LineEnd, Dropped, Blank, Letter}
use Rattle.text_words.specs.declared.line_cut.LineBegun.{LineBegun}
use Rattle.text_words.specs.LineCut.{sort_at, words_of, line_from, behind_blank, behind_letter, line_statement, lines_from}

pub at_end : (ss : List Statement) (l : LineBegun) (p c : ℕ) (cs : List ℕ) → sort_at c cs ≡ LineEnd → ss ++ lines_from l p (c ∷ cs) ≡ (ss ++ line_statement l.start (words_of l) ∷ []) ++ lines_from (line_from (p + 1)) (p + 1) cs
unfolding lines_from
at_end ss l p c cs e = rw (lines_from, e) (sym (append_assoc ss (line_statement l.start (words_of l) ∷ []) (lines_from (line_from (p + 1)) (p + 1) cs)))

pub at_blank : (l : LineBegun) (p c : ℕ) (cs : List ℕ) → sort_at c cs ≡ Blank → lines_from l p (c ∷ cs) ≡ lines_from (behind_blank l (p + 1)) (p + 1) cs
unfolding lines_from
at_blank l p c cs e = rw (lines_from, e) refl

pub at_dropped : (l : LineBegun) (p c : ℕ) (cs : List ℕ) → sort_at c cs ≡ Dropped → lines_from l p (c ∷ cs) ≡ lines_from l (p + 1) cs
unfolding lines_from
at_dropped l p c cs e = rw (lines_from, e) refl

pub at_letter : (l : LineBegun) (p c : ℕ) (cs : List ℕ) → sort_at c cs ≡ Letter → lines_from l p (c ∷ cs) ≡ lines_from (behind_letter l c) (p + 1) cs
unfolding lines_from
at_letter l p c cs e = rw (lines_from, e) refl
