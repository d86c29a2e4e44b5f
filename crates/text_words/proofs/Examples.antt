-- Worked examples that the checker computes.
use Rattle.std.proofs.Common.{◌≡◌, refl, ℕ, true, false, List, [], ◌∷◌, ◌++◌, map}
use Rattle.std.specs.Prelude.{codes}
use Rattle.text_words.specs.Pieces.{Piece, pieces_text, placed, words_text, line_pieces}
use Rattle.text_words.specs.Signs.{are_words}
use Rattle.text_words.specs.LineCut.{lines_from, line_cut}
use Rattle.text_words.specs.IosCut.{ios_cut}
use Rattle.text_words.specs.LineText.{line_signs, lines_text, lines_placed}

-- ---- pieces

-- a word, one in quotes right behind it, and one behind two spaces
abbrev three : List Piece
three = record { gap = 0; text = codes "as-path"; quoted = false } ∷ record { gap = 1; text = codes ".*"; quoted = true } ∷ record { gap = 2; text = codes "x"; quoted = false } ∷ []

three_text : pieces_text 34 three ≡ codes "as-path " ++ (34 ∷ codes ".*" ++ (34 ∷ codes "  x"))
unfolding pieces_text
three_text = refl

three_spans : map {B = ℕ × ℕ} (λ w. (w.span.start, w.span.end)) (placed 5 three) ≡ (5, 12) ∷ (13, 17) ∷ (19, 20) ∷ []
unfolding placed
three_spans = refl

one_space : words_text (codes "set" ∷ codes "metric" ∷ codes "5" ∷ []) ≡ codes "set metric 5"
unfolding words_text
one_space = refl

run_together : are_words line_signs (record { gap = 0; text = codes "set"; quoted = false } ∷ record { gap = 0; text = codes "metric"; quoted = false } ∷ []) ≡ false
unfolding are_words
run_together = refl

-- ---- lines

-- a comment, a line in the first column and one behind a blank, with CR LF
abbrev sample : List ℕ
sample = codes "! R1" ++ (10 ∷ codes "route-map IN permit 10" ++ (13 ∷ 10 ∷ codes "  set metric 5" ++ (10 ∷ [])))

cut_texts : map (λ s. map (λ w. w.text) s.words) (ios_cut sample) ≡ (codes "route-map" ∷ codes "IN" ∷ codes "permit" ∷ codes "10" ∷ []) ∷ (codes "set" ∷ codes "metric" ∷ codes "5" ∷ []) ∷ []
unfolding ios_cut line_cut lines_from
cut_texts = refl

cut_depths : map (λ s. s.depth) (ios_cut sample) ≡ 0 ∷ 1 ∷ []
unfolding ios_cut line_cut lines_from
cut_depths = refl

cut_spans : map {B = ℕ × ℕ} (λ s. (s.span.start, s.span.end)) (ios_cut sample) ≡ (5, 27) ∷ (31, 43) ∷ []
unfolding ios_cut line_cut lines_from
cut_spans = refl

-- the last LF begins no line, and an empty line is one
cut_lines : map (λ s. map (λ w. w.text) s.words) (line_cut (codes "a" ++ (10 ∷ 10 ∷ codes "b " ++ (9 ∷ 10 ∷ [])))) ≡ (codes "a" ∷ []) ∷ [] ∷ (codes "b" ∷ []) ∷ []
unfolding line_cut lines_from
cut_lines = refl

-- what is written is read
written_read : ios_cut (lines_text (line_pieces 0 (codes "router" ∷ []) ∷ line_pieces 1 (codes "set" ∷ codes "med" ∷ []) ∷ [])) ≡ lines_placed 0 (line_pieces 0 (codes "router" ∷ []) ∷ line_pieces 1 (codes "set" ∷ codes "med" ∷ []) ∷ [])
unfolding ios_cut line_cut lines_from lines_text lines_placed pieces_text placed
written_read = refl
