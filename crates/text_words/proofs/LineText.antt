-- The lines that are written are the lines that are read.
use Rattle.std.proofs.Common.{◌≡◌, refl, sym, ap, ◌∙◌, ℕ, ◌+◌, Bool, true, false, ◌&&◌, ◌||◌, not, List, [], ◌∷◌, ◌++◌, length, map, append_assoc, append-nil, add-zero, arith}
use Rattle.std.specs.Prelude.{◌==◌}
use Rattle.std.specs.List.{list_all, filter}
use Rattle.std.proofs.lemmas.Bool.{and_parts, eq-eqb}
use Rattle.text_words.specs.Text.{is_blank, starts_with_byte}
use Rattle.text_words.specs.Pieces.{Piece, pieces_text, word_at, placed, texts, words_text, pieces_behind, line_pieces}
use Rattle.text_words.specs.Signs.{is_mark_text, ends_word, are_words}
use Rattle.text_words.specs.Lexes.{Lexes, front}
use Rattle.text_words.specs.LineCut.{sort_at, with_word, line_from, line_statement, last_line, lines_from, line_cut}
use Rattle.text_words.specs.IosCut.{is_said, ios_cut}
use Rattle.text_words.specs.LineText.{is_letter, is_plain, line_signs, lines_text, text_of_lines, words_of_lines, lines_placed, is_no_remark, is_line}
use Rattle.text_words.specs.declared.statement.Word.{Word}
use Rattle.text_words.specs.declared.statement.Statement.{Statement}
use Rattle.text_words.specs.declared.line_cut.ByteSort.TheVariants.{LineEnd, Dropped, Blank, Letter}
use Rattle.text_words.proofs.Lexes.{words_read, words_pieces}
use Rattle.text_words.proofs.LineCut.{at_letter}

-- ---- a line read by its words

-- the lines from place p on, where the line that starts at place l has these words
read : ℕ → ℕ → List ℕ → List Word → List Statement
unfolding lines_from
read l p text = λ words. lines_from (record { start = l; words = words; word_start = p; word = [] }) p text

-- one more word
onto : Word → (List Word → List Statement) → List Word → List Statement
onto w more = λ words. more (words ++ w ∷ [])

-- a word that has begun ends here
Stops : ℕ → List ℕ → Type 0
Stops l rest = (words : List Word) (p q c : ℕ) (cs : List ℕ) → lines_from (record { start = l; words = words; word_start = p; word = c ∷ cs }) q rest ≡ lines_from (record { start = l; words = with_word words p (c ∷ cs); word_start = q; word = [] }) q rest

letter_by : (a b d e : Bool) → not (a || (b || d)) ≡ true → (elim a [ true ↦ LineEnd | false ↦ elim b [ true ↦ Blank | false ↦ elim (d && e) [ true ↦ Dropped | false ↦ Letter ] ] ]) ≡ Letter
letter_by true b d e h = absurd cc
letter_by false true d e h = absurd cc
letter_by false false true e h = absurd cc
letter_by false false false e h = refl

letter_sort : (c : ℕ) (cs : List ℕ) → is_letter c ≡ true → sort_at c cs ≡ Letter
letter_sort c cs h = letter_by (c == 10) (is_blank c) (c == 13) (starts_with_byte 10 cs) h

-- letters are more of the word that has begun
letters : (l q p : ℕ) (words : List Word) (word text rest : List ℕ) → list_all is_letter text ≡ true → lines_from (record { start = l; words = words; word_start = q; word = word }) p (text ++ rest) ≡ lines_from (record { start = l; words = words; word_start = q; word = word ++ text }) (p + length text) rest
letters l q p words word [] rest h =
    ap (λ (w : List ℕ). lines_from (record { start = l; words = words; word_start = q; word = w }) p rest) (sym (append-nil word))
    ∙ ap (λ (n : ℕ). lines_from (record { start = l; words = words; word_start = q; word = word ++ [] }) n rest) (sym (add-zero p))
letters l q p words word (c ∷ cs) rest h =
    let k = and_parts (is_letter c) (list_all is_letter cs) h in
    let place : p + 1 + length cs ≡ p + length (c ∷ cs) = omega arith in
    at_letter (record { start = l; words = words; word_start = q; word = word }) p c (cs ++ rest) (letter_sort c (cs ++ rest) k.0)
    ∙ letters l q (p + 1) words (word ++ c ∷ []) cs rest k.1
    ∙ ap (λ (w : List ℕ). lines_from (record { start = l; words = words; word_start = q; word = w }) (p + 1 + length cs) rest) (append_assoc word (c ∷ []) cs)
    ∙ ap (λ (n : ℕ). lines_from (record { start = l; words = words; word_start = q; word = word ++ c ∷ cs }) n rest) place

word_read : (l p : ℕ) (text rest : List ℕ) → is_plain text ≡ true → Stops l rest → (words : List Word) → read l p (text ++ rest) words ≡ onto (word_at p text false) (read l (p + length text) rest) words
unfolding read onto Stops
word_read l p [] rest h stops words = absurd cc
word_read l p (c ∷ cs) rest h stops words = letters l p p words [] (c ∷ cs) rest h ∙ stops words p (p + length (c ∷ cs)) c cs

line_lexes : (l : ℕ) → Lexes line_signs (read l) onto (Stops l)
unfolding read onto Stops lines_from
line_lexes l = record {
  blank = λ p rest. refl;
  plain = λ p text rest h stops. λ i words. word_read l p text rest h stops words i;
  mark = λ p c rest h. absurd cc;
  quoted = λ p text rest h. absurd cc;
  at_blank = λ rest words p q c cs. refl;
  at_mark = λ c rest h. absurd cc;
  at_quote = λ text rest h. absurd cc;
}

stops_end : (l : ℕ) (rest : List ℕ) → Stops l (10 ∷ rest)
unfolding Stops lines_from
stops_end l rest words p q c cs = refl

-- words in front are words of the line
front_words : (ws words : List Word) (more : List Word → List Statement) → front onto ws more words ≡ more (words ++ ws)
unfolding onto
front_words [] words more = ap more (sym (append-nil words))
front_words (w ∷ ws) words more = front_words ws (words ++ w ∷ []) more ∙ ap more (append_assoc words (w ∷ []) ws)

-- ---- the laws

no_line : (p : ℕ) → last_line (line_from p) p ≡ []
no_line p = rw (last_line, eq-eqb p p refl) refl

lines_behind : (p : ℕ) (ls : List (List Piece)) → list_all (are_words line_signs) ls ≡ true → lines_from (line_from p) p (lines_text ls) ≡ lines_placed p ls
unfolding lines_from lines_text lines_placed read
lines_behind p [] h = no_line p
lines_behind p (l ∷ ls) h =
    let k = and_parts (are_words line_signs l) (list_all (are_words line_signs) ls) h in
    let behind = p + length (pieces_text 0 l) in
    ap (λ (r : List Word → List Statement). r []) (words_read line_signs (read p) onto (Stops p) (line_lexes p) l p (10 ∷ lines_text ls) k.0 (stops_end p (lines_text ls)))
    ∙ front_words (placed p l) [] (read p behind (10 ∷ lines_text ls))
    ∙ ap (λ (ss : List Statement). line_statement p (placed p l) ∷ ss) (lines_behind (behind + 1) ls k.1)

-- the lines of written lines are these lines
pub lines_read : (ls : List (List Piece)) → list_all (are_words line_signs) ls ≡ true → line_cut (lines_text ls) ≡ lines_placed 0 ls
unfolding line_cut
lines_read ls h = lines_behind 0 ls h

-- ---- lines of words

and_both : {a b : Bool} → a ≡ true → b ≡ true → (a && b) ≡ true
and_both {a} {b} e f = rw (e, f) refl

or_with : (a b : Bool) → b ≡ true → (a || b) ≡ true
or_with true b e = refl
or_with false b e = e

ends_behind : (ws : List (List ℕ)) → ends_word line_signs (pieces_behind ws) ≡ true
ends_behind [] = refl
ends_behind (w ∷ ws) = refl

plain_behind : (ws : List (List ℕ)) → list_all is_plain ws ≡ true → are_words line_signs (pieces_behind ws) ≡ true
unfolding are_words
plain_behind [] h = refl
plain_behind (w ∷ ws) h =
    let k = and_parts (is_plain w) (list_all is_plain ws) h in
    and_both (or_with (is_mark_text line_signs w) (is_plain w) k.0) (and_both (or_with (is_mark_text line_signs w) (ends_word line_signs (pieces_behind ws)) (ends_behind ws)) (plain_behind ws k.1))

plain_line : (ws : List (List ℕ)) → list_all is_plain ws ≡ true → are_words line_signs (line_pieces 0 ws) ≡ true
unfolding are_words
plain_line [] h = refl
plain_line (w ∷ ws) h = plain_behind (w ∷ ws) h

plain_lines : (ls : List (List (List ℕ))) → list_all (list_all is_plain) ls ≡ true → list_all (are_words line_signs) (map (line_pieces 0) ls) ≡ true
plain_lines [] h = refl
plain_lines (l ∷ ls) h = let k = and_parts (list_all is_plain l) (list_all (list_all is_plain) ls) h in and_both (plain_line l k.0) (plain_lines ls k.1)

texts_behind : (p : ℕ) (ws : List (List ℕ)) → texts (placed p (pieces_behind ws)) ≡ ws
unfolding placed
texts_behind p [] = refl
texts_behind p (w ∷ ws) = ap (λ (vs : List (List ℕ)). w ∷ vs) (texts_behind (p + 1 + length w) ws)

texts_line : (p : ℕ) (ws : List (List ℕ)) → texts (placed p (line_pieces 0 ws)) ≡ ws
unfolding placed
texts_line p [] = refl
texts_line p (w ∷ ws) = ap (λ (vs : List (List ℕ)). w ∷ vs) (texts_behind (p + 0 + length w) ws)

texts_lines : (p : ℕ) (ls : List (List (List ℕ))) → words_of_lines (lines_placed p (map (line_pieces 0) ls)) ≡ ls
unfolding lines_placed
texts_lines p [] = refl
texts_lines p (l ∷ ls) =
    let q = p + length (pieces_text 0 (line_pieces 0 l)) + 1 in
    ap (λ (ws : List (List ℕ)). ws ∷ words_of_lines (lines_placed q (map (line_pieces 0) ls))) (texts_line p l) ∙ ap (λ (vs : List (List (List ℕ))). l ∷ vs) (texts_lines q ls)

pieces_of_lines : (ls : List (List (List ℕ))) → text_of_lines ls ≡ lines_text (map (line_pieces 0) ls)
unfolding text_of_lines lines_text
pieces_of_lines [] = refl
pieces_of_lines (l ∷ ls) =
    append_assoc (words_text l) (10 ∷ []) (text_of_lines ls)
    ∙ ap (λ (t : List ℕ). t ++ (10 ∷ text_of_lines ls)) (words_pieces 0 l)
    ∙ ap (λ (t : List ℕ). pieces_text 0 (line_pieces 0 l) ++ (10 ∷ t)) (pieces_of_lines ls)

-- lines of words are read as they are written
pub words_of_lines_read : (ls : List (List (List ℕ))) → list_all (list_all is_plain) ls ≡ true → words_of_lines (line_cut (text_of_lines ls)) ≡ ls
words_of_lines_read ls h =
    ap (λ (t : List ℕ). words_of_lines (line_cut t)) (pieces_of_lines ls)
    ∙ ap words_of_lines (lines_read (map (line_pieces 0) ls) (plain_lines ls h))
    ∙ texts_lines 0 ls

-- ---- IOS

said : (p : ℕ) (l : List Piece) → is_said (placed p l) ≡ is_no_remark l
unfolding placed
said p [] = refl
said p (x ∷ xs) = refl

are_said : (p : ℕ) (ls : List (List Piece)) → list_all is_line ls ≡ true → filter (λ s. is_said s.words) (lines_placed p ls) ≡ lines_placed p ls
unfolding lines_placed
are_said p [] h = refl
are_said p (l ∷ ls) h =
    let k = and_parts (is_line l) (list_all is_line ls) h in
    let first = and_parts (are_words line_signs l) (is_no_remark l) k.0 in
    rw (said p l, first.1) (ap (λ (ss : List Statement). line_statement p (placed p l) ∷ ss) (are_said (p + length (pieces_text 0 l) + 1) ls k.1))

are_lines : (ls : List (List Piece)) → list_all is_line ls ≡ true → list_all (are_words line_signs) ls ≡ true
are_lines [] h = refl
are_lines (l ∷ ls) h =
    let k = and_parts (is_line l) (list_all is_line ls) h in
    let first = and_parts (are_words line_signs l) (is_no_remark l) k.0 in
    rw first.0 (are_lines ls k.1)

-- the cut of a written IOS text is the statements that were written
pub ios_read : (ls : List (List Piece)) → list_all is_line ls ≡ true → ios_cut (lines_text ls) ≡ lines_placed 0 ls
unfolding ios_cut
ios_read ls h = ap (filter (λ s. is_said s.words)) (lines_read ls (are_lines ls h)) ∙ are_said 0 ls h
