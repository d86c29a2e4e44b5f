-- What is written in pieces is read as their words, by any reader that keeps to the signs.
use Rattle.std.proofs.Common.{◌≡◌, refl, sym, ap, subst, ◌∙◌, ℕ, suc, zero, ◌+◌, ltb, Bool, true, false, ◌&&◌, ◌||◌, List, [], ◌∷◌, ◌++◌, length, append_assoc, add-zero, arith, length-append}
use Rattle.std.proofs.lemmas.Bool.{and_parts}
use Rattle.text_words.specs.declared.statement.Word.{Word}
use Rattle.text_words.specs.Pieces.{Piece, spaces, word_then, pieces_text, word_size, word_at, placed, text_behind, words_text, pieces_behind, line_pieces}
use Rattle.text_words.specs.Signs.{Signs, is_mark_text, is_closed, is_word, ends_word, are_words}
use Rattle.text_words.specs.Lexes.{Lexes, front}

-- ---- the text of a piece

word_onto : (quote : ℕ) (text : List ℕ) (quoted : Bool) (more rest : List ℕ) → word_then quote text quoted more ++ rest ≡ word_then quote text quoted (more ++ rest)
word_onto quote text true more rest = ap (λ (cs : List ℕ). quote ∷ cs) (append_assoc text (quote ∷ more) rest)
word_onto quote text false more rest = append_assoc text more rest

pub piece_onto : (quote gap : ℕ) (text : List ℕ) (quoted : Bool) (more rest : List ℕ) → (spaces gap ++ word_then quote text quoted more) ++ rest ≡ spaces gap ++ word_then quote text quoted (more ++ rest)
piece_onto quote gap text quoted more rest = append_assoc (spaces gap) (word_then quote text quoted more) rest ∙ ap (λ (cs : List ℕ). spaces gap ++ cs) (word_onto quote text quoted more rest)

spaces_length : (n : ℕ) → length (spaces n) ≡ n
spaces_length zero = refl
spaces_length (suc n) = ap suc (spaces_length n)

word_length : (quote : ℕ) (text : List ℕ) (quoted : Bool) (more : List ℕ) → length (word_then quote text quoted more) ≡ word_size text quoted + length more
word_length quote text true more = omega (arith, length-append text (quote ∷ more))
word_length quote text false more = length-append text more

piece_length : (quote gap : ℕ) (text : List ℕ) (quoted : Bool) (more : List ℕ) → length (spaces gap ++ word_then quote text quoted more) ≡ gap + word_size text quoted + length more
piece_length quote gap text quoted more = omega (arith, length-append (spaces gap) (word_then quote text quoted more), spaces_length gap, word_length quote text quoted more)

or_right : (a b : Bool) → a ≡ false → (a || b) ≡ true → b ≡ true
or_right true b none e = absurd cc
or_right false b none e = e

-- spaces are passed over
pub skips : {R : Type 0} (s : Signs) (read : ℕ → List ℕ → R) (onto : Word → R → R) (Stops : List ℕ → Type 0) → Lexes s read onto Stops → (n p : ℕ) (rest : List ℕ) → read p (spaces n ++ rest) ≡ read (p + n) rest
skips s read onto Stops h zero p rest = ap (λ (q : ℕ). read q rest) (sym (add-zero p))
skips s read onto Stops h (suc n) p rest =
    let place : p + 1 + n ≡ p + suc n = omega arith in
    h.blank p (spaces n ++ rest) ∙ skips s read onto Stops h n (p + 1) rest ∙ ap (λ (q : ℕ). read q rest) place

-- a text that is a mark is its byte
mark_read : {R : Type 0} (s : Signs) (read : ℕ → List ℕ → R) (onto : Word → R → R) (Stops : List ℕ → Type 0) → Lexes s read onto Stops → (p : ℕ) (text rest : List ℕ) → is_mark_text s text ≡ true → read p (text ++ rest) ≡ onto (word_at p text false) (read (p + length text) rest)
mark_read s read onto Stops h p [] rest e = absurd cc
mark_read s read onto Stops h p (c ∷ []) rest e = h.mark p c rest e
mark_read s read onto Stops h p (c ∷ d ∷ cs) rest e = absurd cc

bare_read : {R : Type 0} (s : Signs) (read : ℕ → List ℕ → R) (onto : Word → R → R) (Stops : List ℕ → Type 0) → Lexes s read onto Stops → (p : ℕ) (text rest : List ℕ) (mark : Bool) → is_mark_text s text ≡ mark → (mark || s.is_plain text) ≡ true → (mark ≡ false → Stops rest) → read p (text ++ rest) ≡ onto (word_at p text false) (read (p + length text) rest)
bare_read s read onto Stops h p text rest true is fits stops = mark_read s read onto Stops h p text rest is
bare_read s read onto Stops h p text rest false is fits stops = h.plain p text rest fits (stops refl)

-- a word is read in front of what follows, which stops it where it is plain
word_read : {R : Type 0} (s : Signs) (read : ℕ → List ℕ → R) (onto : Word → R → R) (Stops : List ℕ → Type 0) → Lexes s read onto Stops → (p : ℕ) (text : List ℕ) (quoted : Bool) (rest : List ℕ) → is_word s text quoted ≡ true → (is_closed s text quoted ≡ false → Stops rest) → read p (word_then s.quote text quoted rest) ≡ onto (word_at p text quoted) (read (p + word_size text quoted) rest)
word_read s read onto Stops h p text true rest fits stops = h.quoted p text rest fits
word_read s read onto Stops h p text false rest fits stops = bare_read s read onto Stops h p text rest (is_mark_text s text) refl fits stops

-- ---- what stops a plain word

mark_stops : {R : Type 0} (s : Signs) (read : ℕ → List ℕ → R) (onto : Word → R → R) (Stops : List ℕ → Type 0) → Lexes s read onto Stops → (text : List ℕ) (quoted : Bool) (rest : List ℕ) → is_word s text quoted ≡ true → is_closed s text quoted ≡ true → Stops (word_then s.quote text quoted rest)
mark_stops s read onto Stops h text true rest fits closed = h.at_quote text rest fits
mark_stops s read onto Stops h [] false rest fits closed = absurd cc
mark_stops s read onto Stops h (c ∷ []) false rest fits closed = h.at_mark c rest closed
mark_stops s read onto Stops h (c ∷ d ∷ cs) false rest fits closed = absurd cc

piece_stops : {R : Type 0} (s : Signs) (read : ℕ → List ℕ → R) (onto : Word → R → R) (Stops : List ℕ → Type 0) → Lexes s read onto Stops → (gap : ℕ) (text : List ℕ) (quoted : Bool) (rest : List ℕ) → is_word s text quoted ≡ true → (ltb 0 gap || is_closed s text quoted) ≡ true → Stops (spaces gap ++ word_then s.quote text quoted rest)
piece_stops s read onto Stops h zero text quoted rest fits closed = mark_stops s read onto Stops h text quoted rest fits closed
piece_stops s read onto Stops h (suc n) text quoted rest fits closed = h.at_blank (spaces n ++ word_then s.quote text quoted rest)

pieces_stop : {R : Type 0} (s : Signs) (read : ℕ → List ℕ → R) (onto : Word → R → R) (Stops : List ℕ → Type 0) → Lexes s read onto Stops → (xs : List Piece) (rest : List ℕ) → are_words s xs ≡ true → ends_word s xs ≡ true → Stops rest → Stops (pieces_text s.quote xs ++ rest)
unfolding pieces_text are_words
pieces_stop s read onto Stops h [] rest fits ends stops = stops
pieces_stop s read onto Stops h (x ∷ xs) rest fits ends stops =
    let q = and_parts (is_word s x.text x.quoted) ((is_closed s x.text x.quoted || ends_word s xs) && are_words s xs) fits in
    subst Stops (sym (piece_onto s.quote x.gap x.text x.quoted (pieces_text s.quote xs) rest)) (piece_stops s read onto Stops h x.gap x.text x.quoted (pieces_text s.quote xs ++ rest) q.0 ends)

-- ---- the law

-- written words are read at their places, in front of what is read behind them
pub words_read : {R : Type 0} (s : Signs) (read : ℕ → List ℕ → R) (onto : Word → R → R) (Stops : List ℕ → Type 0) → Lexes s read onto Stops → (xs : List Piece) (p : ℕ) (rest : List ℕ) → are_words s xs ≡ true → Stops rest → read p (pieces_text s.quote xs ++ rest) ≡ front onto (placed p xs) (read (p + length (pieces_text s.quote xs)) rest)
unfolding pieces_text placed are_words
words_read s read onto Stops h [] p rest fits stops = ap (λ (q : ℕ). read q rest) (sym (add-zero p))
words_read s read onto Stops h (x ∷ xs) p rest fits stops =
    let more = pieces_text s.quote xs in
    let at = p + x.gap in
    let behind = at + word_size x.text x.quoted in
    let q = and_parts (is_word s x.text x.quoted) ((is_closed s x.text x.quoted || ends_word s xs) && are_words s xs) fits in
    let r = and_parts (is_closed s x.text x.quoted || ends_word s xs) (are_words s xs) q.1 in
    let ends : is_closed s x.text x.quoted ≡ false → Stops (more ++ rest) = λ e. pieces_stop s read onto Stops h xs rest r.1 (or_right (is_closed s x.text x.quoted) (ends_word s xs) e r.0) stops in
    let place : behind + length more ≡ p + length (spaces x.gap ++ word_then s.quote x.text x.quoted more) = omega (arith, piece_length s.quote x.gap x.text x.quoted more) in
    ap (read p) (piece_onto s.quote x.gap x.text x.quoted more rest)
    ∙ skips s read onto Stops h x.gap p (word_then s.quote x.text x.quoted (more ++ rest))
    ∙ word_read s read onto Stops h at x.text x.quoted (more ++ rest) q.0 ends
    ∙ ap (onto (word_at at x.text x.quoted)) (words_read s read onto Stops h xs behind rest r.1 stops ∙ ap (λ (n : ℕ). front onto (placed behind xs) (read n rest)) place)

-- ---- words with one space between them

behind_pieces : (quote : ℕ) (ws : List (List ℕ)) → text_behind ws ≡ pieces_text quote (pieces_behind ws)
unfolding pieces_text
behind_pieces quote [] = refl
behind_pieces quote (w ∷ ws) = ap (λ (cs : List ℕ). 32 ∷ (w ++ cs)) (behind_pieces quote ws)

-- they are the text of the pieces of a line
pub words_pieces : (quote : ℕ) (ws : List (List ℕ)) → words_text ws ≡ pieces_text quote (line_pieces 0 ws)
unfolding pieces_text words_text
words_pieces quote [] = refl
words_pieces quote (w ∷ ws) = ap (λ (cs : List ℕ). w ++ cs) (behind_pieces quote ws)
