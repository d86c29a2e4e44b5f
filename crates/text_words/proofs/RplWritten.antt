-- RPL lines that are written are cut into their statements.
use Rattle.std.proofs.Common.{◌≡◌, refl, sym, ap, ◌∙◌, ℕ, suc, zero, ◌+◌, Bool, true, false, ◌&&◌, ◌||◌, not, List, [], ◌∷◌, ◌++◌, length, append_assoc, append-nil, Option, Some, None}
use Rattle.std.specs.Prelude.{codes}
use Rattle.std.specs.List.{list_all}
use Rattle.std.proofs.lemmas.Bool.{and_parts}
use Rattle.text_words.specs.Text.{starts_with_byte}
use Rattle.text_words.specs.declared.statement.Span.{Span}
use Rattle.text_words.specs.declared.statement.Word.{Word}
use Rattle.text_words.specs.declared.statement.Statement.{Statement}
use Rattle.text_words.specs.declared.statement.Ender.TheVariants.{Line, Comma, Plain}
use Rattle.text_words.specs.declared.rpl_blocks.BlockKind.{BlockKind}
use Rattle.text_words.specs.declared.rpl_blocks.BlockKind.TheVariants.{PrefixSet, CommunitySet, PathSet, Policy}
use Rattle.text_words.specs.declared.rpl_blocks.Place.TheVariants.{Outside as AtMargin, InSet as AtElement, InPolicy as AtStep}
use Rattle.text_words.specs.declared.rpl_words.ByteSort.{ByteSort}
use Rattle.text_words.specs.declared.rpl_words.Standing.TheVariants.{Margin, Behind}
use Rattle.text_words.specs.Pieces.{Piece, spaces, word_then, pieces_text, word_size, word_at, placed}
use Rattle.text_words.specs.Signs.{is_word as is_sign_word, is_mark_text, is_closed, ends_word, are_words}
use Rattle.text_words.specs.Lexes.{front}
use Rattle.text_words.specs.RplWords.{Lexeme, EndsLine, IsWord, is_remark, sort_at, past, given, lexemes}
use Rattle.text_words.specs.RplCut.{is_word, opening, behind_line, said, element, in_condition, starts_with, ends_with, Taken, goes_on, in_set, in_statement, in_policy, taken, cut_from, rpl_cut}
use Rattle.text_words.specs.RplText.{is_letter, is_plain, rpl_signs, RplLine, Remark, Header, Element, Step, EndSet, EndPolicy, bare, mark_behind, line_words, line_bytes, rpl_text, ender_of, rpl_placed, as_word, is_kept, is_inner, goes_to_end, is_step, is_line, Where, Outside, InSet, BehindComma, BehindElement, InPolicy, within, behind, MayBeWritten}
use Rattle.text_words.proofs.Lexes.{words_read, piece_onto}
use Rattle.text_words.proofs.RplLexes.{not_true, letter_sort, mark_sort, quote_sort, Stops, stops_at_end, onto, rpl_lexes}

-- ---- a line is read as its words

-- a byte of no blank and no dropped line is the same before the words of a line and behind one
margin_byte : (p c : ℕ) (cs : List ℕ) (s : ByteSort) → is_remark c ≡ false → sort_at c cs ≡ s
    → given Margin p c s (lexemes (past Margin p c s) (p + 1) cs) ≡ given Behind p c s (lexemes (past Behind p c s) (p + 1) cs) → lexemes Margin p (c ∷ cs) ≡ lexemes Behind p (c ∷ cs)
unfolding lexemes
margin_byte p c cs s none is same =
    rw (none, lexemes) (ap (λ (t : ByteSort). given Margin p c t (lexemes (past Margin p c t) (p + 1) cs)) is ∙ same ∙ sym (ap (λ (t : ByteSort). given Behind p c t (lexemes (past Behind p c t) (p + 1) cs)) is))

-- a plain word or a mark at the start of a line, which is not dropped
margin_bare : (p c : ℕ) (cs rest : List ℕ) (mark : Bool) → is_mark_text rpl_signs (c ∷ cs) ≡ mark → (mark || is_plain (c ∷ cs)) ≡ true → is_remark c ≡ false
    → lexemes Margin p (c ∷ (cs ++ rest)) ≡ lexemes Behind p (c ∷ (cs ++ rest))
margin_bare p c [] rest true is fits none = margin_byte p c rest _ none (mark_sort c rest is) refl
margin_bare p c (d ∷ ds) rest true is fits none = absurd cc
margin_bare p c cs rest false is fits none = margin_byte p c (cs ++ rest) _ none (letter_sort c (cs ++ rest) (and_parts (is_letter c) (list_all is_letter cs) fits).0) refl

margin_word : (p : ℕ) (text : List ℕ) (quoted : Bool) (rest : List ℕ) → is_sign_word rpl_signs text quoted ≡ true → (quoted || not (starts_with_byte 33 text || starts_with_byte 35 text)) ≡ true
    → lexemes Margin p (word_then 39 text quoted rest) ≡ lexemes Behind p (word_then 39 text quoted rest)
margin_word p text true rest fits kept = margin_byte p 39 (text ++ (39 ∷ rest)) _ refl (quote_sort text rest fits) refl
margin_word p [] false rest fits kept = absurd cc
margin_word p (c ∷ cs) false rest fits kept = margin_bare p c cs rest (is_mark_text rpl_signs (c ∷ cs)) refl fits (not_true (is_remark c) kept)

margin_gap : (n p : ℕ) (text : List ℕ) → ((q : ℕ) → lexemes Margin q text ≡ lexemes Behind q text) → lexemes Margin p (spaces n ++ text) ≡ lexemes Behind p (spaces n ++ text)
unfolding lexemes sort_at
margin_gap zero p text h = h p
margin_gap (suc n) p text h = margin_gap n (p + 1) text h

-- the words of a line that is kept, and the end of the line
line_read : (p : ℕ) (xs : List Piece) (rest : List ℕ) → are_words rpl_signs xs ≡ true → is_kept xs ≡ true
    → lexemes Margin p (pieces_text 39 xs ++ (10 ∷ rest)) ≡ front onto (placed p xs) (EndsLine ∷ lexemes Margin (p + length (pieces_text 39 xs) + 1) rest)
unfolding pieces_text are_words lexemes sort_at
line_read p [] rest fits kept = absurd cc
line_read p (x ∷ xs) rest fits kept =
    let behind = pieces_text 39 xs ++ (10 ∷ rest) in
    let e = piece_onto 39 x.gap x.text x.quoted (pieces_text 39 xs) (10 ∷ rest) in
    let q = and_parts (is_sign_word rpl_signs x.text x.quoted) ((is_closed rpl_signs x.text x.quoted || ends_word rpl_signs xs) && are_words rpl_signs xs) fits in
    ap (lexemes Margin p) e
    ∙ margin_gap x.gap p (word_then 39 x.text x.quoted behind) (λ n. margin_word n x.text x.quoted behind q.0 kept)
    ∙ ap (lexemes Behind p) (sym e)
    ∙ words_read rpl_signs (lexemes Behind) onto Stops rpl_lexes (x ∷ xs) p (10 ∷ rest) fits (stops_at_end rest)

-- ---- the words of a line are cut

-- outside blocks
line_cut : (acc ws : List Word) (ls : List Lexeme) → cut_from AtMargin acc (front onto ws (EndsLine ∷ ls)) ≡ said Line 0 (acc ++ ws) ++ cut_from (behind_line (acc ++ ws)) [] ls
unfolding cut_from taken
line_cut acc [] ls = ap (λ (ws : List Word). said Line 0 ws ++ cut_from (behind_line ws) [] ls) (sym (append-nil acc))
line_cut acc (w ∷ ws) ls =
    line_cut (acc ++ w ∷ []) ws ls ∙ ap (λ (vs : List Word). said Line 0 vs ++ cut_from (behind_line vs) [] ls) (append_assoc acc (w ∷ []) ws)

-- what is cut behind a word or a line end
abbrev reached : Taken → List Lexeme → List Statement
reached t ls = t.ended ++ cut_from t.place t.words ls

inner_word : (comma : Option Span) (acc : List Word) (p : ℕ) (x : Piece) → is_inner x ≡ true
    → in_set comma acc (word_at p x.text x.quoted) ≡ goes_on (AtElement comma) (acc ++ word_at p x.text x.quoted ∷ [])
inner_word comma acc p x h =
    let q = and_parts (not (is_word (codes "end-set") (as_word x))) (not (is_word (codes ",") (as_word x))) h in
    rw (not_true (is_word (codes "end-set") (as_word x)) q.0, not_true (is_word (codes ",") (as_word x)) q.1, in_set) refl

-- in a set, the words of an element and those behind it
inner_cut : (comma : Option Span) (acc : List Word) (xs ys : List Piece) (p : ℕ) (ls : List Lexeme) → list_all is_inner xs ≡ true
    → (q : ℕ) × (cut_from (AtElement comma) acc (front onto (placed p (xs ++ ys)) ls) ≡ cut_from (AtElement comma) (acc ++ placed p xs) (front onto (placed q ys) ls))
unfolding cut_from taken placed
inner_cut comma acc [] ys p ls h = (p, ap (λ (ws : List Word). cut_from (AtElement comma) ws (front onto (placed p ys) ls)) (sym (append-nil acc)))
inner_cut comma acc (x ∷ xs) ys p ls h =
    let q = and_parts (is_inner x) (list_all is_inner xs) h in
    let w = word_at (p + x.gap) x.text x.quoted in
    let next = p + x.gap + word_size x.text x.quoted in
    let m = inner_cut comma (acc ++ w ∷ []) xs ys next ls q.1 in (
      m.0,
      ap (λ (t : Taken). reached t (front onto (placed next (xs ++ ys)) ls)) (inner_word comma acc (p + x.gap) x q.0)
          ∙ m.1
          ∙ ap (λ (ws : List Word). cut_from (AtElement comma) ws (front onto (placed m.0 ys) ls)) (append_assoc acc (w ∷ []) (placed next xs)),
    )

last_word : (ends : Bool) (condition : Bool) (before : List Statement) (acc : List Word) (w : Word) (ls : List Lexeme) (out : List Statement) → ends_with condition w ≡ ends
    → in_condition condition w ≡ false → ((words : List Word) → cut_from (AtStep false) words ls ≡ said Plain 1 words ++ out)
    → reached (in_statement condition before acc w) (EndsLine ∷ ls) ≡ before ++ (said Plain 1 (acc ++ w ∷ []) ++ out)
unfolding cut_from taken
last_word true condition before acc w ls out ends none more =
    rw (ends, none, in_statement) (ap (λ (ss : List Statement). (before ++ said Plain 1 (acc ++ w ∷ [])) ++ ss) (more []) ∙ append_assoc before (said Plain 1 (acc ++ w ∷ [])) out)
last_word false condition before acc w ls out ends none more =
    rw (ends, none, in_statement) (ap (λ (ss : List Statement). before ++ ss) (more (acc ++ w ∷ [])))

-- in a policy, the words of a statement from one on
step_cut : (condition : Bool) (before : List Statement) (acc : List Word) (x : Piece) (xs : List Piece) (p q : ℕ) (ls : List Lexeme) (out : List Statement) → goes_to_end condition x xs ≡ true
    → ((words : List Word) → cut_from (AtStep false) words ls ≡ said Plain 1 words ++ out)
    → reached (in_statement condition before acc (word_at p x.text x.quoted)) (front onto (placed q xs) (EndsLine ∷ ls)) ≡ before ++ (said Plain 1 (acc ++ word_at p x.text x.quoted ∷ placed q xs) ++ out)
unfolding cut_from taken placed
step_cut condition before acc x [] p q ls out h more =
    last_word (ends_with condition (as_word x)) condition before acc (word_at p x.text x.quoted) ls out refl (not_true (in_condition condition (as_word x)) h) more
step_cut condition before acc x (y ∷ ys) p q ls out h more =
    let on = in_condition condition (as_word x) in
    let w = word_at p x.text x.quoted in
    let v = word_at (q + y.gap) y.text y.quoted in
    let next = q + y.gap + word_size y.text y.quoted in
    let rest = front onto (placed next ys) (EndsLine ∷ ls) in
    let a = and_parts (not (ends_with condition (as_word x))) (not (is_word (codes "end-policy") (as_word y)) && (not (starts_with on (as_word y)) && goes_to_end on y ys)) h in
    let b = and_parts (not (is_word (codes "end-policy") (as_word y))) (not (starts_with on (as_word y)) && goes_to_end on y ys) a.1 in
    let d = and_parts (not (starts_with on (as_word y))) (goes_to_end on y ys) b.1 in
    let goes : in_statement condition before acc w ≡ record { ended = before; place = AtStep on; words = acc ++ w ∷ [] } = rw (not_true (ends_with condition (as_word x)) a.0, in_statement) refl in
    let stays : in_policy on (acc ++ w ∷ []) v ≡ in_statement on [] (acc ++ w ∷ []) v = rw (not_true (is_word (codes "end-policy") (as_word y)) b.0, not_true (starts_with on (as_word y)) d.0, in_policy) refl in
    ap (λ (t : Taken). reached t (IsWord v ∷ rest)) goes
    ∙ ap (λ (t : Taken). before ++ reached t rest) stays
    ∙ ap (λ (ss : List Statement). before ++ ss) (step_cut on [] (acc ++ w ∷ []) y ys (q + y.gap) next ls out d.1 more)
    ∙ ap (λ (ws : List Word). before ++ (said Plain 1 ws ++ out)) (append_assoc acc (w ∷ []) (v ∷ placed next ys))

-- ---- the lines, from the first on

-- the words and line ends of these lines, from place p on
abbrev read : ℕ → List RplLine → List Lexeme
read p ls = lexemes Margin p (rpl_text ls)

-- what is said of lines that stand there: the words of a statement that has begun come first
abbrev IsCut : Where → ℕ → List RplLine → Type 0
IsCut Outside p ls = cut_from AtMargin [] (read p ls) ≡ rpl_placed p ls
IsCut InSet p ls = cut_from (AtElement None) [] (read p ls) ≡ rpl_placed p ls
IsCut BehindComma p ls = (comma : Span) → cut_from (AtElement (Some comma)) [] (read p ls) ≡ rpl_placed p ls
IsCut BehindElement p ls = (comma : Option Span) (w : Word) (ws : List Word) → cut_from (AtElement comma) (w ∷ ws) (read p ls) ≡ said Plain 1 (w ∷ ws) ++ rpl_placed p ls
IsCut InPolicy p ls = (words : List Word) → cut_from (AtStep false) words (read p ls) ≡ said Plain 1 words ++ rpl_placed p ls

-- where the next line starts
abbrev past_line : ℕ → RplLine → ℕ
past_line p l = p + length (line_bytes l) + 1

element_ends : (comma : Bool) (beside : Option Span) (w : Word) (ws : List Word) (q p : ℕ) (ls : List RplLine) → IsCut (behind comma) p ls
    → cut_from (AtElement beside) (w ∷ ws) (front onto (placed q (mark_behind comma)) (EndsLine ∷ read p ls)) ≡ said (ender_of comma) 1 (w ∷ ws) ++ rpl_placed p ls
unfolding cut_from taken placed
element_ends true beside w ws q p ls more = ap (λ (ss : List Statement). said Comma 1 (w ∷ ws) ++ ss) (more (record { start = q + 0; end = q + 0 + 1 }))
element_ends false beside w ws q p ls more = more beside w ws

element_cut : (comma : Bool) (beside : Option Span) (xs : List Piece) (p : ℕ) (ls : List RplLine) → is_line (Element comma xs) ≡ true → IsCut (behind comma) (past_line p (Element comma xs)) ls
    → cut_from (AtElement beside) [] (read p (Element comma xs ∷ ls)) ≡ rpl_placed p (Element comma xs ∷ ls)
unfolding placed rpl_text rpl_placed
element_cut comma beside [] p ls h more = absurd (let a = and_parts (are_words rpl_signs (mark_behind comma)) false h in cc)
element_cut comma beside (x ∷ xs) p ls h more =
    let line = Element comma (x ∷ xs) in
    let a = and_parts (are_words rpl_signs (line_words line)) (is_kept (x ∷ xs) && list_all is_inner (x ∷ xs)) h in
    let b = and_parts (is_kept (x ∷ xs)) (list_all is_inner (x ∷ xs)) a.1 in
    let rest = EndsLine ∷ read (past_line p line) ls in
    let m = inner_cut beside [] (x ∷ xs) (mark_behind comma) p rest b.1 in
    ap (λ (ts : List Lexeme). cut_from (AtElement beside) [] ts) (line_read p (line_words line) (rpl_text ls) a.0 b.0)
    ∙ m.1
    ∙ element_ends comma beside (word_at (p + x.gap) x.text x.quoted) (placed (p + x.gap + word_size x.text x.quoted) xs) m.0 (past_line p line) ls more

header_kept : (kind : BlockKind) (xs : List Piece) → is_kept (bare (opening kind) ∷ xs) ≡ true
header_kept PrefixSet xs = refl
header_kept CommunitySet xs = refl
header_kept PathSet xs = refl
header_kept Policy xs = refl

header_cut : (kind : BlockKind) (xs : List Piece) (p q : ℕ) (ls : List RplLine) → IsCut (within kind) q ls
    → cut_from (behind_line (placed p (bare (opening kind) ∷ xs))) [] (read q ls) ≡ rpl_placed q ls
unfolding placed
header_cut PrefixSet xs p q ls h = h
header_cut CommunitySet xs p q ls h = h
header_cut PathSet xs p q ls h = h
header_cut Policy xs p q ls h = h []

step_line_cut : (xs : List Piece) (words : List Word) (p : ℕ) (ls : List RplLine) → is_line (Step xs) ≡ true → IsCut InPolicy (past_line p (Step xs)) ls
    → cut_from (AtStep false) words (read p (Step xs ∷ ls)) ≡ said Plain 1 words ++ rpl_placed p (Step xs ∷ ls)
unfolding cut_from taken placed rpl_text rpl_placed
step_line_cut [] words p ls h more = absurd (let a = and_parts (are_words rpl_signs []) false h in cc)
step_line_cut (x ∷ xs) words p ls h more =
    let a = and_parts (are_words rpl_signs (x ∷ xs)) (is_kept (x ∷ xs) && is_step (x ∷ xs)) h in
    let b = and_parts (is_kept (x ∷ xs)) (is_step (x ∷ xs)) a.1 in
    let d = and_parts (not (is_word (codes "end-policy") (as_word x))) (starts_with false (as_word x) && goes_to_end false x xs) b.1 in
    let e = and_parts (starts_with false (as_word x)) (goes_to_end false x xs) d.1 in
    let w = word_at (p + x.gap) x.text x.quoted in
    let next = p + x.gap + word_size x.text x.quoted in
    let q = past_line p (Step (x ∷ xs)) in
    let begins : in_policy false words w ≡ in_statement false (said Plain 1 words) [] w = rw (not_true (is_word (codes "end-policy") (as_word x)) d.0, e.0, in_policy) refl in
    ap (λ (ts : List Lexeme). cut_from (AtStep false) words ts) (line_read p (x ∷ xs) (rpl_text ls) a.0 b.0)
    ∙ ap (λ (t : Taken). reached t (front onto (placed next xs) (EndsLine ∷ read q ls))) begins
    ∙ step_cut false (said Plain 1 words) [] x xs (p + x.gap) next (read q ls) (rpl_placed q ls) e.1 more

end_set_cut : (words : List Word) (comma : Option Span) (before : List Statement) (p : ℕ) (ls : List RplLine) → element Plain comma words ≡ before → IsCut Outside (past_line p EndSet) ls
    → cut_from (AtElement comma) words (read p (EndSet ∷ ls)) ≡ before ++ rpl_placed p (EndSet ∷ ls)
unfolding cut_from taken placed rpl_text rpl_placed are_words
end_set_cut words comma before p ls e more =
    ap (λ (ts : List Lexeme). cut_from (AtElement comma) words ts) (line_read p (line_words EndSet) (rpl_text ls) refl refl)
    ∙ ap (λ (ss : List Statement). (element Plain comma words ++ said Plain 0 (placed p (line_words EndSet))) ++ ss) more
    ∙ append_assoc (element Plain comma words) (said Plain 0 (placed p (line_words EndSet))) (rpl_placed (past_line p EndSet) ls)
    ∙ ap (λ (ss : List Statement). ss ++ rpl_placed p (EndSet ∷ ls)) e

end_policy_cut : (words : List Word) (p : ℕ) (ls : List RplLine) → IsCut Outside (past_line p EndPolicy) ls
    → cut_from (AtStep false) words (read p (EndPolicy ∷ ls)) ≡ said Plain 1 words ++ rpl_placed p (EndPolicy ∷ ls)
unfolding cut_from taken placed rpl_text rpl_placed are_words
end_policy_cut words p ls more =
    ap (λ (ts : List Lexeme). cut_from (AtStep false) words ts) (line_read p (line_words EndPolicy) (rpl_text ls) refl refl)
    ∙ ap (λ (ss : List Statement). (said Plain 1 words ++ said Plain 0 (placed p (line_words EndPolicy))) ++ ss) more
    ∙ append_assoc (said Plain 1 words) (said Plain 0 (placed p (line_words EndPolicy))) (rpl_placed (past_line p EndPolicy) ls)

lines_cut : (w : Where) (ls : List RplLine) (p : ℕ) → MayBeWritten w ls → IsCut w p ls
unfolding MayBeWritten cut_from taken placed lexemes rpl_text rpl_placed
lines_cut Outside [] p h = refl
lines_cut Outside (Remark ∷ ls) p h = lines_cut Outside ls (p + 1 + 1) h
lines_cut Outside (Header kind xs ∷ ls) p h =
    let ws = bare (opening kind) ∷ xs in
    let q = past_line p (Header kind xs) in
    ap (λ (ts : List Lexeme). cut_from AtMargin [] ts) (line_read p ws (rpl_text ls) h.0 (header_kept kind xs))
    ∙ line_cut [] (placed p ws) (read q ls)
    ∙ ap (λ (ss : List Statement). said Line 0 (placed p ws) ++ ss) (header_cut kind xs p q ls (lines_cut (within kind) ls q h.1))
lines_cut InSet (Remark ∷ ls) p h = lines_cut InSet ls (p + 1 + 1) h
lines_cut InSet (Element comma xs ∷ ls) p h = element_cut comma None xs p ls h.0 (lines_cut (behind comma) ls (past_line p (Element comma xs)) h.1)
lines_cut InSet (EndSet ∷ ls) p h = end_set_cut [] None [] p ls refl (lines_cut Outside ls (past_line p EndSet) h)
lines_cut BehindComma (Remark ∷ ls) p h = lines_cut BehindComma ls (p + 1 + 1) h
lines_cut BehindComma (Element comma xs ∷ ls) p h = λ beside. element_cut comma (Some beside) xs p ls h.0 (lines_cut (behind comma) ls (past_line p (Element comma xs)) h.1)
lines_cut BehindElement (Remark ∷ ls) p h = lines_cut BehindElement ls (p + 1 + 1) h
lines_cut BehindElement (EndSet ∷ ls) p h = λ comma w ws. end_set_cut (w ∷ ws) comma (said Plain 1 (w ∷ ws)) p ls refl (lines_cut Outside ls (past_line p EndSet) h)
lines_cut InPolicy (Remark ∷ ls) p h = lines_cut InPolicy ls (p + 1 + 1) h
lines_cut InPolicy (Step xs ∷ ls) p h = λ words. step_line_cut xs words p ls h.0 (lines_cut InPolicy ls (past_line p (Step xs)) h.1)
lines_cut InPolicy (EndPolicy ∷ ls) p h = λ words. end_policy_cut words p ls (lines_cut Outside ls (past_line p EndPolicy) h)
lines_cut _ _ p h = absurd h

-- the statements of a text that is written
pub written_cut : (ls : List RplLine) → MayBeWritten Outside ls → rpl_cut (rpl_text ls) ≡ rpl_placed 0 ls
unfolding rpl_cut
written_cut ls h = lines_cut Outside ls 0 h
