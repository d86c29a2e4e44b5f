-- Lines that are written as Junos are cut as their statements, each at its place.
use Rattle.std.proofs.Common.{◌≡◌, refl, sym, ap, ◌∙◌, ℕ, suc, zero, ◌+◌, ◌*◌, true, List, [], ◌∷◌, ◌++◌, length, Some, Ok, append_assoc, append-nil, arith}
use Rattle.std.proofs.lemmas.Bool.{and_parts, eqb-true}
use Rattle.text_words.specs.declared.statement.Span.{Span}
use Rattle.text_words.specs.declared.statement.Ender.TheVariants.{Semi as BySemi, Open as ByOpen, Close as ByClose}
use Rattle.text_words.specs.declared.statement.Word.{Word}
use Rattle.text_words.specs.declared.junos_words.Within.TheVariants.{Outside}
use Rattle.text_words.specs.Lexes.{front}
use Rattle.text_words.specs.Pieces.{Piece, spaces, pieces_text, placed}
use Rattle.text_words.specs.Signs.{are_words}
use Rattle.text_words.specs.JunosWords.{Token, IsWord, step_at, sort_at, tokens_at}
use Rattle.text_words.specs.JunosCut.{Outcome, in_front, span_of_words, statement_of, grouped, cut_or_fault, cut_in, junos_cut}
use Rattle.text_words.specs.JunosWritten.{junos_signs, JunosLine, Says, Opens, Closes, may_be_written, lines_text, junos_text, words_end, junos_placed}
use Rattle.text_words.proofs.Lexes.{skips, words_read}
use Rattle.text_words.proofs.JunosWords.{Stops, junos_lexes}

abbrev onto : Word → List Token → List Token
onto w ts = IsWord w ∷ ts

-- the text from a place on, behind these words of a statement and within these blocks
abbrev cut_at : List Word → List Span → ℕ → List ℕ → Outcome
cut_at words opened p text = grouped words opened (tokens_at Outside p text)

-- words are grouped to one statement
words_group : (ws words : List Word) (opened : List Span) (ts : List Token) → grouped words opened (front onto ws ts) ≡ grouped (words ++ ws) opened ts
unfolding grouped
words_group [] words opened ts = ap (λ (v : List Word). grouped v opened ts) (sym (append-nil words))
words_group (w ∷ ws) words opened ts = words_group ws (words ++ w ∷ []) opened ts ∙ ap (λ (v : List Word). grouped v opened ts) (append_assoc words (w ∷ []) ws)

spaces_cut : (n p : ℕ) (opened : List Span) (text : List ℕ) → cut_at [] opened p (spaces n ++ text) ≡ cut_at [] opened (p + n) text
spaces_cut n p opened text = ap (grouped [] opened) (skips junos_signs (tokens_at Outside) onto Stops junos_lexes n p text)

-- the words of a line are taken in front of what ends it
words_cut : (depth p : ℕ) (opened : List Span) (words : List Piece) (rest : List ℕ) → are_words junos_signs words ≡ true → Stops rest → cut_at [] opened p (spaces (4 * depth) ++ (pieces_text 34 words ++ rest)) ≡ cut_at (placed (p + 4 * depth) words) opened (words_end depth p words) rest
words_cut depth p opened words rest fits stops =
    spaces_cut (4 * depth) p opened (pieces_text 34 words ++ rest)
    ∙ ap (grouped [] opened) (words_read junos_signs (tokens_at Outside) onto Stops junos_lexes words (p + 4 * depth) rest fits stops)
    ∙ words_group (placed (p + 4 * depth) words) [] opened (tokens_at Outside (words_end depth p words) rest)

semi_stops : (rest : List ℕ) → Stops (59 ∷ rest)
unfolding tokens_at step_at sort_at
semi_stops rest = record { no_star = refl; no_line = refl; ends = λ b p. refl }

blank_stops : (rest : List ℕ) → Stops (32 ∷ rest)
unfolding tokens_at step_at sort_at
blank_stops rest = record { no_star = refl; no_line = refl; ends = λ b p. refl }

-- what ends a line
semi_cut : (words : List Word) (opened : List Span) (q : ℕ) (rest : List ℕ) → cut_at words opened q (59 ∷ 10 ∷ rest) ≡ in_front (statement_of words BySemi (length opened) q ∷ []) (cut_at [] opened (q + 2) rest)
unfolding grouped tokens_at step_at sort_at
semi_cut words opened q rest =
    let place : q + 1 + 1 ≡ q + 2 = omega arith in
    rw place refl

open_cut : (words : List Word) (opened : List Span) (q : ℕ) (rest : List ℕ) → cut_at words opened q (32 ∷ 123 ∷ 10 ∷ rest) ≡ in_front (statement_of words ByOpen (length opened) (q + 1) ∷ []) (cut_at [] (span_of_words words (q + 1) ∷ opened) (q + 3) rest)
unfolding grouped tokens_at step_at sort_at
open_cut words opened q rest =
    let place : q + 1 + 1 + 1 ≡ q + 3 = omega arith in
    rw place refl

close_cut : (block : Span) (opened : List Span) (q : ℕ) (rest : List ℕ) → cut_at [] (block ∷ opened) q (125 ∷ 10 ∷ rest) ≡ in_front (statement_of [] ByClose (length (block ∷ opened)) q ∷ []) (cut_at [] opened (q + 2) rest)
unfolding grouped tokens_at step_at sort_at
close_cut block opened q rest =
    let place : q + 1 + 1 ≡ q + 2 = omega arith in
    rw place refl

-- lines within blocks
pub lines_cut : (ls : List JunosLine) (opened : List Span) (depth p : ℕ) → length opened ≡ depth → may_be_written depth ls ≡ true → cut_at [] opened p (lines_text depth ls) ≡ Ok (junos_placed depth p ls)
unfolding may_be_written lines_text junos_placed grouped tokens_at
lines_cut [] [] depth p count fits = refl
lines_cut [] (block ∷ opened) depth p count fits = absurd (omega (arith, count, eqb-true depth 0 fits))
lines_cut (Says words ∷ ls) opened depth p count fits =
    let f = and_parts (are_words junos_signs words) (may_be_written depth ls) fits in
    let q = words_end depth p words in
    words_cut depth p opened words (59 ∷ 10 ∷ lines_text depth ls) f.0 (semi_stops (10 ∷ lines_text depth ls))
    ∙ semi_cut (placed (p + 4 * depth) words) opened q (lines_text depth ls)
    ∙ rw (count, lines_cut ls opened depth (q + 2) count f.1) refl
lines_cut (Opens words ∷ ls) opened depth p count fits =
    let f = and_parts (are_words junos_signs words) (may_be_written (suc depth) ls) fits in
    let q = words_end depth p words in
    let ws = placed (p + 4 * depth) words in
    words_cut depth p opened words (32 ∷ 123 ∷ 10 ∷ lines_text (suc depth) ls) f.0 (blank_stops (123 ∷ 10 ∷ lines_text (suc depth) ls))
    ∙ open_cut ws opened q (lines_text (suc depth) ls)
    ∙ rw (count, lines_cut ls (span_of_words ws (q + 1) ∷ opened) (suc depth) (q + 3) (ap suc count) f.1) refl
lines_cut (Closes ∷ ls) opened zero p count fits = absurd cc
lines_cut (Closes ∷ ls) [] (suc depth) p count fits = absurd cc
lines_cut (Closes ∷ ls) (block ∷ opened) (suc depth) p count fits =
    let within : length opened ≡ depth = omega (arith, count) in
    let q = p + 4 * depth in
    spaces_cut (4 * depth) p (block ∷ opened) (125 ∷ 10 ∷ lines_text depth ls)
    ∙ close_cut block opened q (lines_text depth ls)
    ∙ rw (count, lines_cut ls opened depth (q + 2) within fits) refl

-- what may be written is cut as it was written
pub junos_written : (ls : List JunosLine) → may_be_written 0 ls ≡ true → junos_cut (junos_text ls) ≡ Some (junos_placed 0 0 ls)
unfolding cut_or_fault
junos_written ls fits = ap cut_in (lines_cut ls [] 0 0 refl fits)
