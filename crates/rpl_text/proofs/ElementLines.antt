-- Elements of sets: each is a line of its own, and spells the form.
use Rattle.std.proofs.Common.{◌≡◌, refl, sym, subst, ℕ, ◌^◌, ◌<◌, Bool, true, false, ◌&&◌, ◌||◌, not, List, [], ◌∷◌, ◌++◌, arith}
use Rattle.std.specs.Prelude.{codes, decimal, ◌==◌}
use Rattle.std.specs.List.{list_all}
use Rattle.std.proofs.lemmas.Bool.{and_parts, and_from, not_from_false}
use Rattle.route_types.specs.Words.{is_digit}
use Rattle.route_types.proofs.Numbers.{StartsWithDigit, decimal_starts}
use Rattle.route_types.proofs.Printed.{prefix_text_starts, append_starts}
use Rattle.text_words.specs.Pieces.{Piece}
use Rattle.text_words.specs.Signs.{are_words}
use Rattle.text_words.specs.Text.{starts_with_byte}
use Rattle.text_words.specs.RplCut.{is_word}
use Rattle.text_words.specs.RplText.{rpl_signs, as_word, mark_behind, is_kept, is_inner, is_line, Element as ElementLine}
use Rattle.text_words.specs.declared.rpl_blocks.BlockKind.{BlockKind}
use Rattle.text_words.specs.declared.rpl_blocks.BlockKind.TheVariants.{PrefixSet as PrefixBlock, CommunitySet as CommunityBlock, PathSet as PathBlock}
use Rattle.text_words.proofs.RplLexes.{apart}
use Rattle.rpl_words.specs.declared.element.Element.{Element}
use Rattle.rpl_words.specs.declared.element.Element.TheVariants.{Prefix, Community, Path as OfPath}
use Rattle.rpl_words.specs.declared.element.PathElement.{PathElement}
use Rattle.rpl_words.specs.declared.element.PathElement.TheVariants.{Pattern, Test as PathAsks}
use Rattle.rpl_words.specs.declared.element.PathTest.{PathTest}
use Rattle.rpl_words.specs.declared.element.PathTest.TheVariants.{Length, PassesThrough, OriginatesFrom, NeighborIs}
use Rattle.rpl_forms.specs.Statements.{SpellWithin}
use Rattle.rpl_forms.specs.declared.item.RplForm.TheVariants.{Element as OfElement}
use Rattle.rpl_text.specs.Words.{laid, half_by, path_phrase, element_phrase}
use Rattle.rpl_text.specs.Written.{FitsElement}
use Rattle.rpl_text.proofs.SpelledElements.{prefix_element, rect_element, path_element}
use Rattle.rpl_text.proofs.Pieces.{is_free, AreParts, words_append, tokens_of, free_of, no_comma}

-- an element may stand in a set, and spells the form
pub record IsPut (kind : BlockKind) (e : Element) : Type 0 where
  pub parts : AreParts (laid 0 (element_phrase e))
  pub kept : is_kept (laid 2 (element_phrase e)) ≡ true
  pub no_end : is_word (codes "end-set") (as_word (record { gap = 2; text = (element_phrase e).first; quoted = false })) ≡ false
  pub spelled : SpellWithin kind (tokens_of (laid 0 (element_phrase e))) (OfElement e)

-- no line that is dropped starts so
abbrev IsKept : List ℕ → Type 0
IsKept w = not (starts_with_byte 33 w || starts_with_byte 35 w) ≡ true

starts_kept : (w : List ℕ) → StartsWithDigit w → IsKept w
starts_kept w h = subst IsKept (sym h.is) (rw (apart is_digit 33 h.first true refl h.digit, apart is_digit 35 h.first true refl h.digit) refl)

half_kept : (one all : Bool) (least most : ℕ) (rest : List ℕ) → least < 2 ^ 64 → IsKept (half_by one all least most ++ rest)
half_kept true all least most rest small = starts_kept (decimal least ++ rest) (append_starts (decimal least) rest (decimal_starts least small))
half_kept false true least most rest small = refl
half_kept false false least most rest small = refl

test_kept : (t : PathTest) → is_kept (laid 2 (path_phrase (PathAsks t))) ≡ true
test_kept (Length t) = refl
test_kept (PassesThrough n) = refl
test_kept (OriginatesFrom n) = refl
test_kept (NeighborIs n) = refl

path_kept : (e : PathElement) → is_kept (laid 2 (path_phrase e)) ≡ true
path_kept (Pattern bs) = refl
path_kept (PathAsks t) = test_kept t

-- the first word doesn't end the set
first_free : (e : Element) → AreParts (laid 0 (element_phrase e)) → is_word (codes "end-set") (as_word (record { gap = 2; text = (element_phrase e).first; quoted = false })) ≡ false
first_free e h =
    let x : Piece = record { gap = 2; text = (element_phrase e).first; quoted = false } in
    (free_of x (and_parts (is_free x) (list_all is_free (element_phrase e).behind) h.free).0).0

pub put : (kind : BlockKind) (e : Element) → FitsElement kind e → IsPut kind e
put PrefixBlock (Prefix e) h =
    let p = prefix_element false e h in
    record { parts = p.parts; kept = starts_kept _ (prefix_text_starts e.prefix (record { family = h.family; masked = h.masked })); no_end = first_free (Prefix e) p.parts; spelled = p.spelled }
put CommunityBlock (Community r) h =
    let p = rect_element r h in
    record { parts = p.parts; kept = half_kept (r.high_least == r.high_most) ((r.high_least == 0) && (r.high_most == 65535)) r.high_least r.high_most _ (omega (arith, h.high, h.high_most)); no_end = first_free (Community r) p.parts; spelled = p.spelled }
put PathBlock (OfPath e) h =
    let p = path_element false e h in
    record { parts = p.parts; kept = path_kept e; no_end = first_free (OfPath e) p.parts; spelled = p.spelled }
put kind e h = absurd h

inner_words : (xs : List Piece) → list_all is_free xs ≡ true → list_all is_inner xs ≡ true
inner_words [] h = refl
inner_words (x ∷ xs) h =
    let q = and_parts (is_free x) (list_all is_free xs) h in
    let f = free_of x q.0 in
    and_from (is_inner x) (list_all is_inner xs) (and_from (not (is_word (codes "end-set") (as_word x))) (not (is_word (codes ",") (as_word x))) (not_from_false (is_word (codes "end-set") (as_word x)) f.0) (not_from_false (is_word (codes ",") (as_word x)) (no_comma x f.1))) (inner_words xs q.1)

line_by : (comma : Bool) (xs : List Piece) → are_words rpl_signs xs ≡ true → is_kept xs ≡ true → list_all is_inner xs ≡ true → is_line (ElementLine comma xs) ≡ true
unfolding are_words
line_by true xs words kept inner =
    and_from (are_words rpl_signs (xs ++ mark_behind true)) (is_kept xs && list_all is_inner xs) (words_append xs (mark_behind true) words refl refl) (and_from (is_kept xs) (list_all is_inner xs) kept inner)
line_by false xs words kept inner =
    and_from (are_words rpl_signs (xs ++ mark_behind false)) (is_kept xs && list_all is_inner xs) (words_append xs (mark_behind false) words refl refl) (and_from (is_kept xs) (list_all is_inner xs) kept inner)

pub put_line : (kind : BlockKind) (e : Element) (comma : Bool) → IsPut kind e → is_line (ElementLine comma (laid 2 (element_phrase e))) ≡ true
unfolding are_words
put_line kind e comma h = line_by comma (laid 2 (element_phrase e)) h.parts.values.words h.kept (inner_words (laid 2 (element_phrase e)) h.parts.free)
