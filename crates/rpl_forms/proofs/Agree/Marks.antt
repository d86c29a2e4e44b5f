-- The marks of conditions agree with what they spell.
use Rattle.std.proofs.Common.{◌≡◌, refl, sym, ap, ◌∙◌, subst, ℕ, zero, suc, ◌+◌, Bool, true, false, List, [], ◌∷◌, ◌++◌, append_assoc, length, length-append, take, drop, Option, Some, None, inl, inr, arith}
use Rattle.std.specs.Prelude.{codes, bytes_eq, option_map}
use Rattle.std.specs.List.{list_any}
use Rattle.std.proofs.lemmas.Bool.{or_parts}
use Rattle.std.proofs.lemmas.List.{take-append-drop}
use Rattle.std.proofs.Math.Seq.{take-append_seam}
use Rattle.route_types.specs.Words.{◌>>=◌}
use Rattle.route_types.proofs.Numbers.{bind_found, some_is}
use Rattle.policy_text.specs.Phrases.{IsOneOf, one_of}
use Rattle.policy_text.proofs.Phrases.{same_bytes, map_found}
use Rattle.policy_text.proofs.Agree.{one_of_agrees}
use Rattle.rpl_words.specs.Tokens.{Token, plain, is_key, after, place_of}
use Rattle.rpl_words.specs.Values.{is_inner_name}
use Rattle.rpl_words.specs.Elements.{SpellPathTest, SpellSet}
use Rattle.rpl_words.specs.Conditions.{SpellTest, test_in, set_words, begin_with, asks_for_prefixes, asks_for_communities, asks_for_set, value_words, words_behind}
use Rattle.rpl_forms.specs.Terms.{signs, sign_in, mark_at, marks_behind}
use Rattle.rpl_words.specs.declared.condition.RplTest.{RplTest}
use Rattle.rpl_words.specs.declared.condition.RplTest.TheVariants.{Destination, NextHop, PathIn, Path, MatchesAny, MatchesEvery, IsEmpty, Med, Origin as OfOrigin}
use Rattle.rpl_words.specs.declared.element.PathTest.{PathTest}
use Rattle.rpl_words.specs.declared.element.PathTest.TheVariants.{Length, PassesThrough, OriginatesFrom, NeighborIs}
use Rattle.rpl_forms.specs.declared.marks.Mark.{Mark}
use Rattle.rpl_forms.specs.declared.marks.Mark.TheVariants.{Asks, Opens, Closes, Negates, Joins, Divides}
use Rattle.rpl_words.specs.declared.number.RplSet.{RplSet}
use Rattle.rpl_words.specs.declared.number.RplSet.TheVariants.{Named, Parameter as GivenSet, Listed as Written}
use Rattle.rpl_words.proofs.Agree.Tokens.{key_is, plain_agrees}
use Rattle.rpl_words.proofs.Agree.Tests.{test_agrees}

-- a word, and then words that spell the other marks
abbrev Sign : List ℕ → (List Token → Type 0) → List Token → Type 0
Sign w More ts = (rest : List Token) × (ts ≡ plain w ∷ rest) × More rest

-- words spell marks one after another
abbrev pub SpellMarks : List Mark → List Token → Type 0
SpellMarks [] ts = ts ≡ []
SpellMarks (Asks t ∷ ms) ts = (front : List Token) × (rest : List Token) × (ts ≡ front ++ rest) × SpellTest front t × SpellMarks ms rest
SpellMarks (Opens ∷ ms) ts = Sign (codes "(") (SpellMarks ms) ts
SpellMarks (Closes ∷ ms) ts = Sign (codes ")") (SpellMarks ms) ts
SpellMarks (Negates ∷ ms) ts = Sign (codes "not") (SpellMarks ms) ts
SpellMarks (Joins ∷ ms) ts = Sign (codes "and") (SpellMarks ms) ts
SpellMarks (Divides ∷ ms) ts = Sign (codes "or") (SpellMarks ms) ts

-- ---- what is found is spelled

sign_by : (ms : List Mark) (w : List ℕ) (m : Mark) (t : Token) (ts : List Token) → t ≡ plain w → IsOneOf signs w m → SpellMarks ms ts → SpellMarks (m ∷ ms) (t ∷ ts)
sign_by ms w m t ts e (inl (k, is)) h = subst (λ (x : Mark). SpellMarks (x ∷ ms) (t ∷ ts)) (sym is) (ts, ap (λ (u : Token). u ∷ ts) (e ∙ ap (λ (v : List ℕ). plain v) k), h)
sign_by ms w m t ts e (inr (inl (k, is))) h = subst (λ (x : Mark). SpellMarks (x ∷ ms) (t ∷ ts)) (sym is) (ts, ap (λ (u : Token). u ∷ ts) (e ∙ ap (λ (v : List ℕ). plain v) k), h)
sign_by ms w m t ts e (inr (inr (inl (k, is)))) h = subst (λ (x : Mark). SpellMarks (x ∷ ms) (t ∷ ts)) (sym is) (ts, ap (λ (u : Token). u ∷ ts) (e ∙ ap (λ (v : List ℕ). plain v) k), h)
sign_by ms w m t ts e (inr (inr (inr (inl (k, is))))) h = subst (λ (x : Mark). SpellMarks (x ∷ ms) (t ∷ ts)) (sym is) (ts, ap (λ (u : Token). u ∷ ts) (e ∙ ap (λ (v : List ℕ). plain v) k), h)
sign_by ms w m t ts e (inr (inr (inr (inr (inl (k, is)))))) h = subst (λ (x : Mark). SpellMarks (x ∷ ms) (t ∷ ts)) (sym is) (ts, ap (λ (u : Token). u ∷ ts) (e ∙ ap (λ (v : List ℕ). plain v) k), h)
sign_by ms w m t ts e (inr (inr (inr (inr (inr none))))) h = absurd none

-- the mark of a word by itself
abbrev marked_by : Option Mark → Token → List Token → Option (Mark × ℕ)
marked_by (Some m) t ts = Some (m, 0)
marked_by None t ts = option_map (λ test. (Asks test, words_behind (t ∷ ts))) (test_in (t ∷ take (words_behind (t ∷ ts)) ts))

mark_spelled : (ms : List Mark) (t : Token) (ts : List Token) (o : Option Mark) (m : Mark × ℕ) → sign_in t ≡ o → marked_by o t ts ≡ Some m → SpellMarks ms (drop m.1 ts) → SpellMarks (m.0 ∷ ms) (t ∷ ts)
unfolding sign_in
mark_spelled ms t ts (Some s) m e h more =
    let k : ◌≡◌ {A = Mark × ℕ} (s, 0) m = some_is (s, 0) m h in
    let sign = (plain_agrees (one_of signs) (IsOneOf signs) (one_of_agrees signs refl)).found t s e in
    let Spelled : Mark × ℕ → Type 0 = λ x. SpellMarks ms (drop x.1 ts) → SpellMarks (x.0 ∷ ms) (t ∷ ts) in
    let here : Spelled (s, 0) = λ rest. sign_by ms sign.0 s t ts sign.1 sign.2 rest in
    subst Spelled k here more
mark_spelled ms t ts None m e h more =
    let n = words_behind (t ∷ ts) in
    let test = map_found (test_in (t ∷ take n ts)) (λ x. (Asks x, n)) m h in
    let Spelled : Mark × ℕ → Type 0 = λ x. SpellMarks ms (drop x.1 ts) → SpellMarks (x.0 ∷ ms) (t ∷ ts) in
    let here : Spelled (Asks test.0, n) = λ rest. (t ∷ take n ts, drop n ts, ap (λ (us : List Token). t ∷ us) (sym (take-append-drop n ts)), test_agrees.found (t ∷ take n ts) test.0 test.1, rest) in
    subst Spelled test.2 here more

same_marks : (o : Option Mark) (t : Token) (ts : List Token)
    → ◌≡◌ {A = Option (Mark × ℕ)} (elim o [ Some m ↦ Some (m, 0) | None ↦ option_map (λ test. (Asks test, words_behind (t ∷ ts))) (test_in (t ∷ take (words_behind (t ∷ ts)) ts)) ]) (marked_by o t ts)
same_marks (Some m) t ts = refl
same_marks None t ts = refl

mark_is : (t : Token) (ts : List Token) → mark_at t ts ≡ marked_by (sign_in t) t ts
unfolding mark_at
mark_is t ts = same_marks (sign_in t) t ts

nothing_left : (n : ℕ) (ms : List Mark) → [] ≡ ms → SpellMarks ms (drop n [])
nothing_left zero ms e = subst (λ (x : List Mark). SpellMarks x []) e refl
nothing_left (suc n) ms e = subst (λ (x : List Mark). SpellMarks x []) e refl

pub behind_found : (ts : List Token) (n : ℕ) (ms : List Mark) → marks_behind n ts ≡ Some ms → SpellMarks ms (drop n ts)
unfolding marks_behind
behind_found [] n ms e = nothing_left n ms (some_is [] ms e)
behind_found (t ∷ ts) (suc n) ms e = behind_found ts n ms e
behind_found (t ∷ ts) zero ms e =
    let m = bind_found (mark_at t ts) (λ x. marks_behind x.1 ts >>= λ xs. Some (x.0 ∷ xs)) ms e in
    let more = bind_found (marks_behind m.0.1 ts) (λ xs. Some (m.0.0 ∷ xs)) ms m.2 in
    subst (λ (x : List Mark). SpellMarks x (t ∷ ts)) (some_is (m.0.0 ∷ more.0) ms more.2)
    (mark_spelled more.0 t ts (sign_in t) m.0 refl (sym (mark_is t ts) ∙ m.1) (behind_found ts m.0.1 more.0 more.1))

-- ---- where a test ends

place_spelled : (key : List ℕ) (front rest : List Token) → list_any (is_key key) front ≡ false → place_of key (front ++ plain key ∷ rest) ≡ Some (length front)
unfolding place_of
place_spelled key [] rest none = rw (place_of, key_is key) refl
place_spelled key (t ∷ front) rest none =
    let h = or_parts (is_key key t) (list_any (is_key key) front) none in
    rw (place_of, h.0) (ap (λ (o : Option ℕ). option_map (λ n. suc n) o) (place_spelled key front rest h.1))

not_open : (w : List ℕ) (b : Bool) → bytes_eq (codes "(") w ≡ b → is_inner_name w ≡ true → b ≡ false
not_open w true e h = let k : is_inner_name (codes "(") ≡ true = subst (λ (x : List ℕ). is_inner_name x ≡ true) (sym (same_bytes (codes "(") w e)) h in absurd cc
not_open w false e h = refl

one_word : (w : List ℕ) (rest : List Token) → bytes_eq (codes "(") w ≡ false → set_words (plain w ∷ rest) ≡ 1
unfolding after
one_word w rest e = rw e refl

-- a set in parentheses, up to the first `)`
abbrev words_to : Option ℕ → List Token → ℕ
words_to None inner = length inner + 1
words_to (Some n) inner = n + 2

to_same : (o : Option ℕ) (inner : List Token) → ◌≡◌ {A = ℕ} (elim o [ None ↦ length inner + 1 | Some n ↦ n + 2 ]) (words_to o inner)
to_same None inner = refl
to_same (Some n) inner = refl

open_words : (inner : List Token) → set_words (plain (codes "(") ∷ inner) ≡ words_to (place_of (codes ")") inner) inner
unfolding after
open_words inner = to_same (place_of (codes ")") inner) inner

counted : (inner : List Token) (t : Token) → length inner + 2 ≡ length (plain (codes "(") ∷ (inner ++ t ∷ []))
counted inner t = omega (arith, length-append inner (t ∷ []))

one_further : (n : ℕ) → n + 1 ≡ suc n
one_further n = omega arith

set_ends : {E : Type 0} (P : List Token → E → Type 0) (ts rest : List Token) (s : RplSet E) → SpellSet P ts s → set_words (ts ++ rest) ≡ length ts
set_ends P ts rest (Named n) (t, e, (w, k, h)) =
    let text : ts ≡ plain w ∷ [] = e ∙ ap (λ (u : Token). u ∷ []) k in
    ap (λ (us : List Token). set_words (us ++ rest)) text ∙ one_word w rest (not_open w (bytes_eq (codes "(") w) refl h.named) ∙ sym (ap (λ (us : List Token). length us) text)
set_ends P ts rest (GivenSet x) (t, e, (w, k, h)) =
    let text : ts ≡ plain (36 ∷ x) ∷ [] = e ∙ ap (λ (u : Token). u ∷ []) (k ∙ ap (λ (v : List ℕ). plain v) h.spelled) in
    ap (λ (us : List Token). set_words (us ++ rest)) text ∙ one_word (36 ∷ x) rest refl ∙ sym (ap (λ (us : List Token). length us) text)
set_ends P ts rest (Written es) (more, e, (inner, k, none, h)) =
    let close = plain (codes ")") in
    let text : ts ≡ plain (codes "(") ∷ (inner ++ close ∷ []) = e ∙ ap (λ (us : List Token). plain (codes "(") ∷ us) k in
    let place : place_of (codes ")") ((inner ++ close ∷ []) ++ rest) ≡ Some (length inner) = ap (λ (us : List Token). place_of (codes ")") us) (append_assoc inner (close ∷ []) rest) ∙ place_spelled (codes ")") inner rest none in
    ap (λ (us : List Token). set_words (us ++ rest)) text ∙ open_words ((inner ++ close ∷ []) ++ rest)
    ∙ ap (λ (o : Option ℕ). words_to o ((inner ++ close ∷ []) ++ rest)) place ∙ counted inner close ∙ sym (ap (λ (us : List Token). length us) text)

-- the words of a test: the first is no sign, and how many stand behind it is told whatever follows
pub record TestBegins (front : List Token) : Type 0 where
  pub first : Token
  pub others : List Token
  pub text : front ≡ first ∷ others
  pub sign : sign_in first ≡ None
  pub words : (rest : List Token) → words_behind (first ∷ (others ++ rest)) ≡ length others

-- the words of a test that asks for a set: two keywords and the set
set_test : {E : Type 0} (P : List Token → E → Type 0) (first second : List ℕ) (front rest : List Token) (s : RplSet E) → front ≡ plain first ∷ plain second ∷ rest → SpellSet P rest s → sign_in (plain first) ≡ None
    → ((more : List Token) → words_behind (plain first ∷ plain second ∷ more) ≡ set_words more + 1) → TestBegins front
set_test P first second front rest s e h sign words = record {
  first = plain first;
  others = plain second ∷ rest;
  text = e;
  sign = sign;
  words = λ more. words (rest ++ more) ∙ ap (λ (n : ℕ). n + 1) (set_ends P rest more s h) ∙ one_further (length rest);
}

path_begins : (front rest : List Token) (p : PathTest) → front ≡ plain (codes "as-path") ∷ rest → SpellPathTest true rest p → TestBegins front
unfolding sign_in words_behind asks_for_set asks_for_prefixes asks_for_communities value_words begin_with after
path_begins front rest (Length p) e (more, k, (t, last, l, h, (u, m, j))) = record {
  first = plain (codes "as-path");
  others = plain (codes "length") ∷ t ∷ u ∷ [];
  text = e ∙ ap (λ (us : List Token). plain (codes "as-path") ∷ us) (k ∙ ap (λ (us : List Token). plain (codes "length") ∷ us) (l ∙ ap (λ (us : List Token). t ∷ us) m));
  sign = refl;
  words = λ r. refl;
}
path_begins front rest (PassesThrough n) e (more, k, (t, l, h)) = record {
  first = plain (codes "as-path");
  others = plain (codes "passes-through") ∷ t ∷ [];
  text = e ∙ ap (λ (us : List Token). plain (codes "as-path") ∷ us) (k ∙ ap (λ (us : List Token). plain (codes "passes-through") ∷ us) l);
  sign = refl;
  words = λ r. refl;
}
path_begins front rest (OriginatesFrom n) e (more, k, (t, l, h)) = record {
  first = plain (codes "as-path");
  others = plain (codes "originates-from") ∷ t ∷ [];
  text = e ∙ ap (λ (us : List Token). plain (codes "as-path") ∷ us) (k ∙ ap (λ (us : List Token). plain (codes "originates-from") ∷ us) l);
  sign = refl;
  words = λ r. refl;
}
path_begins front rest (NeighborIs n) e (more, k, (t, l, h)) = record {
  first = plain (codes "as-path");
  others = plain (codes "neighbor-is") ∷ t ∷ [];
  text = e ∙ ap (λ (us : List Token). plain (codes "as-path") ∷ us) (k ∙ ap (λ (us : List Token). plain (codes "neighbor-is") ∷ us) l);
  sign = refl;
  words = λ r. refl;
}

pub test_begins : (front : List Token) (t : RplTest) → SpellTest front t → TestBegins front
unfolding sign_in words_behind asks_for_set asks_for_prefixes asks_for_communities value_words begin_with after
test_begins front (Destination s) (rest, e, h) = set_test _ (codes "destination") (codes "in") front rest s e h refl (λ more. refl)
test_begins front (NextHop s) (rest, e, h) = set_test _ (codes "next-hop") (codes "in") front rest s e h refl (λ more. refl)
test_begins front (PathIn s) (rest, e, h) = set_test _ (codes "as-path") (codes "in") front rest s e h refl (λ more. refl)
test_begins front (Path p) (rest, e, h) = path_begins front rest p e h
test_begins front (MatchesAny s) (rest, e, h) = set_test _ (codes "community") (codes "matches-any") front rest s e h refl (λ more. refl)
test_begins front (MatchesEvery s) (rest, e, h) = set_test _ (codes "community") (codes "matches-every") front rest s e h refl (λ more. refl)
test_begins front IsEmpty e = record { first = plain (codes "community"); others = plain (codes "is-empty") ∷ []; text = e; sign = refl; words = λ r. refl }
test_begins front (Med m) (rest, e, (t, last, l, h, (u, k, j))) = record {
  first = plain (codes "med");
  others = t ∷ u ∷ [];
  text = e ∙ ap (λ (us : List Token). plain (codes "med") ∷ us) (l ∙ ap (λ (us : List Token). t ∷ us) k);
  sign = refl;
  words = λ r. refl;
}
test_begins front (OfOrigin o) (rest, e, (t, k, h)) = record {
  first = plain (codes "origin");
  others = plain (codes "is") ∷ t ∷ [];
  text = e ∙ ap (λ (us : List Token). plain (codes "origin") ∷ plain (codes "is") ∷ us) k;
  sign = refl;
  words = λ r. refl;
}

-- ---- what is spelled is found

-- words that belong to a mark are passed over
passed_over : (us rest : List Token) → marks_behind (length us) (us ++ rest) ≡ marks_behind 0 rest
unfolding marks_behind
passed_over [] rest = refl
passed_over (u ∷ us) rest = passed_over us rest

test_found_at : (t : RplTest) (first : Token) (others rest : List Token) → sign_in first ≡ None → words_behind (first ∷ (others ++ rest)) ≡ length others → test_in (first ∷ others) ≡ Some t → mark_at first (others ++ rest) ≡ Some (Asks t, length others)
test_found_at t first others rest sign words found =
    mark_is first (others ++ rest) ∙ ap (λ (o : Option Mark). marked_by o first (others ++ rest)) sign
    ∙ ap (λ (n : ℕ). option_map (λ test. (Asks test, n)) (test_in (first ∷ take n (others ++ rest)))) words
    ∙ ap (λ (us : List Token). option_map (λ test. (Asks test, length others)) (test_in (first ∷ us))) (take-append_seam others rest)
    ∙ ap (λ (o : Option RplTest). option_map (λ test. (Asks test, length others)) o) found

asked : (ms : List Mark) (t : RplTest) (front rest : List Token) → SpellTest front t → marks_behind 0 rest ≡ Some ms → marks_behind 0 (front ++ rest) ≡ Some (Asks t ∷ ms)
unfolding marks_behind
asked ms t front rest h more =
    let b = test_begins front t h in
    let test : test_in (b.first ∷ b.others) ≡ Some t = ap (λ (us : List Token). test_in us) (sym b.text) ∙ test_agrees.only front t h in
    ap (λ (us : List Token). marks_behind 0 (us ++ rest)) b.text
    ∙ rw (test_found_at t b.first b.others rest b.sign (b.words rest) test, passed_over b.others rest, more) refl

pub marks_only : (ms : List Mark) (ts : List Token) → SpellMarks ms ts → marks_behind 0 ts ≡ Some ms
unfolding marks_behind mark_at sign_in
marks_only [] ts e = ap (λ (us : List Token). marks_behind 0 us) e
marks_only (Asks t ∷ ms) ts (front, rest, e, h, more) = ap (λ (us : List Token). marks_behind 0 us) e ∙ asked ms t front rest h (marks_only ms rest more)
marks_only (Opens ∷ ms) ts (rest, e, more) = ap (λ (us : List Token). marks_behind 0 us) e ∙ rw (marks_only ms rest more) refl
marks_only (Closes ∷ ms) ts (rest, e, more) = ap (λ (us : List Token). marks_behind 0 us) e ∙ rw (marks_only ms rest more) refl
marks_only (Negates ∷ ms) ts (rest, e, more) = ap (λ (us : List Token). marks_behind 0 us) e ∙ rw (marks_only ms rest more) refl
marks_only (Joins ∷ ms) ts (rest, e, more) = ap (λ (us : List Token). marks_behind 0 us) e ∙ rw (marks_only ms rest more) refl
marks_only (Divides ∷ ms) ts (rest, e, more) = ap (λ (us : List Token). marks_behind 0 us) e ∙ rw (marks_only ms rest more) refl
