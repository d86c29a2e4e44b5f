-- The ranges, members and counts that are spelled in a Junos pattern are found.
use Rattle.std.proofs.Common.{◌≡◌, refl, sym, ap, subst, ◌∙◌, ℕ, ◌<◌, ◌≤◌, Bool, true, false, List, [], ◌∷◌, ◌++◌, length, append_assoc, Option, Some, None, arith, inl, inr, lit<}
use Rattle.std.specs.Prelude.{◌==◌, decimal, codes, bytes_eq, nat_le}
use Rattle.std.specs.List.{list_any, list_all, position_or_len}
use Rattle.std.proofs.lemmas.Bool.{le-leb, or_parts, and_parts, false_from_ne_true, true≢false}
use Rattle.std.proofs.lemmas.List.{take_at, drop_at, length-append}
use Rattle.text_words.specs.Text.{is_blank}
use Rattle.route_types.specs.Words.{parts_at, number_in, when, ◌>>=◌}
use Rattle.route_types.proofs.Numbers.{number_in_spelled, when_true}
use Rattle.route_types.proofs.Spelled.{parts_at_behind, ap2}
use Rattle.std.proofs.lemmas.Fmt.{decimal_nonempty}
use Rattle.path_patterns.specs.Items.{greatest}
use Rattle.aspath_text.specs.JunosGrammar.{AreBlanks, SpellsRange, SpellsMember, SpellsCount}
use Rattle.aspath_text.specs.JunosRead.{ends_in, range_in, behind_blanks, range_before, member_in, count_of, upper_in, bounds_in, braced_in, count_in, is_sign}
use Rattle.path_patterns.specs.declared.items.NumberRange.{NumberRange}
use Rattle.aspath_text.specs.declared.junos_words.Count.{Count}
use Rattle.aspath_text.proofs.JunosCut.{parts_step, blanks_step, one_blank}
use Rattle.path_patterns.proofs.Lists.{same_bytes}
use Rattle.aspath_text.proofs.JunosBytes.{NoDigit, below_digits, above_digits, blank_digit, is_break, break_digit, small, number_avoids, dash_avoids, range_avoids, range_some, append_avoids, stops, place_behind}

-- ---- ranges

-- a text without the byte has no parts
pub parts_none : (b : ℕ) (word : List ℕ) → list_any (λ c. c == b) word ≡ false → parts_at b word ≡ None
unfolding parts_at
parts_none b [] h = refl
parts_none b (c ∷ cs) h =
    let p = or_parts (c == b) (list_any (λ x. x == b) cs) h in
    ap (λ (t : Bool). parts_step t c cs (parts_at b cs)) p.0
    ∙ ap (λ (o : Option (List ℕ × List ℕ)). o >>= λ parts. Some (c ∷ parts.0, parts.1)) (parts_none b cs p.1)

not_dot : (word : List ℕ) → list_any (λ c. c == 46) word ≡ false → bytes_eq word (codes ".") ≡ false
not_dot word h = false_from_ne_true (bytes_eq word (codes ".")) (λ e. true≢false (subst (λ (w : List ℕ). list_any (λ c. c == 46) w ≡ false) (same_bytes word (codes ".") e) h))

by_ends : (word : List ℕ) → list_any (λ c. c == 46) word ≡ false → range_in word ≡ ends_in (parts_at 45 word) word
unfolding range_in
by_ends word h = ap (λ (t : Bool). elim t [ true ↦ Some (record { least = 0; most = greatest }) | false ↦ ends_in (parts_at 45 word) word ]) (not_dot word h)

one_only : (n : ℕ) → n ≤ greatest → range_in (decimal n) ≡ Some (record { least = n; most = n })
one_only n h =
    by_ends (decimal n) (number_avoids (λ c. c == 46) (below_digits 46 (lit< tt)) n h)
    ∙ ap (λ (o : Option (List ℕ × List ℕ)). ends_in o (decimal n)) (parts_none 45 (decimal n) (number_avoids (λ c. c == 45) (below_digits 45 (lit< tt)) n h))
    ∙ ap (λ (o : Option ℕ). o >>= λ m. Some (record { least = m; most = m })) (number_in_spelled greatest n h (small n greatest h (omega arith)))

two_only : (a b : ℕ) → a ≤ b → b ≤ greatest → range_in (decimal a ++ (45 ∷ decimal b)) ≡ Some (record { least = a; most = b })
two_only a b h k =
    let l : a ≤ greatest = omega arith in
    by_ends (decimal a ++ (45 ∷ decimal b)) (dash_avoids (λ c. c == 46) (below_digits 46 (lit< tt)) refl a b l k)
    ∙ ap (λ (o : Option (List ℕ × List ℕ)). ends_in o (decimal a ++ (45 ∷ decimal b))) (parts_at_behind 45 (decimal a) (decimal b) (number_avoids (λ c. c == 45) (below_digits 45 (lit< tt)) a l))
    ∙ ap2 (λ (o p : Option ℕ). o >>= λ least. p >>= λ most. when (nat_le least most) (record { least = least; most = most })) (number_in_spelled greatest a l (small a greatest l (omega arith))) (number_in_spelled greatest b k (small b greatest k (omega arith)))
    ∙ when_true (nat_le a b) (record { least = a; most = b }) (le-leb a b h)

-- the range of these ends
abbrev ends : ℕ → ℕ → Option NumberRange
ends a b = Some (record { least = a; most = b })

dot_only : range_in (codes ".") ≡ ends 0 greatest
unfolding range_in
dot_only = refl

pub range_only : (word : List ℕ) (r : NumberRange) → SpellsRange word r → range_in word ≡ Some r
range_only word r (inl h) = ap (λ (w : List ℕ). range_in w) h.0 ∙ dot_only ∙ ap2 ends (sym h.1) (sym h.2)
range_only word r (inr (inl h)) = ap (λ (w : List ℕ). range_in w) h.0.spelled ∙ one_only r.least h.0.within ∙ ap (λ (m : ℕ). ends r.least m) (sym h.1)
range_only word r (inr (inr h)) = ap (λ (w : List ℕ). range_in w) h.0 ∙ two_only r.least r.most h.1 h.2

-- ---- members

pub over_blanks : (before rest : List ℕ) → AreBlanks before → behind_blanks (before ++ rest) ≡ behind_blanks rest
over_blanks [] rest h = refl
over_blanks (c ∷ cs) rest h =
    let p = and_parts (is_blank c) (list_all is_blank cs) h in
    one_blank c (cs ++ rest) p.0 ∙ over_blanks cs rest p.1

pub no_blank : (c : ℕ) (cs : List ℕ) → is_blank c ≡ false → behind_blanks (c ∷ cs) ≡ c ∷ cs
unfolding behind_blanks
no_blank c cs t = ap (λ (b : Bool). blanks_step b c cs (behind_blanks cs)) t

word_stays : (word rest : List ℕ) → list_any is_blank word ≡ false → 0 < length word → behind_blanks (word ++ rest) ≡ word ++ rest
word_stays [] rest h some = absurd (omega (arith, some))
word_stays (c ∷ cs) rest h some = no_blank c (cs ++ rest) (or_parts (is_blank c) (list_any is_blank cs) h).0

pub blanks_stop : (text : List ℕ) → AreBlanks text → stops is_blank text ≡ true
blanks_stop [] h = refl
blanks_stop (c ∷ cs) h = (and_parts (is_blank c) (list_all is_blank cs) h).0

-- the range of a word, where blanks are all that stands behind it
abbrev range_if : List ℕ → List ℕ → Option NumberRange
range_if word behind = elim (list_all is_blank behind) [ true ↦ range_in word | false ↦ None ]

before_only : (word behind : List ℕ) → AreBlanks behind → range_before (length word) (word ++ behind) ≡ range_in word
before_only word behind h =
    ap2 range_if (take_at word behind (length word) refl) (drop_at word behind (length word) refl)
    ∙ ap (λ (t : Bool). elim t [ true ↦ range_in word | false ↦ None ]) h

member_by : (text : List ℕ) (place : ℕ) (behind : List ℕ) → behind_blanks text ≡ behind → position_or_len is_blank behind ≡ place → member_in text ≡ range_before place behind
unfolding member_in
member_by text place behind e p = ap (λ (b : List ℕ). range_before (position_or_len is_blank b) b) e ∙ ap (λ (n : ℕ). range_before n behind) p

pub member_only : (text : List ℕ) (r : NumberRange) → SpellsMember text r → member_in text ≡ Some r
member_only text r h =
    let plain = range_avoids is_blank blank_digit refl refl h.word r h.range in
    member_by text (length h.word) (h.word ++ h.behind)
    (ap (λ (t : List ℕ). behind_blanks t) h.spelled ∙ over_blanks h.before (h.word ++ h.behind) h.blanks_before ∙ word_stays h.word h.behind plain (range_some h.word r h.range))
    (place_behind is_blank h.word h.behind plain (blanks_stop h.behind h.blanks_behind))
    ∙ before_only h.word h.behind h.blanks_behind
    ∙ range_only h.word r h.range

-- ---- counts

number_only : (n : ℕ) → n ≤ 255 → number_in 255 (decimal n) ≡ Some n
number_only n h = number_in_spelled 255 n h (omega arith)

bound_avoids : (t : ℕ → Bool) → NoDigit t → (n : ℕ) → n ≤ 255 → list_any t (decimal n) ≡ false
bound_avoids t digit n h = number_avoids t digit n (omega arith)

by_brace : (text : List ℕ) → 0 < length text → count_in (123 ∷ text) ≡ braced_in text
unfolding count_in
by_brace [] some = absurd (omega (arith, some))
by_brace (c ∷ cs) some = refl

-- what braces give round these bounds
braces_only : (inner : List ℕ) (k : Count) → list_any (λ c. c == 125) inner ≡ false → bounds_in (parts_at 44 inner) inner ≡ Some k → count_in (123 ∷ (inner ++ (125 ∷ []))) ≡ Some k
braces_only inner k h e =
    by_brace (inner ++ (125 ∷ [])) (omega (arith, length-append inner (125 ∷ [])))
    ∙ ap (λ (o : Option (List ℕ × List ℕ)). o >>= λ parts. elim (length parts.1 == 0) [ true ↦ bounds_in (parts_at 44 parts.0) parts.0 | false ↦ None ]) (parts_at_behind 125 inner [] h)
    ∙ e

one_bound : (n : ℕ) → n ≤ 255 → count_in (123 ∷ (decimal n ++ (125 ∷ []))) ≡ Some (count_of n (Some n))
one_bound n h =
    braces_only (decimal n) (count_of n (Some n)) (bound_avoids (λ c. c == 125) (above_digits 125 (lit< tt)) n h)
    (ap (λ (o : Option (List ℕ × List ℕ)). bounds_in o (decimal n)) (parts_none 44 (decimal n) (bound_avoids (λ c. c == 44) (below_digits 44 (lit< tt)) n h))
    ∙ ap (λ (o : Option ℕ). o >>= λ m. Some (count_of m (Some m))) (number_only n h))

-- the bounds of a least number and a text behind the comma
comma_only : (least : ℕ) (behind : List ℕ) (k : Count) → least ≤ 255 → list_any (λ c. c == 125) behind ≡ false → upper_in least behind ≡ Some k → count_in (123 ∷ ((decimal least ++ (44 ∷ behind)) ++ (125 ∷ []))) ≡ Some k
comma_only least behind k h plain e =
    braces_only (decimal least ++ (44 ∷ behind)) k
    (append_avoids (λ c. c == 125) (decimal least) (44 ∷ behind) (bound_avoids (λ c. c == 125) (above_digits 125 (lit< tt)) least h) plain)
    (ap (λ (o : Option (List ℕ × List ℕ)). bounds_in o (decimal least ++ (44 ∷ behind))) (parts_at_behind 44 (decimal least) behind (bound_avoids (λ c. c == 44) (below_digits 44 (lit< tt)) least h))
    ∙ ap (λ (o : Option ℕ). o >>= λ m. upper_in m behind) (number_only least h)
    ∙ e)

by_upper : (least : ℕ) (text : List ℕ) → 0 < length text → upper_in least text ≡ (number_in 255 text >>= λ most. when (nat_le least most) (count_of least (Some most)))
by_upper least [] some = absurd (omega (arith, some))
by_upper least (c ∷ cs) some = refl

upper_only : (least most : ℕ) → least ≤ most → most ≤ 255 → upper_in least (decimal most) ≡ Some (count_of least (Some most))
upper_only least most h k =
    by_upper least (decimal most) (decimal_nonempty most (omega arith))
    ∙ ap (λ (o : Option ℕ). o >>= λ m. when (nat_le least m) (count_of least (Some m))) (number_only most k)
    ∙ when_true (nat_le least most) (count_of least (Some most)) (le-leb least most h)

-- the count of these bounds
abbrev pub counted : ℕ → Option ℕ → Option Count
counted least most = Some (count_of least most)

star_only : count_in (codes "*") ≡ counted 0 None
unfolding count_in
star_only = refl

plus_only : count_in (codes "+") ≡ counted 1 None
unfolding count_in
plus_only = refl

question_only : count_in (codes "?") ≡ counted 0 (Some 1)
unfolding count_in
question_only = refl

once_only : count_in [] ≡ counted 1 (Some 1)
unfolding count_in
once_only = refl

abbrev counts : List ℕ → Option Count
counts text = count_in text

pub count_only : (text : List ℕ) (least : ℕ) (most : Option ℕ) → SpellsCount text least most → count_in text ≡ counted least most
count_only text least None (inl h) = ap counts h.0 ∙ star_only ∙ ap (λ (l : ℕ). counted l None) (sym h.1)
count_only text least None (inr (inl h)) = ap counts h.0 ∙ plus_only ∙ ap (λ (l : ℕ). counted l None) (sym h.1)
count_only text least None (inr (inr h)) =
    ap counts (h.0 ∙ ap (λ (x : List ℕ). 123 ∷ x) (sym (append_assoc (decimal least) (44 ∷ []) (125 ∷ []))))
    ∙ comma_only least [] (count_of least None) h.1 refl refl
count_only text least (Some most) (inl h) = ap counts h.0 ∙ once_only ∙ ap2 (λ (l m : ℕ). counted l (Some m)) (sym h.1) (sym h.2)
count_only text least (Some most) (inr (inl h)) = ap counts h.0 ∙ question_only ∙ ap2 (λ (l m : ℕ). counted l (Some m)) (sym h.1) (sym h.2)
count_only text least (Some most) (inr (inr (inl h))) = ap counts h.0 ∙ one_bound least h.1 ∙ ap (λ (m : ℕ). counted least (Some m)) (sym h.2)
count_only text least (Some most) (inr (inr (inr h))) =
    ap counts (h.0 ∙ ap (λ (x : List ℕ). 123 ∷ x) (sym (append_assoc (decimal least) (44 ∷ decimal most) (125 ∷ []))))
    ∙ comma_only least (decimal most) (count_of least (Some most)) (omega (arith, h.1, h.2)) (bound_avoids (λ c. c == 125) (above_digits 125 (lit< tt)) most h.2) (upper_only least most h.1 h.2)

-- a count starts with a sign
pub count_stops : (text : List ℕ) (least : ℕ) (most : Option ℕ) → SpellsCount text least most → stops is_sign text ≡ true
count_stops text least None (inl h) = ap (λ (t : List ℕ). stops is_sign t) h.0
count_stops text least None (inr (inl h)) = ap (λ (t : List ℕ). stops is_sign t) h.0
count_stops text least None (inr (inr h)) = ap (λ (t : List ℕ). stops is_sign t) h.0
count_stops text least (Some most) (inl h) = ap (λ (t : List ℕ). stops is_sign t) h.0
count_stops text least (Some most) (inr (inl h)) = ap (λ (t : List ℕ). stops is_sign t) h.0
count_stops text least (Some most) (inr (inr (inl h))) = ap (λ (t : List ℕ). stops is_sign t) h.0
count_stops text least (Some most) (inr (inr (inr h))) = ap (λ (t : List ℕ). stops is_sign t) h.0

-- no blank and no parenthesis stands in a count
abbrev pub breaks : List ℕ → Bool
breaks text = list_any is_break text

bound_breaks : (n : ℕ) (rest : List ℕ) → n ≤ 255 → breaks rest ≡ false → breaks (123 ∷ (decimal n ++ rest)) ≡ false
bound_breaks n rest h k = append_avoids is_break (decimal n) rest (bound_avoids is_break break_digit n h) k

pub count_breaks : (text : List ℕ) (least : ℕ) (most : Option ℕ) → SpellsCount text least most → breaks text ≡ false
count_breaks text least None (inl h) = ap breaks h.0
count_breaks text least None (inr (inl h)) = ap breaks h.0
count_breaks text least None (inr (inr h)) = ap breaks h.0 ∙ bound_breaks least (codes ",}") h.1 refl
count_breaks text least (Some most) (inl h) = ap breaks h.0
count_breaks text least (Some most) (inr (inl h)) = ap breaks h.0
count_breaks text least (Some most) (inr (inr (inl h))) = ap breaks h.0 ∙ bound_breaks least (codes "}") h.1 refl
count_breaks text least (Some most) (inr (inr (inr h))) =
    ap breaks h.0 ∙ bound_breaks least (44 ∷ (decimal most ++ codes "}")) (omega (arith, h.1, h.2)) (append_avoids is_break (decimal most) (codes "}") (bound_avoids is_break break_digit most h.2) refl)
