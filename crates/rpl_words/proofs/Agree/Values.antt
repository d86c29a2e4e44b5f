-- The names, numbers and communities of RPL agree with what they spell.
use Rattle.std.proofs.Common.{◌≡◌, refl, sym, ap, ◌∙◌, subst, ℕ, ◌^◌, ◌<◌, ◌≤◌, Bool, true, false, IsTrue, ◌&&◌, List, [], ◌∷◌, ◌++◌, length, append_assoc, Option, Some, None, arith, inl, inr, lit<}
use Rattle.std.specs.Prelude.{codes, decimal, bytes_eq, nat_le, ◌==◌, option_map}
use Rattle.std.specs.List.{list_any}
use Rattle.std.proofs.lemmas.Bool.{and_parts, eqb-true, or_from, leb-true, le-leb}
use Rattle.std.proofs.lemmas.List.Folds.{list_any-append}
use Rattle.route_types.specs.Community.{RectParts}
use Rattle.route_types.specs.Words.{◌>>=◌, when, number_in, parts_at}
use Rattle.route_types.proofs.Numbers.{bind_found, some_is, when_true, decimal_no_such_byte, number_in_spelled}
use Rattle.route_types.proofs.Spelled.{parts_at_behind, parts_at_found, ap2}
use Rattle.policy_text.specs.Names.{first_some}
use Rattle.policy_text.specs.Halves.{number_or_all, halves_in, rect_of}
use Rattle.policy_text.specs.Phrases.{Agrees, IsOneOf, one_of}
use Rattle.policy_text.proofs.Phrases.{when_found, same_bytes, first_found, map_found}
use Rattle.policy_text.proofs.Agree.{one_of_agrees}
use Rattle.policy_text.proofs.Values.{number_agrees}
use Rattle.rpl_words.specs.Values.{is_rpl_name, is_inner_name, comparisons, known_elements, IsHeaderName, IsInnerName, IsParameter, IsNumberWord, IsHalf, IsPair, IsRect, header_name_in, inner_name_in, parameter_in, given_in, number_or_given, rpl_number_in, comparison_in, half_range_in, half_in, rect_in}
use Rattle.rpl_words.specs.declared.number.RplNumber.{RplNumber}
use Rattle.rpl_words.specs.declared.number.RplNumber.TheVariants.{Fixed, Parameter as GivenNumber}

-- ---- names

pub header_name_agrees : Agrees header_name_in IsHeaderName
unfolding header_name_in
header_name_agrees = record {
  found = λ w v e. let h = when_found (is_rpl_name w) w v e in record { named = h.0; is = sym h.1 };
  only = λ w v h. when_true (is_rpl_name w) w h.named ∙ ap (λ (x : List ℕ). Some x) (sym h.is);
}

pub inner_name_agrees : Agrees inner_name_in IsInnerName
unfolding inner_name_in
inner_name_agrees = record {
  found = λ w v e. let h = when_found (is_inner_name w) w v e in record { named = h.0; is = sym h.1 };
  only = λ w v h. when_true (is_inner_name w) w h.named ∙ ap (λ (x : List ℕ). Some x) (sym h.is);
}

parameter_found : (w name : List ℕ) → parameter_in w ≡ Some name → IsParameter w name
unfolding parameter_in
parameter_found [] name e = absurd cc
parameter_found (c ∷ cs) name e =
    let h = when_found ((c == 36) && nat_le 1 (length cs) && is_rpl_name cs) cs name e in
    let p = and_parts ((c == 36) && nat_le 1 (length cs)) (is_rpl_name cs) h.0 in
    let q = and_parts (c == 36) (nat_le 1 (length cs)) p.0 in
    record {
      spelled = ap2 (λ (x : ℕ) (xs : List ℕ). x ∷ xs) (eqb-true c 36 q.0) h.1;
      some = subst (λ (xs : List ℕ). 1 ≤ length xs) h.1 (leb-true 1 (length cs) q.1);
      named = subst (λ (xs : List ℕ). is_rpl_name xs ≡ true) h.1 p.1;
    }

parameter_only : (w name : List ℕ) → IsParameter w name → parameter_in w ≡ Some name
unfolding parameter_in
parameter_only w name h = ap (λ (x : List ℕ). parameter_in x) h.spelled ∙ when_true (nat_le 1 (length name) && is_rpl_name name) name (rw (le-leb 1 (length name) h.some) h.named)

pub parameter_agrees : Agrees parameter_in IsParameter
parameter_agrees = record { found = parameter_found; only = parameter_only }

-- ---- numbers

given_found : (within : Bool) (w name : List ℕ) → given_in within w ≡ Some name → IsTrue within × IsParameter w name
given_found true w name e = (refl, parameter_found w name e)
given_found false w name e = absurd cc

given_only : (within : Bool) (w name : List ℕ) → IsTrue within × IsParameter w name → given_in within w ≡ Some name
given_only true w name h = parameter_only w name h.1
given_only false w name h = let k : ◌≡◌ {A = Bool} false true = h.0 in cc

-- a parameter is no number
given_is_none : (most : ℕ) (cs : List ℕ) → number_in most (36 ∷ cs) ≡ None
unfolding number_in
given_is_none most [] = refl
given_is_none most (d ∷ cs) = refl

-- nor is a word that begins with `[`
bracket_is_none : (most : ℕ) (cs : List ℕ) → number_in most (91 ∷ cs) ≡ None
unfolding number_in
bracket_is_none most [] = refl
bracket_is_none most (d ∷ cs) = refl

number_found : (within : Bool) (most : ℕ) → most < 2 ^ 64 → (w : List ℕ) (n : RplNumber ℕ) → rpl_number_in within most w ≡ Some n → IsNumberWord within most w n
unfolding number_or_given
number_found within most small w n e =
    first_found (option_map (λ k. Fixed k) (number_in most w)) (option_map (λ x. GivenNumber x) (given_in within w)) n (IsNumberWord within most w n)
    (λ h. let k = map_found (number_in most w) (λ m. Fixed m) n h in subst (IsNumberWord within most w) k.2 ((number_agrees most small).found w k.0 k.1))
    (λ h. let k = map_found (given_in within w) (λ x. GivenNumber x) n h in subst (IsNumberWord within most w) k.2 (given_found within w k.0 k.1))
    e

number_only : (within : Bool) (most : ℕ) → most < 2 ^ 64 → (w : List ℕ) (n : RplNumber ℕ) → IsNumberWord within most w n → rpl_number_in within most w ≡ Some n
unfolding number_or_given
number_only within most small w (Fixed n) h = ap (λ (o : Option ℕ). first_some (option_map (λ k. Fixed k) o) (option_map (λ x. GivenNumber x) (given_in within w))) ((number_agrees most small).only w n h)
number_only within most small w (GivenNumber x) h =
    let none : number_in most w ≡ None = ap (λ (v : List ℕ). number_in most v) h.1.spelled ∙ given_is_none most x in
    ap (λ (o : Option ℕ). first_some (option_map (λ k. Fixed k) o) (option_map (λ x. GivenNumber x) (given_in within w))) none
    ∙ ap (λ (o : Option (List ℕ)). option_map (λ x. GivenNumber x) o) (given_only within w x h)

pub rpl_number_agrees : (within : Bool) (most : ℕ) → most < 2 ^ 64 → Agrees (rpl_number_in within most) (IsNumberWord within most)
rpl_number_agrees within most small = record { found = number_found within most small; only = number_only within most small }

pub comparison_agrees : Agrees comparison_in (IsOneOf comparisons)
unfolding comparison_in
comparison_agrees = one_of_agrees comparisons refl

-- ---- halves of communities

nothing : (xs : List ℕ) → nat_le (length xs) 0 ≡ true → xs ≡ []
nothing [] e = refl
nothing (x ∷ xs) e = let k = leb-true (length (x ∷ xs)) 0 e in absurd (omega (arith, k))

range_found : (w : List ℕ) (h : ℕ × ℕ) → half_range_in w ≡ Some h → IsHalf w h
unfolding half_range_in
range_found w h e =
    let front = bind_found (parts_at 91 w) _ h e in
    let back = bind_found (parts_at 93 front.0.1) _ h front.2 in
    let dot = bind_found (parts_at 46 back.0.0) _ h back.2 in
    let more = bind_found (parts_at 46 dot.0.1) _ h dot.2 in
    let least = bind_found (number_in 65535 dot.0.0) _ h more.2 in
    let most = bind_found (number_in 65535 more.0.1) _ h least.2 in
    let k = when_found (nat_le (length front.0.0) 0 && nat_le (length back.0.1) 0 && nat_le (length more.0.0) 0 && nat_le least.0 most.0) (least.0, most.0) h most.2 in
    let p = and_parts (nat_le (length front.0.0) 0 && nat_le (length back.0.1) 0 && nat_le (length more.0.0) 0) (nat_le least.0 most.0) k.0 in
    let q = and_parts (nat_le (length front.0.0) 0 && nat_le (length back.0.1) 0) (nat_le (length more.0.0) 0) p.0 in
    let r = and_parts (nat_le (length front.0.0) 0) (nat_le (length back.0.1) 0) q.0 in
    let low = (number_agrees 65535 (lit< tt)).found dot.0.0 least.0 least.1 in
    let high = (number_agrees 65535 (lit< tt)).found more.0.1 most.0 most.1 in
    let dots : dot.0.1 ≡ 46 ∷ decimal most.0 = parts_at_found 46 dot.0.1 more.0 more.1 ∙ ap2 (λ (x y : List ℕ). x ++ (46 ∷ y)) (nothing more.0.0 q.1) high.spelled in
    let body : back.0.0 ≡ decimal least.0 ++ (46 ∷ (46 ∷ decimal most.0)) = parts_at_found 46 back.0.0 dot.0 dot.1 ∙ ap2 (λ (x y : List ℕ). x ++ (46 ∷ y)) low.spelled dots in
    let inner : front.0.1 ≡ decimal least.0 ++ (46 ∷ (46 ∷ (decimal most.0 ++ (93 ∷ [])))) =
    parts_at_found 93 front.0.1 back.0 back.1 ∙ ap2 (λ (x y : List ℕ). x ++ (93 ∷ y)) body (nothing back.0.1 r.1) ∙ append_assoc (decimal least.0) (46 ∷ (46 ∷ decimal most.0)) (93 ∷ []) in
    let text = parts_at_found 91 w front.0 front.1 ∙ ap2 (λ (x y : List ℕ). x ++ (91 ∷ y)) (nothing front.0.0 r.0) inner in
    subst (IsHalf w) k.1 (inr (inr (text, leb-true least.0 most.0 p.1, high.within)))

range_spelled : (least most : ℕ) → least ≤ most → most ≤ 65535 → half_range_in (91 ∷ (decimal least ++ (46 ∷ 46 ∷ (decimal most ++ (93 ∷ []))))) ≡ Some (least, most)
unfolding half_range_in parts_at
range_spelled least most le within =
    let low : least < 2 ^ 64 = omega arith in
    let high : most < 2 ^ 64 = omega arith in
    let text = sym (append_assoc (decimal least) (46 ∷ (46 ∷ decimal most)) (93 ∷ [])) in
    let none : list_any (λ c. c == 93) (decimal least ++ (46 ∷ (46 ∷ decimal most))) ≡ false =
    list_any-append (λ c. c == 93) (decimal least) (46 ∷ (46 ∷ decimal most)) ∙ or_from (list_any (λ c. c == 93) (decimal least)) (list_any (λ c. c == 93) (46 ∷ (46 ∷ decimal most))) (decimal_no_such_byte 93 least refl low) (decimal_no_such_byte 93 most refl high) in
    ap (λ (x : List ℕ). half_range_in (91 ∷ x)) text
    ∙ rw (parts_at_behind 93 (decimal least ++ (46 ∷ (46 ∷ decimal most))) [] none, parts_at_behind 46 (decimal least) (46 ∷ decimal most) (decimal_no_such_byte 46 least refl low), number_in_spelled 65535 least (omega (arith, le, within)) low, number_in_spelled 65535 most within high, le-leb least most le) refl

half_found : (w : List ℕ) (h : ℕ × ℕ) → half_in w ≡ Some h → IsHalf w h
unfolding half_in
half_found w h e =
    first_found (number_or_all w) (half_range_in w) h (IsHalf w h)
    (λ g. first_found (number_in 65535 w >>= λ n. Some (n, n)) (when (bytes_eq w (codes "*")) (0, 65535)) h (IsHalf w h)
    (λ d. let n = bind_found (number_in 65535 w) (λ m. Some (m, m)) h d in subst (IsHalf w) (some_is (n.0, n.0) h n.2) (inl ((number_agrees 65535 (lit< tt)).found w n.0 n.1, refl)))
    (λ d. let k = when_found (bytes_eq w (codes "*")) (0, 65535) h d in subst (IsHalf w) k.1 (inr (inl (same_bytes w (codes "*") k.0, refl, refl))))
    g)
    (λ g. range_found w h g)
    e

half_spelled : (w : List ℕ) (least most : ℕ) → IsHalf w (least, most) → half_in w ≡ Some (least, most)
unfolding half_in number_in
half_spelled w least most (inl (h, e)) = rw e (ap (λ (o : Option ℕ). first_some (first_some (o >>= λ n. Some (n, n)) (when (bytes_eq w (codes "*")) (0, 65535))) (half_range_in w)) ((number_agrees 65535 (lit< tt)).only w least h))
half_spelled w least most (inr (inl (e, f, g))) = rw (e, f, g) refl
half_spelled w least most (inr (inr (e, le, within))) =
    let rest = decimal least ++ (46 ∷ 46 ∷ (decimal most ++ (93 ∷ []))) in
    ap (λ (x : List ℕ). half_in x) e
    ∙ ap (λ (o : Option ℕ). first_some (first_some (o >>= λ n. Some (n, n)) None) (half_range_in (91 ∷ rest))) (bracket_is_none 65535 rest)
    ∙ range_spelled least most le within

-- a byte that is no digit and none of `*`, `[`, `.`, `]` doesn't stand in a half
half_avoids : (w : List ℕ) (least most : ℕ) → IsHalf w (least, most) → list_any (λ c. c == 58) w ≡ false
half_avoids w least most (inl (h, e)) = ap (λ (x : List ℕ). list_any (λ c. c == 58) x) h.spelled ∙ decimal_no_such_byte 58 least refl (omega (arith, h.within))
half_avoids w least most (inr (inl (e, f, g))) = ap (λ (x : List ℕ). list_any (λ c. c == 58) x) e
half_avoids w least most (inr (inr (e, le, within))) =
    let low : least < 2 ^ 64 = omega arith in
    let high : most < 2 ^ 64 = omega arith in
    let behind : list_any (λ c. c == 58) (46 ∷ 46 ∷ (decimal most ++ (93 ∷ []))) ≡ false =
    list_any-append (λ c. c == 58) (decimal most) (93 ∷ []) ∙ or_from (list_any (λ c. c == 58) (decimal most)) (list_any (λ c. c == 58) (93 ∷ [])) (decimal_no_such_byte 58 most refl high) refl in
    ap (λ (x : List ℕ). list_any (λ c. c == 58) x) e
    ∙ (list_any-append (λ c. c == 58) (decimal least) (46 ∷ 46 ∷ (decimal most ++ (93 ∷ []))) ∙ or_from (list_any (λ c. c == 58) (decimal least)) (list_any (λ c. c == 58) (46 ∷ 46 ∷ (decimal most ++ (93 ∷ [])))) (decimal_no_such_byte 58 least refl low) behind)

-- ---- elements of community sets

pair_found : (w : List ℕ) (r : RectParts) → halves_in half_in w ≡ Some r → IsPair w r
unfolding halves_in
pair_found w r e =
    let halves = bind_found (parts_at 58 w) _ r e in
    let high = bind_found (half_in halves.0.0) _ r halves.2 in
    let low = bind_found (half_in halves.0.1) _ r high.2 in
    subst (IsPair w) (some_is (rect_of high.0 low.0) r low.2) (record {
      high = halves.0.0;
      low = halves.0.1;
      spelled = parts_at_found 58 w halves.0 halves.1;
      high_half = half_found halves.0.0 high.0 high.1;
      low_half = half_found halves.0.1 low.0 low.1;
    })

pair_spelled : (w : List ℕ) (r : RectParts) → IsPair w r → halves_in half_in w ≡ Some r
unfolding halves_in
pair_spelled w r h =
    ap (λ (x : List ℕ). halves_in half_in x) h.spelled
    ∙ rw (parts_at_behind 58 h.high h.low (half_avoids h.high r.high_least r.high_most h.high_half), half_spelled h.high r.high_least r.high_most h.high_half, half_spelled h.low r.low_least r.low_most h.low_half) refl

rect_found : (w : List ℕ) (r : RectParts) → rect_in w ≡ Some r → IsRect w r
unfolding rect_in
rect_found w r e = first_found (halves_in half_in w) (one_of known_elements w) r (IsRect w r) (λ h. inl (pair_found w r h)) (λ h. inr ((one_of_agrees known_elements refl).found w r h)) e

rect_only : (w : List ℕ) (r : RectParts) → IsRect w r → rect_in w ≡ Some r
unfolding rect_in halves_in parts_at
rect_only w r (inl h) = ap (λ (o : Option RectParts). first_some o (one_of known_elements w)) (pair_spelled w r h)
rect_only w r (inr (inl (e, f))) = rw (e, f) refl
rect_only w r (inr (inr (inl (e, f)))) = rw (e, f) refl
rect_only w r (inr (inr (inr (inl (e, f))))) = rw (e, f) refl
rect_only w r (inr (inr (inr (inr h)))) = absurd h

pub rect_agrees : Agrees rect_in IsRect
rect_agrees = record { found = rect_found; only = rect_only }
