-- The words that are no plain numbers, prefixes or addresses agree with what they spell.
use Rattle.std.proofs.Common.{◌≡◌, refl, sym, ap, ◌∙◌, subst, ℕ, ◌-◌, ◌^◌, ◌<◌, Bool, true, false, ◌&&◌, List, [], ◌∷◌, ◌++◌, length, append_assoc, Option, Some, None, arith, inl, inr, lit<}
use Rattle.std.specs.Prelude.{codes, decimal, bytes_eq, nat_le, ◌==◌}
use Rattle.std.specs.List.{list_any}
use Rattle.std.proofs.lemmas.Bool.{and_parts, eqb-true, or_from, or_parts, leb-true, le-leb}
use Rattle.std.proofs.lemmas.List.Folds.{list_any-append}
use Rattle.route_types.specs.Community.{RectParts}
use Rattle.route_types.specs.Words.{◌>>=◌, when, is_digit, number_in, parts_at, community_in, IsNumber}
use Rattle.route_types.specs.declared.community.Community.{Community}
use Rattle.route_types.proofs.Numbers.{bind_found, some_is, when_true, decimal_no_such_byte}
use Rattle.route_types.proofs.Parts.{no_parts}
use Rattle.route_types.proofs.Spelled.{parts_at_behind, parts_at_found, ap2}
use Rattle.aspath_text.specs.IosGrammar.{SpellsPattern}
use Rattle.aspath_text.specs.IosRead.{ios_pattern_in}
use Rattle.aspath_text.proofs.IosReadSpelled.{ios_pattern_found, ios_pattern_only}
use Rattle.policy_text.specs.CommonWords.{community_of_bits}
use Rattle.policy_text.specs.Names.{is_name, first_some}
use Rattle.policy_text.specs.Phrases.{Agrees, IsOneOf, one_of}
use Rattle.policy_text.proofs.Phrases.{when_found, same_bytes, first_found, no_keyword}
use Rattle.policy_text.proofs.Agree.{one_of_agrees}
use Rattle.policy_text.proofs.Values.{number_agrees, community_agrees}
use Rattle.ios_tree.specs.Names.{list_name, list_in, numbered_list_in, actions, origins, permit_in, origin_in, ios_communities, whole_community, community_word_in, half_in, shape_in}
use Rattle.ios_tree.specs.Spelling.{IsListWord, IsListNumber, IsCommunityWord, IsHalf, IsShape}

-- ---- names of lists

pub list_agrees : Agrees list_in IsListWord
unfolding list_in
list_agrees = record {
  found = λ w l e. let h = when_found (is_name w) (list_name w) l e in record { named = h.0; names = sym h.1 };
  only = λ w l h. when_true (is_name w) (list_name w) h.named ∙ ap (λ (x : List ℕ). Some x) (sym h.names);
}

pub numbered_list_agrees : (least most : ℕ) → most < 2 ^ 64 → Agrees (numbered_list_in least most) (IsListNumber least most)
unfolding numbered_list_in
numbered_list_agrees least most small = record {
  found = λ w l e.
      let n = bind_found (number_in most w) (λ m. when (nat_le least m) w) l e in
      let k = when_found (nat_le least n.0) w l n.2 in
      record { number = n.0; spelled = (number_agrees most small).found w n.0 n.1; some = leb-true least n.0 k.0; names = sym k.1 };
  only = λ w l h.
      rw ((number_agrees most small).only w h.number h.spelled) (when_true (nat_le least h.number) w (le-leb least h.number h.some) ∙ ap (λ (x : List ℕ). Some x) (sym h.names));
}

-- ---- words of a table

pub permit_agrees : Agrees permit_in (IsOneOf actions)
unfolding permit_in
permit_agrees = one_of_agrees actions refl

pub origin_agrees : Agrees origin_in (IsOneOf origins)
unfolding origin_in
origin_agrees = one_of_agrees origins refl

-- ---- communities

whole_found : (w : List ℕ) (c : Community) → whole_community w ≡ Some c → IsNumber (2 ^ 32 - 1) w c.0
whole_found w c e =
    let n = bind_found (number_in (2 ^ 32 - 1) w) (λ bits. Some (community_of_bits bits)) c e in
    subst (λ (x : Community). IsNumber (2 ^ 32 - 1) w x.0) (some_is (community_of_bits n.0) c n.2) ((number_agrees (2 ^ 32 - 1) (lit< tt)).found w n.0 n.1)

community_word_found : (w : List ℕ) (c : Community) → community_word_in w ≡ Some c → IsCommunityWord w c
unfolding community_word_in
community_word_found w c e =
    first_found (community_in w) (first_some (one_of ios_communities w) (whole_community w)) c (IsCommunityWord w c) (λ h. inl (community_agrees.found w c h))
    (λ g. first_found (one_of ios_communities w) (whole_community w) c (IsCommunityWord w c) (λ h. inr (inl ((one_of_agrees ios_communities refl).found w c h))) (λ h. inr (inr (whole_found w c h))) g)
    e

-- a number is no word of its own
number_unknown : (n : ℕ) → n < 2 ^ 64 → one_of ios_communities (decimal n) ≡ None
number_unknown n small =
    rw (no_keyword n 110 (codes "o-export") small refl, one_of) (rw (no_keyword n 110 (codes "o-advertise") small refl, one_of) (rw (no_keyword n 108 (codes "ocal-AS") small refl, one_of) refl))

number_word : (w : List ℕ) (c : Community) → IsNumber (2 ^ 32 - 1) w c.0 → community_word_in w ≡ Some c
unfolding community_in community_word_in
number_word w c h =
    let small : c.0 < 2 ^ 64 = omega (arith, h.within) in
    ap (λ (x : List ℕ). community_word_in x) h.spelled
    ∙ rw (no_parts 58 (decimal c.0) (decimal_no_such_byte 58 c.0 refl small)) (
    ap (λ (o : Option Community). first_some o (whole_community (decimal c.0))) (number_unknown c.0 small)
    ∙ rw ((number_agrees (2 ^ 32 - 1) (lit< tt)).only (decimal c.0) c.0 (record { spelled = refl; within = h.within })) refl)

community_word_only : (w : List ℕ) (c : Community) → IsCommunityWord w c → community_word_in w ≡ Some c
unfolding community_in community_word_in parts_at
community_word_only w c (inl h) = ap (λ (o : Option Community). first_some o (first_some (one_of ios_communities w) (whole_community w))) (community_agrees.only w c h)
community_word_only w c (inr (inl (inl (e, f)))) = rw (e, f) refl
community_word_only w c (inr (inl (inr (inl (e, f))))) = rw (e, f) refl
community_word_only w c (inr (inl (inr (inr (inl (e, f)))))) = rw (e, f) refl
community_word_only w c (inr (inl (inr (inr (inr h))))) = absurd h
community_word_only w c (inr (inr h)) = number_word w c h

pub community_word_agrees : Agrees community_word_in IsCommunityWord
community_word_agrees = record { found = community_word_found; only = community_word_only }

-- ---- shapes

half_found : (w : List ℕ) (h : ℕ × ℕ) → half_in w ≡ Some h → IsHalf w h.0 h.1
half_found w h e =
    first_found (number_in 65535 w >>= λ n. Some (n, n)) (when (bytes_eq w (codes "[0-9]+")) (0, 65535)) h (IsHalf w h.0 h.1)
    (λ g. let n = bind_found (number_in 65535 w) (λ m. Some (m, m)) h g in subst (λ (x : ℕ × ℕ). IsHalf w x.0 x.1) (some_is (n.0, n.0) h n.2) (inl ((number_agrees 65535 (lit< tt)).found w n.0 n.1, refl)))
    (λ g. let k = when_found (bytes_eq w (codes "[0-9]+")) (0, 65535) h g in subst (λ (x : ℕ × ℕ). IsHalf w x.0 x.1) k.1 (inr (same_bytes w (codes "[0-9]+") k.0, refl, refl)))
    e

half_spelled : (w : List ℕ) (least most : ℕ) → IsHalf w least most → half_in w ≡ Some (least, most)
unfolding number_in
half_spelled w least most (inl (h, e)) = rw e (ap (λ (o : Option ℕ). first_some (o >>= λ n. Some (n, n)) (when (bytes_eq w (codes "[0-9]+")) (0, 65535))) ((number_agrees 65535 (lit< tt)).only w least h))
half_spelled w least most (inr (e, f, g)) = rw (e, f, g) refl

-- a byte that is no digit and doesn't stand in `[0-9]+` doesn't stand in a half
half_avoids : (b : ℕ) (w : List ℕ) (least most : ℕ) → is_digit b ≡ false → list_any (λ c. c == b) (codes "[0-9]+") ≡ false → IsHalf w least most
    → list_any (λ c. c == b) w ≡ false
half_avoids b w least most other all (inl (h, e)) = ap (λ (x : List ℕ). list_any (λ c. c == b) x) h.spelled ∙ decimal_no_such_byte b least other (omega (arith, h.within))
half_avoids b w least most other all (inr (e, f, g)) = ap (λ (x : List ℕ). list_any (λ c. c == b) x) e ∙ all

-- a list of no bytes
pub no_bytes : {A : Type 0} (xs : List A) → (length xs == 0) ≡ true → xs ≡ []
no_bytes [] e = refl
no_bytes (x ∷ xs) e = let k = eqb-true (length (x ∷ xs)) 0 e in absurd (omega (arith, k))

shape_found : (w : List ℕ) (r : RectParts) → shape_in w ≡ Some r → IsShape w r
unfolding shape_in
shape_found w r e =
    let front = bind_found (parts_at 95 w) _ r e in
    let back = bind_found (parts_at 95 front.0.1) _ r front.2 in
    let halves = bind_found (parts_at 58 back.0.0) _ r back.2 in
    let high = bind_found (half_in halves.0.0) _ r halves.2 in
    let low = bind_found (half_in halves.0.1) _ r high.2 in
    let k = when_found (length front.0.0 == 0 && length back.0.1 == 0) (record { high_least = high.0.0; high_most = high.0.1; low_least = low.0.0; low_most = low.0.1 }) r low.2 in
    let p = and_parts (length front.0.0 == 0) (length back.0.1 == 0) k.0 in
    let nothing_before = no_bytes front.0.0 p.0 in
    let nothing_behind = no_bytes back.0.1 p.1 in
    let inner : front.0.1 ≡ halves.0.0 ++ (58 ∷ (halves.0.1 ++ (95 ∷ []))) =
    parts_at_found 95 front.0.1 back.0 back.1 ∙ ap2 (λ (x y : List ℕ). x ++ (95 ∷ y)) (parts_at_found 58 back.0.0 halves.0 halves.1) nothing_behind
    ∙ append_assoc halves.0.0 (58 ∷ halves.0.1) (95 ∷ []) in
    subst (IsShape w) k.1 (record {
      high = halves.0.0;
      low = halves.0.1;
      spelled = parts_at_found 95 w front.0 front.1 ∙ ap2 (λ (x y : List ℕ). x ++ (95 ∷ y)) nothing_before inner;
      high_half = half_found halves.0.0 high.0 high.1;
      low_half = half_found halves.0.1 low.0 low.1;
    })

shape_spelled : (w : List ℕ) (r : RectParts) → IsShape w r → shape_in w ≡ Some r
unfolding shape_in parts_at
shape_spelled w r h =
    let no_bar_high = half_avoids 95 h.high r.high_least r.high_most refl refl h.high_half in
    let no_bar_low = half_avoids 95 h.low r.low_least r.low_most refl refl h.low_half in
    let no_bar : list_any (λ c. c == 95) (h.high ++ (58 ∷ h.low)) ≡ false = list_any-append (λ c. c == 95) h.high (58 ∷ h.low) ∙ or_from (list_any (λ c. c == 95) h.high) (list_any (λ c. c == 95) (58 ∷ h.low)) no_bar_high no_bar_low in
    let text : w ≡ 95 ∷ ((h.high ++ (58 ∷ h.low)) ++ (95 ∷ [])) = h.spelled ∙ ap (λ (x : List ℕ). 95 ∷ x) (sym (append_assoc h.high (58 ∷ h.low) (95 ∷ []))) in
    let back = parts_at_behind 95 (h.high ++ (58 ∷ h.low)) [] no_bar in
    let halves = parts_at_behind 58 h.high h.low (half_avoids 58 h.high r.high_least r.high_most refl refl h.high_half) in
    ap (λ (x : List ℕ). shape_in x) text ∙ rw (back, halves, half_spelled h.high r.high_least r.high_most h.high_half, half_spelled h.low r.low_least r.low_most h.low_half) refl

pub shape_agrees : Agrees shape_in IsShape
shape_agrees = record { found = shape_found; only = shape_spelled }

-- ---- patterns

pub pattern_agrees : Agrees ios_pattern_in SpellsPattern
pattern_agrees = record { found = ios_pattern_found; only = ios_pattern_only }
