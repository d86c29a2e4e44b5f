-- The printed text of a route spells that route.
use Rattle.std.proofs.Common.{◌≡◌, refl, sym, ap, ◌∙◌, subst, ℕ, ◌+◌, ◌*◌, ◌/◌, ◌%◌, ◌^◌, ◌<◌, ◌≤◌, Bool, true, false, ◌&&◌, ◌||◌, List, [], ◌∷◌, ◌++◌, map, append_assoc, arith}
use Rattle.std.specs.Prelude.{◌==◌, decimal}
use Rattle.std.specs.List.{list_any, list_all, AllByRecursion}
use Rattle.std.proofs.lemmas.Bool.{or_parts, or_from, ne_eqb}
use Rattle.std.proofs.lemmas.List.{append-nil}
use Rattle.std.proofs.lemmas.List.Folds.{list_any-append}
use Rattle.text_words.specs.Text.{is_blank}
use Rattle.text_words.specs.LineText.{is_letter, is_plain, line_text}
use Rattle.route_types.specs.Address.{PrefixParts}
use Rattle.route_types.specs.Words.{IsNumber, IsAddress, IsCommunity}
use Rattle.route_types.specs.Print.{octets_of, address_text, prefix_text}
use Rattle.route_types.specs.Route.{RouteParts, InRange, IsNextHop}
use Rattle.route_types.specs.Community.{set_of, with_member, IsAscending}
use Rattle.route_types.specs.RouteText.{words_by_line, Each, route_lines, SpellsLine, SpellsRoute, SpellsNextHop, origin_text, next_hop_text, community_text, route_words, route_text}
use Rattle.route_types.specs.declared.address.Address.{Address}
use Rattle.route_types.specs.declared.address.Family.TheVariants.{V4}
use Rattle.route_types.specs.declared.community.Community.{Community}
use Rattle.route_types.specs.declared.route.NextHop.{NextHop}
use Rattle.route_types.specs.declared.route.NextHop.TheVariants.{At, Own}
use Rattle.route_types.specs.declared.route.Origin.{Origin}
use Rattle.route_types.specs.declared.route.Origin.TheVariants.{Igp, Egp, Incomplete}
use Rattle.text_words.proofs.LineText.{words_of_lines_read}
use Rattle.route_types.proofs.Numbers.{StartsWithDigit, decimal_avoids, decimal_starts}
use Rattle.route_types.proofs.Spelled.{prefix_in_found}
use Rattle.route_types.proofs.Printed.{Avoids, IsPlain, octets_within, octets_address, prefix_in_printed, prefix_text_avoids, prefix_text_starts, dotted_avoids, append_starts}
use Rattle.route_types.proofs.Sets.{member_before}

-- ---- the words of a route's text are plain

-- a byte that no word of a line has: a blank or a byte of a line's end
abbrev ends_word : ℕ → Bool
ends_word c = (c == 10) || (is_blank c || (c == 13))

avoids : Avoids ends_word
avoids = record { digit = digit_stays; dot = refl; slash = refl }
  where
    digit_stays : (c : ℕ) → 48 ≤ c → c ≤ 57 → ends_word c ≡ false
    digit_stays c l h =
        or_from (c == 10) (is_blank c || (c == 13)) (ne_eqb c 10 (λ (e : c ≡ 10). omega arith))
        (or_from (is_blank c) (c == 13) (or_from (c == 32) (c == 9) (ne_eqb c 32 (λ (e : c ≡ 32). omega arith)) (ne_eqb c 9 (λ (e : c ≡ 9). omega arith))) (ne_eqb c 13 (λ (e : c ≡ 13). omega arith)))

letters : (cs : List ℕ) → list_any ends_word cs ≡ false → list_all is_letter cs ≡ true
letters [] h = refl
letters (c ∷ cs) h = let p = or_parts (ends_word c) (list_any ends_word cs) h in rw (p.0, letters cs p.1) refl

digits_word : (word : List ℕ) → StartsWithDigit word → list_any ends_word word ≡ false → is_plain word ≡ true
digits_word word s h = subst (λ (w : List ℕ). is_plain w ≡ true) (sym s.is) (letters (s.first ∷ s.behind) (subst (λ (w : List ℕ). list_any ends_word w ≡ false) s.is h))

number_word : (n : ℕ) → n < 2 ^ 64 → is_plain (decimal n) ≡ true
number_word n small = digits_word (decimal n) (decimal_starts n small) (decimal_avoids ends_word avoids.digit n small)

prefix_word : (p : PrefixParts) → IsPlain p → is_plain (prefix_text p) ≡ true
prefix_word p h = digits_word (prefix_text p) (prefix_text_starts p h) (prefix_text_avoids ends_word p avoids h)

address_word : (a : Address) → a.bits < 2 ^ 32 → is_plain (address_text a) ≡ true
address_word a small =
    let o = octets_of a in
    let w = octets_within a small in
    digits_word (address_text a) (append_starts (decimal o.first) (46 ∷ decimal o.second ++ (46 ∷ decimal o.third ++ (46 ∷ decimal o.fourth))) (decimal_starts o.first (omega (arith, w.first))))
    (dotted_avoids ends_word o avoids w)

hop_word : (n : NextHop) → IsNextHop n → is_plain (next_hop_text n) ≡ true
hop_word (At a) h = address_word a h.1
hop_word Own h = refl

origin_word : (o : Origin) → is_plain (origin_text o) ≡ true
origin_word Igp = refl
origin_word Egp = refl
origin_word Incomplete = refl

community_word : (c : Community) → c.0 < 2 ^ 32 → is_plain (community_text c) ≡ true
community_word c small =
    let high : c.0 / 2 ^ 16 < 2 ^ 64 = omega arith in
    let low : c.0 % 2 ^ 16 < 2 ^ 64 = omega arith in
    digits_word (community_text c) (append_starts (decimal (c.0 / 2 ^ 16)) (58 ∷ decimal (c.0 % 2 ^ 16)) (decimal_starts (c.0 / 2 ^ 16) high))
    (list_any-append ends_word (decimal (c.0 / 2 ^ 16)) (58 ∷ decimal (c.0 % 2 ^ 16))
    ∙ or_from (list_any ends_word (decimal (c.0 / 2 ^ 16))) (list_any ends_word (58 ∷ decimal (c.0 % 2 ^ 16))) (decimal_avoids ends_word avoids.digit (c.0 / 2 ^ 16) high) (decimal_avoids ends_word avoids.digit (c.0 % 2 ^ 16) low))

number_words : (ns : List ℕ) → AllByRecursion (λ n. n < 2 ^ 32) ns → list_all is_plain (map decimal ns) ≡ true
number_words [] h = refl
number_words (n ∷ ns) h = rw (number_word n (omega (arith, h.0))) (number_words ns h.1)

community_words : (cs : List Community) → AllByRecursion (λ c. c.0 < 2 ^ 32) cs → list_all is_plain (map community_text cs) ≡ true
community_words [] h = refl
community_words (c ∷ cs) h = rw (community_word c h.0) (community_words cs h.1)

-- ---- what the words of a route's text spell

number_spelled : (most n : ℕ) → n ≤ most → IsNumber most (decimal n) n
number_spelled most n h = record { spelled = refl; within = h }

address_spelled : (a : Address) → a.family ≡ V4 → a.bits < 2 ^ 32 → IsAddress (address_text a) a
address_spelled a v4 small =
    let w = octets_within a small in
    record {
      octets = octets_of a;
      first = w.first;
      second = w.second;
      third = w.third;
      fourth = w.fourth;
      spelled = refl;
      value = sym (octets_address a v4 small);
    }

hop_spelled : (n : NextHop) → IsNextHop n → SpellsNextHop (next_hop_text n) n
hop_spelled (At a) h = address_spelled a h.0 h.1
hop_spelled Own h = refl

numbers_spelled : (ns : List ℕ) → AllByRecursion (λ n. n < 2 ^ 32) ns → Each (IsNumber 4294967295) (map decimal ns) ns
numbers_spelled [] h = tt
numbers_spelled (n ∷ ns) h = (number_spelled 4294967295 n (omega (arith, h.0)), numbers_spelled ns h.1)

community_spelled : (c : Community) → c.0 < 2 ^ 32 → IsCommunity (community_text c) c
community_spelled c small =
    let value : c.0 ≡ c.0 / 2 ^ 16 * 65536 + c.0 % 2 ^ 16 = omega arith in
    record {
      high = c.0 / 2 ^ 16;
      low = c.0 % 2 ^ 16;
      high_within = omega arith;
      low_within = omega arith;
      spelled = refl;
      value = ap (λ (n : ℕ). record { 0 = n }) value;
    }

communities_spelled : (cs : List Community) → AllByRecursion (λ c. c.0 < 2 ^ 32) cs → Each IsCommunity (map community_text cs) cs
communities_spelled [] h = tt
communities_spelled (c ∷ cs) h = (community_spelled c h.0, communities_spelled cs h.1)

member_first : (c : Community) (cs : List Community) → IsAscending (c ∷ cs) → with_member c cs ≡ c ∷ cs
member_first c [] h = refl
member_first c (d ∷ ds) h = member_before c d ds h.0

ascending_behind : (c : Community) (cs : List Community) → IsAscending (c ∷ cs) → IsAscending cs
ascending_behind c [] h = tt
ascending_behind c (d ∷ ds) h = h.1

-- a list in rising order without repeats is its own set
set_of_itself : (cs : List Community) → IsAscending cs → set_of cs ≡ cs
set_of_itself [] h = refl
set_of_itself (c ∷ cs) h = ap (with_member c) (set_of_itself cs (ascending_behind c cs h)) ∙ member_first c cs h

-- ---- the whole text

-- what the lines of a route have as words
one_word : (w : List ℕ) → is_plain w ≡ true → (is_plain w && true) ≡ true
one_word w h = rw h refl

and_both : {a b : Bool} → a ≡ true → b ≡ true → (a && b) ≡ true
and_both {a} {b} e f = rw (e, f) refl

plain_lines : (r : RouteParts) → InRange r → list_all (list_all is_plain) (route_words r) ≡ true
unfolding route_words
plain_lines r h =
    and_both (one_word (prefix_text r.prefix) (prefix_word r.prefix (record { family = h.family; masked = h.prefix })))
    (and_both (one_word (next_hop_text r.next_hop) (hop_word r.next_hop h.next_hop))
    (and_both (number_words r.path h.path)
    (and_both (one_word (origin_text r.origin) (origin_word r.origin))
    (and_both (one_word (decimal r.local_preference) (number_word r.local_preference (omega (arith, h.local_preference))))
    (and_both (one_word (decimal r.med) (number_word r.med (omega (arith, h.med))))
    (and_both (one_word (decimal r.weight) (number_word r.weight (omega (arith, h.weight))))
    (and_both (community_words r.communities h.communities) refl)))))))

lines_spelled : (r : RouteParts) → InRange r → Each (SpellsLine r) (route_words r) route_lines
unfolding route_words
lines_spelled r h = (
  record { word = prefix_text r.prefix; are = refl; spelled = prefix_in_found (prefix_text r.prefix) r.prefix (prefix_in_printed r.prefix h.family h.prefix) },
  (
    record { word = next_hop_text r.next_hop; are = refl; spelled = hop_spelled r.next_hop h.next_hop },
    (
      record { behind = map decimal r.path; are = refl; spelled = numbers_spelled r.path h.path },
      (
        record { word = origin_text r.origin; are = refl; spelled = refl },
        (
          record { word = decimal r.local_preference; are = refl; spelled = number_spelled 4294967295 r.local_preference (omega (arith, h.local_preference)) },
          (
            record { word = decimal r.med; are = refl; spelled = number_spelled 4294967295 r.med (omega (arith, h.med)) },
            (
              record { word = decimal r.weight; are = refl; spelled = number_spelled 65535 r.weight (omega (arith, h.weight)) },
              (
                record {
                  listed = r.communities;
                  many = record { behind = map community_text r.communities; are = refl; spelled = communities_spelled r.communities h.communities };
                  is = sym (set_of_itself r.communities h.ascending);
                },
                tt,
              ),
            ),
          ),
        ),
      ),
    ),
  ),
)

-- the printed text of a route spells the route
pub route_printed : (r : RouteParts) → InRange r → SpellsRoute (route_text r) r
unfolding words_by_line route_text
route_printed r h = subst (λ (lines : List (List (List ℕ))). Each (SpellsLine r) lines route_lines) (sym (words_of_lines_read (route_words r) (plain_lines r h))) (lines_spelled r h)

eight_lines : (a b c d e f g h : List ℕ) → ((((((a ++ b) ++ c) ++ d) ++ e) ++ f) ++ g) ++ h ≡ a ++ (b ++ (c ++ (d ++ (e ++ (f ++ (g ++ (h ++ [])))))))
eight_lines a b c d e f g h = simp (append_assoc, append-nil) refl

-- eight lines, put one behind the other
pub eight_put : (a b c d e f g h s t u v w x y z end : List ℕ) → s ≡ [] → t ≡ s ++ a → u ≡ t ++ b → v ≡ u ++ c → w ≡ v ++ d → x ≡ w ++ e → y ≡ x ++ f → z ≡ y ++ g → end ≡ z ++ h → end ≡ a ++ (b ++ (c ++ (d ++ (e ++ (f ++ (g ++ (h ++ [])))))))
eight_put a b c d e f g h s t u v w x y z end e0 e1 e2 e3 e4 e5 e6 e7 e8 = rw (e8, e7, e6, e5, e4, e3, e2, e1, e0) (eight_lines a b c d e f g h)

-- a line put, with the value that it was asked for
pub line_put : {V : Type 0} (words : V → List (List ℕ)) (v u : V) (old new : List ℕ) → v ≡ u → new ≡ old ++ line_text (words v) → new ≡ old ++ line_text (words u)
line_put words v u old new e f = f ∙ ap (λ x. old ++ line_text (words x)) e
