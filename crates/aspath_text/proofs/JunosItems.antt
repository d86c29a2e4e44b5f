-- The items that are spelled in a Junos pattern are found.
use Rattle.std.proofs.Common.{◌≡◌, refl, sym, ap, subst, ◌∙◌, ℕ, ◌<◌, ◌≤◌, Bool, true, false, not, List, [], ◌∷◌, ◌++◌, length, append_assoc, Option, Some, None, arith, inl, inr, lit<}
use Rattle.std.specs.Prelude.{◌==◌, ◌&&◌, codes, bytes_eq}
use Rattle.std.specs.List.{list_any, list_all, position_or_len}
use Rattle.std.proofs.lemmas.Bool.{and_parts, and_from, or_parts, not_from_false, not-true, false_from_ne_true}
use Rattle.std.proofs.lemmas.List.{take_at, drop_at, append-nil, length-append}
use Rattle.text_words.specs.Text.{is_blank}
use Rattle.route_types.specs.RouteText.{onto_word, Each}
use Rattle.route_types.specs.Words.{parts_at, number_in, ◌>>=◌}
use Rattle.route_types.proofs.Spelled.{parts_at_behind, ap2}
use Rattle.policy_text.specs.Phrases.{each, Each as Agree}
use Rattle.policy_text.proofs.Phrases.{each_spelled}
use Rattle.aspath_text.specs.IosGrammar.{joined_by}
use Rattle.aspath_text.specs.JunosGrammar.{AreBlanks, SpellsMember, SpellsSet, SpellsItem, AreSpaced, SpellsItems}
use Rattle.aspath_text.specs.JunosRead.{range_in, behind_blanks, member_in, members_of, count_of, count_in, is_sign, item_of, plain_in, group_in, item_in, parts_items, in_group, starts_blank, items_of, items_in}
use Rattle.path_patterns.specs.declared.items.NumberRange.{NumberRange}
use Rattle.path_patterns.specs.declared.items.TokenItem.{TokenItem}
use Rattle.aspath_text.specs.declared.junos_words.Count.{Count}
use Rattle.aspath_text.proofs.JunosCut.{members_parted, members_alone, items_step}
use Rattle.aspath_text.proofs.JunosFound.{items_some, starts_empty}
use Rattle.path_patterns.proofs.Lists.{same_bytes}
use Rattle.aspath_text.proofs.JunosBytes.{NoDigit, below_digits, above_digits, is_paren, paren_digit, is_break, break_digit, sign_digit, range_avoids, range_some, Spares, member_avoids, joined_avoids, place_behind}
use Rattle.aspath_text.proofs.JunosWords.{parts_none, range_only, over_blanks, no_blank, member_only, count_only, count_stops, count_breaks}

-- ---- groups

byte_spares : (b : ℕ) → NoDigit (λ c. c == b) → (45 == b) ≡ false → (46 == b) ≡ false → (32 == b) ≡ false → (9 == b) ≡ false → Spares (λ c. c == b)
byte_spares b digit dash dot space tab = record { digit = digit; dash = dash; dot = dot; space = space; tab = tab }

bar_spares : Spares (λ c. c == 124)
bar_spares = byte_spares 124 (above_digits 124 (lit< tt)) refl refl refl refl

close_spares : Spares (λ c. c == 41)
close_spares = byte_spares 41 (below_digits 41 (lit< tt)) refl refl refl refl

paren_spares : Spares is_paren
paren_spares = record { digit = paren_digit; dash = refl; dot = refl; space = refl; tab = refl }

-- the members of a group are found
members_only : (parts : List (List ℕ)) (ranges : List NumberRange) → Each SpellsMember parts ranges → 1 ≤ length ranges → members_of (joined_by 124 parts) ≡ parts
unfolding joined_by
members_only [] [] h some = absurd (omega (arith, some))
members_only [] (r ∷ rs) h some = absurd h
members_only (p ∷ ps) [] h some = absurd h
members_only (p ∷ []) (r ∷ rs) h some = members_alone p (parts_none 124 p (member_avoids (λ c. c == 124) bar_spares p r h.0))
members_only (p ∷ q ∷ ps) (r ∷ []) h some = absurd h.1
members_only (p ∷ q ∷ ps) (r ∷ s ∷ rs) h some =
    members_parted (p ++ (124 ∷ joined_by 124 (q ∷ ps))) (p, joined_by 124 (q ∷ ps)) (parts_at_behind 124 p (joined_by 124 (q ∷ ps)) (member_avoids (λ c. c == 124) bar_spares p r h.0))
    ∙ ap (λ (ws : List (List ℕ)). p ∷ ws) (members_only (q ∷ ps) (s ∷ rs) h.1 (omega arith))

agree : {A : Type 0} (P : List ℕ → A → Type 0) (ws : List (List ℕ)) (xs : List A) → Each P ws xs → Agree P ws xs
agree P [] [] h = tt
agree P [] (x ∷ xs) h = h
agree P (w ∷ ws) [] h = h
agree P (w ∷ ws) (x ∷ xs) h = (h.0, agree P ws xs h.1)

-- the item of a group, by what its parts give
abbrev group_by : Option (List ℕ × List ℕ) → Option TokenItem
group_by o = o >>= λ parts. each member_in (members_of parts.0) >>= λ ranges. count_in parts.1 >>= λ count. Some (item_of ranges count)

abbrev item_by : Option (List NumberRange) → Option Count → Option TokenItem
item_by o p = o >>= λ ranges. p >>= λ count. Some (item_of ranges count)

group_only : (parts : List (List ℕ)) (count : List ℕ) (i : TokenItem) → Each SpellsMember parts i.set.ranges → 1 ≤ length i.set.ranges → count_in count ≡ Some (count_of i.least i.most) → group_in (joined_by 124 parts ++ (41 ∷ count)) ≡ Some i
group_only parts count i h some counted =
    ap group_by (parts_at_behind 41 (joined_by 124 parts) count (joined_avoids (λ c. c == 41) close_spares refl parts i.set.ranges h))
    ∙ ap2 item_by (ap (λ (ws : List (List ℕ)). each member_in ws) (members_only parts i.set.ranges h some) ∙ each_spelled member_in SpellsMember member_only parts i.set.ranges (agree SpellsMember parts i.set.ranges h)) counted

-- ---- items

by_plain : (word rest : List ℕ) → 0 < length word → list_any (λ c. c == 40) word ≡ false → item_in (word ++ rest) ≡ plain_in (position_or_len is_sign (word ++ rest)) (word ++ rest)
unfolding item_in
by_plain [] rest some h = absurd (omega (arith, some))
by_plain (c ∷ cs) rest some h =
    ap (λ (t : Bool). elim t [ true ↦ group_in (cs ++ rest) | false ↦ plain_in (position_or_len is_sign (c ∷ (cs ++ rest))) (c ∷ (cs ++ rest)) ]) (or_parts (c == 40) (list_any (λ x. x == 40) cs) h).0

by_group : (text : List ℕ) → item_in (40 ∷ text) ≡ group_in text
unfolding item_in
by_group text = refl

-- the item of one range, by what its set and its count give
abbrev plain_by : Option NumberRange → Option Count → Option TokenItem
plain_by o p = o >>= λ range. p >>= λ count. Some (item_of (range ∷ []) count)

plain_only : (set count : List ℕ) (r : NumberRange) (k : Count) → range_in set ≡ Some r → count_in count ≡ Some k → plain_in (length set) (set ++ count) ≡ Some (item_of (r ∷ []) k)
plain_only set count r k range counted =
    ap2 (λ (s c : List ℕ). plain_by (range_in s) (count_in c)) (take_at set count (length set) refl) (drop_at set count (length set) refl)
    ∙ ap2 plain_by range counted

-- the item of these ranges and this count
abbrev of_ranges : TokenItem → List NumberRange → Option TokenItem
of_ranges i ranges = Some (item_of ranges (count_of i.least i.most))

set_only : (set count : List ℕ) (i : TokenItem) → SpellsSet set i.set → (count_in count ≡ Some (count_of i.least i.most)) → (list_any is_sign set ≡ false → position_or_len is_sign (set ++ count) ≡ length set) → item_in (set ++ count) ≡ Some i
set_only set count i (inl (r, ranges, range)) counted place =
    by_plain set count (range_some set r range) (range_avoids (λ c. c == 40) (below_digits 40 (lit< tt)) refl refl set r range)
    ∙ ap (λ (n : ℕ). plain_in n (set ++ count)) (place (range_avoids is_sign sign_digit refl refl set r range))
    ∙ plain_only set count r (count_of i.least i.most) (range_only set r range) counted
    ∙ ap (of_ranges i) (sym ranges)
set_only set count i (inr (parts, spelled, members, some)) counted place =
    ap (λ (s : List ℕ). item_in (s ++ count)) spelled
    ∙ ap (λ (s : List ℕ). item_in (40 ∷ s)) (append_assoc (joined_by 124 parts) (41 ∷ []) count)
    ∙ by_group (joined_by 124 parts ++ (41 ∷ count))
    ∙ group_only parts count i members some counted

pub item_only : (text : List ℕ) (i : TokenItem) → SpellsItem text i → item_in text ≡ Some i
item_only text i h =
    ap (λ (t : List ℕ). item_in t) h.spelled
    ∙ set_only h.set h.count i h.numbers (count_only h.count i.least i.most h.counted) (λ plain. place_behind is_sign h.set h.count plain (count_stops h.count i.least i.most h.counted))

-- ---- the cut into items

-- the text has no blank outside of groups, and no group goes on behind it
abbrev whole : Bool → List ℕ → Bool
whole inside [] = not inside
whole inside (c ∷ cs) = not (parts_items inside c) && whole (in_group inside c) cs

whole_append : (inside : Bool) (a b : List ℕ) → whole inside a ≡ true → whole false b ≡ true → whole inside (a ++ b) ≡ true
whole_append true [] b h k = absurd cc
whole_append false [] b h k = k
whole_append inside (c ∷ cs) b h k =
    let p = and_parts (not (parts_items inside c)) (whole (in_group inside c) cs) h in
    and_from (not (parts_items inside c)) (whole (in_group inside c) (cs ++ b)) p.0 (whole_append (in_group inside c) cs b p.1 k)

-- a byte that is no parenthesis changes nothing
stays_in : (inside : Bool) (c : ℕ) → is_paren c ≡ false → in_group inside c ≡ inside
stays_in inside c h =
    let p = or_parts (c == 40) (c == 41) h in
    ap (λ (t : Bool). elim t [ true ↦ true | false ↦ elim (c == 41) [ true ↦ false | false ↦ inside ] ]) p.0
    ∙ ap (λ (t : Bool). elim t [ true ↦ false | false ↦ inside ]) p.1

outside_whole : (text : List ℕ) → list_any is_break text ≡ false → whole false text ≡ true
outside_whole [] h = refl
outside_whole (c ∷ cs) h =
    let p = or_parts (is_break c) (list_any is_break cs) h in
    let q = or_parts (is_blank c) (is_paren c) p.0 in
    and_from (not (is_blank c)) (whole (in_group false c) cs) (not_from_false (is_blank c) q.0)
    (ap (λ (b : Bool). whole b cs) (stays_in false c q.1) ∙ outside_whole cs p.1)

inside_whole : (text : List ℕ) → list_any is_paren text ≡ false → whole true (text ++ (41 ∷ [])) ≡ true
inside_whole [] h = refl
inside_whole (c ∷ cs) h =
    let p = or_parts (is_paren c) (list_any is_paren cs) h in
    ap (λ (b : Bool). whole b (cs ++ (41 ∷ []))) (stays_in true c p.0) ∙ inside_whole cs p.1

set_whole : (set : List ℕ) (i : TokenItem) → SpellsSet set i.set → whole false set ≡ true
set_whole set i (inl (r, ranges, range)) = outside_whole set (range_avoids is_break break_digit refl refl set r range)
set_whole set i (inr (parts, spelled, members, some)) =
    ap (λ (s : List ℕ). whole false s) spelled
    ∙ inside_whole (joined_by 124 parts) (joined_avoids is_paren paren_spares refl parts i.set.ranges members)

item_whole : (text : List ℕ) (i : TokenItem) → SpellsItem text i → whole false text ≡ true
item_whole text i h =
    ap (λ (t : List ℕ). whole false t) h.spelled
    ∙ whole_append false h.set h.count (set_whole h.set i h.numbers) (outside_whole h.count (count_breaks h.count i.least i.most h.counted))

set_some : (set : List ℕ) (i : TokenItem) → SpellsSet set i.set → 0 < length set
set_some set i (inl (r, ranges, range)) = range_some set r range
set_some set i (inr (parts, spelled, members, some)) = subst (λ (s : List ℕ). 0 < length s) (sym spelled) (omega arith)

item_some : (text : List ℕ) (i : TokenItem) → SpellsItem text i → 0 < length text
item_some text i h = subst (λ (t : List ℕ). 0 < length t) (sym h.spelled) (omega (arith, length-append h.set h.count, set_some h.set i h.numbers))

-- more bytes in front of the first text
abbrev onto_first : List ℕ → List (List ℕ) → List (List ℕ)
onto_first t [] = t ∷ []
onto_first t (w ∷ ws) = (t ++ w) ∷ ws

onto_none : (ws : List (List ℕ)) → 1 ≤ length ws → ws ≡ onto_first [] ws
onto_none [] some = absurd (omega (arith, some))
onto_none (w ∷ ws) some = refl

onto_more : (c : ℕ) (cs : List ℕ) (ws : List (List ℕ)) → onto_word c (onto_first cs ws) ≡ onto_first (c ∷ cs) ws
onto_more c cs [] = refl
onto_more c cs (w ∷ ws) = refl

-- the first text goes on up to where it ends
items_onto : (inside : Bool) (text rest : List ℕ) → whole inside text ≡ true → items_of inside (text ++ rest) ≡ onto_first text (items_of false rest)
unfolding items_of
items_onto true [] rest h = absurd cc
items_onto false [] rest h = onto_none (items_of false rest) (items_some false rest)
items_onto inside (c ∷ cs) rest h =
    let p = and_parts (not (parts_items inside c)) (whole (in_group inside c) cs) h in
    ap (λ (t : Bool). items_step t c (cs ++ rest) (items_of (in_group inside c) (cs ++ rest))) (not-true (parts_items inside c) p.0)
    ∙ ap (λ (ws : List (List ℕ)). onto_word c ws) (items_onto (in_group inside c) cs rest p.1)
    ∙ onto_more c cs (items_of false rest)

whole_stays : (text rest : List ℕ) → whole false text ≡ true → 0 < length text → behind_blanks (text ++ rest) ≡ text ++ rest
whole_stays [] rest h some = absurd (omega (arith, some))
whole_stays (c ∷ cs) rest h some = no_blank c (cs ++ rest) (not-true (is_blank c) (and_parts (not (is_blank c)) (whole (in_group false c) cs) h).0)

spaced_stays : (text u : List ℕ) (us : List (List ℕ)) → AreSpaced text (u ∷ us) → whole false u ≡ true → 0 < length u → behind_blanks text ≡ text
unfolding AreSpaced
spaced_stays text u [] h w some =
    let e : u ++ [] ≡ text = append-nil u ∙ sym h in
    subst (λ (t : List ℕ). behind_blanks t ≡ t) e (whole_stays u [] w some)
spaced_stays text u (v ∷ us) h w some = subst (λ (t : List ℕ). behind_blanks t ≡ t) (sym h.2) (whole_stays u (h.0 ++ h.1) w some)

blanks_start : (blanks rest : List ℕ) → AreBlanks blanks → 1 ≤ length blanks → starts_blank (blanks ++ rest) ≡ true
blanks_start [] rest h some = absurd (omega (arith, some))
blanks_start (c ∷ cs) rest h some = (and_parts (is_blank c) (list_all is_blank cs) h).0

-- behind an item and blanks the others go on
next_items : (blanks rest : List ℕ) → AreBlanks blanks → 1 ≤ length blanks → behind_blanks rest ≡ rest → items_of false (blanks ++ rest) ≡ [] ∷ items_of false rest
next_items blanks rest h some stays =
    starts_empty (blanks ++ rest) (blanks_start blanks rest h some)
    ∙ ap (λ (t : List ℕ). [] ∷ items_of false t) (over_blanks blanks rest h ∙ stays)

alone : (text : List ℕ) → whole false text ≡ true → items_of false text ≡ text ∷ []
unfolding items_of
alone text h =
    ap (λ (t : List ℕ). items_of false t) (sym (append-nil text))
    ∙ items_onto false text [] h
    ∙ ap (λ (t : List ℕ). t ∷ []) (append-nil text)

followed : (text blanks rest : List ℕ) (ws : List (List ℕ)) → whole false text ≡ true → items_of false (blanks ++ rest) ≡ [] ∷ ws → items_of false (text ++ (blanks ++ rest)) ≡ text ∷ ws
followed text blanks rest ws h e =
    items_onto false text (blanks ++ rest) h
    ∙ ap (onto_first text) e
    ∙ ap (λ (t : List ℕ). t ∷ ws) (append-nil text)

-- the texts of the items are found
parts_only : (text : List ℕ) (parts : List (List ℕ)) (items : List TokenItem) → AreSpaced text parts → Each SpellsItem parts items → items_of false text ≡ parts
unfolding AreSpaced
parts_only text [] items h each = absurd h
parts_only text (t ∷ ts) [] h each = absurd each
parts_only text (t ∷ []) (i ∷ is) h each = ap (λ (x : List ℕ). items_of false x) h ∙ alone t (item_whole t i each.0)
parts_only text (t ∷ u ∷ us) (i ∷ []) h each = absurd each.1
parts_only text (t ∷ u ∷ us) (i ∷ j ∷ is) h each =
    ap (λ (x : List ℕ). items_of false x) h.2
    ∙ followed t h.0 h.1 (u ∷ us) (item_whole t i each.0)
    (next_items h.0 h.1 h.4 h.3 (spaced_stays h.1 u us h.5 (item_whole u j each.1.0) (item_some u j each.1.0))
    ∙ ap (λ (ws : List (List ℕ)). [] ∷ ws) (parts_only h.1 (u ∷ us) (j ∷ is) h.5 each.1))

-- ---- the text

-- `()` is no item
empty_none : each item_in (items_of false (codes "()")) ≡ None
unfolding each item_in items_of parts_at members_of member_in behind_blanks range_in number_in
empty_none = refl

not_empty : (text : List ℕ) (items : List TokenItem) → each item_in (items_of false text) ≡ Some items → bytes_eq text (codes "()") ≡ false
not_empty text items e =
    false_from_ne_true (bytes_eq text (codes "()")) (λ t. let k : each item_in (items_of false (codes "()")) ≡ Some items = subst (λ (x : List ℕ). each item_in (items_of false x) ≡ Some items) (same_bytes text (codes "()") t) e in let n = empty_none in absurd cc)

-- the items of a text, by a test whether it is `()`
abbrev items_by : Bool → List ℕ → Option (List TokenItem)
items_by t text = elim t [ true ↦ Some [] | false ↦ each item_in (items_of false text) ]

pub items_only : (text : List ℕ) (items : List TokenItem) → SpellsItems text items → items_in text ≡ Some items
unfolding items_in
items_only text items (inl (empty, none)) =
    ap (λ (t : List ℕ). items_by (bytes_eq t (codes "()")) t) empty ∙ ap (λ (is : List TokenItem). Some is) (sym none)
items_only text items (inr (parts, spaced, spelled)) =
    let e : each item_in (items_of false text) ≡ Some items =
    ap (λ (ws : List (List ℕ)). each item_in ws) (parts_only text parts items spaced spelled) ∙ each_spelled item_in SpellsItem item_only parts items (agree SpellsItem parts items spelled) in
    ap (λ (t : Bool). items_by t text) (not_empty text items e) ∙ e
