-- The index of the entries of a community list answers as the entries do, one after another.
use Rattle.std.proofs.Common.{◌≡◌, refl, sym, ap, ◌∙◌, ℕ, suc, ◌<◌, ◌+◌, ◌*◌, ◌/◌, ◌%◌, Bool, true, false, cond, ◌&&◌, ◌||◌, List, [], ◌∷◌, length, arith, Option, Some, None, nat_le, nat_lt}
use Rattle.std.specs.Prelude.{◌==◌, ◌^◌, map, filter}
use Rattle.std.specs.Option.{option_or, option_map_or}
use Rattle.std.specs.List.{list_all}
use Rattle.std.proofs.lemmas.Bool.{le-ltb, lt-ltb}
use Rattle.route_types.specs.Community.{RectParts, fits}
use Rattle.route_types.specs.declared.community.Community.{Community}
use Rattle.community_sets.specs.Tests.{test_holds}
use Rattle.ios_tree.specs.declared.item.CommunityListEntry.{CommunityListEntry}
use Rattle.ios_tree.specs.declared.item.CommunityShape.{CommunityShape}
use Rattle.ios_tree.specs.declared.item.CommunityShape.TheVariants.{Standard, Expanded}
use Rattle.ios_meaning.specs.Lists.{test_of}
use Rattle.ios_meaning.specs.Drafts.{answers_alone}
use Rattle.ios_meaning.specs.Deletions.{is_one, is_all, reach_of_one_high, reach_of_all_highs, reach_of_rect, reach_of_members, reach_of, reaches, has_key, is_other, in_place, first_answer, answer_from, earlier, answer_at, answer_on, IsIndex}
use Rattle.ios_meaning.specs.declared.reach.Reach.{Reach}
use Rattle.ios_meaning.specs.declared.reach.Reach.TheVariants.{Nobody, One, High, Low, Every, Within}
use Rattle.ios_meaning.specs.declared.reach.KeySort.TheVariants.{OfOne, OfHigh, OfLow, OfEvery}
use Rattle.ios_meaning.specs.declared.deletion_index.Answer.{Answer}
use Rattle.ios_meaning.specs.declared.deletion_index.Placed.{Placed}
use Rattle.ios_meaning.specs.declared.deletion_index.Index.{Index}
use Rattle.ios_meaning.proofs.Members.{standard_alone}

-- ---- what an entry reaches is what it holds for

one_number_of : (a b : ℕ) → (a == b) ≡ true → a ≡ b
one_number_of a b h = grind arith

-- a: whether the first member is the community; b: whether the others are the first
members_by : (c d : Community) (ds : List Community) (a b : Bool) → (d.0 == c.0) ≡ a → list_all (λ m. m.0 == d.0) ds ≡ b
    → reaches c (elim b [ true ↦ One d | false ↦ Nobody ]) ≡ (a && list_all (λ m. m.0 == c.0) ds)
members_by c d ds true true h k = grind arith ∙ sym k ∙ ap (λ (n : ℕ). list_all (λ (m : Community). m.0 == n) ds) (one_number_of d.0 c.0 h)
members_by c d ds true false h k = sym k ∙ ap (λ (n : ℕ). list_all (λ (m : Community). m.0 == n) ds) (one_number_of d.0 c.0 h)
members_by c d ds false true h k = grind arith
members_by c d ds false false h k = refl

members_reach : (c : Community) (cs : List Community) → reaches c (reach_of_members cs) ≡ list_all (λ m. m.0 == c.0) cs
members_reach c [] = refl
members_reach c (d ∷ ds) = members_by c d ds (d.0 == c.0) (list_all (λ m. m.0 == d.0) ds) refl refl

one_number : (least most n : ℕ) → is_one least most ≡ true → (nat_le least n && nat_le n most) ≡ (n == least)
one_number least most n h = grind arith

all_numbers : (least most n : ℕ) → is_all least most ≡ true → n < 65536 → (nat_le least n && nat_le n most) ≡ true
all_numbers least most n h k = grind arith

and_true : (b : Bool) → b ≡ (b && true)
and_true true = refl
and_true false = refl

halves_of : (a b n : ℕ) → b < 65536 → (n == a * 65536 + b) ≡ ((n / 2 ^ 16 == a) && ((n % 2 ^ 16 == b) && true))
halves_of a b n h = grind arith

-- low_one, low_all: whether the lower halves are one number, and whether they are all
one_high_by : (r : RectParts) (c : Community) (low_one low_all : Bool) → is_one r.high_least r.high_most ≡ true → is_one r.low_least r.low_most ≡ low_one → is_all r.low_least r.low_most ≡ low_all
    → reaches c (elim low_one [ true ↦ One (record { 0 = r.high_least * 65536 + r.low_least }) | false ↦ elim low_all [ true ↦ High r.high_least | false ↦ Within r ] ]) ≡ fits r c
one_high_by r c true low_all h l a = rw (one_number r.high_least r.high_most (c.0 / 2 ^ 16) h, one_number r.low_least r.low_most (c.0 % 2 ^ 16) l) (halves_of r.high_least r.low_least c.0 (grind arith))
one_high_by r c false true h l a =
    rw (one_number r.high_least r.high_most (c.0 / 2 ^ 16) h, all_numbers r.low_least r.low_most (c.0 % 2 ^ 16) a (omega arith)) (and_true (c.0 / 2 ^ 16 == r.high_least))
one_high_by r c false false h l a = refl

all_highs_by : (r : RectParts) (c : Community) (low_one low_all : Bool) → c.0 < 2 ^ 32 → is_all r.high_least r.high_most ≡ true → is_one r.low_least r.low_most ≡ low_one → is_all r.low_least r.low_most ≡ low_all
    → reaches c (elim low_one [ true ↦ Low r.low_least | false ↦ elim low_all [ true ↦ Every | false ↦ Within r ] ]) ≡ fits r c
all_highs_by r c true low_all k h l a =
    rw (all_numbers r.high_least r.high_most (c.0 / 2 ^ 16) h (omega (arith, k)), one_number r.low_least r.low_most (c.0 % 2 ^ 16) l) (and_true (c.0 % 2 ^ 16 == r.low_least))
all_highs_by r c false true k h l a = rw (all_numbers r.high_least r.high_most (c.0 / 2 ^ 16) h (omega (arith, k)), all_numbers r.low_least r.low_most (c.0 % 2 ^ 16) a (omega arith)) refl
all_highs_by r c false false k h l a = refl

-- high_one, high_all: the same of the upper halves
rect_by : (r : RectParts) (c : Community) (high_one high_all : Bool) → c.0 < 2 ^ 32 → is_one r.high_least r.high_most ≡ high_one → is_all r.high_least r.high_most ≡ high_all
    → reaches c (elim high_one [ true ↦ reach_of_one_high r | false ↦ elim high_all [ true ↦ reach_of_all_highs r | false ↦ Within r ] ]) ≡ fits r c
rect_by r c true high_all k h a = one_high_by r c (is_one r.low_least r.low_most) (is_all r.low_least r.low_most) h refl refl
rect_by r c false true k h a = all_highs_by r c (is_one r.low_least r.low_most) (is_all r.low_least r.low_most) k a refl refl
rect_by r c false false k h a = refl

rect_reach : (r : RectParts) (c : Community) → c.0 < 2 ^ 32 → reaches c (reach_of_rect r) ≡ fits r c
rect_reach r c k = rect_by r c (is_one r.high_least r.high_most) (is_all r.high_least r.high_most) k refl refl

alone : (b : Bool) → b ≡ ((b || false) && true)
alone true = refl
alone false = refl

-- an entry holds for a community alone where its reach has it
reach_holds : (s : CommunityShape) (c : Community) → c.0 < 2 ^ 32 → reaches c (reach_of s) ≡ test_holds (test_of false s) (c ∷ [])
reach_holds (Standard cs) c k = members_reach c cs ∙ standard_alone cs c
reach_holds (Expanded r) c k = rect_reach r c k ∙ alone (fits r c)

-- ---- the first entry

abbrev permit_of : Option Answer → Bool
permit_of o = option_map_or (λ a. a.permit) o false

permit_by : (e : CommunityListEntry) (es : List CommunityListEntry) (c : Community) (b : Bool) (o : Option Answer) → permit_of o ≡ answers_alone es c
    → permit_of (elim b [ true ↦ Some (record { permit = e.permit; behind = length es }) | false ↦ o ]) ≡ elim b [ true ↦ e.permit | false ↦ answers_alone es c ]
permit_by e es c true o h = refl
permit_by e es c false o h = h

-- the first entry whose reach has the community decides
first_decides : (c : Community) → c.0 < 2 ^ 32 → (es : List CommunityListEntry) → permit_of (first_answer (reaches c) (in_place es)) ≡ answers_alone es c
first_decides c k [] = refl
first_decides c k (e ∷ es) =
    permit_by e es c (reaches c (reach_of e.shape)) (first_answer (reaches c) (in_place es)) (first_decides c k es)
    ∙ ap (λ (b : Bool). elim b [ true ↦ e.permit | false ↦ answers_alone es c ]) (reach_holds e.shape c k)

from_step : (o r : Option Answer) (a : Answer) (b : Bool) → option_or (elim b [ true ↦ option_or o (Some a) | false ↦ o ]) r ≡ option_or o (elim b [ true ↦ Some a | false ↦ r ])
from_step None r a true = refl
from_step None r a false = refl
from_step (Some x) r a true = refl
from_step (Some x) r a false = refl

or_none : (o : Option Answer) → o ≡ option_or o None
or_none None = refl
or_none (Some x) = refl

from_is : (t : Reach → Bool) (ps : List Placed) (o : Option Answer) → answer_from t o ps ≡ option_or o (first_answer t ps)
unfolding answer_from
from_is t [] o = or_none o
from_is t (p ∷ ps) o = from_is t ps (elim (t p.reach) [ true ↦ option_or o (Some p.answer) | false ↦ o ]) ∙ from_step o (first_answer t ps) p.answer (t p.reach)

-- where nothing was found before, it is the first
pub from_none : (t : Reach → Bool) (ps : List Placed) (o : Option Answer) → o ≡ None → answer_from t o ps ≡ first_answer t ps
from_none t ps o h = from_is t ps o ∙ ap (λ (x : Option Answer). option_or x (first_answer t ps)) h

-- ---- the parts together

-- fewer stand behind it
abbrev Below : ℕ → Option Answer → Type 0
Below n None = Unit {0}
Below n (Some a) = a.behind < n

below_more : (n : ℕ) (o : Option Answer) → Below n o → Below (suc n) o
below_more n None h = h
below_more n (Some a) h = omega (arith, h)

below_by : (e : CommunityListEntry) (es : List CommunityListEntry) (b : Bool) (o : Option Answer) → Below (length es) o → Below (suc (length es)) (elim b [ true ↦ Some (record { permit = e.permit; behind = length es }) | false ↦ o ])
below_by e es true o h = omega arith
below_by e es false o h = below_more (length es) o h

first_below : (t : Reach → Bool) (es : List CommunityListEntry) → Below (length es) (first_answer t (in_place es))
first_below t [] = tt
first_below t (e ∷ es) = below_by e es (t (reach_of e.shape)) (first_answer t (in_place es)) (first_below t es)

same_either : (b : Bool) (a : Answer) → ◌≡◌ {A = Option Answer} (elim b [ true ↦ Some a | false ↦ Some a ]) (Some a)
same_either true a = refl
same_either false a = refl

stays_first : (a : Answer) (o : Option Answer) → Below a.behind o → earlier (Some a) o ≡ Some a
stays_first a None h = refl
stays_first a (Some y) h = ap (λ (t : Bool). elim t [ true ↦ Some y | false ↦ Some a ]) (le-ltb a.behind y.behind (omega (arith, h)))

comes_first : (a : Answer) (o : Option Answer) → Below a.behind o → earlier o (Some a) ≡ Some a
comes_first a None h = refl
comes_first a (Some x) h = ap (λ (t : Bool). elim t [ true ↦ Some a | false ↦ Some x ]) (lt-ltb x.behind a.behind h)

-- b, d: whether the entry in front passes the one test and the other
either_by : (a : Answer) (o q r : Option Answer) (b d : Bool) → Below a.behind o → Below a.behind q → earlier o q ≡ r
    → earlier (elim b [ true ↦ Some a | false ↦ o ]) (elim d [ true ↦ Some a | false ↦ q ]) ≡ elim (b || d) [ true ↦ Some a | false ↦ r ]
either_by a o q r true true h k e = same_either (nat_lt a.behind a.behind) a
either_by a o q r true false h k e = stays_first a q k
either_by a o q r false true h k e = comes_first a o h
either_by a o q r false false h k e = e

-- the earlier of the first that passes the one test and the first that passes the other is the first that passes either
first_either : (t u : Reach → Bool) (es : List CommunityListEntry) → earlier (first_answer t (in_place es)) (first_answer u (in_place es)) ≡ first_answer (λ r. t r || u r) (in_place es)
first_either t u [] = refl
first_either t u (e ∷ es) =
    either_by (record { permit = e.permit; behind = length es }) (first_answer t (in_place es)) (first_answer u (in_place es)) (first_answer (λ r. t r || u r) (in_place es)) (t (reach_of e.shape)) (u (reach_of e.shape))
    (first_below t es) (first_below u es) (first_either t u es)

first_alike : (t u : Reach → Bool) → ((r : Reach) → t r ≡ u r) → (ps : List Placed) → first_answer t ps ≡ first_answer u ps
first_alike t u h [] = refl
first_alike t u h (p ∷ ps) =
    ap (λ (b : Bool). elim b [ true ↦ Some p.answer | false ↦ first_answer t ps ]) (h p.reach)
    ∙ ap (λ (o : Option Answer). elim (u p.reach) [ true ↦ Some p.answer | false ↦ o ]) (first_alike t u h ps)

filter_by : (t : Reach → Bool) (p : Placed) (ps qs : List Placed) (b : Bool) (r : Option Answer) → first_answer t qs ≡ r
    → first_answer t (cond b (p ∷ qs) qs) ≡ elim (b && t p.reach) [ true ↦ Some p.answer | false ↦ r ]
filter_by t p ps qs true r h = ap (λ (o : Option Answer). elim (t p.reach) [ true ↦ Some p.answer | false ↦ o ]) h
filter_by t p ps qs false r h = h

-- the first of some entries is the first that is one of them
first_filter : (s t : Reach → Bool) (ps : List Placed) → first_answer t (filter (λ p. s p.reach) ps) ≡ first_answer (λ r. s r && t r) ps
first_filter s t [] = refl
first_filter s t (p ∷ ps) = filter_by t p ps (filter (λ q. s q.reach) ps) (s p.reach) (first_answer (λ r. s r && t r) ps) (first_filter s t ps)

or_false : (b : Bool) → (b || false) ≡ b
or_false true = refl
or_false false = refl

-- an entry's reach has a community where the entry is found by one of its numbers, or is of none of the sorts
abbrev found_by : Community → Reach → Bool
found_by c r = has_key OfOne c.0 r || (has_key OfHigh (c.0 / 2 ^ 16) r || (has_key OfLow (c.0 % 2 ^ 16) r || (has_key OfEvery 0 r || (is_other r && reaches c r))))

found_reaches : (c : Community) (r : Reach) → found_by c r ≡ reaches c r
found_reaches c Nobody = refl
found_reaches c (One d) = or_false (c.0 == d.0)
found_reaches c (High a) = or_false (c.0 / 2 ^ 16 == a)
found_reaches c (Low b) = or_false (c.0 % 2 ^ 16 == b)
found_reaches c Every = refl
found_reaches c (Within r) = refl

-- the earliest of the answers of the parts is that of the first entry
parts : (c : Community) (es : List CommunityListEntry) (one high low every other : Option Answer)
    → one ≡ first_answer (has_key OfOne c.0) (in_place es) → high ≡ first_answer (has_key OfHigh (c.0 / 2 ^ 16)) (in_place es) → low ≡ first_answer (has_key OfLow (c.0 % 2 ^ 16)) (in_place es)
    → every ≡ first_answer (has_key OfEvery 0) (in_place es) → other ≡ first_answer (λ r. is_other r && reaches c r) (in_place es)
    → earlier one (earlier high (earlier low (earlier every other))) ≡ first_answer (reaches c) (in_place es)
parts c es one high low every other a b d e f =
    rw (a, b, d, e, f)
    (ap (λ (o : Option Answer). earlier (first_answer (has_key OfOne c.0) (in_place es)) (earlier (first_answer (has_key OfHigh (c.0 / 2 ^ 16)) (in_place es)) (earlier (first_answer (has_key OfLow (c.0 % 2 ^ 16)) (in_place es)) o))) (first_either (has_key OfEvery 0) (λ r. is_other r && reaches c r) es)
    ∙ ap (λ (o : Option Answer). earlier (first_answer (has_key OfOne c.0) (in_place es)) (earlier (first_answer (has_key OfHigh (c.0 / 2 ^ 16)) (in_place es)) o)) (first_either (has_key OfLow (c.0 % 2 ^ 16)) (λ r. has_key OfEvery 0 r || (is_other r && reaches c r)) es)
    ∙ ap (λ (o : Option Answer). earlier (first_answer (has_key OfOne c.0) (in_place es)) o) (first_either (has_key OfHigh (c.0 / 2 ^ 16)) (λ r. has_key OfLow (c.0 % 2 ^ 16) r || (has_key OfEvery 0 r || (is_other r && reaches c r))) es)
    ∙ first_either (has_key OfOne c.0) (λ r. has_key OfHigh (c.0 / 2 ^ 16) r || (has_key OfLow (c.0 % 2 ^ 16) r || (has_key OfEvery 0 r || (is_other r && reaches c r)))) es
    ∙ first_alike (found_by c) (reaches c) (found_reaches c) (in_place es))

-- what an index answers is what its entries answer
pub index_answers : (i : Index) (c : Community) (o : Option Answer) → IsIndex i → c.0 < 2 ^ 32 → o ≡ answer_on i c → permit_of o ≡ answers_alone (map (λ e. e.now) i.entries.now) c
index_answers i c o h k e =
    let es : List CommunityListEntry = map (λ x. x.now) i.entries.now in
    ap permit_of (e ∙ parts c es (answer_at i.ones c.0) (answer_at i.highs (c.0 / 2 ^ 16)) (answer_at i.lows (c.0 % 2 ^ 16)) (answer_at i.every 0) (first_answer (reaches c) i.others.items)
    (h.ones c.0) (h.highs (c.0 / 2 ^ 16)) (h.lows (c.0 % 2 ^ 16)) (h.every 0)
    (ap (λ (ps : List Placed). first_answer (reaches c) ps) h.others ∙ first_filter is_other (reaches c) (in_place es)))
    ∙ first_decides c k es
