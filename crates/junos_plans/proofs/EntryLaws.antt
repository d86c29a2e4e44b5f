-- Terms of lists answer as the lists do.
use Rattle.std.proofs.Common.{◌≡◌, refl, sym, ap, subst, ◌∙◌, ℕ, ◌≤◌, ◌-◌, ◌/◌, ◌^◌, Bool, true, false, ◌&&◌, ◌||◌, List, [], ◌∷◌, arith}
use Rattle.std.specs.Prelude.{nat_le, nat_lt, min, max, ◌==◌}
use Rattle.std.specs.List.{list_any, list_all}
use Rattle.std.proofs.lemmas.Bool.{and_parts, eqb-true, false_from_ne_true}
use Rattle.std.proofs.lemmas.Bool.Decides.{nat_tests}
use Rattle.route_types.specs.Address.{PrefixParts, same_family, contains, full_prefix, width}
use Rattle.route_types.specs.Community.{RectParts}
use Rattle.route_types.specs.Route.{RouteParts, InRange, IsNextHop}
use Rattle.route_types.specs.declared.address.Address.{Address}
use Rattle.route_types.specs.declared.address.Family.{Family}
use Rattle.route_types.specs.declared.address.Family.TheVariants.{V4, V6}
use Rattle.route_types.specs.declared.route.NextHop.{NextHop as Hop}
use Rattle.route_types.specs.declared.route.NextHop.TheVariants.{At, Own}
use Rattle.prefix_sets.specs.Range.{RangeParts, in_range}
use Rattle.prefix_sets.specs.FirstMatch.{first_match, hop_match}
use Rattle.prefix_sets.specs.declared.list.PrefixEntry.{PrefixEntry}
use Rattle.prefix_sets.specs.declared.list.PrefixList.{PrefixList}
use Rattle.community_sets.specs.Tests.{all_fitted, test_holds, list_answers}
use Rattle.community_sets.specs.declared.list.CommEntry.{CommEntry}
use Rattle.community_sets.specs.declared.list.CommList.{CommList}
use Rattle.community_sets.specs.declared.list.CommTest.{CommTest}
use Rattle.community_sets.specs.declared.list.CommTest.TheVariants.{AllOf, Exactly}
use Rattle.policy_core.specs.Ranges.{prefix_in_range, list_in_range}
use Rattle.policy_core.specs.Sayable.{is_plain_all_of, lists_are, is_full_length}
use Rattle.junos_plans.specs.Conditions.{is_hop, condition_holds, entries_accept}
use Rattle.junos_plans.specs.Entries.{has_length, cut_range, range_condition, prefix_entries, set_condition, comm_condition, comm_entries, med_entries, prefix_lists, comm_lists}
use Rattle.junos_plans.specs.declared.condition.PlannedCondition.{PlannedCondition}
use Rattle.junos_plans.specs.declared.condition.RouteAddress.{RouteAddress}
use Rattle.junos_plans.specs.declared.condition.RouteAddress.TheVariants.{Destination as OfDestination, NextHop as OfNextHop}

pub or_none : (b : Bool) → (b || false) ≡ b
or_none true = refl
or_none false = refl

abbrev decided : Bool → Bool → Bool → Bool
decided here answer later = elim here [ true ↦ answer | false ↦ later ]

-- ---- ranges

pub same_answers : (a b : Bool) → (a ≡ true → b ≡ true) → (b ≡ true → a ≡ true) → a ≡ b
same_answers true true there back = refl
same_answers false false there back = refl
same_answers true false there back = absurd (let e : false ≡ true = there refl in cc)
same_answers false true there back = absurd (let e : false ≡ true = back refl in cc)

greater_of : (least low length : ℕ) → low ≤ length → nat_le (max least low) length ≡ nat_le least length
greater_of least low length h = same_answers (nat_le (max least low) length) (nat_le least length) (λ e. grind (arith, nat_tests)) (λ e. grind (arith, nat_tests))

smaller_of : (length most : ℕ) → length ≤ 32 → nat_le length (min most 32) ≡ nat_le length most
smaller_of length most h = same_answers (nat_le length (min most 32)) (nat_le length most) (λ e. grind (arith, nat_tests)) (λ e. grind (arith, nat_tests))

-- of numbers: within the bounds, or within those that a prefix of IPv4 can have
bounds_cut : (first : Bool) (least most length low : ℕ) → length ≤ 32 → (first ≡ true → low ≤ length)
    → (first && nat_le (max least low) length && nat_le length (min most 32)) ≡ (first && nat_le least length && nat_le length most)
bounds_cut false least most length low h reach = refl
bounds_cut true least most length low h reach =
    ap (λ b. b && nat_le length (min most 32)) (greater_of least low length (reach refl))
    ∙ ap (λ b. nat_le least length && b) (smaller_of length most h)

middle_part : (f l e : Bool) → (f && l && e) ≡ true → l ≡ true
middle_part true true e h = refl
middle_part true false e h = absurd cc
middle_part false l e h = absurd cc

le_from : (a b : ℕ) → nat_le a b ≡ true → a ≤ b
le_from a b e = grind (arith, nat_tests)

none_between : (first : Bool) (a n b : ℕ) → nat_le a b ≡ false → (first && nat_le a n && nat_le n b) ≡ false
none_between false a n b e = refl
none_between true a n b e = false_from_ne_true (nat_le a n && nat_le n b) (λ h. grind (arith, nat_tests))

-- a prefix is at least as long as one that contains it
reaches : (p q : PrefixParts) → contains p q ≡ true → p.length ≤ q.length
reaches p q e = le_from p.length q.length (middle_part (same_family p.address.family q.address.family) (nat_le p.length q.length) _ e)

cut_same : (x : RangeParts) (q : PrefixParts) → q.length ≤ 32 → in_range (cut_range x) q ≡ in_range x q
cut_same x q h = bounds_cut (contains x.prefix q) x.least x.most q.length x.prefix.length h (λ e. reaches x.prefix q e)

empty_none : (x : RangeParts) (q : PrefixParts) → q.length ≤ 32 → has_length x ≡ false → in_range x q ≡ false
empty_none x q h e = sym (cut_same x q h) ∙ none_between (contains x.prefix q) (max x.least x.prefix.length) q.length (min x.most 32) e

-- terms that hold where the entries' ranges hold the prefix
module _ (holds : PlannedCondition → Bool) (asked : RouteAddress) (p : PrefixParts) (Fits : PrefixEntry → Bool) where
  range_decides : p.length ≤ 32 → ((e : PrefixEntry) → Fits e ≡ true → has_length e.range ≡ true → holds (range_condition asked e.range) ≡ in_range e.range p)
      → (es : List PrefixEntry) → list_all Fits es ≡ true → entries_accept holds (prefix_entries asked es) ≡ first_match es p
  unfolding entries_accept prefix_entries first_match
  range_decides h same [] k = refl
  range_decides h same (e ∷ es) k =
      let parts = and_parts (Fits e) (list_all Fits es) k in
      one (has_length e.range) refl (same e parts.0) (range_decides h same es parts.1) where
        one : (b : Bool) → has_length e.range ≡ b → (has_length e.range ≡ true → holds (range_condition asked e.range) ≡ in_range e.range p) → entries_accept holds (prefix_entries asked es) ≡ first_match es p
            → entries_accept holds (elim b [ true ↦ record { permit = e.permit; condition = range_condition asked e.range } ∷ prefix_entries asked es | false ↦ prefix_entries asked es ])
            ≡ decided (in_range e.range p) e.permit (first_match es p)
        one true some here more =
            ap (λ (b : Bool). decided b e.permit (entries_accept holds (prefix_entries asked es))) (here some)
            ∙ ap (λ (b : Bool). decided (in_range e.range p) e.permit b) more
        one false none here more = more ∙ sym (ap (λ (b : Bool). decided b e.permit (first_match es p)) (empty_none e.range p h none))

all_pass : {A : Type 0} (xs : List A) → list_all (λ x. true) xs ≡ true
all_pass [] = refl
all_pass (x ∷ xs) = all_pass xs

prefix_decides : (r : RouteParts) (es : List PrefixEntry) → r.prefix.length ≤ 32 → entries_accept (condition_holds r) (prefix_entries OfDestination es) ≡ first_match es r.prefix
prefix_decides r es h =
    range_decides (condition_holds r) OfDestination r.prefix (λ e. true) h (λ e _ _. or_none (in_range (cut_range e.range) r.prefix) ∙ cut_same e.range r.prefix h) es (all_pass es)

-- ---- next hops

-- the range of an entry holds one address
abbrev is_one_address : PrefixEntry → Bool
is_one_address e = prefix_in_range e.range.prefix && (e.range.prefix.length == 32)

-- no entry of a list holds where its conditions don't
none_decides : (holds : PlannedCondition → Bool) → ((x : RangeParts) → holds (range_condition OfNextHop x) ≡ false) → (es : List PrefixEntry) → entries_accept holds (prefix_entries OfNextHop es) ≡ false
unfolding entries_accept prefix_entries
none_decides holds fails [] = refl
none_decides holds fails (e ∷ es) = one (has_length e.range) (none_decides holds fails es) where
  one : (b : Bool) → entries_accept holds (prefix_entries OfNextHop es) ≡ false
      → entries_accept holds (elim b [ true ↦ record { permit = e.permit; condition = range_condition OfNextHop e.range } ∷ prefix_entries OfNextHop es | false ↦ prefix_entries OfNextHop es ]) ≡ false
  one true more = ap (λ (b : Bool). decided b e.permit (entries_accept holds (prefix_entries OfNextHop es))) (fails e.range) ∙ more
  one false more = more

-- an address is one that is asked for, and lies in a range, by families, a length and numbers
abbrev hop_side : Family → Family → ℕ → ℕ → Bool
hop_side f g bits number = (same_family f g && (bits == number)) || false

abbrev range_side : Family → Family → ℕ → ℕ → ℕ → ℕ → ℕ → Bool
range_side f g length bits number least most =
    (same_family g f && nat_le length (width f) && (number / 2 ^ (width g - length) == bits / 2 ^ (width g - length)) && nat_le least (width f)) && nat_le (width f) most

flip_test : (a b : ℕ) → (a == b) ≡ (b == a)
flip_test a b = grind (arith, nat_tests)

le_test : (a b : ℕ) → a ≤ b → nat_le a b ≡ true
le_test a b h = grind (arith, nat_tests)

only_first : (a b c : Bool) → b ≡ true → c ≡ true → ((a && b) && c) ≡ a
only_first true b c e f = rw (e, f) refl
only_first false b c e f = refl

one_address : (bits number least most : ℕ) → nat_le (max least 32) (min most 32) ≡ true → hop_side V4 V4 bits number ≡ range_side V4 V4 32 bits number least most
one_address bits number least most some =
    let rises = le_from (max least 32) (min most 32) some in
    let at_least = le_test least 32 (omega (arith, rises)) in
    let at_most = le_test 32 most (omega (arith, rises)) in
    let whole : number / 2 ^ 0 ≡ number = omega arith in
    let whole_bits : bits / 2 ^ 0 ≡ bits = omega arith in
    or_none (bits == number) ∙ flip_test bits number
    ∙ sym (ap (λ (n : ℕ). n == bits) whole)
    ∙ sym (ap (λ (n : ℕ). number / 2 ^ 0 == n) whole_bits)
    ∙ sym (only_first (number / 2 ^ 0 == bits / 2 ^ 0) (nat_le least 32) (nat_le 32 most) at_least at_most)

family_v4 : (f : Family) → same_family V4 f ≡ true → f ≡ V4
family_v4 V4 e = refl
family_v4 V6 e = absurd cc

hop_same : (a : Address) (e : PrefixEntry) → a.family ≡ V4 → is_one_address e ≡ true → has_length e.range ≡ true → (is_hop (At a) e.range.prefix.address || false) ≡ in_range e.range (full_prefix a)
hop_same a e v4 is some =
    let p = e.range.prefix in
    let parts = and_parts (prefix_in_range p) (p.length == 32) is in
    let family = family_v4 p.address.family (and_parts (same_family V4 p.address.family) (nat_lt p.address.bits (2 ^ 32)) parts.0).0 in
    let full : p.length ≡ 32 = eqb-true p.length 32 parts.1 in
    let base = one_address a.bits p.address.bits e.range.least e.range.most (subst (λ (n : ℕ). nat_le (max e.range.least n) (min e.range.most 32) ≡ true) full some) in
    subst (λ (f : Family). hop_side f p.address.family a.bits p.address.bits ≡ range_side f p.address.family p.length a.bits p.address.bits e.range.least e.range.most) (sym v4)
    (subst (λ (g : Family). hop_side V4 g a.bits p.address.bits ≡ range_side V4 g p.length a.bits p.address.bits e.range.least e.range.most) (sym family)
    (subst (λ (n : ℕ). hop_side V4 V4 a.bits p.address.bits ≡ range_side V4 V4 n a.bits p.address.bits e.range.least e.range.most) (sym full) base))

pub hop_decides : (r : RouteParts) (h : Hop) (es : List PrefixEntry) → r.next_hop ≡ h → IsNextHop h → list_all is_one_address es ≡ true
    → entries_accept (condition_holds r) (prefix_entries OfNextHop es) ≡ hop_match es h
hop_decides r (At a) es e is k =
    range_decides (condition_holds r) OfNextHop (full_prefix a) is_one_address (subst (λ f. width f ≤ 32) (sym is.0) (omega arith))
    (λ n one some. ap (λ h. is_hop h n.range.prefix.address || false) e ∙ hop_same a n is.0 one some) es k
hop_decides r Own es e is k = none_decides (condition_holds r) (λ x. ap (λ h. is_hop h x.prefix.address || false) e) es

-- ---- community lists

set_same : (r : RouteParts) (rects : List RectParts) → condition_holds r (set_condition rects) ≡ all_fitted rects r.communities
set_same r [] = refl
set_same r (x ∷ xs) = or_none (all_fitted (x ∷ xs) r.communities)

test_same : (r : RouteParts) (t : CommTest) → is_plain_all_of t ≡ true → condition_holds r (comm_condition t) ≡ test_holds t r.communities
test_same r (AllOf rects) e = set_same r rects
test_same r (Exactly set) e = absurd cc

comm_decides : (r : RouteParts) (es : List CommEntry) → list_all (λ e. is_plain_all_of e.test) es ≡ true → entries_accept (condition_holds r) (comm_entries es) ≡ list_answers es r.communities
unfolding entries_accept comm_entries list_answers
comm_decides r [] h = refl
comm_decides r (e ∷ es) h =
    let parts = and_parts (is_plain_all_of e.test) (list_all (λ k. is_plain_all_of k.test) es) h in
    ap (λ (b : Bool). decided b e.permit (entries_accept (condition_holds r) (comm_entries es))) (test_same r e.test parts.0)
    ∙ ap (λ (b : Bool). decided (test_holds e.test r.communities) e.permit b) (comm_decides r es parts.1)

-- ---- numbers

permits : (here later : Bool) → decided here true later ≡ (here || later)
permits true later = refl
permits false later = refl

pub med_decides : (r : RouteParts) (ns : List ℕ) → entries_accept (condition_holds r) (med_entries ns) ≡ list_any (λ n. r.med == n) ns
unfolding entries_accept med_entries
med_decides r [] = refl
med_decides r (n ∷ ns) = permits (r.med == n) (entries_accept (condition_holds r) (med_entries ns)) ∙ ap (λ (b : Bool). (r.med == n) || b) (med_decides r ns)

-- ---- lists

short : (r : RouteParts) → InRange r → r.prefix.length ≤ 32
short r h = subst (λ f. r.prefix.length ≤ width f) h.family h.prefix.within

pub prefix_lists_decide : (r : RouteParts) (ls : List PrefixList) → InRange r → list_any (λ l. entries_accept (condition_holds r) l.entries) (prefix_lists OfDestination ls) ≡ list_any (λ l. first_match l.entries r.prefix) ls
unfolding prefix_lists
prefix_lists_decide r [] h = refl
prefix_lists_decide r (l ∷ ls) h =
    ap (λ (b : Bool). b || list_any (λ k. entries_accept (condition_holds r) k.entries) (prefix_lists OfDestination ls)) (prefix_decides r l.entries (short r h))
    ∙ ap (λ (b : Bool). first_match l.entries r.prefix || b) (prefix_lists_decide r ls h)

both_of : {A : Type 0} (p q : A → Bool) (xs : List A) → list_all p xs ≡ true → list_all q xs ≡ true → list_all (λ x. p x && q x) xs ≡ true
both_of p q [] h k = refl
both_of p q (x ∷ xs) h k = joined (p x) (q x) (list_all (λ y. p y && q y) xs) (and_parts (p x) (list_all p xs) h).0 (and_parts (q x) (list_all q xs) k).0
    (both_of p q xs (and_parts (p x) (list_all p xs) h).1 (and_parts (q x) (list_all q xs) k).1) where
      joined : (a b rest : Bool) → a ≡ true → b ≡ true → rest ≡ true → ((a && b) && rest) ≡ true
      joined true true rest e f g = g
      joined true false rest e f g = absurd cc
      joined false b rest e f g = absurd cc

pub hop_lists_decide : (r : RouteParts) (ls : List PrefixList) → InRange r → list_all (λ l. list_in_range l && is_full_length l) ls ≡ true
    → list_any (λ l. entries_accept (condition_holds r) l.entries) (prefix_lists OfNextHop ls) ≡ list_any (λ l. hop_match l.entries r.next_hop) ls
unfolding prefix_lists
hop_lists_decide r [] h k = refl
hop_lists_decide r (l ∷ ls) h k =
    let parts = and_parts (list_in_range l && is_full_length l) (list_all (λ m. list_in_range m && is_full_length m) ls) k in
    let own = and_parts (list_in_range l) (is_full_length l) parts.0 in
    ap (λ (b : Bool). b || list_any (λ m. entries_accept (condition_holds r) m.entries) (prefix_lists OfNextHop ls))
    (hop_decides r r.next_hop l.entries refl h.next_hop (both_of (λ e. prefix_in_range e.range.prefix) (λ e. e.range.prefix.length == 32) l.entries own.0 own.1))
    ∙ ap (λ (b : Bool). hop_match l.entries r.next_hop || b) (hop_lists_decide r ls h parts.1)

pub comm_lists_decide : (r : RouteParts) (ls : List CommList) → lists_are is_plain_all_of ls ≡ true → list_any (λ l. entries_accept (condition_holds r) l.entries) (comm_lists ls) ≡ list_any (λ l. list_answers l.entries r.communities) ls
unfolding comm_lists
comm_lists_decide r [] h = refl
comm_lists_decide r (l ∷ ls) h =
    let parts = and_parts (list_all (λ e. is_plain_all_of e.test) l.entries) (lists_are is_plain_all_of ls) h in
    ap (λ (b : Bool). b || list_any (λ k. entries_accept (condition_holds r) k.entries) (comm_lists ls)) (comm_decides r l.entries parts.0)
    ∙ ap (λ (b : Bool). list_answers l.entries r.communities || b) (comm_lists_decide r ls parts.1)
