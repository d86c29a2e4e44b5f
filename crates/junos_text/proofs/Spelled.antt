-- The words of forms: they may stand on a line, and spell the forms.
use Rattle.std.proofs.Common.{◌≡◌, refl, sym, ap, ap₂, subst, ◌∙◌, ℕ, ◌+◌, ◌-◌, ◌^◌, ◌<◌, ◌≤◌, Bool, true, false, ◌&&◌, List, [], ◌∷◌, ◌++◌, length, map, arith, inl, inr, ◌⊎◌}
use Rattle.std.specs.Prelude.{codes, decimal, ◌==◌}
use Rattle.std.specs.List.{list_any, AllByRecursion}
use Rattle.std.proofs.lemmas.Bool.{and_parts, and_from, or_from, eqb-true, eqb-false, eq-eqb, ne_eqb}
use Rattle.route_types.specs.Address.{PrefixParts}
use Rattle.route_types.specs.Community.{RectParts}
use Rattle.route_types.specs.Print.{octets_of, address_text, prefix_text}
use Rattle.route_types.specs.RouteText.{Each, origin_text}
use Rattle.route_types.specs.Words.{IsNumber, IsAddress, IsPrefix}
use Rattle.route_types.specs.declared.address.Address.{Address}
use Rattle.route_types.specs.declared.route.NextHop.{NextHop}
use Rattle.route_types.specs.declared.route.NextHop.TheVariants.{At, Own}
use Rattle.route_types.specs.declared.route.Origin.{Origin}
use Rattle.route_types.specs.declared.route.Origin.TheVariants.{Igp, Egp, Incomplete}
use Rattle.route_types.proofs.Printed.{IsPlain, prefix_in_printed, octets_within, octets_address}
use Rattle.route_types.proofs.Spelled.{prefix_in_found}
use Rattle.prefix_sets.specs.Range.{RangeParts}
use Rattle.aspath_text.specs.IosGrammar.{joined_by}
use Rattle.text_words.specs.JunosWords.{sort_at}
use Rattle.text_words.specs.JunosWritten.{plain_bytes}
use Rattle.policy_text.specs.Phrases.{Behind, One, First, AreSome, IsOneOf, IsNameWord}
use Rattle.junos_tree.specs.Spelling.{SpellValues, SpellNames, SpellType, SpellRange, SpellCondition, SpellAction}
use Rattle.junos_tree.specs.Words.{types, verbs, filter_types, IsHalf, IsMember, IsLength, IsUpTo, AreLengths, IsNextHop, ArePrepended}
use Rattle.junos_tree.specs.declared.item.CommunityVerb.{CommunityVerb}
use Rattle.junos_tree.specs.declared.item.CommunityVerb.TheVariants.{Set, Add, Delete}
use Rattle.junos_tree.specs.declared.item.Condition.{Condition}
use Rattle.junos_tree.specs.declared.item.Condition.TheVariants.{Protocol, Community, AsPath, NextHop as AsksNextHop, Policy, PrefixList, RouteFilter, ListFilter, Metric, LocalPreference, Origin as AsksOrigin}
use Rattle.junos_text.specs.Words.{values_words, half_text, member_text, length_text, type_by, type_words, next_hop_text, filter_text, condition_words, verb_text, numbers_text}
use Rattle.junos_text.specs.Written.{FitsName, FitsNumber, AreSomeFit, FitNames, FitsAddress, FitsRange, FitsHalf, FitsMember, FitsCondition}
use Rattle.junos_text.proofs.Phrases.{ArePlain, values_plain}
use Rattle.junos_text.proofs.Plain.{IsPlainWord, plain_is_word, some_plain, bytes_plain, breaks_word, lacks, decimal_word, prefix_word, address_word, parts_word, joined_lacks, decimal_breaks, decimal_slashless, decimal_starless}

-- ---- values

-- words that spell values one by one spell them as values
values_spelled : {A : Type 0} (P : List ℕ → A → Type 0) (ws : List (List ℕ)) (xs : List A) → 1 ≤ length xs → Each P ws xs → SpellValues P (values_words ws) xs
values_spelled P ws [] some each = absurd (omega (arith, some))
values_spelled P [] (x ∷ xs) some each = absurd each
values_spelled P (w ∷ []) (x ∷ []) some each = inl (x, refl, (w, refl, each.0))
values_spelled P (w ∷ v ∷ ws) (x ∷ []) some each = absurd each.1
values_spelled P (w ∷ []) (x ∷ y ∷ ys) some each = absurd each.1
values_spelled P (w ∷ v ∷ ws) (x ∷ y ∷ ys) some each = inr (w ∷ v ∷ ws, refl, record { some = let k : 1 ≤ length (w ∷ v ∷ ws) = omega arith in k; each = each })

-- what holds of each value holds of them one by one
pub each_mapped : {A : Type 0} (P : List ℕ → A → Type 0) (Q : A → Type 0) (f : A → List ℕ) (fits : (x : A) → Q x → P (f x) x) (xs : List A) → AllByRecursion Q xs → Each P (map f xs) xs
each_mapped P Q f fits [] h = tt
each_mapped P Q f fits (x ∷ xs) h = (fits x h.0, each_mapped P Q f fits xs h.1)

pub all_mapped : {A : Type 0} (P : List ℕ → Type 0) (Q : A → Type 0) (f : A → List ℕ) (fits : (x : A) → Q x → P (f x)) (xs : List A) → AllByRecursion Q xs → AllByRecursion P (map f xs)
all_mapped P Q f fits [] h = tt
all_mapped P Q f fits (x ∷ xs) h = (fits x h.0, all_mapped P Q f fits xs h.1)

names_each : (ns : List (List ℕ)) → AllByRecursion FitsName ns → Each IsNameWord ns ns
names_each [] h = tt
names_each (n ∷ ns) h = (record { named = h.0.named; is = refl }, names_each ns h.1)

names_plain : (ns : List (List ℕ)) → AllByRecursion FitsName ns → ArePlain ns
names_plain [] h = tt
names_plain (n ∷ ns) h = (plain_is_word n h.0.plain, names_plain ns h.1)

names_spelled : (ns : List (List ℕ)) → FitNames ns → SpellNames (values_words ns) ns
names_spelled ns h = values_spelled IsNameWord ns ns h.0 (names_each ns h.1)

pub name_word : (n : List ℕ) → FitsName n → IsPlainWord n
name_word n h = plain_is_word n h.plain

pub name_spelled : (n : List ℕ) → FitsName n → IsNameWord n n
name_spelled n h = record { named = h.named; is = refl }

pub number_word : (n : ℕ) → FitsNumber n → IsPlainWord (decimal n)
number_word n h = decimal_word n (omega (arith, h))

pub number_spelled : (n : ℕ) → FitsNumber n → IsNumber (2 ^ 32 - 1) (decimal n) n
number_spelled n h = record { spelled = refl; within = h }

pub address_spelled : (a : Address) → FitsAddress a → IsAddress (address_text a) a
address_spelled a h =
    let within = octets_within a h.bits in
    record { octets = octets_of a; first = within.first; second = within.second; third = within.third; fourth = within.fourth; spelled = refl; value = sym (octets_address a h.family h.bits) }

pub origin_word : (o : Origin) → IsPlainWord (origin_text o)
unfolding plain_bytes sort_at
origin_word Igp = refl
origin_word Egp = refl
origin_word Incomplete = refl

-- ---- members of communities

half_breaks : (least most : ℕ) (one : Bool) → least ≤ 65535 → list_any breaks_word (elim one [ true ↦ decimal least | false ↦ codes "*" ]) ≡ false
half_breaks least most true small = decimal_breaks least (omega (arith, small))
half_breaks least most false small = refl

half_slashless : (least most : ℕ) (one : Bool) → least ≤ 65535 → lacks 47 (elim one [ true ↦ decimal least | false ↦ codes "*" ])
half_slashless least most true small = decimal_slashless least (omega (arith, small))
half_slashless least most false small = refl

half_small : (least most : ℕ) → FitsHalf least most → least ≤ 65535
half_small least most (inl h) = omega (arith, h.0, h.1)
half_small least most (inr h) = omega (arith, h.0)

half_spelled : (least most : ℕ) → FitsHalf least most → IsHalf (half_text least most) least most
half_spelled least most (inl h) = rw (eq-eqb least most h.0, half_text) (inl (record { spelled = refl; within = omega (arith, h.0, h.1) }, sym h.0))
half_spelled least most (inr h) = rw (ne_eqb least most (λ e. absurd (omega (arith, e, h.0, h.1))), half_text) (inr (refl, h.0, h.1))

pub member_word : (r : RectParts) → FitsMember r → IsPlainWord (member_text r)
member_word r h =
    let a = half_small r.high_least r.high_most h.high in
    let b = half_small r.low_least r.low_most h.low in
    parts_word (half_text r.high_least r.high_most) (half_text r.low_least r.low_most) 58 refl refl
    (half_breaks r.high_least r.high_most (r.high_least == r.high_most) a) (half_breaks r.low_least r.low_most (r.low_least == r.low_most) b)
    (half_slashless r.high_least r.high_most (r.high_least == r.high_most) a) (half_slashless r.low_least r.low_most (r.low_least == r.low_most) b)

pub member_spelled : (r : RectParts) → FitsMember r → IsMember (member_text r) r
member_spelled r h = inl (record {
  high = half_text r.high_least r.high_most;
  low = half_text r.low_least r.low_most;
  spelled = refl;
  high_half = half_spelled r.high_least r.high_most h.high;
  low_half = half_spelled r.low_least r.low_most h.low;
})

pub members_plain : (rs : List RectParts) → AllByRecursion FitsMember rs → ArePlain (map member_text rs)
members_plain rs h = all_mapped IsPlainWord FitsMember member_text member_word rs h

pub members_spelled : (rs : List RectParts) → AreSomeFit FitsMember rs → SpellValues IsMember (values_words (map member_text rs)) rs
members_spelled rs h = values_spelled IsMember (map member_text rs) rs h.0 (each_mapped IsMember FitsMember member_text member_spelled rs h.1)

-- ---- route filters

length_breaks : (n : ℕ) → n ≤ 32 → list_any breaks_word (length_text n) ≡ false
length_breaks n h = or_from (breaks_word 47) (list_any breaks_word (decimal n)) refl (decimal_breaks n (omega (arith, h)))

length_starless : (n : ℕ) → n ≤ 32 → lacks 42 (length_text n)
length_starless n h = or_from false (list_any (λ c. c == 42) (decimal n)) refl (decimal_starless n (omega (arith, h)))

some_text : (n : ℕ) → 1 ≤ length (length_text n)
some_text n = omega arith

length_word : (n : ℕ) → n ≤ 32 → IsPlainWord (length_text n)
length_word n h = some_plain (length_text n) (some_text n) (bytes_plain (length_text n) (length_breaks n h) (length_starless n h))

some_lengths : (a b : ℕ) → 1 ≤ length (length_text a ++ (45 ∷ length_text b))
some_lengths a b = omega arith

lengths_word : (a b : ℕ) → a ≤ 32 → b ≤ 32 → IsPlainWord (length_text a ++ (45 ∷ length_text b))
lengths_word a b h k =
    some_plain (length_text a ++ (45 ∷ length_text b)) (some_lengths a b)
    (bytes_plain (length_text a ++ (45 ∷ length_text b)) (joined_lacks breaks_word (length_text a) (length_text b) 45 refl (length_breaks a h) (length_breaks b k))
    (joined_lacks (λ c. c == 42) (length_text a) (length_text b) 45 refl (length_starless a h) (length_starless b k)))

type_plain : (exact longer orlonger up_to : Bool) (least most : ℕ) → least ≤ 32 → most ≤ 32 → ArePlain (type_by exact longer orlonger up_to least most)
unfolding plain_bytes sort_at
type_plain true b c d least most h k = (refl, tt)
type_plain false true c d least most h k = (refl, tt)
type_plain false false true d least most h k = (refl, tt)
type_plain false false false true least most h k = (refl, (length_word most k, tt))
type_plain false false false false least most h k = (refl, (lengths_word least most h k, tt))

pair_is : (a b c d : ℕ) → ((a == c) && (b == d)) ≡ true → ◌≡◌ {A = ℕ × ℕ} (a, b) (c, d)
pair_is a b c d h =
    let q = and_parts (a == c) (b == d) h in
    ap₂ (λ (x : ℕ) (y : ℕ). let q : ℕ × ℕ = (x, y) in q) (eqb-true a c q.0) (eqb-true b d q.1)

is_length : (n : ℕ) → n ≤ 32 → IsLength (length_text n) n
is_length n h = record { spelled = refl; within = h }

type_spelled : (exact longer orlonger up_to : Bool) (n least most : ℕ) → ((least == n) && (most == n)) ≡ exact → ((least == n + 1) && (most == 32)) ≡ longer → ((least == n) && (most == 32)) ≡ orlonger → (least == n) ≡ up_to
    → n ≤ least → least ≤ most → most ≤ 32 → SpellType n (type_by exact longer orlonger up_to least most) (least, most)
type_spelled true b c d n least most e f g i x y z = inl (codes "exact", refl, inl (refl, pair_is least most n n e))
type_spelled false true c d n least most e f g i x y z = inl (codes "longer", refl, inr (inl (refl, pair_is least most (n + 1) 32 f)))
type_spelled false false true d n least most e f g i x y z = inl (codes "orlonger", refl, inr (inr (inl (refl, pair_is least most n 32 g))))
type_spelled false false false true n least most e f g i x y z = inr (inl (length_text most ∷ [], refl, (length_text most, refl, record { most = is_length most z; least = eqb-true least n i; rises = y })))
type_spelled false false false false n least most e f g i x y z =
    inr (inr (
      (length_text least ++ (45 ∷ length_text most)) ∷ [],
      refl,
      (
        length_text least ++ (45 ∷ length_text most),
        refl,
        record {
          front = length_text least;
          back = length_text most;
          spelled = refl;
          least = is_length least (omega (arith, y, z));
          most = is_length most z;
          holds_own = x;
          rises = y;
        },
      ),
    ))

range_plain : (r : RangeParts) → FitsRange r → IsPlain r.prefix
range_plain r h = record { family = h.family; masked = h.masked }

range_spelled : (r : RangeParts) → FitsRange r → SpellRange (prefix_text r.prefix ∷ type_words r.prefix.length r.least r.most) r
range_spelled r h = record {
  prefix_word = prefix_text r.prefix;
  rest = type_words r.prefix.length r.least r.most;
  words = refl;
  prefix = prefix_in_found (prefix_text r.prefix) r.prefix (prefix_in_printed r.prefix h.family h.masked);
  lengths = type_spelled ((r.least == r.prefix.length) && (r.most == r.prefix.length)) ((r.least == r.prefix.length + 1) && (r.most == 32)) ((r.least == r.prefix.length) && (r.most == 32)) (r.least == r.prefix.length)
      r.prefix.length r.least r.most refl refl refl refl h.reaches h.rises h.most;
}

range_words : (r : RangeParts) → FitsRange r → ArePlain (prefix_text r.prefix ∷ type_words r.prefix.length r.least r.most)
range_words r h = (
  prefix_word r.prefix (range_plain r h),
  type_plain ((r.least == r.prefix.length) && (r.most == r.prefix.length)) ((r.least == r.prefix.length + 1) && (r.most == 32)) ((r.least == r.prefix.length) && (r.most == 32)) (r.least == r.prefix.length) r.least r.most (omega (arith, h.rises, h.most)) h.most,
)

-- ---- conditions

-- words that may stand on a line, and of which something is said
pub record AreWords (ws : List (List ℕ)) (P : List (List ℕ) → Type 0) : Type 0 where
  pub first : List ℕ
  pub others : List (List ℕ)
  pub is : ws ≡ first ∷ others
  pub plain : ArePlain (first ∷ others)
  pub says : P ws

filter_word : (b : Bool) → IsPlainWord (filter_text b)
unfolding plain_bytes sort_at
filter_word true = refl
filter_word false = refl

filter_spelled : (b : Bool) → IsOneOf filter_types (filter_text b) b
filter_spelled true = inr (inl (refl, refl))
filter_spelled false = inl (refl, refl)

named_condition : (key : List ℕ) (names : List (List ℕ)) (c : Condition) → IsPlainWord key → FitNames names → (Behind (key ∷ []) SpellNames (key ∷ values_words names) names → SpellCondition (key ∷ values_words names) c) → AreWords (key ∷ values_words names) (λ ws. SpellCondition ws c)
named_condition key names c plain h made = record {
  first = key;
  others = values_words names;
  is = refl;
  plain = (plain, values_plain names (names_plain names h.1));
  says = made (values_words names, refl, names_spelled names h);
}

-- the words of a condition spell it
pub condition_said : (c : Condition) → FitsCondition c → AreWords (condition_words c) (λ ws. SpellCondition ws c)
unfolding plain_bytes sort_at
condition_said (Protocol names) h = named_condition (codes "protocol") names (Protocol names) refl h (λ x. x)
condition_said (Community names) h = named_condition (codes "community") names (Community names) refl h (λ x. x)
condition_said (AsPath names) h = named_condition (codes "as-path") names (AsPath names) refl h (λ x. x)
condition_said (Policy names) h = named_condition (codes "policy") names (Policy names) refl h (λ x. x)
condition_said (PrefixList names) h = named_condition (codes "prefix-list") names (PrefixList names) refl h (λ x. x)
condition_said (AsksNextHop hops) h = record {
  first = codes "next-hop";
  others = values_words (map address_text hops);
  is = refl;
  plain = (refl, values_plain (map address_text hops) (all_mapped IsPlainWord FitsAddress address_text (λ a f. address_word a f.bits) hops h.1));
  says = (values_words (map address_text hops), refl, values_spelled IsAddress (map address_text hops) hops h.0 (each_mapped IsAddress FitsAddress address_text address_spelled hops h.1));
}
condition_said (RouteFilter r) h = record {
  first = codes "route-filter";
  others = prefix_text r.prefix ∷ type_words r.prefix.length r.least r.most;
  is = refl;
  plain = (refl, range_words r h);
  says = (prefix_text r.prefix ∷ type_words r.prefix.length r.least r.most, refl, range_spelled r h);
}
condition_said (ListFilter l) h = record {
  first = codes "prefix-list-filter";
  others = l.list ∷ filter_text l.or_longer ∷ [];
  is = refl;
  plain = (refl, (name_word l.list h, (filter_word l.or_longer, tt)));
  says = (l.list ∷ filter_text l.or_longer ∷ [], refl, (l.list, filter_text l.or_longer ∷ [], refl, name_spelled l.list h, (filter_text l.or_longer, refl, filter_spelled l.or_longer)));
}
condition_said (Metric n) h = record {
  first = codes "metric";
  others = decimal n ∷ [];
  is = refl;
  plain = (refl, (number_word n h, tt));
  says = (decimal n ∷ [], refl, (decimal n, refl, number_spelled n h));
}
condition_said (LocalPreference n) h = record {
  first = codes "local-preference";
  others = decimal n ∷ [];
  is = refl;
  plain = (refl, (number_word n h, tt));
  says = (decimal n ∷ [], refl, (decimal n, refl, number_spelled n h));
}
condition_said (AsksOrigin o) h = record {
  first = codes "origin";
  others = origin_text o ∷ [];
  is = refl;
  plain = (refl, (origin_word o, tt));
  says = (origin_text o ∷ [], refl, (origin_text o, refl, refl));
}
