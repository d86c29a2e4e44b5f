-- Of prefixes that are apart at most one contains a prefix, so the longest match is the only one.
use Rattle.std.proofs.Common.{◌≡◌, refl, sym, ap, subst, ◌∙◌, ℕ, ◌-◌, ◌*◌, ◌/◌, ◌^◌, ◌≤◌, ◌<◌, ◌⊎◌, inl, inr, Bool, true, false, ◌&&◌, ◌||◌, not, List, [], ◌∷◌, arith}
use Rattle.std.specs.Prelude.{◌==◌, nat_le, nat_lt}
use Rattle.std.specs.List.{list_any, AllByRecursion, IsDistinct}
use Rattle.std.proofs.lemmas.Bool.{and_parts, eqb-true, eq-eqb, leb-true, le-leb, le-ltb}
use Rattle.std.proofs.lemmas.Nat.{pow-add}
use native.Mathlib.Nat.{div-div-eq-div-mul}
use Rattle.route_types.specs.Address.{PrefixParts, contains, same_family, width}
use Rattle.route_types.specs.declared.address.Family.{Family}
use Rattle.route_types.specs.declared.address.Family.TheVariants.{V4, V6}
use Rattle.prefix_sets.specs.Range.{RangeParts, in_range}
use Rattle.prefix_sets.specs.LongestMatch.{is_longest, has_length, longest_match}
use Rattle.junos_plans.specs.Apart.{meets, AreApart}

-- ---- prefixes that contain one prefix

families_are : (f g : Family) → same_family f g ≡ true → f ≡ g
families_are V4 V4 e = refl
families_are V6 V6 e = refl
families_are V4 V6 e = absurd cc
families_are V6 V4 e = absurd cc

family_is_same : (f : Family) → same_family f f ≡ true
family_is_same V4 = refl
family_is_same V6 = refl

-- what a prefix that contains another says of it
record IsWithin (p q : PrefixParts) : Type 0 where
  family : p.address.family ≡ q.address.family
  shorter : p.length ≤ q.length
  bits : p.address.bits / 2 ^ (width p.address.family - p.length) ≡ q.address.bits / 2 ^ (width p.address.family - p.length)

is_within : (p q : PrefixParts) → contains p q ≡ true → IsWithin p q
is_within p q e =
    let block = 2 ^ (width p.address.family - p.length) in
    let k = and_parts (same_family p.address.family q.address.family && nat_le p.length q.length) (p.address.bits / block == q.address.bits / block) e in
    let l = and_parts (same_family p.address.family q.address.family) (nat_le p.length q.length) k.0 in
    record { family = families_are p.address.family q.address.family l.0; shorter = leb-true p.length q.length l.1; bits = eqb-true (p.address.bits / block) (q.address.bits / block) k.1 }

-- numbers that agree in blocks of a size agree in blocks of a multiple of it
wider : (a b small more : ℕ) → a / small ≡ b / small → a / (small * more) ≡ b / (small * more)
wider a b small more e = sym (div-div-eq-div-mul a small more) ∙ ap (λ (n : ℕ). n / more) e ∙ div-div-eq-div-mul b small more

split_power : (m n : ℕ) → n ≤ m → 2 ^ m ≡ 2 ^ n * 2 ^ (m - n)
split_power m n h = ap (λ (k : ℕ). 2 ^ k) (omega (arith, h)) ∙ pow-add 2 n (m - n)

-- a prefix contains another one that is no shorter, where both contain one
shorter_contains : (p s q : PrefixParts) → IsWithin p q → IsWithin s q → p.length ≤ s.length → contains p s ≡ true
shorter_contains p s q h k le =
    let family : p.address.family ≡ s.address.family = h.family ∙ sym k.family in
    let w : ℕ = width p.address.family in
    let small : ℕ = 2 ^ (w - s.length) in
    let more : ℕ = 2 ^ ((w - p.length) - (w - s.length)) in
    let block : 2 ^ (w - p.length) ≡ small * more = split_power (w - p.length) (w - s.length) (omega (arith, le)) in
    let s_bits : s.address.bits / small ≡ q.address.bits / small = subst (λ (f : Family). s.address.bits / 2 ^ (width f - s.length) ≡ q.address.bits / 2 ^ (width f - s.length)) (sym family) k.bits in
    let far : s.address.bits / 2 ^ (w - p.length) ≡ q.address.bits / 2 ^ (w - p.length) =
    ap (λ (n : ℕ). s.address.bits / n) block ∙ wider s.address.bits q.address.bits small more s_bits ∙ ap (λ (n : ℕ). q.address.bits / n) (sym block) in
    let bits : p.address.bits / 2 ^ (w - p.length) ≡ s.address.bits / 2 ^ (w - p.length) = h.bits ∙ sym far in
    let same : same_family p.address.family s.address.family ≡ true = subst (λ (f : Family). same_family p.address.family f ≡ true) family (family_is_same p.address.family) in
    rw (same, le-leb p.length s.length le, eq-eqb (p.address.bits / 2 ^ (w - p.length)) (s.address.bits / 2 ^ (w - p.length)) bits) refl

-- ---- at most one

-- the filter contains q, and is longer than this
abbrev is_longer : PrefixParts → ℕ → RangeParts → Bool
is_longer q length g = contains g.prefix q && nat_lt length g.prefix.length

both_false : (a b : Bool) → (a || b) ≡ false → (a ≡ false) × (b ≡ false)
both_false false b e = (refl, e)
both_false true b e = absurd cc

-- of two that don't meet none is longer where the other one contains q
not_longer : (f g : RangeParts) (q : PrefixParts) → meets f g ≡ false → contains f.prefix q ≡ true → is_longer q f.prefix.length g ≡ false
not_longer f g q apart here = by_contains (contains g.prefix q) refl
  where
    by_contains : (c : Bool) → contains g.prefix q ≡ c → (c && nat_lt f.prefix.length g.prefix.length) ≡ false
    by_contains false e = refl
    by_contains true e = by_less (nat_lt f.prefix.length g.prefix.length) refl
      where
        by_less : (l : Bool) → nat_lt f.prefix.length g.prefix.length ≡ l → nat_lt f.prefix.length g.prefix.length ≡ false
        by_less false l = l
        by_less true l =
            let less : f.prefix.length < g.prefix.length = leb-true _ _ l in
            let there : contains f.prefix g.prefix ≡ true = shorter_contains f.prefix g.prefix q (is_within f.prefix q here) (is_within g.prefix q e) (omega (arith, less)) in
            absurd (let no = (both_false (contains f.prefix g.prefix) (contains g.prefix f.prefix) apart).0 in cc)

not_itself : (f : RangeParts) (q : PrefixParts) → is_longer q f.prefix.length f ≡ false
not_itself f q = none (contains f.prefix q)
  where
    none : (c : Bool) → (c && nat_lt f.prefix.length f.prefix.length) ≡ false
    none true = le-ltb f.prefix.length f.prefix.length (omega arith)
    none false = refl

-- what stands in a list beside a filter: the filter itself, and others that don't meet it
abbrev Beside : RangeParts → RangeParts → Type 0
Beside f g = (f ≡ g) ⊎ (meets f g ≡ false)

none_longer : (f : RangeParts) (q : PrefixParts) (gs : List RangeParts) → AllByRecursion (Beside f) gs → contains f.prefix q ≡ true → list_any (is_longer q f.prefix.length) gs ≡ false
none_longer f q [] h here = refl
none_longer f q (g ∷ gs) h here = ap (λ (b : Bool). b || list_any (is_longer q f.prefix.length) gs) (one h.0) ∙ none_longer f q gs h.1 here
  where
    one : Beside f g → is_longer q f.prefix.length g ≡ false
    one (inl same) = subst (λ (x : RangeParts). is_longer q f.prefix.length x ≡ false) same (not_itself f q)
    one (inr apart) = not_longer f g q apart here

meets_flips : (x y : RangeParts) → meets x y ≡ meets y x
meets_flips x y = turned (contains x.prefix y.prefix) (contains y.prefix x.prefix) where
  turned : (a b : Bool) → (a || b) ≡ (b || a)
  turned true true = refl
  turned true false = refl
  turned false true = refl
  turned false false = refl

all_inr : (f : RangeParts) (gs : List RangeParts) → AllByRecursion (λ g. meets f g ≡ false) gs → AllByRecursion (Beside f) gs
all_inr f [] h = tt
all_inr f (g ∷ gs) h = (inr h.0, all_inr f gs h.1)

with_front : (x : RangeParts) (fs gs : List RangeParts) → AllByRecursion (λ f. meets x f ≡ false) fs → AllByRecursion (λ f. AllByRecursion (Beside f) gs) fs → AllByRecursion (λ f. AllByRecursion (Beside f) (x ∷ gs)) fs
with_front x [] gs h k = tt
with_front x (f ∷ fs) gs h k = ((inr (meets_flips f x ∙ h.0), k.0), with_front x fs gs h.1 k.1)

each_beside : (xs : List RangeParts) → AreApart xs → AllByRecursion (λ f. AllByRecursion (Beside f) xs) xs
unfolding IsDistinct
each_beside [] h = tt
each_beside (x ∷ xs) h = ((inl refl, all_inr x xs h.0), with_front x xs xs h.0 (each_beside xs h.1))

each_alone : (all fs : List RangeParts) (q : PrefixParts) → AllByRecursion (λ f. AllByRecursion (Beside f) all) fs
    → list_any (λ f. is_longest all q f && has_length f q) fs ≡ list_any (λ x. in_range x q) fs
each_alone all [] q h = refl
each_alone all (f ∷ fs) q h =
    ap (λ (b : Bool). b || list_any (λ g. is_longest all q g && has_length g q) fs) (one (contains f.prefix q) refl)
    ∙ ap (λ (b : Bool). in_range f q || b) (each_alone all fs q h.1)
  where
    one : (c : Bool) → contains f.prefix q ≡ c → ((c && not (list_any (is_longer q f.prefix.length) all)) && has_length f q) ≡ ((c && nat_le f.least q.length) && nat_le q.length f.most)
    one false e = refl
    one true e = ap (λ (b : Bool). not b && has_length f q) (none_longer f q all h.0 e)

pub longest_alone : (xs : List RangeParts) (q : PrefixParts) → AreApart xs → longest_match xs q ≡ list_any (λ x. in_range x q) xs
longest_alone xs q apart = each_alone xs xs q (each_beside xs apart)
