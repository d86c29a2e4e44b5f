-- Blocks of addresses that rise don't meet, so of their prefixes none contains another.
use Rattle.std.proofs.Common.{◌≡◌, refl, ap, subst, ℕ, ◌+◌, ◌-◌, ◌*◌, ◌/◌, ◌%◌, ◌^◌, ◌≤◌, ◌<◌, Bool, true, false, ◌&&◌, ◌||◌, List, [], ◌∷◌, map, arith}
use Rattle.std.specs.Prelude.{◌==◌, nat_le, nat_lt}
use Rattle.std.specs.List.{All, AllByRecursion, IsDistinct}
use Rattle.std.specs.List.Sorted.{IsPermutation}
use Rattle.std.proofs.lemmas.Bool.{and_parts, eqb-true, false_from_ne_true}
use Rattle.std.proofs.lemmas.Bool.Decides.{nat_tests}
use Rattle.std.proofs.lemmas.List.Elements.{All-head, All-tail}
use Rattle.std.proofs.lemmas.List.Sorted.{All-permutation, IsPermutation-map, IsPermutation-sym}
use Rattle.std.proofs.lemmas.Map.Keys.{IsDistinct-IsPermutation}
use Rattle.std.proofs.lemmas.Nat.{div-add-mod', pow_pos}
use Rattle.route_types.specs.Address.{PrefixParts, IsMasked, contains, same_family, width}
use Rattle.route_types.specs.declared.address.Family.{Family}
use Rattle.prefix_sets.specs.Range.{RangeParts}
use Rattle.junos_plans.specs.Apart.{meets, AreApart, IsBlock, rise_from}
use Rattle.junos_plans.specs.Fits.{FitsRange, FitsCondition}
use Rattle.junos_plans.specs.declared.apart.Block.{Block}
use Rattle.junos_plans.specs.declared.condition.PlannedCondition.TheVariants.{Destination}

-- two numbers in one block of a size are less than the size apart, where the first is at the start of the block
near : (p q size : ℕ) → 0 < size → p % size ≡ 0 → p / size ≡ q / size → q < p + size
near p q size some masked same =
    let first = div-add-mod' p size in
    let second = div-add-mod' q size in
    let block : p / size * size ≡ q / size * size = ap (λ (k : ℕ). k * size) same in
    let rest : q % size < size = omega (arith, some) in
    omega (arith, first, second, block, rest, masked)

above : (p q size : ℕ) → q % size ≡ 0 → q / size ≡ p / size → q ≤ p
above p q size masked same =
    let first = div-add-mod' p size in
    let second = div-add-mod' q size in
    let block : q / size * size ≡ p / size * size = ap (λ (k : ℕ). k * size) same in
    omega (arith, first, second, block, masked)

-- the size of a block
abbrev size_of : PrefixParts → ℕ
size_of p = 2 ^ (width p.address.family - p.length)

one_block : (p q : PrefixParts) → contains p q ≡ true → p.address.bits / size_of p ≡ q.address.bits / size_of p
one_block p q e = eqb-true (p.address.bits / size_of p) (q.address.bits / size_of p) (and_parts (same_family p.address.family q.address.family && nat_le p.length q.length) (p.address.bits / size_of p == q.address.bits / size_of p) e).1

-- the addresses of one prefix end before those of the other
abbrev EndsBefore : PrefixParts → PrefixParts → Type 0
EndsBefore p q = p.address.bits + size_of p ≤ q.address.bits

not_within : (p q : PrefixParts) → IsMasked p.address p.length → EndsBefore p q → contains p q ≡ false
not_within p q masked behind = false_from_ne_true (contains p q) (λ e.
    let k = near p.address.bits q.address.bits (size_of p) (pow_pos (width p.address.family - p.length)) masked.masked (one_block p q e) in
    absurd (omega (arith, k, behind)))

not_around : (p q : PrefixParts) → IsMasked q.address q.length → EndsBefore p q → contains q p ≡ false
not_around p q masked behind = false_from_ne_true (contains q p) (λ e.
    let k = above p.address.bits q.address.bits (size_of q) masked.masked (one_block q p e) in
    let some = pow_pos (width p.address.family - p.length) in
    absurd (omega (arith, k, behind, some)))

none_of : (a b : Bool) → a ≡ false → b ≡ false → (a || b) ≡ false
none_of false b e f = f
none_of true b e f = absurd cc

blocks_apart : (b c : Block) → IsBlock b → IsBlock c → b.past ≤ c.first → meets b.range c.range ≡ false
blocks_apart b c h k behind =
    let size : size_of b.range.prefix ≡ 2 ^ (32 - b.range.prefix.length) = ap (λ (f : Family). 2 ^ (width f - b.range.prefix.length)) h.family in
    let one = h.first in
    let two = h.past in
    let three = k.first in
    let before : EndsBefore b.range.prefix c.range.prefix = omega (arith, behind, size, one, two, three) in
    none_of (contains b.range.prefix c.range.prefix) (contains c.range.prefix b.range.prefix)
    (not_within b.range.prefix c.range.prefix h.masked before) (not_around b.range.prefix c.range.prefix k.masked before)

-- ---- blocks that rise

not_below : (n m : ℕ) → nat_lt n m ≡ false → m ≤ n
not_below n m e = grind (arith, nat_tests)

risen : (below rest : Bool) → (elim below [ true ↦ false | false ↦ rest ]) ≡ true → (below ≡ false) × (rest ≡ true)
risen true rest e = absurd cc
risen false rest e = (refl, e)

ends_behind : (b : Block) → IsBlock b → b.first ≤ b.past
ends_behind b h = let two = h.past in omega (arith, two)

-- all blocks start at or behind this
all_above : (n past : ℕ) (bs : List Block) → n ≤ past → All IsBlock bs → rise_from past bs ≡ true → AllByRecursion (λ b. IsBlock b × (n ≤ b.first)) bs
unfolding rise_from
all_above n past [] le h e = tt
all_above n past (b ∷ bs) le h e =
    let parts = risen (nat_lt b.first past) (rise_from b.past bs) e in
    let here = All-head IsBlock b bs h in
    let at = not_below b.first past parts.0 in
    let to = ends_behind b here in
    ((here, omega (arith, le, at)), all_above n b.past bs (omega (arith, le, at, to)) (All-tail IsBlock b bs h) parts.1)

none_meets : (b : Block) (cs : List Block) → IsBlock b → AllByRecursion (λ c. IsBlock c × (b.past ≤ c.first)) cs → AllByRecursion (λ y. meets b.range y ≡ false) (map (λ c. c.range) cs)
none_meets b [] h k = tt
none_meets b (c ∷ cs) h k = (blocks_apart b c h k.0.0 k.0.1, none_meets b cs h k.1)

blocks_distinct : (past : ℕ) (bs : List Block) → All IsBlock bs → rise_from past bs ≡ true → AreApart (map (λ b. b.range) bs)
unfolding rise_from IsDistinct
blocks_distinct past [] h e = tt
blocks_distinct past (b ∷ bs) h e =
    let parts = risen (nat_lt b.first past) (rise_from b.past bs) e in
    let here = All-head IsBlock b bs h in
    let others = All-tail IsBlock b bs h in
    (none_meets b bs here (all_above b.past b.past bs (omega arith) others parts.1), blocks_distinct b.past bs others parts.1)

meets_flips : (x y : RangeParts) → meets x y ≡ meets y x
meets_flips x y = turned (contains x.prefix y.prefix) (contains y.prefix x.prefix) where
  turned : (a b : Bool) → (a || b) ≡ (b || a)
  turned true true = refl
  turned true false = refl
  turned false true = refl
  turned false false = refl

-- in whatever order the ranges stand
pub apart_from : (ranges : List RangeParts) (made sorted : List Block) → map (λ b. b.range) made ≡ ranges → All IsBlock made → IsPermutation made sorted → rise_from 0 sorted ≡ true → AreApart ranges
apart_from ranges made sorted are blocks moved rises =
    let apart = blocks_distinct 0 sorted (All-permutation IsBlock made sorted moved blocks) rises in
    subst AreApart are
    (IsDistinct-IsPermutation meets meets_flips (map (λ b. b.range) sorted) (map (λ b. b.range) made)
    (IsPermutation-map (λ b. b.range) sorted made (IsPermutation-sym made sorted moved)) apart)

-- a range alone
pub alone_fits : (x : RangeParts) → FitsRange x → FitsCondition (Destination (x ∷ []))
unfolding IsDistinct
alone_fits x h = ((omega arith, (h, tt)), (tt, tt))
