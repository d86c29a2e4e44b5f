-- The items that are written for a count take what an item of that count takes, and can be written.
use Rattle.std.proofs.Common.{◌≡◌, refl, sym, ap, subst, ℕ, zero, suc, ◌+◌, ◌-◌, ◌*◌, ◌/◌, ◌%◌, ◌<◌, ◌≤◌, Bool, true, false, nat_le, if◌then◌else◌, List, [], ◌∷◌, ◌++◌, length, map, replicate, Option, Some, None, arith}
use Rattle.std.specs.List.{AllByRecursion}
use Rattle.std.proofs.lemmas.Bool.{leb-true, leb-false}
use Rattle.path_patterns.specs.Items.{Takes, AtMost, in_set, takes_of}
use Rattle.path_patterns.specs.SamePaths.{SamePaths}
use Rattle.path_patterns.specs.JunosItems.{HasNumbers, IsSmallBound, IsWritable, item_of, later_items, full_items, most_left, items_of}
use Rattle.path_patterns.specs.Counts.{both_most}
use Rattle.path_patterns.specs.declared.items.NumberRange.{NumberRange}
use Rattle.path_patterns.specs.declared.items.TokenItem.{TokenItem}
use Rattle.path_patterns.proofs.Lists.{all_append, all_copies, map_before}
use Rattle.path_patterns.proofs.TakesLaws.{takes_joined}
use Rattle.path_patterns.proofs.SamePaths.{same_refl, same_trans, same_behind_all}

-- what an item of these ranges and this count takes
abbrev pub turn : List NumberRange → ℕ → Option ℕ → Takes
turn rs least most = takes_of (item_of rs least most)

-- what items take, and then others
abbrev pub taking : List TokenItem → List Takes → List Takes
taking is ts = map takes_of is ++ ts

pub taking_both : (is js : List TokenItem) (ts : List Takes) → taking (is ++ js) ts ≡ taking is (taking js ts)
taking_both is js ts = map_before takes_of is js ts

-- two counts that are the same take alike
alike_turns : (rs : List NumberRange) (a b : ℕ) (u v : Option ℕ) (ts : List Takes) → a ≡ b → u ≡ v → SamePaths (turn rs a u ∷ ts) (turn rs b v ∷ ts)
alike_turns rs a b u v ts e f =
    subst (λ (n : ℕ). SamePaths (turn rs a u ∷ ts) (turn rs n v ∷ ts)) e (subst (λ (m : Option ℕ). SamePaths (turn rs a u ∷ ts) (turn rs a m ∷ ts)) f (same_refl (turn rs a u ∷ ts)))

alike_joined : (rs : List NumberRange) (a c : ℕ) (b d : Option ℕ) (ts : List Takes) → AtMost a b → AtMost c d → SamePaths (turn rs a b ∷ turn rs c d ∷ ts) (turn rs (a + c) (both_most b d) ∷ ts)
alike_joined rs a c b d ts h k path within = takes_joined (in_set (record { ranges = rs })) a c b d ts path h k

-- ---- copies

none_more : (m : Option ℕ) (y : ℕ) → both_most (Some (0 * y)) m ≡ m
none_more None y = refl
none_more (Some m) y = ap (λ (n : ℕ). Some n) (omega arith)

one_more : (p y : ℕ) (m : Option ℕ) → both_most (Some y) (both_most (Some (p * y)) m) ≡ both_most (Some (suc p * y)) m
one_more p y None = refl
one_more p y (Some m) = ap (λ (n : ℕ). Some n) (omega arith)

at_most_more : (a y r : ℕ) (m : Option ℕ) (p : ℕ) → p * a ≤ p * y → AtMost r m → AtMost (p * a + r) (both_most (Some (p * y)) m)
at_most_more a y r None p h k = tt
at_most_more a y r (Some m) p h k = omega (arith, h, k)

times_up : (p a y : ℕ) → a ≤ y → p * a ≤ p * y
times_up zero a y h = omega arith
times_up (suc p) a y h = omega (arith, times_up p a y h)

copies_alike : (rs : List NumberRange) (q a y r : ℕ) (m : Option ℕ) (ts : List Takes) → a ≤ y → AtMost r m → SamePaths (taking (replicate q (item_of rs a (Some y))) (turn rs r m ∷ ts)) (turn rs (q * a + r) (both_most (Some (q * y)) m) ∷ ts)
copies_alike rs zero a y r m ts h k = alike_turns rs r (0 * a + r) m (both_most (Some (0 * y)) m) ts (omega arith) (sym (none_more m y))
copies_alike rs (suc p) a y r m ts h k =
    same_trans
    (turn rs a (Some y) ∷ taking (replicate p (item_of rs a (Some y))) (turn rs r m ∷ ts))
    (turn rs a (Some y) ∷ turn rs (p * a + r) (both_most (Some (p * y)) m) ∷ ts)
    (turn rs (suc p * a + r) (both_most (Some (suc p * y)) m) ∷ ts)
    (same_behind_all (turn rs a (Some y) ∷ []) _ _ (copies_alike rs p a y r m ts h k))
    (same_trans
    (turn rs a (Some y) ∷ turn rs (p * a + r) (both_most (Some (p * y)) m) ∷ ts)
    (turn rs (a + (p * a + r)) (both_most (Some y) (both_most (Some (p * y)) m)) ∷ ts)
    (turn rs (suc p * a + r) (both_most (Some (suc p * y)) m) ∷ ts)
    (alike_joined rs a (p * a + r) (Some y) (both_most (Some (p * y)) m) ts h (at_most_more a y r m p (times_up p a y h) k))
    (alike_turns rs (a + (p * a + r)) (suc p * a + r) _ _ ts (omega arith) (one_more p y m)))

-- ---- a count that ends

abbrev pub ending_by : List NumberRange → ℕ → ℕ → Bool → List TokenItem
ending_by rs least most b =
    if b then item_of rs least (Some most) ∷ [] else item_of rs least (Some 255) ∷ (replicate ((most - 256) / 255) (item_of rs 0 (Some 255)) ++ (item_of rs 0 (Some ((most - 256) % 255 + 1)) ∷ []))

ending_alike_by : (rs : List NumberRange) (least most : ℕ) (ts : List Takes) (b : Bool) → nat_le most 255 ≡ b → least ≤ 255 → SamePaths (taking (ending_by rs least most b) ts) (turn rs least (Some most) ∷ ts)
ending_alike_by rs least most ts true e h = same_refl (turn rs least (Some most) ∷ ts)
ending_alike_by rs least most ts false e h =
    let p = (most - 256) / 255 in
    let s = (most - 256) % 255 + 1 in
    let over : 255 < most = leb-false most 255 e in
    subst (λ (us : List Takes). SamePaths (turn rs least (Some 255) ∷ us) (turn rs least (Some most) ∷ ts))
    (sym (taking_both (replicate p (item_of rs 0 (Some 255))) (item_of rs 0 (Some s) ∷ []) ts))
    (same_trans
    (turn rs least (Some 255) ∷ taking (replicate p (item_of rs 0 (Some 255))) (turn rs 0 (Some s) ∷ ts))
    (turn rs least (Some 255) ∷ turn rs (p * 0 + 0) (Some (p * 255 + s)) ∷ ts)
    (turn rs least (Some most) ∷ ts)
    (same_behind_all (turn rs least (Some 255) ∷ []) _ _ (copies_alike rs p 0 255 0 (Some s) ts (omega arith) (omega arith)))
    (same_trans
    (turn rs least (Some 255) ∷ turn rs (p * 0 + 0) (Some (p * 255 + s)) ∷ ts)
    (turn rs (least + (p * 0 + 0)) (Some (255 + (p * 255 + s))) ∷ ts)
    (turn rs least (Some most) ∷ ts)
    (alike_joined rs least (p * 0 + 0) (Some 255) (Some (p * 255 + s)) ts h (omega arith))
    (alike_turns rs (least + (p * 0 + 0)) least (Some (255 + (p * 255 + s))) (Some most) ts (omega arith) (ap (λ (n : ℕ). Some n) (omega (arith, over))))))

later_alike : (rs : List NumberRange) (least : ℕ) (most : Option ℕ) (ts : List Takes) → least ≤ 255 → SamePaths (taking (later_items rs least most) ts) (turn rs least most ∷ ts)
later_alike rs least None ts h = same_refl (turn rs least None ∷ ts)
later_alike rs least (Some most) ts h = ending_alike_by rs least most ts (nat_le most 255) refl h

-- ---- all of a count

left_at_most : (least : ℕ) (most : Option ℕ) (n : ℕ) → n ≤ least → AtMost least most → AtMost (least - n) (most_left most n)
left_at_most least None n h k = tt
left_at_most least (Some most) n h k = omega (arith, h, k)

left_and_taken : (most : Option ℕ) (n : ℕ) (least : ℕ) → n ≤ least → AtMost least most → both_most (Some n) (most_left most n) ≡ most
left_and_taken None n least h k = refl
left_and_taken (Some most) n least h k = ap (λ (m : ℕ). Some m) (omega (arith, h, k))

-- the items of a count take what an item of that count takes
pub items_alike : (rs : List NumberRange) (least : ℕ) (most : Option ℕ) (ts : List Takes) → AtMost least most → SamePaths (taking (items_of rs least most) ts) (turn rs least most ∷ ts)
unfolding items_of
items_alike rs least most ts h =
    let q = full_items least in
    let low : q * 255 ≤ least = omega arith in
    let small : least - q * 255 ≤ 255 = omega arith in
    subst (λ (us : List Takes). SamePaths us (turn rs least most ∷ ts))
    (sym (taking_both (replicate q (item_of rs 255 (Some 255))) (later_items rs (least - q * 255) (most_left most (q * 255))) ts))
    (same_trans
    (taking (replicate q (item_of rs 255 (Some 255))) (taking (later_items rs (least - q * 255) (most_left most (q * 255))) ts))
    (taking (replicate q (item_of rs 255 (Some 255))) (turn rs (least - q * 255) (most_left most (q * 255)) ∷ ts))
    (turn rs least most ∷ ts)
    (same_behind_all (map takes_of (replicate q (item_of rs 255 (Some 255)))) _ _ (later_alike rs (least - q * 255) (most_left most (q * 255)) ts small))
    (same_trans
    (taking (replicate q (item_of rs 255 (Some 255))) (turn rs (least - q * 255) (most_left most (q * 255)) ∷ ts))
    (turn rs (q * 255 + (least - q * 255)) (both_most (Some (q * 255)) (most_left most (q * 255))) ∷ ts)
    (turn rs least most ∷ ts)
    (copies_alike rs q 255 255 (least - q * 255) (most_left most (q * 255)) ts (omega arith) (left_at_most least most (q * 255) low h))
    (alike_turns rs (q * 255 + (least - q * 255)) least _ most ts (omega (arith, low)) (left_and_taken most (q * 255) least low h))))

-- ---- they can be written

-- ranges that make an item that can be written
abbrev pub AreGood : List NumberRange → Type 0
AreGood rs = (1 ≤ length rs) × AllByRecursion HasNumbers rs

writable : (rs : List NumberRange) (least : ℕ) (most : Option ℕ) → AreGood rs → least ≤ 255 → IsSmallBound least most → IsWritable (item_of rs least most)
writable rs least most good h k = record { some = good.0; ranges = good.1; least = h; most = k }

ending_writable_by : (rs : List NumberRange) (least most : ℕ) (b : Bool) → nat_le most 255 ≡ b → AreGood rs → least ≤ 255 → least ≤ most → AllByRecursion IsWritable (ending_by rs least most b)
ending_writable_by rs least most true e good h k = (writable rs least (Some most) good h (k, leb-true most 255 e), tt)
ending_writable_by rs least most false e good h k = (
  writable rs least (Some 255) good h (h, omega arith),
  all_append IsWritable (replicate ((most - 256) / 255) (item_of rs 0 (Some 255))) (item_of rs 0 (Some ((most - 256) % 255 + 1)) ∷ [])
      (all_copies IsWritable (item_of rs 0 (Some 255)) ((most - 256) / 255) (writable rs 0 (Some 255) good (omega arith) (omega arith, omega arith)))
      (writable rs 0 (Some ((most - 256) % 255 + 1)) good (omega arith) (omega arith, omega arith), tt),
)

later_writable : (rs : List NumberRange) (least : ℕ) (most : Option ℕ) → AreGood rs → least ≤ 255 → AtMost least most → AllByRecursion IsWritable (later_items rs least most)
later_writable rs least None good h k = (writable rs least None good h tt, tt)
later_writable rs least (Some most) good h k = ending_writable_by rs least most (nat_le most 255) refl good h k

-- the items of a count can be written
pub items_writable : (rs : List NumberRange) (least : ℕ) (most : Option ℕ) → AreGood rs → AtMost least most → AllByRecursion IsWritable (items_of rs least most)
unfolding items_of
items_writable rs least most good h =
    let q = full_items least in
    all_append IsWritable (replicate q (item_of rs 255 (Some 255))) (later_items rs (least - q * 255) (most_left most (q * 255)))
    (all_copies IsWritable (item_of rs 255 (Some 255)) q (writable rs 255 (Some 255) good (omega arith) (omega arith, omega arith)))
    (later_writable rs (least - q * 255) (most_left most (q * 255)) good (omega arith) (left_at_most least most (q * 255) (omega arith) h))
