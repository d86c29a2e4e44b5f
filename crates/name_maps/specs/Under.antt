-- What stands in a map under names, of which each is lent.
use Rattle.std.specs.Prelude.{ℕ, List, Option, Some, None}
use Rattle.std.specs.Borrow.{Bor}
use Rattle.std.specs.Ordering.{nat_cmp}
use Rattle.std.specs.Cmp.Lexicographic.{slice_cmp}
use Rattle.std.specs.BTreeMap.{BTreeMap, get_by}

-- what stands under a name
abbrev pub under : {X : Type 0} → BTreeMap (Bor (List ℕ)) X → List ℕ → Option X
under m q = get_by (λ k. slice_cmp nat_cmp q k.now) m

-- of two values under one name the first one stays
abbrev pub first_of : {X : Type 0} → Option X → X → Option X
first_of (Some x) y = Some x
first_of None y = Some y
