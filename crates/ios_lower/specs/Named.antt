-- What stands under the names of lists, in the order in which it is tried.
use Rattle.std.specs.Prelude.{ℕ, List, [], Option, Some, None, Vec, map}
use Rattle.std.specs.Option.{option_map_or}
use Rattle.std.specs.Borrow.{Bor}
use Rattle.std.specs.Ordering.{nat_cmp}
use Rattle.std.specs.Cmp.Lexicographic.{slice_cmp}
use Rattle.std.specs.BTreeMap.{BTreeMap, get_by}
use Rattle.std.specs.declared.alloc.Global.{Global}

-- values under the names of their lists
abbrev pub Listed : Type 0 → Type 0
Listed T = BTreeMap (Bor (List ℕ)) (Vec T Global)

-- the values under a name: none where nothing stands there
abbrev pub under : {T : Type 0} → Listed T → List ℕ → List T
under m q = option_map_or (λ v. v.items) (get_by (λ k. slice_cmp nat_cmp q k.now) m) []

-- the values under a name are such, if something stands there
abbrev pub IfThere : {T : Type 0} → (List T → Type 0) → Option (Vec T Global) → Type 0
IfThere P (Some v) = P v.items
IfThere P None = Unit {0}

abbrev pub IfUnder : {T : Type 0} → (List T → Type 0) → Listed T → List ℕ → Type 0
IfUnder P m q = IfThere P (get_by (λ k. slice_cmp nat_cmp q k.now) m)

-- entries that are lent, under the names of their lists
abbrev pub Named : Type 0 → Type 0
Named E = Listed (Bor E)

-- the entries under a name
abbrev pub entries_under : {E : Type 0} → Named E → List ℕ → List E
entries_under m q = option_map_or (λ v. map (λ e. e.now) v.items) (get_by (λ k. slice_cmp nat_cmp q k.now) m) []
