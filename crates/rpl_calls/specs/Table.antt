-- What the code keeps of where parameters stand in a list of parameters.
use Rattle.std.specs.Prelude.{◌≡◌, ℕ, ◌<◌, List, Option, Some, None, slice_get, length}
use Rattle.std.specs.Borrow.{Bor}
use Rattle.std.specs.Ordering.{nat_cmp, ordering_then}
use Rattle.std.specs.Cmp.Lexicographic.{slice_cmp}
use Rattle.std.specs.BTreeMap.{BTreeMap, get_by}
use Rattle.rpl_calls.specs.Parameters.{ParameterParts, last_below, earlier_of}
use Rattle.rpl_calls.specs.declared.parameters.Parameter.{Parameter}
use Rattle.rpl_calls.specs.declared.table.Table.{Table}

-- a parameter as clauses see it
abbrev pub parameter_parts : Parameter → ParameterParts
parameter_parts p = record { policy = p.policy.now; place = p.place }

abbrev pub parameter_in : Option Parameter → Option ParameterParts
parameter_in None = None
parameter_in (Some p) = Some (parameter_parts p)

-- what stands under a parameter
abbrev pub under_parameter : BTreeMap (Bor (List ℕ) × ℕ) ℕ → ParameterParts → Option ℕ
under_parameter m p = get_by (λ k. ordering_then (slice_cmp nat_cmp p.policy k.0.now) (nat_cmp p.place k.1)) m

-- the table tells of the first n of the list
pub record IsTable (ps : List (Option ParameterParts)) (table : Table) (n : ℕ) : Type 0 where
  pub last : (p : ParameterParts) → under_parameter table.last.entries p ≡ last_below p ps n
  pub earlier : (m : ℕ) → m < n → slice_get table.earlier.items m ≡ Some (earlier_of ps m)
  pub count : length table.earlier.items ≡ n

-- what is kept at a place
abbrev pub kept_at : List (Option ℕ) → ℕ → Option ℕ
kept_at kept n = elim (slice_get kept n) [ None ↦ None | Some o ↦ o ]
