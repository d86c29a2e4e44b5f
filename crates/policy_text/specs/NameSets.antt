-- Sets of names, each with the number of its sort and a number of its own, as tests.
use Rattle.std.specs.Prelude.{ℕ, Bool, ◌&&◌, ◌==◌, List, bytes_eq}
use Rattle.std.specs.List.{list_any}
use Rattle.std.specs.Ordering.{is_eq, nat_cmp, ordering_then}
use Rattle.std.specs.Cmp.Lexicographic.{slice_cmp}
use Rattle.std.specs.BTreeSet.{BTreeSet}
use denote.Ref.{Bor}

-- the set has this name with this sort and this number
abbrev pub has_name : BTreeSet (Bor (List ℕ) × ℕ × ℕ) → List ℕ → ℕ → ℕ → Bool
has_name s name sort number = list_any (λ k. is_eq (ordering_then (ordering_then (slice_cmp nat_cmp name k.0.now) (nat_cmp sort k.1)) (nat_cmp number k.2))) s.keys

-- the name, the sort and the number are these
abbrev pub is_key : List ℕ → ℕ → ℕ → List ℕ → ℕ → ℕ → Bool
is_key name sort number other other_sort other_number = (number == other_number) && (sort == other_sort) && bytes_eq name other
