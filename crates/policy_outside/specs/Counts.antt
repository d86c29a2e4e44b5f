-- Counts that are u64s: when one has risen, and which call comes next.
use Rattle.std.specs.Prelude.{ℕ, ◌+◌, ◌-◌, ◌^◌, ◌≤◌, min, List, Bool, ◌==◌}
use Rattle.std.specs.List.{list_any}

-- a count rose, or stands at the last value of a u64
abbrev pub Rose : ℕ → ℕ → Type 0
Rose before now = min (before + 1) (2 ^ 64 - 1) ≤ now

-- a u64 one higher, or at its last value
abbrev pub raised : ℕ → ℕ
raised count = min (count + 1) (2 ^ 64 - 1)

-- whether the call that comes after so many is among those that are to fail; calls count from 1
abbrev pub next_fails : List ℕ → ℕ → Bool
next_fails failing calls = list_any (λ call. call == raised calls) failing
