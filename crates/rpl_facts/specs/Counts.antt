-- What the code keeps of the numbers of parameters.
use Rattle.std.specs.Prelude.{ℕ, Bool, false, ◌||◌, not, ◌==◌, Option, Some, None}
use Rattle.rpl_facts.specs.declared.counts.Count.{Count}

-- a policy has another number of parameters than this one
abbrev pub has_other : Option Count → ℕ → Bool
has_other None n = false
has_other (Some c) n = c.differs || not (c.first == n)
