use Rattle.std.proofs.Common.{◌≡◌, ◌||◌, ℕ, List, length}
use Rattle.std.specs.List.{list_any, AllByRecursion}
use Rattle.path_patterns.specs.Items.{IsPath}
use Rattle.junos_plans.specs.Conditions.{text_matches}
use Rattle.junos_plans.specs.Entries.{branch_matches}
use Rattle.junos_plans.specs.Fits.{FitsText}
use Rattle.junos_plans.proofs.paths.pattern_texts.Given as goal

abbrev pub invariant-loop-rest : goal.invariant-loop-rest
invariant-loop-rest l = record {
  holds : (path : List ℕ) → IsPath path → (list_any (λ t. text_matches t path) l.texts || list_any (λ b. branch_matches b path) l.rest) ≡ list_any (λ b. branch_matches b path) l.branches;
  fits : AllByRecursion FitsText l.texts;
}

abbrev pub decreases-loop-rest : goal.decreases-loop-rest
decreases-loop-rest l = length l.rest
