use Rattle.std.proofs.Common.{◌∙◌, ap, sym, ℕ, List}
use Rattle.std.specs.List.{list_any}
use Rattle.path_patterns.specs.PathMatches.{path_matches}
use Rattle.path_patterns.specs.declared.items.TokenBranch.{TokenBranch}
use Rattle.junos_plans.specs.Conditions.{text_matches}
use Rattle.junos_plans.specs.Entries.{branch_matches}
use Rattle.junos_plans.proofs.AtomLaws.{none_there}
use Rattle.junos_plans.proofs.paths.path_condition.Goals as goal

pub returns-then-is_empty-clause-says : goal.returns-then-is_empty-clause-says
unfolding path_matches
returns-then-is_empty-clause-says c path is =
    let none = none_there c.as_slice-2.result.now (sym c.is_empty.ensures ∙ c.if-is_empty.true) in
    sym (ap (λ (bs : List TokenBranch). list_any (λ b. branch_matches b path) bs) c.as_slice.ensures)
    ∙ sym (c.in_ok-texts.ensures.holds path is)
    ∙ ap (λ (ts : List (List ℕ)). list_any (λ t. text_matches t path) ts) (sym c.as_slice-2.ensures ∙ none)

pub returns-clause-says : goal.returns-clause-says
unfolding path_matches
returns-clause-says c r is =
    c.in_ok-texts.ensures.holds r.path is
    ∙ ap (λ (bs : List TokenBranch). list_any (λ b. branch_matches b r.path) bs) c.as_slice.ensures
