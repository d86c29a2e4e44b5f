use Rattle.std.proofs.Common.{◌≡◌, ◌++◌, subst, ℕ, List}
use Rattle.std.specs.Prelude.{IfOk}
use Rattle.rpl_text.proofs.Texts.{branch_line}
use Rattle.rpl_text.proofs.statements.push_branch.Goals as goal

pub returns : goal.returns
returns c =
    subst (λ (t : List ℕ). IfOk c.push_then.result (λ _. c.push_then.new.out.items ≡ c.args.out.now.items ++ t)) (branch_line c.args.key.now c.args.terms.now c.in_ok-condition.condition c.in_ok-condition.ensures) c.push_then.ensures
