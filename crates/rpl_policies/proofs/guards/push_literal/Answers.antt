use Rattle.std.proofs.Common.{◌∙◌, ◌++◌, ap, sym, List}
use Rattle.rpl_words.specs.declared.condition.Term.{Term}
use Rattle.rpl_policies.specs.Names.{writing}
use Rattle.rpl_policies.proofs.Postfix.{among_terms}
use Rattle.rpl_policies.proofs.Rows.{put_then}
use Rattle.rpl_policies.proofs.guards.push_literal.Goals as goal

pub returns : goal.returns
returns c =
    put_then _ _ _ _ _ c.in_ok-push_unwanted.ensures c.in_ok-push_and.ensures
    ∙ ap (λ (ts : List Term). c.args.out.now ++ ts) (sym (among_terms (writing c.args.names.now) c.args.joined c.args.literal.now c.if-literal.false))
