use Rattle.std.proofs.Common.{◌∙◌, ◌++◌, ap, sym, List}
use Rattle.rpl_words.specs.declared.condition.Term.{Term}
use Rattle.std.proofs.Common.{map}
use Rattle.rpl_words.specs.declared.condition.Term.TheVariants.{Or}
use Rattle.rpl_plans.specs.declared.choice.PlannedTerm.{PlannedTerm}
use Rattle.rpl_layout.specs.Guards.{term_condition}
use Rattle.rpl_policies.specs.Postfix.{each_before}
use Rattle.rpl_policies.specs.Names.{writing}
use Rattle.rpl_policies.proofs.Postfix.{terms_terms}
use Rattle.rpl_policies.proofs.Rows.{put_then}
use Rattle.rpl_policies.proofs.guards.push_terms.Goals as goal

pub returns : goal.returns
returns c =
    let later = c.in_ok-push_later_terms.ensures ∙ ap (λ (us : List PlannedTerm). c.push_term_alone.new.out ++ each_before Or (map (λ u. term_condition (writing c.args.names.now) u) us)) c.as_slice.ensures in
    put_then _ _ _ _ _ c.in_ok-push_term_alone.ensures later
    ∙ ap (λ (ts : List Term). c.args.out.now ++ ts) (sym (terms_terms (writing c.args.names.now) c.args.terms.now.first c.args.terms.now.others))
