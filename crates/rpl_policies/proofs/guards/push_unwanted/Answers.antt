use Rattle.std.proofs.Common.{◌∙◌, [], ◌∷◌, ◌++◌, ap, sym, List}
use Rattle.rpl_words.specs.Conditions.{terms_of}
use Rattle.rpl_words.specs.declared.condition.Term.TheVariants.{Group, Not}
use Rattle.rpl_layout.specs.Guards.{terms_condition}
use Rattle.rpl_words.specs.declared.condition.Term.{Term}
use Rattle.rpl_policies.specs.Names.{writing}
use Rattle.rpl_plans.specs.declared.choice.PlannedTerm.{PlannedTerm}
use Rattle.rpl_plans.specs.declared.test.PlannedTest.{PlannedTest}
use Rattle.rpl_policies.specs.Postfix.{is_lone}
use Rattle.rpl_policies.proofs.Postfix.{grouped_terms}
use Rattle.rpl_policies.proofs.Rows.{put_then}
use Rattle.rpl_policies.proofs.guards.push_unwanted.Goals as goal

pub returns : goal.returns
returns c =
    let lone =
    ap (λ (ds : List PlannedTest). is_lone ds c.args.terms.now.others) (sym c.as_slice.ensures)
    ∙ ap (λ (ts : List PlannedTerm). is_lone c.as_slice.result.now ts) (sym c.as_slice-2.ensures)
    ∙ sym c.if-is_lone.ensures
    in
    put_then c.args.out.now c.push_terms.new.out c.push-2.new.self (terms_of (terms_condition (writing c.args.names.now) c.args.terms.now.first c.args.terms.now.others)) (Group ∷ Not ∷ []) c.in_ok-push_terms.ensures
    (put_then c.push_terms.new.out c.push.new.self c.push-2.new.self (Group ∷ []) (Not ∷ []) c.in_ok-push.ensures c.in_ok-push-2.ensures)
    ∙ ap (λ (ts : List Term). c.args.out.now ++ ts) (sym (grouped_terms (writing c.args.names.now) c.args.terms.now.first c.args.terms.now.others lone))
