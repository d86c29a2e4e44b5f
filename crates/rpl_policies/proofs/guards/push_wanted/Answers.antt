use Rattle.std.proofs.Common.{◌∙◌, [], ◌∷◌, ◌++◌, ap, sym, List}
use Rattle.rpl_words.specs.Conditions.{terms_of}
use Rattle.rpl_words.specs.declared.condition.Term.TheVariants.{Group}
use Rattle.rpl_layout.specs.Guards.{terms_condition}
use Rattle.rpl_words.specs.declared.condition.Term.{Term}
use Rattle.rpl_policies.specs.Postfix.{and_where}
use Rattle.rpl_policies.specs.Names.{writing}
use Rattle.rpl_policies.proofs.Postfix.{wanted_terms}
use Rattle.rpl_policies.proofs.Rows.{put_then}
use Rattle.rpl_policies.proofs.guards.push_wanted.Goals as goal

pub returns : goal.returns
returns c =
    put_then c.args.out.now c.push_terms.new.out c.push_and.new.out (terms_of (terms_condition (writing c.args.names.now) c.args.terms.now.first c.args.terms.now.others)) (Group ∷ and_where c.args.joined) c.in_ok-push_terms.ensures
    (put_then c.push_terms.new.out c.push.new.self c.push_and.new.out (Group ∷ []) (and_where c.args.joined) c.in_ok-push.ensures c.in_ok-push_and.ensures)
    ∙ ap (λ (ts : List Term). c.args.out.now ++ ts) (sym (wanted_terms (writing c.args.names.now) c.args.joined c.args.terms.now.first c.args.terms.now.others (sym c.if-is_empty.ensures)))
