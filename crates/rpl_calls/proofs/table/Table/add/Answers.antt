use Rattle.std.proofs.Common.{◌≡◌, refl, ap, ◌∙◌, ℕ, Option, Some, true, false, length, arith}
use Rattle.step_search.proofs.Tables.{nothing_left}
use Rattle.rpl_calls.specs.Parameters.{ParameterParts, is_parameter}
use Rattle.rpl_calls.specs.Table.{parameter_parts, parameter_in, under_parameter}
use Rattle.rpl_calls.specs.declared.parameters.Parameter.{Parameter}
use Rattle.rpl_calls.proofs.Tables.{added, none_added}
use Rattle.rpl_calls.proofs.table.Table.add.Goals as goal

pub returns-in_default : goal.returns-in_default
returns-in_default c = λ ps n told is.
    none_added ps n c.args.self.now _ told (is ∙ ap (λ (o : Option Parameter). Some (parameter_in o)) (nothing_left c.args.parameter c.in_default.not-Some)) (λ p. refl) c.in_ok-push.ensures.items

pub returns : goal.returns
returns c =
    let place : c.len-place.result ≡ length c.args.self.now.earlier.items = omega (arith, c.len-place.ensures, c.args.self.now.earlier.ok) in
    let one : ParameterParts = parameter_parts c.in-Some.parameter in
    λ ps n told is.
    added ps n c.args.self.now _ (Some one) told (is ∙ ap (λ (o : Option Parameter). Some (parameter_in o)) c.in-Some.is) c.get.result (c.get.ensures ∙ told.last one) c.in_ok-push-2.ensures.items
    (λ q. c.in_ok-put.ensures q ∙ ap (λ (k : ℕ). elim (is_parameter q (Some one)) [ true ↦ Some k | false ↦ under_parameter c.args.self.now.last.entries q ]) place)
