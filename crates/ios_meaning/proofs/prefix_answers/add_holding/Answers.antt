use Rattle.std.proofs.Common.{sym, ap, ◌∙◌, Bool, true, false, Some}
use Rattle.ios_meaning.specs.Answers.{lower, held_at}
use Rattle.ios_meaning.specs.declared.prefix_answers.Deciding.{Deciding}
use Rattle.ios_meaning.proofs.Maps.{put_at}
use Rattle.ios_meaning.proofs.prefix_answers.add_holding.Goals as goal

pub returns : goal.returns
returns c =
    let deciding : Deciding = record { number = c.args.entry.now.number; permit = c.args.entry.now.entry.permit } in
    let first = ap (λ (b : Bool). elim b [ true ↦ Some deciding | false ↦ held_at c.args.found.now c.args.entry.now.list ]) (sym c.comes_first.ensures ∙ c.if-not-comes_first.false) in
    put_at c.args.found.now c.put.new.self c.as_slice.result.now c.args.entry.now.list deciding (lower c.args.entry.now) c.as_slice.ensures c.in_ok-put.ensures first
