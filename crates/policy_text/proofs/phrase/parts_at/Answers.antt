use Rattle.route_types.proofs.Parts.{parts_cut}
use Rattle.policy_text.proofs.phrase.parts_at.Goals as goal

pub returns : goal.returns
returns c = parts_cut c.args.byte c.in_ok-place.place c.args.word.now c.in_ok-place.ensures
