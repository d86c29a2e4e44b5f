use Rattle.route_types.proofs.Parts.{parts_cut}
use Rattle.route_types.proofs.words.parts.Goals as goal

pub returns : goal.returns
returns c = parts_cut c.args.byte c.in_ok-place.place c.args.word.now c.in_ok-place.ensures
