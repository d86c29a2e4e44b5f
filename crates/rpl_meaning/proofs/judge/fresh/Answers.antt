use Rattle.std.proofs.Common.{ap}
use Rattle.route_types.specs.Route.{RouteParts}
use Rattle.rpl_meaning.specs.Communities.{stepped}
use Rattle.rpl_meaning.proofs.judge.fresh.Goals as goal

pub returns : goal.returns
returns c = λ p. ap (λ (r : RouteParts). record { ticket = p.state.ticket; route = r }) (c.none.ensures stepped p.table p.state.route)
