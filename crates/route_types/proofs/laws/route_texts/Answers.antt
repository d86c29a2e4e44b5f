use Rattle.route_types.proofs.RoutePrinted.{route_printed}
use Rattle.route_types.proofs.RouteRange.{spelled_in_range}
use Rattle.route_types.proofs.RouteSpelled.{route_found, route_again, route_refused, route_unique, spelled_or_refused, not_both_of, refused_once}
use Rattle.route_types.proofs.laws.route_texts.Goals as goal

pub returns-clause-printed : goal.returns-clause-printed
returns-clause-printed c = route_printed

pub returns-clause-one_route : goal.returns-clause-one_route
returns-clause-one_route c = route_unique

pub returns-clause-in_range : goal.returns-clause-in_range
returns-clause-in_range c = spelled_in_range

pub returns-clause-either : goal.returns-clause-either
returns-clause-either c = spelled_or_refused

pub returns-clause-not_both : goal.returns-clause-not_both
returns-clause-not_both c = not_both_of

pub returns-clause-one_line : goal.returns-clause-one_line
returns-clause-one_line c = refused_once

pub returns-clause-found : goal.returns-clause-found
returns-clause-found c = route_found

pub returns-clause-only : goal.returns-clause-only
returns-clause-only c = route_again

pub returns-clause-refused : goal.returns-clause-refused
returns-clause-refused c = route_refused
