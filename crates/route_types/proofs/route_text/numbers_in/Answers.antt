use Rattle.std.proofs.Common.{sym}
use Rattle.route_types.specs.Words.{number_in}
use Rattle.route_types.proofs.Found.{first_found, first_not_found, all_found}
use Rattle.route_types.proofs.route_text.numbers_in.Goals as goal

pub loop-rest-preserved : goal.loop-rest-preserved
loop-rest-preserved c = first_found (number_in 4294967295) c.loop-rest.numbers c.push.new.self c.in-Some.number c.loop-rest.rest.now c.word-item.result c.as_slice.result.now _ c.in-len1-up.len_at_least c.word-item.is c.as_slice.ensures (sym c.in-Some.ensures) c.in_ok-push-in-Some.ensures c.loop-rest.invariant

pub returns-in-None : goal.returns-in-None
returns-in-None c = first_not_found (number_in 4294967295) c.loop-rest.numbers c.loop-rest.rest.now c.word-item.result c.as_slice.result.now _ c.in-len1-up.len_at_least c.word-item.is c.as_slice.ensures (sym c.in-None.ensures) c.loop-rest.invariant

pub returns : goal.returns
returns c = all_found (number_in 4294967295) c.loop-rest.numbers c.loop-rest.rest.now _ c.in_default.len_below c.loop-rest.invariant
