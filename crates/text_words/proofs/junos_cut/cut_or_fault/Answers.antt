use Rattle.text_words.proofs.JunosGiven.{stops_at}
use Rattle.text_words.proofs.junos_cut.cut_or_fault.Goals as goal

pub returns-in-Err : goal.returns-in-Err
returns-in-Err c = stops_at _ _ _ c.loop-rest.rest.now _ _ c.in-len1-up.len_at_least c.loop-rest.invariant.found c.in-Err.ensures.takes
