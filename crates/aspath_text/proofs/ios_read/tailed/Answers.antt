use Rattle.std.proofs.Common.{sym}
use Rattle.std.proofs.lemmas.List.{length-take-le}
use Rattle.aspath_text.proofs.IosReadParts.{no_set, no_tails, set_and_tails}
use Rattle.aspath_text.proofs.ios_read.tailed.Goals as goal

pub slice_bounds-set-end : goal.slice_bounds-set-end
slice_bounds-set-end c = sym (length-take-le c.set_length-length.result c.args.text.now c.set_length-length.ensures.within)

pub returns-in-Err : goal.returns-in-Err
returns-in-Err c = no_set c.set_length-length.result c.args.text.now c.in-Err.fault c.set_length-length.ensures.value c.in-Err.ensures

pub returns-in-Err-tails : goal.returns-in-Err-tails
returns-in-Err-tails c = no_tails c.set_length-length.result c.args.text.now c.in-Ok.words c.in-Err-tails.fault c.set_length-length.ensures.value c.in-Ok.ensures c.in-Err-tails.ensures

pub returns-in-Ok-tails : goal.returns-in-Ok-tails
returns-in-Ok-tails c = set_and_tails c.set_length-length.result c.args.text.now c.in-Ok.words c.in-Ok-tails.tails c.set_length-length.ensures.value c.in-Ok.ensures c.in-Ok-tails.ensures
