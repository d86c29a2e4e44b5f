use Rattle.std.proofs.Common.{◌∙◌, sym}
use Rattle.aspath_text.proofs.IosReadRuns.{run_found}
use Rattle.aspath_text.proofs.ios_words.runs.Goals as goal

pub loop-rest-preserved : goal.loop-rest-preserved
loop-rest-preserved c = run_found c.loop-rest.found c.loop-rest.rest.now c.in_ok-bits.bits c.in_ok-bits.behind.now (sym c.in_ok-bits.ensures) ∙ c.loop-rest.invariant
