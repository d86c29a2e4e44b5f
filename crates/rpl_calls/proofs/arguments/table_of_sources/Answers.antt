use Rattle.std.proofs.Common.{sym, ap, ◌∙◌, Option, Some, arith}
use Rattle.rpl_calls.specs.Arguments.{sources}
use Rattle.rpl_calls.specs.Listed.{handings_in}
use Rattle.rpl_calls.specs.Parameters.{ParameterParts}
use Rattle.rpl_calls.proofs.Listing.{source_at, sources_long}
use Rattle.rpl_calls.proofs.arguments.table_of_sources.Goals as goal

pub loop-place-init : goal.loop-place-init
loop-place-init c = record { within = omega arith; told = c.new-table.ensures (sources (handings_in c.args.arguments.now)) }

pub loop-place-preserved : goal.loop-place-preserved
loop-place-preserved c = record {
  within = omega arith;
  told = c.in_ok-add.ensures (sources (handings_in c.args.arguments.now)) c.loop-place.place c.loop-place.invariant.told
      (source_at c.args.arguments.now c.loop-place.place c.index-arguments-place.result c.loop-place-test.true c.index-arguments-place.is ∙ ap (λ (p : Option ParameterParts). Some p) (sym c.handed_at.ensures));
}

pub returns : goal.returns
returns c = sources_long c.args.arguments.now c.loop-place.table c.loop-place.place c.loop-place.invariant.within c.loop-place-test.false c.loop-place.invariant.told
