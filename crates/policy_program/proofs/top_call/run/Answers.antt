-- each clause follows from how the run ends
use Rattle.std.proofs.Common.{map}
use Rattle.std.specs.String.{string_bytes}
use Rattle.policy_program.specs.Ends.{Shelves, Sinks}
use Rattle.policy_program.proofs.Ended.{headline, complete, exact}
use Rattle.policy_program.proofs.top_call.run.Goals as goal

pub returns : goal.returns
returns g c =
    let words = map string_bytes c.args.words.now in
    let shelf : Shelves = record { before = g.S.Shelf.seen c.args.shelf.now; now = g.S.Shelf.seen c.run_words.new.shelf } in
    let out : Sinks = record { before = g.O.Sink.seen c.args.out.now; now = g.O.Sink.seen c.run_words.new.out } in
    let err : Sinks = record { before = g.E.Sink.seen c.args.err.now; now = g.E.Sink.seen c.run_words.new.err } in
    record {
      headline = headline words shelf out err c.run_words.result c.run_words.ensures;
      complete = complete words shelf out err c.run_words.result c.run_words.ensures;
      exact = exact words shelf out err c.run_words.result c.run_words.ensures;
      ends = c.run_words.ensures;
    }
