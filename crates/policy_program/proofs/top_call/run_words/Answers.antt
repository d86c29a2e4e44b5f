-- the request that was read is accepted, and its answer is how the run ends
use Rattle.std.proofs.Common.{map, refl, ap, Err}
use Rattle.std.specs.String.{string_bytes}
use Rattle.policy_request.specs.Words.{request_view}
use Rattle.policy_program.specs.Ends.{by_words}
use Rattle.policy_request.specs.declared.command.WordsFault.{WordsFault}
use Rattle.policy_program.proofs.Endings.{ends_request}
use Rattle.policy_program.proofs.top_call.run_words.Goals as goal

pub returns-in-Ok : goal.returns-in-Ok
returns-in-Ok g c =
    ends_request (map string_bytes c.args.words.now) (request_view c.in-Ok.request)
    (record { before = g.S.Shelf.seen c.args.shelf.now; now = g.S.Shelf.seen c.answer_request.new.shelf })
    (record { before = g.O.Sink.seen c.args.out.now; now = g.O.Sink.seen c.answer_request.new.out })
    (record { before = g.E.Sink.seen c.args.err.now; now = g.E.Sink.seen c.answer_request.new.err })
    c.answer_request.result c.in-Ok.ensures.accepted c.answer_request.ensures

pub returns-in-Err-Usage : goal.returns-in-Err-Usage
returns-in-Err-Usage g c = by_words (c.in-Err-Usage.ensures.usage (ap (λ (fault : WordsFault). Err fault) c.in-Err-Usage.field-0-is)) refl (record { is = c.refuse_words.ensures.status; out_empty = refl; line_put = c.refuse_words.ensures.line })
