use Rattle.aspath_text.specs.IosRead.{piece_in, parts_by}
use Rattle.aspath_text.specs.IosWalk.{parts_behind}
use Rattle.aspath_text.proofs.IosReadParts.{parts_fault, parts_read}
use Rattle.aspath_text.proofs.ios_read.pieces.Goals as goal

pub returns-in-Err : goal.returns-in-Err
returns-in-Err c = parts_fault piece_in (parts_by 95 0 c.args.text.now) c.first_part.result.0.now (parts_behind 95 c.first_part.result.1.now) c.in-Err.fault c.first_part.ensures c.in-Err.ensures

pub returns : goal.returns
returns c =
    parts_read piece_in (parts_by 95 0 c.args.text.now) c.first_part.result.0.now (parts_behind 95 c.first_part.result.1.now) c.in-Ok.piece c.new-found.result c.push.new.self c.later_pieces.result c.first_part.ensures c.in-Ok.ensures c.new-found.ensures c.in_ok-push-in-Ok.ensures c.later_pieces.ensures
