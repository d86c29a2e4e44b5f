use Rattle.aspath_text.specs.IosRead.{branch_in, parts_by, ios_pattern_in}
use Rattle.aspath_text.specs.IosWalk.{parts_behind}
use Rattle.aspath_text.proofs.IosReadParts.{parts_fault, parts_read}
use Rattle.aspath_text.proofs.ios_read.branches.Goals as goal

pub returns-in_Err-branch : goal.returns-in_Err-branch
unfolding ios_pattern_in
returns-in_Err-branch c = parts_fault branch_in (parts_by 124 0 c.args.text.now) c.first_part.result.0.now (parts_behind 124 c.first_part.result.1.now) c.in_Err-branch.fault c.first_part.ensures c.in_Err-branch.ensures

pub returns : goal.returns
unfolding ios_pattern_in
returns c =
    parts_read branch_in (parts_by 124 0 c.args.text.now) c.first_part.result.0.now (parts_behind 124 c.first_part.result.1.now) c.in_Ok-branch.branch c.new-found.result c.push.new.self c.later_branches.result c.first_part.ensures c.in_Ok-branch.ensures c.new-found.ensures c.in_ok-push-in_Ok-branch.ensures c.later_branches.ensures
