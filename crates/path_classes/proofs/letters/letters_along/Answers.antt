use Rattle.path_classes.proofs.LetterLaws.{one_more, all_lettered}
use Rattle.path_classes.proofs.letters.letters_along.Goals as goal

pub loop-rest-preserved : goal.loop-rest-preserved
loop-rest-preserved c =
    let added = c.in_ok-letter_of.ensures c.loop-rest.invariant.told in
    let more = one_more c.args.lines.now c.args.ends.now c.loop-rest.numbers c.letter_of.new.numbers c.loop-rest.letters c.push.new.self c.loop-rest.rest.now c.letter_of.new.rows.keys c.in_ok-letter_of.field-0
    c.in-len1-up.len_at_least (record { lettered = c.loop-rest.invariant.lettered; rest_is = c.loop-rest.invariant.rest }) added c.in_ok-push.ensures in
    record { told = added.told; lettered = more.lettered; rest = more.rest_is }

pub returns : goal.returns
returns c = all_lettered c.args.lines.now c.args.ends.now c.loop-rest.numbers c.loop-rest.letters c.loop-rest.rest.now c.in_default.len_below
    (record { lettered = c.loop-rest.invariant.lettered; rest_is = c.loop-rest.invariant.rest }) c.loop-rest.invariant.told.in_range
