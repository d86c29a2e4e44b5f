use Rattle.std.proofs.Common.{◌≡◌, true, false, None}
use Rattle.path_patterns.specs.Counts.{is_above, is_nothing}
use Rattle.path_patterns.specs.WordItems.{first_number}
use Rattle.path_patterns.proofs.ItemWords.{becomes_never, becomes_absent, becomes_without}
use Rattle.path_patterns.proofs.word_item.item_words.Goals as goal

pub returns-then-is_above : goal.returns-then-is_above
returns-then-is_above c =
    let i = c.args.item.now in
    let e : is_above i.least i.most ≡ true = cc in
    becomes_never i e

pub returns-then-is_nothing : goal.returns-then-is_nothing
returns-then-is_nothing c =
    let i = c.args.item.now in
    let a : is_above i.least i.most ≡ false = cc in
    let e : is_nothing i.most ≡ true = cc in
    becomes_absent i a e

pub returns-in-None : goal.returns-in-None
returns-in-None c =
    let e : None ≡ first_number c.in_ok-ranges.ranges = cc in
    becomes_without c.args.item.now c.in_ok-ranges.ranges c.without_numbers.result c.without_numbers.ensures e c.in_ok-ranges.ensures.same.1
