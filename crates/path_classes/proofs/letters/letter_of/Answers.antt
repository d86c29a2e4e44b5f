use Rattle.std.proofs.Common.{◌∙◌, sym, true, false}
use Rattle.std.specs.Bool.{beq}
use Rattle.std.specs.Cmp.Lexicographic.{pointwise}
use Rattle.path_classes.proofs.Tells.{bits_tell, lists_tell}
use Rattle.path_classes.proofs.Keys.{put, stored_is}
use Rattle.path_classes.proofs.LetterLaws.{letter_added}
use Rattle.path_classes.proofs.letters.letter_of.Goals as goal

pub returns-in_ok-push : goal.returns-in_ok-push
returns-in_ok-push c =
    letter_added c.args.lines.now c.args.rows.now.keys c.insert_full.new.self.keys c.args.numbers.now c.push.new.self c.args.number c.in_ok-letter.letter c.in_ok-row.row true
    c.in_ok-row.ensures c.ranges.number.fits
    (put (pointwise beq) c.args.rows.now.keys c.insert_full.new.self.keys c.in_ok-row.row true c.in_ok-letter.ensures.keys (sym c.if-is_new.true ∙ c.in_ok-letter.ensures.added))
    (stored_is (pointwise beq) (lists_tell beq bits_tell) c.insert_full.new.self.keys c.in_ok-row.row c.in_ok-letter.letter c.in_ok-letter.ensures.stored)
    c.in_ok-push.ensures

pub returns-else-is_new : goal.returns-else-is_new
returns-else-is_new c =
    letter_added c.args.lines.now c.args.rows.now.keys c.insert_full.new.self.keys c.args.numbers.now c.args.numbers.now c.args.number c.in_ok-letter.letter c.in_ok-row.row false
    c.in_ok-row.ensures c.ranges.number.fits
    (put (pointwise beq) c.args.rows.now.keys c.insert_full.new.self.keys c.in_ok-row.row false c.in_ok-letter.ensures.keys (sym c.if-is_new.false ∙ c.in_ok-letter.ensures.added))
    (stored_is (pointwise beq) (lists_tell beq bits_tell) c.insert_full.new.self.keys c.in_ok-row.row c.in_ok-letter.letter c.in_ok-letter.ensures.stored)
    (λ _. c.args.numbers.now)
