use Rattle.std.proofs.Common.{subst}
use Rattle.path_patterns.specs.WordItems.{BecomesWords}
use Rattle.path_patterns.proofs.ItemWords.{adds_absent, adds_there}
use Rattle.path_patterns.proofs.word_item.add_item.Goals as goal

pub returns-in-Absent : goal.returns-in-Absent
returns-in-Absent c = adds_absent c.args.found.now c.args.item.now (subst (BecomesWords c.args.item.now) c.in-Absent.is c.in_ok-item_words.ensures)

pub returns-in_ok-push-in-There : goal.returns-in_ok-push-in-There
returns-in_ok-push-in-There c =
    adds_there c.args.found.now c.push.new.self c.args.item.now c.in-There.words (subst (BecomesWords c.args.item.now) c.in-There.is c.in_ok-item_words.ensures) c.in_ok-push-in-There.ensures
