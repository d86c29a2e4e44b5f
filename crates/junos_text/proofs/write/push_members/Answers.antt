use Rattle.std.proofs.Common.{◌∷◌, []}
use Rattle.text_words.specs.Pieces.{text_behind, words_text}
use Rattle.junos_text.specs.Words.{values_words}
use Rattle.junos_text.proofs.Written.{ends_so, members_behind}
use Rattle.junos_text.proofs.write.push_members.Goals as goal

pub returns : goal.returns
returns c =
    ends_so c.push_values.result c.push_values.new.out.items c.push_words.new.out.items c.args.out.now.items
    (words_text (c.args.first.now ∷ c.args.second.now ∷ c.args.third.now ∷ [])) (text_behind (values_words c.args.members.now)) (words_text (c.args.first.now ∷ c.args.second.now ∷ c.args.third.now ∷ values_words c.args.members.now))
    c.in_ok-push_words.ensures (members_behind c.args.first.now c.args.second.now c.args.third.now (values_words c.args.members.now)) c.push_values.ensures
