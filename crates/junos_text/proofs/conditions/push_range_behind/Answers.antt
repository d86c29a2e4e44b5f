use Rattle.std.proofs.Common.{◌∷◌, []}
use Rattle.route_types.specs.Print.{prefix_text}
use Rattle.text_words.specs.Pieces.{text_behind, words_text}
use Rattle.junos_text.specs.Words.{type_words}
use Rattle.junos_text.proofs.Written.{ends_so, range_said}
use Rattle.junos_text.proofs.conditions.push_range_behind.Goals as goal

pub returns : goal.returns
returns c =
    ends_so c.push_type.result c.push_type.new.out.items c.push_prefix_behind.new.out.items c.args.out.now.items
    (words_text (c.args.key.now ∷ prefix_text c.prefix-prefix.result ∷ [])) (text_behind (type_words c.length.result c.least.result c.most.result))
    (words_text (c.args.key.now ∷ prefix_text c.args.range.now.prefix ∷ type_words c.args.range.now.prefix.length c.args.range.now.least c.args.range.now.most))
    c.in_ok-push_prefix_behind.ensures
    (range_said c.args.key.now c.prefix-prefix.result c.args.range.now.prefix c.length.result c.least.result c.most.result c.args.range.now.least c.args.range.now.most c.prefix-prefix.ensures c.length.ensures c.least.ensures c.most.ensures)
    c.push_type.ensures
