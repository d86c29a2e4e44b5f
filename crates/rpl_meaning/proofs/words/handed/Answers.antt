use Rattle.std.proofs.Common.{refl}
use Rattle.rpl_meaning.specs.Blocks.{word_in}
use Rattle.rpl_meaning.specs.Sets.{handed}
use Rattle.rpl_meaning.proofs.WordLaws.{one_handed, all_handed}
use Rattle.rpl_meaning.proofs.words.handed.Goals as goal

pub loop-names-preserved : goal.loop-names-preserved
loop-names-preserved c =
    one_handed (word_in c.args.words.now.entries) c.loop-names.found.entries c.put_first.new.self.entries _ c.loop-names.names.now c.loop-names.rest.now c.behind-rest.result.now c.first-item.result c.as_slice.result.now c.first_word.result
    (handed (word_in c.args.words.now.entries) c.args.parameters.now c.args.arguments.now) c.in-len1-up.len_at_least c.first-item.is refl c.as_slice.ensures c.first_word.ensures c.behind-rest.ensures c.in_ok-put_first.ensures c.loop-names.invariant

pub returns : goal.returns
returns c =
    all_handed (word_in c.args.words.now.entries) c.loop-names.found.entries c.loop-names.names.now c.loop-names.rest.now (handed (word_in c.args.words.now.entries) c.args.parameters.now c.args.arguments.now) c.in_default.len_below
    c.loop-names.invariant
