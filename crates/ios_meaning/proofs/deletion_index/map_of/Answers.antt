use Rattle.ios_meaning.specs.Deletions.{has_key, answer_at}
use Rattle.ios_meaning.proofs.DeletionLists.{from_none}
use Rattle.ios_meaning.proofs.deletion_index.map_of.Goals as goal

pub loop-rest-init : goal.loop-rest-init
loop-rest-init c = λ n. from_none (has_key c.args.sort n) c.args.entries.now (answer_at c.new-found.result n) search
