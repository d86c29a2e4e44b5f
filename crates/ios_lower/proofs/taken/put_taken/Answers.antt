use Rattle.ios_lower.specs.Deletions.{AreTaken}
use Rattle.ios_lower.specs.Named.{entries_under}
use Rattle.ios_lower.proofs.NamedLaws.{if_put}
use Rattle.ios_lower.proofs.taken.put_taken.Goals as goal

pub returns : goal.returns
returns c = λ q.
    if_put (λ p. AreTaken (entries_under c.args.lists.now p)) c.args.taken.now c.insert.new.self c.args.name.now c.in_ok-rects.rects c.requires c.in_ok-rects.ensures c.in_ok-insert.ensures.updates q
