use Rattle.path_patterns.proofs.PathMatches.{path_decides}
use Rattle.path_patterns.proofs.laws.path_items.Goals as goal

pub returns : goal.returns
returns c = path_decides
