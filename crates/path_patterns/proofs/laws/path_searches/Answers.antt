use Rattle.path_patterns.proofs.FindsFound.{finds_in_decides}
use Rattle.path_patterns.proofs.laws.path_searches.Goals as goal

pub returns : goal.returns
returns c = finds_in_decides
