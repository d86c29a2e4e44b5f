use Rattle.aspath_text.proofs.IosReadSpelled.{ios_pattern_found, ios_pattern_only, pattern_shaped}
use Rattle.aspath_text.proofs.laws.ios_patterns.Goals as goal

pub returns-clause-found : goal.returns-clause-found
returns-clause-found c = ios_pattern_found

pub returns-clause-only : goal.returns-clause-only
returns-clause-only c = ios_pattern_only

pub returns-clause-shaped : goal.returns-clause-shaped
returns-clause-shaped c = pattern_shaped
