use Rattle.std.proofs.Common.{map}
use Rattle.std.specs.String.{string_bytes}
use Rattle.policy_request.proofs.Words.{refused}
use Rattle.policy_request.proofs.command.read_words.Goals as goal

pub returns-clause-usage : goal.returns-clause-usage
returns-clause-usage c = refused (map string_bytes c.args.words.now) c.read_verb.result c.read_verb.ensures
