use Rattle.std.proofs.Common.{map, rules}
use Rattle.std.specs.String.{string_bytes}
use Rattle.clap.specs.Words.{app_of}
use Rattle.policy_request.proofs.ClapParse.{parsed_badly, parsed_well}
use Rattle.policy_request.proofs.clap_command.parsed.Goals as goal

pub returns-in-Ok : goal.returns-in-Ok
returns-in-Ok c =
    parsed_well (app_of c.args.command) (map string_bytes c.args.words.now) c.in-Ok.matches c.requires c.in-Ok.ensures.kinds c.in-Ok.ensures.matches

pub returns-in-Err : goal.returns-in-Err
returns-in-Err c =
    parsed_badly (app_of c.args.command) (map string_bytes c.args.words.now) c.in-Err.error c.fault_by.result c.requires c.in-Err.ensures.kinds
    (search rules)
