use Rattle.std.proofs.Common.{◌≡◌, ◌++◌, [], None, length}
use Rattle.std.specs.Prelude.{option_map}
use Rattle.policy_calls.specs.Callees.{nows}
use Rattle.junos_reader.specs.Facts.{forms_of}
use Rattle.junos_reader.specs.Known.{flags_of, passing_from}
use Rattle.junos_reader.proofs.flags.walk.Given as goal

abbrev pub invariant-loop-rest : goal.invariant-loop-rest
invariant-loop-rest l = nows l.row ++ passing_from l.terms l.flags (option_map (λ n. n.now) l.policy) (forms_of l.rest) ≡ passing_from l.terms (flags_of []) None (forms_of l.items)

abbrev pub decreases-loop-rest : goal.decreases-loop-rest
decreases-loop-rest l = length l.rest
