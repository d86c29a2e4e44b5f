use Rattle.std.proofs.Common.{◌≡◌, length}
use Rattle.std.specs.List.{flat_map}
use Rattle.rpl_layout.specs.Sharing.{term_tests}
use Rattle.rpl_policies.specs.Noting.{noted_tests}
use Rattle.rpl_policies.proofs.noting.note_each_term.Given as goal

abbrev pub invariant-loop-rest : goal.invariant-loop-rest
invariant-loop-rest l = noted_tests l.sets (flat_map term_tests l.rest) ≡ noted_tests l.fn.sets (flat_map term_tests l.terms)

abbrev pub decreases-loop-rest : goal.decreases-loop-rest
decreases-loop-rest l = length l.rest
