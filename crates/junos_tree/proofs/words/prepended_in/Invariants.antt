use Rattle.std.proofs.Common.{◌≡◌, ◌-◌, ◌^◌, [], length}
use Rattle.route_types.specs.Words.{number_in}
use Rattle.policy_text.specs.Phrases.{each_onto}
use Rattle.junos_tree.specs.Words.{between_spaces}
use Rattle.junos_tree.proofs.words.prepended_in.Given as goal

abbrev pub invariant-loop-front : goal.invariant-loop-front
invariant-loop-front l = each_onto (number_in (2 ^ 32 - 1)) l.numbers (between_spaces l.rest) ≡ each_onto (number_in (2 ^ 32 - 1)) [] (between_spaces l.word)

abbrev pub decreases-loop-front : goal.decreases-loop-front
decreases-loop-front l = length l.rest
