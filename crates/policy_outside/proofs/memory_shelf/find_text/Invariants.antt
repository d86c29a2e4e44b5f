-- the rest of the list decides what the whole one does
use Rattle.std.proofs.Common.{◌≡◌, length}
use Rattle.policy_outside.specs.Texts.{text_at}
use Rattle.policy_outside.proofs.memory_shelf.find_text.Given as goal

abbrev pub invariant-loop-rest : goal.invariant-loop-rest
invariant-loop-rest l = text_at l.rest l.name ≡ text_at l.texts l.name

abbrev pub decreases-loop-rest : goal.decreases-loop-rest
decreases-loop-rest l = length l.rest
