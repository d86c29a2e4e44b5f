use Rattle.std.proofs.Common.{◌≡◌, length}
use Rattle.std.specs.Prelude.{map}
use Rattle.policy_text.specs.Phrases.{texts, after}
use Rattle.policy_text.proofs.phrase.after.Given as goal

abbrev pub invariant-loop-wanted : goal.invariant-loop-wanted
invariant-loop-wanted l = after (map (λ k. k.now) l.wanted) (texts l.rest) ≡ after (map (λ k. k.now) l.keys) (texts l.words)

abbrev pub decreases-loop-wanted : goal.decreases-loop-wanted
decreases-loop-wanted l = length l.wanted
