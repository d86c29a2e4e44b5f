use Rattle.std.proofs.Common.{◌≡◌, ◌||◌, ℕ, List, length}
use Rattle.std.specs.List.{list_any}
use Rattle.policy_text.specs.NameSets.{has_name}
use Rattle.junos_reader.specs.Forms.{is_not_plain}
use Rattle.junos_reader.proofs.known.not_plain.Given as goal

abbrev pub invariant-loop-rest : goal.invariant-loop-rest
invariant-loop-rest l = (q : List ℕ) → (has_name l.set q 0 0 || list_any (λ i. is_not_plain q i.form) l.rest) ≡ list_any (λ i. is_not_plain q i.form) l.items

abbrev pub decreases-loop-rest : goal.decreases-loop-rest
decreases-loop-rest l = length l.rest
