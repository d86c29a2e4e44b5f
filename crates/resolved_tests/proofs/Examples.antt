-- Worked examples that the checker computes.
use Rattle.std.proofs.Common.{◌≡◌, refl, true, false, [], ◌∷◌, Some, None}
use Rattle.core_nodes.specs.declared.atom.Atom.TheVariants.{MedOneOf, MedAtMost, LocalPreference}
use Rattle.pending_changes.specs.declared.pending.Pending.{Pending}
use Rattle.resolved_tests.specs.declared.answer.Answer.TheVariants.{Asked}
use Rattle.resolved_tests.specs.Answers.{decided_by, decided_or}

-- MED 20 is set, and nothing else
abbrev med_set : Pending
med_set = record { local_preference = None; med = Some 20; weight = None; origin = None; next_hop = None; prepended = []; communities = None }

-- whatever the arriving MED is, the test sees 20
one_of : decided_by med_set (MedOneOf (10 ∷ 20 ∷ [])) ≡ Some true
one_of = refl

at_most : decided_by med_set (MedAtMost 10) ≡ Some false
at_most = refl

-- what isn't set is asked of the arriving route
preference : decided_or (decided_by med_set (LocalPreference 100)) (LocalPreference 100) ≡ Asked (LocalPreference 100)
preference = refl
