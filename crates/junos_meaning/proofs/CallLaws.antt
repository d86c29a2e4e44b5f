-- What a policy answers from which at least one call may stand.
use Rattle.std.proofs.Common.{◌≡◌, ap, arith, ℕ, zero, suc, ◌-◌, ◌<◌, Bool, List}
use Rattle.route_types.specs.Route.{RouteParts}
use Rattle.junos_tree.specs.declared.item.JunosForm.{JunosForm}
use Rattle.junos_meaning.specs.Sets.{policy_terms}
use Rattle.junos_meaning.specs.Conditions.{from_holds}
use Rattle.junos_meaning.specs.Meaning.{accepts, terms_accept}

-- what the terms of the policy answer, with so many calls from them on
abbrev pub of_terms : ℕ → List JunosForm → RouteParts → List ℕ → Bool
of_terms calls all r name = terms_accept (λ t. from_holds all (accepts calls all r) r t.conditions) (policy_terms all name)

pub one_call : (calls : ℕ) (all : List JunosForm) (r : RouteParts) (name : List ℕ) → 0 < calls → of_terms (calls - 1) all r name ≡ accepts calls all r name
unfolding accepts
one_call zero all r name some = absurd (omega (arith, some))
one_call (suc n) all r name some = let same : suc n - 1 ≡ n = omega arith in ap (λ (k : ℕ). of_terms k all r name) same
