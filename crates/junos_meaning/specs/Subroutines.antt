-- The answers of subroutines that are known for a route: those that a run has asked for since the route changed last.
use Rattle.std.specs.Prelude.{◌≡◌, ℕ, Bool, List, Option, unwrap_or}
use Rattle.std.specs.Borrow.{Bor}
use Rattle.std.specs.Ordering.{nat_cmp, ordering_then}
use Rattle.std.specs.Cmp.Lexicographic.{slice_cmp}
use Rattle.std.specs.BTreeMap.{BTreeMap, get_by}
use Rattle.route_types.specs.Route.{RouteParts}
use Rattle.junos_tree.specs.declared.item.JunosForm.{JunosForm}
use Rattle.junos_meaning.specs.Meaning.{accepts}

-- answers by names and numbers of calls
abbrev pub KnownAnswers : Type 0
KnownAnswers = BTreeMap (Bor (List ℕ) × ℕ) Bool

-- the answer of a policy of this name from which so many calls may stand one in the other
abbrev pub answer_at : KnownAnswers → ℕ → List ℕ → Option Bool
answer_at m calls name = get_by (λ k. ordering_then (slice_cmp nat_cmp name k.0.now) (nat_cmp calls k.1)) m

-- each answer that is known is that of the policy on the route
abbrev pub AreRight : KnownAnswers → List JunosForm → RouteParts → Type 0
AreRight m all r = (calls : ℕ) (name : List ℕ) → unwrap_or (answer_at m calls name) (accepts calls all r name) ≡ accepts calls all r name
