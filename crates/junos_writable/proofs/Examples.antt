-- Worked examples that the checker computes.
use Rattle.std.proofs.Common.{◌≡◌, refl, ℕ, Bool, true, ◌&&◌, List, [], ◌∷◌, inr, arith, None}
use Rattle.std.specs.Prelude.{codes, nat_le}
use Rattle.std.specs.Fmt.{digits}
use Rattle.route_types.specs.Community.{RectParts}
use Rattle.junos_text.specs.Layout.{forms_of}
use Rattle.junos_text.specs.Written.{FitsName}
use Rattle.junos_plans.specs.declared.condition.PlannedCondition.TheVariants.{Communities}
use Rattle.junos_plans.specs.declared.step.PlannedStep.{PlannedStep}
use Rattle.junos_layout.specs.Options.{Definitions, community_name, subroutine_name, defined_from, numbered, options_of}
use Rattle.junos_layout.specs.Terms.{step_terms}
use Rattle.junos_layout.specs.Writing.{Writing}
use Rattle.junos_writable.specs.Names.{IsOwnName, names_of}
use Rattle.junos_writable.proofs.NameLaws.{sort_names, own_fits}

-- a small letter
is_small : ℕ → Bool
is_small c = nat_le 97 c && nat_le c 122

-- no byte that breaks a name is a small letter, so `drop` may name a policy
letters : FitsName (codes "drop")
unfolding is_small
letters = sort_names is_small (codes "drop") refl (omega arith) refl

-- the third subroutine stands under the policy's name
third : subroutine_name (codes "PEER") 2 ≡ codes "PEER-s3"
unfolding digits
third = refl

own : IsOwnName (codes "PEER") (codes "PEER-s3")
own = inr (codes "s3", refl)

-- and may name a policy, where the policy's name may
fits : FitsName (codes "PEER") → FitsName (subroutine_name (codes "PEER") 2)
fits h = own_fits (codes "PEER") 115 h refl refl refl 2 (omega arith)

-- a policy that accepts the routes with a community, over the definition of this community
community : List RectParts
community = record { high_least = 65001; high_most = 65001; low_least = 0; low_most = 65535 } ∷ []

keeps : PlannedStep
keeps = record {
  guard = record { conditions = Communities (community ∷ []) ∷ []; literals = [] };
  changes = record { local_preference = None; med = None; origin = None; next_hop = None; prepended = []; communities = None };
  accept = true;
}

named : Writing
named = record { path = λ text. text; community = λ members. community_name (codes "IN") 0; subroutine = λ s. [] }

defined : Definitions
defined = record { paths = []; communities = community ∷ []; subroutines = [] }

names : names_of (forms_of (options_of (codes "IN") defined named (keeps ∷ []))) ≡ codes "IN-c1" ∷ codes "IN" ∷ []
unfolding names_of defined_from numbered step_terms digits keeps named defined community
names = refl
