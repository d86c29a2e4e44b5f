-- The definitions of a plan: AS paths, communities and subroutines, each under the policy's name, a letter and its number, and
-- then the policy; and that each name that is used is that of its definition.
use Rattle.std.specs.Prelude.{◌≡◌, ℕ, ◌+◌, List, [], ◌∷◌, ◌++◌, codes, decimal, Some, None}
use Rattle.std.specs.List.{slice_get}
use Rattle.route_types.specs.Community.{RectParts}
use Rattle.aspath_text.specs.JunosRead.{junos_pattern_in}
use Rattle.path_patterns.specs.declared.items.TokenPattern.{TokenPattern}
use Rattle.junos_tree.specs.Terms.{Content}
use Rattle.junos_text.specs.declared.option.PolicyOption.{PolicyOption}
use Rattle.junos_text.specs.declared.option.PolicyOption.TheVariants.{AsPath, Community, Policy}
use Rattle.junos_text.specs.declared.option.PolicyTerm.{PolicyTerm}
use Rattle.junos_plans.specs.declared.step.PlannedStep.{PlannedStep}
use Rattle.junos_layout.specs.Terms.{subroutine_terms, step_terms}
use Rattle.junos_layout.specs.Writing.{Subroutine, Writing}

-- what a plan names, those of each sort in the order of their first use
pub record Definitions : Type 0 where
  pub paths : List (List ℕ)
  pub communities : List (List RectParts)
  pub subroutines : List Subroutine

-- the name of the definition at a place, counted from 0: NAME-a1, NAME-a2, ..
abbrev pub own_name : List ℕ → List ℕ → ℕ → List ℕ
own_name name letter place = name ++ (letter ++ decimal (place + 1))

abbrev pub path_name : List ℕ → ℕ → List ℕ
path_name name place = own_name name (codes "-a") place

abbrev pub community_name : List ℕ → ℕ → List ℕ
community_name name place = own_name name (codes "-c") place

abbrev pub subroutine_name : List ℕ → ℕ → List ℕ
subroutine_name name place = own_name name (codes "-s") place

-- definitions from a place on
unfoldable pub defined_from : {D : Type 0} → (ℕ → D → PolicyOption) → ℕ → List D → List PolicyOption
defined_from define place [] = []
defined_from define place (d ∷ ds) = define place d ∷ defined_from define (place + 1) ds

-- the pattern that a text spells; a plan has no text that spells none
abbrev pub pattern_of : List ℕ → TokenPattern
pattern_of text = elim (junos_pattern_in text) [ None ↦ record { branches = [] } | Some p ↦ p ]

-- terms from a number on: t1, t2, ..
unfoldable pub numbered : ℕ → List Content → List PolicyTerm
numbered n [] = []
numbered n (t ∷ ts) = record { name = codes "t" ++ decimal n; conditions = t.conditions; actions = t.actions } ∷ numbered (n + 1) ts

abbrev pub policy_of : List ℕ → List Content → PolicyOption
policy_of name terms = Policy (record { name = name; terms = numbered 1 terms })

-- the definitions of steps over what they name
abbrev pub options_of : List ℕ → Definitions → Writing → List PlannedStep → List PolicyOption
options_of name defs w steps =
    defined_from (λ n text. AsPath (record { name = path_name name n; pattern = pattern_of text; text = text })) 0 defs.paths
    ++ (defined_from (λ n members. Community (record { name = community_name name n; members = members })) 0 defs.communities
    ++ (defined_from (λ n s. policy_of (subroutine_name name n) (subroutine_terms w s)) 0 defs.subroutines ++ policy_of name (step_terms w steps) ∷ []))

-- ---- names that are used

-- a value is named by the place of its definition
abbrev pub NamedAt : {D : Type 0} → (ℕ → List ℕ) → List D → D → List ℕ → Type 0
NamedAt label ds d word = (n : ℕ) × (slice_get ds n ≡ Some d) × (word ≡ label n)
