-- The definitions of what a plan has to define, sort by sort.
use Rattle.std.specs.Prelude.{ℕ, ◌+◌, ◌<◌, ◌^◌, List, [], ◌∷◌, ◌++◌, length}
use Rattle.std.specs.List.{AllByRecursion}
use Rattle.route_types.specs.Community.{RectParts}
use Rattle.junos_tree.specs.Terms.{Content}
use Rattle.junos_text.specs.declared.option.PolicyOption.{PolicyOption}
use Rattle.junos_text.specs.declared.option.PolicyOption.TheVariants.{AsPath, Community}
use Rattle.junos_plans.specs.declared.condition.PlannedList.{PlannedList}
use Rattle.junos_plans.specs.declared.condition.PlannedTest.{PlannedTest}
use Rattle.junos_plans.specs.declared.step.PlannedLiteral.{PlannedLiteral}
use Rattle.junos_plans.specs.declared.step.PlannedStep.{PlannedStep}
use Rattle.junos_layout.specs.Options.{path_name, community_name, subroutine_name, pattern_of, policy_of, defined_from}
use Rattle.junos_layout.specs.Terms.{subroutine_terms, step_terms}
use Rattle.junos_layout.specs.Writing.{OfList, Unless, AllOf, Writing}
use Rattle.junos_policies.specs.Parts.{PartsList}

-- the AS path at a place
abbrev pub path_option : List ℕ → ℕ → List ℕ → PolicyOption
path_option name n text = AsPath (record { name = path_name name n; pattern = pattern_of text; text = text })

-- the community at a place
abbrev pub community_option : List ℕ → ℕ → List RectParts → PolicyOption
community_option name n members = Community (record { name = community_name name n; members = members })

-- a policy of these terms
abbrev pub terms_option : List ℕ → List Content → PolicyOption
terms_option name terms = policy_of name terms

-- the subroutines of lists, of tests and of guards, from a place on
abbrev pub list_options : List ℕ → Writing → ℕ → List PlannedList → List PolicyOption
list_options name w place ls = defined_from (λ n l. terms_option (subroutine_name name n) (subroutine_terms w (OfList l))) place ls

abbrev pub test_options : List ℕ → Writing → ℕ → List PlannedTest → List PolicyOption
test_options name w place ts = defined_from (λ n t. terms_option (subroutine_name name n) (subroutine_terms w (Unless t))) place ts

abbrev pub guard_options : List ℕ → Writing → ℕ → List (List PlannedLiteral) → List PolicyOption
guard_options name w place gs = defined_from (λ n g. terms_option (subroutine_name name n) (subroutine_terms w (AllOf g))) place gs

-- all subroutines
abbrev pub subroutine_options : List ℕ → PartsList → Writing → List PolicyOption
subroutine_options name p w = list_options name w 0 p.lists ++ (test_options name w (length p.lists) p.tests ++ guard_options name w (length p.lists + length p.tests) p.guards)

-- all definitions
abbrev pub options_by : List ℕ → PartsList → Writing → List PlannedStep → List PolicyOption
options_by name p w steps = defined_from (path_option name) 0 p.paths ++ (defined_from (community_option name) 0 p.communities ++ (subroutine_options name p w ++ terms_option name (step_terms w steps) ∷ []))

-- the subroutines and their terms can be counted
pub record FewSubroutines (p : PartsList) (w : Writing) : Type 0 where
  pub lists : AllByRecursion (λ l. length (subroutine_terms w (OfList l)) < 2 ^ 63) p.lists
  pub tests : AllByRecursion (λ t. length (subroutine_terms w (Unless t)) < 2 ^ 63) p.tests
  pub guards : AllByRecursion (λ g. length (subroutine_terms w (AllOf g)) < 2 ^ 63) p.guards
  pub together : length p.lists + length p.tests + length p.guards < 2 ^ 63

-- all definitions, and the terms of the policy
pub record FewOptions (p : PartsList) (w : Writing) (steps : List PlannedStep) : Type 0 where
  pub paths : length p.paths < 2 ^ 63
  pub communities : length p.communities < 2 ^ 63
  pub subroutines : FewSubroutines p w
  pub policy : length (step_terms w steps) < 2 ^ 63
