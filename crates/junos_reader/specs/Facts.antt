-- What the rules of the profile look at beside an item: facts of the whole tree and of the chain, as tests.
use Rattle.std.specs.Prelude.{ℕ, Bool, true, false, ◌&&◌, List, [], ◌∷◌, map, bytes_eq}
use Rattle.std.specs.List.{list_any}
use Rattle.policy_calls.specs.Calls.{Link, is_reached, is_called, leads_to_some, turns_back}
use Rattle.policy_calls.specs.Depth.{is_too_deep}
use Rattle.junos_tree.specs.Sorts.{defines}
use Rattle.junos_tree.specs.declared.item.StatementSort.{StatementSort}
use Rattle.junos_tree.specs.declared.item.StatementSort.TheVariants.{Policy as PolicySort}
use Rattle.junos_tree.specs.declared.item.JunosForm.{JunosForm}
use Rattle.junos_tree.specs.declared.item.JunosItem.{JunosItem}
use Rattle.junos_reader.specs.Forms.{is_not_plain}
use Rattle.junos_reader.specs.Statements.{statements_of, links_of, testers_of, names_it}
use Rattle.junos_reader.specs.Terms.{named_goes_on, some_goes_on, passing, stands_behind}

-- which definitions are there, and which are reached; which policies a condition of a reached one calls; which lead to a
-- test of the path; which communities have a member that stands for more than one; which policies stand in the chain, and
-- which of them behind one with a term that puts numbers before the path and goes on; which have such a named term; which
-- calls lead back to the caller; in which policies a call is too deep
pub record Facts : Type 0 where
  pub defined : StatementSort → List ℕ → Bool
  pub reached : StatementSort → List ℕ → Bool
  pub called : List ℕ → Bool
  pub tests_path : List ℕ → Bool
  pub not_plain : List ℕ → Bool
  pub in_chain : List ℕ → Bool
  pub behind_prepend : List ℕ → Bool
  pub prepends : List ℕ → Bool
  pub turns_back : List ℕ → List ℕ → Bool
  pub too_deep : List ℕ → Bool

-- the forms of items
abbrev pub forms_of : List JunosItem → List JunosForm
forms_of is = map (λ i. i.form) is

-- a statement of a reached policy names the definition
abbrev pub is_used : List (List ℕ) → List JunosItem → StatementSort → List ℕ → Bool
is_used names all sort q = list_any (λ s. is_reached (links_of all) names s.policy && names_it sort q s.form) (statements_of all)

-- the definition is reached: a policy by the names of the chain, anything else by a statement of a reached policy
abbrev pub is_reached_as : List (List ℕ) → List JunosItem → StatementSort → List ℕ → Bool
is_reached_as names all PolicySort q = is_reached (links_of all) names q
is_reached_as names all sort q = is_used names all sort q

-- the facts of a tree for a chain of these names
abbrev pub facts_of : List (List ℕ) → List JunosItem → Facts
facts_of names all = record {
  defined = λ sort q. list_any (defines sort q) all;
  reached = λ sort q. is_reached_as names all sort q;
  called = λ q. is_called (links_of all) names q;
  tests_path = λ q. leads_to_some (links_of all) (testers_of all) q;
  not_plain = λ q. list_any (λ i. is_not_plain q i.form) all;
  in_chain = λ q. list_any (bytes_eq q) names;
  behind_prepend = λ q. stands_behind (passing some_goes_on [] (forms_of all)) names q;
  prepends = λ q. list_any (bytes_eq q) (passing named_goes_on [] (forms_of all));
  turns_back = λ p q. turns_back (links_of all) p q;
  too_deep = λ q. is_too_deep (links_of all) names q;
}
