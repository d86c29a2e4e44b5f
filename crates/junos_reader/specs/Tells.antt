-- What the sets hold that the check makes of a tree.
use Rattle.std.specs.Prelude.{◌≡◌, ℕ, ◌&&◌, List, bytes_eq}
use Rattle.std.specs.List.{list_any}
use Rattle.policy_text.specs.NameSets.{has_name}
use Rattle.policy_calls.specs.Calls.{Link, is_reached, leads_to_some, turns_back}
use Rattle.policy_calls.specs.Depth.{is_too_deep}
use Rattle.policy_calls.specs.Callees.{has_pair}
use Rattle.junos_tree.specs.Sorts.{defines}
use Rattle.junos_tree.specs.declared.item.StatementSort.{StatementSort}
use Rattle.junos_tree.specs.declared.item.JunosItem.{JunosItem}
use Rattle.junos_reader.specs.Forms.{sort_code, is_not_plain}
use Rattle.junos_reader.specs.Statements.{Statement, names_it}
use Rattle.junos_reader.specs.Terms.{stands_behind}
use Rattle.junos_reader.specs.declared.known.Known.{Known}

-- the sets of what is known hold what their names say, by the calls, the names of the chain, the statements and so on that
-- were found
pub record Holds (k : Known) (all : List JunosItem) (links : List Link) (names : List (List ℕ)) (ss : List Statement) (testers going named : List (List ℕ)) : Type 0 where
  pub defined : (sort : StatementSort) (q : List ℕ) → has_name k.defined q (sort_code sort) 0 ≡ list_any (defines sort q) all
  pub reached : (q : List ℕ) → has_name k.reached q 0 0 ≡ is_reached links names q
  pub used : (sort : StatementSort) (q : List ℕ) → has_name k.used q (sort_code sort) 0 ≡ list_any (λ s. has_name k.reached s.policy 0 0 && names_it sort q s.form) ss
  pub called : (q : List ℕ) → has_name k.called q 0 0 ≡ list_any (λ l. bytes_eq q l.callee && has_name k.reached l.caller 0 0) links
  pub tests_path : (q : List ℕ) → has_name k.tests_path q 0 0 ≡ leads_to_some links testers q
  pub not_plain : (q : List ℕ) → has_name k.not_plain q 0 0 ≡ list_any (λ i. is_not_plain q i.form) all
  pub chain : (q : List ℕ) → has_name k.chain q 0 0 ≡ list_any (bytes_eq q) names
  pub behind_prepend : (q : List ℕ) → has_name k.behind_prepend q 0 0 ≡ stands_behind going names q
  pub prepends : (q : List ℕ) → has_name k.prepends q 0 0 ≡ list_any (bytes_eq q) named
  pub turning : (p q : List ℕ) → has_pair k.turning p q ≡ turns_back links p q
  pub too_deep : (q : List ℕ) → has_name k.too_deep q 0 0 ≡ is_too_deep links names q
