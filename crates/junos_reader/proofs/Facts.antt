-- What is known of a tree are its facts.
use Rattle.std.proofs.Common.{◌≡◌, refl, sym, ap, ◌∙◌, ℕ, Bool, ◌&&◌, ◌||◌, List, []}
use Rattle.std.specs.Prelude.{bytes_eq}
use Rattle.std.specs.List.{list_any}
use Rattle.policy_text.specs.NameSets.{has_name}
use Rattle.policy_calls.specs.Calls.{Link, is_reached, is_called, leads_to_some, turns_back}
use Rattle.policy_calls.specs.Depth.{is_too_deep}
use Rattle.policy_calls.specs.Callees.{has_pair}
use Rattle.junos_tree.specs.Sorts.{defines}
use Rattle.junos_tree.specs.declared.item.StatementSort.{StatementSort}
use Rattle.junos_tree.specs.declared.item.StatementSort.TheVariants.{PrefixList as ListSort, Community as CommunitySort, AsPath as PathSort, Policy as PolicySort, Inner}
use Rattle.junos_tree.specs.declared.item.JunosItem.{JunosItem}
use Rattle.junos_reader.specs.Forms.{sort_code, is_not_plain}
use Rattle.junos_reader.specs.Statements.{Statement, statements_of, links_in, links_of, testers_in, testers_of, names_it}
use Rattle.junos_reader.specs.Terms.{named_goes_on, some_goes_on, passing, stands_behind}
use Rattle.junos_reader.specs.Facts.{facts_of, forms_of, is_reached_as, is_used}
use Rattle.junos_reader.specs.Known.{known_facts, known_reached}
use Rattle.junos_reader.specs.Tells.{Holds}
use Rattle.junos_reader.specs.declared.known.Known.{Known}

module _ (k : Known) (all : List JunosItem) (links : List Link) (given names : List (List ℕ)) (ss : List Statement) (testers going named : List (List ℕ)) (holds : Holds k all links names ss testers going named)
    (names_are : names ≡ given) (ss_are : ss ≡ statements_of all) (links_are : links ≡ links_in ss) (testers_are : testers ≡ testers_in ss)
    (going_are : going ≡ passing some_goes_on [] (forms_of all)) (named_are : named ≡ passing named_goes_on [] (forms_of all)) where
  by_links : links ≡ links_of all
  by_links = links_are ∙ ap links_in ss_are

  by_testers : testers ≡ testers_of all
  by_testers = testers_are ∙ ap testers_in ss_are

  reached_is : (q : List ℕ) → has_name k.reached q 0 0 ≡ is_reached (links_of all) given q
  reached_is q = holds.reached q ∙ (λ j. is_reached (by_links j) (names_are j) q)

  used_is : (sort : StatementSort) (q : List ℕ) → has_name k.used q (sort_code sort) 0 ≡ is_used given all sort q
  used_is sort q = holds.used sort q ∙ (λ j. list_any (λ s. reached_is s.policy j && names_it sort q s.form) (ss_are j))

  reached_as : (sort : StatementSort) (q : List ℕ) → known_reached k sort q ≡ is_reached_as given all sort q
  reached_as PolicySort q = reached_is q
  reached_as ListSort q = used_is ListSort q
  reached_as CommunitySort q = used_is CommunitySort q
  reached_as PathSort q = used_is PathSort q
  reached_as Inner q = used_is Inner q

  pub tells_facts : known_facts k ≡ facts_of given all
  tells_facts = λ i. record {
    defined = λ sort q. holds.defined sort q i;
    reached = λ sort q. reached_as sort q i;
    called = λ q. (holds.called q ∙ (λ j. list_any (λ l. bytes_eq q l.callee && reached_is l.caller j) (by_links j))) i;
    tests_path = λ q. (holds.tests_path q ∙ (λ j. leads_to_some (by_links j) (by_testers j) q)) i;
    not_plain = λ q. holds.not_plain q i;
    in_chain = λ q. (holds.chain q ∙ (λ j. list_any (bytes_eq q) (names_are j))) i;
    behind_prepend = λ q. (holds.behind_prepend q ∙ (λ j. stands_behind (going_are j) (names_are j) q)) i;
    prepends = λ q. (holds.prepends q ∙ (λ j. list_any (bytes_eq q) (named_are j))) i;
    turns_back = λ p q. (holds.turning p q ∙ (λ j. turns_back (by_links j) p q)) i;
    too_deep = λ q. (holds.too_deep q ∙ (λ j. is_too_deep (by_links j) (names_are j) q)) i;
  }
