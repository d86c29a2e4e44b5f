-- What stands before an item, as the tests that the rules look at. Of the forms before it the nearest stands first.
use Rattle.std.specs.Prelude.{ℕ, Bool, true, false, not, ◌&&◌, ◌||◌, List, [], ◌∷◌, Option, Some, None, option_map}
use Rattle.std.specs.List.{list_any}
use Rattle.route_types.specs.Address.{PrefixParts}
use Rattle.policy_text.specs.Names.{is_named}
use Rattle.junos_tree.specs.Sorts.{sort_of_form, name_of_form, same_sort, is_inner}
use Rattle.junos_tree.specs.Terms.{term_before}
use Rattle.junos_tree.specs.declared.item.StatementSort.{StatementSort}
use Rattle.junos_tree.specs.declared.item.JunosForm.{JunosForm}
use Rattle.junos_reader.specs.Forms.{is_term_of, kind_of, is_kind, filter_of, is_prefix}
use Rattle.junos_reader.specs.Terms.{goes_on_before}

-- what stands in the same term: which kinds of statements, and the prefixes of which route-filters
pub record Earlier : Type 0 where
  pub kinds : ℕ → Bool
  pub filters : PrefixParts → Bool

-- these forms as what stands in a term
abbrev pub earlier : List JunosForm → Earlier
earlier fs = record { kinds = λ k. list_any (λ f. is_kind k (kind_of f)) fs; filters = λ p. list_any (λ f. is_prefix p (filter_of f)) fs }

-- the sort and the name of a definition
abbrev pub Definition : Type 0
Definition = StatementSort × List ℕ

-- the definition that a form starts, where it starts one under a name
abbrev pub definition_of : JunosForm → Option Definition
definition_of form = option_map (λ name. (sort_of_form form, name)) (name_of_form form)

-- the definition that a place stands in
unfoldable pub definition_before : List JunosForm → Option Definition
definition_before [] = None
definition_before (f ∷ fs) = elim (is_inner f) [ true ↦ definition_before fs | false ↦ definition_of f ]

-- the form is of this sort and name
abbrev pub is_as : StatementSort → List ℕ → JunosForm → Bool
is_as sort q f = same_sort sort (sort_of_form f) && is_named q (name_of_form f)

-- the form starts a definition of this sort and name
abbrev pub starts : StatementSort → List ℕ → JunosForm → Bool
starts sort q f = not (is_inner f) && is_as sort q f

-- a term of this name stands before the place in its definition
unfoldable pub has_term : List ℕ → List JunosForm → Bool
has_term q [] = false
has_term q (f ∷ fs) = elim (is_inner f) [ true ↦ is_term_of q f || has_term q fs | false ↦ false ]

-- what stands before an item: the definition that it stands in; the definitions that start before it; the terms of its
-- definition; what stands before it in its term, if that is a named one, and if it is the one without a name; and
-- whether an earlier named term of its policy puts numbers before the path and goes on
pub record Before : Type 0 where
  pub definition : Option Definition
  pub defined : StatementSort → List ℕ → Bool
  pub terms : List ℕ → Bool
  pub named : Earlier
  pub unnamed : Earlier
  pub goes_on : Bool

-- what these forms are as what stands before, the nearest first
abbrev pub before_of : List JunosForm → Before
before_of before = record {
  definition = definition_before before;
  defined = λ sort q. list_any (starts sort q) before;
  terms = λ q. has_term q before;
  named = earlier (term_before false before);
  unnamed = earlier (term_before true before);
  goes_on = goes_on_before before;
}
