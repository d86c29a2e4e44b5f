-- What the check keeps of the tree and of the items before, as the tests that the rules look at.
use Rattle.std.specs.Prelude.{◌≡◌, ℕ, Bool, true, false, not, ◌&&◌, ◌||◌, List, [], ◌∷◌, map, Option, Some, None, option_map, get_or, set, length, ◌<◌, IfSome}
use Rattle.std.specs.List.{list_any}
use Rattle.std.specs.Ordering.{is_eq, nat_cmp, ordering_then}
use Rattle.std.specs.BTreeSet.{BTreeSet}
use denote.Ref.{Bor}
use Rattle.route_types.specs.Address.{PrefixParts, width}
use Rattle.policy_text.specs.NameSets.{has_name}
use Rattle.policy_calls.specs.Callees.{has_pair}
use Rattle.junos_tree.specs.Terms.{term_before}
use Rattle.junos_tree.specs.declared.item.StatementSort.{StatementSort}
use Rattle.junos_tree.specs.declared.item.StatementSort.TheVariants.{Policy as PolicySort}
use Rattle.junos_tree.specs.Sorts.{is_inner}
use Rattle.junos_tree.specs.declared.item.TermAction.{TermAction}
use Rattle.junos_tree.specs.declared.item.JunosForm.{JunosForm}
use Rattle.junos_tree.specs.declared.item.JunosForm.TheVariants.{Term as TermHeader, Condition as IsCondition, Action as IsAction}
use Rattle.junos_reader.specs.Statements.{Statement, policy_in}
use Rattle.junos_reader.specs.Forms.{sort_code, acts, prepends, ends, kind_of, is_kind, filter_of, is_prefix}
use Rattle.junos_reader.specs.Terms.{goes_on_before, named_goes_on, some_goes_on, onto_passing}
use Rattle.junos_reader.specs.Facts.{Facts}
use Rattle.junos_reader.specs.Before.{Earlier, earlier, Before, before_of}
use Rattle.junos_reader.specs.declared.statements.PolicyStatement.{PolicyStatement}
use Rattle.junos_reader.specs.declared.flags.Flags.{Flags}
use Rattle.junos_reader.specs.declared.flags.TermChoice.{TermChoice}
use Rattle.junos_reader.specs.declared.flags.TermChoice.TheVariants.{Named, All}
use Rattle.junos_reader.specs.declared.known.Known.{Known}
use Rattle.junos_reader.specs.declared.state.State.{State}
use Rattle.junos_reader.specs.declared.state.TermState.{TermState}

-- a statement as clauses see it
abbrev pub plain : PolicyStatement → Statement
plain s = record { policy = s.policy.now; form = s.form.now }

abbrev pub plain_statements : List PolicyStatement → List Statement
plain_statements ss = map plain ss

-- the definition of this sort and name is reached
abbrev pub known_reached : Known → StatementSort → List ℕ → Bool
known_reached k PolicySort q = has_name k.reached q 0 0
known_reached k sort q = has_name k.used q (sort_code sort) 0

-- the facts that the sets tell
abbrev pub known_facts : Known → Facts
known_facts k = record {
  defined = λ sort q. has_name k.defined q (sort_code sort) 0;
  reached = λ sort q. known_reached k sort q;
  called = λ q. has_name k.called q 0 0;
  tests_path = λ q. has_name k.tests_path q 0 0;
  not_plain = λ q. has_name k.not_plain q 0 0;
  in_chain = λ q. has_name k.chain q 0 0;
  behind_prepend = λ q. has_name k.behind_prepend q 0 0;
  prepends = λ q. has_name k.prepends q 0 0;
  turns_back = λ p q. has_pair k.turning p q;
  too_deep = λ q. has_name k.too_deep q 0 0;
}

-- the set has this prefix, by the width of its family, its bits and its length
abbrev pub has_prefix : BTreeSet (ℕ × ℕ × ℕ) → PrefixParts → Bool
has_prefix s p = list_any (λ k. is_eq (ordering_then (ordering_then (nat_cmp (width p.address.family) k.0) (nat_cmp p.address.bits k.1)) (nat_cmp p.length k.2))) s.keys

-- what stands before in a term
abbrev pub told_term : TermState → Earlier
told_term t = record { kinds = λ k. get_or t.kinds k false; filters = λ p. has_prefix t.filters p }

-- no kind's flag
abbrev pub no_kinds : List Bool
no_kinds = false ∷ false ∷ false ∷ false ∷ false ∷ false ∷ false ∷ false ∷ []

-- the flags with that of a kind, if there is one
abbrev pub kinds_with : List Bool → Option ℕ → List Bool
kinds_with kinds None = kinds
kinds_with kinds (Some k) = set kinds k true

-- what stands in a term behind one more form of it
abbrev pub earlier_behind : JunosForm → Earlier → Earlier
earlier_behind f e = record { kinds = λ k. is_kind k (kind_of f) || e.kinds k; filters = λ p. is_prefix p (filter_of f) || e.filters p }

-- nothing stands before in the term
pub record IsEmptyTerm (t : TermState) : Type 0 where
  pub tells : told_term t ≡ earlier []
  pub len : length t.kinds ≡ 8

-- the form has been noted in its term
pub record IsNoted (f : JunosForm) (old new : TermState) : Type 0 where
  pub kinds : new.kinds ≡ kinds_with old.kinds (kind_of f)
  pub within : IfSome (kind_of f) (λ k. k < 8)
  pub filters : (p : PrefixParts) → has_prefix new.filters p ≡ (is_prefix p (filter_of f) || has_prefix old.filters p)

-- the form is a condition or an action
abbrev pub is_statement : JunosForm → Bool
is_statement (IsCondition c) = true
is_statement (IsAction a) = true
is_statement _ = false

-- what stands before an item
abbrev pub told : State → Before
told s = record {
  definition = option_map (λ d. (d.0, d.1.now)) s.definition;
  defined = λ sort q. has_name s.defined q (sort_code sort) 0;
  terms = λ q. has_name s.terms q 0 0;
  named = told_term s.named;
  unnamed = told_term s.unnamed;
  goes_on = s.flags.goes_on;
}

-- what the forms before a place do in their terms: whether the named term that it stands in puts numbers before the path,
-- and whether it accepts or rejects; the same of the term without a name; and whether an earlier named term goes on
abbrev pub flags_of : List JunosForm → Flags
flags_of before = record {
  named_prepends = list_any (acts prepends) (term_before false before);
  named_ends = list_any (acts ends) (term_before false before);
  unnamed_prepends = list_any (acts prepends) (term_before true before);
  unnamed_ends = list_any (acts ends) (term_before true before);
  goes_on = goes_on_before before;
}

-- the flags behind one more form
abbrev pub behind_header : Flags → Flags
behind_header s = record {
  named_prepends = false;
  named_ends = false;
  unnamed_prepends = s.unnamed_prepends;
  unnamed_ends = s.unnamed_ends;
  goes_on = s.named_prepends && not s.named_ends || s.goes_on;
}

abbrev pub behind_action : Flags → TermAction → Flags
behind_action s a = elim a.unnamed [
  | true ↦ record s { unnamed_prepends = prepends a.action || s.unnamed_prepends; unnamed_ends = ends a.action || s.unnamed_ends }
  | false ↦ record s { named_prepends = prepends a.action || s.named_prepends; named_ends = ends a.action || s.named_ends }
]

abbrev pub behind_inner : Flags → JunosForm → Flags
behind_inner s (TermHeader name) = behind_header s
behind_inner s (IsAction a) = behind_action s a
behind_inner s _ = s

abbrev pub flags_behind : Flags → JunosForm → Flags
flags_behind s form = elim (is_inner form) [ true ↦ behind_inner s form | false ↦ flags_of [] ]

-- some of these terms goes on so, at the end of a block
abbrev pub goes_on_by : TermChoice → Flags → Bool
goes_on_by Named s = s.named_prepends && not s.named_ends || s.goes_on
goes_on_by All s = (s.named_prepends && not s.named_ends || s.goes_on) || s.unnamed_prepends && not s.unnamed_ends

abbrev pub goes_on_in : TermChoice → List JunosForm → Bool
goes_on_in Named before = named_goes_on before
goes_on_in All before = some_goes_on before

-- the policies whose blocks pass, the flags and the policy being those before these forms
unfoldable pub passing_from : TermChoice → Flags → Option (List ℕ) → List JunosForm → List (List ℕ)
passing_from terms s policy [] = onto_passing (goes_on_by terms s) policy []
passing_from terms s policy (f ∷ fs) = elim (is_inner f) [
  | true ↦ passing_from terms (flags_behind s f) policy fs
  | false ↦ onto_passing (goes_on_by terms s) policy (passing_from terms (flags_behind s f) (policy_in f) fs)
]

-- the state tells what stands before a place, behind these forms, the nearest first
pub record IsBehind (before : List JunosForm) (s : State) : Type 0 where
  pub tells : told s ≡ before_of before
  pub flags : s.flags ≡ flags_of before
  pub named_len : length s.named.kinds ≡ 8
  pub unnamed_len : length s.unnamed.kinds ≡ 8
