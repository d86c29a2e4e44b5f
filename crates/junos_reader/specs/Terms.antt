-- Which terms go on after they put numbers before the path. Of the forms before a place the nearest stands first.
use Rattle.std.specs.Prelude.{ℕ, Bool, true, false, not, ◌&&◌, ◌||◌, List, [], ◌∷◌, Option, Some, None, bytes_eq}
use Rattle.std.specs.List.{list_any}
use Rattle.junos_tree.specs.Sorts.{is_inner}
use Rattle.junos_tree.specs.Terms.{is_term_header, term_before}
use Rattle.junos_tree.specs.declared.item.JunosForm.{JunosForm}
use Rattle.junos_reader.specs.Forms.{acts, prepends, ends}
use Rattle.junos_reader.specs.Statements.{policy_in}

-- a term of these forms puts numbers before the path, and neither accepts nor rejects
abbrev pub goes_on : List JunosForm → Bool
goes_on fs = list_any (acts prepends) fs && not (list_any (acts ends) fs)

-- a named term of the policy goes on so, that stands before the header of the term where the place is
unfoldable pub goes_on_before : List JunosForm → Bool
goes_on_before [] = false
goes_on_before (f ∷ fs) = elim (is_inner f) [
  | true ↦ is_term_header f && goes_on (term_before false fs) || goes_on_before fs
  | false ↦ false
]

-- at the end of the block of a policy: a named term of it goes on so
abbrev pub named_goes_on : List JunosForm → Bool
named_goes_on before = goes_on (term_before false before) || goes_on_before before

-- a term of it, named or not, goes on so
abbrev pub some_goes_on : List JunosForm → Bool
some_goes_on before = named_goes_on before || goes_on (term_before true before)

-- the policy that a place stands in
unfoldable pub policy_before : List JunosForm → Option (List ℕ)
policy_before [] = None
policy_before (f ∷ fs) = elim (is_inner f) [ true ↦ policy_before fs | false ↦ policy_in f ]

-- the policy of a block that passes a test, in front of others
abbrev pub onto_passing : Bool → Option (List ℕ) → List (List ℕ) → List (List ℕ)
onto_passing true (Some name) rest = name ∷ rest
onto_passing _ _ rest = rest

-- the policies whose blocks pass a test of the forms before their end
unfoldable pub passing : (List JunosForm → Bool) → List JunosForm → List JunosForm → List (List ℕ)
passing test before [] = onto_passing (test before) (policy_before before) []
passing test before (f ∷ fs) = elim (is_inner f) [
  | true ↦ passing test (f ∷ before) fs
  | false ↦ onto_passing (test before) (policy_before before) (passing test (f ∷ before) fs)
]

-- the policy stands in the chain behind one of these
unfoldable pub stands_behind : List (List ℕ) → List (List ℕ) → List ℕ → Bool
stands_behind going [] q = false
stands_behind going (n ∷ ns) q = elim (list_any (bytes_eq n) going) [ true ↦ list_any (bytes_eq q) ns | false ↦ stands_behind going ns q ]
