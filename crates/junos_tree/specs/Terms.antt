-- How the items of a text belong together: those of a definition stand behind the item that starts it, and
-- the conditions and actions of a policy behind the header of their term. Several `from` of a term are
-- joined to one, and so are several `then`. The conditions and actions that stand directly in a policy are
-- one term without a name, which is the last one, wherever they stand (Junos OS Routing Policies User
-- Guide, 'policy-statement').
use Rattle.std.specs.Prelude.{ℕ, Bool, true, false, not, ◌&&◌, ◌||◌, List, [], ◌∷◌, ◌++◌, Option, Some, None}
use Rattle.junos_tree.specs.Sorts.{is_inner}
use Rattle.junos_tree.specs.declared.item.Condition.{Condition}
use Rattle.junos_tree.specs.declared.item.Action.{Action}
use Rattle.junos_tree.specs.declared.item.JunosForm.{JunosForm}
use Rattle.junos_tree.specs.declared.item.JunosForm.TheVariants.{Term as TermHeader, Condition as IsCondition, Action as IsAction}
use Rattle.junos_tree.specs.declared.item.TermCondition.{TermCondition}
use Rattle.junos_tree.specs.declared.item.TermAction.{TermAction}

-- the forms behind the start of a definition that belong to it: those up to the next definition
unfoldable pub own_forms : List JunosForm → List JunosForm
own_forms [] = []
own_forms (f ∷ fs) = elim (is_inner f) [ true ↦ f ∷ own_forms fs | false ↦ [] ]

-- what a term asks for and what it does, in the order of the text
pub record Content : Type 0 where
  pub conditions : List Condition
  pub actions : List Action

-- a term, with its name if it has one
pub record Term : Type 0 where
  pub name : Option (List ℕ)
  pub content : Content

-- a term that asks for nothing and does nothing
abbrev pub nothing : Content
nothing = record { conditions = []; actions = [] }

-- with a condition or an action in front
abbrev pub asks_first : Condition → Content → Content
asks_first condition c = record { conditions = condition ∷ c.conditions; actions = c.actions }

abbrev pub does_first : Action → Content → Content
does_first action c = record { conditions = c.conditions; actions = action ∷ c.actions }

-- the forms of a policy from some place on: what they give to the named term that stands before the place,
-- the named terms that start behind it, and what they give to the term without a name
pub record Parts : Type 0 where
  pub here : Content
  pub terms : List Term
  pub unnamed : Content

-- a condition of the term without a name, or of the named term that it stands in
abbrev pub with_condition : TermCondition → Parts → Parts
with_condition c p = elim c.unnamed [
  | true ↦ record p { unnamed = asks_first c.condition p.unnamed }
  | false ↦ record p { here = asks_first c.condition p.here }
]

-- an action of the term without a name, or of the named term that it stands in
abbrev pub with_action : TermAction → Parts → Parts
with_action a p = elim a.unnamed [
  | true ↦ record p { unnamed = does_first a.action p.unnamed }
  | false ↦ record p { here = does_first a.action p.here }
]

-- the header of a term: what stands behind it up to the next one is its content
abbrev pub with_header : List ℕ → Parts → Parts
with_header name p = record { here = nothing; terms = record { name = Some name; content = p.here } ∷ p.terms; unnamed = p.unnamed }

-- one form in front of the others; forms that are none of a term give nothing
abbrev pub with_form : JunosForm → Parts → Parts
with_form (TermHeader name) p = with_header name p
with_form (IsCondition c) p = with_condition c p
with_form (IsAction a) p = with_action a p
with_form _ p = p

unfoldable pub parts : List JunosForm → Parts
parts [] = record { here = nothing; terms = []; unnamed = nothing }
parts (f ∷ fs) = with_form f (parts fs)

-- the terms of a policy with these forms: the named ones in the order of their headers, and the one without
-- a name behind them
abbrev pub terms_of : List JunosForm → List Term
terms_of forms = (parts forms).terms ++ record { name = None; content = (parts forms).unnamed } ∷ []

-- both are so, or neither is
abbrev both_or_neither : Bool → Bool → Bool
both_or_neither true b = b
both_or_neither false b = not b

-- the form is a condition or an action of the term without a name, or of a named term
abbrev pub is_of_term : Bool → JunosForm → Bool
is_of_term unnamed (IsCondition c) = both_or_neither c.unnamed unnamed
is_of_term unnamed (IsAction a) = both_or_neither a.unnamed unnamed
is_of_term unnamed _ = false

-- the form is the header of a named term
abbrev pub is_term_header : JunosForm → Bool
is_term_header (TermHeader name) = true
is_term_header _ = false

-- seen from a form of a term, its term starts here: a named one at its header, the one without a name with the
-- policy
abbrev pub starts_term : Bool → JunosForm → Bool
starts_term unnamed f = not (is_inner f) || not unnamed && is_term_header f

-- of the forms before one of a term, the nearest first, those of the same term
unfoldable pub term_before : Bool → List JunosForm → List JunosForm
term_before unnamed [] = []
term_before unnamed (f ∷ fs) = elim (starts_term unnamed f) [
  | true ↦ []
  | false ↦ elim (is_of_term unnamed f) [ true ↦ f ∷ term_before unnamed fs | false ↦ term_before unnamed fs ]
]
