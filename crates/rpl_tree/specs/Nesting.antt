-- How the statements of a policy nest: from the flat list of what they say to steps that take one another as
-- parts. The list is read from its end, so that each `if` meets the branches and the steps behind it whole.
use Rattle.std.specs.Prelude.{List, [], ◌∷◌, Option, Some, None}
use Rattle.rpl_words.specs.declared.condition.Term.{Term}
use Rattle.rpl_forms.specs.declared.item.Action.{Action}
use Rattle.rpl_forms.specs.declared.item.Apply.{Apply}
use Rattle.rpl_forms.specs.declared.item.IfWord.{IfWord}
use Rattle.rpl_forms.specs.declared.item.IfWord.TheVariants.{If as IfOther, ElseIf as ElseIfOther, Else as ElseOther, EndIf as EndIfOther}
use Rattle.rpl_forms.specs.declared.item.PolicyStatement.{PolicyStatement}
use Rattle.rpl_forms.specs.declared.item.PolicyStatement.TheVariants.{If, ElseIf, Else, EndIf, Pass, Done, Drop, Act as ActOn, Apply as ApplyPolicy}
use Rattle.rpl_forms.specs.declared.item.RplForm.{RplForm}
use Rattle.rpl_forms.specs.declared.item.RplForm.TheVariants.{Statement, Other}

-- what a policy does: nothing more; `pass`, an action or an applied policy, and then the rest; `done` or
-- `drop`; or, by a condition, these steps or those, and then the rest
pub data Steps : Type 0 where
  Stop : Steps
  TakeTicket : Steps → Steps
  AcceptNow : Steps
  RejectNow : Steps
  Act : Action → Steps → Steps
  Call : Apply → Steps → Steps
  Branch : List Term → Steps → Steps → Steps → Steps

-- of an `if` that is open: the steps where its condition doesn't hold, as far as they stand behind, and the
-- steps behind its `endif`
pub record Level : Type 0 where
  pub other : Steps
  pub after : Steps

-- what stands from a place on: the steps of the branch that is open there, and of each `if` that is open
-- there, the innermost first
pub record Rest : Type 0 where
  pub here : Steps
  pub around : List Level

-- nothing
abbrev pub nothing : Rest
nothing = record { here = Stop; around = [] }

-- the innermost `if`; one whose `endif` is missing ends with the policy
abbrev pub innermost : List Level → Level
innermost [] = record { other = Stop; after = Stop }
innermost (level ∷ levels) = level

-- the `if`s around it
abbrev pub outer : List Level → List Level
outer [] = []
outer (level ∷ levels) = levels

-- a step before the rest
abbrev pub before : (Steps → Steps) → Rest → Rest
before step rest = record { here = step rest.here; around = rest.around }

-- an `endif` before it
abbrev pub closing : Rest → Rest
closing rest = record { here = Stop; around = record { other = Stop; after = rest.here } ∷ rest.around }

-- another branch before it, which these steps are; what stands before that is the branch before
abbrev pub branching : Steps → Rest → Rest
branching steps rest = record { here = Stop; around = record { other = steps; after = (innermost rest.around).after } ∷ outer rest.around }

-- an `if` before it, which these steps are
abbrev pub opening : Steps → Rest → Rest
opening steps rest = record { here = steps; around = outer rest.around }

-- a statement of a policy before the rest
abbrev pub with_statement : PolicyStatement → Rest → Rest
with_statement (If condition) rest = opening (Branch condition rest.here (innermost rest.around).other (innermost rest.around).after) rest
with_statement (ElseIf condition) rest = branching (Branch condition rest.here (innermost rest.around).other Stop) rest
with_statement Else rest = branching rest.here rest
with_statement EndIf rest = closing rest
with_statement Pass rest = before TakeTicket rest
with_statement Done rest = before (λ next. AcceptNow) rest
with_statement Drop rest = before (λ next. RejectNow) rest
with_statement (ActOn action) rest = before (Act action) rest
with_statement (ApplyPolicy apply) rest = before (Call apply) rest

-- a statement of no form before the rest, which does nothing; an `if` of no form leaves its branches out
abbrev pub with_other : Option IfWord → Rest → Rest
with_other None rest = rest
with_other (Some IfOther) rest = opening (innermost rest.around).after rest
with_other (Some ElseIfOther) rest = branching (innermost rest.around).other rest
with_other (Some ElseOther) rest = branching rest.here rest
with_other (Some EndIfOther) rest = closing rest

-- what a statement says before the rest: nothing behind the end of a policy belongs to it
abbrev pub with_form : RplForm → Rest → Rest
with_form (Statement s) rest = with_statement s rest
with_form (Other o) rest = with_other o.keyword rest
with_form _ rest = nothing

-- what stands in these statements
unfoldable pub nested : List RplForm → Rest
nested [] = nothing
nested (f ∷ fs) = with_form f (nested fs)

-- the steps of a policy: `fs` is what stands behind its first line
abbrev pub steps_in : List RplForm → Steps
steps_in fs = (nested fs).here

-- the statements of steps before the rest: a branch is `if`, `else` and `endif`
unfoldable pub spelled : Steps → List RplForm → List RplForm
spelled Stop rest = rest
spelled (TakeTicket next) rest = Statement Pass ∷ spelled next rest
spelled AcceptNow rest = Statement Done ∷ rest
spelled RejectNow rest = Statement Drop ∷ rest
spelled (Act action next) rest = Statement (ActOn action) ∷ spelled next rest
spelled (Call apply next) rest = Statement (ApplyPolicy apply) ∷ spelled next rest
spelled (Branch condition these those next) rest = Statement (If condition) ∷ spelled these (Statement Else ∷ spelled those (Statement EndIf ∷ spelled next rest))

-- `elseif` with its branch and the other one, up to its `endif`
abbrev pub elseif_of : List Term → Steps → Steps → List RplForm → List RplForm
elseif_of condition these those rest = Statement (ElseIf condition) ∷ spelled these (Statement Else ∷ spelled those (Statement EndIf ∷ rest))

-- the same as an `if` of its own behind `else`
abbrev pub else_if_of : List Term → Steps → Steps → List RplForm → List RplForm
else_if_of condition these those rest = Statement Else ∷ spelled (Branch condition these those Stop) (Statement EndIf ∷ rest)
