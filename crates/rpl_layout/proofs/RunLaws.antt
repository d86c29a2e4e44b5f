-- The statements of steps run as the steps do: the first guard that holds decides.
use Rattle.std.proofs.Common.{◌≡◌, refl, ap, ◌∙◌, Bool, true, false, List, [], ◌∷◌, ◌++◌, append_assoc}
use Rattle.route_types.specs.Route.{RouteParts}
use Rattle.route_types.specs.declared.route.Outcome.{Outcome}
use Rattle.rpl_words.specs.Conditions.{terms_of}
use Rattle.rpl_words.specs.declared.condition.Term.{Term}
use Rattle.rpl_forms.specs.declared.item.Action.{Action}
use Rattle.rpl_forms.specs.declared.item.Apply.{Apply}
use Rattle.rpl_forms.specs.declared.item.PolicyStatement.TheVariants.{If, EndIf}
use Rattle.rpl_forms.specs.declared.item.RplForm.{RplForm}
use Rattle.rpl_forms.specs.declared.item.RplForm.TheVariants.{Statement, End}
use Rattle.rpl_tree.specs.Nesting.{Steps, Stop, AcceptNow, RejectNow, Act, Branch, Rest, before, with_form, nested}
use Rattle.rpl_meaning.specs.Meaning.{State, Fate, Goes, Ends, then_on, taken, run, run_rest, run_levels, arriving, at_end}
use Rattle.rpl_plans.specs.Actions.{acted_by}
use Rattle.rpl_plans.specs.Plans.{guard_says, ended_by, planned_outcome}
use Rattle.rpl_plans.specs.declared.actions.PlannedActions.{PlannedActions}
use Rattle.rpl_plans.specs.declared.step.PlannedLiteral.{PlannedLiteral}
use Rattle.rpl_plans.specs.declared.step.PlannedStep.{PlannedStep}
use Rattle.rpl_plans.specs.declared.test.PlannedTest.{PlannedTest}
use Rattle.rpl_layout.specs.Guards.{Writing, guard_condition}
use Rattle.rpl_layout.specs.Statements.{actions_of, body_of, step_forms, steps_forms}

-- ---- how they nest

-- actions before an end
acts_then : List Action → Steps → Steps
acts_then [] end = end
acts_then (a ∷ xs) end = Act a (acts_then xs end)

stop : Bool → Steps
stop true = AcceptNow
stop false = RejectNow

body_nests : (xs : List Action) (accept : Bool) (rest : List RplForm) → nested (body_of xs accept ++ rest) ≡ record { here = acts_then xs (stop accept); around = (nested rest).around }
unfolding nested acts_then stop
body_nests [] true rest = refl
body_nests [] false rest = refl
body_nests (a ∷ xs) accept rest = ap (λ (r : Rest). before (Act a) r) (body_nests xs accept rest)

-- a step with this guard, which does this, before those
step_tree : Writing → List PlannedLiteral → Steps → Steps → Steps
step_tree written [] body following = body
step_tree written (l ∷ ls) body following = Branch (terms_of (guard_condition written l ls)) body Stop following

-- what the steps are
tree_of : Writing → List PlannedStep → Steps
tree_of written [] = Stop
tree_of written (s ∷ ss) = step_tree written s.guard (acts_then (actions_of s.actions) (stop s.accept)) (tree_of written ss)

step_nests : (written : Writing) (guard : List PlannedLiteral) (xs : List Action) (accept : Bool) (following : List RplForm) (tree : Steps)
    → nested (following ++ End ∷ []) ≡ record { here = tree; around = [] }
    → nested (step_forms written guard (body_of xs accept) following ++ End ∷ []) ≡ record { here = step_tree written guard (acts_then xs (stop accept)) tree; around = [] }
unfolding nested step_tree
step_nests written [] xs accept following tree h = body_nests xs accept (End ∷ [])
step_nests written (l ∷ ls) xs accept following tree h =
    ap (λ (fs : List RplForm). nested (Statement (If (terms_of (guard_condition written l ls))) ∷ fs)) (append_assoc (body_of xs accept) (Statement EndIf ∷ following) (End ∷ []))
    ∙ ap (λ (r : Rest). with_form (Statement (If (terms_of (guard_condition written l ls)))) r) (body_nests xs accept (Statement EndIf ∷ (following ++ End ∷ [])))
    ∙ ap (λ (r : Rest). record { here = Branch (terms_of (guard_condition written l ls)) (acts_then xs (stop accept)) Stop r.here; around = r.around }) h

steps_nest : (written : Writing) (ss : List PlannedStep) → nested (steps_forms written ss ++ End ∷ []) ≡ record { here = tree_of written ss; around = [] }
unfolding nested steps_forms tree_of
steps_nest written [] = refl
steps_nest written (s ∷ ss) = step_nests written s.guard (actions_of s.actions) s.accept (steps_forms written ss) (tree_of written ss) (steps_nest written ss)

-- ---- how they run

-- what actions one after the other make of a route
unfoldable pub acted_all : (Action → RouteParts → RouteParts) → List Action → RouteParts → RouteParts
acted_all act [] r = r
acted_all act (a ∷ xs) r = acted_all act xs (act a r)

module _ (holds : List Term → Bool) (act : Action → RouteParts → RouteParts) (call : Apply → State → Fate) where
  body_runs : (xs : List Action) (accept : Bool) (s : State) → run holds act call (acts_then xs (stop accept)) s ≡ Ends (ended_by accept (acted_all act xs s.route))
  unfolding run acts_then stop acted_all
  body_runs [] true s = refl
  body_runs [] false s = refl
  body_runs (a ∷ xs) accept s = body_runs xs accept (taken (act a s.route))

  -- a condition that answers so, before what follows
  branch_runs : (b : Bool) (xs : List Action) (accept : Bool) (tree : Steps) (r : RouteParts) (out : Outcome) → at_end (run holds act call tree (arriving r)) ≡ out
      → at_end (then_on (run holds act call tree) (elim b [ true ↦ run holds act call (acts_then xs (stop accept)) (arriving r) | false ↦ run holds act call Stop (arriving r) ]))
      ≡ elim b [ true ↦ ended_by accept (acted_all act xs r) | false ↦ out ]
  unfolding run
  branch_runs true xs accept tree r out h = ap (λ (f : Fate). at_end (then_on (run holds act call tree) f)) (body_runs xs accept (arriving r))
  branch_runs false xs accept tree r out h = h

  module _ (written : Writing) (says : PlannedTest → Bool) (r : RouteParts)
      (guards : (l : PlannedLiteral) (ls : List PlannedLiteral) → holds (terms_of (guard_condition written l ls)) ≡ guard_says says (l ∷ ls))
      (acts : (a : PlannedActions) → acted_all act (actions_of a) r ≡ acted_by a r) where
    step_runs : (guard : List PlannedLiteral) (a : PlannedActions) (accept : Bool) (tree : Steps) (out : Outcome) → at_end (run holds act call tree (arriving r)) ≡ out
        → at_end (run holds act call (step_tree written guard (acts_then (actions_of a) (stop accept)) tree) (arriving r))
        ≡ elim (guard_says says guard) [ true ↦ ended_by accept (acted_by a r) | false ↦ out ]
    unfolding run step_tree
    step_runs [] a accept tree out h =
        ap (λ (f : Fate). at_end f) (body_runs (actions_of a) accept (arriving r))
        ∙ ap (λ (q : RouteParts). ended_by accept q) (acts a)
    step_runs (l ∷ ls) a accept tree out h =
        ap (λ (b : Bool). at_end (then_on (run holds act call tree) (elim b [ true ↦ run holds act call (acts_then (actions_of a) (stop accept)) (arriving r) | false ↦ run holds act call Stop (arriving r) ]))) (guards l ls)
        ∙ branch_runs (guard_says says (l ∷ ls)) (actions_of a) accept tree r out h
        ∙ ap (λ (q : RouteParts). elim (guard_says says (l ∷ ls)) [ true ↦ ended_by accept q | false ↦ out ]) (acts a)

    steps_run : (ss : List PlannedStep) → at_end (run holds act call (tree_of written ss) (arriving r)) ≡ planned_outcome says ss r
    unfolding run tree_of planned_outcome
    steps_run [] = refl
    steps_run (s ∷ ss) = step_runs s.guard s.actions s.accept (tree_of written ss) (planned_outcome says ss r) (steps_run ss)

    -- what runs on behind nothing ends xs before
    runs_out : (f : Fate) → at_end (then_on Goes f) ≡ at_end f
    runs_out (Goes s) = refl
    runs_out (Ends o) = refl

    -- the statements of steps give the route the outcome of the steps
    pub statements_run : (ss : List PlannedStep) → at_end (run_rest (run holds act call) (nested (steps_forms written ss ++ End ∷ [])) (arriving r)) ≡ planned_outcome says ss r
    unfolding run_levels
    statements_run ss =
        ap (λ (t : Rest). at_end (run_rest (run holds act call) t (arriving r))) (steps_nest written ss)
        ∙ runs_out (run holds act call (tree_of written ss) (arriving r))
        ∙ steps_run ss
