-- What each form does where the walk of the code stands.
use Rattle.std.proofs.Common.{◌≡◌, refl, sym, ap, ◌∙◌, ℕ, zero, suc, ◌<◌, Bool, true, false, Option, Some, None, List, [], arith}
use Rattle.std.specs.Borrow.{Bor}
use Rattle.rpl_effects.specs.declared.effect.Changes.{Changes}
use Rattle.rpl_effects.specs.declared.effect.Effect.TheVariants.{Accepted, Rejected}
use Rattle.rpl_meaning.specs.declared.communities.CommunityStep.{CommunityStep}
use Rattle.rpl_words.specs.declared.condition.Term.{Term}
use Rattle.rpl_forms.specs.declared.item.Action.{Action}
use Rattle.rpl_forms.specs.declared.item.Apply.{Apply}
use Rattle.rpl_forms.specs.declared.item.IfWord.{IfWord}
use Rattle.rpl_forms.specs.declared.item.PolicyStatement.{PolicyStatement}
use Rattle.rpl_forms.specs.declared.item.PolicyStatement.TheVariants.{If, ElseIf, Else, EndIf, Pass, Done, Drop, Act, Apply as Applies}
use Rattle.rpl_forms.specs.declared.item.RplForm.{RplForm}
use Rattle.rpl_forms.specs.declared.item.RplForm.TheVariants.{Header, Element, Statement, End, Other}
use Rattle.rpl_tree.specs.Nesting.{Stop, Branch, Level, Rest, innermost, with_form}
use Rattle.rpl_tree.specs.Tree.{forms}
use Rattle.rpl_meaning.specs.Sets.{Bindings}
use Rattle.rpl_meaning.specs.Conditions.{test_holds, terms_hold}
use Rattle.rpl_meaning.specs.Meaning.{State, Fate, acted}
use Rattle.rpl_meaning.specs.Steps.{Does, after, running_with, branch_by, passed, word_of_form, statement_in, else_if_in, over_behind, end_behind, branch_behind, run_behind}
use Rattle.rpl_meaning.specs.Walk.{Run, Start, chosen, left, sought, route_at, state_of}
use Rattle.rpl_meaning.specs.declared.tests.World.{World}
use Rattle.rpl_meaning.specs.declared.walk.Mode.{Mode}
use Rattle.rpl_meaning.specs.declared.walk.Mode.TheVariants.{Running, Seeking, Leaving}
use Rattle.rpl_meaning.specs.declared.walk.Step.{Step}
use Rattle.rpl_meaning.specs.declared.walk.Step.TheVariants.{On, Calls, Ended}
use Rattle.rpl_meaning.proofs.WalkLaws.{Going, go, by_answer, at_if, at_else_if, at_branch_end, at_end_if, at_pass, at_done, at_drop, at_action, at_apply, at_the_end, around_statement, around_other, end_of_statement, end_of_other, branch_of_statement, branch_of_other, run_of_other, IsNoElseIf}

-- what conditions, actions and applied policies do in a text
abbrev pub going : World → Bindings → (Apply → State → Fate) → Going
going w bs call = (terms_hold (test_holds (forms w.items.now) bs w.route.now) [], acted (forms w.items.now) bs, call)

-- where the next branch is looked for, and `if`s that are passed over are open
pub seeking_past : (g : Going) (f : RplForm) (over : ℕ) → 0 < over → (p : Start) (r : Rest) (run : Run)
    → after (go g) g.2 p r (passed (Seeking (over_behind (word_of_form f) over)) f run) ≡ chosen (go g) (Seeking over) (with_form f r) (state_of p run)
seeking_past g f zero h p r run = absurd (omega arith)
seeking_past g (Header x) (suc k) h p r run = sym (at_the_end g (Seeking (suc k)) (state_of p run))
seeking_past g (Element x) (suc k) h p r run = sym (at_the_end g (Seeking (suc k)) (state_of p run))
seeking_past g (Statement st) (suc k) h p r run = ap (λ (ls : List Level). sought (go g) ls (state_of p run)) (around_statement st k r)
seeking_past g End (suc k) h p r run = sym (at_the_end g (Seeking (suc k)) (state_of p run))
seeking_past g (Other o) (suc k) h p r run = ap (λ (ls : List Level). sought (go g) ls (state_of p run)) (around_other o.keyword k r)

-- where the end of an `if` is looked for, and `if`s that are passed over are open
pub leaving_past : (g : Going) (f : RplForm) (over : ℕ) → 0 < over → (p : Start) (r : Rest) (run : Run)
    → after (go g) g.2 p r (passed (Leaving (over_behind (word_of_form f) over)) f run) ≡ chosen (go g) (Leaving over) (with_form f r) (state_of p run)
leaving_past g f zero h p r run = absurd (omega arith)
leaving_past g (Header x) (suc k) h p r run = sym (at_the_end g (Leaving (suc k)) (state_of p run))
leaving_past g (Element x) (suc k) h p r run = sym (at_the_end g (Leaving (suc k)) (state_of p run))
leaving_past g (Statement st) (suc k) h p r run = ap (λ (ls : List Level). left (go g) ls (state_of p run)) (around_statement st k r)
leaving_past g End (suc k) h p r run = sym (at_the_end g (Leaving (suc k)) (state_of p run))
leaving_past g (Other o) (suc k) h p r run = ap (λ (ls : List Level). left (go g) ls (state_of p run)) (around_other o.keyword k r)

-- where the end of an `if` is looked for, and none that is passed over is open
pub leaving_here : (g : Going) (f : RplForm) (p : Start) (r : Rest) (run : Run)
    → after (go g) g.2 p r (passed (end_behind (word_of_form f)) f run) ≡ chosen (go g) (Leaving 0) (with_form f r) (state_of p run)
leaving_here g (Header x) p r run = sym (at_the_end g (Leaving 0) (state_of p run))
leaving_here g (Element x) p r run = sym (at_the_end g (Leaving 0) (state_of p run))
leaving_here g (Statement st) p r run = end_of_statement g st r (state_of p run)
leaving_here g End p r run = sym (at_the_end g (Leaving 0) (state_of p run))
leaving_here g (Other o) p r run = end_of_other g o.keyword r (state_of p run)

no_else_if : (st : PolicyStatement) → else_if_in (Statement st) ≡ None → IsNoElseIf st
no_else_if (If c) e = tt
no_else_if (ElseIf c) e = cc
no_else_if Else e = tt
no_else_if EndIf e = tt
no_else_if Pass e = tt
no_else_if Done e = tt
no_else_if Drop e = tt
no_else_if (Act a) e = tt
no_else_if (Applies a) e = tt

-- where the next branch is looked for: all but `elseif`
pub seeking_here : (g : Going) (f : RplForm) → else_if_in f ≡ None → (p : Start) (r : Rest) (run : Run)
    → after (go g) g.2 p r (passed (branch_behind (word_of_form f)) f run) ≡ chosen (go g) (Seeking 0) (with_form f r) (state_of p run)
seeking_here g (Header x) e p r run = sym (at_the_end g (Seeking 0) (state_of p run))
seeking_here g (Element x) e p r run = sym (at_the_end g (Seeking 0) (state_of p run))
seeking_here g (Statement st) e p r run = branch_of_statement g st (no_else_if st e) r (state_of p run)
seeking_here g End e p r run = sym (at_the_end g (Seeking 0) (state_of p run))
seeking_here g (Other o) e p r run = branch_of_other g o.keyword r (state_of p run)

statement_else_if : (st : PolicyStatement) (c : List Term) → else_if_in (Statement st) ≡ Some c → st ≡ ElseIf c
statement_else_if (If d) c e = cc
statement_else_if (ElseIf d) c e = cc
statement_else_if Else c e = cc
statement_else_if EndIf c e = cc
statement_else_if Pass c e = cc
statement_else_if Done c e = cc
statement_else_if Drop c e = cc
statement_else_if (Act a) c e = cc
statement_else_if (Applies a) c e = cc

-- a form that has the condition of `elseif` is one
pub is_else_if : (f : RplForm) (c : List Term) → else_if_in f ≡ Some c → f ≡ Statement (ElseIf c)
is_else_if (Header x) c e = cc
is_else_if (Element x) c e = cc
is_else_if (Statement st) c e = ap (λ (s : PolicyStatement). Statement s) (statement_else_if st c e)
is_else_if End c e = cc
is_else_if (Other o) c e = cc

pub statement_is : (f : RplForm) (st : PolicyStatement) → statement_in f ≡ Some st → f ≡ Statement st
statement_is (Header x) st e = cc
statement_is (Element x) st e = cc
statement_is (Statement s) st e = cc
statement_is End st e = cc
statement_is (Other o) st e = cc

-- where a branch runs: what is no statement
running_past : (g : Going) (f : RplForm) → statement_in f ≡ None → (p : Start) (r : Rest) (run : Run)
    → after (go g) g.2 p r (passed (run_behind (word_of_form f)) f run) ≡ chosen (go g) Running (with_form f r) (state_of p run)
running_past g (Header x) e p r run = sym (at_the_end g Running (state_of p run))
running_past g (Element x) e p r run = sym (at_the_end g Running (state_of p run))
running_past g (Statement st) e p r run = cc
running_past g End e p r run = sym (at_the_end g Running (state_of p run))
running_past g (Other o) e p r run = run_of_other g o.keyword r (state_of p run)

-- ---- what the code finds is what a form does

-- steps and forms that are alike do alike
pub alike : (w : World) (bs : Bindings) (mode : Mode) (f h : RplForm) (run : Run) (x y : Step) → f ≡ h → x ≡ y → Does w bs mode h run y → Does w bs mode f run x
alike w bs mode f h run x y same made does = λ call p r.
    ap (λ (z : Step). after (running_with w bs call) call p r z) made
    ∙ does call p r
    ∙ ap (λ (k : RplForm). chosen (running_with w bs call) mode (with_form k r) (state_of p run)) (sym same)

branch_chosen : (g : Going) (b : Bool) (r : Rest) (s : State) → chosen (go g) (branch_by b) r s ≡ by_answer g b r s
branch_chosen g true r s = refl
branch_chosen g false r s = refl

-- the answer of a condition in a text
abbrev answer_in : World → Bindings → List Term → Bool
answer_in w bs terms = terms_hold (test_holds (forms w.items.now) bs w.route.now) [] terms

behind_branch : (w : World) (bs : Bindings) (run : Run) (b : Bool) (x : Step) (call : Apply → State → Fate) (p : Start) (r : Rest) → x ≡ On (record { mode = branch_by b; run = run })
    → after (running_with w bs call) call p r x ≡ by_answer (going w bs call) b r (state_of p run)
behind_branch w bs run b x call p r made =
    ap (λ (z : Step). after (running_with w bs call) call p r z) made
    ∙ branch_chosen (going w bs call) b r (state_of p run)

pub if_does : (w : World) (bs : Bindings) (terms : List Term) (run : Run) (b : Bool) (x : Step) → b ≡ answer_in w bs terms → x ≡ On (record { mode = branch_by b; run = run })
    → Does w bs Running (Statement (If terms)) run x
if_does w bs terms run b x holds made = λ call p r. behind_branch w bs run b x call p r made ∙ at_if (going w bs call) terms r (state_of p run) b (sym holds)

pub else_if_does : (w : World) (bs : Bindings) (terms : List Term) (run : Run) (b : Bool) (x : Step) → b ≡ answer_in w bs terms → x ≡ On (record { mode = branch_by b; run = run })
    → Does w bs (Seeking 0) (Statement (ElseIf terms)) run x
else_if_does w bs terms run b x holds made = λ call p r. behind_branch w bs run b x call p r made ∙ at_else_if (going w bs call) terms r (state_of p run) b (sym holds)

pub action_does : (w : World) (bs : Bindings) (a : Action) (run : Run) (c : Changes CommunityStep) (x : Step) → ((p : Start) → route_at p c ≡ acted (forms w.items.now) bs a (route_at p run.changes))
    → x ≡ On (record { mode = Running; run = record { ticket = true; changes = c } }) → Does w bs Running (Statement (Act a)) run x
action_does w bs a run c x made is = λ call p r.
    ap (λ (z : Step). after (running_with w bs call) call p r z) is ∙ at_action (going w bs call) a r (state_of p run) (route_at p c) (made p)

pub else_if_leaves : (w : World) (bs : Bindings) (c : List Term) (run : Run) → Does w bs Running (Statement (ElseIf c)) run (On (record { mode = Leaving 0; run = run }))
else_if_leaves w bs c run = λ call p r. at_branch_end (going w bs call) (Branch c r.here (innermost r.around).other Stop) r (state_of p run)

pub else_leaves : (w : World) (bs : Bindings) (run : Run) → Does w bs Running (Statement Else) run (On (record { mode = Leaving 0; run = run }))
else_leaves w bs run = λ call p r. at_branch_end (going w bs call) r.here r (state_of p run)

pub end_if_goes : (w : World) (bs : Bindings) (run : Run) → Does w bs Running (Statement EndIf) run (On (record { mode = Running; run = run }))
end_if_goes w bs run = λ call p r. at_end_if (going w bs call) r (state_of p run)

pub pass_goes : (w : World) (bs : Bindings) (run : Run) → Does w bs Running (Statement Pass) run (On (record { mode = Running; run = record { ticket = true; changes = run.changes } }))
pass_goes w bs run = λ call p r. at_pass (going w bs call) r (state_of p run)

pub done_ends : (w : World) (bs : Bindings) (run : Run) → Does w bs Running (Statement Done) run (Ended (Accepted run.changes))
done_ends w bs run = λ call p r. at_done (going w bs call) r (state_of p run)

pub drop_ends : (w : World) (bs : Bindings) (run : Run) → Does w bs Running (Statement Drop) run (Ended Rejected)
drop_ends w bs run = λ call p r. at_drop (going w bs call) r (state_of p run)

pub apply_calls : (w : World) (bs : Bindings) (a : Bor Apply) (run : Run) → Does w bs Running (Statement (Applies a.now)) run (Calls a run)
apply_calls w bs a run = λ call p r. at_apply (going w bs call) a.now r (state_of p run)

-- ---- forms that are passed over

pub does_running : (w : World) (bs : Bindings) (f : RplForm) (run : Run) (x : Step) (m : Mode) (o : Option IfWord) → None ≡ statement_in f → o ≡ word_of_form f → m ≡ run_behind o → x ≡ passed m f run → Does w bs Running f run x
does_running w bs f run x m o none word mode made =
    alike w bs Running f f run x (passed (run_behind (word_of_form f)) f run) refl (made ∙ ap (λ (k : Mode). passed k f run) (mode ∙ ap (λ (v : Option IfWord). run_behind v) word))
    (λ call p r. running_past (going w bs call) f (sym none) p r run)

pub does_seeking : (w : World) (bs : Bindings) (f : RplForm) (run : Run) (x : Step) (m : Mode) (o : Option IfWord) → None ≡ else_if_in f → o ≡ word_of_form f → m ≡ branch_behind o → x ≡ passed m f run → Does w bs (Seeking 0) f run x
does_seeking w bs f run x m o none word mode made =
    alike w bs (Seeking 0) f f run x (passed (branch_behind (word_of_form f)) f run) refl (made ∙ ap (λ (k : Mode). passed k f run) (mode ∙ ap (λ (v : Option IfWord). branch_behind v) word))
    (λ call p r. seeking_here (going w bs call) f (sym none) p r run)

pub does_seeking_past : (w : World) (bs : Bindings) (f : RplForm) (over behind : ℕ) (run : Run) (x : Step) (o : Option IfWord) → 0 < over → o ≡ word_of_form f → behind ≡ over_behind o over → x ≡ passed (Seeking behind) f run
    → Does w bs (Seeking over) f run x
does_seeking_past w bs f over behind run x o some word counted made =
    alike w bs (Seeking over) f f run x (passed (Seeking (over_behind (word_of_form f) over)) f run) refl
    (made ∙ ap (λ (n : ℕ). passed (Seeking n) f run) (counted ∙ ap (λ (v : Option IfWord). over_behind v over) word))
    (λ call p r. seeking_past (going w bs call) f over some p r run)

pub does_leaving : (w : World) (bs : Bindings) (f : RplForm) (run : Run) (x : Step) (m : Mode) (o : Option IfWord) → o ≡ word_of_form f → m ≡ end_behind o → x ≡ passed m f run → Does w bs (Leaving 0) f run x
does_leaving w bs f run x m o word mode made =
    alike w bs (Leaving 0) f f run x (passed (end_behind (word_of_form f)) f run) refl (made ∙ ap (λ (k : Mode). passed k f run) (mode ∙ ap (λ (v : Option IfWord). end_behind v) word))
    (λ call p r. leaving_here (going w bs call) f p r run)

pub does_leaving_past : (w : World) (bs : Bindings) (f : RplForm) (over behind : ℕ) (run : Run) (x : Step) (o : Option IfWord) → 0 < over → o ≡ word_of_form f → behind ≡ over_behind o over → x ≡ passed (Leaving behind) f run
    → Does w bs (Leaving over) f run x
does_leaving_past w bs f over behind run x o some word counted made =
    alike w bs (Leaving over) f f run x (passed (Leaving (over_behind (word_of_form f) over)) f run) refl
    (made ∙ ap (λ (n : ℕ). passed (Leaving n) f run) (counted ∙ ap (λ (v : Option IfWord). over_behind v over) word))
    (λ call p r. leaving_past (going w bs call) f over some p r run)
