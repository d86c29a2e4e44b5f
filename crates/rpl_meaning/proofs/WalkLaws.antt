-- What each statement does where the walk stands.
use Rattle.std.proofs.Common.{◌≡◌, refl, sym, ap, ◌∙◌, ℕ, zero, suc, ◌+◌, ◌-◌, Bool, true, false, List, [], ◌∷◌, Option, Some, None, arith}
use Rattle.std.specs.Prelude.{drop}
use Rattle.route_types.specs.Route.{RouteParts}
use Rattle.route_types.specs.declared.route.Outcome.TheVariants.{Reject, Accept}
use Rattle.rpl_words.specs.declared.condition.Term.{Term}
use Rattle.rpl_forms.specs.declared.item.Action.{Action}
use Rattle.rpl_forms.specs.declared.item.Apply.{Apply}
use Rattle.rpl_forms.specs.declared.item.PolicyStatement.{PolicyStatement}
use Rattle.rpl_forms.specs.declared.item.PolicyStatement.TheVariants.{If, ElseIf, Else, EndIf, Pass, Done, Drop, Act, Apply as Applies}
use Rattle.rpl_meaning.specs.Meaning.{State, Fate, Goes, Ends, then_on, taken, run, run_levels}
use Rattle.rpl_tree.specs.Nesting.{Steps, Stop, Level, Rest, innermost, outer, with_statement, with_other, branching, nothing}
use Rattle.rpl_forms.specs.declared.item.IfWord.{IfWord}
use Rattle.rpl_forms.specs.declared.item.IfWord.TheVariants.{If as IfWordIf, ElseIf as IfWordElseIf, Else as IfWordElse, EndIf as IfWordEndIf}
use Rattle.rpl_meaning.specs.Steps.{word_of_statement, over_behind, end_behind, branch_behind, run_behind}
use Rattle.rpl_meaning.specs.Walk.{chosen, left, sought}
use Rattle.rpl_meaning.specs.declared.walk.Mode.{Mode}
use Rattle.rpl_meaning.specs.declared.walk.Mode.TheVariants.{Running, Seeking, Leaving}

-- one run behind another, behind a third
both_on : (x y : State → Fate) (f : Fate) → then_on x (then_on y f) ≡ then_on (λ s. then_on x (y s)) f
both_on x y (Goes s) = refl
both_on x y (Ends o) = refl

-- a run of statements
abbrev pub Going : Type 0
Going = (List Term → Bool) × (Action → RouteParts → RouteParts) × (Apply → State → Fate)

abbrev pub go : Going → Steps → State → Fate
go g = run g.0 g.1 g.2

stop_on : (g : Going) (f : Fate) → then_on (go g Stop) f ≡ f
unfolding run
stop_on g (Goes s) = refl
stop_on g (Ends o) = refl

-- behind the innermost `if` stands what stands behind it and the others
left_on : (g : Going) (ls : List Level) (f : Fate) → then_on (run_levels (go g) (outer ls)) (then_on (go g (innermost ls).after) f) ≡ then_on (run_levels (go g) ls) f
unfolding run run_levels
left_on g [] (Goes s) = refl
left_on g [] (Ends o) = refl
left_on g (l ∷ ls) (Goes s) = refl
left_on g (l ∷ ls) (Ends o) = refl

-- by the answer of a condition its branch runs, or the next one is looked for
abbrev pub by_answer : Going → Bool → Rest → State → Fate
by_answer g b r s = elim b [ true ↦ chosen (go g) Running r s | false ↦ chosen (go g) (Seeking 0) r s ]

-- ---- where a branch runs

if_by : (g : Going) (ls : List Level) (here : Steps) (s : State) (b : Bool)
    → then_on (run_levels (go g) (outer ls)) (then_on (go g (innermost ls).after) (elim b [ true ↦ go g here s | false ↦ go g (innermost ls).other s ]))
    ≡ elim b [ true ↦ then_on (run_levels (go g) ls) (go g here s) | false ↦ sought (go g) ls s ]
unfolding run_levels
if_by g ls here s true = left_on g ls (go g here s)
if_by g ls here s false = both_on (run_levels (go g) (outer ls)) (go g (innermost ls).after) (go g (innermost ls).other s)

-- an `if` runs its first branch, or the next one is looked for
pub at_if : (g : Going) (c : List Term) (r : Rest) (s : State) (b : Bool) → g.0 c ≡ b → by_answer g b r s ≡ chosen (go g) Running (with_statement (If c) r) s
unfolding run
at_if g c r s b holds =
    sym (if_by g r.around r.here s b)
    ∙ ap (λ (x : Bool). then_on (run_levels (go g) (outer r.around)) (then_on (go g (innermost r.around).after) (elim x [ true ↦ go g r.here s | false ↦ go g (innermost r.around).other s ]))) (sym holds)

-- a branch that ends goes on behind the `if`
pub at_branch_end : (g : Going) (other : Steps) (r : Rest) (s : State) → chosen (go g) (Leaving 0) r s ≡ chosen (go g) Running (branching other r) s
unfolding run run_levels
at_branch_end g other r s = refl

pub at_end_if : (g : Going) (r : Rest) (s : State) → chosen (go g) Running r s ≡ chosen (go g) Running (with_statement EndIf r) s
unfolding run run_levels
at_end_if g r s = refl

pub at_pass : (g : Going) (r : Rest) (s : State) → chosen (go g) Running r (taken s.route) ≡ chosen (go g) Running (with_statement Pass r) s
unfolding run
at_pass g r s = refl

pub at_done : (g : Going) (r : Rest) (s : State) → Ends (Accept s.route) ≡ chosen (go g) Running (with_statement Done r) s
unfolding run
at_done g r s = refl

pub at_drop : (g : Going) (r : Rest) (s : State) → Ends Reject ≡ chosen (go g) Running (with_statement Drop r) s
unfolding run
at_drop g r s = refl

pub at_action : (g : Going) (a : Action) (r : Rest) (s : State) (made : RouteParts) → made ≡ g.1 a s.route → chosen (go g) Running r (taken made) ≡ chosen (go g) Running (with_statement (Act a) r) s
unfolding run
at_action g a r s made e = ap (λ (route : RouteParts). chosen (go g) Running r (taken route)) e

pub at_apply : (g : Going) (a : Apply) (r : Rest) (s : State) → then_on (chosen (go g) Running r) (g.2 a s) ≡ chosen (go g) Running (with_statement (Applies a) r) s
unfolding run
at_apply g a r s = sym (both_on (run_levels (go g) r.around) (go g r.here) (g.2 a s))

-- ---- where the next branch is looked for

else_if_by : (g : Going) (ls : List Level) (here : Steps) (s : State) (b : Bool)
    → then_on (left (go g) ls) (then_on (go g Stop) (elim b [ true ↦ go g here s | false ↦ go g (innermost ls).other s ]))
    ≡ elim b [ true ↦ then_on (run_levels (go g) ls) (go g here s) | false ↦ sought (go g) ls s ]
unfolding run_levels
else_if_by g ls here s true =
    ap (λ (f : Fate). then_on (left (go g) ls) f) (stop_on g (go g here s)) ∙ sym (both_on (run_levels (go g) (outer ls)) (go g (innermost ls).after) (go g here s)) ∙ left_on g ls (go g here s)
else_if_by g ls here s false = ap (λ (f : Fate). then_on (left (go g) ls) f) (stop_on g (go g (innermost ls).other s))

pub at_else_if : (g : Going) (c : List Term) (r : Rest) (s : State) (b : Bool) → g.0 c ≡ b → by_answer g b r s ≡ chosen (go g) (Seeking 0) (with_statement (ElseIf c) r) s
unfolding run run_levels
at_else_if g c r s b holds =
    sym (else_if_by g r.around r.here s b)
    ∙ ap (λ (x : Bool). then_on (left (go g) r.around) (then_on (go g Stop) (elim x [ true ↦ go g r.here s | false ↦ go g (innermost r.around).other s ]))) (sym holds)

left_here : (g : Going) (ls : List Level) (f : Fate) → then_on (run_levels (go g) ls) f ≡ then_on (left (go g) ls) f
unfolding run_levels
left_here g ls f = sym (left_on g ls f) ∙ both_on (run_levels (go g) (outer ls)) (go g (innermost ls).after) f

pub at_else : (g : Going) (r : Rest) (s : State) → chosen (go g) Running r s ≡ chosen (go g) (Seeking 0) (with_statement Else r) s
unfolding run_levels
at_else g r s = left_here g r.around (go g r.here s)

pub at_missing : (g : Going) (r : Rest) (s : State) → chosen (go g) Running r s ≡ chosen (go g) (Seeking 0) (with_statement EndIf r) s
unfolding run run_levels
at_missing g r s = refl

one_outer : (ls : List Level) → drop 1 ls ≡ outer ls
one_outer [] = refl
one_outer (l ∷ ls) = refl

none_left : (n : ℕ) → drop {A = Level} n [] ≡ []
none_left zero = refl
none_left (suc n) = refl

behind_more : (n : ℕ) (ls : List Level) → drop (suc n) ls ≡ drop n (outer ls)
behind_more n [] = sym (none_left n)
behind_more n (l ∷ ls) = refl

one_above : (n : ℕ) → n + 1 ≡ suc n
one_above n = omega arith

one_below : (n : ℕ) → suc n - 1 ≡ n
one_below n = omega arith

one_more : (n : ℕ) (ls : List Level) → drop (n + 1) ls ≡ drop n (outer ls)
one_more n ls = ap (λ (k : ℕ). drop k ls) (one_above n) ∙ behind_more n ls

-- ---- where the end of an `if` is looked for

pub end_of_statement : (g : Going) (st : PolicyStatement) (r : Rest) (s : State) → chosen (go g) (end_behind (word_of_statement st)) r s ≡ chosen (go g) (Leaving 0) (with_statement st r) s
unfolding run run_levels
end_of_statement g (If c) r s = ap (λ (ls : List Level). left (go g) ls s) (one_outer r.around)
end_of_statement g (ElseIf c) r s = refl
end_of_statement g Else r s = refl
end_of_statement g EndIf r s = refl
end_of_statement g Pass r s = refl
end_of_statement g Done r s = refl
end_of_statement g Drop r s = refl
end_of_statement g (Act a) r s = refl
end_of_statement g (Applies a) r s = refl

pub end_of_other : (g : Going) (w : Option IfWord) (r : Rest) (s : State) → chosen (go g) (end_behind w) r s ≡ chosen (go g) (Leaving 0) (with_other w r) s
unfolding run run_levels
end_of_other g None r s = refl
end_of_other g (Some IfWordIf) r s = ap (λ (ls : List Level). left (go g) ls s) (one_outer r.around)
end_of_other g (Some IfWordElseIf) r s = refl
end_of_other g (Some IfWordElse) r s = refl
end_of_other g (Some IfWordEndIf) r s = refl

-- ---- where `if`s that are passed over are open

pub around_statement : (st : PolicyStatement) (over : ℕ) (r : Rest) → drop (over_behind (word_of_statement st) (suc over)) r.around ≡ drop (suc over) (with_statement st r).around
around_statement (If c) over r = one_more (suc over) r.around
around_statement (ElseIf c) over r = behind_more over r.around
around_statement Else over r = behind_more over r.around
around_statement EndIf over r = ap (λ (k : ℕ). drop k r.around) (one_below over)
around_statement Pass over r = refl
around_statement Done over r = refl
around_statement Drop over r = refl
around_statement (Act a) over r = refl
around_statement (Applies a) over r = refl

pub around_other : (w : Option IfWord) (over : ℕ) (r : Rest) → drop (over_behind w (suc over)) r.around ≡ drop (suc over) (with_other w r).around
around_other None over r = refl
around_other (Some IfWordIf) over r = one_more (suc over) r.around
around_other (Some IfWordElseIf) over r = behind_more over r.around
around_other (Some IfWordElse) over r = behind_more over r.around
around_other (Some IfWordEndIf) over r = ap (λ (k : ℕ). drop k r.around) (one_below over)

-- ---- where the next branch is looked for: all but `elseif`

pub branch_of_other : (g : Going) (w : Option IfWord) (r : Rest) (s : State) → chosen (go g) (branch_behind w) r s ≡ chosen (go g) (Seeking 0) (with_other w r) s
unfolding run run_levels
branch_of_other g None r s = refl
branch_of_other g (Some IfWordIf) r s = ap (λ (ls : List Level). sought (go g) ls s) (one_outer r.around)
branch_of_other g (Some IfWordElseIf) r s = refl
branch_of_other g (Some IfWordElse) r s = at_else g r s
branch_of_other g (Some IfWordEndIf) r s = refl

-- a statement that is no `elseif`
abbrev pub IsNoElseIf : PolicyStatement → Type 0
IsNoElseIf (ElseIf c) = ⊥
IsNoElseIf _ = Unit {0}

pub branch_of_statement : (g : Going) (st : PolicyStatement) → IsNoElseIf st → (r : Rest) (s : State) → chosen (go g) (branch_behind (word_of_statement st)) r s ≡ chosen (go g) (Seeking 0) (with_statement st r) s
unfolding run run_levels
branch_of_statement g (If c) h r s = ap (λ (ls : List Level). sought (go g) ls s) (one_outer r.around)
branch_of_statement g (ElseIf c) h r s = absurd h
branch_of_statement g Else h r s = at_else g r s
branch_of_statement g EndIf h r s = refl
branch_of_statement g Pass h r s = refl
branch_of_statement g Done h r s = refl
branch_of_statement g Drop h r s = refl
branch_of_statement g (Act a) h r s = refl
branch_of_statement g (Applies a) h r s = refl

-- ---- where a branch runs: a statement of no form

pub run_of_other : (g : Going) (w : Option IfWord) (r : Rest) (s : State) → chosen (go g) (run_behind w) r s ≡ chosen (go g) Running (with_other w r) s
unfolding run run_levels
run_of_other g None r s = refl
run_of_other g (Some IfWordIf) r s = refl
run_of_other g (Some IfWordElseIf) r s = refl
run_of_other g (Some IfWordElse) r s = refl
run_of_other g (Some IfWordEndIf) r s = refl

-- nothing is left to run behind the last statement
pub at_the_end : (g : Going) (mode : Mode) (s : State) → chosen (go g) mode nothing s ≡ Goes s
unfolding run run_levels
at_the_end g Running s = refl
at_the_end g (Seeking over) s = none_open over
  where
    none_open : (n : ℕ) → sought (go g) (drop n []) s ≡ Goes s
    none_open zero = refl
    none_open (suc n) = refl
at_the_end g (Leaving over) s = none_open over
  where
    none_open : (n : ℕ) → left (go g) (drop n []) s ≡ Goes s
    none_open zero = refl
    none_open (suc n) = refl
