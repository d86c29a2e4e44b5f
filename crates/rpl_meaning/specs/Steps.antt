-- What one statement does in the walk over those of a policy.
use Rattle.std.specs.Prelude.{◌≡◌, ℕ, ◌+◌, ◌-◌, Bool, true, false, List, [], Option, Some, None}
use Rattle.rpl_forms.specs.declared.item.Apply.{Apply}
use Rattle.rpl_forms.specs.declared.item.IfWord.{IfWord}
use Rattle.rpl_forms.specs.declared.item.IfWord.TheVariants.{If as IfWordIf, ElseIf as IfWordElseIf, Else as IfWordElse, EndIf as IfWordEndIf}
use Rattle.rpl_forms.specs.declared.item.PolicyStatement.{PolicyStatement}
use Rattle.rpl_forms.specs.declared.item.RplForm.{RplForm}
use Rattle.rpl_forms.specs.declared.item.RplForm.TheVariants.{Statement, Other}
use Rattle.rpl_forms.specs.declared.item.PolicyStatement.TheVariants.{If, ElseIf, Else, EndIf}
use Rattle.rpl_words.specs.declared.condition.Term.{Term}
use Rattle.rpl_meaning.specs.Conditions.{test_holds, terms_hold}
use Rattle.rpl_meaning.specs.Meaning.{State, Fate, then_on, acted, run, run_policy, handed_on}
use Rattle.rpl_tree.specs.Nesting.{Steps, Rest, with_form}
use Rattle.rpl_meaning.specs.Sets.{Bindings}
use Rattle.rpl_tree.specs.Tree.{forms}
use Rattle.rpl_meaning.specs.Walk.{Run, Start, chosen, state_of, fate_of}
use Rattle.rpl_meaning.specs.declared.tests.World.{World}
use Rattle.rpl_meaning.specs.declared.walk.Mode.{Mode}
use Rattle.rpl_meaning.specs.declared.walk.Mode.TheVariants.{Running, Seeking, Leaving}
use Rattle.rpl_effects.specs.declared.effect.Effect.TheVariants.{GoesOn}
use Rattle.rpl_meaning.specs.declared.walk.Step.{Step}
use Rattle.rpl_meaning.specs.declared.walk.Step.TheVariants.{On, Calls, Ended}

-- the run over steps in a text, on the arriving route, where applied policies end so
abbrev pub running_with : World → Bindings → (Apply → State → Fate) → Steps → State → Fate
running_with w bs call = run (terms_hold (test_holds (forms w.items.now) bs w.route.now) []) (acted (forms w.items.now) bs) call

-- how an applied policy ends in a text, with so many levels of `apply`, where parameters stand for these words
abbrev pub called_in : World → ℕ → Bindings → Apply → State → Fate
called_in w levels bs a s = run_policy levels (forms w.items.now) w.route.now (handed_on (forms w.items.now) bs a) a.policy s

-- the run over steps in a text, with so many levels of `apply`
abbrev pub running_in : World → ℕ → Bindings → Steps → State → Fate
running_in w levels bs = running_with w bs (called_in w levels bs)

-- what is left to run behind a step
abbrev pub after : (Steps → State → Fate) → (Apply → State → Fate) → Start → Rest → Step → Fate
after go call p r (On place) = chosen go place.mode r (state_of p place.run)
after go call p r (Calls a run) = then_on (chosen go Running r) (call a.now (state_of p run))
after go call p r (Ended ending) = fate_of p ending

-- a step is what a form does where the walk stands, whatever applied policies do and stands behind it
abbrev pub Does : World → Bindings → Mode → RplForm → Run → Step → Type 0
Does w bs mode f run x =
    (call : Apply → State → Fate) (p : Start) (r : Rest) → after (running_with w bs call) call p r x ≡ chosen (running_with w bs call) mode (with_form f r) (state_of p run)

-- where the walk stands behind a condition: in its branch, or where the next one is looked for
abbrev pub branch_by : Bool → Mode
branch_by true = Running
branch_by false = Seeking 0

-- the word of `if`s that a statement begins with
abbrev pub word_of_statement : PolicyStatement → Option IfWord
word_of_statement (If c) = Some IfWordIf
word_of_statement (ElseIf c) = Some IfWordElseIf
word_of_statement Else = Some IfWordElse
word_of_statement EndIf = Some IfWordEndIf
word_of_statement _ = None

-- the same of a form
abbrev pub word_of_form : RplForm → Option IfWord
word_of_form (Statement s) = word_of_statement s
word_of_form (Other o) = o.keyword
word_of_form _ = None

-- the statement of a policy that a form is
abbrev pub statement_in : RplForm → Option PolicyStatement
statement_in (Statement s) = Some s
statement_in _ = None

-- the condition of a form that is `elseif`
abbrev pub else_if_in : RplForm → Option (List Term)
else_if_in (Statement (ElseIf c)) = Some c
else_if_in _ = None

-- how many `if`s that are passed over are open behind a word
abbrev pub over_behind : Option IfWord → ℕ → ℕ
over_behind (Some IfWordIf) over = over + 1
over_behind (Some IfWordEndIf) over = over - 1
over_behind _ over = over

-- where the end of an `if` is looked for behind a word
abbrev pub end_behind : Option IfWord → Mode
end_behind (Some IfWordIf) = Leaving 1
end_behind (Some IfWordEndIf) = Running
end_behind _ = Leaving 0

-- where the next branch of an `if` is looked for behind a word: a branch without a condition runs
abbrev pub branch_behind : Option IfWord → Mode
branch_behind (Some IfWordIf) = Seeking 1
branch_behind (Some IfWordElse) = Running
branch_behind (Some IfWordEndIf) = Running
branch_behind _ = Seeking 0

-- where the walk stands behind a word in a branch that runs: an `if` of no form leaves its branches out
abbrev pub run_behind : Option IfWord → Mode
run_behind (Some IfWordEndIf) = Running
run_behind (Some w) = Leaving 0
run_behind None = Running

-- a form that is passed over: the walk stands there behind it, or the policy has ended
abbrev pub passed : Mode → RplForm → Run → Step
passed mode (Statement s) run = On (record { mode = mode; run = run })
passed mode (Other o) run = On (record { mode = mode; run = run })
passed mode _ run = Ended (GoesOn run)
