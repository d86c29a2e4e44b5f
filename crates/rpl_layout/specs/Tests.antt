-- Each test of planned steps.
use Rattle.std.specs.Prelude.{List}
use Rattle.std.specs.List.{AllByRecursion}
use Rattle.rpl_plans.specs.declared.choice.PlannedTerm.{PlannedTerm}
use Rattle.rpl_plans.specs.declared.choice.PlannedTerms.{PlannedTerms}
use Rattle.rpl_plans.specs.declared.step.PlannedStep.{PlannedStep}
use Rattle.rpl_plans.specs.declared.test.PlannedTest.{PlannedTest}

-- of a term
abbrev pub EachOfTerm : (PlannedTest → Type 0) → PlannedTerm → Type 0
EachOfTerm P t = AllByRecursion P t.denied × P t.permitted

-- of terms
abbrev pub EachOfTerms : (PlannedTest → Type 0) → PlannedTerms → Type 0
EachOfTerms P ts = EachOfTerm P ts.first × AllByRecursion (EachOfTerm P) ts.others

-- of steps
abbrev pub EachTest : (PlannedTest → Type 0) → List PlannedStep → Type 0
EachTest P steps = AllByRecursion (λ s. AllByRecursion (λ l. EachOfTerms P l.terms) s.guard) steps
