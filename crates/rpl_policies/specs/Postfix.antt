-- The terms of conditions that are joined one after the other: each condition but the first is followed by what joins it to
-- those before.
use Rattle.std.specs.Prelude.{Bool, true, false, List, [], ◌∷◌, ◌++◌}
use Rattle.rpl_words.specs.Conditions.{Condition, terms_of}
use Rattle.rpl_words.specs.declared.condition.Term.{Term}
use Rattle.rpl_words.specs.declared.condition.Term.TheVariants.{And}
use Rattle.rpl_plans.specs.declared.choice.PlannedTerm.{PlannedTerm}
use Rattle.rpl_plans.specs.declared.test.PlannedTest.{PlannedTest}
use Rattle.rpl_layout.specs.Guards.{Conditions}

-- each condition, and this term behind it
unfoldable pub each_before : Term → List Condition → List Term
each_before join [] = []
each_before join (c ∷ cs) = terms_of c ++ (join ∷ each_before join cs)

-- `and`, where something stands before
unfoldable pub and_where : Bool → List Term
and_where true = And ∷ []
and_where false = []

-- conditions that `and` joins, to what stands before them too where something does
unfoldable pub joined_terms : Bool → Conditions → List Term
joined_terms joined cs = terms_of cs.first ++ (and_where joined ++ each_before And cs.others)

-- no deny set, and no other term: a test alone
abbrev pub is_lone : List PlannedTest → List PlannedTerm → Bool
is_lone [] [] = true
is_lone _ _ = false
