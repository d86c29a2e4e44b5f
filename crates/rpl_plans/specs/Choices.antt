-- Lists by first match, said by `not`, `and` and `or`: neighbouring entries of one action become one set, and each permit
-- set gives one term: `not` of each deny set before it, and the set itself.
use Rattle.std.specs.Prelude.{◌≡◌, Bool, true, false, ◌&&◌, not, List, [], ◌∷◌, ◌++◌, Option, Some, None}
use Rattle.std.specs.Bool.{beq}
use Rattle.std.specs.List.{list_any, list_all}
use Rattle.rpl_plans.specs.declared.choice.Choice.{Choice}
use Rattle.rpl_plans.specs.declared.choice.PlannedTerm.{PlannedTerm}
use Rattle.rpl_plans.specs.declared.choice.PlannedTerms.{PlannedTerms}
use Rattle.rpl_plans.specs.declared.test.PlannedTest.{PlannedTest}
use Rattle.rpl_plans.specs.declared.test.PlannedTest.TheVariants.{Destination, NextHop, PathIn, MatchesAny}

-- ---- what lists and terms answer, by what tests answer

-- the first entry whose test holds permits or denies; where none holds, the answer is no
unfoldable pub first_choice : (PlannedTest → Bool) → List Choice → Bool
first_choice holds [] = false
first_choice holds (c ∷ cs) = elim (holds c.test) [ true ↦ c.permit | false ↦ first_choice holds cs ]

-- the same, where another answer stands behind the entries
unfoldable pub first_or : (PlannedTest → Bool) → List Choice → Bool → Bool
first_or holds [] later = later
first_or holds (c ∷ cs) later = elim (holds c.test) [ true ↦ c.permit | false ↦ first_or holds cs later ]

-- none of the deny sets before holds, and the permit set does
abbrev pub term_holds : (PlannedTest → Bool) → PlannedTerm → Bool
term_holds holds t = list_all (λ d. not (holds d)) t.denied && holds t.permitted

-- one of the terms holds
abbrev pub terms_hold : (PlannedTest → Bool) → PlannedTerms → Bool
terms_hold holds ts = list_any (term_holds holds) (ts.first ∷ ts.others)

-- ---- one set for neighbours

-- one test in place of two, which holds where one of them does, if there is one
abbrev pub joined : PlannedTest → PlannedTest → Option PlannedTest
joined (Destination rs) (Destination ss) = Some (Destination (rs ++ ss))
joined (NextHop rs) (NextHop ss) = Some (NextHop (rs ++ ss))
joined (PathIn ps) (PathIn qs) = Some (PathIn (ps ++ qs))
joined (MatchesAny rs) (MatchesAny ss) = Some (MatchesAny (rs ++ ss))
joined _ _ = None

-- one entry in place of two of one action
abbrev pub joined_choice : Choice → Choice → Option PlannedTest
joined_choice c d = elim (beq c.permit d.permit) [ true ↦ joined c.test d.test | false ↦ None ]

-- one test was put in place of the first, or none can be
abbrev pub Joins : PlannedTest → PlannedTest → Bool → PlannedTest → Type 0
Joins t u true v = joined t u ≡ Some v
Joins t u false v = (joined t u ≡ None) × (v ≡ t)

-- the same for entries
abbrev pub JoinsChoice : Choice → Choice → Bool → Choice → Type 0
JoinsChoice c d true e = (joined_choice c d ≡ Some e.test) × (e.permit ≡ c.permit)
JoinsChoice c d false e = (joined_choice c d ≡ None) × (e ≡ c)

-- an entry and those behind it, neighbours of one action as one
unfoldable pub grouped_from : Choice → List Choice → List Choice
grouped_from c [] = c ∷ []
grouped_from c (d ∷ ds) = elim (joined_choice c d) [
  | Some test ↦ grouped_from (record { permit = c.permit; test = test }) ds
  | None ↦ c ∷ grouped_from d ds
]

abbrev pub grouped : List Choice → List Choice
grouped [] = []
grouped (c ∷ cs) = grouped_from c cs

-- ---- one term for each permit set

-- the terms of entries behind these deny sets
unfoldable pub terms_from : List PlannedTest → List Choice → List PlannedTerm
terms_from denied [] = []
terms_from denied (c ∷ cs) = elim c.permit [
  | true ↦ record { denied = denied; permitted = c.test } ∷ terms_from denied cs
  | false ↦ terms_from (denied ++ c.test ∷ []) cs
]

-- the terms of a list
abbrev pub terms_of_list : List Choice → List PlannedTerm
terms_of_list cs = terms_from [] (grouped cs)

-- one test as terms
abbrev pub alone : PlannedTest → PlannedTerms
alone t = record { first = record { denied = []; permitted = t }; others = [] }

-- the terms; where there is none, a test that never holds
abbrev pub or_never : PlannedTest → List PlannedTerm → PlannedTerms
or_never never [] = record { first = record { denied = []; permitted = never }; others = [] }
or_never never (t ∷ ts) = record { first = t; others = ts }
