-- Guards as conditions of RPL (Cisco IOS XR Routing Configuration Guide, 'if'): literals in their order, joined by `and`; a
-- literal's terms joined by `or`, in parentheses where the guard has other literals; a literal that isn't wanted is `not`
-- before a single test, and `not` before parentheses round anything else.
use Rattle.std.specs.Prelude.{true, false, List, [], ◌∷◌, ◌++◌, map}
use Rattle.rpl_words.specs.Conditions.{Condition, Asks, Grouped, Negated, Both, Either}
use Rattle.rpl_words.specs.declared.condition.RplTest.{RplTest}
use Rattle.rpl_plans.specs.declared.choice.PlannedTerm.{PlannedTerm}
use Rattle.rpl_plans.specs.declared.step.PlannedLiteral.{PlannedLiteral}
use Rattle.rpl_plans.specs.declared.test.PlannedTest.{PlannedTest}

-- how tests are written: a test whose set has a name by that name
abbrev pub Writing : Type 0
Writing = PlannedTest → RplTest

-- conditions of which there is at least one
pub record Conditions : Type 0 where
  pub first : Condition
  pub others : List Condition

-- these conditions before those
abbrev pub before_others : Conditions → Conditions → Conditions
before_others cs ds = record { first = cs.first; others = cs.others ++ ds.first ∷ ds.others }

-- a condition and others behind it, joined one after the other
unfoldable pub joined_from : (Condition → Condition → Condition) → Condition → List Condition → Condition
joined_from join c [] = c
joined_from join c (d ∷ ds) = joined_from join (join c d) ds

-- conditions joined by `and`, by `or`
abbrev pub all_of : Conditions → Condition
all_of cs = joined_from Both cs.first cs.others

abbrev pub some_of : Conditions → Condition
some_of cs = joined_from Either cs.first cs.others

-- `not` of each deny set, and then the permit set
abbrev pub behind_denied : Writing → List PlannedTest → PlannedTest → Conditions
behind_denied written [] permitted = record { first = Asks (written permitted); others = [] }
behind_denied written (d ∷ ds) permitted = record { first = Negated (Asks (written d)); others = map (λ t. Negated (Asks (written t))) ds ++ Asks (written permitted) ∷ [] }

-- what a term asks
abbrev pub term_conditions : Writing → PlannedTerm → Conditions
term_conditions written t = behind_denied written t.denied t.permitted

abbrev pub term_condition : Writing → PlannedTerm → Condition
term_condition written t = all_of (term_conditions written t)

-- one of the terms
abbrev pub terms_condition : Writing → PlannedTerm → List PlannedTerm → Condition
terms_condition written t ts = some_of (record { first = term_condition written t; others = map (λ u. term_condition written u) ts })

-- what `not` stands before
abbrev pub unwanted : Writing → List PlannedTest → PlannedTest → List PlannedTerm → Condition
unwanted written [] permitted [] = Negated (Asks (written permitted))
unwanted written denied permitted ts = Negated (Grouped (terms_condition written (record { denied = denied; permitted = permitted }) ts))

-- a wanted literal among others
abbrev pub wanted_among : Writing → PlannedTerm → List PlannedTerm → Conditions
wanted_among written t [] = term_conditions written t
wanted_among written t (u ∷ us) = record { first = Grouped (terms_condition written t (u ∷ us)); others = [] }

-- a literal among others
abbrev pub literal_among : Writing → PlannedLiteral → Conditions
literal_among written l = elim l.wanted [
  | true ↦ wanted_among written l.terms.first l.terms.others
  | false ↦ record { first = unwanted written l.terms.first.denied l.terms.first.permitted l.terms.others; others = [] }
]

-- the literals of a guard in their order
abbrev pub literals_joined : Writing → PlannedLiteral → List PlannedLiteral → Conditions
literals_joined written l [] = literal_among written l
literals_joined written l (m ∷ ms) = before_others (literal_among written l) (literals_joined written m ms)

-- a literal alone
abbrev pub literal_alone : Writing → PlannedLiteral → Condition
literal_alone written l = elim l.wanted [
  | true ↦ terms_condition written l.terms.first l.terms.others
  | false ↦ unwanted written l.terms.first.denied l.terms.first.permitted l.terms.others
]

-- the condition of a guard
abbrev pub guard_condition : Writing → PlannedLiteral → List PlannedLiteral → Condition
guard_condition written l [] = literal_alone written l
guard_condition written l (m ∷ ms) = all_of (literals_joined written l (m ∷ ms))
