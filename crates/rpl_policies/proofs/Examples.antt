-- Worked examples: sets that are noted, and conditions as terms.
use Rattle.std.proofs.Common.{◌≡◌, refl, ℕ, true, [], ◌∷◌}
use Rattle.std.specs.Prelude.{codes}
use Rattle.prefix_sets.specs.Range.{RangeParts}
use Rattle.route_types.specs.declared.address.Family.TheVariants.{V4}
use Rattle.rpl_words.specs.Conditions.{Asks, Negated, Either, Grouped, terms_of}
use Rattle.rpl_words.specs.declared.condition.RplTest.TheVariants.{IsEmpty, Destination as InSet}
use Rattle.rpl_words.specs.declared.condition.Term.TheVariants.{Test, Group, Not, And, Or}
use Rattle.rpl_words.specs.declared.number.RplSet.TheVariants.{Named}
use Rattle.rpl_plans.specs.declared.test.PlannedTest.TheVariants.{Destination, NextHop, PathIn, NoCommunity}
use Rattle.rpl_policies.specs.Noting.{no_sets, noted_test, noted_tests}
use Rattle.rpl_policies.specs.Own.{own}
use Rattle.rpl_policies.specs.Postfix.{each_before, and_where, joined_terms}

range : ℕ → ℕ → RangeParts
range least most = record { prefix = record { address = record { family = V4; bits = 0 }; length = 0 }; least = least; most = most }

-- the destination and the next hop are asked for in one set; a test without a set notes none
shared : noted_tests no_sets (Destination (range 0 32 ∷ []) ∷ NoCommunity ∷ Destination (range 0 24 ∷ []) ∷ NextHop (range 0 32 ∷ []) ∷ PathIn (codes "_7$" ∷ []) ∷ [])
    ≡ record { prefixes = (range 0 32 ∷ []) ∷ (range 0 24 ∷ []) ∷ []; communities = []; paths = (codes "_7$" ∷ []) ∷ [] }
unfolding noted_tests noted_test own range
shared = refl

-- `.. and (destination in P or community is-empty) and not community is-empty`
joined : joined_terms true (record { first = Grouped (Either (Asks (InSet (Named (codes "P")))) (Asks IsEmpty)); others = Negated (Asks IsEmpty) ∷ [] })
    ≡ (Test (InSet (Named (codes "P"))) ∷ Test IsEmpty ∷ Or ∷ Group ∷ And ∷ Test IsEmpty ∷ Not ∷ And ∷ [])
unfolding joined_terms and_where each_before terms_of
joined = refl
