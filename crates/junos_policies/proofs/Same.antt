-- Values that are taken for the same are one value.
use Rattle.std.proofs.Common.{◌≡◌, ap, sym, ℕ, Bool, true, ◌&&◌, ◌==◌, List, true≢false, refl}
use Rattle.std.proofs.lemmas.Bool.{and_parts}
use Rattle.std.specs.Bool.{beq}
use Rattle.std.specs.Cmp.Lexicographic.{pointwise}
use Rattle.core_nodes.proofs.Tells.{Tells, numbers_tell, truths_tell, lists_tell, one_tells, none_tells, enum_tells}
use Rattle.route_types.specs.Address.{PrefixParts}
use Rattle.route_types.specs.Community.{RectParts}
use Rattle.route_types.specs.declared.address.Address.{Address}
use Rattle.route_types.specs.declared.address.Family.{Family}
use Rattle.route_types.specs.declared.address.Family.TheVariants.{V4, V6}
use Rattle.route_types.specs.declared.route.Origin.{Origin}
use Rattle.route_types.specs.declared.route.Origin.TheVariants.{Igp, Egp, Incomplete}
use Rattle.route_types.specs.contracts.address.FamilyPartialEq.TheImpl as family
use Rattle.route_types.specs.contracts.route.OriginPartialEq.TheImpl as origin
use Rattle.prefix_sets.specs.Range.{RangeParts}
use Rattle.junos_plans.specs.contracts.condition.PlannedCondition as conditions
use Rattle.junos_plans.specs.contracts.condition.PlannedConditionPartialEq.TheImpl as condition
use Rattle.junos_plans.specs.contracts.step.PlannedLiteralPartialEq.TheImpl as literal
use Rattle.junos_plans.specs.declared.condition.PlannedCondition.{PlannedCondition}
use Rattle.junos_plans.specs.declared.condition.PlannedEntry.{PlannedEntry}
use Rattle.junos_plans.specs.declared.condition.PlannedList.{PlannedList}
use Rattle.junos_plans.specs.declared.condition.PlannedTest.{PlannedTest}
use Rattle.junos_plans.specs.declared.condition.PlannedTest.TheVariants.{Asked, Listed}
use Rattle.junos_plans.specs.declared.step.PlannedLiteral.{PlannedLiteral}
use Rattle.junos_plans.specs.contracts.condition.PlannedListEq.TheImpl.Laws as list_law
use Rattle.junos_plans.specs.contracts.condition.PlannedTestEq.TheImpl.Laws as test_law
use Rattle.junos_plans.specs.contracts.step.PlannedLiteralEq.TheImpl.Laws as literal_law
use Rattle.route_types.specs.contracts.community.RectEq.TheImpl.Laws as rect_law
use Rattle.std.proofs.lemmas.Cmp.{lists_equiv, nat_eq_equiv}
use Rattle.junos_policies.specs.Same.{same_text, same_rect, same_members, same_list, same_test, same_guard}

-- ---- addresses and ranges

families : (a b : Family) → family.ghosts.eq a b ≡ true → a ≡ b
families V4 V4 e = refl
families V4 V6 e = absurd (true≢false (sym e))
families V6 V4 e = absurd (true≢false (sym e))
families V6 V6 e = refl

abbrev same_address : Address → Address → Bool
same_address a b = family.ghosts.eq a.family b.family && a.bits == b.bits

addresses : Tells same_address
addresses = record {
  same = λ a b e.
      let parts = and_parts (family.ghosts.eq a.family b.family) (a.bits == b.bits) e in
      let bits = numbers_tell.same a.bits b.bits parts.1 in
      λ i. record { family = families a.family b.family parts.0 i; bits = bits i };
}

abbrev same_prefix : PrefixParts → PrefixParts → Bool
same_prefix a b = same_address a.address b.address && a.length == b.length

prefixes : (a b : PrefixParts) → same_prefix a b ≡ true → a ≡ b
prefixes a b e =
    let parts = and_parts (same_address a.address b.address) (a.length == b.length) e in
    let n = numbers_tell.same a.length b.length parts.1 in
    λ i. record { address = addresses.same a.address b.address parts.0 i; length = n i }

abbrev same_range : RangeParts → RangeParts → Bool
same_range a b = same_prefix a.prefix b.prefix && (a.least == b.least && a.most == b.most)

ranges : Tells same_range
ranges = record {
  same = λ a b e.
      let parts = and_parts (same_prefix a.prefix b.prefix) (a.least == b.least && a.most == b.most) e in
      let ends = and_parts (a.least == b.least) (a.most == b.most) parts.1 in
      let least = numbers_tell.same a.least b.least ends.0 in
      let most = numbers_tell.same a.most b.most ends.1 in
      λ i. record { prefix = prefixes a.prefix b.prefix parts.0 i; least = least i; most = most i };
}

origins : (a b : Origin) → origin.ghosts.eq a b ≡ true → a ≡ b
origins Igp Igp e = refl
origins Igp Egp e = absurd (true≢false (sym e))
origins Igp Incomplete e = absurd (true≢false (sym e))
origins Egp Igp e = absurd (true≢false (sym e))
origins Egp Egp e = refl
origins Egp Incomplete e = absurd (true≢false (sym e))
origins Incomplete Igp e = absurd (true≢false (sym e))
origins Incomplete Egp e = absurd (true≢false (sym e))
origins Incomplete Incomplete e = refl

-- ---- texts and members

texts_tell : Tells same_text
texts_tell = lists_tell (λ m n. m == n) numbers_tell

pub text_itself : (a : List ℕ) → same_text a a ≡ true
text_itself a = (lists_equiv nat_eq_equiv).refl a

pub texts : (a b : List ℕ) → same_text a b ≡ true → a ≡ b
texts a b e = texts_tell.same a b e

rects : Tells same_rect
rects = record {
  same = λ a b e.
      let first = and_parts (a.high_least == b.high_least) (a.high_most == b.high_most && (a.low_least == b.low_least && a.low_most == b.low_most)) e in
      let second = and_parts (a.high_most == b.high_most) (a.low_least == b.low_least && a.low_most == b.low_most) first.1 in
      let third = and_parts (a.low_least == b.low_least) (a.low_most == b.low_most) second.1 in
      let high_least = numbers_tell.same a.high_least b.high_least first.0 in
      let high_most = numbers_tell.same a.high_most b.high_most second.0 in
      let low_least = numbers_tell.same a.low_least b.low_least third.0 in
      let low_most = numbers_tell.same a.low_most b.low_most third.1 in
      λ i. record { high_least = high_least i; high_most = high_most i; low_least = low_least i; low_most = low_most i };
}

members_tell : Tells same_members
members_tell = lists_tell same_rect rects

pub members_itself : (a : List RectParts) → same_members a a ≡ true
members_itself a = (lists_equiv rect_law.laws-law).refl a

pub members : (a b : List RectParts) → same_members a b ≡ true → a ≡ b
members a b e = members_tell.same a b e

-- ---- conditions, lists, tests and literals

conditions_tell : (a b : PlannedCondition) → condition.ghosts.eq a b ≡ true → a ≡ b
conditions_tell a b e =
    enum_tells conditions.enum (
      λ x y. true,
      (
        λ x y. pointwise same_range x.0 y.0,
        (
          λ x y. pointwise same_address x.0 y.0,
          (
            λ x y. pointwise same_text x.0 y.0,
            (
              λ x y. pointwise same_members x.0 y.0,
              (
                λ x y. x.0 == y.0,
                (
                  λ x y. x.0 == y.0,
                  (
                    λ x y. origin.ghosts.eq x.0 y.0,
                    (tt),
                  ),
                ),
              ),
            ),
          ),
        ),
      ),
    ) (
      none_tells,
      (
        one_tells _ (lists_tell same_range ranges),
        (
          one_tells _ (lists_tell same_address addresses),
          (
            one_tells _ (lists_tell same_text texts_tell),
            (
              one_tells _ (lists_tell same_members members_tell),
              (
                one_tells _ numbers_tell,
                (
                  one_tells _ numbers_tell,
                  (
                    one_tells _ (record { same = origins }),
                    (tt),
                  ),
                ),
              ),
            ),
          ),
        ),
      ),
    ) a b e

abbrev same_entry : PlannedEntry → PlannedEntry → Bool
same_entry a b = beq a.permit b.permit && condition.ghosts.eq a.condition b.condition

entries : Tells same_entry
entries = record {
  same = λ a b e.
      let parts = and_parts (beq a.permit b.permit) (condition.ghosts.eq a.condition b.condition) e in
      let permit = truths_tell.same a.permit b.permit parts.0 in
      λ i. record { permit = permit i; condition = conditions_tell a.condition b.condition parts.1 i };
}

pub list_itself : (a : PlannedList) → same_list a a ≡ true
list_itself a = list_law.laws-law.refl a

pub lists : (a b : PlannedList) → same_list a b ≡ true → a ≡ b
lists a b e = let es = (lists_tell same_entry entries).same a.entries b.entries e in λ i. record { entries = es i }

pub test_itself : (a : PlannedTest) → same_test a a ≡ true
test_itself a = test_law.laws-law.refl a

pub tests : (a b : PlannedTest) → same_test a b ≡ true → a ≡ b
tests (Asked c) (Asked d) e = ap Asked (conditions_tell c d e)
tests (Asked c) (Listed ls) e = absurd (true≢false (sym e))
tests (Listed ls) (Asked c) e = absurd (true≢false (sym e))
tests (Listed ls) (Listed ms) e = ap Listed ((lists_tell same_list (record { same = lists })).same ls ms e)

abbrev same_literal : PlannedLiteral → PlannedLiteral → Bool
same_literal l m = same_test l.test m.test && beq l.wanted m.wanted

literals : (l m : PlannedLiteral) → literal.ghosts.eq l m ≡ true → l ≡ m
literals l m e =
    let parts = and_parts (same_test l.test m.test) (beq l.wanted m.wanted) e in
    let wanted = truths_tell.same l.wanted m.wanted parts.1 in
    λ i. record { test = tests l.test m.test parts.0 i; wanted = wanted i }

pub guard_itself : (a : List PlannedLiteral) → same_guard a a ≡ true
guard_itself a = (lists_equiv literal_law.laws-law).refl a

pub guards : (a b : List PlannedLiteral) → same_guard a b ≡ true → a ≡ b
guards a b e = (lists_tell (λ l m. literal.ghosts.eq l m) (record { same = literals })).same a b e
