-- How the literals of a guard are said, and what is done with members, by cases.
use Rattle.std.proofs.Common.{◌≡◌, refl, Bool, true, false, not, List, [], ◌∷◌, length, ◌==◌, sym, ℕ, suc, eqb-true, arith}
use Rattle.route_types.specs.Community.{RectParts}
use Rattle.junos_tree.specs.declared.item.Action.TheVariants.{Community as ChangeCommunities}
use Rattle.junos_tree.specs.declared.item.CommunityVerb.{CommunityVerb}
use Rattle.junos_tree.specs.declared.item.CommunityVerb.TheVariants.{Set, Delete}
use Rattle.junos_tree.specs.declared.item.Condition.TheVariants.{Policy}
use Rattle.junos_plans.specs.declared.condition.PlannedTest.{PlannedTest}
use Rattle.junos_plans.specs.declared.condition.PlannedTest.TheVariants.{Asked, Listed}
use Rattle.junos_plans.specs.declared.step.PlannedLiteral.{PlannedLiteral}
use Rattle.junos_layout.specs.Actions.{done_with, replaced, everything}
use Rattle.junos_layout.specs.Terms.{call_of, one_literal, literal_lines}
use Rattle.junos_layout.specs.Writing.{AllOf, Writing}
use Rattle.junos_policies.specs.Parts.{is_by_lists, needs_guard, test_lists, guard_lists}

-- a number behind another isn't 0
pub some_items : (n : ℕ) → true ≡ (suc n == 0) → ⊥
some_items n e = let none = eqb-true (suc n) 0 (sym e) in omega (arith, none)

-- ---- literals

one_by_guard : (w : Writing) (test : PlannedTest) (wanted : Bool) → not (is_by_lists test wanted) ≡ true
    → one_literal w test wanted ≡ Policy (w.subroutine (AllOf (record { test = test; wanted = wanted } ∷ [])) ∷ []) ∷ []
one_by_guard w (Asked c) true e = refl
one_by_guard w (Asked c) false e = refl
one_by_guard w (Listed ls) true e = absurd cc
one_by_guard w (Listed ls) false e = refl

pub said_by_guard : (w : Writing) (ls : List PlannedLiteral) → true ≡ needs_guard ls → literal_lines w ls ≡ Policy (w.subroutine (AllOf ls) ∷ []) ∷ []
said_by_guard w [] e = absurd cc
said_by_guard w (l ∷ []) e = one_by_guard w l.test l.wanted (sym e)
said_by_guard w (l ∷ m ∷ ls) e = refl

pub said_by_none : (w : Writing) (ls : List PlannedLiteral) → true ≡ (length ls == 0) → literal_lines w ls ≡ []
said_by_none w [] e = refl
said_by_none w (l ∷ ls) e = absurd (some_items (length ls) e)

one_by_lists : (w : Writing) (test : PlannedTest) (wanted : Bool) → not (is_by_lists test wanted) ≡ false
    → one_literal w test wanted ≡ call_of w (elim wanted [ true ↦ test_lists test | false ↦ [] ]) ∷ []
one_by_lists w (Asked c) true e = absurd cc
one_by_lists w (Asked c) false e = absurd cc
one_by_lists w (Listed ls) true e = refl
one_by_lists w (Listed ls) false e = absurd cc

pub said_by_lists : (w : Writing) (ls : List PlannedLiteral) → false ≡ needs_guard ls → false ≡ (length ls == 0) → literal_lines w ls ≡ call_of w (guard_lists ls) ∷ []
said_by_lists w [] e some = absurd cc
said_by_lists w (l ∷ []) e some = one_by_lists w l.test l.wanted (sym e)
said_by_lists w (l ∷ m ∷ ls) e some = absurd cc

-- ---- members

pub done_none : (w : Writing) (verb : CommunityVerb) (rs : List RectParts) → true ≡ (length rs == 0) → done_with w verb rs ≡ []
done_none w verb [] e = refl
done_none w verb (r ∷ rs) e = absurd (some_items (length rs) e)

pub done_some : (w : Writing) (verb : CommunityVerb) (rs : List RectParts) → false ≡ (length rs == 0) → done_with w verb rs ≡ ChangeCommunities (record { verb = verb; community = w.community rs }) ∷ []
done_some w verb [] e = absurd cc
done_some w verb (r ∷ rs) e = refl

pub replaced_none : (w : Writing) (rs : List RectParts) → true ≡ (length rs == 0) → replaced w rs ≡ done_with w Delete (everything ∷ [])
replaced_none w [] e = refl
replaced_none w (r ∷ rs) e = absurd (some_items (length rs) e)

pub replaced_some : (w : Writing) (rs : List RectParts) → false ≡ (length rs == 0) → replaced w rs ≡ done_with w Set rs
replaced_some w [] e = absurd cc
replaced_some w (r ∷ rs) e = refl
