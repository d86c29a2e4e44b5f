-- The actions of planned steps that fit may be written.
use Rattle.std.proofs.Common.{◌≡◌, refl, ℕ, ◌+◌, ◌^◌, ◌<◌, ◌≤◌, Bool, true, false, List, [], ◌∷◌, ◌++◌, map, arith, Option, Some, None}
use Rattle.std.specs.Prelude.{nat_lt, ◌==◌}
use Rattle.std.specs.List.{list_any, AllByRecursion}
use Rattle.std.proofs.lemmas.Bool.{and_parts}
use Rattle.std.proofs.lemmas.Bool.Decides.{nat_tests}
use Rattle.path_patterns.proofs.Lists.{all_append}
use Rattle.policy_core.specs.Sayable.{hop_in_range}
use Rattle.route_types.specs.Address.{same_family}
use Rattle.route_types.specs.Community.{RectParts}
use Rattle.route_types.specs.declared.address.Family.{Family}
use Rattle.route_types.specs.declared.address.Family.TheVariants.{V4, V6}
use Rattle.route_types.specs.declared.community.CommChange.{CommChange}
use Rattle.route_types.specs.declared.community.Community.{Community}
use Rattle.route_types.specs.declared.route.NextHop.{NextHop}
use Rattle.route_types.specs.declared.route.NextHop.TheVariants.{At, Own}
use Rattle.rpl_words.specs.declared.number.RplNumber.TheVariants.{Fixed}
use Rattle.rpl_forms.specs.declared.item.Action.{Action}
use Rattle.rpl_forms.specs.declared.item.Action.TheVariants.{SetMed, SetLocalPreference, SetWeight, SetOrigin, SetNextHop}
use Rattle.rpl_plans.specs.Fits.{FitsNumber, FitsRect, FitsCommunity, FitsValue, FitsChange, FitsActions}
use Rattle.rpl_plans.specs.declared.actions.PlannedActions.{PlannedActions}
use Rattle.rpl_layout.specs.Statements.{set_to, prepend_of, goes_on, prepends_from, prepends_of, is_all, rect_alone, deletion, setting, replacement, everything, community_actions, actions_of}
use Rattle.rpl_text.specs.Written.{FitsRect as FitsWrittenRect, FitsNextHop, FitsAction}
use Rattle.rpl_writable.proofs.SetLaws.{all_each, all_map, rect_written}

set_fits : {A : Type 0} (P : A → Type 0) (make : A → Action) → ((x : A) → P x → FitsAction (make x)) → (o : Option A) → FitsValue P o → AllByRecursion FitsAction (set_to make o)
set_fits P make each None h = tt
set_fits P make each (Some x) h = (each x h, tt)

-- an action that may always be written
any_fits : {A : Type 0} (make : A → Action) → ((x : A) → FitsAction (make x)) → (o : Option A) → AllByRecursion FitsAction (set_to make o)
any_fits make each None = tt
any_fits make each (Some x) = (each x, tt)

-- ---- next hops

family_v4 : (f : Family) → same_family V4 f ≡ true → f ≡ V4
family_v4 V4 e = refl
family_v4 V6 e = absurd cc

below : (a b : ℕ) → nat_lt a b ≡ true → a < b
below a b e = grind (arith, nat_tests)

hop_fits : (h : NextHop) → hop_in_range h ≡ true → FitsNextHop h
hop_fits (At a) e = let parts = and_parts (same_family V4 a.family) (nat_lt a.bits (2 ^ 32)) e in (family_v4 a.family parts.0, below a.bits (2 ^ 32) parts.1)
hop_fits Own e = tt

-- ---- numbers before the path

room : (m n times : ℕ) → goes_on m times n ≡ true → times + 1 ≤ 63
room m n times e = let parts = and_parts (m == n) (nat_lt times 63) e in let h : times < 63 = below times 63 parts.1 in omega arith

prepends_fit : (m times : ℕ) (ns : List ℕ) → FitsNumber m → 1 ≤ times → times ≤ 63 → AllByRecursion FitsNumber ns → AllByRecursion FitsAction (prepends_from m times ns)
unfolding prepends_from
prepends_fit m times [] h some few all = ((omega (arith, h), (some, few)), tt)
prepends_fit m times (n ∷ ns) h some few all =
    one (goes_on m times n) refl (λ more. prepends_fit m (times + 1) ns h (omega arith) more all.1) (prepends_fit n 1 ns all.0 (omega arith) (omega arith) all.1) where
      one : (b : Bool) → goes_on m times n ≡ b → (times + 1 ≤ 63 → AllByRecursion FitsAction (prepends_from m (times + 1) ns)) → AllByRecursion FitsAction (prepends_from n 1 ns)
          → AllByRecursion FitsAction (elim b [ true ↦ prepends_from m (times + 1) ns | false ↦ prepend_of m times ∷ prepends_from n 1 ns ])
      one true e more anew = more (room m n times e)
      one false e more anew = ((omega (arith, h), (some, few)), anew)

all_prepends : (ns : List ℕ) → AllByRecursion FitsNumber ns → AllByRecursion FitsAction (prepends_of ns)
all_prepends [] h = tt
all_prepends (n ∷ ns) h = prepends_fit n 1 ns h.0 (omega arith) (omega arith) h.1

-- ---- communities

alone_fits : (c : Community) → FitsCommunity c → FitsWrittenRect (rect_alone c)
alone_fits c h = record {
  high = omega arith;
  low = omega arith;
  high_most = omega (arith, h);
  low_most = omega arith;
}

deletion_fits : (rs : List RectParts) → AllByRecursion FitsWrittenRect rs → AllByRecursion FitsAction (deletion rs)
deletion_fits [] h = tt
deletion_fits (x ∷ xs) h = ((omega arith, h), tt)

setting_fits : (additive : Bool) (rs : List RectParts) → AllByRecursion FitsWrittenRect rs → AllByRecursion FitsAction (setting additive rs)
setting_fits additive [] h = tt
setting_fits additive (x ∷ xs) h = ((omega arith, h), tt)

everything_fits : FitsWrittenRect everything
everything_fits = record { high = omega arith; low = omega arith; high_most = omega arith; low_most = omega arith }

replacement_fits : (rs : List RectParts) → AllByRecursion FitsWrittenRect rs → AllByRecursion FitsAction (replacement everything rs)
replacement_fits [] h = deletion_fits (everything ∷ []) (everything_fits, tt)
replacement_fits (x ∷ xs) h = setting_fits false (x ∷ xs) h

communities_fit : (o : Option CommChange) → FitsValue FitsChange o → AllByRecursion FitsAction (community_actions o)
communities_fit None h = tt
communities_fit (Some c) h = one (list_any is_all c.removed) where
  added : AllByRecursion FitsWrittenRect (map rect_alone c.added)
  added = all_map FitsCommunity FitsWrittenRect rect_alone alone_fits c.added h.added

  one : (b : Bool) → AllByRecursion FitsAction (elim b [ true ↦ replacement everything (map rect_alone c.added) | false ↦ deletion c.removed ++ setting true (map rect_alone c.added) ])
  one true = replacement_fits (map rect_alone c.added) added
  one false =
      all_append FitsAction (deletion c.removed) (setting true (map rect_alone c.added)) (deletion_fits c.removed (all_each FitsRect FitsWrittenRect rect_written c.removed h.removed))
      (setting_fits true (map rect_alone c.added) added)

-- ---- all of them

pub actions_fit : (a : PlannedActions) → FitsActions a → AllByRecursion FitsAction (actions_of a)
actions_fit a h =
    all_append FitsAction (set_to (λ n. SetLocalPreference (Fixed n)) a.local_preference) _ (set_fits FitsNumber (λ n. SetLocalPreference (Fixed n)) (λ n k. omega (arith, k)) a.local_preference h.local_preference)
    (all_append FitsAction (set_to (λ n. SetMed (Fixed n)) a.med) _ (set_fits FitsNumber (λ n. SetMed (Fixed n)) (λ n k. omega (arith, k)) a.med h.med)
    (all_append FitsAction (set_to (λ n. SetWeight (Fixed n)) a.weight) _ (set_fits (λ n. n < 2 ^ 16) (λ n. SetWeight (Fixed n)) (λ n k. omega (arith, k)) a.weight h.weight)
    (all_append FitsAction (set_to SetOrigin a.origin) _ (any_fits SetOrigin (λ x. tt) a.origin)
    (all_append FitsAction (set_to SetNextHop a.next_hop) _ (set_fits (λ k. hop_in_range k ≡ true) SetNextHop hop_fits a.next_hop h.next_hop)
    (all_append FitsAction (prepends_of a.prepended) (community_actions a.communities) (all_prepends a.prepended h.prepended) (communities_fit a.communities h.communities))))))
