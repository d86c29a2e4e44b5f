-- Branches one behind the other.
use Rattle.std.proofs.Common.{◌≡◌, refl, sym, ap, ◌∙◌, ℕ, ◌<◌, Bool, true, false, ◌&&◌, List, length, if◌then◌else◌}
use Rattle.std.specs.Prelude.{not}
use Rattle.route_types.specs.Route.{RouteParts, InRange}
use Rattle.core_nodes.specs.Atoms.{atom_holds}
use Rattle.core_nodes.specs.Made.{Keeps, IsMade}
use Rattle.core_nodes.specs.Outcome.{outcome_at}
use Rattle.core_nodes.specs.declared.atom.Atom.{Atom}
use Rattle.core_nodes.specs.declared.node.NodeKind.{NodeKind}
use Rattle.core_nodes.specs.declared.node.NodeKind.TheVariants.{Test}
use Rattle.core_nodes.proofs.Places.{keeps_all, keeps_both}
use Rattle.policy_core.specs.Settled.{IsSettled}
use Rattle.policy_core.proofs.SettledLaws.{settled_grown, test_settled}
use Rattle.community_branches.specs.Branches.{IsBranch}

-- a node that tests an atom
pub made_branch : (old new : List NodeKind) (a : Atom) (met unmet n : ℕ) → met < length old → unmet < length old → Keeps old new → IsMade old new (Test a met unmet) n → IsBranch old new (λ r. atom_holds a r) met unmet n
made_branch old new a met unmet n one other keeps made = record {
  within = made.at.within;
  keeps = keeps;
  answers = λ r range. made.answers r;
  settled = λ x y. test_settled new n met unmet a (record { facts = made.facts; there = made.at.there }) (settled_grown old new met keeps one x) (settled_grown old new unmet keeps other y);
}

-- a test that always holds leads to the one node
pub always : (old : List NodeKind) (t : RouteParts → Bool) (met unmet : ℕ) → met < length old → ((r : RouteParts) → InRange r → t r ≡ true) → IsBranch old old t met unmet met
always old t met unmet one holds = record {
  within = one;
  keeps = keeps_all old;
  answers = λ r range. ap (λ (b : Bool). outcome_at old (if b then met else unmet) r) (sym (holds r range));
  settled = λ x y. x;
}

-- and one that never holds to the other one
pub never : (old : List NodeKind) (t : RouteParts → Bool) (met unmet : ℕ) → unmet < length old → ((r : RouteParts) → InRange r → t r ≡ false) → IsBranch old old t met unmet unmet
never old t met unmet other fails = record {
  within = other;
  keeps = keeps_all old;
  answers = λ r range. ap (λ (b : Bool). outcome_at old (if b then met else unmet) r) (sym (fails r range));
  settled = λ x y. y;
}

-- tests that hold for the same routes
pub same_branch : (old new : List NodeKind) (t u : RouteParts → Bool) (met unmet n : ℕ) → IsBranch old new t met unmet n → ((r : RouteParts) → InRange r → t r ≡ u r) → IsBranch old new u met unmet n
same_branch old new t u met unmet n b same = record {
  within = b.within;
  keeps = b.keeps;
  answers = λ r range. b.answers r range ∙ ap (λ (x : Bool). outcome_at old (if x then met else unmet) r) (same r range);
  settled = b.settled;
}

turned_by : (x : Bool) (met unmet : ℕ) → (if x then unmet else met) ≡ (if not x then met else unmet)
turned_by true met unmet = refl
turned_by false met unmet = refl

-- the two nodes in the other order
pub turned : (old new : List NodeKind) (t : RouteParts → Bool) (met unmet n : ℕ) → IsBranch old new t unmet met n → IsBranch old new (λ r. not (t r)) met unmet n
turned old new t met unmet n b = record {
  within = b.within;
  keeps = b.keeps;
  answers = λ r range. b.answers r range ∙ ap (λ (p : ℕ). outcome_at old p r) (turned_by (t r) met unmet);
  settled = λ x y. b.settled y x;
}

-- ---- two branches

one_of : (b : Bool) (met unmet : ℕ) (P : ℕ → Type 0) → P met → P unmet → P (if b then met else unmet)
one_of true met unmet P x y = x
one_of false met unmet P x y = y

-- the answer of the first test, or of the second one
abbrev pub decides : Bool → Bool → Bool → Bool
decides first permit second = elim first [ true ↦ permit | false ↦ second ]

first_by : (old mid : List NodeKind) (r : RouteParts) (met unmet m : ℕ) (permit first second : Bool)
    → outcome_at mid (if permit then met else unmet) r ≡ outcome_at old (if permit then met else unmet) r
    → outcome_at mid m r ≡ outcome_at old (if second then met else unmet) r
    → outcome_at mid (if first then (if permit then met else unmet) else m) r ≡ outcome_at old (if decides first permit second then met else unmet) r
first_by old mid r met unmet m permit true second e f = e
first_by old mid r met unmet m permit false second e f = f

-- where the first test holds it decides, else the second one
pub first_decides : (old mid new : List NodeKind) (t u : RouteParts → Bool) (permit : Bool) (met unmet m n : ℕ) → met < length old → unmet < length old → IsBranch old mid t met unmet m
    → IsBranch mid new u (if permit then met else unmet) m n → IsBranch old new (λ r. decides (u r) permit (t r)) met unmet n
first_decides old mid new t u permit met unmet m n one other first second =
    let below = one_of permit met unmet (λ p. p < length old) one other in record {
      within = second.within;
      keeps = keeps_both old mid new first.keeps second.keeps;
      answers = λ r range.
          second.answers r range
          ∙ first_by old mid r met unmet m permit (u r) (t r) (first.keeps.answers (if permit then met else unmet) below r) (first.answers r range);
      settled = λ x y. second.settled (settled_grown old mid (if permit then met else unmet) first.keeps below (one_of permit met unmet (λ p. IsSettled old p) x y)) (first.settled x y);
    }

both_by : (old mid : List NodeKind) (r : RouteParts) (met unmet m : ℕ) (first second : Bool)
    → outcome_at mid unmet r ≡ outcome_at old unmet r → outcome_at mid m r ≡ outcome_at old (if second then met else unmet) r
    → outcome_at mid (if first then m else unmet) r ≡ outcome_at old (if first && second then met else unmet) r
both_by old mid r met unmet m true second e f = f
both_by old mid r met unmet m false second e f = e

-- both tests hold
pub both_hold : (old mid new : List NodeKind) (t u : RouteParts → Bool) (met unmet m n : ℕ) → unmet < length old → IsBranch old mid t met unmet m → IsBranch mid new u m unmet n
    → IsBranch old new (λ r. u r && t r) met unmet n
both_hold old mid new t u met unmet m n other first second = record {
  within = second.within;
  keeps = keeps_both old mid new first.keeps second.keeps;
  answers = λ r range. second.answers r range ∙ both_by old mid r met unmet m (u r) (t r) (first.keeps.answers unmet other r) (first.answers r range);
  settled = λ x y. second.settled (first.settled x y) (settled_grown old mid unmet first.keeps other y);
}
