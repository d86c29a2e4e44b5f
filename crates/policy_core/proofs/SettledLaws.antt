-- Where no test follows a change: from node to node, and in a graph that grows.
use Rattle.std.proofs.Common.{◌≡◌, refl, sym, ap, subst, ◌∙◌, ℕ, ◌<◌, Bool, true, false, ◌&&◌, List, [], ◌∷◌, ◌++◌, length, Some}
use Rattle.std.proofs.lemmas.Bool.{and_parts}
use Rattle.std.specs.List.{AllByRecursion}
use Rattle.core_nodes.specs.Nodes.{children}
use Rattle.core_nodes.specs.Made.{IsAt, Keeps, IsMade}
use Rattle.core_nodes.specs.declared.node.NodeKind.{NodeKind}
use Rattle.core_nodes.specs.declared.node.NodeKind.TheVariants.{Test, Do, Stop}
use Rattle.core_nodes.specs.declared.atom.Atom.{Atom}
use Rattle.route_types.specs.declared.change.Change.{Change}
use Rattle.policy_core.specs.Fold.{fold_at}
use Rattle.policy_core.specs.Settled.{Tested, tested_by, tested_at, IsUntested, IsSettled}
use Rattle.policy_core.specs.Waiting.{is_test}
use Rattle.policy_core.proofs.FoldLaws.{IsLocal, Stands, unrolls, fold_grown}

tested_locally : (f g : ℕ → Tested) (k : NodeKind) → AllByRecursion (λ p. f p ≡ g p) (children k) → tested_by f k ≡ tested_by g k
tested_locally f g (Test a p q) h = λ i. record { untested = false; settled = (h.0 i).settled && (h.1.0 i).settled }
tested_locally f g (Do c n) h = λ i. record { untested = (h.0 i).untested; settled = (h.0 i).untested }
tested_locally f g (Stop x) h = refl

pub tested_local : IsLocal tested_by
tested_local = record { local = tested_locally }

pub tested_unrolls : (nodes : List NodeKind) (p : ℕ) (k : NodeKind) → Stands nodes p k → tested_at nodes p ≡ tested_by (tested_at nodes) k
tested_unrolls nodes p k at = unrolls (record { untested = false; settled = false }) tested_by tested_local nodes p k at.facts at.there

-- ---- the children of a node

pub settled_parts : (nodes : List NodeKind) (p t o : ℕ) (a : Atom) → Stands nodes p (Test a t o) → IsSettled nodes p → IsSettled nodes t × IsSettled nodes o
settled_parts nodes p t o a at h =
    and_parts (tested_at nodes t).settled (tested_at nodes o).settled (sym (ap (λ x. x.settled) (tested_unrolls nodes p (Test a t o) at)) ∙ h)

pub untested_next : (nodes : List NodeKind) (p n : ℕ) (c : Change) → Stands nodes p (Do c n) → IsUntested nodes p → IsUntested nodes n
untested_next nodes p n c at h = sym (ap (λ x. x.untested) (tested_unrolls nodes p (Do c n) at)) ∙ h

pub no_test : (nodes : List NodeKind) (p t o : ℕ) (a : Atom) → Stands nodes p (Test a t o) → IsUntested nodes p → ⊥
no_test nodes p t o a at h =
    let clash : false ≡ true = sym (ap (λ x. x.untested) (tested_unrolls nodes p (Test a t o) at)) ∙ h in
    absurd (cc)

-- a settled node that changes or ends has no test behind it
pub untested_do : (nodes : List NodeKind) (p n : ℕ) (c : Change) → Stands nodes p (Do c n) → IsSettled nodes p → IsUntested nodes p
untested_do nodes p n c at h =
    let e = tested_unrolls nodes p (Do c n) at in
    ap (λ x. x.untested) e ∙ sym (ap (λ x. x.settled) e) ∙ h

pub untested_stop : (nodes : List NodeKind) (p : ℕ) (x : Bool) → Stands nodes p (Stop x) → IsUntested nodes p
untested_stop nodes p x at = ap (λ t. t.untested) (tested_unrolls nodes p (Stop x) at)

-- ---- a graph that grows

pub settled_grown : (old new : List NodeKind) (p : ℕ) → Keeps old new → p < length old → IsSettled old p → IsSettled new p
settled_grown old new p keeps below h =
    subst (λ l. IsSettled l p) (sym keeps.grown) (ap (λ x. x.settled) (fold_grown (record { untested = false; settled = false }) tested_by keeps.more old p below) ∙ h)

pub untested_grown : (old new : List NodeKind) (p : ℕ) → Keeps old new → p < length old → IsUntested old p → IsUntested new p
untested_grown old new p keeps below h =
    subst (λ l. IsUntested l p) (sym keeps.grown) (ap (λ x. x.untested) (fold_grown (record { untested = false; settled = false }) tested_by keeps.more old p below) ∙ h)

both_true : (a b : Bool) → a ≡ true → b ≡ true → (a && b) ≡ true
both_true a b x y = rw (x, y) refl

pub test_settled : (nodes : List NodeKind) (p t o : ℕ) (a : Atom) → Stands nodes p (Test a t o) → IsSettled nodes t → IsSettled nodes o → IsSettled nodes p
test_settled nodes p t o a at x y =
    ap (λ z. z.settled) (tested_unrolls nodes p (Test a t o) at) ∙ both_true (tested_at nodes t).settled (tested_at nodes o).settled x y

pub act_untested : (nodes : List NodeKind) (p n : ℕ) (c : Change) → Stands nodes p (Do c n) → IsUntested nodes n → IsUntested nodes p
act_untested nodes p n c at h = ap (λ z. z.untested) (tested_unrolls nodes p (Do c n) at) ∙ h

pub act_settled : (nodes : List NodeKind) (p n : ℕ) (c : Change) → Stands nodes p (Do c n) → IsUntested nodes n → IsSettled nodes p
act_settled nodes p n c at h = ap (λ z. z.settled) (tested_unrolls nodes p (Do c n) at) ∙ h

pub stop_settled : (nodes : List NodeKind) (p : ℕ) (x : Bool) → Stands nodes p (Stop x) → IsSettled nodes p
stop_settled nodes p x at = ap (λ z. z.settled) (tested_unrolls nodes p (Stop x) at)

-- a settled node that is no test has no test behind it
pub untested_unless : (nodes : List NodeKind) (p : ℕ) (k : NodeKind) → Stands nodes p k → is_test k ≡ false → IsSettled nodes p → IsUntested nodes p
untested_unless nodes p (Test a t o) at e h = absurd (cc)
untested_unless nodes p (Do c n) at e h = untested_do nodes p n c at h
untested_unless nodes p (Stop x) at e h = untested_stop nodes p x at
