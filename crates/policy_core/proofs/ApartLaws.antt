-- Whether a test asks for what was touched, by the children of a node, and in a graph that grows.
use Rattle.std.proofs.Common.{◌≡◌, refl, ap, ◌∙◌, ℕ, ◌<◌, Bool, true, false, ◌&&◌, ◌==◌, List, [], ◌∷◌, length}
use Rattle.std.proofs.lemmas.Bool.{and_parts}
use Rattle.std.specs.List.{AllByRecursion}
use Rattle.core_nodes.specs.Made.{Keeps}
use Rattle.core_nodes.specs.Nodes.{children}
use Rattle.core_nodes.specs.declared.node.NodeKind.{NodeKind}
use Rattle.core_nodes.specs.declared.node.NodeKind.TheVariants.{Test, Do, Stop}
use Rattle.core_nodes.specs.declared.atom.Atom.{Atom}
use Rattle.core_nodes.specs.declared.atom.Atom.TheVariants.{Prefix, NextHop, Path, Community, MedOneOf, MedAtLeast, MedAtMost, LocalPreference, Origin, NoCommunity}
use Rattle.route_types.specs.declared.change.Change.{Change}
use Rattle.policy_core.specs.Fold.{fold_at}
use Rattle.policy_core.specs.Apart.{Touched, untouched, touched_by, is_apart, apart_by, no_way, apart_at}
use Rattle.policy_core.specs.Settled.{Tested, tested_by, tested_at, IsUntested, IsSettled}
use Rattle.policy_core.proofs.FoldLaws.{IsLocal, Stands, unrolls, fold_grown}

apart_locally : (f g : ℕ → Touched → Bool) (k : NodeKind) → AllByRecursion (λ p. f p ≡ g p) (children k) → apart_by f k ≡ apart_by g k
apart_locally f g (Test a p q) h = λ i t. is_apart a t && (h.0 i t && h.1.0 i t)
apart_locally f g (Do c n) h = λ i t. h.0 i (touched_by c t)
apart_locally f g (Stop x) h = λ i t. true

pub apart_unrolls : (nodes : List NodeKind) (p : ℕ) (k : NodeKind) (t : Touched) → Stands nodes p k → apart_at nodes p t ≡ apart_by (apart_at nodes) k t
apart_unrolls nodes p k t at = ap (λ (f : Touched → Bool). f t) (unrolls no_way apart_by (record { local = apart_locally }) nodes p k at.facts at.there)

pub apart_grown : (old new : List NodeKind) (p : ℕ) (t : Touched) → Keeps old new → p < length old → apart_at new p t ≡ apart_at old p t
apart_grown old new p t keeps below =
    ap (λ (l : List NodeKind). apart_at l p t) keeps.grown ∙ ap (λ (f : Touched → Bool). f t) (fold_grown no_way apart_by keeps.more old p below)

-- ---- a node, from its children

both_true : (a b c : Bool) → a ≡ true → b ≡ true → c ≡ true → (a && (b && c)) ≡ true
both_true a b c x y z = rw (x, y, z) refl

pub test_apart : (nodes : List NodeKind) (p then other : ℕ) (a : Atom) (t : Touched) → Stands nodes p (Test a then other) → is_apart a t ≡ true → apart_at nodes then t ≡ true → apart_at nodes other t ≡ true → apart_at nodes p t ≡ true
test_apart nodes p then other a t at x y z = apart_unrolls nodes p (Test a then other) t at ∙ both_true (is_apart a t) (apart_at nodes then t) (apart_at nodes other t) x y z

pub act_apart : (nodes : List NodeKind) (p next : ℕ) (c : Change) (t : Touched) → Stands nodes p (Do c next) → apart_at nodes next (touched_by c t) ≡ true → apart_at nodes p t ≡ true
act_apart nodes p next c t at h = apart_unrolls nodes p (Do c next) t at ∙ h

pub stop_apart : (nodes : List NodeKind) (p : ℕ) (accept : Bool) (t : Touched) → Stands nodes p (Stop accept) → apart_at nodes p t ≡ true
stop_apart nodes p accept t at = apart_unrolls nodes p (Stop accept) t at

-- ---- where no test follows a change, none asks for what was changed

pub nothing_touched : (a : Atom) → is_apart a untouched ≡ true
nothing_touched (Prefix lists) = refl
nothing_touched (NextHop lists) = refl
nothing_touched (Path lists) = refl
nothing_touched (Community lists) = refl
nothing_touched (MedOneOf numbers) = refl
nothing_touched (MedAtLeast n) = refl
nothing_touched (MedAtMost n) = refl
nothing_touched (LocalPreference n) = refl
nothing_touched (Origin o) = refl
nothing_touched NoCommunity = refl

-- one value or the other
abbrev chosen : {A : Type 0} → Bool → A → A → A
chosen b one other = elim b [ true ↦ one | false ↦ other ]

-- b: the node is the newest
untested_by : (tested : ℕ → Tested) (child : ℕ → Touched → Bool) (k : NodeKind) (p : ℕ) (t : Touched) (b : Bool) → ((q : ℕ) (u : Touched) → (tested q).untested ≡ true → child q u ≡ true)
    → (chosen b (tested_by tested k) (tested p)).untested ≡ true → chosen b (apart_by child k) (child p) t ≡ true
untested_by tested child (Test a then other) p t true more h = absurd (cc)
untested_by tested child (Do c next) p t true more h = more next (touched_by c t) h
untested_by tested child (Stop accept) p t true more h = refl
untested_by tested child k p t false more h = more p t h

pub untested_apart : (nodes : List NodeKind) (p : ℕ) (t : Touched) → IsUntested nodes p → apart_at nodes p t ≡ true
unfolding fold_at
untested_apart [] p t h = refl
untested_apart (k ∷ older) p t h = untested_by (tested_at older) (apart_at older) k p t (p == length older) (untested_apart older) h

settled_by : (tested : ℕ → Tested) (child : ℕ → Touched → Bool) (k : NodeKind) (p : ℕ) (b : Bool) → ((q : ℕ) (u : Touched) → (tested q).untested ≡ true → child q u ≡ true) → ((q : ℕ) → (tested q).settled ≡ true → child q untouched ≡ true)
    → (chosen b (tested_by tested k) (tested p)).settled ≡ true → chosen b (apart_by child k) (child p) untouched ≡ true
settled_by tested child (Test a then other) p true more all h =
    let parts = and_parts (tested then).settled (tested other).settled h in
    both_true (is_apart a untouched) (child then untouched) (child other untouched) (nothing_touched a) (all then parts.0) (all other parts.1)
settled_by tested child (Do c next) p true more all h = more next (touched_by c untouched) h
settled_by tested child (Stop accept) p true more all h = refl
settled_by tested child k p false more all h = all p h

pub settled_apart : (nodes : List NodeKind) (p : ℕ) → IsSettled nodes p → apart_at nodes p untouched ≡ true
unfolding fold_at
settled_apart [] p h = refl
settled_apart (k ∷ older) p h = settled_by (tested_at older) (apart_at older) k p (p == length older) (untested_apart older) (settled_apart older) h
