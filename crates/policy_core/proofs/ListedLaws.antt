-- The lists of a node, from those of its children.
use Rattle.std.proofs.Common.{◌≡◌, refl, sym, ap, ◌∙◌, ℕ, ◌<◌, Bool, true, false, ◌==◌, List, [], ◌∷◌, ◌++◌, append_assoc, map, Option, Some, None}
use Rattle.std.proofs.lemmas.List.{append-nil}
use Rattle.std.specs.List.{AllByRecursion}
use Rattle.core_nodes.specs.Nodes.{children}
use Rattle.core_nodes.specs.declared.node.NodeKind.{NodeKind}
use Rattle.core_nodes.specs.declared.node.NodeKind.TheVariants.{Test, Do, Stop}
use Rattle.core_nodes.specs.declared.atom.Atom.{Atom}
use Rattle.route_types.specs.declared.change.Change.{Change}
use Rattle.policy_core.specs.declared.step.Literal.{Literal}
use Rattle.policy_core.specs.declared.step.Step.{Step}
use Rattle.policy_core.specs.Steps.{under, behind, last_step, Listed, first_part, unless_end, listed_by, listed_at}
use Rattle.policy_core.specs.Waiting.{guarded, wants, is_test}
use Rattle.policy_core.proofs.FoldLaws.{IsLocal, Stands, unrolls}

listed_locally : (f g : ℕ → Listed) (k : NodeKind) → AllByRecursion (λ p. f p ≡ g p) (children k) → listed_by f k ≡ listed_by g k
listed_locally f g (Test a p q) h = λ i. record { alone = []; upto = λ end. map (under a) (first_part (h.0 i) p q) ++ unless_end (h.1.0 i) q end }
listed_locally f g (Do c n) h = λ i. record { alone = map (behind c) (h.0 i).alone; upto = λ end. map (behind c) (h.0 i).alone }
listed_locally f g (Stop x) h = refl

pub listed_local : IsLocal listed_by
listed_local = record { local = listed_locally }

pub listed_unrolls : (nodes : List NodeKind) (p : ℕ) (k : NodeKind) → Stands nodes p k → listed_at nodes p ≡ listed_by (listed_at nodes) k
listed_unrolls nodes p k h = unrolls (record { alone = []; upto = λ end. [] }) listed_by listed_local nodes p k h.facts h.there

-- ---- the one step of a node without tests

-- changes before what a step does
abbrev pub doing : List Change → Step → Step
doing cs s = record { guard = s.guard; actions = cs ++ s.actions; accept = s.accept }

pub doing_none : (steps : List Step) → map (doing []) steps ≡ steps
doing_none [] = refl
doing_none (s ∷ ss) = λ i. s ∷ doing_none ss i

pub doing_next : (cs : List Change) (c : Change) (steps : List Step) → map (doing cs) (map (behind c) steps) ≡ map (doing (cs ++ c ∷ [])) steps
doing_next cs c [] = refl
doing_next cs c (s ∷ ss) =
    λ i. record { guard = s.guard; actions = sym (append_assoc cs (c ∷ []) s.actions) i; accept = s.accept } ∷ doing_next cs c ss i

-- the one step of the node at a place
abbrev pub alone_at : List NodeKind → ℕ → List Step
alone_at nodes p = (listed_at nodes p).alone

-- a step with a guard and changes
abbrev pub ending : List Literal → List Change → Bool → Step
ending guard cs accept = record { guard = guard; actions = cs; accept = accept }

pub alone_do : (nodes : List NodeKind) (p n : ℕ) (c : Change) (cs : List Change) → Stands nodes p (Do c n) → map (doing (cs ++ c ∷ [])) (alone_at nodes n) ≡ map (doing cs) (alone_at nodes p)
alone_do nodes p n c cs h =
    sym (doing_next cs c (listed_at nodes n).alone) ∙ ap (λ l. map (doing cs) l.alone) (sym (listed_unrolls nodes p (Do c n) h))

pub alone_stop : (nodes : List NodeKind) (p : ℕ) (x : Bool) (cs : List Change) → Stands nodes p (Stop x) → map (doing cs) (alone_at nodes p) ≡ ending [] cs x ∷ []
alone_stop nodes p x cs h =
    ap (λ l. map (doing cs) l.alone) (listed_unrolls nodes p (Stop x) h)
    ∙ (λ i. record { guard = []; actions = append-nil cs i; accept = x } ∷ [])

pub guarded_one : (guard : List Literal) (cs : List Change) (x : Bool) (all : List Step) → all ≡ ending [] cs x ∷ [] → map (guarded guard) all ≡ ending guard cs x ∷ []
guarded_one guard cs x all e =
    ap (map (guarded guard)) e ∙ (λ i. record { guard = append-nil guard i; actions = cs; accept = x } ∷ [])

-- ---- a node that ends or changes has one list, a test none alone

pub test_alone : (nodes : List NodeKind) (p t o : ℕ) (a : Atom) → Stands nodes p (Test a t o) → (listed_at nodes p).alone ≡ []
test_alone nodes p t o a h = ap (λ l. l.alone) (listed_unrolls nodes p (Test a t o) h)

-- so a test has nothing to add alone
pub none_alone : (nodes : List NodeKind) (p : ℕ) (k : NodeKind) → Stands nodes p k → is_test k ≡ true → alone_at nodes p ≡ []
none_alone nodes p (Test a t o) at e = test_alone nodes p t o a at
none_alone nodes p (Do c n) at e = absurd (cc)
none_alone nodes p (Stop x) at e = absurd (cc)

pub do_upto : (nodes : List NodeKind) (p n : ℕ) (c : Change) (end : Option ℕ) → Stands nodes p (Do c n) → (listed_at nodes p).upto end ≡ (listed_at nodes p).alone
do_upto nodes p n c end h =
    let e = listed_unrolls nodes p (Do c n) h in
    ap (λ l. l.upto end) e ∙ sym (ap (λ l. l.alone) e)

pub stop_upto : (nodes : List NodeKind) (p : ℕ) (x : Bool) (end : Option ℕ) → Stands nodes p (Stop x) → (listed_at nodes p).upto end ≡ (listed_at nodes p).alone
stop_upto nodes p x end h =
    let e = listed_unrolls nodes p (Stop x) h in
    ap (λ l. l.upto end) e ∙ sym (ap (λ l. l.alone) e)

-- the list of a test up to an end
abbrev pub test_list : List NodeKind → Atom → ℕ → ℕ → Option ℕ → List Step
test_list nodes a t o end = map (under a) (first_part (listed_at nodes t) t o) ++ unless_end (listed_at nodes o) o end

pub test_upto : (nodes : List NodeKind) (p t o : ℕ) (a : Atom) (end : Option ℕ) → Stands nodes p (Test a t o) → (listed_at nodes p).upto end ≡ test_list nodes a t o end
test_upto nodes p t o a end h = ap (λ l. l.upto end) (listed_unrolls nodes p (Test a t o) h)

-- ---- guards

pub guarded_none : (steps : List Step) → map (guarded []) steps ≡ steps
guarded_none [] = refl
guarded_none (s ∷ ss) = λ i. s ∷ guarded_none ss i

pub guarded_under : (guard : List Literal) (a : Atom) (steps : List Step) → map (guarded guard) (map (under a) steps) ≡ map (guarded (guard ++ wants a ∷ [])) steps
guarded_under guard a [] = refl
guarded_under guard a (s ∷ ss) =
    λ i. record { guard = sym (append_assoc guard (wants a ∷ []) s.guard) i; actions = s.actions; accept = s.accept } ∷ guarded_under guard a ss i

pub guarded_append : (guard : List Literal) (xs ys : List Step) → map (guarded guard) (xs ++ ys) ≡ map (guarded guard) xs ++ map (guarded guard) ys
guarded_append guard [] ys = refl
guarded_append guard (x ∷ xs) ys = λ i. guarded guard x ∷ guarded_append guard xs ys i
