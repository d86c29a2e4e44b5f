-- What stands at a place, and which outcome it gives, below newer nodes.
use Rattle.std.proofs.Common.{◌≡◌, refl, sym, ap, subst, ◌∙◌, ℕ, ◌<◌, true, false, List, [], ◌∷◌, ◌++◌, append_assoc, length, Some, if◌then◌else◌, inl, inr, ◌⊎◌, arith, eq-eqb, ne_eqb}
use Rattle.std.proofs.lemmas.Bool.Decides.{eqb_tells}
use Rattle.std.specs.List.{AllByRecursion}
use Rattle.route_types.specs.Route.{RouteParts}
use Rattle.route_types.specs.Change.{changed}
use Rattle.route_types.specs.declared.route.Outcome.{Outcome}
use Rattle.core_nodes.specs.Atoms.{atom_holds}
use Rattle.core_nodes.specs.Nodes.{kind_at, children, FitsOn, AreNodes}
use Rattle.core_nodes.specs.Outcome.{answer_of, outcome_at}
use Rattle.core_nodes.specs.Made.{IsAt, Keeps, IsMade}
use Rattle.core_nodes.specs.declared.node.NodeKind.{NodeKind}
use Rattle.core_nodes.specs.declared.node.NodeKind.TheVariants.{Test, Do, Stop}

-- ---- the newest node and the older ones

pub kind_newest : (k : NodeKind) (older : List NodeKind) → kind_at (k ∷ older) (length older) ≡ Some k
unfolding kind_at
kind_newest k older = rw (eq-eqb (length older) (length older) refl) refl

pub kind_older : (k : NodeKind) (older : List NodeKind) (p : ℕ) → p < length older → kind_at (k ∷ older) p ≡ kind_at older p
unfolding kind_at
kind_older k older p below = rw (ne_eqb p (length older) (λ e. omega arith)) refl

pub outcome_newest : (k : NodeKind) (older : List NodeKind) (r : RouteParts) → outcome_at (k ∷ older) (length older) r ≡ answer_of (outcome_at older) k r
unfolding outcome_at
outcome_newest k older r = rw (eq-eqb (length older) (length older) refl, outcome_at) refl

pub outcome_older : (k : NodeKind) (older : List NodeKind) (p : ℕ) (r : RouteParts) → p < length older → outcome_at (k ∷ older) p r ≡ outcome_at older p r
unfolding outcome_at
outcome_older k older p r below = rw (ne_eqb p (length older) (λ e. omega arith), outcome_at) refl

Some-same : (k l : NodeKind) → Some k ≡ Some l → k ≡ l
Some-same k l e = cc

pub kind_below : (nodes : List NodeKind) (p : ℕ) (k : NodeKind) → kind_at nodes p ≡ Some k → p < length nodes
unfolding kind_at
kind_below [] p k is = absurd (cc)
kind_below (m ∷ older) p k is =
    elim (eqb_tells p (length older)) [
      | inl w ↦ omega (arith, w.1)
      | inr w ↦
          let found : kind_at older p ≡ Some k = sym (rw (ne_eqb p (length older) w.1) refl) ∙ is in
          omega (arith, kind_below older p k found)
    ]

-- ---- the outcome of a node by those of its children

-- children that give one outcome give the node one
pub answers_agree : (f g : ℕ → RouteParts → Outcome) (k : NodeKind) → AllByRecursion (λ p. (r : RouteParts) → f p r ≡ g p r) (children k) → (r : RouteParts) → answer_of f k r ≡ answer_of g k r
answers_agree f g (Test a p q) h r =
    elim (atom_holds a r) as (λ b. f (if b then p else q) r ≡ g (if b then p else q) r) [ true ↦ h.0 r | false ↦ h.1.0 r ]
answers_agree f g (Do c n) h r = h.0 (changed c r)
answers_agree f g (Stop x) h r = refl

pub all_wider : {A : Type 0} (P Q : A → Type 0) (xs : List A) → ((x : A) → P x → Q x) → AllByRecursion P xs → AllByRecursion Q xs
all_wider P Q [] wider h = tt
all_wider P Q (x ∷ xs) wider h = (wider x h.0, all_wider P Q xs wider h.1)

-- a newer node leaves the answers of what leads to older ones
answer_older : (m : NodeKind) (older : List NodeKind) (k : NodeKind) → AllByRecursion (λ p. p < length older) (children k) → (r : RouteParts) → answer_of (outcome_at older) k r ≡ answer_of (outcome_at (m ∷ older)) k r
answer_older m older k before r =
    answers_agree (outcome_at older) (outcome_at (m ∷ older)) k
    (all_wider (λ p. p < length older) (λ p. (s : RouteParts) → outcome_at older p s ≡ outcome_at (m ∷ older) p s) (children k) (λ p below s. sym (outcome_older m older p s below)) before) r

-- ---- the node at a place

at_newest : (k : NodeKind) (older : List NodeKind) → FitsOn older k → IsAt (k ∷ older) (length older) k
at_newest k older fits = record {
  within = omega arith;
  there = kind_newest k older;
  before = fits.before;
  answers = λ r. outcome_newest k older r ∙ answer_older k older k fits.before r;
}

at_older : (m : NodeKind) (older : List NodeKind) (p : ℕ) (k : NodeKind) → IsAt older p k → IsAt (m ∷ older) p k
at_older m older p k at = record {
  within = omega (arith, at.within);
  there = kind_older m older p at.within ∙ at.there;
  before = at.before;
  answers = λ r.
      outcome_older m older p r at.within ∙ at.answers r
      ∙ answer_older m older k (all_wider (λ c. c < p) (λ c. c < length older) (children k) (λ c below. omega (arith, below, at.within)) at.before) r;
}

-- each place of a graph has a node of which all this is known
pub is_at : (nodes : List NodeKind) (p : ℕ) (k : NodeKind) → AreNodes nodes → kind_at nodes p ≡ Some k → IsAt nodes p k
unfolding kind_at AreNodes
is_at [] p k are is = absurd (cc)
is_at (m ∷ older) p k are is =
    elim (eqb_tells p (length older)) [
      | inl w ↦
          let same : m ≡ k = Some-same m k (sym (kind_newest m older) ∙ subst (λ i. kind_at (m ∷ older) i ≡ Some k) w.1 is) in
          subst (λ i. IsAt (m ∷ older) i k) (sym w.1) (subst (λ l. IsAt (m ∷ older) (length older) l) same (at_newest m older are.0))
      | inr w ↦
          let found : kind_at older p ≡ Some k = sym (rw (ne_eqb p (length older) w.1) refl) ∙ is in
          at_older m older p k (is_at older p k are.1 found)
    ]

-- ---- what stays

pub keeps_all : (nodes : List NodeKind) → Keeps nodes nodes
keeps_all nodes = record { more = []; grown = refl; longer = λ p below. below; kinds = λ p below. refl; answers = λ p below r. refl }

keeps_under : (k : NodeKind) (older : List NodeKind) → Keeps older (k ∷ older)
keeps_under k older = record {
  more = k ∷ [];
  grown = refl;
  longer = λ p below. omega (arith, below);
  kinds = λ p below. kind_older k older p below;
  answers = λ p below r. outcome_older k older p r below;
}

pub keeps_grown : (old new : List NodeKind) (k : NodeKind) → (new ≡ old) ⊎ (new ≡ k ∷ old) → Keeps old new
keeps_grown old new k (inl e) = subst (λ l. Keeps old l) (sym e) (keeps_all old)
keeps_grown old new k (inr e) = subst (λ l. Keeps old l) (sym e) (keeps_under k old)

pub keeps_both : (one two three : List NodeKind) → Keeps one two → Keeps two three → Keeps one three
keeps_both one two three first second = record {
  more = second.more ++ first.more;
  grown = second.grown ∙ ap (λ (xs : List NodeKind). second.more ++ xs) first.grown ∙ sym (append_assoc second.more first.more one);
  longer = λ p below. second.longer p (first.longer p below);
  kinds = λ p below. second.kinds p (first.longer p below) ∙ first.kinds p below;
  answers = λ p below r. second.answers p (first.longer p below) r ∙ first.answers p below r;
}

-- what leads to older nodes
abbrev pub Before : List NodeKind → NodeKind → Type 0
Before old k = AllByRecursion (λ c. c < length old) (children k)

-- as before, or one node longer
abbrev pub IsGrown : List NodeKind → List NodeKind → NodeKind → Type 0
IsGrown old new k = (new ≡ old) ⊎ (new ≡ k ∷ old)

-- the children of a node give the same outcomes before and after
children_keep : (old new : List NodeKind) (k : NodeKind) → Before old k → Keeps old new → (r : RouteParts) → answer_of (outcome_at new) k r ≡ answer_of (outcome_at old) k r
children_keep old new k before keeps r =
    answers_agree (outcome_at new) (outcome_at old) k
    (all_wider (λ c. c < length old) (λ c. (s : RouteParts) → outcome_at new c s ≡ outcome_at old c s) (children k) (λ c below s. keeps.answers c below s) before) r

-- a node that is there, in a graph that is as before or one longer, is made
pub is_made : (old new : List NodeKind) (k : NodeKind) (p : ℕ) → Before old k → IsGrown old new k → AreNodes new → IsAt new p k → IsMade old new k p
is_made old new k p before grown facts at = record {
  at = at;
  grown = grown;
  facts = facts;
  answers = λ r. at.answers r ∙ children_keep old new k before (keeps_grown old new k grown) r;
}
