-- Where the test or change of each node passes, those from any node on pass.
use Rattle.std.proofs.Common.{◌≡◌, refl, ap, ◌∙◌, ℕ, ◌<◌, Bool, true, false, ◌&&◌, List, [], ◌∷◌, length, inl, inr, arith}
use Rattle.std.proofs.lemmas.Bool.Decides.{eqb_tells}
use Rattle.std.specs.List.{AllByRecursion}
use Rattle.core_nodes.specs.Nodes.{children, AreNodes}
use Rattle.core_nodes.specs.declared.atom.Atom.{Atom}
use Rattle.core_nodes.specs.declared.node.NodeKind.{NodeKind}
use Rattle.core_nodes.specs.declared.node.NodeKind.TheVariants.{Test, Do, Stop}
use Rattle.route_types.specs.declared.change.Change.{Change}
use Rattle.policy_core.specs.Guards.{said_by, said_at, says_own}
use Rattle.policy_core.proofs.FoldLaws.{fold_newest, fold_other}

both_true : (a b : Bool) → a ≡ true → b ≡ true → (a && b) ≡ true
both_true a b x y = rw (x, y) refl

module _ (on_atom : Atom → Bool) (on_change : Change → Bool) where
  newest_said : (older : List NodeKind) (k : NodeKind) → ((q : ℕ) → q < length older → said_at on_atom on_change older q ≡ true) → AllByRecursion (λ p. p < length older) (children k)
      → says_own on_atom on_change k ≡ true → said_by on_atom on_change (said_at on_atom on_change older) k ≡ true
  newest_said older (Test a t o) said before own =
      both_true (on_atom a) (said_at on_atom on_change older t && said_at on_atom on_change older o) own
      (both_true (said_at on_atom on_change older t) (said_at on_atom on_change older o) (said t before.0) (said o before.1.0))
  newest_said older (Do c n) said before own = both_true (on_change c) (said_at on_atom on_change older n) own (said n before.0)
  newest_said older (Stop x) said before own = refl

  pub all_said : (nodes : List NodeKind) (p : ℕ) → AreNodes nodes → p < length nodes → AllByRecursion (λ k. says_own on_atom on_change k ≡ true) nodes → said_at on_atom on_change nodes p ≡ true
  unfolding AreNodes
  all_said [] p are w h = absurd (omega (arith, w))
  all_said (k ∷ older) p are w h =
      elim (eqb_tells p (length older)) [
        | inl e ↦
            ap (λ i. said_at on_atom on_change (k ∷ older) i) e.1
            ∙ fold_newest true (said_by on_atom on_change) k older
            ∙ newest_said older k (λ q b. all_said older q are.1 b h.1) are.0.before h.0
        | inr e ↦
            fold_other true (said_by on_atom on_change) k older p e.1
            ∙ all_said older p are.1 (omega (arith, w, e.1)) h.1
      ]
