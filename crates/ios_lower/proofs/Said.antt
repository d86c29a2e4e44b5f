-- What a policy's tests and changes pass, those from its node on pass.
use Rattle.std.proofs.Common.{◌≡◌, refl, ℕ, ◌<◌, Bool, true, List, length}
use Rattle.std.specs.List.{AllByRecursion}
use Rattle.core_nodes.specs.Nodes.{AreNodes}
use Rattle.core_nodes.specs.declared.atom.Atom.{Atom}
use Rattle.core_nodes.specs.declared.node.NodeKind.{NodeKind}
use Rattle.core_nodes.specs.declared.node.NodeKind.TheVariants.{Test, Do, Stop}
use Rattle.route_types.specs.declared.change.Change.{Change}
use Rattle.policy_core.specs.Guards.{said_at, says_own}
use Rattle.policy_core.proofs.SaidLaws.{all_said}
use Rattle.ios_tree.specs.declared.item.IosItem.{IosItem}
use Rattle.ios_lower.specs.OfPolicy.{IsOfPolicy, PolicySays}
use Rattle.ios_lower.proofs.Grows.{all_wider}

node_says : (on_atom : Atom → Bool) (on_change : Change → Bool) (all : List IosItem) (name : List ℕ) → PolicySays on_atom on_change all name → (k : NodeKind) → IsOfPolicy all name k → says_own on_atom on_change k ≡ true
node_says on_atom on_change all name s (Test a then other) h = s.tests a h
node_says on_atom on_change all name s (Do c next) h = s.sets c h
node_says on_atom on_change all name s (Stop accept) h = refl

pub policy_said : (all : List IosItem) (name : List ℕ) (nodes : List NodeKind) (n : ℕ) → AreNodes nodes → n < length nodes → AllByRecursion (IsOfPolicy all name) nodes
    → (on_atom : Atom → Bool) (on_change : Change → Bool) → PolicySays on_atom on_change all name → said_at on_atom on_change nodes n ≡ true
policy_said all name nodes n are within own on_atom on_change s =
    all_said on_atom on_change nodes n are within (all_wider (IsOfPolicy all name) (λ k. says_own on_atom on_change k ≡ true) nodes (node_says on_atom on_change all name s) own)
