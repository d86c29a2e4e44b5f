-- What is still to be done: keys to be planned, and keys with their plans, whose parts are settled when their turn comes.
use Rattle.std.specs.Prelude.{◌≡◌, ◌⊎◌, ℕ, ◌<◌, ◌+◌, ◌*◌, ◌^◌, List, [], ◌∷◌, ◌++◌, map, length, Option, Some, None}
use Rattle.std.specs.List.{AllByRecursion}
use Rattle.core_nodes.specs.declared.node.NodeKind.{NodeKind}
use Rattle.settled_graph.specs.Plans.{IsPlan, parts_of}
use Rattle.settled_graph.specs.declared.key.Key.{Key}
use Rattle.settled_graph.specs.declared.plan.Plan.{Plan}
use Rattle.settled_graph.specs.declared.tasks.Task.{Task}

-- the plan is one, and its parts are settled
abbrev pub MayBeMade : List NodeKind → (Key → Type 0) → Key → Option Plan → Type 0
MayBeMade nodes have k None = Unit {0}
MayBeMade nodes have k (Some plan) = IsPlan nodes k plan × AllByRecursion have (parts_of k plan)

-- a task whose turn it is, where these keys are settled
pub record MayBeDone (nodes : List NodeKind) (have : Key → Type 0) (t : Task) : Type 0 where
  pub within : t.key.place < length nodes
  pub made : MayBeMade nodes have t.key t.plan

-- these keys are settled, and one more
abbrev pub and_also : (Key → Type 0) → Key → Key → Type 0
and_also have k q = have q ⊎ (q ≡ k)

-- each task may be done when those before it are; then the root is settled
unfoldable pub MayAllBeDone : List NodeKind → Key → (Key → Type 0) → List Task → Type 0
MayAllBeDone nodes root have [] = have root
MayAllBeDone nodes root have (t ∷ ts) = MayBeDone nodes have t × MayAllBeDone nodes root (and_also have t.key) ts

-- how much there is to do for a key at most: it has at most two parts, whose nodes are older
abbrev pub effort : Task → ℕ
effort t = elim t.plan [ None ↦ 4 * 4 ^ t.key.place | Some plan ↦ 1 ]

unfoldable pub work : List Task → ℕ
work [] = 0
work (t ∷ ts) = effort t + work ts

-- a key that is to be planned
abbrev pub planless : Key → Task
planless k = record { key = k; plan = None }

-- a key was planned: its parts are to be settled, and then itself
pub record IsPlanned (nodes : List NodeKind) (k : Key) (before after : List Task) : Type 0 where
  pub plan : Plan
  pub right : IsPlan nodes k plan
  pub tasks : after ≡ map planless (parts_of k plan) ++ record { key = k; plan = Some plan } ∷ before
