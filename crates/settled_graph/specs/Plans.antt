-- What a node comes to behind what is pending: it ends, goes on to another node, or asks the route as it arrives.
use Rattle.std.specs.Prelude.{◌≡◌, ℕ, ◌<◌, Bool, true, List, [], ◌∷◌, if◌then◌else◌}
use Rattle.route_types.specs.Route.{RouteParts}
use Rattle.route_types.specs.Community.{RectParts}
use Rattle.route_types.specs.declared.change.Change.{Change}
use Rattle.route_types.specs.Change.{changed}
use Rattle.pending_changes.specs.Pending.{route_behind, change_says, PendingSays, LeavesApart}
use Rattle.pending_changes.specs.declared.pending.Pending.{Pending}
use Rattle.core_nodes.specs.Outcome.{ended}
use Rattle.core_nodes.specs.declared.atom.Atom.{Atom}
use Rattle.core_nodes.specs.declared.node.NodeKind.{NodeKind}
use Rattle.resolved_tests.specs.Answers.{answer_holds, answer_says}
use Rattle.resolved_tests.specs.declared.answer.Answer.{Answer}
use Rattle.policy_core.specs.Guards.{said_at}
use Rattle.community_branches.specs.Branches.{IsBranch}
use Rattle.settled_graph.specs.Keys.{outcome_behind}
use Rattle.settled_graph.specs.Said.{MaySay}
use Rattle.settled_graph.specs.declared.key.Key.{Key}
use Rattle.settled_graph.specs.declared.plan.Asking.{Asking}
use Rattle.settled_graph.specs.declared.plan.Plan.{Plan}
use Rattle.settled_graph.specs.declared.plan.Plan.TheVariants.{Ends, Goes, Asks}

-- another node behind the same changes
abbrev pub same_behind : Key → ℕ → Key
same_behind k place = record { place = place; pending = k.pending }

-- what is pending, and one more change behind it
pub record IsAndThen (c : Change) (p q : Pending) : Type 0 where
  pub leaves : (r : RouteParts) → route_behind q r ≡ changed c (route_behind p r)
  pub says : (on_value : Change → Bool) (on_rect : RectParts → Bool) → PendingSays on_value on_rect p → change_says on_value on_rect c ≡ true → PendingSays on_value on_rect q
  pub apart : LeavesApart c p q

-- an end
pub record IsEnd (nodes : List NodeKind) (k : Key) (accept : Bool) : Type 0 where
  pub ends : (r : RouteParts) → outcome_behind nodes k r ≡ ended accept (route_behind k.pending r)

-- an older node gives the same outcome
pub record LeadsTo (nodes : List NodeKind) (k next : Key) : Type 0 where
  pub older : next.place < k.place
  pub same : (r : RouteParts) → outcome_behind nodes k r ≡ outcome_behind nodes next r
  pub hands : (on_atom : Atom → Bool) (on_value : Change → Bool) (on_rect : RectParts → Bool) → MaySay on_atom on_value on_rect nodes k → MaySay on_atom on_value on_rect nodes next

-- one of two older nodes does, behind the same changes
pub record Forks (nodes : List NodeKind) (k : Key) (a : Asking) : Type 0 where
  pub older_met : a.met < k.place
  pub older_unmet : a.unmet < k.place
  pub same : (r : RouteParts) → outcome_behind nodes k r ≡ outcome_behind nodes (same_behind k (if answer_holds a.answer r then a.met else a.unmet)) r
  pub says : (on_atom : Atom → Bool) (on_value : Change → Bool) (on_rect : RectParts → Bool) → MaySay on_atom on_value on_rect nodes k → answer_says on_atom a.answer ≡ true
  pub hands : (on_atom : Atom → Bool) (on_value : Change → Bool) (on_rect : RectParts → Bool) → MaySay on_atom on_value on_rect nodes k
      → MaySay on_atom on_value on_rect nodes (same_behind k a.met) × MaySay on_atom on_value on_rect nodes (same_behind k a.unmet)

-- what is known of a plan
abbrev pub IsPlan : List NodeKind → Key → Plan → Type 0
IsPlan nodes k (Ends accept) = IsEnd nodes k accept
IsPlan nodes k (Goes next) = LeadsTo nodes k next
IsPlan nodes k (Asks a) = Forks nodes k a

-- the keys that are settled first
abbrev pub parts_of : Key → Plan → List Key
parts_of k (Ends accept) = []
parts_of k (Goes next) = next ∷ []
parts_of k (Asks a) = same_behind k a.met ∷ same_behind k a.unmet ∷ []

-- a node that leads to one of two by an answer on the arriving route
pub record Answers (old new : List NodeKind) (answer : Answer) (met unmet n : ℕ) : Type 0 where
  pub branch : IsBranch old new (answer_holds answer) met unmet n
  pub says : (on_atom : Atom → Bool) (on_change : Change → Bool) → answer_says on_atom answer ≡ true → said_at on_atom on_change old met ≡ true → said_at on_atom on_change old unmet ≡ true → said_at on_atom on_change new n ≡ true
