-- What a store of decision diagrams is: its places, its nodes, and the facts that its nodes keep.
use Rattle.std.specs.Prelude.{◌≢◌, ℕ, ◌+◌, ◌<◌, Bool, List, [], ◌∷◌, length, Option, Some, None, option_map, unwrap_or, if◌then◌else◌, ◌==◌}
use Rattle.bit_diagrams.specs.declared.parts.Node.{Node}

-- a store: the number of places, and the nodes, the newest first
pub record Store : Type 0 where
  pub places : ℕ
  pub nodes : List Node

-- the number of Ids: 0 and 1 are the constants false and true, and each node has the next one
abbrev pub ids : List Node → ℕ
ids nodes = length nodes + 2

-- the Id of a constant
abbrev pub constant_id : Bool → ℕ
constant_id value = if value then 1 else 0

-- the Id is of the store: a constant's, or that of one of the nodes
abbrev pub IsIdOf : Store → ℕ → Type 0
IsIdOf s id = id < ids s.nodes

-- the node that an Id names; the constants name none
unfoldable pub node_at : List Node → ℕ → Option Node
node_at [] id = None
node_at (n ∷ older) id = if id == ids older then Some n else node_at older id

-- the place that an Id tests first, or the number of places for a constant
unfoldable pub place_of : ℕ → List Node → ℕ → ℕ
place_of places nodes id = unwrap_or (option_map (λ n. n.place) (node_at nodes id)) places

-- a node fits the older nodes: the four facts that each node of a store keeps
pub record FitsOn (places : ℕ) (older : List Node) (n : Node) : Type 0 where
  -- its place is one of the store's
  pub within : n.place < places
  -- children stand before parents
  pub low_before : n.low < ids older
  pub high_before : n.high < ids older
  -- places rise from parent to child
  pub low_rises : n.place < place_of places older n.low
  pub high_rises : n.place < place_of places older n.high
  -- the two children differ
  pub differ : n.low ≢ n.high
  -- no node stands twice
  pub once : (id : ℕ) → node_at older id ≢ Some n

-- the nodes of a store, the newest first: each fits those before it
unfoldable pub AreNodes : ℕ → List Node → Type 0
AreNodes places [] = Unit {0}
AreNodes places (n ∷ older) = FitsOn places older n × AreNodes places older

-- the facts that every store keeps
abbrev pub IsStore : Store → Type 0
IsStore s = AreNodes s.places s.nodes
