-- What maps of blocks say.
use Rattle.std.specs.Prelude.{◌≡◌, ℕ, List, []}
use Rattle.std.specs.Borrow.{Bor}
use Rattle.std.specs.BTreeMap.{BTreeMap}
use Rattle.std.specs.Option.{option_map_or}
use Rattle.name_maps.specs.Under.{under}
use Rattle.rpl_forms.specs.declared.item.RplForm.{RplForm}
use Rattle.rpl_forms.specs.declared.item.RplItem.{RplItem}
use Rattle.rpl_tree.specs.Tree.{forms}
use Rattle.rpl_meaning.specs.Sets.{Naming, block_at, Bindings, prefix_set_named, community_set_named, path_set_named, policy_named}
use Rattle.rpl_meaning.specs.declared.tests.World.{World}

-- a map from names to what begins with a first line
abbrev pub BlockMap : Type 0
BlockMap = BTreeMap (Bor (List ℕ)) (Bor (List RplItem))

-- the block that stands under a name, or else this
abbrev pub block_or : BlockMap → List ℕ → List RplForm → List RplForm
block_or m name rest = option_map_or (λ b. forms b.now) (under m name) rest

-- the map has the block of each name
abbrev pub Tells : Naming → BlockMap → List RplItem → Type 0
Tells named m items = (name : List ℕ) → block_or m name [] ≡ block_at named name (forms items)

-- the map and what the items behind hold have the block of each name
abbrev pub Goes : Naming → BlockMap → List RplItem → List RplItem → Type 0
Goes named m rest items = (name : List ℕ) → block_or m name (block_at named name (forms rest)) ≡ block_at named name (forms items)

-- a map from parameters to the words that they stand for
abbrev pub WordMap : Type 0
WordMap = BTreeMap (Bor (List ℕ)) (Bor (List ℕ))

-- the word under a parameter, or else this
abbrev pub word_or : WordMap → List ℕ → List ℕ → List ℕ
word_or m rest x = option_map_or (λ w. w.now) (under m x) rest

-- the word under a parameter, empty where none stands there
abbrev pub word_in : WordMap → Bindings
word_in m x = word_or m [] x

-- the maps of a text have its blocks
pub record IsWorld (w : World) : Type 0 where
  pub prefix_sets : Tells prefix_set_named w.prefix_sets.entries w.items.now
  pub community_sets : Tells community_set_named w.community_sets.entries w.items.now
  pub path_sets : Tells path_set_named w.path_sets.entries w.items.now
  pub policies : Tells policy_named w.policies.entries w.items.now
