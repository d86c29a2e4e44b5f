-- What the maps say that are made of a tree for a judge.
use Rattle.std.specs.Prelude.{◌≡◌, ℕ, false, List, [], unwrap_or}
use Rattle.std.specs.Borrow.{Bor}
use Rattle.std.specs.BTreeMap.{BTreeMap}
use Rattle.std.specs.Option.{option_map_or}
use Rattle.route_types.specs.Address.{PrefixParts}
use Rattle.name_maps.specs.Under.{under}
use Rattle.junos_tree.specs.declared.item.JunosForm.{JunosForm}
use Rattle.junos_tree.specs.declared.item.JunosItem.{JunosItem}
use Rattle.junos_reader.specs.Facts.{forms_of}
use Rattle.junos_meaning.specs.Sets.{Naming, defined_at, behind, members, list_named, community_named, path_named, policy_named}
use Rattle.junos_meaning.specs.Conditions.{is_member, is_within}
use Rattle.junos_meaning.specs.declared.lists.ListAnswers.{ListAnswers}
use Rattle.junos_meaning.specs.declared.world.World.{World}

-- ---- definitions

-- a map from names to what begins with a definition
abbrev pub BlockMap : Type 0
BlockMap = BTreeMap (Bor (List ℕ)) (Bor (List JunosItem))

-- what stands under a name, or else this
abbrev pub block_or : BlockMap → List ℕ → List JunosForm → List JunosForm
block_or m name rest = option_map_or (λ b. forms_of b.now) (under m name) rest

-- the map has the definition of each name
abbrev pub Tells : Naming → BlockMap → List JunosItem → Type 0
Tells named m items = (name : List ℕ) → block_or m name [] ≡ defined_at named name (forms_of items)

-- the map and what the items behind define have the definition of each name
abbrev pub Goes : Naming → BlockMap → List JunosItem → List JunosItem → Type 0
Goes named m rest items = (name : List ℕ) → block_or m name (defined_at named name (forms_of rest)) ≡ defined_at named name (forms_of items)

-- ---- prefix lists

-- what the list whose members stand at the front of forms answers on a prefix
abbrev pub answers_on : PrefixParts → List JunosForm → ListAnswers
answers_on p forms = record { member = is_member (members forms) p; within = is_within (members forms) p }

-- a map from names to answers
abbrev pub AnswerMap : Type 0
AnswerMap = BTreeMap (Bor (List ℕ)) ListAnswers

-- the answers under a name, or else these
abbrev pub answers_or : AnswerMap → List ℕ → ListAnswers → ListAnswers
answers_or m name rest = unwrap_or (under m name) rest

-- the answers of a list without members
abbrev pub no_answers : ListAnswers
no_answers = record { member = false; within = false }

-- the map has the answers of the list of each name
abbrev pub TellsAnswers : PrefixParts → AnswerMap → List JunosItem → Type 0
TellsAnswers p m items = (name : List ℕ) → answers_or m name no_answers ≡ answers_on p (behind (defined_at list_named name (forms_of items)))

-- the map and the lists behind have the answers of the list of each name
abbrev pub GoesAnswers : PrefixParts → AnswerMap → List JunosItem → List JunosItem → Type 0
GoesAnswers p m rest items =
    (name : List ℕ) → answers_or m name (answers_on p (behind (defined_at list_named name (forms_of rest)))) ≡ answers_on p (behind (defined_at list_named name (forms_of items)))

-- ---- a judge

-- the maps have what the tree defines
pub record IsWorld (w : World) : Type 0 where
  pub lists : TellsAnswers w.prefix.now w.lists.entries w.items.now
  pub communities : Tells community_named w.communities.entries w.items.now
  pub paths : Tells path_named w.paths.entries w.items.now
  pub policies : Tells policy_named w.policies.entries w.items.now
