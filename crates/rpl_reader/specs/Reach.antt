-- What a policy reaches: the policies that it leads to, and the sets that their statements name or that are handed to them.
use Rattle.std.specs.Prelude.{◌≡◌, ℕ, ◌⊎◌, Bool, true, false, ◌&&◌, List, [], ◌∷◌, Some, None, bytes_eq, slice_get}
use Rattle.std.specs.List.{list_any}
use Rattle.text_words.specs.declared.rpl_blocks.BlockKind.{BlockKind}
use Rattle.text_words.specs.declared.rpl_blocks.BlockKind.TheVariants.{Policy as PolicyBlock}
use Rattle.rpl_forms.specs.declared.item.RplItem.{RplItem}
use Rattle.step_search.specs.Found.{IsFound}
use Rattle.policy_calls.specs.Calls.{Link, is_reached}
use Rattle.rpl_calls.specs.Policies.{Spoken, spoken_from, opens, name_under}
use Rattle.rpl_calls.specs.Asks.{asks_of}
use Rattle.rpl_calls.specs.Calls.{calls_of, links}
use Rattle.rpl_calls.specs.Arguments.{ArgumentParts, arguments_of, written}
use Rattle.rpl_calls.specs.Demands.{next_demands, first_demands}
use Rattle.rpl_calls.specs.declared.ask.Question.TheVariants.{Set}
use Rattle.rpl_calls.specs.declared.ask.SetSort.{SetSort}
use Rattle.rpl_calls.specs.declared.demand.Demand.{Demand}
use Rattle.rpl_facts.specs.Uses.{Use, UsesSet, UsesParameter, uses_of}
use Rattle.rpl_facts.specs.Blocks.{block_of, is_kind}

-- which policy calls which
abbrev pub links_in : List RplItem → List Link
links_in all = links (calls_of all)

-- the policy leads to the policies of this name
abbrev pub is_reached_policy : List ℕ → List RplItem → List ℕ → Bool
is_reached_policy policy all name = is_reached (links_in all) (policy ∷ []) name

-- the arguments of the calls of a text
abbrev pub arguments_in : List RplItem → List ArgumentParts
arguments_in all = arguments_of (calls_of all)

-- the argument at a place among all is this word, and its call stands in a policy that is reached
pub record IsWritten (policy : List ℕ) (all : List RplItem) (k : ℕ) (argument : ArgumentParts) (word : List ℕ) : Type 0 where
  pub there : slice_get (arguments_in all) k ≡ Some argument
  pub reached : is_reached_policy policy all argument.call.caller ≡ true
  pub is : written argument ≡ Some word

-- an argument is asked this, by the policy that it is handed to or by what that hands it on to
abbrev pub IsDemanded : List RplItem → Demand → Type 0
IsDemanded all d = IsFound (next_demands (arguments_in all)) (first_demands (arguments_in all) (asks_of all)) d

-- the set of this kind and name is used
abbrev pub is_use : BlockKind → List ℕ → Use → Bool
is_use kind name (UsesSet set) = is_kind kind (block_of set.0) && bytes_eq name set.1
is_use kind name (UsesParameter x) = false

-- a statement of a policy that is reached names the set of this kind and name
abbrev pub names_set : (List ℕ → Bool) → BlockKind → List ℕ → Spoken → Bool
names_set reached kind name s = reached (name_under s.line) && list_any (is_use kind name) (uses_of s.item.form)

abbrev pub is_named_by : List ℕ → List RplItem → BlockKind → List ℕ → Bool
is_named_by policy all kind name = list_any (names_set (is_reached_policy policy all) kind name) (spoken_from None all)

-- the set's name is written as an argument in a policy that is reached, and a set of its kind is asked for there
pub record IsGiven (policy : List ℕ) (all : List RplItem) (kind : BlockKind) (name : List ℕ) : Type 0 where
  pub k : ℕ
  pub sort : SetSort
  pub argument : ArgumentParts
  pub written : IsWritten policy all k argument name
  pub asked : IsDemanded all (record { argument = k; question = Set sort })
  pub of_kind : is_kind kind (block_of sort) ≡ true

-- a block of this kind and name is reached
abbrev pub IsReachedBlock : List ℕ → List RplItem → BlockKind → List ℕ → Type 0
IsReachedBlock policy all PolicyBlock name = is_reached_policy policy all name ≡ true
IsReachedBlock policy all kind name = (is_named_by policy all kind name ≡ true) ⊎ IsGiven policy all kind name

-- the block that is open behind these items, the nearest first, is reached
abbrev pub IsReachedBehind : List ℕ → List RplItem → List RplItem → Type 0
IsReachedBehind policy all [] = ⊥
IsReachedBehind policy all (i ∷ before) = elim (opens i.form) [ Some kind ↦ IsReachedBlock policy all kind (name_under i.form) | None ↦ IsReachedBehind policy all before ]

-- an item with these before it, the nearest first, is reached
abbrev pub IsReached : List ℕ → List RplItem → List RplItem → RplItem → Type 0
IsReached policy all before i = IsReachedBehind policy all (i ∷ before)
