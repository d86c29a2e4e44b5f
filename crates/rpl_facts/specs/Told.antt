-- Blocks under their names, as sets of names tell them.
use Rattle.std.specs.Prelude.{◌≡◌, ℕ, Bool, false, ◌&&◌, ◌||◌, ◌==◌, List, Option, Some, None, option_map}
use Rattle.std.specs.BTreeSet.{BTreeSet}
use denote.Ref.{Bor}
use Rattle.policy_text.specs.Names.{is_named}
use Rattle.policy_text.specs.NameSets.{has_name}
use Rattle.text_words.specs.declared.rpl_blocks.BlockKind.{BlockKind}
use Rattle.text_words.specs.declared.rpl_blocks.BlockKind.TheVariants.{PrefixSet, CommunitySet, PathSet, Policy}
use Rattle.rpl_forms.specs.declared.item.RplItem.{RplItem}
use Rattle.rpl_calls.specs.Policies.{opens}
use Rattle.rpl_facts.specs.Blocks.{name_opened, is_there, has_wide}

-- a set of names
abbrev pub Names : Type 0
Names = BTreeSet (Bor (List ℕ) × ℕ × ℕ)

-- the number of a kind
abbrev pub kind_code : BlockKind → ℕ
kind_code PrefixSet = 0
kind_code CommunitySet = 1
kind_code PathSet = 2
kind_code Policy = 3

-- a block of this kind is under this name, by the number of its kind
abbrev pub is_block : List ℕ → ℕ → ℕ → Option BlockKind → Option (List ℕ) → Bool
is_block q s n None name = false
is_block q s n (Some kind) name = (n == 0) && (s == kind_code kind) && is_named q name

abbrev pub gives_block : List ℕ → ℕ → ℕ → RplItem → Bool
gives_block q s n i = is_block q s n (opens i.form) (name_opened i.form)

-- the set tells which blocks are there
abbrev pub TellsBlocks : Names → List RplItem → Type 0
TellsBlocks names items = (kind : BlockKind) (q : List ℕ) → has_name names q (kind_code kind) 0 ≡ is_there kind q items

-- the set tells which community sets have an element that isn't a single community
abbrev pub TellsWide : Names → List RplItem → Type 0
TellsWide names items = (q : List ℕ) → has_name names q 0 0 ≡ has_wide q false items

-- the name that is lent, if one is
abbrev pub lent : Option (Bor (List ℕ)) → Option (List ℕ)
lent name = option_map (λ n. n.now) name

-- those noted so far, and those that the rest has, where this community set is open
abbrev pub IsWidening : Names → Option (Bor (List ℕ)) → List RplItem → List RplItem → Type 0
IsWidening names name rest all = (q : List ℕ) → (has_name names q 0 0 || has_wide q (is_named q (lent name)) rest) ≡ has_wide q false all
