-- The blocks of a text, by their kinds and names, and what they hold.
use Rattle.std.specs.Prelude.{ℕ, Bool, true, false, ◌&&◌, ◌||◌, not, ◌==◌, List, [], ◌∷◌, Option, Some, None, bytes_eq, length}
use Rattle.std.specs.List.{list_any}
use Rattle.route_types.specs.Community.{RectParts}
use Rattle.policy_text.specs.Names.{is_named}
use Rattle.text_words.specs.declared.rpl_blocks.BlockKind.{BlockKind}
use Rattle.text_words.specs.declared.rpl_blocks.BlockKind.TheVariants.{PrefixSet as PrefixBlock, CommunitySet as CommunityBlock, PathSet as PathBlock, Policy as PolicyBlock}
use Rattle.rpl_words.specs.declared.element.Element.TheVariants.{Community as CommunityElement}
use Rattle.rpl_forms.specs.declared.item.Header.TheVariants.{Policy}
use Rattle.rpl_forms.specs.declared.item.RplForm.{RplForm}
use Rattle.rpl_forms.specs.declared.item.RplForm.TheVariants.{Header as HeaderForm, Element as ElementForm, Other}
use Rattle.rpl_forms.specs.declared.item.RplItem.{RplItem}
use Rattle.rpl_calls.specs.Policies.{opens, name_of}
use Rattle.rpl_calls.specs.declared.ask.SetSort.{SetSort}
use Rattle.rpl_calls.specs.declared.ask.SetSort.TheVariants.{Prefix, Community, Path}

-- the kind of block that sets of a sort stand in
abbrev pub block_of : SetSort → BlockKind
block_of Prefix = PrefixBlock
block_of Community = CommunityBlock
block_of Path = PathBlock

abbrev pub is_kind : BlockKind → BlockKind → Bool
is_kind PrefixBlock PrefixBlock = true
is_kind CommunityBlock CommunityBlock = true
is_kind PathBlock PathBlock = true
is_kind PolicyBlock PolicyBlock = true
is_kind _ _ = false

-- the name that a first line stands under, if it has one
abbrev pub name_opened : RplForm → Option (List ℕ)
name_opened (HeaderForm h) = Some (name_of h)
name_opened (Other o) = o.name
name_opened _ = None

-- the form is the first line of a block of this kind and name
abbrev pub heads : BlockKind → List ℕ → RplForm → Bool
heads kind name form = elim (opens form) [ None ↦ false | Some k ↦ is_kind kind k && is_named name (name_opened form) ]

-- a block of this kind and name is there
abbrev pub is_there : BlockKind → List ℕ → List RplItem → Bool
is_there kind name items = list_any (λ i. heads kind name i.form) items

-- a community that is all that an element holds
abbrev pub is_single : RectParts → Bool
is_single r = (r.high_least == r.high_most) && (r.low_least == r.low_most)

-- the form is an element of a community set that isn't a single community
abbrev pub is_wide : RplForm → Bool
is_wide (ElementForm (CommunityElement r)) = not (is_single r)
is_wide _ = false

-- a community set of this name has such an element; `inside` says whether the items before the first block are of one
unfoldable pub has_wide : List ℕ → Bool → List RplItem → Bool
has_wide name inside [] = false
has_wide name inside (i ∷ is) = elim (opens i.form) [
  | Some kind ↦ has_wide name (heads CommunityBlock name i.form) is
  | None ↦ (inside && is_wide i.form) || has_wide name inside is
]

-- the form is the first line of a policy of this name that has another number of parameters
abbrev pub takes_other : List ℕ → ℕ → RplForm → Bool
takes_other name n (HeaderForm (Policy h)) = bytes_eq name h.name && not (length h.parameters == n)
takes_other name n _ = false
