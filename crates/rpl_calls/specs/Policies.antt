-- The statements of the policies of a text, each with the first line of its policy, and the names that first lines give.
use Rattle.std.specs.Prelude.{ℕ, ◌+◌, true, false, List, [], ◌∷◌, Option, Some, None, bytes_eq}
use Rattle.policy_text.specs.Names.{or_else}
use Rattle.text_words.specs.declared.rpl_blocks.BlockKind.{BlockKind}
use Rattle.text_words.specs.declared.rpl_blocks.BlockKind.TheVariants.{PrefixSet as PrefixBlock, CommunitySet as CommunityBlock, PathSet as PathBlock, Policy as PolicyBlock}
use Rattle.rpl_forms.specs.declared.item.Header.{Header}
use Rattle.rpl_forms.specs.declared.item.Header.TheVariants.{PrefixSet, CommunitySet, PathSet, Policy}
use Rattle.rpl_forms.specs.declared.item.RplForm.{RplForm}
use Rattle.rpl_forms.specs.declared.item.RplForm.TheVariants.{Header as HeaderForm, Other}
use Rattle.rpl_forms.specs.declared.item.RplItem.{RplItem}

-- the kind of a block
abbrev pub kind_of : Header → BlockKind
kind_of (PrefixSet n) = PrefixBlock
kind_of (CommunitySet n) = CommunityBlock
kind_of (PathSet n) = PathBlock
kind_of (Policy h) = PolicyBlock

-- the name of a block
abbrev pub name_of : Header → List ℕ
name_of (PrefixSet n) = n
name_of (CommunitySet n) = n
name_of (PathSet n) = n
name_of (Policy h) = h.name

-- the block that a form opens
abbrev pub opens : RplForm → Option BlockKind
opens (HeaderForm h) = Some (kind_of h)
opens (Other o) = o.opens
opens _ = None

-- the name that a first line stands under; no name is empty, and what has none stands under the empty one
abbrev pub name_under : RplForm → List ℕ
name_under (HeaderForm h) = name_of h
name_under (Other o) = or_else o.name []
name_under _ = []

-- the parameters of a policy
abbrev pub parameters_of : Header → List (List ℕ)
parameters_of (Policy h) = h.parameters
parameters_of _ = []

-- the parameters that a first line gives; one of no form gives none
abbrev pub parameters_in : RplForm → List (List ℕ)
parameters_in (HeaderForm h) = parameters_of h
parameters_in _ = []

-- the first line of a policy, where the block that a form opens is one
abbrev pub policy_line : BlockKind → RplForm → Option RplForm
policy_line PolicyBlock form = Some form
policy_line _ form = None

-- a statement of a policy, and the first line of that policy
pub record Spoken : Type 0 where
  pub line : RplForm
  pub item : RplItem

-- the statements of policies; the first line is that of the policy that is open before the items
unfoldable pub spoken_from : Option RplForm → List RplItem → List Spoken
spoken_from line [] = []
spoken_from line (i ∷ is) = elim (opens i.form) [
  | Some kind ↦ spoken_from (policy_line kind i.form) is
  | None ↦ elim line [ None ↦ spoken_from None is | Some l ↦ record { line = l; item = i } ∷ spoken_from (Some l) is ]
]

-- the place of the first of the names that is this one, counted on from n
unfoldable pub place_from : ℕ → List (List ℕ) → List ℕ → Option ℕ
place_from n [] x = None
place_from n (y ∷ ys) x = elim (bytes_eq x y) [ true ↦ Some n | false ↦ place_from (n + 1) ys x ]

-- the place of a parameter among those of a policy, from 0
abbrev pub place_of : List (List ℕ) → List ℕ → Option ℕ
place_of parameters x = place_from 0 parameters x
