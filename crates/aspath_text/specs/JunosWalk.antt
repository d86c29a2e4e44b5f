-- The place where the first item of a text ends, as the program walks to it.
use Rattle.std.specs.Prelude.{ℕ, ◌+◌, Bool, true, false, List, [], ◌∷◌, Option, Some, None}
use Rattle.aspath_text.specs.JunosRead.{parts_items, in_group}

-- the place of the first blank outside of groups, where the first byte has place n
unfoldable pub item_end : Bool → ℕ → List ℕ → Option ℕ
item_end inside n [] = None
item_end inside n (c ∷ cs) = elim (parts_items inside c) [ true ↦ Some n | false ↦ item_end (in_group inside c) (n + 1) cs ]
