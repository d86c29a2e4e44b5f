-- A text that touches no name but its own.
use Rattle.std.specs.Prelude.{◌≡◌, ℕ, List, None, Some}
use Rattle.std.specs.List.{AllByRecursion}
use Rattle.text_words.specs.RplCut.{rpl_cut}
use Rattle.rpl_text.specs.Blocks.{block_names}
use Rattle.rpl_writable.specs.Names.{IsOwnName}

-- each statement of the text lies in a block, and each block has the name, or stands under it with `-` and more behind it
pub record TouchesItsOwn (name text : List ℕ) : Type 0 where
  pub names : List (List ℕ)
  pub are : block_names None (rpl_cut text) ≡ Some names
  pub own : AllByRecursion (IsOwnName name) names
