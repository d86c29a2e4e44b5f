-- The rows decide whether an IOS pattern is found in the text of a path.
use Rattle.std.proofs.Common.{◌≡◌, ℕ, suc, ◌^◌, ◌<◌, List, [], ◌∷◌, get_or, Fits, w32, arith}
use Rattle.std.specs.Bool.{Decides}
use Rattle.std.proofs.lemmas.Bool.Decides.{Decides-like, same_from_decides}
use Rattle.path_patterns.specs.Finds.{finds_in}
use Rattle.path_patterns.specs.Items.{IsPath}
use Rattle.path_patterns.specs.Rows.{branches_take}
use Rattle.path_patterns.specs.Search.{Found}
use Rattle.path_patterns.specs.Shape.{IsShaped}
use Rattle.path_patterns.specs.declared.pattern.IosBranch.{IosBranch}
use Rattle.path_patterns.proofs.FindsFound.{finds_in_decides}
use Rattle.path_patterns.proofs.FoundTaken.{found_taken, taken_found}
use Rattle.path_patterns.proofs.RowLaws.{branches_decide}

-- numbers of 32 bits are those of a path
pub slice_is_path : (path : List ℕ) → ((i : ℕ) → Fits w32 (get_or path i 0)) → IsPath path
slice_is_path [] h = tt
slice_is_path (n ∷ ns) h =
    let first : n < 2 ^ 32 = omega (arith, h 0) in
    (first, slice_is_path ns (λ i. h (suc i)))

-- the rows decide whether a pattern is found
pub rows_decide : (bs : List IosBranch) (path : List ℕ) → IsShaped bs → IsPath path → Decides (branches_take bs path) (Found bs path)
rows_decide bs path shaped range =
    Decides-like (branches_take bs path) (taken_found bs path shaped range) (found_taken bs path shaped range) (branches_decide bs path)

-- so they answer as the function does
pub rows_find : (bs : List IosBranch) (path : List ℕ) → IsShaped bs → IsPath path → branches_take bs path ≡ finds_in bs path
rows_find bs path shaped range = same_from_decides (branches_take bs path) (finds_in bs path) (rows_decide bs path shaped range) (finds_in_decides bs path)
