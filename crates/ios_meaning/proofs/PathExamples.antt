-- Worked examples of path lists that the checker computes.
use Rattle.std.proofs.Common.{◌≡◌, refl, ap, ◌∙◌, ℕ, codes, Bool, true, false, List, [], ◌∷◌, arith}
use Rattle.std.proofs.lemmas.Fmt.{decimal_digit}
use Rattle.path_patterns.specs.Search.{path_text}
use Rattle.path_patterns.specs.Finds.{anything_then, pieces_then, found_in, finds_in}
use Rattle.path_patterns.specs.declared.pattern.IosBranch.{IosBranch}
use Rattle.path_patterns.specs.declared.pattern.IosBranch.TheVariants.{EmptyPath, Pieces}
use Rattle.path_patterns.specs.declared.pattern.Mark.TheVariants.{Nothing}
use Rattle.path_patterns.specs.declared.pattern.Piece.TheVariants.{Anything}
use Rattle.ios_tree.specs.declared.item.PathListEntry.{PathListEntry}
use Rattle.ios_meaning.specs.Lists.{path_answers}

abbrev entry : Bool → IosBranch → PathListEntry
entry permit branch = record { list = codes "10"; permit = permit; pattern = branch ∷ [] }

-- `.*`
abbrev any_path : IosBranch
any_path = Pieces (record { left = Nothing; pieces = Anything ∷ []; right = Nothing })

-- both patterns are found in the empty path: the first entry decides
denies_first : path_answers (entry false EmptyPath ∷ entry true any_path ∷ []) [] ≡ false
unfolding path_answers finds_in found_in path_text anything_then pieces_then
denies_first = refl

permits_first : path_answers (entry true any_path ∷ entry false EmptyPath ∷ []) [] ≡ true
unfolding path_answers finds_in found_in path_text anything_then pieces_then
permits_first = refl

-- `^$` is not found in a path of one number
not_empty : finds_in (EmptyPath ∷ []) (7 ∷ []) ≡ false
unfolding finds_in found_in path_text anything_then
not_empty = ap (λ (text : List ℕ). found_in text (EmptyPath ∷ [])) (decimal_digit 7 (omega arith))

-- `.*` is
any_is_found : finds_in (any_path ∷ []) (7 ∷ []) ≡ true
unfolding finds_in found_in path_text anything_then pieces_then
any_is_found = ap (λ (text : List ℕ). found_in text (any_path ∷ [])) (decimal_digit 7 (omega arith))

-- an entry whose pattern isn't found is passed over
passes : path_answers (entry false EmptyPath ∷ entry true any_path ∷ []) (7 ∷ []) ≡ true
unfolding path_answers
passes =
    ap (λ (t : Bool). elim t [ true ↦ false | false ↦ path_answers (entry true any_path ∷ []) (7 ∷ []) ]) not_empty
    ∙ ap (λ (t : Bool). elim t [ true ↦ true | false ↦ false ]) any_is_found

-- where no pattern is found the answer is no
none_found : path_answers (entry true EmptyPath ∷ []) (7 ∷ []) ≡ false
unfolding path_answers
none_found = ap (λ (t : Bool). elim t [ true ↦ true | false ↦ false ]) not_empty
