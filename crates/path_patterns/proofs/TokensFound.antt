-- The items of a pattern match the paths in whose text the pattern is found.
use Rattle.std.proofs.Common.{◌≡◌, refl, sym, subst, ℕ, ◌<◌, ◌^◌, true, List, [], ◌∷◌, ◌++◌, map, ◌↔◌, arith, inl, inr}
use Rattle.std.proofs.lemmas.Bool.Decides.{nat_tests}
use Rattle.std.proofs.lemmas.List.{map-append}
use Rattle.path_patterns.specs.Items.{IsPath, SomeOf, Takes, takes_of, in_set, BranchMatches, Matches}
use Rattle.path_patterns.specs.SamePaths.{BranchesTake}
use Rattle.path_patterns.specs.PathItems.{any_numbers, set_takes, tail_takes, later_takes, pieces_takes, mark_takes, branch_takes}
use Rattle.path_patterns.specs.SameTakes.{SameTake, SameTakes}
use Rattle.path_patterns.specs.Search.{Found}
use Rattle.path_patterns.specs.Shape.{IsShaped}
use Rattle.path_patterns.specs.TokenForm.{all_numbers, any_item, set_item, tail_item, later_items, pieces_items, mark_items, branch_items, branches_items, token_form}
use Rattle.path_patterns.specs.declared.items.TokenItem.{TokenItem}
use Rattle.path_patterns.specs.declared.items.TokenPattern.{TokenPattern}
use Rattle.path_patterns.specs.declared.pattern.IosBranch.{IosBranch}
use Rattle.path_patterns.specs.declared.pattern.IosBranch.TheVariants.{EmptyPath, Pieces}
use Rattle.path_patterns.specs.declared.pattern.Mark.{Mark}
use Rattle.path_patterns.specs.declared.pattern.Mark.TheVariants.{Anchor, Under, Nothing}
use Rattle.path_patterns.specs.declared.pattern.Piece.{Piece}
use Rattle.path_patterns.specs.declared.pattern.Piece.TheVariants.{Anything, Set}
use Rattle.path_patterns.specs.declared.pattern.DigitWord.{DigitWord}
use Rattle.path_patterns.specs.declared.pattern.Tail.{Tail}
use Rattle.path_patterns.proofs.FoundTaken.{found_taken, taken_found}
use Rattle.path_patterns.proofs.DigitRangesWords.{words_ranges}
use Rattle.path_patterns.proofs.SameTakes.{same_taken, same_back, same_append}

-- what the items take
abbrev takes_all : List TokenItem → List Takes
takes_all is = map takes_of is

all_hold : (n : ℕ) → n < 2 ^ 32 → in_set all_numbers n ≡ true
all_hold n small = grind (arith, nat_tests)

same_any : (least : ℕ) → SameTake (takes_of (any_item least)) (any_numbers least)
same_any least = record { least = refl; most = refl; fits = all_hold }

same_set : (ws : List DigitWord) → SameTake (takes_of (set_item ws)) (set_takes ws)
same_set ws = record { least = refl; most = refl; fits = words_ranges ws }

same_tail : (t : Tail) → SameTake (takes_of (tail_item t)) (tail_takes t)
same_tail t = record { least = refl; most = refl; fits = words_ranges t.words }

same_tails : (ts : List Tail) → SameTakes (takes_all (map tail_item ts)) (map tail_takes ts)
same_tails [] = tt
same_tails (t ∷ ts) = (same_tail t, same_tails ts)

-- items one behind the other
both_same : (is js : List TokenItem) (ts us : List Takes) → SameTakes (takes_all is) ts → SameTakes (takes_all js) us → SameTakes (takes_all (is ++ js)) (ts ++ us)
both_same is js ts us h k = subst (λ (x : List Takes). SameTakes x (ts ++ us)) (sym (map-append takes_of is js)) (same_append (takes_all is) ts (takes_all js) us h k)

same_later : (ps : List Piece) → SameTakes (takes_all (later_items ps)) (later_takes ps)
unfolding later_items later_takes
same_later [] = tt
same_later (Anything ∷ []) = (same_any 0, tt)
same_later (Anything ∷ p ∷ ps) = (same_any 1, same_later (p ∷ ps))
same_later (Set s ∷ ps) = (same_set s.words, both_same (map tail_item s.tails) (later_items ps) (map tail_takes s.tails) (later_takes ps) (same_tails s.tails) (same_later ps))

same_pieces : (ps : List Piece) → SameTakes (takes_all (pieces_items ps)) (pieces_takes ps)
same_pieces [] = same_later []
same_pieces (Anything ∷ ps) = (same_any 0, same_later ps)
same_pieces (Set s ∷ ps) = same_later (Set s ∷ ps)

same_mark : (m : Mark) → SameTakes (takes_all (mark_items m)) (mark_takes m)
same_mark Anchor = tt
same_mark Under = (same_any 0, tt)
same_mark Nothing = tt

same_branch : (b : IosBranch) → SameTakes (takes_all (branch_items b)) (branch_takes b)
same_branch EmptyPath = tt
same_branch (Pieces b) =
    both_same (mark_items b.left) (pieces_items b.pieces ++ mark_items b.right) (mark_takes b.left) (pieces_takes b.pieces ++ mark_takes b.right) (same_mark b.left)
    (both_same (pieces_items b.pieces) (mark_items b.right) (pieces_takes b.pieces) (mark_takes b.right) (same_pieces b.pieces) (same_mark b.right))

matched : (bs : List IosBranch) (path : List ℕ) → IsPath path → SomeOf (λ b. BranchMatches b path) (branches_items bs) → BranchesTake bs path
matched [] path p h = h
matched (b ∷ bs) path p (inl h) = inl (same_taken (takes_all (branch_items b)) (branch_takes b) path (same_branch b) p h)
matched (b ∷ bs) path p (inr h) = inr (matched bs path p h)

taken : (bs : List IosBranch) (path : List ℕ) → IsPath path → BranchesTake bs path → SomeOf (λ b. BranchMatches b path) (branches_items bs)
taken [] path p h = h
taken (b ∷ bs) path p (inl h) = inl (same_taken (branch_takes b) (takes_all (branch_items b)) path (same_back (takes_all (branch_items b)) (branch_takes b) (same_branch b)) p h)
taken (b ∷ bs) path p (inr h) = inr (taken bs path p h)

-- the items match a path where the pattern is found, and nowhere else
pub tokens_found : (bs : List IosBranch) (t : TokenPattern) → IsShaped bs → t ≡ token_form bs → (path : List ℕ) → IsPath path → Matches t path ↔ Found bs path
tokens_found bs t shaped e path p = (
  λ h. taken_found bs path shaped p (matched bs path p (subst (λ (x : TokenPattern). Matches x path) e h)),
  λ h. subst (λ (x : TokenPattern). Matches x path) (sym e) (taken bs path p (found_taken bs path shaped p h)),
)
