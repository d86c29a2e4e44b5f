-- Worked examples of what a text touches.
use Rattle.std.proofs.Common.{◌≡◌, refl, inl, inr, ℕ, List, [], ◌∷◌, ◌++◌, Some, None}
use Rattle.std.specs.Prelude.{codes}
use Rattle.text_words.specs.RplWords.{lexemes, sort_at, has_quote}
use Rattle.text_words.specs.RplCut.{taken, cut_from, rpl_cut}
use Rattle.rpl_text.specs.Blocks.{block_names}
use Rattle.rpl_printer.specs.Own.{TouchesItsOwn}

-- lines, each with its LF
abbrev text : List (List ℕ) → List ℕ
text [] = []
text (l ∷ ls) = l ++ (10 ∷ text ls)

-- a set under the policy's name, and the policy
abbrev own_text : List ℕ
own_text = text (codes "prefix-set M-p1" ∷ codes "end-set" ∷ codes "!" ∷ codes "route-policy M" ∷ codes "  drop" ∷ codes "end-policy" ∷ [])

own_names : block_names None (rpl_cut own_text) ≡ Some (codes "M-p1" ∷ codes "M" ∷ [])
unfolding block_names rpl_cut cut_from taken lexemes sort_at has_quote
own_names = refl

-- it touches nothing but M's own
its_own : TouchesItsOwn (codes "M") own_text
its_own = record { names = codes "M-p1" ∷ codes "M" ∷ []; are = own_names; own = (inr (codes "p1", refl), (inl refl, tt)) }

-- a line outside blocks is none of the policy's
foreign_line : block_names None (rpl_cut (text (codes "router bgp 1" ∷ codes "route-policy M" ∷ codes "end-policy" ∷ []))) ≡ None
unfolding block_names rpl_cut cut_from taken lexemes sort_at has_quote
foreign_line = refl
