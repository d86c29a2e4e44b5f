-- A word is one chain of names: those that stand between its commas.
use Rattle.std.proofs.Common.{◌≡◌, refl, sym, ap, subst, ◌∙◌, ℕ, Bool, true, false, ◌&&◌, not, List, [], ◌∷◌, ◌++◌, append_assoc, append-nil, arith}
use Rattle.std.specs.Prelude.{◌==◌}
use Rattle.std.specs.List.{list_all}
use Rattle.std.proofs.lemmas.Bool.{and_parts}
use Rattle.std.proofs.lemmas.Bool.Decides.{nat_tests}
use Rattle.policy_request.specs.Languages.{names_from, with_commas, is_whole, IsChain}

-- ---- the names of a chain

not_comma : (c : ℕ) → not (c == 44) ≡ true → (c == 44) ≡ false
not_comma c e = flip (c == 44) e
  where
    flip : (t : Bool) → not t ≡ true → t ≡ false
    flip true e = absurd cc
    flip false e = refl

-- the bytes of a name are read on
read_on : (begun name rest : List ℕ) → is_whole name ≡ true → names_from begun (name ++ rest) ≡ names_from (begun ++ name) rest
unfolding names_from
read_on begun [] rest whole = ap (λ (b : List ℕ). names_from b rest) (sym (append-nil begun))
read_on begun (c ∷ cs) rest whole =
    let parts = and_parts (not (c == 44)) (is_whole cs) whole in
    ap (λ (t : Bool). elim t [ true ↦ begun ∷ names_from [] (cs ++ rest) | false ↦ names_from (begun ++ c ∷ []) (cs ++ rest) ]) (not_comma c parts.0)
    ∙ read_on (begun ++ c ∷ []) cs rest parts.1
    ∙ ap (λ (b : List ℕ). names_from b rest) (append_assoc begun (c ∷ []) cs)

names_of : (name : List ℕ) (others : List (List ℕ)) → is_whole name ≡ true → list_all is_whole others ≡ true → names_from [] (with_commas name others) ≡ name ∷ others
unfolding names_from with_commas
names_of name [] whole all = ap (names_from []) (sym (append-nil name)) ∙ read_on [] name [] whole
names_of name (other ∷ names) whole all =
    let parts = and_parts (is_whole other) (list_all is_whole names) all in
    read_on [] name (44 ∷ with_commas other names) whole ∙ ap (λ (ns : List (List ℕ)). name ∷ ns) (names_of other names parts.0 parts.1)

-- a chain of the word is what is found
pub only : (word : List ℕ) (names : List (List ℕ)) → IsChain word names → names ≡ names_from [] word
only word names chain =
    let whole : list_all is_whole (chain.first ∷ chain.others) ≡ true = subst (λ (ns : List (List ℕ)). list_all is_whole ns ≡ true) chain.named chain.whole in
    let parts = and_parts (is_whole chain.first) (list_all is_whole chain.others) whole in
    chain.named ∙ sym (names_of chain.first chain.others parts.0 parts.1) ∙ ap (names_from []) (sym chain.spelled)

-- ---- what is found is a chain

one_longer : (begun : List ℕ) (c : ℕ) → is_whole begun ≡ true → (c == 44) ≡ false → is_whole (begun ++ c ∷ []) ≡ true
one_longer [] c whole other = ap (λ (t : Bool). not t && true) other
one_longer (b ∷ bs) c whole other =
    let parts = and_parts (not (b == 44)) (is_whole bs) whole in
    rw parts.0 (one_longer bs c parts.1 other)

-- one more name in front of a chain
in_front : (begun cs : List ℕ) (names : List (List ℕ)) → is_whole begun ≡ true → IsChain cs names → IsChain (begun ++ 44 ∷ cs) (begun ∷ names)
unfolding with_commas
in_front begun cs names whole chain = record {
  first = begun;
  others = chain.first ∷ chain.others;
  named = ap (λ (ns : List (List ℕ)). begun ∷ ns) chain.named;
  spelled = ap (λ (w : List ℕ). begun ++ 44 ∷ w) chain.spelled;
  whole = rw whole chain.whole;
}

found_from : (begun cs : List ℕ) → is_whole begun ≡ true → IsChain (begun ++ cs) (names_from begun cs)
unfolding names_from with_commas
found_from begun [] whole = record { first = begun; others = []; named = refl; spelled = append-nil begun; whole = ap (λ (t : Bool). t && true) whole }
found_from begun (c ∷ cs) whole = here (c == 44) refl (found_from [] cs refl) (found_from (begun ++ c ∷ []) cs)
  where
    here : (t : Bool) → (c == 44) ≡ t → IsChain cs (names_from [] cs) → (is_whole (begun ++ c ∷ []) ≡ true → IsChain ((begun ++ c ∷ []) ++ cs) (names_from (begun ++ c ∷ []) cs))
        → IsChain (begun ++ c ∷ cs) (elim t [ true ↦ begun ∷ names_from [] cs | false ↦ names_from (begun ++ c ∷ []) cs ])
    here true is rest more =
        let comma : c ≡ 44 = grind (arith, nat_tests) in
        subst (λ (b : ℕ). IsChain (begun ++ b ∷ cs) (begun ∷ names_from [] cs)) (sym comma) (in_front begun cs (names_from [] cs) whole rest)
    here false is rest more =
        subst (λ (w : List ℕ). IsChain w (names_from (begun ++ c ∷ []) cs)) (append_assoc begun (c ∷ []) cs) (more (one_longer begun c whole is))

-- the names that are found are a chain of the word
pub found : (word : List ℕ) → IsChain word (names_from [] word)
found word = found_from [] word refl
