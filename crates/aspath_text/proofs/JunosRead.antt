-- The Junos pattern of a text: what is found is spelled, and what is spelled is found.
use Rattle.std.proofs.Common.{◌≡◌, refl, sym, ap, subst, ◌∙◌, ℕ, List, [], ◌∷◌, Option, Some, None}
use Rattle.route_types.specs.Words.{◌>>=◌}
use Rattle.route_types.proofs.Numbers.{some_is, bind_found}
use Rattle.aspath_text.specs.JunosGrammar.{SpellsJunos}
use Rattle.aspath_text.specs.JunosRead.{items_in, junos_pattern_in}
use Rattle.path_patterns.specs.declared.items.TokenItem.{TokenItem}
use Rattle.path_patterns.specs.declared.items.TokenBranch.{TokenBranch}
use Rattle.path_patterns.specs.declared.items.TokenPattern.{TokenPattern}
use Rattle.aspath_text.proofs.JunosFound.{items_found}
use Rattle.aspath_text.proofs.JunosItems.{items_only}

-- the text spells the pattern that is found
pub junos_pattern_found : (text : List ℕ) (p : TokenPattern) → junos_pattern_in text ≡ Some p → SpellsJunos text p
unfolding junos_pattern_in
junos_pattern_found text p e =
    let items = bind_found (items_in text) _ p e in
    subst (SpellsJunos text) (some_is _ p items.2) (items.0, refl, items_found text items.0 items.1)

-- a pattern that the text spells is found
pub junos_pattern_only : (text : List ℕ) (p : TokenPattern) → SpellsJunos text p → junos_pattern_in text ≡ Some p
unfolding junos_pattern_in
junos_pattern_only text p h =
    ap (λ (o : Option (List TokenItem)). o >>= λ items. Some (record { branches = record { items = items } ∷ [] })) (items_only text h.0 h.2)
    ∙ ap (λ (bs : List TokenBranch). Some (record { branches = bs })) (sym h.1)

-- where nothing is found no pattern is spelled
pub junos_pattern_refused : (text : List ℕ) → junos_pattern_in text ≡ None → (p : TokenPattern) → SpellsJunos text p → ⊥
junos_pattern_refused text e p h = let k = junos_pattern_only text p h in absurd cc
