-- Printed ranges and items: the first one, and each other one behind its mark.
use Rattle.std.proofs.Common.{◌≡◌, sym, ap, ◌∙◌, ℕ, List, ◌∷◌, ◌++◌, map, flat_map, append_assoc}
use Rattle.aspath_text.specs.IosGrammar.{joined_by}
use Rattle.aspath_text.specs.JunosText.{range_text, ranges_text, item_text}
use Rattle.path_patterns.specs.declared.items.NumberRange.{NumberRange}
use Rattle.path_patterns.specs.declared.items.TokenItem.{TokenItem}
use Rattle.aspath_text.proofs.JoinedLaws.{joined_behind}

-- a text, and others behind it, each behind the byte, are joined by the byte
pushed : {A : Type 0} (b : ℕ) (f : A → List ℕ) (x : A) (xs : List A) (before first all : List ℕ) → first ≡ before ++ f x → all ≡ first ++ flat_map (λ y. b ∷ f y) xs → all ≡ before ++ joined_by b (map f (x ∷ xs))
pushed b f x xs before first all one more =
    more ∙ ap (λ (t : List ℕ). t ++ flat_map (λ y. b ∷ f y) xs) one
    ∙ append_assoc before (f x) (flat_map (λ y. b ∷ f y) xs)
    ∙ ap (λ (t : List ℕ). before ++ t) (sym (joined_behind b f x xs))

-- ranges that were put behind each other
pub ranges_pushed : (r : NumberRange) (rs : List NumberRange) (before first all : List ℕ) → first ≡ before ++ range_text r → all ≡ first ++ flat_map (λ s. 124 ∷ range_text s) rs → all ≡ before ++ ranges_text (r ∷ rs)
ranges_pushed r rs before first all one more = pushed 124 range_text r rs before first all one more

-- items that were put behind each other
pub items_pushed : (i : TokenItem) (is : List TokenItem) (before first all : List ℕ) → first ≡ before ++ item_text i → all ≡ first ++ flat_map (λ j. 32 ∷ item_text j) is → all ≡ before ++ joined_by 32 (map item_text (i ∷ is))
items_pushed i is before first all one more = pushed 32 item_text i is before first all one more
