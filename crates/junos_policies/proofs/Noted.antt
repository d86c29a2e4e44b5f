-- Values that are noted one after the other.
use Rattle.std.proofs.Common.{◌≡◌, refl, sym, ap, ◌∙◌, ℕ, Bool, List, [], ◌∷◌, ◌++◌, ◌-◌, ◌≤◌, length, take, drop, get_or, arith}
use Rattle.std.proofs.lemmas.List.{take_all}
use Rattle.std.specs.List.{flat_map}
use Rattle.junos_policies.specs.Noting.{noted, noted_all}

module _ {D : Type 0} (same : D → D → Bool) where
  -- those of two lists, one behind the other
  pub noted_append : (ds xs ys : List D) → noted_all same ds (xs ++ ys) ≡ noted_all same (noted_all same ds xs) ys
  unfolding noted_all
  noted_append ds [] ys = refl
  noted_append ds (x ∷ xs) ys = noted_append (noted same ds x) xs ys

  -- those that a first item uses, and those that the items behind it use
  pub items_noted : {A : Type 0} (uses : A → List D) (ds now : List D) (items : List A) (first : A) (m : ℕ)
      → 1 ≤ length items → first ≡ get_or items 0 first → m ≡ length items - 1 → now ≡ noted_all same ds (uses first)
      → noted_all same now (flat_map uses (take m (drop 1 items))) ≡ noted_all same ds (flat_map uses items)
  items_noted uses ds now [] first m long is len e = absurd (omega arith)
  items_noted uses ds now (x ∷ xs) first m long is len e =
      ap (λ (ys : List _). noted_all same now (flat_map uses ys)) (take_all m xs (omega (arith, len)))
      ∙ ap (λ (es : List D). noted_all same es (flat_map uses xs)) (e ∙ ap (λ y. noted_all same ds (uses y)) is)
      ∙ sym (noted_append ds (uses x) (flat_map uses xs))
