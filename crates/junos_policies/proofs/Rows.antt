-- Rows to which lists are put, one behind another.
use Rattle.std.proofs.Common.{◌≡◌, sym, ap, ◌∙◌, List, [], ◌++◌, append_assoc, append-nil}

module _ {A : Type 0} where
  -- nothing was put
  pub nothing_more : (old : List A) → old ≡ old ++ []
  nothing_more old = sym (append-nil old)

  -- what was put behind a list stands behind both
  pub put_then : (old more new : List A) (xs ys : List A) → more ≡ old ++ xs → new ≡ more ++ ys → new ≡ old ++ (xs ++ ys)
  put_then old more new xs ys first second = second ∙ ap (λ (zs : List A). zs ++ ys) first ∙ append_assoc old xs ys

  -- two lists in an empty row
  pub put_two : (empty one new : List A) (xs ys : List A) → empty ≡ [] → one ≡ empty ++ xs → new ≡ one ++ ys → new ≡ xs ++ ys
  put_two empty one new xs ys none first second = second ∙ ap (λ (zs : List A). zs ++ ys) (first ∙ ap (λ (zs : List A). zs ++ xs) none)

  -- two lists, a third and a fourth in an empty row
  pub put_four : (empty one two new : List A) (ws xs ys zs : List A) → empty ≡ [] → one ≡ empty ++ (ws ++ xs) → two ≡ one ++ ys → new ≡ two ++ zs → new ≡ ws ++ (xs ++ (ys ++ zs))
  put_four empty one two new ws xs ys zs none first second third =
      put_two empty one new (ws ++ xs) (ys ++ zs) none first (put_then one two new ys zs second third) ∙ append_assoc ws xs (ys ++ zs)
