-- Rows to which lists are put, one behind another.
use Rattle.std.proofs.Common.{◌≡◌, ap, ◌∙◌, List, [], ◌∷◌, ◌++◌, append_assoc}

module _ {A : Type 0} where
  -- what was put behind a list stands behind both
  pub put_then : (old more new : List A) (xs ys : List A) → more ≡ old ++ xs → new ≡ more ++ ys → new ≡ old ++ (xs ++ ys)
  put_then old more new xs ys first second = second ∙ ap (λ (zs : List A). zs ++ ys) first ∙ append_assoc old xs ys

  -- one item, a list and one more, before what follows
  pub put_between : (old opened more closed : List A) (x y : A) (xs following : List A) → opened ≡ old ++ x ∷ [] → more ≡ opened ++ xs → closed ≡ more ++ y ∷ []
      → closed ++ following ≡ old ++ x ∷ (xs ++ y ∷ following)
  put_between old opened more closed x y xs following first second third =
      ap (λ (zs : List A). zs ++ following) (third ∙ ap (λ (zs : List A). zs ++ y ∷ []) (put_then old opened more (x ∷ []) xs first second))
      ∙ append_assoc (old ++ x ∷ xs) (y ∷ []) following
      ∙ append_assoc old (x ∷ xs) (y ∷ following)

  -- two lists in an empty row
  pub put_two : (empty one new : List A) (xs ys : List A) → empty ≡ [] → one ≡ empty ++ xs → new ≡ one ++ ys → new ≡ xs ++ ys
  put_two empty one new xs ys none first second = second ∙ ap (λ (zs : List A). zs ++ ys) (first ∙ ap (λ (zs : List A). zs ++ xs) none)

  -- three lists, and then a fourth
  pub put_four : (empty one new : List A) (ws xs ys zs : List A) → empty ≡ [] → one ≡ empty ++ (ws ++ (xs ++ ys)) → new ≡ one ++ zs → new ≡ ws ++ (xs ++ (ys ++ zs))
  put_four empty one new ws xs ys zs none first second =
      put_two empty one new (ws ++ (xs ++ ys)) zs none first second
      ∙ append_assoc ws (xs ++ ys) zs
      ∙ ap (λ (vs : List A). ws ++ vs) (append_assoc xs ys zs)
