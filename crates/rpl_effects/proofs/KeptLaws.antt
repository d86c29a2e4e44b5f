-- What stands under words behind an insertion.
use Rattle.std.proofs.Common.{◌≡◌, refl, sym, ap, ◌∙◌, ℕ, Bool, true, false, cond, List, [], ◌∷◌, Some, ◌⊎◌, inl, inr}
use Rattle.std.specs.Prelude.{map}
use Rattle.std.specs.Borrow.{Bor}
use Rattle.std.specs.Ordering.{nat_cmp, is_eq, ordering_then}
use Rattle.std.specs.declared.cmp.Ordering.{Ordering}
use Rattle.std.specs.declared.cmp.Ordering.TheVariants.{Less, Equal, Greater}
use Rattle.std.specs.Cmp.Lexicographic.{slice_cmp}
use Rattle.std.specs.BTreeMap.{BTreeMap, is_at, Updates}
use Rattle.std.proofs.lemmas.Bool.{true≢false}
use Rattle.std.proofs.lemmas.Slice.Eq.{bytes_eq-Decides}
use Rattle.std.proofs.lemmas.Map.Text.{is_eq-slice_cmp}
use Rattle.std.proofs.lemmas.Option.{same_Some}
use Rattle.rpl_effects.specs.Kept.{Key, words_of, kept_at}
use Rattle.rpl_effects.specs.declared.kept.Found.{Found}

abbrev compare_words : Bor (List ℕ) → Bor (List ℕ) → Ordering
compare_words v w = slice_cmp nat_cmp v.now w.now

abbrev compare_keys : Key → Key → Ordering
compare_keys x y = slice_cmp compare_words x.items y.items

both_equal : (o r : Ordering) → is_eq (ordering_then o r) ≡ true → (is_eq o ≡ true) × (is_eq r ≡ true)
both_equal Less r e = absurd (true≢false (sym e))
both_equal Equal r e = (refl, e)
both_equal Greater r e = absurd (true≢false (sym e))

-- keys that compare as equal have the same words
same_words : (vs ws : List (Bor (List ℕ))) → is_eq (slice_cmp compare_words vs ws) ≡ true → map (λ w. w.now) ws ≡ map (λ w. w.now) vs
same_words [] [] e = refl
same_words [] (w ∷ ws) e = absurd (true≢false (sym e))
same_words (v ∷ vs) [] e = absurd (true≢false (sym e))
same_words (v ∷ vs) (w ∷ ws) e =
    let b = both_equal (compare_words v w) (slice_cmp compare_words vs ws) e in
    let one : v.now ≡ w.now = (bytes_eq-Decides v.now w.now).0 (sym (is_eq-slice_cmp v.now w.now) ∙ b.0) in
    ap (λ (x : List ℕ). x ∷ map (λ w. w.now) ws) (sym one) ∙ ap (λ (xs : List (List ℕ)). v.now ∷ xs) (same_words vs ws b.1)

put_by : (m : BTreeMap Key Found) (key other : Key) (found o : Found) (b : Bool) → is_at (compare_keys key) other ≡ b → cond b (Some found) (kept_at m other) ≡ Some o
    → (kept_at m other ≡ Some o) ⊎ ((words_of other ≡ words_of key) × (o ≡ found))
put_by m key other found o true e is = inr (same_words key.items other.items e, sym (same_Some found o is))
put_by m key other found o false e is = inl is

pub put_others : (m n : BTreeMap Key Found) (key : Key) (found : Found) → Updates compare_keys m n key (Some found) → (other : Key) (o : Found) → kept_at n other ≡ Some o
    → (kept_at m other ≡ Some o) ⊎ ((words_of other ≡ words_of key) × (o ≡ found))
put_others m n key found updates other o is = put_by m key other found o (is_at (compare_keys key) other) refl (sym (updates.0 other) ∙ is)
