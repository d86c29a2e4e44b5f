-- Laws of what is taken from a path: two takes of the same numbers are one, a take of no number can be left
-- out, and a take that allows no count takes nothing at all.
use Rattle.std.proofs.Common.{◌≡◌, refl, sym, ap, subst, ◌∙◌, ℕ, ◌+◌, ◌-◌, ◌^◌, ◌<◌, ◌≤◌, ◌↔◌, Bool, true, false, List, [], ◌∷◌, ◌++◌, length, take, drop, Option, Some, None, arith, inl, inr, ◌⊎◌, append_assoc, length-append, length-drop}
use Rattle.std.specs.List.{list_all}
use Rattle.std.proofs.lemmas.Bool.{and_parts, and_from, cases_lt}
use Rattle.std.proofs.lemmas.List.{take-append-drop, length-take-le}
use Rattle.std.proofs.lemmas.List.Folds.{list_all-append}
use Rattle.path_patterns.specs.Items.{IsPath, Takes, AtMost, Taken}
use Rattle.path_patterns.specs.Counts.{both_most}
use Rattle.path_patterns.proofs.CountLaws.{zero_at_most}

-- ---- counts of two takes

-- a count split in two
pub record Splits (a : ℕ) (b : Option ℕ) (c : ℕ) (d : Option ℕ) (n : ℕ) : Type 0 where
  pub first : ℕ
  pub second : ℕ
  pub sums : first + second ≡ n
  pub first_least : a ≤ first
  pub first_most : AtMost first b
  pub second_least : c ≤ second
  pub second_most : AtMost second d

splits_under : (a y c z n : ℕ) → a ≤ y → c ≤ z → a + c ≤ n → n ≤ y + z → ((y < n - c) ⊎ (n - c ≤ y)) → Splits a (Some y) c (Some z) n
splits_under a y c z n ab cd low high (inl h) =
    record { first = y; second = n - y; sums = omega arith; first_least = ab; first_most = omega arith; second_least = omega arith; second_most = omega arith }
splits_under a y c z n ab cd low high (inr h) =
    record { first = n - c; second = c; sums = omega arith; first_least = omega arith; first_most = h; second_least = omega arith; second_most = cd }

splits : (a : ℕ) (b : Option ℕ) (c : ℕ) (d : Option ℕ) (n : ℕ) → AtMost a b → AtMost c d → a + c ≤ n → AtMost n (both_most b d) → Splits a b c d n
splits a None c d n ab cd low high =
    record { first = n - c; second = c; sums = omega arith; first_least = omega arith; first_most = tt; second_least = omega arith; second_most = cd }
splits a (Some y) c None n ab cd low high =
    record { first = a; second = n - a; sums = omega arith; first_least = omega arith; first_most = ab; second_least = omega arith; second_most = tt }
splits a (Some y) c (Some z) n ab cd low high = splits_under a y c z n ab cd low high (cases_lt y (n - c))

at_most_both : (b d : Option ℕ) (n m : ℕ) → AtMost n b → AtMost m d → AtMost (n + m) (both_most b d)
at_most_both None d n m h k = tt
at_most_both (Some b) None n m h k = tt
at_most_both (Some b) (Some d) n m h k = omega arith

-- ---- two takes of the same numbers are one

joined_of : (f : ℕ → Bool) (a c : ℕ) (b d : Option ℕ) (ts : List Takes) (path : List ℕ) → Taken (record { fits = f; least = a; most = b } ∷ record { fits = f; least = c; most = d } ∷ ts) path → Taken (record { fits = f; least = a + c; most = both_most b d } ∷ ts) path
unfolding Taken
joined_of f a c b d ts path (front, behind, whole, fit, counts, (more, rest, parts, fits, counted, taken)) =
    let both : length (front ++ more) ≡ length front + length more = length-append front more in (
      front ++ more,
      rest,
      whole ∙ ap (λ (r : List ℕ). front ++ r) parts ∙ sym (append_assoc front more rest),
      list_all-append f front more ∙ and_from (list_all f front) (list_all f more) fit fits,
      (omega (arith, both, counts.0, counted.0), subst (λ (n : ℕ). AtMost n (both_most b d)) (sym both) (at_most_both b d (length front) (length more) counts.1 counted.1)),
      taken,
    )

parts_of : (f : ℕ → Bool) (a c : ℕ) (b d : Option ℕ) (ts : List Takes) (path front rest : List ℕ) → path ≡ front ++ rest → list_all f front ≡ true → Taken ts rest → Splits a b c d (length front) → Taken (record { fits = f; least = a; most = b } ∷ record { fits = f; least = c; most = d } ∷ ts) path
unfolding Taken
parts_of f a c b d ts path front rest whole fit taken s =
    let cut : take s.first front ++ drop s.first front ≡ front = take-append-drop s.first front in
    let fits = and_parts (list_all f (take s.first front)) (list_all f (drop s.first front)) (sym (list_all-append f (take s.first front) (drop s.first front)) ∙ ap (λ (xs : List ℕ). list_all f xs) cut ∙ fit) in
    let one : s.first ≡ length (take s.first front) = sym (length-take-le s.first front (omega (arith, s.sums))) in
    let two : s.second ≡ length (drop s.first front) = omega (arith, length-drop s.first front, s.sums) in (
      take s.first front,
      drop s.first front ++ rest,
      whole ∙ ap (λ (xs : List ℕ). xs ++ rest) (sym cut) ∙ append_assoc (take s.first front) (drop s.first front) rest,
      fits.0,
      (subst (λ (n : ℕ). a ≤ n) one s.first_least, subst (λ (n : ℕ). AtMost n b) one s.first_most),
      (
        drop s.first front,
        rest,
        refl,
        fits.1,
        (subst (λ (n : ℕ). c ≤ n) two s.second_least, subst (λ (n : ℕ). AtMost n d) two s.second_most),
        taken,
      ),
    )

joined_from : (f : ℕ → Bool) (a c : ℕ) (b d : Option ℕ) (ts : List Takes) (path : List ℕ) → AtMost a b → AtMost c d → Taken (record { fits = f; least = a + c; most = both_most b d } ∷ ts) path → Taken (record { fits = f; least = a; most = b } ∷ record { fits = f; least = c; most = d } ∷ ts) path
unfolding Taken
joined_from f a c b d ts path ab cd (front, rest, whole, fit, counts, taken) =
    parts_of f a c b d ts path front rest whole fit taken (splits a b c d (length front) ab cd counts.0 counts.1)

-- two takes of the same numbers, one after the other, are one of both counts
pub takes_joined : (f : ℕ → Bool) (a c : ℕ) (b d : Option ℕ) (ts : List Takes) (path : List ℕ) → AtMost a b → AtMost c d → Taken (record { fits = f; least = a; most = b } ∷ record { fits = f; least = c; most = d } ∷ ts) path ↔ Taken (record { fits = f; least = a + c; most = both_most b d } ∷ ts) path
takes_joined f a c b d ts path ab cd = (joined_of f a c b d ts path, joined_from f a c b d ts path ab cd)

-- ---- a take of no number

-- no number of 32 bits fits
abbrev pub NoneFits : Takes → Type 0
NoneFits t = (n : ℕ) → n < 2 ^ 32 → t.fits n ≡ false

-- nothing is taken: the least count is none, and no number fits or the most is none
abbrev pub TakesNone : Takes → Type 0
TakesNone t = (t.least ≡ 0) × (NoneFits t ⊎ (t.most ≡ Some 0))

-- no count is taken: the least is above the most, or there is one and no number fits
abbrev pub TakesNever : Takes → Type 0
TakesNever t = ((most : ℕ) × (t.most ≡ Some most) × (most < t.least)) ⊎ ((1 ≤ t.least) × NoneFits t)

none_in_front : (t : Takes) (front rest : List ℕ) → NoneFits t → IsPath (front ++ rest) → list_all t.fits front ≡ true → front ≡ []
none_in_front t [] rest none within fit = refl
none_in_front t (n ∷ ns) rest none within fit =
    let p = and_parts (t.fits n) (list_all t.fits ns) fit in
    let q = none n within.0 in
    absurd cc

empty_front : (front : List ℕ) → length front ≤ 0 → front ≡ []
empty_front [] h = refl
empty_front (n ∷ ns) h = absurd (omega arith)

nothing_taken : (t : Takes) (front rest : List ℕ) → NoneFits t ⊎ (t.most ≡ Some 0) → IsPath (front ++ rest) → list_all t.fits front ≡ true → AtMost (length front) t.most → front ≡ []
nothing_taken t front rest (inl none) within fit most = none_in_front t front rest none within fit
nothing_taken t front rest (inr zero) within fit most = empty_front front (subst (λ (m : Option ℕ). AtMost (length front) m) zero most)

left_out : (t : Takes) (ts : List Takes) (path : List ℕ) → NoneFits t ⊎ (t.most ≡ Some 0) → IsPath path → Taken (t ∷ ts) path → Taken ts path
unfolding Taken
left_out t ts path none within (front, rest, whole, fit, counts, taken) =
    let nil : front ≡ [] = nothing_taken t front rest none (subst IsPath whole within) fit counts.1 in
    subst (λ (p : List ℕ). Taken ts p) (sym (whole ∙ ap (λ (xs : List ℕ). xs ++ rest) nil)) taken

put_in : (t : Takes) (ts : List Takes) (path : List ℕ) → t.least ≡ 0 → Taken ts path → Taken (t ∷ ts) path
unfolding Taken
put_in t ts path zero taken = ([], path, refl, refl, (omega (arith, zero), zero_at_most t.most), taken)

-- a take of nothing can be left out
pub takes_nothing : (t : Takes) (ts : List Takes) (path : List ℕ) → TakesNone t → IsPath path → Taken (t ∷ ts) path ↔ Taken ts path
takes_nothing t ts path none within = (left_out t ts path none.1 within, put_in t ts path none.0)

-- behind a take of no count nothing is matched
pub takes_never : (t : Takes) (ts : List Takes) (path : List ℕ) → TakesNever t → IsPath path → Taken (t ∷ ts) path → ⊥
unfolding Taken
takes_never t ts path (inl over) within (front, rest, whole, fit, counts, taken) =
    let below : length front ≤ over.0 = subst (λ (m : Option ℕ). AtMost (length front) m) over.1 counts.1 in
    omega (arith, below, counts.0, over.2)
takes_never t ts path (inr none) within (front, rest, whole, fit, counts, taken) =
    let nil : front ≡ [] = none_in_front t front rest none.1 (subst IsPath whole within) fit in
    let zero : length front ≡ 0 = ap (λ (xs : List ℕ). length xs) nil in
    omega (arith, zero, counts.0, none.0)
