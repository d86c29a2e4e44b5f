-- The places of names, found from the front.
use Rattle.std.proofs.Common.{◌≡◌, refl, sym, ap, ◌∙◌, ℕ, ◌+◌, ◌-◌, ◌<◌, ◌≤◌, Bool, true, false, List, [], ◌∷◌, length, get_or, take, drop, Option, Some, None, arith}
use Rattle.std.specs.Prelude.{bytes_eq}
use Rattle.std.proofs.lemmas.List.{take_all}
use Rattle.name_maps.specs.Under.{first_of}
use Rattle.rpl_calls.specs.Policies.{place_from, place_of}

-- a place more, and an item less that is left
pub counted : {A : Type 0} (place total n : ℕ) (rest : List A) → 1 ≤ length rest → n ≡ length rest - 1 → place + length rest ≡ total → place + 1 + length (take n (drop 1 rest)) ≡ total
counted place total n [] long len e = absurd (omega arith)
counted place total n (y ∷ rest) long len e = ap (λ xs. place + 1 + length xs) (take_all n rest (omega (arith, len))) ∙ omega (arith, e)

-- the first value that is there
abbrev pub some_or : {A : Type 0} → Option A → Option A → Option A
some_or (Some x) other = Some x
some_or None other = other

step_case : (b : Bool) (o p : Option ℕ) (place : ℕ) → some_or (elim b [ true ↦ first_of o place | false ↦ o ]) p ≡ some_or o (elim b [ true ↦ Some place | false ↦ p ])
step_case true (Some y) p place = refl
step_case true None p place = refl
step_case false o p place = refl

pub none_after : (o : Option ℕ) → some_or o None ≡ o
none_after (Some y) = refl
none_after None = refl

-- the places so far, and those that are found in the rest from this place on, are the places of all
abbrev pub ArePlaced : (List ℕ → Option ℕ) → ℕ → List (List ℕ) → List (List ℕ) → Type 0
ArePlaced m place rest names = (x : List ℕ) → some_or (m x) (place_from place rest x) ≡ place_of names x

pub none_placed : (m : List ℕ → Option ℕ) (names : List (List ℕ)) → ((x : List ℕ) → m x ≡ None) → ArePlaced m 0 names names
none_placed m names none x = ap (λ (o : Option ℕ). some_or o (place_from 0 names x)) (none x)

pub one_placed : (m more : List ℕ → Option ℕ) (place n : ℕ) (names rest : List (List ℕ)) (first name : List ℕ) → 1 ≤ length rest → first ≡ get_or rest 0 first → n ≡ length rest - 1 → name ≡ first
    → ((x : List ℕ) → more x ≡ elim (bytes_eq x name) [ true ↦ first_of (m x) place | false ↦ m x ]) → ArePlaced m place rest names → ArePlaced more (place + 1) (take n (drop 1 rest)) names
unfolding place_from
one_placed m more place n names [] first name long is len same put placed x = absurd (omega arith)
one_placed m more place n names (y ∷ rest) first name long is len same put placed x =
    ap (λ (xs : List (List ℕ)). some_or (more x) (place_from (place + 1) xs x)) (take_all n rest (omega (arith, len)))
    ∙ ap (λ (o : Option ℕ). some_or o (place_from (place + 1) rest x)) (put x ∙ ap (λ (w : List ℕ). elim (bytes_eq x w) [ true ↦ first_of (m x) place | false ↦ m x ]) (same ∙ is))
    ∙ step_case (bytes_eq x y) (m x) (place_from (place + 1) rest x) place ∙ placed x

pub all_placed : (m : List ℕ → Option ℕ) (place : ℕ) (names rest : List (List ℕ)) → length rest < 1 → ArePlaced m place rest names → (x : List ℕ) → m x ≡ place_of names x
unfolding place_from
all_placed m place names [] short placed x = sym (none_after (m x)) ∙ placed x
all_placed m place names (y ∷ rest) short placed x = absurd (omega arith)
