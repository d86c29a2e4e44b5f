-- The names of definitions and of terms: those at different places are different, and none is the policy's.
use Rattle.std.proofs.Common.{◌≡◌, refl, ap, ℕ, zero, suc, ◌+◌, ◌^◌, ◌<◌, true, false, List, [], ◌∷◌, ◌++◌, length, Some, arith}
use Rattle.std.specs.Prelude.{bytes_eq, codes, decimal, unwrap_or}
use Rattle.std.specs.List.{slice_get}
use Rattle.std.proofs.lemmas.Bool.{false_from_ne_true}
use Rattle.std.proofs.lemmas.Fmt.{decimal_injective}
use Rattle.std.proofs.lemmas.List.{append_cancel_left}
use Rattle.std.proofs.lemmas.Slice.Eq.{bytes_eq-Decides}
use Rattle.junos_layout.specs.Options.{own_name, subroutine_name}

pub same_name : (name : List ℕ) → bytes_eq name name ≡ true
same_name name = (bytes_eq-Decides name name).1 refl

pub names_apart : (name letter : List ℕ) (i j : ℕ) → i < 2 ^ 63 → j < 2 ^ 63 → (i ≡ j → ⊥) → bytes_eq (own_name name letter i) (own_name name letter j) ≡ false
names_apart name letter i j hi hj differ =
    false_from_ne_true (bytes_eq (own_name name letter i) (own_name name letter j)) (λ e.
    let same : own_name name letter i ≡ own_name name letter j = (bytes_eq-Decides (own_name name letter i) (own_name name letter j)).0 e in
    let numbered : letter ++ decimal (i + 1) ≡ letter ++ decimal (j + 1) = append_cancel_left name (letter ++ decimal (i + 1)) (letter ++ decimal (j + 1)) same in
    let digits : decimal (i + 1) ≡ decimal (j + 1) = append_cancel_left letter (decimal (i + 1)) (decimal (j + 1)) numbered in
    let number : i + 1 ≡ j + 1 = decimal_injective (i + 1) (j + 1) (omega arith) (omega arith) digits in
    differ (omega (arith, number)))

-- more bytes are other bytes
longer_apart : (xs : List ℕ) (y : ℕ) (ys : List ℕ) → xs ≡ xs ++ (y ∷ ys) → ⊥
longer_apart [] y ys e = absurd cc
longer_apart (x ∷ xs) y ys e = longer_apart xs y ys (append_cancel_left (x ∷ []) xs (xs ++ (y ∷ ys)) e)

-- the name of no definition is the policy's
pub subroutine_apart : (name : List ℕ) (n : ℕ) → bytes_eq name (subroutine_name name n) ≡ false
subroutine_apart name n = false_from_ne_true (bytes_eq name (subroutine_name name n)) (λ e. absurd (longer_apart name 45 (115 ∷ decimal (n + 1)) ((bytes_eq-Decides name (subroutine_name name n)).0 e)))

-- the name of a term
abbrev pub term_name : ℕ → List ℕ
term_name n = codes "t" ++ decimal n

pub terms_apart : (i j : ℕ) → i < 2 ^ 64 → j < 2 ^ 64 → (i ≡ j → ⊥) → bytes_eq (term_name i) (term_name j) ≡ false
terms_apart i j hi hj differ =
    false_from_ne_true (bytes_eq (term_name i) (term_name j)) (λ e.
    let same : term_name i ≡ term_name j = (bytes_eq-Decides (term_name i) (term_name j)).0 e in
    differ (decimal_injective i j hi hj (append_cancel_left (codes "t") (decimal i) (decimal j) same)))

-- ---- places

pub within : {A : Type 0} (xs : List A) (i : ℕ) (x : A) → slice_get xs i ≡ Some x → i < length xs
within [] i x e = absurd cc
within (y ∷ ys) zero x e = omega arith
within (y ∷ ys) (suc i) x e = let further = within ys i x e in omega arith

pub some_injective : {A : Type 0} (x y : A) → Some x ≡ Some y → x ≡ y
some_injective x y e = ap (λ o. unwrap_or o x) e
