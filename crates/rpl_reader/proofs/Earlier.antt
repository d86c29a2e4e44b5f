-- Of two faults the earlier one is kept: it is one of them, and it comes before all that one of them comes before.
use Rattle.std.proofs.Common.{◌≡◌, refl, sym, ℕ, ◌<◌, ◌≤◌, Bool, true, false, ◌&&◌, ◌||◌, ◌==◌, nat_le, ◌⊎◌, inl, inr, Option, Some, None, arith, ltb-true, ltb-false, eqb-true, leb-true, leb-false, true≢false}
use Rattle.std.specs.Prelude.{nat_lt}
use Rattle.std.proofs.lemmas.Bool.{eqb-false}
use Rattle.rpl_reader.specs.Profile.{rank, ComesFirst}
use Rattle.rpl_reader.specs.Faults.{Fault, goes_first, earlier}

-- the fault, if there is one, has this
abbrev pub Keeps : (Fault → Type 0) → Option Fault → Type 0
Keeps P None = Unit {0}
Keeps P (Some f) = P f

-- there is a fault, and it comes before this one, or they stand alike
abbrev pub IsAhead : Option Fault → Fault → Type 0
IsAhead None h = ⊥
IsAhead (Some f) h = ComesFirst f.0 f.1 h.0 h.1

-- ---- the order

abbrev InOrder : ℕ → ℕ → ℕ → ℕ → Type 0
InOrder a m b n = (a < b) ⊎ ((a ≡ b) × (m ≤ n))

goes : (a m b n : ℕ) (less same le : Bool) → nat_lt a b ≡ less → (a == b) ≡ same → nat_le m n ≡ le → (less || (same && le)) ≡ true → InOrder a m b n
goes a m b n true same le l s r e = inl (ltb-true a b l)
goes a m b n false true true l s r e = inr (eqb-true a b s, leb-true m n r)
goes a m b n false true false l s r e = absurd (true≢false (sym e))
goes a m b n false false le l s r e = absurd (true≢false (sym e))

above : (a b : ℕ) → b ≤ a → (a ≡ b → ⊥) → b < a
above a b le differ = grind arith

goes_not : (a m b n : ℕ) (less same le : Bool) → nat_lt a b ≡ less → (a == b) ≡ same → nat_le m n ≡ le → (less || (same && le)) ≡ false → InOrder b n a m
goes_not a m b n true same le l s r e = absurd (true≢false e)
goes_not a m b n false true true l s r e = absurd (true≢false e)
goes_not a m b n false true false l s r e = let below : n < m = leb-false m n r in inr (sym (eqb-true a b s), omega arith)
goes_not a m b n false false le l s r e = inl (above a b (ltb-false a b l) (eqb-false a b s))

first_is : (f g : Fault) → goes_first f g ≡ true → ComesFirst f.0 f.1 g.0 g.1
first_is f g e = goes f.0.start (rank f.1) g.0.start (rank g.1) (nat_lt f.0.start g.0.start) (f.0.start == g.0.start) (nat_le (rank f.1) (rank g.1)) refl refl refl e

second_is : (f g : Fault) → goes_first f g ≡ false → ComesFirst g.0 g.1 f.0 f.1
second_is f g e = goes_not f.0.start (rank f.1) g.0.start (rank g.1) (nat_lt f.0.start g.0.start) (f.0.start == g.0.start) (nat_le (rank f.1) (rank g.1)) refl refl refl e

chained : (a m b n c o : ℕ) → InOrder a m b n → InOrder b n c o → InOrder a m c o
chained a m b n c o (inl x) (inl y) = inl (omega arith)
chained a m b n c o (inl x) (inr y) = inl (omega (arith, y.0))
chained a m b n c o (inr x) (inl y) = inl (omega (arith, x.0))
chained a m b n c o (inr x) (inr y) = inr (omega (arith, x.0, y.0), omega (arith, x.1, y.1))

pub ahead_of : (f g h : Fault) → ComesFirst f.0 f.1 g.0 g.1 → ComesFirst g.0 g.1 h.0 h.1 → ComesFirst f.0 f.1 h.0 h.1
ahead_of f g h first second = chained f.0.start (rank f.1) g.0.start (rank g.1) h.0.start (rank h.1) first second

-- ---- the earlier one

abbrev of_two : Fault → Fault → Bool → Option Fault
of_two f g b = elim b [ true ↦ Some f | false ↦ Some g ]

kept_of : (P : Fault → Type 0) (f g : Fault) (b : Bool) → P f → P g → Keeps P (of_two f g b)
kept_of P f g true p q = p
kept_of P f g false p q = q

pub both_keep : (P : Fault → Type 0) (a b : Option Fault) → Keeps P a → Keeps P b → Keeps P (earlier a b)
both_keep P None b p q = q
both_keep P (Some f) None p q = p
both_keep P (Some f) (Some g) p q = kept_of P f g (goes_first f g) p q

left_of : (f g h : Fault) (b : Bool) → goes_first f g ≡ b → ComesFirst f.0 f.1 h.0 h.1 → IsAhead (of_two f g b) h
left_of f g h true e first = first
left_of f g h false e first = ahead_of g f h (second_is f g e) first

right_of : (f g h : Fault) (b : Bool) → goes_first f g ≡ b → ComesFirst g.0 g.1 h.0 h.1 → IsAhead (of_two f g b) h
right_of f g h true e first = ahead_of f g h (first_is f g e) first
right_of f g h false e first = first

pub ahead_left : (a b : Option Fault) (h : Fault) → IsAhead a h → IsAhead (earlier a b) h
ahead_left None b h first = absurd first
ahead_left (Some f) None h first = first
ahead_left (Some f) (Some g) h first = left_of f g h (goes_first f g) refl first

pub ahead_right : (a b : Option Fault) (h : Fault) → IsAhead b h → IsAhead (earlier a b) h
ahead_right None b h first = first
ahead_right (Some f) None h first = absurd first
ahead_right (Some f) (Some g) h first = right_of f g h (goes_first f g) refl first
