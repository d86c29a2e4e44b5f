-- Tests of equality that tell: where such a test of two values answers yes, they are one value.
use Rattle.std.proofs.Common.{◌≡◌, refl, ap, sym, Bool, true, false, ◌==◌, List, [], ◌∷◌, Option, Some, None, inl, inr, eqb-true, true≢false}
use Rattle.std.proofs.lemmas.Bool.{and_parts}
use Rattle.std.specs.Bool.{beq}
use Rattle.std.specs.Option.{option_eq}
use Rattle.std.specs.Cmp.Lexicographic.{pointwise}
use denote.Struct.Field.{Field}
use denote.Enum.Declared.{Record, Choice, values_one}
use denote.Enum.Compared.{Each, by}

pub record Tells {A : Type 0} (E : A → A → Bool) : Type 0 where
  pub same : (x y : A) → E x y ≡ true → x ≡ y

pub numbers_tell : Tells (λ x y. x == y)
numbers_tell = record { same = λ x y e. eqb-true x y e }

truths : (x y : Bool) → beq x y ≡ true → x ≡ y
truths true true e = refl
truths true false e = absurd (true≢false (sym e))
truths false true e = absurd (true≢false (sym e))
truths false false e = refl

pub truths_tell : Tells beq
truths_tell = record { same = truths }

lists : {A : Type 0} (E : A → A → Bool) → Tells E → (xs ys : List A) → pointwise E xs ys ≡ true → xs ≡ ys
lists E t [] [] e = refl
lists E t [] (y ∷ ys) e = absurd (true≢false (sym e))
lists E t (x ∷ xs) [] e = absurd (true≢false (sym e))
lists E t (x ∷ xs) (y ∷ ys) e =
    let parts = and_parts (E x y) (pointwise E xs ys) e in
    λ i. t.same x y parts.0 i ∷ lists E t xs ys parts.1 i

pub lists_tell : {A : Type 0} (E : A → A → Bool) → Tells E → Tells (pointwise E)
lists_tell E t = record { same = lists E t }

options : {A : Type 0} (E : A → A → Bool) → Tells E → (x y : Option A) → option_eq E x y ≡ true → x ≡ y
options E t None None e = refl
options E t None (Some y) e = absurd (true≢false (sym e))
options E t (Some x) None e = absurd (true≢false (sym e))
options E t (Some x) (Some y) e = ap Some (t.same x y e)

pub options_tell : {A : Type 0} (E : A → A → Bool) → Tells E → Tells (option_eq E)
options_tell E t = record { same = options E t }

-- ---- variants of an enum

-- the one value of a variant
pub one_tells : {A : Type 0} (E : A → A → Bool) → Tells E → Tells {A = A × Unit {0}} (λ x y. E x.0 y.0)
one_tells E t = record { same = λ x y e i. (t.same x.0 y.0 e i, tt) }

pub none_tells : Tells {A = Unit {0}} (λ x y. true)
none_tells = record { same = λ x y e. refl }

-- the test of each variant tells
abbrev pub AllTell : (Fss : List (List Field)) → Each Bool Fss → Type 0
AllTell [] es = Unit {0}
AllTell (Fs ∷ Fss) es = Tells es.0 × AllTell Fss es.1

choices : (Fss : List (List Field)) (es : Each Bool Fss) → AllTell Fss es → (c d : Choice Fss) → by false false Fss es c d ≡ true → c ≡ d
choices [] es all c d h = absurd c
choices (Fs ∷ Fss) es all (inl x) (inl y) h = ap inl (all.0.same x y h)
choices (Fs ∷ Fss) es all (inl x) (inr y) h = absurd (true≢false (sym h))
choices (Fs ∷ Fss) es all (inr x) (inl y) h = absurd (true≢false (sym h))
choices (Fs ∷ Fss) es all (inr x) (inr y) h = ap inr (choices Fss es.1 all.1 x y h)

pub enum_tells : (N : Record) (es : Each Bool N.parts) → AllTell N.parts es → (x y : N.D) → by false false N.parts es (N.as_values x) (N.as_values y) ≡ true → x ≡ y
enum_tells N es all x y h = values_one N x y (choices N.parts es all (N.as_values x) (N.as_values y) h)
