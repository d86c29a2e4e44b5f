-- Tests of equality that tell: where the test of two keys answers yes, they are one.
use Rattle.std.proofs.Common.{◌≡◌, refl, ap, ℕ, Bool, true, false, ◌&&◌, ◌==◌, List, [], ◌∷◌, Option, Some, None, eqb-true}
use Rattle.std.proofs.lemmas.Bool.{and_parts}
use Rattle.std.specs.Bool.{beq}
use Rattle.std.specs.Option.{option_eq}
use Rattle.std.specs.Cmp.Lexicographic.{pointwise}
use Rattle.path_classes.specs.declared.threads.Inside.{Inside as At}
use Rattle.path_classes.specs.declared.threads.Stage.{Stage}
use Rattle.path_classes.specs.declared.threads.Stage.TheVariants.{Always, Ended, Inside}
use Rattle.path_classes.specs.declared.threads.Thread.{Thread}
use Rattle.path_classes.specs.contracts.threads.StagePartialEq.TheImpl as stage

pub bits_tell : (a b : Bool) → beq a b ≡ true → a ≡ b
bits_tell true true e = refl
bits_tell true false e = absurd cc
bits_tell false true e = absurd cc
bits_tell false false e = refl

pub lists_tell : {A : Type 0} (E : A → A → Bool) → ((x y : A) → E x y ≡ true → x ≡ y) → (xs ys : List A) → pointwise E xs ys ≡ true → xs ≡ ys
lists_tell E t [] [] e = refl
lists_tell E t [] (y ∷ ys) e = absurd cc
lists_tell E t (x ∷ xs) [] e = absurd cc
lists_tell E t (x ∷ xs) (y ∷ ys) e =
    let parts = and_parts (E x y) (pointwise E xs ys) e in
    λ i. t x y parts.0 i ∷ lists_tell E t xs ys parts.1 i

mosts_tell : (a b : Option ℕ) → option_eq (λ x y. x == y) a b ≡ true → a ≡ b
mosts_tell None None e = refl
mosts_tell None (Some b) e = absurd cc
mosts_tell (Some a) None e = absurd cc
mosts_tell (Some a) (Some b) e = ap (λ (n : ℕ). Some n) (eqb-true a b e)

abbrev same_inside : At → At → Bool
same_inside a b = a.line == b.line && (a.left == b.left && (a.least == b.least && option_eq (λ x y. x == y) a.most b.most))

insides_tell : (a b : At) → same_inside a b ≡ true → a ≡ b
insides_tell a b e =
    let first = and_parts (a.line == b.line) (a.left == b.left && (a.least == b.least && option_eq (λ x y. x == y) a.most b.most)) e in
    let second = and_parts (a.left == b.left) (a.least == b.least && option_eq (λ x y. x == y) a.most b.most) first.1 in
    let third = and_parts (a.least == b.least) (option_eq (λ x y. x == y) a.most b.most) second.1 in
    let line = eqb-true a.line b.line first.0 in
    let left = eqb-true a.left b.left second.0 in
    let least = eqb-true a.least b.least third.0 in
    let most = mosts_tell a.most b.most third.1 in
    λ i. record { line = line i; left = left i; least = least i; most = most i }

stages_tell : (a b : Stage) → stage.ghosts.eq a b ≡ true → a ≡ b
stages_tell Always Always e = refl
stages_tell Always Ended e = absurd cc
stages_tell Always (Inside b) e = absurd cc
stages_tell Ended Always e = absurd cc
stages_tell Ended Ended e = refl
stages_tell Ended (Inside b) e = absurd cc
stages_tell (Inside a) Always e = absurd cc
stages_tell (Inside a) Ended e = absurd cc
stages_tell (Inside a) (Inside b) e = ap Inside (insides_tell a b e)

abbrev pub same_thread : Thread → Thread → Bool
same_thread a b = a.pattern == b.pattern && stage.ghosts.eq a.stage b.stage

pub threads_tell : (a b : Thread) → same_thread a b ≡ true → a ≡ b
threads_tell a b e =
    let parts = and_parts (a.pattern == b.pattern) (stage.ghosts.eq a.stage b.stage) e in
    let pattern = eqb-true a.pattern b.pattern parts.0 in
    let stage_is = stages_tell a.stage b.stage parts.1 in
    λ i. record { pattern = pattern i; stage = stage_is i }
