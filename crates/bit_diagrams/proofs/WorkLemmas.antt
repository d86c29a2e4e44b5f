-- What the loop that works out a choice keeps, and why it ends.
use Rattle.std.proofs.Common.{◌≡◌, ℕ, zero, suc, ◌+◌, ◌-◌, ◌*◌, ◌<◌, ◌≤◌, true, false, ◌&&◌, List, [], ◌∷◌, Option, Some, None, is_some, if◌then◌else◌, ◌==◌, refl, ap, subst, ◌∙◌, inl, inr, arith, eq-eqb, eqb-true, mul-le-mul_right}
use Rattle.std.proofs.lemmas.Bool.{cases_Bool, cases_eq, and_parts}
use Rattle.bit_diagrams.specs.declared.waiting.Choice.{Choice}
use Rattle.bit_diagrams.specs.Store.{Store, ids}
use Rattle.bit_diagrams.specs.Choice.{Grows, IsSound, IsOpen, choice_place, same_choice}

-- the choice that the work began with: the oldest of those that wait
abbrev pub root_of : Choice → List Choice → Choice
root_of c [] = c
root_of c (d ∷ rest) = root_of d rest

-- those that wait are open, and each looks at an earlier place than what came after it
abbrev pub Waits : Store → (Choice → Option ℕ) → ℕ → List Choice → Type 0
Waits first answer place [] = Unit {0}
Waits first answer place (c ∷ rest) = IsOpen first answer c × (choice_place first c < place)
    × Waits first answer (choice_place first c) rest

-- what holds before each step: `first` is the store at the start
pub record IsAtWork (first : Store) (start : Choice) (now : Store) (answer : Choice → Option ℕ)
    (waiting : List Choice) (current : Choice) : Type 0 where
  pub grows : Grows first now
  pub sound : IsSound now answer
  pub root : root_of current waiting ≡ start
  pub here : IsOpen first answer current
  pub waits : Waits first answer (choice_place first current) waiting

-- the sum of what f gives at each number below n
sum_below : (ℕ → ℕ) → ℕ → ℕ
sum_below f zero = 0
sum_below f (suc n) = f n + sum_below f n

sum_below-le : (f g : ℕ → ℕ) (n : ℕ) → ((k : ℕ) → g k ≤ f k) → sum_below g n ≤ sum_below f n
unfolding sum_below
sum_below-le f g zero le = omega arith
sum_below-le f g (suc n) le = omega (arith, le n, sum_below-le f g n le)

sum_below-lt : (f g : ℕ → ℕ) (n j : ℕ) → ((k : ℕ) → g k ≤ f k) → j < n → g j < f j
    → sum_below g n < sum_below f n
unfolding sum_below
sum_below-lt f g zero j le below lt = absurd (omega arith)
sum_below-lt f g (suc n) j le below lt =
    elim (cases_eq j n) [
      | inl e ↦
          let here : g n < f n = subst (λ i. g i < f i) e lt in
          omega (arith, here, sum_below-le f g n le)
      | inr e ↦
          let rest : sum_below g n < sum_below f n = sum_below-lt f g n j le (omega arith) lt in
          omega (arith, le n, rest)
    ]

-- 1 where a choice has no answer yet
unanswered : (Choice → Option ℕ) → Choice → ℕ
unanswered answer c = if is_some (answer c) then 0 else 1

-- how many choices of the Ids below n have no answer yet
open_count : (Choice → Option ℕ) → ℕ → ℕ
open_count answer n =
    sum_below (λ t. sum_below
    (λ h. sum_below (λ l. unanswered answer (record { test = t; high = h; low = l })) n) n) n

-- how much is left to do, at most: a way down for each choice with no answer, and the way that was begun
pub work_left : Store → (Choice → Option ℕ) → Choice → ℕ
work_left first answer current = open_count answer (ids first.nodes) * (first.places + 1)
    + (first.places - choice_place first current)

pub same_choice-true : (a b : Choice) → same_choice a b ≡ true → a ≡ b
same_choice-true a b e =
    let first = and_parts (a.test == b.test) (a.high == b.high && a.low == b.low) e in
    let others = and_parts (a.high == b.high) (a.low == b.low) first.1 in
    let t = eqb-true a.test b.test first.0 in
    let h = eqb-true a.high b.high others.0 in
    let l = eqb-true a.low b.low others.1 in
    λ i. record { test = t i; high = h i; low = l i }

same_choice-refl : (a : Choice) → same_choice a a ≡ true
same_choice-refl a = rw
    (eq-eqb a.test a.test refl, eq-eqb a.high a.high refl, eq-eqb a.low a.low refl) refl

-- the answers after one more is kept
abbrev pub Answered : (Choice → Option ℕ) → (Choice → Option ℕ) → Choice → ℕ → Type 0
Answered answer after c id = (q : Choice) → after q ≡ (if same_choice c q then Some id else answer q)

answered_here : (answer after : Choice → Option ℕ) (c : Choice) (id : ℕ)
    → Answered answer after c id → after c ≡ Some id
answered_here answer after c id h = h c ∙ ap (λ b. if b then Some id else answer c) (same_choice-refl c)

answered_other : (answer after : Choice → Option ℕ) (c q : Choice) (id : ℕ)
    → Answered answer after c id → same_choice c q ≡ false → after q ≡ answer q
answered_other answer after c q id h e = h q ∙ ap (λ b. if b then Some id else answer q) e

unanswered-le : (answer after : Choice → Option ℕ) (c q : Choice) (id : ℕ)
    → Answered answer after c id → unanswered after q ≤ unanswered answer q
unfolding unanswered
unanswered-le answer after c q id h =
    elim (cases_Bool (same_choice c q)) [
      | inl e ↦
          let now : after q ≡ Some id = h q ∙ ap (λ b. if b then Some id else answer q) e in
          rw now (omega arith)
      | inr e ↦ rw (answered_other answer after c q id h e) (omega arith)
    ]

unanswered-lt : (answer after : Choice → Option ℕ) (c : Choice) (id : ℕ)
    → Answered answer after c id → answer c ≡ None → unanswered after c < unanswered answer c
unfolding unanswered
unanswered-lt answer after c id h none = rw (answered_here answer after c id h, none) (omega arith)

open_count-lt : (answer after : Choice → Option ℕ) (c : Choice) (id n : ℕ)
    → Answered answer after c id → answer c ≡ None → c.test < n → c.high < n → c.low < n
    → open_count after n < open_count answer n
unfolding open_count
open_count-lt answer after c id n h none t_below h_below l_below =
    sum_below-lt _ _ n c.test
    (λ t. sum_below-le _ _ n
    (λ k. sum_below-le _ _ n
    (λ l. unanswered-le answer after c (record { test = t; high = k; low = l }) id h)))
    t_below
    (sum_below-lt _ _ n c.high
    (λ k. sum_below-le _ _ n
    (λ l. unanswered-le answer after c (record { test = c.test; high = k; low = l }) id h))
    h_below
    (sum_below-lt _ _ n c.low
    (λ l. unanswered-le answer after c (record { test = c.test; high = c.high; low = l }) id h)
    l_below
    (unanswered-lt answer after c id h none)))

-- an answer kept leaves less to do, wherever the work goes on
pub join_less : (first : Store) (answer after : Choice → Option ℕ) (c next : Choice) (id : ℕ)
    → Answered answer after c id → IsOpen first answer c
    → work_left first after next < work_left first answer c
unfolding work_left
join_less first answer after c next id h here =
    let fewer : open_count after (ids first.nodes) + 1 ≤ open_count answer (ids first.nodes) =
    omega (
      arith,
      open_count-lt answer after c id (ids first.nodes)
          h here.unknown here.of_store.of_test here.of_store.of_high here.of_store.of_low,
    ) in
    let scaled : (open_count after (ids first.nodes) + 1) * (first.places + 1) ≤ open_count answer
    (ids first.nodes) * (first.places + 1) =
    mul-le-mul_right (first.places + 1) fewer in
    grind (arith, scaled)

-- and so does a step down
pub descend_less : (first : Store) (answer : Choice → Option ℕ) (c half : Choice)
    → choice_place first c < first.places → choice_place first c < choice_place first half
    → work_left first answer half < work_left first answer c
unfolding work_left
descend_less first answer c half within later = omega (arith, within, later)
