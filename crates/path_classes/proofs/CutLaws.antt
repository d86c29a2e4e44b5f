-- Numbers of one piece are alike: no item tells them apart.
use Rattle.std.proofs.Common.{◌≡◌, refl, sym, ap, ◌∙◌, subst, ℕ, zero, suc, ◌+◌, ◌-◌, ◌<◌, ◌≤◌, ◌^◌, ◌⊎◌, inl, inr, Bool, true, false, List, [], ◌∷◌, ◌++◌, length, map, Some, slice_get, get_or, nat_lt, nat_le, arith, Contains, ltb-true, ltb-false, lt-ltb, le-leb}
use Rattle.std.specs.List.{flat_map}
use Rattle.std.specs.List.Sorted.{IsNonDecreasing}
use Rattle.std.proofs.lemmas.Bool.{cases_lt, le-ltb}
use Rattle.std.proofs.lemmas.Bool.Decides.{nat_tests}
use Rattle.std.proofs.lemmas.List.Elements.{Contains-append_left, Contains-append_right}
use Rattle.std.proofs.lemmas.Option.{slice_get_within}
use Rattle.path_patterns.specs.Items.{greatest}
use Rattle.path_classes.specs.Numbers.{count_below, count_up_to}
use Rattle.path_classes.specs.Letters.{befores, turn_ends, line_ends, turn_tests, signature, HasLetter, AreLetters, CutsAll}
use Rattle.path_classes.specs.declared.lines.Turn.{Turn}
use Rattle.path_classes.specs.declared.lines.Line.{Line}
use Rattle.path_classes.proofs.NumbersLaws.{one_if, count_cons}

-- ---- lists of numbers

in_cons : (x e : ℕ) (xs : List ℕ) → Contains (x ∷ xs) e → (x ≡ e) ⊎ Contains xs e
in_cons x e xs h = at h.0 h.1 h.2
  where
    at : (k : ℕ) → k < length (x ∷ xs) → get_or (x ∷ xs) k e ≡ e → (x ≡ e) ⊎ Contains xs e
    at zero below is = inl is
    at (suc k) below is = inr (k, (omega arith), is)

here : (x : ℕ) (xs : List ℕ) → Contains (x ∷ xs) x
here x xs = (0, (omega arith), refl)

later : (x e : ℕ) (xs : List ℕ) → Contains xs e → Contains (x ∷ xs) e
later x e xs h = (suc h.0, (omega (arith, h.1)), h.2)

rising_behind : (x : ℕ) (xs : List ℕ) → IsNonDecreasing (x ∷ xs) → IsNonDecreasing xs
rising_behind x xs up i j d le within = up (suc i) (suc j) d (omega arith) (omega arith)

first_least : (x e : ℕ) (xs : List ℕ) → IsNonDecreasing (x ∷ xs) → Contains xs e → x ≤ e
first_least x e xs up h = subst (λ (n : ℕ). x ≤ n) h.2 (up 0 (suc h.0) e (omega arith) (omega (arith, h.1)))

count_yes : (n x : ℕ) (xs : List ℕ) → x < n → count_below n (x ∷ xs) ≡ suc (count_below n xs)
count_yes n x xs less = let h = count_cons (λ (y : ℕ). nat_lt y n) x xs true (lt-ltb x n less) in omega (arith, h)

count_no : (n x : ℕ) (xs : List ℕ) → n ≤ x → count_below n (x ∷ xs) ≡ count_below n xs
count_no n x xs le = let h = count_cons (λ (y : ℕ). nat_lt y n) x xs false (le-ltb x n le) in omega (arith, h)

none_below : (n : ℕ) (xs : List ℕ) → ((e : ℕ) → Contains xs e → n ≤ e) → count_below n xs ≡ 0
none_below n [] above = refl
none_below n (x ∷ xs) above = count_no n x xs (above x (here x xs)) ∙ none_below n xs (λ e h. above e (later x e xs h))

-- ---- the end of a piece

-- the number is the last one of the piece in which n lies
record IsEnd (n : ℕ) (es : List ℕ) (r : ℕ) : Type 0 where
  pub there : slice_get es (count_below n es) ≡ Some r
  pub above : n ≤ r
  pub least : (e : ℕ) → Contains es e → n ≤ e → r ≤ e

end_of : (n g : ℕ) (es : List ℕ) → IsNonDecreasing es → Contains es g → n ≤ g → (r : ℕ) × IsEnd n es r
end_of n g [] up has le = absurd (omega (arith, has.1))
end_of n g (x ∷ es) up has le = elim (cases_lt x n) [
  | inl less ↦
      let more = end_of n g es (rising_behind x es up) (not_first less (in_cons x g es has)) le in (
        more.0,
        record {
          there = ap (λ (k : ℕ). slice_get (x ∷ es) k) (count_yes n x es less) ∙ more.1.there;
          above = more.1.above;
          least = λ e h high. at_later less more.0 more.1.least e (in_cons x e es h) high;
        },
      )
  | inr high ↦ (
    x,
    record {
      there = ap (λ (k : ℕ). slice_get (x ∷ es) k) (count_no n x es high ∙ none_below n es (λ e h. omega (arith, first_least x e es up h)));
      above = high;
      least = λ e h _. at_first e (in_cons x e es h);
    },
  )
]
  where
    not_first : x < n → (x ≡ g) ⊎ Contains es g → Contains es g
    not_first less (inl e) = absurd (omega arith)
    not_first less (inr h) = h

    at_later : x < n → (r : ℕ) → ((e : ℕ) → Contains es e → n ≤ e → r ≤ e) → (e : ℕ) → (x ≡ e) ⊎ Contains es e → n ≤ e → r ≤ e
    at_later less r least e (inl same) high = absurd (omega arith)
    at_later less r least e (inr h) high = least e h high

    at_first : (e : ℕ) → (x ≡ e) ⊎ Contains es e → x ≤ e
    at_first e (inl same) = omega arith
    at_first e (inr h) = first_least x e es up h

-- ---- numbers of one piece

-- no end lies between the two numbers
abbrev AreOne : ℕ → ℕ → List ℕ → Type 0
AreOne n r es = (e : ℕ) → Contains es e → nat_lt e n ≡ nat_lt e r

end_one : (n r : ℕ) (es : List ℕ) → IsEnd n es r → AreOne n r es
end_one n r es end e h = elim (cases_lt e n) [
  | inl less ↦ lt-ltb e n less ∙ sym (lt-ltb e r (omega (arith, end.above)))
  | inr high ↦ le-ltb e n high ∙ sym (le-ltb e r (end.least e h high))
]

below_same : (n r : ℕ) (xs : List ℕ) → AreOne n r xs → count_below n xs ≡ count_below r xs
below_same n r [] one = refl
below_same n r (x ∷ xs) one =
    count_cons (λ (y : ℕ). nat_lt y n) x xs (nat_lt x n) refl
    ∙ (λ i. one_if (one x (here x xs) i) + below_same n r xs (λ e h. one e (later x e xs h)) i)
    ∙ sym (count_cons (λ (y : ℕ). nat_lt y r) x xs (nat_lt x r) refl)

before_test : (x n : ℕ) → 0 < x → nat_le x n ≡ nat_lt (x - 1) n
before_test x n above = grind (arith, nat_tests)

up_same : (n r : ℕ) (xs : List ℕ) → AreOne n r (befores xs) → count_up_to n xs ≡ count_up_to r xs
unfolding befores
up_same n r [] one = refl
up_same n r (x ∷ xs) one = at (nat_lt 0 x) refl one (up_same n r xs)
  where
    joined : nat_le x n ≡ nat_le x r → count_up_to n xs ≡ count_up_to r xs → count_up_to n (x ∷ xs) ≡ count_up_to r (x ∷ xs)
    joined test more =
        count_cons (λ (y : ℕ). nat_le y n) x xs (nat_le x n) refl ∙ (λ i. one_if (test i) + more i) ∙ sym (count_cons (λ (y : ℕ). nat_le y r) x xs (nat_le x r) refl)

    at : (b : Bool) → nat_lt 0 x ≡ b → AreOne n r (elim b [ true ↦ (x - 1) ∷ befores xs | false ↦ befores xs ]) → (AreOne n r (befores xs) → count_up_to n xs ≡ count_up_to r xs)
        → count_up_to n (x ∷ xs) ≡ count_up_to r (x ∷ xs)
    at true e one more =
        let above = ltb-true 0 x e in
        joined (before_test x n above ∙ one (x - 1) (here (x - 1) (befores xs)) ∙ sym (before_test x r above)) (more (λ e h. one e (later (x - 1) e (befores xs) h)))
    at false e one more =
        let none = ltb-false 0 x e in
        joined (le-leb x n (omega arith) ∙ sym (le-leb x r (omega arith))) (more one)

turn_same : (n r : ℕ) (t : Turn) → AreOne n r (turn_ends t) → turn_tests n t ≡ turn_tests r t
turn_same n r t one =
    let mosts = below_same n r t.set.mosts (λ e h. one e (Contains-append_right (befores t.set.leasts) t.set.mosts e h)) in
    let leasts = up_same n r t.set.leasts (λ e h. one e (Contains-append_left (befores t.set.leasts) t.set.mosts e h)) in
    λ i. nat_lt (mosts i) (leasts i)

turns_same : (n r : ℕ) (ts : List Turn) → AreOne n r (flat_map turn_ends ts) → map (turn_tests n) ts ≡ map (turn_tests r) ts
turns_same n r [] one = refl
turns_same n r (t ∷ ts) one =
    let first = turn_same n r t (λ e h. one e (Contains-append_left (turn_ends t) (flat_map turn_ends ts) e h)) in
    let others = turns_same n r ts (λ e h. one e (Contains-append_right (turn_ends t) (flat_map turn_ends ts) e h)) in
    λ i. first i ∷ others i

lines_same : (n r : ℕ) (ls : List Line) → AreOne n r (flat_map line_ends ls) → signature ls n ≡ signature ls r
lines_same n r [] one = refl
lines_same n r (l ∷ ls) one =
    let first = turns_same n r l.turns (λ e h. one e (Contains-append_left (line_ends l) (flat_map line_ends ls) e h)) in
    let others = lines_same n r ls (λ e h. one e (Contains-append_right (line_ends l) (flat_map line_ends ls) e h)) in
    λ i. first i ++ others i

-- ---- letters

letter_at : (lines : List Line) (numbers es xs : List ℕ) (i r : ℕ) → AreLetters lines numbers es xs → i < length xs → slice_get es i ≡ Some r → (x : ℕ) × (slice_get xs i ≡ Some x) × HasLetter lines numbers r x
letter_at lines numbers es [] i r h below at = absurd (omega arith)
letter_at lines numbers [] (x ∷ xs) i r h below at = absurd h
letter_at lines numbers (e ∷ es) (x ∷ xs) zero r h below at = let same : e ≡ r = cc in (x, refl, subst (λ (n : ℕ). HasLetter lines numbers n x) same h.0)
letter_at lines numbers (e ∷ es) (x ∷ xs) (suc i) r h below at = letter_at lines numbers es xs i r h.1 (omega arith) at

-- the letter of a number, and a number of that letter
pub record IsLettered (lines : List Line) (ends letters numbers : List ℕ) (n : ℕ) : Type 0 where
  pub letter : ℕ
  pub there : slice_get letters (count_below n ends) ≡ Some letter
  pub number : ℕ
  pub kept : slice_get numbers letter ≡ Some number
  pub alike : signature lines n ≡ signature lines number

pub lettered : (lines : List Line) (ends letters numbers : List ℕ) (n : ℕ) → CutsAll lines ends letters numbers → n < 2 ^ 32 → IsLettered lines ends letters numbers n
lettered lines ends letters numbers n cuts below =
    let last : Contains ends greatest = cuts.all greatest (here greatest (flat_map line_ends lines)) in
    let end = end_of n greatest ends cuts.rising last (omega arith) in
    let within = slice_get_within ends (count_below n ends) end.0 end.1.there in
    let found = letter_at lines numbers ends letters (count_below n ends) end.0 cuts.pieces.lettered (omega (arith, cuts.pieces.full, within)) end.1.there in
    let one : AreOne n end.0 (flat_map line_ends lines) = λ e h. end_one n end.0 ends end.1 e (cuts.all e (later greatest e (flat_map line_ends lines) h)) in
    record {
      letter = found.0;
      there = found.1;
      number = found.2.number;
      kept = found.2.there;
      alike = lines_same n end.0 lines one ∙ sym found.2.alike;
    }
