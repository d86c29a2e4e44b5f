-- The search of marks, digit words, sets and turns as a function answers by the relation.
use Rattle.std.proofs.Common.{◌≡◌, refl, sym, ap, subst, ℕ, zero, suc, ◌+◌, ◌-◌, ◌≤◌, Bool, true, false, ◌&&◌, ◌||◌, nat_le, List, [], ◌∷◌, ◌++◌, arith, inl, inr, ◌⊎◌}
use Rattle.std.specs.Prelude.{◌==◌, bytes_eq}
use Rattle.std.specs.Bool.{Decides}
use Rattle.std.specs.List.{list_all}
use Rattle.std.proofs.lemmas.Bool.{and_parts, and_from, true≢false, eqb-true, eq-eqb, le-leb}
use Rattle.std.proofs.lemmas.Bool.Decides.{Decides-and, Decides-or, Decides-like, Decides-eqb}
use Rattle.std.proofs.lemmas.Slice.Eq.{bytes_eq-Decides}
use Rattle.route_types.specs.Words.{is_digit}
use Rattle.route_types.proofs.Numbers.{digit_range}
use Rattle.path_patterns.specs.PathItems.{has_digit}
use Rattle.path_patterns.specs.Search.{HasDigit, SpansUnder, SpansDigits, SpansWord, SpansSet, Repeated, SpansTurn}
use Rattle.path_patterns.specs.Finds.{space_then, at_edge, under_then, digits_then, number_then, word_then, set_then, turn_then, turns_then}
use Rattle.path_patterns.specs.declared.pattern.DigitWord.{DigitWord}
use Rattle.path_patterns.specs.declared.pattern.DigitWord.TheVariants.{Any, Digits}
use Rattle.path_patterns.specs.declared.pattern.DigitSet.{DigitSet}

-- from a place to one where the rest holds
abbrev pub Leads : (List ℕ → List ℕ → Type 0) → (List ℕ → Type 0) → List ℕ → Type 0
Leads P K place = (to : List ℕ) × P place to × K to

-- the test answers by the statement at every place
abbrev pub Answers : (List ℕ → Bool) → (List ℕ → Type 0) → Type 0
Answers k K = (p : List ℕ) → Decides (k p) (K p)

pub never : {P : Type 0} → (P → ⊥) → Decides false P
never n = (λ e. absurd (true≢false (sym e)), λ p. absurd (n p))

pub head_is : (c d : ℕ) (cs ds : List ℕ) → c ∷ cs ≡ d ∷ ds → (c ≡ d) × (cs ≡ ds)
head_is c d cs ds e = (cc, cc)

space_decides : (k : List ℕ → Bool) (K : List ℕ → Type 0) → Answers k K → (place : List ℕ) → Decides (space_then k place) ((to : List ℕ) × (place ≡ 32 ∷ to) × K to)
space_decides k K a [] = never (λ h. absurd cc)
space_decides k K a (c ∷ cs) =
    Decides-like ((c == 32) && k cs)
    (λ h. (cs, ap (λ (x : ℕ). x ∷ cs) h.0, h.1))
    (λ h. let e = head_is c 32 cs h.0 h.1 in (e.0, subst K (sym e.1) h.2))
    (Decides-and (c == 32) (k cs) (Decides-eqb c 32) (a cs))

pub under_decides : (text : List ℕ) (k : List ℕ → Bool) (K : List ℕ → Type 0) → Answers k K → (place : List ℕ) → Decides (under_then text k place) (Leads (SpansUnder text) K place)
under_decides text k K a place =
    Decides-like (space_then k place || (at_edge text place && k place)) forth back
    (Decides-or (space_then k place) (at_edge text place && k place) (space_decides k K a place)
    (Decides-and (at_edge text place) (k place) (Decides-or (bytes_eq place text) (bytes_eq place []) (bytes_eq-Decides place text) (bytes_eq-Decides place [])) (a place)))
  where
    forth : ((to : List ℕ) × (place ≡ 32 ∷ to) × K to) ⊎ (((place ≡ text) ⊎ (place ≡ [])) × K place) → Leads (SpansUnder text) K place
    forth (inl h) = (h.0, inl h.1, h.2)
    forth (inr h) = (place, inr (refl, h.0), h.1)

    split : (to : List ℕ) → SpansUnder text place to → K to → ((to : List ℕ) × (place ≡ 32 ∷ to) × K to) ⊎ (((place ≡ text) ⊎ (place ≡ [])) × K place)
    split to (inl e) h = inl (to, e, h)
    split to (inr e) h = inr (e.1, subst K (sym e.0) h)

    back : Leads (SpansUnder text) K place → ((to : List ℕ) × (place ≡ 32 ∷ to) × K to) ⊎ (((place ≡ text) ⊎ (place ≡ [])) × K place)
    back h = split h.0 h.1 h.2

is_digit_byte : (c : ℕ) → 48 ≤ c → c ≤ 57 → is_digit c ≡ true
is_digit_byte c low high = and_from (nat_le 48 c) (nat_le c 57) (le-leb 48 c low) (le-leb c 57 high)

-- a digit of the set in front
digit_decides : (s : DigitSet) (c : ℕ) → Decides (is_digit c && has_digit s (c - 48)) ((d : ℕ) × HasDigit s d × (c ≡ 48 + d))
digit_decides s c = (
  λ e. let p = and_parts (is_digit c) (has_digit s (c - 48)) e in
      let r = digit_range c p.0 in
      (c - 48, (omega (arith, r.0, r.1), eqb-true _ 1 p.1), omega (arith, r.0)),
  λ h. and_from (is_digit c) (has_digit s (c - 48))
      (is_digit_byte c (omega (arith, h.2)) (omega (arith, h.2, h.1.0)))
      (subst (λ (x : ℕ). has_digit s x ≡ true) (let e : h.0 ≡ c - 48 = omega (arith, h.2) in e) (eq-eqb _ 1 h.1.1)),
)

digits_decides : (ss : List DigitSet) (k : List ℕ → Bool) (K : List ℕ → Type 0) → Answers k K → (place : List ℕ) → Decides (digits_then ss k place) (Leads (SpansDigits ss) K place)
unfolding digits_then SpansDigits
digits_decides [] k K a place = Decides-like (k place) (λ h. (place, refl, h)) (λ h. subst K (sym h.1) h.2) (a place)
digits_decides (s ∷ ss) k K a [] = never (λ h. let e : [] ≡ (48 + h.1.0) ∷ h.1.1 = h.1.3 in absurd cc)
digits_decides (s ∷ ss) k K a (c ∷ cs) =
    Decides-like (is_digit c && has_digit s (c - 48) && digits_then ss k cs) forth back
    (Decides-and (is_digit c && has_digit s (c - 48)) (digits_then ss k cs) (digit_decides s c) (digits_decides ss k K a cs))
  where
    forth : ((d : ℕ) × HasDigit s d × (c ≡ 48 + d)) × Leads (SpansDigits ss) K cs → Leads (SpansDigits (s ∷ ss)) K (c ∷ cs)
    forth h = (h.1.0, (h.0.0, cs, h.0.1, ap (λ (x : ℕ). x ∷ cs) h.0.2, h.1.1), h.1.2)

    back : Leads (SpansDigits (s ∷ ss)) K (c ∷ cs) → ((d : ℕ) × HasDigit s d × (c ≡ 48 + d)) × Leads (SpansDigits ss) K cs
    back h =
        let e = head_is c (48 + h.1.0) cs h.1.1 h.1.3 in
        ((h.1.0, h.1.2, e.0), (h.0, subst (λ (p : List ℕ). SpansDigits ss p h.0) (sym e.1) h.1.4, h.2))

number_decides : (k : List ℕ → Bool) (K : List ℕ → Type 0) → Answers k K → (place : List ℕ) → Decides (number_then k place) (Leads (SpansWord Any) K place)
unfolding number_then
number_decides k K a [] = never (λ h. no_digits h.0 h.1)
  where
    no_digits : (to : List ℕ) → SpansWord Any [] to → ⊥
    no_digits to ([], e, some, all) = absurd (omega (arith, some))
    no_digits to (d ∷ ds, e, some, all) = let f : [] ≡ d ∷ (ds ++ to) = e in absurd cc
number_decides k K a (c ∷ cs) =
    Decides-like (is_digit c && (k cs || number_then k cs)) forth back
    (Decides-and (is_digit c) (k cs || number_then k cs) (λ e. e, λ e. e) (Decides-or (k cs) (number_then k cs) (a cs) (number_decides k K a cs)))
  where
    forth_or : is_digit c ≡ true → K cs ⊎ Leads (SpansWord Any) K cs → Leads (SpansWord Any) K (c ∷ cs)
    forth_or d (inl h) = (cs, (c ∷ [], refl, omega arith, and_from (is_digit c) true d refl), h)
    forth_or d (inr h) = (h.0, (c ∷ h.1.0, ap (λ (xs : List ℕ). c ∷ xs) h.1.1, omega arith, and_from (is_digit c) (list_all is_digit h.1.0) d h.1.3), h.2)

    forth : (is_digit c ≡ true) × (K cs ⊎ Leads (SpansWord Any) K cs) → Leads (SpansWord Any) K (c ∷ cs)
    forth h = forth_or h.0 h.1

    further : (ds to : List ℕ) → list_all is_digit ds ≡ true → cs ≡ ds ++ to → K to → K cs ⊎ Leads (SpansWord Any) K cs
    further [] to all e h = inl (subst K (sym e) h)
    further (d ∷ ds) to all e h = inr (to, (d ∷ ds, e, omega arith, all), h)

    back_at : (to : List ℕ) → SpansWord Any (c ∷ cs) to → K to → (is_digit c ≡ true) × (K cs ⊎ Leads (SpansWord Any) K cs)
    back_at to ([], e, some, all) h = absurd (omega (arith, some))
    back_at to (d ∷ ds, e, some, all) h =
        let p = and_parts (is_digit d) (list_all is_digit ds) all in
        let q = head_is c d cs (ds ++ to) e in
        (subst (λ (x : ℕ). is_digit x ≡ true) (sym q.0) p.0, further ds to p.1 q.1 h)

    back : Leads (SpansWord Any) K (c ∷ cs) → (is_digit c ≡ true) × (K cs ⊎ Leads (SpansWord Any) K cs)
    back h = back_at h.0 h.1 h.2

word_decides : (w : DigitWord) (k : List ℕ → Bool) (K : List ℕ → Type 0) → Answers k K → (place : List ℕ) → Decides (word_then w k place) (Leads (SpansWord w) K place)
word_decides Any k K a place = number_decides k K a place
word_decides (Digits ss) k K a place = digits_decides ss k K a place

pub set_decides : (ws : List DigitWord) (k : List ℕ → Bool) (K : List ℕ → Type 0) → Answers k K → (place : List ℕ) → Decides (set_then ws k place) (Leads (SpansSet ws) K place)
set_decides [] k K a place = never (λ h. h.1)
set_decides (w ∷ ws) k K a place =
    Decides-like (word_then w k place || set_then ws k place) forth back (Decides-or (word_then w k place) (set_then ws k place) (word_decides w k K a place) (set_decides ws k K a place))
  where
    forth : Leads (SpansWord w) K place ⊎ Leads (SpansSet ws) K place → Leads (SpansSet (w ∷ ws)) K place
    forth (inl h) = (h.0, inl h.1, h.2)
    forth (inr h) = (h.0, inr h.1, h.2)

    back_at : (to : List ℕ) → SpansSet (w ∷ ws) place to → K to → Leads (SpansWord w) K place ⊎ Leads (SpansSet ws) K place
    back_at to (inl s) h = inl (to, s, h)
    back_at to (inr s) h = inr (to, s, h)

    back : Leads (SpansSet (w ∷ ws)) K place → Leads (SpansWord w) K place ⊎ Leads (SpansSet ws) K place
    back h = back_at h.0 h.1 h.2

pub turn_decides : (text : List ℕ) (ws : List DigitWord) (k : List ℕ → Bool) (K : List ℕ → Type 0) → Answers k K → (place : List ℕ) → Decides (turn_then text ws k place) (Leads (SpansTurn text ws) K place)
turn_decides text ws k K a place =
    Decides-like (turn_then text ws k place)
    (λ h. (h.2.0, (h.0, h.1, h.2.1), h.2.2))
    (λ h. (h.1.0, h.1.1, (h.0, h.1.2, h.2)))
    (under_decides text (λ p. set_then ws k p) (Leads (SpansSet ws) K) (λ p. set_decides ws k K a p) place)

-- so many turns or fewer
abbrev pub Turns : List ℕ → List DigitWord → ℕ → (List ℕ → Type 0) → List ℕ → Type 0
Turns text ws n K place = (m : ℕ) × (m ≤ n) × Leads (Repeated (SpansTurn text ws) m) K place

pub turns_decides : (text : List ℕ) (ws : List DigitWord) (n : ℕ) (k : List ℕ → Bool) (K : List ℕ → Type 0) → Answers k K → (place : List ℕ) → Decides (turns_then text ws n k place) (Turns text ws n K place)
unfolding turns_then Repeated
turns_decides text ws zero k K a place = Decides-like (k place) (λ h. (zero, omega arith, (place, refl, h))) (λ h. back h.0 h.1 h.2) (a place)
  where
    back : (m : ℕ) → m ≤ zero → Leads (Repeated (SpansTurn text ws) m) K place → K place
    back zero l h = subst K (sym h.1) h.2
    back (suc m) l h = absurd (omega (arith, l))
turns_decides text ws (suc n) k K a place =
    Decides-like (k place || turn_then text ws (λ p. turns_then text ws n k p) place) forth (λ h. back h.0 h.1 h.2)
    (Decides-or (k place) (turn_then text ws (λ p. turns_then text ws n k p) place) (a place) (turn_decides text ws (λ p. turns_then text ws n k p) (Turns text ws n K) (λ p. turns_decides text ws n k K a p) place))
  where
    forth : K place ⊎ Leads (SpansTurn text ws) (Turns text ws n K) place → Turns text ws (suc n) K place
    forth (inl h) = (zero, omega arith, (place, refl, h))
    forth (inr h) = (suc h.2.0, omega (arith, h.2.1), (h.2.2.0, (h.0, h.1, h.2.2.1), h.2.2.2))

    back : (m : ℕ) → m ≤ suc n → Leads (Repeated (SpansTurn text ws) m) K place → K place ⊎ Leads (SpansTurn text ws) (Turns text ws n K) place
    back zero l h = inl (subst K (sym h.1) h.2)
    back (suc m) l h = inr (h.1.0, h.1.1, (m, omega (arith, l), (h.0, h.1.2, h.2)))
