-- Calls that go down in rank: no policy leads back to itself, and no more calls stand one in the other than the ranks allow.
use Rattle.std.proofs.Common.{◌≡◌, refl, ap, ◌∙◌, ℕ, zero, suc, ◌+◌, ◌≤◌, ◌<◌, ◌⊎◌, inl, inr, Bool, true, false, ◌&&◌, ◌||◌, not, List, [], ◌∷◌, arith}
use Rattle.std.specs.Prelude.{bytes_eq}
use Rattle.std.specs.List.{list_any, AllByRecursion}
use Rattle.std.proofs.lemmas.Bool.{and_parts, false_from_ne_true}
use Rattle.policy_calls.specs.Calls.{Link, is_link, leads, is_reached, is_called, turns_back, has_cycle}
use Rattle.policy_calls.specs.Depth.{is_at, is_too_deep, most_calls}
use Rattle.policy_calls.proofs.Leads.{or_cases, same}

pub none_any : {A : Type 0} (f : A → Bool) (xs : List A) → AllByRecursion (λ x. f x ≡ false) xs → list_any f xs ≡ false
none_any f [] h = refl
none_any f (x ∷ xs) h = ap (λ (b : Bool). b || list_any f xs) h.0 ∙ none_any f xs h.1

module _ (rank : List ℕ → ℕ) where
  -- the callee is of a lower rank
  abbrev pub Falls : Link → Type 0
  Falls l = rank l.callee < rank l.caller

  abbrev AtOrBelow : List ℕ → List ℕ → Type 0
  AtOrBelow p r = (p ≡ r) ⊎ (rank r < rank p)

  no_higher : (p r : List ℕ) → AtOrBelow p r → rank r ≤ rank p
  no_higher p r (inl e) = let k : rank p ≡ rank r = ap rank e in omega (arith, k)
  no_higher p r (inr h) = omega (arith, h)

  -- the rank between two policies that lead on
  between : (a b c d : ℕ) → b ≤ a → d < b → c ≤ d → c < a
  between a b c d h k l = omega (arith, h, k, l)

  leads_down : (links : List Link) → AllByRecursion Falls links → (p r : List ℕ) → leads links p r ≡ true → AtOrBelow p r
  unfolding leads
  leads_down [] h p r e = inl (same p r e)
  leads_down (l ∷ ls) h p r e = one (or_cases (leads ls p r) (leads ls p l.caller && leads ls l.callee r) e) (leads_down ls h.1 p r) (leads_down ls h.1 p l.caller) (leads_down ls h.1 l.callee r)
    where
      one : (leads ls p r ≡ true) ⊎ ((leads ls p l.caller && leads ls l.callee r) ≡ true) → (leads ls p r ≡ true → AtOrBelow p r)
          → (leads ls p l.caller ≡ true → AtOrBelow p l.caller)
          → (leads ls l.callee r ≡ true → AtOrBelow l.callee r)
          → AtOrBelow p r
      one (inl k) on to from = on k
      one (inr k) on to from =
          let parts = and_parts (leads ls p l.caller) (leads ls l.callee r) k in
          inr (between (rank p) (rank l.caller) (rank r) (rank l.callee) (no_higher p l.caller (to parts.0)) h.0 (no_higher l.callee r (from parts.1)))

  -- no call leads back to the caller
  none_returns : (links ls : List Link) → AllByRecursion Falls links → AllByRecursion Falls ls → (p q : List ℕ) → list_any (λ l. is_link p q l && leads links l.callee l.caller) ls ≡ false
  none_returns links [] h k p q = refl
  none_returns links (l ∷ ls) h k p q = ap (λ (b : Bool). b || list_any (λ m. is_link p q m && leads links m.callee m.caller) ls) (one (is_link p q l)) ∙ none_returns links ls h k.1 p q
    where
      back : leads links l.callee l.caller ≡ false
      back = false_from_ne_true (leads links l.callee l.caller) (λ e.
          let above = no_higher l.callee l.caller (leads_down links h l.callee l.caller e) in
          let falls : rank l.callee < rank l.caller = k.0 in
          absurd (omega (arith, above, falls)))

      one : (b : Bool) → (b && leads links l.callee l.caller) ≡ false
      one true = back
      one false = refl

  pub none_turns : (links : List Link) → AllByRecursion Falls links → (p q : List ℕ) → turns_back links p q ≡ false
  none_turns links h p q = none_returns links links h h p q

  -- ---- depth

  some_name : (top : ℕ) (names : List (List ℕ)) (q : List ℕ) → AllByRecursion (λ n. rank n ≤ top) names → list_any (bytes_eq q) names ≡ true → rank q ≤ top
  some_name top [] q h e = absurd cc
  some_name top (n ∷ ns) q h e = one (or_cases (bytes_eq q n) (list_any (bytes_eq q) ns) e) (some_name top ns q h.1)
    where
      one : (bytes_eq q n ≡ true) ⊎ (list_any (bytes_eq q) ns ≡ true) → (list_any (bytes_eq q) ns ≡ true → rank q ≤ top) → rank q ≤ top
      one (inl k) more = let s : rank q ≡ rank n = ap rank (same q n k) in let low : rank n ≤ top = h.0 in omega (arith, s, low)
      one (inr k) more = more k

  -- a policy so many calls from the names is so much lower
  deep_is_low : (top : ℕ) (links : List Link) (names : List (List ℕ)) → AllByRecursion Falls links → AllByRecursion (λ n. rank n ≤ top) names → (n : ℕ) (q : List ℕ)
      → is_at links names n q ≡ true → n + rank q ≤ top
  unfolding is_at
  deep_is_low top links names h k zero q e = let low = some_name top names q k e in omega (arith, low)
  deep_is_low top links names h k (suc n) q e = some_call links h (deep_is_low top links names h k n) e
    where
      some_call : (ls : List Link) → AllByRecursion Falls ls → ((p : List ℕ) → is_at links names n p ≡ true → n + rank p ≤ top)
          → list_any (λ l. bytes_eq q l.callee && is_at links names n l.caller) ls ≡ true
          → suc n + rank q ≤ top
      some_call [] f lower g = absurd cc
      some_call (l ∷ ls) f lower g = one (or_cases (bytes_eq q l.callee && is_at links names n l.caller) (list_any (λ m. bytes_eq q m.callee && is_at links names n m.caller) ls) g) (some_call ls f.1 lower)
        where
          one : ((bytes_eq q l.callee && is_at links names n l.caller) ≡ true) ⊎ (list_any (λ m. bytes_eq q m.callee && is_at links names n m.caller) ls ≡ true)
              → (list_any (λ m. bytes_eq q m.callee && is_at links names n m.caller) ls ≡ true → suc n + rank q ≤ top)
              → suc n + rank q ≤ top
          one (inl c) more =
              let parts = and_parts (bytes_eq q l.callee) (is_at links names n l.caller) c in
              let there = lower l.caller parts.1 in
              let s : rank q ≡ rank l.callee = ap rank (same q l.callee parts.0) in
              let falls : rank l.callee < rank l.caller = f.0 in
              omega (arith, there, s, falls)
          one (inr c) more = more c

  and_none : (a b : Bool) → b ≡ false → (a && b) ≡ false
  and_none true b e = e
  and_none false b e = refl

  pub none_deep : (top : ℕ) (links : List Link) (names : List (List ℕ)) → top < 128 → AllByRecursion Falls links → AllByRecursion (λ n. rank n ≤ top) names → (q : List ℕ)
      → is_too_deep links names q ≡ false
  unfolding is_too_deep
  none_deep top links names small h k q =
      and_none (not (has_cycle links names)) (is_at links names most_calls q) (false_from_ne_true (is_at links names most_calls q) (λ e.
      let low = deep_is_low top links names h k most_calls q e in absurd (omega (arith, low, small))))

  -- a policy of the highest rank is not called
  pub none_calls : (top : ℕ) (links : List Link) (names : List (List ℕ)) → ((p : List ℕ) → rank p ≤ top) → AllByRecursion Falls links → (q : List ℕ) → rank q ≡ top → is_called links names q ≡ false
  none_calls top links names low h q high = none_any (λ l. bytes_eq q l.callee && is_reached links names l.caller) links (each links h)
    where
      each : (ls : List Link) → AllByRecursion Falls ls → AllByRecursion (λ l. (bytes_eq q l.callee && is_reached links names l.caller) ≡ false) ls
      each [] f = tt
      each (l ∷ ls) f = (
        ap (λ (b : Bool). b && is_reached links names l.caller) (false_from_ne_true (bytes_eq q l.callee) (λ e.
            let s : rank q ≡ rank l.callee = ap rank (same q l.callee e) in
            let falls : rank l.callee < rank l.caller = f.0 in
            let bound = low l.caller in
            absurd (omega (arith, s, falls, bound, high)))),
        each ls f.1,
      )
