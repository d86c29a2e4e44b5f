-- What is found by steps from an argument to the one before it, and to the last one of the next parameter, is what is found
-- by steps to all arguments of the next parameter.
use Rattle.std.proofs.Common.{◌≡◌, refl, sym, ap, ◌∙◌, subst, ℕ, zero, suc, ◌<◌, ◌⊎◌, inl, inr, Bool, true, false, ◌==◌, List, [], ◌∷◌, ◌++◌, length, Option, Some, None, slice_get, arith, eqb-true}
use Rattle.std.specs.Prelude.{map, bytes_eq}
use Rattle.std.proofs.lemmas.Bool.{and_parts}
use Rattle.std.proofs.lemmas.Option.{same_Some}
use Rattle.std.proofs.lemmas.Slice.Eq.{bytes_eq-Decides}
use Rattle.step_search.specs.Found.{IsIn, steps_from, IsFound}
use Rattle.step_search.proofs.Closed.{in_left, in_right, in_either, from_flat, found_first, found_next}
use Rattle.rpl_calls.specs.Parameters.{ParameterParts, is_parameter, is_at, places_below, places_in, last_below, last_in, last_of, earlier_of}

-- ---- places of parameters

same_parameter : (p q : ParameterParts) → is_parameter p (Some q) ≡ true → p ≡ q
same_parameter p q e =
    let parts = and_parts (bytes_eq p.policy q.policy) (p.place == q.place) e in
    let policy = (bytes_eq-Decides p.policy q.policy).0 parts.0 in
    let place = eqb-true p.place q.place parts.1 in
    λ i. record { policy = policy i; place = place i }

module _ (ps : List (Option ParameterParts)) where
  -- where a parameter stands, the one before is the last one of it
  before_is : (p : ParameterParts) (n : ℕ) → is_at p ps n ≡ true → earlier_of ps n ≡ last_below p ps n
  before_is p n e = at (slice_get ps n) refl e
    where
      named : (o : Option ParameterParts) → is_parameter p o ≡ true → last_of o ps n ≡ last_below p ps n
      named None e = absurd cc
      named (Some q) e = ap (λ (r : ParameterParts). last_below r ps n) (sym (same_parameter p q e))

      at : (o : Option (Option ParameterParts)) → slice_get ps n ≡ o → (elim o [ None ↦ false | Some q ↦ is_parameter p q ]) ≡ true → earlier_of ps n ≡ last_below p ps n
      at None is e = absurd cc
      at (Some q) is e = ap (λ (o : Option (Option ParameterParts)). elim o [ None ↦ None | Some r ↦ last_of r ps n ]) is ∙ named q e

  in_places : (p : ParameterParts) (m n : ℕ) → n < m → is_at p ps n ≡ true → IsIn n (places_below p ps m)
  unfolding places_below
  in_places p zero n less e = absurd (omega arith)
  in_places p (suc m) n less e = at (is_at p ps m) refl (split less) (λ lower. in_places p m n lower e)
    where
      split : n < suc m → (n ≡ m) ⊎ (n < m)
      split less = grind arith

      at : (b : Bool) → is_at p ps m ≡ b → (n ≡ m) ⊎ (n < m) → (n < m → IsIn n (places_below p ps m)) → IsIn n (elim b [ true ↦ m ∷ places_below p ps m | false ↦ places_below p ps m ])
      at true is (inl same) more = inl same
      at true is (inr lower) more = inr (more lower)
      at false is (inl same) more = absurd (wrong (sym is ∙ ap (λ (k : ℕ). is_at p ps k) (sym same) ∙ e))
        where
          wrong : false ≡ true → ⊥
          wrong e = absurd cc
      at false is (inr lower) more = more lower

  -- a place at which the parameter stands is below, and the parameter stands there
  record StandsBelow (p : ParameterParts) (m n : ℕ) : Type 0 where
    below : n < m
    stands : is_at p ps n ≡ true

  stands_below : (p : ParameterParts) (m n : ℕ) → IsIn n (places_below p ps m) → StandsBelow p m n
  unfolding places_below
  stands_below p zero n here = absurd here
  stands_below p (suc m) n here = at (is_at p ps m) refl here (λ lower. stands_below p m n lower)
    where
      up : StandsBelow p m n → StandsBelow p (suc m) n
      up s = let less = s.below in record { below = omega (arith, less); stands = s.stands }

      at : (b : Bool) → is_at p ps m ≡ b → IsIn n (elim b [ true ↦ m ∷ places_below p ps m | false ↦ places_below p ps m ]) → (IsIn n (places_below p ps m) → StandsBelow p m n) → StandsBelow p (suc m) n
      at true is (inl same) more = record { below = omega (arith, same); stands = ap (λ (k : ℕ). is_at p ps k) same ∙ is }
      at true is (inr lower) more = up (more lower)
      at false is lower more = up (more lower)

  last_stands : (p : ParameterParts) (m n : ℕ) → last_below p ps m ≡ Some n → StandsBelow p m n
  unfolding last_below
  last_stands p zero n e = absurd cc
  last_stands p (suc m) n e = at (is_at p ps m) refl e (λ lower. last_stands p m n lower)
    where
      at : (b : Bool) → is_at p ps m ≡ b → (elim b [ true ↦ Some m | false ↦ last_below p ps m ]) ≡ Some n → (last_below p ps m ≡ Some n → StandsBelow p m n) → StandsBelow p (suc m) n
      at true is e more = let same = same_Some m n e in record { below = omega (arith, same); stands = ap (λ (k : ℕ). is_at p ps k) (sym same) ∙ is }
      at false is e more = let lower = more e in let less = lower.below in record { below = omega (arith, less); stands = lower.stands }

  pub last_among : (p : ParameterParts) (n : ℕ) → last_in ps p ≡ Some n → IsIn n (places_in ps p)
  last_among p n e = let s = last_stands p (length ps) n e in in_places p (length ps) n s.below s.stands

  -- the one before stands where the parameter does
  pub before_among : (p : ParameterParts) (m n : ℕ) → IsIn m (places_in ps p) → earlier_of ps m ≡ Some n → IsIn n (places_in ps p)
  before_among p m n here e =
      let s = stands_below p (length ps) m here in
      let before = last_stands p m n (sym (before_is p m s.stands) ∙ e) in
      let less = before.below in
      let within = s.below in
      in_places p (length ps) n (omega (arith, less, within)) before.stands

  module _ (Q : ℕ → Type 0) (p : ParameterParts) (goes : (m n : ℕ) → Q m → earlier_of ps m ≡ Some n → Q n) where
    -- what holds of the last one, and of the one before each, holds of all
    along : (m : ℕ) → ((n : ℕ) → last_below p ps m ≡ Some n → Q n) → (k : ℕ) → IsIn k (places_below p ps m) → Q k
    unfolding places_below last_below
    along zero first k here = absurd here
    along (suc m) first k here = at (is_at p ps m) refl first here (along m)
      where
        at : (b : Bool) → is_at p ps m ≡ b → ((n : ℕ) → (elim b [ true ↦ Some m | false ↦ last_below p ps m ]) ≡ Some n → Q n) → IsIn k (elim b [ true ↦ m ∷ places_below p ps m | false ↦ places_below p ps m ])
            → (((n : ℕ) → last_below p ps m ≡ Some n → Q n) → (k : ℕ) → IsIn k (places_below p ps m) → Q k) → Q k
        at true is first (inl same) more = subst Q (sym same) (first m refl)
        at true is first (inr lower) more = more (λ n e. goes m n (first m refl) (before_is p m is ∙ e)) k lower
        at false is first lower more = more first k lower

    pub along_all : ((n : ℕ) → last_in ps p ≡ Some n → Q n) → (k : ℕ) → IsIn k (places_in ps p) → Q k
    along_all first k here = along (length ps) first k here

-- ---- steps

module _ {A B : Type 0} (f : A → B) where
  pub in_map : (x : A) (xs : List A) → IsIn x xs → IsIn (f x) (map f xs)
  in_map x [] here = absurd here
  in_map x (y ∷ ys) (inl same) = inl (ap f same)
  in_map x (y ∷ ys) (inr there) = inr (in_map x ys there)

  pub from_map : (z : B) (xs : List A) → IsIn z (map f xs) → (x : A) × IsIn x xs × (z ≡ f x)
  from_map z [] here = absurd here
  from_map z (y ∷ ys) (inl same) = (y, inl refl, same)
  from_map z (y ∷ ys) (inr there) = let from = from_map z ys there in (from.0, inr from.1, from.2)

module _ {N L T : Type 0} (make : L → ℕ → N) (place : N → ℕ) (label : N → L) (ps : List (Option ParameterParts)) (up : N → Option T) (above : N → T → L) (parameter : T → ParameterParts) where
  -- one node, if there is a place
  abbrev pub one : L → Option ℕ → List N
  one l None = []
  one l (Some k) = make l k ∷ []

  in_one : (l : L) (o : Option ℕ) (k : ℕ) → o ≡ Some k → IsIn (make l k) (one l o)
  in_one l None k e = absurd cc
  in_one l (Some m) k e = inl (ap (make l) (sym (same_Some m k e)))

  from_one : (l : L) (o : Option ℕ) (x : N) → IsIn x (one l o) → (k : ℕ) × (o ≡ Some k) × (x ≡ make l k)
  from_one l None x here = absurd here
  from_one l (Some m) x (inl same) = (m, refl, same)
  from_one l (Some m) x (inr none) = absurd none

  -- the step to all, and the one to the next
  abbrev pub all_next : N → List N
  all_next x = elim (up x) [ None ↦ [] | Some t ↦ map (make (above x t)) (places_in ps (parameter t)) ]

  abbrev pub some_next : N → List N
  some_next x = one (label x) (earlier_of ps (place x)) ++ elim (up x) [ None ↦ [] | Some t ↦ one (above x t) (last_in ps (parameter t)) ]

  module _ (start first : List N) (place_is : (l : L) (k : ℕ) → place (make l k) ≡ k) (label_is : (l : L) (k : ℕ) → label (make l k) ≡ l)
      (first_among : (x : N) → IsIn x first → IsIn x start)
      (first_before : (x : N) (n : ℕ) → IsIn x start → earlier_of ps (place x) ≡ Some n → IsIn (make (label x) n) start) where
    -- with a node the one before it is found
    before_found : (x : N) (n : ℕ) → IsFound all_next start x → earlier_of ps (place x) ≡ Some n → IsFound all_next start (make (label x) n)
    unfolding steps_from
    before_found x n found e = by_steps found.steps found.there
      where
        of_all : (y : N) (o : Option T) → up y ≡ o → IsIn x (elim o [ None ↦ [] | Some t ↦ map (make (above y t)) (places_in ps (parameter t)) ])
            → IsIn (make (label x) n) (elim o [ None ↦ [] | Some t ↦ map (make (above y t)) (places_in ps (parameter t)) ])
        of_all y None is here = absurd here
        of_all y (Some t) is here =
            let from = from_map (make (above y t)) x (places_in ps (parameter t)) here in
            let at : place x ≡ from.0 = ap place from.2 ∙ place_is (above y t) from.0 in
            let alike : label x ≡ above y t = ap label from.2 ∙ label_is (above y t) from.0 in
            subst (λ (l : L). IsIn (make l n) (map (make (above y t)) (places_in ps (parameter t)))) (sym alike)
            (in_map (make (above y t)) n (places_in ps (parameter t)) (before_among ps (parameter t) from.0 n from.1 (ap (λ (k : ℕ). earlier_of ps k) (sym at) ∙ e)))

        by_steps : (k : ℕ) → IsIn x (steps_from all_next start k) → IsFound all_next start (make (label x) n)
        by_steps zero here = found_first all_next start (make (label x) n) (first_before x n here e)
        by_steps (suc k) here =
            let from = from_flat all_next x (steps_from all_next start k) here in
            found_next all_next start from.0 (make (label x) n) (record { steps = k; there = from.1 }) (of_all from.0 (up from.0) refl from.2)

    -- what is found by next ones is found
    pub sound : (x : N) → IsFound some_next first x → IsFound all_next start x
    unfolding steps_from
    sound x found = by_steps found.steps x found.there
      where
        of_up : (y x : N) → IsFound all_next start y → (o : Option T) → up y ≡ o → IsIn x (elim o [ None ↦ [] | Some t ↦ one (above y t) (last_in ps (parameter t)) ]) → IsFound all_next start x
        of_up y x found None is here = absurd here
        of_up y x found (Some t) is here =
            let from = from_one (above y t) (last_in ps (parameter t)) x here in
            found_next all_next start y x found
            (subst (λ (o : Option T). IsIn x (elim o [ None ↦ [] | Some t ↦ map (make (above y t)) (places_in ps (parameter t)) ])) (sym is)
            (subst (λ (z : N). IsIn z (map (make (above y t)) (places_in ps (parameter t)))) (sym from.2)
            (in_map (make (above y t)) from.0 (places_in ps (parameter t)) (last_among ps (parameter t) from.0 from.1))))

        by_steps : (k : ℕ) (x : N) → IsIn x (steps_from some_next first k) → IsFound all_next start x
        by_steps zero x here = found_first all_next start x (first_among x here)
        by_steps (suc k) x here =
            let from = from_flat some_next x (steps_from some_next first k) here in
            let before = by_steps k from.0 from.1 in
            elim (in_either x (one (label from.0) (earlier_of ps (place from.0))) (elim (up from.0) [ None ↦ [] | Some t ↦ one (above from.0 t) (last_in ps (parameter t)) ]) from.2) [
              | inl sibling ↦
                  let next = from_one (label from.0) (earlier_of ps (place from.0)) x sibling in
                  subst (λ (z : N). IsFound all_next start z) (sym next.2) (before_found from.0 next.0 before next.1)
              | inr higher ↦ of_up from.0 x before (up from.0) refl higher
            ]

    module _ (begins : (x : N) → IsIn x start → IsFound some_next first x) where
      -- from a node that is found the one before it is
      goes : (l : L) (m n : ℕ) → IsFound some_next first (make l m) → earlier_of ps m ≡ Some n → IsFound some_next first (make l n)
      goes l m n found e =
          found_next some_next first (make l m) (make l n) found
          (in_left (make l n) (one (label (make l m)) (earlier_of ps (place (make l m)))) (elim (up (make l m)) [ None ↦ [] | Some t ↦ one (above (make l m) t) (last_in ps (parameter t)) ])
          (subst (λ (k : L). IsIn (make l n) (one k (earlier_of ps (place (make l m))))) (sym (label_is l m))
          (in_one l (earlier_of ps (place (make l m))) n (ap (λ (k : ℕ). earlier_of ps k) (place_is l m) ∙ e))))

      -- what is found is found by next ones
      pub whole : (x : N) → IsFound all_next start x → IsFound some_next first x
      unfolding steps_from
      whole x found = by_steps found.steps x found.there
        where
          of_up : (y x : N) → IsFound some_next first y → (o : Option T) → up y ≡ o → IsIn x (elim o [ None ↦ [] | Some t ↦ map (make (above y t)) (places_in ps (parameter t)) ]) → IsFound some_next first x
          of_up y x found None is here = absurd here
          of_up y x found (Some t) is here =
              let l : L = above y t in
              let from = from_map (make (above y t)) x (places_in ps (parameter t)) here in
              subst (λ (z : N). IsFound some_next first z) (sym from.2)
              (along_all ps (λ k. IsFound some_next first (make l k)) (parameter t) (goes l)
              (λ n e. found_next some_next first y (make l n) found
              (in_right (make l n) (one (label y) (earlier_of ps (place y))) (elim (up y) [ None ↦ [] | Some t ↦ one (above y t) (last_in ps (parameter t)) ])
              (subst (λ (o : Option T). IsIn (make l n) (elim o [ None ↦ [] | Some t ↦ one (above y t) (last_in ps (parameter t)) ])) (sym is) (in_one l (last_in ps (parameter t)) n e))))
              from.0 from.1)

          by_steps : (k : ℕ) (x : N) → IsIn x (steps_from all_next start k) → IsFound some_next first x
          by_steps zero x here = begins x here
          by_steps (suc k) x here = let from = from_flat all_next x (steps_from all_next start k) here in of_up from.0 x (by_steps k from.0 from.1) (up from.0) refl from.2
