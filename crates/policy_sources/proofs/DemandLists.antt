-- Arguments are asked finitely much, and may be finitely much: what is handed on is asked for at a place of some policy's
-- parameters, what two bounds ask of a number is a bound up to 32, and what an argument may be stays the same.
use Rattle.std.proofs.Common.{◌≡◌, ◌⊎◌, inl, inr, refl, sym, ap, subst, ◌∙◌, ℕ, zero, suc, ◌<◌, ◌≤◌, Bool, true, false, List, [], ◌∷◌, ◌++◌, length, Option, Some, None, slice_get, arith}
use Rattle.std.specs.Prelude.{IfSome, map}
use Rattle.std.specs.List.{flat_map}
use Rattle.std.proofs.lemmas.Option.{same_Some, slice_get_within}
use Rattle.route_types.specs.Words.{◌>>=◌, number_in}
use Rattle.route_types.proofs.Numbers.{number_in_within}
use Rattle.step_search.specs.Found.{IsIn}
use Rattle.step_search.proofs.Closed.{in_left, in_right, in_either, in_at, in_flat, from_flat}
use Rattle.rpl_forms.specs.declared.item.Argument.{Argument}
use Rattle.rpl_forms.specs.declared.item.Argument.TheVariants.{Written, Parameter as GivenArgument}
use Rattle.rpl_calls.specs.Asks.{OwnAsk}
use Rattle.rpl_calls.specs.Parameters.{ParameterParts, is_at, places_below}
use Rattle.rpl_calls.specs.Arguments.{ArgumentParts, word_at, own_of, own_at, target, source, handed_to, handing_on}
use Rattle.rpl_calls.specs.Demands.{bound_up, question_up, ask_up, asked_of, of_arguments, asked_above, next_demands, first_demands}
use Rattle.rpl_calls.specs.Givens.{next_givens}
use Rattle.rpl_calls.specs.declared.ask.Question.{Question}
use Rattle.rpl_calls.specs.declared.ask.Question.TheVariants.{Number, Set, NotBelow}
use Rattle.rpl_calls.specs.declared.demand.Demand.{Demand}
use Rattle.rpl_calls.specs.declared.given.Fact.{Fact}
use Rattle.rpl_calls.specs.declared.given.Given.{Given}
use Rattle.rpl_calls.proofs.Linked.{in_map, from_map}
use Rattle.policy_sources.proofs.FoundLists.{IsListed, listed}

-- ---- lists

-- the numbers below
abbrev below : ℕ → List ℕ
below zero = []
below (suc n) = n ∷ below n

in_below : (k n : ℕ) → k < n → IsIn k (below n)
in_below k zero less = absurd (omega (arith, less))
in_below k (suc n) less = elim (split less) [ inl same ↦ inl same | inr lower ↦ inr (in_below k n lower) ]
  where
    split : k < suc n → (k ≡ n) ⊎ (k < n)
    split less = grind arith

-- the values that are there
abbrev there_in : Option ℕ → List ℕ
there_in None = []
there_in (Some n) = n ∷ []

-- the places of a parameter are below
named_below : (p : ParameterParts) (ps : List (Option ParameterParts)) (n k : ℕ) → IsIn k (places_below p ps n) → IsIn k (below n)
unfolding places_below
named_below p ps zero k here = absurd here
named_below p ps (suc n) k here = go (is_at p ps n) here (λ lower. named_below p ps n k lower)
  where
    go : (t : Bool) → IsIn k (elim t [ true ↦ n ∷ places_below p ps n | false ↦ places_below p ps n ]) → (IsIn k (places_below p ps n) → IsIn k (below n)) → IsIn k (n ∷ below n)
    go true (inl same) more = inl same
    go true (inr lower) more = inr (more lower)
    go false lower more = inr (more lower)

as_many : {A B : Type 0} (f : A → B) (xs : List A) → length (map f xs) ≡ length xs
as_many f [] = refl
as_many f (x ∷ xs) = ap suc (as_many f xs)

module _ (args : List ArgumentParts) where
  -- the places of arguments
  abbrev places : List ℕ
  places = below (length args)

  in_places : (p : ParameterParts) (f : ArgumentParts → Option ParameterParts) (k : ℕ) → IsIn k (places_below p (map f args) (length (map f args))) → IsIn k places
  in_places p f k here = subst (λ (n : ℕ). IsIn k (below n)) (as_many f args) (named_below p (map f args) (length (map f args)) k here)

  -- ---- what arguments are asked

  module _ (asks : List OwnAsk) where
    -- the places of what is handed on
    abbrev handed : List ℕ
    handed = flat_map (λ a. flat_map there_in a.call.own) args

    -- what is asked where a bound is handed on, or known
    abbrev bounds : List Question
    bounds = map NotBelow handed ++ map (λ n. Number (record { least = n; most = 32 })) (below 33)

    abbrev all_questions : List Question
    all_questions = map (λ o. o.ask.question) asks ++ bounds

    abbrev all_demands : List Demand
    all_demands = flat_map (λ q. map (λ k. record { argument = k; question = q }) places) all_questions

    in_demands : (k : ℕ) (q : Question) → IsIn k places → IsIn q all_questions → IsIn (record { argument = k; question = q }) all_demands
    in_demands k q at asked =
        in_flat (λ q. map (λ k. record { argument = k; question = q }) places) q (record { argument = k; question = q }) all_questions asked (in_map (λ (n : ℕ). record { argument = n; question = q }) k places at)

    of_parameter : (o : OwnAsk) (d : Demand) → IsIn o.ask.question all_questions → IsIn d (of_arguments args o) → IsIn d all_demands
    of_parameter o d asked here =
        let from = from_map (λ (n : ℕ). record { argument = n; question = o.ask.question }) d (handed_to args (asked_of o)) here in
        subst (λ (x : Demand). IsIn x all_demands) (sym from.2) (in_demands from.0 o.ask.question (in_places (asked_of o) (λ a. Some (target a)) from.0 from.1) asked)

    starts : (d : Demand) → IsIn d (first_demands args asks) → IsIn d all_demands
    starts d here =
        let from = from_flat (of_arguments args) d asks here in
        of_parameter from.0 d (in_left from.0.ask.question (map (λ (o : OwnAsk). o.ask.question) asks) bounds (in_map (λ (o : OwnAsk). o.ask.question) from.0 asks from.1)) from.2

    handed_at : (k : ℕ) (a : ArgumentParts) (n m : ℕ) → slice_get args k ≡ Some a → own_at a.call n ≡ Some m → IsIn m handed
    handed_at k a n m at own = go (slice_get a.call.apply.arguments n) (slice_get a.call.own n) refl own
      where
        go : (x : Option Argument) (o : Option (Option ℕ)) → slice_get a.call.own n ≡ o → own_of x o ≡ Some m → IsIn m handed
        go None o is e = absurd cc
        go (Some (Written w)) o is e = absurd cc
        go (Some (GivenArgument x)) None is e = absurd cc
        go (Some (GivenArgument x)) (Some None) is e = absurd cc
        go (Some (GivenArgument x)) (Some (Some p)) is e =
            let same : m ≡ p = sym (same_Some p m e) in
            in_flat (λ (b : ArgumentParts). flat_map there_in b.call.own) a m args (in_at a args k at) (in_flat there_in (Some p) m a.call.own (in_at (Some p) a.call.own n is) (inl same))

    bound_within : (k n : ℕ) (a : ArgumentParts) (new : Question) → slice_get args k ≡ Some a → bound_up (word_at a.call n) (own_at a.call n) ≡ Some new → IsIn new bounds
    bound_within k n a new at up = by_word (word_at a.call n) up
      where
        by_number : (o : Option ℕ) → IfSome o (λ n. n ≤ 32) → (o >>= λ n. Some (Number (record { least = n; most = 32 }))) ≡ Some new → IsIn new bounds
        by_number None within e = absurd cc
        by_number (Some v) within e =
            let same : new ≡ Number (record { least = v; most = 32 }) = sym (same_Some (Number (record { least = v; most = 32 })) new e) in
            in_right new (map NotBelow handed) (map (λ n. Number (record { least = n; most = 32 })) (below 33))
            (subst (λ (q : Question). IsIn q (map (λ n. Number (record { least = n; most = 32 })) (below 33))) (sym same)
            (in_map (λ (n : ℕ). Number (record { least = n; most = 32 })) v (below 33) (in_below v 33 (omega (arith, within)))))

        by_own : (o : Option ℕ) → own_at a.call n ≡ o → (o >>= λ m. Some (NotBelow m)) ≡ Some new → IsIn new bounds
        by_own None is e = absurd cc
        by_own (Some m) is e =
            let same : new ≡ NotBelow m = sym (same_Some (NotBelow m) new e) in
            in_left new (map NotBelow handed) (map (λ n. Number (record { least = n; most = 32 })) (below 33))
            (subst (λ (q : Question). IsIn q (map NotBelow handed)) (sym same) (in_map NotBelow m handed (handed_at k a n m at is)))

        by_word : (o : Option (List ℕ)) → bound_up o (own_at a.call n) ≡ Some new → IsIn new bounds
        by_word (Some word) e = by_number (number_in 32 word) (number_in_within 32 word) e
        by_word None e = by_own (own_at a.call n) refl e

    -- what is asked higher up is asked already, or one of those that may be
    question_within : (k : ℕ) (a : ArgumentParts) (old new : Question) → slice_get args k ≡ Some a → IsIn old all_questions → question_up a.call old ≡ Some new → IsIn new all_questions
    question_within k a (Number r) new at here up = subst (λ (q : Question). IsIn q all_questions) (same_Some (Number r) new up) here
    question_within k a (Set sort) new at here up = subst (λ (q : Question). IsIn q all_questions) (same_Some (Set sort) new up) here
    question_within k a (NotBelow n) new at here up = in_right new (map (λ (o : OwnAsk). o.ask.question) asks) bounds (bound_within k n a new at up)

    ask_within : (k : ℕ) (a : ArgumentParts) (old : Question) (o : OwnAsk) → slice_get args k ≡ Some a → IsIn old all_questions → ask_up a old ≡ Some o → IsIn o.ask.question all_questions
    ask_within k a old o at here up = by_place (own_at a.call a.place) up
      where
        by_question : (place : ℕ) (q : Option Question) → question_up a.call old ≡ q → (q >>= λ next. Some (record { policy = a.call.caller; ask = record { place = place; question = next } })) ≡ Some o → IsIn o.ask.question all_questions
        by_question place None is e = absurd cc
        by_question place (Some next) is e =
            subst (λ (x : OwnAsk). IsIn x.ask.question all_questions) (same_Some (record { policy = a.call.caller; ask = record { place = place; question = next } }) o e) (question_within k a old next at here is)

        by_place : (p : Option ℕ) → (p >>= λ place. question_up a.call old >>= λ next. Some (record { policy = a.call.caller; ask = record { place = place; question = next } })) ≡ Some o → IsIn o.ask.question all_questions
        by_place None e = absurd cc
        by_place (Some place) e = by_question place (question_up a.call old) refl e

    stays : (d e : Demand) → IsIn d all_demands → IsIn e (next_demands args d) → IsIn e all_demands
    stays d e here next = by_argument (slice_get args d.argument) refl next
      where
        -- the question is one that may be asked
        asked : IsIn d.question all_questions
        asked =
            let from = from_flat (λ (q : Question). map (λ k. record { argument = k; question = q }) places) d all_questions here in
            let at = from_map (λ (n : ℕ). record { argument = n; question = from.0 }) d places from.2 in
            subst (λ (q : Question). IsIn q all_questions) (sym (ap (λ (x : Demand). x.question) at.2)) from.1

        by_ask : (a : ArgumentParts) → slice_get args d.argument ≡ Some a → (o : Option OwnAsk) → ask_up a d.question ≡ o → IsIn e (elim o [ None ↦ [] | Some o ↦ of_arguments args o ]) → IsIn e all_demands
        by_ask a at None up there = absurd there
        by_ask a at (Some o) up there = of_parameter o e (ask_within d.argument a d.question o at asked up) there

        by_argument : (o : Option ArgumentParts) → slice_get args d.argument ≡ o → IsIn e (elim (o >>= λ a. ask_up a d.question) [ None ↦ [] | Some o ↦ of_arguments args o ]) → IsIn e all_demands
        by_argument None at there = absurd there
        by_argument (Some a) at there = by_ask a at (ask_up a d.question) refl there

    -- just what arguments are asked is in a list
    pub demands_listed : IsListed (next_demands args) (first_demands args asks)
    demands_listed = listed (next_demands args) (first_demands args asks) all_demands starts stays

  -- ---- what arguments may be

  module _ (start : List Given) where
    abbrev all_givens : List Given
    all_givens = start ++ flat_map (λ (g : Given). map (λ k. record { argument = k; fact = g.fact }) places) start

    -- what an argument may be is what one of the start is
    fact_in : (g : Given) → IsIn g all_givens → (h : Given) × IsIn h start × (g.fact ≡ h.fact)
    fact_in g here = elim (in_either g start (flat_map (λ (g : Given). map (λ k. record { argument = k; fact = g.fact }) places) start) here) [
      | inl first ↦ (g, first, refl)
      | inr later ↦
          let from = from_flat (λ (g : Given). map (λ k. record { argument = k; fact = g.fact }) places) g start later in
          let at = from_map (λ (n : ℕ). record { argument = n; fact = from.0.fact }) g places from.2 in
          (from.0, from.1, ap (λ (x : Given). x.fact) at.2)
    ]

    given_stays : (g e : Given) → IsIn g all_givens → IsIn e (next_givens args g) → IsIn e all_givens
    given_stays g e here next = by_argument (slice_get args g.argument) next
      where
        by_argument : (o : Option ArgumentParts) → IsIn e (elim o [ None ↦ [] | Some a ↦ map (λ k. record { argument = k; fact = g.fact }) (handing_on args (target a)) ]) → IsIn e all_givens
        by_argument None there = absurd there
        by_argument (Some a) there =
            let from = from_map (λ (n : ℕ). record { argument = n; fact = g.fact }) e (handing_on args (target a)) there in
            let first = fact_in g here in
            in_right e start (flat_map (λ (g : Given). map (λ k. record { argument = k; fact = g.fact }) places) start)
            (subst (λ (x : Given). IsIn x (flat_map (λ (g : Given). map (λ k. record { argument = k; fact = g.fact }) places) start))
            (sym (from.2 ∙ ap (λ (f : Fact). record { argument = from.0; fact = f }) first.2))
            (in_flat (λ (g : Given). map (λ k. record { argument = k; fact = g.fact }) places) first.0 (record { argument = from.0; fact = first.0.fact }) start first.1
            (in_map (λ (n : ℕ). record { argument = n; fact = first.0.fact }) from.0 places (in_places (target a) source from.0 from.1))))

    -- just what arguments may be is in a list
    pub givens_listed : IsListed (next_givens args) start
    givens_listed = listed (next_givens args) start all_givens (λ g here. in_left g start (flat_map (λ (g : Given). map (λ k. record { argument = k; fact = g.fact }) places) start) here) given_stays
