-- What the code finds by its steps is what arguments are asked, and what they may be.
use Rattle.std.proofs.Common.{◌≡◌, refl, sym, ap, ◌∙◌, subst, ℕ, zero, suc, inl, inr, List, [], ◌∷◌, Option, Some, None, slice_get}
use Rattle.std.specs.Prelude.{map}
use Rattle.step_search.specs.Found.{IsIn, IsFound}
use Rattle.step_search.proofs.Closed.{in_flat, from_flat, found_first, found_next, in_left}
use Rattle.rpl_calls.specs.Asks.{OwnAsk}
use Rattle.rpl_calls.specs.Parameters.{ParameterParts, places_in, last_in, last_of, earlier_of}
use Rattle.rpl_calls.specs.Arguments.{ArgumentParts, target, source, targets, sources}
use Rattle.rpl_calls.specs.Demands.{asked_of, of_arguments, asked_above, next_demands, first_demands}
use Rattle.rpl_calls.specs.Givens.{next_givens, HandsNoneOn}
use Rattle.rpl_calls.specs.Linked.{asked_at, last_asked, linked_demands, starting_demands, linked_givens}
use Rattle.rpl_calls.specs.declared.ask.Question.{Question}
use Rattle.rpl_calls.specs.declared.demand.Demand.{Demand}
use Rattle.rpl_calls.specs.declared.given.Fact.{Fact}
use Rattle.rpl_calls.specs.declared.given.Given.{Given}
use Rattle.rpl_calls.proofs.Linked.{last_among, before_among, along_all, in_map, from_map, sound, whole}

-- ---- demands

module _ (args : List ArgumentParts) (asks : List OwnAsk) where
  abbrev demand : Question → ℕ → Demand
  demand question k = record { argument = k; question = question }

  one_asked : (question : Question) (o : Option ℕ) (d : Demand) → IsIn d (asked_at question o) → (k : ℕ) × (o ≡ Some k) × (d ≡ demand question k)
  one_asked question None d here = absurd here
  one_asked question (Some k) d (inl same) = (k, refl, same)
  one_asked question (Some k) d (inr none) = absurd none

  in_asked : (question : Question) (o : Option ℕ) (k : ℕ) → o ≡ Some k → IsIn (demand question k) (asked_at question o)
  in_asked question None k e = absurd cc
  in_asked question (Some m) k e = inl (ap (λ (o : Option ℕ). elim o [ None ↦ demand question k | Some n ↦ demand question n ]) (sym e))

  first_among : (d : Demand) → IsIn d (starting_demands args asks) → IsIn d (first_demands args asks)
  first_among d here =
      let from = from_flat (last_asked args) d asks here in
      let at = one_asked from.0.ask.question (last_in (targets args) (asked_of from.0)) d from.2 in
      in_flat (of_arguments args) from.0 d asks from.1
      (subst (λ (x : Demand). IsIn x (of_arguments args from.0)) (sym at.2) (in_map (demand from.0.ask.question) at.0 (places_in (targets args) (asked_of from.0)) (last_among (targets args) (asked_of from.0) at.0 at.1)))

  first_before : (d : Demand) (n : ℕ) → IsIn d (first_demands args asks) → earlier_of (targets args) d.argument ≡ Some n → IsIn (demand d.question n) (first_demands args asks)
  first_before d n here e =
      let from = from_flat (of_arguments args) d asks here in
      let at = from_map (demand from.0.ask.question) d (places_in (targets args) (asked_of from.0)) from.2 in
      in_flat (of_arguments args) from.0 (demand d.question n) asks from.1
      (subst (λ (q : Question). IsIn (demand q n) (of_arguments args from.0)) (sym (ap (λ (x : Demand). x.question) at.2))
      (in_map (demand from.0.ask.question) n (places_in (targets args) (asked_of from.0))
      (before_among (targets args) (asked_of from.0) at.0 n at.1 (ap (λ (k : ℕ). earlier_of (targets args) k) (sym (ap (λ (x : Demand). x.argument) at.2)) ∙ e))))

  begins : (d : Demand) → IsIn d (first_demands args asks) → IsFound (linked_demands args) (starting_demands args asks) d
  begins d here =
      let from = from_flat (of_arguments args) d asks here in
      let question : Question = from.0.ask.question in
      let at = from_map (demand question) d (places_in (targets args) (asked_of from.0)) from.2 in
      subst (λ (x : Demand). IsFound (linked_demands args) (starting_demands args asks) x) (sym at.2)
      (along_all (targets args) (λ k. IsFound (linked_demands args) (starting_demands args asks) (demand question k)) (asked_of from.0)
      (λ m n found e. found_next (linked_demands args) (starting_demands args asks) (demand question m) (demand question n) found
      (in_left (demand question n) (asked_at question (earlier_of (targets args) m)) (elim (asked_above args (demand question m)) [ None ↦ [] | Some o ↦ last_asked args o ]) (in_asked question (earlier_of (targets args) m) n e)))
      (λ n e. found_first (linked_demands args) (starting_demands args asks) (demand question n) (in_flat (last_asked args) from.0 (demand question n) asks from.1 (in_asked question (last_in (targets args) (asked_of from.0)) n e)))
      at.0 at.1)

  pub demands_sound : (d : Demand) → IsFound (linked_demands args) (starting_demands args asks) d → IsFound (next_demands args) (first_demands args asks) d
  demands_sound d found =
      sound demand (λ x. x.argument) (λ x. x.question) (targets args) (asked_above args) (λ x o. o.ask.question) asked_of (first_demands args asks) (starting_demands args asks) (λ l k. refl) (λ l k. refl) first_among first_before d found

  pub demands_whole : (d : Demand) → IsFound (next_demands args) (first_demands args asks) d → IsFound (linked_demands args) (starting_demands args asks) d
  demands_whole d found =
      whole demand (λ x. x.argument) (λ x. x.question) (targets args) (asked_above args) (λ x o. o.ask.question) asked_of (first_demands args asks) (starting_demands args asks) (λ l k. refl) (λ l k. refl) first_among first_before begins d found

-- ---- what arguments may be

module _ (args : List ArgumentParts) (start : List Given) (none : HandsNoneOn args start) where
  abbrev given : Fact → ℕ → Given
  given fact k = record { argument = k; fact = fact }

  source_of : (n : ℕ) (xs : List ArgumentParts) → slice_get (map source xs) n ≡ elim (slice_get xs n) [ None ↦ None | Some a ↦ Some (source a) ]
  source_of n [] = refl
  source_of zero (x ∷ xs) = refl
  source_of (suc n) (x ∷ xs) = source_of n xs

  -- before what hands nothing on there is none that hands the same on
  none_before : (g : Given) (n : ℕ) → IsIn g start → earlier_of (sources args) g.argument ≡ Some n → IsIn (given g.fact n) start
  none_before g n here e = absurd (at (slice_get args g.argument) refl)
    where
      at : (o : Option ArgumentParts) → slice_get args g.argument ≡ o → ⊥
      at None is = wrong (sym (ap (λ (p : Option (Option ParameterParts)). elim p [ None ↦ None | Some r ↦ last_of r (sources args) g.argument ]) (source_of g.argument args ∙ ap (λ (o : Option ArgumentParts). elim o [ None ↦ None | Some a ↦ Some (source a) ]) is)) ∙ e)
        where
          wrong : None ≡ Some n → ⊥
          wrong e = absurd cc
      at (Some a) is = wrong (sym (ap (λ (p : Option (Option ParameterParts)). elim p [ None ↦ None | Some r ↦ last_of r (sources args) g.argument ])
          (source_of g.argument args ∙ ap (λ (o : Option ArgumentParts). elim o [ None ↦ None | Some a ↦ Some (source a) ]) is ∙ ap (λ (p : Option ParameterParts). Some p) (none g here a is))) ∙ e)
        where
          wrong : None ≡ Some n → ⊥
          wrong e = absurd cc

  pub givens_sound : (g : Given) → IsFound (linked_givens args) start g → IsFound (next_givens args) start g
  givens_sound g found =
      sound given (λ x. x.argument) (λ x. x.fact) (sources args) (λ x. slice_get args x.argument) (λ x a. x.fact) target start start (λ l k. refl) (λ l k. refl) (λ x here. here) none_before g found

  pub givens_whole : (g : Given) → IsFound (next_givens args) start g → IsFound (linked_givens args) start g
  givens_whole g found =
      whole given (λ x. x.argument) (λ x. x.fact) (sources args) (λ x. slice_get args x.argument) (λ x a. x.fact) target start start (λ l k. refl) (λ l k. refl) (λ x here. here) none_before (λ x here. found_first (linked_givens args) start x here) g found
