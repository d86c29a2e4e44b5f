-- What is written hands nothing on.
use Rattle.std.proofs.Common.{◌≡◌, refl, sym, ap, ◌∙◌, subst, ℕ, zero, suc, ◌+◌, ◌-◌, ◌≤◌, ◌⊎◌, inl, inr, Bool, true, false, List, [], ◌∷◌, ◌++◌, Option, Some, None, slice_get, arith}
use Rattle.std.specs.Prelude.{map, option_map}
use Rattle.std.proofs.lemmas.Option.{same_Some}
use Rattle.step_search.specs.Found.{IsIn}
use Rattle.step_search.proofs.Closed.{in_either}
use Rattle.rpl_forms.specs.declared.item.Argument.{Argument}
use Rattle.rpl_forms.specs.declared.item.Argument.TheVariants.{Written, Parameter as GivenArgument}
use Rattle.rpl_calls.specs.Arguments.{ArgumentParts, word_of, own_of, source, written}
use Rattle.rpl_calls.specs.Givens.{HandsNoneOn}
use Rattle.rpl_calls.specs.declared.given.Fact.{Fact}
use Rattle.rpl_calls.specs.declared.given.Given.{Given}
use Rattle.rpl_calls.proofs.Linked.{from_map}
use Rattle.rpl_reader.specs.Facts.{Facts}
use Rattle.rpl_reader.specs.Givens.{written_facts, argument_facts, first_givens}

none_of : (a : ArgumentParts) (o : Option Argument) (word : List ℕ) → slice_get a.call.apply.arguments a.place ≡ o → word_of o ≡ Some word → source a ≡ None
none_of a None word is e = absurd cc
none_of a (Some (GivenArgument x)) word is e = absurd cc
none_of a (Some (Written w)) word is e = ap (λ (o : Option Argument). option_map (λ m. record { policy = a.call.caller; place = m }) (own_of o (slice_get a.call.own a.place))) is

module _ (facts : Facts) (reached : List ℕ → Bool) where
  of_word : (a : ArgumentParts) (f : Fact) (o : Option (List ℕ)) → written a ≡ o → IsIn f (written_facts facts o) → source a ≡ None
  of_word a f None is here = absurd here
  of_word a f (Some word) is here = none_of a (slice_get a.call.apply.arguments a.place) word refl is

  of_facts : (a : ArgumentParts) (f : Fact) (b : Bool) → IsIn f (elim b [ true ↦ written_facts facts (written a) | false ↦ [] ]) → source a ≡ None
  of_facts a f false here = absurd here
  of_facts a f true here = of_word a f (written a) refl here

  -- it is of an argument that hands nothing on
  record StandsAt (k : ℕ) (args : List ArgumentParts) (g : Given) : Type 0 where
    place : ℕ
    argument : ArgumentParts
    at : g.argument ≡ k + place
    there : slice_get args place ≡ Some argument
    none : source argument ≡ None

  in_givens : (k : ℕ) (args : List ArgumentParts) (g : Given) → IsIn g (first_givens facts reached k args) → StandsAt k args g
  unfolding first_givens
  in_givens k [] g here = absurd here
  in_givens k (a ∷ more) g here = elim (in_either g (map (λ f. record { argument = k; fact = f }) (argument_facts facts reached a)) (first_givens facts reached (k + 1) more) here) [
    | inl first ↦
        let from = from_map (λ (f : Fact). record { argument = k; fact = f }) g (argument_facts facts reached a) first in
        record { place = 0; argument = a; at = ap (λ (x : Given). x.argument) from.2 ∙ none_more k; there = refl; none = of_facts a from.0 (reached a.call.caller) from.1 }
    | inr later ↦
        let rest = in_givens (k + 1) more g later in
        let at = rest.at in
        record { place = suc rest.place; argument = rest.argument; at = omega (arith, at); there = rest.there; none = rest.none }
  ]
    where
      none_more : (n : ℕ) → n ≡ n + 0
      none_more n = omega arith

  pub hand_none_on : (args : List ArgumentParts) → HandsNoneOn args (first_givens facts reached 0 args)
  hand_none_on args g here a at =
      let from = in_givens 0 args g here in
      let stands = from.at in
      let place : g.argument ≡ from.place = omega (arith, stands) in
      let same : from.argument ≡ a = same_Some from.argument a (sym from.there ∙ ap (λ (n : ℕ). slice_get args n) (sym place) ∙ at) in
      ap source (sym same) ∙ from.none
