-- A policy of RPL has no fault, or one is the first.
use Rattle.std.proofs.Common.{◌≡◌, ◌⊎◌, inl, inr, refl, ℕ, Bool, true, false, ◌||◌, List, None, Some, Option}
use Rattle.std.specs.Prelude.{Decides, MatchOption}
use Rattle.std.specs.List.{list_any}
use Rattle.text_words.specs.declared.statement.Span.{Span}
use Rattle.text_words.specs.declared.rpl_blocks.BlockKind.{BlockKind}
use Rattle.text_words.specs.declared.rpl_blocks.BlockKind.TheVariants.{Policy, PrefixSet, CommunitySet, PathSet}
use Rattle.policy_text.specs.declared.fault.Cause.{Cause}
use Rattle.rpl_forms.specs.declared.item.RplItem.{RplItem}
use Rattle.step_search.specs.Found.{IsIn}
use Rattle.rpl_calls.specs.Asks.{asks_of}
use Rattle.rpl_calls.specs.Parameters.{ParameterParts}
use Rattle.rpl_calls.specs.declared.demand.Demand.{Demand}
use Rattle.rpl_calls.specs.declared.given.Fact.{Fact}
use Rattle.rpl_calls.specs.declared.given.Given.{Given}
use Rattle.rpl_facts.specs.Told.{kind_code}
use Rattle.rpl_reader.specs.Faults.{Fault}
use Rattle.rpl_reader.specs.Profile.{IsSound, IsFirstFault}
use Rattle.rpl_reader.specs.Facts.{facts_of}
use Rattle.rpl_reader.specs.Givens.{first_givens, IsGivenAs, MayBe}
use Rattle.rpl_reader.specs.Possible.{may_by}
use Rattle.rpl_reader.specs.Reach.{is_reached_policy, arguments_in, IsDemanded, is_named_by, IsGiven, IsReachedBlock}
use Rattle.rpl_reader.specs.Sets.{gives}
use Rattle.rpl_reader.proofs.FirstFound.{first_of_all, found_is}
use Rattle.rpl_reader.proofs.MayBe.{may_decided}
use Rattle.rpl_reader.proofs.Reached.{given_sound, given_whole}
use Rattle.policy_sources.proofs.DemandLists.{demands_listed, givens_listed}

or_left : (a b : Bool) → a ≡ true → (a || b) ≡ true
or_left a b e = λ j. e j || b

or_right : (a b : Bool) → b ≡ true → (a || b) ≡ true
or_right true b e = refl
or_right false b e = e

or_parts : (a b : Bool) → (a || b) ≡ true → (a ≡ true) ⊎ (b ≡ true)
or_parts true b e = inl refl
or_parts false b e = inr e

module _ (policy : List ℕ) (all : List RplItem) where
  abbrev asked : List Demand
  asked = (demands_listed (arguments_in all) (asks_of all)).list

  sound : (d : Demand) → IsIn d asked → IsDemanded all d
  sound d here = (demands_listed (arguments_in all) (asks_of all)).sound d here

  whole : (d : Demand) → IsDemanded all d → IsIn d asked
  whole d found = (demands_listed (arguments_in all) (asks_of all)).whole d found

  -- a set of this kind and name is handed to a policy that is reached
  abbrev is_given : BlockKind → List ℕ → Bool
  is_given kind q = list_any (gives (is_reached_policy policy all) (arguments_in all) q (kind_code kind) 0) asked

  -- a block is reached
  abbrev reached : BlockKind → List ℕ → Bool
  reached Policy q = is_reached_policy policy all q
  reached kind q = is_named_by policy all kind q || is_given kind q

  set_decided : (kind : BlockKind) (q : List ℕ) → Decides (is_named_by policy all kind q || is_given kind q) ((is_named_by policy all kind q ≡ true) ⊎ IsGiven policy all kind q)
  set_decided kind q = (forth, back)
    where
      forth : (is_named_by policy all kind q || is_given kind q) ≡ true → (is_named_by policy all kind q ≡ true) ⊎ IsGiven policy all kind q
      forth e = elim (or_parts (is_named_by policy all kind q) (is_given kind q) e) [
        | inl named ↦ inl named
        | inr given ↦ inr (given_sound policy all (is_reached_policy policy all) refl (arguments_in all) refl kind q asked sound given)
      ]

      back : (is_named_by policy all kind q ≡ true) ⊎ IsGiven policy all kind q → (is_named_by policy all kind q || is_given kind q) ≡ true
      back (inl named) = or_left (is_named_by policy all kind q) (is_given kind q) named
      back (inr given) =
          or_right (is_named_by policy all kind q) (is_given kind q) (given_whole policy all (is_reached_policy policy all) refl (arguments_in all) refl kind q asked whole given)

  decided : (kind : BlockKind) (q : List ℕ) → Decides (reached kind q) (IsReachedBlock policy all kind q)
  decided Policy q = (λ e. e, λ e. e)
  decided PrefixSet q = set_decided PrefixSet q
  decided CommunitySet q = set_decided CommunitySet q
  decided PathSet q = set_decided PathSet q

  -- what arguments may be
  abbrev given : List Given
  given = (givens_listed (arguments_in all) (first_givens (facts_of policy all) (is_reached_policy policy all) 0 (arguments_in all))).list

  may_sound : (g : Given) → IsIn g given → IsGivenAs policy all g
  may_sound g here = (givens_listed (arguments_in all) (first_givens (facts_of policy all) (is_reached_policy policy all) 0 (arguments_in all))).sound g here

  may_whole : (g : Given) → IsGivenAs policy all g → IsIn g given
  may_whole g found = (givens_listed (arguments_in all) (first_givens (facts_of policy all) (is_reached_policy policy all) 0 (arguments_in all))).whole g found

  -- what parameters may be
  abbrev may : ParameterParts → Fact → Bool
  may p fact = may_by (arguments_in all) given p fact

  may_is : (p : ParameterParts) (fact : Fact) → Decides (may p fact) (MayBe policy all p fact)
  may_is p fact = may_decided policy all given may_sound may_whole p fact

  -- there is no fault, or a first one
  pub first_or_none : IsSound policy all ⊎ ((span : Span) × (cause : Cause) × IsFirstFault policy all span cause)
  first_or_none = go (first_of_all policy all reached decided may may_is asked sound whole) (found_is policy all reached decided may may_is asked sound whole)
    where
      go : (o : Option Fault) → MatchOption o (IsSound policy all) (λ f. IsFirstFault policy all f.0 f.1) → IsSound policy all ⊎ ((span : Span) × (cause : Cause) × IsFirstFault policy all span cause)
      go None is = inl is
      go (Some f) is = inr (f.0, f.1, is)
