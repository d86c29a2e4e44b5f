-- The fault that is found is the first one, and where none is found there is none.
use Rattle.std.proofs.Common.{◌≡◌, refl, sym, ap, ◌∙◌, subst, ℕ, Bool, true, false, inl, inr, List, [], ◌∷◌, Option, Some, None, arith}
use Rattle.std.specs.Prelude.{Decides, MatchOption, option_map}
use Rattle.step_search.specs.Found.{IsIn, IsFound}
use Rattle.rpl_calls.specs.Givens.{next_givens}
use Rattle.text_words.specs.declared.statement.Span.{Span}
use Rattle.text_words.specs.declared.rpl_blocks.BlockKind.{BlockKind}
use Rattle.policy_text.specs.Causes.{Place, first_cause}
use Rattle.policy_text.proofs.FirstFaults.{first_holds}
use Rattle.policy_text.specs.declared.fault.Cause.{Cause}
use Rattle.policy_text.specs.declared.fault.Cause.TheVariants.{UnknownForm, DefinedTwice, SequenceTwice, Undefined, SameKindTwice, BackwardContinue, DenyContinue, UnsettledTest, ExactExpanded, NotPlain, MixedPrefixTests, SamePrefixTwice, PathTestAfterPrepend, SubroutineChanges, NextPolicyInSubroutine, Cycle, TooDeep, ArgumentCount, BadArgument}
use Rattle.rpl_forms.specs.declared.item.RplItem.{RplItem}
use Rattle.rpl_calls.specs.Parameters.{ParameterParts}
use Rattle.rpl_calls.specs.Arguments.{ArgumentParts}
use Rattle.rpl_calls.specs.Settings.{Setting, settings_of}
use Rattle.rpl_calls.specs.declared.demand.Demand.{Demand}
use Rattle.rpl_calls.specs.declared.given.Fact.{Fact}
use Rattle.rpl_calls.specs.declared.given.Given.{Given}
use Rattle.rpl_reader.specs.Facts.{Facts, facts_of, before_of, nothing_before}
use Rattle.rpl_reader.specs.Causes.{has_cause}
use Rattle.rpl_reader.specs.Reach.{is_reached_policy, arguments_in, IsDemanded, IsReachedBlock}
use Rattle.rpl_reader.specs.Givens.{first_givens, IsGivenAs, MayBe}
use Rattle.rpl_reader.specs.Profile.{ComesFirst, HasItemFault, HasGivenFault, HasFault, IsSound, IsFirstFault}
use Rattle.rpl_reader.specs.Known.{known_facts, known_policy, known_block, IsKnown}
use Rattle.rpl_reader.specs.Possible.{known_may, may_by, Finds}
use Rattle.rpl_reader.specs.declared.known.Known.{Known}
use Rattle.rpl_reader.specs.declared.possible.Possible.{Possible}
use Rattle.rpl_reader.specs.Faults.{Fault, is_open_reached, item_fault, earliest_item, given_fault, setting_fault, earliest_of}
use Rattle.rpl_reader.proofs.Earlier.{Keeps, IsAhead}
use Rattle.rpl_reader.proofs.CauseOrder.{first_up}
use Rattle.rpl_reader.proofs.Reached.{open_decided}
use Rattle.rpl_reader.proofs.Folds.{each_keeps, each_after, each_ahead, fault_behind, items_keep, items_after, items_ahead}
use Rattle.rpl_reader.proofs.ArgumentFaults.{Has, fault_of, argument_keeps, bad_found, setting_keeps, wide_found}
use Rattle.rpl_reader.proofs.MayBe.{may_decided, kept_may}

module _ (policy : List ℕ) (all : List RplItem) (reached : BlockKind → List ℕ → Bool) (decided : (kind : BlockKind) (q : List ℕ) → Decides (reached kind q) (IsReachedBlock policy all kind q))
    (may : ParameterParts → Fact → Bool) (may_is : (p : ParameterParts) (fact : Fact) → Decides (may p fact) (MayBe policy all p fact)) where
  abbrev facts : Facts
  facts = facts_of policy all

  -- a statement has this fault
  abbrev Fine : Fault → Type 0
  Fine f = Has policy all may may_is f

  abbrev causes_at : Place all → Cause → Bool
  causes_at p cause = has_cause policy facts (before_of p.before) p.item.form cause

  abbrev fault_at : Place all → Option Fault
  fault_at p = fault_behind policy facts reached p.before p.item

  -- ---- items

  item_keeps : (p : Place all) → Keeps Fine (fault_at p)
  item_keeps p = when_reached (is_open_reached reached (p.item ∷ p.before)) refl
    where
      by_cause : (o : Option Cause) → is_open_reached reached (p.item ∷ p.before) ≡ true → first_cause (causes_at p) ≡ o → Keeps Fine (option_map (λ c. (p.item.span, c)) o)
      by_cause None is first = tt
      by_cause (Some cause) is first =
          inl (record { place = p; reached = (open_decided policy all reached decided (p.item ∷ p.before)).0 is; has = first_holds (causes_at p) cause first; span_is = refl })

      when_reached : (b : Bool) → is_open_reached reached (p.item ∷ p.before) ≡ b → Keeps Fine (item_fault policy facts (before_of p.before) b p.item)
      when_reached false is = tt
      when_reached true is = by_cause (first_cause (causes_at p)) is refl

  item_ahead : (span : Span) (cause : Cause) (h : HasItemFault policy all span cause) → IsAhead (fault_at h.place) (span, cause)
  item_ahead span cause h =
      let up = first_up (causes_at h.place) cause h.has in
      let is : is_open_reached reached (h.place.item ∷ h.place.before) ≡ true = (open_decided policy all reached decided (h.place.item ∷ h.place.before)).1 h.reached in
      let found : fault_at h.place ≡ Some (h.place.item.span, up.0) =
      ap (λ (b : Bool). item_fault policy facts (before_of h.place.before) b h.place.item) is ∙ ap (λ (o : Option Cause). option_map (λ (c : Cause). (h.place.item.span, c)) o) up.1 in
      subst (λ (o : Option Fault). IsAhead o (span, cause)) (sym found) (inr (sym (ap (λ (s : Span). s.start) h.span_is), up.2))

  -- ---- all faults

  module _ (ds : List Demand) (sound : (d : Demand) → IsIn d ds → IsDemanded all d) (whole : (d : Demand) → IsDemanded all d → IsIn d ds) where
    abbrev by_arguments : Option Fault
    by_arguments = earliest_of (fault_of policy all may may_is) None ds

    abbrev by_settings : Option Fault
    by_settings = earliest_of (setting_fault may) by_arguments (settings_of all)

    abbrev pub first_of_all : Option Fault
    first_of_all = earliest_item policy facts reached by_settings nothing_before false all

    all_keeps : Keeps Fine first_of_all
    all_keeps = items_keep policy facts reached Fine all item_keeps by_settings [] all refl
        (each_keeps (setting_fault may) Fine by_arguments (settings_of all)
        (each_keeps (fault_of policy all may may_is) Fine None ds tt (λ d there. argument_keeps policy all may may_is d (sound d there)))
        (setting_keeps policy all may may_is))

    same_place : (span : Span) (cause : Cause) → ComesFirst span cause span cause
    same_place span cause = inr (refl, omega arith)

    by_demand : (span : Span) (cause : Cause) (d : Demand) → IsDemanded all d → fault_of policy all may may_is d ≡ Some (span, cause) → IsAhead first_of_all (span, cause)
    by_demand span cause d demanded found =
        items_after policy facts reached (span, cause) by_settings [] all
        (each_after (setting_fault may) (span, cause) by_arguments (settings_of all)
        (each_ahead (fault_of policy all may may_is) (span, cause) None ds d (whole d demanded)
        (subst (λ (o : Option Fault). IsAhead o (span, cause)) (sym found) (same_place span cause))))

    by_setting : (span : Span) (cause : Cause) (s : Setting) → IsIn s (settings_of all) → setting_fault may s ≡ Some (span, cause) → IsAhead first_of_all (span, cause)
    by_setting span cause s here found =
        items_after policy facts reached (span, cause) by_settings [] all
        (each_ahead (setting_fault may) (span, cause) by_arguments (settings_of all) s here (subst (λ (o : Option Fault). IsAhead o (span, cause)) (sym found) (same_place span cause)))

    given_first : (span : Span) (cause : Cause) → HasGivenFault policy all span cause → IsAhead first_of_all (span, cause)
    given_first span NotPlain h = by_setting span NotPlain h.setting h.there (wide_found policy all may may_is span h)
    given_first span BadArgument h = by_demand span BadArgument h.demand h.asked (bad_found policy all may may_is span h)
    given_first span UnknownForm h = absurd h
    given_first span DefinedTwice h = absurd h
    given_first span SequenceTwice h = absurd h
    given_first span Undefined h = absurd h
    given_first span SameKindTwice h = absurd h
    given_first span BackwardContinue h = absurd h
    given_first span DenyContinue h = absurd h
    given_first span UnsettledTest h = absurd h
    given_first span ExactExpanded h = absurd h
    given_first span MixedPrefixTests h = absurd h
    given_first span SamePrefixTwice h = absurd h
    given_first span PathTestAfterPrepend h = absurd h
    given_first span SubroutineChanges h = absurd h
    given_first span NextPolicyInSubroutine h = absurd h
    given_first span Cycle h = absurd h
    given_first span TooDeep h = absurd h
    given_first span ArgumentCount h = absurd h

    all_first : (span : Span) (cause : Cause) → HasFault policy all span cause → IsAhead first_of_all (span, cause)
    all_first span cause (inl h) = items_ahead policy facts reached (span, cause) all h.place (item_ahead span cause h) by_settings
    all_first span cause (inr h) = given_first span cause h

    -- what is found by all faults
    abbrev pub IsFirstOf : Option Fault → Type 0
    IsFirstOf o = MatchOption o (IsSound policy all) (λ f. IsFirstFault policy all f.0 f.1)

    by_found : (o : Option Fault) → Keeps Fine o → ((span : Span) (cause : Cause) → HasFault policy all span cause → IsAhead o (span, cause)) → IsFirstOf o
    by_found None keeps first = first
    by_found (Some f) keeps first = record { there = keeps; first = first }

    pub found_is : IsFirstOf first_of_all
    found_is = by_found first_of_all all_keeps all_first

-- what is found by what is known
module _ (policy : List ℕ) (all : List RplItem) (k : Known) (known : IsKnown policy all k) (args : List ArgumentParts) (args_are : args ≡ arguments_in all) (settings : List Setting) (settings_are : settings ≡ settings_of all) (ds : List Demand)
    (sound : (d : Demand) → IsIn d ds → IsDemanded all d) (whole : (d : Demand) → IsDemanded all d → IsIn d ds) (m : Possible) (finds : Finds (known_facts k) (known_policy k) args m) where
  abbrev IsFirstOne : Option Fault → Type 0
  IsFirstOne o = MatchOption o (IsSound policy all) (λ f. IsFirstFault policy all f.0 f.1)

  -- what arguments may be, by what is known
  abbrev By : (Facts) → (List ℕ → Bool) → List ArgumentParts → Given → Type 0
  By facts reached xs g = IsFound (next_givens xs) (first_givens facts reached 0 xs) g

  given_sound : (g : Given) → IsIn g finds.found → IsGivenAs policy all g
  given_sound g here =
      subst (λ (xs : List ArgumentParts). By (facts_of policy all) (is_reached_policy policy all) xs g) args_are
      (subst (λ (reached : List ℕ → Bool). By (facts_of policy all) reached args g) known.policies (subst (λ (f : Facts). By f (known_policy k) args g) known.facts (finds.sound g here)))

  given_whole : (g : Given) → IsGivenAs policy all g → IsIn g finds.found
  given_whole g found =
      finds.whole g
      (subst (λ (f : Facts). By f (known_policy k) args g) (sym known.facts)
      (subst (λ (reached : List ℕ → Bool). By (facts_of policy all) reached args g) (sym known.policies) (subst (λ (xs : List ArgumentParts). By (facts_of policy all) (is_reached_policy policy all) xs g) (sym args_are) found)))

  abbrev may : ParameterParts → Fact → Bool
  may p fact = may_by (arguments_in all) finds.found p fact

  may_are : known_may m ≡ may
  may_are = λ i p fact. (kept_may args finds.found m finds.holds p fact ∙ ap (λ (xs : List ArgumentParts). may_by xs finds.found p fact) args_are) i

  pub known_is : (given other fault : Option Fault) → given ≡ earliest_of (given_fault (known_facts k) (known_policy k) (known_may m) args) None ds → other ≡ earliest_of (setting_fault (known_may m)) given settings
      → fault ≡ earliest_item k.policy.now (known_facts k) (known_block k) other nothing_before false all → IsFirstOne fault
  known_is given other fault given_is other_is fault_is =
      let decided = may_decided policy all finds.found given_sound given_whole in
      let e : fault ≡ first_of_all policy all (known_block k) known.blocks may decided ds sound whole =
      fault_is
      ∙ ap (λ (o : Option Fault). earliest_item k.policy.now (known_facts k) (known_block k) o nothing_before false all) (other_is ∙ ap (λ (o : Option Fault). earliest_of (setting_fault (known_may m)) o settings) given_is)
      ∙ (λ j. earliest_item (known.named j) (known.facts j) (known_block k)
      (earliest_of (setting_fault (may_are j)) (earliest_of (given_fault (known.facts j) (known.policies j) (may_are j) (args_are j)) None ds) (settings_are j)) nothing_before false all) in
      subst (λ (o : Option Fault). IsFirstOne o) (sym e) (found_is policy all (known_block k) known.blocks may decided ds sound whole)
