-- The faults that are found by what arguments are asked, and by what they may be, are those of arguments.
use Rattle.std.proofs.Common.{◌≡◌, refl, sym, ap, ◌∙◌, subst, ℕ, zero, suc, ◌<◌, ◌≤◌, ◌⊎◌, inl, inr, Bool, true, false, ◌&&◌, ◌||◌, List, Option, Some, None, slice_get, arith, ltb-true}
use Rattle.std.specs.Prelude.{Decides, IfSome, nat_lt}
use Rattle.std.proofs.lemmas.Bool.{and_parts, lt-ltb}
use Rattle.step_search.specs.Found.{IsIn}
use Rattle.text_words.specs.declared.statement.Span.{Span}
use Rattle.route_types.specs.Words.{number_in}
use Rattle.route_types.proofs.Numbers.{number_in_within}
use Rattle.policy_text.specs.declared.fault.Cause.TheVariants.{NotPlain, BadArgument}
use Rattle.rpl_forms.specs.declared.item.RplItem.{RplItem}
use Rattle.rpl_calls.specs.Calls.{CallParts}
use Rattle.rpl_calls.specs.Parameters.{ParameterParts}
use Rattle.rpl_calls.specs.Arguments.{ArgumentParts, word_at, handed_at, written}
use Rattle.rpl_calls.specs.Settings.{Setting, settings_of}
use Rattle.rpl_calls.specs.declared.ask.Question.{Question}
use Rattle.rpl_calls.specs.declared.ask.Question.TheVariants.{Number, Set, NotBelow}
use Rattle.rpl_calls.specs.declared.demand.Demand.{Demand}
use Rattle.rpl_calls.specs.declared.given.Fact.{Fact}
use Rattle.rpl_calls.specs.declared.given.Fact.TheVariants.{Wide, Length}
use Rattle.rpl_reader.specs.Facts.{Facts, facts_of}
use Rattle.rpl_reader.specs.Reach.{is_reached_policy, arguments_in, IsDemanded}
use Rattle.rpl_reader.specs.Givens.{MayBe, MayBeNumber, MayStand}
use Rattle.rpl_reader.specs.Profile.{IsBelow, IsWrong, IsBadArgument, IsGivenWide, HasFault}
use Rattle.rpl_reader.specs.Faults.{Fault, any_above, number_above, stands_above, value_below, is_wrong, word_fault, argument_fault, given_fault, setting_fault}
use Rattle.rpl_reader.proofs.Earlier.{Keeps}

or_parts : (a b : Bool) → (a || b) ≡ true → (a ≡ true) ⊎ (b ≡ true)
or_parts true b e = inl refl
or_parts false b e = inr e

or_left : (a b : Bool) → a ≡ true → (a || b) ≡ true
or_left a b e = λ j. e j || b

or_right : (a b : Bool) → b ≡ true → (a || b) ≡ true
or_right true b e = refl
or_right false b e = e

both : (a b : Bool) → a ≡ true → b ≡ true → (a && b) ≡ true
both a b e f = λ j. e j && f j

module _ (policy : List ℕ) (all : List RplItem) (may : ParameterParts → Fact → Bool) (may_decided : (p : ParameterParts) (fact : Fact) → Decides (may p fact) (MayBe policy all p fact)) where
  -- a statement has this fault
  abbrev pub Has : Fault → Type 0
  Has f = HasFault policy all f.0 f.1

  abbrev facts : Facts
  facts = facts_of policy all

  -- ---- two bounds

  -- a number above this one and below m, which a parameter may be
  record Above (p : ParameterParts) (value m : ℕ) : Type 0 where
    other : ℕ
    below : value < other
    within : other < m
    may_be : may p (Length other) ≡ true

  above_found : (p : ParameterParts) (value m : ℕ) → any_above may p value m ≡ true → Above p value m
  unfolding any_above
  above_found p value zero e = absurd cc
  above_found p value (suc m) e = elim (or_parts (nat_lt value m && may p (Length m)) (any_above may p value m) e) [
    | inl here ↦ let parts = and_parts (nat_lt value m) (may p (Length m)) here in record { other = m; below = ltb-true value m parts.0; within = omega arith; may_be = parts.1 }
    | inr lower ↦ let more = above_found p value m lower in let less = more.within in record { other = more.other; below = more.below; within = omega (arith, less); may_be = more.may_be }
  ]

  found_above : (p : ParameterParts) (value other m : ℕ) → value < other → other < m → may p (Length other) ≡ true → any_above may p value m ≡ true
  unfolding any_above
  found_above p value other zero below within is = absurd (omega (arith, within))
  found_above p value other (suc m) below within is = elim (split within) [
    | inl same ↦ or_left (nat_lt value m && may p (Length m)) (any_above may p value m)
        (both (nat_lt value m) (may p (Length m)) (lt-ltb value m (omega (arith, same, below))) (ap (λ (n : ℕ). may p (Length n)) (sym same) ∙ is))
    | inr lower ↦ or_right (nat_lt value m && may p (Length m)) (any_above may p value m) (found_above p value other m below lower is)
  ]
    where
      split : other < suc m → (other ≡ m) ⊎ (other < m)
      split within = grind arith

  -- another number up to 32 that may stand there is above this one
  record StandsAbove (value : ℕ) (word : Option (List ℕ)) (p : Option ParameterParts) : Type 0 where
    other : ℕ
    stands : MayBeNumber policy all word p other
    within : other ≤ 32
    below : value < other

  stands_found : (value : ℕ) (word : Option (List ℕ)) (p : Option ParameterParts) → stands_above may value word p ≡ true → StandsAbove value word p
  stands_found value (Some word) p e = by_number (number_in 32 word) refl (number_in_within 32 word) e
    where
      by_number : (o : Option ℕ) → number_in 32 word ≡ o → IfSome (number_in 32 word) (λ n. n ≤ 32) → number_above value o ≡ true → StandsAbove value (Some word) p
      by_number None is within e = absurd cc
      by_number (Some n) is within e = record { other = n; stands = is; within = subst (λ (o : Option ℕ). IfSome o (λ n. n ≤ 32)) is within; below = ltb-true value n e }
  stands_found value None (Some p) e =
      let found = above_found p value 33 e in
      let less = found.within in
      record { other = found.other; stands = (may_decided p (Length found.other)).0 found.may_be; within = omega (arith, less); below = found.below }
  stands_found value None None e = absurd cc

  found_stands : (value other : ℕ) (word : Option (List ℕ)) (p : Option ParameterParts) → MayBeNumber policy all word p other → other ≤ 32 → value < other → stands_above may value word p ≡ true
  found_stands value other (Some word) p stands within below = ap (λ (o : Option ℕ). number_above value o) stands ∙ lt-ltb value other below
  found_stands value other None (Some p) stands within below = found_above p value other 33 below (omega (arith, within)) ((may_decided p (Length other)).1 stands)
  found_stands value other None None stands within below = absurd stands

  -- ---- what is asked

  wrong_is : (c : CallParts) (word : List ℕ) (question : Question) → is_wrong facts may c word question ≡ true → IsWrong policy all c word question
  wrong_is c word (Number range) e = e
  wrong_is c word (Set sort) e = e
  wrong_is c word (NotBelow place) e = by_value (number_in 32 word) refl e
    where
      by_value : (o : Option ℕ) → number_in 32 word ≡ o → value_below may c place o ≡ true → IsBelow policy all c place word
      by_value None is e = absurd cc
      by_value (Some value) is e =
          let found = stands_found value (word_at c place) (handed_at c place) e in
          record { value = value; is = is; other = found.other; stands = found.stands; within = found.within; below = found.below }

  is_wrong_of : (c : CallParts) (word : List ℕ) (question : Question) → IsWrong policy all c word question → is_wrong facts may c word question ≡ true
  is_wrong_of c word (Number range) w = w
  is_wrong_of c word (Set sort) w = w
  is_wrong_of c word (NotBelow place) w = ap (λ (o : Option ℕ). value_below may c place o) w.is ∙ found_stands w.value w.other (word_at c place) (handed_at c place) w.stands w.within w.below

  abbrev pub fault_of : Demand → Option Fault
  fault_of d = given_fault facts (is_reached_policy policy all) may (arguments_in all) d

  -- what is found is a fault
  pub argument_keeps : (d : Demand) → IsDemanded all d → Keeps Has (fault_of d)
  argument_keeps d demanded = at_argument (slice_get (arguments_in all) d.argument) refl
    where
      when_wrong : (a : ArgumentParts) (word : List ℕ) (b : Bool) → slice_get (arguments_in all) d.argument ≡ Some a → is_reached_policy policy all a.call.caller ≡ true → written a ≡ Some word → is_wrong facts may a.call word d.question ≡ b
          → Keeps Has (elim b [ true ↦ Some (a.call.span, BadArgument) | false ↦ None ])
      when_wrong a word false at reached is wrong = tt
      when_wrong a word true at reached is wrong =
          inr (record { demand = d; asked = demanded; argument = a; word = word; written = record { there = at; reached = reached; is = is }; wrong = wrong_is a.call word d.question wrong; span_is = refl })

      when_written : (a : ArgumentParts) (o : Option (List ℕ)) → slice_get (arguments_in all) d.argument ≡ Some a → is_reached_policy policy all a.call.caller ≡ true → written a ≡ o → Keeps Has (word_fault facts may a.call d.question o)
      when_written a None at reached is = tt
      when_written a (Some word) at reached is = when_wrong a word (is_wrong facts may a.call word d.question) at reached is refl

      when_reached : (a : ArgumentParts) (b : Bool) → slice_get (arguments_in all) d.argument ≡ Some a → is_reached_policy policy all a.call.caller ≡ b → Keeps Has (elim b [ true ↦ word_fault facts may a.call d.question (written a) | false ↦ None ])
      when_reached a false at reached = tt
      when_reached a true at reached = when_written a (written a) at reached refl

      at_argument : (o : Option ArgumentParts) → slice_get (arguments_in all) d.argument ≡ o
          → Keeps Has (elim o [ None ↦ None | Some a ↦ argument_fault facts (is_reached_policy policy all) may a d.question ])
      at_argument None at = tt
      at_argument (Some a) at = when_reached a (is_reached_policy policy all a.call.caller) at refl

  -- a fault is found
  pub bad_found : (span : Span) (h : IsBadArgument policy all span) → fault_of h.demand ≡ Some (span, BadArgument)
  bad_found span h =
      ap (λ (o : Option ArgumentParts). elim o [ None ↦ None | Some a ↦ argument_fault facts (is_reached_policy policy all) may a h.demand.question ]) h.written.there
      ∙ ap (λ (b : Bool). elim b [ true ↦ word_fault facts may h.argument.call h.demand.question (written h.argument) | false ↦ None ]) h.written.reached
      ∙ ap (λ (o : Option (List ℕ)). word_fault facts may h.argument.call h.demand.question o) h.written.is
      ∙ ap (λ (b : Bool). elim b [ true ↦ Some (h.argument.call.span, BadArgument) | false ↦ None ]) (is_wrong_of h.argument.call h.word h.demand.question h.wrong)
      ∙ ap (λ (s : Span). Some (s, BadArgument)) (sym h.span_is)

  -- ---- what is set

  abbrev parameter_of : Setting → ParameterParts
  parameter_of s = record { policy = s.policy; place = s.place }

  pub setting_keeps : (s : Setting) → IsIn s (settings_of all) → Keeps Has (setting_fault may s)
  setting_keeps s here = when_wide (may (parameter_of s) Wide) refl
    where
      when_wide : (b : Bool) → may (parameter_of s) Wide ≡ b → Keeps Has (elim b [ true ↦ Some (s.span, NotPlain) | false ↦ None ])
      when_wide false is = tt
      when_wide true is = inr (record { setting = s; there = here; wide = (may_decided (parameter_of s) Wide).0 is; span_is = refl })

  pub wide_found : (span : Span) (h : IsGivenWide policy all span) → setting_fault may h.setting ≡ Some (span, NotPlain)
  wide_found span h =
      ap (λ (b : Bool). elim b [ true ↦ Some (h.setting.span, NotPlain) | false ↦ None ]) ((may_decided (parameter_of h.setting) Wide).1 h.wide)
      ∙ ap (λ (s : Span). Some (s, NotPlain)) (sym h.span_is)
