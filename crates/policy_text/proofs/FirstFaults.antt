-- The first fault of a list of items: it is where a place has a cause and none before it has one, and there is none exactly where no place has one.
use Rattle.std.proofs.Common.{◌≡◌, refl, sym, ◌∙◌, ap, subst, ◌≤◌, ◌<◌, Bool, true, false, cond, List, [], ◌∷◌, Option, Some, None, ◌⊎◌, inl, inr, arith}
use Rattle.std.specs.List.{find, AllByRecursion}
use Rattle.std.proofs.lemmas.Option.{same_Some}
use Rattle.text_words.specs.declared.statement.Span.{Span}
use Rattle.policy_text.specs.Causes.{causes, first_cause, Rules, first_fault_from, behind, Place, HasNoFault, IsFirstFault, Rise}
use Rattle.policy_text.specs.declared.fault.Cause.{Cause}
use Rattle.policy_text.specs.declared.fault.Cause.TheVariants.{UnknownForm, DefinedTwice, SequenceTwice, Undefined, SameKindTwice, BackwardContinue, DenyContinue, UnsettledTest, ExactExpanded, NotPlain, MixedPrefixTests, SamePrefixTwice, PathTestAfterPrepend, SubroutineChanges, NextPolicyInSubroutine, Cycle, TooDeep, ArgumentCount, BadArgument}

-- ---- the first of the causes that hold

none_in : (holds : Cause → Bool) (cs : List Cause) → find holds cs ≡ None → AllByRecursion (λ c. holds c ≡ false) cs
none_in holds [] e = tt
none_in holds (c ∷ cs) e = one_more (holds c) refl e (none_in holds cs)
  where
    one_more : (b : Bool) → holds c ≡ b → cond b (Some c) (find holds cs) ≡ None → (find holds cs ≡ None → AllByRecursion (λ c. holds c ≡ false) cs) → AllByRecursion (λ c. holds c ≡ false) (c ∷ cs)
    one_more true is e more = absurd cc
    one_more false is e more = (is, more e)

in_table : (P : Cause → Type 0) → AllByRecursion P causes → (c : Cause) → P c
in_table P h UnknownForm = h.0
in_table P h DefinedTwice = h.1.0
in_table P h SequenceTwice = h.1.1.0
in_table P h Undefined = h.1.1.1.0
in_table P h SameKindTwice = h.1.1.1.1.0
in_table P h BackwardContinue = h.1.1.1.1.1.0
in_table P h DenyContinue = h.1.1.1.1.1.1.0
in_table P h UnsettledTest = h.1.1.1.1.1.1.1.0
in_table P h ExactExpanded = h.1.1.1.1.1.1.1.1.0
in_table P h NotPlain = h.1.1.1.1.1.1.1.1.1.0
in_table P h MixedPrefixTests = h.1.1.1.1.1.1.1.1.1.1.0
in_table P h SamePrefixTwice = h.1.1.1.1.1.1.1.1.1.1.1.0
in_table P h PathTestAfterPrepend = h.1.1.1.1.1.1.1.1.1.1.1.1.0
in_table P h SubroutineChanges = h.1.1.1.1.1.1.1.1.1.1.1.1.1.0
in_table P h NextPolicyInSubroutine = h.1.1.1.1.1.1.1.1.1.1.1.1.1.1.0
in_table P h Cycle = h.1.1.1.1.1.1.1.1.1.1.1.1.1.1.1.0
in_table P h TooDeep = h.1.1.1.1.1.1.1.1.1.1.1.1.1.1.1.1.0
in_table P h ArgumentCount = h.1.1.1.1.1.1.1.1.1.1.1.1.1.1.1.1.1.0
in_table P h BadArgument = h.1.1.1.1.1.1.1.1.1.1.1.1.1.1.1.1.1.1.0

-- where there is no first cause, none holds
pub none_holds : (holds : Cause → Bool) → first_cause holds ≡ None → (c : Cause) → holds c ≡ false
unfolding first_cause
none_holds holds e = in_table (λ c. holds c ≡ false) (none_in holds causes e)

-- where none holds, there is no first cause
pub none_first : (holds : Cause → Bool) → ((c : Cause) → holds c ≡ false) → first_cause holds ≡ None
unfolding first_cause
none_first holds h = among causes
  where
    among : (cs : List Cause) → find holds cs ≡ None
    among [] = refl
    among (c ∷ cs) = rw (h c) (among cs)

-- the first cause holds
pub first_holds : (holds : Cause → Bool) (c : Cause) → first_cause holds ≡ Some c → holds c ≡ true
unfolding first_cause
first_holds holds c e = among causes e
  where
    one_of : (d : Cause) (rest : Option Cause) (b : Bool) → holds d ≡ b → (rest ≡ Some c → holds c ≡ true) → cond b (Some d) rest ≡ Some c → holds c ≡ true
    one_of d rest true is more e = subst (λ (x : Cause). holds x ≡ true) (same_Some d c e) is
    one_of d rest false is more e = more e

    among : (cs : List Cause) → find holds cs ≡ Some c → holds c ≡ true
    among [] e = absurd cc
    among (d ∷ cs) e = one_of d (find holds cs) (holds d) refl (among cs) e

-- ---- the first fault

-- the fault of an item, or that of those behind it
abbrev fault_or : Option Cause → Span → Option (Span × Cause) → Option (Span × Cause)
fault_or c s more = elim c [ Some cause ↦ Some (s, cause) | None ↦ more ]

none_or : (c : Option Cause) (s : Span) (more : Option (Span × Cause)) → fault_or c s more ≡ None → (c ≡ None) × (more ≡ None)
none_or None s more e = (refl, e)
none_or (Some cause) s more e = absurd cc

module _ (I : Type 0) (span_of : I → Span) (holds : Rules I) (all : List I) where
  -- with no fault in the whole list there is none from any place on
  none_behind : (before rest : List I) → first_fault_from span_of holds [] (behind before rest) ≡ None → first_fault_from span_of holds before rest ≡ None
  unfolding first_fault_from
  none_behind [] rest e = e
  none_behind (i ∷ before) rest e = (none_or (first_cause (holds before i)) (span_of i) (first_fault_from span_of holds (i ∷ before) rest) (none_behind before (i ∷ rest) e)).1

  -- where there is no first fault, no place has a cause
  pub has_none : first_fault_from span_of holds [] all ≡ None → HasNoFault holds all
  unfolding first_fault_from
  has_none e p = none_holds (holds p.before p.item)
      (none_or (first_cause (holds p.before p.item)) (span_of p.item) (first_fault_from span_of holds (p.item ∷ p.before) p.rest)
      (none_behind p.before (p.item ∷ p.rest) (subst (λ (xs : List I). first_fault_from span_of holds [] xs ≡ None) p.is e))).0

  -- where no place has a cause, there is no first fault
  pub none_from : HasNoFault holds all → (before is : List I) → all ≡ behind before is → first_fault_from span_of holds before is ≡ None
  unfolding first_fault_from
  none_from h before [] e = refl
  none_from h before (i ∷ is) e = rw (first_fault_from, none_first (holds before i) (λ c. h (record { before = before; item = i; rest = is; is = e }) c)) (none_from h (i ∷ before) is e)

  module _ (span : Span) (cause : Cause) where
    -- a place has this span and this cause as its first
    abbrev pub IsAt : Type 0
    IsAt = (p : Place all) × (span ≡ span_of p.item) × (first_cause (holds p.before p.item) ≡ Some cause)

    -- the first fault is at a place
    found : (before is : List I) → all ≡ behind before is → first_fault_from span_of holds before is ≡ Some (span, cause) → IsAt
    unfolding first_fault_from
    found before [] is-all e = absurd cc
    found before (i ∷ is) is-all e = here (first_cause (holds before i)) refl e (found (i ∷ before) is is-all)
      where
        here : (c : Option Cause) → first_cause (holds before i) ≡ c → fault_or c (span_of i) (first_fault_from span_of holds (i ∷ before) is) ≡ Some (span, cause)
            → (first_fault_from span_of holds (i ∷ before) is ≡ Some (span, cause) → IsAt) → IsAt
        here (Some d) is-first e more = (record { before = before; item = i; rest = is; is = is-all }, ap (λ (f : Span × Cause). f.0) (sym (same_Some (span_of i, d) (span, cause) e)), is-first ∙ ap (λ (f : Span × Cause). Some f.1) (same_Some (span_of i, d) (span, cause) e))
        here None is-first e more = more e

    -- the items from here on start behind the first fault
    abbrev pub IsBelow : List I → Type 0
    IsBelow = AllByRecursion (λ j. span.start < (span_of j).start)

    rise_behind : (before rest : List I) → Rise span_of (behind before rest) → Rise span_of rest
    rise_behind [] rest rise = rise
    rise_behind (i ∷ before) rest rise = (rise_behind before (i ∷ rest) rise).1

    one_on : (i : I) (rest : List I) (c : Option Cause) (more : Option (Span × Cause)) → Rise span_of (i ∷ rest) → fault_or c (span_of i) more ≡ Some (span, cause)
        → (more ≡ Some (span, cause)) ⊎ IsBelow rest
    one_on i rest None more rise e = inl e
    one_on i rest (Some d) more rise e = inr (subst (λ (s : Span). AllByRecursion (λ j. s.start < (span_of j).start) rest) (ap (λ (f : Span × Cause). f.0) (same_Some (span_of i, d) (span, cause) e)) rise.0)

    -- the first fault of a list whose items rise is found from a place on, or it starts before all items from there on
    from_place : (before rest : List I) → Rise span_of (behind before rest) → first_fault_from span_of holds [] (behind before rest) ≡ Some (span, cause)
        → (first_fault_from span_of holds before rest ≡ Some (span, cause)) ⊎ IsBelow rest
    unfolding first_fault_from
    from_place [] rest rise e = inl e
    from_place (i ∷ before) rest rise e = elim (from_place before (i ∷ rest) rise e) [
      | inl here ↦ one_on i rest (first_cause (holds before i)) (first_fault_from span_of holds (i ∷ before) rest) (rise_behind before (i ∷ rest) rise) here
      | inr below ↦ inr below.1
    ]

    at_place : (p : Place all) → Rise span_of all → first_fault_from span_of holds [] all ≡ Some (span, cause)
        → (first_fault_from span_of holds p.before (p.item ∷ p.rest) ≡ Some (span, cause)) ⊎ IsBelow (p.item ∷ p.rest)
    at_place p rise e =
        from_place p.before (p.item ∷ p.rest) (subst (Rise span_of) p.is rise) (subst (λ (xs : List I). first_fault_from span_of holds [] xs ≡ Some (span, cause)) p.is e)

    -- no place with a cause starts before the first fault
    least : Rise span_of all → first_fault_from span_of holds [] all ≡ Some (span, cause) → (p : Place all) (other : Cause) → holds p.before p.item other ≡ true → span.start ≤ (span_of p.item).start
    unfolding first_fault_from
    least rise e p other has = elim (at_place p rise e) [
      | inl here ↦ of_cause (first_cause (holds p.before p.item)) refl here
      | inr below ↦ omega (arith, below.0)
    ]
      where
        of_cause : (c : Option Cause) → first_cause (holds p.before p.item) ≡ c → fault_or c (span_of p.item) (first_fault_from span_of holds (p.item ∷ p.before) p.rest) ≡ Some (span, cause)
            → span.start ≤ (span_of p.item).start
        of_cause None is e = absurd (let no : holds p.before p.item other ≡ false = none_holds (holds p.before p.item) is other in cc)
        of_cause (Some d) is e = let same : span_of p.item ≡ span = ap (λ (f : Span × Cause). f.0) (same_Some (span_of p.item, d) (span, cause) e) in rw same (omega arith)

    -- the first fault is at a place with none before it
    pub is_first : Rise span_of all → first_fault_from span_of holds [] all ≡ Some (span, cause) → IsFirstFault span_of holds all span cause
    is_first rise e = let at = found [] all refl e in record { place = at.0; span_is = at.1; cause_is = at.2; least = least rise e }

  -- a place with none before it is where the first fault is
  pub only_first : (span : Span) (cause : Cause) → Rise span_of all → IsFirstFault span_of holds all span cause → first_fault_from span_of holds [] all ≡ Some (span, cause)
  unfolding first_fault_from
  only_first span cause rise first = by_fault (first_fault_from span_of holds [] all) refl
    where
      p : Place all
      p = first.place

      here_is : (c : Option Cause) (more : Option (Span × Cause)) (f : Span × Cause) → c ≡ Some cause → fault_or c (span_of p.item) more ≡ Some f → Some f ≡ Some (span_of p.item, cause)
      here_is c more f is e = sym (let at : fault_or (Some cause) (span_of p.item) more ≡ Some f = subst (λ (o : Option Cause). fault_or o (span_of p.item) more ≡ Some f) is e in at)

      by_fault : (o : Option (Span × Cause)) → first_fault_from span_of holds [] all ≡ o → first_fault_from span_of holds [] all ≡ Some (span, cause)
      by_fault None e = absurd (let no = has_none e p cause in let there = first_holds (holds p.before p.item) cause first.cause_is in cc)
      by_fault (Some f) e =
          let at = found f.0 f.1 [] all refl e in
          let low : span.start ≤ f.0.start = rw at.1 (first.least at.0 f.1 (first_holds (holds at.0.before at.0.item) f.1 at.2)) in
          elim (at_place f.0 f.1 p rise e) [
            | inl here ↦ e ∙ here_is (first_cause (holds p.before p.item)) (first_fault_from span_of holds (p.item ∷ p.before) p.rest) f first.cause_is here ∙ ap (λ (s : Span). Some (s, cause)) (sym first.span_is)
            | inr below ↦ absurd (let apart : f.0.start < (span_of p.item).start = below.0 in let same = ap (λ (s : Span). s.start) first.span_is in omega (arith, apart, same, low))
          ]
