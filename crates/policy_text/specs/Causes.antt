-- The causes of all languages in one table, and the first fault of a list of items, whatever an item is.
use Rattle.std.specs.Prelude.{◌≡◌, ◌≤◌, ◌<◌, Bool, true, false, List, [], ◌∷◌, Option, Some, None}
use Rattle.std.specs.List.{find, AllByRecursion}
use Rattle.text_words.specs.declared.statement.Span.{Span}
use Rattle.policy_text.specs.declared.fault.Cause.{Cause}
use Rattle.policy_text.specs.declared.fault.Cause.TheVariants.{UnknownForm, DefinedTwice, SequenceTwice, Undefined, SameKindTwice, BackwardContinue, DenyContinue, UnsettledTest, ExactExpanded, NotPlain, MixedPrefixTests, SamePrefixTwice, PathTestAfterPrepend, SubroutineChanges, NextPolicyInSubroutine, Cycle, TooDeep, ArgumentCount, BadArgument}

-- the table: where several causes hold at one item, the first of this order is named
abbrev pub causes : List Cause
causes =
    UnknownForm ∷ DefinedTwice ∷ SequenceTwice ∷ Undefined ∷ SameKindTwice ∷ BackwardContinue ∷ DenyContinue ∷ UnsettledTest ∷ ExactExpanded
    ∷ NotPlain ∷ MixedPrefixTests ∷ SamePrefixTwice ∷ PathTestAfterPrepend ∷ SubroutineChanges ∷ NextPolicyInSubroutine ∷ Cycle ∷ TooDeep ∷ ArgumentCount ∷ BadArgument ∷ []

-- the first cause of the table that holds
unfoldable pub first_cause : (Cause → Bool) → Option Cause
first_cause holds = find holds causes

-- which causes hold at an item with these items before it, the nearest first
abbrev pub Rules : Type 0 → Type 0
Rules I = List I → I → Cause → Bool

-- the first item that has a cause, by its span and the first of its causes; `before` are the items before those given, the nearest first
unfoldable pub first_fault_from : {I : Type 0} → (I → Span) → Rules I → List I → List I → Option (Span × Cause)
first_fault_from span_of holds before [] = None
first_fault_from span_of holds before (i ∷ is) = elim (first_cause (holds before i)) [
  | Some cause ↦ Some (span_of i, cause)
  | None ↦ first_fault_from span_of holds (i ∷ before) is
]

-- a list with these items before it, the nearest first
abbrev pub behind : {I : Type 0} → List I → List I → List I
behind [] is = is
behind (i ∷ before) is = behind before (i ∷ is)

-- a place in a list: the items before it, the nearest first, the item, and the items behind it
pub record Place {I : Type 0} (all : List I) : Type 0 where
  pub before : List I
  pub item : I
  pub rest : List I
  pub is : all ≡ behind before (item ∷ rest)

-- no place has a cause
abbrev pub HasNoFault : {I : Type 0} → Rules I → List I → Type 0
HasNoFault holds all = (p : Place all) (cause : Cause) → holds p.before p.item cause ≡ false

-- a place has this span and this cause as the first of its causes, and no place with a cause starts before it
pub record IsFirstFault {I : Type 0} (span_of : I → Span) (holds : Rules I) (all : List I) (span : Span) (cause : Cause) : Type 0 where
  pub place : Place all
  pub span_is : span ≡ span_of place.item
  pub cause_is : first_cause (holds place.before place.item) ≡ Some cause
  pub least : (p : Place all) (other : Cause) → holds p.before p.item other ≡ true → span.start ≤ (span_of p.item).start

-- each item starts before all those behind it
abbrev pub Rise : {I : Type 0} → (I → Span) → List I → Type 0
Rise span_of [] = Unit {0}
Rise span_of (i ∷ is) = AllByRecursion (λ j. (span_of i).start < (span_of j).start) is × Rise span_of is
