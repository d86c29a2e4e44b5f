-- The profile of an RPL policy: the faults of what it reaches, each cause a rule of its own, and the first fault.
use Rattle.std.specs.Prelude.{◌≡◌, ℕ, ◌<◌, ◌≤◌, ◌⊎◌, Bool, true, false, not, nat_lt, List, [], ◌∷◌, Option, Some, None, slice_get}
use Rattle.text_words.specs.declared.statement.Span.{Span}
use Rattle.text_words.specs.declared.rpl_blocks.BlockKind.TheVariants.{Policy as PolicyBlock}
use Rattle.policy_text.specs.Causes.{Place}
use Rattle.policy_text.specs.declared.fault.Cause.{Cause}
use Rattle.policy_text.specs.declared.fault.Cause.TheVariants.{UnknownForm, DefinedTwice, SequenceTwice, Undefined, SameKindTwice, BackwardContinue, DenyContinue, UnsettledTest, ExactExpanded, NotPlain, MixedPrefixTests, SamePrefixTwice, PathTestAfterPrepend, SubroutineChanges, NextPolicyInSubroutine, Cycle, TooDeep, ArgumentCount, BadArgument}
use Rattle.policy_text.specs.declared.fault.CheckFault.{CheckFault}
use Rattle.policy_text.specs.declared.fault.CheckFault.TheVariants.{NoPolicy, Outside, Memory}
use Rattle.rpl_forms.specs.declared.item.RplItem.{RplItem}
use Rattle.route_types.specs.Words.{number_in}
use Rattle.step_search.specs.Found.{IsIn}
use Rattle.rpl_calls.specs.Calls.{CallParts}
use Rattle.rpl_calls.specs.Arguments.{ArgumentParts}
use Rattle.rpl_calls.specs.Demands.{number_within}
use Rattle.rpl_calls.specs.Settings.{Setting, settings_of}
use Rattle.rpl_calls.specs.declared.ask.Question.{Question}
use Rattle.rpl_calls.specs.declared.ask.Question.TheVariants.{Number, Set, NotBelow}
use Rattle.rpl_calls.specs.declared.ask.SetSort.{SetSort}
use Rattle.rpl_calls.specs.declared.demand.Demand.{Demand}
use Rattle.rpl_calls.specs.declared.given.Fact.TheVariants.{Wide}
use Rattle.rpl_facts.specs.Blocks.{is_there, block_of}
use Rattle.rpl_reader.specs.Facts.{Facts, facts_of, before_of}
use Rattle.rpl_reader.specs.Causes.{has_cause}
use Rattle.rpl_reader.specs.Reach.{IsWritten, IsDemanded, IsReached}
use Rattle.rpl_reader.specs.Givens.{MayBe, MayStand}

-- a policy as clauses see it
pub record PolicyParts : Type 0 where
  pub items : List RplItem
  pub names : List (List ℕ)

-- a policy stands under the name
unfoldable pub is_defined : List ℕ → List RplItem → Bool
is_defined name all = is_there PolicyBlock name all

-- ---- what a written argument fails

-- it isn't a number from one to another
abbrev pub is_out : ℕ → ℕ → List ℕ → Bool
is_out least most word = elim (number_within least most word) [ None ↦ true | Some n ↦ false ]

-- no set of the sort has this name
abbrev pub is_no_set : Facts → SetSort → List ℕ → Bool
is_no_set facts sort word = not (facts.there (block_of sort) word)

-- it is a number up to 32, and below another one that may stand at a place of the same call
pub record IsBelow (policy : List ℕ) (all : List RplItem) (call : CallParts) (place : ℕ) (word : List ℕ) : Type 0 where
  pub value : ℕ
  pub is : number_in 32 word ≡ Some value
  pub other : ℕ
  pub stands : MayStand policy all call place other
  pub within : other ≤ 32
  pub below : value < other

-- a word that is written in a call isn't what is asked for
abbrev pub IsWrong : List ℕ → List RplItem → CallParts → List ℕ → Question → Type 0
IsWrong policy all call word (Number range) = is_out range.least range.most word ≡ true
IsWrong policy all call word (Set sort) = is_no_set (facts_of policy all) sort word ≡ true
IsWrong policy all call word (NotBelow place) = IsBelow policy all call place word

-- ---- the faults

-- an item that is reached has the cause by itself
pub record HasItemFault (policy : List ℕ) (all : List RplItem) (span : Span) (cause : Cause) : Type 0 where
  pub place : Place all
  pub reached : IsReached policy all place.before place.item
  pub has : has_cause policy (facts_of policy all) (before_of place.before) place.item.form cause ≡ true
  pub span_is : span ≡ place.item.span

-- bad-argument: an argument that is written in a policy that is reached isn't what it is asked
pub record IsBadArgument (policy : List ℕ) (all : List RplItem) (span : Span) : Type 0 where
  pub demand : Demand
  pub asked : IsDemanded all demand
  pub argument : ArgumentParts
  pub word : List ℕ
  pub written : IsWritten policy all demand.argument argument word
  pub wrong : IsWrong policy all argument.call word demand.question
  pub span_is : span ≡ argument.call.span

-- not-plain: the statement sets the communities of a parameter that may be a set that isn't plain
pub record IsGivenWide (policy : List ℕ) (all : List RplItem) (span : Span) : Type 0 where
  pub setting : Setting
  pub there : IsIn setting (settings_of all)
  pub wide : MayBe policy all (record { policy = setting.policy; place = setting.place }) Wide
  pub span_is : span ≡ setting.span

-- a statement has the cause by what is handed to its policy, or by what it hands on
abbrev pub HasGivenFault : List ℕ → List RplItem → Span → Cause → Type 0
HasGivenFault policy all span NotPlain = IsGivenWide policy all span
HasGivenFault policy all span BadArgument = IsBadArgument policy all span
HasGivenFault policy all span _ = ⊥

-- a statement at this span has the cause
abbrev pub HasFault : List ℕ → List RplItem → Span → Cause → Type 0
HasFault policy all span cause = HasItemFault policy all span cause ⊎ HasGivenFault policy all span cause

-- ---- the first fault

-- the place of a cause in the table of causes
abbrev pub rank : Cause → ℕ
rank UnknownForm = 0
rank DefinedTwice = 1
rank SequenceTwice = 2
rank Undefined = 3
rank SameKindTwice = 4
rank BackwardContinue = 5
rank DenyContinue = 6
rank UnsettledTest = 7
rank ExactExpanded = 8
rank NotPlain = 9
rank MixedPrefixTests = 10
rank SamePrefixTwice = 11
rank PathTestAfterPrepend = 12
rank SubroutineChanges = 13
rank NextPolicyInSubroutine = 14
rank Cycle = 15
rank TooDeep = 16
rank ArgumentCount = 17
rank BadArgument = 18

-- a fault comes before another, or they stand alike: it starts before, or at the same place and its cause stands first
abbrev pub ComesFirst : Span → Cause → Span → Cause → Type 0
ComesFirst span cause other why = (span.start < other.start) ⊎ ((span.start ≡ other.start) × (rank cause ≤ rank why))

-- the fault is there, and it comes first among all
pub record IsFirstFault (policy : List ℕ) (all : List RplItem) (span : Span) (cause : Cause) : Type 0 where
  pub there : HasFault policy all span cause
  pub first : (other : Span) (why : Cause) → HasFault policy all other why → ComesFirst span cause other why

-- the policy of this name has no fault
abbrev pub IsSound : List ℕ → List RplItem → Type 0
IsSound policy all = (span : Span) (cause : Cause) → HasFault policy all span cause → ⊥

-- the policy of this name is in profile: it is defined and has no fault
pub record InProfile (name : List ℕ) (all : List RplItem) : Type 0 where
  pub defined : is_defined name all ≡ true
  pub sound : IsSound name all

-- the names are one, and the policy under it is in profile
pub record IsPolicyOf (all : List RplItem) (names : List (List ℕ)) : Type 0 where
  pub name : List ℕ
  pub one : names ≡ name ∷ []
  pub in_profile : InProfile name all

-- the fault is the one of the policy of this name; want of memory says nothing of it
abbrev pub IsCheckFault : List ℕ → List RplItem → CheckFault → Type 0
IsCheckFault name all (NoPolicy place) = (place ≡ 0) × (is_defined name all ≡ false)
IsCheckFault name all (Outside span cause) = (is_defined name all ≡ true) × IsFirstFault name all span cause
IsCheckFault name all Memory = Unit {0}
