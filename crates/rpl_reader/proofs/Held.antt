-- The causes in one record are those that the statement has.
use Rattle.std.proofs.Common.{◌≡◌, refl, ℕ, List}
use Rattle.policy_text.specs.declared.fault.Cause.{Cause}
use Rattle.policy_text.specs.declared.fault.Cause.TheVariants.{UnknownForm, DefinedTwice, SequenceTwice, Undefined, SameKindTwice, BackwardContinue, DenyContinue, UnsettledTest, ExactExpanded, NotPlain, MixedPrefixTests, SamePrefixTwice, PathTestAfterPrepend, SubroutineChanges, NextPolicyInSubroutine, Cycle, TooDeep, ArgumentCount, BadArgument}
use Rattle.rpl_forms.specs.declared.item.RplForm.{RplForm}
use Rattle.rpl_reader.specs.Facts.{Facts, Before}
use Rattle.rpl_reader.specs.Causes.{has_cause}
use Rattle.rpl_reader.specs.Holding.{causes_of, cause_in}

module _ (policy : List ℕ) (facts : Facts) (before : Before) (form : RplForm) where
  pub held : (c : Cause) → cause_in (causes_of policy facts before form) c ≡ has_cause policy facts before form c
  held UnknownForm = refl
  held DefinedTwice = refl
  held SequenceTwice = refl
  held Undefined = refl
  held SameKindTwice = refl
  held BackwardContinue = refl
  held DenyContinue = refl
  held UnsettledTest = refl
  held ExactExpanded = refl
  held NotPlain = refl
  held MixedPrefixTests = refl
  held SamePrefixTwice = refl
  held PathTestAfterPrepend = refl
  held SubroutineChanges = refl
  held NextPolicyInSubroutine = refl
  held Cycle = refl
  held TooDeep = refl
  held ArgumentCount = refl
  held BadArgument = refl
