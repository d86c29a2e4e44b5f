-- The printed names of causes.
use Rattle.std.specs.Prelude.{ℕ, List, codes}
use Rattle.policy_text.specs.declared.fault.Cause.{Cause}
use Rattle.policy_text.specs.declared.fault.Cause.TheVariants.{UnknownForm, DefinedTwice, SequenceTwice, Undefined, SameKindTwice, BackwardContinue, DenyContinue, UnsettledTest, ExactExpanded, NotPlain, MixedPrefixTests, SamePrefixTwice, PathTestAfterPrepend, SubroutineChanges, NextPolicyInSubroutine, Cycle, TooDeep, ArgumentCount, BadArgument}

-- the name of a cause as it is printed
abbrev pub cause_name : Cause → List ℕ
cause_name UnknownForm = codes "unknown-form"
cause_name DefinedTwice = codes "defined-twice"
cause_name SequenceTwice = codes "sequence-twice"
cause_name Undefined = codes "undefined"
cause_name SameKindTwice = codes "same-kind-twice"
cause_name BackwardContinue = codes "backward-continue"
cause_name DenyContinue = codes "deny-continue"
cause_name UnsettledTest = codes "unsettled-test"
cause_name ExactExpanded = codes "exact-expanded"
cause_name NotPlain = codes "not-plain"
cause_name MixedPrefixTests = codes "mixed-prefix-tests"
cause_name SamePrefixTwice = codes "same-prefix-twice"
cause_name PathTestAfterPrepend = codes "path-test-after-prepend"
cause_name SubroutineChanges = codes "subroutine-changes"
cause_name NextPolicyInSubroutine = codes "next-policy-in-subroutine"
cause_name Cycle = codes "cycle"
cause_name TooDeep = codes "too-deep"
cause_name ArgumentCount = codes "argument-count"
cause_name BadArgument = codes "bad-argument"
