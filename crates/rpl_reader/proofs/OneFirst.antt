-- There is one first fault at most.
use Rattle.std.proofs.Common.{◌≡◌, refl, sym, ap, ◌∙◌, ℕ, ◌<◌, ◌≤◌, ◌⊎◌, inl, inr, List, Some, slice_get, arith}
use Rattle.std.proofs.lemmas.Option.{same_Some}
use Rattle.text_words.specs.declared.statement.Span.{Span}
use Rattle.policy_text.specs.Causes.{causes}
use Rattle.policy_text.specs.declared.fault.Cause.{Cause}
use Rattle.policy_text.specs.declared.fault.Cause.TheVariants.{UnknownForm, DefinedTwice, SequenceTwice, Undefined, SameKindTwice, BackwardContinue, DenyContinue, UnsettledTest, ExactExpanded, NotPlain, MixedPrefixTests, SamePrefixTwice, PathTestAfterPrepend, SubroutineChanges, NextPolicyInSubroutine, Cycle, TooDeep, ArgumentCount, BadArgument}
use Rattle.rpl_forms.specs.declared.item.RplItem.{RplItem}
use Rattle.rpl_reader.specs.Profile.{rank, ComesFirst, HasFault, IsSound, IsFirstFault}

-- a cause stands at its place in the table
pub stands : (c : Cause) → slice_get causes (rank c) ≡ Some c
stands UnknownForm = refl
stands DefinedTwice = refl
stands SequenceTwice = refl
stands Undefined = refl
stands SameKindTwice = refl
stands BackwardContinue = refl
stands DenyContinue = refl
stands UnsettledTest = refl
stands ExactExpanded = refl
stands NotPlain = refl
stands MixedPrefixTests = refl
stands SamePrefixTwice = refl
stands PathTestAfterPrepend = refl
stands SubroutineChanges = refl
stands NextPolicyInSubroutine = refl
stands Cycle = refl
stands TooDeep = refl
stands ArgumentCount = refl
stands BadArgument = refl

one_rank : (c d : Cause) → rank c ≡ rank d → c ≡ d
one_rank c d e = same_Some c d (sym (stands c) ∙ ap (λ (n : ℕ). slice_get causes n) e ∙ stands d)

-- of two that each come first, the places and the causes are the same
both : (a b m n : ℕ) → (a < b) ⊎ ((a ≡ b) × (m ≤ n)) → (b < a) ⊎ ((b ≡ a) × (n ≤ m)) → (a ≡ b) × (m ≡ n)
both a b m n (inl less) (inl more) = absurd (omega arith)
both a b m n (inl less) (inr same) = absurd (omega (arith, same.0))
both a b m n (inr same) (inl more) = absurd (omega (arith, same.0))
both a b m n (inr same) (inr again) = (same.0, omega (arith, same.1, again.1))

pub least_is : (policy : List ℕ) (all : List RplItem) (span : Span) (cause : Cause) → IsFirstFault policy all span cause → (other : Span) (why : Cause) → HasFault policy all other why → ComesFirst span cause other why
least_is policy all span cause first other why h = first.first other why h

pub one_is : (policy : List ℕ) (all : List RplItem) (span other : Span) (cause why : Cause) → IsFirstFault policy all span cause → IsFirstFault policy all other why → (span.start ≡ other.start) × (cause ≡ why)
one_is policy all span other cause why first again =
    let same = both span.start other.start (rank cause) (rank why) (first.first other why again.there) (again.first span cause first.there) in
    (same.0, one_rank cause why same.1)

pub sound_is : (policy : List ℕ) (all : List RplItem) (span : Span) (cause : Cause) → IsSound policy all → IsFirstFault policy all span cause → ⊥
sound_is policy all span cause sound first = sound span cause first.there
