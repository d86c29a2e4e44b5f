-- The causes that a statement has by itself, by what stands before it and by what the text defines: each a rule of its own.
use Rattle.std.specs.Prelude.{ℕ, Bool, true, false, ◌||◌, not, List, [], ◌∷◌, Option, Some, bytes_eq, length}
use Rattle.std.specs.List.{list_any, list_all}
use Rattle.route_types.specs.Community.{RectParts}
use Rattle.policy_text.specs.declared.fault.Cause.{Cause}
use Rattle.policy_text.specs.declared.fault.Cause.TheVariants.{UnknownForm, DefinedTwice, Undefined, NotPlain, Cycle, TooDeep, ArgumentCount}
use Rattle.text_words.specs.declared.rpl_blocks.BlockKind.{BlockKind}
use Rattle.text_words.specs.declared.rpl_blocks.BlockKind.TheVariants.{Policy as PolicyBlock}
use Rattle.rpl_words.specs.declared.number.RplSet.{RplSet}
use Rattle.rpl_words.specs.declared.number.RplSet.TheVariants.{Named, Parameter as GivenSet, Listed}
use Rattle.rpl_forms.specs.declared.item.Action.TheVariants.{SetCommunity}
use Rattle.rpl_forms.specs.declared.item.PolicyStatement.TheVariants.{Act, Apply}
use Rattle.rpl_forms.specs.declared.item.RplForm.{RplForm}
use Rattle.rpl_forms.specs.declared.item.RplForm.TheVariants.{Statement, Other}
use Rattle.rpl_calls.specs.Policies.{opens, parameters_in}
use Rattle.rpl_facts.specs.Uses.{Use, UsesSet, UsesParameter, uses_of}
use Rattle.rpl_reader.specs.Depth.{is_too_deep}
use Rattle.rpl_facts.specs.Blocks.{block_of, name_opened, is_single, takes_other}
use Rattle.rpl_reader.specs.Facts.{Facts, Before}

-- unknown-form: the statement spells no form
abbrev pub is_unknown : RplForm → Bool
is_unknown (Other o) = true
is_unknown _ = false

-- defined-twice: an earlier block of the kind has the name
abbrev pub stands_before : Option BlockKind → Option (List ℕ) → Before → Bool
stands_before (Some kind) (Some name) before = before.stands kind name
stands_before _ _ before = false

-- defined-twice: a name stands twice in the list
abbrev pub repeats : List (List ℕ) → Bool
repeats [] = false
repeats (x ∷ xs) = list_any (bytes_eq x) xs || repeats xs

abbrev pub is_second : Before → RplForm → Bool
is_second before form = stands_before (opens form) (name_opened form) before || repeats (parameters_in form)

-- undefined: a set is used that isn't there, or a parameter that the policy doesn't have
abbrev pub misses : Facts → Before → Use → Bool
misses facts before (UsesSet set) = not (facts.there (block_of set.0) set.1)
misses facts before (UsesParameter x) = not (before.has_parameter x)

-- undefined: a policy is applied that isn't there
abbrev pub misses_policy : Facts → RplForm → Bool
misses_policy facts (Statement (Apply a)) = not (facts.there PolicyBlock a.policy)
misses_policy facts _ = false

abbrev pub is_undefined : Facts → Before → RplForm → Bool
is_undefined facts before form = list_any (misses facts before) (uses_of form) || misses_policy facts form

-- not-plain: a set that a statement sets, named or written in place, has an element that isn't a single community
abbrev pub is_wide_set : Facts → RplSet RectParts → Bool
is_wide_set facts (Named n) = facts.wide n
is_wide_set facts (GivenSet x) = false
is_wide_set facts (Listed rs) = not (list_all is_single rs)

abbrev pub sets_wide : Facts → RplForm → Bool
sets_wide facts (Statement (Act (SetCommunity s))) = is_wide_set facts s.set
sets_wide facts _ = false

-- cycle: the policy that is applied leads back to the one in which the statement stands
abbrev pub leads_back : Facts → Before → RplForm → Bool
leads_back facts before (Statement (Apply a)) = facts.turns_back before.name a.policy
leads_back facts before _ = false

-- too-deep: the call would be the 129th of a nest, and nothing that is reached leads back to itself
abbrev pub call_deep : Facts → Before → RplForm → Bool
call_deep facts before (Statement (Apply a)) = facts.too_deep before.name
call_deep facts before _ = false

-- argument-count: an `apply` with another number of arguments than a policy of the name has parameters
abbrev pub counts_differ : Facts → RplForm → Bool
counts_differ facts (Statement (Apply a)) = facts.takes_other a.policy (length a.arguments)
counts_differ facts form = false

-- a statement has the cause by itself; the policy named may have no parameters
abbrev pub has_cause : List ℕ → Facts → Before → RplForm → Cause → Bool
has_cause policy facts before form UnknownForm = is_unknown form
has_cause policy facts before form DefinedTwice = is_second before form
has_cause policy facts before form Undefined = is_undefined facts before form
has_cause policy facts before form NotPlain = sets_wide facts form
has_cause policy facts before form Cycle = leads_back facts before form
has_cause policy facts before form TooDeep = is_too_deep before.ifs form || call_deep facts before form
has_cause policy facts before form ArgumentCount = takes_other policy 0 form || counts_differ facts form
has_cause policy facts before form _ = false
