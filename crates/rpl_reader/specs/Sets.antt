-- The sets that are reached, by the numbers of their kinds.
use Rattle.std.specs.Prelude.{ℕ, Bool, false, ◌&&◌, List, Option, Some, None, slice_get}
use Rattle.std.specs.List.{list_any}
use Rattle.policy_text.specs.NameSets.{is_key}
use Rattle.rpl_calls.specs.Policies.{Spoken, name_under}
use Rattle.rpl_calls.specs.Arguments.{ArgumentParts, written}
use Rattle.rpl_calls.specs.declared.ask.Question.{Question}
use Rattle.rpl_calls.specs.declared.ask.Question.TheVariants.{Set}
use Rattle.rpl_calls.specs.declared.ask.SetSort.{SetSort}
use Rattle.rpl_calls.specs.declared.demand.Demand.{Demand}
use Rattle.rpl_facts.specs.Uses.{Use, UsesSet, UsesParameter, uses_of}
use Rattle.rpl_facts.specs.Blocks.{block_of}
use Rattle.rpl_facts.specs.Told.{kind_code}

-- the name, the sort and the number are those under which a set stands
abbrev pub is_set : List ℕ → ℕ → ℕ → SetSort → List ℕ → Bool
is_set q s n sort name = is_key q s n name (kind_code (block_of sort)) 0

-- they are those of a set that is used
abbrev pub names : List ℕ → ℕ → ℕ → Use → Bool
names q s n (UsesSet set) = is_set q s n set.0 set.1
names q s n (UsesParameter x) = false

-- they are those of a set that a statement of a reached policy names
abbrev pub uses_named : (List ℕ → Bool) → List ℕ → ℕ → ℕ → Spoken → Bool
uses_named reached q s n statement = reached (name_under statement.line) && list_any (names q s n) (uses_of statement.item.form)

abbrev pub is_written_as : List ℕ → ℕ → ℕ → SetSort → Option (List ℕ) → Bool
is_written_as q s n sort None = false
is_written_as q s n sort (Some name) = is_set q s n sort name

-- they are those of a set that is written where this is asked
abbrev pub is_written : List ℕ → ℕ → ℕ → Option (List ℕ) → Question → Bool
is_written q s n word (Set sort) = is_written_as q s n sort word
is_written q s n word _ = false

-- the same of an argument of a reached policy, if there is one
abbrev pub is_given_at : (List ℕ → Bool) → List ℕ → ℕ → ℕ → Question → Option ArgumentParts → Bool
is_given_at reached q s n question None = false
is_given_at reached q s n question (Some a) = reached a.call.caller && is_written q s n (written a) question

abbrev pub gives : (List ℕ → Bool) → List ArgumentParts → List ℕ → ℕ → ℕ → Demand → Bool
gives reached args q s n d = is_given_at reached q s n d.question (slice_get args d.argument)
