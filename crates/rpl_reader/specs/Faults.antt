-- How the first fault is found: of all faults, in whatever order they are met, the one that comes first is kept.
use Rattle.std.specs.Prelude.{ℕ, zero, suc, Bool, true, false, ◌&&◌, ◌||◌, ◌==◌, nat_lt, nat_le, List, [], ◌∷◌, Option, Some, None, option_map, slice_get}
use Rattle.text_words.specs.declared.statement.Span.{Span}
use Rattle.text_words.specs.declared.rpl_blocks.BlockKind.{BlockKind}
use Rattle.policy_text.specs.Causes.{first_cause}
use Rattle.policy_text.specs.declared.fault.Cause.{Cause}
use Rattle.policy_text.specs.declared.fault.Cause.TheVariants.{NotPlain, BadArgument}
use Rattle.rpl_forms.specs.declared.item.RplForm.{RplForm}
use Rattle.rpl_forms.specs.declared.item.RplItem.{RplItem}
use Rattle.rpl_calls.specs.Policies.{opens, name_under}
use Rattle.route_types.specs.Words.{number_in}
use Rattle.rpl_calls.specs.Calls.{CallParts}
use Rattle.rpl_calls.specs.Parameters.{ParameterParts}
use Rattle.rpl_calls.specs.Arguments.{ArgumentParts, word_at, handed_at, written}
use Rattle.rpl_calls.specs.Settings.{Setting}
use Rattle.rpl_calls.specs.declared.ask.Question.{Question}
use Rattle.rpl_calls.specs.declared.ask.Question.TheVariants.{Number, Set, NotBelow}
use Rattle.rpl_calls.specs.declared.demand.Demand.{Demand}
use Rattle.rpl_calls.specs.declared.given.Fact.{Fact}
use Rattle.rpl_calls.specs.declared.given.Fact.TheVariants.{Wide, Length}
use Rattle.rpl_reader.specs.Facts.{Facts, Before, behind_form}
use Rattle.rpl_reader.specs.Causes.{has_cause}
use Rattle.rpl_reader.specs.Profile.{rank, is_out, is_no_set}

-- a statement's span, and a cause that it has
abbrev pub Fault : Type 0
Fault = Span × Cause

-- the first of two comes first, or they stand alike
abbrev pub goes_first : Fault → Fault → Bool
goes_first f g = nat_lt f.0.start g.0.start || ((f.0.start == g.0.start) && nat_le (rank f.1) (rank g.1))

-- of two faults that may be there, the one that comes first
abbrev pub earlier : Option Fault → Option Fault → Option Fault
earlier None g = g
earlier (Some f) None = Some f
earlier (Some f) (Some g) = elim (goes_first f g) [ true ↦ Some f | false ↦ Some g ]

-- ---- faults of items

-- the block that is open behind a form is reached, by which blocks are and whether the one open before it is
abbrev pub open_behind : (BlockKind → List ℕ → Bool) → RplForm → Bool → Bool
open_behind reached form open_before = elim (opens form) [ Some kind ↦ reached kind (name_under form) | None ↦ open_before ]

-- the same behind these items, the nearest first
abbrev pub is_open_reached : (BlockKind → List ℕ → Bool) → List RplItem → Bool
is_open_reached reached [] = false
is_open_reached reached (i ∷ before) = open_behind reached i.form (is_open_reached reached before)

-- the first of the faults that an item has by itself, where it is reached
abbrev pub item_fault : List ℕ → Facts → Before → Bool → RplItem → Option Fault
item_fault policy facts before reached i = elim reached [ true ↦ option_map (λ c. (i.span, c)) (first_cause (has_cause policy facts before i.form)) | false ↦ None ]

-- the first fault of these items, or the one that was found before them
unfoldable pub earliest_item : List ℕ → Facts → (BlockKind → List ℕ → Bool) → Option Fault → Before → Bool → List RplItem → Option Fault
earliest_item policy facts reached found before open_before [] = found
earliest_item policy facts reached found before open_before (i ∷ is) =
    earliest_item policy facts reached (earlier found (item_fault policy facts before (open_behind reached i.form open_before) i)) (behind_form i.form before) (open_behind reached i.form open_before) is

-- ---- faults of arguments

-- a parameter may be a number above this one, and below n
unfoldable pub any_above : (ParameterParts → Fact → Bool) → ParameterParts → ℕ → ℕ → Bool
any_above may p value zero = false
any_above may p value (suc n) = (nat_lt value n && may p (Length n)) || any_above may p value n

-- what is written or handed on may be a number above this one, up to 32
abbrev pub number_above : ℕ → Option ℕ → Bool
number_above value None = false
number_above value (Some n) = nat_lt value n

abbrev pub stands_above : (ParameterParts → Fact → Bool) → ℕ → Option (List ℕ) → Option ParameterParts → Bool
stands_above may value (Some word) p = number_above value (number_in 32 word)
stands_above may value None (Some p) = any_above may p value 33
stands_above may value None None = false

-- a number up to 32 is below one that may stand at a place of the call
abbrev pub value_below : (ParameterParts → Fact → Bool) → CallParts → ℕ → Option ℕ → Bool
value_below may c place None = false
value_below may c place (Some value) = stands_above may value (word_at c place) (handed_at c place)

-- a word that is written in a call isn't what is asked for
abbrev pub is_wrong : Facts → (ParameterParts → Fact → Bool) → CallParts → List ℕ → Question → Bool
is_wrong facts may c word (Number range) = is_out range.least range.most word
is_wrong facts may c word (Set sort) = is_no_set facts sort word
is_wrong facts may c word (NotBelow place) = value_below may c place (number_in 32 word)

-- the fault of a call with this argument, where it is asked this
abbrev pub word_fault : Facts → (ParameterParts → Fact → Bool) → CallParts → Question → Option (List ℕ) → Option Fault
word_fault facts may c question None = None
word_fault facts may c question (Some word) = elim (is_wrong facts may c word question) [ true ↦ Some (c.span, BadArgument) | false ↦ None ]

abbrev pub argument_fault : Facts → (List ℕ → Bool) → (ParameterParts → Fact → Bool) → ArgumentParts → Question → Option Fault
argument_fault facts reached may a question = elim (reached a.call.caller) [ true ↦ word_fault facts may a.call question (written a) | false ↦ None ]

abbrev pub given_fault : Facts → (List ℕ → Bool) → (ParameterParts → Fact → Bool) → List ArgumentParts → Demand → Option Fault
given_fault facts reached may args d = elim (slice_get args d.argument) [ None ↦ None | Some a ↦ argument_fault facts reached may a d.question ]

-- the fault of a statement that sets the communities of what is handed to its policy
abbrev pub setting_fault : (ParameterParts → Fact → Bool) → Setting → Option Fault
setting_fault may s = elim (may (record { policy = s.policy; place = s.place }) Wide) [ true ↦ Some (s.span, NotPlain) | false ↦ None ]

-- the first fault that these have, or the one that was found before
unfoldable pub earliest_of : {A : Type 0} → (A → Option Fault) → Option Fault → List A → Option Fault
earliest_of fault found [] = found
earliest_of fault found (x ∷ xs) = earliest_of fault (earlier found (fault x)) xs
