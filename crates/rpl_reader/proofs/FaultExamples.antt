-- Causes on small texts, which the checker computes: each with a neighbour that just doesn't have it.
use Rattle.std.proofs.Common.{◌≡◌, refl, ℕ, zero, suc, ◌+◌, Bool, true, false, List, [], ◌∷◌, ◌++◌}
use Rattle.std.specs.Prelude.{Some, None, codes, map}
use Rattle.policy_text.specs.declared.fault.Cause.{Cause}
use Rattle.policy_text.specs.declared.fault.Cause.TheVariants.{UnknownForm, DefinedTwice, Undefined, NotPlain, Cycle, TooDeep, ArgumentCount}
use Rattle.route_types.specs.Words.{number_in}
use Rattle.rpl_words.specs.declared.number.RplNumber.TheVariants.{Parameter as GivenNumber}
use Rattle.rpl_words.specs.declared.number.RplSet.TheVariants.{Named, Listed}
use Rattle.rpl_words.specs.declared.condition.Term.{Term}
use Rattle.rpl_words.specs.declared.condition.Term.TheVariants.{Test, Group}
use Rattle.rpl_words.specs.declared.condition.RplTest.TheVariants.{Destination, IsEmpty}
use Rattle.rpl_forms.specs.declared.item.Header.TheVariants.{PrefixSet, Policy}
use Rattle.rpl_forms.specs.declared.item.Action.TheVariants.{SetWeight, SetCommunity}
use Rattle.rpl_forms.specs.declared.item.Argument.{Argument}
use Rattle.rpl_forms.specs.declared.item.Argument.TheVariants.{Written, Parameter}
use Rattle.rpl_forms.specs.declared.item.PolicyStatement.TheVariants.{If, Pass, Act, Apply}
use Rattle.rpl_forms.specs.declared.item.RplForm.{RplForm}
use Rattle.rpl_forms.specs.declared.item.RplForm.TheVariants.{Header as HeaderForm, Statement, End, Other}
use Rattle.rpl_forms.specs.declared.item.RplItem.{RplItem}
use Rattle.policy_calls.specs.Calls.{leads}
use Rattle.policy_calls.specs.Depth.{is_at, is_too_deep}
use Rattle.rpl_calls.specs.Policies.{spoken_from, place_from}
use Rattle.rpl_calls.specs.Calls.{CallParts}
use Rattle.rpl_calls.specs.declared.ask.Question.TheVariants.{Number, NotBelow}
use Rattle.rpl_calls.specs.Parameters.{ParameterParts}
use Rattle.rpl_calls.specs.declared.given.Fact.{Fact}
use Rattle.rpl_facts.specs.Uses.{uses_of}
use Rattle.rpl_reader.specs.Depth.{has_deep_group}
use Rattle.rpl_facts.specs.Blocks.{has_wide}
use Rattle.rpl_reader.specs.Facts.{Facts, facts_of, before_of}
use Rattle.rpl_reader.specs.Causes.{has_cause}
use Rattle.rpl_reader.specs.Faults.{any_above, is_wrong}

-- an item at a place
abbrev item : ℕ → RplForm → RplItem
item n form = record { form = form; span = record { start = n; end = n + 1 }; tests = [] }

abbrev items_from : ℕ → List RplForm → List RplItem
items_from n [] = []
items_from n (f ∷ fs) = item n f ∷ items_from (n + 1) fs

-- a text, as forms before one of them, the nearest first, that form, and those behind it: whether it has the cause
abbrev Row : Type 0
Row = List RplForm × RplForm × List RplForm × Cause × Bool

abbrev all_of : List RplForm → List RplForm → List RplForm
all_of [] fs = fs
all_of (f ∷ before) fs = all_of before (f ∷ fs)

abbrev has : Row → Bool
has r = has_cause (codes "P") (facts_of (codes "P") (items_from 0 (all_of r.0 (r.1 ∷ r.2)))) (before_of (items_from 0 r.0)) r.1 r.3

abbrev are : List Row → Type 0
are rows = map has rows ≡ map (λ r. r.4) rows

abbrev times : ℕ → RplForm → List RplForm
times zero f = []
times (suc n) f = f ∷ times n f

abbrev policy : RplForm
policy = HeaderForm (Policy (record { name = codes "P"; parameters = [] }))

abbrev policy_with : List (List ℕ) → RplForm
policy_with parameters = HeaderForm (Policy (record { name = codes "Q"; parameters = parameters }))

abbrev no_form : RplForm
no_form = Other (record { opens = None; name = None; keyword = None })

abbrev pass : RplForm
pass = Statement Pass

abbrev apply : List ℕ → List Argument → RplForm
apply name arguments = Statement (Apply (record { policy = name; arguments = arguments }))

abbrev in_set : RplForm
in_set = Statement (If (Test (Destination (Named (codes "S"))) ∷ []))

abbrev if_empty : List Term → RplForm
if_empty more = Statement (If (Test IsEmpty ∷ more))

abbrev groups : ℕ → List Term
groups zero = []
groups (suc n) = Group ∷ groups n

abbrev sets : ℕ → RplForm
sets most = Statement (Act (SetCommunity (record { set = Listed (record { high_least = 65000; high_most = most; low_least = 1; low_most = 1 } ∷ []); additive = false })))

by_itself : are (
    (policy ∷ [], no_form, [], UnknownForm, true) ∷ (policy ∷ [], pass, [], UnknownForm, false)
    ∷ (End ∷ policy ∷ [], policy, [], DefinedTwice, true) ∷ (End ∷ policy ∷ [], policy_with [], [], DefinedTwice, false)
    ∷ ([], policy_with (codes "a" ∷ codes "a" ∷ []), [], DefinedTwice, true) ∷ ([], policy_with (codes "a" ∷ codes "b" ∷ []), [], DefinedTwice, false)
    ∷ (policy ∷ [], in_set, [], Undefined, true) ∷ (policy ∷ End ∷ HeaderForm (PrefixSet (codes "S")) ∷ [], in_set, [], Undefined, false)
    ∷ (policy ∷ [], apply (codes "Q") [], [], Undefined, true) ∷ (policy ∷ [], apply (codes "Q") [], End ∷ policy_with [] ∷ [], Undefined, false)
    ∷ (policy_with (codes "a" ∷ []) ∷ [], Statement (Act (SetWeight (GivenNumber (codes "b")))), [], Undefined, true)
    ∷ (policy_with (codes "a" ∷ []) ∷ [], Statement (Act (SetWeight (GivenNumber (codes "a")))), [], Undefined, false)
    ∷ (policy ∷ [], sets 65001, [], NotPlain, true) ∷ (policy ∷ [], sets 65000, [], NotPlain, false) ∷ [])
unfolding has_wide uses_of has_deep_group spoken_from place_from
by_itself = refl

of_calls : are (
    (policy ∷ [], apply (codes "P") [], [], Cycle, true) ∷ (policy ∷ [], apply (codes "Q") [], [], Cycle, false)
    ∷ (policy ∷ [], apply (codes "Q") [], End ∷ policy_with [] ∷ apply (codes "P") [] ∷ [], Cycle, true)
    ∷ (policy ∷ [], apply (codes "Q") [], End ∷ policy_with (codes "a" ∷ []) ∷ [], ArgumentCount, true)
    ∷ (policy ∷ [], apply (codes "Q") (Written (codes "4") ∷ []), End ∷ policy_with (codes "a" ∷ []) ∷ [], ArgumentCount, false) ∷ [])
unfolding leads is_at is_too_deep uses_of spoken_from place_from
of_calls = refl

-- 128 `if`s and 128 parentheses are taken, one more is not
of_depth : are (
    (times 128 (if_empty []) ++ policy ∷ [], if_empty [], [], TooDeep, true) ∷ (times 127 (if_empty []) ++ policy ∷ [], if_empty [], [], TooDeep, false)
    ∷ (policy ∷ [], if_empty (groups 129), [], TooDeep, true) ∷ (policy ∷ [], if_empty (groups 128), [], TooDeep, false) ∷ [])
unfolding has_deep_group leads is_at is_too_deep spoken_from
of_depth = refl

-- ---- what is written as an argument

abbrev call : List Argument → CallParts
call arguments = record { caller = codes "P"; apply = record { policy = codes "Q"; arguments = arguments }; own = map (λ a. Some 0) arguments; span = record { start = 0; end = 1 } }

abbrev no_facts : Facts
no_facts = facts_of [] []

-- no parameter may be anything, and each may be anything
abbrev nothing : ParameterParts → Fact → Bool
nothing p fact = false

abbrev anything : ParameterParts → Fact → Bool
anything p fact = true

-- whether the word is wrong as the second argument of a call with this first one
abbrev wrong_behind : (ParameterParts → Fact → Bool) → Argument → List ℕ → Bool
wrong_behind may first word = is_wrong no_facts may (call (first ∷ Written word ∷ [])) word (NotBelow 0)

-- a weight of 65536 is written where one is asked for; two bounds don't rise, where both are written and where the first
-- is handed on
arguments :
    is_wrong no_facts nothing (call []) (codes "65536") (Number (record { least = 0; most = 65535 })) ∷ is_wrong no_facts nothing (call []) (codes "65535") (Number (record { least = 0; most = 65535 }))
    ∷ wrong_behind nothing (Written (codes "20")) (codes "19") ∷ wrong_behind nothing (Written (codes "20")) (codes "20") ∷ wrong_behind nothing (Written (codes "33")) (codes "19")
    ∷ wrong_behind anything (Parameter (codes "a")) (codes "31") ∷ wrong_behind anything (Parameter (codes "a")) (codes "32") ∷ wrong_behind nothing (Parameter (codes "a")) (codes "31") ∷ []
    ≡ true ∷ false ∷ true ∷ false ∷ false ∷ true ∷ false ∷ false ∷ []
unfolding number_in any_above
arguments = refl
