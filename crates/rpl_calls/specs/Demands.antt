-- What arguments are asked: what a policy asks of a parameter is asked of each argument that is handed to it, and so of the
-- parameter that such an argument hands on.
use Rattle.std.specs.Prelude.{ℕ, nat_le, List, [], Option, Some, None, map, slice_get}
use Rattle.std.specs.List.{flat_map}
use Rattle.route_types.specs.Words.{◌>>=◌, when, number_in}
use Rattle.rpl_calls.specs.Asks.{OwnAsk}
use Rattle.rpl_calls.specs.Calls.{CallParts}
use Rattle.rpl_calls.specs.Parameters.{ParameterParts}
use Rattle.rpl_calls.specs.Arguments.{ArgumentParts, word_at, own_at, handed_to}
use Rattle.rpl_calls.specs.declared.ask.Question.{Question}
use Rattle.rpl_calls.specs.declared.ask.Question.TheVariants.{Number, Set, NotBelow}
use Rattle.rpl_calls.specs.declared.demand.Demand.{Demand}

-- a number from one to another
abbrev pub number_within : ℕ → ℕ → List ℕ → Option ℕ
number_within least most word = number_in most word >>= λ n. when (nat_le least n) n

-- what is asked of the second of two bounds, where the first is written in the same call, or handed on by it too
abbrev pub bound_up : Option (List ℕ) → Option ℕ → Option Question
bound_up (Some word) own = number_in 32 word >>= λ n. Some (Number (record { least = n; most = 32 }))
bound_up None own = own >>= λ m. Some (NotBelow m)

-- what is asked of a parameter that is handed on in a call where this is asked
abbrev pub question_up : CallParts → Question → Option Question
question_up c (Number r) = Some (Number r)
question_up c (Set sort) = Some (Set sort)
question_up c (NotBelow n) = bound_up (word_at c n) (own_at c n)

abbrev pub ask_up : ArgumentParts → Question → Option OwnAsk
ask_up a question = do
  place ← own_at a.call a.place
  next ← question_up a.call question
  Some (record { policy = a.call.caller; ask = record { place = place; question = next } })

-- the parameter of which something is asked
abbrev pub asked_of : OwnAsk → ParameterParts
asked_of o = record { policy = o.policy; place = o.ask.place }

-- the question of each argument that is handed to the parameter
abbrev pub of_arguments : List ArgumentParts → OwnAsk → List Demand
of_arguments args o = map (λ k. record { argument = k; question = o.ask.question }) (handed_to args (asked_of o))

-- what an argument that is asked something asks of the parameter that it hands on
abbrev pub asked_above : List ArgumentParts → Demand → Option OwnAsk
asked_above args d = slice_get args d.argument >>= λ a. ask_up a d.question

-- and so of the arguments that are handed to that one
abbrev pub next_demands : List ArgumentParts → Demand → List Demand
next_demands args d = elim (asked_above args d) [ None ↦ [] | Some o ↦ of_arguments args o ]

-- what arguments are asked by the policies that they are handed to
abbrev pub first_demands : List ArgumentParts → List OwnAsk → List Demand
first_demands args asks = flat_map (of_arguments args) asks
