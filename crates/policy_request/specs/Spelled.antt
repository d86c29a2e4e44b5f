-- How a request is read from the values that clap's definition gives.
use Rattle.std.specs.Prelude.{◌≡◌, ℕ, Bool, true, false, List, [], ◌∷◌, Option, Some, None, Result, Ok, Err, bytes_eq, codes, ⊤}
use Rattle.clap.specs.Words.{App, Kinds, Row, fault_of, first_of, found_of, is_simple_and_free, matches_of, new_app, rows_of, with_rule}
use Rattle.clap.specs.declared.parser.matches.ArgMatches.{ArgMatches}
use Rattle.route_types.specs.Words.{◌>>=◌, when}
use Rattle.policy_request.specs.Words.{Verb, Translates, Judges, Slot, slots, option_rule, Request, request_by, app_of_verb, request_view}
use Rattle.policy_request.specs.declared.command.Request.{Request as Asked}
use Rattle.policy_request.specs.declared.command.WordsFault.{WordsFault}
use Rattle.policy_request.specs.declared.command.WordsFault.TheVariants.{Usage, Memory}

-- the command is one of which clap's definition gives the values and the faults
unfoldable pub is_plain : App → Bool
is_plain command = is_simple_and_free command

-- a command with its first two options
abbrev pub with_options : List ℕ → List ℕ → List ℕ → App
with_options verb first second = with_rule (with_rule (new_app verb) (option_rule first)) (option_rule second)

-- what is made of the values of a table, each where it is of its form
abbrev pub made_by : List Row → List Slot → (List (List ℕ) → Option Request) → Option Request
made_by rows [] make = make []
made_by rows (s ∷ ss) make = do
  word ← first_of s.name rows
  value ← when (s.is_formed (λ name. first_of name rows) word) word
  made_by rows ss (λ values. make (value ∷ values))

-- what a verb is asked by its values
unfoldable pub asked_in : Verb → List Row → Option Request
asked_in verb rows = made_by rows (slots verb) (request_by verb)

-- there is no fault
abbrev pub has_none : Kinds → Bool
has_none [] = true
has_none (k ∷ ks) = false

-- the values that clap's definition gives, where it finds no fault
unfoldable pub rows_in : App → List (List ℕ) → Option (List Row)
rows_in command words = when (has_none (fault_of command words)) (matches_of command words)

-- what the words ask for behind a verb
unfoldable pub asked : Verb → List (List ℕ) → Option Request
asked verb words = rows_in (app_of_verb verb) words >>= asked_in verb

-- what the words ask for, by their verb
unfoldable pub request_in : List (List ℕ) → Option Request
request_in [] = None
request_in (first ∷ others) = elim (bytes_eq first (codes "translate")) [
  | true ↦ asked Translates (first ∷ others)
  | false ↦ elim (bytes_eq first (codes "judge")) [ true ↦ asked Judges (first ∷ others) | false ↦ None ]
]

-- an answer is this, or want of memory
abbrev pub AnswersBy : Option Request → Result Asked WordsFault → Type 0
AnswersBy found (Ok q) = found ≡ Some (request_view q)
AnswersBy found (Err Usage) = found ≡ None
AnswersBy found (Err Memory) = ⊤

-- a parse gave these values, or want of memory
abbrev pub ParsesBy : Option (List Row) → Result ArgMatches WordsFault → Type 0
ParsesBy found (Ok m) = found ≡ Some (rows_of (found_of m))
ParsesBy found (Err Usage) = found ≡ None
ParsesBy found (Err Memory) = ⊤
