-- What the cut of a Junos text owes from one byte to the next: the statements so far and what is still to
-- come are the text's outcome.
use Rattle.std.specs.Prelude.{◌≡◌, List, ◌++◌, Result, Ok, Err}
use Rattle.text_words.specs.declared.fault.TextFault.{TextFault}
use Rattle.text_words.specs.declared.junos_groups.Groups.{Groups}
use Rattle.text_words.specs.JunosWords.{Token}
use Rattle.text_words.specs.JunosCut.{Outcome, in_front, grouped, FaultIs}

-- the outcome of the tokens that come, behind the groups so far
abbrev pub outcome_behind : Groups → List Token → Outcome
outcome_behind groups ts = in_front groups.statements (grouped groups.words groups.opened ts)

-- the groups took these tokens, whatever follows them
abbrev pub Took : Groups → Groups → List Token → Type 0
Took old new tokens = (ts : List Token) → outcome_behind new ts ≡ outcome_behind old (tokens ++ ts)

-- the groups took these tokens, or the first fault stands there
abbrev pub Takes : {A : Type 0} → Groups → Groups → List Token → Result A TextFault → Type 0
Takes old new tokens (Ok x) = Took old new tokens
Takes old new tokens (Err fault) = (ts : List Token) → FaultIs (outcome_behind old (tokens ++ ts)) fault
