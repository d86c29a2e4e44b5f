-- Worked examples, which the checker computes: the patterns `_1_` and `^$` as lines, and where paths lead in them.
use Rattle.std.proofs.Common.{◌≡◌, true, false, List, [], ◌∷◌, Some, None, refl}
use Rattle.path_classes.specs.Numbers.{leasts_of, mosts_of, in_ends}
use Rattle.path_classes.specs.Letters.{befores, all_ends, signature}
use Rattle.path_classes.specs.Threads.{entered, next, starts_from}
use Rattle.path_classes.specs.Tidy.{tidied_from, tidied}
use Rattle.path_classes.specs.Answers.{marked, answers_of}
use Rattle.path_classes.specs.declared.lines.Turn.{Turn}
use Rattle.path_classes.specs.declared.lines.Line.{Line}
use Rattle.path_classes.specs.declared.threads.Stage.TheVariants.{Always, Ended, Inside}
use Rattle.path_classes.specs.declared.threads.Thread.{Thread}

-- ---- numbers

-- of the ranges 5 to 9, 7 to 3 and 8 to 20 two have numbers
leasts : leasts_of (record { least = 5; most = 9 } ∷ record { least = 7; most = 3 } ∷ record { least = 8; most = 20 } ∷ []) ≡ 5 ∷ 8 ∷ []
unfolding leasts_of
leasts = refl

mosts : mosts_of (record { least = 5; most = 9 } ∷ record { least = 7; most = 3 } ∷ record { least = 8; most = 20 } ∷ []) ≡ 9 ∷ 20 ∷ []
unfolding mosts_of
mosts = refl

nine_in : in_ends (5 ∷ 8 ∷ []) (9 ∷ 20 ∷ []) 9 ≡ true
nine_in = refl

twenty_one_out : in_ends (5 ∷ 8 ∷ []) (9 ∷ 20 ∷ []) 21 ≡ false
twenty_one_out = refl

-- no number stands before 0
before : befores (0 ∷ 7 ∷ []) ≡ 6 ∷ []
unfolding befores
before = refl

-- ---- `_1_` at place 0 and `^$` at place 1

any_numbers : Turn
any_numbers = record { set = record { leasts = 0 ∷ []; mosts = 4294967295 ∷ [] }; least = 0; most = None; whole = true }

one : Turn
one = record { set = record { leasts = 1 ∷ []; mosts = 1 ∷ [] }; least = 1; most = Some 1; whole = false }

lines : List Line
lines = record { pattern = 0; turns = any_numbers ∷ one ∷ any_numbers ∷ [] } ∷ record { pattern = 1; turns = [] } ∷ []

-- the numbers are cut behind 0 and behind 1
ends : all_ends lines ≡ 4294967295 ∷ 4294967295 ∷ 0 ∷ 1 ∷ 4294967295 ∷ []
unfolding lines any_numbers one befores
ends = refl

-- 1 is another letter than 2, and 2 is the same as 3
letter_of_one : signature lines 1 ≡ true ∷ true ∷ true ∷ []
unfolding lines any_numbers one
letter_of_one = refl

letter_of_two : signature lines 2 ≡ signature lines 3
unfolding lines any_numbers one
letter_of_two = refl

waits : Thread
waits = record { pattern = 0; stage = Inside (record { line = 0; left = 3; least = 0; most = None }) }

takes_one : Thread
takes_one = record { pattern = 0; stage = Inside (record { line = 0; left = 2; least = 1; most = Some 1 }) }

always : Thread
always = record { pattern = 0; stage = Always }

ended : Thread
ended = record { pattern = 1; stage = Ended }

-- the empty path
start : starts_from 0 lines ≡ waits ∷ takes_one ∷ ended ∷ []
unfolding lines any_numbers one waits takes_one ended entered starts_from
start = refl

start_answers : answers_of 2 (waits ∷ takes_one ∷ ended ∷ []) ≡ false ∷ true ∷ []
unfolding waits takes_one ended marked
start_answers = refl

-- a 1 leads to all paths, which cover what else `_1_` may take
one_leads : next lines 1 takes_one ≡ always ∷ record { pattern = 0; stage = Ended } ∷ []
unfolding lines any_numbers one takes_one always entered
one_leads = refl

one_kept : tidied (always ∷ record { pattern = 0; stage = Ended } ∷ waits ∷ takes_one ∷ []) ≡ always ∷ []
unfolding always waits takes_one tidied_from
one_kept = refl

one_answers : answers_of 2 (always ∷ []) ≡ true ∷ false ∷ []
unfolding always marked
one_answers = refl

-- a 2 leads to what `_1_` waits for, and ends `^$`
two_leads : next lines 2 waits ≡ waits ∷ takes_one ∷ []
unfolding lines any_numbers one waits takes_one entered
two_leads = refl

two_ends : next lines 2 ended ≡ []
unfolding ended
two_ends = refl

two_answers : answers_of 2 (waits ∷ takes_one ∷ []) ≡ false ∷ false ∷ []
unfolding waits takes_one marked
two_answers = refl
