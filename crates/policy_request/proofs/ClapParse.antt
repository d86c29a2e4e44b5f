-- From clap's contract of a parse to the values that its definition gives.
use Rattle.std.proofs.Common.{◌≡◌, refl, sym, ap, ◌∙◌, true, List, [], ◌∷◌, Option, Some, None, Err, inl, inr}
use Rattle.std.specs.Prelude.{option_map}
use Rattle.std.proofs.lemmas.Bool.{and_parts}
use Rattle.std.specs.Borrow.{Bor}
use Rattle.clap.proofs.WalkLemmas.{first_value-rows}
use Rattle.clap.specs.Faults.{is_free_app}
use Rattle.clap.specs.Words.{App, HasKind, HasMatchesOf, Kinds, Row, Text, built, fault_of, first_of, first_value, found_of, is_simple, is_simple_and_free, kind_of, matches_of, rows_of}
use Rattle.clap.specs.declared.error.Error.{Error}
use Rattle.clap.specs.declared.error.kind.ErrorKind.TheVariants.{OutOfMemory}
use Rattle.clap.specs.declared.parser.matches.ArgMatches.{ArgMatches}
use Rattle.route_types.specs.Words.{when}
use Rattle.policy_request.specs.Words.{Translates, Judges, app_of_verb}
use Rattle.policy_request.specs.Spelled.{ParsesBy, has_none, is_plain, rows_in}
use Rattle.policy_request.specs.declared.command.WordsFault.{WordsFault}
use Rattle.policy_request.specs.declared.command.WordsFault.TheVariants.{Usage, Memory}

-- both commands are simple, and none of their arguments has a rule on another
pub translate_simple : (command : App) → command ≡ app_of_verb Translates → is_plain command ≡ true
unfolding app_of_verb is_plain
translate_simple command e = ap is_plain e

pub judge_simple : (command : App) → command ≡ app_of_verb Judges → is_plain command ≡ true
unfolding app_of_verb is_plain
judge_simple command e = ap is_plain e

-- the first value of a name, by the rows
pub value_row : (m : ArgMatches) (name : Text) (found : Option (Bor Text)) → option_map (λ s. s.now) found ≡ first_value (found_of m) name
    → option_map (λ s. s.now) found ≡ first_of name (rows_of (found_of m))
value_row m name found e = e ∙ first_value-rows (found_of m) name

-- matches come where there is no fault, and are those of the definition
pub parsed_well : (command : App) (words : List Text) (m : ArgMatches) → is_plain command ≡ true → (is_simple_and_free command ≡ true → fault_of command words ≡ []) → HasMatchesOf command words m
    → rows_in command words ≡ Some (rows_of (found_of m))
unfolding rows_in is_plain
parsed_well command words m simple none same =
    let is_simple : is_simple command ≡ true = (and_parts (is_simple command) (is_free_app (built command)) simple).0 in
    ap (λ (ks : Kinds). when (has_none ks) (matches_of command words)) (none simple) ∙ ap (λ (rows : List Row). Some rows) (sym (same is_simple).0)

-- an error comes by a fault, or by want of memory
pub parsed_badly : (command : App) (words : List Text) (e : Error) (fault : WordsFault) → is_plain command ≡ true → (is_simple_and_free command ≡ true → HasKind (fault_of command words) e) → (fault ≡ Usage → kind_of e ≡ OutOfMemory → ⊥)
    → ParsesBy (rows_in command words) (Err fault)
unfolding rows_in is_plain
parsed_badly command words e Memory simple has other = tt
parsed_badly command words e Usage simple has other = faulty (fault_of command words) (has simple)
  where
    faulty : (ks : Kinds) → HasKind ks e → when (has_none ks) (matches_of command words) ≡ None
    faulty (k ∷ ks) h = refl
    faulty [] (inl memory) = absurd (other refl memory)
    faulty [] (inr among) = absurd among
