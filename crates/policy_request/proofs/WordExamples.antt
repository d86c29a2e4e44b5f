-- Worked examples that the checker computes.
use Rattle.std.proofs.Common.{◌≡◌, refl, false, List, [], ◌∷◌, ◌++◌, ℕ}
use Rattle.std.specs.Prelude.{codes}
use Rattle.policy_request.specs.Languages.{are_given, names_from, names_in}
use Rattle.policy_request.specs.declared.language.Language.TheVariants.{Ios, Junos, Rpl}
use Rattle.policy_request.specs.Words.{Translate, Judge, TranslateParts, JudgeParts, Accepts, IsRefused}
use Rattle.policy_request.proofs.OnLiterals.{words_on_literals}
use Rattle.policy_request.proofs.Words.{request_found, refused_by_none}

abbrev translation : TranslateParts
translation = record { policy = codes "IN"; name = codes "in"; file = codes "in.cfg" }

abbrev judgement : JudgeParts
judgement = record { language = Ios; policy = codes "A,B"; file = codes "in.cfg"; route_file = codes "route.txt" }

abbrev from_ios : List (List ℕ)
from_ios = codes "--from" ∷ codes "ios" ∷ []

abbrev to_rpl : List (List ℕ)
to_rpl = codes "--to" ∷ codes "rpl" ∷ []

abbrev behind_verb : List (List ℕ) → List (List ℕ)
behind_verb others = codes "translate" ∷ others

-- the ten words of `translate`, and the seven of `judge`
ten : Accepts
    (codes "translate" ∷ codes "--from" ∷ codes "ios" ∷ codes "--policy" ∷ codes "IN" ∷ codes "--to" ∷ codes "rpl" ∷ codes "--as" ∷ codes "in" ∷ codes "in.cfg" ∷ [])
    (Translate translation)
unfolding words_on_literals
ten = request_found _ (Translate translation) refl

seven : Accepts (codes "judge" ∷ codes "--from" ∷ codes "ios" ∷ codes "--policy" ∷ codes "A,B" ∷ codes "in.cfg" ∷ codes "route.txt" ∷ []) (Judge judgement)
unfolding words_on_literals
seven = request_found _ (Judge judgement) refl

-- options behind the file, in another order, and a value behind `=`
other_order : Accepts (codes "translate" ∷ codes "in.cfg" ∷ codes "--as" ∷ codes "in" ∷ codes "--policy=IN" ∷ to_rpl ++ from_ios) (Translate translation)
unfolding words_on_literals
other_order = request_found _ (Translate translation) refl

files_apart : Accepts (codes "judge" ∷ codes "in.cfg" ∷ codes "--policy=A,B" ∷ codes "route.txt" ∷ from_ios) (Judge judgement)
unfolding words_on_literals
files_apart = request_found _ (Judge judgement) refl

-- behind `--` each word is a file, and a file may be an empty word
behind_dashes : Accepts (codes "judge" ∷ codes "--policy" ∷ codes "A,B" ∷ from_ios ++ codes "--" ∷ codes "--help" ∷ [] ∷ [])
    (Judge (record { language = Ios; policy = codes "A,B"; file = codes "--help"; route_file = [] }))
unfolding words_on_literals
behind_dashes = request_found _ (Judge (record { language = Ios; policy = codes "A,B"; file = codes "--help"; route_file = [] })) refl

-- no words, a verb alone, another verb, and a verb that is not the first word
no_words : IsRefused []
unfolding words_on_literals
no_words = refused_by_none [] refl

verb_alone : IsRefused (codes "judge" ∷ [])
unfolding words_on_literals
verb_alone = refused_by_none (codes "judge" ∷ []) refl

another_verb : IsRefused (codes "explain" ∷ from_ios ++ codes "--policy=A" ∷ codes "in.cfg" ∷ codes "route.txt" ∷ [])
unfolding words_on_literals
another_verb = refused_by_none _ refl

late_verb : IsRefused (from_ios ++ codes "judge" ∷ codes "--policy=A" ∷ codes "in.cfg" ∷ codes "route.txt" ∷ [])
unfolding words_on_literals
late_verb = refused_by_none _ refl

-- a request for help, an unknown option, an option twice, a missing value, a missing option, a file more and one fewer
wants_help : IsRefused (behind_verb (from_ios ++ to_rpl ++ codes "--policy=IN" ∷ codes "--as=in" ∷ codes "in.cfg" ∷ codes "--help" ∷ []))
unfolding words_on_literals
wants_help = refused_by_none _ refl

unknown_option : IsRefused (behind_verb (from_ios ++ to_rpl ++ codes "--policy=IN" ∷ codes "--as=in" ∷ codes "--fast" ∷ codes "in.cfg" ∷ []))
unfolding words_on_literals
unknown_option = refused_by_none _ refl

option_twice : IsRefused (behind_verb (from_ios ++ to_rpl ++ codes "--policy=IN" ∷ codes "--policy=IN" ∷ codes "--as=in" ∷ codes "in.cfg" ∷ []))
unfolding words_on_literals
option_twice = refused_by_none _ refl

missing_value : IsRefused (behind_verb (from_ios ++ to_rpl ++ codes "--policy=IN" ∷ codes "in.cfg" ∷ codes "--as" ∷ []))
unfolding words_on_literals
missing_value = refused_by_none _ refl

missing_option : IsRefused (behind_verb (from_ios ++ to_rpl ++ codes "--policy=IN" ∷ codes "in.cfg" ∷ []))
unfolding words_on_literals
missing_option = refused_by_none _ refl

file_more : IsRefused (behind_verb (from_ios ++ to_rpl ++ codes "--policy=IN" ∷ codes "--as=in" ∷ codes "in.cfg" ∷ codes "in.cfg" ∷ []))
unfolding words_on_literals
file_more = refused_by_none _ refl

file_fewer : IsRefused (codes "judge" ∷ from_ios ++ codes "--policy=IN" ∷ codes "in.cfg" ∷ [])
unfolding words_on_literals
file_fewer = refused_by_none _ refl

-- a chain of Junos, and one with an empty name
chain : Accepts (codes "judge" ∷ codes "--from=junos" ∷ codes "--policy=A,B" ∷ codes "in.cfg" ∷ codes "route.txt" ∷ []) (Judge (record judgement { language = Junos }))
unfolding words_on_literals names_from
chain = request_found _ (Judge (record judgement { language = Junos })) refl

empty_name : IsRefused (codes "judge" ∷ codes "--from=junos" ∷ codes "--policy=A,,B" ∷ codes "in.cfg" ∷ codes "route.txt" ∷ [])
unfolding words_on_literals names_from
empty_name = refused_by_none _ refl

-- a policy of RPL, whose name is the whole word
of_rpl : Accepts (codes "judge" ∷ codes "--from=rpl" ∷ codes "--policy=A,B" ∷ codes "in.cfg" ∷ codes "route.txt" ∷ []) (Judge (record judgement { language = Rpl }))
unfolding words_on_literals
of_rpl = request_found _ (Judge (record judgement { language = Rpl })) refl

-- a language that there is not, a policy with a quote or of no byte, and a name that starts with a digit
not_open : IsRefused (codes "judge" ∷ codes "--from=xr" ∷ codes "--policy=IN" ∷ codes "in.cfg" ∷ codes "route.txt" ∷ [])
unfolding words_on_literals
not_open = refused_by_none _ refl

has_quote : IsRefused (codes "judge" ∷ from_ios ++ codes "--policy=a'b" ∷ codes "in.cfg" ∷ codes "route.txt" ∷ [])
unfolding words_on_literals
has_quote = refused_by_none _ refl

no_policy : IsRefused (codes "judge" ∷ from_ios ++ codes "--policy=" ∷ codes "in.cfg" ∷ codes "route.txt" ∷ [])
unfolding words_on_literals
no_policy = refused_by_none _ refl

starts_with_digit : IsRefused (behind_verb (from_ios ++ to_rpl ++ codes "--policy=IN" ∷ codes "--as=7x" ∷ codes "in.cfg" ∷ []))
unfolding words_on_literals
starts_with_digit = refused_by_none _ refl

-- the names in a policy word
one_name : names_in Ios (codes "A,B") ≡ codes "A,B" ∷ []
one_name = refl

name_of_rpl : names_in Rpl (codes "A,B") ≡ codes "A,B" ∷ []
name_of_rpl = refl

two_names : names_in Junos (codes "A,BC") ≡ codes "A" ∷ codes "BC" ∷ []
unfolding names_from
two_names = refl

no_last_name : are_given (names_in Junos (codes "A,")) ≡ false
unfolding names_from
no_last_name = refl
