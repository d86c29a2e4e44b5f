-- The words of the commands. One table says what a verb takes, each with its form: the command of clap, the accepted
-- words, the causes of refusal and the reader stand on it.
use Rattle.std.specs.Prelude.{◌≡◌, ◌≢◌, ◌⊎◌, ℕ, ◌&&◌, not, Bool, true, false, nat_lt, ◌==◌, List, [], ◌∷◌, length, Option, Some, None, bytes_eq, codes, option_map}
use Rattle.std.specs.List.{list_all}
use Rattle.std.specs.Option.{is_some}
use Rattle.clap.specs.Words.{App, Rule, fault_of, first_of, matches_of, new_app, new_rule, with_rule}
use Rattle.route_types.specs.Words.{◌>>=◌}
use Rattle.policy_request.specs.NewNames.{is_new_name}
use Rattle.policy_request.specs.Languages.{language_in, names_in, are_given}
use Rattle.policy_request.specs.declared.command.JudgeWords.{JudgeWords}
use Rattle.policy_request.specs.declared.command.Request.{Request as Asked}
use Rattle.policy_request.specs.declared.command.Request.TheVariants as asked
use Rattle.policy_request.specs.declared.command.TranslateWords.{TranslateWords}
use Rattle.policy_request.specs.declared.language.Language.{Language}

-- the verbs that are open
pub data Verb : Type 0 where
  Translates : Verb
  Judges : Verb

-- the word that stands first
abbrev pub verb_word : Verb → List ℕ
verb_word Translates = codes "translate"
verb_word Judges = codes "judge"

-- a byte of a policy word: not below 33, no `"` and no `'`
abbrev pub is_policy_byte : ℕ → Bool
is_policy_byte c = not (nat_lt c 33) && not (c == 34) && not (c == 39)

-- a policy word is not empty and has such bytes alone
abbrev pub is_policy_word : List ℕ → Bool
is_policy_word word = not (length word == 0) && list_all is_policy_byte word

-- and in a language, if there is one, it names policies, none of an empty name
abbrev pub is_policy_word_of : Option Language → List ℕ → Bool
is_policy_word_of None word = false
is_policy_word_of (Some language) word = is_policy_word word && are_given (names_in language word)

-- what the words give under the names of options and files
abbrev pub Given : Type 0
Given = List ℕ → Option (List ℕ)

-- what a verb takes: the option `--name` with its value, or a file, which has no word in front; and the form of the
-- value, which may depend on what else is given
pub record Slot : Type 0 where
  pub name : List ℕ
  pub is_option : Bool
  pub is_formed : Given → List ℕ → Bool

abbrev pub option_slot : List ℕ → (List ℕ → Bool) → Slot
option_slot name is_formed = record { name = name; is_option = true; is_formed = λ given word. is_formed word }

-- a policy word in the language that an option gives
abbrev pub policy_slot : List ℕ → List ℕ → Slot
policy_slot name option = record { name = name; is_option = true; is_formed = λ given word. is_policy_word_of (given option >>= language_in) word }

abbrev pub file_slot : List ℕ → Slot
file_slot name = record { name = name; is_option = false; is_formed = λ given word. true }

-- the table of each verb
abbrev pub slots : Verb → List Slot
slots Translates =
    option_slot (codes "from") (bytes_eq (codes "ios")) ∷ option_slot (codes "to") (bytes_eq (codes "rpl")) ∷ option_slot (codes "policy") is_policy_word
    ∷ option_slot (codes "as") is_new_name ∷ file_slot (codes "file") ∷ []
slots Judges = option_slot (codes "from") (λ word. is_some (language_in word)) ∷ policy_slot (codes "policy") (codes "from") ∷ file_slot (codes "file") ∷ file_slot (codes "route-file") ∷ []

-- what the words of `translate` name: the policy, its new name, and the file
pub record TranslateParts : Type 0 where
  pub policy : List ℕ
  pub name : List ℕ
  pub file : List ℕ

-- what the words of `judge` name: the language, the policy word, the policy's file, and the file of the route
pub record JudgeParts : Type 0 where
  pub language : Language
  pub policy : List ℕ
  pub file : List ℕ
  pub route_file : List ℕ

-- what words ask for
pub data Request : Type 0 where
  Translate : TranslateParts → Request
  Judge : JudgeParts → Request

-- the request that the values of the table make, in its order
abbrev pub request_by : Verb → List (List ℕ) → Option Request
request_by Translates (from ∷ to ∷ policy ∷ name ∷ file ∷ []) = Some (Translate (record { policy = policy; name = name; file = file }))
request_by Judges (from ∷ policy ∷ file ∷ route_file ∷ []) =
    option_map (λ language. Judge (record { language = language; policy = policy; file = file; route_file = route_file })) (language_in from)
request_by verb values = None

-- ---- the command of clap

-- an option, which takes one value, and a file; each is required
abbrev pub option_rule : List ℕ → Rule
option_rule name = record (new_rule name) { long = Some name; required = true }

abbrev pub file_rule : List ℕ → Rule
file_rule name = record (new_rule name) { required = true }

abbrev pub rule_of : Slot → Rule
rule_of s = elim s.is_option [ true ↦ option_rule s.name | false ↦ file_rule s.name ]

abbrev pub with_slots : App → List Slot → App
with_slots command [] = command
with_slots command (s ∷ ss) = with_slots (with_rule command (rule_of s)) ss

-- the command of a verb
unfoldable pub app_of_verb : Verb → App
app_of_verb verb = with_slots (new_app (verb_word verb)) (slots verb)

-- ---- accepted and refused words

-- what clap's definition gives under each name
abbrev pub given_in : App → List (List ℕ) → Given
given_in command words name = first_of name (matches_of command words)

-- the value that clap's definition gives to an option or a file
abbrev pub value_of : App → List (List ℕ) → Slot → Option (List ℕ)
value_of command words s = given_in command words s.name

-- the values are those of the table, each of its form
abbrev pub AreValues : App → List (List ℕ) → List Slot → List (List ℕ) → Type 0
AreValues command words [] [] = Unit {0}
AreValues command words (s ∷ ss) (v ∷ vs) = (value_of command words s ≡ Some v) × (s.is_formed (given_in command words) v ≡ true) × AreValues command words ss vs
AreValues command words ss vs = ⊥

-- the verb stands first
abbrev pub BeginsWith : Verb → List (List ℕ) → Type 0
BeginsWith verb words = (others : List (List ℕ)) × (words ≡ verb_word verb ∷ others)

-- the words are accepted, and make this request: a verb, words in which clap's definition finds no fault, and values of their forms
pub record Accepts (words : List (List ℕ)) (q : Request) : Type 0 where
  pub verb : Verb
  pub begins : BeginsWith verb words
  pub faultless : fault_of (app_of_verb verb) words ≡ []
  pub values : List (List ℕ)
  pub formed : AreValues (app_of_verb verb) words (slots verb) values
  pub makes : request_by verb values ≡ Some q

-- the words make no request
abbrev pub IsRefused : List (List ℕ) → Type 0
IsRefused words = (q : Request) → Accepts words q → ⊥

-- a value of the table is given that is out of its form
abbrev pub AnyMisformed : App → List (List ℕ) → List Slot → Type 0
AnyMisformed command words [] = ⊥
AnyMisformed command words (s ∷ ss) = ((v : List ℕ) × (value_of command words s ≡ Some v) × (s.is_formed (given_in command words) v ≡ false)) ⊎ AnyMisformed command words ss

-- why words are refused: the verb is unknown, clap's definition finds a fault, or a value is out of its form
pub data UsageCause (words : List (List ℕ)) : Type 0 where
  unknown_verb : ((verb : Verb) → BeginsWith verb words → ⊥) → UsageCause words
  faulty : (verb : Verb) → BeginsWith verb words → fault_of (app_of_verb verb) words ≢ [] → UsageCause words
  misformed : (verb : Verb) → BeginsWith verb words → AnyMisformed (app_of_verb verb) words (slots verb) → UsageCause words

-- what the code was asked, as texts
abbrev pub translate_view : TranslateWords → TranslateParts
translate_view t = record { policy = t.policy.now; name = t.name.now; file = t.file.now }

abbrev pub judge_view : JudgeWords → JudgeParts
judge_view j = record { language = j.language; policy = j.policy.now; file = j.file.now; route_file = j.route_file.now }

abbrev pub request_view : Asked → Request
request_view (asked.Translate t) = Translate (translate_view t)
request_view (asked.Judge j) = Judge (judge_view j)
