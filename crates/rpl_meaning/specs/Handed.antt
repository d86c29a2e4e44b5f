-- What is handed to an applied policy, word by word.
use Rattle.std.specs.Prelude.{ℕ, true, false, List, [], ◌∷◌, bytes_eq, map}
use Rattle.rpl_forms.specs.declared.item.Apply.{Apply}
use Rattle.rpl_forms.specs.declared.item.Argument.{Argument}
use Rattle.rpl_meaning.specs.Sets.{Bindings, word_given}

-- the word of the first argument, empty where there is none
abbrev pub first_word : Bindings → List Argument → List ℕ
first_word bs [] = []
first_word bs (a ∷ given) = word_given bs a

-- what parameters stand for, by the words that are handed to them in their order
unfoldable pub bound : List (List ℕ) → List (List ℕ) → Bindings
bound [] words x = []
bound (y ∷ ys) [] x = []
bound (y ∷ ys) (w ∷ words) x = elim (bytes_eq x y) [ true ↦ w | false ↦ bound ys words x ]

-- the words that an `apply` hands on, behind the name of its policy
abbrev pub key_words : Bindings → Apply → List (List ℕ)
key_words bs a = a.policy ∷ map (word_given bs) a.arguments
