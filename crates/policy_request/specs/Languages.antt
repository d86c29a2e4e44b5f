-- The languages that policies are read in for judge: the word of each, and the names in a policy word.
use Rattle.std.specs.Prelude.{◌≡◌, ℕ, Bool, true, false, not, ◌&&◌, ◌==◌, List, [], ◌∷◌, ◌++◌, length, map, Option, codes}
use Rattle.std.specs.Borrow.{Bor}
use Rattle.std.specs.List.{list_all}
use Rattle.policy_text.specs.Phrases.{one_of}
use Rattle.policy_request.specs.declared.language.Language.{Language}
use Rattle.policy_request.specs.declared.language.Language.TheVariants.{Ios, Junos, Rpl}

-- the word of each language
abbrev pub language_words : List (List ℕ × Language)
language_words = (codes "ios", Ios) ∷ (codes "junos", Junos) ∷ (codes "rpl", Rpl) ∷ []

-- the language of a word, if it has one
abbrev pub language_in : List ℕ → Option Language
language_in word = one_of language_words word

-- the names between the commas of a word, behind these bytes of the first of them
unfoldable pub names_from : List ℕ → List ℕ → List (List ℕ)
names_from begun [] = begun ∷ []
names_from begun (c ∷ cs) = elim (c == 44) [ true ↦ begun ∷ names_from [] cs | false ↦ names_from (begun ++ c ∷ []) cs ]

-- the names in a policy word: one, which is the whole word, or in Junos those of a chain, with a comma between two
abbrev pub names_in : Language → List ℕ → List (List ℕ)
names_in Ios word = word ∷ []
names_in Junos word = names_from [] word
names_in Rpl word = word ∷ []

-- the texts of names, without where they lie in memory
abbrev pub texts_of : List (Bor (List ℕ)) → List (List ℕ)
texts_of names = map (λ name. name.now) names

-- names with a comma between two, behind the first of them
unfoldable pub with_commas : List ℕ → List (List ℕ) → List ℕ
with_commas name [] = name
with_commas name (other ∷ names) = name ++ (44 ∷ with_commas other names)

-- there is no comma in a name
abbrev pub is_whole : List ℕ → Bool
is_whole name = list_all (λ c. not (c == 44)) name

-- a word is these names, with a comma between two and none in any
pub record IsChain (word : List ℕ) (names : List (List ℕ)) : Type 0 where
  pub first : List ℕ
  pub others : List (List ℕ)
  pub named : names ≡ first ∷ others
  pub spelled : word ≡ with_commas first others
  pub whole : list_all is_whole names ≡ true

-- no name is empty
abbrev pub are_given : List (List ℕ) → Bool
are_given names = list_all (λ name. not (length name == 0)) names

-- the same of the names between the commas of a word, told from the front by whether the first of them has begun
unfoldable pub are_given_from : Bool → List ℕ → Bool
are_given_from begun [] = begun
are_given_from begun (c ∷ cs) = elim (c == 44) [ true ↦ begun && are_given_from false cs | false ↦ are_given_from true cs ]
