-- The names of the definitions of a policy that is written.
use Rattle.std.specs.Prelude.{◌≡◌, ℕ, ◌⊎◌, List, [], ◌∷◌, ◌++◌, Option, Some, None, codes}
use Rattle.std.specs.List.{AllByRecursion}
use Rattle.junos_reader.specs.Statements.{named_by}
use Rattle.junos_tree.specs.Sorts.{name_of_form}
use Rattle.junos_tree.specs.declared.item.JunosForm.{JunosForm}

-- the name itself, or the name with `-` and more behind it
abbrev pub IsOwnName : List ℕ → List ℕ → Type 0
IsOwnName name other = (other ≡ name) ⊎ ((rest : List ℕ) × (other ≡ name ++ (45 ∷ rest)))

-- a name in front of others, if it is there
abbrev pub onto_names : Option (List ℕ) → List (List ℕ) → List (List ℕ)
onto_names None names = names
onto_names (Some name) names = name ∷ names

-- the names of the definitions of forms
unfoldable pub names_of : List JunosForm → List (List ℕ)
names_of [] = []
names_of (f ∷ fs) = onto_names (name_of_form f) (names_of fs)

-- what a form names is the policy's own
abbrev pub NamesOwn : List ℕ → JunosForm → Type 0
NamesOwn name form = AllByRecursion (IsOwnName name) (named_by form).1

-- the bytes that stand in no name: `*`, since `/*` opens a comment, those that end words, and marks
abbrev pub breaks_names : List ℕ
breaks_names = 42 ∷ 9 ∷ 32 ∷ 10 ∷ 13 ∷ 35 ∷ codes "\"'[]{}(),;"
