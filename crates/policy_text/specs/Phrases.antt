-- How the forms of statements are made, in all languages: certain words first, then values, each by a word
-- or by several. First what the words are; behind it the functions that find the values, in the same order.
pub use Rattle.route_types.specs.RouteText.{Each}
unfoldable pub use Rattle.route_types.specs.RouteLines.{each_in as each}
use Rattle.std.specs.Prelude.{◌≡◌, ℕ, ◌≤◌, Bool, true, false, IsTrue, ◌⊎◌, ◌&&◌, not, List, [], ◌∷◌, ◌++◌, Option, Some, None, bytes_eq, length, map}
use Rattle.std.specs.List.{list_all}
use Rattle.route_types.specs.Words.{◌>>=◌, when}
use Rattle.policy_text.specs.Names.{is_name}
use Rattle.text_words.specs.declared.statement.Word.{Word}

-- the texts of words
abbrev pub texts : List Word → List (List ℕ)
texts ws = map (λ w. w.text) ws

-- ---- what the words are

-- these words, and behind them what spells the value
abbrev pub Behind : {A : Type 0} → List (List ℕ) → (List (List ℕ) → A → Type 0) → List (List ℕ) → A → Type 0
Behind ks P ws x = (rest : List (List ℕ)) × (ws ≡ ks ++ rest) × P rest x

-- one word, which spells the value
abbrev pub One : {A : Type 0} → (List ℕ → A → Type 0) → List (List ℕ) → A → Type 0
One P ws x = (w : List ℕ) × (ws ≡ w ∷ []) × P w x

-- a word that spells the one value, and behind it what spells the other
abbrev pub First : {A B : Type 0} → (List ℕ → A → Type 0) → (List (List ℕ) → B → Type 0) → List (List ℕ) → A × B → Type 0
First P Q ws x = (w : List ℕ) × (rest : List (List ℕ)) × (ws ≡ w ∷ rest) × P w x.0 × Q rest x.1

-- these words and a word that spells a value, or neither, and behind it what spells the other
abbrev pub Optional : {A B : Type 0} → List (List ℕ) → (List ℕ → A → Type 0) → (List (List ℕ) → B → Type 0) → List (List ℕ) → Option A × B → Type 0
Optional ks P Q ws (Some x, y) = Behind ks (First P Q) ws (x, y)
Optional ks P Q ws (None, y) = Q ws y

-- at least one word, and each of them spells what stands at its place
pub record AreSome {A : Type 0} (P : List ℕ → A → Type 0) (words : List (List ℕ)) (xs : List A) : Type 0 where
  pub some : 1 ≤ length words
  pub each : Each P words xs

-- the word is one of these, and the value is the one beside it
abbrev pub IsOneOf : {A : Type 0} → List (List ℕ × A) → List ℕ → A → Type 0
IsOneOf [] w x = ⊥
IsOneOf ((k, y) ∷ more) w x = ((w ≡ k) × (x ≡ y)) ⊎ IsOneOf more w x

-- the word is a name
pub record IsNameWord (word name : List ℕ) : Type 0 where
  pub named : IsTrue (is_name word)
  pub is : name ≡ word

-- ---- the values of words

-- what is found is what is spelled, both ways
pub record Agrees {W A : Type 0} (find : W → Option A) (Spells : W → A → Type 0) : Type 0 where
  pub found : (w : W) (x : A) → find w ≡ Some x → Spells w x
  pub only : (w : W) (x : A) → Spells w x → find w ≡ Some x

-- the words behind these first words, where they stand there
unfoldable pub after : List (List ℕ) → List (List ℕ) → Option (List (List ℕ))
after [] ws = Some ws
after (k ∷ ks) [] = None
after (k ∷ ks) (w ∷ ws) = elim (bytes_eq k w) [ true ↦ after ks ws | false ↦ None ]

-- the value behind these first words
abbrev pub behind : {A : Type 0} → List (List ℕ) → (List (List ℕ) → Option A) → List (List ℕ) → Option A
behind ks f ws = after ks ws >>= f

-- the value of the one word there is
abbrev pub only : {A : Type 0} → (List ℕ → Option A) → List (List ℕ) → Option A
only f [] = None
only f (w ∷ []) = f w
only f (v ∷ w ∷ ws) = None

-- the value of the first word, and the words behind it
abbrev pub value_at : {A : Type 0} → (List ℕ → Option A) → List (List ℕ) → Option (A × List (List ℕ))
value_at f [] = None
value_at f (w ∷ ws) = f w >>= λ x. Some (x, ws)

-- the value of the first word, and that of the words behind it
abbrev pub first_of : {A B : Type 0} → (List ℕ → Option A) → (List (List ℕ) → Option B) → List (List ℕ) → Option (A × B)
first_of f g ws = do
  x ← value_at f ws
  y ← g x.1
  Some (x.0, y)

-- the value behind these first words, if they stand there, and the words behind it
abbrev pub optional_at : {A : Type 0} → List (List ℕ) → (List ℕ → Option A) → List (List ℕ) → Option (Option A × List (List ℕ))
optional_at ks f ws = elim (after ks ws) [
  | None ↦ Some (None, ws)
  | Some rest ↦ value_at f rest >>= λ x. Some (Some x.0, x.1)
]

-- the value behind these first words, if they stand there, and that of the words behind it
abbrev pub optional : {A B : Type 0} → List (List ℕ) → (List ℕ → Option A) → (List (List ℕ) → Option B) → List (List ℕ) → Option (Option A × B)
optional ks f g ws = do
  x ← optional_at ks f ws
  y ← g x.1
  Some (x.0, y)

-- the walk over the words: the values found so far, and behind them those of the words
unfoldable pub each_onto : {A : Type 0} → (List ℕ → Option A) → List A → List (List ℕ) → Option (List A)
each_onto f found [] = Some found
each_onto f found (w ∷ ws) = f w >>= λ x. each_onto f (found ++ x ∷ []) ws

-- the values of all words, where each has one and there is at least one word
abbrev pub some_each : {A : Type 0} → (List ℕ → Option A) → List (List ℕ) → Option (List A)
some_each f [] = None
some_each f (w ∷ ws) = each f (w ∷ ws)

-- the value beside the word
abbrev pub one_of : {A : Type 0} → List (List ℕ × A) → List ℕ → Option A
one_of [] w = None
one_of ((k, x) ∷ more) w = elim (bytes_eq w k) [ true ↦ Some x | false ↦ one_of more w ]

-- no word stands twice
abbrev pub are_apart : {A : Type 0} → List (List ℕ × A) → Bool
are_apart [] = true
are_apart ((k, x) ∷ more) = list_all (λ y. not (bytes_eq y.0 k)) more && are_apart more

-- the name that a word is
abbrev pub name_in : List ℕ → Option (List ℕ)
name_in w = when (is_name w) w
