-- The words of RPL statements, of which some stand in quotes, and how forms are made of them. First what
-- the words are; behind it the functions that find the values, in the same order.
use Rattle.std.specs.Prelude.{◌≡◌, ℕ, suc, Bool, true, false, ◌&&◌, not, List, [], ◌∷◌, ◌++◌, Option, Some, None, codes, bytes_eq, map, option_map, take}
use Rattle.std.specs.List.{list_any}
use Rattle.route_types.specs.Words.{◌>>=◌, when}
use Rattle.text_words.specs.declared.statement.Word.{Word}

-- a word, apart from where it stands
pub record Token : Type 0 where
  pub text : List ℕ
  pub quoted : Bool

-- a word without quotes
abbrev pub plain : List ℕ → Token
plain text = record { text = text; quoted = false }

-- a word in quotes
abbrev pub in_quotes : List ℕ → Token
in_quotes text = record { text = text; quoted = true }

-- the word of a text, apart from where it stands
abbrev pub token : Word → Token
token w = record { text = w.text; quoted = w.quoted }

-- the words of a text, apart from where they stand
abbrev pub tokens : List Word → List Token
tokens ws = map token ws

-- the word is this keyword: a quoted word is none
abbrev pub is_key : List ℕ → Token → Bool
is_key key t = not t.quoted && bytes_eq key t.text

-- ---- what the words are

-- a word without quotes, whose text spells the value
abbrev pub IsPlain : {A : Type 0} → (List ℕ → A → Type 0) → Token → A → Type 0
IsPlain P t x = (w : List ℕ) × (t ≡ plain w) × P w x

-- a word in quotes, whose text spells the value
abbrev pub IsQuoted : {A : Type 0} → (List ℕ → A → Type 0) → Token → A → Type 0
IsQuoted P t x = (w : List ℕ) × (t ≡ in_quotes w) × P w x

-- one word, which spells the value
abbrev pub One : {A : Type 0} → (Token → A → Type 0) → List Token → A → Type 0
One P ts x = (t : Token) × (ts ≡ t ∷ []) × P t x

-- these keywords, and behind them what spells the value
abbrev pub Behind : {A : Type 0} → List (List ℕ) → (List Token → A → Type 0) → List Token → A → Type 0
Behind keys P ts x = (rest : List Token) × (ts ≡ map plain keys ++ rest) × P rest x

-- a word that spells the one value, and behind it what spells the other
abbrev pub First : {A B : Type 0} → (Token → A → Type 0) → (List Token → B → Type 0) → List Token → A × B → Type 0
First P Q ts x = (t : Token) × (rest : List Token) × (ts ≡ t ∷ rest) × P t x.0 × Q rest x.1

-- what spells the value, and this keyword behind it for the first time
abbrev pub UpTo : {A : Type 0} → List ℕ → (List Token → A → Type 0) → List Token → A → Type 0
UpTo key P ts x = (front : List Token) × (ts ≡ front ++ (plain key ∷ [])) × (list_any (is_key key) front ≡ false) × P front x

-- what spells the values one by one, with a comma between two of them
abbrev pub Commas : {A : Type 0} → (List Token → A → Type 0) → List Token → List A → Type 0
Commas P ts [] = ⊥
Commas P ts (x ∷ []) = (list_any (is_key (codes ",")) ts ≡ false) × P ts x
Commas P ts (x ∷ y ∷ xs) = (front : List Token) × (rest : List Token) × (ts ≡ front ++ plain (codes ",") ∷ rest) × (list_any (is_key (codes ",")) front ≡ false) × P front x × Commas P rest (y ∷ xs)

-- the values in parentheses: there is at least one
abbrev pub Listed : {A : Type 0} → (List Token → A → Type 0) → List Token → List A → Type 0
Listed P ts xs = Behind (codes "(" ∷ []) (UpTo (codes ")") (Commas P)) ts xs

-- a name, and the values in parentheses behind it, if there are any
abbrev pub Called : {A : Type 0} → (List ℕ → List ℕ → Type 0) → (Token → A → Type 0) → List Token → List ℕ × List A → Type 0
Called N P ts (name, []) = One (IsPlain N) ts name
Called N P ts (name, x ∷ xs) = First (IsPlain N) (Listed (One P)) ts (name, x ∷ xs)

-- ---- the values of words

-- the value of a word without quotes
abbrev pub plain_in : {A : Type 0} → (List ℕ → Option A) → Token → Option A
plain_in f t = elim t.quoted [ true ↦ None | false ↦ f t.text ]

-- the value of a word in quotes
abbrev pub quoted_in : {A : Type 0} → (List ℕ → Option A) → Token → Option A
quoted_in f t = elim t.quoted [ true ↦ f t.text | false ↦ None ]

-- the value of the one word there is
abbrev pub only : {A : Type 0} → (Token → Option A) → List Token → Option A
only f [] = None
only f (t ∷ []) = f t
only f (t ∷ u ∷ ts) = None

-- the words behind these keywords, where they stand there
unfoldable pub after : List (List ℕ) → List Token → Option (List Token)
after [] ts = Some ts
after (k ∷ ks) [] = None
after (k ∷ ks) (t ∷ ts) = elim (is_key k t) [ true ↦ after ks ts | false ↦ None ]

-- the value behind these keywords
abbrev pub behind : {A : Type 0} → List (List ℕ) → (List Token → Option A) → List Token → Option A
behind keys f ts = after keys ts >>= f

-- the value of the first word, and that of the words behind it
abbrev pub first_of : {A B : Type 0} → (Token → Option A) → (List Token → Option B) → List Token → Option (A × B)
first_of f g [] = None
first_of f g (t ∷ ts) = do
  x ← f t
  y ← g ts
  Some (x, y)

-- the place where this keyword first stands
unfoldable pub place_of : List ℕ → List Token → Option ℕ
place_of key [] = None
place_of key (t ∷ ts) = elim (is_key key t) [ true ↦ Some 0 | false ↦ option_map (λ n. suc n) (place_of key ts) ]

-- the words before this keyword where it first stands, or all of them
abbrev pub before : List ℕ → List Word → List Word
before key ws = elim (place_of key (tokens ws)) [ None ↦ ws | Some n ↦ take n ws ]

-- the words before this keyword where it first stands, and the words behind it
unfoldable pub parted : List ℕ → List Token → Option (List Token × List Token)
parted key [] = None
parted key (t ∷ ts) = elim (is_key key t) [
  | true ↦ Some ([], ts)
  | false ↦ option_map (λ p. (t ∷ p.0, p.1)) (parted key ts)
]

-- the words before this keyword, where nothing stands behind it
abbrev pub ended_by : List ℕ → List Token → Option (List Token)
ended_by key ts = parted key ts >>= λ p. elim p.1 [ [] ↦ Some p.0 | (u ∷ us) ↦ None ]

-- the value of the words before this keyword, where nothing stands behind it
abbrev pub up_to : {A : Type 0} → List ℕ → (List Token → Option A) → List Token → Option A
up_to key f ts = ended_by key ts >>= f

-- a word in front of the first of some word lists
abbrev pub with_first : Token → List (List Token) → List (List Token)
with_first t [] = (t ∷ []) ∷ []
with_first t (ts ∷ more) = (t ∷ ts) ∷ more

-- the word lists between commas
unfoldable pub between : List Token → List (List Token)
between [] = [] ∷ []
between (t ∷ ts) = elim (is_key (codes ",") t) [ true ↦ [] ∷ between ts | false ↦ with_first t (between ts) ]

-- the values of all of them, where each has one
unfoldable pub each_of : {W A : Type 0} → (W → Option A) → List W → Option (List A)
each_of f [] = Some []
each_of f (w ∷ ws) = do
  x ← f w
  xs ← each_of f ws
  Some (x ∷ xs)

-- the values of the word lists between commas, where each has one
abbrev pub commas : {A : Type 0} → (List Token → Option A) → List Token → Option (List A)
commas f ts = each_of f (between ts)

-- the values in parentheses
unfoldable pub listed_in : {A : Type 0} → (List Token → Option A) → List Token → Option (List A)
listed_in f ts = behind (codes "(" ∷ []) (up_to (codes ")") (commas f)) ts

-- the values in parentheses, if there are words
abbrev pub arguments_in : {A : Type 0} → (Token → Option A) → List Token → Option (List A)
arguments_in f [] = Some []
arguments_in f (t ∷ ts) = listed_in (only f) (t ∷ ts)

-- a name, and the values in parentheses behind it, if there are any
unfoldable pub called_in : {A : Type 0} → (List ℕ → Option (List ℕ)) → (Token → Option A) → List Token → Option (List ℕ × List A)
called_in name f ts = first_of (plain_in name) (arguments_in f) ts
