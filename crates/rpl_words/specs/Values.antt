-- The names, numbers and communities of RPL. First what the words are; behind it the functions that find
-- the values, in the same order.
use Rattle.std.specs.Prelude.{◌≡◌, ℕ, ◌-◌, ◌≤◌, Bool, true, false, IsTrue, ◌⊎◌, ◌&&◌, not, nat_le, ◌==◌, List, [], ◌∷◌, ◌++◌, Option, Some, None, codes, bytes_eq, decimal, length, option_map}
use Rattle.std.specs.List.{list_any}
use Rattle.route_types.specs.Words.{◌>>=◌, when, number_in, parts_at, IsNumber}
use Rattle.route_types.specs.Community.{RectParts}
use Rattle.text_words.specs.Text.{starts_with_byte}
use Rattle.text_words.specs.RplCut.{starts}
use Rattle.policy_text.specs.Halves.{known_rects, number_or_all, halves_in}
use Rattle.policy_text.specs.Names.{is_name, first_some}
use Rattle.policy_text.specs.Phrases.{IsOneOf, one_of}
use Rattle.rpl_words.specs.declared.number.RplNumber.{RplNumber}
use Rattle.rpl_words.specs.declared.number.RplNumber.TheVariants.{Fixed, Parameter as GivenNumber}
use Rattle.rpl_words.specs.declared.element.Comparison.{Comparison}
use Rattle.rpl_words.specs.declared.element.Comparison.TheVariants.{Equal, AtLeast, AtMost}

-- a name: no parameter starts with it
abbrev pub is_rpl_name : List ℕ → Bool
is_rpl_name word = is_name word && not (starts_with_byte 36 word)

-- a name within a policy: the words that start or end a statement are none
abbrev pub is_inner_name : List ℕ → Bool
is_inner_name word = is_rpl_name word && not (list_any (λ key. bytes_eq key word) (codes "then" ∷ codes "end-policy" ∷ starts))

-- the words of comparisons
abbrev pub comparisons : List (List ℕ × Comparison)
comparisons = (codes "eq", Equal) ∷ (codes "is", Equal) ∷ (codes "ge", AtLeast) ∷ (codes "le", AtMost) ∷ []

-- the communities that have a word of their own (RFC 1997; `local-AS` is NO_EXPORT_SUBCONFED)
abbrev pub known_elements : List (List ℕ × RectParts)
known_elements = known_rects (codes "local-AS")

-- ---- what the words are

-- a name in a header
pub record IsHeaderName (word name : List ℕ) : Type 0 where
  pub named : IsTrue (is_rpl_name word)
  pub is : name ≡ word

-- a name within a policy
pub record IsInnerName (word name : List ℕ) : Type 0 where
  pub named : IsTrue (is_inner_name word)
  pub is : name ≡ word

-- a parameter: `$` and a name
pub record IsParameter (word name : List ℕ) : Type 0 where
  pub spelled : word ≡ 36 ∷ name
  pub some : 1 ≤ length name
  pub named : IsTrue (is_rpl_name name)

-- a number or, within a policy, a parameter
abbrev pub IsNumberWord : Bool → ℕ → List ℕ → RplNumber ℕ → Type 0
IsNumberWord within most word (Fixed n) = IsNumber most word n
IsNumberWord within most word (GivenNumber x) = IsTrue within × IsParameter word x

-- half of a community element: a number, `*` for all, or `[x..y]` with x up to y
abbrev pub IsHalf : List ℕ → ℕ × ℕ → Type 0
IsHalf word (least, most) =
    (IsNumber 65535 word least × (most ≡ least))
    ⊎ ((word ≡ codes "*") × (least ≡ 0) × (most ≡ 65535))
    ⊎ ((word ≡ 91 ∷ (decimal least ++ (46 ∷ 46 ∷ (decimal most ++ (93 ∷ []))))) × (least ≤ most) × (most ≤ 65535))

-- two halves joined by `:`
pub record IsPair (word : List ℕ) (r : RectParts) : Type 0 where
  pub high : List ℕ
  pub low : List ℕ
  pub spelled : word ≡ high ++ (58 ∷ low)
  pub high_half : IsHalf high (r.high_least, r.high_most)
  pub low_half : IsHalf low (r.low_least, r.low_most)

-- an element of a community set
abbrev pub IsRect : List ℕ → RectParts → Type 0
IsRect word r = IsPair word r ⊎ IsOneOf known_elements word r

-- ---- the values of words

-- the name in a header
unfoldable pub header_name_in : List ℕ → Option (List ℕ)
header_name_in word = when (is_rpl_name word) word

-- the name within a policy
unfoldable pub inner_name_in : List ℕ → Option (List ℕ)
inner_name_in word = when (is_inner_name word) word

-- the name of a parameter
unfoldable pub parameter_in : List ℕ → Option (List ℕ)
parameter_in [] = None
parameter_in (c ∷ name) = when ((c == 36) && nat_le 1 (length name) && is_rpl_name name) name

-- the parameter, within a policy
abbrev pub given_in : Bool → List ℕ → Option (List ℕ)
given_in true word = parameter_in word
given_in false word = None

-- a number that is found so or, within a policy, a parameter
unfoldable pub number_or_given : {N : Type 0} → (List ℕ → Option N) → Bool → List ℕ → Option (RplNumber N)
number_or_given f within word = first_some (option_map (λ n. Fixed n) (f word)) (option_map (λ x. GivenNumber x) (given_in within word))

-- a number or, within a policy, a parameter
abbrev pub rpl_number_in : Bool → ℕ → List ℕ → Option (RplNumber ℕ)
rpl_number_in within most word = number_or_given (number_in most) within word

-- how two numbers compare
unfoldable pub comparison_in : List ℕ → Option Comparison
comparison_in word = one_of comparisons word

-- `[x..y]`
unfoldable pub half_range_in : List ℕ → Option (ℕ × ℕ)
half_range_in word = do
  front ← parts_at 91 word
  back ← parts_at 93 front.1
  dot ← parts_at 46 back.0
  more ← parts_at 46 dot.1
  least ← number_in 65535 dot.0
  most ← number_in 65535 more.1
  when (nat_le (length front.0) 0 && nat_le (length back.1) 0 && nat_le (length more.0) 0 && nat_le least most) (least, most)

-- half of a community element
unfoldable pub half_in : List ℕ → Option (ℕ × ℕ)
half_in word = first_some (number_or_all word) (half_range_in word)

-- an element of a community set
unfoldable pub rect_in : List ℕ → Option RectParts
rect_in word = first_some (halves_in half_in word) (one_of known_elements word)
