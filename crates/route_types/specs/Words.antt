-- The forms of words: what a number, an address, a prefix and a community are as texts, and the
-- functions that find them. The clauses `found` and `exact` of the readers join the two, both ways.
use Rattle.std.specs.Prelude.{◌≡◌, ℕ, ◌+◌, ◌-◌, ◌*◌, ◌≤◌, Bool, true, false, ◌&&◌, nat_le, ◌==◌, List, [], ◌∷◌, ◌++◌, Option, Some, None, decimal}
use Rattle.route_types.specs.Address.{PrefixParts, prefix_of}
use Rattle.route_types.specs.declared.address.Address.{Address}
use Rattle.route_types.specs.declared.address.Family.TheVariants.{V4}
use Rattle.route_types.specs.declared.community.Community.{Community}

-- exactly the value that P describes is found, and nothing is found exactly where none is described
abbrev pub FindsExactly : {A : Type 0} → (A → Type 0) → Option A → Type 0
FindsExactly P (Some x) = P x
FindsExactly {A} P None = (x : A) → P x → ⊥

-- a number is its decimal text, and at most the greatest value stated
pub record IsNumber (most : ℕ) (word : List ℕ) (n : ℕ) : Type 0 where
  pub spelled : word ≡ decimal n
  pub within : n ≤ most

-- the four numbers of an IPv4 address
pub record Octets : Type 0 where
  pub first : ℕ
  pub second : ℕ
  pub third : ℕ
  pub fourth : ℕ

-- four numbers joined by dots
abbrev pub dotted : Octets → List ℕ
dotted o = decimal o.first ++ (46 ∷ decimal o.second ++ (46 ∷ decimal o.third ++ (46 ∷ decimal o.fourth)))

-- the address that four numbers make
abbrev pub address_of : Octets → Address
address_of o = record { family = V4; bits = ((o.first * 256 + o.second) * 256 + o.third) * 256 + o.fourth }

-- an address is four numbers up to 255 joined by dots
pub record IsAddress (word : List ℕ) (a : Address) : Type 0 where
  pub octets : Octets
  pub first : octets.first ≤ 255
  pub second : octets.second ≤ 255
  pub third : octets.third ≤ 255
  pub fourth : octets.fourth ≤ 255
  pub spelled : word ≡ dotted octets
  pub value : a ≡ address_of octets

-- a prefix is an address, a slash and a length up to 32; host bits are masked off
pub record IsPrefix (word : List ℕ) (p : PrefixParts) : Type 0 where
  pub front : List ℕ
  pub address : Address
  pub length : ℕ
  pub spelled : word ≡ front ++ (47 ∷ decimal length)
  pub spells_address : IsAddress front address
  pub within : length ≤ 32
  pub value : p ≡ prefix_of address length

-- the community of an upper and a lower half
abbrev pub community_of : ℕ → ℕ → Community
community_of high low = record { 0 = high * 65536 + low }

-- a community is two numbers up to 65535 joined by a colon
pub record IsCommunity (word : List ℕ) (c : Community) : Type 0 where
  pub high : ℕ
  pub low : ℕ
  pub high_within : high ≤ 65535
  pub low_within : low ≤ 65535
  pub spelled : word ≡ decimal high ++ (58 ∷ decimal low)
  pub value : c ≡ community_of high low

-- a decimal digit
abbrev pub is_digit : ℕ → Bool
is_digit c = nat_le 48 c && nat_le c 57

-- the value of digits behind those that have the value n
abbrev pub digits_after : ℕ → List ℕ → Option ℕ
digits_after n [] = Some n
digits_after n (c ∷ cs) = elim (is_digit c) [ true ↦ digits_after (n * 10 + (c - 48)) cs | false ↦ None ]

-- digits, and no leading zero before another digit
abbrev pub digits_value : List ℕ → Option ℕ
digits_value [] = None
digits_value (c ∷ []) = digits_after 0 (c ∷ [])
digits_value (c ∷ d ∷ cs) = elim (c == 48) [ true ↦ None | false ↦ digits_after 0 (c ∷ d ∷ cs) ]

-- what follows a value that was found
infixl 10 ◌>>=◌
abbrev pub ◌>>=◌ : {A B : Type 0} → Option A → (A → Option B) → Option B
(Some x) >>= f = f x
None >>= f = None

-- a value only where a test says so
abbrev pub when : {A : Type 0} → Bool → A → Option A
when true x = Some x
when false x = None

-- the number that a word spells
unfoldable pub number_in : ℕ → List ℕ → Option ℕ
number_in most word = do
  n ← digits_value word
  when (nat_le n most) n

-- what stands before the first such byte, and what stands behind it
unfoldable pub parts_at : ℕ → List ℕ → Option (List ℕ × List ℕ)
parts_at b [] = None
parts_at b (c ∷ cs) = elim (c == b) [
  | true ↦ Some ([], cs)
  | false ↦ parts_at b cs >>= λ parts. Some (c ∷ parts.0, parts.1)
]

-- the address that a word spells
unfoldable pub address_in : List ℕ → Option Address
address_in word = do
  one ← parts_at 46 word
  two ← parts_at 46 one.1
  three ← parts_at 46 two.1
  first ← number_in 255 one.0
  second ← number_in 255 two.0
  third ← number_in 255 three.0
  fourth ← number_in 255 three.1
  Some (address_of (record { first = first; second = second; third = third; fourth = fourth }))

-- the prefix that a word spells
unfoldable pub prefix_in : List ℕ → Option PrefixParts
prefix_in word = do
  parts ← parts_at 47 word
  address ← address_in parts.0
  length ← number_in 32 parts.1
  Some (prefix_of address length)

-- the community that a word spells
unfoldable pub community_in : List ℕ → Option Community
community_in word = do
  parts ← parts_at 58 word
  high ← number_in 65535 parts.0
  low ← number_in 65535 parts.1
  Some (community_of high low)
