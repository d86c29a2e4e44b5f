-- The words of Junos statements that are no plain numbers, addresses or names: first what they are, then
-- the functions that find them.
use Rattle.std.specs.Prelude.{◌≡◌, ℕ, ◌+◌, ◌-◌, ◌^◌, ◌≤◌, ◌⊎◌, ◌&&◌, ◌==◌, nat_le, Bool, true, false, List, [], ◌∷◌, ◌++◌, Option, Some, None, codes, decimal, bytes_eq, option_map}
use Rattle.route_types.specs.Address.{PrefixParts, prefix_of}
use Rattle.route_types.specs.Community.{RectParts}
use Rattle.route_types.specs.RouteText.{onto_word}
use Rattle.route_types.specs.Words.{◌>>=◌, when, number_in, address_in, prefix_in, parts_at, IsNumber, IsAddress, IsPrefix}
use Rattle.route_types.specs.declared.address.Address.{Address}
use Rattle.route_types.specs.declared.route.NextHop.{NextHop}
use Rattle.route_types.specs.declared.route.NextHop.TheVariants.{At, Own}
use Rattle.aspath_text.specs.IosGrammar.{joined_by}
use Rattle.aspath_text.specs.JunosGrammar.{SpellsJunos}
use Rattle.aspath_text.specs.JunosRead.{junos_pattern_in}
use Rattle.path_patterns.specs.declared.items.TokenPattern.{TokenPattern}
use Rattle.policy_text.specs.Halves.{known_rects, number_or_all, halves_in}
use Rattle.policy_text.specs.Names.{first_some}
use Rattle.policy_text.specs.Phrases.{AreSome, IsOneOf, one_of, some_each}
use Rattle.junos_tree.specs.declared.item.CommunityVerb.{CommunityVerb}
use Rattle.junos_tree.specs.declared.item.CommunityVerb.TheVariants.{Set, Add, Delete}
use Rattle.junos_tree.specs.declared.item.Flow.{Flow}
use Rattle.junos_tree.specs.declared.item.Flow.TheVariants.{Accept, Reject, NextTerm, NextPolicy}

-- ---- tables of words

-- where a run ends
abbrev pub ends : List (List ℕ × Flow)
ends = (codes "accept", Accept) ∷ (codes "reject", Reject) ∷ []

-- what stands behind `next`
abbrev pub nexts : List (List ℕ × Flow)
nexts = (codes "term", NextTerm) ∷ (codes "policy", NextPolicy) ∷ []

-- what is done with the members of a community
abbrev pub verbs : List (List ℕ × CommunityVerb)
verbs = (codes "set", Set) ∷ (codes "=", Set) ∷ (codes "add", Add) ∷ (codes "+", Add) ∷ (codes "delete", Delete) ∷ (codes "-", Delete) ∷ []

-- how a prefix list is asked: by its members alone, or by what lies within them too
abbrev pub filter_types : List (List ℕ × Bool)
filter_types = (codes "exact", false) ∷ (codes "orlonger", true) ∷ []

-- the communities that have a word of their own (RFC 1997)
abbrev pub known_members : List (List ℕ × RectParts)
known_members = known_rects (codes "no-export-subconfed")

-- the lengths that a type of one word gives behind a prefix of length n
abbrev pub types : ℕ → List (List ℕ × (ℕ × ℕ))
types n = (codes "exact", (n, n)) ∷ (codes "longer", (n + 1, 32)) ∷ (codes "orlonger", (n, 32)) ∷ []

-- ---- what a word is

-- half of a member: one number, or `*` for all
abbrev pub IsHalf : List ℕ → ℕ → ℕ → Type 0
IsHalf word least most = (IsNumber 65535 word least × (most ≡ least)) ⊎ ((word ≡ codes "*") × (least ≡ 0) × (most ≡ 65535))

-- two halves joined by `:`
pub record AreHalves (word : List ℕ) (r : RectParts) : Type 0 where
  pub high : List ℕ
  pub low : List ℕ
  pub spelled : word ≡ high ++ (58 ∷ low)
  pub high_half : IsHalf high r.high_least r.high_most
  pub low_half : IsHalf low r.low_least r.low_most

-- a member of a community: two halves, or a word of its own
abbrev pub IsMember : List ℕ → RectParts → Type 0
IsMember word r = AreHalves word r ⊎ IsOneOf known_members word r

-- a member of a prefix list: a prefix, or an address, which is the prefix of full length
abbrev pub IsListMember : List ℕ → PrefixParts → Type 0
IsListMember word p = IsPrefix word p ⊎ ((a : Address) × IsAddress word a × (p ≡ prefix_of a 32))

-- a length behind a slash, up to 32
pub record IsLength (word : List ℕ) (n : ℕ) : Type 0 where
  pub spelled : word ≡ 47 ∷ decimal n
  pub within : n ≤ 32

-- `/n` behind a prefix of length L, with L <= n <= 32: the lengths from L to n
pub record IsUpTo (length : ℕ) (word : List ℕ) (lengths : ℕ × ℕ) : Type 0 where
  pub most : IsLength word lengths.1
  pub least : lengths.0 ≡ length
  pub rises : lengths.0 ≤ lengths.1

-- `/a-/b` behind a prefix of length L, with L <= a <= b <= 32: the lengths from a to b
pub record AreLengths (length : ℕ) (word : List ℕ) (lengths : ℕ × ℕ) : Type 0 where
  pub front : List ℕ
  pub back : List ℕ
  pub spelled : word ≡ front ++ (45 ∷ back)
  pub least : IsLength front lengths.0
  pub most : IsLength back lengths.1
  pub holds_own : length ≤ lengths.0
  pub rises : lengths.0 ≤ lengths.1

-- `self`, or an address
abbrev pub IsNextHop : List ℕ → NextHop → Type 0
IsNextHop word Own = word ≡ codes "self"
IsNextHop word (At a) = IsAddress word a

-- one or more numbers of 32 bits joined by one space
pub record ArePrepended (word : List ℕ) (ns : List ℕ) : Type 0 where
  pub words : List (List ℕ)
  pub spelled : word ≡ joined_by 32 words
  pub numbers : AreSome (IsNumber (2 ^ 32 - 1)) words ns

-- a pattern of an AS path, with the word itself
abbrev pub IsPattern : List ℕ → TokenPattern × List ℕ → Type 0
IsPattern word (pattern, text) = SpellsJunos word pattern × (text ≡ word)

-- ---- the functions that find them

unfoldable pub member_in : List ℕ → Option RectParts
member_in word = first_some (halves_in number_or_all word) (one_of known_members word)

unfoldable pub list_member_in : List ℕ → Option PrefixParts
list_member_in word = first_some (prefix_in word) (address_in word >>= λ a. Some (prefix_of a 32))

abbrev pub length_in : List ℕ → Option ℕ
length_in [] = None
length_in (c ∷ cs) = elim (c == 47) [ true ↦ number_in 32 cs | false ↦ None ]

unfoldable pub up_to_in : ℕ → List ℕ → Option (ℕ × ℕ)
up_to_in length word = do
  most ← length_in word
  when (nat_le length most) (length, most)

unfoldable pub lengths_in : ℕ → List ℕ → Option (ℕ × ℕ)
lengths_in length word = do
  parts ← parts_at 45 word
  least ← length_in parts.0
  most ← length_in parts.1
  when (nat_le length least && nat_le least most) (least, most)

-- what stands between two spaces
unfoldable pub between_spaces : List ℕ → List (List ℕ)
between_spaces [] = [] ∷ []
between_spaces (c ∷ cs) = elim (c == 32) [ true ↦ [] ∷ between_spaces cs | false ↦ onto_word c (between_spaces cs) ]

unfoldable pub prepended_in : List ℕ → Option (List ℕ)
prepended_in word = some_each (number_in (2 ^ 32 - 1)) (between_spaces word)

unfoldable pub pattern_in : List ℕ → Option (TokenPattern × List ℕ)
pattern_in word = junos_pattern_in word >>= λ p. Some (p, word)
