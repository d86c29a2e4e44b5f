-- The function that finds the Junos pattern that a text spells: the text is cut into items at the blanks
-- outside its groups, an item into its set and its count, and a group into its members at `|`.
use Rattle.std.specs.Prelude.{ℕ, Bool, true, false, not, ◌&&◌, ◌||◌, nat_le, ◌==◌, List, [], ◌∷◌, length, take, drop, Option, Some, None, codes, bytes_eq}
use Rattle.std.specs.List.{list_all, position_or_len}
use Rattle.text_words.specs.Text.{is_blank}
use Rattle.route_types.specs.RouteText.{onto_word}
use Rattle.route_types.specs.Words.{◌>>=◌, when, number_in, parts_at}
use Rattle.policy_text.specs.Phrases.{each}
use Rattle.path_patterns.specs.Items.{greatest}
use Rattle.path_patterns.specs.declared.items.NumberRange.{NumberRange}
use Rattle.path_patterns.specs.declared.items.TokenItem.{TokenItem}
use Rattle.path_patterns.specs.declared.items.TokenPattern.{TokenPattern}
use Rattle.aspath_text.specs.declared.junos_words.Count.{Count}

-- ---- numbers, members and groups

-- the ends of a range, where a dash stands between two numbers, and the one number else
abbrev pub ends_in : Option (List ℕ × List ℕ) → List ℕ → Option NumberRange
ends_in None word = do
  n ← number_in greatest word
  Some (record { least = n; most = n })
ends_in (Some parts) word = do
  least ← number_in greatest parts.0
  most ← number_in greatest parts.1
  when (nat_le least most) (record { least = least; most = most })

-- the range that a word spells
unfoldable pub range_in : List ℕ → Option NumberRange
range_in word = elim (bytes_eq word (codes ".")) [
  | true ↦ Some (record { least = 0; most = greatest })
  | false ↦ ends_in (parts_at 45 word) word
]

-- what stands behind the blanks in front
unfoldable pub behind_blanks : List ℕ → List ℕ
behind_blanks [] = []
behind_blanks (c ∷ cs) = elim (is_blank c) [ true ↦ behind_blanks cs | false ↦ c ∷ cs ]

-- the range of a text of one word and blanks, where the word has this length
abbrev pub range_before : ℕ → List ℕ → Option NumberRange
range_before place text = elim (list_all is_blank (drop place text)) [ true ↦ range_in (take place text) | false ↦ None ]

-- the range that a member of a group spells
unfoldable pub member_in : List ℕ → Option NumberRange
member_in text = range_before (position_or_len is_blank (behind_blanks text)) (behind_blanks text)

-- the members of a group: what stands between two bars
unfoldable pub members_of : List ℕ → List (List ℕ)
members_of [] = [] ∷ []
members_of (c ∷ cs) = elim (c == 124) [ true ↦ [] ∷ members_of cs | false ↦ onto_word c (members_of cs) ]

-- ---- counts

-- so many numbers
abbrev pub count_of : ℕ → Option ℕ → Count
count_of least most = record { least = least; most = most }

-- the count of a sign
abbrev pub sign_in : ℕ → Option Count
sign_in c = elim (c == 42) [
  | true ↦ Some (count_of 0 None)
  | false ↦ elim (c == 43) [
    | true ↦ Some (count_of 1 None)
    | false ↦ elim (c == 63) [ true ↦ Some (count_of 0 (Some 1)) | false ↦ None ]
  ]
]

-- the count whose upper end a text spells, or that has none
abbrev pub upper_in : ℕ → List ℕ → Option Count
upper_in least [] = Some (count_of least None)
upper_in least (c ∷ cs) = do
  most ← number_in 255 (c ∷ cs)
  when (nat_le least most) (count_of least (Some most))

-- the bounds of a count, with or without a comma between them
abbrev pub bounds_in : Option (List ℕ × List ℕ) → List ℕ → Option Count
bounds_in None text = do
  n ← number_in 255 text
  Some (count_of n (Some n))
bounds_in (Some parts) text = do
  least ← number_in 255 parts.0
  upper_in least parts.1

-- the count that bounds in front of the closing brace give, where nothing stands behind it
abbrev pub braced_in : List ℕ → Option Count
braced_in text = do
  parts ← parts_at 125 text
  elim (length parts.1 == 0) [ true ↦ bounds_in (parts_at 44 parts.0) parts.0 | false ↦ None ]

-- the count that a text spells
unfoldable pub count_in : List ℕ → Option Count
count_in [] = Some (count_of 1 (Some 1))
count_in (c ∷ []) = sign_in c
count_in (c ∷ d ∷ cs) = elim (c == 123) [ true ↦ braced_in (d ∷ cs) | false ↦ None ]

-- ---- items

-- a sign with which a count starts
abbrev pub is_sign : ℕ → Bool
is_sign c = (c == 42) || (c == 43) || (c == 63) || (c == 123)

-- the item of a set and a count
abbrev pub item_of : List NumberRange → Count → TokenItem
item_of ranges count = record { set = record { ranges = ranges }; least = count.least; most = count.most }

-- an item whose set is no group, and has this length
abbrev pub plain_in : ℕ → List ℕ → Option TokenItem
plain_in place text = do
  range ← range_in (take place text)
  count ← count_in (drop place text)
  Some (item_of (range ∷ []) count)

-- an item whose set is a group, from behind its opening parenthesis on
abbrev pub group_in : List ℕ → Option TokenItem
group_in text = do
  parts ← parts_at 41 text
  ranges ← each member_in (members_of parts.0)
  count ← count_in parts.1
  Some (item_of ranges count)

-- the item that a text spells
unfoldable pub item_in : List ℕ → Option TokenItem
item_in [] = None
item_in (c ∷ cs) = elim (c == 40) [ true ↦ group_in cs | false ↦ plain_in (position_or_len is_sign (c ∷ cs)) (c ∷ cs) ]

-- ---- the text

-- whether a group goes on behind a byte
abbrev pub in_group : Bool → ℕ → Bool
in_group inside c = elim (c == 40) [ true ↦ true | false ↦ elim (c == 41) [ true ↦ false | false ↦ inside ] ]

-- the byte is a blank outside of groups
abbrev pub parts_items : Bool → ℕ → Bool
parts_items inside c = not inside && is_blank c

-- the first byte is a blank
abbrev pub starts_blank : List ℕ → Bool
starts_blank [] = false
starts_blank (c ∷ cs) = is_blank c

-- the items of a text: what stands between blanks outside of groups
unfoldable pub items_of : Bool → List ℕ → List (List ℕ)
items_of inside [] = [] ∷ []
items_of inside (c ∷ cs) = elim (parts_items inside c) [
  | true ↦ elim (starts_blank cs) [ true ↦ items_of false cs | false ↦ [] ∷ items_of false cs ]
  | false ↦ onto_word c (items_of (in_group inside c) cs)
]

-- the items that a text spells
unfoldable pub items_in : List ℕ → Option (List TokenItem)
items_in text = elim (bytes_eq text (codes "()")) [ true ↦ Some [] | false ↦ each item_in (items_of false text) ]

-- the pattern that a text spells
unfoldable pub junos_pattern_in : List ℕ → Option TokenPattern
junos_pattern_in text = do
  items ← items_in text
  Some (record { branches = record { items = items } ∷ [] })
