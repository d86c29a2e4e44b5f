-- The entries of a community list, ordered by the communities alone that they hold for, so that the answer on a
-- community is found without a walk over all of them.
use Rattle.std.specs.Prelude.{◌≡◌, ◌==◌, ◌+◌, ◌*◌, ◌/◌, ◌%◌, ◌^◌, ◌&&◌, ℕ, Bool, true, false, nat_lt, List, [], ◌∷◌, length, map, filter, Option, Some, None}
use Rattle.std.specs.Option.{option_or, option_map_or}
use Rattle.std.specs.List.{list_all}
use Rattle.std.specs.Ordering.{nat_cmp}
use Rattle.std.specs.BTreeMap.{BTreeMap, get_by}
use Rattle.route_types.specs.Community.{RectParts, fits}
use Rattle.route_types.specs.declared.community.Community.{Community}
use Rattle.ios_tree.specs.declared.item.CommunityListEntry.{CommunityListEntry}
use Rattle.ios_tree.specs.declared.item.CommunityShape.{CommunityShape}
use Rattle.ios_tree.specs.declared.item.CommunityShape.TheVariants.{Standard, Expanded}
use Rattle.ios_meaning.specs.declared.reach.Reach.{Reach}
use Rattle.ios_meaning.specs.declared.reach.Reach.TheVariants.{Nobody, One, High, Low, Every, Within}
use Rattle.ios_meaning.specs.declared.reach.KeySort.{KeySort}
use Rattle.ios_meaning.specs.declared.reach.KeySort.TheVariants.{OfOne, OfHigh, OfLow, OfEvery}
use Rattle.ios_meaning.specs.declared.deletion_index.Answer.{Answer}
use Rattle.ios_meaning.specs.declared.deletion_index.Placed.{Placed}
use Rattle.ios_meaning.specs.declared.deletion_index.Index.{Index}

-- ---- for which communities alone an entry holds

-- a range of halves, which have 16 bits, is one number
abbrev pub is_one : ℕ → ℕ → Bool
is_one least most = (least == most) && nat_lt least 65536

-- a range of halves is all of them
abbrev pub is_all : ℕ → ℕ → Bool
is_all least most = (least == 0) && (most == 65535)

-- what a rectangle of one upper half reaches
abbrev pub reach_of_one_high : RectParts → Reach
reach_of_one_high r = elim (is_one r.low_least r.low_most) [
  | true ↦ One (record { 0 = r.high_least * 65536 + r.low_least })
  | false ↦ elim (is_all r.low_least r.low_most) [ true ↦ High r.high_least | false ↦ Within r ]
]

-- what a rectangle of all upper halves reaches
abbrev pub reach_of_all_highs : RectParts → Reach
reach_of_all_highs r = elim (is_one r.low_least r.low_most) [
  | true ↦ Low r.low_least
  | false ↦ elim (is_all r.low_least r.low_most) [ true ↦ Every | false ↦ Within r ]
]

-- what a rectangle reaches
abbrev pub reach_of_rect : RectParts → Reach
reach_of_rect r = elim (is_one r.high_least r.high_most) [
  | true ↦ reach_of_one_high r
  | false ↦ elim (is_all r.high_least r.high_most) [ true ↦ reach_of_all_highs r | false ↦ Within r ]
]

-- what members reach that a community alone has all of
abbrev pub reach_of_members : List Community → Reach
reach_of_members [] = Every
reach_of_members (c ∷ cs) = elim (list_all (λ m. m.0 == c.0) cs) [ true ↦ One c | false ↦ Nobody ]

-- for which communities alone an entry of this shape holds
abbrev pub reach_of : CommunityShape → Reach
reach_of (Standard cs) = reach_of_members cs
reach_of (Expanded r) = reach_of_rect r

-- the community is among them
abbrev pub reaches : Community → Reach → Bool
reaches c Nobody = false
reaches c (One d) = c.0 == d.0
reaches c (High a) = c.0 / 2 ^ 16 == a
reaches c (Low b) = c.0 % 2 ^ 16 == b
reaches c Every = true
reaches c (Within r) = fits r c

-- ---- keys

-- the number by which an entry is found among those of a sort: none where it isn't of the sort
abbrev pub key_of : KeySort → Reach → Option ℕ
key_of OfOne (One c) = Some c.0
key_of OfHigh (High a) = Some a
key_of OfLow (Low b) = Some b
key_of OfEvery Every = Some 0
key_of _ _ = None

-- an entry is found by this number among those of a sort
abbrev pub has_key : KeySort → ℕ → Reach → Bool
has_key sort n r = option_map_or (λ k. n == k) (key_of sort r) false

-- an entry is of none of the sorts
abbrev pub is_other : Reach → Bool
is_other (Within r) = true
is_other _ = false

-- ---- the first entry

-- entries, each with its reach and its answer, and with the number of those behind it
abbrev pub in_place : List CommunityListEntry → List Placed
in_place [] = []
in_place (e ∷ es) = record { reach = reach_of e.shape; answer = record { permit = e.permit; behind = length es } } ∷ in_place es

-- the answer of the first entry whose reach passes a test
abbrev pub first_answer : (Reach → Bool) → List Placed → Option Answer
first_answer test [] = None
first_answer test (p ∷ ps) = elim (test p.reach) [ true ↦ Some p.answer | false ↦ first_answer test ps ]

-- the same, one having been found before these entries or not
unfoldable pub answer_from : (Reach → Bool) → Option Answer → List Placed → Option Answer
answer_from test found [] = found
answer_from test found (p ∷ ps) = answer_from test (elim (test p.reach) [ true ↦ option_or found (Some p.answer) | false ↦ found ]) ps

-- of two answers the one of the entry that stands first
abbrev pub earlier : Option Answer → Option Answer → Option Answer
earlier None b = b
earlier (Some x) None = Some x
earlier (Some x) (Some y) = elim (nat_lt x.behind y.behind) [ true ↦ Some y | false ↦ Some x ]

-- ---- the index

-- the answer that a map holds under a number
abbrev pub answer_at : BTreeMap ℕ Answer → ℕ → Option Answer
answer_at m n = get_by (nat_cmp n) m

-- a map holds for each number the answer of the first entry that is found by it
abbrev pub HoldsFirst : KeySort → List Placed → BTreeMap ℕ Answer → Type 0
HoldsFirst sort ps m = (n : ℕ) → answer_at m n ≡ first_answer (has_key sort n) ps

-- the parts of an index hold what its entries answer
pub record IsIndex (i : Index) : Type 0 where
  pub ones : HoldsFirst OfOne (in_place (map (λ e. e.now) i.entries.now)) i.ones
  pub highs : HoldsFirst OfHigh (in_place (map (λ e. e.now) i.entries.now)) i.highs
  pub lows : HoldsFirst OfLow (in_place (map (λ e. e.now) i.entries.now)) i.lows
  pub every : HoldsFirst OfEvery (in_place (map (λ e. e.now) i.entries.now)) i.every
  pub others : i.others.items ≡ filter (λ p. is_other p.reach) (in_place (map (λ e. e.now) i.entries.now))

-- the answer that the maps and the other entries give on a community
abbrev pub answer_on : Index → Community → Option Answer
answer_on i c = earlier (answer_at i.ones c.0) (earlier (answer_at i.highs (c.0 / 2 ^ 16)) (earlier (answer_at i.lows (c.0 % 2 ^ 16)) (earlier (answer_at i.every 0) (first_answer (reaches c) i.others.items))))
