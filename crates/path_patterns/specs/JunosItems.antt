-- The items that are written for the items of a branch: their ranges have numbers, their bounds are at most
-- 255, and together they take what the items take.
use Rattle.std.specs.Prelude.{◌≡◌, ℕ, ◌+◌, ◌-◌, ◌*◌, ◌/◌, ◌%◌, ◌≤◌, Bool, true, false, not, ◌&&◌, ◌||◌, ◌==◌, nat_le, if◌then◌else◌, List, [], ◌∷◌, ◌++◌, Option, Some, None, map, length, replicate}
use Rattle.std.specs.List.{AllByRecursion}
use Rattle.path_patterns.specs.Items.{Takes, takes_of, greatest}
use Rattle.path_patterns.specs.Counts.{is_above, is_nothing}
use Rattle.path_patterns.specs.SamePaths.{SamePaths, NoPath, TakesNoPath}
use Rattle.path_patterns.specs.declared.items.NumberRange.{NumberRange}
use Rattle.path_patterns.specs.declared.items.TokenItem.{TokenItem}

-- ---- which items have a text

-- the range has a number, and none above the greatest
abbrev pub HasNumbers : NumberRange → Type 0
HasNumbers r = (r.least ≤ r.most) × (r.most ≤ greatest)

-- the upper end, if there is one, is not below the least count, and at most 255
abbrev pub IsSmallBound : ℕ → Option ℕ → Type 0
IsSmallBound least None = Unit {0}
IsSmallBound least (Some most) = (least ≤ most) × (most ≤ 255)

-- an item that can be written
pub record IsWritable (i : TokenItem) : Type 0 where
  pub some : 1 ≤ length i.set.ranges
  pub ranges : AllByRecursion HasNumbers i.set.ranges
  pub least : i.least ≤ 255
  pub most : IsSmallBound i.least i.most

-- ---- what is written for an item

-- no count can be taken
abbrev pub never_taken : Bool → ℕ → Option ℕ → Bool
never_taken has_numbers least most = is_above least most || (not has_numbers && nat_le 1 least)

-- no number is taken
abbrev pub takes_none : Bool → ℕ → Option ℕ → Bool
takes_none has_numbers least most = (least == 0) && (not has_numbers || is_nothing most)

-- an item of ranges and a count
abbrev pub item_of : List NumberRange → ℕ → Option ℕ → TokenItem
item_of rs least most = record { set = record { ranges = rs }; least = least; most = most }

-- the items of a count that ends: what is above 255 is left to items of 0 to 255 numbers
abbrev pub ending_items : List NumberRange → ℕ → ℕ → List TokenItem
ending_items rs least most =
    if nat_le most 255 then item_of rs least (Some most) ∷ [] else item_of rs least (Some 255) ∷ (replicate ((most - 256) / 255) (item_of rs 0 (Some 255)) ++ (item_of rs 0 (Some ((most - 256) % 255 + 1)) ∷ []))

-- the items of a count of at least so many
abbrev pub later_items : List NumberRange → ℕ → Option ℕ → List TokenItem
later_items rs least None = item_of rs least None ∷ []
later_items rs least (Some most) = ending_items rs least most

-- how many items of just 255 numbers stand in front
abbrev pub full_items : ℕ → ℕ
full_items least = (least - 1) / 255

-- the upper end that is left
abbrev pub most_left : Option ℕ → ℕ → Option ℕ
most_left None n = None
most_left (Some most) n = Some (most - n)

-- the items of a count: while the least is above 255, items of just 255 numbers
unfoldable pub items_of : List NumberRange → ℕ → Option ℕ → List TokenItem
items_of rs least most =
    replicate (full_items least) (item_of rs 255 (Some 255)) ++ later_items rs (least - full_items least * 255) (most_left most (full_items least * 255))

-- ---- what is written together takes the same

-- items are put behind those there, and take what the item takes; no where no path is taken behind it
abbrev pub Adds : TokenItem → List TokenItem → List TokenItem → Bool → Type 0
Adds i before now true =
    (more : List TokenItem) × (now ≡ before ++ more) × AllByRecursion IsWritable more × ((ts : List Takes) → SamePaths (map takes_of more ++ ts) (takes_of i ∷ ts))
Adds i before now false = TakesNoPath i

-- items that can be written take the same paths; none where no path is taken
abbrev pub Writes : List TokenItem → Option (List TokenItem) → Type 0
Writes is None = NoPath (map takes_of is)
Writes is (Some js) = AllByRecursion IsWritable js × SamePaths (map takes_of js) (map takes_of is)
