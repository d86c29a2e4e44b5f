-- The text of items as a Junos AS-path pattern: no blanks but one between two items.
use Rattle.std.specs.Prelude.{ℕ, ◌==◌, ◌&&◌, if◌then◌else◌, List, [], ◌∷◌, ◌++◌, Option, Some, None, map, codes, decimal}
use Rattle.aspath_text.specs.IosGrammar.{joined_by}
use Rattle.path_patterns.specs.Items.{greatest}
use Rattle.path_patterns.specs.declared.items.NumberRange.{NumberRange}
use Rattle.path_patterns.specs.declared.items.TokenItem.{TokenItem}

-- a number, `.` for all numbers, or `a-b`
unfoldable pub range_text : NumberRange → List ℕ
range_text r =
    if r.least == r.most then decimal r.least else (if (r.least == 0) && (r.most == greatest) then codes "." else decimal r.least ++ (45 ∷ decimal r.most))

-- ranges joined by bars
abbrev pub ranges_text : List NumberRange → List ℕ
ranges_text rs = joined_by 124 (map range_text rs)

-- one range, or a group of them in parentheses
unfoldable pub set_text : List NumberRange → List ℕ
set_text [] = codes "()"
set_text (r ∷ []) = range_text r
set_text (r ∷ s ∷ rs) = 40 ∷ (ranges_text (r ∷ s ∷ rs) ++ (41 ∷ []))

-- just so many: nothing for one, else `{m}`
abbrev pub exact_text : ℕ → List ℕ
exact_text n = if n == 1 then [] else 123 ∷ (decimal n ++ codes "}")

-- so many or more: `*`, `+` or `{m,}`
abbrev pub more_text : ℕ → List ℕ
more_text least = if least == 0 then codes "*" else (if least == 1 then codes "+" else 123 ∷ (decimal least ++ codes ",}"))

-- from one count to another: `?` or `{m,n}`
abbrev pub between_text : ℕ → ℕ → List ℕ
between_text least most =
    if (least == 0) && (most == 1) then codes "?" else 123 ∷ (decimal least ++ (44 ∷ (decimal most ++ codes "}")))

-- how often a set is taken
unfoldable pub count_text : ℕ → Option ℕ → List ℕ
count_text least None = more_text least
count_text least (Some most) = if least == most then exact_text least else between_text least most

-- a set and how often it is taken
unfoldable pub item_text : TokenItem → List ℕ
item_text i = set_text i.set.ranges ++ count_text i.least i.most

-- `()`, or items joined by one space
unfoldable pub items_text : List TokenItem → List ℕ
items_text [] = codes "()"
items_text (i ∷ is) = joined_by 32 (map item_text (i ∷ is))
