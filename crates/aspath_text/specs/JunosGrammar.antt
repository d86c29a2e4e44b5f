-- The grammar of Junos AS-path patterns (Junos OS Routing Policies User Guide, 'AS path regular
-- expressions'): which text spells which pattern.
use Rattle.std.specs.Prelude.{◌≡◌, ℕ, ◌≤◌, true, List, [], ◌∷◌, ◌++◌, Some, None, Option, length, codes, decimal, ◌⊎◌}
use Rattle.std.specs.List.{list_all}
use Rattle.text_words.specs.Text.{is_blank}
use Rattle.route_types.specs.Words.{IsNumber}
use Rattle.route_types.specs.RouteText.{Each}
use Rattle.path_patterns.specs.Items.{greatest}
use Rattle.aspath_text.specs.IosGrammar.{joined_by}
use Rattle.path_patterns.specs.declared.items.NumberRange.{NumberRange}
use Rattle.path_patterns.specs.declared.items.NumberSet.{NumberSet}
use Rattle.path_patterns.specs.declared.items.TokenItem.{TokenItem}
use Rattle.path_patterns.specs.declared.items.TokenPattern.{TokenPattern}

-- any count of blanks
abbrev pub AreBlanks : List ℕ → Type 0
AreBlanks text = list_all is_blank text ≡ true

-- `.`, a number, or `a-b` with a not above b
abbrev pub SpellsRange : List ℕ → NumberRange → Type 0
SpellsRange text r =
    ((text ≡ codes ".") × (r.least ≡ 0) × (r.most ≡ greatest))
    ⊎ (IsNumber greatest text r.least × (r.most ≡ r.least))
    ⊎ ((text ≡ decimal r.least ++ (45 ∷ decimal r.most)) × (r.least ≤ r.most) × (r.most ≤ greatest))

-- a member of a group, with blanks on either side
pub record SpellsMember (text : List ℕ) (r : NumberRange) : Type 0 where
  pub before : List ℕ
  pub word : List ℕ
  pub behind : List ℕ
  pub spelled : text ≡ before ++ (word ++ behind)
  pub range : SpellsRange word r
  pub blanks_before : AreBlanks before
  pub blanks_behind : AreBlanks behind

-- `.`, a number, `a-b`, or a group of them in parentheses, joined by `|`
abbrev pub SpellsSet : List ℕ → NumberSet → Type 0
SpellsSet text set =
    ((r : NumberRange) × (set.ranges ≡ r ∷ []) × SpellsRange text r)
    ⊎ ((parts : List (List ℕ)) × (text ≡ 40 ∷ (joined_by 124 parts ++ (41 ∷ []))) × Each SpellsMember parts set.ranges × (1 ≤ length set.ranges))

-- nothing, `*`, `+`, `?`, `{m}`, `{m,n}`, `{m,}`, with m and n up to 255 and m not above n
abbrev pub SpellsCount : List ℕ → ℕ → Option ℕ → Type 0
SpellsCount text least None =
    ((text ≡ codes "*") × (least ≡ 0))
    ⊎ ((text ≡ codes "+") × (least ≡ 1))
    ⊎ ((text ≡ 123 ∷ (decimal least ++ codes ",}")) × (least ≤ 255))
SpellsCount text least (Some most) =
    ((text ≡ []) × (least ≡ 1) × (most ≡ 1))
    ⊎ ((text ≡ codes "?") × (least ≡ 0) × (most ≡ 1))
    ⊎ ((text ≡ 123 ∷ (decimal least ++ codes "}")) × (least ≤ 255) × (most ≡ least))
    ⊎ ((text ≡ 123 ∷ (decimal least ++ (44 ∷ (decimal most ++ codes "}")))) × (least ≤ most) × (most ≤ 255))

-- a set and how often it is taken
pub record SpellsItem (text : List ℕ) (i : TokenItem) : Type 0 where
  pub set : List ℕ
  pub count : List ℕ
  pub spelled : text ≡ set ++ count
  pub numbers : SpellsSet set i.set
  pub counted : SpellsCount count i.least i.most

-- texts with one or more blanks between each two of them
unfoldable pub AreSpaced : List ℕ → List (List ℕ) → Type 0
AreSpaced text [] = ⊥
AreSpaced text (t ∷ []) = text ≡ t
AreSpaced text (t ∷ u ∷ us) =
    (blanks : List ℕ) × (rest : List ℕ) × (text ≡ t ++ (blanks ++ rest)) × (1 ≤ length blanks) × AreBlanks blanks × AreSpaced rest (u ∷ us)

-- `()`, or items with blanks between them
abbrev pub SpellsItems : List ℕ → List TokenItem → Type 0
SpellsItems text items =
    ((text ≡ codes "()") × (items ≡ []))
    ⊎ ((parts : List (List ℕ)) × AreSpaced text parts × Each SpellsItem parts items)

-- a pattern has one branch
abbrev pub SpellsJunos : List ℕ → TokenPattern → Type 0
SpellsJunos text p = (items : List TokenItem) × (p.branches ≡ record { items = items } ∷ []) × SpellsItems text items
