-- Items over the numbers of a path (the shape of Junos AS-path expressions: Junos OS Routing Policies
-- User Guide, 'AS path regular expressions'): which paths they match.
use Rattle.std.specs.Prelude.{◌≡◌, ℕ, ◌<◌, ◌≤◌, ◌^◌, Bool, true, ◌&&◌, nat_le, List, [], ◌∷◌, ◌++◌, Option, Some, None, map, length, ◌⊎◌}
use Rattle.std.specs.List.{list_any, list_all, AllByRecursion}
use Rattle.path_patterns.specs.declared.items.NumberRange.{NumberRange}
use Rattle.path_patterns.specs.declared.items.NumberSet.{NumberSet}
use Rattle.path_patterns.specs.declared.items.TokenItem.{TokenItem}
use Rattle.path_patterns.specs.declared.items.TokenBranch.{TokenBranch}
use Rattle.path_patterns.specs.declared.items.TokenPattern.{TokenPattern}

-- the greatest AS number
abbrev pub greatest : ℕ
greatest = 4294967295

-- each number of a path has 32 bits
abbrev pub IsPath : List ℕ → Type 0
IsPath path = AllByRecursion (λ n. n < 2 ^ 32) path

-- the statement holds for some element
abbrev pub SomeOf : {A : Type 0} → (A → Type 0) → List A → Type 0
SomeOf P [] = ⊥
SomeOf P (x ∷ xs) = P x ⊎ SomeOf P xs

-- the number lies between the two ends
abbrev pub in_range : NumberRange → ℕ → Bool
in_range r n = nat_le r.least n && nat_le n r.most

-- the number lies in one of the ranges
abbrev pub in_set : NumberSet → ℕ → Bool
in_set set n = list_any (λ r. in_range r n) set.ranges

-- what is taken from a path: least to most numbers, each of which fits
pub record Takes : Type 0 where
  pub fits : ℕ → Bool
  pub least : ℕ
  pub most : Option ℕ

-- the count is not above the upper end, where there is one
abbrev pub AtMost : ℕ → Option ℕ → Type 0
AtMost n None = Unit {0}
AtMost n (Some most) = n ≤ most

-- so many numbers may be taken
abbrev pub Counts : Takes → ℕ → Type 0
Counts t n = (t.least ≤ n) × AtMost n t.most

-- a path is taken: some numbers from its front by the first, and what remains by the others
unfoldable pub Taken : List Takes → List ℕ → Type 0
Taken [] path = path ≡ []
Taken (t ∷ ts) path =
    (front : List ℕ) × (rest : List ℕ) × (path ≡ front ++ rest) × (list_all t.fits front ≡ true) × Counts t (length front) × Taken ts rest

-- what an item takes
abbrev pub takes_of : TokenItem → Takes
takes_of i = record { fits = in_set i.set; least = i.least; most = i.most }

-- the items of a branch match a path
abbrev pub BranchMatches : TokenBranch → List ℕ → Type 0
BranchMatches b path = Taken (map takes_of b.items) path

-- some branch matches a path
abbrev pub Matches : TokenPattern → List ℕ → Type 0
Matches p path = SomeOf (λ b. BranchMatches b path) p.branches
