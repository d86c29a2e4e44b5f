-- The branches of all patterns in one list, and what they take.
use Rattle.std.specs.Prelude.{◌≡◌, ℕ, suc, ◌<◌, ◌^◌, Bool, true, List, [], ◌∷◌, ◌++◌, map}
use Rattle.std.specs.List.{AllByRecursion}
use Rattle.path_patterns.specs.Items.{Takes, takes_of}
use Rattle.path_patterns.specs.PathMatches.{whole_path}
use Rattle.path_patterns.specs.declared.items.TokenBranch.{TokenBranch}
use Rattle.path_patterns.specs.declared.items.TokenPattern.{TokenPattern}
use Rattle.path_classes.specs.Numbers.{in_ends}
use Rattle.path_classes.specs.declared.lines.Turn.{Turn}
use Rattle.path_classes.specs.declared.lines.Line.{Line}

-- the number is in the set of a turn
abbrev pub turn_holds : Turn → ℕ → Bool
turn_holds t n = in_ends t.set.leasts t.set.mosts n

-- what a turn takes
abbrev pub turn_takes : Turn → Takes
turn_takes t = record { fits = λ n. turn_holds t n; least = t.least; most = t.most }

-- turns take a whole path
abbrev pub turns_take : List Turn → List ℕ → Bool
turns_take ts path = whole_path (map turn_takes ts) path

-- a set that is called whole has all numbers
abbrev pub IsSound : Turn → Type 0
IsSound t = t.whole ≡ true → (n : ℕ) → n < 2 ^ 32 → turn_holds t n ≡ true

-- so it is at each turn
abbrev pub AreSoundTurns : List Turn → Type 0
AreSoundTurns ts = AllByRecursion IsSound ts

-- so it is on each line
abbrev pub AreSound : List Line → Type 0
AreSound ls = AllByRecursion (λ l. AreSoundTurns l.turns) ls

-- a line: the place of its pattern, and what its turns take
abbrev pub line_view : Line → ℕ × List Takes
line_view l = (l.pattern, map turn_takes l.turns)

-- the line of a branch
abbrev pub branch_view : ℕ → TokenBranch → ℕ × List Takes
branch_view j b = (j, map takes_of b.items)

-- the lines of patterns, the first of which has this place
unfoldable pub views_from : ℕ → List TokenPattern → List (ℕ × List Takes)
views_from j [] = []
views_from j (p ∷ ps) = map (branch_view j) p.branches ++ views_from (suc j) ps
