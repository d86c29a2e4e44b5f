-- What a pattern of items still asks behind a number that is put before the path (Junos OS Routing Policies User Guide,
-- 'AS path regular expressions'): the items that can take the number are left with one less to take.
use Rattle.std.specs.Prelude.{ℕ, ◌-◌, Bool, true, false, ◌&&◌, nat_le, List, [], ◌∷◌, ◌++◌}
use Rattle.path_patterns.specs.Items.{in_set}
use Rattle.path_patterns.specs.PathMatches.{has_room, one_fewer}
use Rattle.path_patterns.specs.declared.items.TokenItem.{TokenItem}
use Rattle.path_patterns.specs.declared.items.TokenBranch.{TokenBranch}
use Rattle.path_patterns.specs.declared.items.TokenPattern.{TokenPattern}

-- the item may take the number
abbrev pub may_take : ℕ → TokenItem → Bool
may_take n i = has_room i.most && in_set i.set n

-- the item may take no number at all, and so leave it to the next one
abbrev pub may_pass : TokenItem → Bool
may_pass i = nat_le i.least 0

-- the item with one number less to take
abbrev pub one_taken : TokenItem → TokenItem
one_taken i = record { set = i.set; least = i.least - 1; most = one_fewer i.most }

-- the item with one less to take, and those behind it, where it may take the number
abbrev pub taken_first : ℕ → TokenItem → List TokenItem → List TokenBranch
taken_first n i is = elim (may_take n i) [ true ↦ record { items = one_taken i ∷ is } ∷ [] | false ↦ [] ]

-- the branches that items leave behind a number: one for each item that can take it, where those before it may take none
unfoldable pub items_behind : ℕ → List TokenItem → List TokenBranch
items_behind n [] = []
items_behind n (i ∷ is) = taken_first n i is ++ elim (may_pass i) [ true ↦ items_behind n is | false ↦ [] ]

-- the same of branches
unfoldable pub branches_behind : ℕ → List TokenBranch → List TokenBranch
branches_behind n [] = []
branches_behind n (b ∷ bs) = items_behind n b.items ++ branches_behind n bs

-- what the pattern still asks behind the number
abbrev pub pattern_behind : ℕ → TokenPattern → TokenPattern
pattern_behind n p = record { branches = branches_behind n p.branches }

-- what it still asks behind some numbers, the first of which stands first in the path
unfoldable pub pattern_behind_all : List ℕ → TokenPattern → TokenPattern
pattern_behind_all [] p = p
pattern_behind_all (n ∷ ns) p = pattern_behind_all ns (pattern_behind n p)
