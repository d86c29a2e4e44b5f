-- Worked examples of what lines set and what lists take away, which the checker computes.
use Rattle.std.proofs.Common.{◌≡◌, refl, true, false, [], ◌∷◌}
use Rattle.route_types.specs.declared.change.Change.TheVariants.{Prepend, Communities}
use Rattle.route_types.specs.declared.community.Community.{Community}
use Rattle.ios_tree.specs.declared.item.MapLine.TheVariants.{SetPrepend, SetCommunity, MatchMetric}
use Rattle.ios_meaning.specs.Lists.{single}
use Rattle.ios_lower.specs.Changes.{changes_of}
use Rattle.ios_lower.specs.Deletions.{every, alone_in}

-- 65001:1 and 65001:2
abbrev one : Community
one = record { 0 = 4259905537 }

abbrev two : Community
two = record { 0 = 4259905538 }

-- `set as-path prepend 7 8`: 8 is put before the path, and then 7
prepend_backwards : changes_of (SetPrepend (7 ∷ 8 ∷ [])) ≡ Prepend 8 ∷ Prepend 7 ∷ []
prepend_backwards = refl

-- `set community 65001:1`: all others go
set_replaces : changes_of (SetCommunity (record { communities = one ∷ []; additive = false })) ≡ Communities (record { removed = every ∷ []; added = one ∷ [] }) ∷ []
set_replaces = refl

-- with `additive` they stay
set_adds : changes_of (SetCommunity (record { communities = one ∷ []; additive = true })) ≡ Communities (record { removed = []; added = one ∷ [] }) ∷ []
set_adds = refl

-- a match line changes nothing
match_sets_nothing : changes_of (MatchMetric (5 ∷ [])) ≡ []
match_sets_nothing = refl

-- alone a community is all of `65001:1 65001:1`, and none is all of `65001:1 65001:2`
alone_twice : alone_in (one ∷ one ∷ []) ≡ single one ∷ []
alone_twice = refl

alone_never : alone_in (one ∷ two ∷ []) ≡ []
alone_never = refl
