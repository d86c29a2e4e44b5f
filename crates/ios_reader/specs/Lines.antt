-- What the lines of an entry name, test and set.
use Rattle.std.specs.Prelude.{ℕ, Bool, true, false, ◌&&◌, ◌==◌, List, [], ◌∷◌, Option, Some, None, bytes_eq}
use Rattle.std.specs.List.{list_any}
use Rattle.ios_tree.specs.declared.item.ItemSort.{ItemSort}
use Rattle.ios_tree.specs.declared.item.ItemSort.TheVariants.{PrefixList, CommunityList, PathList}
use Rattle.ios_tree.specs.declared.item.ItemSort.TheVariants.{Line as LineSort}
use Rattle.ios_tree.specs.declared.item.MapLine.{MapLine}
use Rattle.ios_tree.specs.declared.item.MapLine.TheVariants.{MatchPrefix, MatchNextHop, MatchCommunity, MatchPath, MatchMetric, SetLocalPreference, SetMetric, SetWeight, SetPrepend, SetOrigin, SetNextHop, SetCommunity, DeleteCommunities, Continue, Description}
use Rattle.ios_reader.specs.Items.{sort_code}
use Rattle.ios_reader.specs.declared.lines.Setting.{Setting}
use Rattle.ios_reader.specs.declared.lines.Setting.TheVariants.{Med, Path, NextHop, Communities}
use Rattle.ios_reader.specs.declared.lines.Effect.{Effect}
use Rattle.ios_reader.specs.declared.lines.Effect.TheVariants.{Continues, Sets}

-- the lists that a line names, and their sort
abbrev pub lists_named : MapLine → ItemSort × List (List ℕ)
lists_named (MatchPrefix m) = (PrefixList m.family, m.lists)
lists_named (MatchNextHop m) = (PrefixList m.family, m.lists)
lists_named (MatchCommunity m) = (CommunityList, m.lists)
lists_named (MatchPath m) = (PathList, m.lists)
lists_named (DeleteCommunities list) = (CommunityList, list ∷ [])
lists_named _ = (LineSort, [])

-- the line names this list of this sort; the number is 0
abbrev pub names_list : List ℕ → ℕ → ℕ → MapLine → Bool
names_list list sort number line = (number == 0) && (sort == sort_code (lists_named line).0) && list_any (bytes_eq list) (lists_named line).1

-- the form of a line as a number: lines of one form have one, both forms of `continue` are one, and so are
-- both forms of `set community`
abbrev pub kind_of : MapLine → ℕ
kind_of (MatchPrefix m) = 0
kind_of (MatchNextHop m) = 1
kind_of (MatchCommunity m) = 2
kind_of (MatchPath m) = 3
kind_of (MatchMetric ns) = 4
kind_of (SetLocalPreference n) = 5
kind_of (SetMetric n) = 6
kind_of (SetWeight n) = 7
kind_of (SetPrepend ns) = 8
kind_of (SetOrigin o) = 9
kind_of (SetNextHop a) = 10
kind_of (SetCommunity s) = 11
kind_of (DeleteCommunities list) = 12
kind_of (Continue s) = 13
kind_of Description = 14

-- a `description` line
abbrev pub is_description_line : MapLine → Bool
is_description_line Description = true
is_description_line _ = false

-- a `continue` line
abbrev pub continues : MapLine → Bool
continues (Continue s) = true
continues _ = false

-- the number of the entry that a line continues at, where it gives one
abbrev pub target_of : MapLine → Option ℕ
target_of (Continue s) = s
target_of _ = None

-- the line sets this
abbrev pub sets : Setting → MapLine → Bool
sets Med (SetMetric n) = true
sets Path (SetPrepend ns) = true
sets NextHop (SetNextHop a) = true
sets Communities (SetCommunity s) = true
sets Communities (DeleteCommunities list) = true
sets _ _ = false

-- what the line tests that an entry before it may set
abbrev pub tested_by : MapLine → Option Setting
tested_by (MatchMetric ns) = Some Med
tested_by (MatchPath m) = Some Path
tested_by (MatchNextHop m) = Some NextHop
tested_by (MatchCommunity m) = Some Communities
tested_by _ = None

-- the line continues, or sets this
abbrev pub has_effect : Effect → MapLine → Bool
has_effect Continues line = continues line
has_effect (Sets setting) line = sets setting line
