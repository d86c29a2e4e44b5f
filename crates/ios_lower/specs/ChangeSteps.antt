-- The changes of lines, as the code finds them one line after the other.
use Rattle.std.specs.Prelude.{◌≡◌, ◌<◌, ◌^◌, Bool, not, List, filter}
use Rattle.std.specs.List.{AllByRecursion}
use Rattle.route_types.specs.Change.{changed_by}
use Rattle.route_types.specs.Community.{IsAscending}
use Rattle.route_types.specs.Route.{RouteParts}
use Rattle.route_types.specs.declared.change.Change.{Change}
use Rattle.route_types.specs.declared.community.Community.{Community}
use Rattle.path_patterns.specs.Items.{IsPath, SomeOf}
use Rattle.ios_tree.specs.declared.item.IosItem.{IosItem}
use Rattle.ios_tree.specs.declared.item.MapLine.{MapLine}
use Rattle.ios_tree.specs.declared.item.MapLine.TheVariants.{SetPrepend, SetCommunity}
use Rattle.ios_meaning.specs.Meaning.{deletes, set_by, set_by_lines}
use Rattle.ios_meaning.specs.Drafts.{deletes_as}
use Rattle.ios_lower.specs.Changes.{IsChangeOf}

-- each community has 32 bits
abbrev pub AreSmall : List Community → Type 0
AreSmall cs = AllByRecursion (λ c. c.0 < 2 ^ 32) cs

-- the communities of a line and the numbers that it puts before the path have 32 bits
abbrev pub IsSmall : MapLine → Type 0
IsSmall (SetCommunity s) = AreSmall s.communities
IsSmall (SetPrepend ns) = IsPath ns
IsSmall _ = Unit {0}

-- the path and the communities of a route are in range: what lists are asked about
pub record IsTestable (r : RouteParts) : Type 0 where
  pub path : IsPath r.path
  pub small : AreSmall r.communities
  pub ascending : IsAscending r.communities

-- the change is one of the lines'
abbrev pub IsOfLines : List IosItem → List MapLine → Change → Type 0
IsOfLines all lines c = SomeOf (λ l. IsChangeOf all l c) lines

-- changes do what a line does
pub record AreOfLine (all : List IosItem) (l : MapLine) (cs : List Change) : Type 0 where
  pub acts : (r : RouteParts) → IsTestable r → changed_by cs r ≡ set_by all l r
  pub keeps : (r : RouteParts) → IsTestable r → IsTestable (changed_by cs r)
  pub own : AllByRecursion (IsChangeOf all l) cs

-- changes do what those lines do that delete, or those that don't, before some lines that are left
pub record AreBefore (all : List IosItem) (deleting : Bool) (lines rest : List MapLine) (cs : List Change) : Type 0 where
  pub acts : (r : RouteParts) → IsTestable r → set_by_lines all (filter (deletes_as deleting) rest) (changed_by cs r) ≡ set_by_lines all (filter (deletes_as deleting) lines) r
  pub keeps : (r : RouteParts) → IsTestable r → IsTestable (changed_by cs r)
  pub own : AllByRecursion (IsOfLines all lines) cs
  pub within : (c : Change) → IsOfLines all rest c → IsOfLines all lines c

-- changes do what an entry of these lines does to a route, which stays in range, and each is one of the lines'
pub record AreOfEntry (all : List IosItem) (lines : List MapLine) (cs : List Change) : Type 0 where
  pub acts : (r : RouteParts) → IsTestable r → changed_by cs r ≡ set_by_lines all (filter (λ l. not (deletes l)) lines) (set_by_lines all (filter deletes lines) r)
  pub keeps : (r : RouteParts) → IsTestable r → IsTestable (changed_by cs r)
  pub own : AllByRecursion (IsOfLines all lines) cs
