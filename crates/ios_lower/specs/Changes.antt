-- What the set lines of an entry change (Cisco IOS IP Routing: BGP command reference, 'set community', 'set comm-list
-- delete', 'set as-path prepend'; Protocol-Independent command reference, 'route-map').
use Rattle.std.specs.Prelude.{◌≡◌, ℕ, true, false, List, [], ◌∷◌, map, reverse}
use Rattle.route_types.specs.declared.change.Change.{Change}
use Rattle.route_types.specs.declared.change.Change.TheVariants.{NextHop, Prepend, Origin, LocalPreference, Med, Weight, Communities}
use Rattle.route_types.specs.declared.community.CommChange.{CommChange}
use Rattle.route_types.specs.declared.route.NextHop.TheVariants.{At}
use Rattle.path_patterns.specs.Items.{SomeOf}
use Rattle.ios_tree.specs.declared.item.IosItem.{IosItem}
use Rattle.ios_tree.specs.declared.item.CommunitySetting.{CommunitySetting}
use Rattle.ios_tree.specs.declared.item.MapLine.{MapLine}
use Rattle.ios_tree.specs.declared.item.MapLine.TheVariants.{SetLocalPreference, SetMetric, SetWeight, SetPrepend, SetOrigin, SetNextHop, SetCommunity, DeleteCommunities}
use Rattle.ios_meaning.specs.Drafts.{entries_named}
use Rattle.ios_lower.specs.Deletions.{every, AreTaken}

-- `set community`: all communities go first, but with `additive`
abbrev pub setting_change : CommunitySetting → CommChange
setting_change s = record { removed = elim s.additive [ true ↦ [] | false ↦ every ∷ [] ]; added = s.communities }

-- the changes of a line that deletes nothing, in the order in which they run: a number that stands further in front
-- is put before the path later
abbrev pub changes_of : MapLine → List Change
changes_of (SetLocalPreference n) = LocalPreference n ∷ []
changes_of (SetMetric n) = Med n ∷ []
changes_of (SetWeight n) = Weight n ∷ []
changes_of (SetPrepend ns) = reverse (map (λ n. Prepend n) ns)
changes_of (SetOrigin o) = Origin o ∷ []
changes_of (SetNextHop a) = NextHop (At a) ∷ []
changes_of (SetCommunity s) = Communities (setting_change s) ∷ []
changes_of _ = []

-- the change takes away the communities on each of which, taken alone, the list answers yes
abbrev pub Deletes : List IosItem → List ℕ → Change → Type 0
Deletes all list (Communities c) = (c.added ≡ []) × AreTaken (entries_named list all) c.removed
Deletes all list _ = ⊥

-- the change is one of a line's
abbrev pub IsChangeOf : List IosItem → MapLine → Change → Type 0
IsChangeOf all (DeleteCommunities list) c = Deletes all list c
IsChangeOf all l c = SomeOf (λ d. c ≡ d) (changes_of l)
