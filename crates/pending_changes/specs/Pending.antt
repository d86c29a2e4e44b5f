-- Changes of a route that wait to be made, in one form (RFC 4271, section 5; RFC 1997): the last value of each attribute
-- that is set, the numbers that come before the path, and one change of the communities.
use Rattle.std.specs.Prelude.{◌≡◌, ℕ, Bool, true, false, List, [], ◌∷◌, ◌++◌, map, reverse, Option, Some, None}
use Rattle.std.specs.List.{list_all}
use Rattle.route_types.specs.Route.{RouteParts}
use Rattle.route_types.specs.Community.{RectParts}
use Rattle.route_types.specs.declared.community.Community.{Community}
use Rattle.route_types.specs.declared.community.CommChange.{CommChange}
use Rattle.route_types.specs.declared.change.Change.{Change}
use Rattle.route_types.specs.declared.change.Change.TheVariants.{NextHop, Prepend, Origin, LocalPreference, Med, Weight, Communities}
use Rattle.community_cuts.specs.Earlier.{behind}
use Rattle.pending_changes.specs.declared.pending.Pending.{Pending}

-- ---- what they make of a route

-- the value that is set, else the route's own
abbrev pub set_or : {A : Type 0} → Option A → A → A
set_or None old = old
set_or (Some new) old = new

-- the communities behind the change, if there is one
abbrev pub communities_behind : Option CommChange → List Community → List Community
communities_behind None set = set
communities_behind (Some change) set = behind change set

-- the route when what is pending is done
abbrev pub route_behind : Pending → RouteParts → RouteParts
route_behind p r = record {
  prefix = r.prefix;
  next_hop = set_or p.next_hop r.next_hop;
  path = p.prepended ++ r.path;
  origin = set_or p.origin r.origin;
  local_preference = set_or p.local_preference r.local_preference;
  med = set_or p.med r.med;
  weight = set_or p.weight r.weight;
  communities = communities_behind p.communities r.communities;
}

-- ---- as a list of changes

-- the change to the value, if there is one
abbrev pub change_to : {A : Type 0} → (A → Change) → Option A → Option Change
change_to make None = None
change_to make (Some value) = Some (make value)

abbrev pub listed : Option Change → List Change
listed None = []
listed (Some change) = change ∷ []

-- the numbers are put before the path from the last one on
abbrev pub prepends : List ℕ → List Change
prepends numbers = map Prepend (reverse numbers)

-- local preference, MED, weight, origin, next hop, prepends, communities
abbrev pub changes_of : Pending → List Change
changes_of p =
    (((((listed (change_to LocalPreference p.local_preference) ++ listed (change_to Med p.med)) ++ listed (change_to Weight p.weight)) ++ listed (change_to Origin p.origin)) ++ listed (change_to NextHop p.next_hop))
    ++ prepends p.prepended)
    ++ listed (change_to Communities p.communities)

-- ---- which values they set, and what they remove

-- the change passes: one of communities by each rectangle that it removes, any other one by itself
abbrev pub change_says : (Change → Bool) → (RectParts → Bool) → Change → Bool
change_says on_value on_rect (NextHop h) = on_value (NextHop h)
change_says on_value on_rect (Prepend n) = on_value (Prepend n)
change_says on_value on_rect (Origin o) = on_value (Origin o)
change_says on_value on_rect (LocalPreference n) = on_value (LocalPreference n)
change_says on_value on_rect (Med n) = on_value (Med n)
change_says on_value on_rect (Weight n) = on_value (Weight n)
change_says on_value on_rect (Communities c) = list_all on_rect c.removed

-- what is there passes
abbrev pub if_there : {A : Type 0} → (A → Bool) → Option A → Bool
if_there test None = true
if_there test (Some value) = test value

-- all that is pending passes
pub record PendingSays (on_value : Change → Bool) (on_rect : RectParts → Bool) (p : Pending) : Type 0 where
  pub local_preference : if_there (λ n. on_value (LocalPreference n)) p.local_preference ≡ true
  pub med : if_there (λ n. on_value (Med n)) p.med ≡ true
  pub weight : if_there (λ n. on_value (Weight n)) p.weight ≡ true
  pub origin : if_there (λ o. on_value (Origin o)) p.origin ≡ true
  pub next_hop : if_there (λ h. on_value (NextHop h)) p.next_hop ≡ true
  pub prepended : list_all (λ n. on_value (Prepend n)) p.prepended ≡ true
  pub communities : if_there (λ c. list_all on_rect c.removed) p.communities ≡ true

-- ---- what they leave as it was

-- the change puts a number before the path
abbrev pub is_prepend : Change → Bool
is_prepend (NextHop h) = false
is_prepend (Prepend n) = true
is_prepend (Origin o) = false
is_prepend (LocalPreference n) = false
is_prepend (Med n) = false
is_prepend (Weight n) = false
is_prepend (Communities c) = false

-- the change is one of the communities
abbrev pub is_of_communities : Change → Bool
is_of_communities (NextHop h) = false
is_of_communities (Prepend n) = false
is_of_communities (Origin o) = false
is_of_communities (LocalPreference n) = false
is_of_communities (Med n) = false
is_of_communities (Weight n) = false
is_of_communities (Communities c) = true

-- the path waits as before where the change puts no number before it, and the communities where it is none of them
pub record LeavesApart (c : Change) (p q : Pending) : Type 0 where
  pub path : is_prepend c ≡ false → q.prepended ≡ p.prepended
  pub communities : is_of_communities c ≡ false → q.communities ≡ p.communities

-- nothing waits for the path or the communities
pub record LeavesAll (p : Pending) : Type 0 where
  pub path : p.prepended ≡ []
  pub communities : p.communities ≡ None
