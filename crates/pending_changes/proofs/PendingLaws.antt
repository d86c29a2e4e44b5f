-- One more change behind what is pending: what is left of a route, and what is said.
use Rattle.std.proofs.Common.{◌≡◌, refl, sym, ap, subst, ◌∙◌, ℕ, Bool, true, List, [], ◌∷◌, Some, None, true≢false}
use Rattle.std.specs.List.{list_all}
use Rattle.std.proofs.lemmas.Bool.{and_from}
use Rattle.route_types.specs.Route.{RouteParts}
use Rattle.route_types.specs.Change.{changed}
use Rattle.route_types.specs.Community.{RectParts}
use Rattle.route_types.specs.declared.community.Community.{Community}
use Rattle.route_types.specs.declared.community.CommChange.{CommChange}
use Rattle.route_types.specs.declared.route.NextHop.{NextHop}
use Rattle.route_types.specs.declared.route.Origin.{Origin}
use Rattle.route_types.specs.declared.change.Change.{Change}
use Rattle.route_types.specs.declared.change.Change.TheVariants.{NextHop as SetNextHop, Prepend, Origin as SetOrigin, LocalPreference, Med, Weight, Communities}
use Rattle.community_cuts.specs.Earlier.{behind}
use Rattle.pending_changes.specs.Pending.{communities_behind, route_behind, PendingSays, LeavesApart, LeavesAll}
use Rattle.pending_changes.specs.declared.pending.Pending.{Pending}

abbrev nothing : List ℕ → Pending
nothing path = record { local_preference = None; med = None; weight = None; origin = None; next_hop = None; prepended = path; communities = None }

pub none_leaves : (path : List ℕ) → path ≡ [] → (r : RouteParts) → route_behind (nothing path) r ≡ r
none_leaves path e r = ap (λ (ns : List ℕ). route_behind (nothing ns) r) e

pub none_says : (path : List ℕ) → path ≡ [] → (on_value : Change → Bool) (on_rect : RectParts → Bool) → PendingSays on_value on_rect (nothing path)
none_says path e on_value on_rect =
    record { local_preference = refl; med = refl; weight = refl; origin = refl; next_hop = refl; prepended = ap (λ (ns : List ℕ). list_all (λ n. on_value (Prepend n)) ns) e; communities = refl }

-- ---- what is left of a route

pub next_hop_leaves : (p q : Pending) (h : NextHop) → q ≡ record p { next_hop = Some h } → (r : RouteParts) → route_behind q r ≡ changed (SetNextHop h) (route_behind p r)
next_hop_leaves p q h e r = ap (λ (x : Pending). route_behind x r) e

pub number_leaves : (p q : Pending) (n : ℕ) → q ≡ record p { prepended = n ∷ p.prepended } → (r : RouteParts) → route_behind q r ≡ changed (Prepend n) (route_behind p r)
number_leaves p q n e r = ap (λ (x : Pending). route_behind x r) e

pub origin_leaves : (p q : Pending) (o : Origin) → q ≡ record p { origin = Some o } → (r : RouteParts) → route_behind q r ≡ changed (SetOrigin o) (route_behind p r)
origin_leaves p q o e r = ap (λ (x : Pending). route_behind x r) e

pub preference_leaves : (p q : Pending) (n : ℕ) → q ≡ record p { local_preference = Some n } → (r : RouteParts) → route_behind q r ≡ changed (LocalPreference n) (route_behind p r)
preference_leaves p q n e r = ap (λ (x : Pending). route_behind x r) e

pub med_leaves : (p q : Pending) (n : ℕ) → q ≡ record p { med = Some n } → (r : RouteParts) → route_behind q r ≡ changed (Med n) (route_behind p r)
med_leaves p q n e r = ap (λ (x : Pending). route_behind x r) e

pub weight_leaves : (p q : Pending) (n : ℕ) → q ≡ record p { weight = Some n } → (r : RouteParts) → route_behind q r ≡ changed (Weight n) (route_behind p r)
weight_leaves p q n e r = ap (λ (x : Pending). route_behind x r) e

pub change_leaves : (p q : Pending) (both change : CommChange) → q ≡ record p { communities = Some both } → ((set : List Community) → behind both set ≡ behind change (communities_behind p.communities set))
    → (r : RouteParts) → route_behind q r ≡ changed (Communities change) (route_behind p r)
change_leaves p q both change e acts r =
    ap (λ (x : Pending). route_behind x r) e ∙ ap (λ (set : List Community). record (route_behind p r) { communities = set }) (acts r.communities)

-- ---- what is said

module _ (on_value : Change → Bool) (on_rect : RectParts → Bool) where
  pub next_hop_says : (p q : Pending) (h : NextHop) → q ≡ record p { next_hop = Some h } → PendingSays on_value on_rect p → on_value (SetNextHop h) ≡ true → PendingSays on_value on_rect q
  next_hop_says p q h e s v =
      subst (λ (x : Pending). PendingSays on_value on_rect x) (sym e)
      (record { local_preference = s.local_preference; med = s.med; weight = s.weight; origin = s.origin; next_hop = v; prepended = s.prepended; communities = s.communities })

  pub number_says : (p q : Pending) (n : ℕ) → q ≡ record p { prepended = n ∷ p.prepended } → PendingSays on_value on_rect p → on_value (Prepend n) ≡ true → PendingSays on_value on_rect q
  number_says p q n e s v =
      subst (λ (x : Pending). PendingSays on_value on_rect x) (sym e)
      (record {
        local_preference = s.local_preference;
        med = s.med;
        weight = s.weight;
        origin = s.origin;
        next_hop = s.next_hop;
        prepended = and_from (on_value (Prepend n)) (list_all (λ m. on_value (Prepend m)) p.prepended) v s.prepended;
        communities = s.communities;
      })

  pub origin_says : (p q : Pending) (o : Origin) → q ≡ record p { origin = Some o } → PendingSays on_value on_rect p → on_value (SetOrigin o) ≡ true → PendingSays on_value on_rect q
  origin_says p q o e s v =
      subst (λ (x : Pending). PendingSays on_value on_rect x) (sym e)
      (record { local_preference = s.local_preference; med = s.med; weight = s.weight; origin = v; next_hop = s.next_hop; prepended = s.prepended; communities = s.communities })

  pub preference_says : (p q : Pending) (n : ℕ) → q ≡ record p { local_preference = Some n } → PendingSays on_value on_rect p → on_value (LocalPreference n) ≡ true → PendingSays on_value on_rect q
  preference_says p q n e s v =
      subst (λ (x : Pending). PendingSays on_value on_rect x) (sym e)
      (record { local_preference = v; med = s.med; weight = s.weight; origin = s.origin; next_hop = s.next_hop; prepended = s.prepended; communities = s.communities })

  pub med_says : (p q : Pending) (n : ℕ) → q ≡ record p { med = Some n } → PendingSays on_value on_rect p → on_value (Med n) ≡ true → PendingSays on_value on_rect q
  med_says p q n e s v =
      subst (λ (x : Pending). PendingSays on_value on_rect x) (sym e)
      (record { local_preference = s.local_preference; med = v; weight = s.weight; origin = s.origin; next_hop = s.next_hop; prepended = s.prepended; communities = s.communities })

  pub weight_says : (p q : Pending) (n : ℕ) → q ≡ record p { weight = Some n } → PendingSays on_value on_rect p → on_value (Weight n) ≡ true → PendingSays on_value on_rect q
  weight_says p q n e s v =
      subst (λ (x : Pending). PendingSays on_value on_rect x) (sym e)
      (record { local_preference = s.local_preference; med = s.med; weight = v; origin = s.origin; next_hop = s.next_hop; prepended = s.prepended; communities = s.communities })

  pub change_says_too : (p q : Pending) (both : CommChange) → q ≡ record p { communities = Some both } → PendingSays on_value on_rect p → list_all on_rect both.removed ≡ true → PendingSays on_value on_rect q
  change_says_too p q both e s v =
      subst (λ (x : Pending). PendingSays on_value on_rect x) (sym e)
      (record { local_preference = s.local_preference; med = s.med; weight = s.weight; origin = s.origin; next_hop = s.next_hop; prepended = s.prepended; communities = v })

-- ---- what is left as it was

pub none_apart : (path : List ℕ) → path ≡ [] → LeavesAll (nothing path)
none_apart path e = record { path = e; communities = refl }

pub next_hop_apart : (p q : Pending) (h : NextHop) → q ≡ record p { next_hop = Some h } → LeavesApart (SetNextHop h) p q
next_hop_apart p q h e = record { path = λ x. ap (λ (y : Pending). y.prepended) e; communities = λ x. ap (λ (y : Pending). y.communities) e }

pub number_apart : (p q : Pending) (n : ℕ) → q ≡ record p { prepended = n ∷ p.prepended } → LeavesApart (Prepend n) p q
number_apart p q n e = record { path = λ x. absurd (true≢false x); communities = λ x. ap (λ (y : Pending). y.communities) e }

pub origin_apart : (p q : Pending) (o : Origin) → q ≡ record p { origin = Some o } → LeavesApart (SetOrigin o) p q
origin_apart p q o e = record { path = λ x. ap (λ (y : Pending). y.prepended) e; communities = λ x. ap (λ (y : Pending). y.communities) e }

pub preference_apart : (p q : Pending) (n : ℕ) → q ≡ record p { local_preference = Some n } → LeavesApart (LocalPreference n) p q
preference_apart p q n e = record { path = λ x. ap (λ (y : Pending). y.prepended) e; communities = λ x. ap (λ (y : Pending). y.communities) e }

pub med_apart : (p q : Pending) (n : ℕ) → q ≡ record p { med = Some n } → LeavesApart (Med n) p q
med_apart p q n e = record { path = λ x. ap (λ (y : Pending). y.prepended) e; communities = λ x. ap (λ (y : Pending). y.communities) e }

pub weight_apart : (p q : Pending) (n : ℕ) → q ≡ record p { weight = Some n } → LeavesApart (Weight n) p q
weight_apart p q n e = record { path = λ x. ap (λ (y : Pending). y.prepended) e; communities = λ x. ap (λ (y : Pending). y.communities) e }

pub change_apart : (p q : Pending) (both change : CommChange) → q ≡ record p { communities = Some both } → LeavesApart (Communities change) p q
change_apart p q both change e = record { path = λ x. ap (λ (y : Pending). y.prepended) e; communities = λ x. absurd (true≢false x) }
