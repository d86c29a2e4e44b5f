-- What actions make of a route.
use Rattle.std.proofs.Common.{◌≡◌, refl, sym, ap, ◌∙◌, false, not, List, [], ◌∷◌, ◌++◌, filter, map, Result, Ok, Err, IfOk}
use Rattle.std.specs.List.{list_any}
use Rattle.std.proofs.lemmas.Bool.{true≢false}
use Rattle.route_types.specs.Community.{RectParts, fits, set_of}
use Rattle.route_types.specs.Sets.{fits_some}
use Rattle.route_types.specs.Route.{RouteParts}
use Rattle.route_types.specs.declared.community.Community.{Community as OneCommunity}
use Rattle.junos_tree.specs.declared.item.Action.{Action}
use Rattle.junos_tree.specs.declared.item.Action.TheVariants.{Flow as FlowAction, Metric, LocalPreference, Origin, NextHop, Community, Prepend}
use Rattle.junos_tree.specs.declared.item.CommunityAction.{CommunityAction}
use Rattle.junos_tree.specs.declared.item.CommunityVerb.{CommunityVerb}
use Rattle.junos_tree.specs.declared.item.CommunityVerb.TheVariants.{Add, Delete}
use Rattle.junos_tree.specs.declared.item.JunosForm.{JunosForm}
use Rattle.junos_reader.specs.Forms.{changes}
use Rattle.junos_meaning.specs.Sets.{community_members}
use Rattle.junos_meaning.specs.Meaning.{community_of, with_members, acted, acted_by}

-- where no action changes the route it stays as it is
pub unchanged : (all : List JunosForm) (actions : List Action) (r : RouteParts) → list_any changes actions ≡ false → r ≡ acted_by all actions r
unfolding acted_by
unchanged all [] r none = refl
unchanged all (FlowAction f ∷ actions) r none = unchanged all actions r none
unchanged all (Metric n ∷ actions) r none = absurd (true≢false none)
unchanged all (LocalPreference n ∷ actions) r none = absurd (true≢false none)
unchanged all (Origin o ∷ actions) r none = absurd (true≢false none)
unchanged all (NextHop h ∷ actions) r none = absurd (true≢false none)
unchanged all (Community c ∷ actions) r none = absurd (true≢false none)
unchanged all (Prepend ns ∷ actions) r none = absurd (true≢false none)

-- the members of a community, added to those of the route
pub adds : (all : List JunosForm) (c : CommunityAction) (r s : RouteParts) (ms : List RectParts) (more : List OneCommunity)
    → c.verb ≡ Add → ms ≡ community_members all c.community → more ≡ map community_of ms → s ≡ record r { communities = set_of (r.communities ++ more) } → s ≡ acted all (Community c) r
adds all c r s ms more verb members added is =
    is
    ∙ ap (λ (cs : List OneCommunity). record r { communities = set_of (r.communities ++ cs) }) (added ∙ ap (λ (rects : List RectParts). map community_of rects) members)
    ∙ ap (λ (v : CommunityVerb). record r { communities = with_members v (community_members all c.community) r.communities }) (sym verb)

-- the members of a community, taken from those of the route
pub deletes : (all : List JunosForm) (c : CommunityAction) (r s : RouteParts) (ms : List RectParts)
    → c.verb ≡ Delete → ms ≡ community_members all c.community → s ≡ record r { communities = filter (λ d. not (fits_some fits ms d)) r.communities } → s ≡ acted all (Community c) r
deletes all c r s ms verb members is =
    is
    ∙ ap (λ (rects : List RectParts). record r { communities = filter (λ d. not (fits_some fits rects d)) r.communities }) members
    ∙ ap (λ (v : CommunityVerb). record r { communities = with_members v (community_members all c.community) r.communities }) (sym verb)

-- what holds of a result's value is carried over
pub carried : {T E : Type 0} (o : Result T E) (P Q : T → Type 0) → ((x : T) → P x → Q x) → IfOk o P → IfOk o Q
carried (Ok x) P Q over held = over x held
carried (Err e) P Q over held = tt
