-- What is made of a draft makes of its route.
use Rattle.std.proofs.Common.{◌≡◌, refl, ap, ◌∙◌, ℕ, Bool, true, false, not, List, [], ◌∷◌, ◌++◌}
use Rattle.std.specs.Prelude.{filter, reverse}
use Rattle.std.proofs.lemmas.List.{reverse-append, reverse-reverse}
use Rattle.route_types.specs.Address.{PrefixParts}
use Rattle.route_types.specs.Community.{RectParts, fits, number, set_of, IsAscending}
use Rattle.route_types.specs.Sets.{fits_some}
use Rattle.route_types.specs.Route.{RouteParts}
use Rattle.route_types.specs.declared.community.Community.{Community}
use Rattle.route_types.specs.declared.route.NextHop.{NextHop}
use Rattle.route_types.specs.declared.route.Origin.{Origin}
use Rattle.route_types.proofs.Sets.{same_community, set_itself, set_added, set_kept}
use Rattle.route_drafts.specs.Drafts.{route_of}
use Rattle.route_drafts.specs.declared.draft.Draft.{Draft}

-- the draft of a route makes the route
pub drafted : (r : RouteParts) (hop : NextHop) (origin : Origin) (preference med weight : ℕ) (path : List ℕ) (cs : List Community) → IsAscending r.communities
    → hop ≡ r.next_hop → origin ≡ r.origin → preference ≡ r.local_preference → med ≡ r.med → weight ≡ r.weight → path ≡ reverse r.path → cs ≡ r.communities
    → route_of r.prefix (record { next_hop = hop; path = path; origin = origin; local_preference = preference; med = med; weight = weight; communities = cs }) ≡ r
drafted r hop origin preference med weight path cs h a b c d e f g =
    let back : reverse path ≡ r.path = ap (λ (ns : List ℕ). reverse ns) f ∙ reverse-reverse r.path in
    let set : set_of cs ≡ r.communities = ap (λ (xs : List Community). set_of xs) g ∙ set_itself number same_community r.communities h in
    simp (a, b, c, d, e, back, set) refl

-- numbers behind the far end stand before the path
pub prepended : (d e : Draft) (ns : List ℕ) → e ≡ record d { path = d.path ++ reverse ns } → (p : PrefixParts) → route_of p e ≡ record (route_of p d) { path = ns ++ reverse d.path }
prepended d e ns made p =
    ap (λ (x : Draft). route_of p x) made
    ∙ ap (λ (path : List ℕ). record (route_of p d) { path = path }) (reverse-append d.path (reverse ns) ∙ ap (λ (front : List ℕ). front ++ reverse d.path) (reverse-reverse ns))

based : (b : Bool) (cs more : List Community) → set_of (elim b [ true ↦ cs | false ↦ [] ] ++ more) ≡ set_of (elim b [ true ↦ set_of cs | false ↦ [] ] ++ more)
based true cs more = set_added number same_community cs more
based false cs more = refl

-- communities that are added, or take the place of others
pub set : (d e : Draft) (b : Bool) (cs : List Community) → e ≡ record d { communities = elim b [ true ↦ d.communities | false ↦ [] ] ++ cs }
    → (p : PrefixParts) → route_of p e ≡ record (route_of p d) { communities = set_of (elim b [ true ↦ set_of d.communities | false ↦ [] ] ++ cs) }
set d e b cs made p = ap (λ (x : Draft). route_of p x) made ∙ ap (λ (xs : List Community). record (route_of p d) { communities = xs }) (based b d.communities cs)

-- communities that are taken away
pub removed : (d e : Draft) (rects : List RectParts) → e ≡ record d { communities = filter (λ c. not (fits_some fits rects c)) d.communities }
    → (p : PrefixParts) → route_of p e ≡ record (route_of p d) { communities = filter (λ c. not (fits_some fits rects c)) (set_of d.communities) }
removed d e rects made p =
    ap (λ (x : Draft). route_of p x) made
    ∙ ap (λ (xs : List Community). record (route_of p d) { communities = xs }) (set_kept number same_community (λ c. not (fits_some fits rects c)) d.communities)
