-- The routes that changes leave, when one more is made.
use Rattle.std.proofs.Common.{◌≡◌, refl, sym, ap, ◌∙◌, ℕ, List, [], ◌∷◌, ◌++◌, take, Some, None, Option, append-nil}
use Rattle.std.specs.Prelude.{unwrap_or}
use Rattle.std.specs.Option.{option_or}
use Rattle.std.proofs.lemmas.Option.{same_Some}
use Rattle.route_types.specs.Route.{RouteParts}
use Rattle.route_types.specs.declared.community.Community.{Community}
use Rattle.rpl_effects.specs.Pieces.{leaves, leaves_at, prepends_of, steps_of}
use Rattle.rpl_effects.specs.Changes.{all_done, before, repeated_before, Acts, route_behind, with_those, both, changes_of, Has}
use Rattle.rpl_effects.specs.declared.effect.Times.{Times}
use Rattle.rpl_effects.specs.declared.effect.Piece.{Piece}
use Rattle.rpl_effects.specs.declared.effect.Piece.TheVariants.{One, OfEffect}
use Rattle.rpl_effects.specs.declared.effect.Changes.{Changes}
use Rattle.rpl_effects.specs.declared.effect.Effect.{Effect}
use Rattle.rpl_effects.specs.declared.effect.Effect.TheVariants.{GoesOn, Accepted, Rejected}
use Rattle.rpl_effects.proofs.PieceLaws.{leaves_append, at_there}

pub done_append : {X A : Type 0} (does : X → A → A) (xs ys : List X) (a : A) → all_done does (xs ++ ys) a ≡ all_done does ys (all_done does xs a)
unfolding all_done
done_append does [] ys a = refl
done_append does (x ∷ xs) ys a = done_append does xs ys (does x a)

-- pieces, and one more that is done last
pub one_more : {T A : Type 0} (does : T → A → A) (at : ℕ → List T) (ps : List (Piece T)) (x : T) (a : A) → all_done does (leaves at (ps ++ (One x ∷ []))) a ≡ does x (all_done does (leaves at ps) a)
unfolding all_done leaves
one_more {T} does at ps x a = ap (λ (xs : List T). all_done does xs a) (leaves_append at ps (One x ∷ [])) ∙ done_append does (leaves at ps) (x ∷ []) a

-- pieces, and then all that the effect at a place has
pub those_more : {T A : Type 0} (does : T → A → A) (at : ℕ → List T) (ps qs : List (Piece T)) (place : ℕ) (older : ℕ → List T) (a : A) → at place ≡ leaves older qs
    → all_done does (leaves at (with_those ps qs place)) a ≡ all_done does (leaves older qs) (all_done does (leaves at ps) a)
unfolding all_done leaves
those_more does at ps [] place older a e = refl
those_more {T} does at ps (q ∷ qs) place older a e =
    ap (λ (xs : List T). all_done does xs a) (leaves_append at ps (OfEffect place ∷ []))
    ∙ done_append does (leaves at ps) (at place ++ []) a
    ∙ ap (λ (xs : List T). all_done does xs (all_done does (leaves at ps) a)) (append-nil (at place) ∙ e)

module _ {S : Type 0} (acts : Acts S) (table : List (Effect S)) where
  pub none_leaves : (ps : List (Piece Times)) (ss : List (Piece S)) → ps ≡ [] → ss ≡ [] → (r : RouteParts)
      → route_behind acts table (record { next_hop = None; origin = None; local_preference = None; med = None; weight = None; prepends = ps; steps = ss }) r ≡ r
  unfolding all_done leaves
  none_leaves ps ss e f r =
      ap (λ (qs : List (Piece Times)). route_behind acts table (record { next_hop = None; origin = None; local_preference = None; med = None; weight = None; prepends = qs; steps = ss }) r) e
      ∙ ap (λ (qs : List (Piece S)). route_behind acts table (record { next_hop = None; origin = None; local_preference = None; med = None; weight = None; prepends = []; steps = qs }) r) f

  -- a number that is put before the path no time
  pub not_prepended : (c : Changes S) (number count : ℕ) → count ≡ 0 → (r : RouteParts) → route_behind acts table c r ≡ record (route_behind acts table c r) { path = repeated_before number count (route_behind acts table c r).path }
  unfolding repeated_before
  not_prepended c number count none r = ap (λ (n : ℕ). record (route_behind acts table c r) { path = repeated_before number n (route_behind acts table c r).path }) (sym none)

  pub prepended : (c : Changes S) (number count : ℕ) (ps : List (Piece Times)) → ps ≡ c.prepends ++ (One (record { number = number; count = count }) ∷ []) → (r : RouteParts)
      → route_behind acts table (record c { prepends = ps }) r ≡ record (route_behind acts table c r) { path = repeated_before number count (route_behind acts table c r).path }
  prepended c number count ps e r =
      ap (λ (qs : List (Piece Times)). route_behind acts table (record c { prepends = qs }) r) e
      ∙ ap (λ (path : List ℕ). record (route_behind acts table c r) { path = path }) (one_more before (leaves_at prepends_of table) c.prepends (record { number = number; count = count }) r.path)

  pub stepped : (c : Changes S) (step : S) (ss : List (Piece S)) → ss ≡ c.steps ++ (One step ∷ []) → (r : RouteParts)
      → route_behind acts table (record c { steps = ss }) r ≡ record (route_behind acts table c r) { communities = acts step (route_behind acts table c r).communities }
  stepped c step ss e r =
      ap (λ (qs : List (Piece S)). route_behind acts table (record c { steps = qs }) r) e
      ∙ ap (λ (set : List Community). record (route_behind acts table c r) { communities = set }) (one_more acts (leaves_at steps_of table) c.steps step r.communities)

later_value : {A : Type 0} (o p : Option A) (x : A) → unwrap_or (option_or o p) x ≡ unwrap_or o (unwrap_or p x)
later_value None p x = refl
later_value (Some y) p x = refl

has_prepends : {S : Type 0} (e : Effect S) (c : Changes S) → changes_of e ≡ Some c → prepends_of e ≡ c.prepends
has_prepends (GoesOn run) c h = ap (λ (d : Changes _). d.prepends) (same_Some run.changes c h)
has_prepends (Accepted d) c h = ap (λ (d : Changes _). d.prepends) (same_Some d c h)
has_prepends Rejected c h = absurd cc

has_steps : {S : Type 0} (e : Effect S) (c : Changes S) → changes_of e ≡ Some c → steps_of e ≡ c.steps
has_steps (GoesOn run) c h = ap (λ (d : Changes _). d.steps) (same_Some run.changes c h)
has_steps (Accepted d) c h = ap (λ (d : Changes _). d.steps) (same_Some d c h)
has_steps Rejected c h = absurd cc

-- what the effect at a place has
pub prepends_there : {S : Type 0} (table : List (Effect S)) (place : ℕ) (c : Changes S) → Has table place c → leaves_at prepends_of table place ≡ leaves (leaves_at prepends_of (take place table)) c.prepends
prepends_there table place c has = at_there prepends_of table place has.effect has.there ∙ ap (λ (ps : List (Piece Times)). leaves (leaves_at prepends_of (take place table)) ps) (has_prepends has.effect c has.changes)

pub steps_there : {S : Type 0} (table : List (Effect S)) (place : ℕ) (c : Changes S) → Has table place c → leaves_at steps_of table place ≡ leaves (leaves_at steps_of (take place table)) c.steps
steps_there {S} table place c has = at_there steps_of table place has.effect has.there ∙ ap (λ (ps : List (Piece S)). leaves (leaves_at steps_of (take place table)) ps) (has_steps has.effect c has.changes)

-- changes, and then those of the effect at a place
pub both_leave : {S : Type 0} (c later d : Changes S) (place : ℕ) → d ≡ both c later place → (acts : Acts S) (table : List (Effect S)) → Has table place later → (r : RouteParts)
    → route_behind acts table d r ≡ route_behind acts (take place table) later (route_behind acts table c r)
both_leave {S} c later d place made acts table has r =
    ap (λ (x : Changes S). route_behind acts table x r) made
    ∙ simp (
      later_value later.next_hop c.next_hop r.next_hop,
      later_value later.origin c.origin r.origin,
      later_value later.local_preference c.local_preference r.local_preference,
      later_value later.med c.med r.med,
      later_value later.weight c.weight r.weight,
      those_more before (leaves_at prepends_of table) c.prepends later.prepends place (leaves_at prepends_of (take place table)) r.path (prepends_there table place later has),
      those_more acts (leaves_at steps_of table) c.steps later.steps place (leaves_at steps_of (take place table)) r.communities (steps_there table place later has),
    ) refl
