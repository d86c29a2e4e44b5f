-- Which route changes leave, by a table of effects.
use Rattle.std.specs.Prelude.{◌≡◌, ℕ, zero, suc, List, [], ◌∷◌, ◌++◌, Option, Some, None, unwrap_or, slice_get}
use Rattle.std.specs.Option.{option_or}
use Rattle.route_types.specs.Route.{RouteParts}
use Rattle.route_types.specs.declared.community.Community.{Community}
use Rattle.rpl_effects.specs.Pieces.{leaves, leaves_at, prepends_of, steps_of}
use Rattle.rpl_effects.specs.declared.effect.Times.{Times}
use Rattle.rpl_effects.specs.declared.effect.Piece.{Piece}
use Rattle.rpl_effects.specs.declared.effect.Piece.TheVariants.{OfEffect}
use Rattle.rpl_effects.specs.declared.effect.Changes.{Changes}
use Rattle.rpl_effects.specs.declared.effect.Effect.{Effect}
use Rattle.rpl_effects.specs.declared.effect.Effect.TheVariants.{GoesOn, Accepted, Rejected}

-- things done one after the other, from the first to the last
unfoldable pub all_done : {X A : Type 0} → (X → A → A) → List X → A → A
all_done does [] a = a
all_done does (x ∷ xs) a = all_done does xs (does x a)

-- the number, so many times, before a path
unfoldable pub repeated_before : ℕ → ℕ → List ℕ → List ℕ
repeated_before n zero path = path
repeated_before n (suc k) path = n ∷ repeated_before n k path

abbrev pub before : Times → List ℕ → List ℕ
before t path = repeated_before t.number t.count path

-- how steps act on a set of communities
abbrev pub Acts : Type 0 → Type 0
Acts S = S → List Community → List Community

-- the route that changes leave
abbrev pub route_behind : {S : Type 0} → Acts S → List (Effect S) → Changes S → RouteParts → RouteParts
route_behind acts table c r = record {
  prefix = r.prefix;
  next_hop = unwrap_or c.next_hop r.next_hop;
  path = all_done before (leaves (leaves_at prepends_of table) c.prepends) r.path;
  origin = unwrap_or c.origin r.origin;
  local_preference = unwrap_or c.local_preference r.local_preference;
  med = unwrap_or c.med r.med;
  weight = unwrap_or c.weight r.weight;
  communities = all_done acts (leaves (leaves_at steps_of table) c.steps) r.communities;
}

-- pieces, and one more for the effect at a place, if it has any of the sort
abbrev pub with_those : {T : Type 0} → List (Piece T) → List (Piece T) → ℕ → List (Piece T)
with_those ps [] place = ps
with_those ps (q ∷ qs) place = ps ++ (OfEffect place ∷ [])

-- changes, and then those of the effect at a place
abbrev pub both : {S : Type 0} → Changes S → Changes S → ℕ → Changes S
both c later place = record {
  next_hop = option_or later.next_hop c.next_hop;
  origin = option_or later.origin c.origin;
  local_preference = option_or later.local_preference c.local_preference;
  med = option_or later.med c.med;
  weight = option_or later.weight c.weight;
  prepends = with_those c.prepends later.prepends place;
  steps = with_those c.steps later.steps place;
}

-- what an effect changes where it doesn't reject
abbrev pub changes_of : {S : Type 0} → Effect S → Option (Changes S)
changes_of (GoesOn run) = Some run.changes
changes_of (Accepted changes) = Some changes
changes_of Rejected = None

-- the effect at a place of a table has these changes
pub record Has {S : Type 0} (table : List (Effect S)) (place : ℕ) (c : Changes S) : Type 0 where
  pub effect : Effect S
  pub there : slice_get table place ≡ Some effect
  pub changes : changes_of effect ≡ Some c
