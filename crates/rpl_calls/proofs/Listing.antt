-- The parameters that arguments are handed to and hand on, place by place.
use Rattle.std.proofs.Common.{◌≡◌, refl, sym, ap, ◌∙◌, subst, ℕ, zero, suc, ◌<◌, ◌≤◌, List, [], ◌∷◌, length, get_or, Option, Some, slice_get, arith}
use Rattle.std.specs.Prelude.{map}
use Rattle.rpl_calls.specs.Arguments.{ArgumentParts, target, source, targets, sources}
use Rattle.rpl_calls.specs.Listed.{handing_parts, handings_in}
use Rattle.rpl_calls.specs.Parameters.{ParameterParts}
use Rattle.rpl_calls.specs.Table.{IsTable}
use Rattle.rpl_calls.specs.declared.arguments.Handing.{Handing}
use Rattle.rpl_calls.specs.declared.table.Table.{Table}

module _ (f : ArgumentParts → Option ParameterParts) where
  abbrev all : List Handing → List (Option ParameterParts)
  all hs = map f (handings_in hs)

  f_at : (hs : List Handing) (k : ℕ) (h : Handing) → k < length hs → slice_get (all hs) k ≡ Some (f (handing_parts (get_or hs k h)))
  f_at [] k h below = absurd (omega arith)
  f_at (g ∷ hs) zero h below = refl
  f_at (g ∷ hs) (suc k) h below = f_at hs k h (omega arith)

  as_many : (hs : List Handing) → length (all hs) ≡ length hs
  as_many [] = refl
  as_many (h ∷ hs) = ap suc (as_many hs)

  long : (hs : List Handing) (table : Table) (place : ℕ) → place ≤ length hs → length hs ≤ place → IsTable (all hs) table place → IsTable (all hs) table (length (all hs))
  long hs table place within beyond told = let many = as_many hs in subst (λ (n : ℕ). IsTable (all hs) table n) (omega (arith, many, within, beyond)) told

pub target_at : (hs : List Handing) (k : ℕ) (h : Handing) → k < length hs → h ≡ get_or hs k h → slice_get (targets (handings_in hs)) k ≡ Some (Some (target (handing_parts h)))
target_at hs k h below is = f_at (λ a. Some (target a)) hs k h below ∙ ap (λ (g : Handing). Some (Some (target (handing_parts g)))) (sym is)

pub source_at : (hs : List Handing) (k : ℕ) (h : Handing) → k < length hs → h ≡ get_or hs k h → slice_get (sources (handings_in hs)) k ≡ Some (source (handing_parts h))
source_at hs k h below is = f_at source hs k h below ∙ ap (λ (g : Handing). Some (source (handing_parts g))) (sym is)

pub targets_long : (hs : List Handing) (table : Table) (place : ℕ) → place ≤ length hs → length hs ≤ place → IsTable (targets (handings_in hs)) table place → IsTable (targets (handings_in hs)) table (length (targets (handings_in hs)))
targets_long hs table place within beyond told = long (λ a. Some (target a)) hs table place within beyond told

pub sources_long : (hs : List Handing) (table : Table) (place : ℕ) → place ≤ length hs → length hs ≤ place → IsTable (sources (handings_in hs)) table place → IsTable (sources (handings_in hs)) table (length (sources (handings_in hs)))
sources_long hs table place within beyond told = long source hs table place within beyond told
