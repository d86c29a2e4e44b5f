-- The run over an entry and those behind it.
use Rattle.std.proofs.Common.{◌≡◌, refl, ap, ◌∙◌, ℕ, ◌<◌, ◌≤◌, Bool, true, false, ◌&&◌, nat_le, List, [], ◌∷◌, ◌++◌, Option, Some, None, arith}
use Rattle.std.specs.List.{AllByRecursion}
use Rattle.std.proofs.lemmas.Bool.{le-leb}
use Rattle.route_types.specs.Route.{RouteParts}
use Rattle.route_types.specs.declared.route.Outcome.{Outcome}
use Rattle.route_types.specs.declared.route.Outcome.TheVariants.{Reject, Accept}
use Rattle.ios_tree.specs.declared.item.IosItem.{IosItem}
use Rattle.ios_reader.specs.Entries.{Entry}
use Rattle.ios_meaning.specs.Meaning.{entry_holds, set_by_entry, continuation_of}
use Rattle.ios_readings.specs.AtOnce.{run_at_once, from_number}
use Rattle.ios_readings.proofs.Agree.{decided}
use Rattle.ios_readings.proofs.AtOnce.{goes_on_at}
use Rattle.ios_readings.proofs.Ordered.{Ascends}
use Rattle.ios_graph.specs.Runs.{given_behind, given_by, AreRising}

-- ---- entries of rising numbers

pub rising_of : (es : List Entry) → Ascends (λ e. e.number) es → AreRising es
rising_of [] a = tt
rising_of (e ∷ es) a = (a.0, rising_of es a.1)

ascends_of : (es : List Entry) → AreRising es → Ascends (λ e. e.number) es
ascends_of [] a = tt
ascends_of (e ∷ es) a = (a.0, ascends_of es a.1)

pub rising_behind : (left es : List Entry) → AreRising (left ++ es) → AreRising es
rising_behind [] es a = a
rising_behind (e ∷ left) es a = rising_behind left es a.1

-- what is below numbers isn't above them
pub at_least : (n : ℕ) (es : List Entry) → AllByRecursion (λ e. n < e.number) es → AllByRecursion (λ e. n ≤ e.number) es
at_least n [] h = tt
at_least n (e ∷ es) h = (omega (arith, h.0), at_least n es h.1)

-- ---- an entry

-- what comes behind an entry, as the run says it
goes_behind : (all : List IosItem) (es : List Entry) (r : RouteParts) → AreRising es → (next : Option (Option ℕ))
    → elim next [ None ↦ Accept r | Some target ↦ elim target [ None ↦ run_at_once all true 0 es r | Some s ↦ run_at_once all true s es r ] ] ≡ given_behind all es next r
goes_behind all es r a None = refl
goes_behind all es r a (Some None) = goes_on_at all true 0 es r (ascends_of es a)
goes_behind all es r a (Some (Some s)) = goes_on_at all true s es r (ascends_of es a)

-- p: the entry permits
decided_by : (holds permit : Bool) (next : Option (Option ℕ)) (passed accepted given : Outcome) (on : ℕ → Outcome)
    → elim next [ None ↦ accepted | Some target ↦ elim target [ None ↦ on 0 | Some s ↦ on s ] ] ≡ given
    → decided holds permit next 0 passed accepted on ≡ elim holds [ true ↦ elim permit [ true ↦ given | false ↦ Reject ] | false ↦ passed ]
decided_by false permit next passed accepted given on e = refl
decided_by true false next passed accepted given on e = refl
decided_by true true next passed accepted given on e = e

no_number_below : (n : ℕ) → nat_le 0 n ≡ true
no_number_below n = le-leb 0 n (omega arith)

-- the run over an entry and those behind it
pub entry_runs : (all : List IosItem) (held : Bool) (e : Entry) (es : List Entry) (r : RouteParts) → AreRising es
    → run_at_once all held 0 (e ∷ es) r ≡ elim (entry_holds all r e) [ true ↦ given_by all e es r | false ↦ run_at_once all held 0 es r ]
unfolding run_at_once
entry_runs all held e es r a =
    let changed : RouteParts = set_by_entry all e r in
    let on : ℕ → Outcome = λ s. run_at_once all true s es changed in
    ap (λ (b : Bool). decided (b && entry_holds all r e) e.permit (continuation_of e.lines) 0 (run_at_once all held 0 es r) (Accept changed) on) (no_number_below e.number)
    ∙ decided_by (entry_holds all r e) e.permit (continuation_of e.lines) (run_at_once all held 0 es r) (Accept changed) (given_behind all es (continuation_of e.lines) changed) on (goes_behind all es changed a (continuation_of e.lines))

-- all entries have number 0 or a greater one
pub from_first : (es : List Entry) → from_number 0 es ≡ es
from_first [] = refl
from_first (e ∷ es) = ap (λ (b : Bool). elim b [ true ↦ e ∷ es | false ↦ from_number 0 es ]) (no_number_below e.number)
