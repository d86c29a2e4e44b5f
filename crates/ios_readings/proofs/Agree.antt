-- Both readings give one outcome, for a policy in profile.
use Rattle.std.proofs.Common.{◌≡◌, refl, sym, ap, subst, ◌∙◌, ℕ, ◌<◌, Bool, true, false, ◌&&◌, List, [], ◌∷◌, ◌++◌, Option, Some, None}
use Rattle.std.specs.Prelude.{nat_le}
use Rattle.std.specs.List.{list_any, AllByRecursion}
use Rattle.std.proofs.lemmas.Bool.{or_parts}
use Rattle.route_types.specs.Route.{RouteParts}
use Rattle.route_types.specs.declared.route.Outcome.{Outcome}
use Rattle.route_types.specs.declared.route.Outcome.TheVariants.{Reject, Accept}
use Rattle.ios_tree.specs.declared.item.IosItem.{IosItem}
use Rattle.ios_tree.specs.declared.item.MapLine.{MapLine}
use Rattle.ios_tree.specs.declared.item.MapLine.TheVariants.{Continue}
use Rattle.ios_reader.specs.Entries.{Entry, entries_of}
use Rattle.ios_reader.specs.Lines.{continues}
use Rattle.ios_reader.specs.Profile.{all_forms, IsSoundWithin, InProfile, PolicyParts, IsPolicyOf}
use Rattle.ios_reader.proofs.LeastFault.{none_is}
use Rattle.ios_meaning.specs.Order.{in_order}
use Rattle.ios_meaning.specs.Meaning.{entry_holds, set_by_entry, set_by_entries, continuation_in, continuation_of, run, ios_meaning, first_name, name_of}
use Rattle.ios_readings.specs.Readings.{run_on_changed, meaning_on_changed}
use Rattle.ios_readings.proofs.Kept.{lines_keep_all}
use Rattle.ios_readings.proofs.Ordered.{Ascends, all_in_order, ascends_in_order}
use Rattle.ios_readings.proofs.Settled.{IsSettledEntry, IsAmong, all_among, entries_settled, entries_apart, leaves}

-- ---- what an entry leaves as it is

-- where the first entry continues, the second holds behind it as before
abbrev Leaves : List IosItem → Entry → Entry → Type 0
Leaves all e f = list_any continues e.lines ≡ true → (q : RouteParts) → entry_holds all (set_by_entry all e q) f ≡ entry_holds all q f

-- each entry leaves those behind it as they are
abbrev pub EachLeaves : List IosItem → List Entry → Type 0
EachLeaves all [] = Unit {0}
EachLeaves all (e ∷ es) = AllByRecursion (Leaves all e) es × EachLeaves all es

-- the entry holds for the changed route where it holds for the arriving one
abbrev pub HoldsAlike : List IosItem → RouteParts → List Entry → Entry → Type 0
HoldsAlike all r held f = entry_holds all (set_by_entries all held r) f ≡ entry_holds all r f

pub one_more : (all : List IosItem) (held : List Entry) (e : Entry) (r : RouteParts) → set_by_entries all (held ++ e ∷ []) r ≡ set_by_entry all e (set_by_entries all held r)
one_more all [] e r = refl
one_more all (h ∷ held) e r = one_more all held e (set_by_entry all h r)

still_alike : (all : List IosItem) (r : RouteParts) (held es : List Entry) (e : Entry) → list_any continues e.lines ≡ true → AllByRecursion (Leaves all e) es → AllByRecursion (HoldsAlike all r held) es
    → AllByRecursion (HoldsAlike all r (held ++ e ∷ [])) es
still_alike all r held [] e c leaves alike = tt
still_alike all r held (f ∷ es) e c leaves alike =
    (ap (λ (q : RouteParts). entry_holds all q f) (one_more all held e r) ∙ leaves.0 c (set_by_entries all held r) ∙ alike.0, still_alike all r held es e c leaves.1 alike.1)

-- ---- the runs

line_ends : (l : MapLine) (rest : Option (Option ℕ)) → continues l ≡ false → continuation_in l rest ≡ rest
line_ends (Continue s) rest e = absurd cc
line_ends _ rest e = refl

lines_end : (ls : List MapLine) → list_any continues ls ≡ false → continuation_of ls ≡ None
lines_end [] e = refl
lines_end (l ∷ ls) e =
    let parts = or_parts (continues l) (list_any continues ls) e in
    line_ends l (continuation_of ls) parts.0 ∙ lines_end ls parts.1

goes_on : (ls : List MapLine) (b : Bool) (target : Option ℕ) → list_any continues ls ≡ b → continuation_of ls ≡ Some target → b ≡ true
goes_on ls true target e c = refl
goes_on ls false target e c = let none = lines_end ls e in absurd cc

-- what an entry makes of the run
abbrev pub decided : Bool → Bool → Option (Option ℕ) → ℕ → Outcome → Outcome → (ℕ → Outcome) → Outcome
decided holds permit next least passed accepted on = elim holds [
  | false ↦ passed
  | true ↦ elim permit [
    | false ↦ Reject
    | true ↦ elim next [ None ↦ accepted | Some target ↦ elim target [ None ↦ on least | Some s ↦ on s ] ]
  ]
]

pub decided_alike : (holds permit : Bool) (next : Option (Option ℕ)) (least : ℕ) (passed other accepted : Outcome) (on at : ℕ → Outcome) → passed ≡ other → ((target : Option ℕ) → next ≡ Some target → (s : ℕ) → on s ≡ at s)
    → decided holds permit next least passed accepted on ≡ decided holds permit next least other accepted at
decided_alike false permit next least passed other accepted on at e f = e
decided_alike true false next least passed other accepted on at e f = refl
decided_alike true true None least passed other accepted on at e f = refl
decided_alike true true (Some None) least passed other accepted on at e f = f None refl least
decided_alike true true (Some (Some s)) least passed other accepted on at e f = f (Some s) refl s

runs_alike : (all : List IosItem) (r : RouteParts) (least : ℕ) (held es : List Entry) → EachLeaves all es → AllByRecursion (HoldsAlike all r held) es → run_on_changed all r least held es ≡ run all r least held es
unfolding run run_on_changed
runs_alike all r least held [] each alike = refl
runs_alike all r least held (e ∷ es) each alike =
    let accepted : Outcome = Accept (set_by_entries all (held ++ e ∷ []) r) in
    ap (λ (b : Bool). decided (nat_le least e.number && b) e.permit (continuation_of e.lines) least (run_on_changed all r least held es) accepted (λ s. run_on_changed all r s (held ++ e ∷ []) es)) alike.0
    ∙ decided_alike (nat_le least e.number && entry_holds all r e) e.permit (continuation_of e.lines) least (run_on_changed all r least held es) (run all r least held es) accepted
    (λ s. run_on_changed all r s (held ++ e ∷ []) es) (λ s. run all r s (held ++ e ∷ []) es)
    (runs_alike all r least held es each.1 alike.1)
    (λ target c s. runs_alike all r s (held ++ e ∷ []) es each.1 (still_alike all r held es e (goes_on e.lines (list_any continues e.lines) target refl c) each.0 alike.1))

all_alike : (all : List IosItem) (r : RouteParts) (es : List Entry) → AllByRecursion (HoldsAlike all r []) es
all_alike all r [] = tt
all_alike all r (e ∷ es) = (refl, all_alike all r es)

-- ---- a policy in profile

module _ (name : List ℕ) (all : List IosItem) (sound : IsSoundWithin all_forms name all) where
  leaves_behind : (e : Entry) (es : List Entry) → IsAmong name all sound (entries_of name all) e → AllByRecursion (λ f. e.number < f.number) es → AllByRecursion (IsSettledEntry name all sound) es → AllByRecursion (Leaves all e) es
  leaves_behind e [] among below settled = tt
  leaves_behind e (f ∷ es) among below settled =
      ((λ c q. lines_keep_all all f.lines e q (leaves name all sound e f.number f.lines among below.0 c settled.0)), leaves_behind e es among below.1 settled.1)

  each_leaves : (es : List Entry) → Ascends (λ e. e.number) es → AllByRecursion (IsAmong name all sound (entries_of name all)) es → AllByRecursion (IsSettledEntry name all sound) es → EachLeaves all es
  each_leaves [] ascends among settled = tt
  each_leaves (e ∷ es) ascends among settled = (leaves_behind e es among.0 ascends.0 settled.1, each_leaves es ascends.1 among.1 settled.1)

  pub ordered_ascends : Ascends (λ e. e.number) (in_order (λ e. e.number) (entries_of name all))
  ordered_ascends = ascends_in_order (λ e. e.number) (entries_of name all) (entries_apart name all sound [] all refl)

  pub ordered_leaves : EachLeaves all (in_order (λ e. e.number) (entries_of name all))
  ordered_leaves =
      each_leaves (in_order (λ e. e.number) (entries_of name all))
      ordered_ascends
      (all_in_order (λ e. e.number) (IsAmong name all sound (entries_of name all)) (entries_of name all) (all_among name all sound (entries_of name all) (entries_of name all) (λ test n. n)))
      (all_in_order (λ e. e.number) (IsSettledEntry name all sound) (entries_of name all) (entries_settled name all sound [] all refl))

pub in_profile_alike : (all : List IosItem) (name : List ℕ) → InProfile name all → (r : RouteParts) → meaning_on_changed all name r ≡ ios_meaning all name r
unfolding meaning_on_changed ios_meaning
in_profile_alike all name p r =
    let es : List Entry = in_order (λ e. e.number) (entries_of name all) in
    runs_alike all r 0 [] es (ordered_leaves name all (none_is all_forms name all p.sound)) (all_alike all r es)

pub checked_alike : (policy : PolicyParts) → IsPolicyOf policy.items policy.names → (r : RouteParts) → meaning_on_changed policy.items (name_of policy) r ≡ ios_meaning policy.items (name_of policy) r
checked_alike policy p r =
    let named : p.name ≡ name_of policy = sym (ap first_name p.one) in
    subst (λ (q : List ℕ). meaning_on_changed policy.items q r ≡ ios_meaning policy.items q r) named (in_profile_alike policy.items p.name p.in_profile r)
