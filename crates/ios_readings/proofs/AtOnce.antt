-- The run that changes the route at once is the run on the changed route; and of entries in order those below the least
-- number may be left out.
use Rattle.std.proofs.Common.{◌≡◌, refl, sym, ap, subst, ◌∙◌, ℕ, ◌<◌, ◌≤◌, Bool, true, false, ◌&&◌, List, [], ◌∷◌, ◌++◌, Option, Some, None, arith}
use Rattle.std.specs.Prelude.{nat_le}
use Rattle.std.specs.List.{AllByRecursion}
use Rattle.std.proofs.lemmas.Bool.{le-leb, leb-true}
use Rattle.route_types.specs.Route.{RouteParts}
use Rattle.route_types.specs.declared.route.Outcome.{Outcome}
use Rattle.route_types.specs.declared.route.Outcome.TheVariants.{Accept}
use Rattle.ios_tree.specs.declared.item.IosItem.{IosItem}
use Rattle.ios_reader.specs.Entries.{Entry, entries_of}
use Rattle.ios_reader.specs.Profile.{all_forms, InProfile}
use Rattle.ios_reader.proofs.LeastFault.{none_is}
use Rattle.ios_meaning.specs.Order.{in_order}
use Rattle.ios_meaning.specs.Meaning.{entry_holds, set_by_entry, set_by_entries, continuation_of, at_end, ios_meaning}
use Rattle.ios_readings.specs.Readings.{run_on_changed, meaning_on_changed}
use Rattle.ios_readings.specs.AtOnce.{end_by, run_at_once, from_number}
use Rattle.ios_readings.proofs.Ordered.{Ascends}
use Rattle.ios_readings.proofs.Agree.{decided, decided_alike, one_more, ordered_ascends, in_profile_alike}

-- ---- the changed route, made at once

abbrev is_some : List Entry → Bool
is_some [] = false
is_some (e ∷ es) = true

some_more : (held : List Entry) (e : Entry) → is_some (held ++ e ∷ []) ≡ true
some_more [] e = refl
some_more (h ∷ held) e = refl

ends_alike : (all : List IosItem) (r : RouteParts) (held : List Entry) → end_by (is_some held) (set_by_entries all held r) ≡ at_end all r held
ends_alike all r [] = refl
ends_alike all r (h ∷ held) = refl

at_once_alike : (all : List IosItem) (r : RouteParts) (least : ℕ) (held es : List Entry) → run_at_once all (is_some held) least es (set_by_entries all held r) ≡ run_on_changed all r least held es
unfolding run_at_once run_on_changed
at_once_alike all r least held [] = ends_alike all r held
at_once_alike all r least held (e ∷ es) =
    let q : RouteParts = set_by_entries all held r in
    let here : Bool = nat_le least e.number && entry_holds all q e in
    let more : (s : ℕ) → run_at_once all true s es (set_by_entry all e q) ≡ run_on_changed all r s (held ++ e ∷ []) es =
    λ s. ap (λ (b : Bool). run_at_once all b s es (set_by_entry all e q)) (sym (some_more held e)) ∙ ap (λ (x : RouteParts). run_at_once all (is_some (held ++ e ∷ [])) s es x) (sym (one_more all held e r)) ∙ at_once_alike all r s (held ++ e ∷ []) es in
    ap (λ (x : RouteParts). decided here e.permit (continuation_of e.lines) least (run_at_once all (is_some held) least es q) (Accept x) (λ s. run_at_once all true s es (set_by_entry all e q))) (sym (one_more all held e r))
    ∙ decided_alike here e.permit (continuation_of e.lines) least (run_at_once all (is_some held) least es q) (run_on_changed all r least held es) (Accept (set_by_entries all (held ++ e ∷ []) r))
    (λ s. run_at_once all true s es (set_by_entry all e q)) (λ s. run_on_changed all r s (held ++ e ∷ []) es) (at_once_alike all r least held es) (λ target c s. more s)

pub means_at_once : (all : List IosItem) (name : List ℕ) → InProfile name all → (r : RouteParts) → run_at_once all false 0 (in_order (λ e. e.number) (entries_of name all)) r ≡ ios_meaning all name r
unfolding meaning_on_changed
means_at_once all name p r = at_once_alike all r 0 [] (in_order (λ e. e.number) (entries_of name all)) ∙ in_profile_alike all name p r

-- ---- entries in order

-- a least number that no entry is below makes no difference
pub least_alike : (all : List IosItem) (held : Bool) (m n : ℕ) (es : List Entry) (r : RouteParts) → AllByRecursion (λ e. m ≤ e.number) es → AllByRecursion (λ e. n ≤ e.number) es → run_at_once all held m es r ≡ run_at_once all held n es r
unfolding run_at_once
least_alike all held m n [] r a b = refl
least_alike all held m n (e ∷ es) r a b =
    let accepted : Outcome = Accept (set_by_entry all e r) in
    let on : ℕ → Outcome = λ s. run_at_once all true s es (set_by_entry all e r) in
    ap (λ (t : Bool). decided (t && entry_holds all r e) e.permit (continuation_of e.lines) m (run_at_once all held m es r) accepted on) (le-leb m e.number a.0 ∙ sym (le-leb n e.number b.0))
    ∙ passed_alike (nat_le n e.number && entry_holds all r e) e.permit (continuation_of e.lines) (run_at_once all held m es r) (run_at_once all held n es r) accepted on
    (least_alike all held m n es r a.1 b.1) (least_alike all true m n es (set_by_entry all e r) a.1 b.1)
  where
    passed_alike : (here permit : Bool) (next : Option (Option ℕ)) (passed other accepted : Outcome) (on : ℕ → Outcome) → passed ≡ other → on m ≡ on n → decided here permit next m passed accepted on ≡ decided here permit next n other accepted on
    passed_alike false permit next passed other accepted on e f = e
    passed_alike true false next passed other accepted on e f = refl
    passed_alike true true None passed other accepted on e f = refl
    passed_alike true true (Some None) passed other accepted on e f = f
    passed_alike true true (Some (Some s)) passed other accepted on e f = refl

at_least : (n m : ℕ) (es : List Entry) → n ≤ m → AllByRecursion (λ e. m < e.number) es → AllByRecursion (λ e. n ≤ e.number) es
at_least n m [] l h = tt
at_least n m (e ∷ es) l h = (omega (arith, l, h.0), at_least n m es l h.1)

none_below : (es : List Entry) → AllByRecursion (λ e. 0 ≤ e.number) es
none_below [] = tt
none_below (e ∷ es) = (omega arith, none_below es)

-- a run that goes on at a number is a run over the entries from that number on
pub goes_on_at : (all : List IosItem) (held : Bool) (n : ℕ) (es : List Entry) (r : RouteParts) → Ascends (λ e. e.number) es → run_at_once all held n es r ≡ run_at_once all held 0 (from_number n es) r
unfolding run_at_once
goes_on_at all held n [] r a = refl
goes_on_at all held n (e ∷ es) r a = by (nat_le n e.number) refl (goes_on_at all held n es r a.1)
  where
    by : (b : Bool) → nat_le n e.number ≡ b → run_at_once all held n es r ≡ run_at_once all held 0 (from_number n es) r → run_at_once all held n (e ∷ es) r ≡ run_at_once all held 0 (elim b [ true ↦ e ∷ es | false ↦ from_number n es ]) r
    by true l more = least_alike all held n 0 (e ∷ es) r (leb-true n e.number l, at_least n e.number es (leb-true n e.number l) a.0) (none_below (e ∷ es))
    by false l more =
        let on : ℕ → Outcome = λ s. run_at_once all true s es (set_by_entry all e r) in
        ap (λ (t : Bool). decided (t && entry_holds all r e) e.permit (continuation_of e.lines) n (run_at_once all held n es r) (Accept (set_by_entry all e r)) on) l ∙ more

ascends_behind : (before es : List Entry) → Ascends (λ e. e.number) (before ++ es) → Ascends (λ e. e.number) es
ascends_behind [] es a = a
ascends_behind (e ∷ before) es a = ascends_behind before es a.1

-- the same of the last entries of a policy in profile
pub goes_on_in_profile : (all : List IosItem) (name : List ℕ) → InProfile name all → (before es : List Entry) → in_order (λ e. e.number) (entries_of name all) ≡ before ++ es → (held : Bool) (n : ℕ) (r : RouteParts)
    → run_at_once all held n es r ≡ run_at_once all held 0 (from_number n es) r
goes_on_in_profile all name p before es e held n r =
    goes_on_at all held n es r (ascends_behind before es (subst (λ (xs : List Entry). Ascends (λ e. e.number) xs) e (ordered_ascends name all (none_is all_forms name all p.sound))))
