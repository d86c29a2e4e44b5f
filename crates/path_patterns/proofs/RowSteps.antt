-- What the walks over a path mean: the row behind an item has the places that lie, from a place of the
-- row before, behind as many fitting numbers as the item may take.
use Rattle.std.proofs.Common.{◌≡◌, refl, ℕ, zero, suc, ◌+◌, ◌≤◌, ◌<◌, Bool, true, false, ◌&&◌, List, [], ◌∷◌, arith, inl, inr, ◌⊎◌}
use Rattle.std.specs.Prelude.{◌==◌}
use Rattle.std.proofs.lemmas.Bool.{and_parts, eqb-true}
use Rattle.path_patterns.specs.Rows.{fits_along, still_needed, is_start, later_places, exactly, is_reached, room_behind, room_at, spread}
use Rattle.path_patterns.specs.declared.row_steps.Room.{Room}
use Rattle.path_patterns.specs.declared.row_steps.Room.TheVariants.{Unreached, UpTo, Unlimited}

-- the row has some place of the path, and the statement holds for what stands behind that place
abbrev pub Reaches : (List ℕ → Type 0) → List Bool → List ℕ → Type 0
Reaches P row [] = ((is_start row ≡ true) × P []) ⊎ ⊥
Reaches P row (n ∷ ns) = ((is_start row ≡ true) × P (n ∷ ns)) ⊎ Reaches P (later_places row) ns

pub reaches_map : (P Q : List ℕ → Type 0) → ((ns : List ℕ) → P ns → Q ns) → (row : List Bool) (ns : List ℕ) → Reaches P row ns → Reaches Q row ns
reaches_map P Q f row [] (inl h) = inl (h.0, f [] h.1)
reaches_map P Q f row [] (inr h) = absurd h
reaches_map P Q f row (n ∷ ns) (inl h) = inl (h.0, f (n ∷ ns) h.1)
reaches_map P Q f row (n ∷ ns) (inr h) = inr (reaches_map P Q f (later_places row) ns h)

-- ---- exactly so many

-- so many numbers fit, and the statement holds for the others
abbrev pub FitsThen : (ℕ → Bool) → (List ℕ → Type 0) → ℕ → List ℕ → Type 0
FitsThen f P zero ns = P ns
FitsThen f P (suc k) [] = ⊥
FitsThen f P (suc k) (n ∷ ns) = (f n ≡ true) × FitsThen f P k ns

-- the row is `d` places behind: its first place has `m` numbers to take yet, each later one a number more.
-- All numbers since a place fit exactly where no more numbers have to fit yet than the place has to take
abbrev pub Waits : (ℕ → Bool) → (List ℕ → Type 0) → ℕ → ℕ → ℕ → List Bool → List ℕ → Type 0
Waits f P need m zero row ns = Reaches (FitsThen f P m) row ns
Waits f P need m (suc d) row ns = ((is_start row ≡ true) × (need ≤ m) × FitsThen f P m ns) ⊎ Waits f P need (suc m) d (later_places row) ns

needed_to : (least need m : ℕ) (b : Bool) → m < least → still_needed least need b ≤ m → (b ≡ true) × (need ≤ suc m)
needed_to least zero m true h e = (refl, omega arith)
needed_to least (suc need) m true h e = (refl, omega arith)
needed_to least need m false h e = absurd (omega (arith, h, e))

needed_from : (least need m : ℕ) (b : Bool) → b ≡ true → need ≤ suc m → still_needed least need b ≤ m
needed_from least zero m true h e = omega arith
needed_from least (suc need) m true h e = omega arith
needed_from least need m false h e = absurd cc

needed_within : (least need : ℕ) (b : Bool) → need ≤ least → still_needed least need b ≤ least
needed_within least zero true h = omega arith
needed_within least (suc need) true h = omega arith
needed_within least need false h = omega arith

waits_step_to : (f : ℕ → Bool) (P : List ℕ → Type 0) (d m least need : ℕ) (row : List Bool) (n : ℕ) (ns : List ℕ) → suc m + d ≡ least → need ≤ least → Waits f P (still_needed least need (f n)) m (suc d) row ns → Waits f P need (suc m) d row (n ∷ ns)
waits_step_to f P zero m least need row n ns e h (inl w) = inl (w.0, ((needed_to least need m (f n) (omega arith) w.1).0, w.2))
waits_step_to f P zero m least need row n ns e h (inr w) = inr w
waits_step_to f P (suc d) m least need row n ns e h (inl w) =
    let k = needed_to least need m (f n) (omega arith) w.1 in
    inl (w.0, k.1, (k.0, w.2))
waits_step_to f P (suc d) m least need row n ns e h (inr w) = inr (waits_step_to f P d (suc m) least need (later_places row) n ns (omega arith) h w)

waits_step_from : (f : ℕ → Bool) (P : List ℕ → Type 0) (d m least need : ℕ) (row : List Bool) (n : ℕ) (ns : List ℕ) → suc m + d ≡ least → need ≤ least → Waits f P need (suc m) d row (n ∷ ns) → Waits f P (still_needed least need (f n)) m (suc d) row ns
waits_step_from f P zero m least need row n ns e h (inl w) = inl (w.0, needed_from least need m (f n) w.1.0 (omega arith), w.1.1)
waits_step_from f P zero m least need row n ns e h (inr w) = inr w
waits_step_from f P (suc d) m least need row n ns e h (inl w) = inl (w.0, needed_from least need m (f n) w.2.0 w.1, w.2.1)
waits_step_from f P (suc d) m least need row n ns e h (inr w) = inr (waits_step_from f P d (suc m) least need (later_places row) n ns (omega arith) h w)

-- behind the last number none fits
waits_end : (f : ℕ → Bool) (P : List ℕ → Type 0) (d m need : ℕ) (row : List Bool) → Waits f P need (suc m) d row [] → ⊥
waits_end f P zero m need row (inl w) = w.1
waits_end f P zero m need row (inr w) = w
waits_end f P (suc d) m need row (inl w) = w.2
waits_end f P (suc d) m need row (inr w) = waits_end f P d (suc m) need (later_places row) w

start_to : (b : Bool) (need : ℕ) → (b && need == 0) ≡ true → (b ≡ true) × (need ≤ 0)
start_to b need e = let p = and_parts b (need == 0) e in (p.0, let z : need ≡ 0 = eqb-true need 0 p.1 in omega arith)

start_from : (b : Bool) (need : ℕ) → b ≡ true → need ≤ 0 → (b && need == 0) ≡ true
start_from true zero e h = refl
start_from true (suc need) e h = absurd (omega (arith, h))
start_from false need e h = absurd cc

pub exactly_to : (f : ℕ → Bool) (P : List ℕ → Type 0) (ns : List ℕ) (least m d need : ℕ) (row : List Bool) → m + d ≡ least → need ≤ least → Reaches P (exactly least m need (fits_along f ns) row) ns → Waits f P need m d row ns
unfolding exactly fits_along
exactly_to f P [] least (suc m) d need row e h (inl r) = absurd cc
exactly_to f P [] least (suc m) d need row e h (inr r) = absurd r
exactly_to f P (n ∷ ns) least (suc m) d need row e h (inl r) = absurd cc
exactly_to f P (n ∷ ns) least (suc m) d need row e h (inr r) =
    waits_step_to f P d m least need row n ns e h
    (exactly_to f P ns least m (suc d) (still_needed least need (f n)) row (omega arith) (needed_within least need (f n) h) r)
exactly_to f P [] least zero zero need row e h (inl r) = inl ((start_to (is_start row) need r.0).0, r.1)
exactly_to f P [] least zero zero need row e h (inr r) = absurd r
exactly_to f P (n ∷ ns) least zero zero need row e h (inl r) = inl ((start_to (is_start row) need r.0).0, r.1)
exactly_to f P (n ∷ ns) least zero zero need row e h (inr r) =
    inr (exactly_to f P ns least zero zero (still_needed least need (f n)) (later_places row) e (needed_within least need (f n) h) r)
exactly_to f P [] least zero (suc d) need row e h (inl r) = let s = start_to (is_start row) need r.0 in inl (s.0, s.1, r.1)
exactly_to f P [] least zero (suc d) need row e h (inr r) = absurd r
exactly_to f P (n ∷ ns) least zero (suc d) need row e h (inl r) = let s = start_to (is_start row) need r.0 in inl (s.0, s.1, r.1)
exactly_to f P (n ∷ ns) least zero (suc d) need row e h (inr r) =
    inr (waits_step_to f P d zero least need (later_places row) n ns (omega arith) h
    (exactly_to f P ns least zero (suc d) (still_needed least need (f n)) (later_places row) e (needed_within least need (f n) h) r))

pub exactly_from : (f : ℕ → Bool) (P : List ℕ → Type 0) (ns : List ℕ) (least m d need : ℕ) (row : List Bool) → m + d ≡ least → need ≤ least → Waits f P need m d row ns → Reaches P (exactly least m need (fits_along f ns) row) ns
unfolding exactly fits_along
exactly_from f P [] least (suc m) d need row e h w = absurd (waits_end f P d m need row w)
exactly_from f P (n ∷ ns) least (suc m) d need row e h w =
    inr (exactly_from f P ns least m (suc d) (still_needed least need (f n)) row (omega arith) (needed_within least need (f n) h)
    (waits_step_from f P d m least need row n ns e h w))
exactly_from f P [] least zero zero need row e h (inl w) = inl (start_from (is_start row) need w.0 (omega arith), w.1)
exactly_from f P [] least zero zero need row e h (inr w) = absurd w
exactly_from f P (n ∷ ns) least zero zero need row e h (inl w) = inl (start_from (is_start row) need w.0 (omega arith), w.1)
exactly_from f P (n ∷ ns) least zero zero need row e h (inr w) =
    inr (exactly_from f P ns least zero zero (still_needed least need (f n)) (later_places row) e (needed_within least need (f n) h) w)
exactly_from f P [] least zero (suc d) need row e h (inl w) = inl (start_from (is_start row) need w.0 w.1, w.2)
exactly_from f P [] least zero (suc d) need row e h (inr w) = absurd (waits_end f P d zero need (later_places row) w)
exactly_from f P (n ∷ ns) least zero (suc d) need row e h (inl w) = inl (start_from (is_start row) need w.0 w.1, w.2)
exactly_from f P (n ∷ ns) least zero (suc d) need row e h (inr w) =
    inr (exactly_from f P ns least zero (suc d) (still_needed least need (f n)) (later_places row) e (needed_within least need (f n) h)
    (waits_step_from f P d zero least need (later_places row) n ns (omega arith) h w))

-- ---- and some more

-- some numbers, for which there is room, fit, and the statement holds for the others
abbrev pub Spreads : (ℕ → Bool) → (List ℕ → Type 0) → Room → List ℕ → Type 0
Spreads f P room [] = ((is_reached room ≡ true) × P []) ⊎ ⊥
Spreads f P room (n ∷ ns) = ((is_reached room ≡ true) × P (n ∷ ns)) ⊎ Spreads f P (room_behind room (f n)) ns

pub spreads_none : (f : ℕ → Bool) (P : List ℕ → Type 0) (ns : List ℕ) → Spreads f P Unreached ns → ⊥
spreads_none f P [] (inl h) = absurd cc
spreads_none f P [] (inr h) = h
spreads_none f P (n ∷ ns) (inl h) = absurd cc
spreads_none f P (n ∷ ns) (inr h) = spreads_none f P ns h

-- no more room than that
abbrev pub IsBelow : Room → Room → Type 0
IsBelow Unreached room = Unit {0}
IsBelow (UpTo a) Unreached = ⊥
IsBelow (UpTo a) (UpTo b) = a ≤ b
IsBelow (UpTo a) Unlimited = Unit {0}
IsBelow Unlimited Unreached = ⊥
IsBelow Unlimited (UpTo b) = ⊥
IsBelow Unlimited Unlimited = Unit {0}

below_same : (room : Room) → IsBelow room room
below_same Unreached = tt
below_same (UpTo a) = omega arith
below_same Unlimited = tt

below_reached : (left room : Room) → IsBelow left room → is_reached left ≡ true → is_reached room ≡ true
below_reached Unreached room h e = absurd cc
below_reached (UpTo a) Unreached h e = absurd h
below_reached (UpTo a) (UpTo b) h e = refl
below_reached (UpTo a) Unlimited h e = refl
below_reached Unlimited Unreached h e = absurd h
below_reached Unlimited (UpTo b) h e = absurd h
below_reached Unlimited Unlimited h e = refl

-- both have one number behind them
below_both : (left room : Room) (b : Bool) → IsBelow left room → IsBelow (room_behind left b) (room_behind room b)
below_both Unreached room b h = tt
below_both (UpTo a) Unreached b h = absurd h
below_both (UpTo zero) (UpTo c) b h = tt
below_both (UpTo (suc a)) (UpTo zero) b h = absurd (omega (arith, h))
below_both (UpTo (suc a)) (UpTo (suc c)) true h = omega arith
below_both (UpTo (suc a)) (UpTo (suc c)) false h = tt
below_both (UpTo zero) Unlimited b h = tt
below_both (UpTo (suc a)) Unlimited true h = tt
below_both (UpTo (suc a)) Unlimited false h = tt
below_both Unlimited Unreached b h = absurd h
below_both Unlimited (UpTo c) b h = absurd h
below_both Unlimited Unlimited true h = tt
below_both Unlimited Unlimited false h = tt

-- the one that is left has a number behind it
below_behind : (left room : Room) (b : Bool) → IsBelow left room → IsBelow (room_behind left b) room
below_behind Unreached room b h = tt
below_behind (UpTo a) Unreached b h = absurd h
below_behind (UpTo zero) (UpTo c) b h = tt
below_behind (UpTo (suc a)) (UpTo c) true h = omega arith
below_behind (UpTo (suc a)) (UpTo c) false h = tt
below_behind (UpTo zero) Unlimited b h = tt
below_behind (UpTo (suc a)) Unlimited true h = tt
below_behind (UpTo (suc a)) Unlimited false h = tt
below_behind Unlimited Unreached b h = absurd h
below_behind Unlimited (UpTo c) b h = absurd h
below_behind Unlimited Unlimited true h = tt
below_behind Unlimited Unlimited false h = tt

spreads_more : (f : ℕ → Bool) (P : List ℕ → Type 0) (ns : List ℕ) (left room : Room) → IsBelow left room → Spreads f P left ns → Spreads f P room ns
spreads_more f P [] left room h (inl s) = inl (below_reached left room h s.0, s.1)
spreads_more f P [] left room h (inr s) = absurd s
spreads_more f P (n ∷ ns) left room h (inl s) = inl (below_reached left room h s.0, s.1)
spreads_more f P (n ∷ ns) left room h (inr s) = inr (spreads_more f P ns (room_behind left (f n)) (room_behind room (f n)) (below_both left room (f n) h) s)

-- what is left at a place has no more room
below_at : (left room : Room) (r b : Bool) → IsBelow left room → IsBelow (room_behind (room_at room left r) b) room
below_at left room true b h = below_behind room room b (below_same room)
below_at left room false b h = below_behind left room b h

end_to : (f : ℕ → Bool) (P : List ℕ → Type 0) (r : Bool) (room left : Room) → Spreads f P (room_at room left r) [] → (((r ≡ true) × Spreads f P room []) ⊎ ⊥) ⊎ Spreads f P left []
end_to f P true room left h = inl (inl (refl, h))
end_to f P false room left h = inr h

place_to : (f : ℕ → Bool) (P : List ℕ → Type 0) (r : Bool) (room left : Room) (n : ℕ) (ns : List ℕ) (Further : Type 0) → (((is_reached (room_at room left r) ≡ true) × P (n ∷ ns)) ⊎ (Further ⊎ Spreads f P (room_behind (room_at room left r) (f n)) ns)) → (((r ≡ true) × Spreads f P room (n ∷ ns)) ⊎ Further) ⊎ Spreads f P left (n ∷ ns)
place_to f P true room left n ns Further (inl h) = inl (inl (refl, inl h))
place_to f P true room left n ns Further (inr (inl h)) = inl (inr h)
place_to f P true room left n ns Further (inr (inr h)) = inl (inl (refl, inr h))
place_to f P false room left n ns Further (inl h) = inr (inl h)
place_to f P false room left n ns Further (inr (inl h)) = inl (inr h)
place_to f P false room left n ns Further (inr (inr h)) = inr (inr h)

pub spread_to : (f : ℕ → Bool) (P : List ℕ → Type 0) (ns : List ℕ) (room left : Room) (row : List Bool) → Reaches P (spread room left (fits_along f ns) row) ns → Reaches (Spreads f P room) row ns ⊎ Spreads f P left ns
unfolding spread fits_along
spread_to f P [] room left row h = end_to f P (is_start row) room left h
spread_to f P (n ∷ ns) room left row (inl h) =
    place_to f P (is_start row) room left n ns (Reaches (Spreads f P room) (later_places row) ns) (inl h)
spread_to f P (n ∷ ns) room left row (inr h) =
    place_to f P (is_start row) room left n ns (Reaches (Spreads f P room) (later_places row) ns)
    (inr (spread_to f P ns room (room_behind (room_at room left (is_start row)) (f n)) (later_places row) h))

end_from : (f : ℕ → Bool) (P : List ℕ → Type 0) (r : Bool) (room left : Room) → IsBelow left room → (((r ≡ true) × Spreads f P room []) ⊎ ⊥) ⊎ Spreads f P left [] → Spreads f P (room_at room left r) []
end_from f P true room left b (inl (inl h)) = h.1
end_from f P true room left b (inl (inr h)) = absurd h
end_from f P true room left b (inr h) = spreads_more f P [] left room b h
end_from f P false room left b (inl (inl h)) = absurd cc
end_from f P false room left b (inl (inr h)) = absurd h
end_from f P false room left b (inr h) = h

further : (Here Further Behind : Type 0) → Here ⊎ Behind → Here ⊎ (Further ⊎ Behind)
further Here Further Behind (inl h) = inl h
further Here Further Behind (inr h) = inr (inr h)

place_from : (f : ℕ → Bool) (P : List ℕ → Type 0) (r : Bool) (room left : Room) (n : ℕ) (ns : List ℕ) (Further : Type 0) → IsBelow left room → (((r ≡ true) × Spreads f P room (n ∷ ns)) ⊎ Further) ⊎ Spreads f P left (n ∷ ns) → ((is_reached (room_at room left r) ≡ true) × P (n ∷ ns)) ⊎ (Further ⊎ Spreads f P (room_behind (room_at room left r) (f n)) ns)
place_from f P true room left n ns Further b (inl (inl h)) = further _ Further _ h.1
place_from f P true room left n ns Further b (inl (inr h)) = inr (inl h)
place_from f P true room left n ns Further b (inr h) = further _ Further _ (spreads_more f P (n ∷ ns) left room b h)
place_from f P false room left n ns Further b (inl (inl h)) = absurd cc
place_from f P false room left n ns Further b (inl (inr h)) = inr (inl h)
place_from f P false room left n ns Further b (inr h) = further _ Further _ h

by_rest : (Here Rest Out : Type 0) → (Rest → Out) → Here ⊎ Rest → Here ⊎ Out
by_rest Here Rest Out f (inl h) = inl h
by_rest Here Rest Out f (inr h) = inr (f h)

pub spread_from : (f : ℕ → Bool) (P : List ℕ → Type 0) (ns : List ℕ) (room left : Room) (row : List Bool) → IsBelow left room → Reaches (Spreads f P room) row ns ⊎ Spreads f P left ns → Reaches P (spread room left (fits_along f ns) row) ns
unfolding spread fits_along
spread_from f P [] room left row b h = end_from f P (is_start row) room left b h
spread_from f P (n ∷ ns) room left row b h =
    by_rest _ _ _ (spread_from f P ns room (room_behind (room_at room left (is_start row)) (f n)) (later_places row) (below_at left room (is_start row) (f n) b))
    (place_from f P (is_start row) room left n ns (Reaches (Spreads f P room) (later_places row) ns) b h)
