-- Items take a whole path exactly where the last row reaches its end.
use Rattle.std.proofs.Common.{◌≡◌, refl, sym, ap, subst, ◌∙◌, ℕ, zero, suc, ◌+◌, ◌-◌, ◌≤◌, Bool, true, false, cond, nat_le, List, [], ◌∷◌, ◌++◌, length, get_or, Option, Some, None, arith, inl, inr, ◌⊎◌}
use Rattle.std.specs.Prelude.{map}
use Rattle.std.specs.List.{list_all}
use Rattle.std.proofs.lemmas.Bool.{and_parts, and_from, leb-true, le-leb}
use Rattle.std.specs.Bool.{Decides}
use Rattle.path_patterns.specs.Items.{Takes, AtMost, Counts, Taken, takes_of, BranchMatches, Matches}
use Rattle.path_patterns.specs.Rows.{fits_along, start_row, is_start, later_places, is_reached, room_behind, room_between, row_step, exactly, rows_behind, ends_reached, takes_all, pattern_takes, branches_take}
use Rattle.path_patterns.specs.SamePaths.{BranchesTake}
use Rattle.path_patterns.specs.PathItems.{branch_takes}
use Rattle.path_patterns.proofs.Lists.{any_decides}
use Rattle.path_patterns.specs.declared.items.TokenBranch.{TokenBranch}
use Rattle.path_patterns.specs.declared.items.TokenPattern.{TokenPattern}
use Rattle.path_patterns.specs.declared.pattern.IosBranch.{IosBranch}
use Rattle.path_patterns.specs.declared.row_steps.Room.{Room}
use Rattle.path_patterns.specs.declared.row_steps.Room.TheVariants.{Unreached, UpTo, Unlimited}
use Rattle.path_patterns.proofs.RowSteps.{Reaches, reaches_map, FitsThen, Spreads, spreads_none, exactly_to, exactly_from, spread_to, spread_from}

-- ---- what an item takes from the front

-- so many may be taken
abbrev HasRoom : ℕ → Room → Type 0
HasRoom n Unreached = ⊥
HasRoom n (UpTo most) = n ≤ most
HasRoom n Unlimited = Unit {0}

room_none : (room : Room) → is_reached room ≡ true → HasRoom 0 room
room_none Unreached e = absurd cc
room_none (UpTo most) e = omega arith
room_none Unlimited e = tt

room_is_reached : (n : ℕ) (room : Room) → HasRoom n room → is_reached room ≡ true
room_is_reached n Unreached h = absurd h
room_is_reached n (UpTo most) h = refl
room_is_reached n Unlimited h = refl

room_more : (n : ℕ) (room : Room) (b : Bool) → HasRoom n (room_behind room b) → (b ≡ true) × HasRoom (suc n) room
room_more n Unreached b h = absurd h
room_more n (UpTo zero) b h = absurd h
room_more n (UpTo (suc most)) true h = (refl, omega arith)
room_more n (UpTo (suc most)) false h = absurd h
room_more n Unlimited true h = (refl, tt)
room_more n Unlimited false h = absurd h

room_less : (n : ℕ) (room : Room) (b : Bool) → b ≡ true → HasRoom (suc n) room → HasRoom n (room_behind room b)
room_less n Unreached b e h = absurd h
room_less n (UpTo zero) b e h = absurd (omega (arith, h))
room_less n (UpTo (suc most)) true e h = omega arith
room_less n (UpTo (suc most)) false e h = absurd cc
room_less n Unlimited true e h = tt
room_less n Unlimited false e h = absurd cc

-- numbers that fit and for which there is room are taken from the front
abbrev Walked : (ℕ → Bool) → (List ℕ → Type 0) → Room → List ℕ → Type 0
Walked f P room ns = (front : List ℕ) × (rest : List ℕ) × (ns ≡ front ++ rest) × (list_all f front ≡ true) × HasRoom (length front) room × P rest

walked_more : (f : ℕ → Bool) (P : List ℕ → Type 0) (room : Room) (n : ℕ) (ns : List ℕ) → Walked f P (room_behind room (f n)) ns → Walked f P room (n ∷ ns)
walked_more f P room n ns w =
    let m = room_more (length w.0) room (f n) w.4 in
    (n ∷ w.0, w.1, ap (λ (x : List ℕ). n ∷ x) w.2, and_from (f n) (list_all f w.0) m.0 w.3, m.1, w.5)

spreads_to : (f : ℕ → Bool) (P : List ℕ → Type 0) (ns : List ℕ) (room : Room) → Spreads f P room ns → Walked f P room ns
spreads_to f P [] room (inl h) = ([], [], refl, refl, room_none room h.0, h.1)
spreads_to f P [] room (inr h) = absurd h
spreads_to f P (n ∷ ns) room (inl h) = ([], n ∷ ns, refl, refl, room_none room h.0, h.1)
spreads_to f P (n ∷ ns) room (inr h) = walked_more f P room n ns (spreads_to f P ns (room_behind room (f n)) h)

spreads_here : (f : ℕ → Bool) (P : List ℕ → Type 0) (ns : List ℕ) (room : Room) → is_reached room ≡ true → P ns → Spreads f P room ns
spreads_here f P [] room e p = inl (e, p)
spreads_here f P (n ∷ ns) room e p = inl (e, p)

spreads_from : (f : ℕ → Bool) (P : List ℕ → Type 0) (front rest : List ℕ) (room : Room) → list_all f front ≡ true → HasRoom (length front) room → P rest → Spreads f P room (front ++ rest)
spreads_from f P [] rest room e h p = spreads_here f P rest room (room_is_reached 0 room h) p
spreads_from f P (n ∷ front) rest room e h p =
    let a = and_parts (f n) (list_all f front) e in
    inr (spreads_from f P front rest (room_behind room (f n)) a.1 (room_less (length front) room (f n) a.0 h) p)

-- exactly so many, and then some more
abbrev WalkedOn : (ℕ → Bool) → (List ℕ → Type 0) → ℕ → Room → List ℕ → Type 0
WalkedOn f P k room ns = (front : List ℕ) × (rest : List ℕ) × (ns ≡ front ++ rest) × (list_all f front ≡ true) × ((j : ℕ) × (j + k ≡ length front) × HasRoom j room) × P rest

walked_on_more : (f : ℕ → Bool) (P : List ℕ → Type 0) (k : ℕ) (room : Room) (n : ℕ) (ns : List ℕ) → f n ≡ true → WalkedOn f P k room ns → WalkedOn f P (suc k) room (n ∷ ns)
walked_on_more f P k room n ns e w =
    let j : ℕ = w.4.0 in
    let s : j + k ≡ length w.0 = w.4.1 in
    let t : j + suc k ≡ suc (length w.0) = omega (arith, s) in
    (n ∷ w.0, w.1, ap (λ (x : List ℕ). n ∷ x) w.2, and_from (f n) (list_all f w.0) e w.3, (j, t, w.4.2), w.5)

walked_on_none : (f : ℕ → Bool) (P : List ℕ → Type 0) (room : Room) (ns : List ℕ) → Walked f P room ns → WalkedOn f P zero room ns
walked_on_none f P room ns w =
    let t : length w.0 + zero ≡ length w.0 = omega arith in
    (w.0, w.1, w.2, w.3, (length w.0, t, w.4), w.5)

fits_then_to : (f : ℕ → Bool) (P : List ℕ → Type 0) (room : Room) (k : ℕ) (ns : List ℕ) → FitsThen f (Spreads f P room) k ns → WalkedOn f P k room ns
fits_then_to f P room zero ns h = walked_on_none f P room ns (spreads_to f P ns room h)
fits_then_to f P room (suc k) [] h = absurd h
fits_then_to f P room (suc k) (n ∷ ns) h = walked_on_more f P k room n ns h.0 (fits_then_to f P room k ns h.1)

fits_then_from : (f : ℕ → Bool) (P : List ℕ → Type 0) (room : Room) (k : ℕ) (front rest : List ℕ) (j : ℕ) → j + k ≡ length front → list_all f front ≡ true → HasRoom j room → P rest → FitsThen f (Spreads f P room) k (front ++ rest)
fits_then_from f P room zero front rest j s e h p =
    let t : j ≡ length front = omega (arith, s) in
    spreads_from f P front rest room e (subst (λ (x : ℕ). HasRoom x room) t h) p
fits_then_from f P room (suc k) [] rest j s e h p = absurd (omega (arith, s))
fits_then_from f P room (suc k) (n ∷ front) rest j s e h p =
    let a = and_parts (f n) (list_all f front) e in
    (a.0, fits_then_from f P room k front rest j (omega (arith, s)) a.1 h p)

between_to : (b : Bool) (least most j n : ℕ) → nat_le least most ≡ b → j + least ≡ n → HasRoom j (cond b (UpTo (most - least)) Unreached) → n ≤ most
between_to true least most j n e s h = let l = leb-true least most e in omega (arith, l, s, h)
between_to false least most j n e s h = absurd h

between_from : (b : Bool) (least most j n : ℕ) → nat_le least most ≡ b → j + least ≡ n → n ≤ most → HasRoom j (cond b (UpTo (most - least)) Unreached)
between_from true least most j n e s h = omega (arith, s, h)
between_from false least most j n e s h = let t : nat_le least most ≡ true = le-leb least most (omega (arith, s, h)) in absurd cc

counts_to : (least : ℕ) (most : Option ℕ) (j n : ℕ) → j + least ≡ n → HasRoom j (room_between least most) → AtMost n most
counts_to least None j n s h = tt
counts_to least (Some most) j n s h = between_to (nat_le least most) least most j n refl s h

counts_from : (least : ℕ) (most : Option ℕ) (j n : ℕ) → j + least ≡ n → AtMost n most → HasRoom j (room_between least most)
counts_from least None j n s h = tt
counts_from least (Some most) j n s h = between_from (nat_le least most) least most j n refl s h

-- some numbers from the front are taken, and the statement holds for the others
abbrev TakesThen : Takes → (List ℕ → Type 0) → List ℕ → Type 0
TakesThen t P ns = (front : List ℕ) × (rest : List ℕ) × (ns ≡ front ++ rest) × (list_all t.fits front ≡ true) × Counts t (length front) × P rest

takes_to : (t : Takes) (P : List ℕ → Type 0) (ns : List ℕ) → FitsThen t.fits (Spreads t.fits P (room_between t.least t.most)) t.least ns → TakesThen t P ns
takes_to t P ns h =
    let w = fits_then_to t.fits P (room_between t.least t.most) t.least ns h in
    let s : w.4.0 + t.least ≡ length w.0 = w.4.1 in
    let l : t.least ≤ length w.0 = omega (arith, s) in
    (w.0, w.1, w.2, w.3, (l, counts_to t.least t.most w.4.0 (length w.0) s w.4.2), w.5)

takes_from : (t : Takes) (P : List ℕ → Type 0) (ns : List ℕ) → TakesThen t P ns → FitsThen t.fits (Spreads t.fits P (room_between t.least t.most)) t.least ns
takes_from t P ns w =
    let room : Room = room_between t.least t.most in
    let l : t.least ≤ length w.0 = w.4.0 in
    let s : length w.0 - t.least + t.least ≡ length w.0 = omega (arith, l) in
    subst (λ (x : List ℕ). FitsThen t.fits (Spreads t.fits P room) t.least x) (sym w.2)
    (fits_then_from t.fits P room t.least w.0 w.1 (length w.0 - t.least) s w.3 (counts_from t.least t.most (length w.0 - t.least) (length w.0) s w.4.1) w.5)

-- ---- the row behind items

unreached_out : (A : Type 0) (f : ℕ → Bool) (P : List ℕ → Type 0) (ns : List ℕ) → A ⊎ Spreads f P Unreached ns → A
unreached_out A f P ns (inl a) = a
unreached_out A f P ns (inr h) = absurd (spreads_none f P ns h)

row_step_to : (t : Takes) (P : List ℕ → Type 0) (path : List ℕ) (row : List Bool) → Reaches P (row_step t.least t.most (fits_along t.fits path) row) path → Reaches (TakesThen t P) row path
row_step_to t P path row h =
    let room : Room = room_between t.least t.most in
    let starts : List Bool = exactly t.least t.least t.least (fits_along t.fits path) row in
    let some = unreached_out (Reaches (Spreads t.fits P room) starts path) t.fits P path (spread_to t.fits P path room Unreached starts h) in
    reaches_map (FitsThen t.fits (Spreads t.fits P room) t.least) (TakesThen t P) (takes_to t P) row path
    (exactly_to t.fits (Spreads t.fits P room) path t.least t.least zero t.least row (omega arith) (omega arith) some)

row_step_from : (t : Takes) (P : List ℕ → Type 0) (path : List ℕ) (row : List Bool) → Reaches (TakesThen t P) row path → Reaches P (row_step t.least t.most (fits_along t.fits path) row) path
row_step_from t P path row h =
    let room : Room = room_between t.least t.most in
    let starts : List Bool = exactly t.least t.least t.least (fits_along t.fits path) row in
    spread_from t.fits P path room Unreached starts tt (inl (exactly_from t.fits (Spreads t.fits P room) path t.least t.least zero t.least row (omega arith) (omega arith)
    (reaches_map (TakesThen t P) (FitsThen t.fits (Spreads t.fits P room) t.least) (takes_from t P) row path h)))

-- nothing stands there
abbrev IsEnd : List ℕ → Type 0
IsEnd ns = ns ≡ []

rows_to : (ts : List Takes) (path : List ℕ) (row : List Bool) → Reaches IsEnd (rows_behind ts path row) path → Reaches (Taken ts) row path
unfolding rows_behind Taken
rows_to [] path row h = h
rows_to (t ∷ ts) path row h = row_step_to t (Taken ts) path row (rows_to ts path (row_step t.least t.most (fits_along t.fits path) row) h)

rows_from : (ts : List Takes) (path : List ℕ) (row : List Bool) → Reaches (Taken ts) row path → Reaches IsEnd (rows_behind ts path row) path
unfolding rows_behind Taken
rows_from [] path row h = h
rows_from (t ∷ ts) path row h = rows_from ts path (row_step t.least t.most (fits_along t.fits path) row) (row_step_from t (Taken ts) path row h)

falses_none : (P : List ℕ → Type 0) (ns : List ℕ) → Reaches P (false ∷ map (λ _. false) ns) ns → ⊥
falses_none P [] (inl h) = absurd cc
falses_none P [] (inr h) = h
falses_none P (n ∷ ns) (inl h) = absurd cc
falses_none P (n ∷ ns) (inr h) = falses_none P ns h

start_to : (P : List ℕ → Type 0) (path : List ℕ) → Reaches P (start_row path) path → P path
unfolding start_row
start_to P [] (inl h) = h.1
start_to P [] (inr h) = absurd h
start_to P (n ∷ ns) (inl h) = h.1
start_to P (n ∷ ns) (inr h) = absurd (falses_none P ns h)

start_from : (P : List ℕ → Type 0) (path : List ℕ) → P path → Reaches P (start_row path) path
unfolding start_row
start_from P [] p = inl (refl, p)
start_from P (n ∷ ns) p = inl (refl, p)

first_read : (row : List Bool) → get_or row 0 false ≡ is_start row
first_read [] = refl
first_read (r ∷ rs) = refl

later_read : (row : List Bool) (k : ℕ) → get_or row (suc k) false ≡ get_or (later_places row) k false
later_read [] k = refl
later_read (r ∷ rs) k = refl

end_to : (path : List ℕ) (row : List Bool) → Reaches IsEnd row path → ends_reached path row ≡ true
end_to [] row (inl h) = first_read row ∙ h.0
end_to [] row (inr h) = absurd h
end_to (n ∷ ns) row (inl h) = absurd cc
end_to (n ∷ ns) row (inr h) = later_read row (length ns) ∙ end_to ns (later_places row) h

end_from : (path : List ℕ) (row : List Bool) → ends_reached path row ≡ true → Reaches IsEnd row path
end_from [] row e = inl (sym (first_read row) ∙ e, refl)
end_from (n ∷ ns) row e = inr (end_from ns (later_places row) (sym (later_read row (length ns)) ∙ e))

-- ---- the answers

-- the last row decides whether items take the whole path
pub takes_decides : (ts : List Takes) (path : List ℕ) → Decides (takes_all ts path) (Taken ts path)
unfolding takes_all
takes_decides ts path = (
  λ e. start_to (Taken ts) path (rows_to ts path (start_row path) (end_from path (rows_behind ts path (start_row path)) e)),
  λ t. end_to path (rows_behind ts path (start_row path)) (rows_from ts path (start_row path) (start_from (Taken ts) path t)),
)

-- whether some branch matches a path
pub pattern_decides : (p : TokenPattern) (path : List ℕ) → Decides (pattern_takes p path) (Matches p path)
unfolding pattern_takes
pattern_decides p path =
    any_decides (λ (b : TokenBranch). takes_all (map takes_of b.items) path) (λ (b : TokenBranch). BranchMatches b path) (λ (b : TokenBranch). takes_decides (map takes_of b.items) path) p.branches

-- whether what some branch takes is the whole path
pub branches_decide : (bs : List IosBranch) (path : List ℕ) → Decides (branches_take bs path) (BranchesTake bs path)
unfolding branches_take
branches_decide bs path =
    any_decides (λ (b : IosBranch). takes_all (branch_takes b) path) (λ (b : IosBranch). Taken (branch_takes b) path) (λ (b : IosBranch). takes_decides (branch_takes b) path) bs
