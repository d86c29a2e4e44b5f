-- States: each is reached by its path, and each step leads to the state that it should.
use Rattle.std.proofs.Common.{◌≡◌, refl, sym, ap, ◌∙◌, subst, ℕ, zero, suc, ◌+◌, ◌<◌, ◌≤◌, ◌^◌, inl, inr, true, false, List, [], ◌∷◌, ◌++◌, length, drop, Option, Some, None, slice_get, get_or, arith, add-one}
use Rattle.std.proofs.lemmas.List.{append_assoc, append-nil, length_push, length-drop}
use Rattle.std.proofs.lemmas.Option.{same_Some}
use Rattle.path_patterns.specs.Items.{IsPath}
use Rattle.path_classes.specs.Lines.{AreSound}
use Rattle.path_classes.specs.States.{lines_say, Begins, Follows, LeadsTo, AreReached, Grew, IsStep, AreSteps, IsRow, AreRows, longer, HasState, IsStatePut, IsStepAdded, IsState, AddsStep, AddsRow, IsRowAdded, IsExplored}
use Rattle.path_classes.specs.declared.lines.Line.{Line}
use Rattle.path_classes.specs.declared.states.States.{States}
use Rattle.path_classes.specs.declared.threads.Thread.{Thread}
use Rattle.path_classes.proofs.Keys.{get_left, at_place, IsPut}
use Rattle.path_classes.proofs.LetterLaws.{path_push, front_and_rest, rest_of, rest_suc}

-- ---- a state is put in

pub put_new : (old new : States) (ts : List Thread) (path : List ℕ) (place : ℕ) → slice_get new.configs.keys place ≡ Some ts → new.next ≡ old.next
    → IsPut old.configs.keys new.configs.keys ts true → new.paths ≡ old.paths ++ path ∷ [] → IsStatePut old new ts path place
put_new old new ts path place there rows put pushed = record { there = there; rows = rows; grown = inr (put, pushed) }

pub put_old : (old new : States) (ts : List Thread) (path : List ℕ) (place : ℕ) → slice_get new.configs.keys place ≡ Some ts → new.next ≡ old.next
    → IsPut old.configs.keys new.configs.keys ts false → new.paths ≡ old.paths → IsStatePut old new ts path place
put_old old new ts path place there rows put same = record { there = there; rows = rows; grown = inl (put, same) }

-- ---- what is reached

module _ (lines : List Line) where
  reached_push : (cs : List (List Thread)) (ps : List (List ℕ)) (c : List Thread) (p : List ℕ) → AreReached lines cs ps → IsPath p → LeadsTo lines p c → AreReached lines (cs ++ c ∷ []) (ps ++ p ∷ [])
  reached_push [] [] c p h in_range leads = (in_range, leads, tt)
  reached_push [] (q ∷ ps) c p h in_range leads = absurd h
  reached_push (b ∷ cs) [] c p h in_range leads = absurd h
  reached_push (b ∷ cs) (q ∷ ps) c p h in_range leads = (h.0, h.1, reached_push cs ps c p h.2 in_range leads)

  pub reached_at : (cs : List (List Thread)) (ps : List (List ℕ)) (i : ℕ) (c : List Thread) → AreReached lines cs ps → slice_get cs i ≡ Some c
      → (p : List ℕ) × (slice_get ps i ≡ Some p) × IsPath p × LeadsTo lines p c
  reached_at [] ps i c h e = absurd cc
  reached_at (b ∷ cs) [] i c h e = absurd h
  reached_at (b ∷ cs) (p ∷ ps) zero c h e = (p, refl, h.0, subst (λ (ts : List Thread). LeadsTo lines p ts) (same_Some b c e) h.1)
  reached_at (b ∷ cs) (p ∷ ps) (suc i) c h e = reached_at cs ps i c h.2 e

  pub as_many_paths : (cs : List (List Thread)) (ps : List (List ℕ)) → AreReached lines cs ps → length cs ≡ length ps
  as_many_paths [] [] h = refl
  as_many_paths [] (p ∷ ps) h = absurd h
  as_many_paths (c ∷ cs) [] h = absurd h
  as_many_paths (c ∷ cs) (p ∷ ps) h = ap (λ (n : ℕ). suc n) (as_many_paths cs ps h.2)

  leads_on : (p : List ℕ) (ts us : List Thread) (n : ℕ) → n < 2 ^ 32 → LeadsTo lines p ts → Follows lines ts n us → LeadsTo lines (p ++ n ∷ []) us
  leads_on p ts us n below leads follows j rest in_range =
      follows j rest in_range ∙ leads j (n ∷ rest) (below, in_range) ∙ ap (λ (q : List ℕ). lines_say lines j q) (sym (append_assoc p (n ∷ []) rest))

  -- ---- a step

  pub step_added : (old new : States) (ts us : List Thread) (from n to : ℕ) → n < 2 ^ 32 → IsState lines old from ts
      → Follows lines ts n us → IsStatePut old new us (longer old.paths from n) to → IsStepAdded lines old new ts n to
  step_added old new ts us from n to below state follows put = record {
    grown = grown put.grown;
    rows = put.rows;
    reached = all put.grown;
    step = record { threads = us; there = put.there; follows = follows };
  }
    where
      grown : HasState old new us (longer old.paths from n) → Grew old.configs.keys new.configs.keys
      grown (inl h) = ([], h.0 ∙ sym (append-nil old.configs.keys))
      grown (inr h) = (us ∷ [], h.0)

      all : HasState old new us (longer old.paths from n) → AreReached lines new.configs.keys new.paths
      all (inl h) =
          subst (λ (cs : List (List Thread)). AreReached lines cs new.paths) (sym h.0) (subst (λ (ps : List (List ℕ)). AreReached lines old.configs.keys ps) (sym h.1) state.reached)
      all (inr h) =
          let from_path = reached_at old.configs.keys old.paths from ts state.reached state.there in
          let path : longer old.paths from n ≡ from_path.0 ++ n ∷ [] = ap (λ (o : Option (List ℕ)). elim o [ None ↦ n ∷ [] | Some p ↦ p ++ n ∷ [] ]) from_path.1 in
          let leads = leads_on from_path.0 ts us n below from_path.3 follows in
          let more = reached_push old.configs.keys old.paths us (from_path.0 ++ n ∷ []) state.reached (path_push from_path.0 n from_path.2 below) leads in
          subst (λ (cs : List (List Thread)). AreReached lines cs new.paths) (sym h.0)
          (subst (λ (ps : List (List ℕ)). AreReached lines (old.configs.keys ++ us ∷ []) ps) (sym (h.1 ∙ ap (λ (p : List ℕ). old.paths ++ p ∷ []) path)) more)

  -- ---- steps of a row

  step_more : (all more : List (List Thread)) (ts : List Thread) (n to : ℕ) → Grew all more → IsStep lines all ts n to → IsStep lines more ts n to
  step_more all more ts n to grown h = record {
    threads = h.threads;
    there = ap (λ (cs : List (List Thread)). slice_get cs to) grown.1 ∙ get_left all grown.0 to h.threads h.there;
    follows = h.follows;
  }

  steps_more : (all more : List (List Thread)) (ts : List Thread) (ns xs : List ℕ) → Grew all more → AreSteps lines all ts ns xs → AreSteps lines more ts ns xs
  steps_more all more ts ns [] grown h = tt
  steps_more all more ts [] (x ∷ xs) grown h = absurd h
  steps_more all more ts (n ∷ ns) (x ∷ xs) grown h = (step_more all more ts n x grown h.0, steps_more all more ts ns xs grown h.1)

  steps_push : (all : List (List Thread)) (ts : List Thread) (ns xs tail : List ℕ) (n x : ℕ) → n ∷ tail ≡ drop (length xs) ns → AreSteps lines all ts ns xs → IsStep lines all ts n x → AreSteps lines all ts ns (xs ++ x ∷ [])
  steps_push all ts [] [] tail n x rest h step = absurd cc
  steps_push all ts (m ∷ ns) [] tail n x rest h step = let same : n ≡ m = cc in (subst (λ (k : ℕ). IsStep lines all ts k x) same step, tt)
  steps_push all ts [] (y ∷ xs) tail n x rest h step = absurd h
  steps_push all ts (m ∷ ns) (y ∷ xs) tail n x rest h step = (h.0, steps_push all ts ns xs tail n x rest h.1 step)

  grew_on : (old mid new : List (List Thread)) → Grew old mid → Grew mid new → Grew old new
  grew_on old mid new first second = (first.0 ++ second.0, second.1 ∙ ap (λ (cs : List (List Thread)). cs ++ second.0) first.1 ∙ append_assoc old first.0 second.0)

  -- a row so far
  pub record IsOnWay (numbers : List ℕ) (old now : States) (ts : List Thread) (row rest : List ℕ) : Type 0 where
    pub grown : Grew old.configs.keys now.configs.keys
    pub rows : now.next ≡ old.next
    pub reached : AreReached lines now.configs.keys now.paths
    pub steps : AreSteps lines now.configs.keys ts numbers row
    pub rest_is : rest ≡ drop (length row) numbers

  pub way_begins : (numbers row : List ℕ) (old : States) (ts : List Thread) → row ≡ [] → AreReached lines old.configs.keys old.paths → IsOnWay numbers old old ts row numbers
  way_begins numbers row old ts none reached = record {
    grown = ([], sym (append-nil old.configs.keys));
    rows = refl;
    reached = reached;
    steps = subst (λ (xs : List ℕ). AreSteps lines old.configs.keys ts numbers xs) (sym none) tt;
    rest_is = ap (λ (xs : List ℕ). drop (length xs) numbers) (sym none);
  }

  pub way_goes : (numbers row more rest : List ℕ) (old now new : States) (ts : List Thread) (from to : ℕ) → 1 ≤ length rest → IsState lines old from ts
      → IsOnWay numbers old now ts row rest → AddsStep lines now new from (get_or rest 0 0) to → more ≡ row ++ to ∷ [] → IsOnWay numbers old new ts more (rest_of rest)
  way_goes numbers row more rest old now new ts from to long state way adds pushed =
      let here : slice_get now.configs.keys from ≡ Some ts = ap (λ (cs : List (List Thread)). slice_get cs from) way.grown.1 ∙ get_left old.configs.keys way.grown.0 from ts state.there in
      let added = adds ts (record { there = here; sound = state.sound; reached = way.reached }) in
      let front : get_or rest 0 0 ∷ rest_of rest ≡ drop (length row) numbers = front_and_rest rest long ∙ way.rest_is in
      record {
        grown = grew_on old.configs.keys now.configs.keys new.configs.keys way.grown added.grown;
        rows = added.rows ∙ way.rows;
        reached = added.reached;
        steps = subst (λ (xs : List ℕ). AreSteps lines new.configs.keys ts numbers xs) (sym pushed)
            (steps_push new.configs.keys ts numbers row (rest_of rest) (get_or rest 0 0) to front (steps_more now.configs.keys new.configs.keys ts numbers row added.grown way.steps) added.step);
        rest_is = rest_suc numbers (length row) (get_or rest 0 0) (rest_of rest) front ∙ ap (λ (k : ℕ). drop k numbers) (sym (ap length pushed ∙ length_push row to ∙ add-one (length row)));
      }

  pub way_ends : (numbers row rest : List ℕ) (old now : States) (ts : List Thread) → length rest < 1 → IsOnWay numbers old now ts row rest → IsRowAdded lines numbers old now ts row
  way_ends numbers row rest old now ts none way = record {
    grown = way.grown;
    rows = way.rows;
    reached = way.reached;
    led = record { steps = way.steps; full = omega (arith, length-drop (length row) numbers, ap length way.rest_is) };
  }

  -- ---- rows

  row_more : (all more : List (List Thread)) (numbers : List ℕ) (c : List Thread) (r : List ℕ) → Grew all more → IsRow lines all numbers c r → IsRow lines more numbers c r
  row_more all more numbers c r grown h = record { steps = steps_more all more c numbers r grown h.steps; full = h.full }

  rows_more : (all more : List (List Thread)) (numbers : List ℕ) (cs extra : List (List Thread)) (rs : List (List ℕ)) → Grew all more → AreRows lines all numbers cs rs → AreRows lines more numbers (cs ++ extra) rs
  rows_more all more numbers cs extra [] grown h = tt
  rows_more all more numbers [] extra (r ∷ rs) grown h = absurd h
  rows_more all more numbers (c ∷ cs) extra (r ∷ rs) grown h = (row_more all more numbers c r grown h.0, rows_more all more numbers cs extra rs grown h.1)

  rows_push : (all : List (List Thread)) (numbers : List ℕ) (cs : List (List Thread)) (rs : List (List ℕ)) (c : List Thread) (r : List ℕ) → slice_get cs (length rs) ≡ Some c → AreRows lines all numbers cs rs → IsRow lines all numbers c r
      → AreRows lines all numbers cs (rs ++ r ∷ [])
  rows_push all numbers [] [] c r e h row = absurd cc
  rows_push all numbers (b ∷ cs) [] c r e h row = (subst (λ (ts : List Thread). IsRow lines all numbers ts r) (sym (same_Some b c e)) row, tt)
  rows_push all numbers [] (q ∷ rs) c r e h row = absurd h
  rows_push all numbers (b ∷ cs) (q ∷ rs) c r e h row = (h.0, rows_push all numbers cs rs c r e h.1 row)

  -- a row was added
  pub explored_more : (numbers : List ℕ) (old mid new : States) (place : ℕ) (row : List ℕ) → AreSound lines → AddsRow lines numbers old mid place row
      → new.configs.keys ≡ mid.configs.keys → new.paths ≡ mid.paths → new.next ≡ mid.next ++ row ∷ []
      → IsExplored lines numbers old place → place < length old.configs.keys → IsExplored lines numbers new (place + 1)
  explored_more numbers old mid new place row sound adds keys paths next before below =
      let here = at_place old.configs.keys place below in
      let added = adds here.0 (record { there = here.1; sound = sound; reached = before.reached }) in
      let all : new.configs.keys ≡ old.configs.keys ++ added.grown.0 = keys ∙ added.grown.1 in
      let grown : Grew old.configs.keys new.configs.keys = (added.grown.0, all) in
      let old_rows : AreRows lines new.configs.keys numbers new.configs.keys old.next =
      subst (λ (cs : List (List Thread)). AreRows lines new.configs.keys numbers cs old.next) (sym all) (rows_more old.configs.keys new.configs.keys numbers old.configs.keys added.grown.0 old.next grown before.rows) in
      let at : slice_get new.configs.keys (length old.next) ≡ Some here.0 =
      ap (λ (i : ℕ). slice_get new.configs.keys i) before.count ∙ ap (λ (cs : List (List Thread)). slice_get cs place) all ∙ get_left old.configs.keys added.grown.0 place here.0 here.1 in
      let led : IsRow lines new.configs.keys numbers here.0 row = subst (λ (cs : List (List Thread)). IsRow lines cs numbers here.0 row) (sym keys) added.led in
      let rows_now : new.next ≡ old.next ++ row ∷ [] = next ∙ ap (λ (rs : List (List ℕ)). rs ++ row ∷ []) added.rows in
      record {
        reached = subst (λ (cs : List (List Thread)). AreReached lines cs new.paths) (sym keys) (subst (λ (ps : List (List ℕ)). AreReached lines mid.configs.keys ps) (sym paths) added.reached);
        rows = subst (λ (rs : List (List ℕ)). AreRows lines new.configs.keys numbers new.configs.keys rs) (sym rows_now) (rows_push new.configs.keys numbers new.configs.keys old.next here.0 row at old_rows led);
        count = ap length rows_now ∙ length_push old.next row ∙ ap (λ (k : ℕ). k + 1) before.count;
        first = (before.first.0, ap (λ (cs : List (List Thread)). slice_get cs 0) all ∙ get_left old.configs.keys added.grown.0 0 before.first.0 before.first.1, before.first.2);
      }

  -- the state of the empty path alone
  pub explored_first : (numbers : List ℕ) (states : States) (ts : List Thread) → states.configs.keys ≡ ts ∷ [] → states.paths ≡ [] ∷ [] → states.next ≡ [] → Begins lines ts → IsExplored lines numbers states 0
  explored_first numbers states ts keys paths next begins = record {
    reached = subst (λ (cs : List (List Thread)). AreReached lines cs states.paths) (sym keys) (subst (λ (ps : List (List ℕ)). AreReached lines (ts ∷ []) ps) (sym paths) (tt, begins, tt));
    rows = subst (λ (rs : List (List ℕ)). AreRows lines states.configs.keys numbers states.configs.keys rs) (sym next) tt;
    count = ap length next;
    first = (ts, ap (λ (cs : List (List Thread)). slice_get cs 0) keys, begins);
  }
