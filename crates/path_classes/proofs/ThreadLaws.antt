-- Threads behind a number say of the rest of a path what they said before of the whole.
use Rattle.std.proofs.Common.{◌≡◌, refl, sym, ap, ◌∙◌, subst, ℕ, zero, suc, ◌+◌, ◌-◌, ◌<◌, ◌≤◌, ◌^◌, Bool, true, false, ◌&&◌, ◌||◌, ◌==◌, nat_le, nat_lt, List, [], ◌∷◌, ◌++◌, length, drop, take, Option, Some, None, slice_get, is_none, arith, ltb-true, ltb-false, le-leb, eqb-true}
use Rattle.std.specs.List.{flat_map, AllByRecursion}
use Rattle.std.proofs.lemmas.Bool.{and_parts, lt-leb}
use Rattle.std.proofs.lemmas.List.{drop_at, take-append-drop, length-append, append_assoc}
use Rattle.std.proofs.lemmas.List.Folds.{list_any-append}
use Rattle.std.proofs.lemmas.Option.{same_Some}
use Rattle.path_patterns.specs.Items.{IsPath}
use Rattle.path_patterns.specs.PathMatches.{no_number, has_room, one_fewer, front_fits, whole_path}
use Rattle.path_classes.specs.Lines.{turn_holds, turns_take, IsSound, AreSoundTurns, AreSound}
use Rattle.path_classes.specs.Threads.{last_turns, turns_at, goes_on, stage_takes, thread_says, says, stays_always, stay, entered, after, taken_one, next_inside, next_stage, next, starts_from}
use Rattle.path_classes.specs.Tidy.{SayTheSame}
use Rattle.path_classes.specs.States.{lines_say, Begins, Follows}
use Rattle.path_classes.specs.declared.lines.Turn.{Turn}
use Rattle.path_classes.specs.declared.lines.Line.{Line}
use Rattle.path_classes.specs.declared.threads.Inside.{Inside as At}
use Rattle.path_classes.specs.declared.threads.Stage.{Stage}
use Rattle.path_classes.specs.declared.threads.Stage.TheVariants.{Always, Ended, Inside}
use Rattle.path_classes.specs.declared.threads.Thread.{Thread}

-- ---- tests

pub or_none : (b : Bool) → (b || false) ≡ b
or_none true = refl
or_none false = refl

pub and_none : (b : Bool) → false ≡ (b && false)
and_none true = refl
and_none false = refl

pub and_each : (a b c : Bool) → ((a && b) || (a && c)) ≡ (a && (b || c))
and_each true b c = refl
and_each false b c = refl

or_swap : (a b : Bool) → (a || b) ≡ (b || a)
or_swap true true = refl
or_swap true false = refl
or_swap false true = refl
or_swap false false = refl

-- ---- the turns that are left

-- the turns are the last ones of a line
pub record IsTail (lines : List Line) (i : ℕ) (ts : List Turn) : Type 0 where
  pub line : Line
  pub there : slice_get lines i ≡ Some line
  pub front : List Turn
  pub whole : line.turns ≡ front ++ ts

last_of : (front ts : List Turn) → last_turns (front ++ ts) (length ts) ≡ ts
last_of front ts = at (nat_lt (length ts) (length (front ++ ts))) refl
  where
    at : (b : Bool) → nat_lt (length ts) (length (front ++ ts)) ≡ b → (elim b [ true ↦ drop (length (front ++ ts) - length ts) (front ++ ts) | false ↦ front ++ ts ]) ≡ ts
    at true e = drop_at front ts (length (front ++ ts) - length ts) (omega (arith, length-append front ts))
    at false e = none front (omega (arith, length-append front ts, ltb-false (length ts) (length (front ++ ts)) e))
      where
        none : (xs : List Turn) → length xs ≤ 0 → xs ++ ts ≡ ts
        none [] le = refl
        none (x ∷ xs) le = absurd (omega arith)

tail_at : (lines : List Line) (i : ℕ) (ts : List Turn) → IsTail lines i ts → turns_at lines i (length ts) ≡ ts
tail_at lines i ts tail =
    ap (λ (o : Option Line). elim o [ None ↦ [] | Some l ↦ last_turns l.turns (length ts) ]) tail.there
    ∙ ap (λ (us : List Turn). last_turns us (length ts)) tail.whole ∙ last_of tail.front ts

tail_behind : (lines : List Line) (i : ℕ) (t : Turn) (ts : List Turn) → IsTail lines i (t ∷ ts) → IsTail lines i ts
tail_behind lines i t ts tail = record {
  line = tail.line;
  there = tail.there;
  front = tail.front ++ t ∷ [];
  whole = tail.whole ∙ sym (append_assoc tail.front (t ∷ []) ts);
}

pub tail_of : (lines : List Line) (i left : ℕ) (t : Turn) (ts : List Turn) → turns_at lines i left ≡ t ∷ ts → IsTail lines i (t ∷ ts)
tail_of lines i left t ts e = at (slice_get lines i) refl e
  where
    parts : (us : List Turn) (b : Bool) → (elim b [ true ↦ drop (length us - left) us | false ↦ us ]) ≡ t ∷ ts → (front : List Turn) × (us ≡ front ++ t ∷ ts)
    parts us true h = (take (length us - left) us, sym (take-append-drop (length us - left) us) ∙ ap (λ (vs : List Turn). take (length us - left) us ++ vs) h)
    parts us false h = ([], h)

    at : (o : Option Line) → slice_get lines i ≡ o → ◌≡◌ {A = List Turn} (elim o [ None ↦ [] | Some l ↦ last_turns l.turns left ]) (t ∷ ts) → IsTail lines i (t ∷ ts)
    at None is h = absurd cc
    at (Some l) is h = let cut = parts l.turns (nat_lt left (length l.turns)) h in record { line = l; there = is; front = cut.0; whole = cut.1 }

-- what is so at each turn of the lines is so at the turns that are left
module _ (P : Turn → Type 0) where
  all_behind : (front ts : List Turn) → AllByRecursion P (front ++ ts) → AllByRecursion P ts
  all_behind [] ts h = h
  all_behind (t ∷ front) ts h = all_behind front ts h.1

  all_line : (lines : List Line) (i : ℕ) (l : Line) → AllByRecursion (λ m. AllByRecursion P m.turns) lines → slice_get lines i ≡ Some l → AllByRecursion P l.turns
  all_line [] i l h e = absurd cc
  all_line (k ∷ lines) zero l h e = subst (λ (m : Line). AllByRecursion P m.turns) (same_Some k l e) h.0
  all_line (k ∷ lines) (suc i) l h e = all_line lines i l h.1 e

  pub all_tail : (lines : List Line) (i : ℕ) (ts : List Turn) → AllByRecursion (λ m. AllByRecursion P m.turns) lines → IsTail lines i ts → AllByRecursion P ts
  all_tail lines i ts h tail = all_behind tail.front ts (subst (λ (us : List Turn). AllByRecursion P us) tail.whole (all_line lines i tail.line h tail.there))

-- ---- a turn takes numbers, and what is behind it takes the rest

fits_split : (t : Turn) (ts : List Turn) (least : ℕ) (most : Option ℕ) (path : List ℕ)
    → front_fits (λ m. turn_holds t m) least most (λ rest. turns_take ts rest) path ≡ (goes_on (t ∷ ts) least most path || (nat_le least 0 && turns_take ts path))
unfolding front_fits
fits_split t ts least most [] = refl
fits_split t ts least most (n ∷ ns) =
    or_swap (nat_le least 0 && turns_take ts (n ∷ ns)) (has_room most && (turn_holds t n && front_fits (λ m. turn_holds t m) (least - 1) (one_fewer most) (λ rest. turns_take ts rest) ns))

-- a whole set at the end takes all paths
always_fits : (t : Turn) → ((n : ℕ) → n < 2 ^ 32 → turn_holds t n ≡ true) → (path : List ℕ) → IsPath path → front_fits (λ m. turn_holds t m) 0 None (λ rest. turns_take [] rest) path ≡ true
unfolding front_fits whole_path
always_fits t all [] h = refl
always_fits t all (n ∷ ns) h = ap (λ (b : Bool). b && front_fits (λ m. turn_holds t m) 0 None (λ rest. turns_take [] rest) ns) (all n h.0) ∙ always_fits t all ns h.1

no_room : (t : Turn) (ts : List Turn) (least : ℕ) (most : Option ℕ) (path : List ℕ) → has_room most ≡ false → goes_on (t ∷ ts) least most path ≡ false
no_room t ts least most [] e = refl
no_room t ts least most (n ∷ ns) e = ap (λ (b : Bool). b && (turn_holds t n && front_fits (λ m. turn_holds t m) (least - 1) (one_fewer most) (λ rest. turns_take ts rest) ns)) e

is_nothing : (o : Option ℕ) → is_none o ≡ true → o ≡ None
is_nothing None e = refl
is_nothing (Some n) e = absurd cc

least_tests : (n : ℕ) (b : Bool) → nat_lt 0 n ≡ b → nat_le n 0 ≡ (elim b [ true ↦ false | false ↦ true ])
least_tests n true e = lt-leb n 0 (ltb-true 0 n e)
least_tests n false e = le-leb n 0 (ltb-false 0 n e)

all_said : (a w : Bool) → (((a && true) || false) || (a && w)) ≡ (a && true)
all_said true w = refl
all_said false w = refl

always_case : (t : Turn) (ts : List Turn) (s : At) (path : List ℕ) → IsPath path → IsSound t → stays_always t ts s ≡ true → front_fits (λ m. turn_holds t m) s.least s.most (λ rest. turns_take ts rest) path ≡ true
always_case t [] s path in_range sound e =
    let parts = and_parts t.whole (s.least == 0 && is_none s.most) e in
    let more = and_parts (s.least == 0) (is_none s.most) parts.1 in
    let least = eqb-true s.least 0 more.0 in
    let most = is_nothing s.most more.1 in
    (λ i. front_fits (λ m. turn_holds t m) (least i) (most i) (λ rest. turns_take [] rest) path) ∙ always_fits t (sound parts.0) path in_range
always_case t (u ∷ us) s path in_range sound e = absurd cc

module _ (lines : List Line) (k : ℕ) (path : List ℕ) (in_range : IsPath path) where
  behind_says : (j least : ℕ) (ts : List Turn) (more : List Thread) (b : Bool) → nat_lt 0 least ≡ b → says lines k path more ≡ ((j == k) && turns_take ts path)
      → says lines k path (elim b [ true ↦ [] | false ↦ more ]) ≡ ((j == k) && (nat_le least 0 && turns_take ts path))
  behind_says j least ts more true e behind = and_none (j == k) ∙ ap (λ (b : Bool). (j == k) && (b && turns_take ts path)) (sym (least_tests least true e))
  behind_says j least ts more false e behind = behind ∙ ap (λ (b : Bool). (j == k) && (b && turns_take ts path)) (sym (least_tests least false e))

  room_says : (j : ℕ) (t : Turn) (ts : List Turn) (s : At) (b : Bool) → has_room s.most ≡ b → turns_at lines s.line s.left ≡ t ∷ ts
      → says lines k path (elim b [ true ↦ record { pattern = j; stage = Inside s } ∷ [] | false ↦ [] ]) ≡ ((j == k) && goes_on (t ∷ ts) s.least s.most path)
  room_says j t ts s true e turns =
      or_none ((j == k) && goes_on (turns_at lines s.line s.left) s.least s.most path) ∙ ap (λ (us : List Turn). (j == k) && goes_on us s.least s.most path) turns
  room_says j t ts s false e turns = and_none (j == k) ∙ ap (λ (b : Bool). (j == k) && b) (sym (no_room t ts s.least s.most path e))

  stay_says : (j : ℕ) (t : Turn) (ts : List Turn) (s : At) (b later : Bool) → stays_always t ts s ≡ b → IsSound t → turns_at lines s.line s.left ≡ t ∷ ts
      → later ≡ ((j == k) && (nat_le s.least 0 && turns_take ts path))
      → (says lines k path (elim b [ true ↦ record { pattern = j; stage = Always } ∷ [] | false ↦ elim (has_room s.most) [ true ↦ record { pattern = j; stage = Inside s } ∷ [] | false ↦ [] ] ]) || later)
      ≡ ((j == k) && front_fits (λ m. turn_holds t m) s.least s.most (λ rest. turns_take ts rest) path)
  stay_says j t ts s true later e sound turns said =
      ap (λ (b : Bool). (((j == k) && true) || false) || b) said ∙ all_said (j == k) (nat_le s.least 0 && turns_take ts path)
      ∙ ap (λ (b : Bool). (j == k) && b) (sym (always_case t ts s path in_range sound e))
  stay_says j t ts s false later e sound turns said =
      (λ i. room_says j t ts s (has_room s.most) refl turns i || said i)
      ∙ and_each (j == k) (goes_on (t ∷ ts) s.least s.most path) (nat_le s.least 0 && turns_take ts path)
      ∙ ap (λ (b : Bool). (j == k) && b) (sym (fits_split t ts s.least s.most path))

  -- the threads of a turn that has been touched, from those of the turns behind it
  after_says : (j : ℕ) (t : Turn) (ts : List Turn) (s : At) → IsSound t → turns_at lines s.line s.left ≡ t ∷ ts
      → says lines k path (entered j s.line ts) ≡ ((j == k) && turns_take ts path)
      → says lines k path (after j t ts s) ≡ ((j == k) && front_fits (λ m. turn_holds t m) s.least s.most (λ rest. turns_take ts rest) path)
  after_says j t ts s sound turns behind =
      list_any-append (λ (u : Thread). thread_says lines k path u) (stay j t ts s) (elim (nat_lt 0 s.least) [ true ↦ [] | false ↦ entered j s.line ts ])
      ∙ stay_says j t ts s (stays_always t ts s) (says lines k path (elim (nat_lt 0 s.least) [ true ↦ [] | false ↦ entered j s.line ts ])) refl sound turns
      (behind_says j s.least ts (entered j s.line ts) (nat_lt 0 s.least) refl behind)

  -- the threads of turns that are still untouched
  entered_says : (j i : ℕ) (ts : List Turn) → IsTail lines i ts → AreSoundTurns ts → says lines k path (entered j i ts) ≡ ((j == k) && turns_take ts path)
  unfolding entered whole_path
  entered_says j i [] tail sound = or_none ((j == k) && no_number path)
  entered_says j i (t ∷ ts) tail sound =
      after_says j t ts (record { line = i; left = suc (length ts); least = t.least; most = t.most }) sound.0 (tail_at lines i (t ∷ ts) tail)
      (entered_says j i ts (tail_behind lines i t ts tail) sound.1)

-- ---- a number leads threads on

module _ (lines : List Line) (sound : AreSound lines) (k n : ℕ) (path : List ℕ) (in_range : IsPath path) where
  led : (j : ℕ) (t : Turn) (ts : List Turn) (s : At) (room : Bool) (holds : Bool) → has_room s.most ≡ room → turn_holds t n ≡ holds → turns_at lines s.line s.left ≡ t ∷ ts
      → says lines k path (elim (room && holds) [ true ↦ after j t ts (taken_one s) | false ↦ [] ])
      ≡ ((j == k) && (room && (holds && front_fits (λ m. turn_holds t m) (s.least - 1) (one_fewer s.most) (λ rest. turns_take ts rest) path)))
  led j t ts s true true room holds turns =
      let tail = tail_of lines s.line s.left t ts turns in
      let all = all_tail IsSound lines s.line (t ∷ ts) sound tail in
      after_says lines k path in_range j t ts (taken_one s) all.0 turns (entered_says lines k path in_range j s.line ts (tail_behind lines s.line t ts tail) all.1)
  led j t ts s true false room holds turns = and_none (j == k)
  led j t ts s false holds room e turns = and_none (j == k)

  inside_led : (j : ℕ) (s : At) (ts : List Turn) → turns_at lines s.line s.left ≡ ts → says lines k path (next_inside n j ts s) ≡ ((j == k) && goes_on ts s.least s.most (n ∷ path))
  inside_led j s [] turns = and_none (j == k)
  inside_led j s (t ∷ ts) turns = led j t ts s (has_room s.most) (turn_holds t n) refl refl turns

  stage_led : (j : ℕ) (s : Stage) → says lines k path (next_stage lines n j s) ≡ ((j == k) && stage_takes lines s (n ∷ path))
  stage_led j Always = or_none ((j == k) && true)
  stage_led j Ended = and_none (j == k)
  stage_led j (Inside s) = inside_led j s (turns_at lines s.line s.left) refl

  all_led : (ts : List Thread) → says lines k path (flat_map (λ t. next lines n t) ts) ≡ says lines k (n ∷ path) ts
  all_led [] = refl
  all_led (t ∷ ts) =
      list_any-append (λ (u : Thread). thread_says lines k path u) (next lines n t) (flat_map (λ u. next lines n u) ts)
      ∙ (λ i. stage_led t.pattern t.stage i || all_led ts i)

pub follows : (lines : List Line) (ts led us : List Thread) (n : ℕ) → led ≡ flat_map (λ t. next lines n t) ts → SayTheSame led us → AreSound lines → Follows lines ts n us
follows lines ts led us n e same sound j path in_range =
    same lines j path ∙ ap (λ (vs : List Thread). says lines j path vs) e ∙ all_led lines sound j n path in_range ts

-- ---- the empty path

module _ (lines : List Line) (k : ℕ) (path : List ℕ) (in_range : IsPath path) where
  starts_say : (i : ℕ) (ls : List Line) → ((m : ℕ) → slice_get lines (i + m) ≡ slice_get ls m) → AreSound ls → says lines k path (starts_from i ls) ≡ lines_say ls k path
  unfolding starts_from
  starts_say i [] there sound = refl
  starts_say i (l ∷ ls) there sound =
      let here : slice_get lines i ≡ Some l = ap (λ (m : ℕ). slice_get lines m) (omega arith) ∙ there 0 in
      let tail : IsTail lines i l.turns = record { line = l; there = here; front = []; whole = refl } in
      list_any-append (λ (u : Thread). thread_says lines k path u) (entered l.pattern i l.turns) (starts_from (suc i) ls)
      ∙ (λ x. entered_says lines k path in_range l.pattern i l.turns tail sound.0 x || starts_say (suc i) ls (λ m. ap (λ (p : ℕ). slice_get lines p) (omega arith) ∙ there (suc m)) sound.1 x)

pub begins : (lines : List Line) (ts us : List Thread) → ts ≡ starts_from 0 lines → SayTheSame ts us → AreSound lines → Begins lines us
begins lines ts us e same sound j path in_range =
    same lines j path ∙ ap (λ (vs : List Thread). says lines j path vs) e ∙ starts_say lines j path in_range 0 lines (λ m. ap (λ (p : ℕ). slice_get lines p) (omega arith)) sound
