-- Threads without those that another one covers say the same.
use Rattle.std.proofs.Common.{◌≡◌, refl, sym, ap, ◌∙◌, subst, ℕ, ◌-◌, ◌≤◌, inl, inr, Bool, true, false, ◌&&◌, ◌||◌, ◌==◌, nat_le, List, [], ◌∷◌, Option, Some, None, arith, leb-true, le-leb, eqb-true}
use Rattle.std.specs.List.Sorted.{IsPermutation}
use Rattle.std.proofs.lemmas.Bool.{and_parts, and_from, or_cases, or_left, or_right}
use Rattle.std.proofs.lemmas.List.Sorted.{list_any-IsPermutation}
use Rattle.path_patterns.specs.PathMatches.{has_room, one_fewer, front_fits}
use Rattle.path_classes.specs.Lines.{turn_holds, turns_take}
use Rattle.path_classes.specs.Threads.{turns_at, goes_on, stage_takes, thread_says, says}
use Rattle.path_classes.specs.Tidy.{most_within, inside_covers, stage_covers, covers, tidied_from, tidied, SayTheSame}
use Rattle.path_classes.specs.declared.lines.Turn.{Turn}
use Rattle.path_classes.specs.declared.lines.Line.{Line}
use Rattle.path_classes.specs.declared.threads.Inside.{Inside as At}
use Rattle.path_classes.specs.declared.threads.Stage.{Stage}
use Rattle.path_classes.specs.declared.threads.Stage.TheVariants.{Always, Ended, Inside}
use Rattle.path_classes.specs.declared.threads.Thread.{Thread}

-- ---- more counts take more paths

room_more : (inner outer : Option ℕ) → most_within inner outer ≡ true → has_room inner ≡ true → has_room outer ≡ true
room_more None None within room = refl
room_more (Some a) None within room = refl
room_more None (Some b) within room = absurd cc
room_more (Some a) (Some b) within room = le-leb 1 b (omega (arith, leb-true a b within, leb-true 1 a room))

fewer_within : (inner outer : Option ℕ) → most_within inner outer ≡ true → most_within (one_fewer inner) (one_fewer outer) ≡ true
fewer_within None None within = refl
fewer_within (Some a) None within = refl
fewer_within None (Some b) within = absurd cc
fewer_within (Some a) (Some b) within = le-leb (a - 1) (b - 1) (omega (arith, leb-true a b within))

need_less : (low high : ℕ) → low ≤ high → nat_le high 0 ≡ true → nat_le low 0 ≡ true
need_less low high le e = le-leb low 0 (omega (arith, leb-true high 0 e))

fits_more : (fits : ℕ → Bool) (behind : List ℕ → Bool) (path : List ℕ) (low high : ℕ) (inner outer : Option ℕ) → low ≤ high → most_within inner outer ≡ true
    → front_fits fits high inner behind path ≡ true → front_fits fits low outer behind path ≡ true
unfolding front_fits
fits_more fits behind [] low high inner outer le within e =
    let parts = and_parts (nat_le high 0) (behind []) e in
    and_from (nat_le low 0) (behind []) (need_less low high le parts.0) parts.1
fits_more fits behind (n ∷ ns) low high inner outer le within e =
    elim (or_cases (nat_le high 0 && behind (n ∷ ns)) (has_room inner && (fits n && front_fits fits (high - 1) (one_fewer inner) behind ns)) e) [
      | inl none ↦
          let parts = and_parts (nat_le high 0) (behind (n ∷ ns)) none in
          or_left (nat_le low 0 && behind (n ∷ ns)) (has_room outer && (fits n && front_fits fits (low - 1) (one_fewer outer) behind ns))
          (and_from (nat_le low 0) (behind (n ∷ ns)) (need_less low high le parts.0) parts.1)
      | inr one ↦
          let parts = and_parts (has_room inner) (fits n && front_fits fits (high - 1) (one_fewer inner) behind ns) one in
          let more = and_parts (fits n) (front_fits fits (high - 1) (one_fewer inner) behind ns) parts.1 in
          or_right (nat_le low 0 && behind (n ∷ ns)) (has_room outer && (fits n && front_fits fits (low - 1) (one_fewer outer) behind ns))
          (and_from (has_room outer) (fits n && front_fits fits (low - 1) (one_fewer outer) behind ns) (room_more inner outer within parts.0)
          (and_from (fits n) (front_fits fits (low - 1) (one_fewer outer) behind ns) more.0
          (fits_more fits behind ns (low - 1) (high - 1) (one_fewer inner) (one_fewer outer) (omega arith) (fewer_within inner outer within) more.1)))
    ]

goes_more : (ts : List Turn) (path : List ℕ) (low high : ℕ) (inner outer : Option ℕ) → low ≤ high → most_within inner outer ≡ true → goes_on ts high inner path ≡ true → goes_on ts low outer path ≡ true
goes_more [] path low high inner outer le within e = e
goes_more (t ∷ ts) [] low high inner outer le within e = e
goes_more (t ∷ ts) (n ∷ ns) low high inner outer le within e =
    let fits : ℕ → Bool = λ m. turn_holds t m in
    let behind : List ℕ → Bool = λ rest. turns_take ts rest in
    let parts = and_parts (has_room inner) (fits n && front_fits fits (high - 1) (one_fewer inner) behind ns) e in
    let more = and_parts (fits n) (front_fits fits (high - 1) (one_fewer inner) behind ns) parts.1 in
    and_from (has_room outer) (fits n && front_fits fits (low - 1) (one_fewer outer) behind ns) (room_more inner outer within parts.0)
    (and_from (fits n) (front_fits fits (low - 1) (one_fewer outer) behind ns) more.0
    (fits_more fits behind ns (low - 1) (high - 1) (one_fewer inner) (one_fewer outer) (omega arith) (fewer_within inner outer within) more.1))

-- ---- what is covered adds nothing

module _ (lines : List Line) (path : List ℕ) where
  inside_more : (a b : At) → inside_covers a b ≡ true → stage_takes lines (Inside b) path ≡ true → stage_takes lines (Inside a) path ≡ true
  inside_more a b e h =
      let first = and_parts (a.line == b.line) (a.left == b.left && (nat_le a.least b.least && most_within b.most a.most)) e in
      let second = and_parts (a.left == b.left) (nat_le a.least b.least && most_within b.most a.most) first.1 in
      let third = and_parts (nat_le a.least b.least) (most_within b.most a.most) second.1 in
      let line = eqb-true a.line b.line first.0 in
      let left = eqb-true a.left b.left second.0 in
      let turns : turns_at lines b.line b.left ≡ turns_at lines a.line a.left = sym (λ i. turns_at lines (line i) (left i)) in
      subst (λ (ts : List Turn). goes_on ts a.least a.most path ≡ true) turns (goes_more (turns_at lines b.line b.left) path a.least b.least b.most a.most (leb-true a.least b.least third.0) third.1 h)

  stage_more : (a b : Stage) → stage_covers a b ≡ true → stage_takes lines b path ≡ true → stage_takes lines a path ≡ true
  stage_more Always b e h = refl
  stage_more Ended Always e h = absurd cc
  stage_more Ended Ended e h = h
  stage_more Ended (Inside b) e h = absurd cc
  stage_more (Inside a) Always e h = absurd cc
  stage_more (Inside a) Ended e h = absurd cc
  stage_more (Inside a) (Inside b) e h = inside_more a b e h

  thread_more : (j : ℕ) (a b : Thread) → covers a b ≡ true → thread_says lines j path b ≡ true → thread_says lines j path a ≡ true
  thread_more j a b e h =
      let parts = and_parts (a.pattern == b.pattern) (stage_covers a.stage b.stage) e in
      let said = and_parts (b.pattern == j) (stage_takes lines b.stage path) h in
      and_from (a.pattern == j) (stage_takes lines a.stage path) (ap (λ (n : ℕ). n == j) (eqb-true a.pattern b.pattern parts.0) ∙ said.0) (stage_more a.stage b.stage parts.1 said.1)

absorbed : (a b c : Bool) → (b ≡ true → a ≡ true) → (a || c) ≡ (a || (b || c))
absorbed true b c h = refl
absorbed false true c h = absurd (let e = h refl in cc)
absorbed false false c h = refl

module _ (lines : List Line) (j : ℕ) (path : List ℕ) where
  tidied_behind : (last : Thread) (ts : List Thread) → says lines j path (last ∷ tidied_from last ts) ≡ says lines j path (last ∷ ts)
  unfolding tidied_from
  tidied_behind last [] = refl
  tidied_behind last (t ∷ ts) = at (covers last t) refl (tidied_behind last ts) (tidied_behind t ts)
    where
      at : (b : Bool) → covers last t ≡ b → says lines j path (last ∷ tidied_from last ts) ≡ says lines j path (last ∷ ts) → says lines j path (t ∷ tidied_from t ts) ≡ says lines j path (t ∷ ts)
          → says lines j path (last ∷ elim b [ true ↦ tidied_from last ts | false ↦ t ∷ tidied_from t ts ]) ≡ says lines j path (last ∷ t ∷ ts)
      at true e covered kept = covered ∙ absorbed (thread_says lines j path last) (thread_says lines j path t) (says lines j path ts) (thread_more lines path j last t e)
      at false e covered kept = ap (λ (b : Bool). thread_says lines j path last || b) kept

  tidied_says : (ts : List Thread) → says lines j path (tidied ts) ≡ says lines j path ts
  tidied_says [] = refl
  tidied_says (t ∷ ts) = tidied_behind t ts

-- in another order, and tidied, threads say the same
pub tidied_same : (ts ordered us : List Thread) → IsPermutation ts ordered → us ≡ tidied ordered → SayTheSame ts us
tidied_same ts ordered us moved e lines j path =
    ap (λ (vs : List Thread). says lines j path vs) e ∙ tidied_says lines j path ordered ∙ sym (list_any-IsPermutation (λ (t : Thread). thread_says lines j path t) ts ordered moved)
