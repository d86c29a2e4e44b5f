-- How far a path has come in a line: what it may still be followed by, and where a number leads.
use Rattle.std.specs.Prelude.{ℕ, suc, ◌-◌, Bool, true, false, ◌&&◌, ◌==◌, nat_lt, List, [], ◌∷◌, ◌++◌, Option, Some, None, length, drop, slice_get, is_none}
use Rattle.std.specs.List.{list_any}
use Rattle.path_patterns.specs.PathMatches.{no_number, has_room, one_fewer, front_fits}
use Rattle.path_classes.specs.Lines.{turn_holds, turns_take}
use Rattle.path_classes.specs.declared.lines.Turn.{Turn}
use Rattle.path_classes.specs.declared.lines.Line.{Line}
use Rattle.path_classes.specs.declared.threads.Inside.{Inside as At}
use Rattle.path_classes.specs.declared.threads.Stage.{Stage}
use Rattle.path_classes.specs.declared.threads.Stage.TheVariants.{Always, Ended, Inside}
use Rattle.path_classes.specs.declared.threads.Thread.{Thread}

-- ---- what a thread says

-- the last turns, so many
abbrev pub last_turns : List Turn → ℕ → List Turn
last_turns ts left = elim (nat_lt left (length ts)) [ true ↦ drop (length ts - left) ts | false ↦ ts ]

-- the turns of a line from a place on
abbrev pub turns_at : List Line → ℕ → ℕ → List Turn
turns_at lines i left = elim (slice_get lines i) [ None ↦ [] | Some l ↦ last_turns l.turns left ]

-- the first turn takes one number of the path and so many in all, and the others take the rest
abbrev pub goes_on : List Turn → ℕ → Option ℕ → List ℕ → Bool
goes_on [] least most path = false
goes_on (t ∷ ts) least most [] = false
goes_on (t ∷ ts) least most (n ∷ ns) =
    has_room most && (turn_holds t n && front_fits (λ m. turn_holds t m) (least - 1) (one_fewer most) (λ rest. turns_take ts rest) ns)

-- the path may follow
abbrev pub stage_takes : List Line → Stage → List ℕ → Bool
stage_takes lines Always path = true
stage_takes lines Ended path = no_number path
stage_takes lines (Inside s) path = goes_on (turns_at lines s.line s.left) s.least s.most path

-- by this thread the pattern at place j matches when the path follows
abbrev pub thread_says : List Line → ℕ → List ℕ → Thread → Bool
thread_says lines j path t = (t.pattern == j) && stage_takes lines t.stage path

-- by one of the threads it does
abbrev pub says : List Line → ℕ → List ℕ → List Thread → Bool
says lines j path ts = list_any (λ t. thread_says lines j path t) ts

-- ---- where a path leads

-- a last turn that takes any count of any numbers
abbrev pub stays_always : Turn → List Turn → At → Bool
stays_always t [] s = t.whole && (s.least == 0 && is_none s.most)
stays_always t (u ∷ us) s = false

-- the threads that take a number for the turn, before these ones
abbrev pub stay : ℕ → Turn → List Turn → At → List Thread
stay j t ts s = elim (stays_always t ts s) [
  | true ↦ record { pattern = j; stage = Always } ∷ []
  | false ↦ elim (has_room s.most) [ true ↦ record { pattern = j; stage = Inside s } ∷ [] | false ↦ [] ]
]

-- the threads of turns that are still untouched
unfoldable pub entered : ℕ → ℕ → List Turn → List Thread
entered j i [] = record { pattern = j; stage = Ended } ∷ []
entered j i (t ∷ ts) =
    stay j t ts (record { line = i; left = suc (length ts); least = t.least; most = t.most }) ++ elim (nat_lt 0 t.least) [ true ↦ [] | false ↦ entered j i ts ]

-- the threads of a turn that has been touched, and of those behind it
abbrev pub after : ℕ → Turn → List Turn → At → List Thread
after j t ts s = stay j t ts s ++ elim (nat_lt 0 s.least) [ true ↦ [] | false ↦ entered j s.line ts ]

-- one number less may be taken
abbrev pub taken_one : At → At
taken_one s = record { line = s.line; left = s.left; least = s.least - 1; most = one_fewer s.most }

-- where a number leads a thread that is inside a line, of which these turns are left
abbrev pub next_inside : ℕ → ℕ → List Turn → At → List Thread
next_inside n j [] s = []
next_inside n j (t ∷ ts) s = elim (has_room s.most && turn_holds t n) [ true ↦ after j t ts (taken_one s) | false ↦ [] ]

-- where a number leads a stage
abbrev pub next_stage : List Line → ℕ → ℕ → Stage → List Thread
next_stage lines n j Always = record { pattern = j; stage = Always } ∷ []
next_stage lines n j Ended = []
next_stage lines n j (Inside s) = next_inside n j (turns_at lines s.line s.left) s

-- where a number leads a thread
abbrev pub next : List Line → ℕ → Thread → List Thread
next lines n t = next_stage lines n t.pattern t.stage

-- the threads of the empty path, of lines of which the first has this place
unfoldable pub starts_from : ℕ → List Line → List Thread
starts_from i [] = []
starts_from i (l ∷ ls) = entered l.pattern i l.turns ++ starts_from (suc i) ls
