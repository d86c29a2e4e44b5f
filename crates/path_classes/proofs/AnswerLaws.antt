-- What the patterns answer to the paths of a state.
use Rattle.std.proofs.Common.{◌≡◌, refl, sym, ap, ◌∙◌, ℕ, ◌<◌, inl, inr, Bool, true, false, ◌&&◌, ◌||◌, ◌==◌, List, [], ◌∷◌, length, Option, Some, slice_get, get_or, set, replicate, arith, ne_eqb}
use Rattle.std.specs.List.{list_any}
use Rattle.std.proofs.lemmas.Bool.{cases_eq, eq-eqb}
use Rattle.std.proofs.lemmas.List.{length-set, get_or-set_same, get_or-set_other, get_or-replicate, length-replicate}
use Rattle.std.proofs.lemmas.Option.{slice_get-get_or}
use Rattle.std.proofs.Math.Bool.{or_assoc}
use Rattle.path_classes.specs.Answers.{is_over, marked_one, marked, answers_of}
use Rattle.path_classes.specs.Threads.{turns_at, goes_on, stage_takes, says}
use Rattle.path_classes.specs.declared.lines.Turn.{Turn}
use Rattle.path_classes.specs.declared.lines.Line.{Line}
use Rattle.path_classes.specs.declared.threads.Stage.{Stage}
use Rattle.path_classes.specs.declared.threads.Stage.TheVariants.{Always, Ended, Inside}
use Rattle.path_classes.specs.declared.threads.Thread.{Thread}
use Rattle.path_classes.proofs.ThreadLaws.{or_none, and_none}

-- a path ends where the thread says the empty rest may follow
over_inside : (ts : List Turn) (least : ℕ) (most : Option ℕ) → goes_on ts least most [] ≡ false
over_inside [] least most = refl
over_inside (t ∷ ts) least most = refl

stage_over : (lines : List Line) (s : Stage) → is_over s ≡ stage_takes lines s []
stage_over lines Always = refl
stage_over lines Ended = refl
stage_over lines (Inside s) = sym (over_inside (turns_at lines s.line s.left) s.least s.most)

or_always : (b : Bool) → true ≡ (b || true)
or_always true = refl
or_always false = refl

-- one thread is marked
abbrev over : ℕ → Thread → Bool
over j t = (t.pattern == j) && is_over t.stage

one_by : (row : List Bool) (p j : ℕ) (d : Bool) (b : Bool) → j < length row → get_or (elim b [ true ↦ set row p true | false ↦ row ]) j d ≡ (get_or row j d || ((p == j) && b))
one_by row p j d true below = elim (cases_eq p j) [
  | inl same ↦
      ap (λ (i : ℕ). get_or (set row i true) j d) same ∙ get_or-set_same row j true d below
      ∙ or_always (get_or row j d) ∙ ap (λ (b : Bool). get_or row j d || (b && true)) (sym (eq-eqb p j same))
  | inr apart ↦
      get_or-set_other row p j true d (λ e. apart (sym e))
      ∙ sym (or_none (get_or row j d)) ∙ ap (λ (b : Bool). get_or row j d || (b && true)) (sym (ne_eqb p j apart))
]
one_by row p j d false below = sym (or_none (get_or row j d)) ∙ ap (λ (b : Bool). get_or row j d || b) (and_none (p == j))

length_one : (row : List Bool) (p : ℕ) (b : Bool) → length {A = Bool} (elim b [ true ↦ set row p true | false ↦ row ]) ≡ length row
length_one row p true = length-set row p true
length_one row p false = refl

length_marked : (ts : List Thread) (row : List Bool) → length (marked row ts) ≡ length row
unfolding marked
length_marked [] row = refl
length_marked (t ∷ ts) row = length_marked ts (marked_one row t) ∙ length_one row t.pattern (is_over t.stage)

marked_at : (ts : List Thread) (row : List Bool) (j : ℕ) (d : Bool) → j < length row → get_or (marked row ts) j d ≡ (get_or row j d || list_any (λ t. over j t) ts)
unfolding marked
marked_at [] row j d below = sym (or_none (get_or row j d))
marked_at (t ∷ ts) row j d below =
    marked_at ts (marked_one row t) j d (omega (arith, length_one row t.pattern (is_over t.stage)))
    ∙ ap (λ (b : Bool). b || list_any (λ u. over j u) ts) (one_by row t.pattern j d (is_over t.stage) below)
    ∙ or_assoc (get_or row j d) (over j t) (list_any (λ u. over j u) ts)

over_says : (lines : List Line) (j : ℕ) (ts : List Thread) → list_any (λ t. over j t) ts ≡ says lines j [] ts
over_says lines j [] = refl
over_says lines j (t ∷ ts) = λ x. ((t.pattern == j) && stage_over lines t.stage x) || over_says lines j ts x

pub length_answers : (count : ℕ) (ts : List Thread) → length (answers_of count ts) ≡ count
length_answers count ts = length_marked ts (replicate count false) ∙ length-replicate count false

-- the answer at a place is what the threads say of the empty rest
pub answers_say : (lines : List Line) (count : ℕ) (ts : List Thread) (j : ℕ) → j < count → slice_get (answers_of count ts) j ≡ Some (says lines j [] ts)
answers_say lines count ts j below =
    slice_get-get_or (answers_of count ts) j false (omega (arith, length_answers count ts))
    ∙ ap (λ (b : Bool). Some b)
    (marked_at ts (replicate count false) j false (omega (arith, length-replicate count false))
    ∙ ap (λ (b : Bool). b || list_any (λ t. over j t) ts) (get_or-replicate count j false false below)
    ∙ over_says lines j ts)
