-- Numbers of one letter lead threads alike.
use Rattle.std.proofs.Common.{◌≡◌, refl, ap, ℕ, ◌-◌, Bool, ◌&&◌, ◌||◌, ◌==◌, List, [], ◌∷◌, ◌++◌, map, Option}
use Rattle.std.specs.List.{AllByRecursion}
use Rattle.path_patterns.specs.PathMatches.{has_room, one_fewer, front_fits}
use Rattle.path_classes.specs.Lines.{turn_holds, turns_take}
use Rattle.path_classes.specs.Letters.{turn_tests, signature}
use Rattle.path_classes.specs.Threads.{turns_at, goes_on, stage_takes, says}
use Rattle.path_classes.specs.declared.lines.Turn.{Turn}
use Rattle.path_classes.specs.declared.lines.Line.{Line}
use Rattle.path_classes.specs.declared.threads.Stage.{Stage}
use Rattle.path_classes.specs.declared.threads.Stage.TheVariants.{Always, Ended, Inside}
use Rattle.path_classes.specs.declared.threads.Thread.{Thread}
use Rattle.path_classes.proofs.ThreadLaws.{tail_of, all_tail}

module _ (n m : ℕ) where
  -- the turn doesn't tell the two numbers apart
  abbrev IsOne : Turn → Type 0
  IsOne t = turn_holds t n ≡ turn_holds t m

  abbrev AreOne : List Line → Type 0
  AreOne ls = AllByRecursion (λ l. AllByRecursion IsOne l.turns) ls

  turns_one : (ts : List Turn) (xs ys : List Bool) → map (turn_tests n) ts ++ xs ≡ map (turn_tests m) ts ++ ys → AllByRecursion IsOne ts × (xs ≡ ys)
  turns_one [] xs ys e = (tt, e)
  turns_one (t ∷ ts) xs ys e =
      let first : turn_holds t n ≡ turn_holds t m = cc in
      let rest : map (turn_tests n) ts ++ xs ≡ map (turn_tests m) ts ++ ys = cc in
      let more = turns_one ts xs ys rest in
      ((first, more.0), more.1)

  lines_one : (ls : List Line) → signature ls n ≡ signature ls m → AreOne ls
  lines_one [] e = tt
  lines_one (l ∷ ls) e = let parts = turns_one l.turns (signature ls n) (signature ls m) e in (parts.0, lines_one ls parts.1)

  module _ (lines : List Line) (alike : signature lines n ≡ signature lines m) (rest : List ℕ) where
    inside_one : (i left least : ℕ) (most : Option ℕ) (ts : List Turn) → turns_at lines i left ≡ ts → goes_on ts least most (n ∷ rest) ≡ goes_on ts least most (m ∷ rest)
    inside_one i left least most [] turns = refl
    inside_one i left least most (t ∷ ts) turns =
        let one = all_tail IsOne lines i (t ∷ ts) (lines_one lines alike) (tail_of lines i left t ts turns) in
        ap (λ (b : Bool). has_room most && (b && front_fits (λ k. turn_holds t k) (least - 1) (one_fewer most) (λ r. turns_take ts r) rest)) one.0

    stage_one : (s : Stage) → stage_takes lines s (n ∷ rest) ≡ stage_takes lines s (m ∷ rest)
    stage_one Always = refl
    stage_one Ended = refl
    stage_one (Inside s) = inside_one s.line s.left s.least s.most (turns_at lines s.line s.left) refl

    pub says_one : (j : ℕ) (ts : List Thread) → says lines j (n ∷ rest) ts ≡ says lines j (m ∷ rest) ts
    says_one j [] = refl
    says_one j (t ∷ ts) = λ x. ((t.pattern == j) && stage_one t.stage x) || says_one j ts x
