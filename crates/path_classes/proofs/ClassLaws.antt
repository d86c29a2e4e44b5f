-- The tables lead each path to the class in which the patterns answer as they do to it.
use Rattle.std.proofs.Common.{◌≡◌, refl, sym, ap, ◌∙◌, subst, ℕ, zero, suc, ◌<◌, ◌≤◌, ◌^◌, ◌↔◌, Bool, false, List, [], ◌∷◌, ◌++◌, length, map, Option, Some, None, slice_get, get_or, arith}
use Rattle.std.specs.List.{IsDistinct}
use Rattle.std.proofs.lemmas.List.{append-nil, same_lists}
use Rattle.std.proofs.lemmas.Option.{same_Some, slice_get_within, get_or_from_slice_get}
use Rattle.path_patterns.specs.Items.{IsPath}
use Rattle.path_patterns.specs.PathMatches.{path_matches}
use Rattle.path_patterns.specs.declared.items.TokenPattern.{TokenPattern}
use Rattle.path_classes.specs.Lines.{AreSound, line_view, views_from}
use Rattle.path_classes.specs.Letters.{CutsAll}
use Rattle.path_classes.specs.Threads.{says}
use Rattle.path_classes.specs.States.{lines_say, Begins, AreReached, IsStep, AreSteps, IsRow, AreRows}
use Rattle.path_classes.specs.Answers.{answers_of}
use Rattle.path_classes.specs.Sorting.{same_answers, AreClassed, IsMember, AreMembers}
use Rattle.path_classes.specs.Walk.{at_or_zero, letter_in, state_behind, state_in, class_in, member_at}
use Rattle.path_classes.specs.Classes.{Alike, Tells}
use Rattle.path_classes.specs.declared.classes.Classes.{Classes}
use Rattle.path_classes.specs.declared.lines.Line.{Line}
use Rattle.path_classes.specs.declared.states.States.{States}
use Rattle.path_classes.specs.declared.threads.Thread.{Thread}
use Rattle.path_classes.proofs.AlikeLaws.{says_one}
use Rattle.path_classes.proofs.AnswerLaws.{length_answers, answers_say}
use Rattle.path_classes.proofs.CutLaws.{lettered}
use Rattle.path_classes.proofs.Keys.{at_place}
use Rattle.path_classes.proofs.SortingLaws.{one_place}
use Rattle.path_classes.proofs.StateLaws.{reached_at}
use Rattle.path_classes.proofs.ViewLaws.{lines_match}

-- how the classes of patterns were made
pub record IsMade (patterns : List TokenPattern) (lines : List Line) (numbers : List ℕ) (states : States) (c : Classes) : Type 0 where
  pub views : map line_view lines ≡ views_from 0 patterns
  pub sound : AreSound lines
  pub cuts : CutsAll lines c.ends c.letters numbers
  pub reached : AreReached lines states.configs.keys states.paths
  pub rows : AreRows lines states.configs.keys numbers states.configs.keys c.next
  pub full : length states.configs.keys ≤ length c.next
  pub first : (ts : List Thread) × (slice_get states.configs.keys 0 ≡ Some ts) × Begins lines ts
  pub classed : AreClassed (length patterns) c.answers.keys states.configs.keys c.classes
  pub all_classed : length states.configs.keys ≤ length c.classes
  pub members : AreMembers (length patterns) states c.answers.keys c.members
  pub distinct : IsDistinct same_answers c.answers.keys

-- ---- look-ups

row_at : (lines : List Line) (all : List (List Thread)) (numbers : List ℕ) (cs : List (List Thread)) (rs : List (List ℕ)) (s : ℕ) (ts : List Thread) → AreRows lines all numbers cs rs → slice_get cs s ≡ Some ts → s < length rs
    → (r : List ℕ) × (slice_get rs s ≡ Some r) × IsRow lines all numbers ts r
row_at lines all numbers cs [] s ts h at below = absurd (omega arith)
row_at lines all numbers [] (r ∷ rs) s ts h at below = absurd h
row_at lines all numbers (b ∷ cs) (r ∷ rs) zero ts h at below = (r, refl, subst (λ (us : List Thread). IsRow lines all numbers us r) (same_Some b ts at) h.0)
row_at lines all numbers (b ∷ cs) (r ∷ rs) (suc s) ts h at below = row_at lines all numbers cs rs s ts h.1 at (omega arith)

step_at : (lines : List Line) (all : List (List Thread)) (ts : List Thread) (ns xs : List ℕ) (i n : ℕ) → AreSteps lines all ts ns xs → slice_get ns i ≡ Some n → i < length xs
    → (x : ℕ) × (slice_get xs i ≡ Some x) × IsStep lines all ts n x
step_at lines all ts ns [] i n h at below = absurd (omega arith)
step_at lines all ts [] (x ∷ xs) i n h at below = absurd h
step_at lines all ts (m ∷ ns) (x ∷ xs) zero n h at below = let same : m ≡ n = cc in (x, refl, subst (λ (k : ℕ). IsStep lines all ts k x) same h.0)
step_at lines all ts (m ∷ ns) (x ∷ xs) (suc i) n h at below = step_at lines all ts ns xs i n h.1 at (omega arith)

class_at : (count : ℕ) (answers : List (List Bool)) (cs : List (List Thread)) (xs : List ℕ) (s : ℕ) (ts : List Thread) → AreClassed count answers cs xs → slice_get cs s ≡ Some ts → s < length xs
    → (x : ℕ) × (slice_get xs s ≡ Some x) × (slice_get answers x ≡ Some (answers_of count ts))
class_at count answers cs [] s ts h at below = absurd (omega arith)
class_at count answers [] (x ∷ xs) s ts h at below = absurd h
class_at count answers (b ∷ cs) (x ∷ xs) zero ts h at below = (x, refl, h.0 ∙ ap (λ (us : List Thread). Some (answers_of count us)) (same_Some b ts at))
class_at count answers (b ∷ cs) (x ∷ xs) (suc s) ts h at below = class_at count answers cs xs s ts h.1 at (omega arith)

member_of : (count : ℕ) (states : States) (answers : List (List Bool)) (ps : List (List ℕ)) (k : ℕ) → AreMembers count states answers ps → k < length ps
    → (a : List Bool) × (p : List ℕ) × (slice_get answers k ≡ Some a) × (slice_get ps k ≡ Some p) × IsMember count states a p
member_of count states [] [] k h below = absurd (omega arith)
member_of count states [] (p ∷ ps) k h below = absurd h
member_of count states (a ∷ answers) [] k h below = absurd h
member_of count states (a ∷ answers) (p ∷ ps) zero h below = (a, p, refl, refl, h.0)
member_of count states (a ∷ answers) (p ∷ ps) (suc k) h below = member_of count states answers ps k h.1 (omega arith)

as_many : (count : ℕ) (states : States) (answers : List (List Bool)) (ps : List (List ℕ)) → AreMembers count states answers ps → length answers ≡ length ps
as_many count states [] [] h = refl
as_many count states [] (p ∷ ps) h = absurd h
as_many count states (a ∷ answers) [] h = absurd h
as_many count states (a ∷ answers) (p ∷ ps) h = ap (λ (n : ℕ). suc n) (as_many count states answers ps h.1)

-- ---- a walk

abbrev zero_if : Option ℕ → ℕ
zero_if o = elim o [ None ↦ 0 | Some x ↦ x ]

module _ (patterns : List TokenPattern) (lines : List Line) (numbers : List ℕ) (states : States) (c : Classes) (made : IsMade patterns lines numbers states c) where
  -- the state to which a path leads, and what it says
  record IsAt (s : ℕ) (ts : List Thread) (path : List ℕ) (to : ℕ) : Type 0 where
    pub threads : List Thread
    pub there : slice_get states.configs.keys to ≡ Some threads
    pub say : (j : ℕ) (rest : List ℕ) → IsPath rest → says lines j rest threads ≡ says lines j (path ++ rest) ts

  behind : (s n : ℕ) (ts : List Thread) → n < 2 ^ 32 → slice_get states.configs.keys s ≡ Some ts → IsAt s ts (n ∷ []) (state_behind c s n)
  behind s n ts below there =
      let letter = lettered lines c.ends c.letters numbers n made.cuts below in
      let within = slice_get_within states.configs.keys s ts there in
      let row = row_at lines states.configs.keys numbers states.configs.keys c.next s ts made.rows there (omega (arith, made.full)) in
      let kept = slice_get_within numbers letter.letter letter.number letter.kept in
      let step = step_at lines states.configs.keys ts numbers row.0 letter.letter letter.number row.2.steps letter.kept (omega (arith, row.2.full)) in
      let letter_is : letter_in c n ≡ letter.letter = ap zero_if letter.there in
      let to : state_behind c s n ≡ step.0 =
      ap (λ (o : Option (List ℕ)). elim o [ None ↦ 0 | Some r ↦ at_or_zero r (letter_in c n) ]) row.1
      ∙ ap (λ (x : ℕ). at_or_zero row.0 x) letter_is ∙ ap zero_if step.1 in
      record {
        threads = step.2.threads;
        there = ap (λ (i : ℕ). slice_get states.configs.keys i) to ∙ step.2.there;
        say = λ j rest in_range. step.2.follows j rest in_range ∙ sym (says_one n letter.number lines letter.alike rest j ts);
      }

  walks : (path : List ℕ) (s : ℕ) (ts : List Thread) → IsPath path → slice_get states.configs.keys s ≡ Some ts → IsAt s ts path (state_in c s path)
  unfolding state_in
  walks [] s ts in_range there = record { threads = ts; there = there; say = λ j rest h. refl }
  walks (n ∷ ns) s ts in_range there =
      let next = behind s n ts in_range.0 there in
      let more = walks ns (state_behind c s n) next.threads in_range.1 next.there in
      record {
        threads = more.threads;
        there = more.there;
        say = λ j rest h. more.say j rest h ∙ next.say j (ns ++ rest) (both ns rest in_range.1 h);
      }
    where
      both : (xs ys : List ℕ) → IsPath xs → IsPath ys → IsPath (xs ++ ys)
      both [] ys h k = k
      both (x ∷ xs) ys h k = (h.0, both xs ys h.1 k)

  -- ---- answers

  -- the answers are those to the path
  abbrev Answers : List Bool → List ℕ → Type 0
  Answers row path = (length row ≡ length patterns) × ((j : ℕ) (pattern : TokenPattern) → slice_get patterns j ≡ Some pattern → slice_get row j ≡ Some (path_matches pattern path))

  state_answers : (ts : List Thread) (path : List ℕ) → ((j : ℕ) → says lines j [] ts ≡ lines_say lines j path) → Answers (answers_of (length patterns) ts) path
  state_answers ts path say = (
    length_answers (length patterns) ts,
    λ j pattern at.
        let below = slice_get_within patterns j pattern at in
        answers_say lines (length patterns) ts j below ∙ ap (λ (b : Bool). Some b) (say j ∙ lines_match patterns lines j pattern path made.views at),
  )

  -- answers to paths to which the patterns answer alike are the same
  rows_same : (xs ys : List Bool) (p q : List ℕ) → Answers xs p → Answers ys q → Alike patterns p q → xs ≡ ys
  rows_same xs ys p q x y alike = same_lists xs ys (x.0 ∙ sym y.0) at
    where
      at : (k : ℕ) (d : Bool) → k < length xs → get_or xs k d ≡ get_or ys k d
      at k d below =
          let pattern = at_place patterns k (omega (arith, x.0)) in
          get_or_from_slice_get xs k (path_matches pattern.0 p) d (x.1 k pattern.0 pattern.1) ∙ alike k pattern.0 pattern.1
          ∙ sym (get_or_from_slice_get ys k (path_matches pattern.0 q) d (y.1 k pattern.0 pattern.1))

  -- the class of a path has the answers to it
  record IsClassed (path : List ℕ) : Type 0 where
    pub row : List Bool
    pub there : slice_get c.answers.keys (class_in c path) ≡ Some row
    pub answers : Answers row path

  classed : (path : List ℕ) → IsPath path → IsClassed path
  classed path in_range =
      let at = walks path 0 made.first.0 in_range made.first.1 in
      let within = slice_get_within states.configs.keys (state_in c 0 path) at.threads at.there in
      let class = class_at (length patterns) c.answers.keys states.configs.keys c.classes (state_in c 0 path) at.threads made.classed at.there (omega (arith, made.all_classed)) in
      let class_is : class_in c path ≡ class.0 = ap zero_if class.1 in
      record {
        row = answers_of (length patterns) at.threads;
        there = ap (λ (i : ℕ). slice_get c.answers.keys i) class_is ∙ class.2;
        answers = state_answers at.threads path (λ j. at.say j [] tt ∙ ap (λ (q : List ℕ). says lines j q made.first.0) (append-nil path) ∙ made.first.2 j path in_range);
      }

  alike_itself : (p : List ℕ) → Alike patterns p p
  alike_itself p j pattern at = refl

  -- the class with the answers to a path is its class
  class_is : (path : List ℕ) (k : ℕ) (a : List Bool) → IsPath path → slice_get c.answers.keys k ≡ Some a → Answers a path → class_in c path ≡ k
  class_is path k a in_range at answers =
      let of_path = classed path in_range in
      one_place c.answers.keys (class_in c path) k a made.distinct (of_path.there ∙ ap (λ (r : List Bool). Some r) (rows_same of_path.row a path path of_path.answers answers (alike_itself path))) at

  alike : (p q : List ℕ) → IsPath p → IsPath q → (class_in c p ≡ class_in c q) ↔ Alike patterns p q
  alike p q p_range q_range =
      let at_p = classed p p_range in
      let at_q = classed q q_range in (
        λ same j pattern at.
            let rows : at_p.row ≡ at_q.row = same_Some at_p.row at_q.row (sym at_p.there ∙ ap (λ (i : ℕ). slice_get c.answers.keys i) same ∙ at_q.there) in
            same_Some (path_matches pattern p) (path_matches pattern q) (sym (at_p.answers.1 j pattern at) ∙ ap (λ (r : List Bool). slice_get r j) rows ∙ at_q.answers.1 j pattern at),
        λ told. one_place c.answers.keys (class_in c p) (class_in c q) at_q.row made.distinct
            (at_p.there ∙ ap (λ (r : List Bool). Some r) (rows_same at_p.row at_q.row p q at_p.answers at_q.answers told)) at_q.there,
      )

  -- ---- members

  record IsKept (k : ℕ) : Type 0 where
    pub in_range : IsPath (member_at c k)
    pub class : class_in c (member_at c k) ≡ k

  kept : (k : ℕ) → k < length c.members → IsKept k
  kept k below =
      let found = member_of (length patterns) states c.answers.keys c.members k made.members below in
      let member = found.4 in
      let path = reached_at lines states.configs.keys states.paths member.place member.threads made.reached member.state in
      let same : path.0 ≡ found.1 = same_Some path.0 found.1 (sym path.1 ∙ member.led) in
      let is : member_at c k ≡ found.1 = ap (λ (o : Option (List ℕ)). elim o [ None ↦ [] | Some p ↦ p ]) found.3 in
      let in_range : IsPath found.1 = subst (λ (p : List ℕ). IsPath p) same path.2 in
      let say : (j : ℕ) → says lines j [] member.threads ≡ lines_say lines j found.1 =
      λ j. path.3 j [] tt ∙ ap (λ (p : List ℕ). lines_say lines j p) (append-nil path.0 ∙ same) in
      let answers : Answers found.0 found.1 = subst (λ (r : List Bool). Answers r found.1) (sym member.same) (state_answers member.threads found.1 say) in
      record {
        in_range = subst (λ (p : List ℕ). IsPath p) (sym is) in_range;
        class = ap (λ (p : List ℕ). class_in c p) is ∙ class_is found.1 k found.0 in_range found.2 answers;
      }

  -- ---- the classes are those of the patterns

  pub tells : Tells patterns c
  tells = record {
    alike = alike;
    within = λ p in_range.
        let at = classed p in_range in
        let below = slice_get_within c.answers.keys (class_in c p) at.row at.there in
        omega (arith, as_many (length patterns) states c.answers.keys c.members made.members);
    path = λ k below. (kept k below).in_range;
    member = λ k below. (kept k below).class;
    answer = λ p j pattern in_range at.
        let class = classed p in_range in
        ap (λ (o : Option (List Bool)). elim o [ None ↦ false | Some row ↦ elim (slice_get row j) [ None ↦ false | Some b ↦ b ] ]) class.there
        ∙ ap (λ (o : Option Bool). elim o [ None ↦ false | Some b ↦ b ]) (class.answers.1 j pattern at);
  }
