-- The answers of steps that are found from the last one on.
use Rattle.std.proofs.Common.{◌≡◌, refl, sym, ap, ◌∙◌, subst, ℕ, zero, suc, ◌-◌, ◌<◌, ◌≤◌, ◌⊎◌, inl, inr, Bool, true, List, [], ◌∷◌, ◌++◌, length, get_or, take, drop, reverse, Option, Some, None, slice_get, append-nil, arith}
use Rattle.std.specs.Option.{option_or}
use Rattle.std.proofs.lemmas.List.{take-append-drop, reverse-append}
use Rattle.std.proofs.lemmas.Option.{slice_get_within}
use Rattle.rpl_effects.specs.Pieces.{leaves, leaves_at, steps_of}
use Rattle.rpl_effects.specs.Answers.{first_answer, last_answer, Tells, IsVisited, Agrees, IsVisiting}
use Rattle.rpl_effects.specs.declared.effect.Piece.{Piece}
use Rattle.rpl_effects.specs.declared.effect.Piece.TheVariants.{One, OfEffect}
use Rattle.rpl_effects.specs.declared.effect.Effect.{Effect}
use Rattle.rpl_effects.proofs.PieceLaws.{leaves_append, at_there, at_kept, at_none}

or_assoc : (a b c : Option Bool) → option_or (option_or a b) c ≡ option_or a (option_or b c)
or_assoc None b c = refl
or_assoc (Some x) b c = refl

or_none : (a : Option Bool) → option_or a None ≡ a
or_none None = refl
or_none (Some x) = refl

-- what leaves the first answers as they are leaves more of them as they are
or_kept : (a b c : Option Bool) → option_or a c ≡ a → option_or (option_or a b) c ≡ option_or a b
or_kept None b c h = ap (λ (o : Option Bool). option_or b o) h ∙ or_none b
or_kept (Some x) b c h = refl

or_again : (a b : Option Bool) → option_or (option_or a b) b ≡ option_or a b
or_again None None = refl
or_again None (Some x) = refl
or_again (Some x) b = refl

module _ {S : Type 0} (answer : S → Option Bool) where
  pub last_append : (xs ys : List S) → last_answer answer (xs ++ ys) ≡ option_or (last_answer answer ys) (last_answer answer xs)
  unfolding last_answer
  last_append [] ys = sym (or_none (last_answer answer ys))
  last_append (x ∷ xs) ys = ap (λ (o : Option Bool). option_or o (answer x)) (last_append xs ys) ∙ or_assoc (last_answer answer ys) (last_answer answer xs) (answer x)

  first_append : (xs ys : List S) → first_answer answer (xs ++ ys) ≡ option_or (first_answer answer xs) (first_answer answer ys)
  unfolding first_answer
  first_append [] ys = refl
  first_append (x ∷ xs) ys = ap (λ (o : Option Bool). option_or (answer x) o) (first_append xs ys) ∙ sym (or_assoc (answer x) (first_answer answer xs) (first_answer answer ys))

  first_of_one : (x : S) → first_answer answer (x ∷ []) ≡ answer x
  unfolding first_answer
  first_of_one x = or_none (answer x)

  last_of_one : (x : S) → last_answer answer (x ∷ []) ≡ answer x
  unfolding last_answer
  last_of_one x = refl

  -- the last answer, found from the end
  pub turned : (xs : List S) → last_answer answer (reverse xs) ≡ first_answer answer xs
  unfolding last_answer first_answer
  turned [] = refl
  turned (x ∷ xs) =
      ap (λ (ys : List S). last_answer answer ys) (reverse-append (x ∷ []) xs)
      ∙ last_append (reverse xs) (x ∷ [])
      ∙ ap (λ (o : Option Bool). option_or (answer x) o) (turned xs)

  tells_more : (at : ℕ → List S) (seen : List Bool) (found new : List S) (b : Option Bool) → first_answer answer new ≡ option_or (first_answer answer found) b → Tells answer at seen found → Tells answer at seen new
  tells_more at seen found new b made tells k is =
      ap (λ (o : Option Bool). option_or o (last_answer answer (at k))) made ∙ or_kept (first_answer answer found) b (last_answer answer (at k)) (tells k is) ∙ sym made

-- what stands before the last item of a list, and that item
pub back : {A : Type 0} (rest : List A) (last item : A) (n : ℕ) → 1 ≤ length rest → last ≡ get_or rest n last → n ≡ length rest - 1 → last ≡ item → rest ≡ take n rest ++ (item ∷ [])
back [] last item n long is len same = absurd (omega arith)
back {A} (x ∷ []) last item zero long is len same = ap (λ (y : A). y ∷ []) (sym is ∙ same)
back (x ∷ []) last item (suc n) long is len same = absurd (omega (arith, len))
back (x ∷ y ∷ ys) last item zero long is len same = absurd (omega (arith, len))
back {A} (x ∷ y ∷ ys) last item (suc n) long is len same = ap (λ (zs : List A). x ∷ zs) (back (y ∷ ys) last item n (omega arith) is (omega (arith, len)) same)

module _ {S : Type 0} (answer : S → Option Bool) (at : ℕ → List S) where
  -- where no effect stands
  pub visited_none : (older : List (Effect S)) (place : ℕ) (seen : List Bool) (found : List S) → length older ≤ place → Tells answer at seen found → IsVisited answer at (leaves_at steps_of older place) found found seen
  unfolding last_answer
  visited_none older place seen found past tells = record {
    tells = tells;
    answers = sym (or_none (first_answer answer found)) ∙ ap (λ (xs : List S). option_or (first_answer answer found) (last_answer answer xs)) (sym (at_none steps_of older place past));
  }

  -- where the effect was seen
  pub visited_seen : (older : List (Effect S)) (place : ℕ) (seen : List Bool) (found : List S) → Agrees at older → place < length older → slice_get seen place ≡ Some true → Tells answer at seen found
      → IsVisited answer at (leaves_at steps_of older place) found found seen
  visited_seen older place seen found agrees within is tells = record {
    tells = tells;
    answers = sym (tells place is) ∙ ap (λ (xs : List S). option_or (first_answer answer found) (last_answer answer xs)) (agrees place within);
  }

  -- the table before an effect
  agrees_before : (older : List (Effect S)) (place : ℕ) → Agrees at older → place < length older → Agrees at (take place older)
  agrees_before older place agrees within k h =
      agrees k (below k h)
      ∙ ap (λ (t : List (Effect S)). leaves_at steps_of t k) (sym (take-append-drop place older))
      ∙ at_kept steps_of (take place older) (drop place older) k h
    where
      below : (k : ℕ) → k < length (take place older) → k < length older
      below k h = rw (← ap length (take-append-drop place older)) (more (take place older) (drop place older) k h)
        where
          more : (xs ys : List (Effect S)) (k : ℕ) → k < length xs → k < length (xs ++ ys)
          more [] ys k h = absurd (omega arith)
          more (x ∷ xs) ys zero h = omega arith
          more (x ∷ xs) ys (suc k) h = let g = more xs ys k (omega arith) in omega arith

  -- the steps of the effect at a place
  pub visited_effect : (older cut : List (Effect S)) (place : ℕ) (e : Effect S) (pieces : List (Piece S)) (first then noted : List Bool) (found new : List S) → slice_get older place ≡ Some e → cut ≡ take place older → pieces ≡ steps_of e
      → Agrees at older → Tells answer at first found
      → (Agrees at cut → Tells answer at first found → IsVisited answer at (leaves (leaves_at steps_of cut) pieces) found new then)
      → ((k : ℕ) → slice_get noted k ≡ Some true → (slice_get then k ≡ Some true) ⊎ (k ≡ place))
      → IsVisited answer at (leaves_at steps_of older place) found new noted
  visited_effect older cut place e pieces first then noted found new there is has agrees tells visits notes =
      let within : place < length older = slice_get_within older place e there in
      let v = visits (subst (λ (t : List (Effect S)). Agrees at t) (sym is) (agrees_before older place agrees within)) tells in
      let same : leaves (leaves_at steps_of cut) pieces ≡ leaves_at steps_of older place =
      ap (λ (t : List (Effect S)). leaves (leaves_at steps_of t) pieces) is ∙ ap (λ (ps : List (Piece S)). leaves (leaves_at steps_of (take place older)) ps) has ∙ sym (at_there steps_of older place e there) in
      let answers : first_answer answer new ≡ option_or (first_answer answer found) (last_answer answer (leaves_at steps_of older place)) =
      v.answers ∙ ap (λ (xs : List S). option_or (first_answer answer found) (last_answer answer xs)) same in
      record {
        tells = λ k h. by (notes k h) answers v.tells within;
        answers = answers;
      }
    where
      by : {k : ℕ} → (slice_get then k ≡ Some true) ⊎ (k ≡ place) → first_answer answer new ≡ option_or (first_answer answer found) (last_answer answer (leaves_at steps_of older place)) → Tells answer at then new → place < length older
          → option_or (first_answer answer new) (last_answer answer (at k)) ≡ first_answer answer new
      by {k} (inl h) answers told within = told k h
      by {k} (inr h) answers told within =
          ap (λ (xs : List S). option_or (first_answer answer new) (last_answer answer xs)) (ap at h ∙ agrees place within)
          ∙ ap (λ (o : Option Bool). option_or o (last_answer answer (leaves_at steps_of older place))) answers
          ∙ or_again (first_answer answer found) (last_answer answer (leaves_at steps_of older place))
          ∙ sym answers

  -- the last piece is one step
  pub visiting_one : (older : ℕ → List S) (pieces rest front : List (Piece S)) (x : S) (before found new : List S) (seen : List Bool) → rest ≡ front ++ (One x ∷ []) → new ≡ found ++ (x ∷ [])
      → IsVisiting answer at older pieces rest before found seen → IsVisiting answer at older pieces front before new seen
  unfolding leaves
  visiting_one older pieces rest front x before found new seen is made so_far =
      let first : first_answer answer new ≡ option_or (first_answer answer found) (answer x) =
      ap (λ (xs : List S). first_answer answer xs) made ∙ first_append answer found (x ∷ []) ∙ ap (λ (o : Option Bool). option_or (first_answer answer found) o) (first_of_one answer x) in
      let last : last_answer answer (leaves older rest) ≡ option_or (answer x) (last_answer answer (leaves older front)) =
      ap (λ (ps : List (Piece S)). last_answer answer (leaves older ps)) is
      ∙ ap (λ (xs : List S). last_answer answer xs) (leaves_append older front (One x ∷ []))
      ∙ last_append answer (leaves older front) (x ∷ [])
      ∙ ap (λ (o : Option Bool). option_or o (last_answer answer (leaves older front))) (last_of_one answer x) in
      record {
        tells = tells_more answer at seen found new (answer x) first so_far.tells;
        answers = ap (λ (o : Option Bool). option_or o (last_answer answer (leaves older front))) first
            ∙ or_assoc (first_answer answer found) (answer x) (last_answer answer (leaves older front))
            ∙ ap (λ (o : Option Bool). option_or (first_answer answer found) o) (sym last)
            ∙ so_far.answers;
      }

  -- the last piece stands for an effect
  pub visiting_those : (older : ℕ → List S) (pieces rest front : List (Piece S)) (place : ℕ) (before found new : List S) (seen then : List Bool) → rest ≡ front ++ (OfEffect place ∷ [])
      → (Tells answer at seen found → IsVisited answer at (older place) found new then)
      → IsVisiting answer at older pieces rest before found seen → IsVisiting answer at older pieces front before new then
  unfolding leaves
  visiting_those older pieces rest front place before found new seen then is visits so_far =
      let v = visits so_far.tells in
      let last : last_answer answer (leaves older rest) ≡ option_or (last_answer answer (older place)) (last_answer answer (leaves older front)) =
      ap (λ (ps : List (Piece S)). last_answer answer (leaves older ps)) is
      ∙ ap (λ (xs : List S). last_answer answer xs) (leaves_append older front (OfEffect place ∷ []))
      ∙ last_append answer (leaves older front) (older place ++ [])
      ∙ ap (λ (xs : List S). option_or (last_answer answer xs) (last_answer answer (leaves older front))) (append-nil (older place)) in
      record {
        tells = v.tells;
        answers = ap (λ (o : Option Bool). option_or o (last_answer answer (leaves older front))) v.answers
            ∙ or_assoc (first_answer answer found) (last_answer answer (older place)) (last_answer answer (leaves older front))
            ∙ ap (λ (o : Option Bool). option_or (first_answer answer found) o) (sym last)
            ∙ so_far.answers;
      }

  pub visiting_first : (older : ℕ → List S) (pieces : List (Piece S)) (found : List S) (seen : List Bool) → Tells answer at seen found → IsVisiting answer at older pieces pieces found found seen
  visiting_first older pieces found seen tells = record { tells = tells; answers = refl }

  pub visiting_last : (older : ℕ → List S) (pieces rest : List (Piece S)) (before found : List S) (seen : List Bool) → length rest < 1 → IsVisiting answer at older pieces rest before found seen
      → IsVisited answer at (leaves older pieces) before found seen
  unfolding leaves last_answer
  visiting_last older pieces [] before found seen short so_far = record { tells = so_far.tells; answers = sym (or_none (first_answer answer found)) ∙ so_far.answers }
  visiting_last older pieces (p ∷ ps) before found seen short so_far = absurd (omega arith)

-- where nothing was seen or found before
pub all_visited : {S : Type 0} (answer : S → Option Bool) (older : List (Effect S)) (pieces ps : List (Piece S)) (none seen then : List Bool) (before found steps : List S) → before ≡ [] → ps ≡ pieces → seen ≡ none
    → ((k : ℕ) → slice_get none k ≡ Some true → ⊥)
    → ((at : ℕ → List S) → Agrees at older → Tells answer at seen before → IsVisited answer at (leaves (leaves_at steps_of older) ps) before found then)
    → steps ≡ reverse found → last_answer answer steps ≡ last_answer answer (leaves (leaves_at steps_of older) pieces)
unfolding first_answer
all_visited {S} answer older pieces ps none seen then before found steps empty same unseen untold visits made =
    let v = visits (leaves_at steps_of older) (λ place h. refl) (λ k h. absurd (untold k (sym (ap (λ (bs : List Bool). slice_get bs k) unseen) ∙ h))) in
    ap (λ (xs : List S). last_answer answer xs) made
    ∙ turned answer found
    ∙ v.answers
    ∙ ap (λ (xs : List S). option_or (first_answer answer xs) (last_answer answer (leaves (leaves_at steps_of older) ps))) empty
    ∙ ap (λ (qs : List (Piece S)). last_answer answer (leaves (leaves_at steps_of older) qs)) same
