-- The lines of all patterns say what the patterns say.
use Rattle.std.proofs.Common.{◌≡◌, refl, ap, ◌∙◌, ℕ, zero, suc, ◌+◌, ◌<◌, Bool, false, ◌&&◌, ◌||◌, ◌==◌, List, [], ◌∷◌, map, Some, slice_get, arith, ne_eqb}
use Rattle.std.specs.List.{list_any}
use Rattle.std.proofs.lemmas.Bool.{eq-eqb}
use Rattle.std.proofs.lemmas.List.Folds.{list_any-append}
use Rattle.std.proofs.lemmas.Option.{same_Some}
use Rattle.path_patterns.specs.Items.{Takes, takes_of}
use Rattle.path_patterns.specs.PathMatches.{whole_path, path_matches}
use Rattle.path_patterns.specs.declared.items.TokenBranch.{TokenBranch}
use Rattle.path_patterns.specs.declared.items.TokenPattern.{TokenPattern}
use Rattle.path_classes.specs.Lines.{branch_view, line_view, views_from}
use Rattle.path_classes.specs.States.{view_says, lines_say}
use Rattle.path_classes.specs.declared.lines.Line.{Line}
use Rattle.path_classes.proofs.ThreadLaws.{or_none, and_none, and_each}

module _ (k : ℕ) (path : List ℕ) where
  abbrev view_test : ℕ × List Takes → Bool
  view_test v = view_says k path v

  branches_same : (i : ℕ) (bs : List TokenBranch) → list_any view_test (map (branch_view i) bs) ≡ ((i == k) && list_any (λ b. whole_path (map takes_of b.items) path) bs)
  branches_same i [] = and_none (i == k)
  branches_same i (b ∷ bs) =
      ap (λ (c : Bool). ((i == k) && whole_path (map takes_of b.items) path) || c) (branches_same i bs)
      ∙ and_each (i == k) (whole_path (map takes_of b.items) path) (list_any (λ d. whole_path (map takes_of d.items) path) bs)

  -- another pattern says nothing
  branches_apart : (i : ℕ) (bs : List TokenBranch) → (i ≡ k → ⊥) → list_any view_test (map (branch_view i) bs) ≡ false
  branches_apart i bs apart = branches_same i bs ∙ ap (λ (c : Bool). c && list_any (λ d. whole_path (map takes_of d.items) path) bs) (ne_eqb i k apart)

  views_apart : (i : ℕ) (ps : List TokenPattern) → k < i → list_any view_test (views_from i ps) ≡ false
  unfolding views_from
  views_apart i [] less = refl
  views_apart i (p ∷ ps) less =
      list_any-append view_test (map (branch_view i) p.branches) (views_from (suc i) ps)
      ∙ (λ x. branches_apart i p.branches (λ e. omega arith) x || views_apart (suc i) ps (omega arith) x)

  views_same : (i m : ℕ) (ps : List TokenPattern) (p : TokenPattern) → k ≡ i + m → slice_get ps m ≡ Some p → list_any view_test (views_from i ps) ≡ path_matches p path
  unfolding views_from path_matches
  views_same i m [] p at e = absurd cc
  views_same i zero (q ∷ ps) p at e =
      list_any-append view_test (map (branch_view i) q.branches) (views_from (suc i) ps)
      ∙ (λ x. (branches_same i q.branches ∙ ap (λ (c : Bool). c && list_any (λ d. whole_path (map takes_of d.items) path) q.branches) (eq-eqb i k (omega arith))) x || views_apart (suc i) ps (omega arith) x)
      ∙ or_none (list_any (λ d. whole_path (map takes_of d.items) path) q.branches)
      ∙ ap (λ (r : TokenPattern). list_any (λ d. whole_path (map takes_of d.items) path) r.branches) (same_Some q p e)
  views_same i (suc m) (q ∷ ps) p at e =
      list_any-append view_test (map (branch_view i) q.branches) (views_from (suc i) ps)
      ∙ (λ x. branches_apart i q.branches (λ f. omega arith) x || views_same (suc i) m ps p (omega arith) e x)

pub lines_match : (patterns : List TokenPattern) (lines : List Line) (j : ℕ) (pattern : TokenPattern) (path : List ℕ) → map line_view lines ≡ views_from 0 patterns → slice_get patterns j ≡ Some pattern
    → lines_say lines j path ≡ path_matches pattern path
lines_match patterns lines j pattern path views at =
    ap (λ (vs : List (ℕ × List Takes)). list_any (λ v. view_says j path v) vs) views ∙ views_same j path 0 j patterns pattern (omega arith) at
