-- What path lists ask answers as they do.
use Rattle.std.proofs.Common.{◌≡◌, refl, ap, ◌∙◌, ℕ, Bool, true, false, inl, inr, List, [], ◌∷◌, ◌++◌, Option, Some, None}
use Rattle.std.specs.Bool.{Decides}
use Rattle.std.proofs.lemmas.Bool.{false_from_ne_true}
use Rattle.path_patterns.specs.Items.{IsPath, BranchMatches, Matches}
use Rattle.path_patterns.specs.PathMatches.{path_matches}
use Rattle.aspath_text.specs.Printing.{PrintsJunos}
use Rattle.path_patterns.specs.declared.items.TokenBranch.{TokenBranch}
use Rattle.path_patterns.specs.declared.items.TokenPattern.{TokenPattern}
use Rattle.aspath_text.proofs.JunosRead.{junos_pattern_only}
use Rattle.path_patterns.proofs.PathMatches.{path_decides}
use Rattle.junos_plans.specs.Conditions.{text_matches, entries_accept, accept_or}
use Rattle.junos_plans.specs.Entries.{branch_matches}
use Rattle.junos_plans.specs.Fits.{FitsText}
use Rattle.junos_plans.specs.declared.condition.PlannedCondition.{PlannedCondition}
use Rattle.junos_plans.specs.declared.condition.PlannedEntry.{PlannedEntry}
use Rattle.junos_plans.proofs.EntryLaws.{same_answers, or_none}

module _ (holds : PlannedCondition → Bool) where
  pub or_behind : (es : List PlannedEntry) (e : PlannedEntry) (later : Bool) → accept_or holds (es ++ e ∷ []) later ≡ accept_or holds es (elim (holds e.condition) [ true ↦ e.permit | false ↦ later ])
  unfolding accept_or
  or_behind [] e later = refl
  or_behind (d ∷ ds) e later = ap (λ (b : Bool). elim (holds d.condition) [ true ↦ d.permit | false ↦ b ]) (or_behind ds e later)

  pub or_nothing : (es : List PlannedEntry) → accept_or holds es false ≡ entries_accept holds es
  unfolding accept_or entries_accept
  or_nothing [] = refl
  or_nothing (d ∷ ds) = ap (λ (b : Bool). elim (holds d.condition) [ true ↦ d.permit | false ↦ b ]) (or_nothing ds)

-- of two tests of which each decides one of two statements that follow from one another
decides_same : {A B : Type 0} (a b : Bool) → Decides a A → Decides b B → (A → B) → (B → A) → a ≡ b
decides_same a b f g there back = same_answers a b (λ e. g.1 (there (f.0 e))) (λ e. f.1 (back (g.0 e)))

-- a branch alone
alone : TokenBranch → TokenPattern
alone b = record { branches = b ∷ [] }

alone_matches : (b : TokenBranch) (path : List ℕ) → path_matches (alone b) path ≡ branch_matches b path
unfolding path_matches alone
alone_matches b path = or_none (branch_matches b path)

of_alone : (b : TokenBranch) (path : List ℕ) → Matches (alone b) path → BranchMatches b path
unfolding alone
of_alone b path (inl m) = m
of_alone b path (inr m) = absurd m

to_alone : (b : TokenBranch) (path : List ℕ) → BranchMatches b path → Matches (alone b) path
unfolding alone
to_alone b path m = inl m

-- a branch without a text matches no path
pub no_path : (b : TokenBranch) → PrintsJunos b None → (path : List ℕ) → IsPath path → branch_matches b path ≡ false
no_path b h path is = false_from_ne_true (branch_matches b path) (λ e. h path is (of_alone b path ((path_decides (alone b) path).0 (alone_matches b path ∙ e))))

-- the text of a branch matches the paths that the branch does
pub branch_said : (b : TokenBranch) (text : List ℕ) → PrintsJunos b (Some text) → (path : List ℕ) → IsPath path → text_matches text path ≡ branch_matches b path
branch_said b text h path is =
    let p : TokenPattern = h.1.0 in
    ap (λ (o : Option TokenPattern). elim o [ None ↦ false | Some q ↦ path_matches q path ]) (junos_pattern_only text p h.1.1)
    ∙ decides_same (path_matches p path) (path_matches (alone b) path) (path_decides p path) (path_decides (alone b) path)
    (λ m. to_alone b path ((h.1.2 path is).0 m)) (λ m. (h.1.2 path is).1 (of_alone b path m))
    ∙ alone_matches b path

-- and spells a pattern
pub text_fits : (b : TokenBranch) (text : List ℕ) → PrintsJunos b (Some text) → FitsText text
text_fits b text h = (h.1.0, junos_pattern_only text h.1.0 h.1.1)
