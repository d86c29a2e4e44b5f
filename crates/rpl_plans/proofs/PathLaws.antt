-- What path lists ask answers as they do.
use Rattle.std.proofs.Common.{◌≡◌, refl, ap, ◌∙◌, ℕ, Bool, true, false, ◌||◌, List, [], ◌∷◌, ◌++◌, Option, Some, None}
use Rattle.std.specs.Bool.{Decides}
use Rattle.std.specs.List.{list_any}
use Rattle.std.proofs.lemmas.Bool.{false_from_ne_true}
use Rattle.path_patterns.specs.Finds.{finds_in}
use Rattle.path_patterns.specs.Items.{IsPath}
use Rattle.path_patterns.specs.PathMatches.{path_matches}
use Rattle.aspath_text.specs.Printing.{PrintsIos}
use Rattle.path_patterns.specs.declared.items.TokenPattern.{TokenPattern}
use Rattle.path_patterns.specs.declared.pattern.IosBranch.{IosBranch}
use Rattle.route_types.specs.Route.{RouteParts}
use Rattle.rpl_plans.specs.Choices.{first_choice, first_or}
use Rattle.rpl_plans.specs.Fits.{FitsText}
use Rattle.rpl_plans.specs.Holds.{text_finds}
use Rattle.rpl_plans.specs.declared.choice.Choice.{Choice}
use Rattle.rpl_plans.specs.declared.test.PlannedTest.{PlannedTest}
use Rattle.path_patterns.proofs.FindsFound.{finds_in_decides}
use Rattle.aspath_text.proofs.IosReadSpelled.{ios_pattern_only}
use Rattle.path_patterns.proofs.PathMatches.{path_decides}
use Rattle.rpl_plans.proofs.EntryLaws.{same_answers}

module _ (holds : PlannedTest → Bool) where
  pub or_behind : (cs : List Choice) (c : Choice) (later : Bool) → first_or holds (cs ++ c ∷ []) later ≡ first_or holds cs (elim (holds c.test) [ true ↦ c.permit | false ↦ later ])
  unfolding first_or
  or_behind [] c later = refl
  or_behind (d ∷ ds) c later = ap (λ (b : Bool). elim (holds d.test) [ true ↦ d.permit | false ↦ b ]) (or_behind ds c later)

  pub or_nothing : (cs : List Choice) → first_or holds cs false ≡ first_choice holds cs
  unfolding first_or first_choice
  or_nothing [] = refl
  or_nothing (d ∷ ds) = ap (λ (b : Bool). elim (holds d.test) [ true ↦ d.permit | false ↦ b ]) (or_nothing ds)

-- of two tests of which each decides one of two statements that follow from one another
decides_same : {A B : Type 0} (a b : Bool) → Decides a A → Decides b B → (A → B) → (B → A) → a ≡ b
decides_same a b f g there back = same_answers a b (λ e. g.1 (there (f.0 e))) (λ e. f.1 (back (g.0 e)))

decides_not : {A : Type 0} (a : Bool) → Decides a A → (A → ⊥) → a ≡ false
decides_not a f no_one = false_from_ne_true a (λ e. no_one (f.0 e))

or_none : (b : Bool) → (b || false) ≡ b
or_none true = refl
or_none false = refl

-- a pattern without a text matches no path
pub no_path : (p : TokenPattern) → PrintsIos p None → (path : List ℕ) → IsPath path → path_matches p path ≡ false
no_path p h path is = decides_not (path_matches p path) (path_decides p path) (λ m. h path is m)

-- the text of a pattern is found in the paths that it matches
pub path_said : (p : TokenPattern) (text : List ℕ) → PrintsIos p (Some text) → (r : RouteParts) → IsPath r.path → list_any (λ t. text_finds t r.path) (text ∷ []) ≡ path_matches p r.path
path_said p text h r is =
    let bs : List IosBranch = h.1.0 in
    or_none (text_finds text r.path)
    ∙ ap (λ (o : Option (List IosBranch)). elim o [ None ↦ false | Some q ↦ finds_in q r.path ]) (ios_pattern_only text bs h.1.1)
    ∙ decides_same (finds_in bs r.path) (path_matches p r.path) (finds_in_decides bs r.path) (path_decides p r.path) (λ f. (h.1.2 r.path is).0 f) (λ m. (h.1.2 r.path is).1 m)

-- and spells a pattern
pub text_fits : (p : TokenPattern) (text : List ℕ) → PrintsIos p (Some text) → FitsText text
text_fits p text h = (h.1.0, ios_pattern_only text h.1.0 h.1.1)
