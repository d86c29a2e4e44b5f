use Rattle.std.proofs.Common.{◌≡◌, ◌∙◌, ◌++◌, ◌∷◌, [], ap, sym, subst, ℕ, List, Some}
use Rattle.std.specs.Prelude.{option_map}
use Rattle.std.specs.List.{list_any, AllByRecursion}
use Rattle.aspath_text.specs.Printing.{PrintsIos}
use Rattle.rpl_plans.specs.Fits.{FitsText}
use Rattle.rpl_plans.specs.Holds.{text_finds}
use Rattle.rpl_plans.proofs.PathLaws.{no_path, path_said, text_fits}
use Rattle.rpl_plans.proofs.paths.path_test.Goals as goal

pub returns-in-None-clause-says : goal.returns-in-None-clause-says
returns-in-None-clause-says c path is = no_path c.args.pattern.now (subst (λ o. PrintsIos c.args.pattern.now (option_map (λ t. t.items) o)) c.in-None.is c.in_ok-print_ios.ensures) path is

pub returns-in_ok-push-in-Some : goal.returns-in_ok-push-in-Some
returns-in_ok-push-in-Some c =
    let texts_are : c.push.new.self ≡ c.in-Some.text.items ∷ [] =
    c.in_ok-push-in-Some.ensures
    ∙ ap (λ (xs : List (List ℕ)). xs ++ c.from_vec.result ∷ []) c.new-texts.ensures
    ∙ ap (λ (t : List ℕ). t ∷ []) c.from_vec.ensures in
    let prints : PrintsIos c.args.pattern.now (option_map (λ t. t.items) (Some c.in-Some.text)) = subst (λ o. PrintsIos c.args.pattern.now (option_map (λ t. t.items) o)) c.in-Some.is c.in_ok-print_ios.ensures in
    record {
      says = λ r is.
          ap (λ (ts : List (List ℕ)). list_any (λ t. text_finds t r.path) ts) texts_are
          ∙ path_said c.args.pattern.now c.in-Some.text.items prints r is;
      fits = subst (λ (ts : List (List ℕ)). AllByRecursion FitsText ts) (sym texts_are) (text_fits c.args.pattern.now c.in-Some.text.items prints, tt);
    }
