use Rattle.std.proofs.Common.{◌∙◌, ◌||◌, ◌∷◌, [], ap, sym, subst, ℕ, Bool, List, Some}
use Rattle.std.specs.Prelude.{option_map}
use Rattle.std.specs.List.{list_any, AllByRecursion}
use Rattle.std.proofs.lemmas.List.Folds.{list_any-append}
use Rattle.aspath_text.specs.Printing.{PrintsJunos}
use Rattle.junos_plans.specs.Conditions.{text_matches}
use Rattle.junos_plans.specs.Fits.{FitsText}
use Rattle.junos_plans.proofs.EntryLaws.{or_none}
use Rattle.junos_plans.proofs.FitLaws.{all_with}
use Rattle.junos_plans.proofs.PathLaws.{no_path, branch_said, text_fits}
use Rattle.junos_plans.proofs.paths.push_branch.Goals as goal

pub returns-in-None-clause-holds : goal.returns-in-None-clause-holds
returns-in-None-clause-holds c path is =
    sym (or_none (list_any (λ t. text_matches t path) c.args.texts.now))
    ∙ ap (λ (b : Bool). list_any (λ t. text_matches t path) c.args.texts.now || b)
    (sym (no_path c.args.branch.now (subst (λ o. PrintsJunos c.args.branch.now (option_map (λ t. t.items) o)) c.in-None.is c.in_ok-print_junos.ensures) path is))

pub returns-in_ok-push-in-Some-clause-fits : goal.returns-in_ok-push-in-Some-clause-fits
returns-in_ok-push-in-Some-clause-fits c before =
    let prints : PrintsJunos c.args.branch.now (option_map (λ t. t.items) (Some c.in-Some.text)) = subst (λ o. PrintsJunos c.args.branch.now (option_map (λ t. t.items) o)) c.in-Some.is c.in_ok-print_junos.ensures in
    subst (λ (ts : List (List ℕ)). AllByRecursion FitsText ts) (sym c.in_ok-push-in-Some.ensures)
    (all_with FitsText c.args.texts.now c.from_vec.result before (subst FitsText (sym c.from_vec.ensures) (text_fits c.args.branch.now c.in-Some.text.items prints)))

pub returns-in_ok-push-in-Some-clause-holds : goal.returns-in_ok-push-in-Some-clause-holds
returns-in_ok-push-in-Some-clause-holds c path is =
    let prints : PrintsJunos c.args.branch.now (option_map (λ t. t.items) (Some c.in-Some.text)) = subst (λ o. PrintsJunos c.args.branch.now (option_map (λ t. t.items) o)) c.in-Some.is c.in_ok-print_junos.ensures in
    ap (λ (ts : List (List ℕ)). list_any (λ t. text_matches t path) ts) c.in_ok-push-in-Some.ensures
    ∙ list_any-append (λ t. text_matches t path) c.args.texts.now (c.from_vec.result ∷ [])
    ∙ ap (λ (b : Bool). list_any (λ t. text_matches t path) c.args.texts.now || b)
    (or_none (text_matches c.from_vec.result path)
    ∙ ap (λ (t : List ℕ). text_matches t path) c.from_vec.ensures
    ∙ branch_said c.args.branch.now c.in-Some.text.items prints path is)
