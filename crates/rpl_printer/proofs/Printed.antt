-- The text of the forms of a plan prints the steps that were planned.
use Rattle.std.proofs.Common.{◌≡◌, refl, sym, ap, subst, ◌∙◌, ℕ, List, Option, Some, None}
use Rattle.std.specs.Prelude.{option_map}
use Rattle.std.specs.List.{AllByRecursion}
use Rattle.std.proofs.lemmas.Option.{same_Some}
use Rattle.route_types.specs.Route.{RouteParts, InRange}
use Rattle.text_words.specs.RplCut.{rpl_cut}
use Rattle.policy_core.specs.Guards.{outcome_of}
use Rattle.policy_core.specs.declared.step.Step.{Step}
use Rattle.rpl_forms.specs.declared.item.RplForm.{RplForm}
use Rattle.rpl_forms.specs.declared.item.RplItem.{RplItem}
use Rattle.rpl_tree.specs.Tree.{forms, rpl_tree}
use Rattle.rpl_meaning.specs.Meaning.{rpl_meaning}
use Rattle.rpl_plans.specs.Fits.{FitsSteps}
use Rattle.rpl_plans.specs.Holds.{planned_holds}
use Rattle.rpl_plans.specs.Plans.{planned_outcome}
use Rattle.rpl_plans.specs.declared.step.PlannedStep.{PlannedStep}
use Rattle.rpl_layout.specs.Forms.{HasFew, NamesItsSets, forms_of}
use Rattle.rpl_layout.specs.Sharing.{sets_of, written_by}
use Rattle.rpl_layout.proofs.InProfile.{plan_in_profile}
use Rattle.rpl_layout.proofs.Meaning.{plan_means}
use Rattle.rpl_layout.proofs.Sharing.{names_sets}
use Rattle.rpl_text.specs.Blocks.{block_names, names_of}
use Rattle.rpl_text.specs.Written.{HeadsBlock, MayBeWritten}
use Rattle.rpl_policies.specs.Own.{own}
use Rattle.rpl_writable.specs.Names.{IsOwnName}
use Rattle.rpl_writable.proofs.OwnNames.{own_names}
use Rattle.rpl_writable.proofs.Writable.{plan_writable}
use Rattle.rpl_printer.specs.Printed.{SaySteps, Prints}

-- the forms of planned steps, each set by its equality
abbrev pub planned_forms : List ℕ → List PlannedStep → List RplForm
planned_forms name steps = forms_of name (sets_of own steps) (written_by own name (sets_of own steps)) steps

-- a tree that says some forms is there
tree_of : (o : Option (List RplItem)) (fs : List RplForm) → option_map forms o ≡ Some fs → (items : List RplItem) × (o ≡ Some items) × (forms items ≡ fs)
tree_of None fs e = absurd cc
tree_of (Some items) fs e = (items, refl, same_Some (forms items) fs e)

-- forms are those of planned steps, and their sets can be counted
pub record AreForms (name : List ℕ) (steps : List PlannedStep) (fs : List RplForm) : Type 0 where
  pub few : HasFew (sets_of own steps)
  pub are : fs ≡ planned_forms name steps

-- the same of steps that are lent
pub lent_forms : (name : List ℕ) (steps lent : List PlannedStep) (fs : List RplForm) → lent ≡ steps → HasFew (sets_of own lent) → fs ≡ planned_forms name lent → AreForms name steps fs
lent_forms name steps lent fs same few are = record {
  few = subst (λ (ss : List PlannedStep). HasFew (sets_of own ss)) same few;
  are = are ∙ ap (planned_forms name) same;
}

-- the forms of planned steps that fit say the steps that were planned
pub forms_say : (name : List ℕ) (steps : List Step) (planned : List PlannedStep) (fs : List RplForm) → HeadsBlock name → FitsSteps planned
    → ((r : RouteParts) → InRange r → planned_outcome (planned_holds r) planned r ≡ outcome_of steps r) → AreForms name planned fs → SaySteps name steps fs
forms_say name steps planned fs heads fit same is =
    let named : NamesItsSets name (sets_of own planned) (written_by own name (sets_of own planned)) planned = names_sets own name planned is.few in
    record {
      written = subst MayBeWritten (sym is.are) (plan_writable own name planned heads is.few fit);
      profile = λ items says.
          plan_in_profile name (sets_of own planned) (written_by own name (sets_of own planned)) planned items (says ∙ is.are) named.few named.writes;
      meaning = λ r range.
          ap (λ (gs : List RplForm). rpl_meaning gs name r) is.are
          ∙ plan_means name (sets_of own planned) (written_by own name (sets_of own planned)) planned named.few named.writes r range
          ∙ same r range;
      own =
          subst (λ (gs : List RplForm). AllByRecursion (IsOwnName name) (names_of gs)) (sym is.are)
          (own_names name (sets_of own planned) (written_by own name (sets_of own planned)) planned);
    }

-- the text of forms that say steps prints them
pub printed : (name text : List ℕ) (steps : List Step) (fs lent : List RplForm) → SaySteps name steps fs → lent ≡ fs → option_map forms (rpl_tree text) ≡ Some lent
    → block_names None (rpl_cut text) ≡ Some (names_of lent) → Prints name steps text
printed name text steps fs lent say same read blocks =
    let found = tree_of (rpl_tree text) lent read in
    let says : forms found.0 ≡ fs = found.2 ∙ same in
    record {
      items = found.0;
      tree = found.1;
      profile = say.profile found.0 says;
      meaning = λ r range. ap (λ (gs : List RplForm). rpl_meaning gs name r) says ∙ say.meaning r range;
      own = record { names = names_of lent; are = blocks; own = subst (λ (gs : List RplForm). AllByRecursion (IsOwnName name) (names_of gs)) (sym same) say.own };
    }
