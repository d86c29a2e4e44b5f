-- The forms of planned steps that fit may be written.
use Rattle.std.proofs.Common.{refl, ℕ, List, [], ◌∷◌, ◌++◌, arith, None}
use Rattle.std.specs.Prelude.{codes}
use Rattle.text_words.specs.declared.rpl_blocks.BlockKind.TheVariants.{PrefixSet as PrefixBlock, CommunitySet as CommunityBlock, PathSet as PathBlock}
use Rattle.rpl_forms.specs.declared.item.Header.TheVariants.{PrefixSet, CommunitySet, PathSet, Policy}
use Rattle.rpl_forms.specs.declared.item.RplForm.{RplForm}
use Rattle.rpl_forms.specs.declared.item.RplForm.TheVariants.{Header as OfHeader, End}
use Rattle.rpl_plans.specs.Fits.{FitsSteps}
use Rattle.rpl_plans.specs.declared.step.PlannedStep.{PlannedStep}
use Rattle.rpl_layout.specs.Forms.{PlannedSets, HasFew, prefix_name, community_name, path_name, prefix_elements, community_elements, path_elements, community_blocks, path_blocks, forms_of}
use Rattle.rpl_layout.specs.Guards.{Writing}
use Rattle.rpl_layout.specs.Sharing.{Tells, sets_of, written_by}
use Rattle.rpl_layout.specs.Statements.{steps_forms}
use Rattle.rpl_text.specs.Written.{HeadsBlock, MayStand, MayBeWritten}
use Rattle.rpl_writable.proofs.NameLaws.{set_heads}
use Rattle.rpl_writable.proofs.SetLaws.{prefixes_fit, communities_fit, paths_fit, blocks_stand}
use Rattle.rpl_writable.proofs.StepLaws.{test_written, steps_stand}

pub plan_writable : (tells : Tells) (name : List ℕ) (steps : List PlannedStep) → HeadsBlock name → HasFew (sets_of tells steps) → FitsSteps steps
    → MayBeWritten (forms_of name (sets_of tells steps) (written_by tells name (sets_of tells steps)) steps)
unfolding MayStand
plan_writable tells name steps heads few fits =
    let sets : PlannedSets = sets_of tells steps in
    let written : Writing = written_by tells name sets in
    let policy : List RplForm = OfHeader (Policy (record { name = name; parameters = [] })) ∷ (steps_forms written steps ++ End ∷ []) in
    let last : MayStand None [] policy = ((heads, tt), steps_stand written (test_written tells name sets heads few) steps (End ∷ []) fits tt) in
    blocks_stand PrefixBlock (λ n. PrefixSet (prefix_name name n)) prefix_elements (λ n. refl) (set_heads name (codes "-p") heads refl refl) 0 sets.prefixes (community_blocks name sets.communities ++ (path_blocks name sets.paths ++ policy)) (omega (arith, few.prefixes)) (prefixes_fit tells steps fits)
    (blocks_stand CommunityBlock (λ n. CommunitySet (community_name name n)) community_elements (λ n. refl) (set_heads name (codes "-c") heads refl refl) 0 sets.communities (path_blocks name sets.paths ++ policy) (omega (arith, few.communities)) (communities_fit tells steps fits)
    (blocks_stand PathBlock (λ n. PathSet (path_name name n)) path_elements (λ n. refl) (set_heads name (codes "-a") heads refl refl) 0 sets.paths policy (omega (arith, few.paths)) (paths_fit tells steps fits) last))
