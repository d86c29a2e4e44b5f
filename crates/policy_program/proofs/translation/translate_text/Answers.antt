-- what is told of a policy that is not translated is the answer
use Rattle.std.proofs.Common.{ℕ, List, [], ◌∷◌, subst}
use Rattle.policy_request.specs.Words.{translate_view}
use Rattle.policy_request.specs.declared.language.Language.TheVariants.{Rpl}
use Rattle.policy_sources.specs.Source.{ios_source}
use Rattle.policy_program.specs.Layers.{FailsToTranslate, TellsTranslation}
use Rattle.policy_program.proofs.Unsound.{translate_refused}
use Rattle.policy_program.proofs.translation.translate_text.Goals as goal

pub returns-in-Err : goal.returns-in-Err
returns-in-Err c =
    translate_refused (translate_view c.args.asked.now) c.args.text.now c.in-Err.fault c.refused_translation.result
    (subst (λ (policy : List ℕ). FailsToTranslate (ios_source policy c.args.text.now) Rpl c.in-Err.fault) c.as_bytes.ensures.value c.in-Err.ensures)
    (subst (λ (policy : List ℕ). TellsTranslation c.args.asked.now.file.now (policy ∷ []) c.args.text.now Rpl c.in-Err.fault c.refused_translation.result) c.as_bytes-in-Err.ensures.value c.refused_translation.ensures)
