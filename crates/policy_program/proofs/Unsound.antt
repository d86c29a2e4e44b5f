-- What is told of a file that does not load refuses it.
use Rattle.std.proofs.Common.{inl, inr, sym, ap, ℕ, List, [], ◌∷◌, Some, Err}
use Rattle.policy_sources.specs.Source.{Taken, Broken, NoPolicy, Outside, ios_source}
use Rattle.policy_sources.specs.Loading.{FailsToLoad}
use Rattle.policy_sources.specs.declared.loads.LoadFault.{LoadFault}
use Rattle.policy_sources.specs.declared.loads.LoadFault.TheVariants as unloaded
use Rattle.policy_request.specs.Words.{TranslateParts, Translate}
use Rattle.policy_request.specs.declared.language.Language.{Language}
use Rattle.policy_request.specs.declared.language.Language.TheVariants.{Ios, Rpl}
use Rattle.ios_reader.specs.Profile.{all_forms}
use Rattle.policy_program.specs.Answer.{Told}
use Rattle.policy_program.specs.Requests.{PolicyFile}
use Rattle.policy_program.specs.Layers.{TellsLoad, TellsTranslation, FailsToTranslate, RefusesUnsound, AnswersOn}
use Rattle.policy_program.specs.declared.translation.TranslateFault.{TranslateFault}
use Rattle.policy_program.specs.declared.translation.TranslateFault.TheVariants as untranslated
use Rattle.policy_program.specs.declared.refusal.Fault.{Fault}
use Rattle.policy_program.specs.declared.refusal.Fault.TheVariants.{Refused, Memory}

pub unsound : (taken : Taken) (file : List ℕ) (language : Language) (names : List (List ℕ)) (text : List ℕ) (fault : LoadFault) (about : Fault)
    → FailsToLoad taken (record { language = language; names = names; text = text }) fault → TellsLoad file names text fault about → RefusesUnsound taken (PolicyFile file language names) text about
unsound taken file language names text (unloaded.Broken span kind) (Refused r) fails tells = (tells.0, (Broken span kind, fails, ap (λ (t : Told). Some t) (sym tells.1)))
unsound taken file language names text (unloaded.NoPolicy place) (Refused r) fails tells = (tells.0, (NoPolicy place, fails, ap (λ (t : Told). Some t) (sym tells.1)))
unsound taken file language names text (unloaded.Outside span cause) (Refused r) fails tells = (tells.0, (Outside span cause, fails, ap (λ (t : Told). Some t) (sym tells.1)))
unsound taken file language names text unloaded.Memory (Refused r) fails tells = absurd cc
unsound taken file language names text fault Memory fails tells = tt

-- a fault of the load of a source of translate is its answer
load_refused : (t : TranslateParts) (text : List ℕ) (fault : LoadFault) (about : Fault) → FailsToLoad all_forms (ios_source t.policy text) fault
    → TellsLoad t.file (t.policy ∷ []) text fault about → AnswersOn (Translate t) (text ∷ []) (Err about)
load_refused t text fault (Refused r) fails tells = inl (inl (unsound all_forms t.file Ios (t.policy ∷ []) text fault (Refused r) fails tells))
load_refused t text fault Memory fails tells = tt

-- and so is any other fault of a translation
pub translate_refused : (t : TranslateParts) (text : List ℕ) (fault : TranslateFault) (about : Fault) → FailsToTranslate (ios_source t.policy text) Rpl fault
    → TellsTranslation t.file (t.policy ∷ []) text Rpl fault about → AnswersOn (Translate t) (text ∷ []) (Err about)
translate_refused t text (untranslated.Broken span kind) about fails tells = load_refused t text (unloaded.Broken span kind) about fails tells
translate_refused t text (untranslated.NoPolicy place) about fails tells = load_refused t text (unloaded.NoPolicy place) about fails tells
translate_refused t text (untranslated.Outside span cause) about fails tells = load_refused t text (unloaded.Outside span cause) about fails tells
translate_refused t text untranslated.Memory about fails tells = load_refused t text unloaded.Memory about tt tells
translate_refused t text (untranslated.Inexpressible span kind) Memory fails tells = tt
translate_refused t text (untranslated.Inexpressible span kind) (Refused r) fails tells =
    inr (tells.0, record { policy = fails.0; loads = fails.1; missing = record { kind = kind; span = span }; lacks = fails.2; is = tells.1 })
