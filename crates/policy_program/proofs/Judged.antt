-- What was judged on a loaded policy is the answer of judge, and so is what is told of a file.
use Rattle.std.proofs.Common.{inl, inr, refl, ℕ, List, [], ◌∷◌, Err}
use Rattle.route_types.specs.Route.{RouteParts}
use Rattle.route_types.specs.RouteText.{SpellsRoute, IsFirstBadLine}
use Rattle.ios_reader.specs.Profile.{all_forms}
use Rattle.policy_sources.specs.Source.{Policy, Loaded, Loads, source_in}
use Rattle.policy_program.specs.Results.{IsJudgement}
use Rattle.policy_program.specs.Answer.{SpellsNoRoute, Refusal}
use Rattle.policy_request.specs.Words.{JudgeParts, Judge}
use Rattle.policy_program.specs.Requests.{RightAnswer, judged_file}
use Rattle.policy_program.specs.Layers.{AnswersOn, RefusesUnsound, TellsOutcome}
use Rattle.policy_request.specs.declared.language.Language.{Language}
use Rattle.policy_program.specs.declared.refusal.Fault.{Fault}
use Rattle.policy_program.specs.declared.refusal.Fault.TheVariants.{Refused, Memory}

pub judged : (language : Language) (source word route_text text : List ℕ) (policy : Policy) (r : RouteParts) → Loads all_forms (source_in language word source) (Loaded policy)
    → SpellsRoute route_text r → TellsOutcome policy r text → IsJudgement (source_in language word source) route_text text
judged language source word route_text text policy r loads spelled tells = record { policy = policy; loads = loads; route = r; spelled = spelled; is = tells }

pub no_route : (j : JudgeParts) (source route_text : List ℕ) (policy : Policy) (line : ℕ) → Loads all_forms (source_in j.language j.policy source) (Loaded policy) → IsFirstBadLine route_text line
    → RightAnswer (Judge j) (source ∷ route_text ∷ []) (Refusal j.route_file (SpellsNoRoute line))
no_route j source route_text policy line loads first = inl (inr ((policy, loads), inl (refl, (line, refl, first))))

pub unsound_first : (j : JudgeParts) (source route_text : List ℕ) (about : Fault) → RefusesUnsound all_forms (judged_file j) source about → AnswersOn (Judge j) (source ∷ route_text ∷ []) (Err about)
unsound_first j source route_text (Refused r) refuses = inl (inl refuses)
unsound_first j source route_text Memory refuses = tt
