-- The right result of each verb.
use Rattle.std.specs.Prelude.{◌≡◌, ℕ, List, [], ◌∷◌, ◌++◌, codes}
use Rattle.route_types.specs.Route.{RouteParts, InRange}
use Rattle.route_types.specs.RouteText.{SpellsRoute, route_text}
use Rattle.route_types.specs.declared.route.Outcome.{Outcome}
use Rattle.route_types.specs.declared.route.Outcome.TheVariants.{Reject, Accept}
use Rattle.ios_reader.specs.Profile.{all_forms}
use Rattle.rpl_printer.specs.Own.{TouchesItsOwn}
use Rattle.policy_request.specs.declared.language.Language.{Language}
use Rattle.policy_request.specs.declared.language.Language.TheVariants.{Ios, Junos, Rpl}
use Rattle.policy_sources.specs.Source.{Source, Policy, Loaded, Loads, meaning}
use Rattle.policy_program.specs.Expressible.{IsExpressible}

-- the text touches nothing of others, by its language: each of its statements lies in a block, and each block is of the
-- name or stands under it with `-` and more behind it; RPL is all that is written yet
abbrev pub IsOwn : Language → List ℕ → List ℕ → Type 0
IsOwn Ios name text = ⊥
IsOwn Junos name text = ⊥
IsOwn Rpl name text = TouchesItsOwn name text

-- The text is a right translation of a source into a language, under a new name: the source loads as a policy, each construct
-- of which the table grants to the language; the text loads under the name, for every route in range both policies make the
-- same of it, and it touches nothing of others.
pub record IsTranslation (source : Source) (to : Language) (name text : List ℕ) : Type 0 where
  pub policy : Policy
  pub loads : Loads all_forms source (Loaded policy)
  pub granted : IsExpressible policy to
  pub written : Policy
  pub reads : Loads all_forms (record { language = to; names = name ∷ []; text = text }) (Loaded written)
  pub same : (r : RouteParts) → InRange r → meaning written r ≡ meaning policy r
  pub own : IsOwn to name text

-- the text of an outcome: `reject`, or `accept` and the eight lines of the route
abbrev pub outcome_text : Outcome → List ℕ
outcome_text Reject = codes "reject\n"
outcome_text (Accept r) = codes "accept\n" ++ route_text r

-- the text says what the policy of the source makes of the route that the route file spells
pub record IsJudgement (source : Source) (route_file text : List ℕ) : Type 0 where
  pub policy : Policy
  pub loads : Loads all_forms source (Loaded policy)
  pub route : RouteParts
  pub spelled : SpellsRoute route_file route
  pub is : text ≡ outcome_text (meaning policy route)
