-- The walk over the statements of a policy as they stand in the text: the branch in which it stands runs, or it
-- looks for the next branch or for the end of an `if`.
use Rattle.std.specs.Prelude.{List, ◌∷◌, ◌||◌, drop}
use Rattle.route_types.specs.Route.{RouteParts}
use Rattle.route_types.specs.declared.route.Outcome.TheVariants.{Reject, Accept}
use Rattle.rpl_tree.specs.Nesting.{Steps, Level, Rest, innermost, outer}
use Rattle.rpl_meaning.specs.Meaning.{State, Fate, Goes, Ends, then_on, run_levels, run_rest}
use Rattle.rpl_meaning.specs.declared.walk.Mode.{Mode}
use Rattle.rpl_meaning.specs.declared.walk.Mode.TheVariants.{Running, Seeking, Leaving}
use Rattle.rpl_meaning.specs.Communities.{stepped}
use Rattle.rpl_meaning.specs.declared.communities.CommunityStep.{CommunityStep}
use Rattle.rpl_effects.specs.Changes.{route_behind}
use Rattle.rpl_effects.specs.declared.effect.Changes.{Changes}
use Rattle.rpl_effects.specs.declared.effect.Run.{Run as RunBy}
use Rattle.rpl_effects.specs.declared.effect.Effect.{Effect}
use Rattle.rpl_effects.specs.declared.effect.Effect.TheVariants.{GoesOn, Accepted, Rejected}

-- behind the innermost of open `if`s, and then behind the others
abbrev pub left : (Steps → State → Fate) → List Level → State → Fate
left go ls s = run_levels go (innermost ls ∷ outer ls) s

-- the next branch of the innermost, and then behind it and the others
abbrev pub sought : (Steps → State → Fate) → List Level → State → Fate
sought go ls s = then_on (left go ls) (go (innermost ls).other s)

-- what is left to run, where so many `if`s that are passed over are open
abbrev pub chosen : (Steps → State → Fate) → Mode → Rest → State → Fate
chosen go Running r s = run_rest go r s
chosen go (Seeking over) r s = sought go (drop over r.around) s
chosen go (Leaving over) r s = left go (drop over r.around) s

-- a run of the code, and what it comes to
abbrev pub Run : Type 0
Run = RunBy CommunityStep

abbrev pub Ending : Type 0
Ending = Effect CommunityStep

-- where a policy starts to run: the effects that its own changes stand for, and how the run stood before it
pub record Start : Type 0 where
  pub table : List Ending
  pub state : State

-- the route that changes leave
abbrev pub route_at : Start → Changes CommunityStep → RouteParts
route_at p c = route_behind stepped p.table c p.state.route

-- what a run of the code stands for, where the policy starts so
abbrev pub state_of : Start → Run → State
state_of p r = record { ticket = r.ticket || p.state.ticket; route = route_at p r.changes }

-- and how it ended
abbrev pub fate_of : Start → Ending → Fate
fate_of p (GoesOn r) = Goes (state_of p r)
fate_of p (Accepted c) = Ends (Accept (route_at p c))
fate_of p Rejected = Ends Reject
