-- How the terms of a policy end, by the route that a run has collected.
use Rattle.route_types.specs.Address.{PrefixParts}
use Rattle.route_types.specs.declared.route.Outcome.TheVariants.{Reject, Accept}
use Rattle.route_drafts.specs.Drafts.{route_of}
use Rattle.junos_tree.specs.declared.item.JunosForm.{JunosForm}
use Rattle.std.specs.Prelude.{List}
use Rattle.junos_meaning.specs.Meaning.{Fate, Goes, Ends}
use Rattle.junos_meaning.specs.Subroutines.{KnownAnswers, AreRight}
use Rattle.junos_meaning.specs.declared.judge.Ending.{Ending}
use Rattle.junos_meaning.specs.declared.judge.Ending.TheVariants.{GoesOn, Accepted, Rejected}

-- how terms end, on a route of this prefix
abbrev pub fate_of : PrefixParts → Ending → Fate
fate_of p (GoesOn d) = Goes (route_of p d)
fate_of p (Accepted d) = Ends (Accept (route_of p d))
fate_of p Rejected = Ends Reject

-- where the chain goes on, the answers that are known are right for the route as it stands then
abbrev pub StayRight : KnownAnswers → List JunosForm → PrefixParts → Ending → Type 0
StayRight m all p (GoesOn d) = AreRight m all (route_of p d)
StayRight m all p _ = Unit {0}
