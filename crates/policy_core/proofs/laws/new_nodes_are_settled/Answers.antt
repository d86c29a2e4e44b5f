use Rattle.policy_core.proofs.SettledLaws.{settled_grown, untested_grown, test_settled, act_untested, act_settled, stop_settled, untested_stop}
use Rattle.policy_core.proofs.laws.new_nodes_are_settled.Goals as goal

pub returns-clause-test : goal.returns-clause-test
returns-clause-test c old new a met other p below_met below_other keeps made first second =
    test_settled new p met other a (record { facts = made.facts; there = made.at.there }) (settled_grown old new met keeps below_met first) (settled_grown old new other keeps below_other second)

pub returns-clause-act : goal.returns-clause-act
returns-clause-act c old new change next p below keeps made h =
    let later = untested_grown old new next keeps below h in
    (act_untested new p next change (record { facts = made.facts; there = made.at.there }) later, act_settled new p next change (record { facts = made.facts; there = made.at.there }) later)

pub returns-clause-stop : goal.returns-clause-stop
returns-clause-stop c old new accept p made = (untested_stop new p accept (record { facts = made.facts; there = made.at.there }), stop_settled new p accept (record { facts = made.facts; there = made.at.there }))

pub returns-clause-settled : goal.returns-clause-settled
returns-clause-settled c = settled_grown

pub returns-clause-untested : goal.returns-clause-untested
returns-clause-untested c = untested_grown
