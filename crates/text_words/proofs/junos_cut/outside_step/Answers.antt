use Rattle.text_words.proofs.junos_cut.outside_step.Goals as goal

pub returns-in-Err-clause-takes : goal.returns-in-Err-clause-takes
returns-in-Err-clause-takes c = rw c.in-Ends.is c.in-Err.ensures
