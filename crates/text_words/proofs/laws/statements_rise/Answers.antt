use Rattle.text_words.proofs.Rise.{cut_rises}
use Rattle.text_words.proofs.JunosRise.{junos_rises}
use Rattle.text_words.proofs.RplRise.{rpl_stand_behind, rpl_starts_rise}
use Rattle.text_words.proofs.laws.statements_rise.Goals as goal

pub returns-clause-ios : goal.returns-clause-ios
returns-clause-ios c = cut_rises

pub returns-clause-junos : goal.returns-clause-junos
returns-clause-junos c = junos_rises

pub returns-clause-rpl : goal.returns-clause-rpl
returns-clause-rpl c = rpl_stand_behind

pub returns-clause-rpl_starts : goal.returns-clause-rpl_starts
returns-clause-rpl_starts c = rpl_starts_rise
