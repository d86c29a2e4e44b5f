use Rattle.text_words.proofs.LineText.{ios_read}
use Rattle.text_words.proofs.JunosLaw.{junos_written}
use Rattle.text_words.proofs.RplWritten.{written_cut}
use Rattle.text_words.proofs.laws.written_texts_are_cut.Goals as goal

pub returns-clause-ios : goal.returns-clause-ios
returns-clause-ios c = ios_read

pub returns-clause-junos : goal.returns-clause-junos
returns-clause-junos c = junos_written

pub returns-clause-rpl : goal.returns-clause-rpl
returns-clause-rpl c = written_cut
