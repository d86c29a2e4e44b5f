use Rattle.rpl_text.proofs.Reading.{forms_read, forms_tree, forms_named}
use Rattle.rpl_text.proofs.laws.written_forms_are_read.Goals as goal

pub returns : goal.returns
returns c = record { reads = forms_read; tree = forms_tree; blocks = forms_named }
