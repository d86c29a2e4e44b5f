use Rattle.junos_writable.proofs.OwnNames.{forms_same}
use Rattle.junos_writable.proofs.laws.trees_have_forms.Goals as goal

pub returns : goal.returns
returns c = forms_same
