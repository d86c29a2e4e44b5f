use Rattle.junos_writable.proofs.NameLaws.{sort_names}
use Rattle.junos_writable.proofs.laws.plain_words_name_policies.Goals as goal

pub returns : goal.returns
returns c = sort_names
