-- How tests are written under a policy's name and its sets.
use Rattle.rpl_layout.specs.Guards.{Writing}
use Rattle.rpl_layout.specs.Sharing.{written_by}
use Rattle.rpl_policies.specs.Own.{own}
use Rattle.rpl_policies.specs.declared.names.Names.{Names}

unfoldable pub writing : Names → Writing
writing names = written_by own names.name.now names.sets.now
