-- How what is planned is written under a policy's name and what it defines.
use Rattle.junos_layout.specs.Writing.{Writing}
use Rattle.junos_policies.specs.Parts.{written_by}
use Rattle.junos_policies.specs.declared.names.Names.{Names}

unfoldable pub writing : Names → Writing
writing names = written_by names.name.now names.parts.now
