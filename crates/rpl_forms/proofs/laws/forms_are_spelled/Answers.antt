use Rattle.rpl_forms.proofs.Agree.Statements.{header_found, header_only}
use Rattle.rpl_forms.proofs.Spelled.{form_found, form_only}
use Rattle.rpl_forms.proofs.laws.forms_are_spelled.Goals as goal

pub returns-clause-found_header : goal.returns-clause-found_header
returns-clause-found_header c = header_found

pub returns-clause-only_header : goal.returns-clause-only_header
returns-clause-only_header c = header_only

pub returns-clause-found : goal.returns-clause-found
returns-clause-found c = form_found

pub returns-clause-only : goal.returns-clause-only
returns-clause-only c = form_only
