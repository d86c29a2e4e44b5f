use Rattle.std.proofs.Common.{sym, ap, ◌∙◌, List}
use Rattle.policy_calls.specs.Callees.{nows, links_of}
use Rattle.junos_reader.specs.Known.{plain_statements}
use Rattle.junos_reader.proofs.Facts.{tells_facts}
use Rattle.junos_reader.proofs.known.known_of.Goals as goal

pub returns : goal.returns
returns c =
    tells_facts c.in_ok-known.known c.args.items.now (links_of c.as_slice-links.result.now) c.args.names.now (nows c.as_slice-chain.result.now) (plain_statements c.as_slice-found.result.now) (nows c.as_slice-ends.result.now)
    (nows c.as_slice-going.result.now) (nows c.as_slice-named.result.now) c.in_ok-known.ensures
    (ap nows c.as_slice-chain.ensures ∙ c.in_ok-chain_row.ensures)
    (ap plain_statements c.as_slice-found.ensures ∙ c.in_ok-statement_row.ensures)
    (ap links_of c.as_slice-links.ensures ∙ c.in_ok-call_row.ensures)
    (ap nows c.as_slice-ends.ensures ∙ c.in_ok-tester_row.ensures)
    (ap nows c.as_slice-going.ensures ∙ c.in_ok-going_row.ensures)
    (ap nows c.as_slice-named.ensures ∙ c.in_ok-named_row.ensures)
