use Rattle.ios_reader.proofs.TellsFacts.{tells_facts}
use Rattle.ios_reader.specs.declared.known.Known.{Known}
use Rattle.ios_reader.proofs.known.known_of.Goals as goal

pub returns : goal.returns
returns c =
    let known : Known = record {
      policy = record { ref_ptr = (0, 0); now = c.args.policy.now };
      defined = c.in_ok-defined.defined;
      named = c.in_ok-named.named;
      marked = c.in_ok-marked.marked;
      med = c.least_setting-med.result;
      path = c.least_setting-path.result;
      next_hop = c.least_setting-next_hop.result;
      communities = c.least_setting-communities.result;
    } in
    tells_facts c.args.items.now known c.in_ok-defined.ensures c.in_ok-named.ensures c.in_ok-marked.ensures c.least_setting-med.ensures c.least_setting-path.ensures c.least_setting-next_hop.ensures c.least_setting-communities.ensures
