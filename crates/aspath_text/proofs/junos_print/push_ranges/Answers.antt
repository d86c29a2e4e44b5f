use Rattle.aspath_text.proofs.JunosBehind.{ranges_pushed}
use Rattle.aspath_text.proofs.junos_print.push_ranges.Goals as goal

pub returns : goal.returns
returns c =
    ranges_pushed c.args.first.now c.args.others.now c.args.out.now.items c.push_range.new.out.items c.push_barred.new.out.items c.in_ok-push_range.ensures c.in_ok-push_barred.ensures
