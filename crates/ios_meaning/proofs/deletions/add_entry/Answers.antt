use Rattle.ios_meaning.proofs.Maps.{entries_added, entries_pushed}
use Rattle.ios_meaning.proofs.deletions.add_entry.Goals as goal

pub returns : goal.returns
returns c =
    entries_added c.args.lists.now c.taken_entries-entries.new.lists c.insert.new.self c.as_slice-name.result.now c.args.entry.now c.push.new.self c.as_slice-name.ensures c.taken_entries-entries.ensures.others
    (entries_pushed c.taken_entries-entries.result.items c.push.new.self.items c.args.entry _ c.in_ok-push.ensures.items c.taken_entries-entries.ensures.taken) c.in_ok-insert.ensures.updates
