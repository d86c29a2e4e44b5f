-- Whether the run of a policy goes on behind an entry that holds (Cisco IOS IP Routing: Protocol-Independent command
-- reference, 'continue').
use Rattle.std.specs.Prelude.{ℕ, Bool, List}
use Rattle.std.specs.List.{list_any}
use Rattle.ios_tree.specs.declared.item.IosItem.{IosItem}
use Rattle.ios_reader.specs.Entries.{Entry, entries_of}
use Rattle.ios_reader.specs.Lines.{continues}

-- the entry has a `continue` line
abbrev pub goes_on : Entry → Bool
goes_on e = list_any continues e.lines

-- some entry of the route-map of this name has a `continue` line
abbrev pub has_continue : List IosItem → List ℕ → Bool
has_continue all name = list_any goes_on (entries_of name all)
