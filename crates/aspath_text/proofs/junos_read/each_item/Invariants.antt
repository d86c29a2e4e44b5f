use Rattle.std.proofs.Common.{◌≡◌, [], length, false}
use Rattle.policy_text.specs.Phrases.{each_onto}
use Rattle.aspath_text.specs.JunosRead.{item_in, items_of}
use Rattle.aspath_text.proofs.junos_read.each_item.Given as goal

abbrev pub invariant-loop-front : goal.invariant-loop-front
invariant-loop-front l = each_onto item_in l.items (items_of false l.rest) ≡ each_onto item_in [] (items_of false l.text)

abbrev pub decreases-loop-front : goal.decreases-loop-front
decreases-loop-front l = length l.rest
