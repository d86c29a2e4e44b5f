use Rattle.std.proofs.Common.{◌≡◌, false, drop}
use Rattle.aspath_text.specs.JunosWalk.{item_end}
use Rattle.aspath_text.proofs.junos_read.item_end.Given as goal

abbrev pub invariant-loop-place : goal.invariant-loop-place
invariant-loop-place l = item_end l.inside l.place (drop l.place l.text) ≡ item_end false 0 l.text
