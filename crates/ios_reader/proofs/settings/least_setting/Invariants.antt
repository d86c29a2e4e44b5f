use Rattle.std.proofs.Common.{◌≡◌, ◌||◌, ℕ, length}
use Rattle.std.specs.List.{list_any}
use Rattle.ios_reader.specs.Entries.{entries_of}
use Rattle.ios_reader.specs.Facts.{sets_below}
use Rattle.ios_reader.specs.Known.{is_above}
use Rattle.ios_reader.proofs.settings.least_setting.Given as goal

abbrev pub invariant-loop-rest : goal.invariant-loop-rest
invariant-loop-rest l = (n : ℕ) →
    (is_above l.least n || list_any (sets_below l.setting n) (entries_of l.policy l.rest)) ≡ list_any (sets_below l.setting n) (entries_of l.policy l.items)

abbrev pub decreases-loop-rest : goal.decreases-loop-rest
decreases-loop-rest l = length l.rest
