use Rattle.std.proofs.Common.{◌≡◌, ◌-◌, []}
use Rattle.aspath_text.specs.IosWalk.{sets_onto}
use Rattle.aspath_text.proofs.ios_words.sets.Given as goal

abbrev pub invariant-loop : goal.invariant-loop
invariant-loop l = sets_onto (10 - l.counter) l.found l.rest ≡ sets_onto 10 [] l.text
