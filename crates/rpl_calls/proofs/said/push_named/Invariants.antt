use Rattle.std.proofs.Common.{◌≡◌, ◌++◌, [], ◌∷◌, length}
use Rattle.std.specs.List.{flat_map}
use Rattle.rpl_calls.specs.Said.{asks_in}
use Rattle.rpl_calls.proofs.said.push_named.Given as goal

abbrev pub invariant-loop-rest : goal.invariant-loop-rest
invariant-loop-rest l = asks_in l.asks ++ flat_map (λ ask. record { policy = l.policy; ask = ask } ∷ []) l.rest ≡ asks_in l.fn.asks ++ flat_map (λ ask. record { policy = l.policy; ask = ask } ∷ []) l.more

abbrev pub decreases-loop-rest : goal.decreases-loop-rest
decreases-loop-rest l = length l.rest
