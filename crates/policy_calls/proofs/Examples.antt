-- Worked examples, which the checker computes: A calls B, B and C call each other, and C calls D.
use Rattle.std.proofs.Common.{◌≡◌, refl, true, false, List, [], ◌∷◌}
use Rattle.std.specs.Prelude.{codes}
use Rattle.policy_calls.specs.Calls.{Link, Walks, leads, is_reached, turns_back, has_cycle}
use Rattle.policy_calls.specs.Depth.{is_at, is_too_deep}

abbrev links : List Link
links =
    record { caller = codes "A"; callee = codes "B" }
    ∷ record { caller = codes "B"; callee = codes "C" }
    ∷ record { caller = codes "C"; callee = codes "B" }
    ∷ record { caller = codes "C"; callee = codes "D" }
    ∷ []

-- the same without the call from C to B
abbrev chain : List Link
chain =
    record { caller = codes "A"; callee = codes "B" }
    ∷ record { caller = codes "B"; callee = codes "C" }
    ∷ record { caller = codes "C"; callee = codes "D" }
    ∷ []

-- from A there is a walk to D, and from D to none but itself
walk : Walks links (codes "A") (codes "B" ∷ codes "C" ∷ codes "D" ∷ []) (codes "D")
walk = (refl, (refl, (refl, refl)))

there : leads links (codes "A") (codes "D") ≡ true
unfolding leads
there = refl

itself : leads links (codes "D") (codes "D") ≡ true
unfolding leads
itself = refl

not_back : leads links (codes "D") (codes "C") ≡ false
unfolding leads
not_back = refl

reached : is_reached links (codes "C" ∷ []) (codes "A") ≡ false
unfolding leads
reached = refl

-- the calls between B and C turn back, and no others
turns : turns_back links (codes "B") (codes "C") ≡ true
unfolding leads
turns = refl

stays : turns_back links (codes "A") (codes "B") ≡ false
unfolding leads
stays = refl

no_call : turns_back links (codes "B") (codes "B") ≡ false
unfolding leads
no_call = refl

-- D leads to no cycle, and where there is none nothing turns back
cycle : has_cycle links (codes "A" ∷ []) ≡ true
unfolding leads
cycle = refl

no_cycle : has_cycle links (codes "D" ∷ []) ≡ false
unfolding leads
no_cycle = refl

no_cycle_in_chain : has_cycle chain (codes "A" ∷ []) ≡ false
unfolding leads
no_cycle_in_chain = refl

-- D stands three calls deep
three : is_at chain (codes "A" ∷ []) 3 (codes "D") ≡ true
unfolding is_at
three = refl

not_two : is_at chain (codes "A" ∷ []) 2 (codes "D") ≡ false
unfolding is_at
not_two = refl

not_too_deep : is_too_deep chain (codes "A" ∷ []) (codes "D") ≡ false
unfolding is_at is_too_deep leads
not_too_deep = refl
