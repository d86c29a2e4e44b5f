-- The walk over the runs of a class, and the bits of its digits.
use Rattle.std.proofs.Common.{◌≡◌, refl, sym, ap, ◌∙◌, subst, ℕ, ◌+◌, ◌-◌, ◌*◌, ◌%◌, ◌^◌, ◌<◌, ◌≤◌, Bool, true, false, List, [], ◌∷◌, length, Option, Some, None, arith}
use Rattle.std.specs.Prelude.{◌==◌}
use Rattle.std.specs.Bool.{MatchBool}
use Rattle.std.specs.Char.{IsAsciiDigit, IsNotAsciiDigit}
use Rattle.std.specs.Int.Bits.{bit_or}
use Rattle.std.proofs.Math.Nat.{mod-eq_of_lt}
use Rattle.std.proofs.Math.Pow.{pow_mono}
use Rattle.route_types.specs.Words.{◌>>=◌}
use Rattle.route_types.proofs.Numbers.{some_is}
use Rattle.aspath_text.specs.IosRead.{run_in, run_at, runs_after}

-- ---- shifts of a 1

pub shift_small : (k : ℕ) → k ≤ 10 → 1 * 2 ^ k % 65536 ≡ 2 ^ k
shift_small k h =
    let e : 1 * 2 ^ k ≡ 2 ^ k = omega arith in
    let small : 2 ^ k ≤ 2 ^ 10 = pow_mono h in
    let below : 2 ^ k < 65536 = omega (arith, small) in
    ap (λ (n : ℕ). n % 65536) e ∙ mod-eq_of_lt below

pub shifts_rise : (l m : ℕ) → l ≤ m → m - 48 < 10 → 1 * 2 ^ (l - 48) % 65536 ≤ 1 * 2 ^ (m - 48 + 1) % 65536
shifts_rise l m rises within =
    let a = shift_small (l - 48) (omega arith) in
    let b = shift_small (m - 48 + 1) (omega arith) in
    let h : l - 48 ≤ m - 48 + 1 = omega arith in
    let p : 2 ^ (l - 48) ≤ 2 ^ (m - 48 + 1) = pow_mono h in
    omega (arith, a, b, p)

-- a digit's value is below ten
pub digit_below : (c : ℕ) (t : Bool) → t ≡ true → MatchBool t (IsAsciiDigit c) (IsNotAsciiDigit c) → c - 48 < 10
digit_below c true e h = omega (arith, h)
digit_below c false e h = absurd cc

-- ---- one run after the other

-- the bits of a run, and what stands behind it
abbrev with_rest : Option ℕ → List ℕ → Option (ℕ × List ℕ)
with_rest o rest = o >>= λ r. Some (r, rest)

abbrev one_of : Bool → Option (ℕ × List ℕ) → Option (ℕ × List ℕ) → Option (ℕ × List ℕ)
one_of t a b = elim t [ true ↦ a | false ↦ b ]

-- the walk behind a run
abbrev walk_on : ℕ → Option ℕ → List ℕ → Option ℕ
walk_on v o rest = o >>= λ r. runs_after (bit_or v r) rest

run_then : (o : Option ℕ) (rest : List ℕ) (bits : ℕ) (behind : List ℕ) → with_rest o rest ≡ Some (bits, behind) → (o ≡ Some bits) × (rest ≡ behind)
run_then (Some r) rest bits behind e = let k = some_is (r, rest) (bits, behind) e in (ap (λ (p : ℕ × List ℕ). Some p.0) k, ap (λ (p : ℕ × List ℕ). p.1) k)
run_then None rest bits behind e = absurd cc

onward : (v : ℕ) (o : Option ℕ) (rest : List ℕ) (bits : ℕ) (behind : List ℕ) → with_rest o rest ≡ Some (bits, behind) → runs_after (bit_or v bits) behind ≡ walk_on v o rest
onward v o rest bits behind e =
    let k = run_then o rest bits behind e in
    ap (λ (t : List ℕ). runs_after (bit_or v bits) t) (sym k.1) ∙ sym (ap (λ (p : Option ℕ). walk_on v p rest) k.0)

onward_by : (t : Bool) (v : ℕ) (o p : Option ℕ) (rest other : List ℕ) (bits : ℕ) (behind : List ℕ) → one_of t (with_rest o rest) (with_rest p other) ≡ Some (bits, behind) → runs_after (bit_or v bits) behind ≡ (elim t [ true ↦ walk_on v o rest | false ↦ walk_on v p other ])
onward_by true v o p rest other bits behind e = onward v o rest bits behind e
onward_by false v o p rest other bits behind e = onward v p other bits behind e

-- the first run adds its bits to those before it
pub run_found : (v : ℕ) (text : List ℕ) (bits : ℕ) (behind : List ℕ) → run_at text ≡ Some (bits, behind) → runs_after (bit_or v bits) behind ≡ runs_after v text
unfolding runs_after
run_found v [] bits behind e = absurd cc
run_found v (c ∷ []) bits behind e = onward v (run_in c c) [] bits behind e
run_found v (c ∷ d ∷ []) bits behind e = onward v (run_in c c) (d ∷ []) bits behind e
run_found v (c ∷ d ∷ f ∷ cs) bits behind e = onward_by (d == 45) v (run_in c f) (run_in c c) cs (d ∷ f ∷ cs) bits behind e

stop : (v : ℕ) (o : Option ℕ) (rest : List ℕ) → with_rest o rest ≡ None → walk_on v o rest ≡ None
stop v (Some r) rest e = absurd cc
stop v None rest e = refl

stop_by : (t : Bool) (v : ℕ) (o p : Option ℕ) (rest other : List ℕ) → one_of t (with_rest o rest) (with_rest p other) ≡ None → ◌≡◌ {A = Option ℕ} (elim t [ true ↦ walk_on v o rest | false ↦ walk_on v p other ]) None
stop_by true v o p rest other e = stop v o rest e
stop_by false v o p rest other e = stop v p other e

-- where no run stands first, there is no class
pub run_none : (v : ℕ) (text : List ℕ) → 0 < length text → run_at text ≡ None → runs_after v text ≡ None
unfolding runs_after
run_none v [] some e = absurd (omega (arith, some))
run_none v (c ∷ []) some e = stop v (run_in c c) [] e
run_none v (c ∷ d ∷ []) some e = stop v (run_in c c) (d ∷ []) e
run_none v (c ∷ d ∷ f ∷ cs) some e = stop_by (d == 45) v (run_in c f) (run_in c c) cs (d ∷ f ∷ cs) e

run_shorter : (o : Option ℕ) (rest : List ℕ) (bits : ℕ) (behind text : List ℕ) → length rest < length text → with_rest o rest ≡ Some (bits, behind) → length behind < length text
run_shorter o rest bits behind text h e = subst (λ (t : List ℕ). length t < length text) (run_then o rest bits behind e).1 h

run_shorter_by : (t : Bool) (o p : Option ℕ) (rest other : List ℕ) (bits : ℕ) (behind text : List ℕ) → length rest < length text → length other < length text → one_of t (with_rest o rest) (with_rest p other) ≡ Some (bits, behind) → length behind < length text
run_shorter_by true o p rest other bits behind text h k e = run_shorter o rest bits behind text h e
run_shorter_by false o p rest other bits behind text h k e = run_shorter p other bits behind text k e

-- a run takes at least one byte
pub behind_run : (text : List ℕ) (bits : ℕ) (behind : List ℕ) → run_at text ≡ Some (bits, behind) → length behind < length text
behind_run [] bits behind e = absurd cc
behind_run (c ∷ []) bits behind e = run_shorter (run_in c c) [] bits behind (c ∷ []) (omega arith) e
behind_run (c ∷ d ∷ []) bits behind e = run_shorter (run_in c c) (d ∷ []) bits behind (c ∷ d ∷ []) (omega arith) e
behind_run (c ∷ d ∷ f ∷ cs) bits behind e = run_shorter_by (d == 45) (run_in c f) (run_in c c) cs (d ∷ f ∷ cs) bits behind (c ∷ d ∷ f ∷ cs) (omega arith) (omega arith) e
