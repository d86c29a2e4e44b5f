-- Takes that take some path: each of them so many copies of one number.
use Rattle.std.proofs.Common.{◌≡◌, refl, sym, subst, ℕ, zero, suc, ◌^◌, ◌<◌, Bool, true, List, [], ◌∷◌, ◌++◌, length, replicate, arith}
use Rattle.std.specs.List.{list_all}
use Rattle.std.proofs.lemmas.Bool.{and_from}
use Rattle.std.proofs.lemmas.List.{length-replicate}
use Rattle.path_patterns.specs.Items.{IsPath, Takes, AtMost, Taken}
use Rattle.path_patterns.proofs.Lists.{all_append, all_copies}

-- some path is taken
abbrev pub SomeTaken : List Takes → Type 0
SomeTaken ts = (path : List ℕ) × IsPath path × Taken ts path

many_fit : (f : ℕ → Bool) (n number : ℕ) → f number ≡ true → list_all f (replicate n number) ≡ true
many_fit f zero number h = refl
many_fit f (suc n) number h = and_from (f number) (list_all f (replicate n number)) h (many_fit f n number h)

-- nothing takes the path of no number
pub none_taken : SomeTaken []
unfolding Taken
none_taken = ([], tt, refl)

-- the least count of a number that fits, and then what others take
pub more_taken : (t : Takes) (number : ℕ) (ts : List Takes) → number < 2 ^ 32 → t.fits number ≡ true → AtMost t.least t.most → SomeTaken ts → SomeTaken (t ∷ ts)
unfolding Taken
more_taken t number ts small fit most (path, within, taken) =
    let front : List ℕ = replicate t.least number in
    let as_many : length front ≡ t.least = length-replicate t.least number in (
      front ++ path,
      all_append (λ n. n < 2 ^ 32) front path (all_copies (λ n. n < 2 ^ 32) number t.least small) within,
      (front, path, refl, many_fit t.fits t.least number fit, (omega (arith, as_many), subst (λ (n : ℕ). AtMost n t.most) (sym as_many) most), taken),
    )
