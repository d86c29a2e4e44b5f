-- Takes that take the same paths: behind other takes, and with counts put together.
use Rattle.std.proofs.Common.{◌≡◌, refl, subst, ℕ, ◌+◌, Bool, List, [], ◌∷◌, ◌++◌, Option, Some, inr, ap₂}
use Rattle.path_patterns.specs.Items.{IsPath, Takes, AtMost, Taken}
use Rattle.path_patterns.specs.Counts.{both_most}
use Rattle.path_patterns.specs.SamePaths.{SamePaths, NoPath}
use Rattle.path_patterns.proofs.PathText.{path_left}
use Rattle.path_patterns.proofs.TakesLaws.{takes_joined, takes_nothing}

pub same_refl : (ts : List Takes) → SamePaths ts ts
same_refl ts path within = (λ h. h, λ h. h)

pub same_sym : (ts us : List Takes) → SamePaths ts us → SamePaths us ts
same_sym ts us h path within = let k = h path within in (k.1, k.0)

pub same_trans : (ts us vs : List Takes) → SamePaths ts us → SamePaths us vs → SamePaths ts vs
same_trans ts us vs h k path within =
    let a = h path within in
    let b = k path within in
    (λ x. b.0 (a.0 x), λ x. a.1 (b.1 x))

pub same_eq : (ts us : List Takes) → ts ≡ us → SamePaths ts us
same_eq ts us e = subst (λ (vs : List Takes). SamePaths ts vs) e (same_refl ts)

taken_behind : (t : Takes) (ts us : List Takes) (path : List ℕ) → ((rest : List ℕ) → IsPath rest → Taken ts rest → Taken us rest) → IsPath path → Taken (t ∷ ts) path → Taken (t ∷ us) path
unfolding Taken
taken_behind t ts us path h within (front, rest, whole, fit, counts, taken) =
    (front, rest, whole, fit, counts, h rest (path_left front rest path whole within) taken)

pub same_behind : (t : Takes) (ts us : List Takes) → SamePaths ts us → SamePaths (t ∷ ts) (t ∷ us)
same_behind t ts us h path within =
    (taken_behind t ts us path (λ rest w. (h rest w).0) within, taken_behind t us ts path (λ rest w. (h rest w).1) within)

pub same_behind_all : (front ts us : List Takes) → SamePaths ts us → SamePaths (front ++ ts) (front ++ us)
same_behind_all [] ts us h = h
same_behind_all (t ∷ front) ts us h = same_behind t (front ++ ts) (front ++ us) (same_behind_all front ts us h)

never_next : (t : Takes) (ts : List Takes) → NoPath ts → NoPath (t ∷ ts)
unfolding Taken
never_next t ts never path within (front, rest, whole, fit, counts, taken) =
    never rest (path_left front rest path whole within) taken

-- what takes no path takes none behind other takes
pub never_behind : (front ts : List Takes) → NoPath ts → NoPath (front ++ ts)
never_behind [] ts never = never
never_behind (t ∷ front) ts never = never_next t (front ++ ts) (never_behind front ts never)

-- counts of the same numbers put together
pub same_joined : (f : ℕ → Bool) (a c e : ℕ) (b d g : Option ℕ) (ts : List Takes) → AtMost a b → AtMost c d → a + c ≡ e → both_most b d ≡ g → SamePaths (record { fits = f; least = a; most = b } ∷ record { fits = f; least = c; most = d } ∷ ts) (record { fits = f; least = e; most = g } ∷ ts)
same_joined f a c e b d g ts ab cd least most =
    same_trans (record { fits = f; least = a; most = b } ∷ record { fits = f; least = c; most = d } ∷ ts) (record { fits = f; least = a + c; most = both_most b d } ∷ ts) (record { fits = f; least = e; most = g } ∷ ts)
    (λ path within. takes_joined f a c b d ts path ab cd)
    (same_eq (record { fits = f; least = a + c; most = both_most b d } ∷ ts) (record { fits = f; least = e; most = g } ∷ ts) (ap₂ (λ (x : ℕ) (y : Option ℕ). record { fits = f; least = x; most = y } ∷ ts) least most))

-- no number is taken
pub same_nothing : (f : ℕ → Bool) (ts : List Takes) → SamePaths (record { fits = f; least = 0; most = Some 0 } ∷ ts) ts
same_nothing f ts path within = takes_nothing (record { fits = f; least = 0; most = Some 0 }) ts path (refl, inr refl) within
