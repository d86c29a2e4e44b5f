-- A search along calls: names are noted in a row, each once, and the calls of each are followed in turn.
use Rattle.std.specs.Prelude.{◌≡◌, ℕ, Bool, true, ◌||◌, List, ◌++◌, take, bytes_eq}
use Rattle.std.specs.List.{list_any}
use Rattle.std.specs.BTreeSet.{BTreeSet}
use denote.Ref.{Bor}
use Rattle.policy_text.specs.NameSets.{has_name}
use Rattle.policy_calls.specs.Callees.{nows, Callees, callees_at}

-- a set of names
abbrev pub Names : Type 0
Names = BTreeSet (Bor (List ℕ) × ℕ × ℕ)

-- the name is among these
abbrev pub among : List (List ℕ) → List ℕ → Bool
among names q = list_any (bytes_eq q) names

-- the set has the names of the row
abbrev pub AreSame : Names → List (Bor (List ℕ)) → Type 0
AreSame seen order = (q : List ℕ) → has_name seen q 0 0 ≡ among (nows order) q

-- names have been noted behind the old ones, the rest of them being still to note: the set has the names of the row
pub record IsNoting (old : List (Bor (List ℕ))) (all rest : List (List ℕ)) (order : List (Bor (List ℕ))) (seen : Names) : Type 0 where
  pub same : AreSame seen order
  pub added : (q : List ℕ) → (among rest q || among (nows order) q) ≡ (among all q || among (nows old) q)
  pub kept : (more : List (Bor (List ℕ))) × (order ≡ old ++ more)

-- a test that passes with each policy those that it calls
abbrev pub IsClosed : Callees → (List ℕ → Bool) → Type 0
IsClosed m test = (p q : List ℕ) → test p ≡ true → among (callees_at m p) q ≡ true → test q ≡ true

-- a test that passes these names
abbrev pub HasAll : List (List ℕ) → (List ℕ → Bool) → Type 0
HasAll names test = (q : List ℕ) → among names q ≡ true → test q ≡ true

-- the test passes no other names than each closed test that passes these
abbrev pub IsLeast : Callees → List (List ℕ) → (List ℕ → Bool) → Type 0
IsLeast m names test = (other : List ℕ → Bool) → HasAll names other → IsClosed m other → (q : List ℕ) → test q ≡ true → other q ≡ true

-- the calls of the first names of the row have been followed
pub record IsSearching (m : Callees) (names : List (List ℕ)) (order : List (Bor (List ℕ))) (seen : Names) (next : ℕ) : Type 0 where
  pub same : AreSame seen order
  pub starts : HasAll names (among (nows order))
  pub least : IsLeast m names (among (nows order))
  pub closed : (p q : List ℕ) → among (nows (take next order)) p ≡ true → among (callees_at m p) q ≡ true → among (nows order) q ≡ true

-- the set has these names, and with each policy those that it calls, and no others
pub record IsClosure (m : Callees) (names : List (List ℕ)) (seen : Names) : Type 0 where
  pub starts : HasAll names (λ q. has_name seen q 0 0)
  pub closed : IsClosed m (λ q. has_name seen q 0 0)
  pub least : IsLeast m names (λ q. has_name seen q 0 0)
