-- What a shelf means, and one call of fetch.
use Rattle.std.specs.Prelude.{◌≡◌, ℕ, ◌≤◌, List, length, Option, Result, Ok, Err, Vec, IfOk, IfSome}
use Rattle.std.specs.declared.alloc.Global.{Global}
use Rattle.policy_outside.specs.declared.faults.FetchFault.{FetchFault}
use Rattle.policy_outside.specs.declared.faults.FetchFault.TheVariants.{Failed, TooLong, Memory}
use Rattle.policy_outside.specs.Counts.{Rose}
use Rattle.policy_outside.specs.Texts.{Texts, IsTold, IsLonger}

-- the texts, where the shelf tells them, the count of faults, and the name of the last fault, empty at first
pub record ShelfView : Type 0 where
  pub texts : Option Texts
  pub faults : ℕ
  pub last_fault : List ℕ

-- what fetch answers: the bytes of a text, or a fault
abbrev pub Fetched : Type 0
Fetched = Result (Vec ℕ Global) FetchFault

-- the count of faults and the name of the last one stay
pub record SameFaults (before now : ShelfView) : Type 0 where
  pub count : now.faults ≡ before.faults
  pub name : now.last_fault ≡ before.last_fault

-- the count of faults rose, and the last one is of this name
pub record FaultRose (before now : ShelfView) (name : List ℕ) : Type 0 where
  pub count : Rose before.faults now.faults
  pub named : now.last_fault ≡ name

-- Failed comes only where the count rose, at the asked name; every other answer leaves the count and the name
abbrev pub FaultsFit : ShelfView → ShelfView → List ℕ → Fetched → Type 0
FaultsFit before now name (Ok _) = SameFaults before now
FaultsFit before now name (Err Failed) = FaultRose before now name
FaultsFit before now name (Err TooLong) = SameFaults before now
FaultsFit before now name (Err Memory) = SameFaults before now

-- an answer that is neither Failed nor Memory is TooLong exactly where the named text is longer than most
abbrev pub TooLongExactly : Texts → List ℕ → ℕ → Fetched → Type 0
TooLongExactly texts name most (Ok _) = ¬ IsLonger texts name most
TooLongExactly texts name most (Err Failed) = Unit {0}
TooLongExactly texts name most (Err TooLong) = IsLonger texts name most
TooLongExactly texts name most (Err Memory) = Unit {0}

-- one call of fetch, for the text under a name with at most so many bytes
pub record Fetches
    (before now : ShelfView) (name : List ℕ) (most : ℕ) (answer : Fetched) : Type 0 where
  -- no call changes the texts
  pub same_texts : now.texts ≡ before.texts
  -- the count of faults never falls
  pub later : before.faults ≤ now.faults
  pub faults_fit : FaultsFit before now name answer
  -- Ok has at most so many bytes, and is the named text where the texts are told
  pub within : IfOk answer (λ text. length text.items ≤ most)
  pub told : IfOk answer (λ text. IsTold before.texts name text.items)
  pub too_long : IfSome before.texts (λ texts. TooLongExactly texts name most answer)
