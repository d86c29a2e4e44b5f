-- What a sink means, and one call of put.
use Rattle.std.specs.Prelude.{◌≡◌, ℕ, ◌≤◌, List, [], ◌∷◌, ◌++◌, Option, Some, None, Result, OnOk, OnErr, IsErrOf}
use Rattle.policy_outside.specs.declared.faults.PutFault.{PutFault}
use Rattle.policy_outside.specs.declared.faults.PutFault.TheVariants.{Failed, Memory}
use Rattle.policy_outside.specs.Counts.{Rose}

-- the bytes so far, where the sink tells them, the count of faults, and the count of shortages of memory
pub record SinkView : Type 0 where
  pub bytes : Option (List ℕ)
  pub faults : ℕ
  pub shortages : ℕ

-- the bytes with a piece behind them, where they are told
abbrev pub appended : Option (List ℕ) → List ℕ → Option (List ℕ)
appended None piece = None
appended (Some bytes) piece = Some (bytes ++ piece)

-- the whole piece was appended, and both counts stay
pub record PutsWhole (before now : SinkView) (piece : List ℕ) : Type 0 where
  pub bytes : now.bytes ≡ appended before.bytes piece
  pub faults : now.faults ≡ before.faults
  pub shortages : now.shortages ≡ before.shortages

-- some prefix of the piece was appended
pub record PutsPrefix (before now : SinkView) (piece : List ℕ) : Type 0 where
  pub part : List ℕ
  pub rest : List ℕ
  pub whole : part ++ rest ≡ piece
  pub bytes : now.bytes ≡ appended before.bytes part

-- one call of put, or several whose pieces are joined
pub record Puts
    (before now : SinkView) (piece : List ℕ) (answer : Result (Unit {0}) PutFault) : Type 0 where
  -- neither count falls
  pub faults_later : before.faults ≤ now.faults
  pub shortages_later : before.shortages ≤ now.shortages
  -- Ok appends the piece and leaves both counts; after any other answer a prefix of it was appended
  pub whole : OnOk answer (PutsWhole before now piece)
  pub prefix : OnErr answer (PutsPrefix before now piece)
  -- Failed comes only where the count of faults rose, Memory only where the count of shortages rose
  pub failed : IsErrOf answer Failed → Rose before.faults now.faults
  pub memory : IsErrOf answer Memory → Rose before.shortages now.shortages

-- pieces, one after the other
abbrev pub joined : List (List ℕ) → List ℕ
joined [] = []
joined (piece ∷ pieces) = piece ++ joined pieces
