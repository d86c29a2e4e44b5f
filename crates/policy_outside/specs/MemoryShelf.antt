-- What contracts see of a shelf in memory.
use Rattle.std.specs.Prelude.{◌≡◌, ◌≢◌, ◌⊎◌, ℕ, ◌≤◌, List, length, true, false, Some, None, Ok, Err}
use Rattle.policy_outside.specs.declared.faults.FetchFault.TheVariants.{Failed, TooLong, Memory}
use Rattle.policy_outside.specs.Counts.{raised, next_fails}
use Rattle.policy_outside.specs.Shelf.{ShelfView, Fetched}
use Rattle.policy_outside.specs.Texts.{Texts, text_at, IsLonger}

-- the texts, the numbers of the calls that are to fail, how many calls there were, and the faults
pub record ShelfInMemory : Type 0 where
  pub texts : Texts
  pub failing : List ℕ
  pub calls : ℕ
  pub faults : ℕ
  pub last_fault : List ℕ

-- such a shelf tells its texts
abbrev pub shelf_view : ShelfInMemory → ShelfView
shelf_view shelf =
    record { texts = Some shelf.texts; faults = shelf.faults; last_fault = shelf.last_fault }

-- the text is held under the name, and nothing else changed
pub record Adds (before now : ShelfInMemory) (name text : List ℕ) : Type 0 where
  pub held : text_at now.texts name ≡ Some text
  pub others : (other : List ℕ) → other ≢ name → text_at now.texts other ≡ text_at before.texts other
  pub same : now ≡ record before { texts = now.texts }

-- the next answer, but for want of memory: Failed where the call is to fail or no text is held, else by the text's length
abbrev pub AnswersNextFetch : ShelfInMemory → List ℕ → ℕ → Fetched → Type 0
AnswersNextFetch shelf name most (Ok copy) =
    (next_fails shelf.failing shelf.calls ≡ false)
    × (text_at shelf.texts name ≡ Some copy.items)
    × (length copy.items ≤ most)
AnswersNextFetch shelf name most (Err Failed) =
    (next_fails shelf.failing shelf.calls ≡ true) ⊎ (text_at shelf.texts name ≡ None)
AnswersNextFetch shelf name most (Err TooLong) =
    (next_fails shelf.failing shelf.calls ≡ false) × IsLonger shelf.texts name most
AnswersNextFetch shelf name most (Err Memory) = Unit {0}

-- the shelf after a call with this answer: every call is counted, and a fault is counted and its name kept
abbrev pub after_fetch : ShelfInMemory → List ℕ → Fetched → ShelfInMemory
after_fetch shelf name (Ok _) = record shelf { calls = raised shelf.calls }
after_fetch shelf name (Err Failed) =
    record shelf { calls = raised shelf.calls; faults = raised shelf.faults; last_fault = name }
after_fetch shelf name (Err TooLong) = record shelf { calls = raised shelf.calls }
after_fetch shelf name (Err Memory) = record shelf { calls = raised shelf.calls }

-- one call of fetch over memory
pub record FetchesInMemory
    (before now : ShelfInMemory) (name : List ℕ) (most : ℕ) (answer : Fetched) : Type 0 where
  pub answers : AnswersNextFetch before name most answer
  pub leaves : now ≡ after_fetch before name answer
