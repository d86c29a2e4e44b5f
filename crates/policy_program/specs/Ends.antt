-- How a run ends, in six cases: the words, the fetch, a refusal, the result written, a failed write, want of memory.
use Rattle.std.specs.Prelude.{◌≡◌, ℕ, ◌⊎◌, List}
use Rattle.policy_outside.specs.Counts.{Rose}
use Rattle.policy_outside.specs.Shelf.{ShelfView, SameFaults, FaultRose}
use Rattle.policy_outside.specs.Sink.{SinkView, PutsWhole, PutsPrefix}
use Rattle.policy_request.specs.Words.{Request, Accepts, IsRefused}
use Rattle.policy_program.specs.Answer.{Told, CannotRead, Answer, Result, Refusal, status_told, line_told, usage_line, unwritten_line, memory_line}
use Rattle.policy_program.specs.Requests.{inputs_of, IsAtTurn, IsDue}
use Rattle.policy_program.specs.declared.status.Status.{Status}
use Rattle.policy_program.specs.declared.status.Status.TheVariants.{Usage, FetchFailed, WriteFailed, Memory}

-- the shelf before and after a run
pub record Shelves : Type 0 where
  pub before : ShelfView
  pub now : ShelfView

-- a sink before and after a run
pub record Sinks : Type 0 where
  pub before : SinkView
  pub now : SinkView

-- the sink received nothing, and no count moved
abbrev pub ReceivedNothing : Sinks → Type 0
ReceivedNothing s = s.now ≡ s.before

-- the sink received these bytes, or a prefix of them
abbrev pub Received : Sinks → List ℕ → Type 0
Received s bytes = PutsWhole s.before s.now bytes

abbrev pub ReceivedPrefix : Sinks → List ℕ → Type 0
ReceivedPrefix s bytes = PutsPrefix s.before s.now bytes

-- the count of faults of the sink rose, or that of its shortages of memory
abbrev pub FaultsRose : Sinks → Type 0
FaultsRose s = Rose s.before.faults s.now.faults

abbrev pub ShortagesRose : Sinks → Type 0
ShortagesRose s = Rose s.before.shortages s.now.shortages

-- the sink received the whole line, or a prefix of it where one of its counts rose
abbrev pub ReceivedLine : Sinks → List ℕ → Type 0
ReceivedLine s line = Received s line ⊎ (ReceivedPrefix s line × (FaultsRose s ⊎ ShortagesRose s))

-- this status, nothing on `out`, and this line on `err`
pub record Tells (out err : Sinks) (status told : Status) (line : List ℕ) : Type 0 where
  pub is : status ≡ told
  pub out_empty : ReceivedNothing out
  pub line_put : ReceivedLine err line

-- the answer is due to the request that the words make, and no fetch was at fault
pub record IsAnswered (words : List (List ℕ)) (shelf : Shelves) (answer : Answer) : Type 0 where
  pub request : Request
  pub accepted : Accepts words request
  pub no_fault : SameFaults shelf.before shelf.now
  pub due : IsDue shelf.before.texts request answer

-- a result is due, and `out` received a prefix of it
pub record IsCutOff (words : List (List ℕ)) (shelf : Shelves) (out : Sinks) : Type 0 where
  pub right : Status
  pub text : List ℕ
  pub answered : IsAnswered words shelf (Result right text)
  pub written : ReceivedPrefix out text

-- so ends every run
pub data Ends (words : List (List ℕ)) (shelf : Shelves) (out err : Sinks) (status : Status) : Type 0 where
  -- the words are refused, and nothing is fetched
  by_words : IsRefused words → shelf.now ≡ shelf.before → Tells out err status Usage usage_line → Ends words shelf out err status
  -- the fetch of a file at its turn failed: the count of the shelf rose, and its last fault is that file
  by_fetch : (request : Request) (file : List ℕ) → Accepts words request → IsAtTurn shelf.before.texts (inputs_of request) file
      → FaultRose shelf.before shelf.now file → Tells out err status FetchFailed (line_told file CannotRead) → Ends words shelf out err status
  -- a refusal is due
  refused : (file : List ℕ) (about : Told) → IsAnswered words shelf (Refusal file about) → Tells out err status (status_told about) (line_told file about)
      → Ends words shelf out err status
  -- a result is due, and `out` received it
  written : (text : List ℕ) → IsAnswered words shelf (Result status text) → Received out text → ReceivedNothing err → Ends words shelf out err status
  -- the count of faults of `out` rose, where a result is due, of which it received a prefix
  unwritten : IsCutOff words shelf out → status ≡ WriteFailed → FaultsRose out → ReceivedLine err unwritten_line → Ends words shelf out err status
  -- want of memory: nothing was written, or the count of shortages of `out` rose, where a result is due, of which it received a prefix
  by_memory : SameFaults shelf.before shelf.now → ReceivedNothing out ⊎ (IsCutOff words shelf out × ShortagesRose out) → status ≡ Memory → ReceivedLine err memory_line
      → Ends words shelf out err status
