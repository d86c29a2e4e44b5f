-- What a reader wants of a run: the headline, completeness and exactness.
use Rattle.std.specs.Prelude.{◌≡◌, ℕ, ◌⊎◌, List, Option, Some, IfSome}
use Rattle.policy_outside.specs.Shelf.{FaultRose}
use Rattle.policy_outside.specs.Texts.{Texts}
use Rattle.policy_request.specs.Words.{Request, Accepts, IsRefused}
use Rattle.policy_program.specs.Answer.{Answer, Result, Refusal, status_of}
use Rattle.policy_program.specs.Requests.{inputs_of, IsResult, AreTextsOf, IsAtTurn, IsDue, IsServed}
use Rattle.policy_program.specs.Ends.{Shelves, Sinks, Received, FaultsRose}
use Rattle.policy_program.specs.declared.status.Status.{Status}
use Rattle.policy_program.specs.declared.status.Status.TheVariants.{Done, Usage, FetchFailed, WriteFailed, Memory}

-- The headline: the words make a request, its texts stand under its files, and `out` received exactly a right result:
-- for translate a right translation of the policy, for judge what the policy makes of the route.
pub record WritesResult (words : List (List ℕ)) (shelf : Shelves) (out : Sinks) : Type 0 where
  pub request : Request
  pub accepted : Accepts words request
  pub texts : List (List ℕ)
  pub given : AreTextsOf shelf.before.texts (inputs_of request) texts
  pub text : List ℕ
  pub right : IsResult request texts Done text
  pub received : Received out text

-- a result that is due was written, or the fetch of a file at its turn or a put was at fault by its count, or memory was short
abbrev pub Completes : Request → Shelves → Sinks → Status → Type 0
Completes q shelf out status =
    ((text : List ℕ) × IsDue shelf.before.texts q (Result status text) × Received out text)
    ⊎ ((status ≡ FetchFailed) × ((file : List ℕ) × IsAtTurn shelf.before.texts (inputs_of q) file × FaultRose shelf.before shelf.now file))
    ⊎ ((status ≡ WriteFailed) × FaultsRose out)
    ⊎ (status ≡ Memory)

-- Completeness: so ends every run on a shelf that tells its texts, on a request whose files are as they have to be.
abbrev pub IsComplete : List (List ℕ) → Shelves → Sinks → Status → Type 0
IsComplete words shelf out status = (texts : Texts) → shelf.before.texts ≡ Some texts → (q : Request) → Accepts words q → IsServed (Some texts) q → Completes q shelf out status

-- the status is that of the answer; or a fetch failed, or memory was short, or a result could not be written
abbrev pub IsStatusFor : Answer → Status → Type 0
IsStatusFor (Result right text) status = (status ≡ right) ⊎ (status ≡ FetchFailed) ⊎ (status ≡ Memory) ⊎ (status ≡ WriteFailed)
IsStatusFor (Refusal file told) status = (status ≡ status_of (Refusal file told)) ⊎ (status ≡ FetchFailed) ⊎ (status ≡ Memory)

-- Exactness: Usage comes only where the words are refused, and refused words end in nothing else but for want of memory;
-- for a request, where the shelf tells its texts, the status is that of every answer that is due.
pub record IsExact (words : List (List ℕ)) (told : Option Texts) (status : Status) : Type 0 where
  pub usage : status ≡ Usage → IsRefused words
  pub refused : IsRefused words → (status ≡ Usage) ⊎ (status ≡ Memory)
  pub right : IfSome told (λ texts. (q : Request) → Accepts words q → (answer : Answer) → IsDue (Some texts) q answer → IsStatusFor answer status)
