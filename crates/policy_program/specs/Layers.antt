-- How the layers of a run end, as the code has them: loading, a verb's answer on its texts, fetching, and writing.
use Rattle.std.specs.Prelude.{◌≡◌, ℕ, true, List, [], ◌∷◌, Ok, Err, Result as Outcome, Vec, slice_get, unwrap_or}
use Rattle.std.specs.declared.alloc.Global.{Global}
use Rattle.policy_outside.specs.declared.faults.PutFault.{PutFault}
use Rattle.policy_outside.specs.declared.faults.PutFault.TheVariants.{Failed, Memory as NoRoom}
use Rattle.policy_outside.specs.Shelf.{ShelfView, SameFaults, FaultRose}
use Rattle.policy_outside.specs.Sink.{Puts}
use Rattle.route_types.specs.Route.{RouteParts}
use Rattle.policy_request.specs.NewNames.{is_new_name}
use Rattle.policy_request.specs.declared.language.Language.{Language}
use Rattle.policy_request.specs.declared.language.Language.TheVariants.{Rpl}
use Rattle.policy_sources.specs.Source.{Taken, Source, Policy, Loaded, Broken, NoPolicy, Outside, Loads, meaning, ios_source}
use Rattle.ios_reader.specs.Profile.{all_forms}
use Rattle.policy_program.specs.Expressible.{LacksFirst}
use Rattle.policy_program.specs.Results.{IsTranslation, outcome_text}
use Rattle.policy_program.specs.Lines.{place_in}
use Rattle.policy_program.specs.Answer.{Told, CannotRead, IsTooLong, IsBroken, HasNoPolicy, IsOutside, IsInexpressible, SpellsNoRoute, Result, Refusal, status_told, line_told, unwritten_line, memory_line}
use Rattle.policy_request.specs.Words.{Request, Translate, Judge}
use Rattle.policy_program.specs.Requests.{Input, inputs_of, file_in, IsUnsound, RightAnswer, IsTextOf, HasNoText}
use Rattle.policy_program.specs.Ends.{Shelves, Sinks, ReceivedNothing, ReceivedLine, Tells}
use Rattle.policy_sources.specs.declared.loads.LoadFault.{LoadFault}
use Rattle.policy_sources.specs.declared.loads.LoadFault.TheVariants as unloaded
use Rattle.policy_program.specs.declared.refusal.Fault.{Fault}
use Rattle.policy_program.specs.declared.refusal.Fault.TheVariants.{Refused, Memory}
use Rattle.policy_program.specs.declared.refusal.Told.{Told as ToldOf}
use Rattle.policy_program.specs.declared.refusal.Told.TheVariants as told
use Rattle.policy_program.specs.declared.request.Output.{Output}
use Rattle.policy_program.specs.declared.translation.TranslateFault.{TranslateFault}
use Rattle.policy_program.specs.declared.translation.TranslateFault.TheVariants as untranslated
use Rattle.policy_program.specs.declared.status.Status.{Status}
use Rattle.policy_program.specs.declared.status.Status.TheVariants.{WriteFailed, Memory as OutOfMemory}

-- what a refusal of the code tells
abbrev pub told_of : ToldOf → Told
told_of told.CannotRead = CannotRead
told_of told.IsTooLong = IsTooLong
told_of (told.IsBroken place kind) = IsBroken place kind
told_of (told.HasNoPolicy policy) = HasNoPolicy policy.now
told_of (told.IsOutside place cause) = IsOutside place cause
told_of (told.IsInexpressible place to kind) = IsInexpressible place to kind
told_of (told.SpellsNoRoute line) = SpellsNoRoute line

-- ---- refusing

-- why a policy of a source is not translated into a language: it does not load, or this is the first construct that the
-- language can't say
abbrev pub FailsToTranslate : Source → Language → TranslateFault → Type 0
FailsToTranslate source to (untranslated.Broken span kind) = Loads all_forms source (Broken span kind)
FailsToTranslate source to (untranslated.NoPolicy place) = Loads all_forms source (NoPolicy place)
FailsToTranslate source to (untranslated.Outside span cause) = Loads all_forms source (Outside span cause)
FailsToTranslate source to (untranslated.Inexpressible span kind) = (p : Policy) × Loads all_forms source (Loaded p) × LacksFirst p to (record { kind = kind; span = span })
FailsToTranslate source to untranslated.Memory = Unit {0}

-- what translation from IOS to RPL answers
abbrev pub TranslatesTo : List ℕ → List ℕ → List ℕ → Outcome (Vec ℕ Global) TranslateFault → Type 0
TranslatesTo text policy name (Ok written) = IsTranslation (ios_source policy text) Rpl name written.items
TranslatesTo text policy name (Err fault) = FailsToTranslate (ios_source policy text) Rpl fault

-- the fault of a translation that a fault of a load is
abbrev pub fault_of_load : LoadFault → TranslateFault
fault_of_load (unloaded.Broken span kind) = untranslated.Broken span kind
fault_of_load (unloaded.NoPolicy place) = untranslated.NoPolicy place
fault_of_load (unloaded.Outside span cause) = untranslated.Outside span cause
fault_of_load unloaded.Memory = untranslated.Memory

-- the fault refuses the file, and tells this of it
abbrev pub Refuses : Fault → List ℕ → Told → Type 0
Refuses (Refused r) file about = (r.file.now ≡ file) × (told_of r.told ≡ about)
Refuses Memory file about = ⊥

-- a fault of the load of a file with policies of these names and this text is told of it
abbrev pub TellsLoad : List ℕ → List (List ℕ) → List ℕ → LoadFault → Fault → Type 0
TellsLoad file names text (unloaded.Broken span kind) about = Refuses about file (IsBroken (place_in text span.start) kind)
TellsLoad file names text (unloaded.NoPolicy place) about = Refuses about file (HasNoPolicy (unwrap_or (slice_get names place) []))
TellsLoad file names text (unloaded.Outside span cause) about = Refuses about file (IsOutside (place_in text span.start) cause)
TellsLoad file names text unloaded.Memory about = about ≡ Memory

-- the same of a translation into a language
abbrev pub TellsTranslation : List ℕ → List (List ℕ) → List ℕ → Language → TranslateFault → Fault → Type 0
TellsTranslation file names text to (untranslated.Inexpressible span kind) about = Refuses about file (IsInexpressible (place_in text span.start) to kind)
TellsTranslation file names text to (untranslated.Broken span kind) about = TellsLoad file names text (unloaded.Broken span kind) about
TellsTranslation file names text to (untranslated.NoPolicy place) about = TellsLoad file names text (unloaded.NoPolicy place) about
TellsTranslation file names text to (untranslated.Outside span cause) about = TellsLoad file names text (unloaded.Outside span cause) about
TellsTranslation file names text to untranslated.Memory about = TellsLoad file names text unloaded.Memory about

-- the fault refuses a file of this text, which is not as it has to be, or it is want of memory
abbrev pub RefusesUnsound : Taken → Input → List ℕ → Fault → Type 0
RefusesUnsound taken input text (Refused r) = (r.file.now ≡ file_in input) × IsUnsound taken input text (told_of r.told)
RefusesUnsound taken input text Memory = Unit {0}

-- ---- answering

-- the text says what the policy makes of the route
abbrev pub TellsOutcome : Policy → RouteParts → List ℕ → Type 0
TellsOutcome policy r text = text ≡ outcome_text (meaning policy r)

-- the answer is right on these texts, or it is want of memory
abbrev pub AnswersOn : Request → List (List ℕ) → Outcome Output Fault → Type 0
AnswersOn q texts (Ok output) = RightAnswer q texts (Result output.status output.text.items)
AnswersOn q texts (Err (Refused r)) = RightAnswer q texts (Refusal r.file.now (told_of r.told))
AnswersOn q texts (Err Memory) = Unit {0}

-- a new name in the request is of its form
abbrev pub IsWellNamed : Request → Type 0
IsWellNamed (Translate t) = is_new_name t.name ≡ true
IsWellNamed (Judge j) = Unit {0}

-- ---- fetching

-- what a failed fetch tells of the file, by what the shelf says
abbrev pub FailsToFetch : ShelfView → ShelfView → List ℕ → Told → Type 0
FailsToFetch before now file CannotRead = FaultRose before now file
FailsToFetch before now file IsTooLong = SameFaults before now × HasNoText before.texts file IsTooLong
FailsToFetch before now file _ = ⊥

-- the text of a file, or why there is none
abbrev pub FetchesText : ShelfView → ShelfView → List ℕ → Outcome (Vec ℕ Global) Fault → Type 0
FetchesText before now file (Ok text) = SameFaults before now × IsTextOf before.texts file text.items
FetchesText before now file (Err (Refused r)) = (r.file.now ≡ file) × FailsToFetch before now file (told_of r.told)
FetchesText before now file (Err Memory) = SameFaults before now

-- what goes on where a text was fetched; where none was, that is the answer
abbrev pub GoesOn : (ShelfView → List ℕ → Type 0) → ShelfView → ShelfView → Outcome Output Fault → Outcome (Vec ℕ Global) Fault → Type 0
GoesOn on between now answer (Ok text) = on between text.items
GoesOn on between now answer (Err fault) = (now ≡ between) × (answer ≡ Err fault)

-- a file is fetched, and then it goes on
pub record Fetches (on : ShelfView → List ℕ → Type 0) (before now : ShelfView) (file : List ℕ) (answer : Outcome Output Fault) : Type 0 where
  pub fetched : Outcome (Vec ℕ Global) Fault
  pub between : ShelfView
  pub same_texts : between.texts ≡ before.texts
  pub fetch : FetchesText before between file fetched
  pub goes_on : GoesOn on between now answer fetched

-- the files are fetched one by one, and then it is answered on their texts
abbrev pub FetchesAll : (List (List ℕ) → Outcome Output Fault → Type 0) → ShelfView → ShelfView → List Input → Outcome Output Fault → Type 0
FetchesAll answers before now [] answer = (now ≡ before) × answers [] answer
FetchesAll answers before now (i ∷ is) answer = Fetches (λ between text. FetchesAll (λ ts. answers (text ∷ ts)) between now is answer) before now (file_in i) answer

-- ---- telling

-- a text was put, with the status of the result where it was put whole
abbrev pub TellsPut : Status → Sinks → Status → Outcome (Unit {0}) PutFault → Type 0
TellsPut right err status (Ok _) = (status ≡ right) × ReceivedNothing err
TellsPut right err status (Err Failed) = (status ≡ WriteFailed) × ReceivedLine err unwritten_line
TellsPut right err status (Err NoRoom) = (status ≡ OutOfMemory) × ReceivedLine err memory_line

-- a result is written, and what came of it told
pub record Writes (output : Output) (out err : Sinks) (status : Status) : Type 0 where
  pub put : Outcome (Unit {0}) PutFault
  pub puts : Puts out.before out.now output.text.items put
  pub told : TellsPut output.status err status put

-- an answer is told: a result is written, a refusal is one line on `err`
abbrev pub TellsAnswer : Sinks → Sinks → Status → Outcome Output Fault → Type 0
TellsAnswer out err status (Ok output) = Writes output out err status
TellsAnswer out err status (Err (Refused r)) = Tells out err status (status_told (told_of r.told)) (line_told r.file.now (told_of r.told))
TellsAnswer out err status (Err Memory) = Tells out err status OutOfMemory memory_line

-- a request was answered, and the answer told
pub record AnswersRequest (q : Request) (shelf : Shelves) (out err : Sinks) (status : Status) : Type 0 where
  pub answer : Outcome Output Fault
  pub comes : FetchesAll (AnswersOn q) shelf.before shelf.now (inputs_of q) answer
  pub told : TellsAnswer out err status answer
