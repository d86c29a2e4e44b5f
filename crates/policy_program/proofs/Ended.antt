-- What follows from how a run ends: the headline, exactness and completeness.
use Rattle.std.proofs.Common.{◌≡◌, ◌⊎◌, inl, inr, refl, sym, subst, ◌∙◌, ℕ, List, Option, Some, None}
use Rattle.std.specs.Prelude.{IfSome}
use Rattle.policy_outside.specs.Texts.{Texts}
use Rattle.policy_request.specs.Words.{Request, Accepts, IsRefused}
use Rattle.policy_program.specs.Answer.{Told, CannotRead, IsTooLong, IsBroken, HasNoPolicy, IsOutside, IsInexpressible, SpellsNoRoute, Answer, Result, Refusal, status_of, status_told}
use Rattle.policy_program.specs.Requests.{inputs_of, IsResult, IsAtTurn, IsDue}
use Rattle.policy_program.specs.Ends.{Shelves, Sinks, Ends, by_words, by_fetch, refused, written, unwritten, by_memory}
use Rattle.policy_program.specs.Run.{WritesResult, IsComplete, IsStatusFor, IsExact}
use Rattle.policy_program.specs.declared.status.Status.{Status}
use Rattle.policy_program.specs.declared.status.Status.TheVariants.{Done, Usage, FetchFailed, WriteFailed, Memory}
use Rattle.policy_program.proofs.Due.{result_sound, served_not, one_status}
use Rattle.policy_request.proofs.Words.{accepted_once}

-- a refusal is neither Done nor Usage
not_done : (about : Told) → status_told about ≡ Done → ⊥
not_done CannotRead e = cc
not_done IsTooLong e = cc
not_done (IsBroken place kind) e = cc
not_done (HasNoPolicy policy) e = cc
not_done (IsOutside place cause) e = cc
not_done (IsInexpressible place to kind) e = cc
not_done (SpellsNoRoute line) e = cc

not_usage : (about : Told) → status_told about ≡ Usage → ⊥
not_usage CannotRead e = cc
not_usage IsTooLong e = cc
not_usage (IsBroken place kind) e = cc
not_usage (HasNoPolicy policy) e = cc
not_usage (IsOutside place cause) e = cc
not_usage (IsInexpressible place to kind) e = cc
not_usage (SpellsNoRoute line) e = cc

-- two statuses that are not the same
clash : {status one other : Status} → status ≡ one → status ≡ other → one ≡ other
clash is too = sym is ∙ too

-- the status of a result that is due is Done
due_done : (told : Option Texts) (q : Request) (status : Status) (text : List ℕ) → IsDue told q (Result status text) → status ≡ Done
due_done told q status text due = (result_sound q due.texts status text due.right).1

-- a run that is done wrote a right result
pub headline : (words : List (List ℕ)) (shelf : Shelves) (out err : Sinks) (status : Status) → Ends words shelf out err status → status ≡ Done → WritesResult words shelf out
headline words shelf out err status (by_words none same told) is = let no = clash told.is is in absurd cc
headline words shelf out err status (by_fetch q file accepted turn rose told) is = let no = clash told.is is in absurd cc
headline words shelf out err status (refused file about answered told) is = absurd (not_done about (clash told.is is))
headline words shelf out err status (unwritten cut failed rose line) is = let no = clash failed is in absurd cc
headline words shelf out err status (by_memory same what short line) is = let no = clash short is in absurd cc
headline words shelf out err status (written text answered received nothing) is = record {
  request = answered.request;
  accepted = answered.accepted;
  texts = answered.due.texts;
  given = answered.due.given;
  text = text;
  right = subst (λ (s : Status). IsResult answered.request answered.due.texts s text) is answered.due.right;
  received = received;
}

-- ---- exactness

usage : (words : List (List ℕ)) (shelf : Shelves) (out err : Sinks) (status : Status) → Ends words shelf out err status → status ≡ Usage → IsRefused words
usage words shelf out err status (by_words none same told) is = none
usage words shelf out err status (by_fetch q file accepted turn rose told) is = let no = clash told.is is in absurd cc
usage words shelf out err status (refused file about answered told) is = absurd (not_usage about (clash told.is is))
usage words shelf out err status (written text answered received nothing) is = let no = clash (due_done shelf.before.texts answered.request status text answered.due) is in absurd cc
usage words shelf out err status (unwritten cut failed rose line) is = let no = clash failed is in absurd cc
usage words shelf out err status (by_memory same what short line) is = let no = clash short is in absurd cc

refused_ends : (words : List (List ℕ)) (shelf : Shelves) (out err : Sinks) (status : Status) → Ends words shelf out err status → IsRefused words → (status ≡ Usage) ⊎ (status ≡ Memory)
refused_ends words shelf out err status (by_words because same told) none = inl told.is
refused_ends words shelf out err status (by_fetch q file accepted turn rose told) none = absurd (none q accepted)
refused_ends words shelf out err status (refused file about answered told) none = absurd (none answered.request answered.accepted)
refused_ends words shelf out err status (written text answered received nothing) none = absurd (none answered.request answered.accepted)
refused_ends words shelf out err status (unwritten cut failed rose line) none = absurd (none cut.answered.request cut.answered.accepted)
refused_ends words shelf out err status (by_memory same what short line) none = inr short

own : (answer : Answer) (status : Status) → status ≡ status_of answer → IsStatusFor answer status
own (Result right text) status is = inl is
own (Refusal file about) status is = inl is

fetch_failed : (answer : Answer) (status : Status) → status ≡ FetchFailed → IsStatusFor answer status
fetch_failed (Result right text) status is = inr (inl is)
fetch_failed (Refusal file about) status is = inr (inl is)

memory : (answer : Answer) (status : Status) → status ≡ Memory → IsStatusFor answer status
memory (Result right text) status is = inr (inr (inl is))
memory (Refusal file about) status is = inr (inr is)

write_failed : (answer : Answer) (status : Status) → status ≡ WriteFailed → status_of answer ≡ Done → IsStatusFor answer status
write_failed (Result right text) status is done = inr (inr (inr is))
write_failed (Refusal file about) status is done = absurd (not_done about done)

-- what is due to the request of a run is due to the one that is asked about, which is the same
moved : (words : List (List ℕ)) (shelf : Shelves) (texts : Texts) (p q : Request) (answer : Answer) → shelf.before.texts ≡ Some texts → Accepts words p → Accepts words q → IsDue shelf.before.texts p answer
    → IsDue (Some texts) q answer
moved words shelf texts p q answer tells first second due =
    subst (λ (r : Request). IsDue (Some texts) r answer) (accepted_once words p q first second) (subst (λ (o : Option Texts). IsDue o p answer) tells due)

right : (words : List (List ℕ)) (shelf : Shelves) (out err : Sinks) (status : Status) (texts : Texts) (q : Request) (answer : Answer) → Ends words shelf out err status → shelf.before.texts ≡ Some texts
    → Accepts words q → IsDue (Some texts) q answer → IsStatusFor answer status
right words shelf out err status texts q answer (by_words none same told) tells accepted due = absurd (none q accepted)
right words shelf out err status texts q answer (by_fetch p file there turn rose told) tells accepted due = fetch_failed answer status told.is
right words shelf out err status texts q answer (by_memory same what short line) tells accepted due = memory answer status short
right words shelf out err status texts q answer (refused file about answered told) tells accepted due =
    let there = moved words shelf texts answered.request q (Refusal file about) tells answered.accepted accepted answered.due in
    own answer status (told.is ∙ one_status texts q (Refusal file about) answer there due)
right words shelf out err status texts q answer (written text answered received nothing) tells accepted due =
    let there = moved words shelf texts answered.request q (Result status text) tells answered.accepted accepted answered.due in
    own answer status (one_status texts q (Result status text) answer there due)
right words shelf out err status texts q answer (unwritten cut failed rose line) tells accepted due =
    let there = moved words shelf texts cut.answered.request q (Result cut.right cut.text) tells cut.answered.accepted accepted cut.answered.due in
    write_failed answer status failed (one_status texts q answer (Result cut.right cut.text) due there ∙ due_done (Some texts) q cut.right cut.text there)

pub exact : (words : List (List ℕ)) (shelf : Shelves) (out err : Sinks) (status : Status) → Ends words shelf out err status → IsExact words shelf.before.texts status
exact words shelf out err status ends = record { usage = usage words shelf out err status ends; refused = refused_ends words shelf out err status ends; right = go shelf.before.texts refl }
  where
    go : (o : Option Texts) → shelf.before.texts ≡ o → IfSome o (λ texts. (q : Request) → Accepts words q → (answer : Answer) → IsDue (Some texts) q answer → IsStatusFor answer status)
    go None tells = tt
    go (Some texts) tells = λ q accepted answer due. right words shelf out err status texts q answer ends tells accepted due

-- ---- completeness

-- a request that is served gets its result
pub complete : (words : List (List ℕ)) (shelf : Shelves) (out err : Sinks) (status : Status) → Ends words shelf out err status → IsComplete words shelf out status
complete words shelf out err status (by_words none same told) texts tells q accepted served = absurd (none q accepted)
complete words shelf out err status (by_fetch p file there turn rose told) texts tells q accepted served =
    inr (inl (told.is, (file, subst (λ (r : Request). IsAtTurn shelf.before.texts (inputs_of r) file) (accepted_once words p q there accepted) turn, rose)))
complete words shelf out err status (refused file about answered told) texts tells q accepted served =
    absurd (served_not texts q file about served (moved words shelf texts answered.request q (Refusal file about) tells answered.accepted accepted answered.due))
complete words shelf out err status (written text answered received nothing) texts tells q accepted served =
    inl (text, subst (λ (r : Request). IsDue shelf.before.texts r (Result status text)) (accepted_once words answered.request q answered.accepted accepted) answered.due, received)
complete words shelf out err status (unwritten cut failed rose line) texts tells q accepted served = inr (inr (inl (failed, rose)))
complete words shelf out err status (by_memory same what short line) texts tells q accepted served = inr (inr (inr short))
