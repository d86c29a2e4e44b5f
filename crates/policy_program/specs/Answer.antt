-- The answers to a request, each with its status and its line on `err`: a status is one row here.
use Rattle.std.specs.Prelude.{ℕ, List, [], ◌∷◌, codes, decimal}
use Rattle.policy_outside.specs.Sink.{joined}
use Rattle.text_words.specs.declared.fault.BrokenKind.{BrokenKind}
use Rattle.text_words.specs.declared.fault.BrokenKind.TheVariants.{OpenQuote, OpenComment, OpenBrace, StrayBrace, NoEnder, Misplaced, Unended}
use Rattle.policy_text.specs.declared.fault.Cause.{Cause}
use Rattle.policy_text.specs.CauseNames.{cause_name}
use Rattle.expressible_table.specs.KindNames.{kind_name as construct_name}
use Rattle.expressible_table.specs.declared.kind.Kind.{Kind}
use Rattle.policy_request.specs.declared.language.Language.{Language}
use Rattle.policy_request.specs.declared.language.Language.TheVariants.{Ios, Junos, Rpl}
use Rattle.policy_program.specs.declared.place.Place.{Place}
use Rattle.policy_program.specs.declared.status.Status.{Status}
use Rattle.policy_program.specs.declared.status.Status.TheVariants.{Done, Same, Differ, Usage, Broken, NoPolicy, Outside, Inexpressible, FetchFailed, TooLong, WriteFailed, Memory, RouteRefused}

-- the number that the process ends with
abbrev pub number_of : Status → ℕ
number_of Done = 0
number_of Same = 0
number_of Differ = 1
number_of Usage = 2
number_of Broken = 3
number_of NoPolicy = 4
number_of Outside = 4
number_of Inexpressible = 5
number_of FetchFailed = 6
number_of TooLong = 7
number_of WriteFailed = 8
number_of Memory = 9
number_of RouteRefused = 10

-- what a refusal tells of a file
pub data Told : Type 0 where
  CannotRead : Told
  IsTooLong : Told
  -- it is broken here, so that it has no tree
  IsBroken : Place → BrokenKind → Told
  -- it has no policy of this name
  HasNoPolicy : List ℕ → Told
  IsOutside : Place → Cause → Told
  -- the language can't say its policy; the place and the kind of the first construct that can't be said
  IsInexpressible : Place → Language → Kind → Told
  -- it spells no route; the number of its first line that is not the form
  SpellsNoRoute : ℕ → Told

-- a result with its status and its text, or a refusal with its file and what it tells of it
pub data Answer : Type 0 where
  Result : Status → List ℕ → Answer
  Refusal : List ℕ → Told → Answer

-- the status of a refusal
abbrev pub status_told : Told → Status
status_told CannotRead = FetchFailed
status_told IsTooLong = TooLong
status_told (IsBroken place kind) = Broken
status_told (HasNoPolicy policy) = NoPolicy
status_told (IsOutside place cause) = Outside
status_told (IsInexpressible place to kind) = Inexpressible
status_told (SpellsNoRoute line) = RouteRefused

-- the name of a kind of breaks as it is printed
abbrev pub kind_name : BrokenKind → List ℕ
kind_name OpenQuote = codes "open-quote"
kind_name OpenComment = codes "open-comment"
kind_name OpenBrace = codes "open-brace"
kind_name StrayBrace = codes "stray-brace"
kind_name NoEnder = codes "no-ender"
kind_name Misplaced = codes "misplaced"
kind_name Unended = codes "unended"

-- what stands before the kind of a construct that the language can't say
abbrev pub missing_in : Language → List ℕ
missing_in Ios = codes ": inexpressible in ios: "
missing_in Junos = codes ": inexpressible in junos: "
missing_in Rpl = codes ": inexpressible in rpl: "

-- the line of what is told of a place of the file
abbrev pub place_line : List ℕ → Place → List ℕ → List ℕ → List ℕ
place_line file place sort name = joined (file ∷ codes ":" ∷ decimal place.line ∷ codes ":" ∷ decimal place.column ∷ sort ∷ name ∷ codes "\n" ∷ [])

-- the line of a refusal
abbrev pub line_told : List ℕ → Told → List ℕ
line_told file CannotRead = joined (file ∷ codes ": cannot be read\n" ∷ [])
line_told file IsTooLong = joined (file ∷ codes ": longer than 16777216 bytes\n" ∷ [])
line_told file (IsBroken place kind) = place_line file place (codes ": broken: ") (kind_name kind)
line_told file (HasNoPolicy policy) = joined (file ∷ codes ": no policy " ∷ policy ∷ codes "\n" ∷ [])
line_told file (IsOutside place cause) = place_line file place (codes ": outside: ") (cause_name cause)
line_told file (IsInexpressible place to kind) = place_line file place (missing_in to) (construct_name kind)
line_told file (SpellsNoRoute line) = joined (file ∷ codes ":" ∷ decimal line ∷ codes ": not a route\n" ∷ [])

-- the status of an answer
abbrev pub status_of : Answer → Status
status_of (Result status text) = status
status_of (Refusal file told) = status_told told

-- the lines that tell of no file: words that ask for nothing, output that is not taken, and want of memory
abbrev pub usage_line : List ℕ
usage_line = codes "usage: translate, judge, compare or sample\n"

abbrev pub unwritten_line : List ℕ
unwritten_line = codes "output cannot be written\n"

abbrev pub memory_line : List ℕ
memory_line = codes "out of memory\n"
