-- A request as data: its files in the order in which they are fetched, what is read of each, and its right answer.
use Rattle.std.specs.Prelude.{◌≡◌, ℕ, ◌≤◌, ◌⊎◌, List, [], ◌∷◌, length, Option, Some, None, slice_get, unwrap_or}
use Rattle.policy_outside.specs.Texts.{Texts, text_at, IsTold, IsLonger}
use Rattle.route_types.specs.Route.{RouteParts}
use Rattle.route_types.specs.RouteText.{SpellsRoute, IsFirstBadLine}
use Rattle.ios_reader.specs.Profile.{all_forms}
use Rattle.expressible_table.specs.declared.construct.Construct.{Construct}
use Rattle.policy_sources.specs.Source.{Taken, Source, Policy, Load, Loaded, Broken, NoPolicy, Outside, Loads, source_in, ios_source}
use Rattle.policy_program.specs.Expressible.{IsExpressible, LacksFirst}
use Rattle.policy_program.specs.Lines.{place_in}
use Rattle.policy_program.specs.Answer.{Told, CannotRead, IsTooLong, IsBroken, HasNoPolicy, IsOutside, IsInexpressible, SpellsNoRoute, Answer, Result, Refusal}
use Rattle.policy_program.specs.Results.{IsTranslation, IsJudgement}
use Rattle.policy_request.specs.Languages.{names_in}
use Rattle.policy_request.specs.Words.{Request, Translate, JudgeParts, Judge}
use Rattle.policy_request.specs.declared.language.Language.{Language}
use Rattle.policy_request.specs.declared.language.Language.TheVariants.{Ios, Rpl}
use Rattle.policy_program.specs.declared.status.Status.{Status}
use Rattle.policy_program.specs.declared.status.Status.TheVariants.{Done}

-- a file of a request: one with a policy in a language under these names, or one with a route
pub data Input : Type 0 where
  PolicyFile : List ℕ → Language → List (List ℕ) → Input
  RouteFile : List ℕ → Input

-- the file whose policy judge is asked about
abbrev pub judged_file : JudgeParts → Input
judged_file j = PolicyFile j.file j.language (names_in j.language j.policy)

-- the files of a request, in the order in which they are fetched and then looked at
abbrev pub inputs_of : Request → List Input
inputs_of (Translate t) = PolicyFile t.file Ios (t.policy ∷ []) ∷ []
inputs_of (Judge j) = judged_file j ∷ RouteFile j.route_file ∷ []

-- the text is the result of a request on the texts of its files, with this status
abbrev pub IsResult : Request → List (List ℕ) → Status → List ℕ → Type 0
IsResult (Translate t) (source ∷ []) status text = (status ≡ Done) × IsTranslation (ios_source t.policy source) Rpl t.name text
IsResult (Judge j) (source ∷ route ∷ []) status text = (status ≡ Done) × IsJudgement (source_in j.language j.policy source) route text
IsResult q texts status text = ⊥

-- the forms of statements that the verb takes
abbrev pub taken_by : Request → Taken
taken_by (Translate t) = all_forms
taken_by (Judge j) = all_forms

-- ---- what is read of a file

abbrev pub file_in : Input → List ℕ
file_in (PolicyFile file language names) = file
file_in (RouteFile file) = file

-- what a load tells of its file, where it is no policy
abbrev pub told_by : Source → Load → Option Told
told_by source (Loaded policy) = None
told_by source (Broken span kind) = Some (IsBroken (place_in source.text span.start) kind)
told_by source (NoPolicy place) = Some (HasNoPolicy (unwrap_or (slice_get source.names place) []))
told_by source (Outside span cause) = Some (IsOutside (place_in source.text span.start) cause)

-- the text of the file is as it has to be: it loads, or it spells a route
abbrev pub IsSound : Taken → Input → List ℕ → Type 0
IsSound taken (PolicyFile file language names) text = (p : Policy) × Loads taken (record { language = language; names = names; text = text }) (Loaded p)
IsSound taken (RouteFile file) text = (r : RouteParts) × SpellsRoute text r

-- it is not, and this is what is told
abbrev pub IsUnsound : Taken → Input → List ℕ → Told → Type 0
IsUnsound taken (PolicyFile file language names) text told =
    let source : Source = record { language = language; names = names; text = text } in (load : Load) × Loads taken source load × (told_by source load ≡ Some told)
IsUnsound taken (RouteFile file) text told = (line : ℕ) × (told ≡ SpellsNoRoute line) × IsFirstBadLine text line

-- the first file that is not as it has to be, those before it being so
abbrev pub IsFirstUnsound : Taken → List Input → List (List ℕ) → List ℕ → Told → Type 0
IsFirstUnsound taken (i ∷ is) (t ∷ ts) file told = ((file ≡ file_in i) × IsUnsound taken i t told) ⊎ (IsSound taken i t × IsFirstUnsound taken is ts file told)
IsFirstUnsound taken is ts file told = ⊥

-- every file is as it has to be
abbrev pub AreSound : Taken → List Input → List (List ℕ) → Type 0
AreSound taken [] [] = Unit {0}
AreSound taken (i ∷ is) (t ∷ ts) = IsSound taken i t × AreSound taken is ts
AreSound taken is ts = ⊥

-- ---- what can be said

-- the source loads, and the language can say its policy
abbrev pub CanSay : Source → Language → Type 0
CanSay source to = (p : Policy) × Loads all_forms source (Loaded p) × IsExpressible p to

-- the source loads, and this is told of the first construct of its policy that the language can't say
pub record CannotSay (source : Source) (to : Language) (told : Told) : Type 0 where
  pub policy : Policy
  pub loads : Loads all_forms source (Loaded policy)
  pub missing : Construct
  pub lacks : LacksFirst policy to missing
  pub is : told ≡ IsInexpressible (place_in source.text missing.span.start) to missing.kind

-- what the request is to say can be said in its target; judge says nothing in another language
abbrev pub IsSayable : Request → List (List ℕ) → Type 0
IsSayable (Translate t) (source ∷ []) = CanSay (ios_source t.policy source) Rpl
IsSayable (Translate t) texts = ⊥
IsSayable (Judge j) texts = Unit {0}

-- it can't, and this is told of the file
abbrev pub IsUnsayable : Request → List (List ℕ) → List ℕ → Told → Type 0
IsUnsayable (Translate t) (source ∷ []) file told = (file ≡ t.file) × CannotSay (ios_source t.policy source) Rpl told
IsUnsayable q texts file told = ⊥

-- ---- the right answer

-- on the texts of the files: the refusal of the first that is not as it has to be; or else of what can't be said; or else the
-- result
abbrev pub RightAnswer : Request → List (List ℕ) → Answer → Type 0
RightAnswer q texts (Result status text) = IsResult q texts status text
RightAnswer q texts (Refusal file told) = IsFirstUnsound (taken_by q) (inputs_of q) texts file told ⊎ IsUnsayable q texts file told

-- the greatest length of a source or a route file, in bytes
abbrev pub most_bytes : ℕ
most_bytes = 16777216

-- a text of at most the greatest length stands under the file, where the shelf tells its texts
pub record IsTextOf (told : Option Texts) (file text : List ℕ) : Type 0 where
  pub is_told : IsTold told file text
  pub within : length text ≤ most_bytes

-- none does, where the shelf tells: there is none, or it is longer
abbrev pub HasNoText : Option Texts → List ℕ → Told → Type 0
HasNoText None file IsTooLong = Unit {0}
HasNoText (Some texts) file CannotRead = text_at texts file ≡ None
HasNoText (Some texts) file IsTooLong = IsLonger texts file most_bytes
HasNoText told file _ = ⊥

-- these are the texts of the files, one by one
abbrev pub AreTextsOf : Option Texts → List Input → List (List ℕ) → Type 0
AreTextsOf told [] [] = Unit {0}
AreTextsOf told (i ∷ is) (t ∷ ts) = IsTextOf told (file_in i) t × AreTextsOf told is ts
AreTextsOf told is ts = ⊥

-- the file is fetched at its turn: those before it have a text
abbrev pub IsAtTurn : Option Texts → List Input → List ℕ → Type 0
IsAtTurn told [] file = ⊥
IsAtTurn told (i ∷ is) file = (file ≡ file_in i) ⊎ ((t : List ℕ) × IsTextOf told (file_in i) t × IsAtTurn told is file)

-- the answer is right on the texts of all files
pub record IsAnswer (told : Option Texts) (q : Request) (answer : Answer) : Type 0 where
  pub texts : List (List ℕ)
  pub given : AreTextsOf told (inputs_of q) texts
  pub right : RightAnswer q texts answer

-- the answer that is due to a request by the texts of a shelf: all files are fetched, and then they are looked at
abbrev pub IsDue : Option Texts → Request → Answer → Type 0
IsDue told q (Result status text) = IsAnswer told q (Result status text)
IsDue told q (Refusal file about) = (IsAtTurn told (inputs_of q) file × HasNoText told file about) ⊎ IsAnswer told q (Refusal file about)

-- every file of the request has a text that is as it has to be, and the target can say what it is to say
pub record IsServed (told : Option Texts) (q : Request) : Type 0 where
  pub texts : List (List ℕ)
  pub given : AreTextsOf told (inputs_of q) texts
  pub sound : AreSound (taken_by q) (inputs_of q) texts
  pub sayable : IsSayable q texts
