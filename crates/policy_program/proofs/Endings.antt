-- From how the layers of a run end to how the run ends.
use Rattle.std.proofs.Common.{◌≡◌, ◌⊎◌, refl, inl, inr, sym, subst, ◌∙◌, ℕ, true, List, [], ◌∷◌, Option, Some, None, Ok, Err}
use Rattle.std.specs.Prelude.{Result as Outcome, Vec, option_map}
use Rattle.std.specs.declared.alloc.Global.{Global}
use Rattle.policy_outside.specs.declared.faults.PutFault.{PutFault}
use Rattle.policy_outside.specs.declared.faults.PutFault.TheVariants.{Failed, Memory as NoRoom}
use Rattle.policy_outside.specs.Counts.{Rose}
use Rattle.policy_outside.specs.Texts.{Texts}
use Rattle.policy_outside.specs.Shelf.{ShelfView, SameFaults, FaultRose}
use Rattle.policy_outside.specs.Sink.{Puts}
use Rattle.policy_request.specs.NewNames.{is_new_name}
use Rattle.policy_program.specs.Answer.{Told, CannotRead, IsTooLong, IsBroken, HasNoPolicy, IsOutside, IsInexpressible, SpellsNoRoute, Result, status_told, line_told}
use Rattle.policy_request.specs.Languages.{language_in}
use Rattle.policy_request.specs.Words.{Verb, Translates, Judges, Request, TranslateParts, Translate, Judge, request_by, slots, app_of_verb, AreValues, Accepts}
use Rattle.policy_program.specs.Requests.{Input, inputs_of, file_in, IsTextOf, HasNoText, AreTextsOf, IsAtTurn, IsDue}
use Rattle.policy_program.specs.Ends.{Shelves, Sinks, Ends, by_fetch, refused, written, unwritten, by_memory, Tells}
use Rattle.policy_program.specs.Layers.{told_of, AnswersOn, IsWellNamed, FailsToFetch, FetchesText, GoesOn, FetchesAll, TellsPut, TellsAnswer, AnswersRequest}
use Rattle.policy_request.specs.declared.language.Language.{Language}
use Rattle.policy_program.specs.declared.refusal.Fault.{Fault}
use Rattle.policy_program.specs.declared.refusal.Fault.TheVariants.{Refused, Memory}
use Rattle.policy_program.specs.declared.request.Output.{Output}
use Rattle.policy_program.specs.declared.status.Status.{Status}

same_since : (before between now : ShelfView) → SameFaults before between → SameFaults between now → SameFaults before now
same_since before between now same again = record { count = again.count ∙ same.count; name = again.name ∙ same.name }

-- a fault that rose behind a state in which none had risen
rose_since : (before between now : ShelfView) (file : List ℕ) → SameFaults before between → FaultRose between now file → FaultRose before now file
rose_since before between now file same rose = record { count = subst (λ (n : ℕ). Rose n now.faults) same.count rose.count; named = rose.named }

-- ---- fetching

-- the fetch of a file failed, or no text stands under it
abbrev Misses : Option Texts → ShelfView → ShelfView → List ℕ → Told → Type 0
Misses told before now file about = (FaultRose before now file × (about ≡ CannotRead)) ⊎ (SameFaults before now × HasNoText told file about)

missed : (before now : ShelfView) (file : List ℕ) (about : Told) → FailsToFetch before now file about → Misses before.texts before now file about
missed before now file CannotRead fails = inl (fails, refl)
missed before now file IsTooLong fails = inr fails
missed before now file (IsBroken place kind) fails = absurd fails
missed before now file (HasNoPolicy policy) fails = absurd fails
missed before now file (IsOutside place cause) fails = absurd fails
missed before now file (IsInexpressible place to kind) fails = absurd fails
missed before now file (SpellsNoRoute line) fails = absurd fails

-- a file at its turn was missed, or memory was short
abbrev Unfetched : Option Texts → ShelfView → ShelfView → List Input → Outcome Output Fault → Type 0
Unfetched told before now is (Ok output) = ⊥
Unfetched told before now is (Err (Refused r)) = IsAtTurn told is r.file.now × Misses told before now r.file.now (told_of r.told)
Unfetched told before now is (Err Memory) = SameFaults before now

-- all texts were fetched and answered on, or a file was not fetched
abbrev Gathers : Option Texts → ShelfView → ShelfView → List Input → (List (List ℕ) → Outcome Output Fault → Type 0) → Outcome Output Fault → Type 0
Gathers told before now is answers answer = (SameFaults before now × ((ts : List (List ℕ)) × AreTextsOf told is ts × answers ts answer)) ⊎ Unfetched told before now is answer

later : (told : Option Texts) (before between now : ShelfView) (i : Input) (is : List Input) (t : List ℕ) (answer : Outcome Output Fault) → IsTextOf told (file_in i) t → SameFaults before between
    → Unfetched told between now is answer → Unfetched told before now (i ∷ is) answer
later told before between now i is t (Ok output) is_text same none = none
later told before between now i is t (Err Memory) is_text same none = same_since before between now same none
later told before between now i is t (Err (Refused r)) is_text same none = (
  inr (t, is_text, none.0),
  elim none.1 [
    | inl rose ↦ inl (rose_since before between now r.file.now same rose.0, rose.1)
    | inr fits ↦ inr (same_since before between now same fits.0, fits.1)
  ],
)

-- the first of the files was fetched, or not
gathers_on : (told : Option Texts) (answers : List (List ℕ) → Outcome Output Fault → Type 0) (before between now : ShelfView) (i : Input) (is : List Input) (answer : Outcome Output Fault) (fetched : Outcome (Vec ℕ Global) Fault)
    → before.texts ≡ told → FetchesText before between (file_in i) fetched
    → ((text : List ℕ) → FetchesAll (λ ts. answers (text ∷ ts)) between now is answer → Gathers told between now is (λ ts. answers (text ∷ ts)) answer)
    → GoesOn (λ between text. FetchesAll (λ ts. answers (text ∷ ts)) between now is answer) between now answer fetched
    → Gathers told before now (i ∷ is) answers answer
gathers_on told answers before between now i is answer (Ok text) tells fetch others goes =
    let is_text : IsTextOf told (file_in i) text.items = subst (λ (o : Option Texts). IsTextOf o (file_in i) text.items) tells fetch.1 in
    elim (others text.items goes) [
      | inl all ↦ inl (same_since before between now fetch.0 all.0, (text.items ∷ all.1.0, (is_text, all.1.1), all.1.2))
      | inr none ↦ inr (later told before between now i is text.items answer is_text fetch.0 none)
    ]
gathers_on told answers before between now i is answer (Err Memory) tells fetch others goes =
    inr (subst (λ (a : Outcome Output Fault). Unfetched told before now (i ∷ is) a) (sym goes.1) (subst (λ (s : ShelfView). SameFaults before s) (sym goes.0) fetch))
gathers_on told answers before between now i is answer (Err (Refused r)) tells fetch others goes =
    inr (subst (λ (a : Outcome Output Fault). Unfetched told before now (i ∷ is) a) (sym goes.1) (
      inl fetch.0,
      subst (λ (f : List ℕ). Misses told before now f (told_of r.told)) (sym fetch.0)
          (subst (λ (s : ShelfView). Misses told before s (file_in i) (told_of r.told)) (sym goes.0)
          (subst (λ (o : Option Texts). Misses o before between (file_in i) (told_of r.told)) tells (missed before between (file_in i) (told_of r.told) fetch.1))),
    ))

gathers : (told : Option Texts) (answers : List (List ℕ) → Outcome Output Fault → Type 0) (before now : ShelfView) (is : List Input) (answer : Outcome Output Fault) → before.texts ≡ told → FetchesAll answers before now is answer
    → Gathers told before now is answers answer
gathers told answers before now [] answer tells f = inl (subst (λ (s : ShelfView). SameFaults before s) (sym f.0) (record { count = refl; name = refl }), ([], tt, f.1))
gathers told answers before now (i ∷ is) answer tells f =
    gathers_on told answers before f.between now i is answer f.fetched tells f.fetch
    (λ text all. gathers told (λ ts. answers (text ∷ ts)) f.between now is answer (f.same_texts ∙ tells) all)
    f.goes_on

-- ---- telling

-- a result that was written, or was to be
ends_written : (words : List (List ℕ)) (q : Request) (shelf : Shelves) (out err : Sinks) (output : Output) (status : Status) (put : Outcome (Unit {0}) PutFault)
    → Accepts words q → SameFaults shelf.before shelf.now → IsDue shelf.before.texts q (Result output.status output.text.items) → Puts out.before out.now output.text.items put → TellsPut output.status err status put
    → Ends words shelf out err status
ends_written words q shelf out err output status (Ok done) accepted same due puts told =
    let here = subst (λ (s : Status). IsDue shelf.before.texts q (Result s output.text.items)) (sym told.0) due in
    written output.text.items (record { request = q; accepted = accepted; no_fault = same; due = here }) puts.whole told.1
ends_written words q shelf out err output status (Err Failed) accepted same due puts told =
    unwritten (record { right = output.status; text = output.text.items; answered = record { request = q; accepted = accepted; no_fault = same; due = due }; written = puts.prefix })
    told.0 (puts.failed refl) told.1
ends_written words q shelf out err output status (Err NoRoom) accepted same due puts told =
    by_memory same (inr (
      record { right = output.status; text = output.text.items; answered = record { request = q; accepted = accepted; no_fault = same; due = due }; written = puts.prefix },
      puts.memory refl,
    )) told.0 told.1

-- an answer that was told
ends_told : (words : List (List ℕ)) (q : Request) (shelf : Shelves) (out err : Sinks) (status : Status) (answer : Outcome Output Fault)
    → Accepts words q → Gathers shelf.before.texts shelf.before shelf.now (inputs_of q) (AnswersOn q) answer → TellsAnswer out err status answer
    → Ends words shelf out err status
ends_told words q shelf out err status (Ok output) accepted (inl all) told =
    ends_written words q shelf out err output status told.put accepted all.0 (record { texts = all.1.0; given = all.1.1; right = all.1.2 }) told.puts told.told
ends_told words q shelf out err status (Ok output) accepted (inr none) told = absurd none
ends_told words q shelf out err status (Err Memory) accepted (inl all) told = by_memory all.0 (inl told.out_empty) told.is told.line_put
ends_told words q shelf out err status (Err Memory) accepted (inr none) told = by_memory none (inl told.out_empty) told.is told.line_put
ends_told words q shelf out err status (Err (Refused r)) accepted (inl all) told =
    refused r.file.now (told_of r.told) (record { request = q; accepted = accepted; no_fault = all.0; due = inr (record { texts = all.1.0; given = all.1.1; right = all.1.2 }) }) told
ends_told words q shelf out err status (Err (Refused r)) accepted (inr (turn, inl rose)) told =
    by_fetch q r.file.now accepted turn rose.0 (subst (λ (about : Told). Tells out err status (status_told about) (line_told r.file.now about)) rose.1 told)
ends_told words q shelf out err status (Err (Refused r)) accepted (inr (turn, inr fits)) told =
    refused r.file.now (told_of r.told) (record { request = q; accepted = accepted; no_fault = fits.0; due = inl (turn, fits.1) }) told

-- a request that was answered is how a run of its words ends
pub ends_request : (words : List (List ℕ)) (q : Request) (shelf : Shelves) (out err : Sinks) (status : Status)
    → Accepts words q → AnswersRequest q shelf out err status → Ends words shelf out err status
ends_request words q shelf out err status accepted answers =
    ends_told words q shelf out err status answers.answer accepted
    (gathers shelf.before.texts (AnswersOn q) shelf.before shelf.now (inputs_of q) answers.answer refl answers.comes) answers.told

-- ---- the new name

not_translation : (language : Option Language) (policy file route : List ℕ) (t : TranslateParts)
    → option_map (λ l. Judge (record { language = l; policy = policy; file = file; route_file = route })) language ≡ Some (Translate t) → ⊥
not_translation None policy file route t e = absurd cc
not_translation (Some l) policy file route t e = absurd cc

-- accepted words name a new policy by its form
pub well_named : (words : List (List ℕ)) (q : Request) → Accepts words q → IsWellNamed q
well_named words (Judge j) a = tt
well_named words (Translate t) a = by a.verb a.values a.formed a.makes
  where
    by : (verb : Verb) (vs : List (List ℕ)) → AreValues (app_of_verb verb) words (slots verb) vs → request_by verb vs ≡ Some (Translate t) → is_new_name t.name ≡ true
    by Translates [] v e = absurd v
    by Translates (x ∷ []) v e = absurd v.2
    by Translates (x ∷ policy ∷ []) v e = absurd v.2.2
    by Translates (x ∷ policy ∷ y ∷ []) v e = absurd v.2.2.2
    by Translates (x ∷ policy ∷ y ∷ name ∷ []) v e = absurd v.2.2.2.2
    by Translates (x ∷ policy ∷ y ∷ name ∷ file ∷ []) v e = let same : name ≡ t.name = cc in subst (λ (n : List ℕ). is_new_name n ≡ true) same v.2.2.2.1
    by Translates (x ∷ policy ∷ y ∷ name ∷ file ∷ other ∷ vs) v e = absurd v.2.2.2.2.2
    by Judges [] v e = absurd v
    by Judges (x ∷ []) v e = absurd v.2
    by Judges (x ∷ policy ∷ []) v e = absurd v.2.2
    by Judges (x ∷ policy ∷ file ∷ []) v e = absurd v.2.2.2
    by Judges (x ∷ policy ∷ file ∷ route ∷ []) v e = absurd (not_translation (language_in x) policy file route t e)
    by Judges (x ∷ policy ∷ file ∷ route ∷ other ∷ vs) v e = absurd v.2.2.2.2
