-- What comes of a source is told in one way, and it is a policy, or something is told of it.
use Rattle.std.proofs.Common.{◌≡◌, ◌⊎◌, inl, inr, refl, ap, ℕ, List, [], Some}
use Rattle.std.specs.Prelude.{slice_get, unwrap_or}
use Rattle.policy_request.specs.Languages.{names_in}
use Rattle.policy_request.specs.declared.language.Language.{Language}
use Rattle.policy_sources.specs.Source.{Taken, Source, Load, Loaded, Broken, NoPolicy, Outside, LoadsIn, AreAlike}
use Rattle.policy_sources.proofs.LoadsOnce.{loads_alike, some_load}
use Rattle.policy_program.specs.Lines.{place_in}
use Rattle.policy_program.specs.Answer.{Told, IsBroken, HasNoPolicy, IsOutside}
use Rattle.policy_program.specs.Requests.{PolicyFile, told_by, IsSound, IsUnsound}

told_alike : (source : Source) (a b : Load) → AreAlike a b → told_by source a ≡ told_by source b
told_alike source (Loaded p) (Loaded q) same = refl
told_alike source (Broken span kind) (Broken other sort) same = λ i. Some (IsBroken (place_in source.text (same.0 i)) (same.1 i))
told_alike source (NoPolicy place) (NoPolicy other) same = ap (λ (n : ℕ). Some (HasNoPolicy (unwrap_or (slice_get source.names n) []))) same
told_alike source (Outside span cause) (Outside other why) same = λ i. Some (IsOutside (place_in source.text (same.0 i)) (same.1 i))
told_alike source (Loaded p) (Broken span kind) same = absurd same
told_alike source (Loaded p) (NoPolicy place) same = absurd same
told_alike source (Loaded p) (Outside span cause) same = absurd same
told_alike source (Broken span kind) (Loaded q) same = absurd same
told_alike source (Broken span kind) (NoPolicy place) same = absurd same
told_alike source (Broken span kind) (Outside other cause) same = absurd same
told_alike source (NoPolicy place) (Loaded q) same = absurd same
told_alike source (NoPolicy place) (Broken span kind) same = absurd same
told_alike source (NoPolicy place) (Outside span cause) same = absurd same
told_alike source (Outside span cause) (Loaded q) same = absurd same
told_alike source (Outside span cause) (Broken other kind) same = absurd same
told_alike source (Outside span cause) (NoPolicy place) same = absurd same

-- what comes of a source is told in one way
pub told_once : (taken : Taken) (language : Language) (names : List (List ℕ)) (text : List ℕ) (a b : Load) → LoadsIn language taken names text a → LoadsIn language taken names text b
    → told_by (record { language = language; names = names; text = text }) a ≡ told_by (record { language = language; names = names; text = text }) b
told_once taken language names text a b x y = told_alike (record { language = language; names = names; text = text }) a b (loads_alike taken language names text a b x y)

-- a file with policies of these names is as it has to be, or something is told of it
abbrev SoundOr : Taken → List ℕ → Language → List (List ℕ) → List ℕ → Type 0
SoundOr taken file language names text = IsSound taken (PolicyFile file language names) text ⊎ ((about : Told) × IsUnsound taken (PolicyFile file language names) text about)

sound_by : (taken : Taken) (file : List ℕ) (language : Language) (names : List (List ℕ)) (text : List ℕ) (load : Load) → LoadsIn language taken names text load → SoundOr taken file language names text
sound_by taken file language names text (Loaded policy) loads = inl (policy, loads)
sound_by taken file language names text (Broken span kind) loads = inr (IsBroken (place_in text span.start) kind, (Broken span kind, loads, refl))
sound_by taken file language names text (NoPolicy place) loads = inr (HasNoPolicy (unwrap_or (slice_get names place) []), (NoPolicy place, loads, refl))
sound_by taken file language names text (Outside span cause) loads = inr (IsOutside (place_in text span.start) cause, (Outside span cause, loads, refl))

-- what a policy word names in a text loads, or something is told of it
pub loads_or : (taken : Taken) (file : List ℕ) (language : Language) (word text : List ℕ) → SoundOr taken file language (names_in language word) text
loads_or taken file language word text =
    let found = some_load taken language word text in
    sound_by taken file language (names_in language word) text found.0 found.1
