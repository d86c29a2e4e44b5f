-- Words are refused exactly where one of the causes stands.
use Rattle.std.proofs.Common.{◌≡◌, ◌⊎◌, inl, inr, ℕ, refl, sym, ap, subst, ◌∙◌, Bool, true, false, List, [], ◌∷◌, Option, Some, None}
use Rattle.std.specs.Prelude.{bytes_eq, codes, option_map}
use Rattle.std.specs.List.{list_all}
use Rattle.std.specs.Option.{is_some}
use Rattle.std.proofs.lemmas.Bool.{and_parts}
use Rattle.std.proofs.lemmas.Slice.Eq.{bytes_eq-Decides}
use Rattle.clap.specs.Words.{App, Kinds, built, fault_of}
use Rattle.policy_request.specs.Languages.{language_in}
use Rattle.policy_request.specs.Words.{Verb, Translates, Judges, verb_word, Slot, slots, given_in, Request, Translate, Judge, request_by, app_of_verb, value_of, AreValues, BeginsWith, IsRefused, AnyMisformed, UsageCause, unknown_verb, faulty, misformed}
use Rattle.policy_request.specs.declared.language.Language.{Language}
use Rattle.policy_request.proofs.ClapValues.{is_sound_command, requires_name, value_given}

-- each command is sound, and requires each name of its table
sound : (verb : Verb) → is_sound_command (built (app_of_verb verb)) ≡ true
unfolding app_of_verb
sound Translates = refl
sound Judges = refl

required : (verb : Verb) → list_all (λ s. requires_name s.name (built (app_of_verb verb)).top.rules) (slots verb) ≡ true
unfolding app_of_verb
required Translates = refl
required Judges = refl

-- where clap's definition finds no fault, a value is out of its form, or all are of theirs
given : (command : App) (words : List (List ℕ)) (ss : List Slot) → is_sound_command (built command) ≡ true → fault_of command words ≡ []
    → list_all (λ s. requires_name s.name (built command).top.rules) ss ≡ true → AnyMisformed command words ss ⊎ ((vs : List (List ℕ)) × AreValues command words ss vs)
given command words [] sound none named = inr ([], tt)
given command words (s ∷ ss) sound none named =
    let parts = and_parts (requires_name s.name (built command).top.rules) (list_all (λ s. requires_name s.name (built command).top.rules) ss) named in
    let first = value_given command words s.name sound parts.0 none in
    go first.0 first.1 (s.is_formed (given_in command words) first.0) refl (given command words ss sound none parts.1)
  where
    go : (word : List ℕ) → value_of command words s ≡ Some word → (t : Bool) → s.is_formed (given_in command words) word ≡ t
        → AnyMisformed command words ss ⊎ ((vs : List (List ℕ)) × AreValues command words ss vs)
        → AnyMisformed command words (s ∷ ss) ⊎ ((vs : List (List ℕ)) × AreValues command words (s ∷ ss) vs)
    go word is false formed others = inl (inl (word, is, formed))
    go word is true formed (inl m) = inl (inr m)
    go word is true formed (inr a) = inr (word ∷ a.0, (is, formed, a.1))

-- a language makes a request of judge
judged : (language : Option Language) (policy file route_file : List ℕ) → is_some language ≡ true
    → (q : Request) × (option_map (λ l. Judge (record { language = l; policy = policy; file = file; route_file = route_file })) language ≡ Some q)
judged None policy file route_file is = absurd cc
judged (Some l) policy file route_file is = (Judge (record { language = l; policy = policy; file = file; route_file = route_file }), refl)

-- the values of a table make a request
made : (command : App) (words : List (List ℕ)) (verb : Verb) (vs : List (List ℕ)) → AreValues command words (slots verb) vs → (q : Request) × (request_by verb vs ≡ Some q)
made command words Translates [] v = absurd v
made command words Translates (a ∷ []) v = absurd v.2
made command words Translates (a ∷ b ∷ []) v = absurd v.2.2
made command words Translates (a ∷ b ∷ c ∷ []) v = absurd v.2.2.2
made command words Translates (a ∷ b ∷ c ∷ d ∷ []) v = absurd v.2.2.2.2
made command words Translates (a ∷ b ∷ c ∷ d ∷ e ∷ []) v = (Translate (record { policy = c; name = d; file = e }), refl)
made command words Translates (a ∷ b ∷ c ∷ d ∷ e ∷ f ∷ vs) v = absurd v.2.2.2.2.2
made command words Judges [] v = absurd v
made command words Judges (a ∷ []) v = absurd v.2
made command words Judges (a ∷ b ∷ []) v = absurd v.2.2
made command words Judges (a ∷ b ∷ c ∷ []) v = absurd v.2.2.2
made command words Judges (a ∷ b ∷ c ∷ d ∷ []) v = judged (language_in a) b c d v.1
made command words Judges (a ∷ b ∷ c ∷ d ∷ e ∷ vs) v = absurd v.2.2.2.2

-- words that begin with a verb and are refused have a cause
verb_cause : (words : List (List ℕ)) (verb : Verb) → BeginsWith verb words → IsRefused words → UsageCause words
verb_cause words verb begins refused = go (fault_of (app_of_verb verb) words) refl
  where
    go : (ks : Kinds) → fault_of (app_of_verb verb) words ≡ ks → UsageCause words
    go (k ∷ ks) e = faulty verb begins (λ none. let no : (k ∷ ks) ≡ [] = sym e ∙ none in cc)
    go [] e = elim (given (app_of_verb verb) words (slots verb) (sound verb) e (required verb)) [
      | inl m ↦ misformed verb begins m
      | inr a ↦ let q = made (app_of_verb verb) words verb a.0 a.1 in
          absurd (refused q.0 (record { verb = verb; begins = begins; faultless = e; values = a.0; formed = a.1; makes = q.1 }))
    ]

-- words begin with a word, or do not
begins_or_not : (verb : Verb) (words : List (List ℕ)) → BeginsWith verb words ⊎ (BeginsWith verb words → ⊥)
begins_or_not verb [] = inr (λ b. let no : [] ≡ verb_word verb ∷ b.0 = b.1 in cc)
begins_or_not verb (first ∷ others) = go (bytes_eq first (verb_word verb)) refl
  where
    go : (t : Bool) → bytes_eq first (verb_word verb) ≡ t → BeginsWith verb (first ∷ others) ⊎ (BeginsWith verb (first ∷ others) → ⊥)
    go true e = inl (others, ap (λ (w : List ℕ). w ∷ others) ((bytes_eq-Decides first (verb_word verb)).0 e))
    go false e = inr (λ b. let same : first ≡ verb_word verb = cc in let no : bytes_eq first (verb_word verb) ≡ true = (bytes_eq-Decides first (verb_word verb)).1 same in cc)

-- refused words have a cause
pub causes : (words : List (List ℕ)) → IsRefused words → UsageCause words
causes words refused = elim (begins_or_not Translates words) [
  | inl t ↦ verb_cause words Translates t refused
  | inr not_t ↦ elim (begins_or_not Judges words) [ inl j ↦ verb_cause words Judges j refused | inr not_j ↦ unknown_verb (none not_t not_j) ]
]
  where
    none : (BeginsWith Translates words → ⊥) → (BeginsWith Judges words → ⊥) → (verb : Verb) → BeginsWith verb words → ⊥
    none not_t not_j Translates b = not_t b
    none not_t not_j Judges b = not_j b

-- the first word is that of one verb alone
one_word : (verb other : Verb) → verb_word verb ≡ verb_word other → verb ≡ other
one_word Translates Translates e = refl
one_word Judges Judges e = refl
one_word Translates Judges e = let no : false ≡ true = (bytes_eq-Decides (codes "translate") (codes "judge")).1 e in absurd cc
one_word Judges Translates e = let no : false ≡ true = (bytes_eq-Decides (codes "judge") (codes "translate")).1 e in absurd cc

one_verb : (words : List (List ℕ)) (verb other : Verb) → BeginsWith verb words → BeginsWith other words → verb ≡ other
one_verb words verb other b c =
    let same : (verb_word verb ∷ b.0) ≡ verb_word other ∷ c.0 = sym b.1 ∙ c.1 in
    let first : verb_word verb ≡ verb_word other = cc in
    one_word verb other first

-- values of their forms are none out of them
not_misformed : (command : App) (words : List (List ℕ)) (ss : List Slot) (vs : List (List ℕ)) → AreValues command words ss vs → AnyMisformed command words ss → ⊥
not_misformed command words [] vs a m = m
not_misformed command words (s ∷ ss) [] a m = a
not_misformed command words (s ∷ ss) (v ∷ vs) a (inl m) =
    let both : Some m.0 ≡ Some v = sym m.1 ∙ a.0 in
    let same : m.0 ≡ v = cc in
    let no : true ≡ false = sym a.1 ∙ ap (s.is_formed (given_in command words)) (sym same) ∙ m.2 in
    cc
not_misformed command words (s ∷ ss) (v ∷ vs) a (inr m) = not_misformed command words ss vs a.2 m

-- words with a cause are refused
pub refuses : (words : List (List ℕ)) → UsageCause words → IsRefused words
refuses words (unknown_verb none) q a = none a.verb a.begins
refuses words (faulty verb begins f) q a = f (subst (λ (v : Verb). fault_of (app_of_verb v) words ≡ []) (one_verb words a.verb verb a.begins begins) a.faultless)
refuses words (misformed verb begins m) q a =
    not_misformed (app_of_verb a.verb) words (slots a.verb) a.values a.formed
    (subst (λ (v : Verb). AnyMisformed (app_of_verb v) words (slots v)) (one_verb words verb a.verb begins a.begins) m)
