-- The words are read as a request exactly where they are accepted and make it.
use Rattle.std.proofs.Common.{◌≡◌, ℕ, refl, sym, ap, subst, ◌∙◌, Bool, true, false, List, [], ◌∷◌, Option, Some, None, Result, Ok, Err}
use Rattle.std.specs.Prelude.{codes, bytes_eq, IfOk, IsErrOf}
use Rattle.std.proofs.lemmas.Slice.Eq.{bytes_eq-Decides}
use Rattle.clap.specs.Words.{App, Kinds, Row, fault_of, first_of, matches_of}
use Rattle.route_types.specs.Words.{◌>>=◌, when}
use Rattle.policy_request.specs.Words.{Verb, Translates, Judges, verb_word, Slot, slots, given_in, Request, request_by, app_of_verb, AreValues, Accepts, IsRefused, request_view}
use Rattle.policy_request.specs.Spelled.{AnswersBy, asked, asked_in, has_none, made_by, request_in, rows_in}
use Rattle.policy_request.specs.declared.command.Request.{Request as Asked}
use Rattle.policy_request.specs.declared.command.WordsFault.{WordsFault}
use Rattle.policy_request.specs.declared.command.WordsFault.TheVariants.{Usage, Memory}

when_found : {A : Type 0} (t : Bool) (x y : A) → when t x ≡ Some y → (t ≡ true) × (x ≡ y)
when_found true x y e = (refl, cc)
when_found false x y e = absurd cc

bind_found : {A B : Type 0} (o : Option A) (f : A → Option B) (y : B) → (o >>= f) ≡ Some y → (x : A) × (o ≡ Some x) × (f x ≡ Some y)
bind_found (Some x) f y e = (x, refl, e)
bind_found None f y e = absurd cc

bound_read : {A B : Type 0} (o : Option A) (f : A → Option B) (x : A) (y : B) → o ≡ Some x → f x ≡ Some y → (o >>= f) ≡ Some y
bound_read o f x y found e = ap (λ (k : _). k >>= f) found ∙ e

-- values that clap's definition gives, and only where it finds no fault
rows_found : (command : App) (words : List (List ℕ)) (rows : List Row) → rows_in command words ≡ Some rows
    → (fault_of command words ≡ []) × (matches_of command words ≡ rows)
unfolding rows_in
rows_found command words rows e =
    let found = when_found (has_none (fault_of command words)) (matches_of command words) rows e in
    (none (fault_of command words) found.0, found.1)
  where
    none : (ks : Kinds) → has_none ks ≡ true → ks ≡ []
    none [] h = refl
    none (k ∷ ks) h = absurd cc

rows_read : (command : App) (words : List (List ℕ)) → fault_of command words ≡ [] → rows_in command words ≡ Some (matches_of command words)
unfolding rows_in
rows_read command words e = ap (λ (ks : Kinds). when (has_none ks) (matches_of command words)) e

-- what is made of the values that are read is made of values of the table
made_found : (command : App) (words : List (List ℕ)) (ss : List Slot) (make : List (List ℕ) → Option Request) (q : Request) → made_by (matches_of command words) ss make ≡ Some q
    → (vs : List (List ℕ)) × AreValues command words ss vs × (make vs ≡ Some q)
made_found command words [] make q e = ([], tt, e)
made_found command words (s ∷ ss) make q e =
    let first = bind_found (first_of s.name (matches_of command words)) _ q e in
    let fit = bind_found (when (s.is_formed (given_in command words) first.0) first.0) _ q first.2 in
    let formed = when_found (s.is_formed (given_in command words) first.0) first.0 fit.0 fit.1 in
    let others = made_found command words ss (λ vs. make (fit.0 ∷ vs)) q fit.2 in
    (fit.0 ∷ others.0, (first.1 ∙ ap (λ (w : List ℕ). Some w) formed.1, subst (λ (w : List ℕ). s.is_formed (given_in command words) w ≡ true) formed.1 formed.0, others.1), others.2)

made_read : (command : App) (words : List (List ℕ)) (ss : List Slot) (make : List (List ℕ) → Option Request) (vs : List (List ℕ)) (q : Request) → AreValues command words ss vs → make vs ≡ Some q
    → made_by (matches_of command words) ss make ≡ Some q
made_read command words [] make [] q a e = e
made_read command words [] make (v ∷ vs) q a e = absurd a
made_read command words (s ∷ ss) make [] q a e = absurd a
made_read command words (s ∷ ss) make (v ∷ vs) q a e =
    bound_read (first_of s.name (matches_of command words)) _ v q a.0
    (bound_read (when (s.is_formed (given_in command words) v) v) _ v q (ap (λ (t : Bool). when t v) a.1) (made_read command words ss (λ others. make (v ∷ others)) vs q a.2 e))

-- what is read behind a verb is accepted
asked_found : (verb : Verb) (words others : List (List ℕ)) (q : Request) → words ≡ verb_word verb ∷ others → asked verb words ≡ Some q → Accepts words q
unfolding asked asked_in
asked_found verb words others q begins e =
    let rows = bind_found (rows_in (app_of_verb verb) words) (asked_in verb) q e in
    let plain = rows_found (app_of_verb verb) words rows.0 rows.1 in
    let made = made_found (app_of_verb verb) words (slots verb) (request_by verb) q (subst (λ (rs : List Row). made_by rs (slots verb) (request_by verb) ≡ Some q) (sym plain.1) rows.2) in
    record { verb = verb; begins = (others, begins); faultless = plain.0; values = made.0; formed = made.1; makes = made.2 }

-- what is accepted behind a verb is read
asked_read : (words : List (List ℕ)) (q : Request) (a : Accepts words q) → asked a.verb words ≡ Some q
unfolding asked asked_in
asked_read words q a =
    bound_read (rows_in (app_of_verb a.verb) words) (asked_in a.verb) (matches_of (app_of_verb a.verb) words) q (rows_read (app_of_verb a.verb) words a.faultless)
    (made_read (app_of_verb a.verb) words (slots a.verb) (request_by a.verb) a.values q a.formed a.makes)

-- what is read of words is accepted
pub request_found : (words : List (List ℕ)) (q : Request) → request_in words ≡ Some q → Accepts words q
unfolding request_in
request_found [] q e = absurd cc
request_found (first ∷ others) q e = by (bytes_eq first (codes "translate")) (bytes_eq first (codes "judge")) refl refl e
  where
    verb_is : (word : List ℕ) → bytes_eq first word ≡ true → (first ∷ others) ≡ word ∷ others
    verb_is word h = ap (λ (v : List ℕ). v ∷ others) ((bytes_eq-Decides first word).0 h)

    by : (t j : Bool) → bytes_eq first (codes "translate") ≡ t → bytes_eq first (codes "judge") ≡ j
        → elim t [ true ↦ asked Translates (first ∷ others) | false ↦ elim j [ true ↦ asked Judges (first ∷ others) | false ↦ None ] ] ≡ Some q
        → Accepts (first ∷ others) q
    by true j is_t is_j h = asked_found Translates (first ∷ others) others q (verb_is (codes "translate") is_t) h
    by false true is_t is_j h = asked_found Judges (first ∷ others) others q (verb_is (codes "judge") is_j) h
    by false false is_t is_j h = absurd cc

-- the verb says what is asked
verb_read : (verb : Verb) (others : List (List ℕ)) → request_in (verb_word verb ∷ others) ≡ asked verb (verb_word verb ∷ others)
unfolding request_in
verb_read Translates others = refl
verb_read Judges others = refl

-- what is accepted is read
request_read : (words : List (List ℕ)) (q : Request) → Accepts words q → request_in words ≡ Some q
request_read words q a = ap request_in a.begins.1 ∙ verb_read a.verb a.begins.0 ∙ ap (asked a.verb) (sym a.begins.1) ∙ asked_read words q a

-- words of which nothing is read are refused
pub refused_by_none : (words : List (List ℕ)) → request_in words ≡ None → IsRefused words
refused_by_none words e = λ q a. let no : None ≡ Some q = sym e ∙ request_read words q a in absurd cc

-- words make at most one request
pub accepted_once : (words : List (List ℕ)) (a b : Request) → Accepts words a → Accepts words b → a ≡ b
accepted_once words a b first second =
    let same : Some a ≡ Some b = sym (request_read words a first) ∙ request_read words b second in
    cc

-- what is read is accepted, and words of which nothing is read are refused
pub accepted : (words : List (List ℕ)) (answer : Result Asked WordsFault) → AnswersBy (request_in words) answer → IfOk answer (λ q. Accepts words (request_view q))
accepted words (Ok q) e = request_found words (request_view q) e
accepted words (Err fault) e = tt

pub refused : (words : List (List ℕ)) (answer : Result Asked WordsFault) → AnswersBy (request_in words) answer → IsErrOf answer Usage → IsRefused words
refused words (Ok q) e is_usage = absurd cc
refused words (Err Memory) e is_usage = absurd cc
refused words (Err Usage) e is_usage = refused_by_none words e
