-- A request has one right status on the texts of a shelf: a refusal is due, or every file is as it has to be.
use Rattle.std.proofs.Common.{◌≡◌, ◌⊎◌, inl, inr, refl, sym, ap, subst, ◌∙◌, ℕ, ◌<◌, ◌≤◌, Bool, true, false, List, [], ◌∷◌, length, Option, Some, None, arith}
use Rattle.std.specs.Prelude.{nat_le, IsSomeAnd}
use Rattle.std.proofs.lemmas.Bool.Decides.{nat_tests}
use Rattle.policy_outside.specs.Texts.{Texts, text_at}
use Rattle.route_types.proofs.RouteSpelled.{not_both_of, spelled_or_refused}
use Rattle.policy_sources.specs.Source.{Taken, Loaded}
use Rattle.policy_program.specs.Answer.{Told, CannotRead, IsTooLong, IsBroken, HasNoPolicy, IsOutside, IsInexpressible, SpellsNoRoute, Answer, Result, Refusal, status_of, status_told}
use Rattle.policy_request.specs.Words.{Request, Translate, Judge}
use Rattle.policy_program.specs.Requests.{Input, PolicyFile, RouteFile, inputs_of, taken_by, file_in, IsResult, IsSound, IsUnsound, IsFirstUnsound, AreSound, IsTextOf, HasNoText, AreTextsOf, IsAtTurn, IsDue, IsServed, RightAnswer, IsSayable, most_bytes}
use Rattle.policy_request.specs.declared.language.Language.TheVariants.{Ios}
use Rattle.policy_program.proofs.ToldOnce.{told_once, loads_or}
use Rattle.policy_program.proofs.Saying.{sayable_not, unsayable_once, unsayable_sound, sayable_or}
use Rattle.policy_program.specs.declared.status.Status.{Status}
use Rattle.policy_program.specs.declared.status.Status.TheVariants.{Done}

-- ---- the texts of the files

text_once : (texts : Texts) (file one other : List ℕ) → IsTextOf (Some texts) file one → IsTextOf (Some texts) file other → one ≡ other
text_once texts file one other is too =
    let both : Some one ≡ Some other = sym is.is_told ∙ too.is_told in
    cc

longer_not : (found : Option (List ℕ)) (text : List ℕ) → found ≡ Some text → length text ≤ most_bytes → IsSomeAnd found (λ t. most_bytes < length t) → ⊥
longer_not (Some t) text is within longer =
    let same : t ≡ text = cc in
    let over : most_bytes < length text = subst (λ (x : List ℕ). most_bytes < length x) same longer in
    absurd (omega arith)
longer_not None text is within longer = longer

-- a file that has a text has none that is told of
no_text_not : (texts : Texts) (file text : List ℕ) (about : Told) → IsTextOf (Some texts) file text → HasNoText (Some texts) file about → ⊥
no_text_not texts file text CannotRead is none = let no : None ≡ Some text = sym none ∙ is.is_told in cc
no_text_not texts file text IsTooLong is longer = longer_not (text_at texts file) text is.is_told is.within longer
no_text_not texts file text (IsBroken place kind) is none = none
no_text_not texts file text (HasNoPolicy policy) is none = none
no_text_not texts file text (IsOutside place cause) is none = none
no_text_not texts file text (IsInexpressible place to kind) is none = none
no_text_not texts file text (SpellsNoRoute line) is none = none

longer_there : (found : Option (List ℕ)) → found ≡ None → IsSomeAnd found (λ t. most_bytes < length t) → ⊥
longer_there (Some t) is longer = absurd cc
longer_there None is longer = longer

no_text_once : (texts : Texts) (file : List ℕ) (a b : Told) → HasNoText (Some texts) file a → HasNoText (Some texts) file b → a ≡ b
no_text_once texts file CannotRead CannotRead x y = refl
no_text_once texts file IsTooLong IsTooLong x y = refl
no_text_once texts file CannotRead IsTooLong x y = absurd (longer_there (text_at texts file) x y)
no_text_once texts file IsTooLong CannotRead x y = absurd (longer_there (text_at texts file) y x)
no_text_once texts file CannotRead (IsBroken place kind) x y = absurd y
no_text_once texts file CannotRead (HasNoPolicy policy) x y = absurd y
no_text_once texts file CannotRead (IsOutside place cause) x y = absurd y
no_text_once texts file CannotRead (IsInexpressible place to kind) x y = absurd y
no_text_once texts file CannotRead (SpellsNoRoute line) x y = absurd y
no_text_once texts file IsTooLong (IsBroken place kind) x y = absurd y
no_text_once texts file IsTooLong (HasNoPolicy policy) x y = absurd y
no_text_once texts file IsTooLong (IsOutside place cause) x y = absurd y
no_text_once texts file IsTooLong (IsInexpressible place to kind) x y = absurd y
no_text_once texts file IsTooLong (SpellsNoRoute line) x y = absurd y
no_text_once texts file (IsBroken place kind) b x y = absurd x
no_text_once texts file (HasNoPolicy policy) b x y = absurd x
no_text_once texts file (IsOutside place cause) b x y = absurd x
no_text_once texts file (IsInexpressible place to kind) b x y = absurd x
no_text_once texts file (SpellsNoRoute line) b x y = absurd x

texts_once : (texts : Texts) (is : List Input) (ones twos : List (List ℕ)) → AreTextsOf (Some texts) is ones → AreTextsOf (Some texts) is twos → ones ≡ twos
texts_once texts [] [] [] x y = refl
texts_once texts [] (a ∷ ones) twos x y = absurd x
texts_once texts [] [] (b ∷ twos) x y = absurd y
texts_once texts (i ∷ is) [] twos x y = absurd x
texts_once texts (i ∷ is) (a ∷ ones) [] x y = absurd y
texts_once texts (i ∷ is) (a ∷ ones) (b ∷ twos) x y =
    let first = text_once texts (file_in i) a b x.0 y.0 in
    let others = texts_once texts is ones twos x.1 y.1 in
    cc

-- where all files have their texts none is told of
turn_not : (texts : Texts) (is : List Input) (ones : List (List ℕ)) (file : List ℕ) (about : Told) → AreTextsOf (Some texts) is ones → IsAtTurn (Some texts) is file → HasNoText (Some texts) file about → ⊥
turn_not texts [] ones file about given turn none = turn
turn_not texts (i ∷ is) [] file about given turn none = given
turn_not texts (i ∷ is) (a ∷ ones) file about given (inl is_first) none = no_text_not texts (file_in i) a about given.0 (subst (λ (f : List ℕ). HasNoText (Some texts) f about) is_first none)
turn_not texts (i ∷ is) (a ∷ ones) file about given (inr later) none = turn_not texts is ones file about given.1 later.2 none

-- the first file without a text is one
turn_once : (texts : Texts) (is : List Input) (f g : List ℕ) (a b : Told) → IsAtTurn (Some texts) is f → HasNoText (Some texts) f a → IsAtTurn (Some texts) is g → HasNoText (Some texts) g b → a ≡ b
turn_once texts [] f g a b x no_f y no_g = absurd x
turn_once texts (i ∷ is) f g a b (inl x) no_f (inl y) no_g =
    no_text_once texts (file_in i) a b (subst (λ (f : List ℕ). HasNoText (Some texts) f a) x no_f) (subst (λ (f : List ℕ). HasNoText (Some texts) f b) y no_g)
turn_once texts (i ∷ is) f g a b (inl x) no_f (inr y) no_g = absurd (no_text_not texts (file_in i) y.0 a y.1 (subst (λ (f : List ℕ). HasNoText (Some texts) f a) x no_f))
turn_once texts (i ∷ is) f g a b (inr x) no_f (inl y) no_g = absurd (no_text_not texts (file_in i) x.0 b x.1 (subst (λ (f : List ℕ). HasNoText (Some texts) f b) y no_g))
turn_once texts (i ∷ is) f g a b (inr x) no_f (inr y) no_g = turn_once texts is f g a b x.2 no_f y.2 no_g

-- ---- what is read of a file

unsound_once : (taken : Taken) (i : Input) (text : List ℕ) (a b : Told) → IsUnsound taken i text a → IsUnsound taken i text b → status_told a ≡ status_told b
unsound_once taken (PolicyFile file language names) text a b x y =
    let both : Some a ≡ Some b = sym x.2 ∙ told_once taken language names text x.0 y.0 x.1 y.1 ∙ y.2 in
    let same : a ≡ b = cc in
    ap status_told same
unsound_once taken (RouteFile file) text a b x y = ap status_told x.1 ∙ ap status_told (sym y.1)

sound_not : (taken : Taken) (i : Input) (text : List ℕ) (a : Told) → IsSound taken i text → IsUnsound taken i text a → ⊥
sound_not taken (PolicyFile file language names) text a is not =
    let no : None ≡ Some a = told_once taken language names text (Loaded is.0) not.0 is.1 not.1 ∙ not.2 in
    absurd cc
sound_not taken (RouteFile file) text a is not = not_both_of text not.0 is.0 not.2 is.1

first_once : (taken : Taken) (is : List Input) (ts : List (List ℕ)) (f g : List ℕ) (a b : Told) → IsFirstUnsound taken is ts f a → IsFirstUnsound taken is ts g b → status_told a ≡ status_told b
first_once taken [] ts f g a b x y = absurd x
first_once taken (i ∷ is) [] f g a b x y = absurd x
first_once taken (i ∷ is) (t ∷ ts) f g a b (inl x) (inl y) = unsound_once taken i t a b x.1 y.1
first_once taken (i ∷ is) (t ∷ ts) f g a b (inl x) (inr y) = absurd (sound_not taken i t a y.0 x.1)
first_once taken (i ∷ is) (t ∷ ts) f g a b (inr x) (inl y) = absurd (sound_not taken i t b x.0 y.1)
first_once taken (i ∷ is) (t ∷ ts) f g a b (inr x) (inr y) = first_once taken is ts f g a b x.1 y.1

first_not : (taken : Taken) (is : List Input) (ts : List (List ℕ)) (f : List ℕ) (a : Told) → AreSound taken is ts → IsFirstUnsound taken is ts f a → ⊥
first_not taken [] ts f a sound x = x
first_not taken (i ∷ is) [] f a sound x = x
first_not taken (i ∷ is) (t ∷ ts) f a sound (inl x) = sound_not taken i t a sound.0 x.1
first_not taken (i ∷ is) (t ∷ ts) f a sound (inr x) = first_not taken is ts f a sound.1 x.1

-- ---- results

-- what has a result is served, and the status of each result is Done
pub result_sound : (q : Request) (texts : List (List ℕ)) (status : Status) (text : List ℕ) → IsResult q texts status text → AreSound (taken_by q) (inputs_of q) texts × (status ≡ Done)
result_sound (Translate t) [] status text right = absurd right
result_sound (Translate t) (source ∷ []) status text right = (((right.1.policy, right.1.loads), tt), right.0)
result_sound (Translate t) (source ∷ other ∷ texts) status text right = absurd right
result_sound (Judge j) [] status text right = absurd right
result_sound (Judge j) (source ∷ []) status text right = absurd right
result_sound (Judge j) (source ∷ route ∷ []) status text right = (((right.1.policy, right.1.loads), ((right.1.route, right.1.spelled), tt)), right.0)
result_sound (Judge j) (source ∷ route ∷ other ∷ texts) status text right = absurd right

-- what has a result can be said
result_sayable : (q : Request) (texts : List (List ℕ)) (status : Status) (text : List ℕ) → IsResult q texts status text → IsSayable q texts
result_sayable (Translate t) [] status text right = absurd right
result_sayable (Translate t) (source ∷ []) status text right = (right.1.policy, right.1.loads, right.1.granted)
result_sayable (Translate t) (source ∷ other ∷ texts) status text right = absurd right
result_sayable (Judge j) texts status text right = tt

-- refusals that are right on some texts have one status
refused_once : (q : Request) (texts : List (List ℕ)) (f g : List ℕ) (a b : Told) → RightAnswer q texts (Refusal f a) → RightAnswer q texts (Refusal g b) → status_told a ≡ status_told b
refused_once q texts f g a b (inl x) (inl y) = first_once (taken_by q) (inputs_of q) texts f g a b x y
refused_once q texts f g a b (inl x) (inr y) = absurd (first_not (taken_by q) (inputs_of q) texts f a (unsayable_sound q texts g b y) x)
refused_once q texts f g a b (inr x) (inl y) = absurd (first_not (taken_by q) (inputs_of q) texts g b (unsayable_sound q texts f a x) y)
refused_once q texts f g a b (inr x) (inr y) = unsayable_once q texts f g a b x y

refused_not : (q : Request) (texts : List (List ℕ)) (f : List ℕ) (a : Told) → AreSound (taken_by q) (inputs_of q) texts → IsSayable q texts → RightAnswer q texts (Refusal f a) → ⊥
refused_not q texts f a sound can (inl x) = first_not (taken_by q) (inputs_of q) texts f a sound x
refused_not q texts f a sound can (inr x) = sayable_not q texts f a can x

-- a request that is served is not refused
pub served_not : (texts : Texts) (q : Request) (file : List ℕ) (about : Told) → IsServed (Some texts) q → IsDue (Some texts) q (Refusal file about) → ⊥
served_not texts q file about served (inl turn) = turn_not texts (inputs_of q) served.texts file about served.given turn.0 turn.1
served_not texts q file about served (inr answer) =
    refused_not q served.texts file about served.sound served.sayable
    (subst (λ (ts : List (List ℕ)). RightAnswer q ts (Refusal file about)) (texts_once texts (inputs_of q) answer.texts served.texts answer.given served.given) answer.right)

served_by : (texts : Texts) (q : Request) (status : Status) (text : List ℕ) → IsDue (Some texts) q (Result status text) → IsServed (Some texts) q
served_by texts q status text due = record { texts = due.texts; given = due.given; sound = (result_sound q due.texts status text due.right).0; sayable = result_sayable q due.texts status text due.right }

-- two answers that are due have one status
pub one_status : (texts : Texts) (q : Request) (a b : Answer) → IsDue (Some texts) q a → IsDue (Some texts) q b → status_of a ≡ status_of b
one_status texts q (Result s x) (Result r y) one two = (result_sound q one.texts s x one.right).1 ∙ sym (result_sound q two.texts r y two.right).1
one_status texts q (Result s x) (Refusal g b) one two = absurd (served_not texts q g b (served_by texts q s x one) two)
one_status texts q (Refusal f a) (Result r y) one two = absurd (served_not texts q f a (served_by texts q r y two) one)
one_status texts q (Refusal f a) (Refusal g b) (inl one) (inl two) = ap status_told (turn_once texts (inputs_of q) f g a b one.0 one.1 two.0 two.1)
one_status texts q (Refusal f a) (Refusal g b) (inl one) (inr two) = absurd (turn_not texts (inputs_of q) two.texts f a two.given one.0 one.1)
one_status texts q (Refusal f a) (Refusal g b) (inr one) (inl two) = absurd (turn_not texts (inputs_of q) one.texts g b one.given two.0 two.1)
one_status texts q (Refusal f a) (Refusal g b) (inr one) (inr two) =
    refused_once q two.texts f g a b
    (subst (λ (ts : List (List ℕ)). RightAnswer q ts (Refusal f a)) (texts_once texts (inputs_of q) one.texts two.texts one.given two.given) one.right)
    two.right

-- ---- there is one

-- a file has a text, or one is told of
look_up : (texts : Texts) (file : List ℕ) → ((text : List ℕ) × IsTextOf (Some texts) file text) ⊎ ((about : Told) × HasNoText (Some texts) file about)
look_up texts file = go (text_at texts file) refl
  where
    by : (text : List ℕ) (t : Bool) → nat_le (length text) most_bytes ≡ t → text_at texts file ≡ Some text → ((text : List ℕ) × IsTextOf (Some texts) file text) ⊎ ((about : Told) × HasNoText (Some texts) file about)
    by text true is e = inl (text, record { is_told = e; within = grind (arith, nat_tests) })
    by text false is e = inr (IsTooLong, subst (λ (o : Option (List ℕ)). IsSomeAnd o (λ t. most_bytes < length t)) (sym e) (grind (arith, nat_tests)))

    go : (o : Option (List ℕ)) → text_at texts file ≡ o → ((text : List ℕ) × IsTextOf (Some texts) file text) ⊎ ((about : Told) × HasNoText (Some texts) file about)
    go None e = inr (CannotRead, e)
    go (Some text) e = by text (nat_le (length text) most_bytes) refl e

-- all files have texts, or one is told of at its turn
look_at : (texts : Texts) (is : List Input) → ((ts : List (List ℕ)) × AreTextsOf (Some texts) is ts) ⊎ ((file : List ℕ) × (about : Told) × IsAtTurn (Some texts) is file × HasNoText (Some texts) file about)
look_at texts [] = inl ([], tt)
look_at texts (i ∷ is) = elim (look_up texts (file_in i)) [
  | inr none ↦ inr (file_in i, none.0, inl refl, none.1)
  | inl first ↦ elim (look_at texts is) [
    | inl others ↦ inl (first.0 ∷ others.0, (first.1, others.1))
    | inr none ↦ inr (none.0, none.1, inr (first.0, first.1, none.2), none.3)
  ]
]

-- a text spells a route, or something is told of it
route_or : (taken : Taken) (file text : List ℕ) → IsSound taken (RouteFile file) text ⊎ ((about : Told) × IsUnsound taken (RouteFile file) text about)
route_or taken file text = elim (spelled_or_refused text) [ inl r ↦ inl r | inr line ↦ inr (SpellsNoRoute line.0, (line.0, refl, line.1)) ]

-- every file is as it has to be, or one is told of
sound_or : (texts : Texts) (q : Request) (ts : List (List ℕ)) → AreTextsOf (Some texts) (inputs_of q) ts
    → AreSound (taken_by q) (inputs_of q) ts ⊎ ((file : List ℕ) × (about : Told) × IsFirstUnsound (taken_by q) (inputs_of q) ts file about)
sound_or texts (Translate t) [] given = absurd given
sound_or texts (Translate t) (source ∷ other ∷ ts) given = absurd given.1
sound_or texts (Translate t) (source ∷ []) given = elim (loads_or (taken_by (Translate t)) t.file Ios t.policy source) [
  | inl sound ↦ inl (sound, tt)
  | inr none ↦ inr (t.file, none.0, inl (refl, none.1))
]
sound_or texts (Judge j) [] given = absurd given
sound_or texts (Judge j) (source ∷ []) given = absurd given.1
sound_or texts (Judge j) (source ∷ route ∷ other ∷ ts) given = absurd given.1.1
sound_or texts (Judge j) (source ∷ route ∷ []) given = elim (loads_or (taken_by (Judge j)) j.file j.language j.policy source) [
  | inr none ↦ inr (j.file, none.0, inl (refl, none.1))
  | inl sound ↦ elim (route_or (taken_by (Judge j)) j.route_file route) [
    | inl spelled ↦ inl (sound, (spelled, tt))
    | inr none ↦ inr (j.route_file, none.0, inr (sound, inl (refl, none.1)))
  ]
]

-- on texts of all files a request is served, or a refusal is due
served_on : (texts : Texts) (q : Request) (ts : List (List ℕ)) → AreTextsOf (Some texts) (inputs_of q) ts → AreSound (taken_by q) (inputs_of q) ts
    → IsServed (Some texts) q ⊎ ((file : List ℕ) × (about : Told) × IsDue (Some texts) q (Refusal file about))
served_on texts q ts given sound = elim (sayable_or q ts sound) [
  | inl can ↦ inl (record { texts = ts; given = given; sound = sound; sayable = can })
  | inr cannot ↦ inr (cannot.0, cannot.1, inr (record { texts = ts; given = given; right = inr cannot.2 }))
]

-- a request is served, or a refusal is due
pub served_or : (texts : Texts) (q : Request) → IsServed (Some texts) q ⊎ ((file : List ℕ) × (about : Told) × IsDue (Some texts) q (Refusal file about))
served_or texts q = elim (look_at texts (inputs_of q)) [
  | inr none ↦ inr (none.0, none.1, inl (none.2, none.3))
  | inl given ↦ elim (sound_or texts q given.0 given.1) [
    | inl sound ↦ served_on texts q given.0 given.1 sound
    | inr none ↦ inr (none.0, none.1, inr (record { texts = given.0; given = given.1; right = inl none.2 }))
  ]
]
