-- The target of a request can say what it is to say, or something is told of it, and not both.
use Rattle.std.proofs.Common.{◌≡◌, ◌⊎◌, inl, inr, refl, sym, ap, subst, ◌∙◌, ℕ, List, [], ◌∷◌, Option, Some, None}
use Rattle.ios_tree.specs.Tree.{ios_tree}
use Rattle.expressible_table.specs.Constructs.{map_constructs}
use Rattle.expressible_table.specs.Missing.{LacksFirst as Lacks, first_missing}
use Rattle.expressible_table.specs.declared.construct.Construct.{Construct}
use Rattle.expressible_table.proofs.FirstMissing.{lacks_first, one_first}
use Rattle.policy_request.specs.Words.{Request, Translate, Judge}
use Rattle.policy_request.specs.declared.language.Language.{Language}
use Rattle.policy_request.specs.declared.language.Language.TheVariants.{Rpl}
use Rattle.policy_sources.specs.Source.{Source, Policy, OfIos, OfJunos, OfRpl, Loaded, Loads, ios_source}
use Rattle.policy_sources.proofs.LoadsOnce.{loads_alike}
use Rattle.ios_reader.specs.Profile.{all_forms}
use Rattle.policy_program.specs.Expressible.{AreConstructs, IsExpressible, LacksFirst, dialect_of}
use Rattle.policy_program.specs.Answer.{Told, IsInexpressible, status_told}
use Rattle.policy_program.specs.Lines.{place_in}
use Rattle.policy_program.specs.Requests.{inputs_of, taken_by, AreSound, CanSay, CannotSay, IsSayable, IsUnsayable}

-- a policy has one list of constructs
constructs_once : (p : Policy) (cs ds : List Construct) → AreConstructs p cs → AreConstructs p ds → cs ≡ ds
constructs_once (OfIos items name) cs ds x y = x ∙ sym y
constructs_once (OfJunos items names) cs ds x y = absurd x
constructs_once (OfRpl items name) cs ds x y = absurd x

-- where each construct is granted none is the first that isn't
expressible_not : (p : Policy) (to : Language) (c : Construct) → IsExpressible p to → LacksFirst p to c → ⊥
expressible_not p to c granted lacks =
    let same = constructs_once p granted.constructs lacks.constructs granted.are lacks.are in
    let none : None ≡ first_missing (dialect_of to) lacks.constructs = subst (λ (cs : List Construct). None ≡ first_missing (dialect_of to) cs) same (one_first (dialect_of to) granted.constructs None granted.granted) in
    let some : Some c ≡ first_missing (dialect_of to) lacks.constructs = one_first (dialect_of to) lacks.constructs (Some c) lacks.first in
    let both : None ≡ Some c = none ∙ sym some in
    absurd cc

can_not : (source : Source) (to : Language) (told : Told) → CanSay source to → CannotSay source to told → ⊥
can_not source to told can cannot =
    let same : can.0 ≡ cannot.policy = loads_alike all_forms source.language source.names source.text (Loaded can.0) (Loaded cannot.policy) can.1 cannot.loads in
    expressible_not cannot.policy to cannot.missing (subst (λ (p : Policy). IsExpressible p to) same can.2) cannot.lacks

-- what can be said isn't told of
pub sayable_not : (q : Request) (texts : List (List ℕ)) (file : List ℕ) (told : Told) → IsSayable q texts → IsUnsayable q texts file told → ⊥
sayable_not (Translate t) [] file told can cannot = can
sayable_not (Translate t) (source ∷ []) file told can cannot = can_not (ios_source t.policy source) Rpl told can cannot.1
sayable_not (Translate t) (source ∷ other ∷ texts) file told can cannot = can
sayable_not (Judge j) texts file told can cannot = cannot

-- what is told has one status
pub unsayable_once : (q : Request) (texts : List (List ℕ)) (f g : List ℕ) (a b : Told) → IsUnsayable q texts f a → IsUnsayable q texts g b → status_told a ≡ status_told b
unsayable_once (Translate t) [] f g a b x y = absurd x
unsayable_once (Translate t) (source ∷ []) f g a b x y = ap status_told x.1.is ∙ ap status_told (sym y.1.is)
unsayable_once (Translate t) (source ∷ other ∷ texts) f g a b x y = absurd x
unsayable_once (Judge j) texts f g a b x y = absurd x

-- it is told of files that are as they have to be
pub unsayable_sound : (q : Request) (texts : List (List ℕ)) (file : List ℕ) (told : Told) → IsUnsayable q texts file told → AreSound (taken_by q) (inputs_of q) texts
unsayable_sound (Translate t) [] file told x = absurd x
unsayable_sound (Translate t) (source ∷ []) file told x = ((x.1.policy, x.1.loads), tt)
unsayable_sound (Translate t) (source ∷ other ∷ texts) file told x = absurd x
unsayable_sound (Judge j) texts file told x = absurd x

-- the first construct that RPL can't say, if there is one, decides
says_by : (name source : List ℕ) (p : Policy) (cs : List Construct) (o : Option Construct) → Loads all_forms (ios_source name source) (Loaded p) → AreConstructs p cs → Lacks (dialect_of Rpl) cs o
    → CanSay (ios_source name source) Rpl ⊎ ((told : Told) × CannotSay (ios_source name source) Rpl told)
says_by name source p cs None loads are granted = inl (p, loads, record { constructs = cs; are = are; granted = granted })
says_by name source p cs (Some c) loads are first = inr (
  IsInexpressible (place_in source c.span.start) Rpl c.kind,
  record { policy = p; loads = loads; missing = c; lacks = record { constructs = cs; are = are; first = first }; is = refl },
)

-- a policy of a source can be said, or something is told
says_or : (name source : List ℕ) (p : Policy) → Loads all_forms (ios_source name source) (Loaded p) → CanSay (ios_source name source) Rpl ⊎ ((told : Told) × CannotSay (ios_source name source) Rpl told)
says_or name source p loads =
    let cs : List Construct = map_constructs name (ios_tree source) in
    says_by name source p cs (first_missing (dialect_of Rpl) cs) loads (subst (λ (q : Policy). AreConstructs q cs) (sym loads.0) refl) (lacks_first (dialect_of Rpl) cs)

-- of files that are as they have to be
pub sayable_or : (q : Request) (texts : List (List ℕ)) → AreSound (taken_by q) (inputs_of q) texts → IsSayable q texts ⊎ ((file : List ℕ) × (told : Told) × IsUnsayable q texts file told)
sayable_or (Translate t) [] sound = absurd sound
sayable_or (Translate t) (source ∷ other ∷ texts) sound = absurd sound.1
sayable_or (Translate t) (source ∷ []) sound = elim (says_or t.policy source sound.0.0 sound.0.1) [
  | inl can ↦ inl can
  | inr cannot ↦ inr (t.file, cannot.0, (refl, cannot.1))
]
sayable_or (Judge j) texts sound = inl tt
