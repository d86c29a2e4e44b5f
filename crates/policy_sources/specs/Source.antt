-- A policy in a source: what comes of it when it is loaded, and what it makes of a route. The languages come in here alone.
use Rattle.std.specs.Prelude.{◌≡◌, ℕ, Bool, true, false, List, [], ◌∷◌, Option, Some, None, option_map}
use Rattle.std.specs.List.{list_all}
use Rattle.text_words.specs.declared.fault.BrokenKind.{BrokenKind}
use Rattle.text_words.specs.declared.fault.BrokenKind.TheVariants.{NoEnder}
use Rattle.text_words.specs.declared.fault.TextFault.{TextFault}
use Rattle.text_words.specs.declared.fault.TextFault.TheVariants.{Broken as IsBroken, Memory as NoRoom}
use Rattle.text_words.specs.declared.statement.Span.{Span}
use Rattle.text_words.specs.JunosCut.{junos_fault}
use Rattle.policy_text.specs.declared.fault.Cause.{Cause}
use Rattle.route_types.specs.Route.{RouteParts}
use Rattle.route_types.specs.declared.route.Outcome.{Outcome}
use Rattle.ios_tree.specs.Tree.{ios_tree}
use Rattle.ios_tree.specs.declared.item.IosItem.{IosItem}
use Rattle.ios_reader.specs.Profile as ios
use Rattle.ios_tree.specs.declared.item.IosForm.{IosForm}
use Rattle.ios_meaning.specs.Meaning.{ios_meaning}
use Rattle.junos_tree.specs.Tree.{junos_tree}
use Rattle.junos_tree.specs.declared.item.JunosItem.{JunosItem}
use Rattle.junos_reader.specs.Facts.{forms_of}
use Rattle.junos_reader.specs.Faults.{undefined_from}
use Rattle.junos_reader.specs.Profile as junos
use Rattle.junos_meaning.specs.Meaning.{junos_meaning}
use Rattle.text_words.specs.RplCut.{rpl_cut}
use Rattle.rpl_forms.specs.declared.item.RplItem.{RplItem}
use Rattle.rpl_tree.specs.Broken.{broken}
use Rattle.rpl_tree.specs.Tree as tree
use Rattle.rpl_reader.specs.Profile as rpl
use Rattle.rpl_meaning.specs.Meaning.{rpl_meaning}
use Rattle.policy_request.specs.Languages.{names_in}
use Rattle.policy_request.specs.declared.language.Language.{Language}
use Rattle.policy_request.specs.declared.language.Language.TheVariants.{Ios, Junos, Rpl}

-- a policy by its names in a text of a language
pub record Source : Type 0 where
  pub language : Language
  pub names : List (List ℕ)
  pub text : List ℕ

-- a policy that was read and lies in profile: the items of its text, and its name; in Junos the names of a chain
pub data Policy : Type 0 where
  OfIos : List IosItem → List ℕ → Policy
  OfJunos : List JunosItem → List (List ℕ) → Policy
  OfRpl : List RplItem → List ℕ → Policy

-- what comes of a source: its policy; or where and how its text is broken, so that it has no tree; or the place, among
-- its names, of the first that is not defined; or its first fault
pub data Load : Type 0 where
  Loaded : Policy → Load
  Broken : Span → BrokenKind → Load
  NoPolicy : ℕ → Load
  Outside : Span → Cause → Load

-- which forms of IOS statements a verb takes
abbrev pub Taken : Type 0
Taken = IosForm → Bool

-- of an IOS text, which always has a tree, for one name and for a verb that takes these forms
abbrev pub LoadsIos : Taken → List (List ℕ) → List IosItem → Load → Type 0
LoadsIos taken (name ∷ []) items (Loaded policy) = (policy ≡ OfIos items name) × ios.InProfile name items × (ios.first_fault_within taken name items ≡ None)
LoadsIos taken (name ∷ []) items (NoPolicy place) = (place ≡ 0) × (ios.is_defined name items ≡ false)
LoadsIos taken (name ∷ []) items (Outside span cause) = (ios.is_defined name items ≡ true) × (ios.first_fault_within taken name items ≡ Some (span, cause))
LoadsIos taken names items load = ⊥

-- where a text is broken, and how, by its fault; want of memory is the fault of no text, and what stands here for it is never met
abbrev pub broken_at : TextFault → Span × BrokenKind
broken_at (IsBroken span kind) = (span, kind)
broken_at NoRoom = (record { start = 0; end = 0 }, NoEnder)

-- of a text that may be broken: its fault, or what comes of its tree
abbrev pub LoadsTree : {Item : Type 0} → Option TextFault → Option (List Item) → (List Item → Load → Type 0) → Load → Type 0
LoadsTree fault tree OfTree (Broken span kind) = option_map broken_at fault ≡ Some (span, kind)
LoadsTree {Item} fault tree OfTree load = (items : List Item) × (tree ≡ Some items) × OfTree items load

-- of the tree of a Junos text, for a chain of these names
abbrev pub LoadsChain : List (List ℕ) → List JunosItem → Load → Type 0
LoadsChain names items (Loaded policy) = (policy ≡ OfJunos items names) × junos.InProfile names items
LoadsChain names items (Broken span kind) = ⊥
LoadsChain names items (NoPolicy place) = undefined_from items 0 names ≡ Some place
LoadsChain names items (Outside span cause) = (list_all (junos.is_defined items) names ≡ true) × (junos.first_fault names items ≡ Some (span, cause))

-- of a Junos text
abbrev pub LoadsJunos : List (List ℕ) → List ℕ → Load → Type 0
LoadsJunos names text load = LoadsTree (junos_fault text) (junos_tree text) (LoadsChain names) load

-- of the tree of an RPL text, for one name
abbrev pub LoadsNamed : List (List ℕ) → List RplItem → Load → Type 0
LoadsNamed (name ∷ []) items (Loaded policy) = (policy ≡ OfRpl items name) × rpl.InProfile name items
LoadsNamed (name ∷ []) items (NoPolicy place) = (place ≡ 0) × (rpl.is_defined name items ≡ false)
LoadsNamed (name ∷ []) items (Outside span cause) = (rpl.is_defined name items ≡ true) × rpl.IsFirstFault name items span cause
LoadsNamed names items load = ⊥

-- of an RPL text
abbrev pub LoadsRpl : List (List ℕ) → List ℕ → Load → Type 0
LoadsRpl names text load = LoadsTree (broken (rpl_cut text)) (tree.rpl_tree text) (LoadsNamed names) load

-- of a text by its language
abbrev pub LoadsIn : Language → Taken → List (List ℕ) → List ℕ → Load → Type 0
LoadsIn Ios taken names text load = LoadsIos taken names (ios_tree text) load
LoadsIn Junos taken names text load = LoadsJunos names text load
LoadsIn Rpl taken names text load = LoadsRpl names text load

-- of a source, for a verb that takes these forms
abbrev pub Loads : Taken → Source → Load → Type 0
Loads taken source load = LoadsIn source.language taken source.names source.text load

-- what a policy makes of a route
abbrev pub meaning : Policy → RouteParts → Outcome
meaning (OfIos items name) r = ios_meaning items name r
meaning (OfJunos items names) r = junos_meaning (forms_of items) names r
meaning (OfRpl items name) r = rpl_meaning (tree.forms items) name r

-- what a policy word of a language names in a text
abbrev pub source_in : Language → List ℕ → List ℕ → Source
source_in language word text = record { language = language; names = names_in language word; text = text }

-- the policy of one name in an IOS text
abbrev pub ios_source : List ℕ → List ℕ → Source
ios_source name text = record { language = Ios; names = name ∷ []; text = text }

-- the chain of policies of these names in a Junos text
abbrev pub junos_source : List (List ℕ) → List ℕ → Source
junos_source names text = record { language = Junos; names = names; text = text }

-- the policy of one name in an RPL text
abbrev pub rpl_source : List ℕ → List ℕ → Source
rpl_source name text = record { language = Rpl; names = name ∷ []; text = text }

-- two things that come of a source are one policy, or the same refusal: broken at one place in one way, the same name that is
-- not defined, or one cause at one place
abbrev pub AreAlike : Load → Load → Type 0
AreAlike (Loaded p) (Loaded q) = p ≡ q
AreAlike (Broken span kind) (Broken other sort) = (span.start ≡ other.start) × (kind ≡ sort)
AreAlike (NoPolicy place) (NoPolicy other) = place ≡ other
AreAlike (Outside span cause) (Outside other why) = (span.start ≡ other.start) × (cause ≡ why)
AreAlike a b = ⊥
