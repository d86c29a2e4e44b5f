-- Which definitions may be written: their values lie in their ranges, and their names are words that may stand there.
use Rattle.std.specs.Prelude.{◌≡◌, ℕ, ◌+◌, ◌-◌, ◌≤◌, ◌<◌, ◌^◌, Bool, true, false, IsTrue, ◌⊎◌, List, [], ◌∷◌, length, Option, Some, None, option_map}
use Rattle.std.specs.List.{AllByRecursion}
use Rattle.route_types.specs.Address.{IsMasked}
use Rattle.route_types.specs.Community.{RectParts}
use Rattle.route_types.specs.declared.address.Address.{Address}
use Rattle.route_types.specs.declared.address.Family.TheVariants.{V4}
use Rattle.route_types.specs.declared.route.NextHop.{NextHop}
use Rattle.route_types.specs.declared.route.NextHop.TheVariants.{At, Own}
use Rattle.prefix_sets.specs.Range.{RangeParts}
use Rattle.aspath_text.specs.JunosGrammar.{SpellsJunos}
use Rattle.text_words.specs.JunosWritten.{is_plain_word, quoted_bytes}
use Rattle.policy_text.specs.Names.{is_name}
use Rattle.junos_tree.specs.Reading.{IsRead}
use Rattle.junos_tree.specs.declared.item.Action.{Action}
use Rattle.junos_tree.specs.declared.item.Action.TheVariants.{Flow as FlowAction, Metric as SetMetric, LocalPreference as SetLocalPreference, Origin as SetOrigin, NextHop as SetNextHop, Community as ChangeCommunities, Prepend}
use Rattle.junos_tree.specs.declared.item.CommunityDefinition.{CommunityDefinition}
use Rattle.junos_tree.specs.declared.item.Condition.{Condition}
use Rattle.junos_tree.specs.declared.item.Condition.TheVariants.{Protocol, Community, AsPath, NextHop as AsksNextHop, Policy, PrefixList, RouteFilter, ListFilter, Metric, LocalPreference, Origin}
use Rattle.junos_tree.specs.declared.item.JunosForm.{JunosForm}
use Rattle.junos_tree.specs.declared.item.JunosItem.{JunosItem}
use Rattle.junos_tree.specs.declared.item.PathDefinition.{PathDefinition}
use Rattle.junos_text.specs.Layout.{forms_of}
use Rattle.junos_text.specs.declared.option.PolicyOption.{PolicyOption}
use Rattle.junos_text.specs.declared.option.PolicyOption.TheVariants.{AsPath as PathOption, Community as CommunityOption, Policy as PolicyStatement}
use Rattle.junos_text.specs.declared.option.PolicyTerm.{PolicyTerm}

-- ---- values

-- a word that may be a name
pub record FitsName (name : List ℕ) : Type 0 where
  pub plain : is_plain_word name ≡ true
  pub named : IsTrue (is_name name)

-- a number of 32 bits
abbrev pub FitsNumber : ℕ → Type 0
FitsNumber n = n ≤ 2 ^ 32 - 1

-- one value or more
abbrev pub AreSomeFit : {A : Type 0} → (A → Type 0) → List A → Type 0
AreSomeFit P xs = (1 ≤ length xs) × AllByRecursion P xs

abbrev pub FitNames : List (List ℕ) → Type 0
FitNames names = AreSomeFit FitsName names

-- an IPv4 address
pub record FitsAddress (a : Address) : Type 0 where
  pub family : a.family ≡ V4
  pub bits : a.bits < 2 ^ 32

-- an IPv4 prefix, and lengths that rise from its own to 32
pub record FitsRange (r : RangeParts) : Type 0 where
  pub family : r.prefix.address.family ≡ V4
  pub masked : IsMasked r.prefix.address r.prefix.length
  pub reaches : r.prefix.length ≤ r.least
  pub rises : r.least ≤ r.most
  pub most : r.most ≤ 32

-- half of a member: one number, or all of them
abbrev pub FitsHalf : ℕ → ℕ → Type 0
FitsHalf least most = ((least ≡ most) × (most ≤ 65535)) ⊎ ((least ≡ 0) × (most ≡ 65535))

-- a member of a community
pub record FitsMember (r : RectParts) : Type 0 where
  pub high : FitsHalf r.high_least r.high_most
  pub low : FitsHalf r.low_least r.low_most

-- ---- conditions and actions

-- a condition
abbrev pub FitsCondition : Condition → Type 0
FitsCondition (Protocol names) = FitNames names
FitsCondition (Community names) = FitNames names
FitsCondition (AsPath names) = FitNames names
FitsCondition (AsksNextHop hops) = AreSomeFit FitsAddress hops
FitsCondition (Policy names) = FitNames names
FitsCondition (PrefixList names) = FitNames names
FitsCondition (RouteFilter r) = FitsRange r
FitsCondition (ListFilter l) = FitsName l.list
FitsCondition (Metric n) = FitsNumber n
FitsCondition (LocalPreference n) = FitsNumber n
FitsCondition (Origin o) = Unit {0}

-- an IPv4 address, or `self`
abbrev pub FitsNextHop : NextHop → Type 0
FitsNextHop (At a) = FitsAddress a
FitsNextHop Own = Unit {0}

-- an action
abbrev pub FitsAction : Action → Type 0
FitsAction (FlowAction flow) = Unit {0}
FitsAction (SetMetric n) = FitsNumber n
FitsAction (SetLocalPreference n) = FitsNumber n
FitsAction (SetOrigin o) = Unit {0}
FitsAction (SetNextHop h) = FitsNextHop h
FitsAction (ChangeCommunities c) = FitsName c.community
FitsAction (Prepend ns) = AreSomeFit FitsNumber ns

-- ---- definitions

-- an AS path, whose text spells its pattern and may stand in quotes
pub record FitsPath (p : PathDefinition) : Type 0 where
  pub name : FitsName p.name
  pub spelled : SpellsJunos p.text p.pattern
  pub quotable : quoted_bytes p.text ≡ true

-- a community
pub record FitsCommunity (c : CommunityDefinition) : Type 0 where
  pub name : FitsName c.name
  pub members : AreSomeFit FitsMember c.members

-- a term
pub record FitsTerm (t : PolicyTerm) : Type 0 where
  pub name : FitsName t.name
  pub conditions : AllByRecursion FitsCondition t.conditions
  pub actions : AllByRecursion FitsAction t.actions

-- a definition
abbrev pub FitsOption : PolicyOption → Type 0
FitsOption (PathOption p) = FitsPath p
FitsOption (CommunityOption c) = FitsCommunity c
FitsOption (PolicyStatement p) = FitsName p.name × AllByRecursion FitsTerm p.terms

-- definitions that may be written
abbrev pub MayBeWritten : List PolicyOption → Type 0
MayBeWritten os = AllByRecursion FitsOption os

-- ---- what a text says

-- the forms of a tree
abbrev pub forms : List JunosItem → List JunosForm
forms [] = []
forms (x ∷ xs) = x.form ∷ forms xs

-- a text reads as a tree that says just these definitions
abbrev pub ReadsAs : List ℕ → List PolicyOption → Type 0
ReadsAs text os = (tree : List JunosItem) × IsRead text tree × (forms tree ≡ forms_of os)
