-- Which forms may be written: whole blocks, whose values lie in their ranges and whose names are words
-- that may stand there.
use Rattle.std.specs.Prelude.{◌≡◌, ℕ, ◌-◌, ◌≤◌, ◌<◌, ◌^◌, Bool, true, false, IsTrue, List, [], ◌∷◌, length, Option, Some, None}
use Rattle.std.specs.List.{AllByRecursion}
use Rattle.route_types.specs.Address.{IsMasked}
use Rattle.route_types.specs.Community.{RectParts}
use Rattle.route_types.specs.declared.address.Family.TheVariants.{V4}
use Rattle.route_types.specs.declared.route.NextHop.{NextHop}
use Rattle.route_types.specs.declared.route.NextHop.TheVariants.{At, Own}
use Rattle.text_words.specs.RplText.{is_plain}
use Rattle.text_words.specs.declared.rpl_blocks.BlockKind.{BlockKind}
use Rattle.text_words.specs.declared.rpl_blocks.BlockKind.TheVariants.{PrefixSet as PrefixBlock, CommunitySet as CommunityBlock, PathSet as PathBlock, Policy as PolicyBlock}
use Rattle.path_patterns.specs.Shape.{IsShaped}
use Rattle.rpl_words.specs.Conditions.{Condition, Asks, Grouped, Negated, Both, Either, ByOr, is_shaped, terms_of}
use Rattle.rpl_words.specs.Elements.{reaches, rises}
use Rattle.rpl_words.specs.Values.{is_rpl_name, is_inner_name}
use Rattle.rpl_words.specs.declared.condition.RplTest.{RplTest}
use Rattle.rpl_words.specs.declared.condition.RplTest.TheVariants.{Destination, NextHop as OfNextHop, PathIn, Path, MatchesAny, MatchesEvery, IsEmpty, Med, Origin}
use Rattle.rpl_words.specs.declared.condition.Term.{Term}
use Rattle.rpl_words.specs.declared.element.Element.{Element}
use Rattle.rpl_words.specs.declared.element.Element.TheVariants.{Prefix, Community, Path as OfPath}
use Rattle.rpl_words.specs.declared.element.PrefixElement.{PrefixElement}
use Rattle.rpl_words.specs.declared.element.PathElement.{PathElement}
use Rattle.rpl_words.specs.declared.element.PathElement.TheVariants.{Pattern, Test as PathAsks}
use Rattle.rpl_words.specs.declared.element.PathTest.{PathTest}
use Rattle.rpl_words.specs.declared.element.PathTest.TheVariants.{Length, PassesThrough, OriginatesFrom, NeighborIs}
use Rattle.rpl_words.specs.declared.number.RplNumber.{RplNumber}
use Rattle.rpl_words.specs.declared.number.RplNumber.TheVariants.{Fixed, Parameter as GivenNumber}
use Rattle.rpl_words.specs.declared.number.RplSet.{RplSet}
use Rattle.rpl_words.specs.declared.number.RplSet.TheVariants.{Named, Parameter as GivenSet, Listed}
use Rattle.rpl_forms.specs.declared.item.Header.{Header}
use Rattle.rpl_forms.specs.declared.item.Header.TheVariants.{PrefixSet, CommunitySet, PathSet, Policy}
use Rattle.rpl_forms.specs.declared.item.Action.{Action}
use Rattle.rpl_forms.specs.declared.item.Action.TheVariants.{SetMed, SetLocalPreference, SetWeight, SetOrigin, SetNextHop, SetCommunity, DeleteCommunity, Prepend}
use Rattle.rpl_forms.specs.declared.item.Argument.{Argument}
use Rattle.rpl_forms.specs.declared.item.Argument.TheVariants.{Written, Parameter}
use Rattle.rpl_forms.specs.declared.item.IfWord.{IfWord}
use Rattle.rpl_forms.specs.declared.item.IfWord.TheVariants.{If as IfStarts, ElseIf as ElseIfStarts, Else as ElseStarts, EndIf as EndIfStarts}
use Rattle.rpl_forms.specs.declared.item.PolicyStatement.{PolicyStatement}
use Rattle.rpl_forms.specs.declared.item.PolicyStatement.TheVariants.{If, ElseIf, Else, EndIf, Act, Apply}
use Rattle.rpl_forms.specs.declared.item.RplForm.{RplForm}
use Rattle.rpl_forms.specs.declared.item.RplForm.TheVariants.{Header as OfHeader, Element as OfElement, Statement as OfStatement, End}
use Rattle.rpl_tree.specs.Blocks.{ifs_behind}
use Rattle.rpl_text.specs.Layout.{kind_of}

-- ---- words

-- a word that may name a block
pub record HeadsBlock (name : List ℕ) : Type 0 where
  pub plain : is_plain name ≡ true
  pub named : IsTrue (is_rpl_name name)

-- a word that is a name within a policy: no word at which a statement starts or ends
pub record NamesWithin (name : List ℕ) : Type 0 where
  pub plain : is_plain name ≡ true
  pub named : IsTrue (is_inner_name name)

-- ---- values

-- a number up to the greatest one or, within a policy, a parameter
abbrev pub FitsNumber : Bool → ℕ → RplNumber ℕ → Type 0
FitsNumber within most (Fixed n) = n ≤ most
FitsNumber within most (GivenNumber x) = IsTrue within × HeadsBlock x

-- an IPv4 prefix, and lengths that rise from its own to 32
pub record FitsPrefix (within : Bool) (e : PrefixElement) : Type 0 where
  pub family : e.prefix.address.family ≡ V4
  pub masked : IsMasked e.prefix.address e.prefix.length
  pub least : FitsNumber within 32 e.least
  pub most : FitsNumber within 32 e.most
  pub least_reaches : reaches e.prefix.length e.least ≡ true
  pub most_reaches : reaches e.prefix.length e.most ≡ true
  pub rises : rises e.least e.most ≡ true

-- two ranges of numbers up to 65535, neither of them empty
pub record FitsRect (r : RectParts) : Type 0 where
  pub high : r.high_least ≤ r.high_most
  pub low : r.low_least ≤ r.low_most
  pub high_most : r.high_most ≤ 65535
  pub low_most : r.low_most ≤ 65535

-- a test of a path
abbrev pub FitsPathTest : Bool → PathTest → Type 0
FitsPathTest within (Length t) = FitsNumber within 2047 t.length
FitsPathTest within (PassesThrough n) = FitsNumber within (2 ^ 32 - 1) n
FitsPathTest within (OriginatesFrom n) = FitsNumber within (2 ^ 32 - 1) n
FitsPathTest within (NeighborIs n) = FitsNumber within (2 ^ 32 - 1) n

-- an element of a path set
abbrev pub FitsPath : Bool → PathElement → Type 0
FitsPath within (Pattern bs) = IsShaped bs
FitsPath within (PathAsks t) = FitsPathTest within t

-- an element of a set of this sort
abbrev pub FitsElement : BlockKind → Element → Type 0
FitsElement PrefixBlock (Prefix e) = FitsPrefix false e
FitsElement CommunityBlock (Community r) = FitsRect r
FitsElement PathBlock (OfPath e) = FitsPath false e
FitsElement _ _ = ⊥

-- a set within a policy: a name, a parameter, or one element or more
abbrev pub FitsSet : {E : Type 0} → (E → Type 0) → RplSet E → Type 0
FitsSet P (Named n) = NamesWithin n
FitsSet P (GivenSet x) = HeadsBlock x
FitsSet P (Listed es) = (1 ≤ length es) × AllByRecursion P es

-- ---- conditions

-- a test
abbrev pub FitsTest : RplTest → Type 0
FitsTest (Destination s) = FitsSet (FitsPrefix true) s
FitsTest (OfNextHop s) = FitsSet (FitsPrefix true) s
FitsTest (PathIn s) = FitsSet (FitsPath true) s
FitsTest (Path t) = FitsPathTest true t
FitsTest (MatchesAny s) = FitsSet FitsRect s
FitsTest (MatchesEvery s) = FitsSet FitsRect s
FitsTest IsEmpty = Unit {0}
FitsTest (Med t) = FitsNumber true (2 ^ 32 - 1) t.med
FitsTest (Origin o) = Unit {0}

-- all tests of a condition
unfoldable pub FitsTests : Condition → Type 0
FitsTests (Asks t) = FitsTest t
FitsTests (Grouped c) = FitsTests c
FitsTests (Negated c) = FitsTests c
FitsTests (Both c d) = FitsTests c × FitsTests d
FitsTests (Either c d) = FitsTests c × FitsTests d

-- the terms of a condition in which `or` joins what `and` joins, and `and` tests, groups and what `not` negates
abbrev pub FitsCondition : List Term → Type 0
FitsCondition terms = (c : Condition) × IsTrue (is_shaped ByOr c) × FitsTests c × (terms ≡ terms_of c)

-- ---- statements

-- an IPv4 address, or `self`
abbrev pub FitsNextHop : NextHop → Type 0
FitsNextHop (At a) = (a.family ≡ V4) × (a.bits < 2 ^ 32)
FitsNextHop Own = Unit {0}

-- how often a number is put before the path: 1 to 63
abbrev pub FitsCount : RplNumber ℕ → Type 0
FitsCount (Fixed n) = (1 ≤ n) × (n ≤ 63)
FitsCount (GivenNumber x) = HeadsBlock x

-- a statement that changes the route
abbrev pub FitsAction : Action → Type 0
FitsAction (SetMed n) = FitsNumber true (2 ^ 32 - 1) n
FitsAction (SetLocalPreference n) = FitsNumber true (2 ^ 32 - 1) n
FitsAction (SetWeight n) = FitsNumber true 65535 n
FitsAction (SetOrigin o) = Unit {0}
FitsAction (SetNextHop h) = FitsNextHop h
FitsAction (SetCommunity s) = FitsSet FitsRect s.set
FitsAction (DeleteCommunity s) = FitsSet FitsRect s
FitsAction (Prepend p) = FitsNumber true (2 ^ 32 - 1) p.number × FitsCount p.count

-- what is handed to a policy
abbrev pub FitsArgument : Argument → Type 0
FitsArgument (Written text) = NamesWithin text
FitsArgument (Parameter x) = HeadsBlock x

-- a statement of a policy
abbrev pub FitsStatement : PolicyStatement → Type 0
FitsStatement (If terms) = FitsCondition terms
FitsStatement (ElseIf terms) = FitsCondition terms
FitsStatement (Act a) = FitsAction a
FitsStatement (Apply a) = NamesWithin a.policy × AllByRecursion FitsArgument a.arguments
FitsStatement _ = Unit {0}

-- the first line of a block
abbrev pub FitsHeader : Header → Type 0
FitsHeader (PrefixSet n) = HeadsBlock n
FitsHeader (CommunitySet n) = HeadsBlock n
FitsHeader (PathSet n) = HeadsBlock n
FitsHeader (Policy h) = HeadsBlock h.name × AllByRecursion HeadsBlock h.parameters

-- ---- forms

-- the word of `if`s that a statement begins with
abbrev pub starts_as : PolicyStatement → Option IfWord
starts_as (If terms) = Some IfStarts
starts_as (ElseIf terms) = Some ElseIfStarts
starts_as Else = Some ElseStarts
starts_as EndIf = Some EndIfStarts
starts_as _ = None

-- forms that may be written one after another, outside blocks or in a block with these `if`s open
unfoldable pub MayStand : Option BlockKind → List Bool → List RplForm → Type 0
MayStand None ifs [] = Unit {0}
MayStand None ifs (OfHeader h ∷ fs) = FitsHeader h × MayStand (Some (kind_of h)) [] fs
MayStand (Some kind) ifs (OfElement e ∷ fs) = FitsElement kind e × MayStand (Some kind) ifs fs
MayStand (Some PolicyBlock) ifs (OfStatement s ∷ fs) = FitsStatement s × ((more : List Bool) × (ifs_behind (starts_as s) ifs ≡ Some more) × MayStand (Some PolicyBlock) more fs)
MayStand (Some kind) [] (End ∷ fs) = MayStand None [] fs
MayStand _ _ _ = ⊥

-- forms that may be written as a text: blocks, one behind another, each with its end
abbrev pub MayBeWritten : List RplForm → Type 0
MayBeWritten fs = MayStand None [] fs
