-- What the statements of a policy use: sets by their names, each of a sort, and parameters.
use Rattle.std.specs.Prelude.{ℕ, List, [], ◌∷◌, ◌++◌}
use Rattle.std.specs.List.{flat_map}
use Rattle.route_types.specs.Community.{RectParts}
use Rattle.rpl_words.specs.declared.number.RplNumber.{RplNumber}
use Rattle.rpl_words.specs.declared.number.RplNumber.TheVariants.{Fixed, Parameter as GivenNumber}
use Rattle.rpl_words.specs.declared.number.RplSet.{RplSet}
use Rattle.rpl_words.specs.declared.number.RplSet.TheVariants.{Named, Parameter as GivenSet, Listed}
use Rattle.rpl_words.specs.declared.element.PrefixElement.{PrefixElement}
use Rattle.rpl_words.specs.declared.element.PathElement.{PathElement}
use Rattle.rpl_words.specs.declared.element.PathElement.TheVariants.{Pattern, Test as PathTestElement}
use Rattle.rpl_words.specs.declared.element.PathTest.{PathTest}
use Rattle.rpl_words.specs.declared.element.PathTest.TheVariants.{Length, PassesThrough, OriginatesFrom, NeighborIs}
use Rattle.rpl_words.specs.declared.condition.Term.{Term}
use Rattle.rpl_words.specs.declared.condition.Term.TheVariants.{Test}
use Rattle.rpl_words.specs.declared.condition.RplTest.{RplTest}
use Rattle.rpl_words.specs.declared.condition.RplTest.TheVariants.{Destination, NextHop, PathIn, Path, MatchesAny, MatchesEvery, Med}
use Rattle.rpl_forms.specs.declared.item.Action.{Action}
use Rattle.rpl_forms.specs.declared.item.Action.TheVariants.{SetMed, SetLocalPreference, SetWeight, SetCommunity, DeleteCommunity, Prepend}
use Rattle.rpl_forms.specs.declared.item.Argument.{Argument}
use Rattle.rpl_forms.specs.declared.item.Argument.TheVariants.{Written, Parameter as GivenArgument}
use Rattle.rpl_forms.specs.declared.item.PolicyStatement.{PolicyStatement}
use Rattle.rpl_forms.specs.declared.item.PolicyStatement.TheVariants.{If, ElseIf, Act, Apply}
use Rattle.rpl_forms.specs.declared.item.RplForm.{RplForm}
use Rattle.rpl_forms.specs.declared.item.RplForm.TheVariants.{Statement}
use Rattle.rpl_calls.specs.declared.ask.SetSort.{SetSort}
use Rattle.rpl_calls.specs.declared.ask.SetSort.TheVariants.{Prefix, Community}
use Rattle.rpl_calls.specs.declared.ask.SetSort.TheVariants.{Path as PathSort}

-- a set by its sort and its name
abbrev pub SetName : Type 0
SetName = SetSort × List ℕ

-- what is used: a set of a sort, or a parameter
pub data Use : Type 0 where
  UsesSet : SetName → Use
  UsesParameter : List ℕ → Use

abbrev pub of_number : {N : Type 0} → RplNumber N → List Use
of_number (Fixed n) = []
of_number (GivenNumber x) = UsesParameter x ∷ []

abbrev pub of_prefix : PrefixElement → List Use
of_prefix e = of_number e.least ++ of_number e.most

abbrev pub of_path_test : PathTest → List Use
of_path_test (Length t) = of_number t.length
of_path_test (PassesThrough n) = of_number n
of_path_test (OriginatesFrom n) = of_number n
of_path_test (NeighborIs n) = of_number n

abbrev pub of_path : PathElement → List Use
of_path (Pattern p) = []
of_path (PathTestElement t) = of_path_test t

abbrev pub of_set : {E : Type 0} → SetSort → (E → List Use) → RplSet E → List Use
of_set sort each (Named n) = UsesSet (sort, n) ∷ []
of_set sort each (GivenSet x) = UsesParameter x ∷ []
of_set sort each (Listed es) = flat_map each es

-- community elements use nothing
abbrev pub of_communities : RplSet RectParts → List Use
of_communities (Named n) = UsesSet (Community, n) ∷ []
of_communities (GivenSet x) = UsesParameter x ∷ []
of_communities (Listed rs) = []

abbrev pub of_test : RplTest → List Use
of_test (Destination set) = of_set Prefix of_prefix set
of_test (NextHop set) = of_set Prefix of_prefix set
of_test (PathIn set) = of_set PathSort of_path set
of_test (Path t) = of_path_test t
of_test (MatchesAny set) = of_communities set
of_test (MatchesEvery set) = of_communities set
of_test (Med t) = of_number t.med
of_test _ = []

abbrev pub of_term : Term → List Use
of_term (Test t) = of_test t
of_term _ = []

abbrev pub of_action : Action → List Use
of_action (SetMed n) = of_number n
of_action (SetLocalPreference n) = of_number n
of_action (SetWeight n) = of_number n
of_action (SetCommunity s) = of_communities s.set
of_action (DeleteCommunity set) = of_communities set
of_action (Prepend p) = of_number p.number ++ of_number p.count
of_action _ = []

abbrev pub of_argument : Argument → List Use
of_argument (Written w) = []
of_argument (GivenArgument x) = UsesParameter x ∷ []

abbrev pub of_statement : PolicyStatement → List Use
of_statement (If terms) = flat_map of_term terms
of_statement (ElseIf terms) = flat_map of_term terms
of_statement (Act a) = of_action a
of_statement (Apply a) = flat_map of_argument a.arguments
of_statement _ = []

-- what a form uses
unfoldable pub uses_of : RplForm → List Use
uses_of (Statement s) = of_statement s
uses_of _ = []
