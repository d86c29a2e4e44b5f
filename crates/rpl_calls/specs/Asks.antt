-- What the statements of a policy ask of the arguments that are handed to it.
use Rattle.std.specs.Prelude.{ℕ, List, [], ◌∷◌, ◌++◌, Option, Some, None}
use Rattle.std.specs.List.{flat_map}
use Rattle.route_types.specs.Community.{RectParts}
use Rattle.rpl_words.specs.declared.number.RplNumber.{RplNumber}
use Rattle.rpl_words.specs.declared.number.RplNumber.TheVariants.{Fixed as FixedNumber, Parameter as GivenNumber}
use Rattle.rpl_words.specs.declared.number.RplSet.{RplSet}
use Rattle.rpl_words.specs.declared.number.RplSet.TheVariants.{Named, Parameter as GivenSet, Listed}
use Rattle.rpl_words.specs.declared.element.PrefixElement.{PrefixElement}
use Rattle.rpl_words.specs.declared.element.PathElement.{PathElement}
use Rattle.rpl_words.specs.declared.element.PathElement.TheVariants.{Pattern, Test as PathTestElement}
use Rattle.rpl_words.specs.declared.element.PathTest.{PathTest}
use Rattle.rpl_words.specs.declared.element.PathTest.TheVariants.{Length, PassesThrough, OriginatesFrom, NeighborIs}
use Rattle.rpl_words.specs.declared.condition.Term.{Term}
use Rattle.rpl_words.specs.declared.condition.Term.TheVariants.{Test}
use Rattle.rpl_words.specs.declared.condition.RplTest.{RplTest}
use Rattle.rpl_words.specs.declared.condition.RplTest.TheVariants.{Destination, NextHop, PathIn, Path, MatchesAny, MatchesEvery, Med}
use Rattle.rpl_forms.specs.declared.item.Action.{Action}
use Rattle.rpl_forms.specs.declared.item.Action.TheVariants.{SetMed, SetLocalPreference, SetWeight, SetCommunity, DeleteCommunity, Prepend}
use Rattle.rpl_forms.specs.declared.item.PolicyStatement.{PolicyStatement}
use Rattle.rpl_forms.specs.declared.item.PolicyStatement.TheVariants.{If, ElseIf, Act}
use Rattle.rpl_forms.specs.declared.item.RplForm.{RplForm}
use Rattle.rpl_forms.specs.declared.item.RplForm.TheVariants.{Statement}
use Rattle.rpl_forms.specs.declared.item.RplItem.{RplItem}
use Rattle.rpl_calls.specs.Policies.{Spoken, spoken_from, parameters_in, name_under, place_of}
use Rattle.rpl_calls.specs.declared.ask.SetSort.{SetSort}
use Rattle.rpl_calls.specs.declared.ask.SetSort.TheVariants.{Prefix, Community}
use Rattle.rpl_calls.specs.declared.ask.SetSort.TheVariants.{Path as PathSort}
use Rattle.rpl_calls.specs.declared.ask.Ask.{Ask}
use Rattle.rpl_calls.specs.declared.ask.Question.{Question}
use Rattle.rpl_calls.specs.declared.ask.Question.TheVariants.{Number, Set, NotBelow}

-- what is asked of a parameter, where it is one of the policy
abbrev pub of_parameter : (List ℕ → Option ℕ) → List ℕ → Question → List Ask
of_parameter places x question = elim (places x) [ None ↦ [] | Some n ↦ record { place = n; question = question } ∷ [] ]

-- a number in a range
abbrev pub number_asks : {N : Type 0} → (List ℕ → Option ℕ) → ℕ → ℕ → RplNumber N → List Ask
number_asks places least most (FixedNumber n) = []
number_asks places least most (GivenNumber x) = of_parameter places x (Number (record { least = least; most = most }))

-- a number up to the greatest of 32 bits
abbrev pub wide_asks : (List ℕ → Option ℕ) → RplNumber ℕ → List Ask
wide_asks places n = number_asks places 0 4294967295 n

-- of two parameters the second isn't below the first
abbrev pub rising_asks : (List ℕ → Option ℕ) → List ℕ → List ℕ → List Ask
rising_asks places low high = elim (places low) [ None ↦ [] | Some m ↦ of_parameter places high (NotBelow m) ]

-- the second of two bounds isn't below the first
abbrev pub bounds_asks : (List ℕ → Option ℕ) → RplNumber ℕ → RplNumber ℕ → List Ask
bounds_asks places (FixedNumber m) high = number_asks places m 32 high
bounds_asks places (GivenNumber x) (FixedNumber n) = of_parameter places x (Number (record { least = 0; most = n }))
bounds_asks places (GivenNumber x) (GivenNumber y) = rising_asks places x y

-- the bounds of a prefix element
abbrev pub prefix_asks : (List ℕ → Option ℕ) → PrefixElement → List Ask
prefix_asks places e = number_asks places e.prefix.length 32 e.least ++ number_asks places e.prefix.length 32 e.most ++ bounds_asks places e.least e.most

abbrev pub path_test_asks : (List ℕ → Option ℕ) → PathTest → List Ask
path_test_asks places (Length t) = number_asks places 0 2047 t.length
path_test_asks places (PassesThrough n) = wide_asks places n
path_test_asks places (OriginatesFrom n) = wide_asks places n
path_test_asks places (NeighborIs n) = wide_asks places n

abbrev pub path_asks : (List ℕ → Option ℕ) → PathElement → List Ask
path_asks places (Pattern p) = []
path_asks places (PathTestElement t) = path_test_asks places t

-- a set: the name of one of its sort, or what its elements ask
abbrev pub set_asks : {E : Type 0} → (List ℕ → Option ℕ) → SetSort → (E → List Ask) → RplSet E → List Ask
set_asks places sort each (Named n) = []
set_asks places sort each (GivenSet x) = of_parameter places x (Set sort)
set_asks places sort each (Listed es) = flat_map each es

-- community elements ask nothing
abbrev pub community_asks : (List ℕ → Option ℕ) → RplSet RectParts → List Ask
community_asks places (Named n) = []
community_asks places (GivenSet x) = of_parameter places x (Set Community)
community_asks places (Listed rs) = []

abbrev pub test_asks : (List ℕ → Option ℕ) → RplTest → List Ask
test_asks places (Destination set) = set_asks places Prefix (prefix_asks places) set
test_asks places (NextHop set) = set_asks places Prefix (prefix_asks places) set
test_asks places (PathIn set) = set_asks places PathSort (path_asks places) set
test_asks places (Path t) = path_test_asks places t
test_asks places (MatchesAny set) = community_asks places set
test_asks places (MatchesEvery set) = community_asks places set
test_asks places (Med t) = wide_asks places t.med
test_asks places _ = []

abbrev pub term_asks : (List ℕ → Option ℕ) → Term → List Ask
term_asks places (Test t) = test_asks places t
term_asks places _ = []

abbrev pub action_asks : (List ℕ → Option ℕ) → Action → List Ask
action_asks places (SetMed n) = wide_asks places n
action_asks places (SetLocalPreference n) = wide_asks places n
action_asks places (SetWeight n) = number_asks places 0 65535 n
action_asks places (SetCommunity s) = community_asks places s.set
action_asks places (DeleteCommunity set) = community_asks places set
action_asks places (Prepend p) = wide_asks places p.number ++ number_asks places 1 63 p.count
action_asks places _ = []

abbrev pub statement_asks : (List ℕ → Option ℕ) → PolicyStatement → List Ask
statement_asks places (If terms) = flat_map (term_asks places) terms
statement_asks places (ElseIf terms) = flat_map (term_asks places) terms
statement_asks places (Act a) = action_asks places a
statement_asks places _ = []

-- what a form asks
unfoldable pub form_asks : (List ℕ → Option ℕ) → RplForm → List Ask
form_asks places (Statement s) = statement_asks places s
form_asks places _ = []

-- what the policies of this name ask
pub record OwnAsk : Type 0 where
  pub policy : List ℕ
  pub ask : Ask

abbrev pub own_asks : Spoken → List OwnAsk
own_asks s = flat_map (λ ask. record { policy = name_under s.line; ask = ask } ∷ []) (form_asks (place_of (parameters_in s.line)) s.item.form)

-- what the policies of a text ask of what is handed to them
abbrev pub asks_of : List RplItem → List OwnAsk
asks_of items = flat_map own_asks (spoken_from None items)
