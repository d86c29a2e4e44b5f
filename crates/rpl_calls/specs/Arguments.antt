-- The arguments of calls: the parameter that each is handed to, and what it is: a word, or a parameter that is handed on.
use Rattle.std.specs.Prelude.{ℕ, ◌+◌, List, [], ◌∷◌, Option, Some, None, map, option_map, slice_get}
use Rattle.std.specs.List.{flat_map}
use Rattle.rpl_forms.specs.declared.item.Argument.{Argument}
use Rattle.rpl_forms.specs.declared.item.Argument.TheVariants.{Written, Parameter as GivenArgument}
use Rattle.rpl_calls.specs.Calls.{CallParts}
use Rattle.rpl_calls.specs.Parameters.{ParameterParts, places_in}

-- the word that is written at a place of a call's arguments
abbrev pub word_of : Option Argument → Option (List ℕ)
word_of None = None
word_of (Some (Written w)) = Some w
word_of (Some (GivenArgument x)) = None

abbrev pub word_at : CallParts → ℕ → Option (List ℕ)
word_at c n = word_of (slice_get c.apply.arguments n)

-- the place, among the parameters of the policy in which the call stands, of what is handed on at a place
abbrev pub own_of : Option Argument → Option (Option ℕ) → Option ℕ
own_of (Some (GivenArgument x)) (Some place) = place
own_of _ _ = None

abbrev pub own_at : CallParts → ℕ → Option ℕ
own_at c n = own_of (slice_get c.apply.arguments n) (slice_get c.own n)

-- an argument: its call, and its place among the arguments of that, from 0
pub record ArgumentParts : Type 0 where
  pub call : CallParts
  pub place : ℕ

-- the arguments of a call from a place on
unfoldable pub arguments_from : CallParts → ℕ → List Argument → List ArgumentParts
arguments_from c n [] = []
arguments_from c n (x ∷ xs) = record { call = c; place = n } ∷ arguments_from c (n + 1) xs

abbrev pub arguments_in : CallParts → List ArgumentParts
arguments_in c = arguments_from c 0 c.apply.arguments

-- the arguments of all calls, in text order
abbrev pub arguments_of : List CallParts → List ArgumentParts
arguments_of calls = flat_map arguments_in calls

-- the parameter that an argument is handed to
abbrev pub target : ArgumentParts → ParameterParts
target a = record { policy = a.call.apply.policy; place = a.place }

-- the parameter that is handed on at a place of a call, if one is
abbrev pub handed_at : CallParts → ℕ → Option ParameterParts
handed_at c n = option_map (λ m. record { policy = c.caller; place = m }) (own_at c n)

-- the parameter that an argument hands on, if it hands one on
abbrev pub source : ArgumentParts → Option ParameterParts
source a = handed_at a.call a.place

-- the word that an argument is, if it is written
abbrev pub written : ArgumentParts → Option (List ℕ)
written a = word_at a.call a.place

-- the arguments that are handed to a parameter, by their places among all arguments, the last one first
abbrev pub targets : List ArgumentParts → List (Option ParameterParts)
targets args = map (λ a. Some (target a)) args

abbrev pub handed_to : List ArgumentParts → ParameterParts → List ℕ
handed_to args p = places_in (targets args) p

-- the arguments that hand a parameter on
abbrev pub sources : List ArgumentParts → List (Option ParameterParts)
sources args = map source args

abbrev pub handing_on : List ArgumentParts → ParameterParts → List ℕ
handing_on args p = places_in (sources args) p
