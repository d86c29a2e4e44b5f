-- What the parameters of policies may be, by what is written in the policies that are reached.
use Rattle.std.specs.Prelude.{◌≡◌, ℕ, ◌+◌, Bool, true, false, List, [], ◌∷◌, ◌++◌, Option, Some, None, map, slice_get}
use Rattle.route_types.specs.Words.{number_in}
use Rattle.step_search.specs.Found.{IsFound}
use Rattle.rpl_forms.specs.declared.item.RplItem.{RplItem}
use Rattle.rpl_calls.specs.Calls.{CallParts}
use Rattle.rpl_calls.specs.Parameters.{ParameterParts}
use Rattle.rpl_calls.specs.Arguments.{ArgumentParts, word_at, handed_at, target, written}
use Rattle.rpl_calls.specs.Givens.{next_givens}
use Rattle.rpl_calls.specs.declared.given.Fact.{Fact}
use Rattle.rpl_calls.specs.declared.given.Fact.TheVariants.{Wide, Length}
use Rattle.rpl_calls.specs.declared.given.Given.{Given}
use Rattle.rpl_reader.specs.Facts.{Facts, facts_of}
use Rattle.rpl_reader.specs.Reach.{is_reached_policy, arguments_in}

-- it is the name of a community set with an element that isn't a single community
abbrev pub wide_fact : Bool → List Fact
wide_fact wide = elim wide [ true ↦ Wide ∷ [] | false ↦ [] ]

-- it is a number up to 32
abbrev pub length_fact : Option ℕ → List Fact
length_fact None = []
length_fact (Some n) = Length n ∷ []

-- what a word is
abbrev pub word_facts : Facts → List ℕ → List Fact
word_facts facts word = wide_fact (facts.wide word) ++ length_fact (number_in 32 word)

abbrev pub written_facts : Facts → Option (List ℕ) → List Fact
written_facts facts None = []
written_facts facts (Some word) = word_facts facts word

-- what an argument is that is written in a policy that is reached
abbrev pub argument_facts : Facts → (List ℕ → Bool) → ArgumentParts → List Fact
argument_facts facts reached a = elim (reached a.call.caller) [ true ↦ written_facts facts (written a) | false ↦ [] ]

-- what these arguments are, of which the first stands at place k
unfoldable pub first_givens : Facts → (List ℕ → Bool) → ℕ → List ArgumentParts → List Given
first_givens facts reached k [] = []
first_givens facts reached k (a ∷ more) = map (λ f. record { argument = k; fact = f }) (argument_facts facts reached a) ++ first_givens facts reached (k + 1) more

-- an argument may be this, by what is written or what is handed on
abbrev pub IsGivenAs : List ℕ → List RplItem → Given → Type 0
IsGivenAs policy all g = IsFound (next_givens (arguments_in all)) (first_givens (facts_of policy all) (is_reached_policy policy all) 0 (arguments_in all)) g

-- a parameter may be this: an argument is handed to it that may be
pub record MayBe (policy : List ℕ) (all : List RplItem) (p : ParameterParts) (fact : Fact) : Type 0 where
  pub k : ℕ
  pub argument : ArgumentParts
  pub there : slice_get (arguments_in all) k ≡ Some argument
  pub handed : target argument ≡ p
  pub given : IsGivenAs policy all (record { argument = k; fact = fact })

-- what is written or handed on may be this number, up to 32
abbrev pub MayBeNumber : List ℕ → List RplItem → Option (List ℕ) → Option ParameterParts → ℕ → Type 0
MayBeNumber policy all (Some word) p n = number_in 32 word ≡ Some n
MayBeNumber policy all None (Some p) n = MayBe policy all p (Length n)
MayBeNumber policy all None None n = ⊥

-- what stands at a place of a call's arguments may be this number
abbrev pub MayStand : List ℕ → List RplItem → CallParts → ℕ → ℕ → Type 0
MayStand policy all c place n = MayBeNumber policy all (word_at c place) (handed_at c place) n
