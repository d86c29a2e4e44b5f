-- What the code keeps of what parameters may be.
use Rattle.std.specs.Prelude.{◌≡◌, ℕ, Bool, false, ◌||◌, List, Option, Some, None, slice_get}
use Rattle.std.specs.List.{list_any}
use Rattle.step_search.specs.Found.{IsIn, IsFound}
use Rattle.policy_text.specs.NameSets.{has_name, is_key}
use Rattle.rpl_calls.specs.Parameters.{ParameterParts}
use Rattle.rpl_calls.specs.Arguments.{ArgumentParts, target}
use Rattle.rpl_calls.specs.Givens.{next_givens}
use Rattle.rpl_calls.specs.declared.given.Fact.{Fact}
use Rattle.rpl_calls.specs.declared.given.Fact.TheVariants.{Wide, Length}
use Rattle.rpl_calls.specs.declared.given.Given.{Given}
use Rattle.rpl_reader.specs.Facts.{Facts}
use Rattle.rpl_reader.specs.Givens.{first_givens}
use Rattle.rpl_reader.specs.declared.possible.Possible.{Possible}

-- a parameter may be this, by the sets
abbrev pub known_may : Possible → ParameterParts → Fact → Bool
known_may m p Wide = has_name m.wide p.policy p.place 0
known_may m p (Length n) = has_name m.lengths p.policy p.place n

-- the parameter of this name and place is this one, which may be a set that isn't plain
abbrev pub fact_wide : List ℕ → ℕ → ℕ → ParameterParts → Fact → Bool
fact_wide q s n p Wide = is_key q s n p.policy p.place 0
fact_wide q s n p (Length m) = false

-- the same for this number
abbrev pub fact_length : List ℕ → ℕ → ℕ → ParameterParts → Fact → Bool
fact_length q s n p Wide = false
fact_length q s n p (Length m) = is_key q s n p.policy p.place m

-- what an argument may be that is handed to the parameter
abbrev pub gives_wide : List ArgumentParts → List ℕ → ℕ → ℕ → Given → Bool
gives_wide args q s n g = elim (slice_get args g.argument) [ None ↦ false | Some a ↦ fact_wide q s n (target a) g.fact ]

abbrev pub gives_length : List ArgumentParts → List ℕ → ℕ → ℕ → Given → Bool
gives_length args q s n g = elim (slice_get args g.argument) [ None ↦ false | Some a ↦ fact_length q s n (target a) g.fact ]

-- a parameter may be this, by what these arguments may be
abbrev pub may_by : List ArgumentParts → List Given → ParameterParts → Fact → Bool
may_by args gs p Wide = list_any (gives_wide args p.policy p.place 0) gs
may_by args gs p (Length n) = list_any (gives_length args p.policy p.place n) gs

-- the sets have what these arguments may be
pub record HoldsGivens (args : List ArgumentParts) (gs : List Given) (m : Possible) : Type 0 where
  pub wide : (q : List ℕ) (s n : ℕ) → has_name m.wide q s n ≡ list_any (gives_wide args q s n) gs
  pub lengths : (q : List ℕ) (s n : ℕ) → has_name m.lengths q s n ≡ list_any (gives_length args q s n) gs

-- the sets have all that arguments may be
pub record Finds (facts : Facts) (reached : List ℕ → Bool) (args : List ArgumentParts) (m : Possible) : Type 0 where
  pub found : List Given
  pub sound : (g : Given) → IsIn g found → IsFound (next_givens args) (first_givens facts reached 0 args) g
  pub whole : (g : Given) → IsFound (next_givens args) (first_givens facts reached 0 args) g → IsIn g found
  pub holds : HoldsGivens args found m
