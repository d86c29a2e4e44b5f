-- The entries of lists as what conditions ask: a range without lengths that no prefix of IPv4 has, and no entry whose
-- range is empty; `matches-any` for an entry that asks for one community, `matches-every` for one that asks for others.
use Rattle.std.specs.Prelude.{ℕ, Bool, true, false, nat_le, min, max, List, [], ◌∷◌, ◌++◌}
use Rattle.route_types.specs.Community.{RectParts}
use Rattle.prefix_sets.specs.Range.{RangeParts}
use Rattle.prefix_sets.specs.declared.list.PrefixEntry.{PrefixEntry}
use Rattle.prefix_sets.specs.declared.list.PrefixList.{PrefixList}
use Rattle.community_sets.specs.declared.list.CommList.{CommList}
use Rattle.community_sets.specs.declared.list.CommEntry.{CommEntry}
use Rattle.community_sets.specs.declared.list.CommTest.{CommTest}
use Rattle.community_sets.specs.declared.list.CommTest.TheVariants.{AllOf, Exactly}
use Rattle.rpl_plans.specs.Choices.{terms_of_list}
use Rattle.rpl_plans.specs.declared.choice.Choice.{Choice}
use Rattle.rpl_plans.specs.declared.choice.PlannedTerm.{PlannedTerm}
use Rattle.rpl_plans.specs.declared.test.PlannedTest.{PlannedTest}
use Rattle.rpl_plans.specs.declared.test.PlannedTest.TheVariants.{Destination, NextHop, MatchesAny, MatchesEvery, MedIs}
use Rattle.rpl_plans.specs.declared.test.RouteAddress.{RouteAddress}
use Rattle.rpl_plans.specs.declared.test.RouteAddress.TheVariants.{Destination as OfDestination, NextHop as OfNextHop}

-- ---- prefix lists

-- the test of a set of prefixes
abbrev pub address_test : RouteAddress → List RangeParts → PlannedTest
address_test OfDestination ranges = Destination ranges
address_test OfNextHop ranges = NextHop ranges

-- a prefix of IPv4 can have a length of the range
abbrev pub has_length : RangeParts → Bool
has_length x = nat_le (max x.least x.prefix.length) (min x.most 32)

-- the range from the length of its prefix on, without the lengths that no prefix of IPv4 has
abbrev pub cut_range : RangeParts → RangeParts
cut_range x = record { prefix = x.prefix; least = max x.least x.prefix.length; most = min x.most 32 }

-- what the entries of a prefix list ask
unfoldable pub prefix_choices : RouteAddress → List PrefixEntry → List Choice
prefix_choices asked [] = []
prefix_choices asked (e ∷ es) = elim (has_length e.range) [
  | true ↦ record { permit = e.permit; test = address_test asked (cut_range e.range ∷ []) } ∷ prefix_choices asked es
  | false ↦ prefix_choices asked es
]

-- ---- community lists

-- the test of an entry that asks for these
abbrev pub set_test : List RectParts → PlannedTest
set_test [] = MatchesEvery []
set_test (r ∷ []) = MatchesAny (r ∷ [])
set_test (r ∷ q ∷ rs) = MatchesEvery (r ∷ q ∷ rs)

-- no condition asks for a whole set
abbrev pub comm_test : CommTest → PlannedTest
comm_test (AllOf rects) = set_test rects
comm_test (Exactly set) = MatchesAny []

-- what the entries of a community list ask
unfoldable pub comm_choices : List CommEntry → List Choice
comm_choices [] = []
comm_choices (e ∷ es) = record { permit = e.permit; test = comm_test e.test } ∷ comm_choices es

-- ---- the terms of lists

unfoldable pub prefix_terms : RouteAddress → List PrefixList → List PlannedTerm
prefix_terms asked [] = []
prefix_terms asked (l ∷ ls) = terms_of_list (prefix_choices asked l.entries) ++ prefix_terms asked ls

unfoldable pub comm_terms : List CommList → List PlannedTerm
comm_terms [] = []
comm_terms (l ∷ ls) = terms_of_list (comm_choices l.entries) ++ comm_terms ls

-- the MED is one of the numbers
unfoldable pub med_terms : List ℕ → List PlannedTerm
med_terms [] = []
med_terms (n ∷ ns) = record { denied = []; permitted = MedIs n } ∷ med_terms ns
