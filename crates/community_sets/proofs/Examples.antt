-- Worked examples that the checker computes.
use Rattle.std.proofs.Common.{◌≡◌, refl, List, [], ◌∷◌, ◌+◌, ◌*◌, ℕ, Bool, true, false}
use Rattle.route_types.specs.Community.{RectParts, sides, set_after}
use Rattle.route_types.specs.declared.community.Community.{Community}
use Rattle.community_sets.specs.Cuts.{meet, lies_in, cut_of}
use Rattle.community_sets.specs.Tests.{list_answers, same_set}
use Rattle.community_sets.specs.declared.change.Cut.{Cut}
use Rattle.community_sets.specs.declared.change.Cut.TheVariants.{Never, Whole, Part}
use Rattle.community_sets.specs.declared.list.CommEntry.{CommEntry}
use Rattle.community_sets.specs.declared.list.CommTest.TheVariants.{AllOf, Exactly}

abbrev of : ℕ → ℕ → Community
of high low = record { 0 = high * 65536 + low }

-- the one community
abbrev point : ℕ → ℕ → RectParts
point high low = record { high_least = high; high_most = high; low_least = low; low_most = low }

-- the communities of one upper half
abbrev row : ℕ → RectParts
row high = record { high_least = high; high_most = high; low_least = 0; low_most = 65535 }

abbrev all_of : Bool → List RectParts → CommEntry
all_of permit rects = record { permit = permit; test = AllOf rects }

-- an entry of two members asks for both
both : list_answers (all_of true (point 65001 1 ∷ point 65001 2 ∷ []) ∷ []) (of 65001 1 ∷ of 65001 2 ∷ of 65002 7 ∷ []) ≡ true
unfolding list_answers
both = refl

one_of_both : list_answers (all_of true (point 65001 1 ∷ point 65001 2 ∷ []) ∷ []) (of 65001 1 ∷ of 65002 7 ∷ []) ≡ false
unfolding list_answers
one_of_both = refl

-- a deny before a wider permit
denied_first : list_answers (all_of false (point 65001 1 ∷ []) ∷ all_of true (row 65001 ∷ []) ∷ []) (of 65001 1 ∷ of 65001 2 ∷ []) ≡ false
unfolding list_answers
denied_first = refl

permitted_behind : list_answers (all_of false (point 65001 1 ∷ []) ∷ all_of true (row 65001 ∷ []) ∷ []) (of 65001 2 ∷ []) ≡ true
unfolding list_answers
permitted_behind = refl

-- an entry of no rectangle holds of every set, and a list of no entry of none
no_rectangle : list_answers (all_of true [] ∷ []) [] ≡ true
unfolding list_answers
no_rectangle = refl

no_entry : list_answers [] (of 65001 1 ∷ []) ≡ false
unfolding list_answers
no_entry = refl

-- the same members, in whatever order and number
reordered : same_set (of 65001 2 ∷ of 65001 1 ∷ of 65001 2 ∷ []) (of 65001 1 ∷ of 65001 2 ∷ []) ≡ true
reordered = refl

exactly_fewer : list_answers (record { permit = true; test = Exactly (of 65001 1 ∷ []) } ∷ []) (of 65001 1 ∷ of 65001 2 ∷ []) ≡ false
unfolding list_answers
exactly_fewer = refl

-- all of 65001 removed and 65001:1 added, and then 65001:1 removed
joined : set_after (row 65001 ∷ point 65001 1 ∷ []) [] (of 65001 1 ∷ of 65001 5 ∷ of 65002 1 ∷ []) ≡ of 65002 1 ∷ []
joined = refl

-- how the second rectangle cuts the first
abbrev cut_by : RectParts → RectParts → Cut
cut_by r s = cut_of (meet (sides r) (sides s)) (lies_in (sides r) (sides s))

cut_in_part : cut_by (row 65001) (point 65001 1) ≡ Part
cut_in_part = refl

cut_whole : cut_by (point 65001 1) (row 65001) ≡ Whole
cut_whole = refl

not_cut : cut_by (point 65002 1) (row 65001) ≡ Never
not_cut = refl
