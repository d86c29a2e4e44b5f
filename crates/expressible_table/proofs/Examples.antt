-- Worked examples, which the checker computes: the table row by row, the kinds of lines, and the constructs of a small policy.
use Rattle.std.proofs.Common.{◌≡◌, refl, ◌+◌, ℕ, Bool, true, false, List, [], ◌∷◌, Some, None}
use Rattle.std.specs.Prelude.{codes, map}
use Rattle.text_words.specs.declared.statement.Span.{Span}
use Rattle.route_types.specs.declared.address.Family.TheVariants.{V4}
use Rattle.route_types.specs.declared.route.Origin.TheVariants.{Igp, Egp}
use Rattle.ios_tree.specs.declared.item.CommunityShape.TheVariants.{Standard}
use Rattle.ios_tree.specs.declared.item.IosForm.{IosForm}
use Rattle.ios_tree.specs.declared.item.IosForm.TheVariants.{PrefixEntry, CommunityEntry, MapHeader, Line}
use Rattle.ios_tree.specs.declared.item.IosItem.{IosItem}
use Rattle.ios_tree.specs.declared.item.MapLine.{MapLine}
use Rattle.ios_tree.specs.declared.item.MapLine.TheVariants.{MatchNextHop, MatchCommunity, MatchMetric, SetWeight as LineWeight, SetOrigin as LineOrigin, DeleteCommunities, Continue, Description}
use Rattle.expressible_table.specs.Grants.{grants}
use Rattle.expressible_table.specs.Kinds.{kind_of}
use Rattle.expressible_table.specs.Constructs.{map_constructs}
use Rattle.expressible_table.specs.Missing.{first_missing}
use Rattle.expressible_table.specs.declared.construct.Construct.{Construct}
use Rattle.expressible_table.specs.declared.kind.Dialect.TheVariants.{Ios, Junos, Rpl}
use Rattle.expressible_table.specs.declared.kind.Kind.{Kind}
use Rattle.expressible_table.specs.declared.kind.Kind.TheVariants.{Flow, PolicyCall, ProtocolTest, PrefixTest, NextHopAddressTest, NextHopRangeTest, PathTest, CommunityTest, CommunityRange, ExactMatch, IsEmpty, CutCommunityTest, MedEqualTest, MedOrderTest, LocalPreferenceTest, OriginTest, SetLocalPreference, SetMed, SetWeight, SetOrigin, SetOriginEgp, SetNextHop, NextHopSelf, Prepend, CommunitySet, CommunityDelete}

-- ---- the table

-- a kind, and whether IOS, Junos and IOS XR can say it
abbrev table : List (Kind × Bool × Bool × Bool)
table =
    (Flow, true, true, true)
    ∷ (PolicyCall, true, true, true)
    ∷ (ProtocolTest, true, true, true)
    ∷ (PrefixTest, true, true, true)
    ∷ (NextHopAddressTest, true, true, true)
    ∷ (NextHopRangeTest, true, false, true)
    ∷ (PathTest, true, true, true)
    ∷ (CommunityTest, true, true, true)
    ∷ (CommunityRange, false, false, true)
    ∷ (ExactMatch, true, false, false)
    ∷ (IsEmpty, false, false, true)
    ∷ (CutCommunityTest, false, false, false)
    ∷ (MedEqualTest, true, true, true)
    ∷ (MedOrderTest, false, false, true)
    ∷ (LocalPreferenceTest, false, true, false)
    ∷ (OriginTest, false, true, true)
    ∷ (SetLocalPreference, true, true, true)
    ∷ (SetMed, true, true, true)
    ∷ (SetWeight, true, false, true)
    ∷ (SetOrigin, true, true, true)
    ∷ (SetOriginEgp, false, true, true)
    ∷ (SetNextHop, true, true, true)
    ∷ (NextHopSelf, false, true, true)
    ∷ (Prepend, true, true, true)
    ∷ (CommunitySet, true, true, true)
    ∷ (CommunityDelete, true, true, true)
    ∷ []

abbrev granted : Kind → Kind × Bool × Bool × Bool
granted kind = (kind, grants kind Ios, grants kind Junos, grants kind Rpl)

table_is_granted : map (λ r. granted r.0) table ≡ table
table_is_granted = refl

-- ---- the kinds of lines

-- the statement at a place
abbrev span : ℕ → Span
span n = record { start = n; end = n + 1 }

abbrev item : ℕ → IosForm → IosItem
item n form = record { form = form; span = span n }

-- an entry of prefix list P for 192.0.2.1 with this length
abbrev of_length : ℕ → IosForm
of_length n = PrefixEntry (record {
  list = codes "P";
  has_seq = true;
  number = n;
  entry = record { permit = true; range = record { prefix = record { address = record { family = V4; bits = 3221225985 }; length = n }; least = n; most = 32 } };
})

-- an entry of community list D for 65001:1
abbrev of_list : Bool → IosForm
of_list permit = CommunityEntry (record { list = codes "D"; permit = permit; shape = Standard (record { 0 = 4259905537 } ∷ []) })

abbrev hop_test : MapLine
hop_test = MatchNextHop (record { family = V4; lists = codes "P" ∷ [] })

-- a next hop is tested for addresses where each entry is of full length, or where there is no entry
hop_of_addresses : kind_of (item 0 (of_length 32) ∷ []) hop_test ≡ Some NextHopAddressTest
hop_of_addresses = refl

hop_of_none : kind_of [] hop_test ≡ Some NextHopAddressTest
hop_of_none = refl

hop_of_ranges : kind_of (item 0 (of_length 32) ∷ item 1 (of_length 24) ∷ []) hop_test ≡ Some NextHopRangeTest
hop_of_ranges = refl

exact_test : kind_of [] (MatchCommunity (record { lists = codes "D" ∷ []; exact = true })) ≡ Some ExactMatch
exact_test = refl

plain_test : kind_of [] (MatchCommunity (record { lists = codes "D" ∷ []; exact = false })) ≡ Some CommunityTest
plain_test = refl

-- a deletion by a list with an entry that denies, and by one without
range_deletion : kind_of (item 0 (of_list true) ∷ item 1 (of_list false) ∷ []) (DeleteCommunities (codes "D")) ≡ Some CommunityRange
range_deletion = refl

plain_deletion : kind_of (item 0 (of_list true) ∷ []) (DeleteCommunities (codes "D")) ≡ Some CommunityDelete
plain_deletion = refl

origins : map (λ o. kind_of [] (LineOrigin o)) (Igp ∷ Egp ∷ []) ≡ Some SetOrigin ∷ Some SetOriginEgp ∷ []
origins = refl

metric_test : kind_of [] (MatchMetric (5 ∷ [])) ≡ Some MedEqualTest
metric_test = refl

continue_is_flow : kind_of [] (Continue None) ≡ Some Flow
continue_is_flow = refl

description_is_none : kind_of [] Description ≡ None
description_is_none = refl

-- ---- a policy

-- a policy M with an entry, and an entry of another one
abbrev header : List ℕ → IosForm
header name = MapHeader (record { map = name; permit = true; number = 10 })

abbrev policy : List IosItem
policy =
    item 0 (of_list true)
    ∷ item 1 (header (codes "M"))
    ∷ item 2 (Line Description)
    ∷ item 3 (Line (MatchCommunity (record { lists = codes "D" ∷ []; exact = true })))
    ∷ item 4 (Line (LineWeight 10))
    ∷ item 5 (header (codes "N"))
    ∷ item 6 (Line (LineOrigin Igp))
    ∷ []

abbrev at : ℕ → Kind → Construct
at n kind = record { kind = kind; span = span n }

its_constructs : map_constructs (codes "M") policy ≡ at 1 Flow ∷ at 3 ExactMatch ∷ at 4 SetWeight ∷ []
its_constructs = refl

-- IOS can say it; Junos can say neither of two, of which the first one is named; IOS XR can't say one
its_missing : map (λ target. first_missing target (map_constructs (codes "M") policy)) (Ios ∷ Junos ∷ Rpl ∷ []) ≡ None ∷ Some (at 3 ExactMatch) ∷ Some (at 3 ExactMatch) ∷ []
unfolding first_missing
its_missing = refl

-- without `exact-match` Junos lacks the weight
its_next : first_missing Junos (at 1 Flow ∷ at 4 SetWeight ∷ []) ≡ Some (at 4 SetWeight)
unfolding first_missing
its_next = refl
