-- The printed names of kinds.
use Rattle.std.specs.Prelude.{ℕ, List, codes}
use Rattle.expressible_table.specs.declared.kind.Kind.{Kind}
use Rattle.expressible_table.specs.declared.kind.Kind.TheVariants.{Flow, PolicyCall, ProtocolTest, PrefixTest, NextHopAddressTest, NextHopRangeTest, PathTest, CommunityTest, CommunityRange, ExactMatch, IsEmpty, CutCommunityTest, MedEqualTest, MedOrderTest, LocalPreferenceTest, OriginTest, SetLocalPreference, SetMed, SetWeight, SetOrigin, SetOriginEgp, SetNextHop, NextHopSelf, Prepend, CommunitySet, CommunityDelete}

-- the name of a kind as it is printed
abbrev pub kind_name : Kind → List ℕ
kind_name Flow = codes "flow"
kind_name PolicyCall = codes "policy-call"
kind_name ProtocolTest = codes "protocol-test"
kind_name PrefixTest = codes "prefix-test"
kind_name NextHopAddressTest = codes "next-hop-address-test"
kind_name NextHopRangeTest = codes "next-hop-range-test"
kind_name PathTest = codes "path-test"
kind_name CommunityTest = codes "community-test"
kind_name CommunityRange = codes "community-range"
kind_name ExactMatch = codes "exact-match"
kind_name IsEmpty = codes "is-empty"
kind_name CutCommunityTest = codes "cut-community-test"
kind_name MedEqualTest = codes "med-equal-test"
kind_name MedOrderTest = codes "med-order-test"
kind_name LocalPreferenceTest = codes "local-preference-test"
kind_name OriginTest = codes "origin-test"
kind_name SetLocalPreference = codes "set-local-preference"
kind_name SetMed = codes "set-med"
kind_name SetWeight = codes "set-weight"
kind_name SetOrigin = codes "set-origin"
kind_name SetOriginEgp = codes "set-origin-egp"
kind_name SetNextHop = codes "set-next-hop"
kind_name NextHopSelf = codes "next-hop-self"
kind_name Prepend = codes "prepend"
kind_name CommunitySet = codes "community-set"
kind_name CommunityDelete = codes "community-delete"
