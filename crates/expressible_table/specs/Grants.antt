-- The table: which kinds of constructs a text of each language can say (Cisco IOS IP Routing: BGP and Protocol-Independent
-- command references, 'match' and 'set' commands; Junos OS Routing Policies User Guide, 'Routing Policy Match Conditions' and
-- 'Actions in Routing Policy Terms'; Cisco IOS XR Routing Configuration Guide, 'Implementing Routing Policy').
use Rattle.std.specs.Prelude.{Bool, true, false}
use Rattle.expressible_table.specs.declared.kind.Dialect.{Dialect}
use Rattle.expressible_table.specs.declared.kind.Dialect.TheVariants.{Ios, Junos, Rpl}
use Rattle.expressible_table.specs.declared.kind.Kind.{Kind}
use Rattle.expressible_table.specs.declared.kind.Kind.TheVariants.{NextHopRangeTest, CommunityRange, ExactMatch, IsEmpty, CutCommunityTest, MedOrderTest, LocalPreferenceTest, OriginTest, SetWeight, SetOriginEgp, NextHopSelf}

-- Cisco IOS can say every kind but these
abbrev pub ios_grants : Kind → Bool
ios_grants CommunityRange = false
ios_grants IsEmpty = false
ios_grants CutCommunityTest = false
ios_grants MedOrderTest = false
ios_grants LocalPreferenceTest = false
ios_grants OriginTest = false
ios_grants SetOriginEgp = false
ios_grants NextHopSelf = false
ios_grants _ = true

-- Junos can say every kind but these
abbrev pub junos_grants : Kind → Bool
junos_grants NextHopRangeTest = false
junos_grants CommunityRange = false
junos_grants ExactMatch = false
junos_grants IsEmpty = false
junos_grants CutCommunityTest = false
junos_grants MedOrderTest = false
junos_grants SetWeight = false
junos_grants _ = true

-- IOS XR can say every kind but these
abbrev pub rpl_grants : Kind → Bool
rpl_grants ExactMatch = false
rpl_grants CutCommunityTest = false
rpl_grants LocalPreferenceTest = false
rpl_grants _ = true

-- a text of the language can say constructs of the kind
abbrev pub grants : Kind → Dialect → Bool
grants kind Ios = ios_grants kind
grants kind Junos = junos_grants kind
grants kind Rpl = rpl_grants kind
