-- What the lines of a policy test and set can be said where the table grants them.
use Rattle.std.proofs.Common.{◌≡◌, refl, ℕ, Bool, true, false, ◌&&◌, ◌||◌, List, [], ◌∷◌, Option}
use Rattle.std.specs.Prelude.{IfSome, map}
use Rattle.std.specs.List.{list_all, list_any, AllByRecursion}
use Rattle.route_types.specs.declared.address.Address.{Address}
use Rattle.route_types.specs.declared.address.Family.TheVariants.{V4}
use Rattle.route_types.specs.declared.route.Origin.{Origin as RouteOrigin}
use Rattle.route_types.specs.declared.route.Origin.TheVariants.{Igp, Egp, Incomplete}
use Rattle.route_types.specs.declared.route.NextHop.TheVariants.{At}
use Rattle.route_types.specs.declared.change.Change.{Change}
use Rattle.route_types.specs.declared.change.Change.TheVariants.{NextHop, Prepend, Origin, LocalPreference, Med, Weight, Communities}
use Rattle.route_types.specs.declared.community.CommChange.{CommChange}
use Rattle.path_patterns.specs.Items.{SomeOf}
use Rattle.core_nodes.specs.declared.atom.Atom.{Atom}
use Rattle.core_nodes.specs.declared.atom.Atom.TheVariants.{Community}
use Rattle.policy_core.specs.Ranges.{address_in_range}
use Rattle.policy_core.specs.Sayable.{is_plain, is_plain_all_of, is_exactly, lists_are, ios_atom, ios_change, junos_atom, junos_change, rpl_atom, rpl_change}
use Rattle.ios_tree.specs.declared.item.CommunitySetting.{CommunitySetting}
use Rattle.ios_tree.specs.declared.item.IosItem.{IosItem}
use Rattle.ios_tree.specs.declared.item.ItemSort.TheVariants.{CommunityList as CommunityListSort}
use Rattle.ios_tree.specs.declared.item.MapLine.{MapLine}
use Rattle.ios_tree.specs.declared.item.MapLine.TheVariants.{MatchPrefix, MatchNextHop, MatchCommunity, MatchPath, MatchMetric, SetLocalPreference, SetMetric, SetWeight, SetPrepend, SetOrigin, SetNextHop, SetCommunity, DeleteCommunities, Continue, Description}
use Rattle.ios_tree.specs.declared.item.PrefixMatch.{PrefixMatch}
use Rattle.ios_reader.specs.Facts.{facts_of}
use Rattle.ios_lower.specs.Atoms.{community_list_of, atom_of}
use Rattle.ios_lower.specs.Changes.{setting_change, changes_of, Deletes, IsChangeOf}
use Rattle.ios_lower.specs.Deletions.{every}
use Rattle.ios_lower.proofs.Lowered.{one_of_all}
use Rattle.expressible_table.specs.Grants.{grants}
use Rattle.expressible_table.specs.Kinds.{has_short, has_deny, hop_kind, community_kind, origin_kind, deletion_kind}
use Rattle.expressible_table.specs.declared.kind.Dialect.{Dialect}
use Rattle.expressible_table.specs.declared.kind.Dialect.TheVariants.{Ios, Junos, Rpl}
use Rattle.expressible_table.specs.declared.kind.Kind.TheVariants.{NextHopAddressTest, NextHopRangeTest, CommunityRange, CommunityDelete}
use Rattle.expressible_table.specs.declared.kind.Kind.TheVariants.{SetWeight as WeightKind}
use Rattle.granted_policies.proofs.Lists.{all_backwards}
use Rattle.granted_policies.proofs.Written.{IsWrittenLine, AreWritten}
use Rattle.granted_policies.proofs.Lines.{IsGrantedLine}
use Rattle.granted_policies.proofs.Standard.{IsStandardLine, exact_standard}
use Rattle.granted_policies.proofs.Prefixes.{lists_range, lists_full}
use Rattle.granted_policies.proofs.Communities.{lists_all_of, lists_plain, lists_exactly, taken_plain}

-- what a text of the language can say
abbrev pub atom_says : Dialect → Atom → Bool
atom_says Ios a = ios_atom a
atom_says Junos a = junos_atom a
atom_says Rpl a = rpl_atom a

abbrev pub change_says : Dialect → Change → Bool
change_says Ios c = ios_change c
change_says Junos c = junos_change c
change_says Rpl c = rpl_change c

-- what is known of a line: it is granted, a text spells it, and with `exact-match` it names no expanded list
pub record IsKnown (target : Dialect) (name : List ℕ) (all : List IosItem) (l : MapLine) : Type 0 where
  pub granted : IsGrantedLine target all l
  pub written : IsWrittenLine l
  pub standard : IsStandardLine name all l

-- ---- tests

-- what a line tests can be said, if it tests something
abbrev TestSaid : Dialect → Option Atom → Type 0
TestSaid target o = IfSome o (λ a. atom_says target a ≡ true)

either_left : (a b : Bool) → a ≡ true → (a || b) ≡ true
either_left a b h = rw h refl

either_right : (a b : Bool) → b ≡ true → (a || b) ≡ true
either_right true b h = refl
either_right false b h = h

not_short : (b : Bool) → grants (elim b [ true ↦ NextHopRangeTest | false ↦ NextHopAddressTest ]) Junos ≡ true → b ≡ false
not_short true h = absurd cc
not_short false h = refl

prefix_says : (target : Dialect) (all : List IosItem) (m : PrefixMatch) → AreWritten all → TestSaid target (atom_of all (MatchPrefix m))
prefix_says Ios all m w = lists_range all m.family m.lists w
prefix_says Junos all m w = lists_range all m.family m.lists w
prefix_says Rpl all m w = lists_range all m.family m.lists w

hop_says : (target : Dialect) (all : List IosItem) (m : PrefixMatch) → AreWritten all → m.family ≡ V4 → grants (hop_kind all m) target ≡ true → TestSaid target (atom_of all (MatchNextHop m))
hop_says Ios all m w e h = lists_range all m.family m.lists w
hop_says Junos all m w e h = lists_full all m.family m.lists e w (not_short (list_any (has_short all m.family) m.lists) h)
hop_says Rpl all m w e h = lists_range all m.family m.lists w

community_by : (target : Dialect) (name : List ℕ) (all : List IosItem) (exact : Bool) (lists : List (List ℕ)) → AreWritten all → grants (community_kind exact) target ≡ true
    → (exact && list_any (λ list. (facts_of name all).marked CommunityListSort list 1) lists) ≡ false → atom_says target (Community (map (community_list_of exact all) lists)) ≡ true
community_by Rpl name all false lists w g h = lists_all_of all lists
community_by Rpl name all true lists w g h = absurd cc
community_by Junos name all false lists w g h = lists_plain all lists w
community_by Junos name all true lists w g h = absurd cc
community_by Ios name all false lists w g h =
    let made = map (community_list_of false all) lists in
    either_left (lists_are is_plain_all_of made) (lists_are is_exactly made) (lists_plain all lists w)
community_by Ios name all true lists w g h =
    let made = map (community_list_of true all) lists in
    either_right (lists_are is_plain_all_of made) (lists_are is_exactly made) (lists_exactly all lists (exact_standard all lists h))

pub line_tests : (target : Dialect) (name : List ℕ) (all : List IosItem) (l : MapLine) → AreWritten all → IsKnown target name all l → TestSaid target (atom_of all l)
line_tests target name all (MatchPrefix m) w k = prefix_says target all m w
line_tests target name all (MatchNextHop m) w k = hop_says target all m w k.written k.granted
line_tests target name all (MatchCommunity m) w k = community_by target name all m.exact m.lists w k.granted k.standard
line_tests Ios name all (MatchPath m) w k = refl
line_tests Junos name all (MatchPath m) w k = refl
line_tests Rpl name all (MatchPath m) w k = refl
line_tests Ios name all (MatchMetric ns) w k = refl
line_tests Junos name all (MatchMetric ns) w k = refl
line_tests Rpl name all (MatchMetric ns) w k = refl
line_tests target name all _ w k = tt

-- ---- changes

-- each change can be said
abbrev AreSaid : Dialect → List Change → Type 0
AreSaid target cs = AllByRecursion (λ c. change_says target c ≡ true) cs

preference_says : (target : Dialect) (n : ℕ) → change_says target (LocalPreference n) ≡ true
preference_says Ios n = refl
preference_says Junos n = refl
preference_says Rpl n = refl

med_says : (target : Dialect) (n : ℕ) → change_says target (Med n) ≡ true
med_says Ios n = refl
med_says Junos n = refl
med_says Rpl n = refl

prepend_says : (target : Dialect) (n : ℕ) → change_says target (Prepend n) ≡ true
prepend_says Ios n = refl
prepend_says Junos n = refl
prepend_says Rpl n = refl

weight_says : (target : Dialect) (n : ℕ) → grants WeightKind target ≡ true → change_says target (Weight n) ≡ true
weight_says Ios n h = refl
weight_says Junos n h = absurd cc
weight_says Rpl n h = refl

origin_says : (target : Dialect) (o : RouteOrigin) → grants (origin_kind o) target ≡ true → change_says target (Origin o) ≡ true
origin_says Ios Igp h = refl
origin_says Ios Egp h = absurd cc
origin_says Ios Incomplete h = refl
origin_says Junos o h = refl
origin_says Rpl o h = refl

address_says : (target : Dialect) (a : Address) → address_in_range a ≡ true → change_says target (NextHop (At a)) ≡ true
address_says Ios a h = h
address_says Junos a h = h
address_says Rpl a h = h

every_plain : (b : Bool) → list_all is_plain (elim b [ true ↦ [] | false ↦ every ∷ [] ]) ≡ true
every_plain true = refl
every_plain false = refl

setting_says : (target : Dialect) (s : CommunitySetting) → change_says target (Communities (setting_change s)) ≡ true
setting_says Ios s = every_plain s.additive
setting_says Junos s = every_plain s.additive
setting_says Rpl s = refl

prepends_said : (target : Dialect) (ns : List ℕ) → AreSaid target (map (λ n. Prepend n) ns)
prepends_said target [] = tt
prepends_said target (n ∷ ns) = (prepend_says target n, prepends_said target ns)

own_said : (target : Dialect) (name : List ℕ) (all : List IosItem) (l : MapLine) → IsKnown target name all l → AreSaid target (changes_of l)
own_said target name all (SetLocalPreference n) k = (preference_says target n, tt)
own_said target name all (SetMetric n) k = (med_says target n, tt)
own_said target name all (SetWeight n) k = (weight_says target n k.granted, tt)
own_said target name all (SetPrepend ns) k = all_backwards (λ c. change_says target c ≡ true) (map (λ n. Prepend n) ns) (prepends_said target ns)
own_said target name all (SetOrigin o) k = (origin_says target o k.granted, tt)
own_said target name all (SetNextHop a) k = (address_says target a k.written, tt)
own_said target name all (SetCommunity s) k = (setting_says target s, tt)
own_said target name all _ k = tt

-- ---- deletions

-- the language says plain halves alone
abbrev IsPlainOnly : Dialect → Type 0
IsPlainOnly Ios = Unit {0}
IsPlainOnly Junos = Unit {0}
IsPlainOnly Rpl = ⊥

no_deny : (target : Dialect) (b : Bool) → IsPlainOnly target → grants (elim b [ true ↦ CommunityRange | false ↦ CommunityDelete ]) target ≡ true → b ≡ false
no_deny target false p h = refl
no_deny Ios true p h = absurd cc
no_deny Junos true p h = absurd cc
no_deny Rpl true p h = absurd p

removed_says : (target : Dialect) (all : List IosItem) (list : List ℕ) (c : CommChange) → AreWritten all → grants (deletion_kind all list) target ≡ true → Deletes all list (Communities c)
    → change_says target (Communities c) ≡ true
removed_says Ios all list c w g d = taken_plain all list c.removed w (no_deny Ios (has_deny all list) tt g) d.1
removed_says Junos all list c w g d = taken_plain all list c.removed w (no_deny Junos (has_deny all list) tt g) d.1
removed_says Rpl all list c w g d = refl

deletion_says : (target : Dialect) (all : List IosItem) (list : List ℕ) (c : Change) → AreWritten all → grants (deletion_kind all list) target ≡ true → Deletes all list c → change_says target c ≡ true
deletion_says target all list (Communities c) w g d = removed_says target all list c w g d
deletion_says target all list _ w g d = absurd d

one_says : (target : Dialect) (name : List ℕ) (all : List IosItem) (l : MapLine) (c : Change) → IsKnown target name all l → SomeOf (λ d. c ≡ d) (changes_of l) → change_says target c ≡ true
one_says target name all l c k h = one_of_all (λ d. change_says target d ≡ true) c (changes_of l) (own_said target name all l k) h

pub line_sets : (target : Dialect) (name : List ℕ) (all : List IosItem) (l : MapLine) (c : Change) → AreWritten all → IsKnown target name all l → IsChangeOf all l c → change_says target c ≡ true
line_sets target name all (DeleteCommunities list) c w k h = deletion_says target all list c w k.granted h
line_sets target name all (MatchPrefix m) c w k h = one_says target name all (MatchPrefix m) c k h
line_sets target name all (MatchNextHop m) c w k h = one_says target name all (MatchNextHop m) c k h
line_sets target name all (MatchCommunity m) c w k h = one_says target name all (MatchCommunity m) c k h
line_sets target name all (MatchPath m) c w k h = one_says target name all (MatchPath m) c k h
line_sets target name all (MatchMetric ns) c w k h = one_says target name all (MatchMetric ns) c k h
line_sets target name all (SetLocalPreference n) c w k h = one_says target name all (SetLocalPreference n) c k h
line_sets target name all (SetMetric n) c w k h = one_says target name all (SetMetric n) c k h
line_sets target name all (SetWeight n) c w k h = one_says target name all (SetWeight n) c k h
line_sets target name all (SetPrepend ns) c w k h = one_says target name all (SetPrepend ns) c k h
line_sets target name all (SetOrigin o) c w k h = one_says target name all (SetOrigin o) c k h
line_sets target name all (SetNextHop a) c w k h = one_says target name all (SetNextHop a) c k h
line_sets target name all (SetCommunity s) c w k h = one_says target name all (SetCommunity s) c k h
line_sets target name all (Continue s) c w k h = one_says target name all (Continue s) c k h
line_sets target name all Description c w k h = one_says target name all Description c k h
