-- How the forms of Junos are spelled when they are written: the words of each, one behind another (Junos OS Routing
-- Policies, Firewall Filters, and Traffic Policers User Guide).
use Rattle.std.specs.Prelude.{ℕ, ◌+◌, Bool, true, false, ◌&&◌, ◌==◌, List, [], ◌∷◌, ◌++◌, codes, decimal, map}
use Rattle.route_types.specs.Community.{RectParts}
use Rattle.route_types.specs.Print.{address_text, prefix_text}
use Rattle.route_types.specs.RouteText.{origin_text}
use Rattle.route_types.specs.declared.route.NextHop.{NextHop}
use Rattle.route_types.specs.declared.route.NextHop.TheVariants.{At, Own}
use Rattle.prefix_sets.specs.Range.{RangeParts}
use Rattle.aspath_text.specs.IosGrammar.{joined_by}
use Rattle.text_words.specs.Pieces.{Piece, line_pieces}
use Rattle.junos_tree.specs.declared.item.Action.{Action}
use Rattle.junos_tree.specs.declared.item.Action.TheVariants.{Flow as FlowAction, Metric as SetMetric, LocalPreference as SetLocalPreference, Origin as SetOrigin, NextHop as SetNextHop, Community as ChangeCommunities, Prepend}
use Rattle.junos_tree.specs.declared.item.CommunityDefinition.{CommunityDefinition}
use Rattle.junos_tree.specs.declared.item.CommunityVerb.{CommunityVerb}
use Rattle.junos_tree.specs.declared.item.CommunityVerb.TheVariants.{Set, Add, Delete}
use Rattle.junos_tree.specs.declared.item.Condition.{Condition}
use Rattle.junos_tree.specs.declared.item.Condition.TheVariants.{Protocol, Community, AsPath, NextHop as AsksNextHop, Policy, PrefixList, RouteFilter, ListFilter, Metric, LocalPreference, Origin}
use Rattle.junos_tree.specs.declared.item.Flow.{Flow}
use Rattle.junos_tree.specs.declared.item.Flow.TheVariants.{Accept, Reject, NextTerm, NextPolicy}
use Rattle.junos_tree.specs.declared.item.PathDefinition.{PathDefinition}

-- ---- values

-- one value alone, several in brackets
abbrev pub values_words : List (List ℕ) → List (List ℕ)
values_words (w ∷ []) = w ∷ []
values_words ws = codes "[" ∷ (ws ++ (codes "]" ∷ []))

-- half of a member: `*` for all numbers, else the one number
abbrev pub half_text : ℕ → ℕ → List ℕ
half_text least most = elim (least == most) [ true ↦ decimal least | false ↦ codes "*" ]

-- a member of a community: two halves joined by `:`
abbrev pub member_text : RectParts → List ℕ
member_text r = half_text r.high_least r.high_most ++ (58 ∷ half_text r.low_least r.low_most)

-- a length behind a slash
abbrev pub length_text : ℕ → List ℕ
length_text n = 47 ∷ decimal n

-- lengths by four tests: they are that of the prefix alone, all longer ones, all from it on, those from it up to one
abbrev pub type_by : Bool → Bool → Bool → Bool → ℕ → ℕ → List (List ℕ)
type_by true longer orlonger up_to least most = codes "exact" ∷ []
type_by false true orlonger up_to least most = codes "longer" ∷ []
type_by false false true up_to least most = codes "orlonger" ∷ []
type_by false false false true least most = codes "upto" ∷ length_text most ∷ []
type_by false false false false least most = codes "prefix-length-range" ∷ (length_text least ++ (45 ∷ length_text most)) ∷ []

-- the type of a route filter with a prefix of this length, in the first form that fits
abbrev pub type_words : ℕ → ℕ → ℕ → List (List ℕ)
type_words length least most = type_by ((least == length) && (most == length)) ((least == length + 1) && (most == 32)) ((least == length) && (most == 32)) (least == length) least most

-- an address, or `self`
abbrev pub next_hop_text : NextHop → List ℕ
next_hop_text (At a) = address_text a
next_hop_text Own = codes "self"

-- how a prefix list is asked
abbrev pub filter_text : Bool → List ℕ
filter_text true = codes "orlonger"
filter_text false = codes "exact"

-- ---- conditions and actions

-- a condition
abbrev pub condition_words : Condition → List (List ℕ)
condition_words (Protocol names) = codes "protocol" ∷ values_words names
condition_words (Community names) = codes "community" ∷ values_words names
condition_words (AsPath names) = codes "as-path" ∷ values_words names
condition_words (AsksNextHop hops) = codes "next-hop" ∷ values_words (map address_text hops)
condition_words (Policy names) = codes "policy" ∷ values_words names
condition_words (PrefixList names) = codes "prefix-list" ∷ values_words names
condition_words (RouteFilter r) = codes "route-filter" ∷ prefix_text r.prefix ∷ type_words r.prefix.length r.least r.most
condition_words (ListFilter l) = codes "prefix-list-filter" ∷ l.list ∷ filter_text l.or_longer ∷ []
condition_words (Metric n) = codes "metric" ∷ decimal n ∷ []
condition_words (LocalPreference n) = codes "local-preference" ∷ decimal n ∷ []
condition_words (Origin o) = codes "origin" ∷ origin_text o ∷ []

-- where a run goes
abbrev pub flow_words : Flow → List (List ℕ)
flow_words Accept = codes "accept" ∷ []
flow_words Reject = codes "reject" ∷ []
flow_words NextTerm = codes "next" ∷ codes "term" ∷ []
flow_words NextPolicy = codes "next" ∷ codes "policy" ∷ []

-- what is done with the members of a community
abbrev pub verb_text : CommunityVerb → List ℕ
verb_text Set = codes "set"
verb_text Add = codes "add"
verb_text Delete = codes "delete"

-- the numbers that are put before a path, with one space between each two
abbrev pub numbers_text : List ℕ → List ℕ
numbers_text ns = joined_by 32 (map decimal ns)

-- words behind one space each, and a last one in quotes
abbrev pub quoted_last : List (List ℕ) → List ℕ → List Piece
quoted_last ws text = line_pieces 0 ws ++ (record { gap = 1; text = text; quoted = true } ∷ [])

-- an action
abbrev pub action_pieces : Action → List Piece
action_pieces (FlowAction flow) = line_pieces 0 (flow_words flow)
action_pieces (SetMetric n) = line_pieces 0 (codes "metric" ∷ decimal n ∷ [])
action_pieces (SetLocalPreference n) = line_pieces 0 (codes "local-preference" ∷ decimal n ∷ [])
action_pieces (SetOrigin o) = line_pieces 0 (codes "origin" ∷ origin_text o ∷ [])
action_pieces (SetNextHop h) = line_pieces 0 (codes "next-hop" ∷ next_hop_text h ∷ [])
action_pieces (ChangeCommunities c) = line_pieces 0 (codes "community" ∷ verb_text c.verb ∷ c.community ∷ [])
action_pieces (Prepend ns) = quoted_last (codes "as-path-prepend" ∷ []) (numbers_text ns)

-- ---- definitions

-- an AS path, its pattern in quotes
abbrev pub path_pieces : PathDefinition → List Piece
path_pieces p = quoted_last (codes "as-path" ∷ p.name ∷ []) p.text

-- a community
abbrev pub community_words : CommunityDefinition → List (List ℕ)
community_words c = codes "community" ∷ c.name ∷ codes "members" ∷ values_words (map member_text c.members)
