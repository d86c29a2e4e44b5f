-- Worked examples that the checker computes: a group of forms, and each rule of the tree.
use Rattle.std.proofs.Common.{◌≡◌, refl, ℕ, Bool, true, false, List, [], ◌∷◌, ◌++◌, Option, Some, None}
use Rattle.std.specs.Prelude.{codes, map, option_map}
use Rattle.route_types.specs.RouteLines.{origin_in}
use Rattle.route_types.specs.Words.{number_in, prefix_in, address_in, parts_at}
use Rattle.route_types.specs.declared.address.Family.TheVariants.{V4}
use Rattle.route_types.specs.declared.route.NextHop.TheVariants.{Own}
use Rattle.route_types.specs.declared.route.Origin.TheVariants.{Egp}
use Rattle.text_words.specs.JunosCut.{cut_or_fault, grouped}
use Rattle.text_words.specs.JunosWords.{tokens_at, step_at, sort_at}
use Rattle.policy_text.specs.Phrases.{after, each}
use Rattle.junos_tree.specs.Forms.{of_keys, values_in, type_in, range_in, named_in, filter_in, attribute_in, condition_in, flow_in, setting_in, change_in, action_in, list_in, policy_in, term_in, community_in, path_in, clause_in, form_in}
use Rattle.junos_tree.specs.Terms.{parts, own_forms, terms_of}
use Rattle.junos_tree.specs.Tree.{known_form, opened_at, said_at, items_from, junos_tree}
use Rattle.route_types.specs.RouteLines.{next_hop_in}
use Rattle.policy_text.specs.Halves.{halves_in}
use Rattle.junos_tree.specs.Words.{member_in, list_member_in, up_to_in, lengths_in, between_spaces, prepended_in}
use Rattle.junos_tree.specs.declared.item.Action.{Action}
use Rattle.junos_tree.specs.declared.item.Action.TheVariants.{Flow as DoFlow, Metric as SetMetric, Community as ChangeCommunities, Prepend, NextHop as SetNextHop, Origin as SetOrigin}
use Rattle.junos_tree.specs.declared.item.CommunityVerb.TheVariants.{Set, Delete}
use Rattle.junos_tree.specs.declared.item.Condition.{Condition}
use Rattle.junos_tree.specs.declared.item.Condition.TheVariants.{Protocol, Community, Policy, ListFilter, Metric}
use Rattle.junos_tree.specs.declared.item.Flow.TheVariants.{Accept, Reject, NextTerm, NextPolicy}
use Rattle.junos_tree.specs.declared.item.StatementSort.{StatementSort}
use Rattle.junos_tree.specs.declared.item.StatementSort.TheVariants.{Community as CommunitySort, Policy as PolicySort, Inner}
use Rattle.junos_tree.specs.declared.item.JunosForm.{JunosForm}
use Rattle.junos_tree.specs.declared.item.JunosForm.TheVariants.{PrefixList as ListForm, Member, Policy as PolicyForm, Term as TermForm, Condition as IsCondition, Action as IsAction, Other}

-- ---- words and values

-- the lengths of a type behind a prefix of this length
lengths : List ℕ → ℕ → Option (ℕ × ℕ)
lengths w n = type_in n (w ∷ [])

types_of_one_word : map (λ w. lengths w 24) (codes "exact" ∷ codes "longer" ∷ codes "orlonger" ∷ codes "upto" ∷ []) ≡ Some (24, 24) ∷ Some (25, 32) ∷ Some (24, 32) ∷ None ∷ []
unfolding lengths type_in after
types_of_one_word = refl

-- behind a prefix of full length `longer` gives no length
no_longer : lengths (codes "longer") 32 ≡ Some (33, 32)
unfolding lengths type_in after
no_longer = refl

types_of_two_words : map (λ w. type_in 24 w) ((codes "upto" ∷ codes "/28" ∷ []) ∷ (codes "upto" ∷ codes "/23" ∷ []) ∷ (codes "prefix-length-range" ∷ codes "/25-/30" ∷ []) ∷ (codes "prefix-length-range" ∷ codes "/30-/25" ∷ []) ∷ []) ≡
    Some (24, 28) ∷ None ∷ Some (25, 30) ∷ None ∷ []
unfolding type_in after up_to_in lengths_in parts_at number_in
types_of_two_words = refl

-- a member of a community: halves that are numbers or all, and words of their own
members : map (λ w. member_in w) (codes "65001:1" ∷ codes "65001:*" ∷ codes "*:*" ∷ codes "no-export" ∷ codes "65001" ∷ codes "65536:1" ∷ []) ≡
    Some (record { high_least = 65001; high_most = 65001; low_least = 1; low_most = 1 })
    ∷ Some (record { high_least = 65001; high_most = 65001; low_least = 0; low_most = 65535 })
    ∷ Some (record { high_least = 0; high_most = 65535; low_least = 0; low_most = 65535 })
    ∷ Some (record { high_least = 65535; high_most = 65535; low_least = 65281; low_most = 65281 })
    ∷ None ∷ None ∷ []
unfolding member_in halves_in parts_at number_in
members = refl

-- a bare address in a prefix list is a prefix of full length
full_length : list_member_in (codes "192.0.2.1") ≡ list_member_in (codes "192.0.2.1/32")
unfolding list_member_in prefix_in address_in parts_at number_in
full_length = refl

-- numbers are put before a path with one space between two
prepended : map (λ w. prepended_in w) (codes "65001 65002" ∷ codes "65001" ∷ codes "65001  65002" ∷ codes "" ∷ []) ≡ Some (65001 ∷ 65002 ∷ []) ∷ Some (65001 ∷ []) ∷ None ∷ None ∷ []
unfolding prepended_in between_spaces number_in each
prepended = refl

-- ---- conditions and actions

-- one value, or several in brackets; without a value there is no condition
conditions : map (λ ws. condition_in ws) (
    (codes "protocol" ∷ codes "bgp" ∷ [])
    ∷ (codes "community" ∷ codes "[" ∷ codes "A" ∷ codes "B" ∷ codes "]" ∷ [])
    ∷ (codes "policy" ∷ codes "P" ∷ [])
    ∷ (codes "prefix-list" ∷ codes "[" ∷ codes "]" ∷ [])
    ∷ (codes "prefix-list-filter" ∷ codes "L" ∷ codes "orlonger" ∷ [])
    ∷ (codes "prefix-list-filter" ∷ codes "L" ∷ codes "longer" ∷ [])
    ∷ (codes "metric" ∷ codes "5" ∷ [])
    ∷ []) ≡
    Some (Protocol (codes "bgp" ∷ []))
    ∷ Some (Community (codes "A" ∷ codes "B" ∷ []))
    ∷ Some (Policy (codes "P" ∷ []))
    ∷ None
    ∷ Some (ListFilter (record { list = codes "L"; or_longer = true }))
    ∷ None
    ∷ Some (Metric 5)
    ∷ []
unfolding condition_in named_in filter_in attribute_in of_keys after values_in each range_in address_in parts_at number_in origin_in
conditions = refl

-- flows, settings and changes; the signs are the three words
actions : map (λ ws. action_in ws) (
    (codes "accept" ∷ [])
    ∷ (codes "next" ∷ codes "policy" ∷ [])
    ∷ (codes "next" ∷ [])
    ∷ (codes "metric" ∷ codes "5" ∷ [])
    ∷ (codes "origin" ∷ codes "egp" ∷ [])
    ∷ (codes "next-hop" ∷ codes "self" ∷ [])
    ∷ (codes "community" ∷ codes "=" ∷ codes "A" ∷ [])
    ∷ (codes "community" ∷ codes "delete" ∷ codes "A" ∷ [])
    ∷ (codes "as-path-prepend" ∷ codes "1 2" ∷ [])
    ∷ []) ≡
    Some (DoFlow Accept)
    ∷ Some (DoFlow NextPolicy)
    ∷ None
    ∷ Some (SetMetric 5)
    ∷ Some (SetOrigin Egp)
    ∷ Some (SetNextHop Own)
    ∷ Some (ChangeCommunities (record { verb = Set; community = codes "A" }))
    ∷ Some (ChangeCommunities (record { verb = Delete; community = codes "A" }))
    ∷ Some (Prepend (1 ∷ 2 ∷ []))
    ∷ []
unfolding action_in flow_in setting_in change_in of_keys after each number_in origin_in next_hop_in prepended_in between_spaces
actions = refl

-- ---- trees

-- the forms of a text's tree
forms : List ℕ → Option (List JunosForm)
forms text = option_map (λ items. map (λ i. i.form) items) (junos_tree text)

quote : List ℕ
quote = 34 ∷ []

condition : Bool → Condition → JunosForm
condition unnamed c = IsCondition (record { unnamed = unnamed; condition = c })

action : Bool → Action → JunosForm
action unnamed a = IsAction (record { unnamed = unnamed; action = a })

other : StatementSort → Option (List ℕ) → JunosForm
other sort name = Other (record { sort = sort; name = name })

-- each text with the forms of its tree
cases : List (List ℕ × List JunosForm)
cases =
    -- forms stand outside blocks and directly in `policy-options`; a prefix list without a block has no members
    (codes "prefix-list A;policy-options{prefix-list B{192.0.2.1;}}", ListForm (codes "A") ∷ ListForm (codes "B") ∷ Member (record { address = record { family = V4; bits = 3221225985 }; length = 32 }) ∷ [])
    -- in any other block they are foreign, and so is `policy-options` within one
    ∷ (codes "a{prefix-list A;policy-options{prefix-list B;}}policy-options{policy-options{prefix-list C;}}policy-options x{prefix-list D;}", [])
    -- a keyword and a name that spell no form are an item under this name, and its block is passed over
    ∷ (codes "community A{prefix-list B;}policy-statement C;community;x y;", other CommunitySort (Some (codes "A")) ∷ other PolicySort (Some (codes "C")) ∷ [])
    -- a quoted word is no keyword and no name
    ∷ (quote ++ codes "prefix-list" ++ quote ++ codes " A;prefix-list " ++ quote ++ codes "A" ++ quote ++ codes ";", [])
    -- conditions and actions in a term and directly in the policy; in a block they have the places of their own
    -- statements
    ∷ (
      codes "policy-statement P{then reject;term t{from metric 5;from{protocol bgp;}then{accept;}}}",
      PolicyForm (codes "P") ∷ action true (DoFlow Reject) ∷ TermForm (codes "t") ∷ condition false (Metric 5) ∷ condition false (Protocol (codes "bgp" ∷ [])) ∷ action false (DoFlow Accept) ∷ [],
    )
    -- statements of no form in these blocks, one without words and a bare block among them, are items by themselves
    ∷ (codes "policy-statement P{;{then accept;}term t{from{;}foo{then accept;}}from;}", PolicyForm (codes "P") ∷ other Inner None ∷ other Inner None ∷ TermForm (codes "t") ∷ other Inner None ∷ other Inner None ∷ other Inner None ∷ [])
    -- outside and directly in `policy-options` statements without words are foreign
    ∷ (codes ";{}policy-options{;{}}", [])
    -- the numbers that are put before a path may be quoted, other values may not
    ∷ (codes "policy-statement P{then as-path-prepend " ++ quote ++ codes "1 2" ++ quote ++ codes ";then metric " ++ quote ++ codes "5" ++ quote ++ codes ";}", PolicyForm (codes "P") ∷ action true (Prepend (1 ∷ 2 ∷ [])) ∷ other Inner None ∷ [])
    ∷ []

trees : map (λ c. forms c.0) cases ≡ map (λ c. Some c.1) cases
unfolding forms quote condition action other cases junos_tree items_from said_at opened_at known_form form_in list_in policy_in term_in community_in path_in clause_in condition_in named_in filter_in attribute_in action_in flow_in setting_in change_in of_keys after each values_in range_in type_in list_member_in prefix_in address_in parts_at number_in origin_in next_hop_in prepended_in between_spaces cut_or_fault grouped tokens_at step_at sort_at
trees = refl

-- ---- terms

-- several `from` of a term are joined, and so are several `then`; what stands directly in the policy is one term
-- without a name, the last one
joined : terms_of (
    action true (DoFlow Reject)
    ∷ TermForm (codes "t") ∷ condition false (Metric 5) ∷ action false (SetMetric 6) ∷ condition false (Protocol (codes "bgp" ∷ [])) ∷ action false (DoFlow NextTerm)
    ∷ condition true (Metric 7)
    ∷ TermForm (codes "u")
    ∷ []) ≡
    record { name = Some (codes "t"); content = record { conditions = Metric 5 ∷ Protocol (codes "bgp" ∷ []) ∷ []; actions = SetMetric 6 ∷ DoFlow NextTerm ∷ [] } }
    ∷ record { name = Some (codes "u"); content = record { conditions = []; actions = [] } }
    ∷ record { name = None; content = record { conditions = Metric 7 ∷ []; actions = DoFlow Reject ∷ [] } }
    ∷ []
unfolding condition action parts
joined = refl

-- the forms of a definition end with the next one
owned : own_forms (TermForm (codes "t") ∷ action false (DoFlow Accept) ∷ PolicyForm (codes "Q") ∷ TermForm (codes "u") ∷ []) ≡ TermForm (codes "t") ∷ action false (DoFlow Accept) ∷ []
unfolding condition action own_forms
owned = refl
