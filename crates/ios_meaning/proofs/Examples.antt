-- Worked examples that the checker computes.
use Rattle.std.proofs.Common.{◌≡◌, refl, List, [], ◌∷◌, ◌++◌, ◌+◌, ℕ}
use Rattle.std.specs.Prelude.{None, codes}
use Rattle.route_types.specs.Words.{number_in, prefix_in, parts_at, address_in, community_in}
use Rattle.route_types.specs.Route.{RouteParts}
use Rattle.route_types.specs.declared.community.Community.{Community}
use Rattle.route_types.specs.declared.address.Family.TheVariants.{V4}
use Rattle.route_types.specs.declared.route.NextHop.TheVariants.{Own}
use Rattle.route_types.specs.declared.route.Origin.TheVariants.{Igp}
use Rattle.route_types.specs.declared.route.Outcome.TheVariants.{Reject, Accept}
use Rattle.text_words.specs.IosCut.{ios_cut}
use Rattle.text_words.specs.LineCut.{line_cut, lines_from}
use Rattle.policy_text.specs.Causes.{first_cause, first_fault_from}
use Rattle.policy_text.specs.Phrases.{after, each}
use Rattle.ios_tree.specs.Forms.{range_or_in, prefix_list_in, standard_in, expanded_in, community_list_in, map_header_in, communities_in, line_of, with_option, match_prefix_in, match_line_in, set_number_in, set_value_in, set_list_in, other_line_in, line_in}
use Rattle.ios_tree.specs.Names.{list_in, numbered_list_in, permit_in, origin_in, community_word_in}
use Rattle.ios_tree.specs.Tree.{ios_tree, items_of, form_of, numbered_from}
use Rattle.ios_reader.specs.Profile.{first_fault_within, first_fault}
use Rattle.prefix_sets.specs.FirstMatch.{first_match}
use Rattle.community_sets.specs.Tests.{list_answers}
use Rattle.ios_meaning.specs.Meaning.{run, ios_meaning}

abbrev line : List ℕ → List ℕ → List ℕ
line words rest = words ++ (10 ∷ rest)

-- `continue` past a deny
abbrev past_deny : List ℕ
past_deny =
    line (codes "ip prefix-list A seq 5 permit 10.0.0.0/8")
    (line (codes "ip prefix-list B permit 172.16.0.0/12")
    (line (codes "route-map M permit 10")
    (line (codes " match ip address prefix-list A")
    (line (codes " set metric 50")
    (line (codes " continue 30")
    (line (codes "route-map M deny 20")
    (line (codes "route-map M permit 30")
    (line (codes " match ip address prefix-list B")
    (line (codes " set metric 70") [])))))))))

abbrev route : ℕ → ℕ → RouteParts
route bits length = record { prefix = record { address = record { family = V4; bits = bits }; length = length }; next_hop = Own; path = 65001 ∷ []; origin = Igp; local_preference = 100; med = 0; weight = 0; communities = [] }

sound : first_fault (codes "M") (ios_tree past_deny) ≡ None
unfolding first_fault_within first_fault_from first_cause ios_tree ios_cut items_of numbered_from form_of line_cut lines_from after each list_in numbered_list_in permit_in origin_in community_word_in range_or_in prefix_list_in community_list_in map_header_in standard_in expanded_in communities_in line_of with_option match_prefix_in match_line_in set_number_in set_value_in set_list_in other_line_in line_in number_in prefix_in parts_at address_in community_in
sound = refl

-- 10.0.0.0/8 is accepted with MED 50
accepts : ios_meaning (ios_tree past_deny) (codes "M") (route 167772160 8) ≡ Accept (record (route 167772160 8) { med = 50 })
unfolding ios_meaning run first_match ios_tree ios_cut items_of numbered_from form_of line_cut lines_from after each list_in numbered_list_in permit_in origin_in community_word_in range_or_in prefix_list_in community_list_in map_header_in standard_in expanded_in communities_in line_of with_option match_prefix_in match_line_in set_number_in set_value_in set_list_in other_line_in line_in number_in prefix_in parts_at address_in community_in
accepts = refl

-- 172.16.0.0/12 is rejected
rejects : ios_meaning (ios_tree past_deny) (codes "M") (route 2886729728 12) ≡ Reject
unfolding ios_meaning run first_match ios_tree ios_cut items_of numbered_from form_of line_cut lines_from after each list_in numbered_list_in permit_in origin_in community_word_in range_or_in prefix_list_in community_list_in map_header_in standard_in expanded_in communities_in line_of with_option match_prefix_in match_line_in set_number_in set_value_in set_list_in other_line_in line_in number_in prefix_in parts_at address_in community_in
rejects = refl

-- the entries of a list by their numbers, and not as the text has them: a deny before a wider permit
abbrev denied_first : List ℕ
denied_first =
    line (codes "ip prefix-list P seq 10 permit 10.0.0.0/8 le 32")
    (line (codes "ip prefix-list P seq 5 deny 10.1.0.0/16 le 32")
    (line (codes "route-map M permit 10")
    (line (codes " match ip address prefix-list P") [])))

-- 10.1.2.0/24 is rejected
denies : ios_meaning (ios_tree denied_first) (codes "M") (route 167838208 24) ≡ Reject
unfolding ios_meaning run first_match list_answers ios_tree ios_cut items_of numbered_from form_of line_cut lines_from after each list_in numbered_list_in permit_in origin_in community_word_in range_or_in prefix_list_in community_list_in map_header_in standard_in expanded_in communities_in line_of with_option match_prefix_in match_line_in set_number_in set_value_in set_list_in other_line_in line_in number_in prefix_in parts_at address_in community_in
denies = refl

-- 10.2.0.0/16 is accepted
permits : ios_meaning (ios_tree denied_first) (codes "M") (route 167903232 16) ≡ Accept (route 167903232 16)
unfolding ios_meaning run first_match list_answers ios_tree ios_cut items_of numbered_from form_of line_cut lines_from after each list_in numbered_list_in permit_in origin_in community_word_in range_or_in prefix_list_in community_list_in map_header_in standard_in expanded_in communities_in line_of with_option match_prefix_in match_line_in set_number_in set_value_in set_list_in other_line_in line_in number_in prefix_in parts_at address_in community_in
permits = refl

-- all prefixes of full length
abbrev hosts : List ℕ
hosts =
    line (codes "ip prefix-list H permit 0.0.0.0/0 ge 32")
    (line (codes "route-map M permit 10")
    (line (codes " match ip address prefix-list H") []))

-- 255.255.255.255/32 is accepted
accepts_host : ios_meaning (ios_tree hosts) (codes "M") (route 4294967295 32) ≡ Accept (route 4294967295 32)
unfolding ios_meaning run first_match list_answers ios_tree ios_cut items_of numbered_from form_of line_cut lines_from after each list_in numbered_list_in permit_in origin_in community_word_in range_or_in prefix_list_in community_list_in map_header_in standard_in expanded_in communities_in line_of with_option match_prefix_in match_line_in set_number_in set_value_in set_list_in other_line_in line_in number_in prefix_in parts_at address_in community_in
accepts_host = refl

-- 10.0.0.0/8 is rejected
rejects_block : ios_meaning (ios_tree hosts) (codes "M") (route 167772160 8) ≡ Reject
unfolding ios_meaning run first_match list_answers ios_tree ios_cut items_of numbered_from form_of line_cut lines_from after each list_in numbered_list_in permit_in origin_in community_word_in range_or_in prefix_list_in community_list_in map_header_in standard_in expanded_in communities_in line_of with_option match_prefix_in match_line_in set_number_in set_value_in set_list_in other_line_in line_in number_in prefix_in parts_at address_in community_in
rejects_block = refl

-- what an entry deletes it may add again: the deletion comes first
abbrev deletes_first : List ℕ
deletes_first =
    line (codes "ip community-list standard D permit 65000:1")
    (line (codes "route-map M permit 10")
    (line (codes " set community 65000:1 65000:4 additive")
    (line (codes " set comm-list D delete") [])))

-- the community of the upper half 65000
abbrev tag : ℕ → Community
tag low = record { 0 = 4259840000 + low }

-- 65000:1 and 65000:3 become 65000:1, 65000:3 and 65000:4
adds_again : ios_meaning (ios_tree deletes_first) (codes "M") (record (route 167772160 8) { communities = tag 1 ∷ tag 3 ∷ [] }) ≡ Accept (record (route 167772160 8) { communities = tag 1 ∷ tag 3 ∷ tag 4 ∷ [] })
unfolding ios_meaning run first_match list_answers ios_tree ios_cut items_of numbered_from form_of line_cut lines_from after each list_in numbered_list_in permit_in origin_in community_word_in range_or_in prefix_list_in community_list_in map_header_in standard_in expanded_in communities_in line_of with_option match_prefix_in match_line_in set_number_in set_value_in set_list_in other_line_in line_in number_in prefix_in parts_at address_in community_in
adds_again = refl
