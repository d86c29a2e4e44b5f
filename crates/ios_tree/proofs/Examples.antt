-- Worked examples that the checker computes.
use Rattle.std.proofs.Common.{◌≡◌, refl, List, [], ◌∷◌, ◌++◌, ℕ, true, false, Option}
use Rattle.std.specs.Prelude.{Some, None, codes, map}
use Rattle.route_types.specs.Words.{number_in, prefix_in, parts_at, address_in, community_in}
use Rattle.text_words.specs.IosCut.{ios_cut}
use Rattle.text_words.specs.LineCut.{line_cut, lines_from}
use Rattle.policy_text.specs.Phrases.{after, each}
use Rattle.ios_tree.specs.Forms.{range_or_in, prefix_list_in, map_header_in, communities_in, line_of, with_option, match_prefix_in, match_line_in, set_number_in, set_value_in, set_list_in, line_in}
use Rattle.ios_tree.specs.Names.{list_name, list_in, permit_in, community_word_in, shape_in}
use Rattle.ios_tree.specs.Tree.{ios_tree, items_of, form_of, numbered_from}
use Rattle.ios_tree.specs.declared.item.IosForm.{IosForm}
use Rattle.ios_tree.specs.declared.item.IosForm.TheVariants.{PrefixEntry, MapHeader, Line}
use Rattle.ios_tree.specs.declared.item.MapLine.TheVariants.{MatchCommunity, SetCommunity}

-- the number of an entry of a prefix list
abbrev number : IosForm → Option ℕ
number (PrefixEntry e) = Some e.number
number _ = None

-- two entries get numbers, behind one that has its own
lists : List ℕ
lists = codes "ip prefix-list A permit 10.0.0.0/8" ++ (10 ∷ codes "ip prefix-list A seq 7 deny 10.0.0.0/9 le 24" ++ (10 ∷ codes "ip prefix-list A permit 10.0.0.0/9"))

given : map (λ i. number i.form) (ios_tree lists) ≡ Some 5 ∷ Some 7 ∷ Some 12 ∷ []
unfolding lists ios_tree ios_cut items_of form_of numbered_from line_cut lines_from list_in permit_in range_or_in prefix_list_in after number_in prefix_in parts_at address_in
given = refl

-- a map's entry with its lines; a line where no entry is open belongs to nothing
entry : List ℕ
entry = codes "set metric 5" ++ (10 ∷ codes "route-map IN permit 10" ++ (10 ∷ codes " match community A exact-match" ++ (10 ∷ codes "set community 65001:1 no-export additive")))

reads : map (λ i. i.form) (ios_tree entry) ≡
    MapHeader (record { map = codes "IN"; permit = true; number = 10 })
    ∷ Line (MatchCommunity (record { lists = codes "A" ∷ []; exact = true }))
    ∷ Line (SetCommunity (record { communities = record { 0 = 4259905537 } ∷ record { 0 = 4294967041 } ∷ []; additive = true }))
    ∷ []
unfolding entry ios_tree ios_cut items_of form_of numbered_from line_cut lines_from list_in permit_in community_word_in map_header_in line_in with_option match_prefix_in match_line_in set_number_in set_value_in set_list_in communities_in line_of after each number_in parts_at community_in
reads = refl

-- `exact-match` alone behind the keyword is a name
only_name : line_in (codes "match" ∷ codes "community" ∷ codes "exact-match" ∷ []) ≡ Some (MatchCommunity (record { lists = codes "exact-match" ∷ []; exact = false }))
unfolding list_in line_in with_option match_prefix_in match_line_in line_of after each
only_name = refl

-- a number of 32 bits is a community's bits
bits : community_word_in (codes "4259905537") ≡ community_word_in (codes "65001:1")
unfolding community_word_in number_in parts_at community_in
bits = refl

by_number : list_name (codes "0010") ≡ list_name (codes "10")
by_number = refl

shape : shape_in (codes "_65001:[0-9]+_") ≡ Some (record { high_least = 65001; high_most = 65001; low_least = 0; low_most = 65535 })
unfolding shape_in parts_at number_in
shape = refl

no_shape : shape_in (codes "65001:[0-9]+_") ≡ None
unfolding shape_in parts_at number_in
no_shape = refl
