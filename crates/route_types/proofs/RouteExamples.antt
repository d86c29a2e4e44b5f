-- Worked examples of route texts that the checker computes.
use Rattle.std.proofs.Common.{◌≡◌, refl, ℕ, List, [], ◌∷◌, ◌++◌}
use Rattle.std.specs.Prelude.{Ok, Err, codes}
use Rattle.text_words.specs.LineCut.{line_cut, lines_from}
use Rattle.route_types.specs.Words.{number_in, prefix_in, parts_at, address_in, community_in}
use Rattle.route_types.specs.RouteText.{words_by_line}
use Rattle.route_types.specs.RouteLines.{word_in, each_in, next_hop_in, origin_in}
use Rattle.route_types.specs.RouteRead.{route_of, route_in}
use Rattle.route_types.specs.declared.address.Family.TheVariants.{V4}
use Rattle.route_types.specs.declared.route.NextHop.TheVariants.{At, Own}
use Rattle.route_types.specs.declared.route.Origin.TheVariants.{Igp, Egp}

-- a line and its LF
abbrev line : List ℕ → List ℕ
line bytes = bytes ++ 10 ∷ []

-- the first seven lines of a route
abbrev seven : List ℕ
seven =
    line (codes "route 10.0.0.0/8") ++ line (codes "next-hop self") ++ line (codes "as-path") ++ line (codes "origin igp")
    ++ line (codes "local-preference 100") ++ line (codes "med 0") ++ line (codes "weight 0")

-- odd blanks, a CR before an LF, no last LF, host bits, communities out of order and repeated
spelled : route_in (
    line (9 ∷ codes "route   10.1.2.3/8 ") ++ line (codes "next-hop 10.0.0.1" ++ 13 ∷ []) ++ line (codes "as-path 65001" ++ 9 ∷ codes "65001")
    ++ line (codes " origin egp") ++ line (codes "local-preference 4294967295") ++ line (codes "med 50") ++ line (codes "weight 65535")
    ++ codes "communities 65002:1 65001:5 65001:1  65001:5")
    ≡ Ok (record {
      prefix = record { address = record { family = V4; bits = 167772160 }; length = 8 };
      next_hop = At (record { family = V4; bits = 167772161 });
      path = 65001 ∷ 65001 ∷ [];
      origin = Egp;
      local_preference = 4294967295;
      med = 50;
      weight = 65535;
      communities = record { 0 = 4259905537 } ∷ record { 0 = 4259905541 } ∷ record { 0 = 4259971073 } ∷ [];
    })
unfolding route_in route_of words_by_line line_cut lines_from word_in each_in next_hop_in origin_in number_in address_in prefix_in community_in parts_at
spelled = refl

no_communities : route_in (seven ++ codes "communities")
    ≡ Ok (record {
      prefix = record { address = record { family = V4; bits = 167772160 }; length = 8 };
      next_hop = Own;
      path = [];
      origin = Igp;
      local_preference = 100;
      med = 0;
      weight = 0;
      communities = [];
    })
unfolding route_in route_of words_by_line line_cut lines_from word_in each_in next_hop_in origin_in number_in address_in prefix_in community_in parts_at
no_communities = refl

empty_text : route_in [] ≡ Err 1
unfolding route_in route_of words_by_line line_cut lines_from
empty_text = refl

missing_line : route_in seven ≡ Err 8
unfolding route_in route_of words_by_line line_cut lines_from word_in each_in next_hop_in origin_in number_in address_in prefix_in community_in parts_at
missing_line = refl

ninth_line : route_in (seven ++ line (codes "communities") ++ 10 ∷ []) ≡ Err 9
unfolding route_in route_of words_by_line line_cut lines_from word_in each_in next_hop_in origin_in number_in address_in prefix_in community_in parts_at
ninth_line = refl

-- the second line is the first that is not the form, though the third is missing
wrong_line : route_in (line (codes "route 10.0.0.0/8") ++ codes "next-hop 10.0.0") ≡ Err 2
unfolding route_in route_of words_by_line line_cut lines_from word_in each_in next_hop_in origin_in number_in address_in prefix_in community_in parts_at
wrong_line = refl
