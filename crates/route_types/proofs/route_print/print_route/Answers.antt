use Rattle.std.proofs.Common.{◌∙◌, ◌∷◌, [], ℕ, List, map}
use Rattle.std.specs.Prelude.{codes, decimal}
use Rattle.text_words.specs.LineText.{text_of_lines}
use Rattle.route_types.specs.Address.{PrefixParts}
use Rattle.route_types.specs.Print.{prefix_text}
use Rattle.route_types.specs.RouteText.{origin_text, next_hop_text, community_text, route_words, route_text}
use Rattle.route_types.specs.declared.community.Community.{Community}
use Rattle.route_types.specs.declared.route.NextHop.{NextHop}
use Rattle.route_types.specs.declared.route.Origin.{Origin}
use Rattle.route_types.proofs.RoutePrinted.{eight_put, line_put}
use Rattle.route_types.proofs.route_print.print_route.Goals as goal

number_line : List ℕ → ℕ → List (List ℕ)
number_line name n = name ∷ decimal n ∷ []

pub returns : goal.returns
unfolding route_text route_words text_of_lines number_line
returns c =
    let r = c.args.route.now in
    eight_put _ _ _ _ _ _ _ _ _ _ _ _ _ _ _ _ _ c.new-out.ensures.items
    (line_put (λ (p : PrefixParts). codes "route" ∷ prefix_text p ∷ []) _ r.prefix _ _ c.prefix.ensures c.in_ok-push_prefix_line.ensures)
    (line_put (λ (n : NextHop). codes "next-hop" ∷ next_hop_text n ∷ []) _ r.next_hop _ _ c.next_hop.ensures c.in_ok-push_next_hop_line.ensures)
    (line_put (λ (ns : List ℕ). codes "as-path" ∷ map decimal ns) _ r.path _ _ c.path.ensures c.in_ok-push_path_line.ensures)
    (line_put (λ (o : Origin). codes "origin" ∷ origin_text o ∷ []) _ r.origin _ _ c.origin.ensures c.in_ok-push_origin_line.ensures)
    (line_put (number_line (codes "local-preference")) _ r.local_preference _ _ (c.from.ensures ∙ c.local_preference.ensures) c.in_ok-push_number_line.ensures)
    (line_put (number_line (codes "med")) _ r.med _ _ (c.from-2.ensures ∙ c.med.ensures) c.in_ok-push_number_line-2.ensures)
    (line_put (number_line (codes "weight")) _ r.weight _ _ (c.from-3.ensures ∙ c.weight.ensures) c.in_ok-push_number_line-3.ensures)
    (line_put (λ (cs : List Community). codes "communities" ∷ map community_text cs) _ r.communities _ _ c.communities.ensures.value c.in_ok-push_communities_line.ensures)
