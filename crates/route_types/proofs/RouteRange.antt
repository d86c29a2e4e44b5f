-- A route that a text spells is in range.
use Rattle.std.proofs.Common.{sym, ap, subst, ℕ, ◌^◌, ◌<◌, List, [], ◌∷◌, arith, inl, inr}
use Rattle.std.specs.Prelude.{codes}
use Rattle.std.specs.List.{AllByRecursion}
use Rattle.std.proofs.lemmas.Bool.{cases_order}
use Rattle.route_types.specs.Address.{PrefixParts}
use Rattle.route_types.specs.Words.{IsNumber, IsPrefix, IsCommunity}
use Rattle.route_types.specs.Route.{RouteParts, InRange, IsNextHop}
use Rattle.route_types.specs.Community.{set_of, with_member, IsAscending}
use Rattle.route_types.specs.RouteText.{Each, IsOne, IsCommunitySet, route_lines, words_by_line, SpellsNextHop, SpellsLine, SpellsRoute}
use Rattle.route_types.specs.declared.address.Address.{Address}
use Rattle.route_types.specs.declared.community.Community.{Community}
use Rattle.route_types.specs.declared.route.NextHop.{NextHop}
use Rattle.route_types.specs.declared.route.NextHop.TheVariants.{At, Own}
use Rattle.route_types.proofs.Spelled.{AreOctets}
use Rattle.route_types.proofs.Printed.{IsPlain, address_fits, prefix_in_plain}
use Rattle.route_types.proofs.RouteWords.{prefix_again}
use Rattle.route_types.proofs.Sets.{Order, member_before, member_behind, member_there, set_of_ascending}

hop_in_range : (word : List ℕ) (n : NextHop) → SpellsNextHop word n → IsNextHop n
hop_in_range word (At a) s =
    let octets : AreOctets s.octets = record { first = s.first; second = s.second; third = s.third; fourth = s.fourth } in
    (ap (λ (x : Address). x.family) s.value, subst (λ (x : Address). x.bits < 2 ^ 32) (sym s.value) (address_fits s.octets octets))
hop_in_range word Own s = tt

numbers_in_range : (words : List (List ℕ)) (ns : List ℕ) → Each (IsNumber 4294967295) words ns → AllByRecursion (λ n. n < 2 ^ 32) ns
numbers_in_range [] [] s = tt
numbers_in_range [] (n ∷ ns) s = absurd s
numbers_in_range (w ∷ ws) [] s = absurd s
numbers_in_range (w ∷ ws) (n ∷ ns) s = (omega (arith, s.0.within), numbers_in_range ws ns s.1)

-- each community is of 32 bits
abbrev AreSmall : List Community → Type 0
AreSmall cs = AllByRecursion (λ c. c.0 < 2 ^ 32) cs

community_small : (word : List ℕ) (c : Community) → IsCommunity word c → c.0 < 2 ^ 32
community_small word c s = subst (λ (x : Community). x.0 < 2 ^ 32) (sym s.value) (omega (arith, s.high_within, s.low_within))

listed_small : (words : List (List ℕ)) (cs : List Community) → Each IsCommunity words cs → AreSmall cs
listed_small [] [] s = tt
listed_small [] (c ∷ cs) s = absurd s
listed_small (w ∷ ws) [] s = absurd s
listed_small (w ∷ ws) (c ∷ cs) s = (community_small w c s.0, listed_small ws cs s.1)

member_at : (c d : Community) (ds : List Community) → c.0 < 2 ^ 32 → AreSmall (d ∷ ds) → AreSmall (with_member c ds) → Order c.0 d.0 → AreSmall (with_member c (d ∷ ds))
member_at c d ds h all more (inl e) = rw (member_there c d ds e) all
member_at c d ds h all more (inr (inl l)) = rw (member_before c d ds l) (h, all)
member_at c d ds h all more (inr (inr g)) = rw (member_behind c d ds g) (all.0, more)

member_small : (c : Community) (cs : List Community) → c.0 < 2 ^ 32 → AreSmall cs → AreSmall (with_member c cs)
member_small c [] h all = (h, tt)
member_small c (d ∷ ds) h all = member_at c d ds h all (member_small c ds h all.1) (cases_order c.0 d.0)

set_small : (cs : List Community) → AreSmall cs → AreSmall (set_of cs)
set_small [] all = tt
set_small (c ∷ cs) all = member_small c (set_of cs) all.0 (set_small cs all.1)

-- a set that words spell is of such communities, in rising order
set_in_range : (name : List ℕ) (words : List (List ℕ)) (set : List Community) → IsCommunitySet name words set → AreSmall set × IsAscending set
set_in_range name words set s =
    (subst AreSmall (sym s.is) (set_small s.listed (listed_small s.many.behind s.listed s.many.spelled)), subst IsAscending (sym s.is) (set_of_ascending s.listed))

prefix_in_range : (name : List ℕ) (words : List (List ℕ)) (p : PrefixParts) → IsOne name IsPrefix words p → IsPlain p
prefix_in_range name words p s = prefix_in_plain s.word p (prefix_again s.word p s.spelled)

-- lines that spell a route, a line each part, say that it is in range
lines_in_range : (r : RouteParts) (lines : List (List (List ℕ))) → Each (SpellsLine r) lines route_lines → InRange r
lines_in_range r [] s = absurd s
lines_in_range r (a ∷ []) s = absurd s.1
lines_in_range r (a ∷ b ∷ []) s = absurd s.1.1
lines_in_range r (a ∷ b ∷ c ∷ []) s = absurd s.1.1.1
lines_in_range r (a ∷ b ∷ c ∷ d ∷ []) s = absurd s.1.1.1.1
lines_in_range r (a ∷ b ∷ c ∷ d ∷ e ∷ []) s = absurd s.1.1.1.1.1
lines_in_range r (a ∷ b ∷ c ∷ d ∷ e ∷ f ∷ []) s = absurd s.1.1.1.1.1.1
lines_in_range r (a ∷ b ∷ c ∷ d ∷ e ∷ f ∷ g ∷ []) s = absurd s.1.1.1.1.1.1.1
lines_in_range r (a ∷ b ∷ c ∷ d ∷ e ∷ f ∷ g ∷ h ∷ []) s =
    let plain = prefix_in_range (codes "route") a r.prefix s.0 in
    let hop = s.1.0 in
    let path = s.1.1.0 in
    let preference = s.1.1.1.1.0 in
    let med = s.1.1.1.1.1.0 in
    let weight = s.1.1.1.1.1.1.0 in
    let set = set_in_range (codes "communities") h r.communities s.1.1.1.1.1.1.1.0 in
    record {
      family = plain.family;
      prefix = plain.masked;
      next_hop = hop_in_range hop.word r.next_hop hop.spelled;
      path = numbers_in_range path.behind r.path path.spelled;
      local_preference = omega (arith, preference.spelled.within);
      med = omega (arith, med.spelled.within);
      weight = omega (arith, weight.spelled.within);
      communities = set.0;
      ascending = set.1;
    }
lines_in_range r (a ∷ b ∷ c ∷ d ∷ e ∷ f ∷ g ∷ h ∷ i ∷ ls) s = absurd s.1.1.1.1.1.1.1.1

-- a route that a text spells is in range
pub spelled_in_range : (text : List ℕ) (r : RouteParts) → SpellsRoute text r → InRange r
spelled_in_range text r s = lines_in_range r (words_by_line text) s
