-- The route that is found is the one that the text spells; and where none is found, the number is
-- that of the first line that is not the form.
use Rattle.std.proofs.Common.{◌≡◌, refl, sym, ap, ◌∙◌, subst, ℕ, zero, suc, ◌+◌, ◌^◌, ◌<◌, List, [], ◌∷◌, Option, Some, None, arith, lit<, inl, inr, ◌⊎◌}
use Rattle.std.specs.Prelude.{Result, Ok, Err, IfOk, IfErr, slice_get, codes}
use Rattle.std.proofs.lemmas.Bool.{cases_order}
use Rattle.route_types.specs.Route.{RouteParts}
use Rattle.route_types.specs.Words.{number_in, prefix_in, IsNumber, IsPrefix}
use Rattle.route_types.specs.RouteText.{Each, LineKind, PrefixLine, NextHopLine, PathLine, OriginLine, LocalPreferenceLine, MedLine, WeightLine, CommunitiesLine, route_lines, words_by_line, IsOne, IsMany, IsCommunitySet, SpellsNextHop, SpellsOrigin, SpellsLine, SpellsRoute, IsLineForm, IsGoodLine, IsBadLine, IsFirstBad, IsFirstBadLine}
use Rattle.route_types.specs.RouteLines.{next_hop_in, origin_in, prefix_of_line, next_hop_of_line, path_of_line, origin_of_line, number_of_line, communities_of_line}
use Rattle.route_types.specs.RouteRead.{◌>>=◌, first_line, found, at_end, route_of, route_in, Answers, IsRefusal}
use Rattle.route_types.specs.declared.address.Family.TheVariants.{V4}
use Rattle.route_types.specs.declared.route.NextHop.TheVariants.{Own}
use Rattle.route_types.specs.declared.route.Origin.TheVariants.{Igp}
use Rattle.route_types.specs.declared.fault.RouteFault.{RouteFault}
use Rattle.route_types.specs.declared.fault.RouteFault.TheVariants.{Line, Memory}
use Rattle.route_types.proofs.RouteWords.{Joins, one, many, numbers, prefixes, next_hops, origins, sets}

-- ---- each line by itself

-- what is found in a line is what the line says of this part of a route
record IsPartOf {A : Type 0} (kind : LineKind) (find : List (List ℕ) → Option A) (part : RouteParts → A) : Type 0 where
  found_is : (words : List (List ℕ)) (x : A) (r : RouteParts) → find words ≡ Some x → part r ≡ x → SpellsLine r words kind
  again : (words : List (List ℕ)) (r : RouteParts) → SpellsLine r words kind → find words ≡ Some (part r)
  some_route : (x : A) → (r : RouteParts) × (part r ≡ x)

-- a route, of which one part matters
any : RouteParts
any = record {
  prefix = record { address = record { family = V4; bits = 0 }; length = 0 };
  next_hop = Own;
  path = [];
  origin = Igp;
  local_preference = 0;
  med = 0;
  weight = 0;
  communities = [];
}

part_of : {A : Type 0} (kind : LineKind) (find : List (List ℕ) → Option A) (Spells : List (List ℕ) → A → Type 0) (part : RouteParts → A) → Joins find Spells → ((words : List (List ℕ)) (r : RouteParts) → Spells words (part r) → SpellsLine r words kind) → ((words : List (List ℕ)) (r : RouteParts) → SpellsLine r words kind → Spells words (part r)) → ((x : A) → (r : RouteParts) × (part r ≡ x)) → IsPartOf kind find part
part_of {A} kind find Spells part h to from given = record {
  found_is = λ words x r e p. to words r (subst (λ (y : A). Spells words y) (sym p) (h.found words x e));
  again = λ words r s. h.again words (part r) (from words r s);
  some_route = given;
}

small : 4294967295 < 2 ^ 64
small = lit< tt

prefix_part : IsPartOf PrefixLine prefix_of_line (λ r. r.prefix)
prefix_part = part_of PrefixLine prefix_of_line (IsOne (codes "route") IsPrefix) (λ r. r.prefix) (one (codes "route") prefix_in IsPrefix prefixes) (λ words r h. h) (λ words r h. h) (λ x. (record any { prefix = x }, refl))

next_hop_part : IsPartOf NextHopLine next_hop_of_line (λ r. r.next_hop)
next_hop_part = part_of NextHopLine next_hop_of_line (IsOne (codes "next-hop") SpellsNextHop) (λ r. r.next_hop) (one (codes "next-hop") next_hop_in SpellsNextHop next_hops) (λ words r h. h) (λ words r h. h) (λ x. (record any { next_hop = x }, refl))

path_part : IsPartOf PathLine path_of_line (λ r. r.path)
path_part = part_of PathLine path_of_line (IsMany (codes "as-path") (IsNumber 4294967295)) (λ r. r.path) (many (codes "as-path") (number_in 4294967295) (IsNumber 4294967295) (numbers 4294967295 small)) (λ words r h. h) (λ words r h. h) (λ x. (record any { path = x }, refl))

origin_part : IsPartOf OriginLine origin_of_line (λ r. r.origin)
origin_part = part_of OriginLine origin_of_line (IsOne (codes "origin") SpellsOrigin) (λ r. r.origin) (one (codes "origin") origin_in SpellsOrigin origins) (λ words r h. h) (λ words r h. h) (λ x. (record any { origin = x }, refl))

preference_part : IsPartOf LocalPreferenceLine (number_of_line (codes "local-preference") 4294967295) (λ r. r.local_preference)
preference_part = part_of LocalPreferenceLine (number_of_line (codes "local-preference") 4294967295) (IsOne (codes "local-preference") (IsNumber 4294967295)) (λ r. r.local_preference) (one (codes "local-preference") (number_in 4294967295) (IsNumber 4294967295) (numbers 4294967295 small)) (λ words r h. h) (λ words r h. h) (λ x. (record any { local_preference = x }, refl))

med_part : IsPartOf MedLine (number_of_line (codes "med") 4294967295) (λ r. r.med)
med_part = part_of MedLine (number_of_line (codes "med") 4294967295) (IsOne (codes "med") (IsNumber 4294967295)) (λ r. r.med) (one (codes "med") (number_in 4294967295) (IsNumber 4294967295) (numbers 4294967295 small)) (λ words r h. h) (λ words r h. h) (λ x. (record any { med = x }, refl))

weight_part : IsPartOf WeightLine (number_of_line (codes "weight") 65535) (λ r. r.weight)
weight_part = part_of WeightLine (number_of_line (codes "weight") 65535) (IsOne (codes "weight") (IsNumber 65535)) (λ r. r.weight) (one (codes "weight") (number_in 65535) (IsNumber 65535) (numbers 65535 (lit< tt))) (λ words r h. h) (λ words r h. h) (λ x. (record any { weight = x }, refl))

communities_part : IsPartOf CommunitiesLine communities_of_line (λ r. r.communities)
communities_part = part_of CommunitiesLine communities_of_line (IsCommunitySet (codes "communities")) (λ r. r.communities) sets (λ words r h. h) (λ words r h. h) (λ x. (record any { communities = x }, refl))

-- ---- what is found is spelled

ok_is : {A : Type 0} (x y : A) → ◌≡◌ {A = Result A ℕ} (Ok x) (Ok y) → x ≡ y
ok_is x y e = cc

-- there was a line
line_ok : {L : Type 0} (P : Type 0) (n : ℕ) (lines : List L) (f : L × List L → Result RouteParts ℕ) (r : RouteParts) → (first_line n lines >>= f) ≡ Ok r → ((l : L) (ls : List L) → lines ≡ l ∷ ls → f (l, ls) ≡ Ok r → P) → P
line_ok P n [] f r e then = absurd cc
line_ok P n (l ∷ ls) f r e then = then l ls refl e

-- the line had a value
value_ok : {A : Type 0} (P : Type 0) (n : ℕ) (o : Option A) (f : A → Result RouteParts ℕ) (r : RouteParts) → (found n o >>= f) ≡ Ok r → ((x : A) → o ≡ Some x → f x ≡ Ok r → P) → P
value_ok P n (Some x) f r e then = then x refl e
value_ok P n None f r e then = absurd cc

end_ok : (P : Type 0) (n : ℕ) (x r : RouteParts) (lines : List (List (List ℕ))) → at_end n x lines ≡ Ok r → (lines ≡ [] → r ≡ x → P) → P
end_ok P n x r [] e then = then refl (sym (ok_is x r e))
end_ok P n x r (l ∷ ls) e then = absurd cc

each_line : (r : RouteParts) (lines : List (List (List ℕ))) (w : List (List ℕ)) (ls : List (List (List ℕ))) (kind : LineKind) (kinds : List LineKind) → lines ≡ w ∷ ls → SpellsLine r w kind → Each (SpellsLine r) ls kinds → Each (SpellsLine r) lines (kind ∷ kinds)
each_line r lines w ls kind kinds e s more = subst (λ (x : List (List (List ℕ))). Each (SpellsLine r) x (kind ∷ kinds)) (sym e) (s, more)

each_end : (r : RouteParts) (lines : List (List (List ℕ))) → lines ≡ [] → Each (SpellsLine r) lines []
each_end r lines e = subst (λ (x : List (List (List ℕ))). Each (SpellsLine r) x []) (sym e) tt

pub route_found : (text : List ℕ) (r : RouteParts) → route_in text ≡ Ok r → SpellsRoute text r
unfolding route_in route_of
route_found text r e =
    let P : Type 0 = SpellsRoute text r in
    line_ok P 1 (words_by_line text) _ r e (λ w1 l1 i1 a1.
    value_ok P 1 (prefix_of_line w1) _ r a1 (λ x1 j1 b1.
    line_ok P 2 l1 _ r b1 (λ w2 l2 i2 a2.
    value_ok P 2 (next_hop_of_line w2) _ r a2 (λ x2 j2 b2.
    line_ok P 3 l2 _ r b2 (λ w3 l3 i3 a3.
    value_ok P 3 (path_of_line w3) _ r a3 (λ x3 j3 b3.
    line_ok P 4 l3 _ r b3 (λ w4 l4 i4 a4.
    value_ok P 4 (origin_of_line w4) _ r a4 (λ x4 j4 b4.
    line_ok P 5 l4 _ r b4 (λ w5 l5 i5 a5.
    value_ok P 5 (number_of_line (codes "local-preference") 4294967295 w5) _ r a5 (λ x5 j5 b5.
    line_ok P 6 l5 _ r b5 (λ w6 l6 i6 a6.
    value_ok P 6 (number_of_line (codes "med") 4294967295 w6) _ r a6 (λ x6 j6 b6.
    line_ok P 7 l6 _ r b6 (λ w7 l7 i7 a7.
    value_ok P 7 (number_of_line (codes "weight") 65535 w7) _ r a7 (λ x7 j7 b7.
    line_ok P 8 l7 _ r b7 (λ w8 l8 i8 a8.
    value_ok P 8 (communities_of_line w8) _ r a8 (λ x8 j8 b8.
    end_ok P 9 _ r l8 b8 (λ none is.
    each_line r (words_by_line text) w1 l1 _ _ i1 (prefix_part.found_is w1 x1 r j1 (ap (λ (q : RouteParts). q.prefix) is))
    (each_line r l1 w2 l2 _ _ i2 (next_hop_part.found_is w2 x2 r j2 (ap (λ (q : RouteParts). q.next_hop) is))
    (each_line r l2 w3 l3 _ _ i3 (path_part.found_is w3 x3 r j3 (ap (λ (q : RouteParts). q.path) is))
    (each_line r l3 w4 l4 _ _ i4 (origin_part.found_is w4 x4 r j4 (ap (λ (q : RouteParts). q.origin) is))
    (each_line r l4 w5 l5 _ _ i5 (preference_part.found_is w5 x5 r j5 (ap (λ (q : RouteParts). q.local_preference) is))
    (each_line r l5 w6 l6 _ _ i6 (med_part.found_is w6 x6 r j6 (ap (λ (q : RouteParts). q.med) is))
    (each_line r l6 w7 l7 _ _ i7 (weight_part.found_is w7 x7 r j7 (ap (λ (q : RouteParts). q.weight) is))
    (each_line r l7 w8 l8 _ _ i8 (communities_part.found_is w8 x8 r j8 (ap (λ (q : RouteParts). q.communities) is))
    (each_end r l8 none)))))))))))))))))))))))))

-- ---- what is spelled is found

-- the first line of a route's text, and the lines behind it
record Splits (r : RouteParts) (lines : List (List (List ℕ))) (kind : LineKind) (kinds : List LineKind) : Type 0 where
  pub words : List (List ℕ)
  pub behind : List (List (List ℕ))
  pub are : lines ≡ words ∷ behind
  pub spelled : SpellsLine r words kind
  pub more : Each (SpellsLine r) behind kinds

split : (r : RouteParts) (lines : List (List (List ℕ))) (kind : LineKind) (kinds : List LineKind) → Each (SpellsLine r) lines (kind ∷ kinds) → Splits r lines kind kinds
split r [] kind kinds s = absurd s
split r (w ∷ ls) kind kinds s = record { words = w; behind = ls; are = refl; spelled = s.0; more = s.1 }

no_more : (r : RouteParts) (lines : List (List (List ℕ))) → Each (SpellsLine r) lines [] → lines ≡ []
no_more r [] s = refl
no_more r (w ∷ ls) s = absurd s

pub route_again : (text : List ℕ) (r : RouteParts) → SpellsRoute text r → route_in text ≡ Ok r
unfolding route_in route_of
route_again text r s =
    let a = split r (words_by_line text) _ _ s in
    let b = split r a.behind _ _ a.more in
    let c = split r b.behind _ _ b.more in
    let d = split r c.behind _ _ c.more in
    let e = split r d.behind _ _ d.more in
    let f = split r e.behind _ _ e.more in
    let g = split r f.behind _ _ f.more in
    let h = split r g.behind _ _ g.more in
    rw (a.are, prefix_part.again a.words r a.spelled, b.are, next_hop_part.again b.words r b.spelled, c.are, path_part.again c.words r c.spelled, d.are, origin_part.again d.words r d.spelled, e.are, preference_part.again e.words r e.spelled, f.are, med_part.again f.words r f.spelled, g.are, weight_part.again g.words r g.spelled, h.are, communities_part.again h.words r h.spelled, no_more r h.behind h.more) refl

-- a text spells at most one route
pub route_unique : (text : List ℕ) (r q : RouteParts) → SpellsRoute text r → SpellsRoute text q → r ≡ q
route_unique text r q s t = ok_is r q (sym (route_again text r s) ∙ route_again text q t)

-- ---- the first line that is not the form

-- the lines from number n on have this number as that of the first bad one
abbrev BadFrom : ℕ → List (List (List ℕ)) → List LineKind → ℕ → Type 0
BadFrom n lines kinds m = (i : ℕ) × (m ≡ n + i) × IsFirstBad lines kinds i

bad_here : (w : List (List ℕ)) (ls : List (List (List ℕ))) (kind : LineKind) (kinds : List LineKind) → (IsLineForm w kind → ⊥) → IsFirstBad (w ∷ ls) (kind ∷ kinds) 0
bad_here w ls kind kinds h = record { good = λ k l. absurd (omega (arith, l)); bad = h }

bad_missing : (kind : LineKind) (kinds : List LineKind) → IsFirstBad [] (kind ∷ kinds) 0
bad_missing kind kinds = record { good = λ k l. absurd (omega (arith, l)); bad = tt }

bad_more : (w : List (List ℕ)) (ls : List (List (List ℕ))) → IsFirstBad (w ∷ ls) [] 0
bad_more w ls = record { good = λ k l. absurd (omega (arith, l)); bad = tt }

good_later : (w : List (List ℕ)) (ls : List (List (List ℕ))) (kind : LineKind) (kinds : List LineKind) (i k : ℕ) → IsLineForm w kind → ((k : ℕ) → k < i → IsGoodLine (slice_get ls k) (slice_get kinds k)) → k < suc i → IsGoodLine (slice_get (w ∷ ls) k) (slice_get (kind ∷ kinds) k)
good_later w ls kind kinds i zero h more l = h
good_later w ls kind kinds i (suc k) h more l = more k (omega (arith, l))

bad_later : (w : List (List ℕ)) (ls : List (List (List ℕ))) (kind : LineKind) (kinds : List LineKind) (i : ℕ) → IsLineForm w kind → IsFirstBad ls kinds i → IsFirstBad (w ∷ ls) (kind ∷ kinds) (suc i)
bad_later w ls kind kinds i h b = record { good = λ k l. good_later w ls kind kinds i k h b.good l; bad = b.bad }

err_is : {A : Type 0} (n m : ℕ) → ◌≡◌ {A = Result A ℕ} (Err n) (Err m) → n ≡ m
err_is n m e = cc

-- the line is not the form, or it is and a later one is not
abbrev Cause : ℕ → ℕ → LineKind → List (List ℕ) → List (List (List ℕ)) → List LineKind → Type 0
Cause n m kind w ls kinds = ((IsLineForm w kind → ⊥) × (m ≡ n)) ⊎ (IsLineForm w kind × BadFrom (n + 1) ls kinds m)

from_cause : (n m : ℕ) (kind : LineKind) (w : List (List ℕ)) (ls : List (List (List ℕ))) (kinds : List LineKind) → Cause n m kind w ls kinds → BadFrom n (w ∷ ls) (kind ∷ kinds) m
from_cause n m kind w ls kinds (inl h) = (0, omega (arith, h.1), bad_here w ls kind kinds h.0)
from_cause n m kind w ls kinds (inr h) = (suc h.1.0, omega (arith, h.1.1), bad_later w ls kind kinds h.1.0 h.0 h.1.2)

line_bad : (n m : ℕ) (lines : List (List (List ℕ))) (kind : LineKind) (kinds : List LineKind) (f : List (List ℕ) × List (List (List ℕ)) → Result RouteParts ℕ) → (first_line n lines >>= f) ≡ Err m → ((w : List (List ℕ)) (ls : List (List (List ℕ))) → f (w, ls) ≡ Err m → Cause n m kind w ls kinds) → BadFrom n lines (kind ∷ kinds) m
line_bad n m [] kind kinds f e then = (0, omega (arith, err_is {A = RouteParts} n m e), bad_missing kind kinds)
line_bad n m (w ∷ ls) kind kinds f e then = from_cause n m kind w ls kinds (then w ls e)

value_case : {A : Type 0} {kind : LineKind} {find : List (List ℕ) → Option A} {part : RouteParts → A} (law : IsPartOf kind find part) (w : List (List ℕ)) (o : Option A) (n m : ℕ) (ls : List (List (List ℕ))) (kinds : List LineKind) (f : A → Result RouteParts ℕ) → find w ≡ o → (found n o >>= f) ≡ Err m → ((x : A) → f x ≡ Err m → BadFrom (n + 1) ls kinds m) → Cause n m kind w ls kinds
value_case law w (Some x) n m ls kinds f is e then = inr (((law.some_route x).0, law.found_is w x (law.some_route x).0 is (law.some_route x).1), then x e)
value_case {A} {kind} {find} {part} law w None n m ls kinds f is e then =
    inl (λ h. let k : find w ≡ Some (part h.0) = law.again w h.0 h.1 in absurd cc, sym (err_is {A = RouteParts} n m e))

value_bad : {A : Type 0} {kind : LineKind} {find : List (List ℕ) → Option A} {part : RouteParts → A} (law : IsPartOf kind find part) (w : List (List ℕ)) (n m : ℕ) (ls : List (List (List ℕ))) (kinds : List LineKind) (f : A → Result RouteParts ℕ) → (found n (find w) >>= f) ≡ Err m → ((x : A) → f x ≡ Err m → BadFrom (n + 1) ls kinds m) → Cause n m kind w ls kinds
value_bad {A} {kind} {find} law w n m ls kinds f e then = value_case law w (find w) n m ls kinds f refl e then

end_bad : (n m : ℕ) (x : RouteParts) (lines : List (List (List ℕ))) → at_end n x lines ≡ Err m → BadFrom n lines [] m
end_bad n m x [] e = absurd cc
end_bad n m x (w ∷ ls) e = (0, omega (arith, err_is {A = RouteParts} n m e), bad_more w ls)

route_bad : (text : List ℕ) (m : ℕ) → route_in text ≡ Err m → BadFrom 1 (words_by_line text) route_lines m
unfolding route_in route_of
route_bad text m e =
    line_bad 1 m (words_by_line text) _ _ _ e (λ w1 l1 a1. value_bad prefix_part w1 1 m l1 _ _ a1 (λ x1 b1.
    line_bad 2 m l1 _ _ _ b1 (λ w2 l2 a2. value_bad next_hop_part w2 2 m l2 _ _ a2 (λ x2 b2.
    line_bad 3 m l2 _ _ _ b2 (λ w3 l3 a3. value_bad path_part w3 3 m l3 _ _ a3 (λ x3 b3.
    line_bad 4 m l3 _ _ _ b3 (λ w4 l4 a4. value_bad origin_part w4 4 m l4 _ _ a4 (λ x4 b4.
    line_bad 5 m l4 _ _ _ b4 (λ w5 l5 a5. value_bad preference_part w5 5 m l5 _ _ a5 (λ x5 b5.
    line_bad 6 m l5 _ _ _ b5 (λ w6 l6 a6. value_bad med_part w6 6 m l6 _ _ a6 (λ x6 b6.
    line_bad 7 m l6 _ _ _ b6 (λ w7 l7 a7. value_bad weight_part w7 7 m l7 _ _ a7 (λ x7 b7.
    line_bad 8 m l7 _ _ _ b7 (λ w8 l8 a8. value_bad communities_part w8 8 m l8 _ _ a8 (λ x8 b8.
    end_bad 9 m _ l8 b8))))))))))))))))

-- the number is that of the first line that is not the form
pub route_refused : (text : List ℕ) (m : ℕ) → route_in text ≡ Err m → IsFirstBadLine text m
route_refused text m e =
    let b = route_bad text m e in
    record { before = b.0; counted = omega (arith, b.1); first = b.2 }

-- a text of which a line is refused spells no route
pub route_none : (text : List ℕ) (m : ℕ) → route_in text ≡ Err m → (r : RouteParts) → SpellsRoute text r → ⊥
route_none text m e r s = let k : route_in text ≡ Ok r = route_again text r s in absurd cc

-- ---- the clauses of the reader

pub found_by : (text : List ℕ) (result : Result RouteParts RouteFault) → Answers (λ r. r) result (route_in text) → IfOk result (λ r. SpellsRoute text r)
found_by text (Ok r) e = route_found text r e
found_by text (Err fault) e = tt

pub refused_by : (text : List ℕ) (result : Result RouteParts RouteFault) → Answers (λ r. r) result (route_in text) → IfErr result (λ fault. IsRefusal text fault)
refused_by text (Ok r) e = tt
refused_by text (Err (Line number)) e = (route_refused text number e, route_none text number e)
refused_by text (Err Memory) e = tt

-- one number is that of the first bad line, since a line is not both the form and bad
not_both : (line : Option (List (List ℕ))) (kind : Option LineKind) → IsGoodLine line kind → IsBadLine line kind → ⊥
not_both (Some words) (Some kind) good bad = bad good
not_both (Some words) None good bad = good
not_both None kind good bad = good

one_first : (lines : List (List (List ℕ))) (kinds : List LineKind) (i j : ℕ) → IsFirstBad lines kinds i → IsFirstBad lines kinds j → (i ≡ j) ⊎ ((i < j) ⊎ (j < i)) → i ≡ j
one_first lines kinds i j a b (inl e) = e
one_first lines kinds i j a b (inr (inl l)) = absurd (not_both (slice_get lines i) (slice_get kinds i) (b.good i l) a.bad)
one_first lines kinds i j a b (inr (inr l)) = absurd (not_both (slice_get lines j) (slice_get kinds j) (a.good j l) b.bad)

-- a text has at most one first line that is not the form
pub refused_once : (text : List ℕ) (n m : ℕ) → IsFirstBadLine text n → IsFirstBadLine text m → n ≡ m
refused_once text n m a b = omega (arith, a.counted, b.counted, one_first (words_by_line text) route_lines a.before b.before a.first b.first (cases_order a.before b.before))

none_bad : (r : RouteParts) (lines : List (List (List ℕ))) (kinds : List LineKind) (i : ℕ) → Each (SpellsLine r) lines kinds → IsBadLine (slice_get lines i) (slice_get kinds i) → ⊥
none_bad r [] [] i s bad = bad
none_bad r [] (k ∷ ks) i s bad = s
none_bad r (l ∷ ls) [] i s bad = s
none_bad r (l ∷ ls) (k ∷ ks) zero s bad = bad (r, s.0)
none_bad r (l ∷ ls) (k ∷ ks) (suc i) s bad = none_bad r ls ks i s.1 bad

-- a text with a line that is not the form spells no route
pub not_both_of : (text : List ℕ) (n : ℕ) (r : RouteParts) → IsFirstBadLine text n → SpellsRoute text r → ⊥
not_both_of text n r b s = none_bad r (words_by_line text) route_lines b.before s b.first.bad

one_of : (text : List ℕ) (result : Result RouteParts ℕ) → route_in text ≡ result → ((r : RouteParts) × SpellsRoute text r) ⊎ ((n : ℕ) × IsFirstBadLine text n)
one_of text (Ok r) e = inl (r, route_found text r e)
one_of text (Err n) e = inr (n, route_refused text n e)

-- a text spells a route, or it has a first line that is not the form
pub spelled_or_refused : (text : List ℕ) → ((r : RouteParts) × SpellsRoute text r) ⊎ ((n : ℕ) × IsFirstBadLine text n)
spelled_or_refused text = one_of text (route_in text) refl
