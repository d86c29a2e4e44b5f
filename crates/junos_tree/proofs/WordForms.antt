-- The words that are no plain numbers, addresses or names agree with what they spell.
use Rattle.std.proofs.Common.{◌≡◌, refl, sym, ap, ◌∙◌, subst, ℕ, ◌≤◌, Bool, true, false, ◌&&◌, List, [], ◌∷◌, ◌++◌, length, Option, Some, None, arith, inl, inr, lit<}
use Rattle.std.specs.Prelude.{codes, decimal, bytes_eq, nat_le, ◌==◌, option_map}
use Rattle.std.specs.List.{list_any}
use Rattle.std.proofs.lemmas.Bool.{and_parts, eqb-true, leb-true, le-leb, or_from}
use Rattle.std.proofs.lemmas.List.Folds.{list_any-append}
use Rattle.route_types.specs.Address.{PrefixParts, prefix_of}
use Rattle.route_types.specs.Community.{RectParts}
use Rattle.route_types.specs.Words.{◌>>=◌, when, number_in, address_in, prefix_in, parts_at, IsAddress}
use Rattle.route_types.specs.declared.address.Address.{Address}
use Rattle.route_types.specs.declared.route.NextHop.{NextHop}
use Rattle.route_types.specs.declared.route.NextHop.TheVariants.{At, Own}
use Rattle.route_types.proofs.Numbers.{bind_found, some_is, when_true, decimal_no_such_byte}
use Rattle.route_types.specs.RouteLines.{next_hop_in}
use Rattle.route_types.proofs.RouteWords.{next_hops}
use Rattle.route_types.proofs.Spelled.{parts_at_behind, parts_at_found}
use Rattle.aspath_text.specs.JunosRead.{junos_pattern_in}
use Rattle.aspath_text.proofs.JunosRead.{junos_pattern_found, junos_pattern_only}
use Rattle.aspath_text.proofs.JunosWords.{parts_none}
use Rattle.policy_text.specs.Names.{first_some}
use Rattle.policy_text.specs.Phrases.{Agrees, IsOneOf, one_of}
use Rattle.policy_text.specs.Halves.{number_or_all, halves_in}
use Rattle.policy_text.proofs.Phrases.{when_found, same_bytes, first_found, map_found}
use Rattle.policy_text.proofs.Agree.{one_of_agrees}
use Rattle.policy_text.proofs.Values.{number_agrees, address_agrees, prefix_agrees}
use Rattle.junos_tree.specs.Words.{ends, nexts, verbs, filter_types, types, known_members, IsHalf, AreHalves, IsMember, IsListMember, IsLength, IsUpTo, AreLengths, IsNextHop, IsPattern, member_in, list_member_in, length_in, up_to_in, lengths_in, pattern_in}

-- ---- members of communities

half_found : (w : List ℕ) (h : ℕ × ℕ) → number_or_all w ≡ Some h → IsHalf w h.0 h.1
half_found w h e =
    first_found (number_in 65535 w >>= λ n. Some (n, n)) (when (bytes_eq w (codes "*")) (0, 65535)) h (IsHalf w h.0 h.1)
    (λ g. let n = bind_found (number_in 65535 w) (λ m. Some (m, m)) h g in subst (λ (x : ℕ × ℕ). IsHalf w x.0 x.1) (some_is (n.0, n.0) h n.2) (inl ((number_agrees 65535 (lit< tt)).found w n.0 n.1, refl)))
    (λ g. let k = when_found (bytes_eq w (codes "*")) (0, 65535) h g in subst (λ (x : ℕ × ℕ). IsHalf w x.0 x.1) k.1 (inr (same_bytes w (codes "*") k.0, refl, refl)))
    e

half_spelled : (w : List ℕ) (least most : ℕ) → IsHalf w least most → number_or_all w ≡ Some (least, most)
unfolding number_in
half_spelled w least most (inl (h, e)) = rw e (ap (λ (o : Option ℕ). first_some (o >>= λ n. Some (n, n)) (when (bytes_eq w (codes "*")) (0, 65535))) ((number_agrees 65535 (lit< tt)).only w least h))
half_spelled w least most (inr (e, f, g)) = rw (e, f, g) refl

-- no colon stands in a half
no_colon : (w : List ℕ) (least most : ℕ) → IsHalf w least most → list_any (λ c. c == 58) w ≡ false
no_colon w least most (inl (h, e)) = ap (λ (x : List ℕ). list_any (λ c. c == 58) x) h.spelled ∙ decimal_no_such_byte 58 least refl (omega (arith, h.within))
no_colon w least most (inr (e, f, g)) = ap (λ (x : List ℕ). list_any (λ c. c == 58) x) e

halves_agree : Agrees (halves_in number_or_all) AreHalves
unfolding halves_in
halves_agree = record {
  found = λ w r e.
      let parts = bind_found (parts_at 58 w) _ r e in
      let high = bind_found (number_or_all parts.0.0) _ r parts.2 in
      let low = bind_found (number_or_all parts.0.1) _ r high.2 in
      subst (AreHalves w) (some_is (record { high_least = high.0.0; high_most = high.0.1; low_least = low.0.0; low_most = low.0.1 }) r low.2) (record {
        high = parts.0.0;
        low = parts.0.1;
        spelled = parts_at_found 58 w parts.0 parts.1;
        high_half = half_found parts.0.0 high.0 high.1;
        low_half = half_found parts.0.1 low.0 low.1;
      });
  only = λ w r h.
      let parted = parts_at_behind 58 h.high h.low (no_colon h.high r.high_least r.high_most h.high_half) in
      ap (λ (x : List ℕ). halves_in number_or_all x) h.spelled ∙ rw (parted, half_spelled h.high r.high_least r.high_most h.high_half, half_spelled h.low r.low_least r.low_most h.low_half) refl;
}

known_agree : Agrees (one_of known_members) (IsOneOf known_members)
known_agree = one_of_agrees known_members refl

member_found : (w : List ℕ) (r : RectParts) → member_in w ≡ Some r → IsMember w r
unfolding member_in
member_found w r e = first_found (halves_in number_or_all w) (one_of known_members w) r (IsMember w r) (λ h. inl (halves_agree.found w r h)) (λ h. inr (known_agree.found w r h)) e

member_only : (w : List ℕ) (r : RectParts) → IsMember w r → member_in w ≡ Some r
unfolding member_in halves_in parts_at
member_only w r (inl h) = ap (λ (o : Option RectParts). first_some o (one_of known_members w)) (halves_agree.only w r h)
member_only w r (inr (inl (e, f))) = rw (e, f) refl
member_only w r (inr (inr (inl (e, f)))) = rw (e, f) refl
member_only w r (inr (inr (inr (inl (e, f))))) = rw (e, f) refl
member_only w r (inr (inr (inr (inr h)))) = absurd h

pub member_agrees : Agrees member_in IsMember
member_agrees = record { found = member_found; only = member_only }

-- ---- members of prefix lists

list_member_found : (w : List ℕ) (p : PrefixParts) → list_member_in w ≡ Some p → IsListMember w p
unfolding list_member_in
list_member_found w p e =
    first_found (prefix_in w) (address_in w >>= λ a. Some (prefix_of a 32)) p (IsListMember w p) (λ h. inl (prefix_agrees.found w p h))
    (λ h. let a = bind_found (address_in w) (λ b. Some (prefix_of b 32)) p h in inr (a.0, address_agrees.found w a.0 a.1, sym (some_is (prefix_of a.0 32) p a.2)))
    e

-- no slash stands in numbers joined by dots
dot_then : (n : ℕ) (rest : List ℕ) → n ≤ 255 → list_any (λ c. c == 47) rest ≡ false → list_any (λ c. c == 47) (decimal n ++ (46 ∷ rest)) ≡ false
dot_then n rest small more =
    list_any-append (λ c. c == 47) (decimal n) (46 ∷ rest)
    ∙ or_from (list_any (λ c. c == 47) (decimal n)) (list_any (λ c. c == 47) (46 ∷ rest)) (decimal_no_such_byte 47 n refl (omega arith)) more

no_slash : (w : List ℕ) (a : Address) → IsAddress w a → list_any (λ c. c == 47) w ≡ false
no_slash w a h =
    ap (λ (x : List ℕ). list_any (λ c. c == 47) x) h.spelled
    ∙ dot_then h.octets.first _ h.first (dot_then h.octets.second _ h.second (dot_then h.octets.third (decimal h.octets.fourth) h.third (decimal_no_such_byte 47 h.octets.fourth refl (omega (arith, h.fourth)))))

-- a word without a slash is no prefix
no_prefix : (w : List ℕ) → list_any (λ c. c == 47) w ≡ false → prefix_in w ≡ None
unfolding prefix_in
no_prefix w h = ap (λ (o : Option (List ℕ × List ℕ)). o >>= λ parts. address_in parts.0 >>= λ a. number_in 32 parts.1 >>= λ n. Some (prefix_of a n)) (parts_none 47 w h)

list_member_only : (w : List ℕ) (p : PrefixParts) → IsListMember w p → list_member_in w ≡ Some p
unfolding list_member_in
list_member_only w p (inl h) = ap (λ (o : Option PrefixParts). first_some o (address_in w >>= λ a. Some (prefix_of a 32))) (prefix_agrees.only w p h)
list_member_only w p (inr (a, h, e)) =
    ap (λ (o : Option PrefixParts). first_some o (address_in w >>= λ b. Some (prefix_of b 32))) (no_prefix w (no_slash w a h))
    ∙ ap (λ (o : Option Address). o >>= λ b. Some (prefix_of b 32)) (address_agrees.only w a h) ∙ ap (λ (q : PrefixParts). Some q) (sym e)

pub list_member_agrees : Agrees list_member_in IsListMember
list_member_agrees = record { found = list_member_found; only = list_member_only }

-- ---- lengths

length_here : (t : Bool) (c : ℕ) (cs : List ℕ) (n : ℕ) → (c == 47) ≡ t → ◌≡◌ {A = Option ℕ} (elim t [ true ↦ number_in 32 cs | false ↦ None ]) (Some n) → IsLength (c ∷ cs) n
length_here true c cs n t e =
    let slash = eqb-true c 47 t in
    let number = (number_agrees 32 (lit< tt)).found cs n e in
    record { spelled = λ i. slash i ∷ number.spelled i; within = number.within }
length_here false c cs n t e = absurd cc

length_found : (w : List ℕ) (n : ℕ) → length_in w ≡ Some n → IsLength w n
length_found [] n e = absurd cc
length_found (c ∷ cs) n e = length_here (c == 47) c cs n refl e

length_only : (w : List ℕ) (n : ℕ) → IsLength w n → length_in w ≡ Some n
length_only w n h = ap (λ (x : List ℕ). length_in x) h.spelled ∙ (number_agrees 32 (lit< tt)).only (decimal n) n (record { spelled = refl; within = h.within })

length_agrees : Agrees length_in IsLength
length_agrees = record { found = length_found; only = length_only }

pub up_to_agrees : (length : ℕ) → Agrees (up_to_in length) (IsUpTo length)
unfolding up_to_in
up_to_agrees length = record {
  found = λ w l e.
      let most = bind_found (length_in w) _ l e in
      let k = when_found (nat_le length most.0) (length, most.0) l most.2 in
      subst (IsUpTo length w) k.1 (record { most = length_agrees.found w most.0 most.1; least = refl; rises = leb-true length most.0 k.0 });
  only = λ w l h. rw (length_agrees.only w l.1 h.most) (rw (sym h.least) (when_true (nat_le l.0 l.1) (l.0, l.1) (le-leb l.0 l.1 h.rises)));
}

-- no dash stands in a length
no_dash : (w : List ℕ) (n : ℕ) → IsLength w n → list_any (λ c. c == 45) w ≡ false
no_dash w n h = ap (λ (x : List ℕ). list_any (λ c. c == 45) x) h.spelled ∙ decimal_no_such_byte 45 n refl (omega (arith, h.within))

lengths_found : (length : ℕ) (w : List ℕ) (l : ℕ × ℕ) → lengths_in length w ≡ Some l → AreLengths length w l
unfolding lengths_in
lengths_found length w l e =
    let parts = bind_found (parts_at 45 w) _ l e in
    let least = bind_found (length_in parts.0.0) _ l parts.2 in
    let most = bind_found (length_in parts.0.1) _ l least.2 in
    let k = when_found (nat_le length least.0 && nat_le least.0 most.0) (least.0, most.0) l most.2 in
    let p = and_parts (nat_le length least.0) (nat_le least.0 most.0) k.0 in
    subst (AreLengths length w) k.1 (record {
      front = parts.0.0;
      back = parts.0.1;
      spelled = parts_at_found 45 w parts.0 parts.1;
      least = length_agrees.found parts.0.0 least.0 least.1;
      most = length_agrees.found parts.0.1 most.0 most.1;
      holds_own = leb-true length least.0 p.0;
      rises = leb-true least.0 most.0 p.1;
    })

lengths_only : (length : ℕ) (w : List ℕ) (l : ℕ × ℕ) → AreLengths length w l → lengths_in length w ≡ Some l
unfolding lengths_in
lengths_only length w l h =
    ap (λ (x : List ℕ). lengths_in length x) h.spelled
    ∙ rw (parts_at_behind 45 h.front h.back (no_dash h.front l.0 h.least), length_agrees.only h.front l.0 h.least, length_agrees.only h.back l.1 h.most, le-leb length l.0 h.holds_own, le-leb l.0 l.1 h.rises) refl

pub lengths_agree : (length : ℕ) → Agrees (lengths_in length) (AreLengths length)
lengths_agree length = record { found = lengths_found length; only = lengths_only length }

-- ---- words of a table

pub ends_agree : Agrees (one_of ends) (IsOneOf ends)
ends_agree = one_of_agrees ends refl

pub nexts_agree : Agrees (one_of nexts) (IsOneOf nexts)
nexts_agree = one_of_agrees nexts refl

pub verbs_agree : Agrees (one_of verbs) (IsOneOf verbs)
verbs_agree = one_of_agrees verbs refl

pub filters_agree : Agrees (one_of filter_types) (IsOneOf filter_types)
filters_agree = one_of_agrees filter_types refl

pub types_agree : (n : ℕ) → Agrees (one_of (types n)) (IsOneOf (types n))
types_agree n = one_of_agrees (types n) refl

-- ---- next hops and patterns

pub hop_agrees : Agrees next_hop_in IsNextHop
hop_agrees = record { found = next_hops.found; only = next_hops.again }

pub pattern_agrees : Agrees pattern_in IsPattern
unfolding pattern_in
pattern_agrees = record {
  found = λ w x e.
      let p = bind_found (junos_pattern_in w) (λ q. Some (q, w)) x e in
      subst (IsPattern w) (some_is (p.0, w) x p.2) (junos_pattern_found w p.0 p.1, refl);
  only = λ w x h. rw (junos_pattern_only w x.0 h.0) (ap (λ (t : List ℕ). Some (x.0, t)) (sym h.1));
}
