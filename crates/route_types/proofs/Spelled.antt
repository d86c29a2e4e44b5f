-- The text of an address and of a prefix is found as that value, and what is found is spelled so.
use Rattle.std.proofs.Common.{◌≡◌, refl, sym, ap, subst, ◌∙◌, ℕ, ◌≤◌, Bool, true, false, List, [], ◌∷◌, ◌++◌, Option, Some, None, arith, lit<}
use Rattle.std.specs.Prelude.{decimal, ◌==◌}
use Rattle.std.specs.List.{list_any}
use Rattle.std.proofs.lemmas.Bool.{eq-eqb, eqb-true, or_from, or_parts}
use Rattle.std.proofs.lemmas.List.Folds.{list_any-append}
use Rattle.route_types.specs.Address.{PrefixParts, prefix_of}
use Rattle.route_types.specs.Words.{Octets, dotted, address_of, IsAddress, IsPrefix, IsCommunity, community_of, FindsExactly, number_in, parts_at, address_in, prefix_in, community_in, ◌>>=◌}
use Rattle.route_types.specs.declared.address.Address.{Address}
use Rattle.route_types.specs.declared.community.Community.{Community}
use Rattle.route_types.proofs.Numbers.{bind_found, some_is, number_in_spelled, number_in_found, decimal_no_such_byte}

same_byte : (b : ℕ) → (b == b) ≡ true
same_byte b = eq-eqb b b refl

-- two arguments replaced by equal ones
pub ap2 : {A B C : Type 0} (f : A → B → C) {a x : A} {b y : B} → a ≡ x → b ≡ y → f a b ≡ f x y
ap2 f {a} {x} {b} {y} p q = ap (λ z. f z b) p ∙ ap (λ z. f x z) q

-- what stands before the byte, where the byte does not stand in it
pub parts_at_behind : (b : ℕ) (front rest : List ℕ) → list_any (λ c. c == b) front ≡ false → parts_at b (front ++ (b ∷ rest)) ≡ Some (front, rest)
unfolding parts_at
parts_at_behind b [] rest h = ap (λ (t : Bool). elim t [ true ↦ Some ([], rest) | false ↦ parts_at b rest >>= λ parts. Some (b ∷ parts.0, parts.1) ]) (same_byte b)
parts_at_behind b (c ∷ cs) rest h =
    let p = or_parts (c == b) (list_any (λ x. x == b) cs) h in
    ap (λ (t : Bool). elim t [ true ↦ Some ([], cs ++ (b ∷ rest)) | false ↦ parts_at b (cs ++ (b ∷ rest)) >>= λ parts. Some (c ∷ parts.0, parts.1) ]) p.0
    ∙ ap (λ (o : Option (List ℕ × List ℕ)). o >>= λ parts. Some (c ∷ parts.0, parts.1)) (parts_at_behind b cs rest p.1)

parts_test_found : (t : Bool) (c b : ℕ) (cs : List ℕ) (parts : List ℕ × List ℕ) → (c == b) ≡ t → ((q : List ℕ × List ℕ) → parts_at b cs ≡ Some q → cs ≡ q.0 ++ (b ∷ q.1)) → (elim t [ true ↦ Some ([], cs) | false ↦ parts_at b cs >>= λ q. Some (c ∷ q.0, q.1) ]) ≡ Some parts → (c ∷ cs) ≡ parts.0 ++ (b ∷ parts.1)
parts_test_found true c b cs parts t more e =
    subst (λ (q : List ℕ × List ℕ). (c ∷ cs) ≡ q.0 ++ (b ∷ q.1)) (some_is ([], cs) parts e) (ap (λ (x : ℕ). x ∷ cs) (eqb-true c b t))
parts_test_found false c b cs parts t more e =
    let f = bind_found (parts_at b cs) (λ q. Some (c ∷ q.0, q.1)) parts e in
    subst (λ (q : List ℕ × List ℕ). (c ∷ cs) ≡ q.0 ++ (b ∷ q.1)) (some_is (c ∷ f.0.0, f.0.1) parts f.2) (ap (λ (xs : List ℕ). c ∷ xs) (more f.0 f.1))

-- the parts make up the word, with the byte between them
pub parts_at_found : (b : ℕ) (word : List ℕ) (parts : List ℕ × List ℕ) → parts_at b word ≡ Some parts → word ≡ parts.0 ++ (b ∷ parts.1)
unfolding parts_at
parts_at_found b [] parts e = absurd cc
parts_at_found b (c ∷ cs) parts e = parts_test_found (c == b) c b cs parts refl (λ q h. parts_at_found b cs q h) e

-- the numbers are bytes
pub record AreOctets (o : Octets) : Type 0 where
  pub first : o.first ≤ 255
  pub second : o.second ≤ 255
  pub third : o.third ≤ 255
  pub fourth : o.fourth ≤ 255

octet_then : (n : ℕ) (rest : List ℕ) → n ≤ 255 → parts_at 46 (decimal n ++ (46 ∷ rest)) ≡ Some (decimal n, rest)
octet_then n rest h = parts_at_behind 46 (decimal n) rest (decimal_no_such_byte 46 n refl (omega arith))

octet_in : (n : ℕ) → n ≤ 255 → number_in 255 (decimal n) ≡ Some n
octet_in n h = number_in_spelled 255 n h (omega arith)

pub address_in_spelled : (o : Octets) → AreOctets o → address_in (dotted o) ≡ Some (address_of o)
unfolding address_in
address_in_spelled o h =
    rw (octet_then o.first (decimal o.second ++ (46 ∷ decimal o.third ++ (46 ∷ decimal o.fourth))) h.first, octet_then o.second (decimal o.third ++ (46 ∷ decimal o.fourth)) h.second, octet_then o.third (decimal o.fourth) h.third, octet_in o.first h.first, octet_in o.second h.second, octet_in o.third h.third, octet_in o.fourth h.fourth) refl

pub address_in_found : (word : List ℕ) (a : Address) → address_in word ≡ Some a → IsAddress word a
unfolding address_in
address_in_found word a e =
    let one = bind_found (parts_at 46 word) _ a e in
    let two = bind_found (parts_at 46 one.0.1) _ a one.2 in
    let three = bind_found (parts_at 46 two.0.1) _ a two.2 in
    let first = bind_found (number_in 255 one.0.0) _ a three.2 in
    let second = bind_found (number_in 255 two.0.0) _ a first.2 in
    let third = bind_found (number_in 255 three.0.0) _ a second.2 in
    let fourth = bind_found (number_in 255 three.0.1) _ a third.2 in
    let n1 = number_in_found 255 one.0.0 first.0 (lit< tt) first.1 in
    let n2 = number_in_found 255 two.0.0 second.0 (lit< tt) second.1 in
    let n3 = number_in_found 255 three.0.0 third.0 (lit< tt) third.1 in
    let n4 = number_in_found 255 three.0.1 fourth.0 (lit< tt) fourth.1 in
    record {
      octets = record { first = first.0; second = second.0; third = third.0; fourth = fourth.0 };
      first = n1.within;
      second = n2.within;
      third = n3.within;
      fourth = n4.within;
      spelled = parts_at_found 46 word one.0 one.1
          ∙ ap2 (λ (x y : List ℕ). x ++ (46 ∷ y)) n1.spelled (parts_at_found 46 one.0.1 two.0 two.1
          ∙ ap2 (λ (x y : List ℕ). x ++ (46 ∷ y)) n2.spelled (parts_at_found 46 two.0.1 three.0 three.1
          ∙ ap2 (λ (x y : List ℕ). x ++ (46 ∷ y)) n3.spelled n4.spelled));
      value = sym (some_is _ a fourth.2);
    }

pub address_in_none : (word : List ℕ) → address_in word ≡ None → (a : Address) → IsAddress word a → ⊥
address_in_none word e a h =
    let k : address_in word ≡ Some (address_of h.octets) = ap (λ (w : List ℕ). address_in w) h.spelled ∙ address_in_spelled h.octets (record { first = h.first; second = h.second; third = h.third; fourth = h.fourth }) in
    absurd cc

address_exactly : (word : List ℕ) (o : Option Address) → address_in word ≡ o → FindsExactly (IsAddress word) o
address_exactly word (Some a) e = address_in_found word a e
address_exactly word None e = address_in_none word e

-- the function finds exactly the addresses that are spelled
pub address_in_exactly : (word : List ℕ) → FindsExactly (IsAddress word) (address_in word)
address_in_exactly word = address_exactly word (address_in word) refl

dot_then : (n : ℕ) (rest : List ℕ) → n ≤ 255 → list_any (λ c. c == 47) rest ≡ false → list_any (λ c. c == 47) (decimal n ++ (46 ∷ rest)) ≡ false
dot_then n rest h more =
    list_any-append (λ c. c == 47) (decimal n) (46 ∷ rest)
    ∙ or_from (list_any (λ c. c == 47) (decimal n)) (list_any (λ c. c == 47) (46 ∷ rest)) (decimal_no_such_byte 47 n refl (omega arith)) more

-- no slash stands in an address
dotted_no_slash : (o : Octets) → AreOctets o → list_any (λ c. c == 47) (dotted o) ≡ false
dotted_no_slash o h =
    dot_then o.first (decimal o.second ++ (46 ∷ decimal o.third ++ (46 ∷ decimal o.fourth))) h.first
    (dot_then o.second (decimal o.third ++ (46 ∷ decimal o.fourth)) h.second
    (dot_then o.third (decimal o.fourth) h.third (decimal_no_such_byte 47 o.fourth refl (omega (arith, h.fourth)))))

pub prefix_in_spelled : (o : Octets) (n : ℕ) → AreOctets o → n ≤ 32 → prefix_in (dotted o ++ (47 ∷ decimal n)) ≡ Some (prefix_of (address_of o) n)
unfolding prefix_in
prefix_in_spelled o n h within =
    rw (parts_at_behind 47 (dotted o) (decimal n) (dotted_no_slash o h), address_in_spelled o h, number_in_spelled 32 n within (omega arith)) refl

pub prefix_in_found : (word : List ℕ) (p : PrefixParts) → prefix_in word ≡ Some p → IsPrefix word p
unfolding prefix_in
prefix_in_found word p e =
    let parts = bind_found (parts_at 47 word) _ p e in
    let address = bind_found (address_in parts.0.0) _ p parts.2 in
    let length = bind_found (number_in 32 parts.0.1) _ p address.2 in
    let n = number_in_found 32 parts.0.1 length.0 (lit< tt) length.1 in
    record {
      front = parts.0.0;
      address = address.0;
      length = length.0;
      spelled = parts_at_found 47 word parts.0 parts.1 ∙ ap (λ (x : List ℕ). parts.0.0 ++ (47 ∷ x)) n.spelled;
      spells_address = address_in_found parts.0.0 address.0 address.1;
      within = n.within;
      value = sym (some_is _ p length.2);
    }

pub prefix_in_none : (word : List ℕ) → prefix_in word ≡ None → (p : PrefixParts) → IsPrefix word p → ⊥
prefix_in_none word e p h =
    let a = h.spells_address in
    let k : prefix_in word ≡ Some (prefix_of (address_of a.octets) h.length) =
    ap (λ (w : List ℕ). prefix_in w) (h.spelled ∙ ap (λ (x : List ℕ). x ++ (47 ∷ decimal h.length)) a.spelled)
    ∙ prefix_in_spelled a.octets h.length (record { first = a.first; second = a.second; third = a.third; fourth = a.fourth }) h.within in
    absurd cc

prefix_exactly : (word : List ℕ) (o : Option PrefixParts) → prefix_in word ≡ o → FindsExactly (IsPrefix word) o
prefix_exactly word (Some p) e = prefix_in_found word p e
prefix_exactly word None e = prefix_in_none word e

-- the function finds exactly the prefixes that are spelled
pub prefix_in_exactly : (word : List ℕ) → FindsExactly (IsPrefix word) (prefix_in word)
prefix_in_exactly word = prefix_exactly word (prefix_in word) refl

pub community_in_spelled : (high low : ℕ) → high ≤ 65535 → low ≤ 65535 → community_in (decimal high ++ (58 ∷ decimal low)) ≡ Some (community_of high low)
unfolding community_in
community_in_spelled high low h l =
    rw (parts_at_behind 58 (decimal high) (decimal low) (decimal_no_such_byte 58 high refl (omega arith)), number_in_spelled 65535 high h (omega arith), number_in_spelled 65535 low l (omega arith)) refl

pub community_in_found : (word : List ℕ) (c : Community) → community_in word ≡ Some c → IsCommunity word c
unfolding community_in
community_in_found word c e =
    let parts = bind_found (parts_at 58 word) _ c e in
    let high = bind_found (number_in 65535 parts.0.0) _ c parts.2 in
    let low = bind_found (number_in 65535 parts.0.1) _ c high.2 in
    let h = number_in_found 65535 parts.0.0 high.0 (lit< tt) high.1 in
    let l = number_in_found 65535 parts.0.1 low.0 (lit< tt) low.1 in
    record {
      high = high.0;
      low = low.0;
      high_within = h.within;
      low_within = l.within;
      spelled = parts_at_found 58 word parts.0 parts.1 ∙ ap2 (λ (x y : List ℕ). x ++ (58 ∷ y)) h.spelled l.spelled;
      value = sym (some_is _ c low.2);
    }

pub community_in_none : (word : List ℕ) → community_in word ≡ None → (c : Community) → IsCommunity word c → ⊥
community_in_none word e c h =
    let k : community_in word ≡ Some (community_of h.high h.low) = ap (λ (w : List ℕ). community_in w) h.spelled ∙ community_in_spelled h.high h.low h.high_within h.low_within in
    absurd cc

community_exactly : (word : List ℕ) (o : Option Community) → community_in word ≡ o → FindsExactly (IsCommunity word) o
community_exactly word (Some c) e = community_in_found word c e
community_exactly word None e = community_in_none word e

-- the function finds exactly the communities that are spelled
pub community_in_exactly : (word : List ℕ) → FindsExactly (IsCommunity word) (community_in word)
community_in_exactly word = community_exactly word (community_in word) refl
