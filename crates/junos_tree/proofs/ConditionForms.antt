-- The conditions of terms, both ways: a condition that is found is spelled by the words, and what is spelled
-- is found.
use Rattle.std.proofs.Common.{◌≡◌, refl, ap, ◌∙◌, subst, ℕ, ◌-◌, ◌^◌, ◌≤◌, List, [], ◌∷◌, Option, Some, None, arith, inl, inr, lit<}
use Rattle.std.specs.Prelude.{codes, IfSome}
use Rattle.prefix_sets.specs.Range.{RangeParts}
use Rattle.route_types.specs.Address.{PrefixParts}
use Rattle.route_types.specs.Words.{number_in, prefix_in, address_in, IsAddress}
use Rattle.route_types.proofs.Numbers.{bind_found, some_is}
use Rattle.policy_text.specs.Names.{first_some}
use Rattle.policy_text.specs.Phrases.{Agrees, Behind, One, First, IsOneOf, IsNameWord, after, behind, only, value_at, name_in, one_of, first_of}
use Rattle.policy_text.proofs.Phrases.{first_found}
use Rattle.policy_text.proofs.Agree.{one_agrees, first_agrees, behind_agrees, made_found}
use Rattle.policy_text.proofs.Values.{number_agrees, address_agrees, prefix_agrees, name_agrees, origin_agrees}
use Rattle.junos_tree.specs.Words.{types, up_to_in, lengths_in, filter_types}
use Rattle.junos_tree.specs.Forms.{of_keys, values_in, type_in, range_in, named_in, filter_in, attribute_in, condition_in}
use Rattle.junos_tree.specs.Spelling.{SpellValues, SpellNames, SpellNumber, SpellType, SpellRange, SpellCondition}
use Rattle.junos_tree.specs.declared.item.Condition.{Condition}
use Rattle.junos_tree.specs.declared.item.Condition.TheVariants.{Protocol, Community, AsPath, NextHop, Policy, PrefixList, RouteFilter, ListFilter, Metric, LocalPreference, Origin}
use Rattle.junos_tree.proofs.ValueLists.{values_agree}
use Rattle.junos_tree.proofs.WordForms.{types_agree, up_to_agrees, lengths_agree, filters_agree}

-- ---- what is made of the value behind the first words

-- a form that is found by its first words is spelled
pub of_keys_found : {A B : Type 0} (make : A → B) (ks : List (List ℕ)) (f : List (List ℕ) → Option A) (P : List (List ℕ) → A → Type 0) (S : List (List ℕ) → B → Type 0) → Agrees f P → ((ws : List (List ℕ)) (x : A) → Behind ks P ws x → S ws (make x))
    → (ws : List (List ℕ)) (y : B) → of_keys make ks f ws ≡ Some y → S ws y
unfolding of_keys
of_keys_found make ks f P S a is ws y e = made_found (behind ks f) (Behind ks P) make S (behind_agrees ks f P a) is ws y e

-- ---- the lengths of a route filter

type_found : (n : ℕ) (ws : List (List ℕ)) (l : ℕ × ℕ) → type_in n ws ≡ Some l → SpellType n ws l
unfolding type_in
type_found n ws l e =
    first_found (only (one_of (types n)) ws) _ l (SpellType n ws l) (λ h. inl ((one_agrees _ _ (types_agree n)).found ws l h))
    (λ g. first_found (behind (codes "upto" ∷ []) (only (up_to_in n)) ws) (behind (codes "prefix-length-range" ∷ []) (only (lengths_in n)) ws) l (SpellType n ws l)
    (λ h. inr (inl ((behind_agrees (codes "upto" ∷ []) _ _ (one_agrees _ _ (up_to_agrees n))).found ws l h)))
    (λ h. inr (inr ((behind_agrees (codes "prefix-length-range" ∷ []) _ _ (one_agrees _ _ (lengths_agree n))).found ws l h))) g)
    e

type_only : (n : ℕ) (ws : List (List ℕ)) (l : ℕ × ℕ) → SpellType n ws l → type_in n ws ≡ Some l
unfolding type_in after
type_only n ws l (inl h) =
    ap (λ (o : Option (ℕ × ℕ)). first_some o (first_some (behind (codes "upto" ∷ []) (only (up_to_in n)) ws) (behind (codes "prefix-length-range" ∷ []) (only (lengths_in n)) ws))) ((one_agrees _ _ (types_agree n)).only ws l h)
type_only n ws l (inr (inl (rest, e, (w, f, h)))) = rw (e, f) (rw ((up_to_agrees n).only w l h) refl)
type_only n ws l (inr (inr (rest, e, (w, f, h)))) = rw (e, f) (rw ((lengths_agree n).only w l h) refl)

type_agrees : (n : ℕ) → Agrees (type_in n) (SpellType n)
type_agrees n = record { found = type_found n; only = type_only n }

one_of_types : (n : ℕ) (w : List ℕ) (l : ℕ × ℕ) → IsOneOf (types n) w l → n ≤ l.0
one_of_types n w l (inl (e, f)) = rw f (omega arith)
one_of_types n w l (inr (inl (e, f))) = rw f (omega arith)
one_of_types n w l (inr (inr (inl (e, f)))) = rw f (omega arith)
one_of_types n w l (inr (inr (inr h))) = absurd h

-- the least length is at least the prefix's own
least_spelled : (n : ℕ) (ws : List (List ℕ)) (l : ℕ × ℕ) → SpellType n ws l → n ≤ l.0
least_spelled n ws l (inl (w, e, h)) = one_of_types n w l h
least_spelled n ws l (inr (inl (rest, e, (w, f, h)))) = omega (arith, h.least)
least_spelled n ws l (inr (inr (rest, e, (w, f, h)))) = h.holds_own

least_found : (n : ℕ) (ws : List (List ℕ)) (o : Option (ℕ × ℕ)) → type_in n ws ≡ o → IfSome o (λ l. n ≤ l.0)
least_found n ws (Some l) e = least_spelled n ws l (type_found n ws l e)
least_found n ws None e = tt

pub least_is_within : (n : ℕ) (ws : List (List ℕ)) → IfSome (type_in n ws) (λ l. n ≤ l.0)
least_is_within n ws = least_found n ws (type_in n ws) refl

range_found : (ws : List (List ℕ)) (r : RangeParts) → range_in ws ≡ Some r → SpellRange ws r
unfolding range_in
range_found [] r e = absurd cc
range_found (w ∷ ws) r e =
    let prefix = bind_found (value_at prefix_in (w ∷ ws)) _ r e in
    let first = bind_found (prefix_in w) (λ p. Some (p, ws)) prefix.0 prefix.1 in
    let lengths = bind_found (type_in prefix.0.0.length prefix.0.1) _ r prefix.2 in
    let is : (first.0, ws) ≡ prefix.0 = some_is (first.0, ws) prefix.0 first.2 in
    let p : first.0 ≡ prefix.0.0 = ap (λ (x : PrefixParts × List (List ℕ)). x.0) is in
    let rest : ws ≡ prefix.0.1 = ap (λ (x : PrefixParts × List (List ℕ)). x.1) is in
    subst (SpellRange (w ∷ ws)) (some_is (record { prefix = prefix.0.0; least = lengths.0.0; most = lengths.0.1 }) r lengths.2) (record {
      prefix_word = w;
      rest = prefix.0.1;
      words = ap (λ (x : List (List ℕ)). w ∷ x) rest;
      prefix = prefix_agrees.found w prefix.0.0 (first.1 ∙ ap (λ (x : PrefixParts). Some x) p);
      lengths = type_found prefix.0.0.length prefix.0.1 lengths.0 lengths.1;
    })

range_only : (ws : List (List ℕ)) (r : RangeParts) → SpellRange ws r → range_in ws ≡ Some r
unfolding range_in
range_only ws r h = rw h.words (rw (prefix_agrees.only h.prefix_word r.prefix h.prefix) (rw (type_only r.prefix.length h.rest (r.least, r.most) h.lengths) refl))

range_agrees : Agrees range_in SpellRange
range_agrees = record { found = range_found; only = range_only }

-- ---- what is found is spelled

names_agree : Agrees (values_in name_in) SpellNames
names_agree = values_agree name_in IsNameWord name_agrees

number_alone : Agrees (only (number_in (2 ^ 32 - 1))) SpellNumber
number_alone = one_agrees _ _ (number_agrees (2 ^ 32 - 1) (lit< tt))

list_filter_agrees : Agrees (first_of name_in (only (one_of filter_types))) (First IsNameWord (One (IsOneOf filter_types)))
list_filter_agrees = first_agrees _ _ _ _ name_agrees (one_agrees _ _ filters_agree)

hops_agree : Agrees (values_in address_in) (SpellValues IsAddress)
hops_agree = values_agree _ _ address_agrees

named_found : (ws : List (List ℕ)) (c : Condition) → named_in ws ≡ Some c → SpellCondition ws c
unfolding named_in
named_found ws c e =
    first_found _ _ c (SpellCondition ws c) (of_keys_found _ _ _ _ SpellCondition names_agree (λ vs x h. h) ws c)
    (λ e1. first_found _ _ c (SpellCondition ws c) (of_keys_found _ _ _ _ SpellCondition names_agree (λ vs x h. h) ws c)
    (λ e2. first_found _ _ c (SpellCondition ws c) (of_keys_found _ _ _ _ SpellCondition names_agree (λ vs x h. h) ws c)
    (λ e3. first_found _ _ c (SpellCondition ws c) (of_keys_found _ _ _ _ SpellCondition names_agree (λ vs x h. h) ws c)
    (of_keys_found _ _ _ _ SpellCondition names_agree (λ vs x h. h) ws c) e3) e2) e1) e

filter_found : (ws : List (List ℕ)) (c : Condition) → filter_in ws ≡ Some c → SpellCondition ws c
unfolding filter_in
filter_found ws c e =
    first_found _ _ c (SpellCondition ws c) (of_keys_found _ _ _ _ SpellCondition range_agrees (λ vs x h. h) ws c)
    (of_keys_found _ _ _ _ SpellCondition list_filter_agrees (λ vs x h. h) ws c) e

attribute_found : (ws : List (List ℕ)) (c : Condition) → attribute_in ws ≡ Some c → SpellCondition ws c
unfolding attribute_in
attribute_found ws c e =
    first_found _ _ c (SpellCondition ws c) (of_keys_found _ _ _ _ SpellCondition hops_agree (λ vs x h. h) ws c)
    (λ e1. first_found _ _ c (SpellCondition ws c) (of_keys_found _ _ _ _ SpellCondition number_alone (λ vs x h. h) ws c)
    (λ e2. first_found _ _ c (SpellCondition ws c) (of_keys_found _ _ _ _ SpellCondition number_alone (λ vs x h. h) ws c)
    (of_keys_found _ _ _ _ SpellCondition (one_agrees _ _ origin_agrees) (λ vs x h. h) ws c) e2) e1) e

condition_found : (ws : List (List ℕ)) (c : Condition) → condition_in ws ≡ Some c → SpellCondition ws c
unfolding condition_in
condition_found ws c e =
    first_found (named_in ws) _ c (SpellCondition ws c) (named_found ws c)
    (λ e1. first_found (filter_in ws) (attribute_in ws) c (SpellCondition ws c) (filter_found ws c) (attribute_found ws c) e1) e

-- ---- what is spelled is found

condition_only : (ws : List (List ℕ)) (c : Condition) → SpellCondition ws c → condition_in ws ≡ Some c
unfolding condition_in named_in filter_in attribute_in of_keys after
condition_only ws (Protocol names) (rest, e, h) = rw e (rw (names_agree.only rest names h) refl)
condition_only ws (Community names) (rest, e, h) = rw e (rw (names_agree.only rest names h) refl)
condition_only ws (AsPath names) (rest, e, h) = rw e (rw (names_agree.only rest names h) refl)
condition_only ws (Policy names) (rest, e, h) = rw e (rw (names_agree.only rest names h) refl)
condition_only ws (PrefixList names) (rest, e, h) = rw e (rw (names_agree.only rest names h) refl)
condition_only ws (RouteFilter r) (rest, e, h) = rw e (rw (range_only rest r h) refl)
condition_only ws (ListFilter l) (rest, e, h) = rw e (rw (list_filter_agrees.only rest (l.list, l.or_longer) h) refl)
condition_only ws (NextHop hops) (rest, e, h) = rw e (rw (hops_agree.only rest hops h) refl)
condition_only ws (Metric n) (rest, e, h) = rw e (rw (number_alone.only rest n h) refl)
condition_only ws (LocalPreference n) (rest, e, h) = rw e (rw (number_alone.only rest n h) refl)
condition_only ws (Origin o) (rest, e, h) = rw e (rw ((one_agrees _ _ origin_agrees).only rest o h) refl)

pub condition_agrees : Agrees condition_in SpellCondition
condition_agrees = record { found = condition_found; only = condition_only }
