-- The statements that change the route agree with what they spell.
use Rattle.std.proofs.Common.{◌≡◌, refl, sym, ap, ◌∙◌, subst, ℕ, ◌-◌, ◌^◌, ◌<◌, Bool, true, false, List, [], ◌∷◌, ◌++◌, Option, Some, None, inl, inr, ◌⊎◌, lit<}
use Rattle.std.specs.Prelude.{codes, bytes_eq, option_map}
use Rattle.std.proofs.lemmas.Bool.{leb-true, le-leb}
use Rattle.route_types.specs.Community.{RectParts}
use Rattle.route_types.specs.RouteText.{SpellsOrigin}
use Rattle.route_types.specs.RouteLines.{origin_in}
use Rattle.route_types.specs.Words.{when, address_in, parts_at}
use Rattle.route_types.specs.declared.address.Address.{Address}
use Rattle.route_types.specs.declared.route.NextHop.{NextHop}
use Rattle.route_types.specs.declared.route.NextHop.TheVariants.{At, Own}
use Rattle.route_types.proofs.Numbers.{bind_found, some_is, when_true}
use Rattle.policy_text.specs.Names.{first_some}
use Rattle.policy_text.specs.Phrases.{Agrees}
use Rattle.policy_text.proofs.Phrases.{when_found, same_bytes, first_found, map_found}
use Rattle.policy_text.proofs.Values.{address_agrees}
use Rattle.rpl_words.specs.Tokens.{Token, plain, is_key, IsPlain, One, Behind, First, plain_in, only, after, behind}
use Rattle.rpl_words.specs.Values.{IsNumberWord, rpl_number_in}
use Rattle.rpl_words.specs.Elements.{SpellRect, SpellSet, rect_element_in, set_in}
use Rattle.rpl_forms.specs.Statements.{SpellNumber, IsNextHop, IsCount, SpellPrepend, SpellSetting, SpellAction, number_in_policy, next_hop_in, is_some, count_in, count_or_once, prepend_in, before_last, added_in, setting_in, set_number_in, set_value_in, set_action_in, action_in}
use Rattle.rpl_forms.specs.declared.item.Action.{Action}
use Rattle.rpl_forms.specs.declared.item.Action.TheVariants.{SetMed, SetLocalPreference, SetWeight, SetOrigin, SetNextHop, SetCommunity, DeleteCommunity, Prepend as PrependPath}
use Rattle.rpl_words.specs.declared.number.RplNumber.{RplNumber}
use Rattle.rpl_words.specs.declared.number.RplNumber.TheVariants.{Fixed, Parameter as GivenNumber}
use Rattle.rpl_words.specs.declared.number.RplSet.{RplSet}
use Rattle.rpl_words.specs.declared.number.RplSet.TheVariants.{Named, Parameter as GivenSet, Listed as Written}
use Rattle.rpl_words.proofs.Agree.Tokens.{key_found, key_is, plain_agrees, one_agrees, behind_agrees, first_agrees, after_found}
use Rattle.rpl_words.proofs.Agree.Values.{rpl_number_agrees}
use Rattle.rpl_words.proofs.Agree.Tests.{key_behind, communities, one_origin}

-- ---- numbers, next hops, counts

policy_number : (most : ℕ) → most < 2 ^ 64 → Agrees (number_in_policy most) (SpellNumber most)
unfolding number_in_policy
policy_number most small = plain_agrees (rpl_number_in true most) (IsNumberWord true most) (rpl_number_agrees true most small)

one_number : (most : ℕ) → most < 2 ^ 64 → Agrees (only (number_in_policy most)) (One (SpellNumber most))
one_number most small = one_agrees (number_in_policy most) (SpellNumber most) (policy_number most small)

next_hop_found : (w : List ℕ) (h : NextHop) → next_hop_in w ≡ Some h → IsNextHop w h
unfolding next_hop_in
next_hop_found w h e =
    first_found (option_map (λ a. At a) (address_in w)) (when (bytes_eq w (codes "self")) Own) h (IsNextHop w h)
    (λ k. let a = map_found (address_in w) (λ x. At x) h k in subst (IsNextHop w) a.2 (address_agrees.found w a.0 a.1))
    (λ k. let o = when_found (bytes_eq w (codes "self")) Own h k in subst (IsNextHop w) o.1 (same_bytes w (codes "self") o.0))
    e

next_hop_only : (w : List ℕ) (h : NextHop) → IsNextHop w h → next_hop_in w ≡ Some h
unfolding next_hop_in address_in parts_at
next_hop_only w (At a) h = ap (λ (o : Option Address). first_some (option_map (λ x. At x) o) (when (bytes_eq w (codes "self")) Own)) (address_agrees.only w a h)
next_hop_only w Own e = rw e refl

one_next_hop : Agrees (only (plain_in next_hop_in)) (One (IsPlain IsNextHop))
one_next_hop = one_agrees (plain_in next_hop_in) (IsPlain IsNextHop) (plain_agrees next_hop_in IsNextHop (record { found = next_hop_found; only = next_hop_only }))

count_by : (t : Token) (n : RplNumber ℕ) → SpellNumber 63 t n → is_some n ≡ true → IsCount t n
count_by t (Fixed n) h e = (h, leb-true 1 n e)
count_by t (GivenNumber x) h e = h

count_only : (t : Token) (n : RplNumber ℕ) → IsCount t n → count_in t ≡ Some n
unfolding count_in
count_only t (Fixed n) h = rw ((policy_number 63 (lit< tt)).only t (Fixed n) h.0) (when_true (is_some (Fixed n)) (Fixed n) (le-leb 1 n h.1))
count_only t (GivenNumber x) h = rw ((policy_number 63 (lit< tt)).only t (GivenNumber x) h) refl

count_agrees : Agrees count_in IsCount
unfolding count_in
count_agrees = record {
  found = λ t n e.
      let m = bind_found (number_in_policy 63 t) (λ k. when (is_some k) k) n e in
      let k = when_found (is_some m.0) m.0 n m.2 in
      subst (IsCount t) k.1 (count_by t m.0 ((policy_number 63 (lit< tt)).found t m.0 m.1) k.0);
  only = count_only;
}

-- ---- prepends

-- how often, where that is written
abbrev Counted : List Token → RplNumber ℕ → Type 0
Counted ts count = ((ts ≡ []) × (count ≡ Fixed 1)) ⊎ One IsCount ts count

counted_found : (ts : List Token) (n : RplNumber ℕ) → count_or_once ts ≡ Some n → Counted ts n
counted_found [] n e = inl (refl, sym (some_is (Fixed 1) n e))
counted_found (t ∷ ts) n e = inr ((one_agrees count_in IsCount count_agrees).found (t ∷ ts) n e)

one_counted : (ts : List Token) (n : RplNumber ℕ) → One IsCount ts n → count_or_once ts ≡ Some n
one_counted [] n (t, e, h) = cc
one_counted (u ∷ us) n h = (one_agrees count_in IsCount count_agrees).only (u ∷ us) n h

counted_only : (ts : List Token) (n : RplNumber ℕ) → Counted ts n → count_or_once ts ≡ Some n
counted_only ts n (inl (e, is)) = rw (e, is) refl
counted_only ts n (inr h) = one_counted ts n h

prepended : Agrees prepend_in (First (SpellNumber (2 ^ 32 - 1)) Counted)
unfolding prepend_in
prepended = first_agrees (number_in_policy (2 ^ 32 - 1)) count_or_once (SpellNumber (2 ^ 32 - 1)) Counted (policy_number (2 ^ 32 - 1) (lit< tt)) (record { found = counted_found; only = counted_only })

prepend_by : (ts : List Token) (n k : RplNumber ℕ) → First (SpellNumber (2 ^ 32 - 1)) Counted ts (n, k) → SpellPrepend ts (n, k)
prepend_by ts n k (t, rest, e, h, inl (none, is)) = inl ((t, e ∙ ap (λ (us : List Token). t ∷ us) none, h), is)
prepend_by ts n k (t, rest, e, h, inr one) = inr (t, rest, e, h, one)

by_prepend : (ts : List Token) (n k : RplNumber ℕ) → SpellPrepend ts (n, k) → First (SpellNumber (2 ^ 32 - 1)) Counted ts (n, k)
by_prepend ts n k (inl ((t, e, h), is)) = (t, [], e, h, inl (refl, is))
by_prepend ts n k (inr (t, rest, e, h, one)) = (t, rest, e, h, inr one)

prepend_agrees : Agrees prepend_in SpellPrepend
prepend_agrees = record { found = λ ts x e. prepend_by ts x.0 x.1 (prepended.found ts x e); only = λ ts x h. prepended.only ts x (by_prepend ts x.0 x.1 h) }

-- ---- a set, and `additive` behind it

last_found : (key : List ℕ) (ts front : List Token) → before_last key ts ≡ Some front → ts ≡ front ++ plain key ∷ []
unfolding before_last
last_found key [] front e = absurd cc
last_found key (t ∷ []) front e =
    let k = when_found (is_key key t) [] front e in
    ap (λ (u : Token). u ∷ []) (key_found key t k.0) ∙ ap (λ (us : List Token). us ++ plain key ∷ []) k.1
last_found key (t ∷ u ∷ ts) front e =
    let k = map_found (before_last key (u ∷ ts)) (λ us. t ∷ us) front e in
    ap (λ (us : List Token). t ∷ us) (last_found key (u ∷ ts) k.0 k.1) ∙ ap (λ (us : List Token). us ++ plain key ∷ []) k.2

last_behind : (key : List ℕ) (t : Token) (front : List Token) → before_last key (t ∷ (front ++ plain key ∷ [])) ≡ option_map (λ us. t ∷ us) (before_last key (front ++ plain key ∷ []))
unfolding before_last
last_behind key t [] = refl
last_behind key t (u ∷ front) = refl

last_spelled : (key : List ℕ) (front : List Token) → before_last key (front ++ plain key ∷ []) ≡ Some front
unfolding before_last
last_spelled key [] = rw (key_is key) refl
last_spelled key (t ∷ front) = last_behind key t front ∙ rw (last_spelled key front) refl

added_found : (ts : List Token) (s : RplSet RectParts) → added_in ts ≡ Some s → (front : List Token) × (ts ≡ front ++ (plain (codes "additive") ∷ [])) × SpellSet SpellRect front s
unfolding added_in
added_found ts s e = let front = bind_found (before_last (codes "additive") ts) (set_in rect_element_in) s e in (front.0, last_found (codes "additive") ts front.0 front.1, communities.found front.0 s front.2)

-- the last word, or the other one where there is none
abbrev last_or : Token → List Token → Token
last_or d [] = d
last_or d (t ∷ ts) = last_or t ts

last_is : (d t : Token) (front : List Token) → last_or d (front ++ t ∷ []) ≡ t
last_is d t [] = refl
last_is d t (u ∷ us) = last_is u t us

-- a set of one word and `additive` are no set of one word
two_words : (front : List Token) (t u : Token) → front ++ (plain (codes "additive") ∷ []) ≡ t ∷ [] → front ≡ u ∷ [] → ⊥
two_words front t u e f = let k : u ∷ plain (codes "additive") ∷ [] ≡ t ∷ [] = ap (λ (us : List Token). us ++ (plain (codes "additive") ∷ [])) (sym f) ∙ e in cc

-- words that end in `additive` don't end in `)`
other_end : (front inner : List Token) → front ++ (plain (codes "additive") ∷ []) ≡ plain (codes "(") ∷ (inner ++ (plain (codes ")") ∷ [])) → ⊥
other_end front inner e =
    let d = plain (codes "(") in
    let k : plain (codes "additive") ≡ plain (codes ")") =
    sym (last_is d (plain (codes "additive")) front) ∙ ap (λ (us : List Token). last_or d us) e ∙ last_is d (plain (codes ")")) inner in
    let same : bytes_eq (codes "additive") (codes "additive") ≡ bytes_eq (codes ")") (codes "additive") = ap (λ (u : Token). bytes_eq u.text (codes "additive")) k in
    cc

-- words that spell a set are some
no_set : (s : RplSet RectParts) → SpellSet SpellRect [] s → ⊥
no_set (Named n) (t, e, h) = cc
no_set (GivenSet x) (t, e, h) = cc
no_set (Written es) (rest, e, h) = cc

one_and_more : (front : List Token) (s : RplSet RectParts) (t : Token) → SpellSet SpellRect front s → front ++ (plain (codes "additive") ∷ []) ≡ t ∷ [] → ⊥
one_and_more [] s t h e = no_set s h
one_and_more (u ∷ []) s t h e = cc
one_and_more (u ∷ v ∷ us) s t h e = cc

not_both : (front : List Token) (s other : RplSet RectParts) → SpellSet SpellRect front s → SpellSet SpellRect (front ++ (plain (codes "additive") ∷ [])) other → ⊥
not_both front s (Named n) h (t, e, k) = one_and_more front s t h e
not_both front s (GivenSet x) h (t, e, k) = one_and_more front s t h e
not_both front s (Written es) h (rest, e, (inner, f, none, k)) = other_end front inner (e ∙ ap (λ (us : List Token). plain (codes "(") ∷ us) f)

none_or : (o : Option (RplSet RectParts)) → ((s : RplSet RectParts) → o ≡ Some s → ⊥) → o ≡ None
none_or None h = refl
none_or (Some s) h = absurd (h s refl)

setting_found : (ts : List Token) (x : RplSet RectParts × Bool) → setting_in ts ≡ Some x → SpellSetting ts x
unfolding setting_in
setting_found ts x e =
    let plainly : RplSet RectParts → RplSet RectParts × Bool = λ s. (s, false) in
    let added : RplSet RectParts → RplSet RectParts × Bool = λ s. (s, true) in
    let Setting : RplSet RectParts × Bool → Type 0 = λ y. SpellSetting ts y in
    first_found (option_map plainly (set_in rect_element_in ts)) (option_map added (added_in ts)) x (Setting x)
    (λ h. let s = map_found (set_in rect_element_in ts) plainly x h in subst Setting s.2 (communities.found ts s.0 s.1))
    (λ h. let s = map_found (added_in ts) added x h in subst Setting s.2 (added_found ts s.0 s.1))
    e

setting_only : (ts : List Token) (s : RplSet RectParts) (additive : Bool) → SpellSetting ts (s, additive) → setting_in ts ≡ Some (s, additive)
unfolding setting_in added_in
setting_only ts s false h = rw (communities.only ts s h) refl
setting_only ts s true (front, e, h) =
    let none = none_or (set_in rect_element_in (front ++ (plain (codes "additive") ∷ []))) (λ other k. not_both front s other h (communities.found (front ++ (plain (codes "additive") ∷ [])) other k)) in
    ap (λ (us : List Token). setting_in us) e ∙ rw (none, last_spelled (codes "additive") front, communities.only front s h) refl

setting_agrees : Agrees setting_in SpellSetting
setting_agrees = record { found = setting_found; only = λ ts x h. setting_only ts x.0 x.1 h }

-- ---- what is found is spelled

set_number_found : (ts rest : List Token) (a : Action) → ts ≡ plain (codes "set") ∷ rest → set_number_in rest ≡ Some a → SpellAction ts a
unfolding set_number_in
set_number_found ts rest a text e =
    let wide : List ℕ → Option (RplNumber ℕ) = λ key. behind (key ∷ []) (only (number_in_policy (2 ^ 32 - 1))) rest in
    let narrow = behind (codes "weight" ∷ []) (only (number_in_policy 65535)) rest in
    let number : (key : List ℕ) (most n : ℕ) → most < 2 ^ 64 → (x : RplNumber ℕ) → behind (key ∷ []) (only (number_in_policy most)) rest ≡ Some x → Behind (codes "set" ∷ key ∷ []) (One (SpellNumber most)) ts x =
    λ key most n small x k. key_behind (codes "set") key (One (SpellNumber most)) ts rest x text ((behind_agrees (key ∷ []) (only (number_in_policy most)) (One (SpellNumber most)) (one_number most small)).found rest x k) in
    first_found (option_map (λ n. SetMed n) (wide (codes "med"))) (first_some (option_map (λ n. SetLocalPreference n) (wide (codes "local-preference"))) (option_map (λ n. SetWeight n) narrow)) a (SpellAction ts a)
    (λ h. let n = map_found (wide (codes "med")) (λ x. SetMed x) a h in subst (SpellAction ts) n.2 (number (codes "med") (2 ^ 32 - 1) 0 (lit< tt) n.0 n.1))
    (λ h. first_found (option_map (λ n. SetLocalPreference n) (wide (codes "local-preference"))) (option_map (λ n. SetWeight n) narrow) a (SpellAction ts a)
    (λ k. let n = map_found (wide (codes "local-preference")) (λ x. SetLocalPreference x) a k in subst (SpellAction ts) n.2 (number (codes "local-preference") (2 ^ 32 - 1) 0 (lit< tt) n.0 n.1))
    (λ k. let n = map_found narrow (λ x. SetWeight x) a k in subst (SpellAction ts) n.2 (number (codes "weight") 65535 0 (lit< tt) n.0 n.1))
    h)
    e

-- the communities that a statement sets
abbrev of_setting : RplSet RectParts × Bool → Action
of_setting s = SetCommunity (record { set = s.0; additive = s.1 })

set_value_found : (ts rest : List Token) (a : Action) → ts ≡ plain (codes "set") ∷ rest → set_value_in rest ≡ Some a → SpellAction ts a
unfolding set_value_in
set_value_found ts rest a text e =
    let origin = behind (codes "origin" ∷ []) (only (plain_in origin_in)) rest in
    let hop = behind (codes "next-hop" ∷ []) (only (plain_in next_hop_in)) rest in
    let community = behind (codes "community" ∷ []) setting_in rest in
    first_found (option_map (λ o. SetOrigin o) origin) (first_some (option_map (λ h. SetNextHop h) hop) (option_map of_setting community)) a (SpellAction ts a)
    (λ h.
    let o = map_found origin (λ x. SetOrigin x) a h in
    subst (SpellAction ts) o.2 (key_behind (codes "set") (codes "origin") (One (IsPlain SpellsOrigin)) ts rest o.0 text ((behind_agrees (codes "origin" ∷ []) (only (plain_in origin_in)) (One (IsPlain SpellsOrigin)) one_origin).found rest o.0 o.1)))
    (λ h. first_found (option_map (λ n. SetNextHop n) hop) (option_map of_setting community) a (SpellAction ts a)
    (λ k.
    let n = map_found hop (λ x. SetNextHop x) a k in
    subst (SpellAction ts) n.2 (key_behind (codes "set") (codes "next-hop") (One (IsPlain IsNextHop)) ts rest n.0 text ((behind_agrees (codes "next-hop" ∷ []) (only (plain_in next_hop_in)) (One (IsPlain IsNextHop)) one_next_hop).found rest n.0 n.1)))
    (λ k.
    let s = map_found community of_setting a k in
    subst (SpellAction ts) s.2 (key_behind (codes "set") (codes "community") SpellSetting ts rest s.0 text ((behind_agrees (codes "community" ∷ []) setting_in SpellSetting setting_agrees).found rest s.0 s.1)))
    h)
    e

set_action_found : (ts rest : List Token) (a : Action) → ts ≡ plain (codes "set") ∷ rest → set_action_in rest ≡ Some a → SpellAction ts a
unfolding set_action_in
set_action_found ts rest a text e = first_found (set_number_in rest) (set_value_in rest) a (SpellAction ts a) (λ h. set_number_found ts rest a text h) (λ h. set_value_found ts rest a text h) e

-- the number that a statement prepends, and how often
abbrev of_prepend : RplNumber ℕ × RplNumber ℕ → Action
of_prepend p = PrependPath (record { number = p.0; count = p.1 })

action_found : (ts : List Token) (a : Action) → action_in ts ≡ Some a → SpellAction ts a
unfolding action_in
action_found ts a e =
    let sets = behind (codes "set" ∷ []) set_action_in ts in
    let deletes = behind (codes "delete" ∷ codes "community" ∷ codes "in" ∷ []) (set_in rect_element_in) ts in
    let prepends = behind (codes "prepend" ∷ codes "as-path" ∷ []) prepend_in ts in
    first_found sets (first_some (option_map (λ s. DeleteCommunity s) deletes) (option_map of_prepend prepends)) a (SpellAction ts a)
    (λ h. let rest = bind_found (after (codes "set" ∷ []) ts) set_action_in a h in set_action_found ts rest.0 a (after_found (codes "set" ∷ []) ts rest.0 rest.1) rest.2)
    (λ h. first_found (option_map (λ s. DeleteCommunity s) deletes) (option_map of_prepend prepends) a (SpellAction ts a)
    (λ k. let s = map_found deletes (λ x. DeleteCommunity x) a k in subst (SpellAction ts) s.2 ((behind_agrees (codes "delete" ∷ codes "community" ∷ codes "in" ∷ []) (set_in rect_element_in) (SpellSet SpellRect) communities).found ts s.0 s.1))
    (λ k. let p = map_found prepends of_prepend a k in subst (SpellAction ts) p.2 ((behind_agrees (codes "prepend" ∷ codes "as-path" ∷ []) prepend_in SpellPrepend prepend_agrees).found ts p.0 p.1))
    h)
    e

-- ---- what is spelled is found

action_only : (ts : List Token) (a : Action) → SpellAction ts a → action_in ts ≡ Some a
unfolding action_in set_action_in set_number_in set_value_in after
action_only ts (SetMed n) (rest, e, h) = ap (λ (us : List Token). action_in us) e ∙ rw ((one_number (2 ^ 32 - 1) (lit< tt)).only rest n h) refl
action_only ts (SetLocalPreference n) (rest, e, h) = ap (λ (us : List Token). action_in us) e ∙ rw ((one_number (2 ^ 32 - 1) (lit< tt)).only rest n h) refl
action_only ts (SetWeight n) (rest, e, h) = ap (λ (us : List Token). action_in us) e ∙ rw ((one_number 65535 (lit< tt)).only rest n h) refl
action_only ts (SetOrigin o) (rest, e, h) = ap (λ (us : List Token). action_in us) e ∙ rw (one_origin.only rest o h) refl
action_only ts (SetNextHop n) (rest, e, h) = ap (λ (us : List Token). action_in us) e ∙ rw (one_next_hop.only rest n h) refl
action_only ts (SetCommunity s) (rest, e, h) = ap (λ (us : List Token). action_in us) e ∙ rw (setting_agrees.only rest (s.set, s.additive) h) refl
action_only ts (DeleteCommunity s) (rest, e, h) = ap (λ (us : List Token). action_in us) e ∙ rw (communities.only rest s h) refl
action_only ts (PrependPath p) (rest, e, h) = ap (λ (us : List Token). action_in us) e ∙ rw (prepend_agrees.only rest (p.number, p.count) h) refl

pub action_agrees : Agrees action_in SpellAction
action_agrees = record { found = action_found; only = action_only }
