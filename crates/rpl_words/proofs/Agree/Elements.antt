-- The elements of sets, and sets, agree with what they spell.
use Rattle.std.proofs.Common.{◌≡◌, refl, sym, ap, ◌∙◌, subst, ℕ, ◌-◌, ◌^◌, ◌<◌, ◌≤◌, Bool, true, false, not, ◌&&◌, List, [], ◌∷◌, ◌++◌, Option, Some, None, arith, inl, inr, lit<}
use Rattle.std.specs.Prelude.{codes, bytes_eq, decimal, option_map, ◌==◌}
use Rattle.std.specs.List.{list_any}
use Rattle.std.proofs.lemmas.Bool.{or_from, or_parts}
use Rattle.std.proofs.lemmas.List.Folds.{list_any-append}
use Rattle.route_types.specs.Address.{prefix_of}
use Rattle.route_types.specs.Words.{◌>>=◌, when, address_in, prefix_in, parts_at, Octets, dotted, IsAddress, IsPrefix}
use Rattle.route_types.specs.declared.address.Address.{Address}
use Rattle.route_types.proofs.Numbers.{bind_found, some_is, when_true, decimal_no_such_byte}
use Rattle.route_types.proofs.Parts.{no_parts}
use Rattle.route_types.proofs.Spelled.{AreOctets}
use Rattle.text_words.specs.RplCut.{starts}
use Rattle.aspath_text.specs.IosGrammar.{SpellsPattern}
use Rattle.aspath_text.specs.IosRead.{ios_pattern_in}
use Rattle.aspath_text.proofs.IosReadSpelled.{ios_pattern_found, ios_pattern_only}
use Rattle.policy_text.specs.Names.{is_name, first_some}
use Rattle.policy_text.specs.Phrases.{Agrees, IsOneOf}
use Rattle.policy_text.proofs.Phrases.{when_found, first_found, map_found}
use Rattle.policy_text.proofs.Values.{address_agrees, prefix_agrees}
use Rattle.rpl_words.specs.Tokens.{Token, plain, IsPlain, IsQuoted, One, Behind, First, Listed, plain_in, quoted_in, only, after, behind, first_of, listed_in}
use Rattle.rpl_words.specs.Values.{comparisons, IsInnerName, IsParameter, IsNumberWord, IsRect, inner_name_in, parameter_in, rpl_number_in, comparison_in, rect_in}
use Rattle.rpl_words.specs.Elements.{with_bounds, rises, reaches, IsBound, SpellBounds, SpellPrefixElement, SpellRect, SpellCompared, SpellPathTest, SpellPathElement, SpellSet, bound_in, two_bounds_in, one_bound_in, rpl_bounds_in, bounded_in, prefix_element_in, rect_element_in, compared_in, quoted_number_in, standing_test_in, path_test_in, path_element_in, set_word_in, set_in}
use Rattle.rpl_words.specs.declared.number.RplNumber.{RplNumber}
use Rattle.rpl_words.specs.declared.number.RplNumber.TheVariants.{Fixed}
use Rattle.rpl_words.specs.declared.number.RplSet.{RplSet}
use Rattle.rpl_words.specs.declared.number.RplSet.TheVariants.{Named, Parameter as GivenSet, Listed as Written}
use Rattle.rpl_words.specs.declared.element.Comparison.{Comparison}
use Rattle.rpl_words.specs.declared.element.PrefixElement.{PrefixElement}
use Rattle.rpl_words.specs.declared.element.PathElement.{PathElement}
use Rattle.rpl_words.specs.declared.element.PathElement.TheVariants.{Pattern, Test}
use Rattle.rpl_words.specs.declared.element.PathTest.{PathTest}
use Rattle.rpl_words.specs.declared.element.PathTest.TheVariants.{Length, PassesThrough, OriginatesFrom, NeighborIs}
use Rattle.rpl_words.proofs.Agree.Tokens.{plain_agrees, quoted_agrees, one_agrees, behind_agrees, first_agrees, listed_agrees}
use Rattle.rpl_words.proofs.Agree.Values.{inner_name_agrees, parameter_agrees, rpl_number_agrees, comparison_agrees, rect_agrees}

-- ---- bounds

bound_agrees : (within : Bool) (length : ℕ) → Agrees (bound_in within length) (IsBound within length)
unfolding bound_in
bound_agrees within length =
    let number = plain_agrees (rpl_number_in within 32) (IsNumberWord within 32) (rpl_number_agrees within 32 (lit< tt)) in
    record {
      found = λ t b e.
          let n = bind_found (plain_in (rpl_number_in within 32) t) (λ m. when (reaches length m) m) b e in
          let k = when_found (reaches length n.0) n.0 b n.2 in
          subst (λ (x : RplNumber ℕ). IsBound within length t x) k.1 (number.found t n.0 n.1, k.0);
      only = λ t b h. rw (number.only t b h.0) (when_true (reaches length b) b h.1);
    }

-- one bound behind its keyword
key_bound : (within : Bool) (length : ℕ) (key : List ℕ) → Agrees (behind (key ∷ []) (only (bound_in within length))) (Behind (key ∷ []) (One (IsBound within length)))
key_bound within length key = behind_agrees (key ∷ []) (only (bound_in within length)) (One (IsBound within length)) (one_agrees (bound_in within length) (IsBound within length) (bound_agrees within length))

-- two bounds
both_bounds : (within : Bool) (length : ℕ) → Agrees (behind (codes "ge" ∷ []) (first_of (bound_in within length) (behind (codes "le" ∷ []) (only (bound_in within length))))) (Behind (codes "ge" ∷ []) (First (IsBound within length) (Behind (codes "le" ∷ []) (One (IsBound within length)))))
both_bounds within length =
    let last = behind (codes "le" ∷ []) (only (bound_in within length)) in
    let Last = Behind (codes "le" ∷ []) (One (IsBound within length)) in
    behind_agrees (codes "ge" ∷ []) (first_of (bound_in within length) last) (First (IsBound within length) Last) (first_agrees (bound_in within length) last (IsBound within length) Last (bound_agrees within length) (key_bound within length (codes "le")))

two_found : (within : Bool) (length : ℕ) (ts : List Token) (b : RplNumber ℕ × RplNumber ℕ) → two_bounds_in within length ts ≡ Some b → Behind (codes "ge" ∷ []) (First (IsBound within length) (Behind (codes "le" ∷ []) (One (IsBound within length)))) ts b × (rises b.0 b.1 ≡ true)
unfolding two_bounds_in
two_found within length ts b e =
    let n = bind_found (behind (codes "ge" ∷ []) (first_of (bound_in within length) (behind (codes "le" ∷ []) (only (bound_in within length)))) ts) (λ m. when (rises m.0 m.1) m) b e in
    let k = when_found (rises n.0.0 n.0.1) n.0 b n.2 in
    let Two : RplNumber ℕ × RplNumber ℕ → Type 0 = λ x. Behind (codes "ge" ∷ []) (First (IsBound within length) (Behind (codes "le" ∷ []) (One (IsBound within length)))) ts x × (rises x.0 x.1 ≡ true) in
    subst Two k.1 ((both_bounds within length).found ts n.0 n.1, k.0)

one_found : (within : Bool) (length : ℕ) (ts : List Token) (b : RplNumber ℕ × RplNumber ℕ) → one_bound_in within length ts ≡ Some b → SpellBounds within length ts b
unfolding one_bound_in
one_found within length ts b e =
    let bound : List ℕ → Option (RplNumber ℕ) = λ key. behind (key ∷ []) (only (bound_in within length)) ts in
    let Bounds : RplNumber ℕ × RplNumber ℕ → Type 0 = λ x. SpellBounds within length ts x in
    first_found (option_map (λ n. (n, Fixed 32)) (bound (codes "ge"))) (first_some (option_map (λ n. (Fixed length, n)) (bound (codes "le"))) (option_map (λ n. (n, n)) (bound (codes "eq")))) b (Bounds b)
    (λ h. let n = map_found (bound (codes "ge")) (λ m. (m, Fixed 32)) b h in subst Bounds n.2 (inr (inl ((key_bound within length (codes "ge")).found ts n.0 n.1, refl))))
    (λ h. first_found (option_map (λ n. (Fixed length, n)) (bound (codes "le"))) (option_map (λ n. (n, n)) (bound (codes "eq"))) b (Bounds b)
    (λ k. let n = map_found (bound (codes "le")) (λ m. (Fixed length, m)) b k in subst Bounds n.2 (inr (inr (inl (refl, (key_bound within length (codes "le")).found ts n.0 n.1)))))
    (λ k. let n = map_found (bound (codes "eq")) (λ m. (m, m)) b k in subst Bounds n.2 (inr (inr (inr (inl ((key_bound within length (codes "eq")).found ts n.0 n.1, refl))))))
    h)
    e

bounds_found : (within : Bool) (length : ℕ) (ts : List Token) (b : RplNumber ℕ × RplNumber ℕ) → rpl_bounds_in within length ts ≡ Some b → SpellBounds within length ts b
unfolding rpl_bounds_in
bounds_found within length [] b e =
    let Bounds : RplNumber ℕ × RplNumber ℕ → Type 0 = λ x. SpellBounds within length [] x in
    subst Bounds (some_is (Fixed length, Fixed length) b e) (inl (refl, refl, refl))
bounds_found within length (t ∷ ts) b e =
    first_found (one_bound_in within length (t ∷ ts)) (two_bounds_in within length (t ∷ ts)) b (SpellBounds within length (t ∷ ts) b)
    (λ h. one_found within length (t ∷ ts) b h) (λ h. inr (inr (inr (inr (two_found within length (t ∷ ts) b h))))) e

-- both bounds, as they are written
two_spelled : (within : Bool) (length : ℕ) (t u : Token) (least most : RplNumber ℕ) → IsBound within length t least → IsBound within length u most → rises least most ≡ true
    → rpl_bounds_in within length (plain (codes "ge") ∷ t ∷ plain (codes "le") ∷ u ∷ []) ≡ Some (least, most)
unfolding rpl_bounds_in one_bound_in two_bounds_in after
two_spelled within length t u least most p q up =
    let bound = bound_agrees within length in
    rw (bound.only t least p, bound.only u most q) (when_true (rises least most) (least, most) up)

bounds_only : (within : Bool) (length : ℕ) (ts : List Token) (least most : RplNumber ℕ) → SpellBounds within length ts (least, most) → rpl_bounds_in within length ts ≡ Some (least, most)
unfolding rpl_bounds_in one_bound_in after
bounds_only within length ts least most (inl (e, f, g)) = rw (e, f, g) refl
bounds_only within length ts least most (inr (inl ((rest, e, (t, k, p)), g))) =
    let text : ts ≡ plain (codes "ge") ∷ t ∷ [] = e ∙ ap (λ (us : List Token). plain (codes "ge") ∷ us) k in
    ap (λ (us : List Token). rpl_bounds_in within length us) text ∙ rw (g, (bound_agrees within length).only t least p) refl
bounds_only within length ts least most (inr (inr (inl (g, (rest, e, (t, k, p)))))) =
    let text : ts ≡ plain (codes "le") ∷ t ∷ [] = e ∙ ap (λ (us : List Token). plain (codes "le") ∷ us) k in
    ap (λ (us : List Token). rpl_bounds_in within length us) text ∙ rw (g, (bound_agrees within length).only t most p) refl
bounds_only within length ts least most (inr (inr (inr (inl ((rest, e, (t, k, p)), g))))) =
    let text : ts ≡ plain (codes "eq") ∷ t ∷ [] = e ∙ ap (λ (us : List Token). plain (codes "eq") ∷ us) k in
    ap (λ (us : List Token). rpl_bounds_in within length us) text ∙ rw (g, (bound_agrees within length).only t most p) refl
bounds_only within length ts least most (inr (inr (inr (inr ((rest, e, (t, more, k, p, (last, l, (u, m, q)))), up))))) =
    let text : ts ≡ plain (codes "ge") ∷ t ∷ plain (codes "le") ∷ u ∷ [] =
    e ∙ ap (λ (us : List Token). plain (codes "ge") ∷ us) (k ∙ ap (λ (us : List Token). t ∷ us) (l ∙ ap (λ (us : List Token). plain (codes "le") ∷ us) m)) in
    ap (λ (us : List Token). rpl_bounds_in within length us) text ∙ two_spelled within length t u least most p q up

-- ---- elements of prefix sets

bounded_found : (within : Bool) (ts : List Token) (e : PrefixElement) → bounded_in within ts ≡ Some e → First (IsPlain IsPrefix) (SpellBounds within e.prefix.length) ts (e.prefix, (e.least, e.most))
unfolding bounded_in
bounded_found within [] e h = absurd cc
bounded_found within (t ∷ ts) e h =
    let p = bind_found (plain_in prefix_in t) (λ q. rpl_bounds_in within q.length ts >>= λ b. Some (with_bounds q b)) e h in
    let b = bind_found (rpl_bounds_in within p.0.length ts) (λ x. Some (with_bounds p.0 x)) e p.2 in
    let Bounded : PrefixElement → Type 0 = λ x. First (IsPlain IsPrefix) (SpellBounds within x.prefix.length) (t ∷ ts) (x.prefix, (x.least, x.most)) in
    subst Bounded (some_is (with_bounds p.0 b.0) e b.2) (t, ts, refl, (plain_agrees prefix_in IsPrefix prefix_agrees).found t p.0 p.1, bounds_found within p.0.length ts b.0 b.1)

bounded_only : (within : Bool) (ts : List Token) (e : PrefixElement) → First (IsPlain IsPrefix) (SpellBounds within e.prefix.length) ts (e.prefix, (e.least, e.most)) → bounded_in within ts ≡ Some e
unfolding bounded_in
bounded_only within ts e (t, rest, k, p, b) =
    ap (λ (us : List Token). bounded_in within us) k ∙ rw ((plain_agrees prefix_in IsPrefix prefix_agrees).only t e.prefix p, bounds_only within e.prefix.length rest e.least e.most b) refl

-- an address has no slash, and so is no prefix
no_slash : (o : Octets) → AreOctets o → list_any (λ c. c == 47) (dotted o) ≡ false
no_slash o h =
    let none : (n : ℕ) → n ≤ 255 → list_any (λ c. c == 47) (decimal n) ≡ false = λ n le. decimal_no_such_byte 47 n refl (omega (arith, le)) in
    let last : list_any (λ c. c == 47) (46 ∷ decimal o.third ++ (46 ∷ decimal o.fourth)) ≡ false =
    list_any-append (λ c. c == 47) (decimal o.third) (46 ∷ decimal o.fourth) ∙ or_from (list_any (λ c. c == 47) (decimal o.third)) (list_any (λ c. c == 47) (46 ∷ decimal o.fourth)) (none o.third h.third) (none o.fourth h.fourth) in
    let more : list_any (λ c. c == 47) (46 ∷ decimal o.second ++ (46 ∷ decimal o.third ++ (46 ∷ decimal o.fourth))) ≡ false =
    list_any-append (λ c. c == 47) (decimal o.second) (46 ∷ decimal o.third ++ (46 ∷ decimal o.fourth)) ∙ or_from (list_any (λ c. c == 47) (decimal o.second)) (list_any (λ c. c == 47) (46 ∷ decimal o.third ++ (46 ∷ decimal o.fourth))) (none o.second h.second) last in
    list_any-append (λ c. c == 47) (decimal o.first) (46 ∷ decimal o.second ++ (46 ∷ decimal o.third ++ (46 ∷ decimal o.fourth)))
    ∙ or_from (list_any (λ c. c == 47) (decimal o.first)) (list_any (λ c. c == 47) (46 ∷ decimal o.second ++ (46 ∷ decimal o.third ++ (46 ∷ decimal o.fourth)))) (none o.first h.first) more

no_prefix : (w : List ℕ) (a : Address) → IsAddress w a → prefix_in w ≡ None
unfolding prefix_in
no_prefix w a h =
    let none = no_parts 47 (dotted h.octets) (no_slash h.octets (record { first = h.first; second = h.second; third = h.third; fourth = h.fourth })) in
    rw (h.spelled, none) refl

-- the element of an address
abbrev whole : Address → PrefixElement
whole a = with_bounds (prefix_of a 32) (Fixed 32, Fixed 32)

element_found : (within : Bool) (ts : List Token) (e : PrefixElement) → prefix_element_in within ts ≡ Some e → SpellPrefixElement within ts e
unfolding prefix_element_in
element_found within ts e h =
    first_found (bounded_in within ts) (option_map whole (only (plain_in address_in) ts)) e (SpellPrefixElement within ts e)
    (λ k. inl (bounded_found within ts e k))
    (λ k. let a = map_found (only (plain_in address_in) ts) whole e k in inr (a.0, (one_agrees (plain_in address_in) (IsPlain IsAddress) (plain_agrees address_in IsAddress address_agrees)).found ts a.0 a.1, sym a.2))
    h

element_only : (within : Bool) (ts : List Token) (e : PrefixElement) → SpellPrefixElement within ts e → prefix_element_in within ts ≡ Some e
unfolding prefix_element_in bounded_in
element_only within ts e (inl h) = ap (λ (o : Option PrefixElement). first_some o (option_map whole (only (plain_in address_in) ts))) (bounded_only within ts e h)
element_only within ts e (inr (a, (t, k, (w, l, h)), is)) =
    let text : ts ≡ plain w ∷ [] = k ∙ ap (λ (u : Token). u ∷ []) l in
    ap (λ (us : List Token). prefix_element_in within us) text ∙ rw (no_prefix w a h, address_agrees.only w a h) (ap (λ (x : PrefixElement). Some x) (sym is))

pub prefix_element_agrees : (within : Bool) → Agrees (prefix_element_in within) (SpellPrefixElement within)
prefix_element_agrees within = record { found = element_found within; only = element_only within }

-- ---- elements of community sets

pub rect_element_agrees : Agrees rect_element_in SpellRect
unfolding rect_element_in
rect_element_agrees = one_agrees (plain_in rect_in) (IsPlain IsRect) (plain_agrees rect_in IsRect rect_agrees)

-- ---- tests of paths

pub compared_agrees : (within : Bool) (most : ℕ) → most < 2 ^ 64 → Agrees (compared_in within most) (SpellCompared within most)
unfolding compared_in
compared_agrees within most small =
    first_agrees (plain_in comparison_in) (only (plain_in (rpl_number_in within most))) (IsPlain (IsOneOf comparisons)) (One (IsPlain (IsNumberWord within most))) (plain_agrees comparison_in (IsOneOf comparisons) comparison_agrees)
    (one_agrees (plain_in (rpl_number_in within most)) (IsPlain (IsNumberWord within most)) (plain_agrees (rpl_number_in within most) (IsNumberWord within most) (rpl_number_agrees within most small)))

-- one number in quotes
one_quoted : (within : Bool) → Agrees (only (quoted_in (rpl_number_in within (2 ^ 32 - 1)))) (One (IsQuoted (IsNumberWord within (2 ^ 32 - 1))))
one_quoted within = one_agrees (quoted_in (rpl_number_in within (2 ^ 32 - 1))) (IsQuoted (IsNumberWord within (2 ^ 32 - 1))) (quoted_agrees (rpl_number_in within (2 ^ 32 - 1)) (IsNumberWord within (2 ^ 32 - 1)) (rpl_number_agrees within (2 ^ 32 - 1) (lit< tt)))

quoted_number_agrees : (within : Bool) (key : List ℕ) → Agrees (quoted_number_in within key) (Behind (key ∷ []) (One (IsQuoted (IsNumberWord within (2 ^ 32 - 1)))))
unfolding quoted_number_in
quoted_number_agrees within key = behind_agrees (key ∷ []) (only (quoted_in (rpl_number_in within (2 ^ 32 - 1)))) (One (IsQuoted (IsNumberWord within (2 ^ 32 - 1)))) (one_quoted within)

standing_found : (within : Bool) (ts : List Token) (t : PathTest) → standing_test_in within ts ≡ Some t → SpellPathTest within ts t
unfolding standing_test_in
standing_found within ts t e =
    let number : List ℕ → Option (RplNumber ℕ) = λ key. quoted_number_in within key ts in
    first_found (option_map (λ n. PassesThrough n) (number (codes "passes-through"))) (first_some (option_map (λ n. OriginatesFrom n) (number (codes "originates-from"))) (option_map (λ n. NeighborIs n) (number (codes "neighbor-is")))) t (SpellPathTest within ts t)
    (λ h. let n = map_found (number (codes "passes-through")) (λ m. PassesThrough m) t h in subst (SpellPathTest within ts) n.2 ((quoted_number_agrees within (codes "passes-through")).found ts n.0 n.1))
    (λ h. first_found (option_map (λ n. OriginatesFrom n) (number (codes "originates-from"))) (option_map (λ n. NeighborIs n) (number (codes "neighbor-is"))) t (SpellPathTest within ts t)
    (λ k. let n = map_found (number (codes "originates-from")) (λ m. OriginatesFrom m) t k in subst (SpellPathTest within ts) n.2 ((quoted_number_agrees within (codes "originates-from")).found ts n.0 n.1))
    (λ k. let n = map_found (number (codes "neighbor-is")) (λ m. NeighborIs m) t k in subst (SpellPathTest within ts) n.2 ((quoted_number_agrees within (codes "neighbor-is")).found ts n.0 n.1))
    h)
    e

-- a length and how it compares, behind the keyword
length_agrees : (within : Bool) → Agrees (behind (codes "length" ∷ []) (compared_in within 2047)) (Behind (codes "length" ∷ []) (SpellCompared within 2047))
length_agrees within = behind_agrees (codes "length" ∷ []) (compared_in within 2047) (SpellCompared within 2047) (compared_agrees within 2047 (lit< tt))

-- the test of a length
abbrev of_length : Comparison × RplNumber ℕ → PathTest
of_length c = Length (record { comparison = c.0; length = c.1 })

path_test_found : (within : Bool) (ts : List Token) (t : PathTest) → path_test_in within ts ≡ Some t → SpellPathTest within ts t
unfolding path_test_in
path_test_found within ts t e =
    first_found (option_map of_length (behind (codes "length" ∷ []) (compared_in within 2047) ts)) (standing_test_in within ts) t (SpellPathTest within ts t)
    (λ h. let c = map_found (behind (codes "length" ∷ []) (compared_in within 2047) ts) of_length t h in subst (SpellPathTest within ts) c.2 ((length_agrees within).found ts c.0 c.1))
    (λ h. standing_found within ts t h) e

path_test_only : (within : Bool) (ts : List Token) (t : PathTest) → SpellPathTest within ts t → path_test_in within ts ≡ Some t
unfolding path_test_in standing_test_in quoted_number_in after
path_test_only within ts (Length t) (rest, e, c) = ap (λ (us : List Token). path_test_in within us) e ∙ rw ((compared_agrees within 2047 (lit< tt)).only rest (t.comparison, t.length) c) refl
path_test_only within ts (PassesThrough n) (rest, e, one) = ap (λ (us : List Token). path_test_in within us) e ∙ rw ((one_quoted within).only rest n one) refl
path_test_only within ts (OriginatesFrom n) (rest, e, one) = ap (λ (us : List Token). path_test_in within us) e ∙ rw ((one_quoted within).only rest n one) refl
path_test_only within ts (NeighborIs n) (rest, e, one) = ap (λ (us : List Token). path_test_in within us) e ∙ rw ((one_quoted within).only rest n one) refl

pub path_test_agrees : (within : Bool) → Agrees (path_test_in within) (SpellPathTest within)
path_test_agrees within = record { found = path_test_found within; only = path_test_only within }

-- ---- elements of path sets

-- a pattern in quotes
one_pattern : Agrees (only (quoted_in ios_pattern_in)) (One (IsQuoted SpellsPattern))
one_pattern = one_agrees (quoted_in ios_pattern_in) (IsQuoted SpellsPattern) (quoted_agrees ios_pattern_in SpellsPattern (record { found = ios_pattern_found; only = ios_pattern_only }))

pattern_behind : Agrees (behind (codes "ios-regex" ∷ []) (only (quoted_in ios_pattern_in))) (Behind (codes "ios-regex" ∷ []) (One (IsQuoted SpellsPattern)))
pattern_behind = behind_agrees (codes "ios-regex" ∷ []) (only (quoted_in ios_pattern_in)) (One (IsQuoted SpellsPattern)) one_pattern

path_element_found : (within : Bool) (ts : List Token) (x : PathElement) → path_element_in within ts ≡ Some x → SpellPathElement within ts x
unfolding path_element_in
path_element_found within ts x e =
    first_found (option_map (λ p. Pattern p) (behind (codes "ios-regex" ∷ []) (only (quoted_in ios_pattern_in)) ts)) (option_map (λ t. Test t) (path_test_in within ts)) x (SpellPathElement within ts x)
    (λ h. let p = map_found (behind (codes "ios-regex" ∷ []) (only (quoted_in ios_pattern_in)) ts) (λ q. Pattern q) x h in subst (SpellPathElement within ts) p.2 (pattern_behind.found ts p.0 p.1))
    (λ h. let t = map_found (path_test_in within ts) (λ u. Test u) x h in subst (SpellPathElement within ts) t.2 (path_test_found within ts t.0 t.1))
    e

-- a test begins with another keyword than a pattern
no_pattern : (within : Bool) (ts : List Token) (t : PathTest) → SpellPathTest within ts t → behind (codes "ios-regex" ∷ []) (only (quoted_in ios_pattern_in)) ts ≡ None
unfolding after
no_pattern within ts (Length t) (rest, e, h) = ap (λ (us : List Token). behind (codes "ios-regex" ∷ []) (only (quoted_in ios_pattern_in)) us) e
no_pattern within ts (PassesThrough n) (rest, e, h) = ap (λ (us : List Token). behind (codes "ios-regex" ∷ []) (only (quoted_in ios_pattern_in)) us) e
no_pattern within ts (OriginatesFrom n) (rest, e, h) = ap (λ (us : List Token). behind (codes "ios-regex" ∷ []) (only (quoted_in ios_pattern_in)) us) e
no_pattern within ts (NeighborIs n) (rest, e, h) = ap (λ (us : List Token). behind (codes "ios-regex" ∷ []) (only (quoted_in ios_pattern_in)) us) e

path_element_only : (within : Bool) (ts : List Token) (x : PathElement) → SpellPathElement within ts x → path_element_in within ts ≡ Some x
unfolding path_element_in
path_element_only within ts (Pattern p) h = rw (pattern_behind.only ts p h) refl
path_element_only within ts (Test t) h = rw (no_pattern within ts t h, path_test_only within ts t h) refl

pub path_element_agrees : (within : Bool) → Agrees (path_element_in within) (SpellPathElement within)
path_element_agrees within = record { found = path_element_found within; only = path_element_only within }

-- ---- sets

-- the one word of a set
abbrev IsSetWord : {E : Type 0} → List ℕ → RplSet E → Type 0
IsSetWord w (Named n) = IsInnerName w n
IsSetWord w (GivenSet x) = IsParameter w x
IsSetWord w (Written es) = ⊥

set_word_found : {E : Type 0} (w : List ℕ) (s : RplSet E) → set_word_in w ≡ Some s → IsSetWord w s
unfolding set_word_in
set_word_found {E} w s e =
    let by_name : List ℕ → RplSet E = λ n. Named n in
    let by_parameter : List ℕ → RplSet E = λ x. GivenSet x in
    first_found (option_map by_name (inner_name_in w)) (option_map by_parameter (parameter_in w)) s (IsSetWord w s)
    (λ h. let n = map_found (inner_name_in w) by_name s h in subst (IsSetWord w) n.2 (inner_name_agrees.found w n.0 n.1))
    (λ h. let x = map_found (parameter_in w) by_parameter s h in subst (IsSetWord w) x.2 (parameter_agrees.found w x.0 x.1))
    e

-- no test holds where a part of it doesn't
never : (a b : Bool) → ((a && false) && b) ≡ false
never true b = refl
never false b = refl

pub no_name : (w x : List ℕ) → w ≡ 36 ∷ x → inner_name_in w ≡ None
unfolding inner_name_in
no_name w x e =
    ap (λ (v : List ℕ). inner_name_in v) e
    ∙ ap (λ (b : Bool). when b (36 ∷ x)) (never (is_name (36 ∷ x)) (not (list_any (λ key. bytes_eq key (36 ∷ x)) (codes "then" ∷ codes "end-policy" ∷ starts))))

set_word_only : {E : Type 0} (w : List ℕ) (s : RplSet E) → IsSetWord w s → set_word_in w ≡ Some s
unfolding set_word_in
set_word_only w (Named n) h = rw (inner_name_agrees.only w n h) refl
set_word_only w (GivenSet x) h = rw (no_name w x h.spelled, parameter_agrees.only w x h) refl
set_word_only w (Written es) h = absurd h

one_set_word : {E : Type 0} → Agrees (only (plain_in (set_word_in {E = E}))) (One (IsPlain (IsSetWord {E = E})))
one_set_word {E} = one_agrees (plain_in (set_word_in {E = E})) (IsPlain (IsSetWord {E = E})) (plain_agrees (set_word_in {E = E}) (IsSetWord {E = E}) (record { found = set_word_found; only = set_word_only }))

word_set : {E : Type 0} (P : List Token → E → Type 0) (ts : List Token) (s : RplSet E) → One (IsPlain IsSetWord) ts s → SpellSet P ts s
word_set P ts (Named n) h = h
word_set P ts (GivenSet x) h = h
word_set P ts (Written es) (t, e, (w, k, none)) = absurd none

-- elements in parentheses are more than one word
several : {E : Type 0} (f : Token → Option E) (front : List Token) (t : Token) → only f (plain (codes "(") ∷ (front ++ t ∷ [])) ≡ None
several f [] t = refl
several f (u ∷ us) t = refl

no_word : {E : Type 0} (f : Token → Option (RplSet E)) (P : List Token → E → Type 0) (ts : List Token) (es : List E) → Listed P ts es → only f ts ≡ None
no_word f P ts es (rest, e, (front, k, none, h)) =
    ap (λ (us : List Token). only f us) (e ∙ ap (λ (us : List Token). plain (codes "(") ∷ us) k) ∙ several f front (plain (codes ")"))

set_found : {E : Type 0} (f : List Token → Option E) (P : List Token → E → Type 0) → Agrees f P → (ts : List Token) (s : RplSet E) → set_in f ts ≡ Some s → SpellSet P ts s
unfolding set_in
set_found {E} f P a ts s e =
    first_found (only (plain_in (set_word_in {E = E})) ts) (option_map (λ es. Written es) (listed_in f ts)) s (SpellSet P ts s)
    (λ h. word_set P ts s (one_set_word.found ts s h))
    (λ h. let es = map_found (listed_in f ts) (λ xs. Written xs) s h in subst (SpellSet P ts) es.2 ((listed_agrees f P a).found ts es.0 es.1))
    e

set_only : {E : Type 0} (f : List Token → Option E) (P : List Token → E → Type 0) → Agrees f P → (ts : List Token) (s : RplSet E) → SpellSet P ts s → set_in f ts ≡ Some s
unfolding set_in
set_only {E} f P a ts (Named n) h = rw ((one_set_word {E = E}).only ts (Named n) h) refl
set_only {E} f P a ts (GivenSet x) h = rw ((one_set_word {E = E}).only ts (GivenSet x) h) refl
set_only {E} f P a ts (Written es) h = rw (no_word (plain_in (set_word_in {E = E})) P ts es h, (listed_agrees f P a).only ts es h) refl

pub set_agrees : {E : Type 0} (f : List Token → Option E) (P : List Token → E → Type 0) → Agrees f P → Agrees (set_in f) (SpellSet P)
set_agrees f P a = record { found = set_found f P a; only = set_only f P a }
