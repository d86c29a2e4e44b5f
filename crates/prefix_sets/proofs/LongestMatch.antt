-- A list of filters, the longest first, each with its range permitted and the rest of its prefix denied, answers as the longest match does.
use Rattle.std.proofs.Common.{◌≡◌, refl, sym, ap, ◌∙◌, subst, ℕ, suc, ◌+◌, ◌-◌, ◌*◌, ◌/◌, ◌%◌, ◌^◌, ◌<◌, ◌≤◌, ◌⊎◌, inl, inr, Bool, true, false, ◌&&◌, ◌||◌, not, nat_le, List, [], ◌∷◌, ◌++◌, length, cond, arith}
use Rattle.std.specs.Prelude.{◌==◌, nat_lt, map}
use Rattle.std.specs.Cmp.{nat_eq_equiv}
use Rattle.std.specs.List.{All, AllByRecursion, Contains, IsDistinct, list_any, slice_index_or}
use Rattle.std.specs.List.Sorted.{IsNonDecreasingBy, IsPermutation, IsSortedByKey}
use Rattle.std.specs.Ordering.{is_lt, nat_cmp, ordering_then}
use Rattle.std.specs.declared.cmp.Ordering.{Ordering}
use Rattle.std.specs.declared.cmp.Ordering.TheVariants.{Less, Equal, Greater}
use Rattle.std.proofs.lemmas.Bool.{and_parts, cases_order, eq-eqb, eqb-true, leb-true, le-leb}
use Rattle.std.proofs.lemmas.List.Elements.{All-cons, All-contains_itself, All-head, All-nil, All-tail}
use Rattle.std.proofs.lemmas.List.Sorted.{All-permutation, IsNonDecreasingBy-from_all_adjacent, IsPermutation-map, list_any-IsPermutation}
use Rattle.std.proofs.lemmas.List.Sums.{AllPass-from_list_all, list_all-from_AllPass}
use Rattle.std.proofs.lemmas.Map.Keys.{IsDistinct-IsPermutation}
use Rattle.std.proofs.lemmas.Nat.{div-add-mod'}
use Rattle.route_types.proofs.Spelled.{ap2}
use Rattle.route_types.specs.Address.{PrefixParts, IsMasked, contains, same_family, width}
use Rattle.route_types.specs.declared.address.Family.{Family}
use Rattle.route_types.specs.declared.address.Family.TheVariants.{V4, V6}
use Rattle.prefix_sets.specs.Range.{RangeParts}
use Rattle.prefix_sets.specs.FirstMatch.{first_match}
use Rattle.prefix_sets.specs.LongestMatch.{AreDistinct, are_of, has_length, longest_match, same_prefix}
use Rattle.prefix_sets.specs.LongestEntries.{IsKeyed, IsRising, deny_entry, entries_of}
use Rattle.prefix_sets.specs.declared.list.PrefixEntry.{PrefixEntry}
use Rattle.prefix_sets.specs.declared.longest.Keyed.{Keyed}

-- ---- the entries answer as the first filter that contains a prefix

-- the first filter whose prefix contains q decides by its lengths
abbrev chosen : List RangeParts → PrefixParts → Bool
chosen [] q = false
chosen (f ∷ fs) q = elim (contains f.prefix q) [ true ↦ has_length f q | false ↦ chosen fs q ]

permitted_first : (held denied rest : Bool) → denied ≡ true → ◌≡◌ {A = Bool} (elim held [ true ↦ true | false ↦ elim denied [ true ↦ false | false ↦ rest ] ]) held
permitted_first true denied rest e = refl
permitted_first false true rest e = refl
permitted_first false false rest e = absurd cc

denied_first : (held denied rest : Bool) → held ≡ false → denied ≡ true → ◌≡◌ {A = Bool} (elim denied [ true ↦ false | false ↦ rest ]) held
denied_first true true rest h e = absurd cc
denied_first false true rest h e = refl
denied_first held false rest h e = absurd cc

-- both entries of a filter: c whether it contains the prefix, a and b its lengths, l and m those of the deny entry
both_entries : (c a b l m rest : Bool) → (c ≡ true → (l && m) ≡ true)
    → ◌≡◌ {A = Bool} (elim ((c && a) && b) [ true ↦ true | false ↦ elim ((c && l) && m) [ true ↦ false | false ↦ rest ] ]) (elim c [ true ↦ a && b | false ↦ rest ])
both_entries true a b l m rest h = permitted_first (a && b) (l && m) rest (h refl)
both_entries false a b l m rest h = refl

deny_alone : (c a b l m rest : Bool) → (a && b) ≡ false → (c ≡ true → (l && m) ≡ true)
    → ◌≡◌ {A = Bool} (elim ((c && l) && m) [ true ↦ false | false ↦ rest ]) (elim c [ true ↦ a && b | false ↦ rest ])
deny_alone true a b l m rest none h = denied_first (a && b) (l && m) rest none (h refl)
deny_alone false a b l m rest none h = refl

no_length : (a b : Bool) (least most n : ℕ) → nat_le least most ≡ false → nat_le least n ≡ a → nat_le n most ≡ b → (a && b) ≡ false
no_length true true least most n e s t = absurd (let k = le-leb least most (omega (arith, leb-true least n s, leb-true n most t)) in cc)
no_length true false least most n e s t = refl
no_length false b least most n e s t = refl

-- the filter's permit entry, if it is made, and what the filter decides, or what is behind it
abbrev permit_by : Bool → RangeParts → List PrefixEntry
permit_by some f = elim some [ true ↦ record { permit = true; range = f } ∷ [] | false ↦ [] ]

abbrev decided_or : RangeParts → PrefixParts → Bool → Bool
decided_or f q rest = elim (contains f.prefix q) [ true ↦ has_length f q | false ↦ rest ]

-- the deny entry holds what the filter's prefix contains
abbrev DeniesRest : ℕ → PrefixParts → RangeParts → Type 0
DeniesRest most q f = contains f.prefix q ≡ true → (nat_le f.prefix.length q.length && nat_le q.length most) ≡ true

filter_first : (most : ℕ) (f : RangeParts) (q : PrefixParts) (es : List PrefixEntry) (some : Bool) → nat_le f.least f.most ≡ some → DeniesRest most q f
    → first_match (permit_by some f ++ (deny_entry most f ∷ es)) q ≡ decided_or f q (first_match es q)
unfolding first_match
filter_first most f q es true e h =
    both_entries (contains f.prefix q) (nat_le f.least q.length) (nat_le q.length f.most) (nat_le f.prefix.length q.length) (nat_le q.length most) (first_match es q) h
filter_first most f q es false e h =
    let none = no_length _ _ f.least f.most q.length e refl refl in
    deny_alone (contains f.prefix q) (nat_le f.least q.length) (nat_le q.length f.most) (nat_le f.prefix.length q.length) (nat_le q.length most) (first_match es q) none h

entries_first : (most : ℕ) (fs : List RangeParts) (q : PrefixParts) → AllByRecursion (DeniesRest most q) fs → first_match (entries_of most fs) q ≡ chosen fs q
unfolding first_match entries_of
entries_first most [] q h = refl
entries_first most (f ∷ fs) q h =
    filter_first most f q (entries_of most fs) (nat_le f.least f.most) refl h.0
    ∙ ap (λ (b : Bool). elim (contains f.prefix q) [ true ↦ has_length f q | false ↦ b ]) (entries_first most fs q h.1)

-- ---- families

families_are : (f g : Family) → same_family f g ≡ true → f ≡ g
families_are V4 V4 e = refl
families_are V6 V6 e = refl
families_are V4 V6 e = absurd cc
families_are V6 V4 e = absurd cc

family_is_same : (f : Family) → same_family f f ≡ true
family_is_same V4 = refl
family_is_same V6 = refl

-- what a prefix that contains another says of it
record IsWithin (p q : PrefixParts) : Type 0 where
  family : p.address.family ≡ q.address.family
  shorter : p.length ≤ q.length
  bits : p.address.bits / 2 ^ (width p.address.family - p.length) ≡ q.address.bits / 2 ^ (width p.address.family - p.length)

is_within : (p q : PrefixParts) → contains p q ≡ true → IsWithin p q
is_within p q e =
    let block = 2 ^ (width p.address.family - p.length) in
    let k = and_parts (same_family p.address.family q.address.family && nat_le p.length q.length) (p.address.bits / block == q.address.bits / block) e in
    let l = and_parts (same_family p.address.family q.address.family) (nat_le p.length q.length) k.0 in
    record { family = families_are p.address.family q.address.family l.0; shorter = leb-true p.length q.length l.1; bits = eqb-true (p.address.bits / block) (q.address.bits / block) k.1 }

denies_rest : (family : Family) (f : RangeParts) (q : PrefixParts) → same_family f.prefix.address.family family ≡ true → q.length ≤ width q.address.family → DeniesRest (width family) q f
denies_rest family f q of within e =
    let h = is_within f.prefix q e in
    let same : q.address.family ≡ family = sym h.family ∙ families_are f.prefix.address.family family of in
    let low : q.length ≤ width family = subst (λ (k : Family). q.length ≤ width k) same within in
    rw (le-leb f.prefix.length q.length h.shorter, le-leb q.length (width family) low) refl

all_deny : (family : Family) (fs : List RangeParts) (q : PrefixParts) → are_of family fs ≡ true → q.length ≤ width q.address.family → AllByRecursion (DeniesRest (width family) q) fs
all_deny family [] q of within = tt
all_deny family (f ∷ fs) q of within =
    let p = and_parts (same_family f.prefix.address.family family) (are_of family fs) of in
    (denies_rest family f q p.0 within, all_deny family fs q p.1 within)

-- ---- the first filter that contains a prefix is the longest

-- the filters are behind one that is at least as long, and have other prefixes
abbrev IsBehind : RangeParts → RangeParts → Type 0
IsBehind f g = (g.prefix.length ≤ f.prefix.length) × (same_prefix f.prefix g.prefix ≡ false)

abbrev LongestFirst : List RangeParts → Type 0
LongestFirst [] = Unit {0}
LongestFirst (f ∷ fs) = AllByRecursion (IsBehind f) fs × LongestFirst fs

abbrev AreMasked : List RangeParts → Type 0
AreMasked fs = AllByRecursion (λ f. IsMasked f.prefix.address f.prefix.length) fs

-- the filter contains q, and is longer than this
abbrev is_longer : PrefixParts → ℕ → RangeParts → Bool
is_longer q length g = contains g.prefix q && nat_lt length g.prefix.length

-- the filter is the longest of some, where longer says whether one of them is longer, and has the length
abbrev decides : PrefixParts → RangeParts → Bool → Bool
decides q g longer = (contains g.prefix q && not longer) && has_length g q

not_longer : (length : ℕ) (q : PrefixParts) (g : RangeParts) (lower : Bool) → nat_lt length g.prefix.length ≡ lower → g.prefix.length ≤ length → is_longer q length g ≡ false
not_longer length q g lower e le = none (contains g.prefix q) lower e
  where
    none : (c b : Bool) → nat_lt length g.prefix.length ≡ b → (c && nat_lt length g.prefix.length) ≡ false
    none true true s = absurd (let k : length < g.prefix.length = leb-true _ _ s in omega (arith, k, le))
    none true false s = s
    none false b s = refl

none_longer : (f : RangeParts) (q : PrefixParts) (gs : List RangeParts) → AllByRecursion (IsBehind f) gs → list_any (is_longer q f.prefix.length) gs ≡ false
none_longer f q [] h = refl
none_longer f q (g ∷ gs) h = rw (not_longer f.prefix.length q g _ refl h.0.0) (none_longer f q gs h.1)

-- prefixes of one length that contain one prefix are one
one_prefix : (p r q : PrefixParts) → IsMasked p.address p.length → IsMasked r.address r.length → IsWithin p q → IsWithin r q → p.length ≡ r.length → same_prefix p r ≡ true
one_prefix p r q a b h k e =
    let family : p.address.family ≡ r.address.family = h.family ∙ sym k.family in
    let block = 2 ^ (width p.address.family - p.length) in
    let same_block : 2 ^ (width r.address.family - r.length) ≡ block = ap2 (λ (x : Family) (n : ℕ). 2 ^ (width x - n)) (sym family) (sym e) in
    let r_masked : r.address.bits % block ≡ 0 = subst (λ (n : ℕ). r.address.bits % n ≡ 0) same_block b.masked in
    let r_bits : r.address.bits / block ≡ q.address.bits / block = subst (λ (n : ℕ). r.address.bits / n ≡ q.address.bits / n) same_block k.bits in
    let bits : p.address.bits ≡ r.address.bits = masked_bits p.address.bits r.address.bits block a.masked r_masked (h.bits ∙ sym r_bits) in
    rw (families_same p.address.family r.address.family family, eq-eqb p.address.bits r.address.bits bits, eq-eqb p.length r.length e) refl
  where
    masked_bits : (x y block : ℕ) → x % block ≡ 0 → y % block ≡ 0 → x / block ≡ y / block → x ≡ y
    masked_bits x y block s t same = sym (div-add-mod' x block) ∙ ap2 (λ (u v : ℕ). u * block + v) same (s ∙ sym t) ∙ div-add-mod' y block

    families_same : (f g : Family) → f ≡ g → same_family f g ≡ true
    families_same f g same = subst (λ (k : Family). same_family f k ≡ true) same (family_is_same f)

not_both : (c h : Bool) → ((c && false) && h) ≡ false
not_both true h = refl
not_both false h = refl

-- a filter behind one that contains q is not the longest
not_decides : (f g : RangeParts) (q : PrefixParts) (rest : Bool) → contains f.prefix q ≡ true → IsMasked f.prefix.address f.prefix.length → IsMasked g.prefix.address g.prefix.length
    → IsBehind f g
    → decides q g (is_longer q g.prefix.length f || rest) ≡ false
not_decides f g q rest here a b behind = by_contains (contains g.prefix q) refl
  where
    below : contains g.prefix q ≡ true → nat_lt g.prefix.length f.prefix.length ≡ true
    below e = le-leb _ _ (apart (cases_order g.prefix.length f.prefix.length))
      where
        apart : (g.prefix.length ≡ f.prefix.length) ⊎ ((g.prefix.length < f.prefix.length) ⊎ (f.prefix.length < g.prefix.length)) → g.prefix.length < f.prefix.length
        apart (inl same) = absurd (let k = one_prefix f.prefix g.prefix q a b (is_within f.prefix q here) (is_within g.prefix q e) (sym same) in let l = behind.1 in cc)
        apart (inr (inl low)) = low
        apart (inr (inr high)) = absurd (omega (arith, high, behind.0))

    by_contains : (c : Bool) → contains g.prefix q ≡ c → decides q g (is_longer q g.prefix.length f || rest) ≡ false
    by_contains true e = rw (here, below e) (not_both (contains g.prefix q) (has_length g q))
    by_contains false e = ap (λ (c : Bool). (c && not (is_longer q g.prefix.length f || rest)) && has_length g q) e

none_decides : (f : RangeParts) (fs gs : List RangeParts) (q : PrefixParts) → contains f.prefix q ≡ true → IsMasked f.prefix.address f.prefix.length → AreMasked gs
    → AllByRecursion (IsBehind f) gs
    → list_any (λ g. decides q g (list_any (is_longer q g.prefix.length) (f ∷ fs))) gs ≡ false
none_decides f fs [] q here a masked h = refl
none_decides f fs (g ∷ gs) q here a masked h = rw (not_decides f g q (list_any (is_longer q g.prefix.length) fs) here a masked.0 h.0) (none_decides f fs gs q here a masked.1 h.1)

-- the first filter is the longest that contains q, or doesn't contain it
first_decides : (f : RangeParts) (fs : List RangeParts) (q : PrefixParts) → AreMasked (f ∷ fs) → AllByRecursion (IsBehind f) fs → (c : Bool) → contains f.prefix q ≡ c
    → ◌≡◌ {A = Bool} (longest_match (f ∷ fs) q) (elim c [ true ↦ has_length f q | false ↦ longest_match fs q ])
first_decides f fs q masked behind true e =
    let itself : is_longer q f.prefix.length f ≡ false = not_longer f.prefix.length q f _ refl (omega arith) in
    let longer : list_any (is_longer q f.prefix.length) (f ∷ fs) ≡ false = rw (itself) (none_longer f q fs behind) in
    ap2 (λ (b r : Bool). decides q f b || r) longer (none_decides f fs fs q e masked.0 masked.1 behind) ∙ alone (contains f.prefix q) (has_length f q) e
  where
    alone : (c h : Bool) → c ≡ true → (((c && true) && h) || false) ≡ h
    alone true true s = refl
    alone true false s = refl
    alone false h s = absurd cc
first_decides f fs q masked behind false e =
    let with_first : Bool → Bool = λ c.
    let others : RangeParts → Bool = λ g. decides q g ((c && nat_lt g.prefix.length f.prefix.length) || list_any (is_longer q g.prefix.length) fs) in
    ((c && not (list_any (is_longer q f.prefix.length) (f ∷ fs))) && has_length f q) || list_any others fs in
    ap with_first e

longest_is_chosen : (fs : List RangeParts) (q : PrefixParts) → AreMasked fs → LongestFirst fs → longest_match fs q ≡ chosen fs q
longest_is_chosen [] q masked h = refl
longest_is_chosen (f ∷ fs) q masked h =
    first_decides f fs q masked h.0 (contains f.prefix q) refl
    ∙ ap (λ (b : Bool). elim (contains f.prefix q) [ true ↦ has_length f q | false ↦ b ]) (longest_is_chosen fs q masked.1 h.1)

-- ---- any order of the filters

-- the longest match doesn't look at the order of the filters
longest_moved : (fs gs : List RangeParts) (q : PrefixParts) → IsPermutation fs gs → longest_match fs q ≡ longest_match gs q
longest_moved fs gs q moved =
    (λ i. list_any (λ f. decides q f (list_any-IsPermutation (is_longer q f.prefix.length) fs gs moved i)) fs)
    ∙ list_any-IsPermutation (λ f. decides q f (list_any (is_longer q f.prefix.length) gs)) fs gs moved

-- ---- the filters in order

all_of : (family : Family) (fs gs : List RangeParts) → IsPermutation fs gs → are_of family fs ≡ true → are_of family gs ≡ true
all_of family fs gs moved of =
    let is_of : RangeParts → Bool = λ f. same_family f.prefix.address.family family in
    list_all-from_AllPass is_of gs (All-permutation (λ f. is_of f ≡ true) fs gs moved (AllPass-from_list_all is_of fs of))

all_masked : (ks : List Keyed) → All IsKeyed ks → AreMasked (map (λ k. k.range) ks)
all_masked [] h = tt
all_masked (k ∷ ks) h = ((All-head IsKeyed k ks h).masked, all_masked ks (All-tail IsKeyed k ks h))

one_behind : (family : Family) (k l : Keyed) → IsKeyed k → IsKeyed l → same_family k.range.prefix.address.family family ≡ true → same_family l.range.prefix.address.family family ≡ true
    → k.host_bits ≤ l.host_bits
    → l.range.prefix.length ≤ k.range.prefix.length
one_behind family k l a b of_k of_l le =
    let m : k.range.prefix.address.family ≡ family = families_are k.range.prefix.address.family family of_k in
    let n : l.range.prefix.address.family ≡ family = families_are l.range.prefix.address.family family of_l in
    let k_host : k.host_bits ≡ width family - k.range.prefix.length = subst (λ (f : Family). k.host_bits ≡ width f - k.range.prefix.length) m a.host_bits in
    let l_host : l.host_bits ≡ width family - l.range.prefix.length = subst (λ (f : Family). l.host_bits ≡ width f - l.range.prefix.length) n b.host_bits in
    let k_within : k.range.prefix.length ≤ width family = subst (λ (f : Family). k.range.prefix.length ≤ width f) m a.masked.within in
    let l_within : l.range.prefix.length ≤ width family = subst (λ (f : Family). l.range.prefix.length ≤ width f) n b.masked.within in
    omega (arith, le, k_host, l_host, k_within, l_within)

all_behind : (family : Family) (k : Keyed) (ls : List Keyed) → IsKeyed k → All IsKeyed ls → same_family k.range.prefix.address.family family ≡ true
    → are_of family (map (λ l. l.range) ls) ≡ true
    → AllByRecursion (λ l. k.host_bits ≤ l.host_bits) ls → AllByRecursion (λ g. same_prefix k.range.prefix g.prefix ≡ false) (map (λ l. l.range) ls)
    → AllByRecursion (IsBehind k.range) (map (λ l. l.range) ls)
all_behind family k [] keyed all of_k of rises apart = tt
all_behind family k (l ∷ ls) keyed all of_k of rises apart =
    let p = and_parts (same_family l.range.prefix.address.family family) (are_of family (map (λ m. m.range) ls)) of in
    ((one_behind family k l keyed (All-head IsKeyed l ls all) of_k p.0 rises.0, apart.0), all_behind family k ls keyed (All-tail IsKeyed l ls all) of_k p.1 rises.1 apart.1)

longest_first : (family : Family) (ks : List Keyed) → All IsKeyed ks → IsRising ks → are_of family (map (λ k. k.range) ks) ≡ true → AreDistinct (map (λ k. k.range) ks)
    → LongestFirst (map (λ k. k.range) ks)
unfolding IsDistinct
longest_first family [] all rises of apart = tt
longest_first family (k ∷ ks) all rises of apart =
    let p = and_parts (same_family k.range.prefix.address.family family) (are_of family (map (λ l. l.range) ks)) of in
    let rest = All-tail IsKeyed k ks all in
    (all_behind family k ks (All-head IsKeyed k ks all) rest p.0 p.1 rises.0 apart.0, longest_first family ks rest rises.1 p.1 apart.1)

-- ---- the sort

not_before : (a b c d : ℕ) (lower : Bool) → nat_lt a b ≡ lower → is_lt (ordering_then (cond lower Less (cond (a == b) Equal Greater)) (nat_cmp c d)) ≡ false → b ≤ a
not_before a b c d true e h = absurd cc
not_before a b c d false e h = by_order (cases_order a b)
  where
    by_order : (a ≡ b) ⊎ ((a < b) ⊎ (b < a)) → b ≤ a
    by_order (inl same) = omega (arith, same)
    by_order (inr (inl low)) = absurd (let k = le-leb (suc a) b low in cc)
    by_order (inr (inr high)) = omega (arith, high)

-- the pairs that the filters are sorted by
abbrev key : Keyed → ℕ × ℕ
key k = (k.host_bits, k.bits)

abbrev pairs_cmp : ℕ × ℕ → ℕ × ℕ → Ordering
pairs_cmp x y = ordering_then (nat_cmp x.0 y.0) (nat_cmp x.1 y.1)

all_later : (n : ℕ) (ls : List Keyed) → ((j : ℕ) (d : Keyed) → j < length ls → n ≤ (slice_index_or ls j d).host_bits) → AllByRecursion (λ l. n ≤ l.host_bits) ls
all_later n [] h = tt
all_later n (l ∷ ls) h = (h 0 l (omega arith), all_later n ls (λ j d lt. h (suc j) d (omega (arith, lt))))

rising : (ks : List Keyed) → IsNonDecreasingBy (λ k. k.host_bits) ks → IsRising ks
rising [] h = tt
rising (k ∷ ks) h =
    (all_later k.host_bits ks (λ j d lt. h 0 (suc j) d (omega arith) (omega (arith, lt))), rising ks (λ i j d a b. h (suc i) (suc j) d (omega (arith, a)) (omega (arith, b))))

-- filters that are sorted by these pairs rise
pub sorted_rises : (ks : List Keyed) → IsSortedByKey key pairs_cmp ks → IsRising ks
sorted_rises ks sorted =
    rising ks (IsNonDecreasingBy-from_all_adjacent (λ k. k.host_bits) ks (λ k d lt.
    let a = slice_index_or ks (k + 1) d in
    let b = slice_index_or ks k d in
    not_before a.host_bits b.host_bits a.bits b.bits (nat_lt a.host_bits b.host_bits) refl (sorted k d (omega arith) lt)))

-- ---- the list that is made

-- the entries of the sorted filters answer as the longest match does
pub made_answers : (family : Family) (filters : List RangeParts) (ks : List Keyed) → IsPermutation filters (map (λ k. k.range) ks) → All IsKeyed ks → IsRising ks → AreDistinct filters
    → are_of family filters ≡ true
    → (q : PrefixParts) → q.length ≤ width q.address.family → first_match (entries_of (width family) (map (λ k. k.range) ks)) q ≡ longest_match filters q
made_answers family filters ks moved keyed rises distinct of q within =
    let fs = map (λ (k : Keyed). k.range) ks in
    let of_all : are_of family fs ≡ true = all_of family filters fs moved of in
    let apart : AreDistinct fs = IsDistinct-IsPermutation (λ f g. same_prefix f.prefix g.prefix) flips filters fs moved distinct in
    entries_first (width family) fs q (all_deny family fs q of_all within)
    ∙ sym (longest_is_chosen fs q (all_masked ks keyed) (longest_first family ks keyed rises of_all apart))
    ∙ sym (longest_moved filters fs q moved)
  where
    family_flips : (f g : Family) → same_family f g ≡ same_family g f
    family_flips V4 V4 = refl
    family_flips V4 V6 = refl
    family_flips V6 V4 = refl
    family_flips V6 V6 = refl

    flips : (f g : RangeParts) → same_prefix f.prefix g.prefix ≡ same_prefix g.prefix f.prefix
    flips f g = rw (family_flips f.prefix.address.family g.prefix.address.family, nat_eq_equiv.symm f.prefix.address.bits g.prefix.address.bits, nat_eq_equiv.symm f.prefix.length g.prefix.length) refl

entries_have : (most : ℕ) (ps : List PrefixParts) (fs : List RangeParts) → All (Contains ps) (map (λ f. f.prefix) fs) → All (λ e. Contains ps e.range.prefix) (entries_of most fs)
unfolding entries_of
entries_have most ps [] h = All-nil (λ e. Contains ps e.range.prefix)
entries_have most ps (f ∷ fs) h =
    let here = All-head (Contains ps) f.prefix (map (λ (g : RangeParts). g.prefix) fs) h in
    let rest = entries_have most ps fs (All-tail (Contains ps) f.prefix (map (λ (g : RangeParts). g.prefix) fs) h) in
    with_permit (nat_le f.least f.most) here (All-cons (λ e. Contains ps e.range.prefix) (deny_entry most f) (entries_of most fs) here rest)
  where
    with_permit : (some : Bool) → Contains ps f.prefix → All (λ e. Contains ps e.range.prefix) (deny_entry most f ∷ entries_of most fs)
        → All (λ e. Contains ps e.range.prefix) (permit_by some f ++ (deny_entry most f ∷ entries_of most fs))
    with_permit true here more = All-cons (λ e. Contains ps e.range.prefix) (record { permit = true; range = f }) (deny_entry most f ∷ entries_of most fs) here more
    with_permit false here more = more

-- each entry has the prefix of a filter
pub made_prefixes : (most : ℕ) (filters fs : List RangeParts) → IsPermutation filters fs → All (λ e. Contains (map (λ f. f.prefix) filters) e.range.prefix) (entries_of most fs)
made_prefixes most filters fs moved =
    let ps = map (λ (f : RangeParts). f.prefix) filters in
    entries_have most ps fs (All-permutation (Contains ps) ps (map (λ f. f.prefix) fs) (IsPermutation-map (λ f. f.prefix) filters fs moved) (All-contains_itself ps))
