-- The longest match: the filters that contain a prefix and are no shorter than the longest of these.
use Rattle.std.proofs.Common.{◌≡◌, refl, sym, ap, ◌∙◌, ℕ, ◌<◌, ◌≤◌, Bool, true, false, ◌||◌, ◌&&◌, List, [], ◌∷◌, arith}
use Rattle.std.specs.Prelude.{not, nat_lt}
use Rattle.std.specs.List.{list_any}
use Rattle.std.proofs.lemmas.Bool.{lt-ltb, le-ltb, ltb-true, ltb-false}
use Rattle.route_types.specs.Address.{PrefixParts, contains}
use Rattle.prefix_sets.specs.Range.{RangeParts}
use Rattle.prefix_sets.specs.LongestMatch.{is_longest, has_length, longest_match}
use Rattle.junos_meaning.specs.Longest.{longer_of, longest_from, decides_at}

-- tests that answer alike answer alike on a list
same_any : {A : Type 0} (f g : A → Bool) → ((x : A) → f x ≡ g x) → (xs : List A) → list_any f xs ≡ list_any g xs
same_any f g same [] = refl
same_any f g same (x ∷ xs) = ap (λ (b : Bool). b || list_any f xs) (same x) ∙ ap (λ (b : Bool). g x || b) (same_any f g same xs)

or_none : (a : Bool) → a ≡ (a || false)
or_none true = refl
or_none false = refl

or_apart : (a b c : Bool) → ((a || b) || c) ≡ (a || (b || c))
or_apart true b c = refl
or_apart false b c = refl

-- a number is below the greater of two where it is below one of them
below_greater : (n a b : ℕ) (t : Bool) → nat_lt a b ≡ t → nat_lt n (elim t [ true ↦ b | false ↦ a ]) ≡ (nat_lt n a || nat_lt n b)
below_greater n a b true e = by_less (nat_lt n a) refl
  where
    by_less : (t : Bool) → nat_lt n a ≡ t → nat_lt n b ≡ (t || nat_lt n b)
    by_less true l = let less : a < b = ltb-true a b e in let low : n < a = ltb-true n a l in lt-ltb n b (omega (arith, less, low))
    by_less false l = refl
below_greater n a b false e = by_less (nat_lt n a) refl
  where
    by_less : (t : Bool) → nat_lt n a ≡ t → t ≡ (t || nat_lt n b)
    by_less true l = refl
    by_less false l = let more : b ≤ a = ltb-false a b e in let high : a ≤ n = ltb-false n a l in sym (le-ltb n b (omega (arith, more, high)))

behind_by : (n longest own : ℕ) (within : Bool) → nat_lt n (elim (within && nat_lt longest own) [ true ↦ own | false ↦ longest ]) ≡ (nat_lt n longest || (within && nat_lt n own))
behind_by n longest own true = below_greater n longest own (nat_lt longest own) refl
behind_by n longest own false = or_none (nat_lt n longest)

-- the greatest length behind one more filter
behind_one : (p : PrefixParts) (f : RangeParts) (n longest : ℕ) → nat_lt n (longer_of p f longest) ≡ (nat_lt n longest || (contains f.prefix p && nat_lt n f.prefix.length))
behind_one p f n longest = behind_by n longest f.prefix.length (contains f.prefix p)

-- a number is below the greatest length where some filter that contains the prefix is longer
below_longest : (p : PrefixParts) (n longest : ℕ) (fs : List RangeParts)
    → nat_lt n (longest_from p longest fs) ≡ (nat_lt n longest || list_any (λ g. contains g.prefix p && nat_lt n g.prefix.length) fs)
unfolding longest_from
below_longest p n longest [] = or_none (nat_lt n longest)
below_longest p n longest (f ∷ fs) =
    let rest : Bool = list_any (λ g. contains g.prefix p && nat_lt n g.prefix.length) fs in
    below_longest p n (longer_of p f longest) fs
    ∙ ap (λ (b : Bool). b || rest) (behind_one p f n longest)
    ∙ or_apart (nat_lt n longest) (contains f.prefix p && nat_lt n f.prefix.length) rest

none_below : (n : ℕ) → nat_lt n 0 ≡ false
none_below n = le-ltb n 0 (omega arith)

-- a filter decides where it is the longest one
decides : (p : PrefixParts) (all : List RangeParts) (f : RangeParts) → decides_at p (longest_from p 0 all) f ≡ (is_longest all p f && has_length f p)
decides p all f =
    let others : Bool = list_any (λ g. contains g.prefix p && nat_lt f.prefix.length g.prefix.length) all in
    ap (λ (b : Bool). (contains f.prefix p && not b) && has_length f p) (below_longest p f.prefix.length 0 all ∙ ap (λ (b : Bool). b || others) (none_below f.prefix.length))

pub longest_decides : (p : PrefixParts) (fs : List RangeParts) → list_any (decides_at p (longest_from p 0 fs)) fs ≡ longest_match fs p
longest_decides p fs = same_any (decides_at p (longest_from p 0 fs)) (λ f. is_longest fs p f && has_length f p) (decides p fs) fs
