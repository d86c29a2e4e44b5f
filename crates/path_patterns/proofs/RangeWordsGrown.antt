-- Words that come one after the other spell the numbers of the ranges.
use Rattle.std.proofs.Common.{◌≡◌, refl, sym, ap, subst, ◌∙◌, ℕ, ◌+◌, ◌-◌, ◌^◌, ◌<◌, ◌≤◌, Bool, true, false, ◌&&◌, ◌||◌, nat_le, nat_lt, List, [], ◌∷◌, ◌++◌, length, get_or, take, drop, arith, inl, inr, ◌⊎◌}
use Rattle.std.specs.Prelude.{decimal}
use Rattle.std.specs.List.{list_any}
use Rattle.std.proofs.Math.Bool.{or_assoc, or-false}
use Rattle.std.proofs.lemmas.Bool.{and_from, le-leb, both_ways}
use Rattle.std.proofs.lemmas.Bool.Decides.{nat_tests}
use Rattle.std.proofs.lemmas.List.{length-append, take_all}
use Rattle.std.proofs.lemmas.List.Folds.{list_any-append}
use Rattle.path_patterns.specs.Items.{in_range}
use Rattle.path_patterns.specs.Shape.{IsDigitWord}
use Rattle.path_patterns.specs.PathItems.{digits_fit, word_holds, words_hold}
use Rattle.path_patterns.specs.RangeWords.{IsRunWord, IsBlock, IsGrown, HaveNumbers, AreWordsBefore}
use Rattle.path_patterns.specs.declared.items.NumberRange.{NumberRange}
use Rattle.path_patterns.specs.declared.pattern.DigitSet.{DigitSet}
use Rattle.path_patterns.specs.declared.pattern.DigitWord.{DigitWord}
use Rattle.path_patterns.specs.declared.pattern.DigitWord.TheVariants.{Any, Digits}
use Rattle.path_patterns.proofs.MergedLaws.{holds_least}
use Rattle.path_patterns.proofs.Lists.{all_append}
use Rattle.path_patterns.proofs.RangeWordsBlock.{block_word}

push_holds : (ws : List DigitWord) (w : DigitWord) (n : ℕ) → words_hold (ws ++ (w ∷ [])) n ≡ (words_hold ws n || word_holds w n)
push_holds ws w n = list_any-append (λ v. word_holds v n) ws (w ∷ []) ∙ ap (λ (b : Bool). words_hold ws n || b) (or-false (word_holds w n))

-- ---- the words of one range

-- no word came yet
pub grown_none : (ws : List DigitWord) (a : ℕ) → IsGrown ws ws (λ n. nat_le a n && nat_lt n a)
grown_none ws a = record {
  shaped = λ h. h;
  runs = λ h. h;
  holds = λ n small. sym (or-false (words_hold ws n)) ∙ ap (λ (b : Bool). words_hold ws n || b) (sym (none n));
  longer = omega arith;
  some = λ n e. absurd (both_ways (nat_le a n && nat_lt n a) (none n) e);
}
  where
    none : (n : ℕ) → (nat_le a n && nat_lt n a) ≡ false
    none n = grind (arith, nat_tests)

-- the word of the next block came
grown_block : (before after : List DigitWord) (a next most last : ℕ) (ss : List DigitSet) → a ≤ next → most < 2 ^ 32
    → IsGrown before after (λ n. nat_le a n && nat_lt n next) → IsBlock next most ss last → IsGrown before (after ++ (Digits ss ∷ [])) (λ n. nat_le a n && nat_lt n (last + 1))
grown_block before after a next most last ss h small g b = record {
  shaped = λ k. all_append IsDigitWord after (Digits ss ∷ []) (g.shaped k) (block_word next most last ss small b, tt);
  runs = λ k. all_append IsRunWord after (Digits ss ∷ []) (g.runs k) (b.runs, tt);
  holds = λ n few.
      push_holds after (Digits ss) n
      ∙ ap (λ (x : Bool). x || digits_fit ss (decimal n)) (g.holds n few)
      ∙ ap (λ (x : Bool). (words_hold before n || (nat_le a n && nat_lt n next)) || x) (b.spelled n few)
      ∙ or_assoc (words_hold before n) (nat_le a n && nat_lt n next) (nat_le next n && nat_le n last)
      ∙ ap (λ (x : Bool). words_hold before n || x) (more n);
  longer = omega (arith, g.longer, length-append after (Digits ss ∷ []));
  some = λ n e. omega (arith, length-append after (Digits ss ∷ []));
}
  where
    more : (n : ℕ) → ((nat_le a n && nat_lt n next) || (nat_le next n && nat_le n last)) ≡ (nat_le a n && nat_lt n (last + 1))
    more n = let k : next ≤ last = b.starts in grind (arith, nat_tests)

-- the same, of what the program makes
pub grown_more : (before after new : List DigitWord) (a next most last end : ℕ) (ss : List DigitSet) → a ≤ next → most < 2 ^ 32
    → IsGrown before after (λ n. nat_le a n && nat_lt n next) → IsBlock next most ss last → new ≡ after ++ (Digits ss ∷ []) → end ≡ last + 1 → IsGrown before new (λ n. nat_le a n && nat_lt n end)
grown_more before after new a next most last end ss h small g b e k =
    subst (λ (x : List DigitWord). IsGrown before x (λ n. nat_le a n && nat_lt n end)) (sym e)
    (subst (λ (x : ℕ). IsGrown before (after ++ (Digits ss ∷ [])) (λ n. nat_le a n && nat_lt n x)) (sym k) (grown_block before after a next most last ss h small g b))

-- all blocks of the range came
pub grown_all : (before after : List DigitWord) (r : NumberRange) (next : ℕ) → next ≡ r.most + 1 → IsGrown before after (λ n. nat_le r.least n && nat_lt n next) → IsGrown before after (in_range r)
grown_all before after r next e g = record {
  shaped = g.shaped;
  runs = g.runs;
  holds = λ n small. g.holds n small ∙ ap (λ (x : Bool). words_hold before n || x) (same n);
  longer = g.longer;
  some = λ n k. g.some n (same n ∙ k);
}
  where
    same : (n : ℕ) → (nat_le r.least n && nat_lt n next) ≡ (nat_le r.least n && nat_le n r.most)
    same n = grind (arith, nat_tests)

-- the range holds no number
pub grown_empty : (ws : List DigitWord) (r : NumberRange) → r.most < r.least → IsGrown ws ws (in_range r)
grown_empty ws r h = record {
  shaped = λ k. k;
  runs = λ k. k;
  holds = λ n small. sym (or-false (words_hold ws n)) ∙ ap (λ (b : Bool). words_hold ws n || b) (sym (none n));
  longer = omega arith;
  some = λ n e. absurd (both_ways (in_range r n) (none n) e);
}
  where
    none : (n : ℕ) → in_range r n ≡ false
    none n = grind (arith, nat_tests)

-- the range holds all numbers
pub grown_any : (ws : List DigitWord) (r : NumberRange) → r.least ≡ 0 → r.most ≡ 4294967295 → IsGrown ws (ws ++ (Any ∷ [])) (in_range r)
grown_any ws r least most = record {
  shaped = λ k. all_append IsDigitWord ws (Any ∷ []) k (tt, tt);
  runs = λ k. all_append IsRunWord ws (Any ∷ []) k (tt, tt);
  holds = λ n small. push_holds ws Any n ∙ ap (λ (b : Bool). words_hold ws n || b) (sym (all n small));
  longer = omega (arith, length-append ws (Any ∷ []));
  some = λ n e. omega (arith, length-append ws (Any ∷ []));
}
  where
    all : (n : ℕ) → n < 2 ^ 32 → in_range r n ≡ true
    all n small = and_from (nat_le r.least n) (nat_le n r.most) (le-leb r.least n (omega arith)) (le-leb n r.most (omega arith))

-- ---- the words of all ranges

pub before_first : (rs : List NumberRange) → AreWordsBefore [] rs rs
before_first rs = record { shaped = tt; runs = tt; holds = λ n small. refl; some = λ h. inr refl }

some_next : (ws more : List DigitWord) (r : NumberRange) (rest all : List NumberRange) → IsGrown ws more (in_range r) → HaveNumbers all → (1 ≤ length ws) ⊎ ((r ∷ rest) ≡ all) → 1 ≤ length more
some_next ws more r rest all g good (inl k) = omega (arith, k, g.longer)
some_next ws more r rest all g good (inr e) = let h : HaveNumbers (r ∷ rest) = subst HaveNumbers (sym e) good in g.some r.least (holds_least r h.0)

-- the words of the next range came
before_next : (ws more : List DigitWord) (r : NumberRange) (rest all : List NumberRange) → AreWordsBefore ws (r ∷ rest) all → IsGrown ws more (in_range r) → AreWordsBefore more rest all
before_next ws more r rest all h g = record {
  shaped = g.shaped h.shaped;
  runs = g.runs h.runs;
  holds = λ n small.
      ap (λ (b : Bool). b || list_any (λ q. in_range q n) rest) (g.holds n small)
      ∙ or_assoc (words_hold ws n) (in_range r n) (list_any (λ q. in_range q n) rest)
      ∙ h.holds n small;
  some = λ good. inl (some_next ws more r rest all g good (h.some good));
}

-- the same, where the range is the first of those that were left
pub before_step : (ws more : List DigitWord) (past : NumberRange) (rest all : List NumberRange) → 1 ≤ length rest → AreWordsBefore ws rest all → IsGrown ws more (in_range (get_or rest 0 past)) → AreWordsBefore more (take (length rest - 1) (drop 1 rest)) all
before_step ws more past [] all some h g = absurd (omega (arith, some))
before_step ws more past (r ∷ rest) all some h g =
    let whole : take (length (r ∷ rest) - 1) rest ≡ rest = take_all (length (r ∷ rest) - 1) rest (omega arith) in
    subst (λ (x : List NumberRange). AreWordsBefore more x all) (sym whole) (before_next ws more r rest all h g)

-- the words of all ranges came
pub all_hold : (ws : List DigitWord) (all : List NumberRange) → AreWordsBefore ws [] all → (n : ℕ) → n < 2 ^ 32 → words_hold ws n ≡ list_any (λ r. in_range r n) all
all_hold ws all h n small = sym (or-false (words_hold ws n)) ∙ h.holds n small

some_word : (ws : List DigitWord) (all : List NumberRange) → 1 ≤ length all → (1 ≤ length ws) ⊎ ([] ≡ all) → 1 ≤ length ws
some_word ws all some (inl k) = k
some_word ws all some (inr e) = absurd (omega (arith, some, ap (λ (rs : List NumberRange). length rs) e))

pub some_words : (ws : List DigitWord) (all : List NumberRange) → AreWordsBefore ws [] all → HaveNumbers all → 1 ≤ length all → 1 ≤ length ws
some_words ws all h good some = some_word ws all some (h.some good)
