-- Items of a pattern as items of digit words: which paths they take.
use Rattle.std.proofs.Common.{◌≡◌, refl, sym, ap, subst, ◌∙◌, ℕ, zero, suc, ◌^◌, ◌<◌, ◌≤◌, ◌==◌, Bool, true, false, cond, ◌||◌, List, [], ◌∷◌, ◌++◌, length, map, Option, Some, None, arith, inl, inr, append-nil, ltb-false, eqb-true}
use Rattle.std.specs.List.{list_any, AllByRecursion}
use Rattle.path_patterns.specs.Items.{AtMost, Takes, in_range, in_set, takes_of}
use Rattle.path_patterns.specs.PathItems.{words_hold}
use Rattle.path_patterns.specs.Shape.{IsDigitWord}
use Rattle.path_patterns.specs.RangeWords.{AreRuns}
use Rattle.path_patterns.specs.MergedRanges.{AreRising}
use Rattle.path_patterns.specs.Counts.{is_above, is_nothing}
use Rattle.path_patterns.specs.IosForm.{word_takes}
use Rattle.path_patterns.specs.SameTakes.{SameTake, SameTakes}
use Rattle.path_patterns.specs.SamePaths.{SamePaths}
use Rattle.path_patterns.specs.WordItems.{IsWordItem, AreWordItems, first_number, BecomesWords, AddsItem, BecomeWords}
use Rattle.path_patterns.specs.declared.items.NumberRange.{NumberRange}
use Rattle.path_patterns.specs.declared.items.TokenItem.{TokenItem}
use Rattle.path_patterns.specs.declared.word_item.WordItem.{WordItem}
use Rattle.path_patterns.specs.declared.word_item.ItemWords.{ItemWords}
use Rattle.path_patterns.specs.declared.word_item.ItemWords.TheVariants.{Never, Absent, There}
use Rattle.path_patterns.specs.declared.pattern.DigitWord.{DigitWord}
use Rattle.path_patterns.proofs.SameTakes.{same_taken, same_back}
use Rattle.path_patterns.proofs.CountLaws.{at_most_of, above_found, nothing_found}
use Rattle.path_patterns.proofs.TakesLaws.{NoneFits, takes_nothing, takes_never}
use Rattle.path_patterns.proofs.MergedLaws.{holds_least}
use Rattle.path_patterns.proofs.Lists.{all_append, map_before}
use Rattle.path_patterns.proofs.SamePaths.{same_refl, same_sym, same_trans, same_eq, same_behind_all, never_behind}

-- ---- counts

-- the least count is above the most
pub becomes_never : (i : TokenItem) → is_above i.least i.most ≡ true → BecomesWords i Never
becomes_never i e ts path within taken = takes_never (takes_of i) ts path (inl (above_found i.least i.most e)) within taken

least_none : (least : ℕ) (o : Option ℕ) → is_above least o ≡ false → o ≡ Some 0 → least ≡ 0
least_none least None a e = absurd cc
least_none least (Some most) a e =
    let zero : Some most ≡ Some 0 = e in
    let m : most ≡ 0 = cc in
    omega (arith, ltb-false most least a, m)

-- no number may be taken
pub becomes_absent : (i : TokenItem) → is_above i.least i.most ≡ false → is_nothing i.most ≡ true → BecomesWords i Absent
becomes_absent i a e ts path within =
    let none = nothing_found i.most e in
    takes_nothing (takes_of i) ts path (least_none i.least i.most a none, inr none) within

none_first : (rs : List NumberRange) → None ≡ first_number rs → rs ≡ []
none_first [] e = refl
none_first (r ∷ rs) e = absurd cc

none_fits : (i : TokenItem) (rs : List NumberRange) → None ≡ first_number rs → ((n : ℕ) → list_any (λ r. in_range r n) rs ≡ in_set i.set n) → NoneFits (takes_of i)
none_fits i rs e same n small =
    sym (same n) ∙ ap (λ (xs : List NumberRange). list_any (λ r. in_range r n) xs) (none_first rs e)

some_least : (n : ℕ) → (n == 0) ≡ false → 1 ≤ n
some_least zero e = absurd cc
some_least (suc n) e = omega arith

without_at : (t : Bool) (i : TokenItem) → (i.least == 0) ≡ t → NoneFits (takes_of i) → BecomesWords i (cond t Absent Never)
without_at true i e none = λ ts path within. takes_nothing (takes_of i) ts path (eqb-true i.least 0 e, inl none) within
without_at false i e none = λ ts path within taken. takes_never (takes_of i) ts path (inr (some_least i.least e, none)) within taken

-- the set has no number
pub becomes_without : (i : TokenItem) (rs : List NumberRange) (w : ItemWords) → w ≡ cond (i.least == 0) Absent Never → None ≡ first_number rs → ((n : ℕ) → list_any (λ r. in_range r n) rs ≡ in_set i.set n) → BecomesWords i w
becomes_without i rs w is e same =
    subst (λ (x : ItemWords). BecomesWords i x) (sym is) (without_at (i.least == 0) i refl (none_fits i rs e same))

-- ---- items of words

one_of : (o : Option ℕ) → is_nothing o ≡ false → AtMost 1 o
one_of None e = tt
one_of (Some zero) e = absurd cc
one_of (Some (suc m)) e = omega arith

rising_first : (r : NumberRange) (rs : List NumberRange) → AreRising (r ∷ rs) → r.least ≤ r.most
rising_first r [] h = h
rising_first r (s ∷ rs) h = h.0

first_held : (rs : List NumberRange) (n : ℕ) → Some n ≡ first_number rs → AreRising rs → list_any (λ r. in_range r n) rs ≡ true
first_held [] n e h = absurd cc
first_held (r ∷ rs) n e h =
    let k : n ≡ r.least = cc in
    let f : in_range r n ≡ true = subst (λ (m : ℕ). in_range r m ≡ true) (sym k) (holds_least r (rising_first r rs h)) in
    ap (λ (b : Bool). b || list_any (λ r. in_range r n) rs) f

some_words : (ws : List DigitWord) (n : ℕ) → words_hold ws n ≡ true → 1 ≤ length ws
some_words [] n e = absurd cc
some_words (w ∷ ws) n e = omega arith

takes_alike : (ts : List Takes) → SameTakes ts ts
takes_alike [] = tt
takes_alike (t ∷ ts) = (record { least = refl; most = refl; fits = λ n small. refl }, takes_alike ts)

same_front : (t u : Takes) (ts : List Takes) → SameTake t u → SamePaths (t ∷ ts) (u ∷ ts)
same_front t u ts h path within =
    let all : SameTakes (t ∷ ts) (u ∷ ts) = (h, takes_alike ts) in
    (same_taken (t ∷ ts) (u ∷ ts) path all within, same_taken (u ∷ ts) (t ∷ ts) path (same_back (t ∷ ts) (u ∷ ts) all) within)

-- the words spell the numbers of the item's set
pub becomes_there : (i : TokenItem) (rs : List NumberRange) (ws : List DigitWord) (number : ℕ) → number < 2 ^ 32 → is_above i.least i.most ≡ false → is_nothing i.most ≡ false → AreRising rs → ((n : ℕ) → list_any (λ r. in_range r n) rs ≡ in_set i.set n) → Some number ≡ first_number rs
    → AllByRecursion IsDigitWord ws → AreRuns ws → ((n : ℕ) → n < 2 ^ 32 → words_hold ws n ≡ list_any (λ r. in_range r n) rs) → BecomesWords i (There (record { words = ws; least = i.least; most = i.most }))
becomes_there i rs ws number small counts one rising same first shaped runs holds =
    let held : words_hold ws number ≡ true = holds number small ∙ first_held rs number first rising in (
      record {
        words = (some_words ws number held, shaped);
        runs = runs;
        counts = at_most_of i.least i.most counts;
        one = one_of i.most one;
        number = number;
        small = small;
        spelled = held;
      },
      λ ts. same_front (takes_of i) (word_takes (record { words = ws; least = i.least; most = i.most })) ts
          (record { least = refl; most = refl; fits = λ n k. sym (holds n k ∙ same n) }),
    )

-- ---- one item more

pub adds_never : (before : List WordItem) (i : TokenItem) → BecomesWords i Never → AddsItem before i before false
adds_never before i h = h

pub adds_absent : (before : List WordItem) (i : TokenItem) → BecomesWords i Absent → AddsItem before i before true
adds_absent before i h =
    (λ k. k, λ ts. same_behind_all (map word_takes before) ts (takes_of i ∷ ts) (same_sym (takes_of i ∷ ts) ts (h ts)))

pub adds_there : (before now : List WordItem) (i : TokenItem) (w : WordItem) → BecomesWords i (There w) → now ≡ before ++ (w ∷ []) → AddsItem before i now true
adds_there before now i w h e =
    subst (λ (x : List WordItem). AddsItem before i x true) (sym e) (
      λ k. all_append IsWordItem before (w ∷ []) k (h.0, tt),
      λ ts.
          let joined : map word_takes (before ++ (w ∷ [])) ++ ts ≡ map word_takes before ++ (word_takes w ∷ ts) =
          map_before word_takes before (w ∷ []) ts in
          same_trans (map word_takes (before ++ (w ∷ [])) ++ ts) (map word_takes before ++ (word_takes w ∷ ts)) (map word_takes before ++ (takes_of i ∷ ts))
          (same_eq (map word_takes (before ++ (w ∷ [])) ++ ts) (map word_takes before ++ (word_takes w ∷ ts)) joined)
          (same_behind_all (map word_takes before) (word_takes w ∷ ts) (takes_of i ∷ ts) (same_sym (takes_of i ∷ ts) (word_takes w ∷ ts) (h.1 ts))),
    )

-- ---- all items

-- the items that were found and the rest take the same paths as all items
pub record AreFound (found : List WordItem) (rest all : List TokenItem) : Type 0 where
  pub items : AreWordItems found
  pub same : SamePaths (map word_takes found ++ map takes_of rest) (map takes_of all)

pub found_none : (all : List TokenItem) → AreFound [] all all
found_none all = record { items = tt; same = same_refl (map takes_of all) }

pub found_more : (before now : List WordItem) (i : TokenItem) (rest all : List TokenItem) → AreFound before (i ∷ rest) all → AddsItem before i now true → AreFound now rest all
found_more before now i rest all h k = record {
  items = k.0 h.items;
  same = same_trans (map word_takes now ++ map takes_of rest) (map word_takes before ++ map takes_of (i ∷ rest)) (map takes_of all) (k.1 (map takes_of rest)) h.same;
}

pub found_never : (before now : List WordItem) (i : TokenItem) (rest all : List TokenItem) → AreFound before (i ∷ rest) all → AddsItem before i now false → BecomeWords all None
found_never before now i rest all h k path within taken =
    never_behind (map word_takes before) (map takes_of (i ∷ rest)) (k (map takes_of rest)) path within ((h.same path within).1 taken)

pub found_all : (found : List WordItem) (all : List TokenItem) → AreFound found [] all → BecomeWords all (Some found)
found_all found all h =
    (h.items, same_trans (map word_takes found) (map word_takes found ++ []) (map takes_of all) (same_eq (map word_takes found) (map word_takes found ++ []) (sym (append-nil (map word_takes found)))) h.same)
