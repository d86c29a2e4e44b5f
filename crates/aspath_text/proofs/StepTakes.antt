-- What the steps of an item take: as many numbers as the item.
use Rattle.std.proofs.Common.{◌≡◌, refl, ap, ℕ, zero, suc, ◌+◌, ◌-◌, List, ◌∷◌, ◌++◌, map, Option, Some, None, option_map, arith, replicate}
use Rattle.path_patterns.specs.Items.{Takes, AtMost}
use Rattle.path_patterns.specs.Counts.{both_most}
use Rattle.path_patterns.specs.SamePaths.{SamePaths}
use Rattle.path_patterns.specs.PathItems.{words_hold, set_takes}
use Rattle.path_patterns.specs.IosForm.{PathStep, One, More, word_takes, step_takes, further_steps, item_steps, behind_first}
use Rattle.path_patterns.specs.declared.word_item.WordItem.{WordItem}
use Rattle.path_patterns.specs.declared.pattern.DigitWord.{DigitWord}
use Rattle.path_patterns.specs.declared.pattern.Repeat.TheVariants.{Maybe}
use Rattle.path_patterns.proofs.Lists.{map_before}
use Rattle.path_patterns.proofs.SamePaths.{same_sym, same_trans, same_eq, same_behind, same_joined, same_nothing}

-- ---- copies of a step

ones : (ws : List DigitWord) (n : ℕ) (ts : List Takes) → SamePaths (map step_takes (replicate n (One ws)) ++ ts) (record { fits = words_hold ws; least = n; most = Some n } ∷ ts)
ones ws zero ts = same_sym (record { fits = words_hold ws; least = 0; most = Some 0 } ∷ ts) ts (same_nothing (words_hold ws) ts)
ones ws (suc n) ts =
    let last : List Takes = record { fits = words_hold ws; least = n; most = Some n } ∷ ts in
    let whole : List Takes = record { fits = words_hold ws; least = suc n; most = Some (suc n) } ∷ ts in
    let more : List Takes = map step_takes (replicate n (One ws)) ++ ts in
    let e : 1 + n ≡ suc n = omega arith in
    same_trans (set_takes ws ∷ more) (set_takes ws ∷ last) whole
    (same_behind (set_takes ws) more last (ones ws n ts))
    (same_joined (words_hold ws) 1 n (suc n) (Some 1) (Some n) (Some (suc n)) ts (omega arith) (omega arith) e (ap (λ (k : ℕ). Some k) e))

maybes : (ws : List DigitWord) (n : ℕ) (ts : List Takes) → SamePaths (map step_takes (replicate n (More (record { words = ws; repeat = Maybe }))) ++ ts) (record { fits = words_hold ws; least = 0; most = Some n } ∷ ts)
maybes ws zero ts = same_sym (record { fits = words_hold ws; least = 0; most = Some 0 } ∷ ts) ts (same_nothing (words_hold ws) ts)
maybes ws (suc n) ts =
    let one : Takes = record { fits = words_hold ws; least = 0; most = Some 1 } in
    let last : List Takes = record { fits = words_hold ws; least = 0; most = Some n } ∷ ts in
    let whole : List Takes = record { fits = words_hold ws; least = 0; most = Some (suc n) } ∷ ts in
    let more : List Takes = map step_takes (replicate n (More (record { words = ws; repeat = Maybe }))) ++ ts in
    let e : 1 + n ≡ suc n = omega arith in
    same_trans (one ∷ more) (one ∷ last) whole
    (same_behind one more last (maybes ws n ts))
    (same_joined (words_hold ws) 0 0 0 (Some 1) (Some n) (Some (suc n)) ts (omega arith) (omega arith) refl (ap (λ (k : ℕ). Some k) e))

-- ---- the steps of an item

further : (ws : List DigitWord) (least : ℕ) (most : Option ℕ) (ts : List Takes) → AtMost least most → SamePaths (record { fits = words_hold ws; least = least; most = Some least } ∷ (map step_takes (further_steps ws least most) ++ ts)) (record { fits = words_hold ws; least = least; most = most } ∷ ts)
further ws least None ts h =
    same_joined (words_hold ws) least 0 least (Some least) None None ts (omega arith) tt (omega arith) refl
further ws least (Some most) ts h =
    let front : Takes = record { fits = words_hold ws; least = least; most = Some least } in
    let more : List Takes = map step_takes (replicate (most - least) (More (record { words = ws; repeat = Maybe }))) ++ ts in
    let last : List Takes = record { fits = words_hold ws; least = 0; most = Some (most - least) } ∷ ts in
    let e : least + (most - least) ≡ most = omega (arith, h) in
    same_trans (front ∷ more) (front ∷ last) (record { fits = words_hold ws; least = least; most = Some most } ∷ ts)
    (same_behind front more last (maybes ws (most - least) ts))
    (same_joined (words_hold ws) least 0 least (Some least) (Some (most - least)) (Some most) ts (omega arith) (omega arith) (omega arith) (ap (λ (k : ℕ). Some k) e))

-- the steps of an item take what the item takes
pub steps_same : (i : WordItem) (ts : List Takes) → AtMost i.least i.most → SamePaths (map step_takes (item_steps i) ++ ts) (word_takes i ∷ ts)
steps_same i ts h =
    let first : List PathStep = replicate i.least (One i.words) in
    let more : List PathStep = further_steps i.words i.least i.most in
    let behind : List Takes = map step_takes more ++ ts in
    let mid : List Takes = record { fits = words_hold i.words; least = i.least; most = Some i.least } ∷ behind in
    same_trans (map step_takes (first ++ more) ++ ts) (map step_takes first ++ behind) (word_takes i ∷ ts)
    (same_eq (map step_takes (first ++ more) ++ ts) (map step_takes first ++ behind) (map_before step_takes first more ts))
    (same_trans (map step_takes first ++ behind) mid (word_takes i ∷ ts) (ones i.words i.least behind) (further i.words i.least i.most ts h))

-- the steps of an item, and then others
pub steps_and : (i : WordItem) (us : List PathStep) (ts vs : List Takes) → AtMost i.least i.most → SamePaths (map step_takes us ++ ts) vs → SamePaths (map step_takes (item_steps i ++ us) ++ ts) (word_takes i ∷ vs)
steps_and i us ts vs h k =
    let more : List Takes = map step_takes us ++ ts in
    same_trans (map step_takes (item_steps i ++ us) ++ ts) (map step_takes (item_steps i) ++ more) (word_takes i ∷ vs)
    (same_eq (map step_takes (item_steps i ++ us) ++ ts) (map step_takes (item_steps i) ++ more) (map_before step_takes (item_steps i) us ts))
    (same_trans (map step_takes (item_steps i) ++ more) (word_takes i ∷ more) (word_takes i ∷ vs) (steps_same i more h) (same_behind (word_takes i) more vs k))

-- ---- the first number of an item

less_at_most : (n : ℕ) (o : Option ℕ) → AtMost n o → AtMost (n - 1) (option_map (λ m. m - 1) o)
less_at_most n None h = tt
less_at_most n (Some m) h = omega (arith, h)

-- behind the first number the counts are those that are left
pub counts_behind : (i : WordItem) → AtMost i.least i.most → AtMost (behind_first i).least (behind_first i).most
counts_behind i h = less_at_most i.least i.most h

one_more : (o : Option ℕ) → AtMost 1 o → both_most (Some 1) (option_map (λ m. m - 1) o) ≡ o
one_more None h = refl
one_more (Some m) h = let e : 1 + (m - 1) ≡ m = omega (arith, h) in ap (λ (k : ℕ). Some k) e

-- one number and what is left are the item with at least one number
pub first_same : (i : WordItem) (least : ℕ) (ts : List Takes) → 1 + (i.least - 1) ≡ least → AtMost i.least i.most → AtMost 1 i.most → SamePaths (set_takes i.words ∷ word_takes (behind_first i) ∷ ts) (record { fits = words_hold i.words; least = least; most = i.most } ∷ ts)
first_same i least ts e counts one =
    same_joined (words_hold i.words) 1 (i.least - 1) least (Some 1) (option_map (λ m. m - 1) i.most) i.most ts (omega arith) (counts_behind i counts) e (one_more i.most one)
