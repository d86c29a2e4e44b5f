-- A name stands twice in a list where it is among those that were seen before it.
use Rattle.std.proofs.Common.{◌≡◌, refl, sym, ap, ◌∙◌, ℕ, ◌-◌, ◌≤◌, Bool, true, false, ◌||◌, List, [], ◌∷◌, length, get_or, take, drop, arith}
use Rattle.std.specs.Prelude.{bytes_eq}
use Rattle.std.specs.List.{list_any}
use Rattle.std.proofs.lemmas.List.{take_all}
use Rattle.std.specs.BTreeSet.{BTreeSet}
use denote.Ref.{Bor}
use Rattle.policy_text.specs.NameSets.{has_name}
use Rattle.name_maps.proofs.Put.{either_way}
use Rattle.rpl_reader.specs.Causes.{repeats}

-- a set without keys has no name
pub no_names : (s : BTreeSet (Bor (List ℕ) × ℕ × ℕ)) → s.keys ≡ [] → (q : List ℕ) (a b : ℕ) → has_name s q a b ≡ false
no_names s e q a b = rw e refl

none_in : (seen : List ℕ → Bool) → ((q : List ℕ) → seen q ≡ false) → (xs : List (List ℕ)) → list_any seen xs ≡ false
none_in seen none [] = refl
none_in seen none (x ∷ xs) = (λ j. none x j || list_any seen xs) ∙ none_in seen none xs

pub none_seen : (seen : List ℕ → Bool) → ((q : List ℕ) → seen q ≡ false) → (xs : List (List ℕ)) → (list_any seen xs || repeats xs) ≡ repeats xs
none_seen seen none xs = ap (λ (b : Bool). b || repeats xs) (none_in seen none xs)

swap : (a b s t : Bool) → ((a || b) || (s || t)) ≡ ((a || s) || (b || t))
swap true b s t = refl
swap false true true t = refl
swap false true false t = refl
swap false false s t = refl

same_way : (x y : List ℕ) → bytes_eq x y ≡ bytes_eq y x
same_way x y = sym (either_way (bytes_eq x y) x y refl)

any_either : (name : List ℕ) (seen : List ℕ → Bool) (xs : List (List ℕ)) → list_any (λ q. bytes_eq q name || seen q) xs ≡ (list_any (bytes_eq name) xs || list_any seen xs)
any_either name seen [] = refl
any_either name seen (x ∷ xs) =
    (λ j. (same_way x name j || seen x) || any_either name seen xs j) ∙ swap (bytes_eq name x) (seen x) (list_any (bytes_eq name) xs) (list_any seen xs)

turned : (a b c : Bool) → ((a || b) || c) ≡ (b || (a || c))
turned true true c = refl
turned true false c = refl
turned false true c = refl
turned false false c = refl

module _ (seen more : List ℕ → Bool) (name : List ℕ) (put : (q : List ℕ) → more q ≡ (bytes_eq q name || seen q)) (new : seen name ≡ false) where
  one_more : (xs : List (List ℕ)) → (list_any more xs || repeats xs) ≡ (list_any seen (name ∷ xs) || repeats (name ∷ xs))
  one_more xs =
      (λ j. list_any (λ q. put q j) xs || repeats xs) ∙ (λ j. any_either name seen xs j || repeats xs)
      ∙ turned (list_any (bytes_eq name) xs) (list_any seen xs) (repeats xs)
      ∙ (λ j. (sym new j || list_any seen xs) || (list_any (bytes_eq name) xs || repeats xs))

  pub goes : (rest names : List (List ℕ)) (first : List ℕ) (m : ℕ) → 1 ≤ length rest → first ≡ get_or rest 0 first → m ≡ length rest - 1 → name ≡ first
      → (list_any seen rest || repeats rest) ≡ repeats names → (list_any more (take m (drop 1 rest)) || repeats (take m (drop 1 rest))) ≡ repeats names
  goes [] names first m long is len same e = absurd (omega arith)
  goes (x ∷ xs) names first m long is len same e =
      ap (λ (ys : List (List ℕ)). list_any more ys || repeats ys) (take_all m xs (omega (arith, len))) ∙ one_more xs
      ∙ ap (λ (n : List ℕ). list_any seen (n ∷ xs) || repeats (n ∷ xs)) (same ∙ is) ∙ e

pub stops : (seen : List ℕ → Bool) (rest names : List (List ℕ)) (first name : List ℕ) → 1 ≤ length rest → first ≡ get_or rest 0 first → name ≡ first → seen name ≡ true → (list_any seen rest || repeats rest) ≡ repeats names → true ≡ repeats names
stops seen [] names first name long is same e inv = absurd (omega arith)
stops seen (x ∷ xs) names first name long is same e inv = (λ j. (sym (ap seen (sym (same ∙ is)) ∙ e) j || list_any seen xs) || repeats (x ∷ xs)) ∙ inv

-- what two steps put behind what an empty set has
pub put_both : (new mid old given named : Bool) → new ≡ (given || mid) → mid ≡ (named || old) → old ≡ false → new ≡ (given || named)
put_both new mid old given named first second none = first ∙ ap (λ (b : Bool). given || b) (second ∙ ap (λ (b : Bool). named || b) none ∙ or_false named)
  where
    or_false : (b : Bool) → (b || false) ≡ b
    or_false true = refl
    or_false false = refl
