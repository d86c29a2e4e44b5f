-- What stands under each name behind an insertion.
use Rattle.std.proofs.Common.{◌≡◌, refl, sym, ap, ◌∙◌, ℕ, Bool, true, false, cond, List, Option, Some, None}
use Rattle.std.specs.Prelude.{bytes_eq, is_some}
use Rattle.std.specs.Borrow.{Bor}
use Rattle.std.specs.Ordering.{nat_cmp}
use Rattle.std.specs.Cmp.Lexicographic.{slice_cmp}
use Rattle.std.specs.BTreeMap.{BTreeMap, UpdatesBy}
use Rattle.std.proofs.lemmas.Bool.{true≢false}
use Rattle.std.proofs.lemmas.Slice.Eq.{bytes_eq-Decides}
use Rattle.std.proofs.lemmas.Map.Text.{btree_map_updates_str}
use Rattle.name_maps.specs.Under.{under, first_of}

-- the second map is the first with this under the name
abbrev pub Updated : {X : Type 0} → List ℕ → BTreeMap (Bor (List ℕ)) X → BTreeMap (Bor (List ℕ)) X → Option X → Type 0
Updated name m n w = UpdatesBy (λ x y. slice_cmp nat_cmp x.now y.now) (λ k. slice_cmp nat_cmp name k.now) m n w

-- the test whether two names are one doesn't depend on their order
pub either_way : (b : Bool) (xs ys : List ℕ) → bytes_eq xs ys ≡ b → bytes_eq ys xs ≡ b
either_way true xs ys e = (bytes_eq-Decides ys xs).1 (sym ((bytes_eq-Decides xs ys).0 e))
either_way false xs ys e = same_false (bytes_eq ys xs) refl
  where
    same_false : (b : Bool) → bytes_eq ys xs ≡ b → b ≡ false
    same_false true h = sym ((bytes_eq-Decides xs ys).1 (sym ((bytes_eq-Decides ys xs).0 h))) ∙ e
    same_false false h = refl

put_by : {X : Type 0} (m n : BTreeMap (Bor (List ℕ)) X) (name q : List ℕ) (v : X) (b : Bool) → bytes_eq q name ≡ b → Updated name m n (Some v) → under n q ≡ elim b [ true ↦ Some v | false ↦ under m q ]
put_by {X} m n name q v true e up = btree_map_updates_str name m n (Some v) up q ∙ ap (λ (t : Bool). cond t (Some v) (under m q)) (either_way true q name e)
put_by {X} m n name q v false e up = btree_map_updates_str name m n (Some v) up q ∙ ap (λ (t : Bool). cond t (Some v) (under m q)) (either_way false q name e)

-- the value stands under the name, and under each other name what stood there
pub put_under : {X : Type 0} (m n : BTreeMap (Bor (List ℕ)) X) (name : List ℕ) (v : X) → Updated name m n (Some v) → (q : List ℕ) → under n q ≡ elim (bytes_eq q name) [ true ↦ Some v | false ↦ under m q ]
put_under m n name v up q = put_by m n name q v (bytes_eq q name) refl up

first_by : {X : Type 0} (m : BTreeMap (Bor (List ℕ)) X) (name q : List ℕ) (v : X) (b : Bool) → bytes_eq q name ≡ b → under m name ≡ None
    → ◌≡◌ {A = Option X} (elim b [ true ↦ Some v | false ↦ under m q ]) (elim b [ true ↦ first_of (under m q) v | false ↦ under m q ])
first_by {X} m name q v true e none = sym (ap (λ (o : Option X). first_of o v) (ap (λ (x : List ℕ). under m x) ((bytes_eq-Decides q name).0 e) ∙ none))
first_by m name q v false e none = refl

-- where nothing stood under the name the value is the first one there
pub put_first_under : {X : Type 0} (m n : BTreeMap (Bor (List ℕ)) X) (name : List ℕ) (v : X) → under m name ≡ None → Updated name m n (Some v)
    → (q : List ℕ) → under n q ≡ elim (bytes_eq q name) [ true ↦ first_of (under m q) v | false ↦ under m q ]
put_first_under m n name v none up q = put_under m n name v up q ∙ first_by m name q v (bytes_eq q name) refl none

-- what isn't there is None
pub none_there : {X : Type 0} (o : Option X) → is_some o ≡ false → o ≡ None
none_there None e = refl
none_there (Some x) e = absurd (true≢false e)

kept_by : {X : Type 0} (m : BTreeMap (Bor (List ℕ)) X) (name q : List ℕ) (v : X) (b : Bool) → bytes_eq q name ≡ b → is_some (under m name) ≡ true
    → under m q ≡ elim b [ true ↦ first_of (under m q) v | false ↦ under m q ]
kept_by {X} m name q v true e there = first_is (under m q) (ap (λ (x : List ℕ). is_some (under m x)) ((bytes_eq-Decides q name).0 e) ∙ there)
  where
    first_is : (o : Option X) → is_some o ≡ true → o ≡ first_of o v
    first_is (Some x) h = refl
    first_is None h = absurd (true≢false (sym h))
kept_by m name q v false e there = refl

-- where something stood under the name it stays
pub kept_under : {X : Type 0} (m : BTreeMap (Bor (List ℕ)) X) (name : List ℕ) (v : X) → is_some (under m name) ≡ true
    → (q : List ℕ) → under m q ≡ elim (bytes_eq q name) [ true ↦ first_of (under m q) v | false ↦ under m q ]
kept_under m name v there q = kept_by m name q v (bytes_eq q name) refl there
