-- What an insertion into a set of names leaves.
use Rattle.std.proofs.Common.{◌≡◌, refl, sym, ap, ◌∙◌, ℕ, Bool, true, false, cond, ◌&&◌, ◌||◌, List, [], ◌∷◌, inl, inr, arith}
use Rattle.std.specs.Prelude.{bytes_eq, ◌==◌}
use Rattle.std.specs.Cmp.{nat_eq_equiv}
use Rattle.std.specs.Cmp.Lexicographic.{slice_cmp}
use Rattle.std.specs.Ordering.{is_eq, nat_cmp, ordering_then}
use Rattle.std.specs.declared.cmp.Ordering.{Ordering}
use Rattle.std.specs.declared.cmp.Ordering.TheVariants.{Less, Equal, Greater}
use Rattle.std.specs.BTreeSet.{BTreeSet, UpdatesBy}
use Rattle.std.proofs.lemmas.Bool.{cases_order, lt-ltb, le-ltb, eq-eqb, ne_eqb}
use Rattle.std.proofs.lemmas.Map.Text.{is_eq-slice_cmp}
use denote.Ref.{Bor}
use Rattle.policy_text.specs.NameSets.{has_name, is_key}

pub bytes_sym : (xs ys : List ℕ) → bytes_eq xs ys ≡ bytes_eq ys xs
bytes_sym [] [] = refl
bytes_sym [] (y ∷ ys) = refl
bytes_sym (x ∷ xs) [] = refl
bytes_sym (x ∷ xs) (y ∷ ys) = rw (nat_eq_equiv.symm x y, bytes_sym xs ys) refl

pub or_from_cond : (b x : Bool) → cond b true x ≡ (b || x)
or_from_cond true x = refl
or_from_cond false x = refl

pub both_equal : (o p : Ordering) → is_eq (ordering_then o p) ≡ (is_eq o && is_eq p)
both_equal Less p = refl
both_equal Equal p = refl
both_equal Greater p = refl

and_none : (b : Bool) → (b && false) ≡ false
and_none true = refl
and_none false = refl

pub numbers_equal : (m n : ℕ) → is_eq (nat_cmp m n) ≡ (n == m)
numbers_equal m n =
    elim (cases_order m n) [
      | inl same ↦ rw (le-ltb m n (omega arith), eq-eqb m n same, eq-eqb n m (sym same)) refl
      | inr apart ↦ elim apart [
        | inl lt ↦ rw (lt-ltb m n lt, ne_eqb n m (λ e. absurd (omega arith))) refl
        | inr gt ↦ rw (le-ltb m n (omega arith), ne_eqb m n (λ e. absurd (omega arith)), ne_eqb n m (λ e. absurd (omega arith))) refl
      ]
    ]

turned : (a b c : Bool) → (a && b && c) ≡ (c && b && a)
turned true true true = refl
turned true true false = refl
turned true false true = refl
turned true false false = refl
turned false b true = sym (and_none b)
turned false b false = refl

-- the order of two keys: by the name, the sort and the number
abbrev key_order : List ℕ → ℕ → ℕ → Bor (List ℕ) × ℕ × ℕ → Ordering
key_order name sort number k = ordering_then (ordering_then (slice_cmp nat_cmp name k.0.now) (nat_cmp sort k.1)) (nat_cmp number k.2)

abbrev Keys : Type 0
Keys = BTreeSet (Bor (List ℕ) × ℕ × ℕ)

-- a name that was put into a set
pub name_added : (bs : List ℕ) (sort number : ℕ) (old new : Keys) → UpdatesBy (λ x y. key_order x.0.now x.1 x.2 y) (key_order bs sort number) old new true
    → (q : List ℕ) (s n : ℕ) → has_name new q s n ≡ (is_key q s n bs sort number || has_name old q s n)
name_added bs sort number old new h q s n =
    let key : Bor (List ℕ) × ℕ × ℕ = (record { ref_ptr = (0, 0); now = q }, s, n) in
    let at : has_name new q s n ≡ cond (is_eq (key_order bs sort number key)) true (has_name old q s n) = h.0 key in
    let names : is_eq (slice_cmp nat_cmp bs q) ≡ bytes_eq q bs = is_eq-slice_cmp bs q ∙ bytes_sym bs q in
    let test : is_eq (key_order bs sort number key) ≡ is_key q s n bs sort number =
    both_equal (ordering_then (slice_cmp nat_cmp bs q) (nat_cmp sort s)) (nat_cmp number n)
    ∙ rw (both_equal (slice_cmp nat_cmp bs q) (nat_cmp sort s), numbers_equal number n, numbers_equal sort s, names) (turned (bytes_eq q bs) (s == sort) (n == number)) in
    at ∙ ap (λ (b : Bool). cond b true (has_name old q s n)) test ∙ or_from_cond (is_key q s n bs sort number) (has_name old q s n)
