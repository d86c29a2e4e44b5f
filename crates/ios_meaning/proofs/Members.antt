-- Communities in order: a search finds those that are there, and tests of sets by members.
use Rattle.std.proofs.Common.{◌≡◌, refl, sym, ap, ◌∙◌, ℕ, suc, zero, ◌<◌, ◌≤◌, Bool, true, false, ◌&&◌, ◌||◌, List, [], ◌∷◌, length, get_or, arith, inl, inr, ◌⊎◌, Result, Ok, Err}
use Rattle.std.specs.Prelude.{◌==◌, is_ok, map}
use Rattle.std.specs.List.{list_any, list_all}
use Rattle.std.specs.Ordering.{nat_cmp}
use Rattle.std.specs.declared.cmp.Ordering.TheVariants.{Less, Equal, Greater}
use Rattle.std.specs.List.Sorted.{IsSortedByKey, IsBinarySearchResult, IsSearchInRange, IsPartitionPoint, IsPermutation}
use Rattle.std.proofs.lemmas.Bool.{eq-eqb, cases_order, cases_lt}
use Rattle.std.proofs.lemmas.List.Folds.{list_any_at, list_any_none}
use Rattle.std.proofs.lemmas.List.Sorted.{list_any-IsPermutation, searchable_from_sorted}
use Rattle.std.proofs.lemmas.List.Elements.{All-from_all_within}
use Rattle.std.proofs.lemmas.Cmp.{nat_cmp_total}
use Rattle.route_types.specs.Community.{IsAscending, fits}
use Rattle.route_types.specs.declared.community.Community.{Community}
use Rattle.community_sets.specs.Tests.{all_fitted, is_member, same_set, test_holds}
use Rattle.ios_tree.specs.declared.item.CommunityShape.{CommunityShape}
use Rattle.ios_tree.specs.declared.item.CommunityShape.TheVariants.{Standard}
use Rattle.route_types.proofs.Sets.{Order}
use Rattle.ios_meaning.specs.Lists.{single, test_of}
use Rattle.ios_meaning.proofs.Alike.{any_alike, all_alike}
use native.Mathlib.Numerals.{unary_clauses}

-- the number is that of a member
abbrev pub has : ℕ → List Community → Bool
has n cs = list_any (λ c. c.0 == n) cs

-- communities that rise are in order
pub ordered : (cs : List Community) → IsAscending cs → IsSortedByKey (λ c. c.0) nat_cmp cs
ordered [] h k d low high = absurd (omega arith)
ordered (c ∷ []) h k d low high = absurd (omega arith)
ordered (c ∷ e ∷ cs) h zero d low high = grind (arith, h.0)
ordered (c ∷ e ∷ cs) h (suc k) d low high = simp unary_clauses (simp unary_clauses at (ordered (e ∷ cs) h.1 k d (omega arith) (omega arith)))

-- ---- a search in order

equal_by : (a b : ℕ) → Order a b → nat_cmp a b ≡ Equal → a ≡ b
equal_by a b (inl e) h = e
equal_by a b (inr (inl l)) h = absurd (grind arith)
equal_by a b (inr (inr g)) h = absurd (grind arith)

less_is : (a b : ℕ) → nat_cmp a b ≡ Less → (a == b) ≡ false
less_is a b h = grind arith

greater_is : (a b : ℕ) → nat_cmp a b ≡ Greater → (a == b) ≡ false
greater_is a b h = grind arith

not_there : (x i : ℕ) (cs : List Community) → IsPartitionPoint (λ y. nat_cmp y.0 x ≡ Less) (λ y. nat_cmp y.0 x ≡ Greater) cs i → (k : ℕ) (d : Community) → 0 ≤ k → k < length cs → ((k < i) ⊎ (i ≤ k)) → ((get_or cs k d).0 == x) ≡ false
not_there x i cs split k d low high (inl l) = less_is (get_or cs k d).0 x (split.0 k d low l)
not_there x i cs split k d low high (inr g) = greater_is (get_or cs k d).0 x (split.1 k d g high)

-- what a search in order answers is whether the number is that of a member
pub found_member : (x : ℕ) (cs : List Community) (r : Result ℕ ℕ) → IsSortedByKey (λ c. c.0) nat_cmp cs → IsSearchInRange r (length cs) → IsBinarySearchResult (λ y. nat_cmp y.0 x) cs r → is_ok r ≡ has x cs
found_member x cs (Ok i) h inside found =
    let d : Community = record { 0 = x } in
    sym (list_any_at (λ c. c.0 == x) cs i d inside (eq-eqb (get_or cs i d).0 x (equal_by (get_or cs i d).0 x (cases_order (get_or cs i d).0 x) (found d))))
found_member x cs (Err i) h inside found =
    let split = found (searchable_from_sorted nat_cmp_total (λ (c : Community). c.0) cs x h) in
    sym (list_any_none (λ c. c.0 == x) cs (All-from_all_within (λ c. (c.0 == x) ≡ false) cs (λ k d low high. not_there x i cs split k d low high (cases_lt k i))))

-- ---- tests of sets

either_way : (a b : ℕ) → (a == b) ≡ (b == a)
either_way a b = grind arith

fits_single : (c d : Community) → fits (single c) d ≡ (d.0 == c.0)
fits_single c d = grind arith

all_fitted_singles : (cs ds : List Community) → all_fitted (map single cs) ds ≡ list_all (λ m. has m.0 ds) cs
all_fitted_singles [] ds = refl
all_fitted_singles (c ∷ cs) ds = ap (λ (b : Bool). b && all_fitted (map single cs) ds) (any_alike (fits (single c)) (λ d. d.0 == c.0) (fits_single c) ds) ∙ ap (λ (b : Bool). has c.0 ds && b) (all_fitted_singles cs ds)

is_member-has : (c : Community) (cs : List Community) → is_member c cs ≡ has c.0 cs
is_member-has c cs = any_alike (λ d. c.0 == d.0) (λ d. d.0 == c.0) (λ d. either_way c.0 d.0) cs

-- members and communities are one set where each is among the others, in whatever order
same_set_by : (ms sorted cs : List Community) → IsPermutation ms sorted → same_set ms cs ≡ (list_all (λ m. has m.0 cs) ms && list_all (λ c. has c.0 sorted) cs)
same_set_by ms sorted cs moved =
    ap (λ (b : Bool). b && list_all (λ c. is_member c ms) cs) (all_alike (λ m. is_member m cs) (λ m. has m.0 cs) (λ m. is_member-has m cs) ms)
    ∙ ap (λ (b : Bool). list_all (λ m. has m.0 cs) ms && b)
    (all_alike (λ c. is_member c ms) (λ c. has c.0 sorted) (λ c. is_member-has c ms ∙ list_any-IsPermutation (λ m. m.0 == c.0) ms sorted moved) cs)

-- the same, for what two walks over members found
pub same_set_found : (ms sorted cs : List Community) (a b : Bool) → IsPermutation ms sorted → a ≡ list_all (λ m. has m.0 cs) ms → a ≡ true → b ≡ list_all (λ c. has c.0 sorted) cs → b ≡ same_set ms cs
same_set_found ms sorted cs a b moved first here second =
    second ∙ ap (λ (t : Bool). t && list_all (λ c. has c.0 sorted) cs) (sym here ∙ first) ∙ sym (same_set_by ms sorted cs moved)

-- an entry of a standard list holds where all its members are there
pub standard_holds : (shape : CommunityShape) (members ms cs : List Community) (exact r : Bool) → shape ≡ Standard members → exact ≡ false → ms ≡ members → r ≡ list_all (λ m. has m.0 cs) ms → r ≡ test_holds (test_of exact shape) cs
standard_holds shape members ms cs exact r s x e found = rw (s, x) (found ∙ ap (λ (xs : List Community). list_all (λ m. has m.0 cs) xs) e ∙ sym (all_fitted_singles members cs))

-- a community alone has all members where each is the community
pub standard_alone : (members : List Community) (c : Community) → list_all (λ m. m.0 == c.0) members ≡ all_fitted (map single members) (c ∷ [])
standard_alone members c = all_alike (λ m. m.0 == c.0) (λ m. has m.0 (c ∷ [])) (λ m. alone m.0 c.0) members ∙ sym (all_fitted_singles members (c ∷ []))
  where
    alone : (a b : ℕ) → (a == b) ≡ ((b == a) || false)
    alone a b = grind arith
