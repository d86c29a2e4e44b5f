-- What an insertion into a set of pairs leaves, and which calls turn back.
use Rattle.std.proofs.Common.{◌≡◌, refl, ap, ◌∙◌, ℕ, Bool, true, false, cond, ◌&&◌, ◌||◌, List}
use Rattle.std.specs.Prelude.{bytes_eq}
use Rattle.std.specs.Cmp.Lexicographic.{slice_cmp}
use Rattle.std.specs.Ordering.{is_eq, nat_cmp, ordering_then}
use Rattle.std.specs.declared.cmp.Ordering.{Ordering}
use Rattle.std.specs.declared.cmp.Ordering.TheVariants.{Less, Equal, Greater}
use Rattle.std.specs.BTreeSet.{BTreeSet, UpdatesBy}
use Rattle.std.proofs.lemmas.Map.Text.{is_eq-slice_cmp}
use denote.Ref.{Bor}
use Rattle.policy_text.proofs.NameSets.{or_from_cond, both_equal}
use Rattle.policy_calls.specs.Callees.{has_pair}
use Rattle.policy_calls.proofs.Leads.{bytes_sym}

-- the order of two pairs: by the caller, and then by the callee
abbrev pair_order : List ℕ → List ℕ → Bor (List ℕ) × Bor (List ℕ) → Ordering
pair_order a b k = ordering_then (slice_cmp nat_cmp a k.0.now) (slice_cmp nat_cmp b k.1.now)

abbrev Pairs : Type 0
Pairs = BTreeSet (Bor (List ℕ) × Bor (List ℕ))

-- a pair that was put into a set
pub pair_added : (a b : List ℕ) (old new : Pairs) → UpdatesBy (λ x y. pair_order x.0.now x.1.now y) (pair_order a b) old new true
    → (p q : List ℕ) → has_pair new p q ≡ ((bytes_eq p a && bytes_eq q b) || has_pair old p q)
pair_added a b old new h p q =
    let key : Bor (List ℕ) × Bor (List ℕ) = (record { ref_ptr = (0, 0); now = p }, record { ref_ptr = (0, 0); now = q }) in
    let at : has_pair new p q ≡ cond (is_eq (pair_order a b key)) true (has_pair old p q) = h.0 key in
    let first : is_eq (slice_cmp nat_cmp a p) ≡ bytes_eq p a = is_eq-slice_cmp a p ∙ bytes_sym a p in
    let second : is_eq (slice_cmp nat_cmp b q) ≡ bytes_eq q b = is_eq-slice_cmp b q ∙ bytes_sym b q in
    let test : is_eq (pair_order a b key) ≡ (bytes_eq p a && bytes_eq q b) = both_equal (slice_cmp nat_cmp a p) (slice_cmp nat_cmp b q) ∙ rw (first, second) refl in
    at ∙ ap (λ (c : Bool). cond c true (has_pair old p q)) test ∙ or_from_cond (bytes_eq p a && bytes_eq q b) (has_pair old p q)
