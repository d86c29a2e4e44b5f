-- What an insertion into a set of prefixes leaves.
use Rattle.std.proofs.Common.{◌≡◌, refl, sym, ap, subst, ◌∙◌, ℕ, Bool, true, false, cond, ◌&&◌, ◌||◌, inl, inr, arith}
use Rattle.std.specs.Prelude.{◌==◌}
use Rattle.std.specs.Ordering.{is_eq, nat_cmp, ordering_then}
use Rattle.std.specs.declared.cmp.Ordering.{Ordering}
use Rattle.std.specs.declared.cmp.Ordering.TheVariants.{Less, Equal, Greater}
use Rattle.std.specs.BTreeSet.{BTreeSet, UpdatesBy}
use Rattle.std.proofs.lemmas.Bool.{cases_order, lt-ltb, le-ltb, eq-eqb, ne_eqb}
use Rattle.policy_text.proofs.NameSets.{or_from_cond, both_equal, numbers_equal}
use Rattle.route_types.specs.Address.{PrefixParts, width}
use Rattle.junos_reader.specs.Forms.{same_prefix}
use Rattle.junos_reader.specs.Known.{has_prefix}

-- the order of two prefixes, by their numbers
abbrev prefix_order : ℕ → ℕ → ℕ → ℕ × ℕ × ℕ → Ordering
prefix_order w b n k = ordering_then (ordering_then (nat_cmp w k.0) (nat_cmp b k.1)) (nat_cmp n k.2)

abbrev Prefixes : Type 0
Prefixes = BTreeSet (ℕ × ℕ × ℕ)

-- a prefix that was put into a set
pub prefix_added : (p : PrefixParts) (old new : Prefixes) → UpdatesBy (λ x y. prefix_order x.0 x.1 x.2 y) (prefix_order (width p.address.family) p.address.bits p.length) old new true
    → (q : PrefixParts) → has_prefix new q ≡ (same_prefix q p || has_prefix old q)
prefix_added p old new h q =
    let key : ℕ × ℕ × ℕ = (width q.address.family, q.address.bits, q.length) in
    let w = nat_cmp (width p.address.family) (width q.address.family) in
    let b = nat_cmp p.address.bits q.address.bits in
    let n = nat_cmp p.length q.length in
    let at : has_prefix new q ≡ cond (is_eq (prefix_order (width p.address.family) p.address.bits p.length key)) true (has_prefix old q) = h.0 key in
    let test : is_eq (ordering_then (ordering_then w b) n) ≡ same_prefix q p =
    both_equal (ordering_then w b) n ∙ ap (λ (t : Bool). t && is_eq n) (both_equal w b)
    ∙ rw (numbers_equal (width p.address.family) (width q.address.family), numbers_equal p.address.bits q.address.bits, numbers_equal p.length q.length) refl in
    at ∙ ap (λ (t : Bool). cond t true (has_prefix old q)) test ∙ or_from_cond (same_prefix q p) (has_prefix old q)

-- the same, with the numbers as the code has made them
pub prefix_put : (p : PrefixParts) (key : ℕ × ℕ × ℕ) → key ≡ (width p.address.family, p.address.bits, p.length) → (old new : Prefixes)
    → UpdatesBy (λ x y. prefix_order x.0 x.1 x.2 y) (prefix_order key.0 key.1 key.2) old new true → (q : PrefixParts) → has_prefix new q ≡ (same_prefix q p || has_prefix old q)
prefix_put p key e old new h =
    let P : ℕ × ℕ × ℕ → Type 0 = λ k. UpdatesBy (λ x y. prefix_order x.0 x.1 x.2 y) (prefix_order k.0 k.1 k.2) old new true in
    prefix_added p old new (subst P e h)
