-- What an answer that is noted leaves of those that are known.
use Rattle.std.proofs.Common.{◌≡◌, refl, sym, ap, ◌∙◌, ℕ, Bool, true, false, cond, ◌&&◌, List, Option, Some, None}
use Rattle.std.specs.Prelude.{bytes_eq, unwrap_or, ◌==◌, IfSome}
use Rattle.std.specs.Cmp.Lexicographic.{slice_cmp}
use Rattle.std.specs.Ordering.{is_eq, nat_cmp, ordering_then}
use Rattle.std.specs.declared.cmp.Ordering.{Ordering}
use Rattle.std.specs.BTreeMap.{UpdatesBy}
use Rattle.std.proofs.lemmas.Map.Text.{is_eq-slice_cmp}
use Rattle.std.proofs.lemmas.Slice.Eq.{bytes_eq-Decides}
use Rattle.std.proofs.lemmas.Bool.{eqb-true, true≢false}
use denote.Ref.{Bor}
use Rattle.policy_text.proofs.NameSets.{both_equal, bytes_sym, numbers_equal}
use Rattle.route_types.specs.Route.{RouteParts}
use Rattle.junos_tree.specs.declared.item.JunosForm.{JunosForm}
use Rattle.junos_meaning.specs.Meaning.{accepts}
use Rattle.junos_meaning.specs.Subroutines.{KnownAnswers, answer_at, AreRight}

-- the order of the keys: by the name, and then by the number of calls
abbrev pub key_order : List ℕ → ℕ → Bor (List ℕ) × ℕ → Ordering
key_order name calls k = ordering_then (slice_cmp nat_cmp name k.0.now) (nat_cmp calls k.1)

cond_elim : {A : Type 0} (b : Bool) (x y : A) → cond b x y ≡ elim b [ true ↦ x | false ↦ y ]
cond_elim true x y = refl
cond_elim false x y = refl

-- an answer that was noted
pub noted : (name : List ℕ) (calls : ℕ) (v : Bool) (old new : KnownAnswers) → UpdatesBy (λ x y. key_order x.0.now x.1 y) (key_order name calls) old new (Some v)
    → (n : ℕ) (q : List ℕ) → answer_at new n q ≡ elim (bytes_eq q name && (n == calls)) [ true ↦ Some v | false ↦ answer_at old n q ]
noted name calls v old new h n q =
    let key : Bor (List ℕ) × ℕ = (record { ref_ptr = (0, 0); now = q }, n) in
    let at : answer_at new n q ≡ cond (is_eq (key_order name calls key)) (Some v) (answer_at old n q) = h.0 key in
    let first : is_eq (slice_cmp nat_cmp name q) ≡ bytes_eq q name = is_eq-slice_cmp name q ∙ bytes_sym name q in
    let test : is_eq (key_order name calls key) ≡ (bytes_eq q name && (n == calls)) = both_equal (slice_cmp nat_cmp name q) (nat_cmp calls n) ∙ rw (first, numbers_equal calls n) refl in
    at ∙ ap (λ (c : Bool). cond c (Some v) (answer_at old n q)) test ∙ cond_elim (bytes_eq q name && (n == calls)) (Some v) (answer_at old n q)

and_first : (a b : Bool) → (a && b) ≡ true → a ≡ true
and_first true b e = refl
and_first false b e = absurd (true≢false (sym e))

and_second : (a b : Bool) → (a && b) ≡ true → b ≡ true
and_second true b e = e
and_second false b e = absurd (true≢false (sym e))

stays_by : (all : List JunosForm) (r : RouteParts) (name q : List ℕ) (calls n : ℕ) (v : Bool) (o w : Option Bool) (b : Bool)
    → (bytes_eq q name && (n == calls)) ≡ b → v ≡ accepts calls all r name → unwrap_or o (accepts n all r q) ≡ accepts n all r q → w ≡ elim b [ true ↦ Some v | false ↦ o ]
    → unwrap_or w (accepts n all r q) ≡ accepts n all r q
stays_by all r name q calls n v o w true same right old put =
    ap (λ (x : Option Bool). unwrap_or x (accepts n all r q)) put
    ∙ right
    ∙ ap (λ (k : ℕ). accepts k all r name) (sym (eqb-true n calls (and_second (bytes_eq q name) (n == calls) same)))
    ∙ ap (λ (x : List ℕ). accepts n all r x) (sym ((bytes_eq-Decides q name).0 (and_first (bytes_eq q name) (n == calls) same)))
stays_by all r name q calls n v o w false same right old put = ap (λ (x : Option Bool). unwrap_or x (accepts n all r q)) put ∙ old

-- the answers stay right where one that is right was noted
pub stay_right : (all : List JunosForm) (r : RouteParts) (old new : KnownAnswers) (name : List ℕ) (calls : ℕ) (v : Bool)
    → AreRight old all r → v ≡ accepts calls all r name
    → ((n : ℕ) (q : List ℕ) → answer_at new n q ≡ elim (bytes_eq q name && (n == calls)) [ true ↦ Some v | false ↦ answer_at old n q ]) → AreRight new all r
stay_right all r old new name calls v right is put n q = stays_by all r name q calls n v (answer_at old n q) (answer_at new n q) (bytes_eq q name && (n == calls)) refl is (right n q) (put n q)

-- no answers are right
pub none_right : (all : List JunosForm) (r : RouteParts) (m : KnownAnswers) → ((n : ℕ) (q : List ℕ) → answer_at m n q ≡ None) → AreRight m all r
none_right all r m none n q = ap (λ (x : Option Bool). unwrap_or x (accepts n all r q)) (none n q)

-- an answer that is known is right
pub known_right : (all : List JunosForm) (r : RouteParts) (m : KnownAnswers) (calls : ℕ) (name : List ℕ) (o : Option Bool)
    → o ≡ answer_at m calls name → AreRight m all r → IfSome o (λ b. b ≡ accepts calls all r name)
known_right all r m calls name None here right = tt
known_right all r m calls name (Some v) here right = ap (λ (x : Option Bool). unwrap_or x (accepts calls all r name)) here ∙ right calls name
