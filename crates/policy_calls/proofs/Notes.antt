-- Names noted one after the other, and a search that follows the calls of one more.
use Rattle.std.proofs.Common.{◌≡◌, refl, sym, ap, ◌∙◌, subst, ℕ, zero, suc, ◌+◌, ◌-◌, ◌<◌, ◌≤◌, Bool, true, false, ◌||◌, ◌⊎◌, inl, inr, List, [], ◌∷◌, ◌++◌, length, get_or, take, drop, arith}
use Rattle.std.specs.Prelude.{bytes_eq}
use Rattle.std.proofs.lemmas.List.{map-append, take_all, take-append-le, take_more, append_assoc}
use Rattle.std.proofs.lemmas.List.Folds.{list_any-append}
use denote.Ref.{Bor}
use Rattle.policy_text.specs.NameSets.{has_name, is_key}
use Rattle.policy_calls.specs.Callees.{nows, Callees, callees_at}
use Rattle.policy_calls.specs.Search.{Names, among, AreSame, IsNoting, IsSearching, IsClosure}
use Rattle.policy_calls.proofs.Leads.{or_cases, or_left, or_right, same, bytes_refl}

-- ---- one name

pub pushed_among : (order pushed : List (Bor (List ℕ))) (c : Bor (List ℕ)) (q : List ℕ) → pushed ≡ order ++ c ∷ [] → among (nows pushed) q ≡ (bytes_eq q c.now || among (nows order) q)
pushed_among order pushed c q e =
    ap (λ (ns : List (Bor (List ℕ))). among (nows ns) q) e ∙ ap (λ (ns : List (List ℕ)). among ns q) (map-append (λ (n : Bor (List ℕ)). n.now) order (c ∷ []))
    ∙ list_any-append (bytes_eq q) (nows order) (c.now ∷ []) ∙ turned (among (nows order) q) (bytes_eq q c.now)
  where
    turned : (a b : Bool) → (a || (b || false)) ≡ (b || a)
    turned true true = refl
    turned true false = refl
    turned false true = refl
    turned false false = refl

absorbed : (a b : Bool) → (a ≡ true → b ≡ true) → b ≡ ((a || false) || b)
absorbed true b h = h refl
absorbed false b h = refl

-- a name that has been noted before
pub noted_before : (order : List (Bor (List ℕ))) (seen : Names) (name : List ℕ) → AreSame seen order → has_name seen name 0 0 ≡ true → IsNoting order (name ∷ []) [] order seen
noted_before order seen name are has = record {
  same = are;
  added = λ q. absorbed (bytes_eq q name) (among (nows order) q) (λ e. subst (λ (x : List ℕ). among (nows order) x ≡ true) (sym (same q name e)) (sym (are name) ∙ has));
  kept = ([], grown order);
}
  where
    grown : (xs : List (Bor (List ℕ))) → xs ≡ xs ++ []
    grown [] = refl
    grown (x ∷ xs) = ap (λ (ys : List (Bor (List ℕ))). x ∷ ys) (grown xs)

pair_or : (a b : Bool) → (a || b) ≡ ((a || false) || b)
pair_or true b = refl
pair_or false b = refl

-- a name that is new
pub noted_now : (order pushed : List (Bor (List ℕ))) (seen more : Names) (c : Bor (List ℕ)) → AreSame seen order → pushed ≡ order ++ c ∷ []
    → ((q : List ℕ) (s n : ℕ) → has_name more q s n ≡ (is_key q s n c.now 0 0 || has_name seen q s n)) → IsNoting order (c.now ∷ []) [] pushed more
noted_now order pushed seen more c are e put = record {
  same = λ q. put q 0 0 ∙ ap (λ (b : Bool). bytes_eq q c.now || b) (are q) ∙ sym (pushed_among order pushed c q e);
  added = λ q. pushed_among order pushed c q e ∙ pair_or (bytes_eq q c.now) (among (nows order) q);
  kept = (c ∷ [], e);
}

-- ---- several names

shifted : (a b c : Bool) → (a || ((b || false) || c)) ≡ ((b || a) || c)
shifted true true c = refl
shifted true false c = refl
shifted false true c = refl
shifted false false c = refl

pub nothing_noted : (old : List (Bor (List ℕ))) (all : List (List ℕ)) (seen : Names) → AreSame seen old → IsNoting old all all old seen
nothing_noted old all seen are = record { same = are; added = λ q. refl; kept = ([], grown old) }
  where
    grown : (xs : List (Bor (List ℕ))) → xs ≡ xs ++ []
    grown [] = refl
    grown (x ∷ xs) = ap (λ (ys : List (Bor (List ℕ))). x ∷ ys) (grown xs)

noted_on : (old order next : List (Bor (List ℕ))) (all rest : List (List ℕ)) (f : List ℕ) (seen more : Names) → IsNoting old all (f ∷ rest) order seen → IsNoting order (f ∷ []) [] next more → IsNoting old all rest next more
noted_on old order next all rest f seen more before one = record {
  same = one.same;
  added = λ q. ap (λ (b : Bool). among rest q || b) (one.added q) ∙ shifted (among rest q) (bytes_eq q f) (among (nows order) q) ∙ before.added q;
  kept = (before.kept.0 ++ one.kept.0, one.kept.1 ∙ ap (λ (ns : List (Bor (List ℕ))). ns ++ one.kept.0) before.kept.1 ∙ append_assoc old before.kept.0 one.kept.0);
}

-- the first of the names that are left is noted
pub noted_first : (old order next : List (Bor (List ℕ))) (all : List (List ℕ)) (rest : List (Bor (List ℕ))) (first : Bor (List ℕ)) (m : ℕ) (seen more : Names) → IsNoting old all (nows rest) order seen
    → 1 ≤ length rest → first ≡ get_or rest 0 first → m ≡ length rest - 1 → IsNoting order (first.now ∷ []) [] next more → IsNoting old all (nows (take m (drop 1 rest))) next more
noted_first old order next all [] first m seen more before long is m-is one = absurd (omega arith)
noted_first old order next all (f ∷ fs) first m seen more before long is m-is one =
    let whole : take m fs ≡ fs = take_all m fs (omega (arith, m-is)) in
    rw whole (noted_on old order next all (nows fs) f.now seen more before (subst (λ (x : Bor (List ℕ)). IsNoting order (x.now ∷ []) [] next more) is one))

pub all_noted : (old order : List (Bor (List ℕ))) (all : List (List ℕ)) (rest : List (Bor (List ℕ))) (seen : Names) → IsNoting old all (nows rest) order seen → length rest < 1 → IsNoting old all [] order seen
all_noted old order all [] seen before short = before
all_noted old order all (f ∷ fs) seen before short = absurd (omega arith)

-- ---- the search

module _ (m : Callees) (names : List (List ℕ)) where
  -- the names have been noted, and no call has been followed
  pub search_starts : (order : List (Bor (List ℕ))) (seen : Names) → IsNoting [] names [] order seen → IsSearching m names order seen 0
  search_starts order seen noted = record {
    same = noted.same;
    starts = λ q h. noted.added q ∙ or_left (among names q) false h;
    least = λ other has closed q h. has q (only_left (among names q) (sym (noted.added q) ∙ h));
    closed = λ p q h k. absurd cc;
  }
    where
      only_left : (a : Bool) → (a || false) ≡ true → a ≡ true
      only_left true e = refl
      only_left false e = absurd cc

  module _ (order next : List (Bor (List ℕ))) (seen more : Names) (k : ℕ) (name : Bor (List ℕ)) (searching : IsSearching m names order seen k) (below : k < length order) (is : name ≡ get_or order k name)
      (noted : IsNoting order (callees_at m name.now) [] next more) where
    in_order : (xs : List (Bor (List ℕ))) (i : ℕ) (d : Bor (List ℕ)) → i < length xs → among (nows xs) (get_or xs i d).now ≡ true
    in_order [] i d lt = absurd (omega arith)
    in_order (x ∷ xs) zero d lt = or_left (bytes_eq x.now x.now) (among (nows xs) x.now) (bytes_refl x.now)
    in_order (x ∷ xs) (suc i) d lt = or_right (bytes_eq (get_or xs i d).now x.now) (among (nows xs) (get_or xs i d).now) (in_order xs i d (omega arith))

    has_name_here : among (nows order) name.now ≡ true
    has_name_here = subst (λ (x : Bor (List ℕ)). among (nows order) x.now ≡ true) (sym is) (in_order order k name below)

    grows : (q : List ℕ) → among (nows order) q ≡ true → among (nows next) q ≡ true
    grows q h = noted.added q ∙ or_right (among (callees_at m name.now) q) (among (nows order) q) h

    front : take (k + 1) next ≡ take k order ++ name ∷ []
    front =
        ap (λ (xs : List (Bor (List ℕ))). take (k + 1) xs) noted.kept.1 ∙ take-append-le (k + 1) order noted.kept.0 (omega arith) ∙ take_more order k name below
        ∙ ap (λ (x : Bor (List ℕ)). take k order ++ x ∷ []) (sym is)

    from_front : (p : List ℕ) → among (nows (take (k + 1) next)) p ≡ true → (among (nows (take k order)) p ≡ true) ⊎ (p ≡ name.now)
    from_front p h =
        let split : (bytes_eq p name.now || among (nows (take k order)) p) ≡ true = sym (pushed_among (take k order) (take (k + 1) next) name p front) ∙ h in
        elim (or_cases (bytes_eq p name.now) (among (nows (take k order)) p) split) [ inl e ↦ inr (same p name.now e) | inr e ↦ inl e ]

    pub search_goes : IsSearching m names next more (k + 1)
    search_goes = record {
      same = noted.same;
      starts = λ q h. grows q (searching.starts q h);
      least = λ other has closed q h. elim (or_cases (among (callees_at m name.now) q) (among (nows order) q) (sym (noted.added q) ∙ h)) [
        | inl called ↦ closed name.now q (searching.least other has closed name.now has_name_here) called
        | inr old ↦ searching.least other has closed q old
      ];
      closed = λ p q h called. elim (from_front p h) [
        | inl before ↦ grows q (searching.closed p q before called)
        | inr here ↦ noted.added q ∙ or_left (among (callees_at m name.now) q) (among (nows order) q) (subst (λ (x : List ℕ). among (callees_at m x) q ≡ true) here called)
      ];
    }

  -- the calls of all names have been followed
  pub search_ends : (order : List (Bor (List ℕ))) (seen : Names) (k : ℕ) → IsSearching m names order seen k → length order ≤ k → IsClosure m names seen
  search_ends order seen k searching above = record {
    starts = λ q h. searching.same q ∙ searching.starts q h;
    closed = λ p q h called. searching.same q ∙ searching.closed p q (ap (λ (xs : List (Bor (List ℕ))). among (nows xs) p) (take_all k order above) ∙ sym (searching.same p) ∙ h) called;
    least = λ other has closed q h. searching.least other has closed q (sym (searching.same q) ∙ h);
  }
