-- Ranks that fall along all calls, and in each of which one policy leads to the others and back, show which calls lead back.
use Rattle.std.proofs.Common.{◌≡◌, refl, sym, ap, ◌∙◌, subst, ℕ, ◌<◌, ◌≤◌, Bool, true, false, ◌&&◌, ◌||◌, inl, inr, List, [], ◌∷◌, arith}
use Rattle.std.specs.Prelude.{bytes_eq, ◌==◌, nat_le, nat_lt}
use Rattle.std.specs.List.{list_any, list_all}
use Rattle.std.proofs.lemmas.Bool.{and_parts, eqb-true, eq-eqb, leb-true, le-leb, ltb-true}
use Rattle.policy_text.specs.NameSets.{has_name}
use Rattle.policy_calls.specs.Calls.{Link, is_link, has_link, leads, is_reached, leads_to_some, turns_back}
use Rattle.policy_calls.specs.Callees.{link_of, links_of}
use Rattle.policy_calls.specs.Search.{Names, among}
use Rattle.policy_calls.specs.Ranks.{falls, level, are_between, rise_above, are_apart}
use Rattle.policy_calls.specs.declared.call.Call.{Call}
use Rattle.policy_calls.proofs.Leads.{or_cases, or_left, or_right, both, bytes_refl, same, same_tests, leads_refl, leads_on, leads_within, leads_trans}

-- ---- the calls that turn back

one_turns : (p q : List ℕ) (l : Link) (ks : List Link) (b : Bool) → is_link p q l ≡ b → (b && leads ks l.callee l.caller) ≡ (b && leads ks q p)
one_turns p q l ks false e = refl
one_turns p q l ks true e =
    let is = and_parts (bytes_eq p l.caller) (bytes_eq q l.callee) e in
    (λ j. leads ks (sym (same q l.callee is.1) j) (sym (same p l.caller is.0) j))

spread : (a b c : Bool) → ((a && c) || (b && c)) ≡ ((a || b) && c)
spread true true true = refl
spread true true false = refl
spread true false true = refl
spread true false false = refl
spread false b c = refl

turn_among : (p q : List ℕ) (ks ls : List Link) → list_any (λ l. is_link p q l && leads ks l.callee l.caller) ls ≡ (has_link ls p q && leads ks q p)
turn_among p q ks [] = refl
turn_among p q ks (l ∷ ls) =
    (λ j. one_turns p q l ks (is_link p q l) refl j || turn_among p q ks ls j) ∙ spread (is_link p q l) (has_link ls p q) (leads ks q p)

module _ (rank : List ℕ → ℕ) where
  -- ---- the calls that stay in their rank

  level_by : (b : Bool) (d : Call) (ds : List Call) (p q : List ℕ) → (rank d.callee.now == rank d.caller.now) ≡ b → (has_link (links_of (level rank ds)) p q ≡ true → (has_link (links_of ds) p q ≡ true) × (rank p ≡ rank q))
      → has_link (links_of (elim b [ true ↦ d ∷ level rank ds | false ↦ level rank ds ])) p q ≡ true → (has_link (links_of (d ∷ ds)) p q ≡ true) × (rank p ≡ rank q)
  level_by true d ds p q e rest h = elim (or_cases (is_link p q (link_of d)) (has_link (links_of (level rank ds)) p q) h) [
    | inl here ↦
        let is = and_parts (bytes_eq p d.caller.now) (bytes_eq q d.callee.now) here in
        let stays : rank d.callee.now ≡ rank d.caller.now = eqb-true (rank d.callee.now) (rank d.caller.now) e in
        (or_left (is_link p q (link_of d)) (has_link (links_of ds) p q) here, ap rank (same p d.caller.now is.0) ∙ sym stays ∙ sym (ap rank (same q d.callee.now is.1)))
    | inr there ↦ let r = rest there in (or_right (is_link p q (link_of d)) (has_link (links_of ds) p q) r.0, r.1)
  ]
  level_by false d ds p q e rest h = let r = rest h in (or_right (is_link p q (link_of d)) (has_link (links_of ds) p q) r.0, r.1)

  level_has : (ds : List Call) (p q : List ℕ) → has_link (links_of (level rank ds)) p q ≡ true → (has_link (links_of ds) p q ≡ true) × (rank p ≡ rank q)
  unfolding level
  level_has [] p q h = absurd cc
  level_has (d ∷ ds) p q h = level_by (rank d.callee.now == rank d.caller.now) d ds p q refl (level_has ds p q) h

  stays_by : (b : Bool) (d : Call) (ds : List Call) (p q : List ℕ) → (rank d.callee.now == rank d.caller.now) ≡ b → rank p ≡ rank q → (has_link (links_of ds) p q ≡ true → has_link (links_of (level rank ds)) p q ≡ true)
      → has_link (links_of (d ∷ ds)) p q ≡ true → has_link (links_of (elim b [ true ↦ d ∷ level rank ds | false ↦ level rank ds ])) p q ≡ true
  stays_by true d ds p q e equal rest h = elim (or_cases (is_link p q (link_of d)) (has_link (links_of ds) p q) h) [
    | inl here ↦ or_left (is_link p q (link_of d)) (has_link (links_of (level rank ds)) p q) here
    | inr there ↦ or_right (is_link p q (link_of d)) (has_link (links_of (level rank ds)) p q) (rest there)
  ]
  stays_by false d ds p q e equal rest h = elim (or_cases (is_link p q (link_of d)) (has_link (links_of ds) p q) h) [
    | inl here ↦
        let is = and_parts (bytes_eq p d.caller.now) (bytes_eq q d.callee.now) here in
        let stays : (rank d.callee.now == rank d.caller.now) ≡ true = eq-eqb (rank d.callee.now) (rank d.caller.now) (sym (ap rank (same q d.callee.now is.1)) ∙ sym equal ∙ ap rank (same p d.caller.now is.0)) in
        absurd (let apart : true ≡ false = sym stays ∙ e in cc)
    | inr there ↦ rest there
  ]

  stays_in : (ds : List Call) (p q : List ℕ) → rank p ≡ rank q → has_link (links_of ds) p q ≡ true → has_link (links_of (level rank ds)) p q ≡ true
  unfolding level
  stays_in [] p q equal h = absurd cc
  stays_in (d ∷ ds) p q equal h = stays_by (rank d.callee.now == rank d.caller.now) d ds p q refl equal (stays_in ds p q equal) h

  -- ---- ranks along calls

  one_falls : (ls : List Link) (p q : List ℕ) → list_all (falls rank) ls ≡ true → has_link ls p q ≡ true → rank q ≤ rank p
  one_falls [] p q all h = absurd cc
  one_falls (l ∷ ls) p q all h =
      let parts = and_parts (falls rank l) (list_all (falls rank) ls) all in
      elim (or_cases (is_link p q l) (has_link ls p q) h) [
        | inl here ↦
            let is = and_parts (bytes_eq p l.caller) (bytes_eq q l.callee) here in
            let low : rank l.callee ≤ rank l.caller = leb-true (rank l.callee) (rank l.caller) parts.0 in
            let a = ap rank (same p l.caller is.0) in
            let b = ap rank (same q l.callee is.1) in
            omega (arith, low, a, b)
        | inr there ↦ one_falls ls p q parts.1 there
      ]

  walk_falls : (ls : List Link) → list_all (falls rank) ls ≡ true → (p r : List ℕ) → leads ls p r ≡ true → rank r ≤ rank p
  walk_falls ls all p r h =
      leb-true (rank r) (rank p)
      (leads_within (λ x. nat_le (rank x) (rank p)) ls
      (λ a b low k. le-leb (rank b) (rank p) (let down = one_falls ls a b all k in let high = leb-true (rank a) (rank p) low in omega (arith, down, high)))
      p r h (le-leb (rank p) (rank p) (omega arith)))

  level_walk : (ds : List Call) (p r : List ℕ) → leads (links_of (level rank ds)) p r ≡ true → rank p ≡ rank r
  level_walk ds p r h =
      eqb-true (rank p) (rank r)
      (leads_within (λ x. rank p == rank x) (links_of (level rank ds)) (λ a b e k. eq-eqb (rank p) (rank b) (eqb-true (rank p) (rank a) e ∙ (level_has ds a b k).1)) p r h (eq-eqb (rank p) (rank p) refl))

  level_leads : (ds : List Call) (p r : List ℕ) → leads (links_of (level rank ds)) p r ≡ true → leads (links_of ds) p r ≡ true
  level_leads ds p r h =
      leads_within (λ x. leads (links_of ds) p x) (links_of (level rank ds)) (λ a b e k. leads_on (links_of ds) p a b e (level_has ds a b k).0) p r h (leads_refl (links_of ds) p)

  -- ---- roots

  is_above : (least : ℕ) (ns : List (List ℕ)) (x : List ℕ) → rise_above rank least ns ≡ true → among ns x ≡ true → least < rank x
  unfolding rise_above
  is_above least [] x rise h = absurd cc
  is_above least (n ∷ ns) x rise h =
      let parts = and_parts (nat_lt least (rank n)) (rise_above rank (rank n) ns) rise in
      let low : least < rank n = ltb-true least (rank n) parts.0 in
      elim (or_cases (bytes_eq x n) (among ns x) h) [
        | inl here ↦ let e = ap rank (same x n here) in omega (arith, low, e)
        | inr there ↦ let more = is_above (rank n) ns x parts.1 there in omega (arith, low, more)
      ]

  apart_above : (least : ℕ) (ns : List (List ℕ)) (x y : List ℕ) → rise_above rank least ns ≡ true → among ns x ≡ true → among ns y ≡ true → rank x ≡ rank y → x ≡ y
  unfolding rise_above
  apart_above least [] x y rise h k e = absurd cc
  apart_above least (n ∷ ns) x y rise h k e =
      let parts = and_parts (nat_lt least (rank n)) (rise_above rank (rank n) ns) rise in
      elim (or_cases (bytes_eq x n) (among ns x) h) [
        | inl x_here ↦ elim (or_cases (bytes_eq y n) (among ns y) k) [
          | inl y_here ↦ same x n x_here ∙ sym (same y n y_here)
          | inr y_there ↦ absurd (let high = is_above (rank n) ns y parts.1 y_there in let a = ap rank (same x n x_here) in omega (arith, high, a, e))
        ]
        | inr x_there ↦ elim (or_cases (bytes_eq y n) (among ns y) k) [
          | inl y_here ↦ absurd (let high = is_above (rank n) ns x parts.1 x_there in let a = ap rank (same y n y_here) in omega (arith, high, a, e))
          | inr y_there ↦ apart_above (rank n) ns x y parts.1 x_there y_there e
        ]
      ]

  apart : (ns : List (List ℕ)) (x y : List ℕ) → are_apart rank ns ≡ true → among ns x ≡ true → among ns y ≡ true → rank x ≡ rank y → x ≡ y
  apart [] x y rise h k e = absurd cc
  apart (n ∷ ns) x y rise h k e =
      elim (or_cases (bytes_eq x n) (among ns x) h) [
        | inl x_here ↦ elim (or_cases (bytes_eq y n) (among ns y) k) [
          | inl y_here ↦ same x n x_here ∙ sym (same y n y_here)
          | inr y_there ↦ absurd (let high = is_above (rank n) ns y rise y_there in let a = ap rank (same x n x_here) in omega (arith, high, a, e))
        ]
        | inr x_there ↦ elim (or_cases (bytes_eq y n) (among ns y) k) [
          | inl y_here ↦ absurd (let high = is_above (rank n) ns x rise x_there in let a = ap rank (same y n y_here) in omega (arith, high, a, e))
          | inr y_there ↦ apart_above (rank n) ns x y rise x_there y_there e
        ]
      ]

-- a root from which a policy is reached, and one to which it leads
reached_from : (ls : List Link) (ns : List (List ℕ)) (p : List ℕ) → is_reached ls ns p ≡ true → (n : List ℕ) × (among ns n ≡ true) × (leads ls n p ≡ true)
reached_from ls [] p h = absurd cc
reached_from ls (n ∷ ns) p h = elim (or_cases (leads ls n p) (is_reached ls ns p) h) [
  | inl here ↦ (n, or_left (bytes_eq n n) (among ns n) (bytes_refl n), here)
  | inr there ↦ let r = reached_from ls ns p there in (r.0, or_right (bytes_eq r.0 n) (among ns r.0) r.1, r.2)
]

leads_into : (ls : List Link) (ns : List (List ℕ)) (p : List ℕ) → leads_to_some ls ns p ≡ true → (n : List ℕ) × (among ns n ≡ true) × (leads ls p n ≡ true)
leads_into ls [] p h = absurd cc
leads_into ls (n ∷ ns) p h = elim (or_cases (leads ls p n) (leads_to_some ls ns p) h) [
  | inl here ↦ (n, or_left (bytes_eq n n) (among ns n) (bytes_refl n), here)
  | inr there ↦ let r = leads_into ls ns p there in (r.0, or_right (bytes_eq r.0 n) (among ns r.0) r.1, r.2)
]

between_at : (a b : Names) (ls : List Link) (p q : List ℕ) → list_all (are_between a b) ls ≡ true → has_link ls p q ≡ true → (has_name a p 0 0 ≡ true) × (has_name b q 0 0 ≡ true)
between_at a b [] p q all h = absurd cc
between_at a b (l ∷ ls) p q all h =
    let parts = and_parts (are_between a b l) (list_all (are_between a b) ls) all in
    elim (or_cases (is_link p q l) (has_link ls p q) h) [
      | inl here ↦
          let is = and_parts (bytes_eq p l.caller) (bytes_eq q l.callee) here in
          let ends = and_parts (has_name a l.caller 0 0) (has_name b l.callee 0 0) parts.0 in
          (ap (λ (x : List ℕ). has_name a x 0 0) (same p l.caller is.0) ∙ ends.0, ap (λ (x : List ℕ). has_name b x 0 0) (same q l.callee is.1) ∙ ends.1)
      | inr there ↦ between_at a b ls p q parts.1 there
    ]

-- ---- what the ranks show

pub shown : (rank : List ℕ → ℕ) (cs vs : List Call) (roots : List (List ℕ)) (down up : Names) → vs ≡ level rank cs → list_all (falls rank) (links_of cs) ≡ true → are_apart rank roots ≡ true
    → ((q : List ℕ) → has_name down q 0 0 ≡ is_reached (links_of vs) roots q) → ((q : List ℕ) → has_name up q 0 0 ≡ leads_to_some (links_of vs) roots q) → list_all (are_between down up) (links_of vs) ≡ true
    → (p q : List ℕ) → has_link (links_of vs) p q ≡ turns_back (links_of cs) p q
shown rank cs vs roots down up vs_are all rise down_is up_is between p q =
    same_tests (has_link (links_of vs) p q) (has_link (links_of cs) p q && leads (links_of cs) q p) goes comes ∙ sym (turn_among p q (links_of cs) (links_of cs))
  where
    in_level : (x y : List ℕ) → has_link (links_of vs) x y ≡ true → has_link (links_of (level rank cs)) x y ≡ true
    in_level x y h = sym (ap (λ (ds : List Call). has_link (links_of ds) x y) vs_are) ∙ h

    walk : (x y : List ℕ) → leads (links_of vs) x y ≡ true → leads (links_of (level rank cs)) x y ≡ true
    walk x y h = sym (ap (λ (ds : List Call). leads (links_of ds) x y) vs_are) ∙ h

    goes : has_link (links_of vs) p q ≡ true → (has_link (links_of cs) p q && leads (links_of cs) q p) ≡ true
    goes h =
        let own = level_has rank cs p q (in_level p q h) in
        let ends = between_at down up (links_of vs) p q between h in
        let from = reached_from (links_of vs) roots p (sym (down_is p) ∙ ends.0) in
        let into = leads_into (links_of vs) roots q (sym (up_is q) ∙ ends.1) in
        let equal : rank into.0 ≡ rank from.0 = sym (level_walk rank cs q into.0 (walk q into.0 into.2)) ∙ sym own.1 ∙ sym (level_walk rank cs from.0 p (walk from.0 p from.2)) in
        let root : into.0 ≡ from.0 = apart rank roots into.0 from.0 rise into.1 from.1 equal in
        let back : leads (links_of vs) q p ≡ true = leads_trans (links_of vs) q from.0 p (subst (λ (x : List ℕ). leads (links_of vs) q x ≡ true) root into.2) from.2 in
        both (has_link (links_of cs) p q) (leads (links_of cs) q p) own.0 (level_leads rank cs q p (walk q p back))

    comes : (has_link (links_of cs) p q && leads (links_of cs) q p) ≡ true → has_link (links_of vs) p q ≡ true
    comes h =
        let parts = and_parts (has_link (links_of cs) p q) (leads (links_of cs) q p) h in
        let low : rank q ≤ rank p = one_falls rank (links_of cs) p q all parts.0 in
        let high : rank p ≤ rank q = walk_falls rank (links_of cs) all q p parts.1 in
        let equal : rank p ≡ rank q = omega (arith, low, high) in
        ap (λ (ds : List Call). has_link (links_of ds) p q) vs_are ∙ stays_in rank cs p q equal parts.0
