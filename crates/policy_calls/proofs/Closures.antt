-- What a search along calls finds is what is reached.
use Rattle.std.proofs.Common.{◌≡◌, refl, sym, ap, ◌∙◌, subst, ℕ, Bool, true, false, ◌||◌, inl, inr, List, [], ◌∷◌}
use Rattle.std.specs.Prelude.{bytes_eq}
use Rattle.policy_text.specs.NameSets.{has_name}
use Rattle.policy_calls.specs.Calls.{Link, is_link, has_link, leads, is_reached, leads_to_some}
use Rattle.policy_calls.specs.Callees.{link_of, links_of, callees_of, Callees, callees_at, swapped}
use Rattle.policy_calls.specs.declared.call.Call.{Call}
use Rattle.policy_calls.specs.Search.{Names, among, HasAll, IsClosure}
use Rattle.policy_calls.proofs.Leads.{or_cases, or_left, or_right, and_turned, bytes_refl, bytes_sym, same, same_tests, leads_refl, leads_on, leads_within}

-- ---- the callees of a policy

callees_by : (b : Bool) (p q : List ℕ) (c : Call) (cs : List Call) → bytes_eq p c.caller.now ≡ b → among (callees_of p cs) q ≡ has_link (links_of cs) p q
    → among (elim b [ true ↦ c.callee.now ∷ callees_of p cs | false ↦ callees_of p cs ]) q ≡ (is_link p q (link_of c) || has_link (links_of cs) p q)
callees_by true p q c cs e rest = rw (e, rest) refl
callees_by false p q c cs e rest = rw (e, rest) refl

pub callees_are : (p q : List ℕ) (cs : List Call) → among (callees_of p cs) q ≡ has_link (links_of cs) p q
unfolding callees_of
callees_are p q [] = refl
callees_are p q (c ∷ cs) = callees_by (bytes_eq p c.caller.now) p q c cs refl (callees_are p q cs)

-- ---- a closure

module _ (m : Callees) (cs : List Call) (names : List (List ℕ)) (seen : Names) (keeps : (q : List ℕ) → callees_at m q ≡ callees_of q cs) (found : IsClosure m names seen) where
  links : List Link
  links = links_of cs

  by_link : (p q : List ℕ) → among (callees_at m p) q ≡ has_link (links_of cs) p q
  by_link p q = ap (λ (ns : List (List ℕ)). among ns q) (keeps p) ∙ callees_are p q cs

  from_names : (ns : List (List ℕ)) (q : List ℕ) → among ns q ≡ true → is_reached (links_of cs) ns q ≡ true
  from_names [] q e = absurd cc
  from_names (n ∷ ns) q e = elim (or_cases (bytes_eq q n) (among ns q) e) [
    | inl here ↦ or_left (leads (links_of cs) n q) (is_reached (links_of cs) ns q) (subst (λ (x : List ℕ). leads (links_of cs) n x ≡ true) (sym (same q n here)) (leads_refl (links_of cs) n))
    | inr there ↦ or_right (leads (links_of cs) n q) (is_reached (links_of cs) ns q) (from_names ns q there)
  ]

  on_from : (ns : List (List ℕ)) (p q : List ℕ) → is_reached (links_of cs) ns p ≡ true → has_link (links_of cs) p q ≡ true → is_reached (links_of cs) ns q ≡ true
  on_from [] p q e k = absurd cc
  on_from (n ∷ ns) p q e k = elim (or_cases (leads (links_of cs) n p) (is_reached (links_of cs) ns p) e) [
    | inl here ↦ or_left (leads (links_of cs) n q) (is_reached (links_of cs) ns q) (leads_on (links_of cs) n p q here k)
    | inr there ↦ or_right (leads (links_of cs) n q) (is_reached (links_of cs) ns q) (on_from ns p q there k)
  ]

  in_set : (ns : List (List ℕ)) → HasAll ns (λ q. has_name seen q 0 0) → (q : List ℕ) → is_reached (links_of cs) ns q ≡ true → has_name seen q 0 0 ≡ true
  in_set [] all q e = absurd cc
  in_set (n ∷ ns) all q e = elim (or_cases (leads (links_of cs) n q) (is_reached (links_of cs) ns q) e) [
    | inl here ↦ leads_within (λ x. has_name seen x 0 0) (links_of cs) (λ a b s k. found.closed a b s (by_link a b ∙ k)) n q here (all n (or_left (bytes_eq n n) (among ns n) (bytes_refl n)))
    | inr there ↦ in_set ns (λ x h. all x (or_right (bytes_eq x n) (among ns x) h)) q there
  ]

  pub closure_is : (q : List ℕ) → has_name seen q 0 0 ≡ is_reached (links_of cs) names q
  closure_is q = same_tests (has_name seen q 0 0) (is_reached (links_of cs) names q)
      (λ h. found.least (is_reached (links_of cs) names) (from_names names) (λ a b s k. on_from names a b s (sym (by_link a b) ∙ k)) q h)
      (in_set names found.starts q)

-- ---- the other way round

pub leads_back : (cs : List Call) (p r : List ℕ) → leads (links_of (swapped cs)) r p ≡ leads (links_of cs) p r
unfolding leads swapped
leads_back [] p r = bytes_sym r p
leads_back (c ∷ cs) p r =
    rw (leads_back cs p r, leads_back cs c.callee.now r, leads_back cs p c.caller.now)
    (ap (λ (b : Bool). leads (links_of cs) p r || b) (and_turned (leads (links_of cs) c.callee.now r) (leads (links_of cs) p c.caller.now)))

pub reached_back : (cs : List Call) (ends : List (List ℕ)) (q : List ℕ) → is_reached (links_of (swapped cs)) ends q ≡ leads_to_some (links_of cs) ends q
reached_back cs [] q = refl
reached_back cs (e ∷ es) q = rw (leads_back cs q e, reached_back cs es q) refl
