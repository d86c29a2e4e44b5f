-- The policies at the end of one more call.
use Rattle.std.proofs.Common.{◌≡◌, refl, sym, ap, ◌∙◌, ℕ, suc, Bool, true, false, ◌&&◌, ◌||◌, List, [], ◌∷◌}
use Rattle.std.specs.Prelude.{bytes_eq}
use Rattle.std.specs.List.{list_any}
use Rattle.policy_calls.specs.Calls.{Link, has_link}
use Rattle.policy_calls.specs.Depth.{is_at}
use Rattle.policy_calls.specs.Callees.{links_of, callees_of, Callees, callees_at}
use Rattle.policy_calls.specs.declared.call.Call.{Call}
use Rattle.policy_calls.specs.Search.{among}
use Rattle.policy_calls.proofs.Leads.{bytes_sym}
use Rattle.policy_calls.proofs.Closures.{callees_are}

-- a call to q by one of these
abbrev called_by_one : List Link → List (List ℕ) → List ℕ → Bool
called_by_one links ps q = list_any (λ l. bytes_eq q l.callee && among ps l.caller) links

either : (links : List Link) (p : List ℕ) (ps : List (List ℕ)) (q : List ℕ) → called_by_one links (p ∷ ps) q ≡ (has_link links p q || called_by_one links ps q)
either [] p ps q = refl
either (l ∷ ls) p ps q =
    rw (either ls p ps q, bytes_sym l.caller p)
    (mixed (bytes_eq p l.caller) (among ps l.caller) (bytes_eq q l.callee) (has_link ls p q) (called_by_one ls ps q))
  where
    mixed : (a b c x y : Bool) → ((c && (a || b)) || (x || y)) ≡ (((a && c) || x) || ((c && b) || y))
    mixed true true true x y = refl
    mixed true true false x y = refl
    mixed true false true x y = refl
    mixed true false false x y = refl
    mixed false true true true y = refl
    mixed false true true false y = refl
    mixed false true false x y = refl
    mixed false false true x y = refl
    mixed false false false x y = refl

nobody : (links : List Link) (q : List ℕ) → called_by_one links [] q ≡ false
nobody [] q = refl
nobody (l ∷ ls) q = rw (nobody ls q) (none (bytes_eq q l.callee))
  where
    none : (a : Bool) → ((a && false) || false) ≡ false
    none true = refl
    none false = refl

exchanged : (links : List Link) (ps : List (List ℕ)) (q : List ℕ) → list_any (λ p. has_link links p q) ps ≡ called_by_one links ps q
exchanged links [] q = sym (nobody links q)
exchanged links (p ∷ ps) q = ap (λ (b : Bool). has_link links p q || b) (exchanged links ps q) ∙ sym (either links p ps q)

-- the policies that those of a level call are those at the end of one more call
pub one_deeper : (m : Callees) (cs : List Call) (names level next : List (List ℕ)) (n : ℕ) → ((q : List ℕ) → callees_at m q ≡ callees_of q cs)
    → ((q : List ℕ) → among level q ≡ is_at (links_of cs) names n q) → ((q : List ℕ) → among next q ≡ list_any (λ p. among (callees_at m p) q) level)
    → (q : List ℕ) → among next q ≡ is_at (links_of cs) names (suc n) q
unfolding is_at
one_deeper m cs names level next n keeps at called q =
    called q
    ∙ (λ j. list_any (λ p. (ap (λ (ns : List (List ℕ)). among ns q) (keeps p) ∙ callees_are p q cs) j) level)
    ∙ exchanged (links_of cs) level q
    ∙ (λ j. list_any (λ l. bytes_eq q l.callee && at l.caller j) (links_of cs))

pub at_start : (links : List Link) (names level : List (List ℕ)) → ((q : List ℕ) → among level q ≡ among names q) → (q : List ℕ) → among level q ≡ is_at links names 0 q
unfolding is_at
at_start links names level are q = are q
