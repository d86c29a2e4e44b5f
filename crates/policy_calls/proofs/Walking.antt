-- A policy leads to another exactly where there is a walk from it to that one.
use Rattle.std.proofs.Common.{◌≡◌, sym, subst, ℕ, true, ◌&&◌, inl, inr, List, [], ◌∷◌, ◌++◌}
use Rattle.std.specs.Prelude.{bytes_eq}
use Rattle.std.proofs.lemmas.Bool.{and_parts}
use Rattle.policy_calls.specs.Calls.{Link, is_link, has_link, Walks, leads}
use Rattle.policy_calls.proofs.Leads.{or_cases, or_left, or_right, both, bytes_refl, same, leads_refl, leads_on}

among_more : (l : Link) (ls : List Link) (p r : List ℕ) (qs : List (List ℕ)) → Walks ls p qs r → Walks (l ∷ ls) p qs r
among_more l ls p r [] walk = walk
among_more l ls p r (q ∷ qs) walk = (or_right (is_link p q l) (has_link ls p q) walk.0, among_more l ls q r qs walk.1)

joined : (ls : List Link) (p m r : List ℕ) (qs rs : List (List ℕ)) → Walks ls p qs m → Walks ls m rs r → Walks ls p (qs ++ rs) r
joined ls p m r [] rs e walk = subst (λ (x : List ℕ). Walks ls x rs r) (sym e) walk
joined ls p m r (q ∷ qs) rs walk more = (walk.0, joined ls q m r qs rs walk.1 more)

pub walk_of : (ls : List Link) (p r : List ℕ) → leads ls p r ≡ true → (qs : List (List ℕ)) × Walks ls p qs r
unfolding leads
walk_of [] p r h = ([], same p r h)
walk_of (l ∷ ls) p r h = elim (or_cases (leads ls p r) (leads ls p l.caller && leads ls l.callee r) h) [
  | inl e ↦ let walk = walk_of ls p r e in (walk.0, among_more l ls p r walk.0 walk.1)
  | inr e ↦
      let parts = and_parts (leads ls p l.caller) (leads ls l.callee r) e in
      let first = walk_of ls p l.caller parts.0 in
      let last = walk_of ls l.callee r parts.1 in
      let call : has_link (l ∷ ls) l.caller l.callee ≡ true =
      or_left (is_link l.caller l.callee l) (has_link ls l.caller l.callee) (both (bytes_eq l.caller l.caller) (bytes_eq l.callee l.callee) (bytes_refl l.caller) (bytes_refl l.callee)) in
      (first.0 ++ l.callee ∷ last.0, joined (l ∷ ls) p l.caller r first.0 (l.callee ∷ last.0) (among_more l ls p l.caller first.0 first.1) (call, among_more l ls l.callee r last.0 last.1))
]

walks_on : (ls : List Link) (p q r : List ℕ) (qs : List (List ℕ)) → leads ls p q ≡ true → Walks ls q qs r → leads ls p r ≡ true
walks_on ls p q r [] h e = subst (λ (x : List ℕ). leads ls p x ≡ true) e h
walks_on ls p q r (x ∷ xs) h walk = walks_on ls p x r xs (leads_on ls p q x h walk.0) walk.1

pub leads_by : (ls : List Link) (p r : List ℕ) (qs : List (List ℕ)) → Walks ls p qs r → leads ls p r ≡ true
leads_by ls p r qs walk = walks_on ls p p r qs (leads_refl ls p) walk
