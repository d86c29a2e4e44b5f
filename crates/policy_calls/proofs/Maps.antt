-- What stands in a map under the names of callers.
use Rattle.std.proofs.Common.{◌≡◌, refl, sym, ap, ◌∙◌, ℕ, Bool, true, false, cond, List, [], ◌∷◌, ◌++◌, Option, Some}
use Rattle.std.specs.Prelude.{bytes_eq, Vec}
use Rattle.std.specs.Option.{option_map_or}
use Rattle.std.specs.declared.alloc.Global.{Global}
use denote.Ref.{Bor}
use Rattle.std.specs.Ordering.{nat_cmp}
use Rattle.std.specs.Cmp.Lexicographic.{slice_cmp}
use Rattle.std.specs.BTreeMap.{get_by, UpdatesBy}
use Rattle.std.proofs.lemmas.List.{map-append}
use Rattle.std.proofs.lemmas.Map.Text.{btree_map_updates_str}
use Rattle.policy_calls.specs.Callees.{nows, Callees, callees_at}
use Rattle.policy_calls.proofs.Leads.{bytes_sym, same}

-- the second map is the first with this under the name
abbrev pub Updated : List ℕ → Callees → Callees → Option (Vec (Bor (List ℕ)) Global) → Type 0
Updated name m n w = UpdatesBy (λ x y. slice_cmp nat_cmp x.now y.now) (λ k. slice_cmp nat_cmp name k.now) m n w

abbrev names_of : Option (Vec (Bor (List ℕ)) Global) → List (List ℕ)
names_of o = option_map_or (λ v. nows v.items) o []

-- what stands under another name after a change
pub callees_others : (m n : Callees) (name : List ℕ) (w : Option (Vec (Bor (List ℕ)) Global)) → Updated name m n w → (q : List ℕ) → bytes_eq name q ≡ false → callees_at n q ≡ callees_at m q
callees_others m n name w up q e = ap names_of (btree_map_updates_str name m n w up q) ∙ ap (λ (t : Bool). names_of (cond t w (callees m q))) e
  where
    callees : Callees → List ℕ → Option (Vec (Bor (List ℕ)) Global)
    callees m q = get_by (λ k. slice_cmp nat_cmp q k.now) m

added_by : (m n o : Callees) (name callee : List ℕ) (v : Vec (Bor (List ℕ)) Global) (q : List ℕ) (b : Bool) → bytes_eq q name ≡ b → (bytes_eq name q ≡ false → callees_at n q ≡ callees_at m q)
    → nows v.items ≡ callees_at m name ++ callee ∷ [] → Updated name n o (Some v) → callees_at o q ≡ elim b [ true ↦ callees_at m q ++ callee ∷ [] | false ↦ callees_at m q ]
added_by m n o name callee v q true is others items up =
    let e : name ≡ q = sym (same q name is) in
    ap names_of (btree_map_updates_str name n o (Some v) up q) ∙ ap (λ (t : Bool). names_of (cond t (Some v) (get_by (λ k. slice_cmp nat_cmp q k.now) n))) (bytes_sym name q ∙ is)
    ∙ items ∙ ap (λ (x : List ℕ). callees_at m x ++ callee ∷ []) e
added_by m n o name callee v q false other others items up =
    let apart : bytes_eq name q ≡ false = bytes_sym name q ∙ other in
    ap names_of (btree_map_updates_str name n o (Some v) up q) ∙ ap (λ (t : Bool). names_of (cond t (Some v) (get_by (λ k. slice_cmp nat_cmp q k.now) n))) apart ∙ others apart

-- a name pushed behind those that were taken
pub callees_pushed : (taken pushed : List (Bor (List ℕ))) (c : Bor (List ℕ)) (ns : List (List ℕ)) → pushed ≡ taken ++ c ∷ [] → nows taken ≡ ns → nows pushed ≡ ns ++ c.now ∷ []
callees_pushed taken pushed c ns h k = ap nows h ∙ map-append (λ (x : Bor (List ℕ)). x.now) taken (c ∷ []) ∙ ap (λ (xs : List (List ℕ)). xs ++ c.now ∷ []) k

-- a name has been put behind those of its caller
pub callees_added : (m n o : Callees) (name callee : List ℕ) (v : Vec (Bor (List ℕ)) Global) → ((q : List ℕ) → bytes_eq name q ≡ false → callees_at n q ≡ callees_at m q)
    → nows v.items ≡ callees_at m name ++ callee ∷ [] → Updated name n o (Some v) → (q : List ℕ) → callees_at o q ≡ elim (bytes_eq q name) [ true ↦ callees_at m q ++ callee ∷ [] | false ↦ callees_at m q ]
callees_added m n o name callee v others items up q = added_by m n o name callee v q (bytes_eq q name) refl (others q) items up
