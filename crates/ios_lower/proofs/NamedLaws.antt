-- What stands in a map under the names of lists when a value has been put behind those of its list.
use Rattle.std.proofs.Common.{◌≡◌, refl, sym, ap, subst, ◌∙◌, ℕ, Bool, true, false, cond, List, [], ◌∷◌, ◌++◌, Option, Some, None}
use Rattle.std.specs.Prelude.{bytes_eq, map, Vec}
use Rattle.std.specs.Option.{option_map_or, option_copied}
use Rattle.std.specs.Borrow.{Bor}
use Rattle.std.specs.declared.alloc.Global.{Global}
use Rattle.std.proofs.lemmas.List.{map-append}
use Rattle.std.proofs.lemmas.Map.Text.{btree_map_updates_str}
use Rattle.std.proofs.lemmas.Slice.Eq.{bytes_eq-Decides}
use Rattle.name_maps.specs.Under.{under as at}
use Rattle.name_maps.proofs.Put.{Updated, either_way}
use Rattle.ios_lower.specs.Named.{Listed, under, IfThere, IfUnder, Named, entries_under}

abbrev held : {T : Type 0} → Option (Vec T Global) → List T
held o = option_map_or (λ v. v.items) o []

-- what stands under another name after a change
pub others : {T : Type 0} (m n : Listed T) (name : List ℕ) (w : Option (Vec T Global)) → Updated name m n w → (q : List ℕ) → bytes_eq name q ≡ false → under n q ≡ under m q
others m n name w up q e =
    ap held (btree_map_updates_str name m n w up q) ∙ ap (λ (t : Bool). held (cond t w (at m q))) e

added_by : {T : Type 0} (m n o : Listed T) (name : List ℕ) (x : T) (v : Vec T Global) (q : List ℕ) (b : Bool) → bytes_eq q name ≡ b → (bytes_eq name q ≡ false → under n q ≡ under m q)
    → v.items ≡ under m name ++ x ∷ [] → Updated name n o (Some v) → under o q ≡ elim b [ true ↦ under m q ++ x ∷ [] | false ↦ under m q ]
added_by {T} m n o name x v q true same apart items up =
    let named : name ≡ q = sym ((bytes_eq-Decides q name).0 same) in
    ap held (btree_map_updates_str name n o (Some v) up q) ∙ ap (λ (t : Bool). held (cond t (Some v) (at n q))) (either_way true q name same)
    ∙ items ∙ ap (λ (p : List ℕ). under m p ++ x ∷ []) named
added_by m n o name x v q false other apart items up =
    let far = either_way false q name other in
    ap held (btree_map_updates_str name n o (Some v) up q) ∙ ap (λ (t : Bool). held (cond t (Some v) (at n q))) far ∙ apart far

-- a value pushed behind those that were taken
pub pushed : {T : Type 0} (taken longer xs : List T) (x : T) → longer ≡ taken ++ x ∷ [] → taken ≡ xs → longer ≡ xs ++ x ∷ []
pushed {T} taken longer xs x h k = h ∙ ap (λ (ys : List T). ys ++ x ∷ []) k

-- a value has been put behind those of its list
pub added : {T : Type 0} (m n o : Listed T) (name : List ℕ) (x : T) (v : Vec T Global) → ((q : List ℕ) → bytes_eq name q ≡ false → under n q ≡ under m q)
    → v.items ≡ under m name ++ x ∷ [] → Updated name n o (Some v) → (q : List ℕ) → under o q ≡ elim (bytes_eq q name) [ true ↦ under m q ++ x ∷ [] | false ↦ under m q ]
added m n o name x v apart items up q = added_by m n o name x v q (bytes_eq q name) refl (apart q) items up

-- ---- entries that are lent

lent_by : {E : Type 0} (o : Option (Vec (Bor E) Global)) → ◌≡◌ {A = List E} (option_map_or (λ (v : Vec (Bor E) Global). map (λ (e : Bor E). e.now) v.items) o []) (map (λ (e : Bor E). e.now) (held o))
lent_by None = refl
lent_by (Some v) = refl

lent_added : {E : Type 0} (xs : List (Bor E)) (e : Bor E) (es : List E) (b : Bool) → es ≡ map (λ x. x.now) xs → ◌≡◌ {A = List E} (map (λ (x : Bor E). x.now) (elim b [ true ↦ xs ++ e ∷ [] | false ↦ xs ])) (elim b [ true ↦ es ++ e.now ∷ [] | false ↦ es ])
lent_added {E} xs e es true h = map-append (λ x. x.now) xs (e ∷ []) ∙ ap (λ (ys : List E). ys ++ e.now ∷ []) (sym h)
lent_added xs e es false h = sym h

-- the same of entries that are lent
pub entry_added : {E : Type 0} (m n : Named E) (name : List ℕ) (e : Bor E) → ((q : List ℕ) → under n q ≡ elim (bytes_eq q name) [ true ↦ under m q ++ e ∷ [] | false ↦ under m q ])
    → (q : List ℕ) → entries_under n q ≡ elim (bytes_eq q name) [ true ↦ entries_under m q ++ e.now ∷ [] | false ↦ entries_under m q ]
entry_added {E} m n name e h q =
    lent_by (at n q) ∙ ap (λ (xs : List (Bor E)). map (λ x. x.now) xs) (h q) ∙ lent_added (under m q) e (entries_under m q) (bytes_eq q name) (lent_by (at m q))

-- ---- what is such under each name

-- what has been put under a name is such, as what stood there is
pub if_put : {T : Type 0} (P : List ℕ → List T → Type 0) (m n : Listed T) (name : List ℕ) (v : Vec T Global) → ((q : List ℕ) → IfUnder (P q) m q) → P name v.items → Updated name m n (Some v) → (q : List ℕ) → IfUnder (P q) n q
if_put {T} P m n name v h k up q = subst (λ (o : Option (Vec T Global)). IfThere (P q) o) (sym (btree_map_updates_str name m n (Some v) up q)) (either (bytes_eq name q) refl)
  where
    either : (b : Bool) → bytes_eq name q ≡ b → IfThere (P q) (cond b (Some v) (at m q))
    either true e = subst (λ (p : List ℕ). P p v.items) ((bytes_eq-Decides name q).0 e) k
    either false e = h q

-- what is such where something stands is such of what is lent from there
pub if_lent : {T : Type 0} (P : List T → Type 0) (o : Option (Bor (Vec T Global))) (w : Option (Vec T Global)) (v : Bor (Vec T Global)) → option_copied o ≡ w → o ≡ Some v → IfThere P w → P v.now.items
if_lent {T} P o w v same is h = subst (λ (x : Option (Vec T Global)). IfThere P x) (sym same ∙ ap option_copied is) h
