-- What stands under the names of lists behind a change.
use Rattle.std.proofs.Common.{◌≡◌, sym, ap, subst, ◌∙◌, ℕ, Bool, true, false, cond, List, [], ◌∷◌, ◌++◌, Option, Some, refl}
use Rattle.std.specs.Prelude.{bytes_eq, map, Vec}
use Rattle.std.specs.Option.{option_map_or}
use Rattle.std.specs.declared.alloc.Global.{Global}
use Rattle.std.specs.Borrow.{Bor}
use Rattle.std.specs.BTreeMap.{BTreeMap}
use Rattle.std.proofs.lemmas.Slice.Eq.{bytes_eq-Decides}
use Rattle.std.proofs.lemmas.List.{map-append}
use Rattle.std.proofs.lemmas.Map.Text.{btree_map_updates_str}
use Rattle.name_maps.specs.Under.{under}
use Rattle.name_maps.specs.declared.map.NameMap.{NameMap}
use Rattle.name_maps.proofs.Put.{Updated, either_way}
use Rattle.ios_tree.specs.declared.item.CommunityListEntry.{CommunityListEntry}
use Rattle.ios_meaning.specs.Drafts.{entries_at}
use Rattle.ios_meaning.specs.Answers.{held_at}

put_by : {X : Type 0} (m : NameMap X) (list q : List ℕ) (v : X) (f : Option X → Option X) (b : Bool) → bytes_eq q list ≡ b → f (held_at m list) ≡ Some v
    → ◌≡◌ {A = Option X} (elim b [ true ↦ Some v | false ↦ held_at m q ]) (elim b [ true ↦ f (held_at m q) | false ↦ held_at m q ])
put_by m list q v f true e new = sym new ∙ ap (λ (x : List ℕ). f (held_at m x)) (sym ((bytes_eq-Decides q list).0 e))
put_by m list q v f false e new = refl

-- what f makes of what stood under the name of a list has been put there
pub put_at : {X : Type 0} (m n : NameMap X) (name list : List ℕ) (v : X) (f : Option X → Option X) → name ≡ list → ((q : List ℕ) → held_at n q ≡ elim (bytes_eq q name) [ true ↦ Some v | false ↦ held_at m q ])
    → f (held_at m list) ≡ Some v → (q : List ℕ) → held_at n q ≡ elim (bytes_eq q list) [ true ↦ f (held_at m q) | false ↦ held_at m q ]
put_at {X} m n name list v f e put new q =
    subst (λ (x : List ℕ). held_at n q ≡ elim (bytes_eq q x) [ true ↦ Some v | false ↦ held_at m q ]) e (put q) ∙ put_by m list q v f (bytes_eq q list) refl new

-- ---- the entries under the names of community lists

abbrev pub Lists : Type 0
Lists = BTreeMap (Bor (List ℕ)) (Vec (Bor CommunityListEntry) Global)

abbrev entries_of : Option (Vec (Bor CommunityListEntry) Global) → List CommunityListEntry
entries_of o = option_map_or (λ v. map (λ e. e.now) v.items) o []

-- what stands under another name after a change
pub entries_others : (m n : Lists) (name : List ℕ) (w : Option (Vec (Bor CommunityListEntry) Global)) → Updated name m n w → (q : List ℕ) → bytes_eq name q ≡ false → entries_at n q ≡ entries_at m q
entries_others m n name w up q e =
    ap entries_of (btree_map_updates_str name m n w up q) ∙ ap (λ (t : Bool). entries_of (cond t w (under m q))) e

added_by : (m n o : Lists) (list : List ℕ) (e : CommunityListEntry) (v : Vec (Bor CommunityListEntry) Global) (q : List ℕ) (b : Bool) → bytes_eq q list ≡ b → (bytes_eq list q ≡ false → entries_at n q ≡ entries_at m q)
    → map (λ e. e.now) v.items ≡ entries_at m list ++ e ∷ [] → Updated list n o (Some v) → entries_at o q ≡ elim b [ true ↦ entries_at m q ++ e ∷ [] | false ↦ entries_at m q ]
added_by m n o list e v q true same others items up =
    let name : list ≡ q = sym ((bytes_eq-Decides q list).0 same) in
    ap entries_of (btree_map_updates_str list n o (Some v) up q) ∙ ap (λ (t : Bool). entries_of (cond t (Some v) (under n q))) (either_way true q list same)
    ∙ items ∙ ap (λ (x : List ℕ). entries_at m x ++ e ∷ []) name
added_by m n o list e v q false other others items up =
    let apart = either_way false q list other in
    ap entries_of (btree_map_updates_str list n o (Some v) up q) ∙ ap (λ (t : Bool). entries_of (cond t (Some v) (under n q))) apart ∙ others apart

-- an entry pushed behind those that were taken
pub entries_pushed : (taken pushed : List (Bor CommunityListEntry)) (e : Bor CommunityListEntry) (es : List CommunityListEntry) → pushed ≡ taken ++ e ∷ [] → map (λ x. x.now) taken ≡ es → map (λ x. x.now) pushed ≡ es ++ e.now ∷ []
entries_pushed taken pushed e es h k = ap (λ (xs : List (Bor CommunityListEntry)). map (λ x. x.now) xs) h ∙ map-append (λ x. x.now) taken (e ∷ []) ∙ ap (λ (xs : List CommunityListEntry). xs ++ e.now ∷ []) k

-- an entry has been put behind those of its list
pub entries_added : (m n o : Lists) (name : List ℕ) (e : CommunityListEntry) (v : Vec (Bor CommunityListEntry) Global) → name ≡ e.list → ((q : List ℕ) → bytes_eq name q ≡ false → entries_at n q ≡ entries_at m q)
    → map (λ e. e.now) v.items ≡ entries_at m name ++ e ∷ [] → Updated name n o (Some v) → (q : List ℕ) → entries_at o q ≡ elim (bytes_eq q e.list) [ true ↦ entries_at m q ++ e ∷ [] | false ↦ entries_at m q ]
entries_added m n o name e v named others items up q =
    added_by m n o e.list e v q (bytes_eq q e.list) refl (subst (λ (x : List ℕ). bytes_eq x q ≡ false → entries_at n q ≡ entries_at m q) named (others q))
    (subst (λ (x : List ℕ). map (λ e. e.now) v.items ≡ entries_at m x ++ e ∷ []) named items) (subst (λ (x : List ℕ). Updated x n o (Some v)) named up)
