-- The prefix lists that a walk over the entries in order finds are those of the tree.
use Rattle.std.proofs.Common.{◌≡◌, refl, sym, ap, ◌∙◌, ℕ, ◌≤◌, Bool, true, false, cond, ◌&&◌, List, [], ◌∷◌, arith}
use Rattle.std.specs.Prelude.{bytes_eq, nat_le, map, filter}
use Rattle.std.proofs.lemmas.Bool.{leb-true, le-leb}
use Rattle.route_types.specs.Address.{same_family}
use Rattle.route_types.specs.declared.address.Family.{Family}
use Rattle.prefix_sets.specs.declared.list.PrefixEntry.{PrefixEntry}
use Rattle.ios_tree.specs.Tree.{family_of}
use Rattle.ios_tree.specs.declared.item.PrefixListEntry.{PrefixListEntry}
use Rattle.ios_tree.specs.declared.item.IosForm.{IosForm}
use Rattle.ios_tree.specs.declared.item.IosForm.TheVariants.{PrefixEntry as OfPrefixList}
use Rattle.ios_tree.specs.declared.item.IosItem.{IosItem}
use Rattle.ios_meaning.specs.Order.{put_in_order, in_order}
use Rattle.ios_meaning.specs.Lists.{prefix_entries, prefix_entry_from, prefix_list}
use Rattle.ios_meaning.proofs.InOrder.{Rises, rises_behind, rises_in_order}
use Rattle.ios_lower.specs.Named.{Named, entries_under}
use Rattle.ios_lower.specs.Lists.{family_entries, family_entry_from, listed}

-- ---- what passes a test of items in order

-- the first key, if there is one, is no lower than the number
abbrev IsLeast : {A : Type 0} → (A → ℕ) → ℕ → List A → Type 0
IsLeast key n [] = Unit {0}
IsLeast key n (x ∷ xs) = n ≤ key x

least_by : {A : Type 0} (key : A → ℕ) (n : ℕ) (y : A) (ys : List A) (b : Bool) → n ≤ key y → IsLeast key n ys → IsLeast key n (cond b (y ∷ ys) ys)
least_by key n y ys true l h = l
least_by key n y ys false l h = h

least_first : {A : Type 0} (key : A → ℕ) (n : ℕ) (y : A) (ys : List A) → n ≤ key y → Rises key (y ∷ ys) → IsLeast key n ys
least_first key n y [] l h = tt
least_first key n y (z ∷ zs) l h = omega (arith, l, h.0)

least_kept : {A : Type 0} (key : A → ℕ) (p : A → Bool) (n : ℕ) (ys : List A) → IsLeast key n ys → Rises key ys → IsLeast key n (filter p ys)
least_kept key p n [] l h = tt
least_kept key p n (y ∷ ys) l h = least_by key n y (filter p ys) (p y) l (least_kept key p n ys (least_first key n y ys l h) (rises_behind key y ys h))

put_first : {A : Type 0} (key : A → ℕ) (x : A) (ys : List A) → IsLeast key (key x) ys → put_in_order key x ys ≡ x ∷ ys
put_first key x [] l = refl
put_first {A} key x (y ∷ ys) l = ap (λ (b : Bool). elim b [ true ↦ x ∷ y ∷ ys | false ↦ y ∷ put_in_order key x ys ]) (le-leb (key x) (key y) l)

-- an item that passes is put among those that pass, one that doesn't isn't
abbrev Put : {A : Type 0} → (A → ℕ) → A → List A → Bool → List A
Put key x ys true = put_in_order key x ys
Put key x ys false = ys

-- t: the item passes; u: the first one does; b: the item comes before it
kept_by : {A : Type 0} (key : A → ℕ) (p : A → Bool) (x y : A) (ys : List A) (t u b : Bool) → p x ≡ t → p y ≡ u → nat_le (key x) (key y) ≡ b → Rises key (y ∷ ys)
    → filter p (put_in_order key x ys) ≡ Put key x (filter p ys) t
    → cond b (cond t (x ∷ cond u (y ∷ filter p ys) (filter p ys)) (cond u (y ∷ filter p ys) (filter p ys))) (cond u (y ∷ filter p (put_in_order key x ys)) (filter p (put_in_order key x ys))) ≡ Put key x (cond u (y ∷ filter p ys) (filter p ys)) t
kept_by {A} key p x y ys true u true e f l h more =
    let least : IsLeast key (key x) (filter p ys) = least_kept key p (key x) ys (least_first key (key x) y ys (leb-true (key x) (key y) l) h) (rises_behind key y ys h) in
    sym (put_first key x (cond u (y ∷ filter p ys) (filter p ys)) (least_by key (key x) y (filter p ys) u (leb-true (key x) (key y) l) least))
kept_by key p x y ys false u true e f l h more = refl
kept_by {A} key p x y ys true true false e f l h more =
    ap (λ (w : List A). y ∷ w) more ∙ ap (λ (b : Bool). elim b [ true ↦ x ∷ y ∷ filter p ys | false ↦ y ∷ put_in_order key x (filter p ys) ]) (sym l)
kept_by key p x y ys true false false e f l h more = more
kept_by {A} key p x y ys false true false e f l h more = ap (λ (w : List A). y ∷ w) more
kept_by key p x y ys false false false e f l h more = more

filter_elim : {A : Type 0} (p : A → Bool) (x y : A) (ys more : List A) (b : Bool) → filter p (elim b [ true ↦ x ∷ y ∷ ys | false ↦ y ∷ more ]) ≡ cond b (filter p (x ∷ y ∷ ys)) (filter p (y ∷ more))
filter_elim p x y ys more true = refl
filter_elim p x y ys more false = refl

kept_put : {A : Type 0} (key : A → ℕ) (p : A → Bool) (x : A) (ys : List A) (t : Bool) → p x ≡ t → Rises key ys → filter p (put_in_order key x ys) ≡ Put key x (filter p ys) t
kept_put {A} key p x [] true e h = ap (λ (b : Bool). cond b (x ∷ []) []) e
kept_put {A} key p x [] false e h = ap (λ (b : Bool). cond b (x ∷ []) []) e
kept_put {A} key p x (y ∷ ys) t e h =
    filter_elim p x y ys (put_in_order key x ys) (nat_le (key x) (key y))
    ∙ ap (λ (b : Bool). cond (nat_le (key x) (key y)) (cond b (x ∷ filter p (y ∷ ys)) (filter p (y ∷ ys))) (filter p (y ∷ put_in_order key x ys))) e
    ∙ kept_by key p x y ys t (p y) (nat_le (key x) (key y)) e refl refl h (kept_put key p x ys t e (rises_behind key y ys h))

ordered_by : {A : Type 0} (key : A → ℕ) (p : A → Bool) (x : A) (xs ys : List A) (t : Bool) → p x ≡ t → ys ≡ in_order key (filter p xs) → Put key x ys t ≡ in_order key (cond t (x ∷ filter p xs) (filter p xs))
ordered_by {A} key p x xs ys true e h = ap (λ (w : List A). put_in_order key x w) h
ordered_by key p x xs ys false e h = h

-- what passes a test of the items in order are those that pass, in order
pub kept_in_order : {A : Type 0} (key : A → ℕ) (p : A → Bool) (xs : List A) → filter p (in_order key xs) ≡ in_order key (filter p xs)
kept_in_order key p [] = refl
kept_in_order key p (x ∷ xs) =
    kept_put key p x (in_order key xs) (p x) refl (rises_in_order key xs) ∙ ordered_by key p x xs (filter p (in_order key xs)) (p x) refl (kept_in_order key p xs)

-- ---- the entries of a list

listed_by : (e : PrefixListEntry) (es : List PrefixListEntry) (rest : List PrefixEntry) (b : Bool) → rest ≡ map (λ x. x.entry) es → elim b [ true ↦ e.entry ∷ rest | false ↦ rest ] ≡ map (λ x. x.entry) (cond b (e ∷ es) es)
listed_by e es rest true h = ap (λ (w : List PrefixEntry). e.entry ∷ w) h
listed_by e es rest false h = h

listed_kept : (q : List ℕ) (es : List PrefixListEntry) → listed q es ≡ map (λ e. e.entry) (filter (λ e. bytes_eq q e.list) es)
listed_kept q [] = refl
listed_kept q (e ∷ es) = listed_by e (filter (λ x. bytes_eq q x.list) es) (listed q es) (bytes_eq q e.list) (listed_kept q es)

-- f: the entry is of the family; b: it is of the name
named_by : (q : List ℕ) (e : PrefixListEntry) (es fs : List PrefixListEntry) (f b : Bool) → bytes_eq q e.list ≡ b → filter (λ x. bytes_eq q x.list) es ≡ fs
    → filter (λ x. bytes_eq q x.list) (elim f [ true ↦ e ∷ es | false ↦ es ]) ≡ elim (f && b) [ true ↦ e ∷ fs | false ↦ fs ]
named_by q e es fs true b h k = ap (λ (t : Bool). cond t (e ∷ filter (λ x. bytes_eq q x.list) es) (filter (λ x. bytes_eq q x.list) es)) h ∙ same b k
  where
    same : (t : Bool) → filter (λ x. bytes_eq q x.list) es ≡ fs → cond t (e ∷ filter (λ x. bytes_eq q x.list) es) (filter (λ x. bytes_eq q x.list) es) ≡ elim t [ true ↦ e ∷ fs | false ↦ fs ]
    same true h = ap (λ (w : List PrefixListEntry). e ∷ w) h
    same false h = h
named_by q e es fs false b h k = k

form_named : (family : Family) (q : List ℕ) (form : IosForm) (es fs : List PrefixListEntry) → filter (λ e. bytes_eq q e.list) es ≡ fs → filter (λ e. bytes_eq q e.list) (family_entry_from family form es) ≡ prefix_entry_from family q form fs
form_named family q (OfPrefixList e) es fs h = named_by q e es fs (same_family family (family_of e)) (bytes_eq q e.list) refl h
form_named family q _ es fs h = h

-- those of a family's entries that are of a name are the list of the family and the name
named_entries : (family : Family) (q : List ℕ) (all : List IosItem) → filter (λ e. bytes_eq q e.list) (family_entries family all) ≡ prefix_entries family q all
named_entries family q [] = refl
named_entries family q (i ∷ is) = form_named family q i.form (family_entries family is) (prefix_entries family q is) (named_entries family q is)

-- what stands under a name when the entries in order have been put there is the list
pub listed_in_order : (family : Family) (all : List IosItem) (es : List PrefixListEntry) (m : Named PrefixEntry) → es ≡ in_order (λ e. e.number) (family_entries family all)
    → ((q : List ℕ) → entries_under m q ≡ listed q es) → (q : List ℕ) → entries_under m q ≡ prefix_list family q all
listed_in_order family all es m e h q =
    h q ∙ ap (λ (xs : List PrefixListEntry). listed q xs) e ∙ listed_kept q (in_order (λ e. e.number) (family_entries family all))
    ∙ ap (λ (xs : List PrefixListEntry). map (λ e. e.entry) xs) (kept_in_order (λ (e : PrefixListEntry). e.number) (λ (e : PrefixListEntry). bytes_eq q e.list) (family_entries family all))
    ∙ ap (λ (xs : List PrefixListEntry). map (λ e. e.entry) (in_order (λ e. e.number) xs)) (named_entries family q all)
