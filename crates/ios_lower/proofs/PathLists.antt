-- The path lists that a walk over the items finds are those of the tree.
use Rattle.std.proofs.Common.{◌≡◌, refl, sym, ap, subst, ◌∙◌, ℕ, Bool, true, false, List, [], ◌∷◌, ◌++◌, append_assoc}
use Rattle.std.specs.Prelude.{bytes_eq, map}
use Rattle.std.specs.List.{AllByRecursion}
use Rattle.core_nodes.specs.declared.atom.PathEntry.{PathEntry}
use Rattle.ios_tree.specs.declared.item.IosForm.{IosForm}
use Rattle.ios_tree.specs.declared.item.IosForm.TheVariants.{PathEntry as OfPathList}
use Rattle.ios_tree.specs.declared.item.IosItem.{IosItem}
use Rattle.ios_tree.specs.declared.item.PathListEntry.{PathListEntry}
use Rattle.ios_meaning.specs.Lists.{path_list}
use Rattle.ios_lower.specs.Atoms.{path_entry_of}
use Rattle.ios_lower.specs.AtomSteps.{IsMatched, AddsPath}
use Rattle.ios_lower.specs.Named.{Listed, under}

-- xs: what stood under a name; b: the entry is of its list
added_by : (e : PathListEntry) (xs ys : List PathEntry) (rest : List PathListEntry) (b : Bool) → ys ≡ elim b [ true ↦ xs ++ path_entry_of e ∷ [] | false ↦ xs ]
    → ys ++ map path_entry_of rest ≡ xs ++ map path_entry_of (elim b [ true ↦ e ∷ rest | false ↦ rest ])
added_by e xs ys rest true h = ap (λ (zs : List PathEntry). zs ++ map path_entry_of rest) h ∙ append_assoc xs (path_entry_of e ∷ []) (map path_entry_of rest)
added_by e xs ys rest false h = ap (λ (zs : List PathEntry). zs ++ map path_entry_of rest) h

matched_by : (e : PathListEntry) (rest : List PathListEntry) (b : Bool) → IsMatched e → AllByRecursion IsMatched rest → AllByRecursion IsMatched (elim b [ true ↦ e ∷ rest | false ↦ rest ])
matched_by e rest true m h = (m, h)
matched_by e rest false m h = h

adds_entry : (e : PathListEntry) (old new : Listed PathEntry) → ((q : List ℕ) → under new q ≡ elim (bytes_eq q e.list) [ true ↦ under old q ++ path_entry_of e ∷ [] | false ↦ under old q ]) → IsMatched e → AddsPath (OfPathList e) old new
adds_entry e old new h m =
    record {
      same = λ q rest. added_by e (under old q) (under new q) rest (bytes_eq q e.list) (h q);
      matched = λ q rest k. matched_by e rest (bytes_eq q e.list) m k;
    }

-- an entry of a path list has been put behind those of its list
pub adds_path : (form : IosForm) (e : PathListEntry) (old new : Listed PathEntry) → form ≡ OfPathList e → ((q : List ℕ) → under new q ≡ elim (bytes_eq q e.list) [ true ↦ under old q ++ path_entry_of e ∷ [] | false ↦ under old q ]) → IsMatched e → AddsPath form old new
adds_path form e old new is h m = subst (λ (f : IosForm). AddsPath f old new) (sym is) (adds_entry e old new h m)

-- any other item adds nothing
pub adds_none : (form : IosForm) (old : Listed PathEntry) → ((e : PathListEntry) → form ≡ OfPathList e → ⊥) → AddsPath form old old
adds_none (OfPathList e) old h = absurd (h e refl)
adds_none _ old h = record { same = λ q rest. refl; matched = λ q rest k. k }

-- the items that are left have not been looked at
pub record PathsFound (all left : List IosItem) (m : Listed PathEntry) : Type 0 where
  pub same : (q : List ℕ) → under m q ++ map path_entry_of (path_list q left) ≡ map path_entry_of (path_list q all)
  pub matched : (q : List ℕ) → AllByRecursion IsMatched (path_list q left) → AllByRecursion IsMatched (path_list q all)

pub found_none : (all : List IosItem) (m : Listed PathEntry) → ((q : List ℕ) → under m q ≡ []) → PathsFound all all m
found_none all m h = record { same = λ q. ap (λ (xs : List PathEntry). xs ++ map path_entry_of (path_list q all)) (h q); matched = λ q k. k }

pub found_more : (all left : List IosItem) (i : IosItem) (m n : Listed PathEntry) → PathsFound all (i ∷ left) m → AddsPath i.form m n → PathsFound all left n
found_more all left i m n f a =
    record {
      same = λ q. a.same q (path_list q left) ∙ f.same q;
      matched = λ q k. f.matched q (a.matched q (path_list q left) k);
    }
