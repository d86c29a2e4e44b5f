-- What walks have found of path lists and of lines, before what is left.
use Rattle.std.proofs.Common.{◌≡◌, refl, sym, ap, ◌∙◌, ℕ, Bool, true, false, ◌&&◌, List, [], ◌∷◌, ◌++◌, append_assoc, Option, Some, None}
use Rattle.std.specs.Prelude.{map}
use Rattle.std.specs.List.{list_all, AllByRecursion}
use Rattle.std.proofs.lemmas.List.{append-nil}
use Rattle.std.proofs.lemmas.List.Folds.{list_all-append}
use Rattle.route_types.specs.Route.{RouteParts}
use Rattle.path_patterns.specs.Items.{IsPath}
use Rattle.core_nodes.specs.Atoms.{atom_holds}
use Rattle.core_nodes.specs.declared.atom.Atom.{Atom}
use Rattle.core_nodes.specs.declared.atom.PathList.{PathList}
use Rattle.ios_tree.specs.declared.item.IosItem.{IosItem}
use Rattle.ios_tree.specs.declared.item.MapLine.{MapLine}
use Rattle.ios_meaning.specs.Lists.{path_list}
use Rattle.ios_meaning.specs.Meaning.{line_holds}
use Rattle.ios_lower.specs.Atoms.{path_list_of, atom_of, in_front, atoms_of}
use Rattle.ios_lower.specs.AtomSteps.{IsMatched, holds_if, AtomsFound}

-- the lists that are left are copied; if they are matched, all are
pub record ListsMade (items : List IosItem) (all left : List (List ℕ)) (found : List PathList) : Type 0 where
  pub same : found ++ map (path_list_of items) left ≡ map (path_list_of items) all
  pub matched : AllByRecursion (λ list. AllByRecursion IsMatched (path_list list items)) left → AllByRecursion (λ list. AllByRecursion IsMatched (path_list list items)) all

pub lists_none : (items : List IosItem) (all : List (List ℕ)) → ListsMade items all all []
lists_none items all = record { same = refl; matched = λ h. h }

pub lists_more : (items : List IosItem) (all left : List (List ℕ)) (list : List ℕ) (found more : List PathList) → ListsMade items all (list ∷ left) found → AllByRecursion IsMatched (path_list list items) → more ≡ found ++ path_list_of items list ∷ [] → ListsMade items all left more
lists_more items all left list found more w m k =
    record {
      same = ap (λ (xs : List PathList). xs ++ map (path_list_of items) left) k ∙ append_assoc found (path_list_of items list ∷ []) (map (path_list_of items) left) ∙ w.same;
      matched = λ h. w.matched (m, h);
    }

-- ---- lines

pub atoms_none : (items : List IosItem) (all : List MapLine) → AtomsFound items all all []
atoms_none items all = record { same = refl; holds = λ r h. refl }

joined : (f a l b : Bool) → a ≡ l → ((f && (a && true)) && b) ≡ (f && (l && b))
joined true true l b e = ap (λ (x : Bool). x && b) e
joined true false l b e = ap (λ (x : Bool). x && b) e
joined false a l b e = refl

skipped : (f l b : Bool) → true ≡ l → (f && b) ≡ (f && (l && b))
skipped true l b e = ap (λ (x : Bool). x && b) e
skipped false l b e = refl

-- a line that tests something adds its atom
pub atoms_more : (items : List IosItem) (all left : List MapLine) (l : MapLine) (o : Option Atom) (a : Atom) (found more : List Atom) → o ≡ atom_of items l → o ≡ Some a → ((r : RouteParts) → IsPath r.path → holds_if o r ≡ line_holds items r l)
    → more ≡ found ++ a ∷ [] → AtomsFound items all (l ∷ left) found → AtomsFound items all left more
unfolding atoms_of
atoms_more items all left l o a found more e s w k t =
    record {
      same = ap (λ (xs : List Atom). xs ++ atoms_of items left) k ∙ append_assoc found (a ∷ []) (atoms_of items left)
          ∙ ap (λ (x : Option Atom). found ++ in_front x (atoms_of items left)) (sym s ∙ e) ∙ t.same;
      holds = λ r h. ap (λ (xs : List Atom). list_all (λ b. atom_holds b r) xs && list_all (line_holds items r) left) k
          ∙ ap (λ (b : Bool). b && list_all (line_holds items r) left) (list_all-append (λ b. atom_holds b r) found (a ∷ []))
          ∙ joined (list_all (λ b. atom_holds b r) found) (atom_holds a r) (line_holds items r l) (list_all (line_holds items r) left) (ap (λ (x : Option Atom). holds_if x r) (sym s) ∙ w r h)
          ∙ t.holds r h;
    }

-- a line that tests nothing holds
pub atoms_same : (items : List IosItem) (all left : List MapLine) (l : MapLine) (o : Option Atom) (found : List Atom) → o ≡ atom_of items l → o ≡ None → ((r : RouteParts) → IsPath r.path → holds_if o r ≡ line_holds items r l)
    → AtomsFound items all (l ∷ left) found → AtomsFound items all left found
unfolding atoms_of
atoms_same items all left l o found e s w t =
    record {
      same = ap (λ (x : Option Atom). found ++ in_front x (atoms_of items left)) (sym s ∙ e) ∙ t.same;
      holds = λ r h. skipped (list_all (λ b. atom_holds b r) found) (line_holds items r l) (list_all (line_holds items r) left) (ap (λ (x : Option Atom). holds_if x r) (sym s) ∙ w r h) ∙ t.holds r h;
    }

and_true : (b : Bool) → b ≡ (b && true)
and_true true = refl
and_true false = refl

-- when no line is left, these are the atoms
pub atoms_all : (items : List IosItem) (all : List MapLine) (found : List Atom) → AtomsFound items all [] found → (found ≡ atoms_of items all) × ((r : RouteParts) → IsPath r.path → list_all (λ a. atom_holds a r) found ≡ list_all (line_holds items r) all)
unfolding atoms_of
atoms_all items all found t = (sym (append-nil found) ∙ t.same, λ r h. and_true (list_all (λ a. atom_holds a r) found) ∙ t.holds r h)
