-- The changes that have been found, with those of one more line.
use Rattle.std.proofs.Common.{◌≡◌, refl, sym, ap, subst, ◌∙◌, Bool, true, false, cond, not, List, [], ◌∷◌, ◌++◌, inl, inr}
use Rattle.std.specs.Prelude.{filter}
use Rattle.std.specs.List.{AllByRecursion}
use Rattle.route_types.specs.Change.{changed_by}
use Rattle.route_types.specs.Route.{RouteParts}
use Rattle.route_types.specs.declared.change.Change.{Change}
use Rattle.path_patterns.proofs.Lists.{all_append}
use Rattle.ios_tree.specs.declared.item.IosItem.{IosItem}
use Rattle.ios_tree.specs.declared.item.MapLine.{MapLine}
use Rattle.ios_meaning.specs.Meaning.{deletes, set_by_lines}
use Rattle.ios_meaning.specs.Drafts.{deletes_as}
use Rattle.ios_meaning.proofs.Alike.{filter_alike}
use Rattle.ios_lower.specs.Changes.{IsChangeOf}
use Rattle.ios_lower.specs.ChangeSteps.{IsTestable, IsOfLines, AreOfLine, AreBefore, AreOfEntry}
use Rattle.ios_lower.proofs.ChangeLaws.{changed_both}
use Rattle.ios_lower.proofs.Grows.{all_wider}

-- before any line nothing has been found
pub none_before : (all : List IosItem) (deleting : Bool) (lines : List MapLine) → AreBefore all deleting lines lines []
none_before all deleting lines = record { acts = λ r h. refl; keeps = λ r h. h; own = tt; within = λ c h. h }

-- a line of the other sort is passed over
pub passed_over : (all : List IosItem) (deleting : Bool) (l : MapLine) (old : List Change) (lines rest : List MapLine) → deletes_as deleting l ≡ false → AreBefore all deleting lines (l ∷ rest) old → AreBefore all deleting lines rest old
passed_over all deleting l old lines rest e b =
    let left : List MapLine = filter (deletes_as deleting) rest in
    record {
      acts = λ r h. ap (λ (t : Bool). set_by_lines all (cond t (l ∷ left) left) (changed_by old r)) (sym e) ∙ b.acts r h;
      keeps = b.keeps;
      own = b.own;
      within = λ c h. b.within c (inr h);
    }

-- a line of the sort adds its changes
pub taken_in : (all : List IosItem) (deleting : Bool) (l : MapLine) (old cs new : List Change) (lines rest : List MapLine) → deletes_as deleting l ≡ true → AreOfLine all l cs → new ≡ old ++ cs
    → AreBefore all deleting lines (l ∷ rest) old → AreBefore all deleting lines rest new
taken_in all deleting l old cs new lines rest e o n b =
    let left : List MapLine = filter (deletes_as deleting) rest in
    let step : (r : RouteParts) → IsTestable r → changed_by new r ≡ changed_by cs (changed_by old r) = λ r h. ap (λ (xs : List Change). changed_by xs r) n ∙ changed_both old cs r in
    record {
      acts = λ r h. ap (λ (q : RouteParts). set_by_lines all left q) (step r h ∙ o.acts (changed_by old r) (b.keeps r h))
          ∙ ap (λ (t : Bool). set_by_lines all (cond t (l ∷ left) left) (changed_by old r)) (sym e) ∙ b.acts r h;
      keeps = λ r h. subst IsTestable (sym (step r h)) (o.keeps (changed_by old r) (b.keeps r h));
      own = subst (λ (xs : List Change). AllByRecursion (IsOfLines all lines) xs) (sym n)
          (all_append (IsOfLines all lines) old cs b.own (all_wider (IsChangeOf all l) (IsOfLines all lines) cs (λ c h. b.within c (inl h)) o.own));
      within = λ c h. b.within c (inr h);
    }

-- the deletions and then the others are the changes of the entry
pub both_sorts : (all : List IosItem) (lines : List MapLine) (first second cs : List Change) → AreBefore all true lines [] first → AreBefore all false lines [] second → cs ≡ first ++ second → AreOfEntry all lines cs
both_sorts all lines first second cs f s e =
    let deleted : (r : RouteParts) → IsTestable r → changed_by first r ≡ set_by_lines all (filter deletes lines) r =
    λ r h. f.acts r h ∙ ap (λ (ls : List MapLine). set_by_lines all ls r) (filter_alike (deletes_as true) deletes (λ l. refl) lines) in
    record {
      acts = λ r h. ap (λ (xs : List Change). changed_by xs r) e ∙ changed_both first second r
          ∙ s.acts (changed_by first r) (f.keeps r h)
          ∙ ap (λ (ls : List MapLine). set_by_lines all ls (changed_by first r)) (filter_alike (deletes_as false) (λ l. not (deletes l)) (λ l. refl) lines)
          ∙ ap (λ (q : RouteParts). set_by_lines all (filter (λ l. not (deletes l)) lines) q) (deleted r h);
      keeps = λ r h. subst IsTestable (sym (ap (λ (xs : List Change). changed_by xs r) e ∙ changed_both first second r)) (s.keeps (changed_by first r) (f.keeps r h));
      own = subst (λ (xs : List Change). AllByRecursion (IsOfLines all lines) xs) (sym e) (all_append (IsOfLines all lines) first second f.own s.own);
    }
