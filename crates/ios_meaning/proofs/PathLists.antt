-- The walk that keeps the first answer of each path list finds what the lists answer.
use Rattle.std.proofs.Common.{◌≡◌, refl, sym, ap, ◌∙◌, ℕ, Bool, true, false, List, [], ◌∷◌, Option, Some, None}
use Rattle.std.specs.Prelude.{bytes_eq, unwrap_or}
use Rattle.path_patterns.specs.Finds.{finds_in}
use Rattle.name_maps.specs.Under.{first_of}
use Rattle.name_maps.specs.declared.map.NameMap.{NameMap}
use Rattle.ios_tree.specs.declared.item.PathListEntry.{PathListEntry}
use Rattle.ios_tree.specs.declared.item.IosForm.{IosForm}
use Rattle.ios_tree.specs.declared.item.IosForm.TheVariants.{PathEntry as OfPathList}
use Rattle.ios_tree.specs.declared.item.IosItem.{IosItem}
use Rattle.ios_meaning.specs.Lists.{path_list, path_entry_from, path_answers}
use Rattle.ios_meaning.specs.Answers.{path_answered_by, path_answered_from, held_at, ArePathAnswers}

first_kept : (o : Option Bool) (permit rest : Bool) → unwrap_or (first_of o permit) rest ≡ unwrap_or o permit
first_kept None permit rest = refl
first_kept (Some a) permit rest = refl

-- n: the entry is of the list; t: its pattern is found
step_by : (path : List ℕ) (e : PathListEntry) (es : List PathListEntry) (o : Option Bool) (n t : Bool) → finds_in e.pattern path ≡ t
    → unwrap_or (elim t [ true ↦ elim n [ true ↦ first_of o e.permit | false ↦ o ] | false ↦ o ]) (path_answers es path)
    ≡ unwrap_or o (path_answers (elim n [ true ↦ e ∷ es | false ↦ es ]) path)
unfolding path_answers
step_by path e es o true true h =
    first_kept o e.permit (path_answers es path) ∙ ap (λ (t : Bool). unwrap_or o (elim t [ true ↦ e.permit | false ↦ path_answers es path ])) (sym h)
step_by path e es o true false h = ap (λ (t : Bool). unwrap_or o (elim t [ true ↦ e.permit | false ↦ path_answers es path ])) (sym h)
step_by path e es o false true h = refl
step_by path e es o false false h = refl

form_step : (path list : List ℕ) (form : IosForm) (es : List PathListEntry) (o : Option Bool) → unwrap_or (path_answered_by path list form o) (path_answers es path) ≡ unwrap_or o (path_answers (path_entry_from list form es) path)
form_step path list (OfPathList e) es o = step_by path e es o (bytes_eq list e.list) (finds_in e.pattern path) refl
form_step path list _ es o = refl

answered : (path list : List ℕ) (is : List IosItem) (o : Option Bool) → unwrap_or (path_answered_from path list o is) false ≡ unwrap_or o (path_answers (path_list list is) path)
unfolding path_answered_from path_answers
answered path list [] o = refl
answered path list (i ∷ is) o = answered path list is (path_answered_by path list i.form o) ∙ form_step path list i.form (path_list list is) o

-- a map that holds for each name the answer of the walk has the answers of the path lists
pub path_answers_are : (all : List IosItem) (path : List ℕ) (m : NameMap Bool) → ((list : List ℕ) → held_at m list ≡ path_answered_from path list None all) → ArePathAnswers all path m
path_answers_are all path m h = λ list. ap (λ (o : Option Bool). unwrap_or o false) (h list) ∙ answered path list all None
