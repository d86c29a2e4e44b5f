-- Actions as forms, one list behind another.
use Rattle.std.proofs.Common.{◌≡◌, sym, ap, ◌∙◌, ℕ, ◌+◌, Bool, true, false, List, [], ◌∷◌, ◌++◌, append_assoc, append-nil}
use Rattle.std.proofs.lemmas.List.{map-append}
use Rattle.rpl_layout.specs.Statements.{prepend_of, goes_on, prepends_from}
use Rattle.rpl_forms.specs.declared.item.Action.{Action}
use Rattle.rpl_forms.specs.declared.item.RplForm.{RplForm}
use Rattle.rpl_policies.specs.Acts.{acts}

pub acts_append : (xs ys : List Action) → acts (xs ++ ys) ≡ acts xs ++ acts ys
unfolding acts
acts_append xs ys = map-append _ xs ys

-- no action adds nothing
pub no_acts : (out : List RplForm) → out ++ acts [] ≡ out
unfolding acts
no_acts out = append-nil out

-- what was put behind actions stands behind their forms
pub acts_then : (old more new : List RplForm) (xs ys : List Action) → more ≡ old ++ acts xs → new ≡ more ++ acts ys → new ≡ old ++ acts (xs ++ ys)
acts_then old more new xs ys first second =
    second ∙ ap (λ (fs : List RplForm). fs ++ acts ys) first ∙ append_assoc old (acts xs) (acts ys) ∙ ap (λ (fs : List RplForm). old ++ fs) (sym (acts_append xs ys))

-- where a run of a number doesn't go on, its action stands before the others
pub run_ends : (m times n : ℕ) (ns : List ℕ) → goes_on m times n ≡ false → prepends_from m times (n ∷ ns) ≡ prepend_of m times ∷ prepends_from n 1 ns
unfolding prepends_from
run_ends m times n ns e = ap (λ (b : Bool). elim b [ true ↦ prepends_from m (times + 1) ns | false ↦ prepend_of m times ∷ prepends_from n 1 ns ]) e
