-- The flags of terms behind one more form, and the policies whose blocks pass by them.
use Rattle.std.proofs.Common.{◌≡◌, refl, sym, ap, ◌∙◌, ℕ, Bool, true, false, not, ◌&&◌, ◌||◌, List, [], ◌∷◌, Option, Some, None}
use Rattle.std.specs.List.{list_any}
use Rattle.junos_tree.specs.Sorts.{is_inner}
use Rattle.junos_tree.specs.Terms.{term_before, starts_term, is_of_term}
use Rattle.junos_tree.specs.declared.item.StatementSort.{StatementSort}
use Rattle.junos_tree.specs.declared.item.StatementSort.TheVariants.{PrefixList as ListSort, Community as CommunitySort, AsPath as PathSort, Policy as PolicySort, Inner}
use Rattle.junos_tree.specs.declared.item.Condition.{Condition as TheCondition}
use Rattle.junos_tree.specs.declared.item.Action.{Action as TheAction}
use Rattle.junos_tree.specs.declared.item.OtherItem.{OtherItem}
use Rattle.junos_tree.specs.declared.item.JunosForm.{JunosForm}
use Rattle.junos_tree.specs.declared.item.JunosForm.TheVariants.{PrefixList, Member, Community, AsPath, Policy, Term, Condition, Action, Other}
use Rattle.junos_reader.specs.Statements.{policy_in}
use Rattle.junos_reader.specs.Terms.{goes_on_before, policy_before, onto_passing, passing}
use Rattle.junos_reader.specs.Known.{flags_of, flags_behind, goes_on_by, goes_on_in, passing_from}
use Rattle.junos_reader.specs.declared.flags.Flags.{Flags}
use Rattle.junos_reader.specs.declared.flags.TermChoice.{TermChoice}
use Rattle.junos_reader.specs.declared.flags.TermChoice.TheVariants.{Named, All}

-- the flags behind a form
abbrev AreBehind : JunosForm → List JunosForm → Type 0
AreBehind f before = flags_behind (flags_of before) f ≡ flags_of (f ∷ before)

behind_condition : (unnamed : Bool) (c : TheCondition) (before : List JunosForm) → AreBehind (Condition (record { unnamed = unnamed; condition = c })) before
unfolding term_before goes_on_before
behind_condition true c before = refl
behind_condition false c before = refl

behind_action : (unnamed : Bool) (a : TheAction) (before : List JunosForm) → AreBehind (Action (record { unnamed = unnamed; action = a })) before
unfolding term_before goes_on_before
behind_action true a before = refl
behind_action false a before = refl

behind_other : (sort : StatementSort) (name : Option (List ℕ)) (before : List JunosForm) → AreBehind (Other (record { sort = sort; name = name })) before
unfolding term_before goes_on_before
behind_other ListSort name before = refl
behind_other CommunitySort name before = refl
behind_other PathSort name before = refl
behind_other PolicySort name before = refl
behind_other Inner name before = refl

pub flags_are : (f : JunosForm) (before : List JunosForm) → flags_behind (flags_of before) f ≡ flags_of (f ∷ before)
unfolding term_before goes_on_before
flags_are (PrefixList name) before = refl
flags_are (Member p) before = refl
flags_are (Community c) before = refl
flags_are (AsPath p) before = refl
flags_are (Policy name) before = refl
flags_are (Term name) before = refl
flags_are (Condition c) before = behind_condition c.unnamed c.condition before
flags_are (Action a) before = behind_action a.unnamed a.action before
flags_are (Other o) before = behind_other o.sort o.name before

-- ---- the policies whose blocks pass

goes_on_is : (terms : TermChoice) (before : List JunosForm) → goes_on_by terms (flags_of before) ≡ goes_on_in terms before
goes_on_is Named before = refl
goes_on_is All before = refl

pub passing_by_flags : (terms : TermChoice) (before fs : List JunosForm) → passing_from terms (flags_of before) (policy_before before) fs ≡ passing (goes_on_in terms) before fs
unfolding passing_from passing policy_before
passing_by_flags terms before [] = ap (λ (b : Bool). onto_passing b (policy_before before) []) (goes_on_is terms before)
passing_by_flags terms before (f ∷ fs) = step (is_inner f) refl (passing_by_flags terms (f ∷ before) fs)
  where
    step : (b : Bool) → is_inner f ≡ b → passing_from terms (flags_of (f ∷ before)) (policy_before (f ∷ before)) fs ≡ passing (goes_on_in terms) (f ∷ before) fs
        → ◌≡◌ {A = List (List ℕ)} (elim b [ true ↦ passing_from terms (flags_behind (flags_of before) f) (policy_before before) fs | false ↦ onto_passing (goes_on_by terms (flags_of before)) (policy_before before) (passing_from terms (flags_behind (flags_of before) f) (policy_in f) fs) ])
        (elim b [ true ↦ passing (goes_on_in terms) (f ∷ before) fs | false ↦ onto_passing (goes_on_in terms before) (policy_before before) (passing (goes_on_in terms) (f ∷ before) fs) ])
    step true e rest =
        let policy : policy_before (f ∷ before) ≡ policy_before before = rw (e, policy_before) refl in
        (λ j. passing_from terms (flags_are f before j) (sym policy j) fs) ∙ rest
    step false e rest =
        let policy : policy_before (f ∷ before) ≡ policy_in f = rw (e, policy_before) refl in
        (λ j. onto_passing (goes_on_is terms before j) (policy_before before) (passing_from terms (flags_are f before j) (sym policy j) fs))
        ∙ ap (λ (ps : List (List ℕ)). onto_passing (goes_on_in terms before) (policy_before before) ps) rest

pub passing_at_start : (terms : TermChoice) (fs : List JunosForm) → passing_from terms (flags_of []) None fs ≡ passing (goes_on_in terms) [] fs
unfolding policy_before
passing_at_start terms fs = passing_by_flags terms [] fs
