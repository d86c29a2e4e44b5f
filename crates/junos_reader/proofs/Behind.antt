-- What stands before, behind one more item.
use Rattle.std.proofs.Common.{◌≡◌, refl, sym, ap, ◌∙◌, subst, ℕ, Bool, true, false, not, ◌&&◌, ◌||◌, List, [], ◌∷◌, length, get_or, Option, Some, None}
use Rattle.std.specs.Prelude.{bytes_eq, option_map}
use Rattle.std.specs.List.{list_any}
use Rattle.std.specs.BTreeSet.{BTreeSet}
use denote.Ref.{Bor}
use Rattle.policy_text.specs.NameSets.{has_name, is_key}
use Rattle.junos_tree.specs.Sorts.{same_sort, is_inner}
use Rattle.junos_tree.specs.Terms.{term_before}
use Rattle.junos_tree.specs.declared.item.StatementSort.{StatementSort}
use Rattle.junos_tree.specs.declared.item.StatementSort.TheVariants.{PrefixList as ListSort, Community as CommunitySort, AsPath as PathSort, Policy as PolicySort, Inner}
use Rattle.junos_tree.specs.declared.item.Condition.{Condition as TheCondition}
use Rattle.junos_tree.specs.declared.item.Action.{Action as TheAction}
use Rattle.junos_tree.specs.declared.item.TermCondition.{TermCondition}
use Rattle.junos_tree.specs.declared.item.TermAction.{TermAction}
use Rattle.junos_tree.specs.declared.item.JunosForm.{JunosForm}
use Rattle.junos_tree.specs.declared.item.JunosForm.TheVariants.{PrefixList, Member, Community, AsPath, Policy, Term, Condition, Action, Other}
use Rattle.junos_reader.specs.Forms.{sort_code, is_unnamed, acts, prepends, ends}
use Rattle.junos_reader.specs.Terms.{goes_on_before}
use Rattle.junos_reader.specs.Before.{Earlier, earlier, Definition, definition_of, definition_before, is_as, starts, has_term, Before, before_of}
use Rattle.junos_reader.specs.Known.{told, told_term, earlier_behind, flags_of, flags_behind, is_statement, IsEmptyTerm, IsBehind}
use Rattle.junos_reader.specs.declared.flags.Flags.{Flags}
use Rattle.junos_reader.specs.declared.state.State.{State}
use Rattle.junos_reader.specs.declared.state.TermState.{TermState}
use Rattle.junos_reader.proofs.FlagLaws.{flags_are}

-- a set without keys has no name
pub no_names : (s : BTreeSet (Bor (List ℕ) × ℕ × ℕ)) → s.keys ≡ [] → (q : List ℕ) (a b : ℕ) → has_name s q a b ≡ false
no_names s e q a b = rw e refl

-- ---- the first item

pub nothing_before : (s : State) → s.definition ≡ None → ((q : List ℕ) (a b : ℕ) → has_name s.defined q a b ≡ false) → ((q : List ℕ) (a b : ℕ) → has_name s.terms q a b ≡ false)
    → IsEmptyTerm s.named → IsEmptyTerm s.unnamed → s.flags ≡ flags_of [] → IsBehind [] s
unfolding definition_before has_term term_before goes_on_before
nothing_before s definition defined terms named unnamed flags = record {
  tells = λ j. record {
    definition = option_map (λ d. (d.0, d.1.now)) (definition j);
    defined = λ sort q. defined q (sort_code sort) 0 j;
    terms = λ q. terms q 0 0 j;
    named = named.tells j;
    unnamed = unnamed.tells j;
    goes_on = (flags j).goes_on;
  };
  flags = flags;
  named_len = named.len;
  unnamed_len = unnamed.len;
}

-- ---- the parts of what stands before

module _ (f : JunosForm) (before : List JunosForm) (old new : State) (behind : IsBehind before old) where
  -- the definitions before, behind a form that starts none
  same_defined : ((sort : StatementSort) (q : List ℕ) → starts sort q f ≡ false) → new.defined ≡ old.defined → (sort : StatementSort) (q : List ℕ) → has_name new.defined q (sort_code sort) 0 ≡ list_any (starts sort q) (f ∷ before)
  same_defined none e sort q =
      ap (λ s. has_name s q (sort_code sort) 0) e ∙ ap (λ (b : Before). b.defined sort q) behind.tells ∙ sym (ap (λ (b : Bool). b || list_any (starts sort q) before) (none sort q))

  -- behind a form that starts a definition
  pub behind_definition : is_inner f ≡ false → option_map (λ d. (d.0, d.1.now)) new.definition ≡ definition_of f
      → ((sort : StatementSort) (q : List ℕ) → has_name new.defined q (sort_code sort) 0 ≡ (is_as sort q f || has_name old.defined q (sort_code sort) 0))
      → ((q : List ℕ) (a b : ℕ) → has_name new.terms q a b ≡ false) → IsEmptyTerm new.named → IsEmptyTerm new.unnamed → new.flags ≡ flags_of [] → IsBehind (f ∷ before) new
  unfolding definition_before has_term term_before goes_on_before
  behind_definition outer definition defined terms named unnamed flags =
      let d : definition_before (f ∷ before) ≡ definition_of f = rw (outer, definition_before) refl in
      let t : (q : List ℕ) → has_term q (f ∷ before) ≡ false = λ q. rw (outer, has_term) refl in
      let n : term_before false (f ∷ before) ≡ [] = rw (outer, term_before) refl in
      let u : term_before true (f ∷ before) ≡ [] = rw (outer, term_before) refl in
      let g : goes_on_before (f ∷ before) ≡ false = rw (outer, goes_on_before) refl in
      let fs : flags_of [] ≡ flags_of (f ∷ before) = λ j. record {
        named_prepends = list_any (acts prepends) (sym n j);
        named_ends = list_any (acts ends) (sym n j);
        unnamed_prepends = list_any (acts prepends) (sym u j);
        unnamed_ends = list_any (acts ends) (sym u j);
        goes_on = sym g j;
      } in
      record {
        tells = λ j. record {
          definition = (definition ∙ sym d) j;
          defined = λ sort q. (defined sort q ∙ ap (λ (b : Before). is_as sort q f || b.defined sort q) behind.tells ∙ ap (λ (b : Bool). not b && is_as sort q f || list_any (starts sort q) before) (sym outer)) j;
          terms = λ q. (terms q 0 0 ∙ sym (t q)) j;
          named = (named.tells ∙ sym (ap earlier n)) j;
          unnamed = (unnamed.tells ∙ sym (ap earlier u)) j;
          goes_on = ((flags ∙ fs) j).goes_on;
        };
        flags = flags ∙ fs;
        named_len = named.len;
        unnamed_len = unnamed.len;
      }

-- behind the header of a term
pub behind_term : (name : List ℕ) (before : List JunosForm) (old new : State) → IsBehind before old → new.definition ≡ old.definition → new.defined ≡ old.defined
    → ((q : List ℕ) (a b : ℕ) → has_name new.terms q a b ≡ (is_key q a b name 0 0 || has_name old.terms q a b)) → IsEmptyTerm new.named → new.unnamed ≡ old.unnamed
    → new.flags ≡ flags_behind old.flags (Term name) → IsBehind (Term name ∷ before) new
unfolding definition_before has_term term_before goes_on_before
behind_term name before old new behind definition defined terms named unnamed flags =
    let fs : new.flags ≡ flags_of (Term name ∷ before) = flags ∙ ap (λ (s : Flags). flags_behind s (Term name)) behind.flags ∙ flags_are (Term name) before in
    let ds = same_defined (Term name) before old new behind (λ sort q. refl) defined in
    record {
      tells = λ j. record {
        definition = (ap (λ d. option_map (λ e. (e.0, e.1.now)) d) definition ∙ ap (λ (b : Before). b.definition) behind.tells) j;
        defined = λ sort q. ds sort q j;
        terms = λ q. (terms q 0 0 ∙ ap (λ (b : Before). bytes_eq q name || b.terms q) behind.tells) j;
        named = named.tells j;
        unnamed = (ap told_term unnamed ∙ ap (λ (b : Before). b.unnamed) behind.tells) j;
        goes_on = (fs j).goes_on;
      };
      flags = fs;
      named_len = named.len;
      unnamed_len = ap (λ (t : TermState). length t.kinds) unnamed ∙ behind.unnamed_len;
    }

-- the same of a form that is one
pub behind_header : (f : JunosForm) (name : List ℕ) → f ≡ Term name → (before : List JunosForm) (old new : State) → IsBehind before old → new.definition ≡ old.definition → new.defined ≡ old.defined
    → ((q : List ℕ) (a b : ℕ) → has_name new.terms q a b ≡ (is_key q a b name 0 0 || has_name old.terms q a b)) → IsEmptyTerm new.named → new.unnamed ≡ old.unnamed → new.flags ≡ flags_behind old.flags f
    → IsBehind (f ∷ before) new
behind_header f name e before old new behind definition defined terms named unnamed flags =
    subst (λ (g : JunosForm). IsBehind (g ∷ before) new) (sym e)
    (behind_term name before old new behind definition defined terms named unnamed (flags ∙ ap (λ (g : JunosForm). flags_behind old.flags g) e))

-- what a form that starts neither a definition nor a term leaves of what stands before: it stands in the term without a name,
-- in the named one, or in neither
pub record Parts (f : JunosForm) (before named unnamed : List JunosForm) : Type 0 where
  pub definition : definition_before (f ∷ before) ≡ definition_before before
  pub starts_none : (sort : StatementSort) (q : List ℕ) → starts sort q f ≡ false
  pub terms : (q : List ℕ) → has_term q (f ∷ before) ≡ has_term q before
  pub in_named : term_before false (f ∷ before) ≡ named
  pub in_unnamed : term_before true (f ∷ before) ≡ unnamed

behind_parts : (f : JunosForm) (before named unnamed : List JunosForm) (old new : State) → IsBehind before old → Parts f before named unnamed → new.definition ≡ old.definition → new.defined ≡ old.defined
    → new.terms ≡ old.terms → told_term new.named ≡ earlier named → told_term new.unnamed ≡ earlier unnamed → length new.named.kinds ≡ 8 → length new.unnamed.kinds ≡ 8 → new.flags ≡ flags_behind old.flags f
    → IsBehind (f ∷ before) new
behind_parts f before named unnamed old new behind parts definition defined terms named_is unnamed_is named_len unnamed_len flags =
    let fs : new.flags ≡ flags_of (f ∷ before) = flags ∙ ap (λ (s : Flags). flags_behind s f) behind.flags ∙ flags_are f before in
    let ds = same_defined f before old new behind parts.starts_none defined in
    record {
      tells = λ j. record {
        definition = (ap (λ d. option_map (λ e. (e.0, e.1.now)) d) definition ∙ ap (λ (b : Before). b.definition) behind.tells ∙ sym parts.definition) j;
        defined = λ sort q. ds sort q j;
        terms = λ q. (ap (λ s. has_name s q 0 0) terms ∙ ap (λ (b : Before). b.terms q) behind.tells ∙ sym (parts.terms q)) j;
        named = (named_is ∙ sym (ap earlier parts.in_named)) j;
        unnamed = (unnamed_is ∙ sym (ap earlier parts.in_unnamed)) j;
        goes_on = (fs j).goes_on;
      };
      flags = fs;
      named_len = named_len;
      unnamed_len = unnamed_len;
    }

-- ---- a condition or an action

abbrev named_with : Bool → JunosForm → List JunosForm → List JunosForm
named_with true f fs = fs
named_with false f fs = f ∷ fs

abbrev unnamed_with : Bool → JunosForm → List JunosForm → List JunosForm
unnamed_with true f fs = f ∷ fs
unnamed_with false f fs = fs

abbrev PartsOf : Bool → JunosForm → List JunosForm → Type 0
PartsOf u f before = Parts f before (named_with u f (term_before false before)) (unnamed_with u f (term_before true before))

condition_parts : (u : Bool) (c : TheCondition) (before : List JunosForm) → PartsOf u (Condition (record { unnamed = u; condition = c })) before
unfolding definition_before has_term term_before
condition_parts true c before = record { definition = refl; starts_none = λ sort q. refl; terms = λ q. refl; in_named = refl; in_unnamed = refl }
condition_parts false c before = record { definition = refl; starts_none = λ sort q. refl; terms = λ q. refl; in_named = refl; in_unnamed = refl }

action_parts : (u : Bool) (a : TheAction) (before : List JunosForm) → PartsOf u (Action (record { unnamed = u; action = a })) before
unfolding definition_before has_term term_before
action_parts true a before = record { definition = refl; starts_none = λ sort q. refl; terms = λ q. refl; in_named = refl; in_unnamed = refl }
action_parts false a before = record { definition = refl; starts_none = λ sort q. refl; terms = λ q. refl; in_named = refl; in_unnamed = refl }

parts_of : (f : JunosForm) (before : List JunosForm) → is_statement f ≡ true → PartsOf (is_unnamed f) f before
parts_of (Condition c) before e = condition_parts c.unnamed c.condition before
parts_of (Action a) before e = action_parts a.unnamed a.action before
parts_of (PrefixList name) before e = absurd cc
parts_of (Member p) before e = absurd cc
parts_of (Community c) before e = absurd cc
parts_of (AsPath p) before e = absurd cc
parts_of (Policy name) before e = absurd cc
parts_of (Term name) before e = absurd cc
parts_of (Other o) before e = absurd cc

module _ (f : JunosForm) (before : List JunosForm) (old new : State) (statement : is_statement f ≡ true) (behind : IsBehind before old) (definition : new.definition ≡ old.definition) (defined : new.defined ≡ old.defined)
    (terms : new.terms ≡ old.terms) (flags : new.flags ≡ flags_behind old.flags f) where
  parts_by : (u : Bool) → is_unnamed f ≡ u → PartsOf u f before
  parts_by u e = let P : Bool → Type 0 = λ b. PartsOf b f before in subst P e (parts_of f before statement)

  pub behind_unnamed : is_unnamed f ≡ true → new.named ≡ old.named → told_term new.unnamed ≡ earlier_behind f (told_term old.unnamed) → length new.unnamed.kinds ≡ 8 → IsBehind (f ∷ before) new
  behind_unnamed e named unnamed len =
      behind_parts f before (term_before false before) (f ∷ term_before true before) old new behind (parts_by true e) definition defined terms (ap told_term named ∙ ap (λ (b : Before). b.named) behind.tells)
      (unnamed ∙ ap (λ (b : Before). earlier_behind f b.unnamed) behind.tells) (ap (λ (t : TermState). length t.kinds) named ∙ behind.named_len) len flags

  pub behind_named : is_unnamed f ≡ false → new.unnamed ≡ old.unnamed → told_term new.named ≡ earlier_behind f (told_term old.named) → length new.named.kinds ≡ 8 → IsBehind (f ∷ before) new
  behind_named e unnamed named len =
      behind_parts f before (f ∷ term_before false before) (term_before true before) old new behind (parts_by false e) definition defined terms (named ∙ ap (λ (b : Before). earlier_behind f b.named) behind.tells)
      (ap told_term unnamed ∙ ap (λ (b : Before). b.unnamed) behind.tells) len (ap (λ (t : TermState). length t.kinds) unnamed ∙ behind.unnamed_len) flags

-- ---- anything else

other_parts : (sort : StatementSort) (name : Option (List ℕ)) (before : List JunosForm) → is_inner (Other (record { sort = sort; name = name })) ≡ true
    → Parts (Other (record { sort = sort; name = name })) before (term_before false before) (term_before true before)
unfolding definition_before has_term term_before
other_parts Inner name before e = record { definition = refl; starts_none = λ sort q. refl; terms = λ q. refl; in_named = refl; in_unnamed = refl }
other_parts ListSort name before e = absurd cc
other_parts CommunitySort name before e = absurd cc
other_parts PathSort name before e = absurd cc
other_parts PolicySort name before e = absurd cc

other_flags : (sort : StatementSort) (name : Option (List ℕ)) (flags : Flags) → is_inner (Other (record { sort = sort; name = name })) ≡ true → flags ≡ flags_behind flags (Other (record { sort = sort; name = name }))
other_flags Inner name flags e = refl
other_flags ListSort name flags e = absurd cc
other_flags CommunitySort name flags e = absurd cc
other_flags PathSort name flags e = absurd cc
other_flags PolicySort name flags e = absurd cc

same_behind : (f : JunosForm) (before : List JunosForm) (s : State) → IsBehind before s → Parts f before (term_before false before) (term_before true before) → s.flags ≡ flags_behind s.flags f → IsBehind (f ∷ before) s
same_behind f before s behind parts flags =
    behind_parts f before (term_before false before) (term_before true before) s s behind parts refl refl refl (ap (λ (b : Before). b.named) behind.tells) (ap (λ (b : Before). b.unnamed) behind.tells)
    behind.named_len behind.unnamed_len flags

pub behind_nothing : (f : JunosForm) (before : List JunosForm) (s : State) → is_inner f ≡ true → ((name : List ℕ) → f ≡ Term name → ⊥) → ((c : TermCondition) → f ≡ Condition c → ⊥) → ((a : TermAction) → f ≡ Action a → ⊥)
    → IsBehind before s → IsBehind (f ∷ before) s
unfolding definition_before has_term term_before
behind_nothing (Member p) before s e no_term no_condition no_action behind = same_behind (Member p) before s behind (record { definition = refl; starts_none = λ sort q. refl; terms = λ q. refl; in_named = refl; in_unnamed = refl }) refl
behind_nothing (Other o) before s e no_term no_condition no_action behind = same_behind (Other o) before s behind (other_parts o.sort o.name before e) (other_flags o.sort o.name s.flags e)
behind_nothing (Term name) before s e no_term no_condition no_action behind = absurd (no_term name refl)
behind_nothing (Condition c) before s e no_term no_condition no_action behind = absurd (no_condition c refl)
behind_nothing (Action a) before s e no_term no_condition no_action behind = absurd (no_action a refl)
behind_nothing (PrefixList name) before s e no_term no_condition no_action behind = absurd cc
behind_nothing (Community c) before s e no_term no_condition no_action behind = absurd cc
behind_nothing (AsPath p) before s e no_term no_condition no_action behind = absurd cc
behind_nothing (Policy name) before s e no_term no_condition no_action behind = absurd cc
