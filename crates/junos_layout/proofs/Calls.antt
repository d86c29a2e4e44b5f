-- The calls of definitions go down in rank where those of each policy do; and no policy stands behind one that goes on.
use Rattle.std.proofs.Common.{◌≡◌, refl, sym, subst, ◌∙◌, ℕ, zero, suc, ◌+◌, ◌<◌, Bool, true, false, List, [], ◌∷◌, ◌++◌, append_assoc, map, Option, Some, None, arith}
use Rattle.std.specs.Prelude.{bytes_eq}
use Rattle.std.specs.List.{list_any, flat_map, slice_get, AllByRecursion}
use Rattle.policy_calls.specs.Calls.{Link}
use Rattle.junos_tree.specs.Forms.{condition_form, action_form}
use Rattle.junos_tree.specs.Terms.{Content}
use Rattle.junos_tree.specs.declared.item.Action.{Action}
use Rattle.junos_tree.specs.declared.item.Condition.{Condition}
use Rattle.junos_tree.specs.declared.item.JunosForm.{JunosForm}
use Rattle.junos_tree.specs.declared.item.JunosItem.{JunosItem}
use Rattle.junos_reader.specs.Facts.{forms_of as forms_in}
use Rattle.junos_reader.specs.Statements.{Statement, policy_behind, onto_statements, statements_from, called_by_condition, called_by, links_to, links_in, links_of}
use Rattle.junos_reader.specs.Terms.{stands_behind}
use Rattle.junos_text.specs.Layout.{term_forms, option_forms, forms_of}
use Rattle.junos_text.specs.declared.option.PolicyOption.{PolicyOption}
use Rattle.junos_text.specs.declared.option.PolicyOption.TheVariants.{AsPath, Community, Policy}
use Rattle.junos_layout.specs.Options.{numbered, defined_from, policy_of}
use Rattle.junos_layout.proofs.Ranked.{Falls}

-- each of a list, with its place
abbrev pub AllAt : {D : Type 0} → (ℕ → D → Type 0) → ℕ → List D → Type 0
AllAt P from [] = Unit {0}
AllAt P from (d ∷ ds) = P from d × AllAt P (from + 1) ds

pub all_at : {D : Type 0} (P : ℕ → D → Type 0) (Q : D → Type 0) (from : ℕ) (ds : List D) → ((n : ℕ) (d : D) → slice_get ds n ≡ Some d → Q d → P (from + n) d) → AllByRecursion Q ds → AllAt P from ds
all_at P Q from [] each h = tt
all_at P Q from (d ∷ ds) each h = (
  subst (λ (n : ℕ). P n d) (omega arith) (each zero d refl h.0),
  all_at P Q (from + 1) ds (λ n e there q. subst (λ (m : ℕ). P m e) (omega arith) (each (suc n) e there q)) h.1,
)

module _ (rank : List ℕ → ℕ) where
  -- policies of lower rank than this one, if it is one
  abbrev Lower : Option (List ℕ) → List (List ℕ) → Type 0
  Lower None qs = Unit {0}
  Lower (Some p) qs = AllByRecursion (λ q. rank q < rank p) qs

  -- the calls of forms, of which the first stand in this policy
  Down : Option (List ℕ) → List JunosForm → Type 0
  Down policy [] = Unit {0}
  Down policy (f ∷ fs) = Lower (policy_behind policy f) (called_by f) × Down (policy_behind policy f) fs

  links_to_fall : (p : List ℕ) (qs : List (List ℕ)) (ls : List Link) → AllByRecursion (λ q. rank q < rank p) qs → AllByRecursion (Falls rank) ls → AllByRecursion (Falls rank) (links_to p qs ls)
  links_to_fall p [] ls h k = k
  links_to_fall p (q ∷ qs) ls h k = (h.0, links_to_fall p qs ls h.1 k)

  one_falls : (policy : Option (List ℕ)) (f : JunosForm) (ss : List Statement) → Lower policy (called_by f) → AllByRecursion (Falls rank) (links_in ss) → AllByRecursion (Falls rank) (links_in (onto_statements policy f ss))
  unfolding links_in
  one_falls None f ss h k = k
  one_falls (Some p) f ss h k = links_to_fall p (called_by f) (links_in ss) h k

  calls_fall : (policy : Option (List ℕ)) (items : List JunosItem) → Down policy (forms_in items) → AllByRecursion (Falls rank) (links_in (statements_from policy items))
  unfolding Down links_in statements_from
  calls_fall policy [] h = tt
  calls_fall policy (i ∷ is) h = one_falls (policy_behind policy i.form) i.form (statements_from (policy_behind policy i.form) is) h.0 (calls_fall (policy_behind policy i.form) is h.1)

  -- ---- definitions

  -- the conditions of a policy call policies of lower rank
  unfoldable pub CallsLower : List ℕ → Content → Type 0
  CallsLower p t = AllByRecursion (λ c. AllByRecursion (λ q. rank q < rank p) (called_by_condition c)) t.conditions

  down_actions : (p : List ℕ) (xs : List Action) (rest : List JunosForm) → Down (Some p) rest → Down (Some p) (map (action_form false) xs ++ rest)
  unfolding Down
  down_actions p [] rest h = h
  down_actions p (x ∷ xs) rest h = (tt, down_actions p xs rest h)

  down_conditions : (p : List ℕ) (cs : List Condition) (rest : List JunosForm) → AllByRecursion (λ c. AllByRecursion (λ q. rank q < rank p) (called_by_condition c)) cs → Down (Some p) rest
      → Down (Some p) (map (condition_form false) cs ++ rest)
  unfolding Down
  down_conditions p [] rest h k = k
  down_conditions p (c ∷ cs) rest h k = (h.0, down_conditions p cs rest h.1 k)

  down_terms : (p : List ℕ) (n : ℕ) (ts : List Content) (rest : List JunosForm) → AllByRecursion (CallsLower p) ts → Down (Some p) rest → Down (Some p) (flat_map term_forms (numbered n ts) ++ rest)
  unfolding Down CallsLower numbered
  down_terms p n [] rest h k = k
  down_terms p n (t ∷ ts) rest h k =
      let asked = map (condition_form false) t.conditions in
      let acted = map (action_form false) t.actions in
      let others = flat_map term_forms (numbered (n + 1) ts) in (
        tt,
        subst (λ (fs : List JunosForm). Down (Some p) fs) (sym (append_assoc (asked ++ acted) others rest ∙ append_assoc asked acted (others ++ rest)))
            (down_conditions p t.conditions (acted ++ (others ++ rest)) h.0 (down_actions p t.actions (others ++ rest) (down_terms p (n + 1) ts rest h.1 k))),
      )

  pub AreDown : List JunosForm → Type 0
  AreDown fs = (policy : Option (List ℕ)) → Down policy fs

  pub down_policy : (p : List ℕ) (ts : List Content) (rest : List JunosForm) → AllByRecursion (CallsLower p) ts → AreDown rest → AreDown (option_forms (policy_of p ts) ++ rest)
  unfolding Down AreDown
  down_policy p ts rest h k policy = (tt, down_terms p 1 ts rest h (k (Some p)))

  pub down_nothing : AreDown []
  unfolding Down AreDown
  down_nothing policy = tt

  module _ {D : Type 0} (define : ℕ → D → PolicyOption) (P : ℕ → D → Type 0) (each : (n : ℕ) (d : D) (rest : List JunosForm) → P n d → AreDown rest → AreDown (option_forms (define n d) ++ rest)) where
    pub down_definitions : (from : ℕ) (ds : List D) (rest : List JunosForm) → AllAt P from ds → AreDown rest → AreDown (forms_of (defined_from define from ds) ++ rest)
    unfolding defined_from
    down_definitions from [] rest h k = k
    down_definitions from (d ∷ ds) rest h k =
        subst AreDown (sym (append_assoc (option_forms (define from d)) (forms_of (defined_from define (from + 1) ds)) rest))
        (each from d (forms_of (defined_from define (from + 1) ds) ++ rest) h.0 (down_definitions (from + 1) ds rest h.1 k))

  pub down_links : (items : List JunosItem) → AreDown (forms_in items) → AllByRecursion (Falls rank) (links_of items)
  unfolding AreDown
  down_links items h = calls_fall None items (h None)

-- a definition that is no policy
abbrev pub IsNoPolicy : PolicyOption → Type 0
IsNoPolicy (Policy p) = ⊥
IsNoPolicy _ = Unit {0}

pub down_path : (rank : List ℕ → ℕ) (o : PolicyOption) (rest : List JunosForm) → IsNoPolicy o → AreDown rank rest → AreDown rank (option_forms o ++ rest)
unfolding AreDown Down
down_path rank (AsPath p) rest h k policy = (tt, k None)
down_path rank (Community c) rest h k policy = (tt, k None)
down_path rank (Policy p) rest h k policy = absurd h

-- in a chain of one policy none stands behind another
pub none_behind : (going : List (List ℕ)) (name q : List ℕ) → stands_behind going (name ∷ []) q ≡ false
unfolding stands_behind
none_behind going name q = one (list_any (bytes_eq name) going)
  where
    one : (b : Bool) → (elim b [ true ↦ list_any (bytes_eq q) [] | false ↦ stands_behind going [] q ]) ≡ false
    one true = refl
    one false = refl
