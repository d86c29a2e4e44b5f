-- What stands under the names of a plan: its AS paths, its communities, and the terms of its policies.
use Rattle.std.proofs.Common.{◌≡◌, refl, sym, ap, subst, ◌∙◌, ℕ, zero, suc, ◌+◌, ◌^◌, ◌<◌, Bool, true, false, List, [], ◌∷◌, ◌++◌, append_assoc, append-nil, length, map, Option, Some, None, arith}
use Rattle.std.specs.Prelude.{bytes_eq, codes, decimal}
use Rattle.std.specs.List.{flat_map, slice_get, AllByRecursion}
use Rattle.policy_text.specs.Names.{is_named}
use Rattle.junos_tree.specs.Forms.{condition_form, action_form}
use Rattle.junos_tree.specs.Sorts.{is_inner}
use Rattle.junos_tree.specs.Terms.{Content, Parts, Term, nothing, own_forms, parts, with_form, with_header}
use Rattle.junos_tree.specs.declared.item.Action.{Action}
use Rattle.junos_tree.specs.declared.item.Condition.{Condition}
use Rattle.junos_tree.specs.declared.item.JunosForm.{JunosForm}
use Rattle.junos_meaning.specs.Sets.{Naming, defined_at, contents_of}
use Rattle.junos_text.specs.Layout.{term_forms, option_forms, forms_of}
use Rattle.junos_text.specs.declared.option.PolicyOption.{PolicyOption}
use Rattle.junos_layout.specs.Options.{defined_from, numbered}
use Rattle.junos_layout.proofs.Names.{same_name, within, some_injective}

-- ---- the terms of a policy

-- forms that give the term without a name nothing
inner_conditions : (cs : List Condition) (rest : List JunosForm) (p : Parts) → parts rest ≡ p
    → parts (map (condition_form false) cs ++ rest) ≡ record p { here = record { conditions = cs ++ p.here.conditions; actions = p.here.actions } }
unfolding parts
inner_conditions [] rest p e = e
inner_conditions (c ∷ cs) rest p e = ap (with_form (condition_form false c)) (inner_conditions cs rest p e)

inner_actions : (xs : List Action) (rest : List JunosForm) (p : Parts) → parts rest ≡ p
    → parts (map (action_form false) xs ++ rest) ≡ record p { here = record { conditions = p.here.conditions; actions = xs ++ p.here.actions } }
unfolding parts
inner_actions [] rest p e = e
inner_actions (x ∷ xs) rest p e = ap (with_form (action_form false x)) (inner_actions xs rest p e)

-- the named terms of numbered ones
abbrev named_terms : ℕ → List Content → List Term
named_terms n [] = []
named_terms n (t ∷ ts) = record { name = Some (codes "t" ++ decimal n); content = t } ∷ named_terms (n + 1) ts

abbrev only_terms : List Term → Parts
only_terms ts = record { here = nothing; terms = ts; unnamed = nothing }

parts_of_terms : (n : ℕ) (ts : List Content) → parts (flat_map term_forms (numbered n ts)) ≡ only_terms (named_terms n ts)
unfolding parts numbered
parts_of_terms n [] = refl
parts_of_terms n (t ∷ ts) =
    let asked = map (condition_form false) t.conditions in
    let acted = map (action_form false) t.actions in
    let others = flat_map term_forms (numbered (n + 1) ts) in
    let later : Parts = only_terms (named_terms (n + 1) ts) in
    let acts : Parts = record later { here = record { conditions = []; actions = t.actions ++ [] } } in
    ap (λ (fs : List JunosForm). with_header (codes "t" ++ decimal n) (parts fs)) (append_assoc asked acted others)
    ∙ ap (with_header (codes "t" ++ decimal n)) (inner_conditions t.conditions (acted ++ others) acts (inner_actions t.actions others later (parts_of_terms (n + 1) ts)))
    ∙ ap (λ (cs : List Condition). only_terms (record { name = Some (codes "t" ++ decimal n); content = record { conditions = cs; actions = t.actions ++ [] } } ∷ named_terms (n + 1) ts)) (append-nil t.conditions)
    ∙ ap (λ (xs : List Action). only_terms (record { name = Some (codes "t" ++ decimal n); content = record { conditions = t.conditions; actions = xs } } ∷ named_terms (n + 1) ts)) (append-nil t.actions)

contents_named : (n : ℕ) (ts : List Content) (last : Content) → map (λ (t : Term). t.content) (named_terms n ts ++ record { name = None; content = last } ∷ []) ≡ ts ++ last ∷ []
contents_named n [] last = refl
contents_named n (t ∷ ts) last = ap (λ (cs : List Content). t ∷ cs) (contents_named (n + 1) ts last)

pub contents_are : (ts : List Content) → contents_of (flat_map term_forms (numbered 1 ts)) ≡ ts ++ nothing ∷ []
contents_are ts =
    ap (λ (p : Parts). map (λ (t : Term). t.content) (p.terms ++ record { name = None; content = p.unnamed } ∷ [])) (parts_of_terms 1 ts)
    ∙ contents_named 1 ts nothing

-- ---- own forms

-- what stands behind a definition is no part of it
abbrev pub Starts : List JunosForm → Type 0
Starts [] = Unit {0}
Starts (f ∷ fs) = is_inner f ≡ false

own_rest : (fs : List JunosForm) → Starts fs → own_forms fs ≡ []
unfolding own_forms
own_rest [] h = refl
own_rest (f ∷ fs) h = ap (λ (b : Bool). elim b [ true ↦ f ∷ own_forms fs | false ↦ [] ]) h

pub own_all : (fs rest : List JunosForm) → AllByRecursion (λ f. is_inner f ≡ true) fs → Starts rest → own_forms (fs ++ rest) ≡ fs
unfolding own_forms
own_all [] rest h k = own_rest rest k
own_all (f ∷ fs) rest h k = ap (λ (b : Bool). elim b [ true ↦ f ∷ own_forms (fs ++ rest) | false ↦ [] ]) h.0 ∙ ap (λ (gs : List JunosForm). f ∷ gs) (own_all fs rest h.1 k)

-- ---- definitions under their names

module _ (named : Naming) (q : List ℕ) where
  abbrev pub IsOther : JunosForm → Type 0
  IsOther f = is_named q (named f) ≡ false

  pub past_others : (fs rest : List JunosForm) → AllByRecursion IsOther fs → defined_at named q (fs ++ rest) ≡ defined_at named q rest
  unfolding defined_at
  past_others [] rest h = refl
  past_others (f ∷ fs) rest h = ap (λ (b : Bool). elim b [ true ↦ f ∷ (fs ++ rest) | false ↦ defined_at named q (fs ++ rest) ]) h.0 ∙ past_others fs rest h.1

  pub at_definition : (f : JunosForm) (fs : List JunosForm) → is_named q (named f) ≡ true → defined_at named q (f ∷ fs) ≡ f ∷ fs
  unfolding defined_at
  at_definition f fs h = ap (λ (b : Bool). elim b [ true ↦ f ∷ fs | false ↦ defined_at named q fs ]) h

-- definitions of a sort, each with its first form, under its own name, and forms without a name
module _ {D : Type 0} (named : Naming) (define : ℕ → D → PolicyOption) (head : ℕ → D → JunosForm) (inside : ℕ → D → List JunosForm) (label : ℕ → List ℕ)
    (made : (n : ℕ) (d : D) → option_forms (define n d) ≡ head n d ∷ inside n d)
    (headed : (n : ℕ) (d : D) → named (head n d) ≡ Some (label n))
    (unnamed : (n : ℕ) (d : D) (q : List ℕ) → AllByRecursion (IsOther named q) (inside n d))
    (starting : (n : ℕ) (d : D) → is_inner (head n d) ≡ false)
    (apart : (i j : ℕ) → i < 2 ^ 63 → j < 2 ^ 63 → (i ≡ j → ⊥) → bytes_eq (label i) (label j) ≡ false) where
  -- the definition is found, and what stands behind it starts another
  pub record IsFound (n : ℕ) (d : D) (fs : List JunosForm) : Type 0 where
    pub behind_it : List JunosForm
    pub are : fs ≡ head n d ∷ (inside n d ++ behind_it)
    pub starts : Starts behind_it

  starts_with : (from : ℕ) (ds : List D) (rest : List JunosForm) → Starts rest → Starts (forms_of (defined_from define from ds) ++ rest)
  unfolding defined_from
  starts_with from [] rest h = h
  starts_with from (d ∷ ds) rest h =
      subst Starts
      (sym (append_assoc (option_forms (define from d)) (forms_of (defined_from define (from + 1) ds)) rest ∙ ap (λ (fs : List JunosForm). fs ++ (forms_of (defined_from define (from + 1) ds) ++ rest)) (made from d)))
      (starting from d)

  pub found_at : (from : ℕ) (ds : List D) (rest : List JunosForm) (n : ℕ) (d : D) → slice_get ds n ≡ Some d → from + length ds < 2 ^ 63 → Starts rest
      → IsFound (from + n) d (defined_at named (label (from + n)) (forms_of (defined_from define from ds) ++ rest))
  unfolding defined_from
  found_at from [] rest n d there few begins = absurd cc
  found_at from (e ∷ es) rest zero d there few begins =
      let others = forms_of (defined_from define (from + 1) es) ++ rest in
      let is : e ≡ d = some_injective e d there in
      let here : from ≡ from + zero = omega arith in
      let laid : forms_of (defined_from define from (e ∷ es)) ++ rest ≡ head from e ∷ (inside from e ++ others) =
      append_assoc (option_forms (define from e)) (forms_of (defined_from define (from + 1) es)) rest ∙ ap (λ (fs : List JunosForm). fs ++ others) (made from e) in
      subst (λ (k : ℕ). IsFound k d (defined_at named (label k) (forms_of (defined_from define from (e ∷ es)) ++ rest))) here
      (record {
        behind_it = others;
        are =
            ap (λ (fs : List JunosForm). defined_at named (label from) fs) laid
            ∙ at_definition named (label from) (head from e) (inside from e ++ others) (ap (λ (o : Option (List ℕ)). is_named (label from) o) (headed from e) ∙ same_name (label from))
            ∙ ap (λ (x : D). head from x ∷ (inside from x ++ others)) is;
        starts = starts_with (from + 1) es rest begins;
      })
  found_at from (e ∷ es) rest (suc n) d there few begins =
      let others = forms_of (defined_from define (from + 1) es) ++ rest in
      let further : from + 1 + n ≡ from + suc n = omega arith in
      let place : n < length es = within es n d there in
      let q : List ℕ = label (from + 1 + n) in
      let laid : forms_of (defined_from define from (e ∷ es)) ++ rest ≡ head from e ∷ (inside from e ++ others) =
      append_assoc (option_forms (define from e)) (forms_of (defined_from define (from + 1) es)) rest ∙ ap (λ (fs : List JunosForm). fs ++ others) (made from e) in
      let passed : defined_at named q (forms_of (defined_from define from (e ∷ es)) ++ rest) ≡ defined_at named q others =
      ap (λ (fs : List JunosForm). defined_at named q fs) laid
      ∙ past_others named q (head from e ∷ inside from e) others
      (ap (λ (o : Option (List ℕ)). is_named q o) (headed from e) ∙ apart (from + 1 + n) from (omega (arith, few, place)) (omega (arith, few)) (λ e. omega (arith, e)), unnamed from e q) in
      let more = found_at (from + 1) es rest n d there (omega (arith, few)) begins in
      subst (λ (k : ℕ). IsFound k d (defined_at named (label k) (forms_of (defined_from define from (e ∷ es)) ++ rest))) further
      (record { behind_it = more.behind_it; are = passed ∙ more.are; starts = more.starts })
