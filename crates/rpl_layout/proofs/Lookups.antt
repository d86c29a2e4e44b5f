-- What stands under the names of a plan: its sets, and the policy.
use Rattle.std.proofs.Common.{◌≡◌, refl, ap, ◌∙◌, ℕ, zero, suc, ◌+◌, ◌^◌, ◌<◌, Bool, true, false, List, [], ◌∷◌, ◌++◌, append_assoc, length, map, Option, Some, None, arith}
use Rattle.std.specs.Prelude.{bytes_eq, slice_get, codes, decimal, unwrap_or}
use Rattle.std.proofs.lemmas.Bool.{false_from_ne_true}
use Rattle.std.proofs.lemmas.Fmt.{decimal_injective}
use Rattle.std.proofs.lemmas.List.{append_cancel_left}
use Rattle.std.proofs.lemmas.Slice.Eq.{bytes_eq-Decides}
use Rattle.route_types.specs.Community.{RectParts}
use Rattle.prefix_sets.specs.Range.{RangeParts}
use Rattle.rpl_words.specs.declared.element.Element.{Element as SetElement}
use Rattle.rpl_words.specs.declared.element.PathElement.{PathElement}
use Rattle.rpl_words.specs.declared.element.PrefixElement.{PrefixElement}
use Rattle.rpl_words.specs.declared.number.RplSet.TheVariants.{Named}
use Rattle.rpl_forms.specs.declared.item.Header.{Header}
use Rattle.rpl_forms.specs.declared.item.Header.TheVariants.{PrefixSet, CommunitySet, PathSet, Policy}
use Rattle.rpl_forms.specs.declared.item.RplForm.{RplForm}
use Rattle.rpl_forms.specs.declared.item.RplForm.TheVariants.{Header as OfHeader, Element as OfElement, End}
use Rattle.rpl_meaning.specs.Meaning.{body_of}
use Rattle.rpl_meaning.specs.Sets.{Naming, prefix_set_named, community_set_named, path_set_named, policy_named, is_name, block_at, below, prefix_in, community_in, path_in, elements, unbound, members}
use Rattle.rpl_plans.specs.declared.step.PlannedStep.{PlannedStep}
use Rattle.rpl_layout.specs.Forms.{range_element, path_element, PlannedSets, set_name, prefix_name, community_name, path_name, block_of, blocks_from, prefix_elements, community_elements, path_elements, community_blocks, path_blocks, HasFew, forms_of}
use Rattle.rpl_layout.specs.Guards.{Writing}
use Rattle.rpl_layout.specs.Statements.{steps_forms}

-- ---- names

pub same_name : (name : List ℕ) → bytes_eq name name ≡ true
same_name name = (bytes_eq-Decides name name).1 refl

pub names_apart : (name letter : List ℕ) (i j : ℕ) → i < 2 ^ 63 → j < 2 ^ 63 → (i ≡ j → ⊥) → bytes_eq (set_name name letter i) (set_name name letter j) ≡ false
names_apart name letter i j hi hj differ =
    false_from_ne_true (bytes_eq (set_name name letter i) (set_name name letter j)) (λ e.
    let same : set_name name letter i ≡ set_name name letter j = (bytes_eq-Decides (set_name name letter i) (set_name name letter j)).0 e in
    let numbered : letter ++ decimal (i + 1) ≡ letter ++ decimal (j + 1) = append_cancel_left name (letter ++ decimal (i + 1)) (letter ++ decimal (j + 1)) same in
    let digits : decimal (i + 1) ≡ decimal (j + 1) = append_cancel_left letter (decimal (i + 1)) (decimal (j + 1)) numbered in
    let number : i + 1 ≡ j + 1 = decimal_injective (i + 1) (j + 1) (omega arith) (omega arith) digits in
    differ (omega (arith, number)))

-- ---- blocks, by what names first lines alone

-- the names of a sort: elements and the ends of blocks have none
pub record NamesHeaders (named : Naming) : Type 0 where
  element : (e : SetElement) → named (OfElement e) ≡ None
  end : named End ≡ None

module _ (named : Naming) (only : NamesHeaders named) (x : List ℕ) where
  past_elements : (es : List SetElement) (rest : List RplForm) → block_at named x (map OfElement es ++ (End ∷ rest)) ≡ block_at named x rest
  unfolding block_at
  past_elements [] rest = ap (λ (o : Option (List ℕ)). elim (is_name x o) [ true ↦ End ∷ rest | false ↦ block_at named x rest ]) only.end
  past_elements (e ∷ es) rest =
      ap (λ (o : Option (List ℕ)). elim (is_name x o) [ true ↦ OfElement e ∷ (map OfElement es ++ (End ∷ rest)) | false ↦ block_at named x (map OfElement es ++ (End ∷ rest)) ]) (only.element e)
      ∙ past_elements es rest

  past_block : (h : Header) (es : List SetElement) (rest : List RplForm) → is_name x (named (OfHeader h)) ≡ false → block_at named x (block_of h es ++ rest) ≡ block_at named x rest
  unfolding block_at
  past_block h es rest e =
      ap (λ (b : Bool). elim b [ true ↦ block_of h es ++ rest | false ↦ block_at named x ((map OfElement es ++ End ∷ []) ++ rest) ]) e
      ∙ ap (λ (fs : List RplForm). block_at named x fs) (append_assoc (map OfElement es) (End ∷ []) rest)
      ∙ past_elements es rest

  at_block : (h : Header) (es : List SetElement) (rest : List RplForm) → is_name x (named (OfHeader h)) ≡ true → below (block_at named x (block_of h es ++ rest)) ≡ map OfElement es ++ (End ∷ rest)
  unfolding block_at
  at_block h es rest e =
      ap (λ (b : Bool). below (elim b [ true ↦ block_of h es ++ rest | false ↦ block_at named x ((map OfElement es ++ End ∷ []) ++ rest) ])) e
      ∙ append_assoc (map OfElement es) (End ∷ []) rest

  -- blocks of another sort
  past_blocks : {D : Type 0} (head : ℕ → Header) (elements_of : D → List SetElement) → ((n : ℕ) → is_name x (named (OfHeader (head n))) ≡ false)
      → (from : ℕ) (ds : List D) (rest : List RplForm) → block_at named x (blocks_from head elements_of from ds ++ rest) ≡ block_at named x rest
  unfolding blocks_from
  past_blocks head elements_of others from [] rest = refl
  past_blocks head elements_of others from (d ∷ ds) rest =
      ap (λ (fs : List RplForm). block_at named x fs) (append_assoc (block_of (head from) (elements_of d)) (blocks_from head elements_of (from + 1) ds) rest)
      ∙ past_block (head from) (elements_of d) (blocks_from head elements_of (from + 1) ds ++ rest) (others from)
      ∙ past_blocks head elements_of others (from + 1) ds rest

-- ---- blocks of the sort, each under its own name

within : {A : Type 0} (xs : List A) (i : ℕ) (x : A) → slice_get xs i ≡ Some x → i < length xs
within [] i x e = absurd cc
within (y ∷ ys) zero x e = omega arith
within (y ∷ ys) (suc i) x e = let further = within ys i x e in omega arith

some_injective : {A : Type 0} (x y : A) → Some x ≡ Some y → x ≡ y
some_injective x y e = ap (λ o. unwrap_or o x) e

module _ {D E : Type 0} (named : Naming) (only : NamesHeaders named) (read : RplForm → Option E) (head : ℕ → Header) (label : ℕ → List ℕ) (elements_of : D → List SetElement) (values : D → List E)
    (headed : (n : ℕ) → named (OfHeader (head n)) ≡ Some (label n))
    (apart : (i j : ℕ) → i < 2 ^ 63 → j < 2 ^ 63 → (i ≡ j → ⊥) → bytes_eq (label i) (label j) ≡ false)
    (reads : (d : D) (rest : List RplForm) → elements read (map OfElement (elements_of d) ++ (End ∷ rest)) ≡ values d) where
  found_at : (from : ℕ) (ds : List D) (rest : List RplForm) (n : ℕ) (d : D) → slice_get ds n ≡ Some d → from + length ds < 2 ^ 63
      → elements read (below (block_at named (label (from + n)) (blocks_from head elements_of from ds ++ rest))) ≡ values d
  unfolding blocks_from
  found_at from [] rest n d there few = absurd cc
  found_at from (e ∷ es) rest zero d there few =
      let here : from + zero ≡ from = omega arith in
      ap (λ (k : ℕ). elements read (below (block_at named (label k) ((block_of (head from) (elements_of e) ++ blocks_from head elements_of (from + 1) es) ++ rest)))) here
      ∙ ap (λ (fs : List RplForm). elements read (below (block_at named (label from) fs))) (append_assoc (block_of (head from) (elements_of e)) (blocks_from head elements_of (from + 1) es) rest)
      ∙ ap (λ (fs : List RplForm). elements read fs) (at_block named only (label from) (head from) (elements_of e) (blocks_from head elements_of (from + 1) es ++ rest)
      (ap (λ (o : Option (List ℕ)). is_name (label from) o) (headed from) ∙ same_name (label from)))
      ∙ reads e (blocks_from head elements_of (from + 1) es ++ rest)
      ∙ ap values (some_injective e d there)
  found_at from (e ∷ es) rest (suc n) d there few =
      let further : from + suc n ≡ from + 1 + n = omega arith in
      let place : n < length es = within es n d there in
      ap (λ (k : ℕ). elements read (below (block_at named (label k) ((block_of (head from) (elements_of e) ++ blocks_from head elements_of (from + 1) es) ++ rest)))) further
      ∙ ap (λ (fs : List RplForm). elements read (below (block_at named (label (from + 1 + n)) fs))) (append_assoc (block_of (head from) (elements_of e)) (blocks_from head elements_of (from + 1) es) rest)
      ∙ ap (λ (fs : List RplForm). elements read (below fs)) (past_block named only (label (from + 1 + n)) (head from) (elements_of e) (blocks_from head elements_of (from + 1) es ++ rest)
      (ap (λ (o : Option (List ℕ)). is_name (label (from + 1 + n)) o) (headed from) ∙ apart (from + 1 + n) from (omega arith) (omega arith) (λ e. omega arith)))
      ∙ found_at (from + 1) es rest n d there (omega arith)

-- ---- the three sorts of sets, and the policy

prefix_only : NamesHeaders prefix_set_named
prefix_only = record { element = λ e. refl; end = refl }

community_only : NamesHeaders community_set_named
community_only = record { element = λ e. refl; end = refl }

path_only : NamesHeaders path_set_named
path_only = record { element = λ e. refl; end = refl }

policy_only : NamesHeaders policy_named
policy_only = record { element = λ e. refl; end = refl }

prefixes_read : (xs : List RangeParts) (rest : List RplForm) → elements prefix_in (map OfElement (prefix_elements xs) ++ (End ∷ rest)) ≡ map range_element xs
unfolding elements
prefixes_read [] rest = refl
prefixes_read (x ∷ xs) rest = ap (λ (es : List PrefixElement). range_element x ∷ es) (prefixes_read xs rest)

communities_read : (xs : List RectParts) (rest : List RplForm) → elements community_in (map OfElement (community_elements xs) ++ (End ∷ rest)) ≡ xs
unfolding elements
communities_read [] rest = refl
communities_read (x ∷ xs) rest = ap (λ (es : List RectParts). x ∷ es) (communities_read xs rest)

paths_read : (xs : List (List ℕ)) (rest : List RplForm) → elements path_in (map OfElement (path_elements xs) ++ (End ∷ rest)) ≡ map path_element xs
unfolding elements
paths_read [] rest = refl
paths_read (x ∷ xs) rest = ap (λ (es : List PathElement). path_element x ∷ es) (paths_read xs rest)

module _ (name : List ℕ) (sets : PlannedSets) (written : Writing) (steps : List PlannedStep) (few : HasFew sets) where
  pub prefix_members : (n : ℕ) (s : List RangeParts) → slice_get sets.prefixes n ≡ Some s → members prefix_set_named prefix_in (forms_of name sets written steps) unbound (Named (prefix_name name n)) ≡ map range_element s
  prefix_members n s there =
      let zeroth : n ≡ 0 + n = omega arith in
      ap (λ (k : ℕ). elements prefix_in (below (block_at prefix_set_named (prefix_name name k) (forms_of name sets written steps)))) zeroth
      ∙ found_at prefix_set_named prefix_only prefix_in (λ k. PrefixSet (prefix_name name k)) (λ k. prefix_name name k) prefix_elements (λ xs. map range_element xs)
      (λ k. refl) (λ i j hi hj differ. names_apart name (codes "-p") i j hi hj differ) prefixes_read
      0 sets.prefixes (community_blocks name sets.communities ++ (path_blocks name sets.paths ++ (OfHeader (Policy (record { name = name; parameters = [] })) ∷ (steps_forms written steps ++ End ∷ [])))) n s there (let h = few.prefixes in omega arith)

  pub community_members : (n : ℕ) (s : List RectParts) → slice_get sets.communities n ≡ Some s → members community_set_named community_in (forms_of name sets written steps) unbound (Named (community_name name n)) ≡ s
  community_members n s there =
      let zeroth : n ≡ 0 + n = omega arith in
      let rest : List RplForm = path_blocks name sets.paths ++ (OfHeader (Policy (record { name = name; parameters = [] })) ∷ (steps_forms written steps ++ End ∷ [])) in
      ap (λ (fs : List RplForm). elements community_in (below fs)) (past_blocks community_set_named community_only (community_name name n) (λ k. PrefixSet (prefix_name name k)) prefix_elements (λ k. refl) 0 sets.prefixes (community_blocks name sets.communities ++ rest))
      ∙ ap (λ (k : ℕ). elements community_in (below (block_at community_set_named (community_name name k) (community_blocks name sets.communities ++ rest)))) zeroth
      ∙ found_at community_set_named community_only community_in (λ k. CommunitySet (community_name name k)) (λ k. community_name name k) community_elements (λ xs. xs)
      (λ k. refl) (λ i j hi hj differ. names_apart name (codes "-c") i j hi hj differ) communities_read
      0 sets.communities rest n s there (let h = few.communities in omega arith)

  pub path_members : (n : ℕ) (s : List (List ℕ)) → slice_get sets.paths n ≡ Some s → members path_set_named path_in (forms_of name sets written steps) unbound (Named (path_name name n)) ≡ map path_element s
  path_members n s there =
      let zeroth : n ≡ 0 + n = omega arith in
      let rest : List RplForm = OfHeader (Policy (record { name = name; parameters = [] })) ∷ (steps_forms written steps ++ End ∷ []) in
      ap (λ (fs : List RplForm). elements path_in (below fs)) (past_blocks path_set_named path_only (path_name name n) (λ k. PrefixSet (prefix_name name k)) prefix_elements (λ k. refl) 0 sets.prefixes (community_blocks name sets.communities ++ (path_blocks name sets.paths ++ rest)))
      ∙ ap (λ (fs : List RplForm). elements path_in (below fs)) (past_blocks path_set_named path_only (path_name name n) (λ k. CommunitySet (community_name name k)) community_elements (λ k. refl) 0 sets.communities (path_blocks name sets.paths ++ rest))
      ∙ ap (λ (k : ℕ). elements path_in (below (block_at path_set_named (path_name name k) (path_blocks name sets.paths ++ rest)))) zeroth
      ∙ found_at path_set_named path_only path_in (λ k. PathSet (path_name name k)) (λ k. path_name name k) path_elements (λ xs. map path_element xs)
      (λ k. refl) (λ i j hi hj differ. names_apart name (codes "-a") i j hi hj differ) paths_read
      0 sets.paths rest n s there (let h = few.paths in omega arith)

  -- below the first line of the policy stand its statements
  pub body_is : body_of name (forms_of name sets written steps) ≡ steps_forms written steps ++ End ∷ []
  unfolding block_at
  body_is =
      let rest : List RplForm = OfHeader (Policy (record { name = name; parameters = [] })) ∷ (steps_forms written steps ++ End ∷ []) in
      ap below (past_blocks policy_named policy_only name (λ k. PrefixSet (prefix_name name k)) prefix_elements (λ k. refl) 0 sets.prefixes (community_blocks name sets.communities ++ (path_blocks name sets.paths ++ rest)))
      ∙ ap below (past_blocks policy_named policy_only name (λ k. CommunitySet (community_name name k)) community_elements (λ k. refl) 0 sets.communities (path_blocks name sets.paths ++ rest))
      ∙ ap below (past_blocks policy_named policy_only name (λ k. PathSet (path_name name k)) path_elements (λ k. refl) 0 sets.paths rest)
      ∙ ap (λ (b : Bool). below (elim b [ true ↦ rest | false ↦ block_at policy_named name (steps_forms written steps ++ End ∷ []) ])) (same_name name)
