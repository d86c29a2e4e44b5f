-- Any tree of the forms of a plan has the policy in profile.
use Rattle.std.proofs.Common.{◌≡◌, refl, sym, ap, subst, ◌∙◌, ℕ, zero, suc, ◌+◌, ◌^◌, ◌<◌, Bool, true, false, ◌&&◌, ◌||◌, not, List, [], ◌∷◌, ◌++◌, append_assoc, length, map, Some, arith}
use Rattle.std.specs.Prelude.{bytes_eq, slice_get, codes}
use Rattle.std.specs.List.{list_any}
use Rattle.std.proofs.lemmas.List.Folds.{list_any-append}
use Rattle.prefix_sets.specs.Range.{RangeParts}
use Rattle.route_types.specs.Community.{RectParts}
use Rattle.text_words.specs.declared.rpl_blocks.BlockKind.{BlockKind}
use Rattle.text_words.specs.declared.rpl_blocks.BlockKind.TheVariants.{PrefixSet as PrefixBlock, CommunitySet as CommunityBlock, PathSet as PathBlock, Policy as PolicyBlock}
use Rattle.rpl_words.specs.declared.condition.RplTest.{RplTest}
use Rattle.rpl_words.specs.declared.element.Element.{Element as SetElement}
use Rattle.rpl_forms.specs.declared.item.Header.{Header}
use Rattle.rpl_forms.specs.declared.item.Header.TheVariants.{PrefixSet, CommunitySet, PathSet, Policy}
use Rattle.rpl_forms.specs.declared.item.RplForm.{RplForm}
use Rattle.rpl_forms.specs.declared.item.RplForm.TheVariants.{Header as OfHeader, Element as OfElement, End}
use Rattle.rpl_forms.specs.declared.item.RplItem.{RplItem}
use Rattle.rpl_tree.specs.Tree.{forms}
use Rattle.rpl_facts.specs.Blocks.{heads, is_there}
use Rattle.rpl_facts.specs.Uses.{of_test, uses_of}
use Rattle.rpl_reader.specs.Causes.{misses}
use Rattle.rpl_reader.specs.Facts.{Facts, facts_of, Before, nothing_before, behind_form}
use Rattle.rpl_reader.specs.Profile.{is_defined, InProfile}
use Rattle.rpl_plans.specs.declared.step.PlannedStep.{PlannedStep}
use Rattle.rpl_plans.specs.declared.test.PlannedTest.{PlannedTest}
use Rattle.rpl_plans.specs.declared.test.PlannedTest.TheVariants.{Destination, NextHop, PathIn, MatchesAny, MatchesEvery, NoCommunity, MedIs, MedAtLeast, MedAtMost, Origin}
use Rattle.rpl_layout.specs.Forms.{PlannedSets, prefix_name, community_name, path_name, block_of, blocks_from, prefix_elements, community_elements, path_elements, prefix_blocks, community_blocks, path_blocks, Writes, HasFew, forms_of}
use Rattle.rpl_layout.specs.Guards.{Writing}
use Rattle.rpl_layout.specs.Statements.{steps_forms}
use Rattle.rpl_layout.specs.Tests.{EachTest}
use Rattle.rpl_layout.proofs.Lookups.{same_name, names_apart}
use Rattle.rpl_layout.proofs.Profile.{is_call, Sound, Clean, past, clean_join, clean_sound, sound_end, stands_past_blocks, blocks_clean, steps_clean}

or_none : (b : Bool) → (b || false) ≡ b
or_none true = refl
or_none false = refl

or_second : (a b : Bool) → b ≡ true → (a || b) ≡ true
or_second true b e = refl
or_second false b e = e

none_of : (b : Bool) → ((b && false) || false) ≡ false
none_of true = refl
none_of false = refl

any_map : {A B : Type 0} (f : B → Bool) (g : A → B) (xs : List A) → list_any f (map g xs) ≡ list_any (λ x. f (g x)) xs
any_map f g [] = refl
any_map f g (x ∷ xs) = ap (λ b. f (g x) || b) (any_map f g xs)

-- ---- which blocks are there

module _ {D : Type 0} (kind : BlockKind) (head : ℕ → Header) (label : ℕ → List ℕ) (elements_of : D → List SetElement)
    (headed : (n : ℕ) → heads kind (label n) (OfHeader (head n)) ≡ true) where
  there_in : (from : ℕ) (ds : List D) (rest : List RplForm) (n : ℕ) (d : D) → slice_get ds n ≡ Some d → list_any (heads kind (label (from + n))) (blocks_from head elements_of from ds ++ rest) ≡ true
  unfolding blocks_from
  there_in from [] rest n d there = absurd cc
  there_in from (e ∷ es) rest zero d there =
      let here : from + zero ≡ from = omega arith in
      ap (λ (k : ℕ). list_any (heads kind (label k)) ((block_of (head from) (elements_of e) ++ blocks_from head elements_of (from + 1) es) ++ rest)) here
      ∙ ap (λ (b : Bool). b || list_any (heads kind (label from)) (((map OfElement (elements_of e) ++ End ∷ []) ++ blocks_from head elements_of (from + 1) es) ++ rest)) (headed from)
  there_in from (e ∷ es) rest (suc n) d there =
      let further : from + suc n ≡ from + 1 + n = omega arith in
      ap (λ (k : ℕ). list_any (heads kind (label k)) ((block_of (head from) (elements_of e) ++ blocks_from head elements_of (from + 1) es) ++ rest)) further
      ∙ ap (λ (fs : List RplForm). list_any (heads kind (label (from + 1 + n))) fs) (append_assoc (block_of (head from) (elements_of e)) (blocks_from head elements_of (from + 1) es) rest)
      ∙ list_any-append (heads kind (label (from + 1 + n))) (block_of (head from) (elements_of e)) (blocks_from head elements_of (from + 1) es ++ rest)
      ∙ or_second (list_any (heads kind (label (from + 1 + n))) (block_of (head from) (elements_of e))) (list_any (heads kind (label (from + 1 + n))) (blocks_from head elements_of (from + 1) es ++ rest)) (there_in (from + 1) es rest n d there)

-- behind other forms
there_behind : (kind : BlockKind) (q : List ℕ) (xs ys : List RplForm) → list_any (heads kind q) ys ≡ true → list_any (heads kind q) (xs ++ ys) ≡ true
there_behind kind q xs ys h = list_any-append (heads kind q) xs ys ∙ or_second (list_any (heads kind q) xs) (list_any (heads kind q) ys) h

module _ (name : List ℕ) (sets : PlannedSets) (written : Writing) (steps : List PlannedStep) (items : List RplItem) (same : forms items ≡ forms_of name sets written steps) where
  -- the first line of the policy and what stands behind it
  abbrev policy_line : RplForm
  policy_line = OfHeader (Policy (record { name = name; parameters = [] }))

  abbrev policy_forms : List RplForm
  policy_forms = policy_line ∷ (steps_forms written steps ++ End ∷ [])

  -- a block of the forms is one of the tree
  in_tree : (kind : BlockKind) (q : List ℕ) → list_any (heads kind q) (forms_of name sets written steps) ≡ true → is_there kind q items ≡ true
  in_tree kind q h = sym (any_map (heads kind q) (λ i. i.form) items) ∙ ap (λ (fs : List RplForm). list_any (heads kind q) fs) same ∙ h

  prefix_there : (n : ℕ) (s : List RangeParts) → slice_get sets.prefixes n ≡ Some s → is_there PrefixBlock (prefix_name name n) items ≡ true
  prefix_there n s there =
      let zeroth : n ≡ 0 + n = omega arith in
      in_tree PrefixBlock (prefix_name name n)
      (ap (λ (k : ℕ). list_any (heads PrefixBlock (prefix_name name k)) (forms_of name sets written steps)) zeroth
      ∙ there_in PrefixBlock (λ k. PrefixSet (prefix_name name k)) (λ k. prefix_name name k) prefix_elements (λ k. same_name (prefix_name name k)) 0 sets.prefixes
      (community_blocks name sets.communities ++ (path_blocks name sets.paths ++ policy_forms)) n s there)

  community_there : (n : ℕ) (s : List RectParts) → slice_get sets.communities n ≡ Some s → is_there CommunityBlock (community_name name n) items ≡ true
  community_there n s there =
      let zeroth : n ≡ 0 + n = omega arith in
      in_tree CommunityBlock (community_name name n)
      (there_behind CommunityBlock (community_name name n) (prefix_blocks name sets.prefixes) (community_blocks name sets.communities ++ (path_blocks name sets.paths ++ policy_forms))
      (ap (λ (k : ℕ). list_any (heads CommunityBlock (community_name name k)) (community_blocks name sets.communities ++ (path_blocks name sets.paths ++ policy_forms))) zeroth
      ∙ there_in CommunityBlock (λ k. CommunitySet (community_name name k)) (λ k. community_name name k) community_elements (λ k. same_name (community_name name k)) 0 sets.communities
      (path_blocks name sets.paths ++ policy_forms) n s there))

  path_there : (n : ℕ) (s : List (List ℕ)) → slice_get sets.paths n ≡ Some s → is_there PathBlock (path_name name n) items ≡ true
  path_there n s there =
      let zeroth : n ≡ 0 + n = omega arith in
      in_tree PathBlock (path_name name n)
      (there_behind PathBlock (path_name name n) (prefix_blocks name sets.prefixes) (community_blocks name sets.communities ++ (path_blocks name sets.paths ++ policy_forms))
      (there_behind PathBlock (path_name name n) (community_blocks name sets.communities) (path_blocks name sets.paths ++ policy_forms)
      (ap (λ (k : ℕ). list_any (heads PathBlock (path_name name k)) (path_blocks name sets.paths ++ policy_forms)) zeroth
      ∙ there_in PathBlock (λ k. PathSet (path_name name k)) (λ k. path_name name k) path_elements (λ k. same_name (path_name name k)) 0 sets.paths policy_forms n s there)))

  policy_there : is_there PolicyBlock name items ≡ true
  policy_there =
      in_tree PolicyBlock name
      (there_behind PolicyBlock name (prefix_blocks name sets.prefixes) (community_blocks name sets.communities ++ (path_blocks name sets.paths ++ policy_forms))
      (there_behind PolicyBlock name (community_blocks name sets.communities) (path_blocks name sets.paths ++ policy_forms)
      (there_behind PolicyBlock name (path_blocks name sets.paths) policy_forms
      (ap (λ (b : Bool). b || list_any (heads PolicyBlock name) (steps_forms written steps ++ End ∷ [])) (same_name name)))))

  -- what a written test uses is there
  known : (t : PlannedTest) (b : Before) (u : RplTest) → Writes name sets t u → list_any (misses (facts_of name items) b) (of_test u) ≡ false
  known (Destination rs) b u (n, there, is) = ap (λ (v : RplTest). list_any (misses (facts_of name items) b) (of_test v)) is ∙ ap (λ (k : Bool). not k || false) (prefix_there n rs there)
  known (NextHop rs) b u (n, there, is) = ap (λ (v : RplTest). list_any (misses (facts_of name items) b) (of_test v)) is ∙ ap (λ (k : Bool). not k || false) (prefix_there n rs there)
  known (PathIn ts) b u (n, there, is) = ap (λ (v : RplTest). list_any (misses (facts_of name items) b) (of_test v)) is ∙ ap (λ (k : Bool). not k || false) (path_there n ts there)
  known (MatchesAny rs) b u (n, there, is) = ap (λ (v : RplTest). list_any (misses (facts_of name items) b) (of_test v)) is ∙ ap (λ (k : Bool). not k || false) (community_there n rs there)
  known (MatchesEvery rs) b u (n, there, is) = ap (λ (v : RplTest). list_any (misses (facts_of name items) b) (of_test v)) is ∙ ap (λ (k : Bool). not k || false) (community_there n rs there)
  known NoCommunity b u is = ap (λ (v : RplTest). list_any (misses (facts_of name items) b) (of_test v)) is
  known (MedIs n) b u is = ap (λ (v : RplTest). list_any (misses (facts_of name items) b) (of_test v)) is
  known (MedAtLeast n) b u is = ap (λ (v : RplTest). list_any (misses (facts_of name items) b) (of_test v)) is
  known (MedAtMost n) b u is = ap (λ (v : RplTest). list_any (misses (facts_of name items) b) (of_test v)) is
  known (Origin o) b u is = ap (λ (v : RplTest). list_any (misses (facts_of name items) b) (of_test v)) is

  -- ---- first lines

  sound_prefix : (n : ℕ) (b : Before) → b.stands PrefixBlock (prefix_name name n) ≡ false → Sound name (facts_of name items) b (OfHeader (PrefixSet (prefix_name name n)))
  unfolding is_call uses_of
  sound_prefix n b h = record { unknown = refl; second = or_none (b.stands PrefixBlock (prefix_name name n)) ∙ h; undefined = refl; plain = refl; back = refl; deep = refl; count = refl; uncalled = refl }

  sound_community : (n : ℕ) (b : Before) → b.stands CommunityBlock (community_name name n) ≡ false → Sound name (facts_of name items) b (OfHeader (CommunitySet (community_name name n)))
  unfolding is_call uses_of
  sound_community n b h = record { unknown = refl; second = or_none (b.stands CommunityBlock (community_name name n)) ∙ h; undefined = refl; plain = refl; back = refl; deep = refl; count = refl; uncalled = refl }

  sound_path : (n : ℕ) (b : Before) → b.stands PathBlock (path_name name n) ≡ false → Sound name (facts_of name items) b (OfHeader (PathSet (path_name name n)))
  unfolding is_call uses_of
  sound_path n b h = record { unknown = refl; second = or_none (b.stands PathBlock (path_name name n)) ∙ h; undefined = refl; plain = refl; back = refl; deep = refl; count = refl; uncalled = refl }

  sound_policy : (b : Before) → b.stands PolicyBlock name ≡ false → Sound name (facts_of name items) b policy_line
  unfolding is_call uses_of
  sound_policy b h = record { unknown = refl; second = or_none (b.stands PolicyBlock name) ∙ h; undefined = refl; plain = refl; back = refl; deep = refl; count = none_of (bytes_eq name name); uncalled = refl }

  -- ---- all forms

  all_clean : HasFew sets → EachTest (λ t. Writes name sets t (written t)) steps → Clean name (facts_of name items) nothing_before (forms_of name sets written steps)
  unfolding Clean
  all_clean few writes =
      let facts : Facts = facts_of name items in
      let ps : List RplForm = prefix_blocks name sets.prefixes in
      let cs : List RplForm = community_blocks name sets.communities in
      let as_ : List RplForm = path_blocks name sets.paths in
      let b1 : Before = past ps nothing_before in
      let b2 : Before = past cs b1 in
      let b3 : Before = past as_ b2 in
      let few_prefixes : 0 + length sets.prefixes < 2 ^ 63 = (let h = few.prefixes in omega arith) in
      let few_communities : 0 + length sets.communities < 2 ^ 63 = (let h = few.communities in omega arith) in
      let few_paths : 0 + length sets.paths < 2 ^ 63 = (let h = few.paths in omega arith) in
      let past_p : (kind : BlockKind) (q : List ℕ) → ((n : ℕ) → heads kind q (OfHeader (PrefixSet (prefix_name name n))) ≡ false) → b1.stands kind q ≡ false =
      λ kind q others. stands_past_blocks (λ k. PrefixSet (prefix_name name k)) prefix_elements kind q others 0 sets.prefixes nothing_before in
      let past_c : (kind : BlockKind) (q : List ℕ) → ((n : ℕ) → heads kind q (OfHeader (CommunitySet (community_name name n))) ≡ false) → b2.stands kind q ≡ b1.stands kind q =
      λ kind q others. stands_past_blocks (λ k. CommunitySet (community_name name k)) community_elements kind q others 0 sets.communities b1 in
      let past_a : (kind : BlockKind) (q : List ℕ) → ((n : ℕ) → heads kind q (OfHeader (PathSet (path_name name n))) ≡ false) → b3.stands kind q ≡ b2.stands kind q =
      λ kind q others. stands_past_blocks (λ k. PathSet (path_name name k)) path_elements kind q others 0 sets.paths b2 in
      clean_join name facts nothing_before ps (cs ++ (as_ ++ policy_forms))
      (blocks_clean (λ k. PrefixSet (prefix_name name k)) prefix_elements name facts PrefixBlock (λ k. prefix_name name k) sound_prefix (λ m n hm hn differ. names_apart name (codes "-p") m n hm hn differ)
      0 sets.prefixes nothing_before few_prefixes (λ m low high. refl))
      (clean_join name facts b1 cs (as_ ++ policy_forms)
      (blocks_clean (λ k. CommunitySet (community_name name k)) community_elements name facts CommunityBlock (λ k. community_name name k) sound_community (λ m n hm hn differ. names_apart name (codes "-c") m n hm hn differ)
      0 sets.communities b1 few_communities (λ m low high. past_p CommunityBlock (community_name name m) (λ n. refl)))
      (clean_join name facts b2 as_ policy_forms
      (blocks_clean (λ k. PathSet (path_name name k)) path_elements name facts PathBlock (λ k. path_name name k) sound_path (λ m n hm hn differ. names_apart name (codes "-a") m n hm hn differ)
      0 sets.paths b2 few_paths (λ m low high. past_c PathBlock (path_name name m) (λ n. refl) ∙ past_p PathBlock (path_name name m) (λ n. refl))) (
        sound_policy b3 (past_a PolicyBlock name (λ n. refl) ∙ past_c PolicyBlock name (λ n. refl) ∙ past_p PolicyBlock name (λ n. refl)),
        clean_join name facts (behind_form policy_line b3) (steps_forms written steps) (End ∷ [])
            (steps_clean name facts written (λ t. Writes name sets t (written t)) (λ t b w. known t b (written t) w) steps (behind_form policy_line b3) refl writes)
            (sound_end name facts (past (steps_forms written steps) (behind_form policy_line b3)), tt),
      )))

  -- the policy is in profile under its name
  pub plan_in_profile : HasFew sets → EachTest (λ t. Writes name sets t (written t)) steps → InProfile name items
  unfolding is_defined
  plan_in_profile few writes = record {
    defined = policy_there;
    sound = clean_sound name items (subst (λ (fs : List RplForm). Clean name (facts_of name items) nothing_before fs) (sym same) (all_clean few writes));
  }
