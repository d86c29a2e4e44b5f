-- What is known to be reached is what is reached.
use Rattle.std.proofs.Common.{◌≡◌, refl, sym, ap, ◌∙◌, subst, ℕ, Bool, true, false, ◌&&◌, ◌||◌, ◌==◌, ◌⊎◌, inl, inr, List, [], ◌∷◌, Option, Some, None, slice_get, true≢false}
use Rattle.std.specs.Prelude.{Decides, bytes_eq}
use Rattle.std.specs.List.{list_any}
use Rattle.std.proofs.lemmas.Bool.{and_parts}
use Rattle.std.proofs.lemmas.Slice.Eq.{bytes_eq-Decides}
use Rattle.step_search.specs.Found.{IsIn}
use Rattle.text_words.specs.declared.rpl_blocks.BlockKind.{BlockKind}
use Rattle.policy_text.specs.NameSets.{has_name}
use Rattle.rpl_forms.specs.declared.item.RplItem.{RplItem}
use Rattle.rpl_calls.specs.Policies.{Spoken, spoken_from, opens, name_under}
use Rattle.rpl_calls.specs.Arguments.{ArgumentParts, written}
use Rattle.rpl_calls.specs.declared.ask.Question.{Question}
use Rattle.rpl_calls.specs.declared.ask.Question.TheVariants.{Number, Set, NotBelow}
use Rattle.rpl_calls.specs.declared.demand.Demand.{Demand}
use Rattle.rpl_facts.specs.Uses.{Use, UsesSet, UsesParameter, uses_of}
use Rattle.rpl_facts.specs.Blocks.{block_of}
use Rattle.rpl_facts.specs.Told.{Names, kind_code}
use Rattle.rpl_reader.specs.Sets.{names, uses_named, is_written_as, is_written, is_given_at, gives}
use Rattle.rpl_reader.specs.Holds.{HoldsSets}
use Rattle.rpl_reader.specs.Reach.{is_reached_policy, arguments_in, IsDemanded, is_use, names_set, is_named_by, IsGiven, IsReachedBlock, IsReachedBehind}
use Rattle.rpl_reader.specs.Faults.{is_open_reached}
use Rattle.rpl_facts.proofs.Wide.{kinds}

-- ---- tests of lists

pub some_in : {A : Type 0} (p : A → Bool) (xs : List A) → list_any p xs ≡ true → (x : A) × IsIn x xs × (p x ≡ true)
some_in {A} p [] e = absurd (true≢false (sym e))
some_in {A} p (y ∷ ys) e = here (p y) refl e (some_in p ys)
  where
    here : (b : Bool) → p y ≡ b → (b || list_any p ys) ≡ true → (list_any p ys ≡ true → (x : A) × IsIn x ys × (p x ≡ true)) → (x : A) × IsIn x (y ∷ ys) × (p x ≡ true)
    here true is e more = (y, inl refl, is)
    here false is e more = let found = more e in (found.0, inr found.1, found.2)

or_true : (a : Bool) → (a || true) ≡ true
or_true true = refl
or_true false = refl

pub in_some : {A : Type 0} (p : A → Bool) (xs : List A) (x : A) → IsIn x xs → p x ≡ true → list_any p xs ≡ true
in_some p [] x there e = absurd there
in_some p (y ∷ ys) x (inl is) e = ap (λ (b : Bool). b || list_any p ys) (sym (ap p is) ∙ e)
in_some p (y ∷ ys) x (inr more) e = ap (λ (b : Bool). p y || b) (in_some p ys x more e) ∙ or_true (p y)

-- ---- sets that are named

module _ (kind : BlockKind) (q : List ℕ) where
  one_use : (u : Use) → names q (kind_code kind) 0 u ≡ is_use kind q u
  one_use (UsesSet set) = ap (λ (b : Bool). b && bytes_eq q set.1) (kinds kind (block_of set.0))
  one_use (UsesParameter x) = refl

  pub named_is : (reached other : List ℕ → Bool) → reached ≡ other → (ss : List Spoken) → list_any (uses_named reached q (kind_code kind) 0) ss ≡ list_any (names_set other kind q) ss
  named_is reached other same ss = λ j. list_any (λ s. same j (name_under s.line) && list_any (λ u. one_use u j) (uses_of s.item.form)) ss

-- ---- sets that are handed on

module _ (policy : List ℕ) (all : List RplItem) (reached : List ℕ → Bool) (reached_is : reached ≡ is_reached_policy policy all) (args : List ArgumentParts) (args_are : args ≡ arguments_in all) (kind : BlockKind) (q : List ℕ) where
  there : (k : ℕ) (o : Option ArgumentParts) → slice_get args k ≡ o → slice_get (arguments_in all) k ≡ o
  there k o e = ap (λ (xs : List ArgumentParts). slice_get xs k) (sym args_are) ∙ e

  written_one : (d : Demand) (a : ArgumentParts) (question : Question) → d.question ≡ question → slice_get args d.argument ≡ Some a → reached a.call.caller ≡ true → IsDemanded all d → is_written q (kind_code kind) 0 (written a) question ≡ true → IsGiven policy all kind q
  written_one d a (Number range) question-is at is-reached demanded e = absurd (true≢false (sym e))
  written_one d a (NotBelow place) question-is at is-reached demanded e = absurd (true≢false (sym e))
  written_one d a (Set sort) question-is at is-reached demanded e = by_word (written a) refl e
    where
      by_word : (o : Option (List ℕ)) → written a ≡ o → is_written_as q (kind_code kind) 0 sort o ≡ true → IsGiven policy all kind q
      by_word None word-is e = absurd (true≢false (sym e))
      by_word (Some w) word-is e =
          let parts = and_parts (kind_code kind == kind_code (block_of sort)) (bytes_eq q w) e in
          let same : q ≡ w = (bytes_eq-Decides q w).0 parts.1 in
          record {
            k = d.argument;
            sort = sort;
            argument = a;
            written = record {
              there = there d.argument (Some a) at;
              reached = sym (ap (λ (f : List ℕ → Bool). f a.call.caller) reached_is) ∙ is-reached;
              is = word-is ∙ ap (λ (x : List ℕ). Some x) (sym same);
            };
            asked = subst (λ (x : Question). IsDemanded all (record { argument = d.argument; question = x })) question-is demanded;
            of_kind = sym (kinds kind (block_of sort)) ∙ parts.0;
          }

  given_at : (d : Demand) (o : Option ArgumentParts) → slice_get args d.argument ≡ o → IsDemanded all d → is_given_at reached q (kind_code kind) 0 d.question o ≡ true → IsGiven policy all kind q
  given_at d None at demanded e = absurd (true≢false (sym e))
  given_at d (Some a) at demanded e =
      let parts = and_parts (reached a.call.caller) (is_written q (kind_code kind) 0 (written a) d.question) e in
      written_one d a d.question refl at parts.0 demanded parts.1

  pub given_sound : (ds : List Demand) → ((d : Demand) → IsIn d ds → IsDemanded all d) → list_any (gives reached args q (kind_code kind) 0) ds ≡ true → IsGiven policy all kind q
  given_sound ds sound e =
      let found = some_in (gives reached args q (kind_code kind) 0) ds e in
      given_at found.0 (slice_get args found.0.argument) refl (sound found.0 found.1) found.2

  and_both : (a b : Bool) → a ≡ true → b ≡ true → (a && b) ≡ true
  and_both a b e f = (λ j. e j && f j)

  pub given_whole : (ds : List Demand) → ((d : Demand) → IsDemanded all d → IsIn d ds) → IsGiven policy all kind q → list_any (gives reached args q (kind_code kind) 0) ds ≡ true
  given_whole ds whole g =
      let at : slice_get args g.k ≡ Some g.argument = ap (λ (xs : List ArgumentParts). slice_get xs g.k) args_are ∙ g.written.there in
      let is-reached : reached g.argument.call.caller ≡ true = ap (λ (f : List ℕ → Bool). f g.argument.call.caller) reached_is ∙ g.written.reached in
      let same : bytes_eq q q ≡ true = (bytes_eq-Decides q q).1 refl in
      let is-written : (kind_code kind == kind_code (block_of g.sort) && bytes_eq q q) ≡ true = and_both (kind_code kind == kind_code (block_of g.sort)) (bytes_eq q q) (kinds kind (block_of g.sort) ∙ g.of_kind) same in
      let shown : is_written_as q (kind_code kind) 0 g.sort (written g.argument) ≡ true = ap (λ (o : Option (List ℕ)). is_written_as q (kind_code kind) 0 g.sort o) g.written.is ∙ is-written in
      in_some (gives reached args q (kind_code kind) 0) ds (record { argument = g.k; question = Set g.sort }) (whole _ g.asked)
      (ap (λ (o : Option ArgumentParts). is_given_at reached q (kind_code kind) 0 (Set g.sort) o) at
      ∙ and_both (reached g.argument.call.caller) (is_written_as q (kind_code kind) 0 g.sort (written g.argument)) is-reached shown)

  -- ---- blocks

  or_left : (a b : Bool) → a ≡ true → (a || b) ≡ true
  or_left a b e = λ j. e j || b

  or_right : (a b : Bool) → b ≡ true → (a || b) ≡ true
  or_right a b e = (λ j. a || e j) ∙ or_true a

  or_parts : (a b : Bool) → (a || b) ≡ true → (a ≡ true) ⊎ (b ≡ true)
  or_parts true b e = inl refl
  or_parts false b e = inr e

  pub set_decided : (sets : Names) (ds : List Demand) → ((d : Demand) → IsIn d ds → IsDemanded all d) → ((d : Demand) → IsDemanded all d → IsIn d ds) → HoldsSets all reached args ds sets
      → Decides (has_name sets q (kind_code kind) 0) ((is_named_by policy all kind q ≡ true) ⊎ IsGiven policy all kind q)
  set_decided sets ds sound whole holds = (forth, back)
    where
      named-is : list_any (uses_named reached q (kind_code kind) 0) (spoken_from None all) ≡ is_named_by policy all kind q
      named-is = named_is kind q reached (is_reached_policy policy all) reached_is (spoken_from None all)

      of_parts : (list_any (gives reached args q (kind_code kind) 0) ds ≡ true) ⊎ (list_any (uses_named reached q (kind_code kind) 0) (spoken_from None all) ≡ true) → (is_named_by policy all kind q ≡ true) ⊎ IsGiven policy all kind q
      of_parts (inl e) = inr (given_sound ds sound e)
      of_parts (inr e) = inl (sym named-is ∙ e)

      forth : has_name sets q (kind_code kind) 0 ≡ true → (is_named_by policy all kind q ≡ true) ⊎ IsGiven policy all kind q
      forth e = of_parts (or_parts (list_any (gives reached args q (kind_code kind) 0) ds) (list_any (uses_named reached q (kind_code kind) 0) (spoken_from None all)) (sym (holds q (kind_code kind) 0) ∙ e))

      back : (is_named_by policy all kind q ≡ true) ⊎ IsGiven policy all kind q → has_name sets q (kind_code kind) 0 ≡ true
      back (inl e) = holds q (kind_code kind) 0 ∙ or_right (list_any (gives reached args q (kind_code kind) 0) ds) (list_any (uses_named reached q (kind_code kind) 0) (spoken_from None all)) (named-is ∙ e)
      back (inr g) = holds q (kind_code kind) 0 ∙ or_left (list_any (gives reached args q (kind_code kind) 0) ds) (list_any (uses_named reached q (kind_code kind) 0) (spoken_from None all)) (given_whole ds whole g)

-- ---- the block that is open

module _ (policy : List ℕ) (all : List RplItem) (reached : BlockKind → List ℕ → Bool) (decided : (kind : BlockKind) (q : List ℕ) → Decides (reached kind q) (IsReachedBlock policy all kind q)) where
  by_line : (i : RplItem) (before : List RplItem) (o : Option BlockKind) → Decides (is_open_reached reached before) (IsReachedBehind policy all before)
      → Decides (elim o [ Some kind ↦ reached kind (name_under i.form) | None ↦ is_open_reached reached before ]) (elim o [ Some kind ↦ IsReachedBlock policy all kind (name_under i.form) | None ↦ IsReachedBehind policy all before ])
  by_line i before None more = more
  by_line i before (Some kind) more = decided kind (name_under i.form)

  nothing : false ≡ true → ⊥
  nothing e = true≢false (sym e)

  pub open_decided : (before : List RplItem) → Decides (is_open_reached reached before) (IsReachedBehind policy all before)
  open_decided [] = (nothing, λ h. absurd h)
  open_decided (i ∷ before) = by_line i before (opens i.form) (open_decided before)
