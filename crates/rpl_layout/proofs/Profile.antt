-- The policy of a plan is in profile: no statement has a fault, and there is no call.
use Rattle.std.proofs.Common.{◌≡◌, refl, sym, ap, subst, ◌∙◌, ℕ, ◌+◌, ◌-◌, ◌/◌, ◌%◌, ◌^◌, ◌<◌, ◌≤◌, inl, inr, Bool, true, false, ◌&&◌, ◌||◌, not, ◌==◌, List, [], ◌∷◌, ◌++◌, length, map, Option, Some, None, arith}
use Rattle.std.specs.Prelude.{nat_le, slice_get}
use Rattle.std.specs.List.{list_any, list_all, flat_map, AllByRecursion}
use Rattle.std.proofs.lemmas.Bool.{eq-eqb, and_from}
use Rattle.policy_text.specs.Causes.{behind}
use Rattle.policy_text.specs.declared.fault.Cause.{Cause}
use Rattle.policy_text.specs.declared.fault.Cause.TheVariants.{UnknownForm, DefinedTwice, Undefined, NotPlain, Cycle, TooDeep, ArgumentCount, BadArgument}
use Rattle.route_types.specs.Community.{RectParts}
use Rattle.route_types.specs.declared.community.Community.{Community as RouteCommunity}
use Rattle.route_types.specs.declared.community.CommChange.{CommChange}
use Rattle.text_words.specs.declared.rpl_blocks.BlockKind.{BlockKind}
use Rattle.text_words.specs.declared.statement.Span.{Span}
use Rattle.rpl_words.specs.Conditions.{Asks, terms_of}
use Rattle.rpl_words.specs.declared.condition.RplTest.{RplTest}
use Rattle.rpl_words.specs.declared.element.Element.{Element as SetElement}
use Rattle.rpl_words.specs.declared.number.RplNumber.TheVariants.{Fixed}
use Rattle.rpl_forms.specs.declared.item.Action.{Action}
use Rattle.rpl_forms.specs.declared.item.Action.TheVariants.{SetMed, SetLocalPreference, SetWeight, SetOrigin, SetNextHop}
use Rattle.rpl_forms.specs.declared.item.Header.{Header}
use Rattle.rpl_forms.specs.declared.item.PolicyStatement.TheVariants.{If, EndIf, Act, Apply}
use Rattle.rpl_forms.specs.declared.item.RplForm.{RplForm}
use Rattle.rpl_forms.specs.declared.item.RplForm.TheVariants.{Header as OfHeader, Element as OfElement, Statement, End}
use Rattle.rpl_forms.specs.declared.item.RplItem.{RplItem}
use Rattle.rpl_tree.specs.Tree.{forms}
use Rattle.rpl_calls.specs.Arguments.{arguments_of}
use Rattle.rpl_calls.specs.Calls.{call_in, call_of}
use Rattle.rpl_calls.specs.Policies.{spoken_from, opens, policy_line, name_under, parameters_in, place_of}
use Rattle.rpl_facts.specs.Blocks.{heads, is_single, takes_other}
use Rattle.rpl_facts.specs.Uses.{Use, of_test, of_action, uses_of}
use Rattle.rpl_reader.specs.Causes.{is_unknown, is_second, misses, is_undefined, sets_wide, leads_back, call_deep, counts_differ, has_cause}
use Rattle.rpl_reader.specs.Depth.{is_too_deep, has_deep_group}
use Rattle.rpl_reader.specs.Facts.{Facts, facts_of, Before, nothing_before, behind_form, before_of}
use Rattle.rpl_reader.specs.Profile.{IsSound}
use Rattle.rpl_reader.specs.Reach.{arguments_in}
use Rattle.rpl_plans.specs.declared.actions.PlannedActions.{PlannedActions}
use Rattle.rpl_plans.specs.declared.choice.PlannedTerm.{PlannedTerm}
use Rattle.rpl_plans.specs.declared.choice.PlannedTerms.{PlannedTerms}
use Rattle.rpl_plans.specs.declared.step.PlannedLiteral.{PlannedLiteral}
use Rattle.rpl_plans.specs.declared.step.PlannedStep.{PlannedStep}
use Rattle.rpl_plans.specs.declared.test.PlannedTest.{PlannedTest}
use Rattle.rpl_layout.specs.Forms.{block_of, blocks_from}
use Rattle.rpl_layout.specs.Guards.{Writing, guard_condition}
use Rattle.rpl_layout.specs.Statements.{set_to, prepend_of, prepends_from, prepends_of, goes_on, is_all, deletion, setting, replacement, everything, rect_alone, community_actions, actions_of, ending, body_of, step_forms, steps_forms}
use Rattle.rpl_layout.specs.Tests.{EachOfTerm, EachOfTerms, EachTest}
use Rattle.rpl_layout.proofs.Asked.{guard_deep}
use Rattle.rpl_layout.proofs.Depths.{guard_shallow}
use Rattle.rpl_layout.proofs.Uses.{AllAsk, asks_keep, asked, uses_sound}

or_none : (b : Bool) → (b || false) ≡ b
or_none true = refl
or_none false = refl

-- ---- forms without a fault, one after another

unfoldable pub is_call : RplForm → Bool
is_call (Statement (Apply a)) = true
is_call _ = false

-- a form has no cause by itself, and is no call
pub record Sound (policy : List ℕ) (facts : Facts) (b : Before) (f : RplForm) : Type 0 where
  pub unknown : is_unknown f ≡ false
  pub second : is_second b f ≡ false
  pub undefined : is_undefined facts b f ≡ false
  pub plain : sets_wide facts f ≡ false
  pub back : leads_back facts b f ≡ false
  pub deep : (is_too_deep b.ifs f || call_deep facts b f) ≡ false
  pub count : (takes_other policy 0 f || counts_differ facts f) ≡ false
  pub uncalled : is_call f ≡ false

none_has : (policy : List ℕ) (facts : Facts) (b : Before) (f : RplForm) → Sound policy facts b f → (cause : Cause) → has_cause policy facts b f cause ≡ false
none_has policy facts b f s UnknownForm = s.unknown
none_has policy facts b f s DefinedTwice = s.second
none_has policy facts b f s Undefined = s.undefined
none_has policy facts b f s NotPlain = s.plain
none_has policy facts b f s Cycle = s.back
none_has policy facts b f s TooDeep = s.deep
none_has policy facts b f s ArgumentCount = s.count
none_has policy facts b f s _ = refl

-- each of these forms, behind what stands before
unfoldable pub Clean : List ℕ → Facts → Before → List RplForm → Type 0
Clean policy facts b [] = Unit {0}
Clean policy facts b (f ∷ fs) = Sound policy facts b f × Clean policy facts (behind_form f b) fs

-- what stands before behind these forms
unfoldable pub past : List RplForm → Before → Before
past [] b = b
past (f ∷ fs) b = past fs (behind_form f b)

past_join : (xs ys : List RplForm) (b : Before) → past (xs ++ ys) b ≡ past ys (past xs b)
unfolding past
past_join [] ys b = refl
past_join (x ∷ xs) ys b = past_join xs ys (behind_form x b)

module _ (policy : List ℕ) (facts : Facts) where
  pub clean_join : (b : Before) (xs ys : List RplForm) → Clean policy facts b xs → Clean policy facts (past xs b) ys → Clean policy facts b (xs ++ ys)
  unfolding Clean past
  clean_join b [] ys h k = k
  clean_join b (x ∷ xs) ys h k = (h.0, clean_join (behind_form x b) xs ys h.1 k)

  clean_behind : (before is : List RplItem) → Clean policy facts nothing_before (forms (behind before is)) → Clean policy facts (before_of before) (forms is)
  unfolding Clean
  clean_behind [] is h = h
  clean_behind (i ∷ before) is h = (clean_behind before (i ∷ is) h).1

  call_none : (caller : List ℕ) (places : List ℕ → Option ℕ) (span : Span) (f : RplForm) → is_call f ≡ false → call_in caller places span f ≡ []
  unfolding is_call
  call_none caller places span (Statement (Apply a)) e = absurd cc
  call_none caller places span _ e = refl

  no_calls : (line : Option RplForm) (is : List RplItem) (b : Before) → Clean policy facts b (forms is) → flat_map call_of (spoken_from line is) ≡ []
  unfolding Clean spoken_from
  no_calls line [] b h = refl
  no_calls line (i ∷ is) b h = one (opens i.form) line (λ l. no_calls l is (behind_form i.form b) h.1) where
    one : (o : Option BlockKind) (l : Option RplForm) → ((k : Option RplForm) → flat_map call_of (spoken_from k is) ≡ [])
        → flat_map call_of (elim o [
          | Some kind ↦ spoken_from (policy_line kind i.form) is
          | None ↦ elim l [ None ↦ spoken_from None is | Some k ↦ record { line = k; item = i } ∷ spoken_from (Some k) is ]
        ]) ≡ []
    one (Some kind) l more = more (policy_line kind i.form)
    one None None more = more None
    one None (Some k) more = ap (λ xs. xs ++ flat_map call_of (spoken_from (Some k) is)) (call_none (name_under k) (place_of (parameters_in k)) i.span i.form h.0.uncalled) ∙ more (Some k)

-- a policy whose forms have no cause, and that is there, is in profile
pub clean_sound : (policy : List ℕ) (items : List RplItem) → Clean policy (facts_of policy items) nothing_before (forms items) → IsSound policy items
unfolding Clean
clean_sound policy items h span cause (inl fault) =
    let there = subst (λ (is : List RplItem). Clean policy (facts_of policy items) nothing_before (forms is)) fault.place.is h in
    let here = (clean_behind policy (facts_of policy items) fault.place.before (fault.place.item ∷ fault.place.rest) there).0 in
    let none : has_cause policy (facts_of policy items) (before_of fault.place.before) fault.place.item.form cause ≡ false = none_has policy (facts_of policy items) (before_of fault.place.before) fault.place.item.form here cause in
    let both : false ≡ true = sym none ∙ fault.has in
    absurd cc
clean_sound policy items h span NotPlain (inr fault) =
    let none : slice_get (arguments_in items) fault.wide.k ≡ None =
    ap (λ cs. slice_get (arguments_of cs) fault.wide.k) (no_calls policy (facts_of policy items) None items nothing_before h) in
    let both = sym none ∙ fault.wide.there in
    absurd cc
clean_sound policy items h span BadArgument (inr fault) =
    let none : slice_get (arguments_in items) fault.demand.argument ≡ None =
    ap (λ cs. slice_get (arguments_of cs) fault.demand.argument) (no_calls policy (facts_of policy items) None items nothing_before h) in
    let both = sym none ∙ fault.written.there in
    absurd cc
clean_sound policy items h span _ (inr fault) = absurd fault

-- ---- blocks of sets

module _ (policy : List ℕ) (facts : Facts) where
  sound_element : (b : Before) (e : SetElement) → Sound policy facts b (OfElement e)
  unfolding is_call uses_of
  sound_element b e = record { unknown = refl; second = refl; undefined = refl; plain = refl; back = refl; deep = refl; count = refl; uncalled = refl }

  pub sound_end : (b : Before) → Sound policy facts b End
  unfolding is_call uses_of
  sound_end b = record { unknown = refl; second = refl; undefined = refl; plain = refl; back = refl; deep = refl; count = refl; uncalled = refl }

  elements_clean : (b : Before) (es : List SetElement) → Clean policy facts b (map OfElement es ++ End ∷ [])
  unfolding Clean
  elements_clean b [] = (sound_end b, tt)
  elements_clean b (e ∷ es) = (sound_element b e, elements_clean (behind_form (OfElement e) b) es)

stands_past_elements : (es : List SetElement) (b : Before) (kind : BlockKind) (q : List ℕ) → (past (map OfElement es ++ End ∷ []) b).stands kind q ≡ b.stands kind q
unfolding past
stands_past_elements [] b kind q = refl
stands_past_elements (e ∷ es) b kind q = stands_past_elements es (behind_form (OfElement e) b) kind q

stands_past_block : (h : Header) (es : List SetElement) (b : Before) (kind : BlockKind) (q : List ℕ) → (past (block_of h es) b).stands kind q ≡ (heads kind q (OfHeader h) || b.stands kind q)
unfolding past
stands_past_block h es b kind q = stands_past_elements es (behind_form (OfHeader h) b) kind q

module _ {D : Type 0} (head : ℕ → Header) (elements_of : D → List SetElement) where
  -- blocks under other names
  pub stands_past_blocks : (kind : BlockKind) (q : List ℕ) → ((n : ℕ) → heads kind q (OfHeader (head n)) ≡ false) → (from : ℕ) (ds : List D) (b : Before)
      → (past (blocks_from head elements_of from ds) b).stands kind q ≡ b.stands kind q
  unfolding blocks_from past
  stands_past_blocks kind q others from [] b = refl
  stands_past_blocks kind q others from (d ∷ ds) b =
      ap (λ (c : Before). c.stands kind q) (past_join (block_of (head from) (elements_of d)) (blocks_from head elements_of (from + 1) ds) b)
      ∙ stands_past_blocks kind q others (from + 1) ds (past (block_of (head from) (elements_of d)) b)
      ∙ stands_past_block (head from) (elements_of d) b kind q
      ∙ ap (λ k. k || b.stands kind q) (others from)

  module _ (policy : List ℕ) (facts : Facts) (kind : BlockKind) (label : ℕ → List ℕ)
      (sound : (n : ℕ) (b : Before) → b.stands kind (label n) ≡ false → Sound policy facts b (OfHeader (head n)))
      (apart : (m n : ℕ) → m < 2 ^ 63 → n < 2 ^ 63 → (m ≡ n → ⊥) → heads kind (label m) (OfHeader (head n)) ≡ false) where
    pub blocks_clean : (from : ℕ) (ds : List D) (b : Before) → from + length ds < 2 ^ 63 → ((m : ℕ) → from ≤ m → m < 2 ^ 63 → b.stands kind (label m) ≡ false)
        → Clean policy facts b (blocks_from head elements_of from ds)
    unfolding blocks_from Clean
    blocks_clean from [] b few free = tt
    blocks_clean from (d ∷ ds) b few free =
        let small : from < 2 ^ 63 = omega arith in
        clean_join policy facts b (block_of (head from) (elements_of d)) (blocks_from head elements_of (from + 1) ds)
        (sound from b (free from (omega arith) small), elements_clean policy facts (behind_form (OfHeader (head from)) b) (elements_of d))
        (blocks_clean (from + 1) ds (past (block_of (head from) (elements_of d)) b) (omega arith) (λ m low high.
        stands_past_block (head from) (elements_of d) b kind (label m)
        ∙ ap (λ k. k || b.stands kind (label m)) (apart m from high small (λ e. omega (arith, e, low)))
        ∙ free m (omega (arith, low)) high))

-- ---- actions

-- an action uses nothing, and sets single communities
Quiet : Facts → Action → Type 0
Quiet facts a = (of_action a ≡ []) × (sets_wide facts (Statement (Act a)) ≡ false)

quiet_join : (facts : Facts) (xs ys : List Action) → AllByRecursion (Quiet facts) xs → AllByRecursion (Quiet facts) ys → AllByRecursion (Quiet facts) (xs ++ ys)
quiet_join facts [] ys h k = k
quiet_join facts (x ∷ xs) ys h k = (h.0, quiet_join facts xs ys h.1 k)

quiet_set : {A : Type 0} (facts : Facts) (make : A → Action) (o : Option A) → ((x : A) → Quiet facts (make x)) → AllByRecursion (Quiet facts) (set_to make o)
quiet_set facts make None each = tt
quiet_set facts make (Some x) each = (each x, tt)

quiet_prepends : (facts : Facts) (m times : ℕ) (ns : List ℕ) → AllByRecursion (Quiet facts) (prepends_from m times ns)
unfolding prepends_from Quiet
quiet_prepends facts m times [] = ((refl, refl), tt)
quiet_prepends facts m times (n ∷ ns) = one (goes_on m times n) (quiet_prepends facts m (times + 1) ns) (quiet_prepends facts n 1 ns) where
  one : (b : Bool) → AllByRecursion (Quiet facts) (prepends_from m (times + 1) ns) → AllByRecursion (Quiet facts) (prepends_from n 1 ns)
      → AllByRecursion (Quiet facts) (elim b [ true ↦ prepends_from m (times + 1) ns | false ↦ prepend_of m times ∷ prepends_from n 1 ns ])
  one true on anew = on
  one false on anew = ((refl, refl), anew)

all_prepends : (facts : Facts) (ns : List ℕ) → AllByRecursion (Quiet facts) (prepends_of ns)
all_prepends facts [] = tt
all_prepends facts (n ∷ ns) = quiet_prepends facts n 1 ns

all_single : (cs : List RouteCommunity) → list_all is_single (map rect_alone cs) ≡ true
all_single [] = refl
all_single (c ∷ cs) =
    and_from ((c.0 / 2 ^ 16 == c.0 / 2 ^ 16) && (c.0 % 2 ^ 16 == c.0 % 2 ^ 16)) (list_all is_single (map rect_alone cs))
    (and_from (c.0 / 2 ^ 16 == c.0 / 2 ^ 16) (c.0 % 2 ^ 16 == c.0 % 2 ^ 16) (eq-eqb (c.0 / 2 ^ 16) (c.0 / 2 ^ 16) refl) (eq-eqb (c.0 % 2 ^ 16) (c.0 % 2 ^ 16) refl))
    (all_single cs)

quiet_deletion : (facts : Facts) (rs : List RectParts) → AllByRecursion (Quiet facts) (deletion rs)
unfolding Quiet
quiet_deletion facts [] = tt
quiet_deletion facts (x ∷ xs) = ((refl, refl), tt)

quiet_setting : (facts : Facts) (additive : Bool) (rs : List RectParts) → list_all is_single rs ≡ true → AllByRecursion (Quiet facts) (setting additive rs)
unfolding Quiet
quiet_setting facts additive [] e = tt
quiet_setting facts additive (x ∷ xs) e = ((refl, ap not e), tt)

quiet_replacement : (facts : Facts) (all : RectParts) (rs : List RectParts) → list_all is_single rs ≡ true → AllByRecursion (Quiet facts) (replacement all rs)
unfolding Quiet
quiet_replacement facts all [] e = ((refl, refl), tt)
quiet_replacement facts all (x ∷ xs) e = ((refl, ap not e), tt)

quiet_communities : (facts : Facts) (o : Option CommChange) → AllByRecursion (Quiet facts) (community_actions o)
quiet_communities facts None = tt
quiet_communities facts (Some c) = one (list_any is_all c.removed) where
  one : (b : Bool) → AllByRecursion (Quiet facts) (elim b [ true ↦ replacement everything (map rect_alone c.added) | false ↦ deletion c.removed ++ setting true (map rect_alone c.added) ])
  one true = quiet_replacement facts everything (map rect_alone c.added) (all_single c.added)
  one false = quiet_join facts (deletion c.removed) (setting true (map rect_alone c.added)) (quiet_deletion facts c.removed) (quiet_setting facts true (map rect_alone c.added) (all_single c.added))

quiet_actions : (facts : Facts) (a : PlannedActions) → AllByRecursion (Quiet facts) (actions_of a)
unfolding Quiet
quiet_actions facts a =
    quiet_join facts (set_to (λ n. SetLocalPreference (Fixed n)) a.local_preference) _ (quiet_set facts (λ n. SetLocalPreference (Fixed n)) a.local_preference (λ x. (refl, refl)))
    (quiet_join facts (set_to (λ n. SetMed (Fixed n)) a.med) _ (quiet_set facts (λ n. SetMed (Fixed n)) a.med (λ x. (refl, refl)))
    (quiet_join facts (set_to (λ n. SetWeight (Fixed n)) a.weight) _ (quiet_set facts (λ n. SetWeight (Fixed n)) a.weight (λ x. (refl, refl)))
    (quiet_join facts (set_to SetOrigin a.origin) _ (quiet_set facts SetOrigin a.origin (λ x. (refl, refl)))
    (quiet_join facts (set_to SetNextHop a.next_hop) _ (quiet_set facts SetNextHop a.next_hop (λ x. (refl, refl)))
    (quiet_join facts (prepends_of a.prepended) (community_actions a.communities) (all_prepends facts a.prepended) (quiet_communities facts a.communities))))))

-- ---- steps

ifs_past_body : (xs : List Action) (accept : Bool) (b : Before) → (past (body_of xs accept) b).ifs ≡ b.ifs
unfolding past
ifs_past_body [] true b = refl
ifs_past_body [] false b = refl
ifs_past_body (x ∷ xs) accept b = ifs_past_body xs accept (behind_form (Statement (Act x)) b)

module _ (policy : List ℕ) (facts : Facts) where
  sound_action : (b : Before) (a : Action) → Quiet facts a → Sound policy facts b (Statement (Act a))
  unfolding is_call uses_of Quiet
  sound_action b a h = record {
    unknown = refl;
    second = refl;
    undefined = ap (λ (us : List Use). list_any (misses facts b) us || false) h.0;
    plain = h.1;
    back = refl;
    deep = refl;
    count = refl;
    uncalled = refl;
  }

  sound_ending : (b : Before) (accept : Bool) → Sound policy facts b (Statement (ending accept))
  unfolding is_call uses_of
  sound_ending b true = record { unknown = refl; second = refl; undefined = refl; plain = refl; back = refl; deep = refl; count = refl; uncalled = refl }
  sound_ending b false = record { unknown = refl; second = refl; undefined = refl; plain = refl; back = refl; deep = refl; count = refl; uncalled = refl }

  sound_endif : (b : Before) → Sound policy facts b (Statement EndIf)
  unfolding is_call uses_of
  sound_endif b = record { unknown = refl; second = refl; undefined = refl; plain = refl; back = refl; deep = refl; count = refl; uncalled = refl }

  body_clean : (xs : List Action) (accept : Bool) (b : Before) → AllByRecursion (Quiet facts) xs → Clean policy facts b (body_of xs accept)
  unfolding Clean
  body_clean [] accept b h = (sound_ending b accept, tt)
  body_clean (x ∷ xs) accept b h = (sound_action b x h.0, body_clean xs accept (behind_form (Statement (Act x)) b) h.1)

  module _ (written : Writing) (P : PlannedTest → Type 0)
      (known : (t : PlannedTest) (b : Before) → P t → list_any (misses facts b) (of_test (written t)) ≡ false) where
    known_tests : (b : Before) (ts : List PlannedTest) → AllByRecursion P ts → AllByRecursion (λ t. AllAsk (λ u. list_any (misses facts b) (of_test u) ≡ false) (Asks (written t))) ts
    known_tests b [] h = tt
    known_tests b (t ∷ ts) h = (asked (λ u. list_any (misses facts b) (of_test u) ≡ false) (written t) (known t b h.0), known_tests b ts h.1)

    known_term : (b : Before) (t : PlannedTerm) → EachOfTerm P t → EachOfTerm (λ k. AllAsk (λ u. list_any (misses facts b) (of_test u) ≡ false) (Asks (written k))) t
    known_term b t h = (known_tests b t.denied h.0, asked (λ u. list_any (misses facts b) (of_test u) ≡ false) (written t.permitted) (known t.permitted b h.1))

    known_others : (b : Before) (ts : List PlannedTerm) → AllByRecursion (EachOfTerm P) ts → AllByRecursion (EachOfTerm (λ k. AllAsk (λ u. list_any (misses facts b) (of_test u) ≡ false) (Asks (written k)))) ts
    known_others b [] h = tt
    known_others b (t ∷ ts) h = (known_term b t h.0, known_others b ts h.1)

    known_terms : (b : Before) (ts : PlannedTerms) → EachOfTerms P ts → EachOfTerms (λ k. AllAsk (λ u. list_any (misses facts b) (of_test u) ≡ false) (Asks (written k))) ts
    known_terms b ts h = (known_term b ts.first h.0, known_others b ts.others h.1)

    known_literals : (b : Before) (ls : List PlannedLiteral) → AllByRecursion (λ l. EachOfTerms P l.terms) ls
        → AllByRecursion (λ l. EachOfTerms (λ k. AllAsk (λ u. list_any (misses facts b) (of_test u) ≡ false) (Asks (written k))) l.terms) ls
    known_literals b [] h = tt
    known_literals b (l ∷ ls) h = (known_terms b l.terms h.0, known_literals b ls h.1)

    sound_if : (b : Before) (l : PlannedLiteral) (ls : List PlannedLiteral) → b.ifs ≡ 0 → AllByRecursion (λ k. EachOfTerms P k.terms) (l ∷ ls)
        → Sound policy facts b (Statement (If (terms_of (guard_condition written l ls))))
    unfolding is_call uses_of
    sound_if b l ls none h =
        let Fine : RplTest → Type 0 = λ u. list_any (misses facts b) (of_test u) ≡ false in
        let all = guard_deep (AllAsk Fine) (AllAsk Fine) (asks_keep Fine) written l ls (known_terms b l.terms h.0) (known_literals b ls h.1) in
        record {
          unknown = refl;
          second = refl;
          undefined = or_none (list_any (misses facts b) (uses_of (Statement (If (terms_of (guard_condition written l ls)))))) ∙ uses_sound (misses facts b) (guard_condition written l ls) all;
          plain = refl;
          back = refl;
          deep =
              ap (λ (n : ℕ). (nat_le 128 n || has_deep_group [] (terms_of (guard_condition written l ls))) || false) none
              ∙ ap (λ (k : Bool). k || false) (guard_shallow written l ls);
          count = refl;
          uncalled = refl;
        }

    step_clean : (guard : List PlannedLiteral) (xs : List Action) (accept : Bool) (following : List RplForm) (b : Before) → b.ifs ≡ 0 → AllByRecursion (λ l. EachOfTerms P l.terms) guard
        → AllByRecursion (Quiet facts) xs → ((c : Before) → c.ifs ≡ 0 → Clean policy facts c following) → Clean policy facts b (step_forms written guard (body_of xs accept) following)
    unfolding Clean past
    step_clean [] xs accept following b none h quiet more = body_clean xs accept b quiet
    step_clean (l ∷ ls) xs accept following b none h quiet more =
        let within : Before = behind_form (Statement (If (terms_of (guard_condition written l ls)))) b in
        let open_ifs : (past (body_of xs accept) within).ifs ≡ 1 = ifs_past_body xs accept within ∙ ap (λ (n : ℕ). n + 1) none in (
          sound_if b l ls none h,
          clean_join policy facts within (body_of xs accept) (Statement EndIf ∷ following) (body_clean xs accept within quiet)
              (sound_endif (past (body_of xs accept) within), more (behind_form (Statement EndIf) (past (body_of xs accept) within)) (ap (λ (n : ℕ). n - 1) open_ifs)),
        )

    pub steps_clean : (ss : List PlannedStep) (b : Before) → b.ifs ≡ 0 → EachTest P ss → Clean policy facts b (steps_forms written ss)
    unfolding Clean steps_forms
    steps_clean [] b none h = tt
    steps_clean (s ∷ ss) b none h = step_clean s.guard (actions_of s.actions) s.accept (steps_forms written ss) b none h.0 (quiet_actions facts s.actions) (λ c k. steps_clean ss c k h.1)
