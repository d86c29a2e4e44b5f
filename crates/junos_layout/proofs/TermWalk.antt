-- The forms of a term, of terms and of a policy have no fault where their conditions and actions are sound.
use Rattle.std.proofs.Common.{◌≡◌, refl, sym, ap, subst, ◌∙◌, ℕ, ◌+◌, ◌^◌, ◌<◌, Bool, true, false, ◌&&◌, ◌||◌, not, List, [], ◌∷◌, ◌++◌, length, map, Option, Some, None, arith}
use Rattle.std.specs.Prelude.{nat_le, nat_lt}
use Rattle.std.specs.List.{list_any, flat_map, AllByRecursion, IsDistinct}
use Rattle.route_types.specs.Address.{PrefixParts}
use Rattle.junos_tree.specs.Forms.{condition_form, action_form}
use Rattle.junos_tree.specs.Terms.{Content}
use Rattle.junos_tree.specs.declared.item.Action.{Action}
use Rattle.junos_tree.specs.declared.item.Condition.{Condition}
use Rattle.junos_tree.specs.declared.item.Condition.TheVariants.{Protocol, Community, AsPath, NextHop, Policy, PrefixList, RouteFilter, ListFilter, Metric, LocalPreference, Origin}
use Rattle.junos_tree.specs.declared.item.JunosForm.{JunosForm}
use Rattle.junos_tree.specs.declared.item.JunosForm.TheVariants.{Term as TermHeader}
use Rattle.junos_reader.specs.Facts.{Facts}
use Rattle.junos_reader.specs.Forms.{acts, ends, kind_of_condition, kind_of_action, kind_of, is_kind, filter_of_condition, filter_of, is_prefix, set_or_added, changes as changes_route, leaves}
use Rattle.junos_reader.specs.Profile.{passes, exactly_one}
use Rattle.junos_reader.specs.Statements.{named_by_condition, named_by_action}
use Rattle.junos_text.specs.Layout.{term_forms}
use Rattle.junos_text.specs.declared.option.PolicyTerm.{PolicyTerm}
use Rattle.junos_layout.specs.Options.{numbered}
use Rattle.junos_layout.specs.Terms.{ending}
use Rattle.junos_layout.proofs.Names.{term_name}
use Rattle.junos_layout.proofs.Walk.{Sound, Clean, past, past_join, clean_join, Between, Within, begins_term, ends_term, past_condition, past_action, Calm, sound_term, AreDefined, sound_condition, sound_action}

-- ---- conditions of a term

-- of two conditions of a term the first one keeps the other out: they are of one kind that may stand once, or have one prefix
abbrev pub clash : Condition → Condition → Bool
clash d c = passes (λ k. nat_lt k 4 && is_kind k (kind_of_condition d)) (kind_of_condition c) || passes (λ p. is_prefix p (filter_of_condition d)) (filter_of_condition c)

-- the prefix is tested by route-filters alone
abbrev pub HasOneWay : Condition → Type 0
HasOneWay (PrefixList names) = ⊥
HasOneWay (ListFilter f) = ⊥
HasOneWay _ = Unit {0}

abbrev has_kind : List JunosForm → ℕ → Bool
has_kind here k = list_any (λ f. is_kind k (kind_of f)) here

-- nothing else tests the prefix, and no flow action stands there
record IsPlain (here : List JunosForm) : Type 0 where
  lists : has_kind here 5 ≡ false
  exact_lists : has_kind here 6 ≡ false
  longer_lists : has_kind here 7 ≡ false
  flows : has_kind here 3 ≡ false

plain_none : IsPlain []
plain_none = record { lists = refl; exact_lists = refl; longer_lists = refl; flows = refl }

plain_condition : (here : List JunosForm) (c : Condition) → HasOneWay c → IsPlain here → IsPlain (condition_form false c ∷ here)
plain_condition here (Protocol names) one h = record { lists = h.lists; exact_lists = h.exact_lists; longer_lists = h.longer_lists; flows = h.flows }
plain_condition here (Community names) one h = record { lists = h.lists; exact_lists = h.exact_lists; longer_lists = h.longer_lists; flows = h.flows }
plain_condition here (AsPath names) one h = record { lists = h.lists; exact_lists = h.exact_lists; longer_lists = h.longer_lists; flows = h.flows }
plain_condition here (NextHop hops) one h = record { lists = h.lists; exact_lists = h.exact_lists; longer_lists = h.longer_lists; flows = h.flows }
plain_condition here (Policy names) one h = record { lists = h.lists; exact_lists = h.exact_lists; longer_lists = h.longer_lists; flows = h.flows }
plain_condition here (PrefixList names) one h = absurd one
plain_condition here (RouteFilter r) one h = record { lists = h.lists; exact_lists = h.exact_lists; longer_lists = h.longer_lists; flows = h.flows }
plain_condition here (ListFilter f) one h = absurd one
plain_condition here (Metric n) one h = record { lists = h.lists; exact_lists = h.exact_lists; longer_lists = h.longer_lists; flows = h.flows }
plain_condition here (LocalPreference n) one h = record { lists = h.lists; exact_lists = h.exact_lists; longer_lists = h.longer_lists; flows = h.flows }
plain_condition here (Origin o) one h = record { lists = h.lists; exact_lists = h.exact_lists; longer_lists = h.longer_lists; flows = h.flows }

only_filters : (a b c d : Bool) → b ≡ false → c ≡ false → d ≡ false → (not a && exactly_one a b c d) ≡ false
only_filters true b c d e f g = refl
only_filters false false false false e f g = refl
only_filters false true c d e f g = absurd cc
only_filters false false true d e f g = absurd cc
only_filters false false false true e f g = absurd cc

ways_of : (here : List JunosForm) (c : Condition) → HasOneWay c → IsPlain here
    → passes (λ k. (nat_le 4 k && not (has_kind here k)) && exactly_one (has_kind here 4) (has_kind here 5) (has_kind here 6) (has_kind here 7)) (kind_of_condition c) ≡ false
ways_of here (Protocol names) one h = refl
ways_of here (Community names) one h = refl
ways_of here (AsPath names) one h = refl
ways_of here (NextHop hops) one h = refl
ways_of here (Policy names) one h = refl
ways_of here (PrefixList names) one h = absurd one
ways_of here (RouteFilter r) one h = only_filters (has_kind here 4) (has_kind here 5) (has_kind here 6) (has_kind here 7) h.lists h.exact_lists h.longer_lists
ways_of here (ListFilter f) one h = absurd one
ways_of here (Metric n) one h = refl
ways_of here (LocalPreference n) one h = refl
ways_of here (Origin o) one h = refl

-- what is asked of a condition by the forms before it, beside the way in which it tests the prefix
record IsNew (here : List JunosForm) (c : Condition) : Type 0 where
  kinds : passes (λ k. nat_lt k 4 && has_kind here k) (kind_of_condition c) ≡ false
  filters : passes (λ p. list_any (λ f. is_prefix p (filter_of f)) here) (filter_of_condition c) ≡ false

first_new : (c : Condition) → IsNew [] c
first_new c = record { kinds = none (kind_of_condition c); filters = never (filter_of_condition c) } where
  none : (o : Option ℕ) → passes (λ k. nat_lt k 4 && false) o ≡ false
  none None = refl
  none (Some k) = one (nat_lt k 4) where
    one : (b : Bool) → (b && false) ≡ false
    one true = refl
    one false = refl

  never : (o : Option PrefixParts) → passes (λ p. false) o ≡ false
  never None = refl
  never (Some p) = refl

all_new : (cs : List Condition) → AllByRecursion (IsNew []) cs
all_new [] = tt
all_new (c ∷ cs) = (first_new c, all_new cs)

either_none : (a b : Bool) → (a || b) ≡ false → (a ≡ false) × (b ≡ false)
either_none false b e = (refl, e)
either_none true b e = absurd cc

new_with : (here : List JunosForm) (d c : Condition) → clash d c ≡ false → IsNew here c → IsNew (condition_form false d ∷ here) c
new_with here d c e h =
    let parts = either_none (passes (λ k. nat_lt k 4 && is_kind k (kind_of_condition d)) (kind_of_condition c)) (passes (λ p. is_prefix p (filter_of_condition d)) (filter_of_condition c)) e in
    record { kinds = both_kinds (kind_of_condition c) parts.0 h.kinds; filters = both_filters (filter_of_condition c) parts.1 h.filters }
  where
    neither : (a b c : Bool) → (a && b) ≡ false → (a && c) ≡ false → (a && (b || c)) ≡ false
    neither true true c e f = e
    neither true false c e f = f
    neither false b c e f = refl

    both_kinds : (o : Option ℕ) → passes (λ k. nat_lt k 4 && is_kind k (kind_of_condition d)) o ≡ false → passes (λ k. nat_lt k 4 && has_kind here k) o ≡ false
        → passes (λ k. nat_lt k 4 && (is_kind k (kind_of_condition d) || has_kind here k)) o ≡ false
    both_kinds None e f = refl
    both_kinds (Some k) e f = neither (nat_lt k 4) (is_kind k (kind_of_condition d)) (has_kind here k) e f

    both_filters : (o : Option PrefixParts) → passes (λ p. is_prefix p (filter_of_condition d)) o ≡ false → passes (λ p. list_any (λ f. is_prefix p (filter_of f)) here) o ≡ false
        → passes (λ p. is_prefix p (filter_of_condition d) || list_any (λ f. is_prefix p (filter_of f)) here) o ≡ false
    both_filters None e f = refl
    both_filters (Some p) e f = ap (λ (b : Bool). b || list_any (λ g. is_prefix p (filter_of g)) here) e ∙ f

all_new_with : (here : List JunosForm) (d : Condition) (cs : List Condition) → AllByRecursion (λ c. clash d c ≡ false) cs → AllByRecursion (IsNew here) cs → AllByRecursion (IsNew (condition_form false d ∷ here)) cs
all_new_with here d [] h k = tt
all_new_with here d (c ∷ cs) h k = (new_with here d c h.0 k.0, all_new_with here d cs h.1 k.1)

-- the conditions of a `from` as forms
abbrev asked : List Condition → List JunosForm
asked cs = map (condition_form false) cs

abbrev done : List Action → List JunosForm
done xs = map (action_form false) xs

-- what stands behind conditions
record Behind (policy : List ℕ) (next : ℕ) (here before : List JunosForm) : Type 0 where
  within : Within policy next here before
  plain : IsPlain here

past_conditions : (policy : List ℕ) (next : ℕ) (cs : List Condition) (here before : List JunosForm) → AllByRecursion HasOneWay cs → Behind policy next here before
    → Behind policy next (past (asked cs) here) (past (asked cs) before)
unfolding past
past_conditions policy next [] here before one h = h
past_conditions policy next (c ∷ cs) here before one h =
    past_conditions policy next cs (condition_form false c ∷ here) (condition_form false c ∷ before) one.1
    (record { within = past_condition policy next here before h.within c; plain = plain_condition here c one.0 h.plain })

conditions_clean : (facts : Facts) → Calm facts → (policy : List ℕ) (next : ℕ) (cs : List Condition) (here before : List JunosForm)
    → Behind policy next here before
    → AllByRecursion (λ c. AreDefined facts (named_by_condition c)) cs
    → AllByRecursion HasOneWay cs
    → IsDistinct clash cs
    → AllByRecursion (IsNew here) cs
    → Clean facts before (asked cs)
unfolding Clean IsDistinct
conditions_clean facts calm policy next [] here before h known one apart new = tt
conditions_clean facts calm policy next (c ∷ cs) here before h known one apart new = (
  sound_condition facts calm policy next here before h.within c known.0 (record { kinds = new.0.kinds; ways = ways_of here c one.0 h.plain; filters = new.0.filters }),
  conditions_clean facts calm policy next cs (condition_form false c ∷ here) (condition_form false c ∷ before)
      (record { within = past_condition policy next here before h.within c; plain = plain_condition here c one.0 h.plain })
      known.1 one.1 apart.1 (all_new_with here c cs apart.0 new.1),
)

-- ---- actions of a term

-- an action that is no flow: what it names is defined and, where it is set or added, single; and it stands in no subroutine
pub record IsQuiet (facts : Facts) (policy : List ℕ) (a : Action) : Type 0 where
  pub known : AreDefined facts (named_by_action a)
  pub flows : kind_of_action a ≡ None
  pub plain : passes (λ q. facts.not_plain q) (set_or_added a) ≡ false
  pub uncalled : (changes_route a && facts.called policy) ≡ false
  pub stays : leaves a ≡ false

plain_action : (here : List JunosForm) (a : Action) → kind_of_action a ≡ None → IsPlain here → IsPlain (action_form false a ∷ here)
plain_action here a none h = record {
  lists = ap (λ (o : Option ℕ). is_kind 5 o || has_kind here 5) none ∙ h.lists;
  exact_lists = ap (λ (o : Option ℕ). is_kind 6 o || has_kind here 6) none ∙ h.exact_lists;
  longer_lists = ap (λ (o : Option ℕ). is_kind 7 o || has_kind here 7) none ∙ h.longer_lists;
  flows = ap (λ (o : Option ℕ). is_kind 3 o || has_kind here 3) none ∙ h.flows;
}

module _ (facts : Facts) (calm : Calm facts) (policy : List ℕ) (next : ℕ) where
  sound_quiet : (here before : List JunosForm) (a : Action) → Within policy next here before → IsQuiet facts policy a → Sound facts before (action_form false a)
  sound_quiet here before a h q =
      sound_action facts calm policy next here before h a q.known
      (ap (λ (o : Option ℕ). passes (λ k. nat_lt k 4 && list_any (λ f. is_kind k (kind_of f)) here) o) q.flows)
      (ap (λ (o : Option ℕ). passes (λ k. nat_le 4 k) o) q.flows) q.plain q.uncalled q.stays

  sound_ending : (here before : List JunosForm) (accept : Bool) → Behind policy next here before → Sound facts before (action_form false (ending accept))
  sound_ending here before true h = sound_action facts calm policy next here before h.within (ending true) refl h.plain.flows refl refl refl refl
  sound_ending here before false h = sound_action facts calm policy next here before h.within (ending false) refl h.plain.flows refl refl refl refl

  actions_clean : (xs : List Action) (accept : Bool) (here before : List JunosForm) → Behind policy next here before → AllByRecursion (IsQuiet facts policy) xs
      → Clean facts before (done (xs ++ (ending accept ∷ [])))
  unfolding Clean
  actions_clean [] accept here before h quiet = (sound_ending here before accept h, tt)
  actions_clean (x ∷ xs) accept here before h quiet = (
    sound_quiet here before x h.within quiet.0,
    actions_clean xs accept (action_form false x ∷ here) (action_form false x ∷ before)
        (record { within = past_action policy next here before h.within x; plain = plain_action here x quiet.0.flows h.plain }) quiet.1,
  )

  past_actions : (xs : List Action) (here before : List JunosForm) → Within policy next here before → Within policy next (past (done xs) here) (past (done xs) before)
  unfolding past
  past_actions [] here before h = h
  past_actions (x ∷ xs) here before h = past_actions xs (action_form false x ∷ here) (action_form false x ∷ before) (past_action policy next here before h x)

has_ended : (xs : List Action) (accept : Bool) (here : List JunosForm) → list_any (acts ends) (past (done (xs ++ (ending accept ∷ []))) here) ≡ true
unfolding past
has_ended [] true here = refl
has_ended [] false here = refl
has_ended (x ∷ xs) accept here = has_ended xs accept (action_form false x ∷ here)

-- ---- terms

-- a term: what it asks for is defined, and of kinds and prefixes that may stand together; its actions are quiet, and it
-- accepts or rejects behind them
pub record SoundTerm (facts : Facts) (policy : List ℕ) (t : Content) : Type 0 where
  pub known : AllByRecursion (λ c. AreDefined facts (named_by_condition c)) t.conditions
  pub one_way : AllByRecursion HasOneWay t.conditions
  pub apart : IsDistinct clash t.conditions
  pub changes : List Action
  pub accept : Bool
  pub are : t.actions ≡ changes ++ (ending accept ∷ [])
  pub quiet : AllByRecursion (IsQuiet facts policy) changes

-- the term of a content, under a number
abbrev pub term_at : ℕ → Content → PolicyTerm
term_at n t = record { name = term_name n; conditions = t.conditions; actions = t.actions }

module _ (facts : Facts) (calm : Calm facts) (policy : List ℕ) where
  term_clean : (n : ℕ) (t : Content) (before : List JunosForm) → n < 2 ^ 64 → Between policy n before → SoundTerm facts policy t → Clean facts before (term_forms (term_at n t))
  unfolding Clean
  term_clean n t before small h s =
      let start : Behind policy (n + 1) [] (TermHeader (term_name n) ∷ before) = record { within = begins_term policy n before small h; plain = plain_none } in
      let middle = past_conditions policy (n + 1) t.conditions [] (TermHeader (term_name n) ∷ before) s.one_way start in (
        sound_term facts before (term_name n) (h.free n (omega arith) (omega (arith, small))),
        clean_join facts (TermHeader (term_name n) ∷ before) (asked t.conditions) (done t.actions)
            (conditions_clean facts calm policy (n + 1) t.conditions [] (TermHeader (term_name n) ∷ before) start s.known s.one_way s.apart (all_new t.conditions))
            (subst (λ (xs : List Action). Clean facts (past (asked t.conditions) (TermHeader (term_name n) ∷ before)) (done xs)) (sym s.are)
            (actions_clean facts calm policy (n + 1) s.changes s.accept (past (asked t.conditions) []) (past (asked t.conditions) (TermHeader (term_name n) ∷ before)) middle s.quiet)),
      )

  term_passed : (n : ℕ) (t : Content) (before : List JunosForm) → n < 2 ^ 64 → Between policy n before → SoundTerm facts policy t → Between policy (n + 1) (past (term_forms (term_at n t)) before)
  unfolding past
  term_passed n t before small h s =
      let start : Behind policy (n + 1) [] (TermHeader (term_name n) ∷ before) = record { within = begins_term policy n before small h; plain = plain_none } in
      let middle = past_conditions policy (n + 1) t.conditions [] (TermHeader (term_name n) ∷ before) s.one_way start in
      let here = past (asked t.conditions) [] in
      let there = past (asked t.conditions) (TermHeader (term_name n) ∷ before) in
      let acted = s.changes ++ (ending s.accept ∷ []) in
      subst (λ (fs : List JunosForm). Between policy (n + 1) fs) (sym (past_join (asked t.conditions) (done t.actions) (TermHeader (term_name n) ∷ before)))
      (subst (λ (xs : List Action). Between policy (n + 1) (past (done xs) there)) (sym s.are)
      (ends_term policy (n + 1) (past (done acted) here) (past (done acted) there) (past_actions facts calm policy (n + 1) acted here there middle.within) (has_ended s.changes s.accept here)))

  pub terms_clean : (n : ℕ) (ts : List Content) (before : List JunosForm) → n + length ts < 2 ^ 64 → Between policy n before → AllByRecursion (SoundTerm facts policy) ts
      → Clean facts before (flat_map term_forms (numbered n ts))
  unfolding Clean numbered
  terms_clean n [] before few h s = tt
  terms_clean n (t ∷ ts) before few h s =
      clean_join facts before (term_forms (term_at n t)) (flat_map term_forms (numbered (n + 1) ts))
      (term_clean n t before (omega (arith, few)) h s.0)
      (terms_clean (n + 1) ts (past (term_forms (term_at n t)) before) (omega (arith, few)) (term_passed n t before (omega (arith, few)) h s.0) s.1)
