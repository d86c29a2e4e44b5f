-- One more entry before the nodes of those behind it, in both rows.
use Rattle.std.proofs.Common.{◌≡◌, refl, sym, ap, subst, ◌∙◌, ℕ, ◌<◌, ◌≤◌, Bool, true, false, nat_le, List, [], ◌∷◌, ◌++◌, append_assoc, length, Option, Some, None, inl, inr}
use Rattle.std.specs.Prelude.{Vec, unwrap_or}
use Rattle.std.specs.List.{list_all, AllByRecursion}
use Rattle.std.specs.declared.alloc.Global.{Global}
use Rattle.std.proofs.lemmas.Bool.{and_parts, true≢false}
use Rattle.std.proofs.lemmas.List.{append-nil}
use Rattle.route_types.specs.Route.{RouteParts}
use Rattle.route_types.specs.declared.change.Change.{Change}
use Rattle.route_types.specs.declared.route.Outcome.{Outcome}
use Rattle.route_types.specs.declared.route.Outcome.TheVariants.{Reject}
use Rattle.path_patterns.specs.Items.{IsPath, SomeOf}
use Rattle.path_patterns.proofs.Lists.{all_append}
use Rattle.core_nodes.specs.Atoms.{atom_holds}
use Rattle.core_nodes.specs.Made.{Keeps, IsMade}
use Rattle.core_nodes.specs.Nodes.{AreNodes}
use Rattle.core_nodes.specs.Outcome.{outcome_at}
use Rattle.core_nodes.specs.declared.atom.Atom.{Atom}
use Rattle.core_nodes.specs.declared.node.NodeKind.{NodeKind}
use Rattle.core_nodes.specs.declared.node.NodeKind.TheVariants.{Test, Do, Stop}
use Rattle.policy_core.specs.Apart.{Touched, untouched, apart_at}
use Rattle.policy_core.proofs.ApartLaws.{apart_grown, stop_apart}
use Rattle.ios_tree.specs.declared.item.IosItem.{IosItem}
use Rattle.ios_reader.specs.Entries.{Entry, entries_of}
use Rattle.ios_reader.specs.Profile.{all_forms, InProfile}
use Rattle.ios_reader.proofs.LeastFault.{none_is}
use Rattle.ios_meaning.specs.Order.{in_order}
use Rattle.ios_meaning.specs.Meaning.{line_holds, entry_holds, set_by_entry, continuation_of}
use Rattle.ios_readings.specs.AtOnce.{run_at_once, from_number}
use Rattle.ios_readings.proofs.Agree.{ordered_ascends}
use Rattle.ios_readings.proofs.AtOnce.{means_at_once}
use Rattle.ios_lower.specs.Atoms.{atom_of, atoms_of}
use Rattle.ios_lower.specs.Changes.{IsChangeOf}
use Rattle.ios_lower.specs.ChangeSteps.{IsTestable, IsOfLines, AreOfEntry}
use Rattle.ios_lower.specs.Chains.{IsTestOf, IsActOf, are_apart, Tests, Acts}
use Rattle.ios_lower.specs.Grows.{Grows}
use Rattle.ios_lower.specs.OfPolicy.{IsOfEntries, IsOfPolicy}
use Rattle.ios_lower.proofs.ChainLaws.{keeps_none, keeps_both}
use Rattle.ios_lower.proofs.Grows.{all_wider, grows_none, grows_one, grows_both, grows_wider, all_grown}
use Rattle.ios_lower.proofs.Lowered.{one_of_all, test_says, act_says, order_says, testable}
use Rattle.ios_lower.proofs.Runs.{lines_continue}
use Rattle.ios_lower.proofs.Said.{policy_said}
use Rattle.ios_graph.specs.Apart.{entry_apart, entries_apart, EachStaysApart, AreRowsApart}
use Rattle.ios_graph.specs.Rows.{node_from, node_behind, Falls, HasMore}
use Rattle.ios_graph.specs.Runs.{given_behind, given_by, AreRising}
use Rattle.ios_graph.specs.Lowered.{AreWithin, AreRows, IsBody, IsTested, AreLowered, IsPolicyNode}
use Rattle.ios_graph.specs.declared.rows.Rows.{Rows}
use Rattle.ios_graph.specs.declared.rows.Target.{Target}
use Rattle.ios_graph.proofs.Apart.{entries_untouched, policy_stays}
use Rattle.ios_graph.proofs.Halving.{node_pushed, falls_pushed}
use Rattle.ios_graph.proofs.Runs.{rising_of, rising_behind, at_least, entry_runs, from_first}

-- where an entry goes on is in the graph
pub behind_within : (nodes : List NodeKind) (rows : Rows) (next : Option (Option ℕ)) → AreWithin nodes rows → node_behind rows next < length nodes
behind_within nodes rows None w = w.accepted
behind_within nodes rows (Some target) w = w.some_held (unwrap_or target 0)

-- ---- what an entry gives

-- one outcome or the other
abbrev chosen : Bool → Outcome → Outcome → Outcome
chosen b one other = elim b [ true ↦ one | false ↦ other ]

-- p: the entry permits
if_permits : (one other : Outcome) (p : Bool) → p ≡ true → chosen p one other ≡ one
if_permits one other p h = ap (λ (b : Bool). chosen b one other) h

if_denies : (one other : Outcome) (p : Bool) → p ≡ false → chosen p one other ≡ other
if_denies one other p h = ap (λ (b : Bool). chosen b one other) h

-- an entry that denies rejects
pub body_denies : (all : List IosItem) (e : Entry) (rows : Rows) (nodes : List NodeKind) → AreWithin nodes rows → e.permit ≡ false → IsBody all e rows nodes nodes rows.rejected
body_denies all e rows nodes w d =
    record {
      within = w.rejected;
      grows = grows_none (IsOfEntries all (e ∷ [])) nodes;
      keeps = keeps_none nodes;
      answers = λ r h. sym (if_denies (outcome_at nodes (node_behind rows (continuation_of e.lines)) (set_by_entry all e r)) (outcome_at nodes rows.rejected r) e.permit d);
      stays = λ r h p. absurd (true≢false (sym p ∙ d));
      apart = λ test kept onwards ends t passes. ends t;
    }

-- an entry that permits makes its changes and goes on
pub body_permits : (all : List IosItem) (e : Entry) (rows : Rows) (old new : List NodeKind) (cs : List Change) (behind n : ℕ) → e.permit ≡ true → behind ≡ node_behind rows (continuation_of e.lines) → AreOfEntry all e.lines cs → Acts old new cs [] behind n
    → IsBody all e rows old new n
body_permits all e rows old new cs behind n p same o t =
    record {
      within = t.within;
      grows = grows_wider (IsActOf cs) (IsOfEntries all (e ∷ [])) old new (act_says all e cs o.own) t.grows;
      keeps = t.keeps;
      answers = λ r h. t.answers r ∙ ap (λ (q : RouteParts). outcome_at old behind q) (o.acts r h) ∙ ap (λ (m : ℕ). outcome_at old m (set_by_entry all e r)) same
          ∙ sym (if_permits (outcome_at old (node_behind rows (continuation_of e.lines)) (set_by_entry all e r)) (outcome_at old rows.rejected r) e.permit p);
      stays = λ r h k. subst IsTestable (o.acts r h) (o.keeps r h);
      apart = λ test kept onwards ends.
          t.apart test (λ c own. kept c (one_of_all (IsOfLines all e.lines) c cs o.own own)) (λ u passes. ap (λ (m : ℕ). apart_at old m u) same ∙ onwards u passes);
    }

-- the tests of an entry
pub entry_tested : (all : List IosItem) (e : Entry) (old new : List NodeKind) (atoms : List Atom) (body other n : ℕ) → atoms ≡ atoms_of all e.lines
    → ((r : RouteParts) → IsPath r.path → list_all (λ a. atom_holds a r) atoms ≡ list_all (line_holds all r) e.lines) → Tests old new atoms [] body other n → IsTested all e old new body other n
entry_tested all e old new atoms body other n same holds t =
    record {
      within = t.within;
      grows = grows_wider (IsTestOf atoms) (IsOfEntries all (e ∷ [])) old new (λ k h. test_says all e k (subst (λ (bs : List Atom). IsTestOf bs k) same h)) t.grows;
      keeps = t.keeps;
      answers = λ r h. t.answers r ∙ ap (λ (x : Bool). elim x [ true ↦ outcome_at old body r | false ↦ outcome_at old other r ]) (holds r h.path);
      apart = λ u h. t.apart u (ap (λ (bs : List Atom). are_apart bs u) same ∙ h);
    }

-- ---- one more entry

some_among : {A : Type 0} (P : A → Type 0) (left : List A) (x : A) (more : List A) → SomeOf P (x ∷ []) → SomeOf P (left ++ x ∷ more)
some_among P [] x more (inl h) = inl h
some_among P [] x more (inr h) = absurd h
some_among P (y ∷ left) x more h = inr (some_among P left x more h)

-- what one of the entries says, all say
among_says : (all : List IosItem) (left : List Entry) (e : Entry) (more : List Entry) (k : NodeKind) → IsOfEntries all (e ∷ []) k → IsOfEntries all (left ++ e ∷ more) k
among_says all left e more (Test a then other) h = some_among (λ x. SomeOf (λ l. atom_of all l ≡ Some a) x.lines) left e more h
among_says all left e more (Do c next) h = some_among (λ x. SomeOf (λ l. IsChangeOf all l c) x.lines) left e more h
among_says all left e more (Stop accept) h = tt

-- the graph and its rows before and after an entry is put in
module _ (all : List IosItem) (e : Entry) (es : List Entry) (before after : Rows) (c0 c1 c2 c3 : List NodeKind) (body none some : ℕ)
    (rising : AreRising (e ∷ es)) (rows : AreRows all es c0 before) (b : IsBody all e before c0 c1 body)
    (t : IsTested all e c1 c2 body before.none_held none) (u : IsTested all e c2 c3 body (node_from 0 before.accepted before.some_held.items) some)
    (more : HasMore before e.number none some after) where
  keeps_all : Keeps c0 c3
  keeps_all = keeps_both c0 c2 c3 (keeps_both c0 c1 c2 b.keeps t.keeps) u.keeps

  -- the body gives what the entry gives
  body_gives : (r : RouteParts) → IsTestable r → outcome_at c1 body r ≡ given_by all e es r
  body_gives r h = b.answers r h ∙ by e.permit refl
    where
      onwards : (next : Option (Option ℕ)) (q : RouteParts) → IsTestable q → outcome_at c0 (node_behind before next) q ≡ given_behind all es next q
      onwards None q k = rows.accepted q k
      onwards (Some target) q k = rows.some_held (unwrap_or target 0) q k

      by : (p : Bool) → e.permit ≡ p → chosen p (outcome_at c0 (node_behind before (continuation_of e.lines)) (set_by_entry all e r)) (outcome_at c0 before.rejected r)
          ≡ chosen p (given_behind all es (continuation_of e.lines) (set_by_entry all e r)) Reject
      by true p = onwards (continuation_of e.lines) (set_by_entry all e r) (b.stays r h p)
      by false p = rows.rejected r h

  -- the node where no entry held before
  none_gives : (r : RouteParts) → IsTestable r → outcome_at c3 after.none_held r ≡ run_at_once all false 0 (e ∷ es) r
  none_gives r h =
      ap (λ (m : ℕ). outcome_at c3 m r) more.none_held ∙ u.keeps.answers none t.within r ∙ t.answers r h
      ∙ ap (λ (o : Outcome). elim (entry_holds all r e) [ true ↦ o | false ↦ outcome_at c1 before.none_held r ]) (body_gives r h)
      ∙ ap (λ (o : Outcome). elim (entry_holds all r e) [ true ↦ given_by all e es r | false ↦ o ]) (b.keeps.answers before.none_held rows.within.none_held r ∙ rows.none_held r h)
      ∙ sym (entry_runs all false e es r rising.1)

  -- the node where some entry held before
  some_gives : (r : RouteParts) → IsTestable r → outcome_at c3 some r ≡ run_at_once all true 0 (e ∷ es) r
  some_gives r h =
      let next : ℕ = node_from 0 before.accepted before.some_held.items in
      let within : next < length c0 = rows.within.some_held 0 in
      u.answers r h
      ∙ ap (λ (o : Outcome). elim (entry_holds all r e) [ true ↦ o | false ↦ outcome_at c2 next r ]) (t.keeps.answers body b.within r ∙ body_gives r h)
      ∙ ap (λ (o : Outcome). elim (entry_holds all r e) [ true ↦ given_by all e es r | false ↦ o ])
      (t.keeps.answers next (b.keeps.longer next within) r ∙ b.keeps.answers next within r ∙ rows.some_held 0 r h ∙ ap (λ (xs : List Entry). run_at_once all true 0 xs r) (from_first es))
      ∙ sym (entry_runs all true e es r rising.1)

  -- the node from a number on
  pushed : (n : ℕ) → node_from n after.accepted after.some_held.items ≡ elim (nat_le n e.number) [ true ↦ some | false ↦ node_from n before.accepted before.some_held.items ]
  pushed n =
      ap (λ (m : ℕ). node_from n m after.some_held.items) more.accepted ∙ ap (λ (ts : List Target). node_from n before.accepted ts) more.some_held
      ∙ node_pushed n before.accepted before.some_held.items (record { number = e.number; node = some })

  within_by : (n : ℕ) (x : Bool) → elim x [ true ↦ some | false ↦ node_from n before.accepted before.some_held.items ] < length c3
  within_by n true = u.within
  within_by n false = keeps_all.longer (node_from n before.accepted before.some_held.items) (rows.within.some_held n)

  gives_by : (n : ℕ) (r : RouteParts) → IsTestable r → (x : Bool) → outcome_at c3 (elim x [ true ↦ some | false ↦ node_from n before.accepted before.some_held.items ]) r ≡ run_at_once all true 0 (elim x [ true ↦ e ∷ es | false ↦ from_number n es ]) r
  gives_by n r h true = some_gives r h
  gives_by n r h false = keeps_all.answers (node_from n before.accepted before.some_held.items) (rows.within.some_held n) r ∙ rows.some_held n r h

  above_all : (n : ℕ) → AllByRecursion (λ f. n ≤ f.number) (e ∷ es) → AllByRecursion (λ x. n ≤ x.number) after.some_held.items
  above_all n h =
      subst (λ (ts : List Target). AllByRecursion (λ x. n ≤ x.number) ts) (sym more.some_held)
      (all_append (λ (x : Target). n ≤ x.number) before.some_held.items (record { number = e.number; node = some } ∷ []) (rows.above n h.1) (h.0, tt))

  rows_within : AreWithin c3 after
  rows_within =
      record {
        accepted = subst (λ (m : ℕ). m < length c3) (sym more.accepted) (keeps_all.longer before.accepted rows.within.accepted);
        rejected = subst (λ (m : ℕ). m < length c3) (sym more.rejected) (keeps_all.longer before.rejected rows.within.rejected);
        none_held = subst (λ (m : ℕ). m < length c3) (sym more.none_held) (u.keeps.longer none t.within);
        some_held = λ n. subst (λ (m : ℕ). m < length c3) (sym (pushed n)) (within_by n (nat_le n e.number));
        falls = subst Falls (sym more.some_held) (falls_pushed before.some_held.items (record { number = e.number; node = some }) rows.within.falls (rows.above e.number (at_least e.number es rising.0)));
      }

  -- what the body asks for
  body_apart : EachStaysApart all (e ∷ es) → (t : Touched) → entries_apart all es t ≡ true → apart_at c1 body t ≡ true
  body_apart each u h = by (continuation_of e.lines) refl
    where
      by : (next : Option (Option ℕ)) → continuation_of e.lines ≡ next → apart_at c1 body u ≡ true
      by None goes =
          b.apart (λ t. true) (λ c own t passes. refl) (λ t passes. ap (λ (o : Option (Option ℕ)). apart_at c0 (node_behind before o) t) goes ∙ rows.apart.accepted t) rows.apart.rejected u refl
      by (Some target) goes =
          b.apart (entries_apart all es) (each.0 (lines_continue e.lines target goes))
          (λ t passes. ap (λ (o : Option (Option ℕ)). apart_at c0 (node_behind before o) t) goes ∙ rows.apart.some_held each.1 (unwrap_or target 0) t passes)
          rows.apart.rejected u h

  none_apart : EachStaysApart all (e ∷ es) → (t : Touched) → entries_apart all (e ∷ es) t ≡ true → apart_at c3 after.none_held t ≡ true
  none_apart each v h =
      let parts = and_parts (entry_apart all v e) (entries_apart all es v) h in
      ap (λ (m : ℕ). apart_at c3 m v) more.none_held ∙ apart_grown c2 c3 none v u.keeps t.within
      ∙ t.apart v parts.0 (body_apart each v parts.1) (apart_grown c0 c1 before.none_held v b.keeps rows.within.none_held ∙ rows.apart.none_held each.1 v parts.1)

  some_apart : EachStaysApart all (e ∷ es) → (t : Touched) → entries_apart all (e ∷ es) t ≡ true → apart_at c3 some t ≡ true
  some_apart each v h =
      let parts = and_parts (entry_apart all v e) (entries_apart all es v) h in
      u.apart v parts.0 (apart_grown c1 c2 body v t.keeps b.within ∙ body_apart each v parts.1)
      (apart_grown c0 c2 (node_from 0 before.accepted before.some_held.items) v (keeps_both c0 c1 c2 b.keeps t.keeps) (rows.within.some_held 0) ∙ rows.apart.some_held each.1 0 v parts.1)

  -- x: the entry has the number or a greater one
  apart_by : (n : ℕ) (x : Bool) → EachStaysApart all (e ∷ es) → (t : Touched) → entries_apart all (e ∷ es) t ≡ true → apart_at c3 (elim x [ true ↦ some | false ↦ node_from n before.accepted before.some_held.items ]) t ≡ true
  apart_by n true each v h = some_apart each v h
  apart_by n false each v h =
      apart_grown c0 c3 (node_from n before.accepted before.some_held.items) v keeps_all (rows.within.some_held n) ∙ rows.apart.some_held each.1 n v (and_parts (entry_apart all v e) (entries_apart all es v) h).1

  rows_apart : AreRowsApart all (e ∷ es) c3 after
  rows_apart =
      record {
        accepted = λ v. ap (λ (m : ℕ). apart_at c3 m v) more.accepted ∙ apart_grown c0 c3 before.accepted v keeps_all rows.within.accepted ∙ rows.apart.accepted v;
        rejected = λ v. ap (λ (m : ℕ). apart_at c3 m v) more.rejected ∙ apart_grown c0 c3 before.rejected v keeps_all rows.within.rejected ∙ rows.apart.rejected v;
        none_held = none_apart;
        some_held = λ each n v h. ap (λ (m : ℕ). apart_at c3 m v) (pushed n) ∙ apart_by n (nat_le n e.number) each v h;
      }

  rows_more : AreRows all (e ∷ es) c3 after
  rows_more =
      record {
        within = rows_within;
        accepted = λ r h. ap (λ (m : ℕ). outcome_at c3 m r) more.accepted ∙ keeps_all.answers before.accepted rows.within.accepted r ∙ rows.accepted r h;
        rejected = λ r h. ap (λ (m : ℕ). outcome_at c3 m r) more.rejected ∙ keeps_all.answers before.rejected rows.within.rejected r ∙ rows.rejected r h;
        none_held = none_gives;
        some_held = λ n r h. ap (λ (m : ℕ). outcome_at c3 m r) (pushed n) ∙ gives_by n r h (nat_le n e.number);
        above = above_all;
        apart = rows_apart;
      }

  grown : Grows (IsOfEntries all (e ∷ [])) c0 c3
  grown = grows_both (IsOfEntries all (e ∷ [])) c0 c2 c3 (grows_both (IsOfEntries all (e ∷ [])) c0 c1 c2 b.grows t.grows) u.grows

-- the last entry that is left comes before the others
pub lowered_more : (all : List IosItem) (whole left : List Entry) (e : Entry) (before after : Rows) (c0 c1 c2 c3 : List NodeKind) (body none some : ℕ) → AreRising whole → AreLowered all whole (left ++ e ∷ []) c0 before
    → IsBody all e before c0 c1 body → IsTested all e c1 c2 body before.none_held none → IsTested all e c2 c3 body (node_from 0 before.accepted before.some_held.items) some → HasMore before e.number none some after
    → AreLowered all whole left c3 after
lowered_more all whole left e before after c0 c1 c2 c3 body none some rising l b t u more =
    let parts : whole ≡ left ++ e ∷ l.behind = l.parts ∙ append_assoc left (e ∷ []) l.behind in
    let own : AreRising (e ∷ l.behind) = rising_behind left (e ∷ l.behind) (subst AreRising parts rising) in
    record {
      behind = e ∷ l.behind;
      parts = parts;
      says = all_grown (IsOfEntries all whole) c0 c3
          (grows_wider (IsOfEntries all (e ∷ [])) (IsOfEntries all whole) c0 c3 (λ k h. subst (λ (xs : List Entry). IsOfEntries all xs k) (sym parts) (among_says all left e l.behind k h))
          (grown all e l.behind before after c0 c1 c2 c3 body none some own l.right b t u more))
          l.says;
      right = rows_more all e l.behind before after c0 c1 c2 c3 body none some own l.right b t u more;
    }

-- past the last entry the run ends
pub lowered_none : (all : List IosItem) (es : List Entry) (old now new : List NodeKind) (rejected accepted : ℕ) (held : Vec Target Global) → old ≡ [] → held.items ≡ [] → IsMade old now (Stop false) rejected → IsMade now new (Stop true) accepted → Keeps now new
    → AreLowered all es es new (record { accepted = accepted; rejected = rejected; none_held = rejected; some_held = held })
unfolding run_at_once
lowered_none all es old now new rejected accepted held e none m n k =
    let rejects : (r : RouteParts) → outcome_at new rejected r ≡ Reject = λ r. k.answers rejected m.at.within r ∙ m.answers r in
    let node : (i : ℕ) → node_from i accepted held.items ≡ accepted = λ i. ap (λ (ts : List Target). node_from i accepted ts) none in
    let accepts_apart : (t : Touched) → apart_at new accepted t ≡ true = λ t. stop_apart new accepted true t (record { facts = n.facts; there = n.at.there }) in
    let rejects_apart : (t : Touched) → apart_at new rejected t ≡ true =
    λ t. apart_grown now new rejected t k m.at.within ∙ stop_apart now rejected false t (record { facts = m.facts; there = m.at.there }) in
    record {
      behind = [];
      parts = sym (append-nil es);
      says = all_grown (IsOfEntries all es) old new
          (grows_one (IsOfEntries all es) old now new (Stop true) tt (grows_one (IsOfEntries all es) old old now (Stop false) tt (grows_none (IsOfEntries all es) old) m.grown) n.grown)
          (subst (λ (xs : List NodeKind). AllByRecursion (IsOfEntries all es) xs) (sym e) tt);
      right = record {
        within = record {
          accepted = n.at.within;
          rejected = k.longer rejected m.at.within;
          none_held = k.longer rejected m.at.within;
          some_held = λ i. subst (λ (p : ℕ). p < length new) (sym (node i)) n.at.within;
          falls = subst Falls (sym none) tt;
        };
        accepted = λ r h. n.answers r;
        rejected = λ r h. rejects r;
        none_held = λ r h. rejects r;
        some_held = λ i r h. ap (λ (p : ℕ). outcome_at new p r) (node i) ∙ n.answers r;
        above = λ i h. subst (λ (ts : List Target). AllByRecursion (λ t. i ≤ t.number) ts) (sym none) tt;
        apart = record {
          accepted = accepts_apart;
          rejected = rejects_apart;
          none_held = λ each t h. rejects_apart t;
          some_held = λ each i t h. ap (λ (p : ℕ). apart_at new p t) (node i) ∙ accepts_apart t;
        };
      };
    }

-- ---- the policy

-- the entries of a policy in profile rise
pub policy_rises : (all : List IosItem) (name : List ℕ) (es : List Entry) → InProfile name all → es ≡ in_order (λ e. e.number) (entries_of name all) → AreRising es
policy_rises all name es p e = subst AreRising (sym e) (rising_of (in_order (λ x. x.number) (entries_of name all)) (ordered_ascends name all (none_is all_forms name all p.sound)))

-- the node of a policy
pub policy_node : (all : List IosItem) (name : List ℕ) (es : List Entry) (nodes : List NodeKind) (rows : Rows) → InProfile name all → es ≡ in_order (λ e. e.number) (entries_of name all) → AreLowered all es [] nodes rows → AreNodes nodes
    → IsPolicyNode all name nodes rows.none_held
policy_node all name es nodes rows p e t are =
    let behind : es ≡ t.behind = t.parts in
    let own : AllByRecursion (IsOfPolicy all name) nodes =
    all_wider (IsOfEntries all es) (IsOfPolicy all name) nodes (λ k h. order_says all (λ (x : Entry). x.number) (entries_of name all) k (subst (λ (xs : List Entry). IsOfEntries all xs k) e h)) t.says in
    record {
      of_core = t.right.within.none_held;
      apart = t.right.apart.none_held (policy_stays all name t.behind p (sym behind ∙ e)) untouched (entries_untouched all t.behind);
      says = own;
      said = policy_said all name nodes rows.none_held are t.right.within.none_held own;
      meaning = λ r h. t.right.none_held r (testable r h) ∙ ap (λ (xs : List Entry). run_at_once all false 0 xs r) (sym t.parts ∙ e) ∙ means_at_once all name p r;
    }
