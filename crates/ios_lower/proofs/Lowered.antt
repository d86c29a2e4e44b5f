-- One more entry before the nodes of those behind it.
use Rattle.std.proofs.Common.{◌≡◌, refl, sym, ap, subst, ◌∙◌, ℕ, ◌<◌, Bool, true, false, List, [], ◌∷◌, ◌++◌, length, Option, Some, None, inl, inr}
use Rattle.std.specs.Prelude.{nat_le}
use Rattle.std.specs.List.{list_all, AllByRecursion}
use Rattle.route_types.specs.Change.{changed_by}
use Rattle.route_types.specs.Route.{RouteParts, InRange}
use Rattle.route_types.specs.declared.change.Change.{Change}
use Rattle.route_types.specs.declared.route.Outcome.{Outcome}
use Rattle.route_types.specs.declared.route.Outcome.TheVariants.{Reject, Accept}
use Rattle.path_patterns.specs.Items.{IsPath, SomeOf}
use Rattle.core_nodes.specs.Atoms.{atom_holds}
use Rattle.core_nodes.specs.Made.{Keeps, IsMade}
use Rattle.core_nodes.specs.Nodes.{AreNodes}
use Rattle.core_nodes.specs.Outcome.{ended, outcome_at}
use Rattle.core_nodes.specs.declared.atom.Atom.{Atom}
use Rattle.core_nodes.specs.declared.node.NodeKind.{NodeKind}
use Rattle.core_nodes.specs.declared.node.NodeKind.TheVariants.{Test, Do, Stop}
use Rattle.policy_core.proofs.SettledLaws.{settled_grown, stop_settled, untested_stop}
use Rattle.ios_tree.specs.declared.item.IosItem.{IosItem}
use Rattle.ios_tree.specs.declared.item.MapLine.{MapLine}
use Rattle.ios_reader.specs.Entries.{Entry, entries_of}
use Rattle.ios_meaning.specs.Order.{put_in_order, in_order}
use Rattle.ios_meaning.specs.Meaning.{line_holds, entry_holds, set_by_entry, ios_meaning}
use Rattle.ios_lower.specs.Atoms.{atom_of, in_front, atoms_of}
use Rattle.ios_lower.specs.Changes.{IsChangeOf}
use Rattle.ios_lower.specs.ChangeSteps.{IsTestable, IsOfLines, AreOfEntry}
use Rattle.ios_lower.specs.Chains.{IsTestOf, IsActOf, Tests, Acts}
use Rattle.ios_lower.specs.Continues.{has_continue}
use Rattle.ios_lower.specs.Lowered.{IsBody, IsEntry, AreLowered, IsPolicyNode}
use Rattle.ios_lower.specs.OfPolicy.{IsOfEntries, IsOfPolicy}
use Rattle.ios_lower.specs.Runs.{given_by, entries_or}
use Rattle.ios_lower.proofs.ChainLaws.{keeps_both, last_in, front_in}
use Rattle.ios_lower.proofs.Grows.{all_wider, grows_one, grows_none, grows_both, grows_wider, all_grown}
use Rattle.ios_lower.proofs.Runs.{first_decides, last_of}
use Rattle.ios_lower.proofs.Said.{policy_said}

-- ---- what nodes say

-- one of a list that is one of the elements of a list of which P holds has P
pub one_of_all : {A : Type 0} (P : A → Type 0) (x : A) (xs : List A) → AllByRecursion P xs → SomeOf (λ y. x ≡ y) xs → P x
one_of_all P x [] h k = absurd k
one_of_all P x (y ∷ ys) h (inl e) = subst P (sym e) h.0
one_of_all P x (y ∷ ys) h (inr k) = one_of_all P x ys h.1 k

tested_by : (all : List IosItem) (a : Atom) (l : MapLine) (o : Option Atom) (bs : List Atom) (ls : List MapLine) → atom_of all l ≡ o → (SomeOf (λ b. a ≡ b) bs → SomeOf (λ m. atom_of all m ≡ Some a) ls) → SomeOf (λ b. a ≡ b) (in_front o bs) → SomeOf (λ m. atom_of all m ≡ Some a) (l ∷ ls)
tested_by all a l None bs ls e more h = inr (more h)
tested_by all a l (Some b) bs ls e more (inl h) = inl (e ∙ ap (λ (x : Atom). Some x) (sym h))
tested_by all a l (Some b) bs ls e more (inr h) = inr (more h)

-- an atom of lines is that of some line
atom_of_line : (all : List IosItem) (a : Atom) (ls : List MapLine) → SomeOf (λ b. a ≡ b) (atoms_of all ls) → SomeOf (λ l. atom_of all l ≡ Some a) ls
unfolding atoms_of
atom_of_line all a [] h = absurd h
atom_of_line all a (l ∷ ls) h = tested_by all a l (atom_of all l) (atoms_of all ls) ls refl (atom_of_line all a ls) h

pub test_says : (all : List IosItem) (e : Entry) (k : NodeKind) → IsTestOf (atoms_of all e.lines) k → IsOfEntries all (e ∷ []) k
test_says all e (Test a then other) h = inl (atom_of_line all a e.lines h)
test_says all e (Do c next) h = absurd h
test_says all e (Stop accept) h = tt

pub act_says : (all : List IosItem) (e : Entry) (cs : List Change) → AllByRecursion (IsOfLines all e.lines) cs → (k : NodeKind) → IsActOf cs k → IsOfEntries all (e ∷ []) k
act_says all e cs own (Test a then other) h = absurd h
act_says all e cs own (Do c next) h = inl (one_of_all (IsOfLines all e.lines) c cs own h)
act_says all e cs own (Stop accept) h = tt

-- ---- an entry

-- what lists are asked about of a route in range
pub testable : (r : RouteParts) → InRange r → IsTestable r
testable r h = record { path = h.path; small = h.communities; ascending = h.ascending }

-- p: the entry permits
given_is : (all : List IosItem) (e : Entry) (r : RouteParts) (p : Bool) → e.permit ≡ p → given_by all e r ≡ elim p [ true ↦ Accept (set_by_entry all e r) | false ↦ Reject ]
given_is all e r p h = ap (λ (b : Bool). elim b [ true ↦ Accept (set_by_entry all e r) | false ↦ Reject ]) h

-- an entry that denies ends
pub body_denies : (all : List IosItem) (e : Entry) (old new : List NodeKind) (n : ℕ) (p : Bool) → p ≡ e.permit → p ≡ false → IsMade old new (Stop p) n → Keeps old new → IsBody all e old new n
body_denies all e old new n p same d m k =
    record {
      within = m.at.within;
      grows = grows_one (IsOfEntries all (e ∷ [])) old old new (Stop p) tt (grows_none (IsOfEntries all (e ∷ [])) old) m.grown;
      keeps = k;
      settled = stop_settled new n p (record { facts = m.facts; there = m.at.there });
      answers = λ r h. m.answers r ∙ ap (λ (b : Bool). ended b r) d ∙ sym (given_is all e r false (sym same ∙ d));
    }

-- an entry that permits makes its changes and ends
pub body_permits : (all : List IosItem) (e : Entry) (old now new : List NodeKind) (cs : List Change) (end n : ℕ) (p : Bool) → p ≡ e.permit → p ≡ true → IsMade old now (Stop p) end → Keeps old now
    → AreOfEntry all e.lines cs → Acts now new cs [] end n → IsBody all e old new n
body_permits all e old now new cs end n p same d m k o t =
    record {
      within = t.within;
      grows = grows_both (IsOfEntries all (e ∷ [])) old now new
          (grows_one (IsOfEntries all (e ∷ [])) old old now (Stop p) tt (grows_none (IsOfEntries all (e ∷ [])) old) m.grown)
          (grows_wider (IsActOf cs) (IsOfEntries all (e ∷ [])) now new (act_says all e cs o.own) t.grows);
      keeps = keeps_both old now new k t.keeps;
      settled = t.settled (untested_stop now end p (record { facts = m.facts; there = m.at.there })) (stop_settled now end p (record { facts = m.facts; there = m.at.there }));
      answers = λ r h. t.answers r ∙ m.answers (changed_by cs r) ∙ ap (λ (b : Bool). ended b (changed_by cs r)) d
          ∙ ap (λ (q : RouteParts). Accept q) (o.acts r h) ∙ sym (given_is all e r true (sym same ∙ d));
    }

-- the tests of an entry stand before what it gives
pub entry_tested : (all : List IosItem) (e : Entry) (old now new : List NodeKind) (atoms : List Atom) (body behind n : ℕ) → behind < length old → IsBody all e old now body → atoms ≡ atoms_of all e.lines
    → ((r : RouteParts) → IsPath r.path → list_all (λ a. atom_holds a r) atoms ≡ list_all (line_holds all r) e.lines) → Tests now new atoms [] body behind n → IsEntry all e old new behind n
entry_tested all e old now new atoms body behind n w b same holds t =
    record {
      within = t.within;
      grows = grows_both (IsOfEntries all (e ∷ [])) old now new b.grows
          (grows_wider (IsTestOf atoms) (IsOfEntries all (e ∷ [])) now new (λ k h. test_says all e k (subst (λ (bs : List Atom). IsTestOf bs k) same h)) t.grows);
      settled = λ y. t.settled b.settled (settled_grown old now behind b.keeps w y);
      answers = λ r h. t.answers r
          ∙ ap (λ (x : Bool). elim x [ true ↦ outcome_at now body r | false ↦ outcome_at now behind r ]) (holds r h.path)
          ∙ ap (λ (o : Outcome). elim (entry_holds all r e) [ true ↦ o | false ↦ outcome_at now behind r ]) (b.answers r (testable r h))
          ∙ ap (λ (o : Outcome). elim (entry_holds all r e) [ true ↦ given_by all e r | false ↦ o ]) (b.keeps.answers behind w r);
    }

-- ---- the entries

of_more : {A : Type 0} (P : A → Type 0) (xs : List A) (x : A) → SomeOf P (x ∷ []) → SomeOf P (xs ++ x ∷ [])
of_more P xs x (inl h) = last_in P xs x h
of_more P xs x (inr h) = absurd h

last_says : (all : List IosItem) (left : List Entry) (e : Entry) (k : NodeKind) → IsOfEntries all (e ∷ []) k → IsOfEntries all (left ++ e ∷ []) k
last_says all left e (Test a then other) h = of_more (λ x. SomeOf (λ l. atom_of all l ≡ Some a) x.lines) left e h
last_says all left e (Do c next) h = of_more (λ x. SomeOf (λ l. IsChangeOf all l c) x.lines) left e h
last_says all left e (Stop accept) h = tt

front_says : (all : List IosItem) (left : List Entry) (e : Entry) (k : NodeKind) → IsOfEntries all left k → IsOfEntries all (left ++ e ∷ []) k
front_says all left e (Test a then other) h = front_in (λ x. SomeOf (λ l. atom_of all l ≡ Some a) x.lines) left (e ∷ []) h
front_says all left e (Do c next) h = front_in (λ x. SomeOf (λ l. IsChangeOf all l c) x.lines) left (e ∷ []) h
front_says all left e (Stop accept) h = tt

-- behind the last entry the run ends
pub lowered_none : (all : List IosItem) (es : List Entry) (old new : List NodeKind) (n : ℕ) → old ≡ [] → IsMade old new (Stop false) n → AreLowered all es es new n
lowered_none all es old new n e m =
    record {
      within = m.at.within;
      settled = stop_settled new n false (record { facts = m.facts; there = m.at.there });
      says = all_grown (IsOfEntries all es) old new (grows_one (IsOfEntries all es) old old new (Stop false) tt (grows_none (IsOfEntries all es) old) m.grown)
          (subst (λ (xs : List NodeKind). AllByRecursion (IsOfEntries all es) xs) (sym e) tt);
      answers = λ r h. ap (λ (o : Outcome). entries_or all es r o) (m.answers r);
      among = λ k h. h;
    }

-- the last entry that is left comes before the node
pub lowered_more : (all : List IosItem) (es left : List Entry) (e : Entry) (now new : List NodeKind) (n p : ℕ) → AreLowered all es (left ++ e ∷ []) now n → IsEntry all e now new n p → AreLowered all es left new p
lowered_more all es left e now new n p t m =
    record {
      within = m.within;
      settled = m.settled t.settled;
      says = all_grown (IsOfEntries all es) now new (grows_wider (IsOfEntries all (e ∷ [])) (IsOfEntries all es) now new (λ k h. t.among k (last_says all left e k h)) m.grows) t.says;
      answers = λ r h. ap (λ (o : Outcome). entries_or all left r o) (m.answers r h) ∙ sym (last_of all left e r (outcome_at now n r)) ∙ t.answers r h;
      among = λ k h. t.among k (front_says all left e k h);
    }

-- ---- the policy

-- b: the entry comes before the first one
put_by : (P : Entry → Type 0) (key : Entry → ℕ) (e f : Entry) (es : List Entry) (b : Bool) → (SomeOf P (put_in_order key e es) → SomeOf P (e ∷ es)) → SomeOf P (elim b [ true ↦ e ∷ f ∷ es | false ↦ f ∷ put_in_order key e es ]) → SomeOf P (e ∷ f ∷ es)
put_by P key e f es true more h = h
put_by P key e f es false more (inl h) = inr (inl h)
put_by P key e f es false more (inr h) = swap (more h)
  where
    swap : SomeOf P (e ∷ es) → SomeOf P (e ∷ f ∷ es)
    swap (inl k) = inl k
    swap (inr k) = inr (inr k)

put_some : (P : Entry → Type 0) (key : Entry → ℕ) (e : Entry) (es : List Entry) → SomeOf P (put_in_order key e es) → SomeOf P (e ∷ es)
put_some P key e [] h = h
put_some P key e (f ∷ es) h = put_by P key e f es (nat_le (key e) (key f)) (put_some P key e es) h

behind_first : (P : Entry → Type 0) (e : Entry) (es fs : List Entry) → (SomeOf P es → SomeOf P fs) → SomeOf P (e ∷ es) → SomeOf P (e ∷ fs)
behind_first P e es fs more (inl k) = inl k
behind_first P e es fs more (inr k) = inr (more k)

order_some : (P : Entry → Type 0) (key : Entry → ℕ) (es : List Entry) → SomeOf P (in_order key es) → SomeOf P es
order_some P key [] h = h
order_some P key (e ∷ es) h = behind_first P e (in_order key es) es (order_some P key es) (put_some P key e (in_order key es) h)

pub order_says : (all : List IosItem) (key : Entry → ℕ) (es : List Entry) (k : NodeKind) → IsOfEntries all (in_order key es) k → IsOfEntries all es k
order_says all key es (Test a then other) h = order_some (λ e. SomeOf (λ l. atom_of all l ≡ Some a) e.lines) key es h
order_says all key es (Do c next) h = order_some (λ e. SomeOf (λ l. IsChangeOf all l c) e.lines) key es h
order_says all key es (Stop accept) h = tt

-- each node says what the policy says
pub policy_says : (all : List IosItem) (name : List ℕ) (es : List Entry) (nodes : List NodeKind) (n : ℕ) → es ≡ in_order (λ e. e.number) (entries_of name all) → AreLowered all es [] nodes n → AllByRecursion (IsOfPolicy all name) nodes
policy_says all name es nodes n e t =
    all_wider (IsOfEntries all es) (IsOfPolicy all name) nodes (λ k h. order_says all (λ (x : Entry). x.number) (entries_of name all) k (subst (λ (xs : List Entry). IsOfEntries all xs k) e h)) t.says

-- the node gives what the policy gives
pub policy_means : (all : List IosItem) (name : List ℕ) (es : List Entry) (nodes : List NodeKind) (n : ℕ) → has_continue all name ≡ false → es ≡ in_order (λ e. e.number) (entries_of name all) → AreLowered all es [] nodes n
    → (r : RouteParts) → InRange r → outcome_at nodes n r ≡ ios_meaning all name r
unfolding entries_or
policy_means all name es nodes n c e t r h =
    t.answers r h ∙ ap (λ (xs : List Entry). entries_or all xs r Reject) e ∙ sym (first_decides all name r c)

-- the node of a policy
pub policy_node : (all : List IosItem) (name : List ℕ) (es : List Entry) (nodes : List NodeKind) (n : ℕ) → has_continue all name ≡ false → es ≡ in_order (λ e. e.number) (entries_of name all) → AreLowered all es [] nodes n → AreNodes nodes → IsPolicyNode all name nodes n
policy_node all name es nodes n c e t are =
    let own = policy_says all name es nodes n e t in
    record { of_core = t.within; settled = t.settled; says = own; said = policy_said all name nodes n are t.within own; meaning = policy_means all name es nodes n c e t }
