-- What the steps of a node do: the outcome of the node, with an empty last guard, by tests and changes of the node.
use Rattle.std.proofs.Common.{◌≡◌, refl, sym, ap, subst, ◌∙◌, ℕ, ◌<◌, Bool, true, false, ◌&&◌, ◌==◌, List, [], ◌∷◌, ◌++◌, append_assoc, length, map, Option, Some, None, inl, inr, arith, eqb-true, eq-eqb, ne_eqb, ◌⊎◌, if◌then◌else◌}
use Rattle.std.proofs.lemmas.Bool.{and_parts, cases_Bool}
use Rattle.std.proofs.lemmas.Bool.Decides.{eqb_tells}
use Rattle.std.proofs.lemmas.List.{append-nil}
use Rattle.std.specs.Bool.{beq}
use Rattle.std.specs.List.{list_all, AllByRecursion}
use Rattle.route_types.specs.Route.{RouteParts}
use Rattle.route_types.specs.declared.address.Family.TheVariants.{V4}
use Rattle.route_types.specs.declared.route.NextHop.TheVariants.{Own}
use Rattle.route_types.specs.declared.route.Origin.TheVariants.{Igp}
use Rattle.route_types.specs.Change.{changed, changed_by}
use Rattle.route_types.specs.declared.route.Outcome.{Outcome}
use Rattle.route_types.specs.declared.change.Change.{Change}
use Rattle.core_nodes.specs.Atoms.{atom_holds}
use Rattle.core_nodes.specs.Nodes.{kind_at, children, FitsOn, AreNodes}
use Rattle.core_nodes.specs.Outcome.{ended, answer_of, outcome_at}
use Rattle.core_nodes.specs.declared.atom.Atom.{Atom}
use Rattle.core_nodes.specs.declared.node.NodeKind.{NodeKind}
use Rattle.core_nodes.specs.declared.node.NodeKind.TheVariants.{Test, Do, Stop}
use Rattle.core_nodes.proofs.Places.{Before, outcome_newest, outcome_older}
use Rattle.policy_core.specs.declared.step.Step.{Step}
use Rattle.policy_core.specs.Fold.{fold_at}
use Rattle.policy_core.specs.Settled.{Tested, tested_by, tested_at, IsUntested, IsSettled}
use Rattle.policy_core.specs.Steps.{under, behind, last_step, Listed, is_end, unless_end, first_part, listed_by, listed_at, steps_at}
use Rattle.policy_core.specs.Guards.{literal_holds, guard_holds, outcome_of, IsClosed, step_says, said_by, said_at}
use Rattle.policy_core.proofs.FoldLaws.{fold_newest, fold_other}

-- ---- what guards let through

-- under a test that holds, steps do what they do
under_holding : (a : Atom) (steps rest : List Step) (r : RouteParts) → atom_holds a r ≡ true → outcome_of (map (under a) steps ++ rest) r ≡ outcome_of (steps ++ rest) r
unfolding outcome_of
under_holding a [] rest r e = refl
under_holding a (s ∷ ss) rest r e =
    ap (λ (b : Bool). elim (beq b true && guard_holds s.guard r) [ true ↦ ended s.accept (changed_by s.actions r) | false ↦ outcome_of (map (under a) ss ++ rest) r ]) e
    ∙ ap (λ (o : Outcome). elim (guard_holds s.guard r) [ true ↦ ended s.accept (changed_by s.actions r) | false ↦ o ]) (under_holding a ss rest r e)

-- under one that doesn't, none decides
under_failing : (a : Atom) (steps rest : List Step) (r : RouteParts) → atom_holds a r ≡ false → outcome_of (map (under a) steps ++ rest) r ≡ outcome_of rest r
unfolding outcome_of
under_failing a [] rest r e = refl
under_failing a (s ∷ ss) rest r e =
    ap (λ (b : Bool). elim (beq b true && guard_holds s.guard r) [ true ↦ ended s.accept (changed_by s.actions r) | false ↦ outcome_of (map (under a) ss ++ rest) r ]) e
    ∙ under_failing a ss rest r e

-- ---- nodes of a graph, from the newest on

other_outcome : (k : NodeKind) (older : List NodeKind) (p : ℕ) (r : RouteParts) → (p ≡ length older → ⊥) → outcome_at (k ∷ older) p r ≡ outcome_at older p r
unfolding outcome_at
other_outcome k older p r differ = rw (ne_eqb p (length older) differ, outcome_at) refl

listed_newest : (k : NodeKind) (older : List NodeKind) → listed_at (k ∷ older) (length older) ≡ listed_by (listed_at older) k
listed_newest k older = fold_newest (record { alone = []; upto = λ end. [] }) listed_by k older

listed_other : (k : NodeKind) (older : List NodeKind) (p : ℕ) → (p ≡ length older → ⊥) → listed_at (k ∷ older) p ≡ listed_at older p
listed_other k older p differ = fold_other (record { alone = []; upto = λ end. [] }) listed_by k older p differ

tested_newest : (k : NodeKind) (older : List NodeKind) → tested_at (k ∷ older) (length older) ≡ tested_by (tested_at older) k
tested_newest k older = fold_newest (record { untested = false; settled = false }) tested_by k older

tested_other : (k : NodeKind) (older : List NodeKind) (p : ℕ) → (p ≡ length older → ⊥) → tested_at (k ∷ older) p ≡ tested_at older p
tested_other k older p differ = fold_other (record { untested = false; settled = false }) tested_by k older p differ

-- ---- a node without tests

-- its one step has an empty guard and gives its outcome, and is its list up to any end
record OneStep (l : Listed) (r : RouteParts) (out : Outcome) : Type 0 where
  step : Step
  alone : l.alone ≡ step ∷ []
  unguarded : step.guard ≡ []
  gives : ended step.accept (changed_by step.actions r) ≡ out
  all : (end : Option ℕ) → l.upto end ≡ l.alone

-- each node without tests has one
abbrev HasOnes : List NodeKind → Type 0
HasOnes nodes = (n : ℕ) (r : RouteParts) → IsUntested nodes n → OneStep (listed_at nodes n) r (outcome_at nodes n r)

-- a node on older ones has one
abbrev HasOne : List NodeKind → NodeKind → RouteParts → Type 0
HasOne older k r = OneStep (listed_by (listed_at older) k) r (answer_of (outcome_at older) k r)

-- of the newest node, from that of its children
one_newest : (older : List NodeKind) (k : NodeKind) (r : RouteParts) → HasOnes older → (tested_by (tested_at older) k).untested ≡ true → HasOne older k r
one_newest older (Test a t o) r child h = absurd (cc)
one_newest older (Do c n) r child h =
    let one = child n (changed c r) h in
    record {
      step = behind c one.step;
      alone = ap (map (behind c)) one.alone;
      unguarded = one.unguarded;
      gives = one.gives;
      all = λ end. refl;
    }
one_newest older (Stop x) r child h = record { step = last_step x; alone = refl; unguarded = refl; gives = refl; all = λ end. refl }

one_step : (nodes : List NodeKind) (p : ℕ) (r : RouteParts) → IsUntested nodes p → OneStep (listed_at nodes p) r (outcome_at nodes p r)
unfolding fold_at
one_step [] p r h = absurd (cc)
one_step (k ∷ older) p r h =
    elim (eqb_tells p (length older)) [
      | inl w ↦
          let made = one_newest older k r (λ n s u. one_step older n s u) (sym (ap (λ x. x.untested) (tested_newest k older)) ∙ subst (λ i. IsUntested (k ∷ older) i) w.1 h) in
          subst (λ i. OneStep (listed_at (k ∷ older) i) r (outcome_at (k ∷ older) i r)) (sym w.1)
          (subst (λ l. OneStep l r (outcome_at (k ∷ older) (length older) r)) (sym (listed_newest k older))
          (subst (λ o. OneStep (listed_by (listed_at older) k) r o) (sym (outcome_newest k older r)) made))
      | inr w ↦
          let found = one_step older p r (sym (ap (λ x. x.untested) (tested_other k older p w.1)) ∙ h) in
          subst (λ l. OneStep l r (outcome_at (k ∷ older) p r)) (sym (listed_other k older p w.1))
          (subst (λ o. OneStep (listed_at older p) r o) (sym (other_outcome k older p r w.1)) found)
    ]

-- it decides, whatever comes behind
unguarded_decides : (s : Step) (rest : List Step) (r : RouteParts) → s.guard ≡ [] → outcome_of (s ∷ rest) r ≡ ended s.accept (changed_by s.actions r)
unfolding outcome_of
unguarded_decides s rest r e =
    ap (λ g. elim (guard_holds g r) [ true ↦ ended s.accept (changed_by s.actions r) | false ↦ outcome_of rest r ]) e

alone_decides : (l : Listed) (r : RouteParts) (out : Outcome) → OneStep l r out → (rest : List Step) → outcome_of (l.alone ++ rest) r ≡ out
alone_decides l r out one rest =
    ap (λ (xs : List Step). outcome_of (xs ++ rest) r) one.alone ∙ unguarded_decides one.step rest r one.unguarded ∙ one.gives

-- a node on older ones is settled
abbrev IsSettledOn : List NodeKind → NodeKind → Type 0
IsSettledOn older k = (tested_by (tested_at older) k).settled ≡ true

-- a settled node has no test behind it, or is a test, which has no step alone
none_newest : (older : List NodeKind) (k : NodeKind) → IsSettledOn older k → ((tested_by (tested_at older) k).untested ≡ true) ⊎ ((listed_by (listed_at older) k).alone ≡ [])
none_newest older (Test a t o) h = inr refl
none_newest older (Do c n) h = inl h
none_newest older (Stop x) h = inl refl

one_or_none : (nodes : List NodeKind) (p : ℕ) → IsSettled nodes p → IsUntested nodes p ⊎ ((listed_at nodes p).alone ≡ [])
unfolding fold_at
one_or_none [] p h = absurd (cc)
one_or_none (k ∷ older) p h =
    elim (eqb_tells p (length older)) [
      | inl w ↦
          let made = none_newest older k (sym (ap (λ x. x.settled) (tested_newest k older)) ∙ subst (λ i. IsSettled (k ∷ older) i) w.1 h) in
          subst (λ i. IsUntested (k ∷ older) i ⊎ ((listed_at (k ∷ older) i).alone ≡ [])) (sym w.1)
          (subst (λ (x : Tested). (x.untested ≡ true) ⊎ ((listed_at (k ∷ older) (length older)).alone ≡ [])) (sym (tested_newest k older))
          (subst (λ (l : Listed). ((tested_by (tested_at older) k).untested ≡ true) ⊎ (l.alone ≡ [])) (sym (listed_newest k older)) made))
      | inr w ↦
          let found = one_or_none older p (sym (ap (λ x. x.settled) (tested_other k older p w.1)) ∙ h) in
          subst (λ (x : Tested). (x.untested ≡ true) ⊎ ((listed_at (k ∷ older) p).alone ≡ [])) (sym (tested_other k older p w.1))
          (subst (λ (l : Listed). IsUntested older p ⊎ (l.alone ≡ [])) (sym (listed_other k older p w.1)) found)
    ]

-- ---- the outcome

module _ (out : ℕ → Outcome) (r : RouteParts) where
  -- what comes behind a list up to an end gives the outcome of the end
  abbrev GoesOn : Option ℕ → List Step → Type 0
  GoesOn None rest = Unit {0}
  GoesOn (Some q) rest = outcome_of rest r ≡ out q

  -- steps before others give the outcome of a node
  abbrev Leads : List Step → List Step → ℕ → Type 0
  Leads steps rest p = outcome_of (steps ++ rest) r ≡ out p

  -- so does the list of a node up to an end, before what comes behind, with the node's outcome
  abbrev ListGives : List NodeKind → ℕ → Option ℕ → List Step → Type 0
  ListGives nodes p end rest = outcome_of ((listed_at nodes p).upto end ++ rest) r ≡ out p

  -- for each node, end and what comes behind
  abbrev Gives : List NodeKind → Type 0
  Gives nodes = (p : ℕ) → p < length nodes → IsSettled nodes p → (end : Option ℕ) (rest : List Step) → GoesOn end rest → ListGives nodes p end rest

  -- the outcomes are those of the nodes
  abbrev AreOutcomes : List NodeKind → Type 0
  AreOutcomes nodes = (p : ℕ) → p < length nodes → outcome_at nodes p r ≡ out p

  -- a list of a node, where it is the end or not, before what comes behind
  abbrev unless_as : Listed → Option ℕ → List Step → Bool → Outcome
  unless_as l end rest b = outcome_of ((elim b [ true ↦ [] | false ↦ l.upto end ]) ++ rest) r

  -- the list of `yes`, where it is `no` or not, before what comes behind
  abbrev first_as : Listed → ℕ → List Step → Bool → Outcome
  first_as l o rest b = outcome_of ((elim b [ true ↦ l.alone | false ↦ l.upto (Some o) ]) ++ rest) r

  -- the node is the end: what comes behind gives its outcome
  end_gives : (l : Listed) (p : ℕ) (end : Option ℕ) (rest : List Step) → is_end end p ≡ true → GoesOn end rest → outcome_of (unless_end l p end ++ rest) r ≡ out p
  end_gives l p None rest e goes = absurd (cc)
  end_gives l p (Some q) rest e goes = ap (unless_as l (Some q) rest) e ∙ goes ∙ ap out (sym (eqb-true p q e))

  unless_by : (l : Listed) (p : ℕ) (end : Option ℕ) (rest : List Step) (b : Bool) → is_end end p ≡ b → GoesOn end rest → Leads (l.upto end) rest p → Leads (unless_end l p end) rest p
  unless_by l p end rest true e goes h = end_gives l p end rest e goes
  unless_by l p end rest false e goes h = ap (unless_as l end rest) e ∙ h

  test_by : (a : Atom) (t o : ℕ) (first rest : List Step) (b : Bool) → atom_holds a r ≡ b → Leads first rest t → outcome_of rest r ≡ out o → Leads (map (under a) first) rest (if b then t else o)
  test_by a t o first rest true e f g = under_holding a first rest r e ∙ f
  test_by a t o first rest false e f g = under_failing a first rest r e ∙ g

  module _ (older : List NodeKind) (same : AreOutcomes older) (gives : Gives older) where
    -- the list of `yes` up to `no`, before what gives the outcome of `no`
    first_by : (t o : ℕ) (rest : List Step) (b : Bool) → (t == o) ≡ b → t < length older → IsSettled older t → outcome_of rest r ≡ out o → Leads (first_part (listed_at older t) t o) rest t
    first_by t o rest false e below settled goes = ap (first_as (listed_at older t) o rest) e ∙ gives t below settled (Some o) rest goes
    first_by t o rest true e below settled goes =
        ap (first_as (listed_at older t) o rest) e
        ∙ (elim (one_or_none older t settled) [
          | inl u ↦ alone_decides (listed_at older t) r (outcome_at older t r) (one_step older t r u) rest ∙ same t below
          | inr none ↦ ap (λ (xs : List Step). outcome_of (xs ++ rest) r) none ∙ goes ∙ ap out (sym (eqb-true t o e))
        ])

    -- the outcome of the newest node
    newest_gives : (k : NodeKind) → Before older k → IsSettledOn older k → (end : Option ℕ) (rest : List Step) → GoesOn end rest
        → outcome_of ((listed_by (listed_at older) k).upto end ++ rest) r ≡ answer_of (outcome_at older) k r
    newest_gives (Test a t o) below h end rest goes =
        let parts = and_parts (tested_at older t).settled (tested_at older o).settled h in
        let first = first_part (listed_at older t) t o in
        let later = unless_end (listed_at older o) o end in
        let second : outcome_of (later ++ rest) r ≡ out o = unless_by (listed_at older o) o end rest (is_end end o) refl goes (gives o below.1.0 parts.1 end rest goes) in
        let one : outcome_of (first ++ (later ++ rest)) r ≡ out t = first_by t o (later ++ rest) (t == o) refl below.0 parts.0 second in
        ap (λ (xs : List Step). outcome_of xs r) (append_assoc (map (under a) first) later rest)
        ∙ test_by a t o first (later ++ rest) (atom_holds a r) refl one second
        ∙ (elim (atom_holds a r) as (λ b. out (if b then t else o) ≡ outcome_at older (if b then t else o) r) [ true ↦ sym (same t below.0) | false ↦ sym (same o below.1.0) ])
    newest_gives (Do c n) below h end rest goes =
        let one = one_newest older (Do c n) r (λ m s u. one_step older m s u) h in
        alone_decides (listed_by (listed_at older) (Do c n)) r (answer_of (outcome_at older) (Do c n) r) one rest
    newest_gives (Stop x) below h end rest goes = unguarded_decides (last_step x) rest r refl

  listed_gives : (nodes : List NodeKind) → AreNodes nodes → AreOutcomes nodes → Gives nodes
  unfolding AreNodes
  listed_gives [] are same p below settled end rest goes = absurd (omega (arith, below))
  listed_gives (k ∷ older) are same p below settled end rest goes =
      let there : AreOutcomes older = λ q b. sym (outcome_older k older q r b) ∙ same q (omega (arith, b)) in
      let gives : Gives older = listed_gives older are.1 there in
      elim (eqb_tells p (length older)) [
        | inl w ↦
            let h = sym (ap (λ x. x.settled) (tested_newest k older)) ∙ subst (λ i. IsSettled (k ∷ older) i) w.1 settled in
            ap (λ (i : ℕ). outcome_of ((listed_at (k ∷ older) i).upto end ++ rest) r) w.1
            ∙ ap (λ (l : Listed). outcome_of (l.upto end ++ rest) r) (listed_newest k older)
            ∙ newest_gives older there gives k are.0.before h end rest goes
            ∙ sym (outcome_newest k older r)
            ∙ same (length older) (omega arith)
            ∙ ap out (sym w.1)
        | inr w ↦
            ap (λ (l : Listed). outcome_of (l.upto end ++ rest) r) (listed_other k older p w.1)
            ∙ gives p (omega (arith, below, w.1)) (sym (ap (λ x. x.settled) (tested_other k older p w.1)) ∙ settled) end rest goes
      ]

-- the first step whose guard holds gives the outcome of the node
pub steps_give : (nodes : List NodeKind) (p : ℕ) → AreNodes nodes → p < length nodes → IsSettled nodes p → (r : RouteParts) → outcome_of (steps_at nodes p) r ≡ outcome_at nodes p r
steps_give nodes p are below settled r =
    ap (λ (xs : List Step). outcome_of xs r) (sym (append-nil (steps_at nodes p)))
    ∙ listed_gives (λ q. outcome_at nodes q r) r nodes are (λ q b. refl) p below settled None [] tt

-- ---- the last guard

closed_behind : (xs ys : List Step) → IsClosed ys → IsClosed (xs ++ ys)
unfolding IsClosed
closed_behind [] ys h = h
closed_behind (x ∷ []) [] h = absurd h
closed_behind (x ∷ []) (y ∷ ys) h = h
closed_behind (x ∷ z ∷ xs) ys h = closed_behind (z ∷ xs) ys h

one_closed : (l : Listed) (r : RouteParts) (out : Outcome) → OneStep l r out → IsClosed (l.upto None)
unfolding IsClosed
one_closed l r out one = subst IsClosed (sym (one.all None ∙ one.alone)) one.unguarded

-- the whole list of each settled node ends in an empty guard
abbrev AreClosed : List NodeKind → Type 0
AreClosed nodes = (p : ℕ) → p < length nodes → IsSettled nodes p → IsClosed ((listed_at nodes p).upto None)

-- of the newest node, from the list of its child `no`
closed_newest : (older : List NodeKind) (k : NodeKind) (r : RouteParts) → Before older k → AreClosed older → IsSettledOn older k → IsClosed ((listed_by (listed_at older) k).upto None)
closed_newest older (Test a t o) r below child h =
    let parts = and_parts (tested_at older t).settled (tested_at older o).settled h in
    closed_behind (map (under a) (first_part (listed_at older t) t o)) ((listed_at older o).upto None) (child o below.1.0 parts.1)
closed_newest older (Do c n) r below child h =
    one_closed (listed_by (listed_at older) (Do c n)) r (answer_of (outcome_at older) (Do c n) r) (one_newest older (Do c n) r (λ m s u. one_step older m s u) h)
closed_newest older (Stop x) r below child h =
    one_closed (listed_by (listed_at older) (Stop x)) r (answer_of (outcome_at older) (Stop x) r) (one_newest older (Stop x) r (λ m s u. one_step older m s u) refl)

closed_by : (nodes : List NodeKind) (p : ℕ) (r : RouteParts) → AreNodes nodes → p < length nodes → IsSettled nodes p → IsClosed ((listed_at nodes p).upto None)
unfolding AreNodes
closed_by [] p r are below settled = absurd (omega (arith, below))
closed_by (k ∷ older) p r are below settled =
    elim (eqb_tells p (length older)) [
      | inl w ↦
          let h = sym (ap (λ x. x.settled) (tested_newest k older)) ∙ subst (λ i. IsSettled (k ∷ older) i) w.1 settled in
          let made = closed_newest older k r are.0.before (λ q b s. closed_by older q r are.1 b s) h in
          subst (λ (i : ℕ). IsClosed ((listed_at (k ∷ older) i).upto None)) (sym w.1)
          (subst (λ (l : Listed). IsClosed (l.upto None)) (sym (listed_newest k older)) made)
      | inr w ↦
          let found = closed_by older p r are.1 (omega (arith, below, w.1)) (sym (ap (λ x. x.settled) (tested_other k older p w.1)) ∙ settled) in
          subst (λ (l : Listed). IsClosed (l.upto None)) (sym (listed_other k older p w.1)) found
    ]

-- some route
a_route : RouteParts
a_route = record { prefix = record { address = record { family = V4; bits = 0 }; length = 0 }; next_hop = Own; path = []; origin = Igp; local_preference = 0; med = 0; weight = 0; communities = [] }

-- the last guard is empty
pub steps_closed : (nodes : List NodeKind) (p : ℕ) → AreNodes nodes → p < length nodes → IsSettled nodes p → IsClosed (steps_at nodes p)
steps_closed nodes p are below settled = closed_by nodes p a_route are below settled

-- ---- tests and changes

all_append : {A : Type 0} (p : A → Bool) (xs ys : List A) → list_all p xs ≡ true → list_all p ys ≡ true → list_all p (xs ++ ys) ≡ true
all_append p [] ys x y = y
all_append p (z ∷ zs) ys x y =
    let parts = and_parts (p z) (list_all p zs) x in
    rw (parts.0, all_append p zs ys parts.1 y) refl

module _ (on_atom : Atom → Bool) (on_change : Change → Bool) where
  -- each step of the lists says what it may
  record AllSay (l : Listed) : Type 0 where
    alone : list_all (step_says on_atom on_change) l.alone ≡ true
    upto : (end : Option ℕ) → list_all (step_says on_atom on_change) (l.upto end) ≡ true

  under_says : (a : Atom) (steps : List Step) → on_atom a ≡ true → list_all (step_says on_atom on_change) steps ≡ true → list_all (step_says on_atom on_change) (map (under a) steps) ≡ true
  under_says a [] e h = refl
  under_says a (s ∷ ss) e h =
      let parts = and_parts (step_says on_atom on_change s) (list_all (step_says on_atom on_change) ss) h in
      rw (e, parts.0, under_says a ss e parts.1) refl

  behind_step : (c : Change) (s : Step) → on_change c ≡ true → step_says on_atom on_change s ≡ true → step_says on_atom on_change (behind c s) ≡ true
  behind_step c s e h =
      let parts = and_parts (list_all (λ l. on_atom l.atom) s.guard) (list_all on_change s.actions) h in
      rw (parts.0, e, parts.1) refl

  behind_says : (c : Change) (steps : List Step) → on_change c ≡ true → list_all (step_says on_atom on_change) steps ≡ true → list_all (step_says on_atom on_change) (map (behind c) steps) ≡ true
  behind_says c [] e h = refl
  behind_says c (s ∷ ss) e h =
      let parts = and_parts (step_says on_atom on_change s) (list_all (step_says on_atom on_change) ss) h in
      rw (behind_step c s e parts.0, behind_says c ss e parts.1) refl

  unless_says : (l : Listed) (p : ℕ) (end : Option ℕ) → AllSay l → list_all (step_says on_atom on_change) (unless_end l p end) ≡ true
  unless_says l p end h = elim (is_end end p) as (λ b. list_all (step_says on_atom on_change) (elim b [ true ↦ [] | false ↦ l.upto end ]) ≡ true) [ true ↦ refl | false ↦ h.upto end ]

  first_says : (l : Listed) (t o : ℕ) → AllSay l → list_all (step_says on_atom on_change) (first_part l t o) ≡ true
  first_says l t o h = elim (t == o) as (λ b. list_all (step_says on_atom on_change) (elim b [ true ↦ l.alone | false ↦ l.upto (Some o) ]) ≡ true) [ true ↦ h.alone | false ↦ h.upto (Some o) ]

  -- each node that says what it may has such lists
  abbrev AllAreSaid : List NodeKind → Type 0
  AllAreSaid nodes = (p : ℕ) → said_at on_atom on_change nodes p ≡ true → AllSay (listed_at nodes p)

  newest_says : (older : List NodeKind) (k : NodeKind) → AllAreSaid older → said_by on_atom on_change (said_at on_atom on_change older) k ≡ true → AllSay (listed_by (listed_at older) k)
  newest_says older (Test a t o) child h =
      let parts = and_parts (on_atom a) (said_at on_atom on_change older t && said_at on_atom on_change older o) h in
      let both = and_parts (said_at on_atom on_change older t) (said_at on_atom on_change older o) parts.1 in
      record {
        alone = refl;
        upto = λ end.
            all_append (step_says on_atom on_change) (map (under a) (first_part (listed_at older t) t o)) (unless_end (listed_at older o) o end)
            (under_says a (first_part (listed_at older t) t o) parts.0 (first_says (listed_at older t) t o (child t both.0)))
            (unless_says (listed_at older o) o end (child o both.1));
      }
  newest_says older (Do c n) child h =
      let parts = and_parts (on_change c) (said_at on_atom on_change older n) h in
      let one = behind_says c (listed_at older n).alone parts.0 (child n parts.1).alone in
      record { alone = one; upto = λ end. one }
  newest_says older (Stop x) child h = record { alone = refl; upto = λ end. refl }

  all_say : (nodes : List NodeKind) (p : ℕ) → said_at on_atom on_change nodes p ≡ true → AllSay (listed_at nodes p)
  unfolding fold_at
  all_say [] p h = record { alone = refl; upto = λ end. refl }
  all_say (k ∷ older) p h =
      elim (eqb_tells p (length older)) [
        | inl w ↦
            let e = sym (fold_newest true (said_by on_atom on_change) k older) ∙ subst (λ i. said_at on_atom on_change (k ∷ older) i ≡ true) w.1 h in
            let made = newest_says older k (λ q s. all_say older q s) e in
            subst (λ (i : ℕ). AllSay (listed_at (k ∷ older) i)) (sym w.1) (subst AllSay (sym (listed_newest k older)) made)
        | inr w ↦
            let found = all_say older p (sym (fold_other true (said_by on_atom on_change) k older p w.1) ∙ h) in
            subst AllSay (sym (listed_other k older p w.1)) found
      ]

-- the tests and changes of the steps are those of the node
pub steps_say : (on_atom : Atom → Bool) (on_change : Change → Bool) (nodes : List NodeKind) (p : ℕ) → said_at on_atom on_change nodes p ≡ true → list_all (step_says on_atom on_change) (steps_at nodes p) ≡ true
steps_say on_atom on_change nodes p h = (all_say on_atom on_change nodes p h).upto None
