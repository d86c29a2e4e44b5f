-- One node that waits is taken: its steps, or those of the nodes that it leads to.
use Rattle.std.proofs.Common.{◌≡◌, refl, sym, ap, subst, ◌∙◌, ℕ, suc, ◌+◌, ◌*◌, ◌^◌, ◌<◌, ◌≤◌, Bool, true, false, ◌==◌, List, [], ◌∷◌, ◌++◌, append_assoc, length, map, Option, Some, None, arith}
use Rattle.std.proofs.lemmas.List.{append-nil}
use Rattle.std.proofs.Math.Nat.{one-le-pow, pow-le-pow_right, pow-suc}
use Rattle.core_nodes.specs.Nodes.{kind_at, AreNodes}
use Rattle.core_nodes.specs.declared.node.NodeKind.{NodeKind}
use Rattle.core_nodes.specs.declared.node.NodeKind.TheVariants.{Test, Do, Stop}
use Rattle.core_nodes.specs.declared.atom.Atom.{Atom}
use Rattle.policy_core.specs.declared.step.Literal.{Literal}
use Rattle.policy_core.specs.declared.step.Step.{Step}
use Rattle.policy_core.specs.declared.listing.Waiting.{Waiting}
use Rattle.policy_core.specs.Settled.{IsSettled}
use Rattle.policy_core.specs.Steps.{under, is_end, first_part, unless_end, listed_at, steps_at}
use Rattle.policy_core.specs.Waiting.{guarded, wants, steps_of, coming, MayWait, AllMayWait, work, Leaves, Takes, TakesFirst}
use Rattle.policy_core.proofs.FoldLaws.{Stands}
use Rattle.policy_core.proofs.ListedLaws.{alone_at, test_upto, do_upto, stop_upto, guarded_none, guarded_under, guarded_append}

-- three times a smaller power is at most the greater one
power_rises : (t p : ℕ) → t < p → 3 * 3 ^ t ≤ 3 ^ p
power_rises t p x =
    let e : 3 ^ (suc t) ≡ 3 ^ t * 3 = pow-suc 3 t in
    let h : 3 ^ (suc t) ≤ 3 ^ p = pow-le-pow_right {n = 3} (omega arith) (omega (arith, x)) in
    omega (arith, e, h)

-- two older nodes are less work
pub less_work : (p t o : ℕ) → t < p → o < p → 3 ^ t + 3 ^ o < 3 ^ p
less_work p t o x y =
    let a = power_rises t p x in
    let b = power_rises o p y in
    let c : 1 ≤ 3 ^ t = one-le-pow t 3 (omega arith) in
    let d : 1 ≤ 3 ^ o = one-le-pow o 3 (omega arith) in
    omega (arith, a, b, c, d)

pub some_work : (p : ℕ) → 1 ≤ 3 ^ p
some_work p = one-le-pow p 3 (omega arith)

-- a node that waits
abbrev pub waits : ℕ → Option ℕ → List Literal → Waiting
waits p end guard = record { place = p; end = end; guard = guard }

module _ (nodes : List NodeKind) (ws : List Waiting) (all : AllMayWait nodes ws) where
  -- ---- the child `yes`

  -- the steps of `yes` up to `no` under a guard, before those to come, where the two places are one or not
  abbrev firsts : ℕ → ℕ → List Literal → List Step → Bool → List Step
  firsts met unmet guard found b = found ++ (map (guarded guard) (elim b [ true ↦ (listed_at nodes met).alone | false ↦ (listed_at nodes met).upto (Some unmet) ]) ++ coming nodes ws)

  waits_first : (met unmet : ℕ) (guard : List Literal) (found : List Step) → (met == unmet) ≡ false → MayWait nodes met → TakesFirst nodes met unmet guard ws found (waits met (Some unmet) guard ∷ ws) found
  unfolding coming AllMayWait work
  waits_first met unmet guard found differ may = record {
    steps = ap (λ (b : Bool). found ++ (map (guarded guard) (elim b [ true ↦ [] | false ↦ (listed_at nodes met).upto (Some unmet) ]) ++ coming nodes ws)) differ
        ∙ ap (firsts met unmet guard found) (sym differ);
    may = (may, all);
    less = omega arith;
  }

  -- it waits, up to the child `no`
  pub first_waits : (met unmet : ℕ) (guard : List Literal) (found : List Step) (after : List Waiting) → (met == unmet) ≡ false → MayWait nodes met → after ≡ waits met (Some unmet) guard ∷ ws → TakesFirst nodes met unmet guard ws found after found
  first_waits met unmet guard found after differ may e = subst (λ l. TakesFirst nodes met unmet guard ws found l found) (sym e) (waits_first met unmet guard found differ may)

  -- both children are one node: its one step is found
  pub first_found : (met unmet : ℕ) (guard : List Literal) (front found : List Step) → (met == unmet) ≡ true → found ≡ front ++ map (guarded guard) (alone_at nodes met) → TakesFirst nodes met unmet guard ws front ws found
  first_found met unmet guard front found same e = record {
    steps = ap (λ (xs : List Step). xs ++ coming nodes ws) e
        ∙ append_assoc front (map (guarded guard) (listed_at nodes met).alone) (coming nodes ws)
        ∙ ap (firsts met unmet guard front) (sym same);
    may = all;
    less = omega arith;
  }

  module _ (w : Waiting) where
    -- ---- the node on top

    -- its steps, before those to come, where it is the end or not
    abbrev tops : List Step → Bool → List Step
    tops front b = front ++ (map (guarded w.guard) (elim b [ true ↦ [] | false ↦ (listed_at nodes w.place).upto w.end ]) ++ coming nodes ws)

    -- it is the end: it has no step
    pub ended_takes : (found : List Step) → is_end w.end w.place ≡ true → Takes nodes w ws found ws found
    ended_takes found e = record {
      steps = ap (tops found) (sym e);
      may = all;
      less = let h = some_work w.place in omega (arith, h);
    }

    -- it ends or changes: its one step is found
    pub alone_takes : (front found : List Step) → is_end w.end w.place ≡ false → (listed_at nodes w.place).upto w.end ≡ alone_at nodes w.place → found ≡ front ++ map (guarded w.guard) (alone_at nodes w.place) → Takes nodes w ws front ws found
    alone_takes front found e one f = record {
      steps = ap (λ (xs : List Step). xs ++ coming nodes ws) f
          ∙ append_assoc front (map (guarded w.guard) (listed_at nodes w.place).alone) (coming nodes ws)
          ∙ ap (λ (xs : List Step). front ++ (map (guarded w.guard) xs ++ coming nodes ws)) (sym one)
          ∙ ap (tops front) (sym e);
      may = all;
      less = let h = some_work w.place in omega (arith, h);
    }

    -- the list of a test under the guard, before those to come, is that of its children
    test_steps : (a : Atom) (t o : ℕ) → Stands nodes w.place (Test a t o)
        → map (guarded (w.guard ++ wants a ∷ [])) (first_part (listed_at nodes t) t o) ++ (steps_of nodes (waits o w.end w.guard) ++ coming nodes ws) ≡ map (guarded w.guard) ((listed_at nodes w.place).upto w.end) ++ coming nodes ws
    test_steps a t o at =
        let first = first_part (listed_at nodes t) t o in
        let later = unless_end (listed_at nodes o) o w.end in
        ap (λ (xs : List Step). xs ++ (map (guarded w.guard) later ++ coming nodes ws)) (sym (guarded_under w.guard a first))
        ∙ sym (append_assoc (map (guarded w.guard) (map (under a) first)) (map (guarded w.guard) later) (coming nodes ws))
        ∙ ap (λ (xs : List Step). xs ++ coming nodes ws) (sym (guarded_append w.guard (map (under a) first) later) ∙ ap (map (guarded w.guard)) (sym (test_upto nodes w.place t o a w.end at)))

    -- it is a test: its two children are taken, `no` behind
    pub test_takes : (a : Atom) (t o : ℕ) (front found : List Step) (left after : List Waiting) → is_end w.end w.place ≡ false → Stands nodes w.place (Test a t o) → t < w.place → o < w.place
        → Leaves w.end w.guard o ws left → TakesFirst nodes t o (w.guard ++ wants a ∷ []) left front after found → Takes nodes w ws front after found
    test_takes a t o front found left after e at x y leaves first = record {
      steps = first.steps
          ∙ ap (λ (xs : List Step). front ++ (map (guarded (w.guard ++ wants a ∷ [])) (first_part (listed_at nodes t) t o) ++ xs)) (leaves.steps nodes)
          ∙ ap (λ (xs : List Step). front ++ xs) (test_steps a t o at) ∙ ap (tops front) (sym e);
      may = first.may;
      less = let h = less_work w.place t o x y in let l = first.less in let m = leaves.less in omega (arith, h, l, m);
    }

-- ---- the child `no`

-- it waits
pub no_waits : (end : Option ℕ) (guard : List Literal) (o : ℕ) (before after : List Waiting) → after ≡ waits o end guard ∷ before → Leaves end guard o before after
unfolding coming AllMayWait work
no_waits end guard o before after e = subst (λ ws. Leaves end guard o before ws) (sym e) (record { steps = λ nodes. refl; may = λ nodes h k. (h, k); less = omega arith })

-- it is the end
pub no_ends : (end : Option ℕ) (guard : List Literal) (o : ℕ) (before : List Waiting) → is_end end o ≡ true → Leaves end guard o before before
no_ends end guard o before e = record {
  steps = λ nodes. ap (λ (b : Bool). map (guarded guard) (elim b [ true ↦ [] | false ↦ (listed_at nodes o).upto end ]) ++ coming nodes before) (sym e);
  may = λ nodes h k. k;
  less = omega arith;
}

-- ---- the whole

pub starts : (nodes : List NodeKind) (p : ℕ) → coming nodes (waits p None [] ∷ []) ≡ steps_at nodes p
unfolding coming
starts nodes p = append-nil (map (guarded []) (steps_at nodes p)) ∙ guarded_none (steps_at nodes p)
