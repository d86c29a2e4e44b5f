-- Tasks one after the other: what each needs is there when its turn comes, and less is to be done.
use Rattle.std.proofs.Common.{◌≡◌, refl, sym, ap, subst, ◌∙◌, ℕ, suc, ◌+◌, ◌*◌, ◌^◌, ◌<◌, ◌≤◌, Bool, true, false, List, [], ◌∷◌, ◌++◌, length, map, Option, Some, None, inl, inr, ◌⊎◌, arith}
use Rattle.std.specs.List.{AllByRecursion}
use Rattle.std.proofs.Math.Nat.{one-le-pow, pow-le-pow_right, pow-suc}
use Rattle.indexmap.specs.IndexMap.{with_entries}
use Rattle.core_nodes.specs.declared.node.NodeKind.{NodeKind}
use Rattle.core_nodes.proofs.Places.{all_wider}
use Rattle.settled_graph.specs.Keys.{Memo, known, IsKnown, IsNoted}
use Rattle.settled_graph.specs.Plans.{same_behind, IsPlan, parts_of}
use Rattle.settled_graph.specs.Tasks.{MayBeMade, MayBeDone, and_also, MayAllBeDone, effort, work, planless, IsPlanned}
use Rattle.settled_graph.specs.declared.key.Key.{Key}
use Rattle.settled_graph.specs.declared.plan.Plan.{Plan}
use Rattle.settled_graph.specs.declared.plan.Plan.TheVariants.{Ends, Goes, Asks}
use Rattle.settled_graph.specs.declared.tasks.Task.{Task}

-- ---- more keys are settled

made_wider : (nodes : List NodeKind) (have more : Key → Type 0) → ((q : Key) → have q → more q) → (k : Key) (plan : Option Plan) → MayBeMade nodes have k plan → MayBeMade nodes more k plan
made_wider nodes have more wider k None h = tt
made_wider nodes have more wider k (Some plan) h = (h.0, all_wider have more (parts_of k plan) wider h.1)

also_wider : (have more : Key → Type 0) → ((q : Key) → have q → more q) → (k q : Key) → and_also have k q → and_also more k q
also_wider have more wider k q (inl h) = inl (wider q h)
also_wider have more wider k q (inr e) = inr e

all_done_wider : (nodes : List NodeKind) (root : Key) (ts : List Task) (have more : Key → Type 0) → ((q : Key) → have q → more q) → MayAllBeDone nodes root have ts → MayAllBeDone nodes root more ts
unfolding MayAllBeDone
all_done_wider nodes root [] have more wider h = wider root h
all_done_wider nodes root (t ∷ ts) have more wider h = (
  record { within = h.0.within; made = made_wider nodes have more wider t.key t.plan h.0.made },
  all_done_wider nodes root ts (and_also have t.key) (and_also more t.key) (also_wider have more wider t.key) h.1,
)

either_is : (have more : Key → Type 0) → ((q : Key) → have q → more q) → (k : Key) → more k → (q : Key) → and_also have k q → more q
either_is have more wider k there q (inl h) = wider q h
either_is have more wider k there q (inr e) = subst more (sym e) there

-- a task whose key is settled is done
pub done_known : (nodes : List NodeKind) (root : Key) (before after : Memo) (t : Task) (k : Key) (ts : List Task) → t.key ≡ k → IsKnown after k → ((q : Key) → IsKnown before q → IsKnown after q)
    → MayAllBeDone nodes root (IsKnown before) (t ∷ ts) → MayAllBeDone nodes root (IsKnown after) ts
unfolding MayAllBeDone
done_known nodes root before after t k ts e there stays h =
    all_done_wider nodes root ts (and_also (IsKnown before) t.key) (IsKnown after) (either_is (IsKnown before) (IsKnown after) stays t.key (subst (IsKnown after) (sym e) there)) h.1

-- ---- a plan

-- these keys are settled, and those of the list
abbrev and_all : (Key → Type 0) → List Key → Key → Type 0
and_all have [] = have
and_all have (k ∷ ks) = and_all (and_also have k) ks

in_all : (have : Key → Type 0) (ks : List Key) (q : Key) → have q → and_all have ks q
in_all have [] q h = h
in_all have (k ∷ ks) q h = in_all (and_also have k) ks q (inl h)

all_in : (have : Key → Type 0) (ks : List Key) → AllByRecursion (and_all have ks) ks
all_in have [] = tt
all_in have (k ∷ ks) = (in_all (and_also have k) ks k (inr refl), all_in (and_also have k) ks)

push_planless : (nodes : List NodeKind) (root : Key) (ks : List Key) (have : Key → Type 0) (ts : List Task) → AllByRecursion (λ k. k.place < length nodes) ks → MayAllBeDone nodes root (and_all have ks) ts
    → MayAllBeDone nodes root have (map planless ks ++ ts)
unfolding MayAllBeDone
push_planless nodes root [] have ts within h = h
push_planless nodes root (k ∷ ks) have ts within h = (record { within = within.0; made = tt }, push_planless nodes root ks (and_also have k) ts within.1 h)

parts_within : (nodes : List NodeKind) (k : Key) (plan : Plan) → k.place < length nodes → IsPlan nodes k plan → AllByRecursion (λ q. q.place < length nodes) (parts_of k plan)
parts_within nodes k (Ends accept) below h = tt
parts_within nodes k (Goes next) below h = (omega (arith, below, h.older), tt)
parts_within nodes k (Asks a) below h = (omega (arith, below, h.older_met), (omega (arith, below, h.older_unmet), tt))

-- a key is planned
pub done_planned : (nodes : List NodeKind) (root : Key) (have : Key → Type 0) (t : Task) (k : Key) (before after : List Task) → t.key ≡ k → IsPlanned nodes k before after
    → MayAllBeDone nodes root have (t ∷ before) → MayAllBeDone nodes root have after
unfolding MayAllBeDone
done_planned nodes root have t k before after e planned h =
    let parts = parts_of k planned.plan in
    let below = subst (λ (q : Key). q.place < length nodes) e h.0.within in
    let later = all_done_wider nodes root before (and_also have t.key) (and_also (and_all have parts) k)
    (either_is have (and_also (and_all have parts) k) (λ q x. inl (in_all have parts q x)) t.key (inr e)) h.1 in
    let rest : MayAllBeDone nodes root (and_all have parts) (record { key = k; plan = Some planned.plan } ∷ before) = (record { within = below; made = (planned.right, all_in have parts) }, later) in
    subst (λ (ts : List Task). MayAllBeDone nodes root have ts) (sym planned.tasks) (push_planless nodes root parts have (record { key = k; plan = Some planned.plan } ∷ before) (parts_within nodes k planned.plan below planned.right) rest)

-- ---- how much there is to do

some_effort : (p : ℕ) → 1 ≤ 4 ^ p
some_effort p = one-le-pow p 4 (omega arith)

-- a key of an older node is less
effort_rises : (q p : ℕ) → q < p → 4 * 4 ^ q ≤ 4 ^ p
effort_rises q p x =
    let e : 4 ^ (suc q) ≡ 4 ^ q * 4 = pow-suc 4 q in
    let h : 4 ^ (suc q) ≤ 4 ^ p = pow-le-pow_right {n = 4} (omega arith) (omega (arith, x)) in
    omega (arith, e, h)

-- a task that is planned: what comes in place of it is less
planned_by : (nodes : List NodeKind) (k : Key) (plan : Plan) (before : List Task) → IsPlan nodes k plan → work (map planless (parts_of k plan) ++ record { key = k; plan = Some plan } ∷ before) < 4 * 4 ^ k.place + work before
unfolding work
planned_by nodes k (Ends accept) before h = omega (arith, some_effort k.place)
planned_by nodes k (Goes next) before h = omega (arith, some_effort k.place, effort_rises next.place k.place h.older)
planned_by nodes k (Asks a) before h =
    omega (arith, some_effort k.place, effort_rises a.met k.place h.older_met, effort_rises a.unmet k.place h.older_unmet)

work_first : (t : Task) (k : Key) (ts : List Task) → t.key ≡ k → t.plan ≡ None → work (t ∷ ts) ≡ 4 * 4 ^ k.place + work ts
unfolding work
work_first t k ts e f =
    ap (λ (o : Option Plan). elim o [ None ↦ 4 * 4 ^ t.key.place | Some plan ↦ 1 ] + work ts) f ∙ ap (λ (q : Key). 4 * 4 ^ q.place + work ts) e

pub planned_less : (nodes : List NodeKind) (t : Task) (k : Key) (before after : List Task) → t.key ≡ k → t.plan ≡ None → IsPlanned nodes k before after → work after < work (t ∷ before)
planned_less nodes t k before after e f planned =
    let less = subst (λ (ts : List Task). work ts < 4 * 4 ^ k.place + work before) (sym planned.tasks) (planned_by nodes k planned.plan before planned.right) in
    subst (λ (m : ℕ). work after < m) (sym (work_first t k before e f)) less

-- a task that is done
pub done_less : (t : Task) (ts : List Task) → work ts < work (t ∷ ts)
unfolding work
done_less t ts = by t.plan
  where
    by : (o : Option Plan) → work ts < elim o [ None ↦ 4 * 4 ^ t.key.place | Some plan ↦ 1 ] + work ts
    by None = omega (arith, some_effort t.key.place)
    by (Some plan) = omega arith

-- ---- the start

-- where nothing was found nothing is known
pub none_known : (memo : Memo) (k : Key) (n : ℕ) → memo.entries ≡ [] → known memo k ≡ Some n → ⊥
none_known memo k n e is =
    let none : known memo k ≡ None = ap (λ (es : List (Key × ℕ)). known (with_entries memo es) k) e in
    let clash : None ≡ Some n = sym none ∙ is in
    absurd (cc)

-- the root is to be planned
pub root_ready : (nodes : List NodeKind) (root key : Key) (have : Key → Type 0) (ts : List Task) → root.place < length nodes → key ≡ root → ts ≡ planless key ∷ [] → MayAllBeDone nodes root have ts
unfolding MayAllBeDone
root_ready nodes root key have ts below e f =
    let one : MayAllBeDone nodes root have (planless root ∷ []) = (record { within = below; made = tt }, inr refl) in
    subst (λ (xs : List Task). MayAllBeDone nodes root have xs) (sym (f ∙ ap (λ (k : Key). planless k ∷ []) e)) one

-- the first task may be done
pub first_ready : (nodes : List NodeKind) (root : Key) (have : Key → Type 0) (t : Task) (ts rest : List Task) → ts ≡ t ∷ rest → MayAllBeDone nodes root have ts → MayBeDone nodes have t
unfolding MayAllBeDone
first_ready nodes root have t ts rest e h = (subst (λ (xs : List Task). MayAllBeDone nodes root have xs) e h).0

-- where there is no task the root is settled
pub root_done : (nodes : List NodeKind) (root : Key) (have : Key → Type 0) (ts : List Task) → ts ≡ [] → MayAllBeDone nodes root have ts → have root
unfolding MayAllBeDone
root_done nodes root have ts e h = subst (λ (xs : List Task). MayAllBeDone nodes root have xs) e h
