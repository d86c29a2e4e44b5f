-- Nodes of keys, from the nodes of their parts.
use Rattle.std.proofs.Common.{◌≡◌, refl, sym, ap, subst, ◌∙◌, ℕ, ◌<◌, ◌==◌, Bool, true, false, ◌&&◌, List, [], ◌∷◌, length, Option, Some, None, if◌then◌else◌, inl, inr, eqb-true, true≢false}
use Rattle.std.proofs.lemmas.Bool.{and_parts, and_from}
use Rattle.route_types.specs.Route.{RouteParts, InRange}
use Rattle.pending_changes.specs.Pending.{route_behind, change_says, PendingSays, LeavesAll}
use Rattle.route_types.specs.Community.{RectParts}
use Rattle.route_types.specs.declared.change.Change.{Change}
use Rattle.pending_changes.proofs.SamePending.{same_pending, pendings_tell}
use Rattle.core_nodes.specs.Made.{Keeps, IsMade}
use Rattle.core_nodes.specs.Outcome.{outcome_at}
use Rattle.core_nodes.specs.declared.node.NodeKind.{NodeKind}
use Rattle.core_nodes.proofs.Places.{keeps_all}
use Rattle.policy_core.specs.Settled.{IsSettled}
use Rattle.policy_core.proofs.SettledLaws.{settled_grown}
use Rattle.resolved_tests.specs.Answers.{answer_holds}
use Rattle.resolved_tests.specs.declared.answer.Answer.{Answer}
use Rattle.resolved_tests.specs.declared.answer.Answer.TheVariants.{Decided, Asked, Parted}
use Rattle.resolved_tests.specs.declared.answer.ListsBehind.{ListsBehind}
use Rattle.core_nodes.specs.declared.atom.Atom.{Atom}
use Rattle.core_nodes.specs.declared.node.NodeKind.TheVariants.{Test}
use Rattle.policy_core.specs.Guards.{said_at}
use Rattle.community_branches.specs.Branches.{IsBranch, lists_behind}
use Rattle.community_branches.proofs.BranchLaws.{always, never, made_branch}
use Rattle.settled_graph.specs.Ends.{EndsBehind}
use Rattle.settled_graph.specs.Keys.{outcome_behind, Settles, same_key, Memo, known, IsKnown, Notes, IsNoted, IsSound, AreWithin}
use Rattle.settled_graph.specs.Plans.{same_behind, Answers, IsEnd, LeadsTo, Forks}
use Rattle.settled_graph.proofs.SaidLaws.{said_unrolls, said_grown, start_says}
use Rattle.policy_core.specs.Apart.{untouched, apart_at}
use Rattle.settled_graph.specs.Said.{says_at}
use Rattle.settled_graph.specs.declared.key.Key.{Key}
use Rattle.settled_graph.specs.declared.plan.Asking.{Asking}

-- ---- nodes

pub end_settles : (nodes old new : List NodeKind) (k : Key) (accept : Bool) (n : ℕ) → EndsBehind old new accept k.pending n → IsEnd nodes k accept → Settles nodes new k n
end_settles nodes old new k accept n made end = record { within = made.within; answers = λ r range. made.answers r ∙ sym (end.ends r); settled = made.settled; says = λ on_atom on_value on_rect m. made.says on_atom on_value on_rect m.pending }

pub next_settles : (nodes new : List NodeKind) (memo : Memo) (k next : Key) (n : ℕ) → known memo next ≡ Some n → IsSound nodes new memo → LeadsTo nodes k next → Settles nodes new k n
next_settles nodes new memo k next n there sound leads =
    let s = sound.settles next n there in
    record { within = s.within; answers = λ r range. s.answers r range ∙ sym (leads.same r); settled = s.settled; says = λ on_atom on_value on_rect m. s.says on_atom on_value on_rect (leads.hands on_atom on_value on_rect m) }

fork_by : (nodes mid : List NodeKind) (k : Key) (met unmet yes_node no_node : ℕ) (b : Bool) (r : RouteParts) → outcome_at mid yes_node r ≡ outcome_behind nodes (same_behind k met) r → outcome_at mid no_node r ≡ outcome_behind nodes (same_behind k unmet) r
    → outcome_at mid (if b then yes_node else no_node) r ≡ outcome_behind nodes (same_behind k (if b then met else unmet)) r
fork_by nodes mid k met unmet yes_node no_node true r e f = e
fork_by nodes mid k met unmet yes_node no_node false r e f = f

pub fork_settles : (nodes mid new : List NodeKind) (memo : Memo) (k one other : Key) (a : Asking) (yes_node no_node n : ℕ) → one ≡ same_behind k a.met → other ≡ same_behind k a.unmet → known memo one ≡ Some yes_node → known memo other ≡ Some no_node
    → Answers mid new a.answer yes_node no_node n → IsSound nodes mid memo → Forks nodes k a → Settles nodes new k n
fork_settles nodes mid new memo k one other a yes_node no_node n e f there too answers sound forks =
    let s = subst (λ (q : Key). Settles nodes mid q yes_node) e (sound.settles one yes_node there) in
    let t = subst (λ (q : Key). Settles nodes mid q no_node) f (sound.settles other no_node too) in
    record {
      within = answers.branch.within;
      answers = λ r range. answers.branch.answers r range ∙ fork_by nodes mid k a.met a.unmet yes_node no_node (answer_holds a.answer r) r (s.answers r range) (t.answers r range) ∙ sym (forks.same r);
      settled = answers.branch.settled s.settled t.settled;
      says = λ on_atom on_value on_rect m.
          let both = forks.hands on_atom on_value on_rect m in
          answers.says on_atom (change_says on_value on_rect) (forks.says on_atom on_value on_rect m) (s.says on_atom on_value on_rect both.0) (t.says on_atom on_value on_rect both.1);
    }

-- ---- what is known

-- keys that are the same are one
pub keys_tell : (a b : Key) → same_key a b ≡ true → a ≡ b
keys_tell a b e =
    let both = and_parts (a.place == b.place) (same_pending a.pending b.pending) e in
    let place = eqb-true a.place b.place both.0 in
    let pending = pendings_tell a.pending b.pending both.1 in
    λ i. record { place = place i; pending = pending i }

settles_kept : (nodes old new : List NodeKind) (k : Key) (n : ℕ) → Keeps old new → Settles nodes old k n → Settles nodes new k n
settles_kept nodes old new k n keeps s = record {
  within = keeps.longer n s.within;
  answers = λ r range. keeps.answers n s.within r ∙ s.answers r range;
  settled = settled_grown old new n keeps s.within s.settled;
  says = λ on_atom on_value on_rect m. said_grown on_atom (change_says on_value on_rect) old new n keeps s.within ∙ s.says on_atom on_value on_rect m;
}

Some-same : (m n : ℕ) → Some m ≡ Some n → m ≡ n
Some-same m n e = cc

noted_by : (nodes old new : List NodeKind) (before after : Memo) (k q : Key) (m n : ℕ) → Keeps old new → IsSound nodes old before → Settles nodes new k m → (b : Bool) → same_key k q ≡ b
    → (if b then Some m else known before q) ≡ Some n → Settles nodes new q n
noted_by nodes old new before after k q m n keeps sound s true e is =
    subst (λ (x : Key). Settles nodes new x n) (keys_tell k q e) (subst (λ (x : ℕ). Settles nodes new k x) (Some-same m n is) s)
noted_by nodes old new before after k q m n keeps sound s false e is = settles_kept nodes old new q n keeps (sound.settles q n is)

-- one more node
pub noted_sound : (nodes old new : List NodeKind) (before after : Memo) (k : Key) (m : ℕ) → Keeps old new → Settles nodes new k m → Notes before after k m → IsSound nodes old before → IsSound nodes new after
noted_sound nodes old new before after k m keeps s notes sound = record {
  settles = λ q n is. noted_by nodes old new before after k q m n keeps sound s (same_key k q) refl (sym (notes.others q) ∙ is);
}

stays_by : (before : Memo) (q : Key) (m n : ℕ) (b : Bool) → known before q ≡ Some n → (p : ℕ) × ((if b then Some m else known before q) ≡ Some p)
stays_by before q m n true is = (m, refl)
stays_by before q m n false is = (n, is)

pub noted : (before after : Memo) (k : Key) (m : ℕ) → Notes before after k m → IsNoted before after k
noted before after k m notes = record {
  there = (m, notes.there);
  stays = λ q h. let found = stays_by before q m h.0 (same_key k q) h.1 in (found.0, notes.others q ∙ found.1);
}

pub sound_within : (nodes new : List NodeKind) (memo : Memo) → IsSound nodes new memo → AreWithin new memo
sound_within nodes new memo sound = record { within = λ k n is. (sound.settles k n is).within }

-- ---- branches by answers

pub decided_answers : (old : List NodeKind) (b : Bool) (met unmet n : ℕ) → met < length old → unmet < length old → n ≡ (if b then met else unmet) → Answers old old (Decided b) met unmet n
decided_answers old true met unmet n one other e = subst (λ (x : ℕ). Answers old old (Decided true) met unmet x) (sym e) (record { branch = always old (λ r. true) met unmet one (λ r range. refl); says = λ on_atom on_change h x y. x })
decided_answers old false met unmet n one other e = subst (λ (x : ℕ). Answers old old (Decided false) met unmet x) (sym e) (record { branch = never old (λ r. false) met unmet other (λ r range. refl); says = λ on_atom on_change h x y. y })

pub asked_answers : (old new : List NodeKind) (a : Atom) (met unmet n : ℕ) → met < length old → unmet < length old → Keeps old new → IsMade old new (Test a met unmet) n → Answers old new (Asked a) met unmet n
asked_answers old new a met unmet n one other keeps made = record {
  branch = made_branch old new a met unmet n one other keeps made;
  says = λ on_atom on_change h x y.
      said_unrolls on_atom on_change new n (Test a met unmet) (record { facts = made.facts; there = made.at.there })
      ∙ and_from (on_atom a) (said_at on_atom on_change new met && said_at on_atom on_change new unmet) h
      (and_from (said_at on_atom on_change new met) (said_at on_atom on_change new unmet) (said_grown on_atom on_change old new met keeps one ∙ x) (said_grown on_atom on_change old new unmet keeps other ∙ y));
}

pub parted_answers : (old new : List NodeKind) (l : ListsBehind) (met unmet n : ℕ) → IsBranch old new (lists_behind l.change l.lists) met unmet n → Answers old new (Parted l) met unmet n
parted_answers old new l met unmet n branch = record { branch = branch; says = λ on_atom on_change h x y. absurd (true≢false (sym h)) }

either_way : (met unmet : ℕ) (b : Bool) → met ≡ unmet → met ≡ (if b then met else unmet)
either_way met unmet true e = refl
either_way met unmet false e = e

-- where both ways lead to one node nothing is asked
pub one_way : (old : List NodeKind) (answer : Answer) (met unmet : ℕ) → met < length old → met ≡ unmet → Answers old old answer met unmet met
one_way old answer met unmet one e = record {
  branch = record {
    within = one;
    keeps = keeps_all old;
    answers = λ r range. ap (λ (p : ℕ). outcome_at old p r) (either_way met unmet (answer_holds answer r) e);
    settled = λ x y. x;
  };
  says = λ on_atom on_change h x y. x;
}

-- ---- the root

-- nothing is pending at the root
pub root_says : (nodes new : List NodeKind) (root : Key) (place n : ℕ) → root.place ≡ place → ((on_value : Change → Bool) (on_rect : RectParts → Bool) → PendingSays on_value on_rect root.pending) → LeavesAll root.pending → Settles nodes new root n
    → (on_atom : Atom → Bool) (on_value : Change → Bool) (on_rect : RectParts → Bool) → apart_at nodes place untouched ≡ true → says_at on_atom on_value on_rect nodes place ≡ true → says_at on_atom on_value on_rect new n ≡ true
root_says nodes new root place n e says none s on_atom on_value on_rect apart said =
    s.says on_atom on_value on_rect (start_says on_atom on_value on_rect nodes root.place root.pending (says on_value on_rect) none (ap (λ (p : ℕ). apart_at nodes p untouched) e ∙ apart) (ap (λ (p : ℕ). says_at on_atom on_value on_rect nodes p) e ∙ said))
