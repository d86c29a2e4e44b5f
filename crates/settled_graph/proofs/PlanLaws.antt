-- What the nodes of a graph come to behind what is pending.
use Rattle.std.proofs.Common.{◌≡◌, refl, sym, ap, subst, ◌∙◌, ℕ, ◌<◌, Bool, true, false, List, if◌then◌else◌}
use Rattle.route_types.specs.Route.{RouteParts}
use Rattle.route_types.specs.declared.change.Change.{Change}
use Rattle.route_types.specs.Community.{RectParts}
use Rattle.route_types.specs.Change.{changed}
use Rattle.pending_changes.specs.Pending.{route_behind, change_says, PendingSays, LeavesApart}
use Rattle.pending_changes.specs.declared.pending.Pending.{Pending}
use Rattle.core_nodes.specs.Atoms.{atom_holds}
use Rattle.core_nodes.specs.Made.{IsAt}
use Rattle.core_nodes.specs.Nodes.{AreNodes}
use Rattle.core_nodes.specs.Outcome.{outcome_at}
use Rattle.core_nodes.specs.declared.atom.Atom.{Atom}
use Rattle.core_nodes.specs.declared.node.NodeKind.{NodeKind}
use Rattle.core_nodes.specs.declared.node.NodeKind.TheVariants.{Test, Do, Stop}
use Rattle.resolved_tests.specs.Answers.{answer_holds, Resolves}
use Rattle.resolved_tests.specs.declared.answer.Answer.{Answer}
use Rattle.resolved_tests.specs.declared.answer.Answer.TheVariants.{Decided}
use Rattle.settled_graph.specs.Keys.{outcome_behind}
use Rattle.settled_graph.specs.Plans.{same_behind, IsAndThen, IsEnd, LeadsTo, Forks}
use Rattle.settled_graph.specs.Said.{MaySay}
use Rattle.settled_graph.proofs.SaidLaws.{test_says, test_hands, do_hands}
use Rattle.settled_graph.specs.declared.key.Key.{Key}

pub is_and_then : (c : Change) (p copied q : Pending) → copied ≡ p → ((r : RouteParts) → route_behind q r ≡ changed c (route_behind copied r))
    → ((on_value : Change → Bool) (on_rect : RectParts → Bool) → PendingSays on_value on_rect copied → change_says on_value on_rect c ≡ true → PendingSays on_value on_rect q) → LeavesApart c copied q → IsAndThen c p q
is_and_then c p copied q e leaves says apart = subst (λ (x : Pending). IsAndThen c x q) e (record { leaves = leaves; says = says; apart = apart })

pub stop_ends : (nodes : List NodeKind) (k : Key) (kind : NodeKind) (accept : Bool) → IsAt nodes k.place kind → kind ≡ Stop accept → IsEnd nodes k accept
stop_ends nodes k kind accept at e =
    let stop : IsAt nodes k.place (Stop accept) = subst (λ (x : NodeKind). IsAt nodes k.place x) e at in
    record { ends = λ r. stop.answers (route_behind k.pending r) }

pub do_leads : (nodes : List NodeKind) (k : Key) (kind : NodeKind) (c : Change) (next : ℕ) (q : Pending) → AreNodes nodes → IsAt nodes k.place kind → kind ≡ Do c next → IsAndThen c k.pending q
    → LeadsTo nodes k (record { place = next; pending = q })
do_leads nodes k kind c next q facts at e both =
    let act : IsAt nodes k.place (Do c next) = subst (λ (x : NodeKind). IsAt nodes k.place x) e at in
    record {
      older = act.before.0;
      same = λ r. act.answers (route_behind k.pending r) ∙ ap (λ (x : RouteParts). outcome_at nodes next x) (sym (both.leaves r));
      hands = λ on_atom on_value on_rect m. do_hands on_atom on_value on_rect nodes k c next q (record { facts = facts; there = act.there }) both.apart (both.says on_value on_rect) m;
    }

pub test_asks : (nodes : List NodeKind) (k : Key) (a : Atom) (answer : Answer) (met unmet : ℕ) → AreNodes nodes → IsAt nodes k.place (Test a met unmet) → Resolves k.pending a answer → Forks nodes k (record { answer = answer; met = met; unmet = unmet })
test_asks nodes k a answer met unmet facts at resolves = record {
  older_met = at.before.0;
  older_unmet = at.before.1.0;
  same = λ r. at.answers (route_behind k.pending r) ∙ ap (λ (b : Bool). outcome_at nodes (if b then met else unmet) (route_behind k.pending r)) (sym (resolves.holds r));
  says = λ on_atom on_value on_rect m. test_says on_atom on_value on_rect nodes k a met unmet answer (record { facts = facts; there = at.there }) resolves m;
  hands = λ on_atom on_value on_rect m. test_hands on_atom on_value on_rect nodes k a met unmet (record { facts = facts; there = at.there }) m;
}

chosen_below : (b : Bool) (met unmet p : ℕ) → met < p → unmet < p → (if b then met else unmet) < p
chosen_below true met unmet p x y = x
chosen_below false met unmet p x y = y

chosen_one : (b : Bool) (met unmet : ℕ) (P : ℕ → Type 0) → P met → P unmet → P (if b then met else unmet)
chosen_one true met unmet P x y = x
chosen_one false met unmet P x y = y

pub test_decided : (nodes : List NodeKind) (k next : Key) (a : Atom) (answer : Answer) (b : Bool) (place met unmet : ℕ) → AreNodes nodes → IsAt nodes k.place (Test a met unmet) → Resolves k.pending a answer → answer ≡ Decided b
    → place ≡ (if b then met else unmet) → next ≡ same_behind k place → LeadsTo nodes k next
test_decided nodes k next a answer b place met unmet facts at resolves decided e f =
    let holds : (r : RouteParts) → b ≡ atom_holds a (route_behind k.pending r) = λ r. sym (ap (λ (x : Answer). answer_holds x r) decided) ∙ resolves.holds r in
    let leads : LeadsTo nodes k (same_behind k (if b then met else unmet)) = record {
      older = chosen_below b met unmet k.place at.before.0 at.before.1.0;
      same = λ r. at.answers (route_behind k.pending r) ∙ ap (λ (x : Bool). outcome_at nodes (if x then met else unmet) (route_behind k.pending r)) (sym (holds r));
      hands = λ on_atom on_value on_rect m.
          let both = test_hands on_atom on_value on_rect nodes k a met unmet (record { facts = facts; there = at.there }) m in
          chosen_one b met unmet (λ p. MaySay on_atom on_value on_rect nodes (same_behind k p)) both.0 both.1;
    } in
    subst (λ (x : Key). LeadsTo nodes k x) (sym f) (subst (λ (p : ℕ). LeadsTo nodes k (same_behind k p)) (sym e) leads)
