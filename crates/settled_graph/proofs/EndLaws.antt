-- Nodes that make changes one after the other, and end.
use Rattle.std.proofs.Common.{◌≡◌, refl, sym, ap, subst, ◌∙◌, ℕ, ◌<◌, Bool, true, false, ◌&&◌, List, [], ◌∷◌, ◌++◌, length, Option, Some}
use Rattle.std.specs.Prelude.{option_to_list}
use Rattle.std.specs.List.{list_all}
use Rattle.std.proofs.lemmas.Bool.{and_parts, and_from}
use Rattle.std.proofs.lemmas.List.Folds.{list_all-append}
use Rattle.route_types.specs.Community.{RectParts}
use Rattle.route_types.specs.Change.{changed, changed_by}
use Rattle.route_types.specs.Route.{RouteParts}
use Rattle.route_types.specs.declared.change.Change.{Change}
use Rattle.pending_changes.specs.Pending.{route_behind, change_says, PendingSays}
use Rattle.pending_changes.specs.declared.pending.Pending.{Pending}
use Rattle.core_nodes.specs.Made.{Keeps, IsMade}
use Rattle.core_nodes.specs.Outcome.{ended, outcome_at}
use Rattle.core_nodes.specs.declared.node.NodeKind.{NodeKind}
use Rattle.core_nodes.specs.declared.node.NodeKind.TheVariants.{Do, Stop}
use Rattle.core_nodes.proofs.Places.{keeps_all, keeps_both}
use Rattle.policy_core.proofs.SettledLaws.{untested_grown, act_untested, act_settled, stop_settled, untested_stop}
use Rattle.policy_core.specs.Guards.{said_at}
use Rattle.settled_graph.specs.Ends.{Acts, EndsBehind}
use Rattle.settled_graph.proofs.SaidLaws.{said_unrolls, said_grown}

changed_both : (cs ds : List Change) (r : RouteParts) → changed_by (cs ++ ds) r ≡ changed_by ds (changed_by cs r)
changed_both [] ds r = refl
changed_both (c ∷ cs) ds r = changed_both cs ds (changed c r)

-- what a list was before its last element was taken
pub popped : {A : Type 0} (old new : List A) (o : Option A) (x : A) → old ≡ new ++ option_to_list o → o ≡ Some x → old ≡ new ++ x ∷ []
popped {A} old new o x e s = e ∙ ap (λ (p : Option A). new ++ option_to_list p) s

pub acts_none : (old : List NodeKind) (changes : List Change) (next : ℕ) → next < length old → Acts old old changes changes next next
acts_none old changes next h = record { within = h; keeps = keeps_all old; answers = λ r. refl; untested = λ x. x; settled = λ x y. y; says = λ on_atom on_change h s. (h, s) }

-- the last change that is left is made before the node
pub acts_more : (old now new : List NodeKind) (changes left : List Change) (c : Change) (next n p : ℕ) → Acts old now changes (left ++ c ∷ []) next n → IsMade now new (Do c n) p → Keeps now new → Acts old new changes left next p
acts_more old now new changes left c next n p t m k =
    record {
      within = m.at.within;
      keeps = keeps_both old now new t.keeps k;
      answers = λ r. m.answers (changed_by left r) ∙ ap (λ (q : RouteParts). outcome_at now n q) (sym (changed_both left (c ∷ []) r)) ∙ t.answers r;
      untested = λ x. act_untested new p n c (record { facts = m.facts; there = m.at.there }) (untested_grown now new n k t.within (t.untested x));
      settled = λ x y. act_settled new p n c (record { facts = m.facts; there = m.at.there }) (untested_grown now new n k t.within (t.untested x));
      says = λ on_atom on_change h s.
          let both = t.says on_atom on_change h s in
          let parts = and_parts (list_all on_change left) (on_change c && true) (sym (list_all-append on_change left (c ∷ [])) ∙ both.0) in
          let own = (and_parts (on_change c) true parts.1).0 in (
            parts.0,
            said_unrolls on_atom on_change new p (Do c n) (record { facts = m.facts; there = m.at.there })
                ∙ and_from (on_change c) (said_at on_atom on_change new n) own (said_grown on_atom on_change now new n k t.within ∙ both.1),
          );
    }

-- the end behind the changes
pub accepts_behind : (old mid new : List NodeKind) (changes : List Change) (p : Pending) (last n : ℕ) → IsMade old mid (Stop true) last → Keeps old mid → ((r : RouteParts) → changed_by changes r ≡ route_behind p r)
    → ((on_value : Change → Bool) (on_rect : RectParts → Bool) → PendingSays on_value on_rect p → list_all (change_says on_value on_rect) changes ≡ true) → Acts mid new changes [] last n → EndsBehind old new true p n
accepts_behind old mid new changes p last n made keeps leaves said acts =
    record {
      within = acts.within;
      keeps = keeps_both old mid new keeps acts.keeps;
      answers = λ r. acts.answers r ∙ made.answers (changed_by changes r) ∙ ap (λ (q : RouteParts). ended true q) (leaves r);
      settled = acts.settled (untested_stop mid last true (record { facts = made.facts; there = made.at.there })) (stop_settled mid last true (record { facts = made.facts; there = made.at.there }));
      says = λ on_atom on_value on_rect pending.
          (acts.says on_atom (change_says on_value on_rect) (said on_value on_rect pending)
          (said_unrolls on_atom (change_says on_value on_rect) mid last (Stop true) (record { facts = made.facts; there = made.at.there }))).1;
    }

-- a route that is rejected is changed no more
pub rejects_behind : (old new : List NodeKind) (accept : Bool) (p : Pending) (n : ℕ) → accept ≡ false → IsMade old new (Stop false) n → Keeps old new → EndsBehind old new accept p n
rejects_behind old new accept p n e made keeps =
    subst (λ (b : Bool). EndsBehind old new b p n) (sym e) (record {
      within = made.at.within;
      keeps = keeps;
      answers = λ r. made.answers r;
      settled = stop_settled new n false (record { facts = made.facts; there = made.at.there });
      says = λ on_atom on_value on_rect pending. said_unrolls on_atom (change_says on_value on_rect) new n (Stop false) (record { facts = made.facts; there = made.at.there });
    })

pub accepts : (old new : List NodeKind) (accept : Bool) (p : Pending) (n : ℕ) → accept ≡ true → EndsBehind old new true p n → EndsBehind old new accept p n
accepts old new accept p n e h = subst (λ (b : Bool). EndsBehind old new b p n) (sym e) h
