-- What is said from a node on, by its children, and in a graph that grows.
use Rattle.std.proofs.Common.{◌≡◌, refl, sym, ap, subst, ◌∙◌, ℕ, ◌<◌, Bool, true, false, ◌&&◌, ◌||◌, List, [], length, None, true≢false}
use Rattle.std.specs.Prelude.{not}
use Rattle.std.specs.List.{AllByRecursion}
use Rattle.std.proofs.lemmas.Bool.{and_parts, and_from}
use Rattle.route_types.specs.Community.{RectParts}
use Rattle.route_types.specs.declared.change.Change.{Change}
use Rattle.route_types.specs.declared.change.Change.TheVariants.{NextHop as NextHopTo, Prepend, Origin as OriginTo, LocalPreference as PreferenceTo, Med as MedTo, Weight as WeightTo, Communities as CommunitiesBy}
use Rattle.pending_changes.specs.Pending.{change_says, PendingSays, LeavesApart, LeavesAll}
use Rattle.pending_changes.specs.declared.pending.Pending.{Pending}
use Rattle.core_nodes.specs.Made.{Keeps, IsAt}
use Rattle.core_nodes.specs.Nodes.{children, AreNodes}
use Rattle.core_nodes.specs.declared.atom.Atom.{Atom}
use Rattle.core_nodes.specs.declared.atom.Atom.TheVariants.{Prefix, NextHop, Path, Community as Communities, MedOneOf, MedAtLeast, MedAtMost, LocalPreference, Origin as OriginIs, NoCommunity}
use Rattle.core_nodes.specs.declared.node.NodeKind.{NodeKind}
use Rattle.core_nodes.specs.declared.node.NodeKind.TheVariants.{Test, Do, Stop}
use Rattle.policy_core.specs.Guards.{said_by, said_at}
use Rattle.policy_core.proofs.FoldLaws.{IsLocal, Stands, unrolls, fold_grown}
use Rattle.resolved_tests.specs.Answers.{answer_says, IsApart, Resolves}
use Rattle.resolved_tests.specs.declared.answer.Answer.{Answer}
use Rattle.policy_core.specs.Apart.{Touched, untouched, touched_by, is_apart, apart_at}
use Rattle.policy_core.proofs.ApartLaws.{apart_unrolls}
use Rattle.settled_graph.specs.Said.{says_at, IsOf, MaySay}
use Rattle.settled_graph.specs.Plans.{same_behind}
use Rattle.settled_graph.specs.declared.key.Key.{Key}

-- ---- by the children of a node

said_locally : (on_atom : Atom → Bool) (on_change : Change → Bool) (f g : ℕ → Bool) (k : NodeKind) → AllByRecursion (λ p. f p ≡ g p) (children k) → said_by on_atom on_change f k ≡ said_by on_atom on_change g k
said_locally on_atom on_change f g (Test a p q) h = λ i. on_atom a && (h.0 i && h.1.0 i)
said_locally on_atom on_change f g (Do c n) h = λ i. on_change c && h.0 i
said_locally on_atom on_change f g (Stop x) h = refl

pub said_unrolls : (on_atom : Atom → Bool) (on_change : Change → Bool) (nodes : List NodeKind) (p : ℕ) (k : NodeKind) → Stands nodes p k → said_at on_atom on_change nodes p ≡ said_by on_atom on_change (said_at on_atom on_change nodes) k
said_unrolls on_atom on_change nodes p k at = unrolls true (said_by on_atom on_change) (record { local = said_locally on_atom on_change }) nodes p k at.facts at.there

-- ---- in a graph that grows

pub said_grown : (on_atom : Atom → Bool) (on_change : Change → Bool) (old new : List NodeKind) (p : ℕ) → Keeps old new → p < length old → said_at on_atom on_change new p ≡ said_at on_atom on_change old p
said_grown on_atom on_change old new p keeps below =
    ap (λ (l : List NodeKind). said_at on_atom on_change l p) keeps.grown ∙ fold_grown true (said_by on_atom on_change) keeps.more old p below

-- ---- what is pending

turned : (b : Bool) → not b ≡ true → b ≡ false
turned true e = absurd (true≢false (sym e))
turned false e = refl

-- the test asks for nothing that is pending but single values
apart_from : (a : Atom) (t : Touched) (p : Pending) → IsOf t p → is_apart a t ≡ true → IsApart p a
apart_from (Prefix lists) t p of h = tt
apart_from (NextHop lists) t p of h = tt
apart_from (Path lists) t p of h = of.path (turned t.path h)
apart_from (Communities lists) t p of h = of.communities (turned t.communities h)
apart_from (MedOneOf numbers) t p of h = tt
apart_from (MedAtLeast n) t p of h = tt
apart_from (MedAtMost n) t p of h = tt
apart_from (LocalPreference n) t p of h = tt
apart_from (OriginIs o) t p of h = tt
apart_from NoCommunity t p of h = of.communities (turned t.communities h)

one_more : (c : Change) (t : Touched) (p q : Pending) → IsOf t p → LeavesApart c p q → IsOf (touched_by c t) q
one_more (NextHopTo h) t p q of apart = record { path = λ e. apart.path refl ∙ of.path e; communities = λ e. apart.communities refl ∙ of.communities e }
one_more (Prepend n) t p q of apart = record { path = λ e. absurd (true≢false e); communities = λ e. apart.communities refl ∙ of.communities e }
one_more (OriginTo o) t p q of apart = record { path = λ e. apart.path refl ∙ of.path e; communities = λ e. apart.communities refl ∙ of.communities e }
one_more (PreferenceTo n) t p q of apart = record { path = λ e. apart.path refl ∙ of.path e; communities = λ e. apart.communities refl ∙ of.communities e }
one_more (MedTo n) t p q of apart = record { path = λ e. apart.path refl ∙ of.path e; communities = λ e. apart.communities refl ∙ of.communities e }
one_more (WeightTo n) t p q of apart = record { path = λ e. apart.path refl ∙ of.path e; communities = λ e. apart.communities refl ∙ of.communities e }
one_more (CommunitiesBy x) t p q of apart = record { path = λ e. apart.path refl ∙ of.path e; communities = λ e. absurd (true≢false e) }

-- ---- from key to key

module _ (on_atom : Atom → Bool) (on_value : Change → Bool) (on_rect : RectParts → Bool) (nodes : List NodeKind) (k : Key) where
  -- what a test passes on
  pub test_says : (a : Atom) (met unmet : ℕ) (answer : Answer) → Stands nodes k.place (Test a met unmet) → Resolves k.pending a answer → MaySay on_atom on_value on_rect nodes k → answer_says on_atom answer ≡ true
  test_says a met unmet answer at resolves m =
      let said = and_parts (on_atom a) (says_at on_atom on_value on_rect nodes met && says_at on_atom on_value on_rect nodes unmet) (sym (said_unrolls on_atom (change_says on_value on_rect) nodes k.place (Test a met unmet) at) ∙ m.said) in
      let apart = and_parts (is_apart a m.touched) (apart_at nodes met m.touched && apart_at nodes unmet m.touched) (sym (apart_unrolls nodes k.place (Test a met unmet) m.touched at) ∙ m.apart) in
      resolves.said on_atom (apart_from a m.touched k.pending m.of apart.0) said.0

  pub test_hands : (a : Atom) (met unmet : ℕ) → Stands nodes k.place (Test a met unmet) → MaySay on_atom on_value on_rect nodes k
      → MaySay on_atom on_value on_rect nodes (same_behind k met) × MaySay on_atom on_value on_rect nodes (same_behind k unmet)
  test_hands a met unmet at m =
      let said = and_parts (on_atom a) (says_at on_atom on_value on_rect nodes met && says_at on_atom on_value on_rect nodes unmet) (sym (said_unrolls on_atom (change_says on_value on_rect) nodes k.place (Test a met unmet) at) ∙ m.said) in
      let both = and_parts (says_at on_atom on_value on_rect nodes met) (says_at on_atom on_value on_rect nodes unmet) said.1 in
      let apart = and_parts (is_apart a m.touched) (apart_at nodes met m.touched && apart_at nodes unmet m.touched) (sym (apart_unrolls nodes k.place (Test a met unmet) m.touched at) ∙ m.apart) in
      let too = and_parts (apart_at nodes met m.touched) (apart_at nodes unmet m.touched) apart.1 in (
        record { pending = m.pending; said = both.0; touched = m.touched; of = m.of; apart = too.0 },
        record { pending = m.pending; said = both.1; touched = m.touched; of = m.of; apart = too.1 },
      )

  -- what a change passes on
  pub do_hands : (c : Change) (next : ℕ) (q : Pending) → Stands nodes k.place (Do c next) → LeavesApart c k.pending q → (PendingSays on_value on_rect k.pending → change_says on_value on_rect c ≡ true → PendingSays on_value on_rect q)
      → MaySay on_atom on_value on_rect nodes k → MaySay on_atom on_value on_rect nodes (record { place = next; pending = q })
  do_hands c next q at apart says m =
      let said = and_parts (change_says on_value on_rect c) (says_at on_atom on_value on_rect nodes next) (sym (said_unrolls on_atom (change_says on_value on_rect) nodes k.place (Do c next) at) ∙ m.said) in
      record {
        pending = says m.pending said.0;
        said = said.1;
        touched = touched_by c m.touched;
        of = one_more c m.touched k.pending q m.of apart;
        apart = sym (apart_unrolls nodes k.place (Do c next) m.touched at) ∙ m.apart;
      }

-- at the start nothing is pending
pub start_says : (on_atom : Atom → Bool) (on_value : Change → Bool) (on_rect : RectParts → Bool) (nodes : List NodeKind) (place : ℕ) (p : Pending) → PendingSays on_value on_rect p → LeavesAll p → apart_at nodes place untouched ≡ true
    → says_at on_atom on_value on_rect nodes place ≡ true → MaySay on_atom on_value on_rect nodes (record { place = place; pending = p })
start_says on_atom on_value on_rect nodes place p says none apart said = record { pending = says; said = said; touched = untouched; of = record { path = λ e. none.path; communities = λ e. none.communities }; apart = apart }
