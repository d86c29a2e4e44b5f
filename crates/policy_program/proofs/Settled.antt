-- What RPL can say, it can still say when no test follows a change.
use Rattle.std.proofs.Common.{◌≡◌, refl, sym, subst, ℕ, Bool, true, List, [], ◌∷◌}
use Rattle.std.specs.List.{list_all}
use Rattle.route_types.specs.Community.{RectParts}
use Rattle.route_types.specs.declared.change.Change.{Change}
use Rattle.route_types.specs.declared.change.Change.TheVariants.{NextHop, Prepend, Origin, LocalPreference, Med, Weight, Communities}
use Rattle.core_nodes.specs.declared.node.NodeKind.{NodeKind}
use Rattle.core_nodes.specs.declared.atom.Atom.{Atom}
use Rattle.pending_changes.specs.Pending.{change_says}
use Rattle.policy_core.specs.Apart.{untouched, apart_at}
use Rattle.policy_core.specs.Guards.{said_at}
use Rattle.policy_core.specs.Sayable.{rpl_atom, rpl_change}
use Rattle.settled_graph.specs.Said.{says_at}

abbrev any_rect : RectParts → Bool
any_rect r = true

all_any : (rs : List RectParts) → list_all any_rect rs ≡ true
all_any [] = refl
all_any (r ∷ rs) = all_any rs

each_change : (c : Change) → change_says rpl_change any_rect c ≡ rpl_change c
each_change (NextHop h) = refl
each_change (Prepend n) = refl
each_change (Origin o) = refl
each_change (LocalPreference n) = refl
each_change (Med n) = refl
each_change (Weight n) = refl
each_change (Communities c) = all_any c.removed

-- RPL says any rectangle
rpl_says : (λ (c : Change). change_says rpl_change any_rect c) ≡ rpl_change
rpl_says = λ i c. each_change c i

pub settled_says : (old new : List NodeKind) (p q : ℕ)
    → ((on_atom : Atom → Bool) (on_value : Change → Bool) (on_rect : RectParts → Bool) → apart_at old p untouched ≡ true → says_at on_atom on_value on_rect old p ≡ true → says_at on_atom on_value on_rect new q ≡ true)
    → apart_at old p untouched ≡ true → said_at rpl_atom rpl_change old p ≡ true → said_at rpl_atom rpl_change new q ≡ true
settled_says old new p q said apart h =
    subst (λ (f : Change → Bool). said_at rpl_atom f new q ≡ true) rpl_says
    (said rpl_atom rpl_change any_rect apart (subst (λ (f : Change → Bool). said_at rpl_atom f old p ≡ true) (sym rpl_says) h))
