-- The nodes of the entries that are in a graph, in two rows: for the routes for which some entry before held, and for
-- those for which none did.
use Rattle.std.specs.Prelude.{◌≡◌, ◌≤◌, ℕ, true, false, nat_le, List, [], ◌∷◌, ◌++◌, Option, Some, None, unwrap_or}
use Rattle.std.specs.List.{AllByRecursion}
use Rattle.ios_graph.specs.declared.rows.Target.{Target}
use Rattle.ios_graph.specs.declared.rows.Rows.{Rows}

-- the node of the first entry that has this number or a greater one, the last entry standing first in the list;
-- where none of them has, the node behind
abbrev pub node_from : ℕ → ℕ → List Target → ℕ
node_from n behind [] = behind
node_from n behind (t ∷ ts) = node_from n (elim (nat_le n t.number) [ true ↦ t.node | false ↦ behind ]) ts

-- where the run goes on behind an entry that held: nowhere, at the next entry, or at the one of a number
abbrev pub node_behind : Rows → Option (Option ℕ) → ℕ
node_behind rows None = rows.accepted
node_behind rows (Some target) = node_from (unwrap_or target 0) rows.accepted rows.some_held.items

-- no entry has a greater number than one that stands before it in the list
abbrev pub Falls : List Target → Type 0
Falls [] = Unit {0}
Falls (t ∷ ts) = AllByRecursion (λ u. u.number ≤ t.number) ts × Falls ts

-- the rows have one more entry in front
pub record HasMore (old : Rows) (number none some : ℕ) (new : Rows) : Type 0 where
  pub accepted : new.accepted ≡ old.accepted
  pub rejected : new.rejected ≡ old.rejected
  pub none_held : new.none_held ≡ none
  pub some_held : new.some_held.items ≡ old.some_held.items ++ record { number = number; node = some } ∷ []
