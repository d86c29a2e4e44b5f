-- The first of all faults that are met: it is one of them, and it comes before each of them.
use Rattle.std.proofs.Common.{◌≡◌, refl, sym, subst, ℕ, Bool, inl, inr, List, [], ◌∷◌, Option}
use Rattle.step_search.specs.Found.{IsIn}
use Rattle.text_words.specs.declared.rpl_blocks.BlockKind.{BlockKind}
use Rattle.policy_text.specs.Causes.{behind, Place}
use Rattle.rpl_forms.specs.declared.item.RplItem.{RplItem}
use Rattle.rpl_reader.specs.Facts.{Facts, before_of}
use Rattle.rpl_reader.specs.Faults.{Fault, earlier, is_open_reached, item_fault, earliest_item, earliest_of}
use Rattle.rpl_reader.proofs.Earlier.{Keeps, IsAhead, both_keep, ahead_left, ahead_right}

-- ---- faults of a list

module _ {A : Type 0} (fault : A → Option Fault) where
  pub each_keeps : (P : Fault → Type 0) (found : Option Fault) (xs : List A) → Keeps P found → ((x : A) → IsIn x xs → Keeps P (fault x)) → Keeps P (earliest_of fault found xs)
  unfolding earliest_of
  each_keeps P found [] keeps each = keeps
  each_keeps P found (x ∷ xs) keeps each = each_keeps P (earlier found (fault x)) xs (both_keep P found (fault x) keeps (each x (inl refl))) (λ y there. each y (inr there))

  pub each_after : (h : Fault) (found : Option Fault) (xs : List A) → IsAhead found h → IsAhead (earliest_of fault found xs) h
  unfolding earliest_of
  each_after h found [] first = first
  each_after h found (x ∷ xs) first = each_after h (earlier found (fault x)) xs (ahead_left found (fault x) h first)

  pub each_ahead : (h : Fault) (found : Option Fault) (xs : List A) (x : A) → IsIn x xs → IsAhead (fault x) h → IsAhead (earliest_of fault found xs) h
  unfolding earliest_of
  each_ahead h found [] x there first = absurd there
  each_ahead h found (y ∷ xs) x (inl is) first = each_after h (earlier found (fault y)) xs (ahead_right found (fault y) h (subst (λ (z : A). IsAhead (fault z) h) is first))
  each_ahead h found (y ∷ xs) x (inr more) first = each_ahead h (earlier found (fault y)) xs x more first

-- ---- faults of items

module _ (policy : List ℕ) (facts : Facts) (reached : BlockKind → List ℕ → Bool) where
  -- the fault of an item behind these
  abbrev pub fault_behind : List RplItem → RplItem → Option Fault
  fault_behind before i = item_fault policy facts (before_of before) (is_open_reached reached (i ∷ before)) i

  -- the first fault from an item on
  abbrev from : Option Fault → List RplItem → List RplItem → Option Fault
  from found before rest = earliest_item policy facts reached found (before_of before) (is_open_reached reached before) rest

  pub items_keep : (P : Fault → Type 0) (all : List RplItem) → ((p : Place all) → Keeps P (fault_behind p.before p.item)) → (found : Option Fault) (before rest : List RplItem) → all ≡ behind before rest → Keeps P found → Keeps P (from found before rest)
  unfolding earliest_item
  items_keep P all each found before [] is keeps = keeps
  items_keep P all each found before (i ∷ is) same keeps =
      items_keep P all each (earlier found (fault_behind before i)) (i ∷ before) is same
      (both_keep P found (fault_behind before i) keeps (each (record { before = before; item = i; rest = is; is = same })))

  pub items_after : (h : Fault) (found : Option Fault) (before rest : List RplItem) → IsAhead found h → IsAhead (from found before rest) h
  unfolding earliest_item
  items_after h found before [] first = first
  items_after h found before (i ∷ is) first = items_after h (earlier found (fault_behind before i)) (i ∷ before) is (ahead_left found (fault_behind before i) h first)

  -- what comes first from an item on comes first in the whole
  from_start : (h : Fault) (before rest : List RplItem) → ((found : Option Fault) → IsAhead (from found before rest) h) → (found : Option Fault) → IsAhead (from found [] (behind before rest)) h
  unfolding earliest_item
  from_start h [] rest first = first
  from_start h (i ∷ before) rest first = from_start h before (i ∷ rest) (λ found. first (earlier found (fault_behind before i)))

  at_place : (h : Fault) (before rest : List RplItem) (i : RplItem) → IsAhead (fault_behind before i) h → (found : Option Fault) → IsAhead (from found before (i ∷ rest)) h
  unfolding earliest_item
  at_place h before rest i first found = items_after h (earlier found (fault_behind before i)) (i ∷ before) rest (ahead_right found (fault_behind before i) h first)

  pub items_ahead : (h : Fault) (all : List RplItem) (p : Place all) → IsAhead (fault_behind p.before p.item) h → (found : Option Fault) → IsAhead (from found [] all) h
  items_ahead h all p first found =
      subst (λ (xs : List RplItem). IsAhead (from found [] xs) h) (sym p.is) (from_start h p.before (p.item ∷ p.rest) (at_place h p.before p.rest p.item first) found)
