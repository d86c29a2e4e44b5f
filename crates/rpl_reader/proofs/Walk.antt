-- One more item of the walk for the first fault.
use Rattle.std.proofs.Common.{◌≡◌, ap, ◌∙◌, ℕ, ◌+◌, ◌-◌, ◌<◌, ◌≤◌, Bool, List, [], ◌∷◌, length, get_or, take, drop, Option, arith}
use Rattle.std.proofs.lemmas.List.{take_all}
use Rattle.text_words.specs.declared.rpl_blocks.BlockKind.{BlockKind}
use Rattle.rpl_forms.specs.declared.item.RplItem.{RplItem}
use Rattle.rpl_reader.specs.Facts.{Facts, Before, behind_form}
use Rattle.rpl_reader.specs.Faults.{Fault, earlier, open_behind, item_fault, earliest_item}

module _ (policy : List ℕ) (facts : Facts) (blocks : BlockKind → List ℕ → Bool) (found fault next total : Option Fault) (before after : Before) (open_before reached open_after : Bool) (item : RplItem)
    (reached_is : reached ≡ open_behind blocks item.form open_before) (fault_is : fault ≡ item_fault policy facts before reached item) (next_is : next ≡ earlier found fault)
    (after_is : after ≡ behind_form item.form before) (open_is : open_after ≡ reached) where
  pub goes : (rest : List RplItem) (m : ℕ) → 1 ≤ length rest → item ≡ get_or rest 0 item → m ≡ length rest - 1
      → earliest_item policy facts blocks found before open_before rest ≡ total → earliest_item policy facts blocks next after open_after (take m (drop 1 rest)) ≡ total
  unfolding earliest_item
  goes [] m long is len e = absurd (omega arith)
  goes (i ∷ is) m long same len e =
      ap (λ (xs : List RplItem). earliest_item policy facts blocks next after open_after xs) (take_all m is (omega (arith, len)))
      ∙ (λ j. earliest_item policy facts blocks (next_is j) (after_is j) (open_is j) is)
      ∙ (λ j. earliest_item policy facts blocks (earlier found (fault_is j)) (behind_form item.form before) reached is)
      ∙ (λ j. earliest_item policy facts blocks (earlier found (item_fault policy facts before (reached_is j) item)) (behind_form item.form before) (reached_is j) is)
      ∙ (λ j. earliest_item policy facts blocks (earlier found (item_fault policy facts before (open_behind blocks (same j).form open_before) (same j))) (behind_form (same j).form before) (open_behind blocks (same j).form open_before) is)
      ∙ e

pub ends : (policy : List ℕ) (facts : Facts) (blocks : BlockKind → List ℕ → Bool) (found total : Option Fault) (before : Before) (open_before : Bool) (rest : List RplItem) → length rest < 1
    → earliest_item policy facts blocks found before open_before rest ≡ total → found ≡ total
unfolding earliest_item
ends policy facts blocks found total before open_before [] short e = e
ends policy facts blocks found total before open_before (i ∷ is) short e = absurd (omega arith)

-- one more `if` at most, and an item less that is left
pub fewer : (ifs more total m : ℕ) (rest : List RplItem) → 1 ≤ length rest → m ≡ length rest - 1 → more ≤ ifs + 1 → ifs + length rest ≤ total → more + length (take m (drop 1 rest)) ≤ total
fewer ifs more total m [] long len step few = absurd (omega arith)
fewer ifs more total m (i ∷ is) long len step few =
    let same : length (take m is) ≡ length is = ap (λ (xs : List RplItem). length xs) (take_all m is (omega (arith, len))) in omega (arith, same, step, few)
