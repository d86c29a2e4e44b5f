-- The walk for the first fault: what is kept of the items before.
use Rattle.std.specs.Prelude.{◌≡◌, ℕ, Bool, true, false, ◌||◌, List, [], ◌∷◌, get_or, set, length}
use Rattle.std.specs.BTreeSet.{BTreeSet}
use denote.Ref.{Bor}
use Rattle.policy_text.specs.Causes.{first_fault_from}
use Rattle.policy_text.specs.NameSets.{has_name}
use Rattle.ios_tree.specs.declared.item.IosForm.{IosForm}
use Rattle.ios_tree.specs.declared.item.IosForm.TheVariants.{Line}
use Rattle.ios_tree.specs.declared.item.IosItem.{IosItem}
use Rattle.ios_reader.specs.Items.{is_marked}
use Rattle.ios_reader.specs.Lines.{kind_of}
use Rattle.ios_reader.specs.Facts.{before_of}
use Rattle.ios_reader.specs.Profile.{span_of, rules_of}
use Rattle.ios_reader.specs.Known.{told}
use Rattle.ios_reader.specs.declared.place.Place.{Place}

-- the flag of a kind
abbrev pub has_kind : List Bool → ℕ → Bool
has_kind kinds kind = get_or kinds kind false

-- no kind's flag
abbrev pub no_kinds : List Bool
no_kinds = false ∷ false ∷ false ∷ false ∷ false ∷ false ∷ false ∷ false ∷ false ∷ false ∷ false ∷ false ∷ false ∷ false ∷ false ∷ []

-- the flags with that of a form that is a line
abbrev pub kinds_with : List Bool → IosForm → List Bool
kinds_with kinds (Line l) = set kinds (kind_of l) true
kinds_with kinds _ = kinds

-- a set of marks
abbrev pub Marks : Type 0
Marks = BTreeSet (Bor (List ℕ) × ℕ × ℕ)

-- the second set has the marks of the first, and that of the item
abbrev pub KeepsMark : Marks → Marks → IosItem → Type 0
KeepsMark marks more i = (q : List ℕ) (s n : ℕ) → has_name more q s n ≡ (is_marked q s n i.form || has_name marks q s n)

-- the place and the marks tell what stands before, behind these items, the nearest first
pub record IsBehind (name : List ℕ) (before : List IosItem) (place : Place) (marks : Marks) : Type 0 where
  pub tells : told place marks ≡ before_of name before
  pub len : length place.kinds ≡ 15

-- the walk has come to the rest without a fault
abbrev pub IsWalking : (IosForm → Bool) → List ℕ → List IosItem → List IosItem → Place → Marks → Type 0
IsWalking takes name all rest place marks =
    (before : List IosItem) × IsBehind name before place marks × (first_fault_from span_of (rules_of takes name all) before rest ≡ first_fault_from span_of (rules_of takes name all) [] all)
