-- The text of the items that are written is a pattern of the same paths, and matches some path.
use Rattle.std.proofs.Common.{◌≡◌, refl, sym, subst, ℕ, ◌↔◌, List, [], ◌∷◌, Option, Some, map, inl, inr}
use Rattle.path_patterns.specs.Items.{Taken, takes_of, Matches}
use Rattle.path_patterns.specs.JunosItems.{Writes}
use Rattle.aspath_text.specs.JunosText.{items_text}
use Rattle.aspath_text.specs.Printing.{PrintsJunos}
use Rattle.path_patterns.specs.declared.items.TokenBranch.{TokenBranch}
use Rattle.path_patterns.specs.declared.items.TokenItem.{TokenItem}
use Rattle.aspath_text.proofs.JunosSpelled.{items_spelled, some_path}

alone : (js is : List TokenItem) (path : List ℕ) → (Taken (map takes_of js) path ↔ Taken (map takes_of is) path) → Matches (record { branches = record { items = js } ∷ [] }) path ↔ Taken (map takes_of is) path
alone js is path same = (λ h. elim h [ inl x ↦ same.0 x | inr e ↦ absurd e ], λ h. inl (same.1 h))

printed : (b : TokenBranch) (js : List TokenItem) → Writes b.items (Some js) → PrintsJunos b (Some (items_text js))
printed b js (can, same) =
    let (path, within, taken) = some_path js can in (
      (path, within, (same path within).0 taken),
      (record { branches = record { items = js } ∷ [] }, (js, refl, items_spelled js can), λ p w. alone js b.items p (same p w)),
    )

-- the text of what is written for the items of a branch
pub prints : (b : TokenBranch) (is js lent : List TokenItem) (o : Option (List TokenItem)) (text : List ℕ) → is ≡ b.items → Writes is o → o ≡ Some js → lent ≡ js → text ≡ items_text lent → PrintsJunos b (Some text)
prints b is js lent o text of_branch writes some lends is_text =
    let w : Writes b.items (Some js) = subst (λ (x : Option (List TokenItem)). Writes b.items x) some (subst (λ (xs : List TokenItem). Writes xs o) of_branch writes) in
    subst (λ (t : List ℕ). PrintsJunos b (Some t)) (sym is_text) (subst (λ (xs : List TokenItem). PrintsJunos b (Some (items_text xs))) (sym lends) (printed b js w))
