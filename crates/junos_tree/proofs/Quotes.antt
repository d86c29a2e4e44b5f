-- The words before the last one, as the program takes them.
use Rattle.std.proofs.Common.{◌≡◌, refl, ap, suc, ◌-◌, ◌≤◌, ◌<◌, Bool, true, not, ◌&&◌, List, [], ◌∷◌, length, take, arith}
use Rattle.text_words.specs.declared.statement.Word.{Word}
use Rattle.junos_tree.specs.Tree.{are_plain, are_plain_but_last}

pub plain_before_last : (ws : List Word) → 1 ≤ length ws → are_plain (take (length ws - 1) ws) ≡ are_plain_but_last ws
plain_before_last [] some = absurd (omega (arith, some))
plain_before_last (w ∷ []) some = refl
plain_before_last (w ∷ v ∷ ws) some =
    let k : length (w ∷ v ∷ ws) - 1 ≡ suc (length (v ∷ ws) - 1) = omega arith in
    rw k (ap (λ (b : Bool). not w.quoted && b) (plain_before_last (v ∷ ws) (omega arith)))

pub plain_nothing : (ws : List Word) → length ws < 1 → are_plain_but_last ws ≡ true
plain_nothing [] short = refl
plain_nothing (w ∷ ws) short = absurd (omega arith)
