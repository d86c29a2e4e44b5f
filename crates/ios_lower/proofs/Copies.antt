-- Communities that are copied one after the other, and numbers of which changes are made.
use Rattle.std.proofs.Common.{◌≡◌, refl, sym, ap, ◌∙◌, ℕ, ◌<◌, List, [], ◌∷◌, ◌++◌, append_assoc}
use Rattle.std.specs.Prelude.{◌^◌, map}
use Rattle.std.proofs.lemmas.List.{append-nil}
use Rattle.route_types.specs.declared.change.Change.{Change}
use Rattle.route_types.specs.declared.change.Change.TheVariants.{Prepend}
use Rattle.route_types.specs.declared.community.Community.{Community}
use Rattle.path_patterns.specs.Items.{IsPath}
use Rattle.ios_lower.specs.ChangeSteps.{AreSmall}

-- the communities that are left have not been copied
pub record Copied (all left copy : List Community) : Type 0 where
  pub same : copy ++ left ≡ all
  pub small : AreSmall left → AreSmall all

pub copied_none : (all : List Community) → Copied all all []
copied_none all = record { same = refl; small = λ h. h }

pub copied_more : (all left copy more : List Community) (c : Community) → Copied all (c ∷ left) copy → c.0 < 2 ^ 32 → more ≡ copy ++ c ∷ [] → Copied all left more
copied_more all left copy more c t h e =
    record { same = ap (λ (xs : List Community). xs ++ left) e ∙ append_assoc copy (c ∷ []) left ∙ t.same; small = λ k. t.small (h, k) }

pub copied_all : (all copy : List Community) → Copied all [] copy → (copy ≡ all) × AreSmall all
copied_all all copy t = (sym (append-nil copy) ∙ t.same, t.small tt)

-- of the numbers that are left no changes have been made
pub record Prepended (all left : List ℕ) (found : List Change) : Type 0 where
  pub same : found ++ map (λ n. Prepend n) left ≡ map (λ n. Prepend n) all
  pub small : IsPath left → IsPath all

pub prepended_none : (all : List ℕ) → Prepended all all []
prepended_none all = record { same = refl; small = λ h. h }

pub prepended_more : (all left : List ℕ) (found more : List Change) (n : ℕ) → Prepended all (n ∷ left) found → n < 2 ^ 32 → more ≡ found ++ Prepend n ∷ [] → Prepended all left more
prepended_more all left found more n t h e =
    record {
      same = ap (λ (xs : List Change). xs ++ map (λ m. Prepend m) left) e ∙ append_assoc found (Prepend n ∷ []) (map (λ m. Prepend m) left) ∙ t.same;
      small = λ k. t.small (h, k);
    }

pub prepended_all : (all : List ℕ) (found : List Change) → Prepended all [] found → (found ≡ map (λ n. Prepend n) all) × IsPath all
prepended_all all found t = (sym (append-nil found) ∙ t.same, t.small tt)
