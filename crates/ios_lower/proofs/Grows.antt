-- Lists that grow at their front, one element or some at a time.
use Rattle.std.proofs.Common.{◌≡◌, refl, sym, ap, subst, ◌∙◌, List, [], ◌∷◌, ◌++◌, append_assoc, inl, inr, ◌⊎◌}
use Rattle.std.specs.List.{AllByRecursion}
use Rattle.path_patterns.proofs.Lists.{all_append}
use Rattle.ios_lower.specs.Grows.{Grows}

-- what holds of each element by one reason holds by a wider one
pub all_wider : {A : Type 0} (P Q : A → Type 0) (xs : List A) → ((x : A) → P x → Q x) → AllByRecursion P xs → AllByRecursion Q xs
all_wider P Q [] wider h = tt
all_wider P Q (x ∷ xs) wider h = (wider x h.0, all_wider P Q xs wider h.1)

pub grows_none : {K : Type 0} (P : K → Type 0) (old : List K) → Grows P old old
grows_none P old = record { more = []; grown = refl; each = tt }

pub grows_one : {K : Type 0} (P : K → Type 0) (old now new : List K) (k : K) → P k → Grows P old now → (new ≡ now) ⊎ (new ≡ k ∷ now) → Grows P old new
grows_one P old now new k h g (inl e) = record { more = g.more; grown = e ∙ g.grown; each = g.each }
grows_one {K} P old now new k h g (inr e) = record { more = k ∷ g.more; grown = e ∙ ap (λ (xs : List K). k ∷ xs) g.grown; each = (h, g.each) }

pub grows_both : {K : Type 0} (P : K → Type 0) (old now new : List K) → Grows P old now → Grows P now new → Grows P old new
grows_both {K} P old now new g h =
    record { more = h.more ++ g.more; grown = h.grown ∙ ap (λ (xs : List K). h.more ++ xs) g.grown ∙ sym (append_assoc h.more g.more old); each = all_append P h.more g.more h.each g.each }

pub grows_wider : {K : Type 0} (P Q : K → Type 0) (old new : List K) → ((k : K) → P k → Q k) → Grows P old new → Grows Q old new
grows_wider P Q old new wider g = record { more = g.more; grown = g.grown; each = all_wider P Q g.more wider g.each }

-- what holds of all of the old list and of each that came holds of all
pub all_grown : {K : Type 0} (P : K → Type 0) (old new : List K) → Grows P old new → AllByRecursion P old → AllByRecursion P new
all_grown {K} P old new g h = subst (λ (xs : List K). AllByRecursion P xs) (sym g.grown) (all_append P g.more old g.each h)
