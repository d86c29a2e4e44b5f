use Rattle.std.proofs.Common.{◌≡◌, ap, ◌∙◌, ◌++◌, ℕ, List, [], ◌∷◌, Option, Some, true, false, length, arith}
use Rattle.std.specs.Prelude.{bytes_eq}
use Rattle.name_maps.specs.Under.{under}
use Rattle.step_search.proofs.Tables.{added}
use Rattle.step_search.proofs.places.Places.add.Goals as goal

pub returns : goal.returns
returns c =
    let place : c.len-place.result ≡ length c.args.self.now.earlier.items = omega (arith, c.len-place.ensures, c.args.self.now.earlier.ok) in
    λ names n told is. added names n c.args.self.now _ c.args.name.now told is
    (λ q. c.in_ok-put.ensures q ∙ ap (λ (k : ℕ). elim (bytes_eq q c.args.name.now) [ true ↦ Some k | false ↦ under c.args.self.now.last.entries q ]) place)
    (c.in_ok-push.ensures.items ∙ ap (λ (o : Option ℕ). c.args.self.now.earlier.items ++ o ∷ []) c.get.ensures)
