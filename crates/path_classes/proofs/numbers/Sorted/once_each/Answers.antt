use Rattle.std.proofs.Common.{eqb, subst, sym, ℕ, List, Contains}
use Rattle.std.specs.List.Sorted.{IsNonDecreasing}
use Rattle.std.proofs.lemmas.List.Filters.{dedup_is}
use Rattle.std.proofs.lemmas.List.Kept.{Contains-dedup_nat}
use Rattle.std.proofs.lemmas.List.Sorted.{Contains-permutation}
use Rattle.std.proofs.lemmas.Map.Keys.{IsStrictlyIncreasing-dedup}
use Rattle.path_classes.proofs.NumbersLaws.{rising_of}
use Rattle.path_classes.proofs.numbers.Sorted.once_each.Goals as goal

pub invariant_of-result : goal.invariant_of-result
invariant_of-result c =
    let is = dedup_is eqb c.sort_unstable.new.self.items c.dedup.new.self.items c.dedup.ensures.filtered in
    subst (λ (xs : List ℕ). IsNonDecreasing xs) (sym is) (rising_of _ (IsStrictlyIncreasing-dedup c.sort_unstable.new.self.items c.sort_unstable.ensures.sorted))

pub returns : goal.returns
returns c = λ x there.
    let is = dedup_is eqb c.sort_unstable.new.self.items c.dedup.new.self.items c.dedup.ensures.filtered in
    subst (λ (xs : List ℕ). Contains xs x) (sym is) (Contains-dedup_nat c.sort_unstable.new.self.items x (Contains-permutation c.args.numbers.items c.sort_unstable.new.self.items x c.sort_unstable.ensures.permutation there))
