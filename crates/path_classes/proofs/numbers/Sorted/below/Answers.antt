use Rattle.std.proofs.Common.{◌∙◌, ap, ℕ, List, nat_lt, rules}
use Rattle.std.proofs.lemmas.List.Sorted.{IsPartitionPoint-from_clause, IsPartitionedBy-ltb}
use Rattle.path_classes.specs.Numbers.{count_below}
use Rattle.path_classes.proofs.NumbersLaws.{point_counts}
use Rattle.path_classes.proofs.numbers.Sorted.below.Goals as goal

pub returns : goal.returns
returns c =
    let parted = IsPartitionedBy-ltb (λ n. n) _ c.args.number c.as_slice.ensures.rising in
    let point = IsPartitionPoint-from_clause (λ n. nat_lt n c.args.number) c.as_slice.result.now c.partition_point.result c.partition_point.ensures.partitioned (rw c.as_slice.ensures.value parted) (λ a r q k. search rules) in
    point_counts (λ n. nat_lt n c.args.number) c.as_slice.result.now c.partition_point.result c.partition_point.ensures.bound point ∙ ap (λ (xs : List ℕ). count_below c.args.number xs) c.as_slice.ensures.value
