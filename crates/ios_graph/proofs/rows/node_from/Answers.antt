use Rattle.std.proofs.Common.{rules, ◌≡◌, sym, subst, ◌-◌, nat_le, List, slice_index_or}
use Rattle.std.proofs.lemmas.List.Sorted.{IsPartitionPoint-from_clause}
use Rattle.ios_graph.specs.Rows.{Falls, node_from}
use Rattle.ios_graph.specs.declared.rows.Target.{Target}
use Rattle.ios_graph.proofs.Halving.{at_none, at_last, parted}
use Rattle.ios_graph.proofs.rows.node_from.Goals as goal

pub returns-then-count-eq0 : goal.returns-then-count-eq0
returns-then-count-eq0 c =
    let falls = subst Falls (sym c.as_slice-targets.ensures.value) c.requires in
    let point = IsPartitionPoint-from_clause (λ (t : Target). nat_le c.args.number t.number) _ _ c.partition_point-count.ensures.partitioned (parted c.args.number _ falls) (λ a r q k. search rules) in
    subst (λ (ts : List Target). c.args.rows.now.accepted ≡ node_from c.args.number c.args.rows.now.accepted ts) c.as_slice-targets.ensures.value
    (at_none c.args.number c.args.rows.now.accepted c.as_slice-targets.result.now c.partition_point-count.result point c.if-count-eq0.true)

pub returns : goal.returns
returns c =
    let falls = subst Falls (sym c.as_slice-targets.ensures.value) c.requires in
    let point = IsPartitionPoint-from_clause (λ (t : Target). nat_le c.args.number t.number) _ _ c.partition_point-count.ensures.partitioned (parted c.args.number _ falls) (λ a r q k. search rules) in
    subst (λ (ts : List Target). (slice_index_or c.as_slice-targets.result.now (c.partition_point-count.result - 1) c.index-targets-count.result).node ≡ node_from c.args.number c.args.rows.now.accepted ts) c.as_slice-targets.ensures.value
    (at_last c.args.number c.args.rows.now.accepted c.as_slice-targets.result.now c.partition_point-count.result point c.if-count-eq0.false c.partition_point-count.ensures.bound c.index-targets-count.result)
