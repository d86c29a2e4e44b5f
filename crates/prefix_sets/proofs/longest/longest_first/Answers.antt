use Rattle.std.proofs.Common.{subst, map, List, rules}
use Rattle.std.specs.List.Sorted.{IsPermutation}
use Rattle.std.proofs.lemmas.List.Sorted.{All-permutation, IsPermutation-map, answers_always}
use Rattle.prefix_sets.specs.LongestEntries.{IsKeyed}
use Rattle.prefix_sets.specs.Range.{RangeParts}
use Rattle.prefix_sets.proofs.LongestMatch.{sorted_rises}
use Rattle.prefix_sets.proofs.longest.longest_first.Goals as goal

pub returns-clause-moved : goal.returns-clause-moved
returns-clause-moved c =
    subst (λ (fs : List RangeParts). IsPermutation fs (map (λ k. k.range) c.sort_by_key.new.self.items)) c.in_ok-sorted.ensures.ranges (IsPermutation-map (λ k. k.range) _ _ c.in_ok-sort_by_key.ensures.permutation)

pub returns-clause-keyed : goal.returns-clause-keyed
returns-clause-keyed c = All-permutation IsKeyed _ _ c.in_ok-sort_by_key.ensures.permutation c.in_ok-sorted.ensures.keyed

pub returns-clause-rising : goal.returns-clause-rising
returns-clause-rising c =
    sorted_rises c.sort_by_key.new.self.items (c.in_ok-sort_by_key.ensures.sorted (λ k. (k.host_bits, k.bits)) (answers_always _ _ _ (λ f a r g h. search rules)))
