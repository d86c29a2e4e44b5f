use Rattle.std.proofs.Common.{refl}
use Rattle.std.proofs.lemmas.List.Filters.{dedup_is}
use Rattle.route_types.specs.Community.{number}
use Rattle.route_types.proofs.Sets.{same_community}
use Rattle.route_types.proofs.Sorted.{dedup_is_set}
use Rattle.community_cuts.proofs.both.set_of.Goals as goal

pub returns : goal.returns
returns c =
    dedup_is_set number same_community _ (λ x y. refl) c.args.list.items c.sort_unstable.new.self.items c.dedup.new.self.items c.sort_unstable.ensures.permutation c.sort_unstable.ensures.sorted (dedup_is _ _ _ c.dedup.ensures.filtered)
