use Rattle.std.proofs.Common.{ap, subst, ◌∙◌, List}
use Rattle.std.specs.Prelude.{◌==◌}
use Rattle.std.specs.List.{list_any, list_all}
use Rattle.std.specs.List.Sorted.{IsPermutation}
use Rattle.route_types.specs.declared.community.Community.{Community}
use Rattle.ios_meaning.proofs.Members.{same_set_found}
use Rattle.ios_meaning.proofs.community_answers.is_same_set.Goals as goal

pub returns : goal.returns
returns c =
    let moved = subst (λ (ms : List Community). IsPermutation ms c.sort_unstable.new.self.items) c.in_ok-ordered_members.ensures.items c.sort_unstable.ensures.permutation in
    let second = c.are_members-2.ensures ∙ ap (λ (ms : List Community). list_all (λ m. list_any (λ c. c.0 == m.0) ms) c.args.ordered.now) c.as_slice.ensures.value in
    same_set_found c.args.members.now c.sort_unstable.new.self.items c.args.ordered.now c.are_members.result c.are_members-2.result moved c.are_members.ensures c.if-not-are_members.false second
