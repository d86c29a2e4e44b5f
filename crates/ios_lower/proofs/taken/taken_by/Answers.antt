use Rattle.std.proofs.Common.{sym, subst, ◌∙◌, List}
use Rattle.route_types.specs.Community.{RectParts}
use Rattle.ios_lower.specs.Deletions.{AreTaken}
use Rattle.ios_lower.specs.Named.{entries_under}
use Rattle.ios_lower.proofs.NamedLaws.{if_lent}
use Rattle.ios_lower.proofs.taken.taken_by.Goals as goal

pub returns-in-Some : goal.returns-in-Some
returns-in-Some c =
    subst (λ (rects : List RectParts). AreTaken (entries_under c.args.lists.now c.args.name.now) rects) (sym (c.in_ok-copied.ensures ∙ c.as_slice.ensures.value))
    (if_lent (AreTaken (entries_under c.args.lists.now c.args.name.now)) c.get.result _ c.in-Some.rects c.get.ensures.value c.in-Some.is (c.requires c.args.name.now))
