use Rattle.std.proofs.Common.{◌∙◌, ◌++◌, ap, sym, map}
use Rattle.std.proofs.lemmas.List.{append-nil}
use Rattle.policy_core.specs.Waiting.{guarded}
use Rattle.policy_core.proofs.FoldLaws.{Stands}
use Rattle.policy_core.proofs.SettledLaws.{untested_unless}
use Rattle.policy_core.proofs.ListedLaws.{none_alone}
use Rattle.policy_core.proofs.listing.push_alone.Goals as goal

pub returns-then-is_test : goal.returns-then-is_test
returns-then-is_test c =
    let at : Stands c.args.core.now c.args.place c.kind.result.now = record { facts = c.kind.ensures.facts; there = c.kind.ensures.at.there } in
    sym (ap (λ xs. c.args.found.now ++ map (guarded c.args.guard) xs) (none_alone c.args.core.now c.args.place c.kind.result.now at (sym c.is_test.ensures ∙ c.if-is_test.true))
    ∙ append-nil c.args.found.now)

pub one_step-requires : goal.one_step-requires
one_step-requires c =
    let at : Stands c.args.core.now c.args.place c.kind.result.now = record { facts = c.kind.ensures.facts; there = c.kind.ensures.at.there } in
    record {
      within = c.requires.within;
      untested = untested_unless c.args.core.now c.args.place c.kind.result.now at (sym c.is_test.ensures ∙ c.if-is_test.false) c.requires.settled;
    }
