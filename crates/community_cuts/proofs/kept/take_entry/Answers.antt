use Rattle.std.proofs.Common.{refl}
use Rattle.community_sets.specs.declared.list.CommTest.TheVariants.{AllOf}
use Rattle.community_cuts.proofs.KeptLaws.{takes_asked}
use Rattle.community_cuts.proofs.kept.take_entry.Goals as goal

pub returns-in_ok-push-in-Asked : goal.returns-in_ok-push-in-Asked
returns-in_ok-push-in-Asked c =
    takes_asked c.args.kept.now c.push.new.self c.args.entry.now (record { permit = c.args.entry.now.permit; test = AllOf c.in-Asked.rects }) c.args.change.now c.in_ok-test_before.field-0 c.in-Asked.rects
    c.in-Asked.is c.in_ok-test_before.ensures.tells c.in_ok-test_before.ensures.said refl c.in_ok-push-in-Asked.ensures
