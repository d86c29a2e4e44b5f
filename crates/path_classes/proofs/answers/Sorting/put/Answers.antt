use Rattle.std.proofs.Common.{refl}
use Rattle.path_classes.proofs.SortingLaws.{class_put}
use Rattle.path_classes.proofs.answers.Sorting.put.Goals as goal

pub returns-clause-put : goal.returns-clause-put
returns-clause-put c = class_put c.args.self.now c.class_for.new.self _ c.args.answers c.args.path.now c.in_ok-class.class c.in_ok-class.ensures.found refl refl c.in_ok-push.ensures
