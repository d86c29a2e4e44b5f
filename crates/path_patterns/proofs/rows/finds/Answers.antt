use Rattle.std.proofs.Common.{arith}
use Rattle.std.proofs.lemmas.Grind.{common_steps}
use Rattle.path_patterns.proofs.RowsFind.{slice_is_path, rows_find, rows_decide}
use Rattle.path_patterns.proofs.rows.finds.Goals as goal

pub returns-clause-exact : goal.returns-clause-exact
returns-clause-exact c =
    let path = c.args.path.now in
    let e = rows_find c.args.pattern.now path c.branches.ensures.shaped (slice_is_path path c.type_inv.path) in
    grind (arith, common_steps, e)

pub returns-clause-found : goal.returns-clause-found
returns-clause-found c =
    let path = c.args.path.now in
    let d = rows_decide c.args.pattern.now path c.branches.ensures.shaped (slice_is_path path c.type_inv.path) in
    grind (arith, common_steps, d)
