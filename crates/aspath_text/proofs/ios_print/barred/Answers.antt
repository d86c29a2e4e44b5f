use Rattle.std.proofs.Common.{subst}
use Rattle.path_patterns.proofs.Lists.{first_tail}
use Rattle.aspath_text.proofs.Written.{IsWrittenBefore, one_more}
use Rattle.aspath_text.proofs.ios_print.barred.Goals as goal

pub loop-rest-preserved : goal.loop-rest-preserved
loop-rest-preserved c =
    let rest = c.loop-rest.rest.now in
    let branch = c.branch-item.result in
    one_more c.loop-rest.out.items c.push_branch.new.out.items branch _ c.args.branches.now
    (subst (λ xs. IsWrittenBefore c.loop-rest.out.items xs c.args.branches.now) (first_tail rest branch c.in-len1-up.len_at_least c.branch-item.is) c.loop-rest.invariant)
    c.in_ok-push_branch.ensures
