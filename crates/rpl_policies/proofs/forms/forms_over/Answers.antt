use Rattle.rpl_layout.specs.Forms.{prefix_blocks, community_blocks, path_blocks}
use Rattle.rpl_policies.specs.Names.{writing}
use Rattle.rpl_policies.proofs.Rows.{put_four}
use Rattle.rpl_policies.proofs.forms.forms_over.Goals as goal

pub returns-clause-forms : goal.returns-clause-forms
unfolding writing
returns-clause-forms c =
    let name = c.args.name.now in
    let sets = c.args.sets.now in
    put_four c.new-forms.result c.push_blocks.new.out c.push_policy.new.out (prefix_blocks name sets.prefixes) (community_blocks name sets.communities) (path_blocks name sets.paths) _
    c.new-forms.ensures c.in_ok-push_blocks.ensures.blocks c.in_ok-push_policy.ensures
