use Rattle.junos_policies.specs.Names.{writing}
use Rattle.junos_policies.proofs.Rows.{put_four}
use Rattle.junos_policies.proofs.policy.options_over.Goals as goal

pub returns-clause-options : goal.returns-clause-options
unfolding writing
returns-clause-options c =
    put_four c.new-options.result c.push_named.new.out c.push_all.new.out c.push_policy.new.out _ _ _ _ c.new-options.ensures
    c.in_ok-push_named.ensures.options c.in_ok-push_all.ensures.options c.in_ok-push_policy.ensures.option

pub returns-clause-few : goal.returns-clause-few
unfolding writing
returns-clause-few c = record {
  paths = c.in_ok-push_named.ensures.paths;
  communities = c.in_ok-push_named.ensures.communities;
  subroutines = c.in_ok-push_all.ensures.few;
  policy = c.in_ok-push_policy.ensures.few;
}
