use Rattle.std.proofs.Common.{ap, ◌∙◌, Bool, ◌||◌}
use Rattle.policy_text.specs.NameSets.{has_name}
use Rattle.rpl_calls.specs.Policies.{opens}
use Rattle.rpl_facts.specs.Blocks.{name_opened}
use Rattle.rpl_facts.specs.Told.{kind_code, is_block}
use Rattle.rpl_facts.proofs.Wide.{one_block}
use Rattle.rpl_reader.proofs.state.add_begun.Goals as goal

pub returns : goal.returns
returns c = λ kind q.
    c.in_ok-add_block.ensures q (kind_code kind) 0
    ∙ (λ j. is_block q (kind_code kind) 0 (c.opens.ensures j) (c.name_opened.ensures j) || has_name c.args.names.now q (kind_code kind) 0)
    ∙ ap (λ (b : Bool). b || has_name c.args.names.now q (kind_code kind) 0) (one_block kind q (opens c.args.form.now) (name_opened c.args.form.now))
