use Rattle.rpl_text.proofs.Texts.{line_written}
use Rattle.rpl_text.proofs.write.push_first_form.Goals as goal

pub returns : goal.returns
returns c = line_written c.args.block c.args.level c.args.form.now c.args.others.now c.goes_on.result c.push_form.new.out.items c.args.out.now.items c.push_form.result c.goes_on.ensures c.push_form.ensures
