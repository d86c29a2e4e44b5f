-- What the code keeps of the causes that a statement has by itself.
use Rattle.std.specs.Prelude.{ℕ, Bool, false, ◌||◌, List}
use Rattle.policy_text.specs.declared.fault.Cause.{Cause}
use Rattle.policy_text.specs.declared.fault.Cause.TheVariants.{UnknownForm, DefinedTwice, Undefined, NotPlain, Cycle, TooDeep, ArgumentCount}
use Rattle.rpl_forms.specs.declared.item.RplForm.{RplForm}
use Rattle.rpl_facts.specs.Blocks.{takes_other}
use Rattle.rpl_reader.specs.Depth.{is_too_deep}
use Rattle.rpl_reader.specs.Facts.{Facts, Before}
use Rattle.rpl_reader.specs.Causes.{is_unknown, is_second, is_undefined, sets_wide, leads_back, call_deep, counts_differ}
use Rattle.rpl_reader.specs.declared.causes.Causes.{Causes}

-- the causes that a statement has by itself, in one record
abbrev pub causes_of : List ℕ → Facts → Before → RplForm → Causes
causes_of policy facts before form = record {
  unknown_form = is_unknown form;
  defined_twice = is_second before form;
  undefined = is_undefined facts before form;
  not_plain = sets_wide facts form;
  cycle = leads_back facts before form;
  too_deep = is_too_deep before.ifs form || call_deep facts before form;
  argument_count = takes_other policy 0 form || counts_differ facts form;
}

-- this cause is one of them
abbrev pub cause_in : Causes → Cause → Bool
cause_in c UnknownForm = c.unknown_form
cause_in c DefinedTwice = c.defined_twice
cause_in c Undefined = c.undefined
cause_in c NotPlain = c.not_plain
cause_in c Cycle = c.cycle
cause_in c TooDeep = c.too_deep
cause_in c ArgumentCount = c.argument_count
cause_in c _ = false
