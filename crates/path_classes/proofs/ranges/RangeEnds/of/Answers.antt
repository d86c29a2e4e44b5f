use Rattle.std.proofs.Common.{◌∙◌, ap, List}
use Rattle.path_patterns.specs.declared.items.NumberRange.{NumberRange}
use Rattle.path_classes.specs.Numbers.{leasts_of, mosts_of}
use Rattle.path_classes.proofs.NumbersLaws.{ends_tell}
use Rattle.path_classes.proofs.ranges.RangeEnds.of.Goals as goal

pub returns : goal.returns
returns c = λ n. ends_tell c.args.set.now c.in_ok-leasts_of.field-0.items c.in_ok-mosts_of.field-0.items c.from_vec.result c.from_vec-2.result n
    (c.in_ok-leasts_of.ensures ∙ ap (λ (rs : List NumberRange). leasts_of rs) c.as_slice-ranges.ensures)
    (c.in_ok-mosts_of.ensures ∙ ap (λ (rs : List NumberRange). mosts_of rs) c.as_slice-ranges.ensures)
    c.from_vec.ensures c.from_vec-2.ensures
