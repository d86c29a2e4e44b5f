use Rattle.std.proofs.Common.{refl, sym, ◌∙◌}
use Rattle.ios_reader.proofs.Places.{behind_line, behind_other}
use Rattle.ios_reader.proofs.place.place_behind.Goals as goal

pub returns-then-is_line : goal.returns-then-is_line
returns-then-is_line c = λ before marks more behind keeps. behind_line c.args.policy.now before c.args.place _ marks more c.args.item.now behind keeps (sym c.is_line.ensures ∙ c.if-is_line.true) refl refl c.kinds_with.ensures.value c.kinds_with.ensures.within

pub returns : goal.returns
returns c = λ before marks more behind keeps. behind_other c.args.policy.now before c.args.place _ marks more c.args.item.now behind keeps (sym c.is_line.ensures ∙ c.if-is_line.false) c.heads.ensures c.header_in.ensures refl
