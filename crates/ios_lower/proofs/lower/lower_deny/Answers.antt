use Rattle.std.proofs.Common.{refl, sym, false}
use Rattle.ios_meaning.specs.Drafts.{entry_of}
use Rattle.ios_lower.proofs.Lowered.{body_denies}
use Rattle.ios_lower.proofs.lower.lower_deny.Goals as goal

pub returns : goal.returns
returns c =
    body_denies c.args.lists.now.items.now (entry_of c.args.entry.now) c.args.core.now c.stop.new.self c.in_ok-end.end false (sym c.requires) refl
    c.in_ok-end.ensures.made c.stop.ensures.keeps
