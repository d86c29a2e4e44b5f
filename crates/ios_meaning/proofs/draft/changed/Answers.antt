use Rattle.std.specs.Prelude.{map}
use Rattle.ios_meaning.specs.Drafts.{entry_of}
use Rattle.ios_meaning.proofs.Drafts.{changed_route}
use Rattle.ios_meaning.proofs.draft.changed.Goals as goal

pub returns : goal.returns
returns c =
    changed_route c.args.items.now c.in_ok-lists.lists (map entry_of c.args.held.now) c.args.route.now c.in_ok-draft.draft c.in_ok-behind.behind c.prefix.result.now c.in_ok-changed.changed
    c.in_ok-lists.ensures c.prefix.ensures c.in_ok-draft.ensures c.in_ok-behind.ensures c.in_ok-changed.ensures
