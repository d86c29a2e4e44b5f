use Rattle.std.proofs.Common.{subst, List}
use Rattle.std.specs.Prelude.{map}
use Rattle.std.specs.Borrow.{Bor}
use Rattle.path_patterns.proofs.Lists.{first_tail}
use Rattle.ios_tree.specs.declared.item.CommunityListEntry.{CommunityListEntry}
use Rattle.ios_lower.proofs.Deletions.{Found, found_more}
use Rattle.ios_lower.proofs.deletion.taken_away.Goals as goal

pub loop-ahead-preserved : goal.loop-ahead-preserved
loop-ahead-preserved c =
    found_more (map (λ e. e.now) c.args.entries.now) _ c.entry-item.result.now c.loop-ahead.removed.items c.loop-ahead.kept.items c.take_entry.new.removed.items c.take_entry.new.kept.items
    (subst (λ (es : List (Bor CommunityListEntry)). Found (map (λ e. e.now) c.args.entries.now) (map (λ e. e.now) es) c.loop-ahead.removed.items c.loop-ahead.kept.items)
    (first_tail c.loop-ahead.ahead.now c.entry-item.result c.in-len1-up.len_at_least c.entry-item.is) c.loop-ahead.invariant)
    c.in_ok-take_entry.ensures
