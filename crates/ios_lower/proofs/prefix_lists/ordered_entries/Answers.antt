use Rattle.std.proofs.Common.{ap, ◌∙◌, rules, List}
use Rattle.std.specs.Prelude.{map}
use Rattle.ios_tree.specs.declared.item.PrefixListEntry.{PrefixListEntry}
use Rattle.ios_meaning.specs.Order.{in_order}
use Rattle.ios_meaning.proofs.InOrder.{in_order_from_sort, map_in_order}
use Rattle.ios_lower.specs.Lists.{numbered}
use Rattle.ios_lower.specs.declared.prefix_lists.Numbered.{Numbered}
use Rattle.ios_lower.proofs.prefix_lists.ordered_entries.Goals as goal

pub returns : goal.returns
returns c =
    let sorted = in_order_from_sort (λ (e : Numbered). e.number) c.in_ok-found.found.items c.sort_by_key.new.self.items c.in_ok-sort_by_key.ensures.sorted c.in_ok-sort_by_key.ensures.stable (λ e a r h k. search rules) in
    ap (λ (es : List Numbered). map numbered es) sorted
    ∙ map_in_order numbered (λ (e : PrefixListEntry). e.number) c.in_ok-found.found.items
    ∙ ap (λ (es : List PrefixListEntry). in_order (λ e. e.number) es) c.in_ok-found.ensures
