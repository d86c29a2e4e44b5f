use Rattle.std.proofs.Common.{ap, ◌∙◌, rules, List}
use Rattle.std.specs.Prelude.{map}
use Rattle.ios_reader.specs.Entries.{Entry}
use Rattle.ios_meaning.specs.Order.{in_order}
use Rattle.ios_meaning.specs.Drafts.{entry_of}
use Rattle.ios_meaning.specs.declared.entries.MapEntry.{MapEntry}
use Rattle.ios_meaning.proofs.InOrder.{in_order_from_sort, map_in_order}
use Rattle.ios_meaning.proofs.entries.ordered_entries.Goals as goal

pub returns : goal.returns
returns c =
    let sorted = in_order_from_sort (λ (e : MapEntry). e.number) c.in_ok-found.found.items c.sort_by_key.new.self.items c.in_ok-sort_by_key.ensures.sorted c.in_ok-sort_by_key.ensures.stable (λ e a r h k. search rules) in
    ap (λ (es : List MapEntry). map entry_of es) sorted
    ∙ map_in_order entry_of (λ (e : Entry). e.number) c.in_ok-found.found.items
    ∙ ap (λ (es : List Entry). in_order (λ e. e.number) es) c.in_ok-found.ensures
