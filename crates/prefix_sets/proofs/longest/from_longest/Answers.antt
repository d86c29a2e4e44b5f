use Rattle.std.proofs.Common.{ap, ◌∙◌, map, ℕ, List}
use Rattle.route_types.proofs.Spelled.{ap2}
use Rattle.prefix_sets.specs.FirstMatch.{first_match}
use Rattle.prefix_sets.specs.LongestEntries.{entries_of}
use Rattle.prefix_sets.specs.declared.list.PrefixEntry.{PrefixEntry}
use Rattle.prefix_sets.specs.declared.longest.Keyed.{Keyed}
use Rattle.prefix_sets.proofs.LongestMatch.{made_answers, made_prefixes}
use Rattle.prefix_sets.proofs.longest.from_longest.Goals as goal

pub returns-clause-answers : goal.returns-clause-answers
returns-clause-answers c = λ q within.
    let made = c.in_ok-entries.ensures ∙ ap2 (λ (most : ℕ) (ks : List Keyed). entries_of most (map (λ k. k.range) ks)) c.width.ensures c.as_slice.ensures.value in
    ap (λ (es : List PrefixEntry). first_match es q) made
    ∙ made_answers c.args.family c.args.filters.now c.in_ok-sorted.sorted.items c.in_ok-sorted.ensures.moved c.in_ok-sorted.ensures.keyed c.in_ok-sorted.ensures.rising c.requires.distinct c.requires.family q within

pub returns-clause-prefixes : goal.returns-clause-prefixes
returns-clause-prefixes c =
    let made = c.in_ok-entries.ensures ∙ ap2 (λ (most : ℕ) (ks : List Keyed). entries_of most (map (λ k. k.range) ks)) c.width.ensures c.as_slice.ensures.value in
    rw made (made_prefixes _ c.args.filters.now (map (λ k. k.range) c.in_ok-sorted.sorted.items) c.in_ok-sorted.ensures.moved)
