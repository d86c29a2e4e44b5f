use Rattle.std.proofs.Common.{sym, ap, ◌∙◌, ◌++◌, List}
use Rattle.step_search.proofs.Closed.{one_more_row, no_more}
use Rattle.step_search.proofs.Tables.{nothing_left}
use Rattle.step_search.proofs.found.add_next.Goals as goal

pub returns-in_default : goal.returns-in_default
returns-in_default g c = λ start searched. no_more (g.S.Steps.next c.args.steps.now) start c.args.found.now.keys c.args.place searched (sym c.get_index.ensures.key ∙ sym c.copied.ensures ∙ nothing_left c.copied.result c.in_default.not-Some)

pub returns : goal.returns
returns g c = λ start searched. one_more_row (g.S.Steps.next c.args.steps.now) start c.args.found.now.keys c.add_all.new.found.keys c.as_slice.result.now c.args.place c.in-Some.from
    (c.as_slice.ensures ∙ c.in_ok-push_next.ensures ∙ ap (λ (r : List g.row.K.Denot). r ++ g.S.Steps.next c.args.steps.now c.in-Some.from) c.new-row.ensures)
    searched (sym c.get_index.ensures.key ∙ sym c.copied.ensures ∙ c.in-Some.is) c.in_ok-add_all.ensures.kept c.in_ok-add_all.ensures.added
