use Rattle.std.proofs.Common.{refl, sym, ap, ◌∙◌, arith, List, length, slice_get}
use Rattle.rpl_meaning.specs.Blocks.{word_in}
use Rattle.rpl_effects.specs.declared.kept.Levels.{Levels}
use Rattle.rpl_meaning.specs.Walk.{Ending}
use Rattle.rpl_meaning.proofs.RunLaws.{InBoth, on_leads, calls_lead, ended_leads, at_first, along, ended_along, at_the_last, body_kept, nothing_kept, applied_runs}
use Rattle.rpl_meaning.proofs.KnownLaws.{found_before, found_anew}
use Rattle.rpl_meaning.proofs.judge.+policies.Goals as goal

pub run_policy-returns-then-levels-eq0 : goal.run_policy-returns-then-levels-eq0
run_policy-returns-then-levels-eq0 t c =
    nothing_kept c.args.world.now c.args.known.now c.keep.new.known c.args.levels (word_in c.args.words.now.entries) c.args.name.now c.fresh.result c.in_ok-found.found c.requires.known c.if-levels-eq0.true c.fresh.ensures
    (c.in_ok-found.ensures.found ∙ ap (λ (l : Levels). record { place = length c.args.known.now.effects.items; levels = l }) c.no_levels.ensures) c.in_ok-found.ensures.effects c.in_ok-found.ensures.kept

pub run_policy-returns : goal.run_policy-returns
run_policy-returns t c =
    body_kept c.args.world.now c.args.known.now c.run_body.new.known c.keep-2.new.known c.args.levels (word_in c.args.words.now.entries) c.args.name.now _ c.in_ok-body.body c.one_more.result c.in_ok-found-2.found (omega arith)
    c.in_ok-body.ensures c.body_of.ensures c.one_more.ensures.covers c.one_more.ensures.less c.in_ok-found-2.ensures.found c.in_ok-found-2.ensures.effects c.in_ok-found-2.ensures.kept

pub run_body-loop-rest-init : goal.run_body-loop-rest-init
run_body-loop-rest-init t c =
    at_first c.args.world.now c.args.known.now c.args.levels (word_in c.args.words.now.entries) c.args.body.now c.fresh-run.result c.all_levels-held.result c.requires.known (c.all_levels-held.ensures c.args.levels (omega arith)) c.fresh-run.ensures

pub run_body-loop-rest-preserved : goal.run_body-loop-rest-preserved
run_body-loop-rest-preserved t c =
    along c.args.world.now c.args.known.now c.loop-rest.known c.stepped.new.known c.args.levels (word_in c.args.words.now.entries) c.args.body.now c.loop-rest.rest.now c.loop-rest.run c.loop-rest.mode c.loop-rest.held c.first-item.result _
    c.in_ok-turn.turn c.in-On.place c.loop-rest.invariant c.in-len1-up.len_at_least c.first-item.is refl c.in-On.is c.in_ok-turn.ensures

pub run_body-returns-in-Ended : goal.run_body-returns-in-Ended
run_body-returns-in-Ended t c =
    ended_along c.args.world.now c.args.known.now c.loop-rest.known c.stepped.new.known c.args.levels (word_in c.args.words.now.entries) c.args.body.now c.loop-rest.rest.now c.loop-rest.run c.loop-rest.mode c.loop-rest.held c.first-item.result _
    c.in_ok-turn.turn c.in-Ended.effect c.loop-rest.invariant c.in-len1-up.len_at_least c.first-item.is refl c.in-Ended.is c.in_ok-turn.ensures

pub run_body-returns : goal.run_body-returns
run_body-returns t c =
    at_the_last c.args.world.now c.args.known.now c.loop-rest.known c.args.levels (word_in c.args.words.now.entries) c.args.body.now c.loop-rest.rest.now c.loop-rest.run c.loop-rest.mode c.loop-rest.held c.loop-rest.invariant c.in_default.len_below

pub stepped-returns-in-On : goal.stepped-returns-in-On
stepped-returns-in-On t c =
    on_leads c.args.world.now c.args.known.now c.args.levels (word_in c.args.words.now.entries) c.args.mode c.args.form.now c.args.run c.args.held c.in_ok-step.step c.in-On.place c.requires.known c.in-On.is c.in_ok-step.ensures

pub stepped-returns-in-Ended : goal.stepped-returns-in-Ended
stepped-returns-in-Ended t c =
    ended_leads c.args.world.now c.args.known.now c.args.levels (word_in c.args.words.now.entries) c.args.mode c.args.form.now c.args.run c.args.held c.in_ok-step.step c.in-Ended.effect c.requires.known c.in-Ended.is c.in_ok-step.ensures

pub stepped-returns-in_ok-next-in-Calls : goal.stepped-returns-in_ok-next-in-Calls
stepped-returns-in_ok-next-in-Calls t c =
    let both : InBoth c.args.held c.in_ok-found-in-Calls.found.levels c.in_both.result = record { all = c.in_both.ensures.both; first = c.in_both.ensures.one; second = c.in_both.ensures.other } in
    calls_lead c.args.world.now c.args.known.now c.applied.new.known c.args.levels (word_in c.args.words.now.entries) c.args.mode c.args.form.now c.args.run c.in-Calls.before c.args.held c.in_both.result c.in_ok-step.step c.in-Calls.apply
    c.in_ok-found-in-Calls.found c.lent-effect.result.now c.in_ok-next-in-Calls.next c.in-Calls.is c.in_ok-step.ensures c.in_ok-found-in-Calls.ensures
    (sym (ap (λ (t : List Ending). slice_get t c.in_ok-found-in-Calls.found.place) c.as_slice.ensures.value) ∙ c.lent-effect.ensures) both c.in_ok-next-in-Calls.ensures

pub applied-returns-in-Some : goal.applied-returns-in-Some
applied-returns-in-Some t c =
    found_before c.args.world.now c.args.known.now c.args.levels (word_in c.args.words.now.entries) c.args.apply.now c.in_ok-key.key c.in-Some.found c.requires.known c.in_ok-key.ensures c.in-Some.ensures.kept c.in-Some.ensures.covers

pub applied-returns : goal.applied-returns
applied-returns t c =
    found_anew c.args.world.now c.args.known.now c.run_policy.new.known _ c.args.levels (word_in c.args.words.now.entries) (word_in c.in_ok-inner.inner.entries) c.args.apply.now c.as_slice-name.result.now c.in_ok-key.key c.in_ok-found.found
    c.in_ok-key.ensures c.in_ok-found.ensures
    (λ n s. applied_runs c.args.world.now n (word_in c.args.words.now.entries) (word_in c.in_ok-inner.inner.entries) c.args.apply.now c.as_slice-name.result.now c.parameters_of-parameters.result.now c.as_slice.result.now c.as_slice-name.ensures
    c.parameters_of-parameters.ensures c.as_slice.ensures c.in_ok-inner.ensures s)
    refl c.in_ok-put.ensures.others
