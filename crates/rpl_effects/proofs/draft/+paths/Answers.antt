use Rattle.std.proofs.Common.{refl, sym, ap, ◌∙◌, reverse}
use Rattle.std.specs.Prelude.{option_map}
use Rattle.std.proofs.lemmas.Result.{on_ok_weaker}
use Rattle.rpl_effects.specs.Pieces.{leaves_at, prepends_of}
use Rattle.rpl_effects.specs.Changes.{before}
use Rattle.rpl_effects.proofs.DoneLaws.{one_done, those_done, each_done, effect_done, no_effect}
use Rattle.rpl_effects.proofs.draft.+paths.Goals as goal

pub push_all-loop-rest-preserved-in_ok-push_times-in-One : goal.push_all-loop-rest-preserved-in_ok-push_times-in-One
push_all-loop-rest-preserved-in_ok-push_times-in-One g t c =
    one_done before (leaves_at prepends_of c.args.older.now) c.loop-rest.rest.now _ c.in-One.times _ (reverse c.loop-rest.path.items) (reverse c.push_times.new.path.items) _ c.in-len1-up.len_at_least c.in-One.is refl
    c.in_ok-push_times-in-One.ensures c.loop-rest.invariant

pub push_all-loop-rest-preserved : goal.push_all-loop-rest-preserved
push_all-loop-rest-preserved g t c =
    those_done before (leaves_at prepends_of c.args.older.now) c.loop-rest.rest.now _ c.in-OfEffect.place _ (reverse c.loop-rest.path.items) (reverse c.push_effect.new.path.items) _ c.in-len1-up.len_at_least c.in-OfEffect.is refl
    c.in_ok-push_effect-in-OfEffect.ensures c.loop-rest.invariant

pub push_all-returns : goal.push_all-returns
push_all-returns g t c = each_done before (leaves_at prepends_of c.args.older.now) c.loop-rest.rest.now (reverse c.loop-rest.path.items) _ c.in_default.len_below c.loop-rest.invariant

pub push_effect-returns-in-Some : goal.push_effect-returns-in-Some
push_effect-returns-in-Some g t c =
    on_ok_weaker c.push_all.result (effect_done before prepends_of c.args.older.now _ c.prepends_of.result.now c.args.place c.in-Some.effect.now (reverse c.args.path.now.items) (reverse c.push_all.new.path.items) (sym c.effect_at.ensures ∙ ap (λ o. option_map (λ e. e.now) o) c.in-Some.is) refl c.prepends_of.ensures) c.push_all.ensures

pub push_effect-returns-in-None : goal.push_effect-returns-in-None
push_effect-returns-in-None g t c =
    no_effect before prepends_of c.args.older.now c.args.place (reverse c.args.path.now.items) (sym c.effect_at.ensures ∙ ap (λ o. option_map (λ e. e.now) o) c.in-None.is)
