use Rattle.std.proofs.Common.{◌∙◌, ap, sym, refl, true, false, ◌++◌, ◌∷◌, [], List, ℕ}
use Rattle.std.specs.Cmp.Lexicographic.{pointwise}
use Rattle.path_classes.specs.States.{longer}
use Rattle.path_classes.proofs.Tells.{same_thread, threads_tell, lists_tell}
use Rattle.path_classes.proofs.Keys.{put, stored_is}
use Rattle.path_classes.proofs.StateLaws.{put_new, put_old}
use Rattle.path_classes.proofs.states.States.put.Goals as goal

pub returns-in_ok-push : goal.returns-in_ok-push
returns-in_ok-push c =
    put_new c.args.self.now _ c.args.threads _ c.in_ok-place.place
    (stored_is (pointwise same_thread) (lists_tell same_thread threads_tell) c.insert_full.new.self.keys c.args.threads c.in_ok-place.place c.in_ok-place.ensures.stored) refl
    (put (pointwise same_thread) c.args.self.now.configs.keys c.insert_full.new.self.keys c.args.threads true c.in_ok-place.ensures.keys (sym c.if-is_new.true ∙ c.in_ok-place.ensures.added))
    (c.in_ok-push.ensures ∙ ap (λ (p : List ℕ). c.args.self.now.paths ++ p ∷ []) (c.in_ok-path.ensures ∙ ap (λ (ps : List (List ℕ)). longer ps c.args.from c.args.number) c.as_slice.ensures))

pub returns-else-is_new : goal.returns-else-is_new
returns-else-is_new c =
    put_old c.args.self.now _ c.args.threads _ c.in_ok-place.place
    (stored_is (pointwise same_thread) (lists_tell same_thread threads_tell) c.insert_full.new.self.keys c.args.threads c.in_ok-place.place c.in_ok-place.ensures.stored) refl
    (put (pointwise same_thread) c.args.self.now.configs.keys c.insert_full.new.self.keys c.args.threads false c.in_ok-place.ensures.keys (sym c.if-is_new.false ∙ c.in_ok-place.ensures.added))
    refl
