use Rattle.std.proofs.Common.{◌∙◌, ap, sym, refl, true, false, ◌++◌, ◌∷◌, [], List, ℕ}
use Rattle.std.specs.Bool.{beq}
use Rattle.std.specs.Cmp.Lexicographic.{pointwise}
use Rattle.path_classes.proofs.Tells.{bits_tell, lists_tell}
use Rattle.path_classes.proofs.Keys.{put, stored_is}
use Rattle.path_classes.proofs.SortingLaws.{found_new, found_old}
use Rattle.path_classes.proofs.answers.Sorting.class_for.Goals as goal

pub returns-in_ok-push-clause-found : goal.returns-in_ok-push-clause-found
returns-in_ok-push-clause-found c =
    found_new c.args.self.now _ c.args.answers c.args.path.now c.in_ok-class.class
    (stored_is (pointwise beq) (lists_tell beq bits_tell) c.insert_full.new.self.keys c.args.answers c.in_ok-class.class c.in_ok-class.ensures.stored) refl
    (put (pointwise beq) c.args.self.now.answers.keys c.insert_full.new.self.keys c.args.answers true c.in_ok-class.ensures.keys (sym c.if-is_new.true ∙ c.in_ok-class.ensures.added))
    (c.in_ok-push.ensures ∙ ap (λ (p : List ℕ). c.args.self.now.members ++ p ∷ []) c.in_ok-member.ensures)

pub returns-else-is_new-clause-found : goal.returns-else-is_new-clause-found
returns-else-is_new-clause-found c =
    found_old c.args.self.now _ c.args.answers c.args.path.now c.in_ok-class.class
    (stored_is (pointwise beq) (lists_tell beq bits_tell) c.insert_full.new.self.keys c.args.answers c.in_ok-class.class c.in_ok-class.ensures.stored) refl
    (put (pointwise beq) c.args.self.now.answers.keys c.insert_full.new.self.keys c.args.answers false c.in_ok-class.ensures.keys (sym c.if-is_new.false ∙ c.in_ok-class.ensures.added))
    refl
