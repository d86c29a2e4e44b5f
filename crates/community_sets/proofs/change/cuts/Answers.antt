use Rattle.std.proofs.Common.{◌≡◌, sym, subst, Bool, true, List}
use Rattle.std.specs.Prelude.{◌↔◌, IsTrue}
use Rattle.route_types.specs.Community.{RectParts}
use Rattle.std.specs.List.{Any}
use Rattle.community_sets.specs.Cuts.{Share, Covered}
use Rattle.community_sets.specs.declared.change.Cut.{Cut}
use Rattle.community_sets.specs.declared.change.Cut.TheVariants.{Never, Whole}
use Rattle.community_sets.proofs.CutLaws.{never_by, whole_by}
use Rattle.community_sets.proofs.change.cuts.Goals as goal

pub returns-clause-never : goal.returns-clause-never
returns-clause-never c =
    let list : List RectParts = c.args.change.now.removed in
    let met : Bool = c.is_met-met.result in
    let shared : IsTrue met ↔ Any (Share c.args.rect.now) list = subst (λ (x : List RectParts). IsTrue met ↔ Any (Share c.args.rect.now) x) c.as_slice-removed.ensures c.is_met-met.ensures.met in
    subst (λ (x : Cut). (x ≡ Never) ↔ (Any (Share c.args.rect.now) list → ⊥)) (sym c.cut_of.ensures) (never_by met c.is_covered-covered.result shared)

pub returns-clause-whole : goal.returns-clause-whole
returns-clause-whole c =
    let list : List RectParts = c.args.change.now.removed in
    let covered : Bool = c.is_covered-covered.result in
    let had : IsTrue covered ↔ Any (Covered c.args.rect.now) list =
    subst (λ (x : List RectParts). IsTrue covered ↔ Any (Covered c.args.rect.now) x) c.as_slice-removed.ensures c.is_covered-covered.ensures in
    let met : Any (Covered c.args.rect.now) list → c.is_met-met.result ≡ true =
    subst (λ (x : List RectParts). Any (Covered c.args.rect.now) x → c.is_met-met.result ≡ true) c.as_slice-removed.ensures c.is_met-met.ensures.covered in
    subst (λ (x : Cut). (x ≡ Whole) ↔ Any (Covered c.args.rect.now) list) (sym c.cut_of.ensures) (whole_by c.is_met-met.result covered had met)
