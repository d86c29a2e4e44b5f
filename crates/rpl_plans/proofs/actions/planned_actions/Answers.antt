use Rattle.std.proofs.Common.{◌≡◌, ◌∙◌, ◌-◌, ap, sym, subst, true, ℕ, length, List}
use Rattle.std.specs.Prelude.{take, drop}
use Rattle.std.specs.List.{list_all, AllByRecursion}
use Rattle.std.proofs.lemmas.Bool.{and_parts}
use Rattle.path_patterns.proofs.Lists.{first_tail}
use Rattle.policy_core.specs.Sayable.{rpl_change}
use Rattle.route_types.specs.Change.{changed_by}
use Rattle.route_types.specs.Route.{RouteParts}
use Rattle.route_types.specs.declared.change.Change.{Change}
use Rattle.rpl_plans.specs.Actions.{acted_by}
use Rattle.rpl_plans.specs.Fits.{FitsNumber}
use Rattle.rpl_plans.proofs.ActionLaws.{none_more}
use Rattle.rpl_plans.proofs.actions.planned_actions.Goals as goal

pub loop-rest-init : goal.loop-rest-init
loop-rest-init c = record {
  acts = λ r. ap (λ (path : List ℕ). changed_by c.args.changes.now (record r { path = path })) (none_more c.new.result r.path c.new.ensures);
  fits = λ sayable. (
    record {
      local_preference = tt;
      med = tt;
      weight = tt;
      next_hop = tt;
      prepended = subst (λ (ns : List ℕ). AllByRecursion FitsNumber ns) (sym c.new.ensures) tt;
      communities = tt;
    },
    sayable,
  );
}

pub loop-rest-preserved : goal.loop-rest-preserved
loop-rest-preserved c =
    let tail : List Change = take (length c.loop-rest.rest.now - 1) (drop 1 c.loop-rest.rest.now) in
    let parted = first_tail c.loop-rest.rest.now c.first-item.result c.in-len1-up.len_at_least c.first-item.is in
    record {
      acts = λ r.
          ap (λ (q : RouteParts). changed_by tail q) (c.in_ok-add.ensures.acts r)
          ∙ ap (λ (cs : List Change). changed_by cs (acted_by c.loop-rest.planned r)) (sym parted)
          ∙ c.loop-rest.invariant.acts r;
      fits = λ sayable.
          let before = c.loop-rest.invariant.fits sayable in
          let parts = and_parts (rpl_change c.first-item.result) (list_all rpl_change tail) (subst (λ (cs : List Change). list_all rpl_change cs ≡ true) parted before.1) in
          (c.in_ok-add.ensures.fits parts.0 before.0, parts.1);
    }
