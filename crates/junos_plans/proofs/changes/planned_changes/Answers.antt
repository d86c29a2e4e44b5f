use Rattle.std.proofs.Common.{ap, sym, subst, ℕ, List}
use Rattle.std.specs.List.{AllByRecursion}
use Rattle.route_types.specs.Change.{changed_by}
use Rattle.junos_plans.specs.Fits.{FitsNumber}
use Rattle.junos_plans.proofs.ChangeLaws.{none_more}
use Rattle.junos_plans.proofs.changes.planned_changes.Goals as goal

pub loop-rest-init : goal.loop-rest-init
loop-rest-init c = record {
  acts = λ r. ap (λ (path : List ℕ). changed_by c.args.changes.now (record r { path = path })) (none_more c.new.result r.path c.new.ensures);
  fits = record {
    local_preference = tt;
    med = tt;
    next_hop = tt;
    prepended = subst (λ (ns : List ℕ). AllByRecursion FitsNumber ns) (sym c.new.ensures) tt;
    communities = tt;
  };
  sayable = c.requires;
}
