use Rattle.std.proofs.Common.{◌∙◌, ◌-◌, ◌||◌, ap, sym, subst, length, Bool, List}
use Rattle.std.specs.Prelude.{take, drop}
use Rattle.std.specs.List.{AllByRecursion}
use Rattle.path_patterns.proofs.Lists.{first_tail}
use Rattle.junos_plans.specs.Conditions.{condition_holds, entries_accept}
use Rattle.junos_plans.specs.Fits.{FitsEntry}
use Rattle.junos_plans.specs.Gathered.{some_holds, GathersEntry}
use Rattle.junos_plans.specs.declared.condition.PlannedEntry.{PlannedEntry}
use Rattle.junos_plans.proofs.AtomLaws.{none_left}
use Rattle.junos_plans.proofs.EntryLaws.{or_none}
use Rattle.junos_plans.proofs.GatherLaws.{entry_gathered}
use Rattle.junos_plans.proofs.gathered.gather_entries.Goals as goal

pub loop-rest-preserved : goal.loop-rest-preserved
loop-rest-preserved c =
    let tail : List PlannedEntry = take (length c.loop-rest.rest.now - 1) (drop 1 c.loop-rest.rest.now) in
    let parted = first_tail c.loop-rest.rest.now c.first-item.result c.in-len1-up.len_at_least c.first-item.is in
    let gathers = subst (λ (d : Bool). GathersEntry c.loop-rest.gathered c.first-item.result d c.gather.new.gathered) c.if-not-done.false c.in_ok-done.ensures in
    record {
      holds = λ r.
          entry_gathered (condition_holds r) (some_holds r c.loop-rest.gathered) (some_holds r c.gather.new.gathered) c.first-item.result tail gathers.0 (gathers.1 r)
          ∙ ap (λ (es : List PlannedEntry). some_holds r c.loop-rest.gathered || entries_accept (condition_holds r) es) (sym parted)
          ∙ c.loop-rest.invariant.holds r;
      fits = λ h k.
          let before = c.loop-rest.invariant.fits h k in
          let parts = subst (λ (es : List PlannedEntry). AllByRecursion FitsEntry es) parted before.1 in
          (gathers.2 before.0 parts.0, parts.1);
    }

pub returns : goal.returns
unfolding entries_accept
returns c = (
  λ r.
      sym (or_none (some_holds r c.loop-rest.gathered))
      ∙ ap (λ (es : List PlannedEntry). some_holds r c.loop-rest.gathered || entries_accept (condition_holds r) es) (sym (none_left c.loop-rest.rest.now c.in_default.len_below))
      ∙ c.loop-rest.invariant.holds r,
  λ h k. (c.loop-rest.invariant.fits h k).0,
)
