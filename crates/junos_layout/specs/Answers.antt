-- When names say what is planned, for a route, in a text of these forms.
use Rattle.std.specs.Prelude.{◌≡◌, List}
use Rattle.std.specs.List.{AllByRecursion}
use Rattle.aspath_text.specs.JunosRead.{junos_pattern_in}
use Rattle.junos_tree.specs.declared.item.JunosForm.{JunosForm}
use Rattle.junos_meaning.specs.Sets.{community_members, path_pattern}
use Rattle.junos_plans.specs.declared.condition.PlannedCondition.{PlannedCondition}
use Rattle.junos_plans.specs.declared.condition.PlannedCondition.TheVariants.{Path, Communities}
use Rattle.junos_plans.specs.declared.condition.PlannedEntry.{PlannedEntry}
use Rattle.junos_layout.specs.Writing.{Writing}

-- the AS paths and communities that a condition names are defined as planned
abbrev pub Defines : List JunosForm → Writing → PlannedCondition → Type 0
Defines all w (Path texts) = AllByRecursion (λ text. path_pattern all (w.path text) ≡ junos_pattern_in text) texts
Defines all w (Communities sets) = AllByRecursion (λ members. community_members all (w.community members) ≡ members) sets
Defines all w _ = Unit {0}

-- those of each condition
abbrev pub DefinesAll : List JunosForm → Writing → List PlannedCondition → Type 0
DefinesAll all w cs = AllByRecursion (Defines all w) cs

-- those of each term of a list
abbrev pub DefinesEntries : List JunosForm → Writing → List PlannedEntry → Type 0
DefinesEntries all w es = AllByRecursion (λ e. Defines all w e.condition) es
