-- Where the conditions and actions of a term stand among the items of a policy.
use Rattle.std.specs.Prelude.{Bool, true, false, not, ◌&&◌, ◌||◌, List, Option, Some, None, map}
use Rattle.junos_tree.specs.Sorts.{is_inner}
use Rattle.junos_tree.specs.Terms.{Content, Parts, parts, own_forms, is_term_header}
use Rattle.junos_tree.specs.declared.item.Condition.{Condition}
use Rattle.junos_tree.specs.declared.item.Action.{Action}
use Rattle.junos_tree.specs.declared.item.JunosForm.{JunosForm}
use Rattle.junos_tree.specs.declared.item.JunosForm.TheVariants.{Condition as IsCondition, Action as IsAction}
use Rattle.junos_reader.specs.Facts.{forms_of}
use Rattle.junos_meaning.specs.declared.regions.Region.{Region}

-- what forms give to the term without a name, or to the named term that stands before them
abbrev pub part_of : Bool → Parts → Content
part_of true p = p.unnamed
part_of false p = p.here

-- what a region asks for and does
abbrev pub content_of : Region → Content
content_of r = part_of r.unnamed (parts (own_forms (forms_of r.items.now)))

-- the region of the term without a name, or of a named one, ends before the form
abbrev pub ends_region : Bool → JunosForm → Bool
ends_region unnamed f = not (is_inner f) || (not unnamed && is_term_header f)

-- both are so, or neither is
abbrev pub same : Bool → Bool → Bool
same true b = b
same false b = not b

-- the value, where the test holds
abbrev pub where_so : {A : Type 0} → Bool → A → Option A
where_so true x = Some x
where_so false x = None

-- the condition that a form is in a term of the sort
abbrev pub condition_in : Bool → JunosForm → Option Condition
condition_in unnamed (IsCondition c) = where_so (same unnamed c.unnamed) c.condition
condition_in unnamed _ = None

-- the action that a form is in a term of the sort
abbrev pub action_in : Bool → JunosForm → Option Action
action_in unnamed (IsAction a) = where_so (same unnamed a.unnamed) a.action
action_in unnamed _ = None

-- what the named terms ask for and do
abbrev pub named_contents : Parts → List Content
named_contents p = map (λ t. t.content) p.terms
