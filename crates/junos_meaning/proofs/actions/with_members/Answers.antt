use Rattle.std.proofs.Common.{ap, ◌∙◌, ℕ, List}
use Rattle.route_drafts.specs.Drafts.{route_of}
use Rattle.junos_reader.specs.Facts.{forms_of}
use Rattle.junos_meaning.specs.Sets.{community_members}
use Rattle.junos_meaning.proofs.Acting.{adds, deletes, carried}
use Rattle.junos_meaning.proofs.actions.with_members.Goals as goal

pub returns-in_ok-added-in-Add : goal.returns-in_ok-added-in-Add
returns-in_ok-added-in-Add c =
    carried c.with_communities-in-Add.result _ _
    (λ d is. adds (forms_of c.args.world.now.items.now) c.args.action.now (route_of c.args.world.now.prefix.now c.args.draft) (route_of c.args.world.now.prefix.now d) c.members_of-members.result.now c.as_slice-in-Add.result.now
    c.in-Add.is (c.members_of-members.ensures ∙ ap (λ (name : List ℕ). community_members (forms_of c.args.world.now.items.now) name) c.as_slice.ensures)
    (c.as_slice-in-Add.ensures.value ∙ c.in_ok-added-in-Add.ensures) (is c.args.world.now.prefix.now))
    c.with_communities-in-Add.ensures.route

pub returns-in-Delete : goal.returns-in-Delete
returns-in-Delete c =
    carried c.without_fitting.result _ _
    (λ d is. deletes (forms_of c.args.world.now.items.now) c.args.action.now (route_of c.args.world.now.prefix.now c.args.draft) (route_of c.args.world.now.prefix.now d) c.members_of-members.result.now
    c.in-Delete.is (c.members_of-members.ensures ∙ ap (λ (name : List ℕ). community_members (forms_of c.args.world.now.items.now) name) c.as_slice.ensures) (is c.args.world.now.prefix.now))
    c.without_fitting.ensures.route
