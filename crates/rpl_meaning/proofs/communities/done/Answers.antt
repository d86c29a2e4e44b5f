use Rattle.std.proofs.Common.{◌≡◌, sym, subst}
use Rattle.std.specs.Prelude.{IfOk}
use Rattle.route_types.specs.Address.{PrefixParts}
use Rattle.route_drafts.specs.Drafts.{route_of}
use Rattle.rpl_meaning.specs.Communities.{stepped}
use Rattle.rpl_meaning.specs.declared.communities.CommunityStep.{CommunityStep}
use Rattle.rpl_meaning.proofs.communities.done.Goals as goal

pub returns-in-Add : goal.returns-in-Add
returns-in-Add c =
    subst (λ (st : CommunityStep). IfOk c.with_set.result (λ d. (p : PrefixParts) → route_of p d ≡ record (route_of p c.args.draft) { communities = stepped st (route_of p c.args.draft).communities })) (sym c.in-Add.is) c.with_set.ensures

pub returns-in-Replace : goal.returns-in-Replace
returns-in-Replace c =
    subst (λ (st : CommunityStep). IfOk c.with_set-in-Replace.result (λ d. (p : PrefixParts) → route_of p d ≡ record (route_of p c.args.draft) { communities = stepped st (route_of p c.args.draft).communities })) (sym c.in-Replace.is)
    c.with_set-in-Replace.ensures

pub returns-in-Delete : goal.returns-in-Delete
returns-in-Delete c =
    subst (λ (st : CommunityStep). IfOk c.without.result (λ d. (p : PrefixParts) → route_of p d ≡ record (route_of p c.args.draft) { communities = stepped st (route_of p c.args.draft).communities })) (sym c.in-Delete.is) c.without.ensures
