use Rattle.std.proofs.Common.{◌≡◌, ap, ◌∙◌, ◌||◌, List}
use Rattle.route_types.specs.Sets.{fits_some}
use Rattle.route_types.specs.Community.{RectParts, fits, set_of}
use Rattle.route_types.specs.declared.community.Community.{Community}
use Rattle.community_cuts.proofs.JoinedLaws.{same_acts, same_removed}
use Rattle.community_cuts.proofs.both.joined.Goals as goal

pub returns-clause-acts : goal.returns-clause-acts
returns-clause-acts c = λ set.
    let first : List RectParts = c.args.first.now.removed in
    let second : List RectParts = c.args.second.now.removed in
    let fit : (x : Community) → fits_some fits c.from_vec.result x ≡ (fits_some fits first x || fits_some fits second x) = λ x.
    ap (λ (rs : List RectParts). fits_some fits rs x) c.from_vec.ensures ∙ c.in_ok-removed.ensures.fits x ∙ ap (λ (rs : List RectParts). fits_some fits rs x || fits_some fits second x) c.as_slice.ensures in
    let added : c.from_vec-2.result ≡ set_of c.in_ok-both.both.added = c.from_vec-2.ensures ∙ c.set_of-added.ensures ∙ ap (λ (cs : List Community). set_of cs) c.into_vec.ensures in
    same_acts c.from_vec.result c.in_ok-both.both.removed c.in_ok-both.both.added c.from_vec-2.result (same_removed first second c.in_ok-both.both.removed c.from_vec.result c.in_ok-both.ensures.removed fit) added set
    ∙ c.in_ok-both.ensures.acts set
