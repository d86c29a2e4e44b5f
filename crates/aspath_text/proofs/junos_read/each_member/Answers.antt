use Rattle.std.proofs.Common.{sym, ◌∙◌, []}
use Rattle.policy_text.proofs.Phrases.{each_by_walk}
use Rattle.aspath_text.specs.JunosRead.{member_in, members_of}
use Rattle.aspath_text.proofs.JunosCut.{text_found, text_not_found, last_found}
use Rattle.aspath_text.proofs.junos_read.each_member.Goals as goal

pub returns-in_default-read_member : goal.returns-in_default-read_member
returns-in_default-read_member c =
    sym (each_by_walk member_in (members_of c.args.text.now))
    ∙ text_not_found member_in c.loop-front.ranges c.in-Some.front.now (members_of c.loop-front.rest.now) (members_of c.in-Some.behind.now) _ c.in-Some.ensures.parted (sym c.in_default-read_member.ensures) c.loop-front.invariant

pub loop-front-preserved : goal.loop-front-preserved
loop-front-preserved c =
    text_found member_in c.loop-front.ranges c.push.new.self c.in-Some-read_member.range c.in-Some.front.now (members_of c.loop-front.rest.now) (members_of c.in-Some.behind.now) _ c.in-Some.ensures.parted (sym c.in-Some-read_member.ensures) c.in_ok-push.ensures c.loop-front.invariant

pub returns-in_default-read_member-2 : goal.returns-in_default-read_member-2
returns-in_default-read_member-2 c =
    sym (each_by_walk member_in (members_of c.args.text.now))
    ∙ text_not_found member_in c.loop-front.ranges c.loop-front.rest.now (members_of c.loop-front.rest.now) [] _ c.in_default.ensures.parted (sym c.in_default-read_member-2.ensures) c.loop-front.invariant

pub returns : goal.returns
returns c =
    sym (each_by_walk member_in (members_of c.args.text.now))
    ∙ last_found member_in c.loop-front.ranges c.push-2.new.self c.in-Some-read_member-2.range c.loop-front.rest.now (members_of c.loop-front.rest.now) _ c.in_default.ensures.parted (sym c.in-Some-read_member-2.ensures) c.in_ok-push-2.ensures c.loop-front.invariant
