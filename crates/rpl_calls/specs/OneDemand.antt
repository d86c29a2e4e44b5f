-- Two demands that the set takes for equal are one.
use Rattle.std.proofs.Common.{◌≡◌, refl, ap, sym, Bool, true, ◌&&◌, ◌==◌, eqb-true, true≢false}
use Rattle.std.proofs.lemmas.Bool.{and_parts}
use Rattle.rpl_calls.specs.declared.ask.SetSort.{SetSort}
use Rattle.rpl_calls.specs.declared.ask.SetSort.TheVariants.{Prefix, Community, Path}
use Rattle.rpl_calls.specs.declared.ask.NumberRange.{NumberRange}
use Rattle.rpl_calls.specs.declared.ask.Question.{Question}
use Rattle.rpl_calls.specs.declared.ask.Question.TheVariants.{Number, Set, NotBelow}
use Rattle.rpl_calls.specs.declared.demand.Demand.{Demand}
use Rattle.rpl_calls.specs.contracts.ask.SetSortPartialEq.TheImpl as sort
use Rattle.rpl_calls.specs.contracts.ask.QuestionPartialEq.TheImpl as question

sorts : (a b : SetSort) → sort.ghosts.eq a b ≡ true → a ≡ b
sorts Prefix Prefix e = refl
sorts Prefix Community e = absurd (true≢false (sym e))
sorts Prefix Path e = absurd (true≢false (sym e))
sorts Community Prefix e = absurd (true≢false (sym e))
sorts Community Community e = refl
sorts Community Path e = absurd (true≢false (sym e))
sorts Path Prefix e = absurd (true≢false (sym e))
sorts Path Community e = absurd (true≢false (sym e))
sorts Path Path e = refl

abbrev same_range : NumberRange → NumberRange → Bool
same_range a b = a.least == b.least && a.most == b.most

ranges : (a b : NumberRange) → same_range a b ≡ true → a ≡ b
ranges a b e =
    let parts = and_parts (a.least == b.least) (a.most == b.most) e in
    let least = eqb-true a.least b.least parts.0 in
    let most = eqb-true a.most b.most parts.1 in
    λ i. record { least = least i; most = most i }

questions : (a b : Question) → question.ghosts.eq a b ≡ true → a ≡ b
questions (Number a) (Number b) e = ap Number (ranges a b e)
questions (Number a) (Set b) e = absurd (true≢false (sym e))
questions (Number a) (NotBelow b) e = absurd (true≢false (sym e))
questions (Set a) (Number b) e = absurd (true≢false (sym e))
questions (Set a) (Set b) e = ap Set (sorts a b e)
questions (Set a) (NotBelow b) e = absurd (true≢false (sym e))
questions (NotBelow a) (Number b) e = absurd (true≢false (sym e))
questions (NotBelow a) (Set b) e = absurd (true≢false (sym e))
questions (NotBelow a) (NotBelow b) e = ap NotBelow (eqb-true a b e)

pub one_demand : (a b : Demand) → (a.argument == b.argument && question.ghosts.eq a.question b.question) ≡ true → a ≡ b
one_demand a b e =
    let parts = and_parts (a.argument == b.argument) (question.ghosts.eq a.question b.question) e in
    let argument = eqb-true a.argument b.argument parts.0 in
    λ i. record { argument = argument i; question = questions a.question b.question parts.1 i }
