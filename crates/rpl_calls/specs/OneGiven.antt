-- Two that the set of what arguments may be takes for equal are one.
use Rattle.std.proofs.Common.{◌≡◌, refl, ap, sym, true, ◌&&◌, ◌==◌, eqb-true, true≢false}
use Rattle.std.proofs.lemmas.Bool.{and_parts}
use Rattle.rpl_calls.specs.declared.given.Fact.{Fact}
use Rattle.rpl_calls.specs.declared.given.Fact.TheVariants.{Wide, Length}
use Rattle.rpl_calls.specs.declared.given.Given.{Given}
use Rattle.rpl_calls.specs.contracts.given.FactPartialEq.TheImpl as fact

facts : (a b : Fact) → fact.ghosts.eq a b ≡ true → a ≡ b
facts Wide Wide e = refl
facts Wide (Length b) e = absurd (true≢false (sym e))
facts (Length a) Wide e = absurd (true≢false (sym e))
facts (Length a) (Length b) e = ap Length (eqb-true a b e)

pub one_given : (a b : Given) → (a.argument == b.argument && fact.ghosts.eq a.fact b.fact) ≡ true → a ≡ b
one_given a b e =
    let parts = and_parts (a.argument == b.argument) (fact.ghosts.eq a.fact b.fact) e in
    let argument = eqb-true a.argument b.argument parts.0 in
    λ i. record { argument = argument i; fact = facts a.fact b.fact parts.1 i }
