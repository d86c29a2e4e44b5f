-- One more entry behind the one under way.
use Rattle.std.proofs.Common.{◌≡◌, refl, sym, ap, ◌∙◌, true, false, length, List, [], ◌∷◌, Option, Some, None, arith}
use Rattle.rpl_plans.specs.Choices.{JoinsChoice, grouped_from, grouped}
use Rattle.rpl_plans.specs.declared.choice.Choice.{Choice}
use Rattle.rpl_plans.specs.declared.test.PlannedTest.{PlannedTest}

pub met : (c d e : Choice) → JoinsChoice c d true e → (ds : List Choice) → grouped_from c (d ∷ ds) ≡ grouped_from e ds
unfolding grouped_from
met c d e h ds =
    ap (λ (o : Option PlannedTest). elim o [ Some test ↦ grouped_from (record { permit = c.permit; test = test }) ds | None ↦ c ∷ grouped_from d ds ]) h.0
    ∙ ap (λ p. grouped_from (record { permit = p; test = e.test }) ds) (sym h.1)

pub unmet : (c d e : Choice) → JoinsChoice c d false e → (ds : List Choice) → grouped_from c (d ∷ ds) ≡ e ∷ grouped_from d ds
unfolding grouped_from
unmet c d e h ds =
    ap (λ (o : Option PlannedTest). elim o [ Some test ↦ grouped_from (record { permit = c.permit; test = test }) ds | None ↦ c ∷ grouped_from d ds ]) h.0
    ∙ ap (λ k. k ∷ grouped_from d ds) (sym h.1)

-- an entry alone
pub grouped_alone : (cs : List Choice) → length cs ≡ 1 → grouped cs ≡ cs
unfolding grouped_from
grouped_alone [] h = absurd (omega (arith, h))
grouped_alone (c ∷ []) h = refl
grouped_alone (c ∷ d ∷ ds) h = absurd (omega (arith, h))
