-- The first construct that isn't granted, as the function finds it and as it is said.
use Rattle.std.proofs.Common.{◌≡◌, refl, sym, ap, ◌∙◌, Bool, true, false, List, [], ◌∷◌, ◌++◌, Option, Some, None}
use Rattle.expressible_table.specs.Grants.{grants}
use Rattle.expressible_table.specs.Missing.{AllGranted, LacksFirst, first_missing}
use Rattle.expressible_table.specs.declared.construct.Construct.{Construct}
use Rattle.expressible_table.specs.declared.kind.Dialect.{Dialect}

-- ---- what is found

first_by : (target : Dialect) (c : Construct) (cs : List Construct) (o : Option Construct) (b : Bool) → grants c.kind target ≡ b → LacksFirst target cs o
    → LacksFirst target (c ∷ cs) (elim b [ true ↦ o | false ↦ Some c ])
first_by target c cs None true e h = (e, h)
first_by target c cs (Some d) true e h = record {
  before = c ∷ h.before;
  behind = h.behind;
  among = ap (λ (w : List Construct). c ∷ w) h.among;
  granted = (e, h.granted);
  missing = h.missing;
}
first_by target c cs o false e h = record {
  before = [];
  behind = cs;
  among = refl;
  granted = tt;
  missing = e;
}

pub lacks_first : (target : Dialect) (cs : List Construct) → LacksFirst target cs (first_missing target cs)
unfolding first_missing
lacks_first target [] = tt
lacks_first target (c ∷ cs) = first_by target c cs (first_missing target cs) (grants c.kind target) refl (lacks_first target cs)

-- ---- what is said

none_missing : (target : Dialect) (cs : List Construct) → AllGranted target cs → first_missing target cs ≡ None
unfolding first_missing
none_missing target [] h = refl
none_missing target (c ∷ cs) h = ap (λ (b : Bool). elim b [ true ↦ first_missing target cs | false ↦ Some c ]) h.0 ∙ none_missing target cs h.1

missing_behind : (target : Dialect) (before behind : List Construct) (c : Construct) → AllGranted target before → grants c.kind target ≡ false → first_missing target (before ++ c ∷ behind) ≡ Some c
unfolding first_missing
missing_behind target [] behind c h m = ap (λ (b : Bool). elim b [ true ↦ first_missing target behind | false ↦ Some c ]) m
missing_behind target (d ∷ ds) behind c h m =
    ap (λ (b : Bool). elim b [ true ↦ first_missing target (ds ++ c ∷ behind) | false ↦ Some d ]) h.0
    ∙ missing_behind target ds behind c h.1 m

pub one_first : (target : Dialect) (cs : List Construct) (o : Option Construct) → LacksFirst target cs o → o ≡ first_missing target cs
one_first target cs None h = sym (none_missing target cs h)
one_first target cs (Some c) h = sym (ap (λ (w : List Construct). first_missing target w) h.among ∙ missing_behind target h.before h.behind c h.granted h.missing)
