-- The calls of a text: `apply` statements of policies, in text order, and which policy calls which.
use Rattle.std.specs.Prelude.{ℕ, List, [], ◌∷◌, Option, None, map}
use Rattle.std.specs.List.{flat_map}
use Rattle.text_words.specs.declared.statement.Span.{Span}
use Rattle.rpl_forms.specs.declared.item.Apply.{Apply}
use Rattle.rpl_forms.specs.declared.item.Argument.{Argument}
use Rattle.rpl_forms.specs.declared.item.Argument.TheVariants.{Written, Parameter}
use Rattle.rpl_forms.specs.declared.item.PolicyStatement.TheVariants.{Apply as ApplyStatement}
use Rattle.rpl_forms.specs.declared.item.RplForm.{RplForm}
use Rattle.rpl_forms.specs.declared.item.RplForm.TheVariants.{Statement}
use Rattle.rpl_forms.specs.declared.item.RplItem.{RplItem}
use Rattle.policy_calls.specs.Calls.{Link}
use Rattle.rpl_calls.specs.Policies.{Spoken, spoken_from, name_under, parameters_in, place_of}

-- a call: the name of the policy that it stands in, what is applied, for each argument its place among the parameters
-- of that policy if it is one of them, and where it stands
pub record CallParts : Type 0 where
  pub caller : List ℕ
  pub apply : Apply
  pub own : List (Option ℕ)
  pub span : Span

-- the place of an argument among the parameters
abbrev pub own_place : (List ℕ → Option ℕ) → Argument → Option ℕ
own_place places (Written w) = None
own_place places (Parameter x) = places x

-- the call that a form is
abbrev pub call_in : List ℕ → (List ℕ → Option ℕ) → Span → RplForm → List CallParts
call_in caller places span (Statement (ApplyStatement a)) = record { caller = caller; apply = a; own = map (own_place places) a.arguments; span = span } ∷ []
call_in caller places span _ = []

-- the call that a statement is
abbrev pub call_of : Spoken → List CallParts
call_of s = call_in (name_under s.line) (place_of (parameters_in s.line)) s.item.span s.item.form

-- the calls of a text
abbrev pub calls_of : List RplItem → List CallParts
calls_of items = flat_map call_of (spoken_from None items)

-- which policy calls which
abbrev pub links : List CallParts → List Link
links calls = map (λ c. record { caller = c.caller; callee = c.apply.policy }) calls
