-- The statements that set the communities of a set that is handed to their policy.
use Rattle.std.specs.Prelude.{ℕ, List, [], ◌∷◌, Option, Some, None}
use Rattle.std.specs.List.{flat_map}
use Rattle.route_types.specs.Community.{RectParts}
use Rattle.text_words.specs.declared.statement.Span.{Span}
use Rattle.rpl_words.specs.declared.number.RplSet.{RplSet}
use Rattle.rpl_words.specs.declared.number.RplSet.TheVariants.{Parameter as GivenSet}
use Rattle.rpl_forms.specs.declared.item.Action.TheVariants.{SetCommunity}
use Rattle.rpl_forms.specs.declared.item.PolicyStatement.TheVariants.{Act}
use Rattle.rpl_forms.specs.declared.item.RplForm.{RplForm}
use Rattle.rpl_forms.specs.declared.item.RplForm.TheVariants.{Statement}
use Rattle.rpl_forms.specs.declared.item.RplItem.{RplItem}
use Rattle.rpl_calls.specs.Policies.{Spoken, spoken_from, parameters_in, name_under, place_of}

-- the place among the parameters of what a set is, if it is one of them
abbrev pub given_place : (List ℕ → Option ℕ) → RplSet RectParts → Option ℕ
given_place places (GivenSet x) = places x
given_place places _ = None

-- the same of the set whose communities a form sets
abbrev pub set_place : (List ℕ → Option ℕ) → RplForm → Option ℕ
set_place places (Statement (Act (SetCommunity s))) = given_place places s.set
set_place places _ = None

-- in the policies of this name a statement sets the communities of what is handed to them at this place
pub record Setting : Type 0 where
  pub policy : List ℕ
  pub place : ℕ
  pub span : Span

-- the settings that a form is
abbrev pub setting_in : List ℕ → (List ℕ → Option ℕ) → Span → RplForm → List Setting
setting_in policy places span form = elim (set_place places form) [ None ↦ [] | Some n ↦ record { policy = policy; place = n; span = span } ∷ [] ]

abbrev pub setting_of : Spoken → List Setting
setting_of s = setting_in (name_under s.line) (place_of (parameters_in s.line)) s.item.span s.item.form

-- the settings of a text
abbrev pub settings_of : List RplItem → List Setting
settings_of items = flat_map setting_of (spoken_from None items)
