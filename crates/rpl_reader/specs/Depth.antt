-- How deep `if`s and the parentheses of conditions are nested.
use Rattle.std.specs.Prelude.{ℕ, ◌+◌, ◌-◌, Bool, true, false, ◌||◌, ◌&&◌, nat_le, max, List, [], ◌∷◌, Option, Some}
use Rattle.rpl_words.specs.declared.condition.Term.{Term}
use Rattle.rpl_words.specs.declared.condition.Term.TheVariants.{Test, Group, Not, And, Or}
use Rattle.rpl_forms.specs.declared.item.IfWord.{IfWord}
use Rattle.rpl_forms.specs.declared.item.IfWord.TheVariants.{If as IfBegins, EndIf as IfEnds}
use Rattle.rpl_forms.specs.declared.item.PolicyStatement.{PolicyStatement}
use Rattle.rpl_forms.specs.declared.item.PolicyStatement.TheVariants.{If, ElseIf, EndIf}
use Rattle.rpl_forms.specs.declared.item.RplForm.{RplForm}
use Rattle.rpl_forms.specs.declared.item.RplForm.TheVariants.{Statement, Other}

-- a statement opens an `if`
abbrev pub begins_if : PolicyStatement → Bool
begins_if (If terms) = true
begins_if _ = false

-- a first word opens an `if`
abbrev pub word_begins_if : Option IfWord → Bool
word_begins_if (Some IfBegins) = true
word_begins_if _ = false

-- a form opens an `if`, also one that spells none
abbrev pub is_if : RplForm → Bool
is_if (Statement s) = begins_if s
is_if (Other o) = word_begins_if o.keyword
is_if _ = false

-- the `if`s that are open behind a statement where so many were before it
abbrev pub ifs_past : PolicyStatement → ℕ → ℕ
ifs_past (If terms) n = n + 1
ifs_past EndIf n = n - 1
ifs_past _ n = n

abbrev pub ifs_past_word : Option IfWord → ℕ → ℕ
ifs_past_word (Some IfBegins) n = n + 1
ifs_past_word (Some IfEnds) n = n - 1
ifs_past_word _ n = n

-- the same behind a form
abbrev pub ifs_behind : RplForm → ℕ → ℕ
ifs_behind (Statement s) n = ifs_past s n
ifs_behind (Other o) n = ifs_past_word o.keyword n
ifs_behind _ n = n

-- the depth of two conditions that are joined, and of what stands below them
abbrev pub joined : List ℕ → List ℕ
joined (a ∷ b ∷ depths) = max a b ∷ depths
joined depths = depths

-- a parenthesis round the last condition lies beyond nesting 128
abbrev pub is_beyond : List ℕ → Bool
is_beyond [] = false
is_beyond (d ∷ depths) = nat_le 128 d

-- the depths with a parenthesis round the last condition
abbrev pub grouped : List ℕ → List ℕ
grouped [] = []
grouped (d ∷ depths) = (d + 1) ∷ depths

-- a parenthesis of the terms lies beyond nesting 128; `depths` are those of the conditions that stand before them, the
-- last one first
unfoldable pub has_deep_group : List ℕ → List Term → Bool
has_deep_group depths [] = false
has_deep_group depths (Test t ∷ ts) = has_deep_group (0 ∷ depths) ts
has_deep_group depths (Group ∷ ts) = is_beyond depths || has_deep_group (grouped depths) ts
has_deep_group depths (Not ∷ ts) = has_deep_group depths ts
has_deep_group depths (And ∷ ts) = has_deep_group (joined depths) ts
has_deep_group depths (Or ∷ ts) = has_deep_group (joined depths) ts

-- a parenthesis of a statement's condition lies beyond nesting 128
abbrev pub groups_deep : PolicyStatement → Bool
groups_deep (If terms) = has_deep_group [] terms
groups_deep (ElseIf terms) = has_deep_group [] terms
groups_deep _ = false

abbrev pub condition_deep : RplForm → Bool
condition_deep (Statement s) = groups_deep s
condition_deep _ = false

-- too deep: an `if` where so many are open, or a parenthesis in the condition, beyond nesting 128
abbrev pub is_too_deep : ℕ → RplForm → Bool
is_too_deep ifs form = (is_if form && nat_le 128 ifs) || condition_deep form
