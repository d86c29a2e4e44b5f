-- Terms that are put behind others, each with its number.
use Rattle.std.specs.Prelude.{ℕ, ◌+◌, Bool, true, false, List, [], ◌∷◌, ◌++◌, length, codes, decimal}
use Rattle.junos_tree.specs.Terms.{Content}
use Rattle.junos_text.specs.declared.option.PolicyTerm.{PolicyTerm}

-- a term under its number
abbrev pub term_named : ℕ → Content → PolicyTerm
term_named n t = record { name = codes "t" ++ decimal n; conditions = t.conditions; actions = t.actions }

-- terms, each under the number of those before it and one more
unfoldable pub with_terms : List PolicyTerm → List Content → List PolicyTerm
with_terms out [] = out
with_terms out (t ∷ ts) = with_terms (out ++ term_named (length out + 1) t ∷ []) ts

-- what follows, where it is reached
abbrev pub reached : Bool → List Content → List Content
reached true following = following
reached false following = []
