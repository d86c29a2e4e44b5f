-- How definitions are laid out: all in `policy-options`, a statement a line, four spaces a level; and which forms they say.
use Rattle.std.specs.Prelude.{ℕ, false, List, [], ◌∷◌, ◌++◌, codes, map}
use Rattle.std.specs.List.{flat_map}
use Rattle.text_words.specs.JunosWritten.{JunosLine, Says, Opens, Closes, junos_text}
use Rattle.text_words.specs.Pieces.{line_pieces}
use Rattle.junos_tree.specs.Forms.{condition_form, action_form}
use Rattle.junos_tree.specs.declared.item.Action.{Action}
use Rattle.junos_tree.specs.declared.item.Condition.{Condition}
use Rattle.junos_tree.specs.declared.item.JunosForm.{JunosForm}
use Rattle.junos_tree.specs.declared.item.JunosForm.TheVariants.{Community as CommunityForm, AsPath as PathForm, Policy as PolicyForm, Term}
use Rattle.junos_text.specs.Words.{condition_words, action_pieces, path_pieces, community_words}
use Rattle.junos_text.specs.declared.option.PolicyOption.{PolicyOption}
use Rattle.junos_text.specs.declared.option.PolicyOption.TheVariants.{AsPath, Community, Policy}
use Rattle.junos_text.specs.declared.option.PolicyTerm.{PolicyTerm}

-- ---- forms

-- the forms of a term: its first line, its conditions, its actions
abbrev pub term_forms : PolicyTerm → List JunosForm
term_forms t = Term t.name ∷ (map (condition_form false) t.conditions ++ map (action_form false) t.actions)

-- the forms of a definition
abbrev pub option_forms : PolicyOption → List JunosForm
option_forms (AsPath p) = PathForm p ∷ []
option_forms (Community c) = CommunityForm c ∷ []
option_forms (Policy p) = PolicyForm p.name ∷ flat_map term_forms p.terms

-- the forms of definitions
abbrev pub forms_of : List PolicyOption → List JunosForm
forms_of os = flat_map option_forms os

-- ---- lines

-- lines in a block that these words open, in front of others
abbrev pub block : List (List ℕ) → List JunosLine → List JunosLine → List JunosLine
block ws inner following = Opens (line_pieces 0 ws) ∷ (inner ++ (Closes ∷ following))

abbrev pub condition_line : Condition → JunosLine
condition_line c = Says (line_pieces 0 (condition_words c))

abbrev pub action_line : Action → JunosLine
action_line a = Says (action_pieces a)

-- the block of conditions, where there are any, in front of other lines
abbrev pub from_lines : List Condition → List JunosLine → List JunosLine
from_lines [] following = following
from_lines (c ∷ cs) following = block (codes "from" ∷ []) (map condition_line (c ∷ cs)) following

-- the lines of a term
abbrev pub term_lines : PolicyTerm → List JunosLine
term_lines t = block (codes "term" ∷ t.name ∷ []) (from_lines t.conditions (block (codes "then" ∷ []) (map action_line t.actions) [])) []

-- the lines of a definition
abbrev pub option_lines : PolicyOption → List JunosLine
option_lines (AsPath p) = Says (path_pieces p) ∷ []
option_lines (Community c) = Says (line_pieces 0 (community_words c)) ∷ []
option_lines (Policy p) = block (codes "policy-statement" ∷ p.name ∷ []) (flat_map term_lines p.terms) []

-- the lines of definitions
abbrev pub lines_of : List PolicyOption → List JunosLine
lines_of os = block (codes "policy-options" ∷ []) (flat_map option_lines os) []

-- the text of definitions
unfoldable pub text_of : List PolicyOption → List ℕ
text_of os = junos_text (lines_of os)
