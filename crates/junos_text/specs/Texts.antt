-- The text of definitions as it is put together, line by line.
use Rattle.std.specs.Prelude.{ℕ, ◌*◌, List, [], ◌∷◌, ◌++◌, codes, decimal}
use Rattle.std.specs.List.{flat_map}
use Rattle.route_types.specs.RouteText.{origin_text}
use Rattle.text_words.specs.Pieces.{spaces, words_text}
use Rattle.junos_tree.specs.declared.item.Action.{Action}
use Rattle.junos_tree.specs.declared.item.Action.TheVariants.{Flow as FlowAction, Metric as SetMetric, LocalPreference as SetLocalPreference, Origin as SetOrigin, NextHop as SetNextHop, Community as ChangeCommunities, Prepend}
use Rattle.junos_tree.specs.declared.item.Condition.{Condition}
use Rattle.junos_tree.specs.declared.item.PathDefinition.{PathDefinition}
use Rattle.junos_text.specs.Words.{next_hop_text, flow_words, verb_text, numbers_text, condition_words, community_words}
use Rattle.junos_text.specs.declared.option.PolicyOption.{PolicyOption}
use Rattle.junos_text.specs.declared.option.PolicyOption.TheVariants.{AsPath, Community, Policy}
use Rattle.junos_text.specs.declared.option.PolicyTerm.{PolicyTerm}

-- ---- the ends of lines

-- four spaces a level
unfoldable pub margin : ℕ → List ℕ
margin level = spaces (4 * level)

-- behind the words of a statement
unfoldable pub semi : List ℕ
semi = 59 ∷ 10 ∷ []

-- behind the words that open a block
unfoldable pub brace : List ℕ
brace = 32 ∷ 123 ∷ 10 ∷ []

-- the end of a block
unfoldable pub closing : List ℕ
closing = 125 ∷ 10 ∷ []

-- a text in quotes, behind one space
unfoldable pub quoted : List ℕ → List ℕ
quoted text = 32 ∷ 34 ∷ (text ++ (34 ∷ []))

-- ---- lines

-- a line of words and `;` at a level
abbrev pub statement_text : ℕ → List ℕ → List ℕ
statement_text level text = margin level ++ (text ++ semi)

-- a line of words and `{` at a level
abbrev pub opening_text : ℕ → List ℕ → List ℕ
opening_text level text = margin level ++ (text ++ brace)

-- a line of `}` at a level
abbrev pub closing_text : ℕ → List ℕ
closing_text level = margin level ++ closing

-- ---- what stands on lines

-- numbers that are put before the path
unfoldable pub prepend_text : List ℕ → List ℕ
prepend_text text = words_text (codes "as-path-prepend" ∷ []) ++ quoted text

abbrev pub action_text : Action → List ℕ
action_text (FlowAction flow) = words_text (flow_words flow)
action_text (SetMetric n) = words_text (codes "metric" ∷ decimal n ∷ [])
action_text (SetLocalPreference n) = words_text (codes "local-preference" ∷ decimal n ∷ [])
action_text (SetOrigin o) = words_text (codes "origin" ∷ origin_text o ∷ [])
action_text (SetNextHop h) = words_text (codes "next-hop" ∷ next_hop_text h ∷ [])
action_text (ChangeCommunities c) = words_text (codes "community" ∷ verb_text c.verb ∷ c.community ∷ [])
action_text (Prepend ns) = prepend_text (numbers_text ns)

abbrev pub path_text : PathDefinition → List ℕ
path_text p = words_text (codes "as-path" ∷ p.name ∷ []) ++ quoted p.text

abbrev pub conditions_text : List Condition → List ℕ
conditions_text cs = flat_map (λ c. statement_text 4 (words_text (condition_words c))) cs

abbrev pub actions_text : List Action → List ℕ
actions_text xs = flat_map (λ a. statement_text 4 (action_text a)) xs

-- the block of conditions, where there are any
abbrev pub from_text : List Condition → List ℕ
from_text [] = []
from_text (c ∷ cs) = opening_text 3 (words_text (codes "from" ∷ [])) ++ (conditions_text (c ∷ cs) ++ closing_text 3)

abbrev pub then_text : List Action → List ℕ
then_text xs = opening_text 3 (words_text (codes "then" ∷ [])) ++ (actions_text xs ++ closing_text 3)

abbrev pub term_text : PolicyTerm → List ℕ
term_text t = opening_text 2 (words_text (codes "term" ∷ t.name ∷ [])) ++ (from_text t.conditions ++ (then_text t.actions ++ closing_text 2))

abbrev pub option_text : PolicyOption → List ℕ
option_text (AsPath p) = statement_text 1 (path_text p)
option_text (Community c) = statement_text 1 (words_text (community_words c))
option_text (Policy p) = opening_text 1 (words_text (codes "policy-statement" ∷ p.name ∷ [])) ++ (flat_map term_text p.terms ++ closing_text 1)

unfoldable pub whole_text : List PolicyOption → List ℕ
whole_text os = opening_text 0 (words_text (codes "policy-options" ∷ [])) ++ (flat_map option_text os ++ closing_text 0)
