-- The text of lines is put together from the texts of their parts.
use Rattle.std.proofs.Common.{◌≡◌, refl, sym, ap, ◌∙◌, ℕ, suc, ◌*◌, true, List, [], ◌∷◌, ◌++◌, append_assoc, append-nil, map}
use Rattle.std.specs.Prelude.{codes, decimal}
use Rattle.route_types.specs.RouteText.{origin_text}
use Rattle.std.specs.List.{flat_map}
use Rattle.text_words.specs.JunosWritten.{JunosLine, Says, Opens, Closes, lines_text, junos_text}
use Rattle.text_words.specs.Pieces.{Piece, spaces, pieces_text, pieces_behind, line_pieces, words_text, text_behind}
use Rattle.junos_tree.specs.declared.item.Action.{Action}
use Rattle.junos_tree.specs.declared.item.Action.TheVariants.{Flow as FlowAction, Metric as SetMetric, LocalPreference as SetLocalPreference, Origin as SetOrigin, NextHop as SetNextHop, Community as ChangeCommunities, Prepend}
use Rattle.junos_tree.specs.declared.item.Condition.{Condition}
use Rattle.junos_text.specs.Layout.{condition_line, action_line, from_lines, block, term_lines, option_lines, lines_of, text_of}
use Rattle.junos_text.specs.Texts.{margin, semi, brace, closing, quoted, prepend_text, action_text, path_text, statement_text, opening_text, closing_text, conditions_text, actions_text, from_text, then_text, term_text, option_text, whole_text}
use Rattle.junos_text.specs.Words.{next_hop_text, flow_words, verb_text, numbers_text, quoted_last, condition_words, action_pieces, path_pieces, community_words}
use Rattle.junos_text.specs.declared.option.PolicyOption.{PolicyOption}
use Rattle.junos_text.specs.declared.option.PolicyOption.TheVariants.{AsPath, Community, Policy}
use Rattle.junos_text.specs.declared.option.PolicyTerm.{PolicyTerm}

behind_text : (ws : List (List ℕ)) → pieces_text 34 (pieces_behind ws) ≡ text_behind ws
unfolding pieces_text
behind_text [] = refl
behind_text (w ∷ ws) = ap (λ (t : List ℕ). 32 ∷ (w ++ t)) (behind_text ws)

line_text : (ws : List (List ℕ)) → pieces_text 34 (line_pieces 0 ws) ≡ words_text ws
unfolding pieces_text words_text
line_text [] = refl
line_text (w ∷ ws) = ap (λ (t : List ℕ). w ++ t) (behind_text ws)

quoted_behind : (ws : List (List ℕ)) (text : List ℕ) → pieces_text 34 (pieces_behind ws ++ (record { gap = 1; text = text; quoted = true } ∷ [])) ≡ text_behind ws ++ quoted text
unfolding pieces_text quoted
quoted_behind [] text = refl
quoted_behind (w ∷ ws) text = ap (λ (t : List ℕ). 32 ∷ (w ++ t)) (quoted_behind ws text) ∙ ap (λ (t : List ℕ). 32 ∷ t) (sym (append_assoc w (text_behind ws) (quoted text)))

-- words, and a last one in quotes
quoted_text : (w : List ℕ) (ws : List (List ℕ)) (text : List ℕ) → pieces_text 34 (quoted_last (w ∷ ws) text) ≡ words_text (w ∷ ws) ++ quoted text
unfolding pieces_text words_text
quoted_text w ws text = ap (λ (t : List ℕ). w ++ t) (quoted_behind ws text) ∙ sym (append_assoc w (text_behind ws) (quoted text))

-- lines at a level have this text, whatever stands behind them
abbrev Prints : ℕ → List JunosLine → List ℕ → Type 0
Prints level ls text = (more : List JunosLine) → lines_text level (ls ++ more) ≡ text ++ lines_text level more

both_print : (level : ℕ) (ls ms : List JunosLine) (t u : List ℕ) → Prints level ls t → Prints level ms u → Prints level (ls ++ ms) (t ++ u)
both_print level ls ms t u a b more = ap (lines_text level) (append_assoc ls ms more) ∙ a (ms ++ more) ∙ ap (λ (x : List ℕ). t ++ x) (b more) ∙ sym (append_assoc t u (lines_text level more))

margin_then : (space text end rest : List ℕ) → space ++ (text ++ (end ++ rest)) ≡ (space ++ (text ++ end)) ++ rest
margin_then space text end rest = ap (λ (x : List ℕ). space ++ x) (sym (append_assoc text end rest)) ∙ sym (append_assoc space (text ++ end) rest)

says_prints : (level : ℕ) (xs : List Piece) (text : List ℕ) → pieces_text 34 xs ≡ text → Prints level (Says xs ∷ []) (statement_text level text)
unfolding lines_text margin semi
says_prints level xs text e more = ap (λ (t : List ℕ). spaces (4 * level) ++ (t ++ (59 ∷ 10 ∷ lines_text level more))) e ∙ margin_then (spaces (4 * level)) text (59 ∷ 10 ∷ []) (lines_text level more)

closed : (t space u rest : List ℕ) → t ++ (space ++ (125 ∷ 10 ∷ (u ++ rest))) ≡ ((t ++ (space ++ (125 ∷ 10 ∷ []))) ++ u) ++ rest
closed t space u rest =
    ap (λ (x : List ℕ). t ++ x) (sym (append_assoc space (125 ∷ 10 ∷ []) (u ++ rest)))
    ∙ sym (append_assoc t (space ++ (125 ∷ 10 ∷ [])) (u ++ rest))
    ∙ sym (append_assoc (t ++ (space ++ (125 ∷ 10 ∷ []))) u rest)

-- a block, and lines behind it
block_prints : (level : ℕ) (ws : List (List ℕ)) (text : List ℕ) (inner following : List JunosLine) (t u : List ℕ) → words_text ws ≡ text → Prints (suc level) inner t → Prints level following u
    → Prints level (block ws inner following) (opening_text level text ++ ((t ++ closing_text level) ++ u))
unfolding lines_text margin brace closing
block_prints level ws text inner following t u e a b more =
    let space = spaces (4 * level) in
    let rest = lines_text level more in
    ap (λ (x : List ℕ). space ++ (x ++ (32 ∷ 123 ∷ 10 ∷ lines_text (suc level) ((inner ++ (Closes ∷ following)) ++ more)))) (line_text ws ∙ e)
    ∙ margin_then space text (32 ∷ 123 ∷ 10 ∷ []) (lines_text (suc level) ((inner ++ (Closes ∷ following)) ++ more))
    ∙ ap (λ (x : List ℕ). opening_text level text ++ x) (
    ap (lines_text (suc level)) (append_assoc inner (Closes ∷ following) more)
    ∙ a (Closes ∷ (following ++ more))
    ∙ ap (λ (x : List ℕ). t ++ (space ++ (125 ∷ 10 ∷ x))) (b more)
    ∙ closed t space u rest
    )
    ∙ sym (append_assoc (opening_text level text) ((t ++ closing_text level) ++ u) rest)

none_print : (level : ℕ) → Prints level [] []
none_print level more = refl

conditions_print : (cs : List Condition) → Prints 4 (map condition_line cs) (conditions_text cs)
conditions_print [] = none_print 4
conditions_print (c ∷ cs) = both_print 4 (condition_line c ∷ []) (map condition_line cs) (statement_text 4 (words_text (condition_words c))) (conditions_text cs) (says_prints 4 (line_pieces 0 (condition_words c)) (words_text (condition_words c)) (line_text (condition_words c))) (conditions_print cs)

action_is : (a : Action) → pieces_text 34 (action_pieces a) ≡ action_text a
unfolding prepend_text
action_is (FlowAction flow) = line_text (flow_words flow)
action_is (SetMetric n) = line_text (codes "metric" ∷ decimal n ∷ [])
action_is (SetLocalPreference n) = line_text (codes "local-preference" ∷ decimal n ∷ [])
action_is (SetOrigin o) = line_text (codes "origin" ∷ origin_text o ∷ [])
action_is (SetNextHop h) = line_text (codes "next-hop" ∷ next_hop_text h ∷ [])
action_is (ChangeCommunities c) = line_text (codes "community" ∷ verb_text c.verb ∷ c.community ∷ [])
action_is (Prepend ns) = quoted_text (codes "as-path-prepend") [] (numbers_text ns)

actions_print : (xs : List Action) → Prints 4 (map action_line xs) (actions_text xs)
actions_print [] = none_print 4
actions_print (a ∷ xs) = both_print 4 (action_line a ∷ []) (map action_line xs) (statement_text 4 (action_text a)) (actions_text xs) (says_prints 4 (action_pieces a) (action_text a) (action_is a)) (actions_print xs)

-- a text with nothing behind it
closed_alone : (opening t end : List ℕ) → opening ++ ((t ++ end) ++ []) ≡ opening ++ (t ++ end)
closed_alone opening t end = ap (λ (x : List ℕ). opening ++ x) (append-nil (t ++ end))

then_prints : (xs : List Action) → Prints 3 (block (codes "then" ∷ []) (map action_line xs) []) (then_text xs)
then_prints xs more = block_prints 3 (codes "then" ∷ []) (words_text (codes "then" ∷ [])) (map action_line xs) [] (actions_text xs) [] refl (actions_print xs) (none_print 3) more ∙ ap (λ (x : List ℕ). x ++ lines_text 3 more) (closed_alone (opening_text 3 (words_text (codes "then" ∷ []))) (actions_text xs) (closing_text 3))

from_prints : (cs : List Condition) (ls : List JunosLine) (t : List ℕ) → Prints 3 ls t → Prints 3 (from_lines cs ls) (from_text cs ++ t)
from_prints [] ls t h more = h more
from_prints (c ∷ cs) ls t h more =
    let opening = opening_text 3 (words_text (codes "from" ∷ [])) in
    let inner = conditions_text (c ∷ cs) in
    block_prints 3 (codes "from" ∷ []) (words_text (codes "from" ∷ [])) (map condition_line (c ∷ cs)) ls inner t refl (conditions_print (c ∷ cs)) h more
    ∙ ap (λ (x : List ℕ). x ++ lines_text 3 more) (sym (append_assoc opening (inner ++ closing_text 3) t))

term_prints : (t : PolicyTerm) → Prints 2 (term_lines t) (term_text t)
term_prints t more =
    let opening = opening_text 2 (words_text (codes "term" ∷ t.name ∷ [])) in
    let inner = from_text t.conditions ++ then_text t.actions in
    block_prints 2 (codes "term" ∷ t.name ∷ []) (words_text (codes "term" ∷ t.name ∷ [])) (from_lines t.conditions (block (codes "then" ∷ []) (map action_line t.actions) [])) [] inner [] refl
    (from_prints t.conditions (block (codes "then" ∷ []) (map action_line t.actions) []) (then_text t.actions) (then_prints t.actions)) (none_print 2) more
    ∙ ap (λ (x : List ℕ). x ++ lines_text 2 more) (closed_alone opening inner (closing_text 2) ∙ ap (λ (x : List ℕ). opening ++ x) (append_assoc (from_text t.conditions) (then_text t.actions) (closing_text 2)))

terms_print : (ts : List PolicyTerm) → Prints 2 (flat_map term_lines ts) (flat_map term_text ts)
terms_print [] = none_print 2
terms_print (t ∷ ts) = both_print 2 (term_lines t) (flat_map term_lines ts) (term_text t) (flat_map term_text ts) (term_prints t) (terms_print ts)

option_prints : (o : PolicyOption) → Prints 1 (option_lines o) (option_text o)
option_prints (AsPath d) more = says_prints 1 (path_pieces d) (path_text d) (quoted_text (codes "as-path") (d.name ∷ []) d.text) more
option_prints (Community c) more = says_prints 1 (line_pieces 0 (community_words c)) (words_text (community_words c)) (line_text (community_words c)) more
option_prints (Policy d) more =
    let text = words_text (codes "policy-statement" ∷ d.name ∷ []) in
    block_prints 1 (codes "policy-statement" ∷ d.name ∷ []) text (flat_map term_lines d.terms) [] (flat_map term_text d.terms) [] refl (terms_print d.terms) (none_print 1) more
    ∙ ap (λ (x : List ℕ). x ++ lines_text 1 more) (closed_alone (opening_text 1 text) (flat_map term_text d.terms) (closing_text 1))

options_print : (os : List PolicyOption) → Prints 1 (flat_map option_lines os) (flat_map option_text os)
options_print [] = none_print 1
options_print (o ∷ os) = both_print 1 (option_lines o) (flat_map option_lines os) (option_text o) (flat_map option_text os) (option_prints o) (options_print os)

-- the text of definitions
pub text_is_whole : (os : List PolicyOption) → text_of os ≡ whole_text os
unfolding text_of lines_text whole_text
text_is_whole os =
    let opening = opening_text 0 (words_text (codes "policy-options" ∷ [])) in
    let inner = flat_map option_text os in
    ap (lines_text 0) (sym (append-nil (lines_of os)))
    ∙ block_prints 0 (codes "policy-options" ∷ []) (words_text (codes "policy-options" ∷ [])) (flat_map option_lines os) [] inner [] refl (options_print os) (none_print 0) []
    ∙ append-nil (opening ++ ((inner ++ closing_text 0) ++ []))
    ∙ closed_alone opening inner (closing_text 0)
