-- Definitions, line by line: what each line says, what the lines of terms and policies say, and that the text reads as the
-- definitions.
use Rattle.std.proofs.Common.{◌≡◌, refl, sym, ap, subst, ◌∙◌, ℕ, ◌+◌, ◌*◌, ◌-◌, ◌^◌, ◌≤◌, Bool, true, false, ◌&&◌, List, [], ◌∷◌, ◌++◌, Option, Some, None, Result, Ok, Err, append-nil, map, length, arith, inl, inr}
use Rattle.std.specs.Prelude.{codes, decimal, option_map, IfOk}
use Rattle.std.specs.List.{AllByRecursion, flat_map}
use Rattle.std.proofs.lemmas.Bool.{and_from}
use Rattle.std.proofs.lemmas.List.{length-map}
use Rattle.route_types.specs.RouteText.{Each, origin_text}
use Rattle.route_types.specs.Words.{IsNumber}
use Rattle.route_types.specs.declared.route.NextHop.{NextHop}
use Rattle.route_types.specs.declared.route.NextHop.TheVariants.{At, Own}
use Rattle.text_words.specs.JunosCut.{junos_cut}
use Rattle.text_words.specs.JunosWords.{sort_at}
use Rattle.text_words.specs.Signs.{are_words}
use Rattle.text_words.specs.JunosWritten.{junos_signs, JunosLine, Says, Opens, Closes, may_be_written, junos_text, junos_placed, words_end, plain_bytes, quoted_bytes}
use Rattle.text_words.specs.Pieces.{Piece, placed, line_pieces}
use Rattle.text_words.specs.declared.memory.Memory.{Memory}
use Rattle.text_words.specs.declared.statement.Ender.TheVariants.{Semi, Open}
use Rattle.text_words.specs.declared.statement.Statement.{Statement}
use Rattle.text_words.proofs.JunosLaw.{junos_written}
use Rattle.policy_text.specs.Phrases.{AreSome, IsOneOf}
use Rattle.junos_tree.specs.Forms.{condition_form, action_form}
use Rattle.junos_tree.specs.Reading.{IsRead}
use Rattle.junos_tree.specs.Spelling.{SpellAction, SpellTexts}
use Rattle.junos_tree.specs.Tree.{takes_quoted, said_at, opened_at, other_at, head_in, inside_form, items_from, junos_tree}
use Rattle.junos_tree.specs.Words.{IsNextHop, ArePrepended, IsPattern, ends, nexts, verbs}
use Rattle.junos_tree.specs.declared.item.Action.{Action}
use Rattle.junos_tree.specs.declared.item.Action.TheVariants.{Flow as FlowAction, Metric as SetMetric, LocalPreference as SetLocalPreference, Origin as SetOrigin, NextHop as SetNextHop, Community as ChangeCommunities, Prepend}
use Rattle.junos_tree.specs.declared.item.CommunityDefinition.{CommunityDefinition}
use Rattle.junos_tree.specs.declared.item.CommunityVerb.{CommunityVerb}
use Rattle.junos_tree.specs.declared.item.CommunityVerb.TheVariants.{Set, Add, Delete}
use Rattle.junos_tree.specs.declared.item.Condition.{Condition}
use Rattle.junos_tree.specs.declared.item.Flow.{Flow}
use Rattle.junos_tree.specs.declared.item.Flow.TheVariants.{Accept, Reject, NextTerm, NextPolicy}
use Rattle.junos_tree.specs.declared.item.StatementSort.TheVariants.{Community as CommunitySort, AsPath as PathSort, Policy as PolicySort, Inner}
use Rattle.junos_tree.specs.declared.item.JunosForm.{JunosForm}
use Rattle.junos_tree.specs.declared.item.JunosForm.TheVariants.{Community as CommunityForm, AsPath as PathForm, Policy as PolicyForm, Term}
use Rattle.junos_tree.specs.declared.item.JunosItem.{JunosItem}
use Rattle.junos_tree.specs.declared.item.OtherItem.{OtherItem}
use Rattle.junos_tree.specs.declared.item.PathDefinition.{PathDefinition}
use Rattle.junos_tree.specs.declared.place.Place.{Place}
use Rattle.junos_tree.specs.declared.place.Place.TheVariants.{Outside, Options, InPolicy, InTerm, From, Then}
use Rattle.junos_tree.proofs.Reading.{tree_is_read}
use Rattle.junos_text.specs.Layout.{term_forms, option_forms, forms_of, condition_line, action_line, from_lines, block, term_lines, option_lines, lines_of, text_of}
use Rattle.junos_text.specs.Words.{values_words, member_text, next_hop_text, condition_words, flow_words, verb_text, numbers_text, quoted_last, action_pieces, path_pieces, community_words}
use Rattle.junos_text.specs.Written.{FitsName, FitsNumber, FitsNextHop, FitsCondition, FitsAction, FitsPath, FitsCommunity, FitsTerm, FitsOption, MayBeWritten, ReadsAs, forms}
use Rattle.junos_text.specs.declared.option.PolicyOption.{PolicyOption}
use Rattle.junos_text.specs.declared.option.PolicyOption.TheVariants.{AsPath as PathOption, Community as CommunityOption, Policy as PolicyStatement}
use Rattle.junos_text.specs.declared.option.PolicyTerm.{PolicyTerm}
use Rattle.junos_text.proofs.Phrases.{ArePlain, line_words, values_plain}
use Rattle.junos_text.proofs.Plain.{IsPlainWord, address_word, decimal_word, numbers_quotable}
use Rattle.junos_text.proofs.Reading.{Speaks, line_speaks, quoted_speaks, Stands, ReadsIn, no_lines, then_lines, says_line, form_block, keyword_block}
use Rattle.junos_text.proofs.Spelled.{AreWords, condition_said, name_word, name_spelled, number_word, number_spelled, address_spelled, origin_word, members_plain, members_spelled, all_mapped, each_mapped}

-- ---- conditions and actions

-- what stands in a block of a policy under no name of its own
abbrev inner_item : OtherItem
inner_item = record { sort = Inner; name = None }

condition_stands : (c : Condition) → FitsCondition c → Stands (From false) Semi (condition_form false c) (line_pieces 0 (condition_words c))
unfolding opened_at
condition_stands c h =
    let w = condition_said c h in
    record {
      speaks = line_speaks (From false) Semi (condition_form false c) (condition_words c) refl (record { first = w.first; others = w.others; is = w.is; plain = w.plain; says = ((w.says, refl), refl) });
      opens = λ p. refl;
      other = inner_item;
      under = λ p. refl;
    }

-- an action as it stands on a line
abbrev ActionSpeaks : Action → Type 0
ActionSpeaks a = Speaks (Then false) Semi (action_form false a) (action_pieces a)

plain_action : (a : Action) (key : List ℕ) (ws : List (List ℕ)) → takes_quoted (action_form false a) ≡ false → ArePlain (key ∷ ws) → SpellAction (key ∷ ws) a → Speaks (Then false) Semi (action_form false a) (line_pieces 0 (key ∷ ws))
plain_action a key ws quotes plain says = line_speaks (Then false) Semi (action_form false a) (key ∷ ws) quotes (record { first = key; others = ws; is = refl; plain = plain; says = ((says, refl), refl) })

flow_speaks : (flow : Flow) → ActionSpeaks (FlowAction flow)
unfolding plain_bytes sort_at
flow_speaks Accept = plain_action (FlowAction Accept) (codes "accept") [] refl (refl, tt) (inl (codes "accept", refl, inl (refl, refl)))
flow_speaks Reject = plain_action (FlowAction Reject) (codes "reject") [] refl (refl, tt) (inl (codes "reject", refl, inr (inl (refl, refl))))
flow_speaks NextTerm = plain_action (FlowAction NextTerm) (codes "next") (codes "term" ∷ []) refl (refl, (refl, tt)) (inr (codes "term" ∷ [], refl, (codes "term", refl, inl (refl, refl))))
flow_speaks NextPolicy = plain_action (FlowAction NextPolicy) (codes "next") (codes "policy" ∷ []) refl (refl, (refl, tt)) (inr (codes "policy" ∷ [], refl, (codes "policy", refl, inr (inl (refl, refl)))))

next_hop_word : (h : NextHop) → FitsNextHop h → IsPlainWord (next_hop_text h)
unfolding plain_bytes sort_at
next_hop_word (At a) f = address_word a f.bits
next_hop_word Own f = refl

next_hop_spelled : (h : NextHop) → FitsNextHop h → IsNextHop (next_hop_text h) h
next_hop_spelled (At a) f = address_spelled a f
next_hop_spelled Own f = refl

verb_word : (v : CommunityVerb) → IsPlainWord (verb_text v)
unfolding plain_bytes sort_at
verb_word Set = refl
verb_word Add = refl
verb_word Delete = refl

verb_spelled : (v : CommunityVerb) → IsOneOf verbs (verb_text v) v
verb_spelled Set = inl (refl, refl)
verb_spelled Add = inr (inr (inl (refl, refl)))
verb_spelled Delete = inr (inr (inr (inr (inl (refl, refl)))))

numbers_spelled : (ns : List ℕ) → (1 ≤ length ns) × AllByRecursion FitsNumber ns → ArePrepended (numbers_text ns) ns
numbers_spelled ns h = record {
  words = map decimal ns;
  spelled = refl;
  numbers = record { some = subst (λ (n : ℕ). 1 ≤ n) (sym (length-map ns decimal)) h.0; each = each_mapped (IsNumber (2 ^ 32 - 1)) FitsNumber decimal number_spelled ns h.1 };
}

action_speaks : (a : Action) → FitsAction a → ActionSpeaks a
unfolding plain_bytes sort_at
action_speaks (FlowAction flow) h = flow_speaks flow
action_speaks (SetMetric n) h = plain_action (SetMetric n) (codes "metric") (decimal n ∷ []) refl (refl, (number_word n h, tt)) (decimal n ∷ [], refl, (decimal n, refl, number_spelled n h))
action_speaks (SetLocalPreference n) h = plain_action (SetLocalPreference n) (codes "local-preference") (decimal n ∷ []) refl (refl, (number_word n h, tt)) (decimal n ∷ [], refl, (decimal n, refl, number_spelled n h))
action_speaks (SetOrigin o) h = plain_action (SetOrigin o) (codes "origin") (origin_text o ∷ []) refl (refl, (origin_word o, tt)) (origin_text o ∷ [], refl, (origin_text o, refl, refl))
action_speaks (SetNextHop x) h = plain_action (SetNextHop x) (codes "next-hop") (next_hop_text x ∷ []) refl (refl, (next_hop_word x h, tt)) (next_hop_text x ∷ [], refl, (next_hop_text x, refl, next_hop_spelled x h))
action_speaks (ChangeCommunities c) h =
    plain_action (ChangeCommunities c) (codes "community") (verb_text c.verb ∷ c.community ∷ []) refl (refl, (verb_word c.verb, (name_word c.community h, tt)))
    (verb_text c.verb ∷ c.community ∷ [], refl, (verb_text c.verb, c.community ∷ [], refl, verb_spelled c.verb, (c.community, refl, name_spelled c.community h)))
action_speaks (Prepend ns) h =
    quoted_speaks (Then false) Semi (action_form false (Prepend ns)) (codes "as-path-prepend") [] (numbers_text ns) refl (refl, tt) (numbers_quotable ns h.1)
    (((numbers_text ns ∷ [], refl, (numbers_text ns, refl, numbers_spelled ns h)), refl), refl)

action_stands : (a : Action) → FitsAction a → Stands (Then false) Semi (action_form false a) (action_pieces a)
unfolding opened_at
action_stands a h = record { speaks = action_speaks a h; opens = λ p. refl; other = inner_item; under = λ p. refl }

conditions_read : (cs : List Condition) → AllByRecursion FitsCondition cs → ReadsIn (From false) (map condition_line cs) (map (condition_form false) cs)
conditions_read [] h = no_lines (From false)
conditions_read (c ∷ cs) h = then_lines (From false) (condition_line c ∷ []) (map condition_line cs) (condition_form false c ∷ []) (map (condition_form false) cs) (says_line (From false) (condition_form false c) (line_pieces 0 (condition_words c)) (condition_stands c h.0)) (conditions_read cs h.1)

actions_read : (xs : List Action) → AllByRecursion FitsAction xs → ReadsIn (Then false) (map action_line xs) (map (action_form false) xs)
actions_read [] h = no_lines (Then false)
actions_read (a ∷ xs) h = then_lines (Then false) (action_line a ∷ []) (map action_line xs) (action_form false a ∷ []) (map (action_form false) xs) (says_line (Then false) (action_form false a) (action_pieces a) (action_stands a h.0)) (actions_read xs h.1)

-- ---- terms

keyword_words : (key : List ℕ) → IsPlainWord key → are_words junos_signs (line_pieces 0 (key ∷ [])) ≡ true
keyword_words key h = line_words key [] (h, tt)

then_word : IsPlainWord (codes "then")
unfolding plain_bytes sort_at
then_word = refl

from_word : IsPlainWord (codes "from")
unfolding plain_bytes sort_at
from_word = refl

then_opens : (p : ℕ) → opened_at InTerm Open (placed p (line_pieces 0 (codes "then" ∷ []))) ≡ Some (Then false)
unfolding opened_at placed
then_opens p = refl

from_opens : (p : ℕ) → opened_at InTerm Open (placed p (line_pieces 0 (codes "from" ∷ []))) ≡ Some (From false)
unfolding opened_at placed
from_opens p = refl

then_read : (xs : List Action) → AllByRecursion FitsAction xs → ReadsIn InTerm (block (codes "then" ∷ []) (map action_line xs) []) (map (action_form false) xs)
then_read xs h =
    subst (λ (fs : List JunosForm). ReadsIn InTerm (block (codes "then" ∷ []) (map action_line xs) []) fs) (append-nil (map (action_form false) xs))
    (keyword_block InTerm (Then false) (line_pieces 0 (codes "then" ∷ [])) (map action_line xs) [] (map (action_form false) xs) [] (keyword_words (codes "then") then_word) then_opens (actions_read xs h) (no_lines InTerm))

from_read : (cs : List Condition) (ls : List JunosLine) (fs : List JunosForm) → AllByRecursion FitsCondition cs → ReadsIn InTerm ls fs → ReadsIn InTerm (from_lines cs ls) (map (condition_form false) cs ++ fs)
from_read [] ls fs h rest = rest
from_read (c ∷ cs) ls fs h rest = keyword_block InTerm (From false) (line_pieces 0 (codes "from" ∷ [])) (map condition_line (c ∷ cs)) ls (map (condition_form false) (c ∷ cs)) fs (keyword_words (codes "from") from_word) from_opens (conditions_read (c ∷ cs) h) rest

term_word : IsPlainWord (codes "term")
unfolding plain_bytes sort_at
term_word = refl

term_stands : (n : List ℕ) → FitsName n → Stands InPolicy Open (Term n) (line_pieces 0 (codes "term" ∷ n ∷ []))
unfolding opened_at placed
term_stands n h = record {
  speaks = line_speaks InPolicy Open (Term n) (codes "term" ∷ n ∷ []) refl (record { first = codes "term"; others = n ∷ []; is = refl; plain = (term_word, (name_word n h, tt)); says = inl ((n ∷ [], refl, (n, refl, name_spelled n h)), refl) });
  opens = λ p. refl;
  other = inner_item;
  under = λ p. refl;
}

term_read : (t : PolicyTerm) → FitsTerm t → ReadsIn InPolicy (term_lines t) (term_forms t)
term_read t h =
    subst (λ (fs : List JunosForm). ReadsIn InPolicy (term_lines t) (Term t.name ∷ fs)) (append-nil (map (condition_form false) t.conditions ++ map (action_form false) t.actions))
    (form_block InPolicy (Term t.name) (line_pieces 0 (codes "term" ∷ t.name ∷ [])) (from_lines t.conditions (block (codes "then" ∷ []) (map action_line t.actions) [])) [] (map (condition_form false) t.conditions ++ map (action_form false) t.actions) []
    (term_stands t.name h.name) (from_read t.conditions (block (codes "then" ∷ []) (map action_line t.actions) []) (map (action_form false) t.actions) h.conditions (then_read t.actions h.actions)) (no_lines InPolicy))

terms_read : (ts : List PolicyTerm) → AllByRecursion FitsTerm ts → ReadsIn InPolicy (flat_map term_lines ts) (flat_map term_forms ts)
terms_read [] h = no_lines InPolicy
terms_read (t ∷ ts) h = then_lines InPolicy (term_lines t) (flat_map term_lines ts) (term_forms t) (flat_map term_forms ts) (term_read t h.0) (terms_read ts h.1)

-- ---- definitions

path_word : IsPlainWord (codes "as-path")
unfolding plain_bytes sort_at
path_word = refl

community_word : IsPlainWord (codes "community")
unfolding plain_bytes sort_at
community_word = refl

members_word : IsPlainWord (codes "members")
unfolding plain_bytes sort_at
members_word = refl

policy_word : IsPlainWord (codes "policy-statement")
unfolding plain_bytes sort_at
policy_word = refl

path_stands : (d : PathDefinition) → FitsPath d → Stands Options Semi (PathForm d) (path_pieces d)
unfolding opened_at placed
path_stands d h = record {
  speaks = quoted_speaks Options Semi (PathForm d) (codes "as-path") (d.name ∷ []) d.text refl (path_word, (name_word d.name h.name, tt)) h.quotable
      ((d.name ∷ d.text ∷ [], refl, (d.name, d.text ∷ [], refl, name_spelled d.name h.name, (d.text, refl, (h.spelled, refl)))), refl);
  opens = λ p. refl;
  other = record { sort = PathSort; name = Some d.name };
  under = λ p. rw h.name.named refl;
}

community_stands : (c : CommunityDefinition) → FitsCommunity c → Stands Options Semi (CommunityForm c) (line_pieces 0 (community_words c))
unfolding opened_at placed
community_stands c h =
    let members = values_words (map member_text c.members) in
    record {
      speaks = line_speaks Options Semi (CommunityForm c) (community_words c) refl (record {
        first = codes "community";
        others = c.name ∷ codes "members" ∷ members;
        is = refl;
        plain = (community_word, (name_word c.name h.name, (members_word, values_plain (map member_text c.members) (members_plain c.members h.members.1))));
        says = ((c.name ∷ codes "members" ∷ members, refl, (c.name, codes "members" ∷ members, refl, name_spelled c.name h.name, (members, refl, members_spelled c.members h.members))), refl);
      });
      opens = λ p. refl;
      other = record { sort = CommunitySort; name = Some c.name };
      under = λ p. rw h.name.named refl;
    }

policy_stands : (n : List ℕ) → FitsName n → Stands Options Open (PolicyForm n) (line_pieces 0 (codes "policy-statement" ∷ n ∷ []))
unfolding opened_at placed
policy_stands n h = record {
  speaks = line_speaks Options Open (PolicyForm n) (codes "policy-statement" ∷ n ∷ []) refl (record { first = codes "policy-statement"; others = n ∷ []; is = refl; plain = (policy_word, (name_word n h, tt)); says = ((n ∷ [], refl, (n, refl, name_spelled n h)), refl) });
  opens = λ p. refl;
  other = record { sort = PolicySort; name = Some n };
  under = λ p. rw h.named refl;
}

option_read : (o : PolicyOption) → FitsOption o → ReadsIn Options (option_lines o) (option_forms o)
option_read (PathOption d) h = says_line Options (PathForm d) (path_pieces d) (path_stands d h)
option_read (CommunityOption c) h = says_line Options (CommunityForm c) (line_pieces 0 (community_words c)) (community_stands c h)
option_read (PolicyStatement d) h =
    subst (λ (fs : List JunosForm). ReadsIn Options (option_lines (PolicyStatement d)) (PolicyForm d.name ∷ fs)) (append-nil (flat_map term_forms d.terms))
    (form_block Options (PolicyForm d.name) (line_pieces 0 (codes "policy-statement" ∷ d.name ∷ [])) (flat_map term_lines d.terms) [] (flat_map term_forms d.terms) [] (policy_stands d.name h.0) (terms_read d.terms h.1) (no_lines Options))

options_read : (os : List PolicyOption) → MayBeWritten os → ReadsIn Options (flat_map option_lines os) (forms_of os)
options_read [] h = no_lines Options
options_read (o ∷ os) h = then_lines Options (option_lines o) (flat_map option_lines os) (option_forms o) (forms_of os) (option_read o h.0) (options_read os h.1)

-- ---- the text

options_word : IsPlainWord (codes "policy-options")
unfolding plain_bytes sort_at
options_word = refl

may_write : (os : List PolicyOption) → MayBeWritten os → may_be_written 0 (lines_of os) ≡ true
unfolding may_be_written
may_write os h =
    and_from (are_words junos_signs (line_pieces 0 (codes "policy-options" ∷ []))) (may_be_written 1 (flat_map option_lines os ++ (Closes ∷ [])))
    (keyword_words (codes "policy-options") options_word) ((options_read os h).may 1 (Closes ∷ []) refl)

last_told : (q : ℕ) → forms (items_from (Options ∷ []) (junos_placed 1 q (Closes ∷ []))) ≡ []
unfolding junos_placed items_from
last_told q = refl

lines_told : (os : List PolicyOption) → MayBeWritten os → forms (items_from [] (junos_placed 0 0 (lines_of os))) ≡ forms_of os
unfolding junos_placed items_from said_at opened_at placed
lines_told os h = (options_read os h).told 1 [] (Closes ∷ []) [] last_told (words_end 0 0 (line_pieces 0 (codes "policy-options" ∷ [])) + 3) ∙ append-nil (forms_of os)

-- the tree of a text of definitions
abbrev tree_of : List PolicyOption → List JunosItem
tree_of os = items_from [] (junos_placed 0 0 (lines_of os))

tree_found : (os : List PolicyOption) → MayBeWritten os → junos_tree (text_of os) ≡ Some (tree_of os)
unfolding junos_tree text_of
tree_found os h = ap (λ (o : Option (List Statement)). option_map (items_from []) o) (junos_written (lines_of os) (may_write os h))

-- the text of definitions reads as them
pub options_are_read : (os : List PolicyOption) → MayBeWritten os → ReadsAs (text_of os) os
options_are_read os h = (tree_of os, tree_is_read {E = Memory} (text_of os) (Ok (tree_of os)) (tree_found os h), lines_told os h)

pub options_found : (os : List PolicyOption) → MayBeWritten os → option_map forms (junos_tree (text_of os)) ≡ Some (forms_of os)
options_found os h = ap (λ (o : Option (List JunosItem)). option_map forms o) (tree_found os h) ∙ ap (λ (fs : List JunosForm). Some fs) (lines_told os h)
