-- Worked examples that the checker computes.
use Rattle.std.proofs.Common.{◌≡◌, refl, List, [], ◌∷◌, ◌++◌, ℕ, true, false, Option, map}
use Rattle.std.specs.Prelude.{Some, None, codes}
use Rattle.route_types.specs.Words.{number_in, prefix_in, parts_at, address_in}
use Rattle.route_types.specs.declared.address.Family.TheVariants.{V4}
use Rattle.text_words.specs.declared.statement.Word.{Word}
use Rattle.text_words.specs.declared.rpl_blocks.BlockKind.TheVariants.{PrefixSet as PrefixBlock, CommunitySet as CommunityBlock, PathSet as PathBlock, Policy as PolicyBlock}
use Rattle.policy_text.specs.Halves.{halves_in, one_community}
use Rattle.rpl_words.specs.Tokens.{Token, plain, in_quotes, after, parted, place_of, between, each_of, listed_in, called_in}
use Rattle.rpl_words.specs.Values.{header_name_in, inner_name_in, parameter_in, number_or_given, comparison_in, half_range_in, half_in, rect_in}
use Rattle.rpl_words.specs.Elements.{bound_in, two_bounds_in, one_bound_in, rpl_bounds_in, bounded_in, prefix_element_in, rect_element_in, compared_in, quoted_number_in, standing_test_in, path_test_in, path_element_in, set_word_in, set_in}
use Rattle.rpl_words.specs.Conditions.{as_path_in, community_test_in, address_test_in, value_test_in, test_in, begin_with, asks_for_prefixes, asks_for_communities, asks_for_set, value_words, words_behind}
use Rattle.rpl_forms.specs.Terms.{sign_in, mark_at, marks_behind, repeated_not, completed, taken, terms_from, condition_in, spans_behind}
use Rattle.rpl_forms.specs.Statements.{set_header_in, policy_header_in, header_in, number_in_policy, branch_in, next_hop_in, count_in, prepend_in, before_last, added_in, setting_in, set_number_in, set_value_in, set_action_in, action_in, argument_in, apply_in, single_word_in, conditional_in, statement_in, form_in, tests_in}
use Rattle.rpl_words.specs.declared.condition.RplTest.TheVariants.{Med, IsEmpty, Destination}
use Rattle.rpl_words.specs.declared.condition.Term.{Term}
use Rattle.rpl_words.specs.declared.condition.Term.TheVariants.{Test, Group, Not, And, Or}
use Rattle.rpl_words.specs.declared.element.Comparison.TheVariants.{Equal, AtLeast}
use Rattle.rpl_words.specs.declared.element.PathTest.TheVariants.{PassesThrough}
use Rattle.rpl_forms.specs.declared.item.Action.TheVariants.{SetCommunity}
use Rattle.rpl_forms.specs.declared.item.Argument.TheVariants.{Written, Parameter}
use Rattle.rpl_forms.specs.declared.item.Header.TheVariants.{PrefixSet, Policy}
use Rattle.rpl_forms.specs.declared.item.PolicyStatement.TheVariants.{Act, Apply as ApplyPolicy}
use Rattle.rpl_words.specs.declared.number.RplNumber.TheVariants.{Fixed, Parameter as GivenNumber}
use Rattle.rpl_words.specs.declared.number.RplSet.TheVariants.{Named, Listed}

-- ---- headers

-- `route-policy pass($a, $b)`: in a header a word that starts a statement is a name
with_parameters : header_in PolicyBlock (map plain (codes "route-policy" ∷ codes "pass" ∷ codes "(" ∷ codes "$a" ∷ codes "," ∷ codes "$b" ∷ codes ")" ∷ []))
    ≡ Some (Policy (record { name = codes "pass"; parameters = codes "a" ∷ codes "b" ∷ [] }))
unfolding header_in policy_header_in called_in listed_in after parted between each_of header_name_in parameter_in
with_parameters = refl

-- no parameter stands between the parentheses
no_parameter : header_in PolicyBlock (map plain (codes "route-policy" ∷ codes "P" ∷ codes "(" ∷ codes ")" ∷ [])) ≡ None
unfolding header_in policy_header_in called_in listed_in after parted between each_of header_name_in parameter_in
no_parameter = refl

-- ---- elements

-- `10.0.0.0/8 ge $x`: a parameter within a policy, no form in a set that stands by itself
within_policy : prefix_element_in true (map plain (codes "10.0.0.0/8" ∷ codes "ge" ∷ codes "$x" ∷ []))
    ≡ Some (record { prefix = record { address = record { family = V4; bits = 167772160 }; length = 8 }; least = GivenNumber (codes "x"); most = Fixed 32 })
unfolding prefix_element_in bounded_in rpl_bounds_in one_bound_in two_bounds_in bound_in number_or_given parameter_in after number_in prefix_in parts_at address_in
within_policy = refl

by_itself : prefix_element_in false (map plain (codes "10.0.0.0/8" ∷ codes "ge" ∷ codes "$x" ∷ [])) ≡ None
unfolding prefix_element_in bounded_in rpl_bounds_in one_bound_in two_bounds_in bound_in number_or_given parameter_in after number_in prefix_in parts_at address_in
by_itself = refl

-- the bounds have to rise
falling : prefix_element_in false (map plain (codes "10.0.0.0/8" ∷ codes "ge" ∷ codes "24" ∷ codes "le" ∷ codes "16" ∷ [])) ≡ None
unfolding prefix_element_in bounded_in rpl_bounds_in one_bound_in two_bounds_in bound_in number_or_given parameter_in after number_in prefix_in parts_at address_in
falling = refl

-- `[5..5]:1` is the one community
one_of_range : rect_in (codes "[5..5]:1") ≡ Some (one_community 5 1)
unfolding rect_in halves_in half_in half_range_in parts_at number_in
one_of_range = refl

falling_half : rect_in (codes "[6..5]:1") ≡ None
unfolding rect_in halves_in half_in half_range_in parts_at number_in
falling_half = refl

-- `passes-through '1'`, and the same number without its quotes
quoted : path_test_in false (plain (codes "passes-through") ∷ in_quotes (codes "1") ∷ []) ≡ Some (PassesThrough (Fixed 1))
unfolding path_test_in standing_test_in quoted_number_in compared_in number_or_given after number_in parameter_in comparison_in
quoted = refl

not_quoted : path_test_in false (plain (codes "passes-through") ∷ plain (codes "1") ∷ []) ≡ None
unfolding path_test_in standing_test_in quoted_number_in compared_in number_or_given after number_in parameter_in comparison_in
not_quoted = refl

-- ---- conditions

-- `med eq 1 or not (med ge $x and community is-empty)`
joined : condition_in (map plain (codes "med" ∷ codes "eq" ∷ codes "1" ∷ codes "or" ∷ codes "not" ∷ codes "(" ∷ codes "med" ∷ codes "ge" ∷ codes "$x" ∷ codes "and" ∷ codes "community" ∷ codes "is-empty" ∷ codes ")" ∷ []))
    ≡ Some (Test (Med (record { comparison = Equal; med = Fixed 1 })) ∷ Test (Med (record { comparison = AtLeast; med = GivenNumber (codes "x") })) ∷ Test IsEmpty ∷ And ∷ Group ∷ Not ∷ Or ∷ [])
unfolding condition_in marks_behind mark_at sign_in terms_from taken completed repeated_not test_in address_test_in as_path_in community_test_in value_test_in words_behind asks_for_set asks_for_prefixes asks_for_communities value_words begin_with place_of compared_in comparison_in number_or_given parameter_in after parted number_in set_in set_word_in inner_name_in listed_in between each_of
joined = refl

-- `and` binds before `or`: `community is-empty or community is-empty and community is-empty`
and_first : condition_in (map plain (codes "community" ∷ codes "is-empty" ∷ codes "or" ∷ codes "community" ∷ codes "is-empty" ∷ codes "and" ∷ codes "community" ∷ codes "is-empty" ∷ []))
    ≡ Some (Test IsEmpty ∷ Test IsEmpty ∷ Test IsEmpty ∷ And ∷ Or ∷ [])
unfolding condition_in marks_behind mark_at sign_in terms_from taken completed repeated_not test_in address_test_in as_path_in community_test_in value_test_in words_behind asks_for_set asks_for_prefixes asks_for_communities value_words begin_with place_of compared_in comparison_in number_or_given parameter_in after parted number_in set_in set_word_in inner_name_in listed_in between each_of
and_first = refl

-- a set may be named `and`; a word that starts a statement is no name
named_and : test_in (map plain (codes "destination" ∷ codes "in" ∷ codes "and" ∷ [])) ≡ Some (Destination (Named (codes "and")))
unfolding test_in address_test_in set_in set_word_in inner_name_in parameter_in listed_in after parted
named_and = refl

named_pass : test_in (map plain (codes "destination" ∷ codes "in" ∷ codes "pass" ∷ [])) ≡ None
unfolding test_in address_test_in as_path_in community_test_in value_test_in compared_in comparison_in set_in set_word_in inner_name_in parameter_in listed_in after parted
named_pass = refl

-- ---- statements

-- `set community (no-export) additive`
additive : action_in (map plain (codes "set" ∷ codes "community" ∷ codes "(" ∷ codes "no-export" ∷ codes ")" ∷ codes "additive" ∷ []))
    ≡ Some (SetCommunity (record { set = Listed (one_community 65535 65281 ∷ []); additive = true }))
unfolding action_in set_action_in set_number_in set_value_in setting_in added_in before_last set_in set_word_in inner_name_in parameter_in listed_in after parted between each_of rect_element_in rect_in halves_in parts_at number_in_policy number_or_given number_in next_hop_in address_in
additive = refl

-- an empty word list stands beside the comma
empty_element : action_in (map plain (codes "set" ∷ codes "community" ∷ codes "(" ∷ codes "no-export" ∷ codes "," ∷ codes ")" ∷ [])) ≡ None
unfolding action_in set_action_in set_number_in set_value_in setting_in added_in before_last set_in set_word_in inner_name_in parameter_in listed_in after parted between each_of rect_element_in rect_in halves_in parts_at number_in_policy number_or_given number_in next_hop_in address_in prepend_in count_in
empty_element = refl

-- `apply P(300, $x)`
applied : apply_in (map plain (codes "apply" ∷ codes "P" ∷ codes "(" ∷ codes "300" ∷ codes "," ∷ codes "$x" ∷ codes ")" ∷ []))
    ≡ Some (ApplyPolicy (record { policy = codes "P"; arguments = Written (codes "300") ∷ Parameter (codes "x") ∷ [] }))
unfolding apply_in called_in listed_in after parted between each_of inner_name_in argument_in parameter_in
applied = refl

-- a count is at least 1
no_count : prepend_in (map plain (codes "1" ∷ codes "0" ∷ [])) ≡ None
unfolding prepend_in count_in number_in_policy number_or_given number_in parameter_in
no_count = refl

-- a condition without `then`
no_then : branch_in (codes "if") (map plain (codes "if" ∷ codes "community" ∷ codes "is-empty" ∷ [])) ≡ None
unfolding branch_in after parted
no_then = refl
