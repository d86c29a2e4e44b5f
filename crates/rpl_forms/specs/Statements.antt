-- Headers of blocks, elements of sets and statements of policies (Cisco IOS XR Routing Configuration
-- Guide, 'route-policy', 'set med', 'set community', 'delete', 'prepend as-path', 'apply' and others).
-- First what the words are; behind it the functions that find the forms.
use Rattle.std.specs.Prelude.{◌≡◌, ℕ, ◌-◌, ◌||◌, ◌≤◌, ◌^◌, Bool, true, false, nat_le, ◌⊎◌, List, [], ◌∷◌, ◌++◌, Option, Some, None, codes, bytes_eq, option_map}
use Rattle.route_types.specs.Community.{RectParts}
use Rattle.route_types.specs.Words.{◌>>=◌, when, address_in, IsAddress}
use Rattle.route_types.specs.declared.address.Address.{Address}
use Rattle.route_types.specs.declared.route.NextHop.{NextHop}
use Rattle.route_types.specs.declared.route.NextHop.TheVariants.{At, Own}
use Rattle.text_words.specs.declared.rpl_blocks.BlockKind.{BlockKind}
use Rattle.text_words.specs.declared.rpl_blocks.BlockKind.TheVariants.{PrefixSet as PrefixBlock, CommunitySet as CommunityBlock, PathSet as PathBlock, Policy as PolicyBlock}
use Rattle.text_words.specs.declared.statement.Span.{Span}
use Rattle.text_words.specs.declared.statement.Word.{Word}
use Rattle.route_types.specs.RouteText.{SpellsOrigin}
use Rattle.route_types.specs.RouteLines.{origin_in}
use Rattle.policy_text.specs.Names.{first_some}
use Rattle.policy_text.specs.Phrases.{one_of}
use Rattle.rpl_words.specs.Tokens.{Token, plain, token, tokens, is_key, IsPlain, One, Behind, First, UpTo, Called, plain_in, only, behind, first_of, up_to, before, called_in}
use Rattle.rpl_words.specs.Values.{IsHeaderName, IsInnerName, IsParameter, IsNumberWord, header_name_in, inner_name_in, parameter_in, rpl_number_in}
use Rattle.rpl_words.specs.Elements.{SpellPrefixElement, SpellRect, SpellPathElement, SpellSet, prefix_element_in, rect_element_in, path_element_in, set_in}
use Rattle.rpl_words.specs.Conditions.{SpellTerms}
use Rattle.rpl_forms.specs.Terms.{condition_in, spans_behind}
use Rattle.rpl_words.specs.declared.condition.Term.{Term}
use Rattle.rpl_words.specs.declared.element.Element.{Element}
use Rattle.rpl_words.specs.declared.element.Element.TheVariants.{Prefix as PrefixOf, Community as CommunityOf, Path as PathOf}
use Rattle.rpl_words.specs.declared.number.RplNumber.{RplNumber}
use Rattle.rpl_words.specs.declared.number.RplNumber.TheVariants.{Fixed, Parameter as GivenNumber}
use Rattle.rpl_words.specs.declared.number.RplSet.{RplSet}
use Rattle.rpl_forms.specs.declared.item.Header.{Header}
use Rattle.rpl_forms.specs.declared.item.Header.TheVariants.{PrefixSet, CommunitySet, PathSet, Policy}
use Rattle.rpl_forms.specs.declared.item.Action.{Action}
use Rattle.rpl_forms.specs.declared.item.Action.TheVariants.{SetMed, SetLocalPreference, SetWeight, SetOrigin, SetNextHop, SetCommunity, DeleteCommunity, Prepend as PrependPath}
use Rattle.rpl_forms.specs.declared.item.Argument.{Argument}
use Rattle.rpl_forms.specs.declared.item.Argument.TheVariants.{Written, Parameter}
use Rattle.rpl_forms.specs.declared.item.PolicyStatement.{PolicyStatement}
use Rattle.rpl_forms.specs.declared.item.PolicyStatement.TheVariants.{If, ElseIf, Else, EndIf, Pass, Done, Drop, Act, Apply as ApplyPolicy}
use Rattle.rpl_forms.specs.declared.item.RplForm.{RplForm}
use Rattle.rpl_forms.specs.declared.item.RplForm.TheVariants.{Header as OfHeader, Element as OfElement, Statement as OfStatement, End, Other}

-- ---- what the words are

-- a number that may be a parameter
abbrev pub SpellNumber : ℕ → Token → RplNumber ℕ → Type 0
SpellNumber most t n = IsPlain (IsNumberWord true most) t n

-- the first line of a block
abbrev pub SpellHeader : BlockKind → List Token → Header → Type 0
SpellHeader PrefixBlock ts (PrefixSet n) = Behind (codes "prefix-set" ∷ []) (One (IsPlain IsHeaderName)) ts n
SpellHeader CommunityBlock ts (CommunitySet n) = Behind (codes "community-set" ∷ []) (One (IsPlain IsHeaderName)) ts n
SpellHeader PathBlock ts (PathSet n) = Behind (codes "as-path-set" ∷ []) (One (IsPlain IsHeaderName)) ts n
SpellHeader PolicyBlock ts (Policy h) = Behind (codes "route-policy" ∷ []) (Called IsHeaderName (IsPlain IsParameter)) ts (h.name, h.parameters)
SpellHeader _ ts _ = ⊥

-- a condition between this word and `then`
abbrev pub SpellBranch : List ℕ → List Token → List Term → Type 0
SpellBranch key ts terms = Behind (key ∷ []) (UpTo (codes "then") SpellTerms) ts terms

-- the next hop: an address, or `self`
abbrev pub IsNextHop : List ℕ → NextHop → Type 0
IsNextHop word (At a) = IsAddress word a
IsNextHop word Own = word ≡ codes "self"

-- how often a number is put before the path: 1 to 63
abbrev pub IsCount : Token → RplNumber ℕ → Type 0
IsCount t (Fixed n) = SpellNumber 63 t (Fixed n) × (1 ≤ n)
IsCount t (GivenNumber x) = SpellNumber 63 t (GivenNumber x)

-- a number, and how often it is put before the path: once where that isn't written
abbrev pub SpellPrepend : List Token → RplNumber ℕ × RplNumber ℕ → Type 0
SpellPrepend ts (number, count) =
    (One (SpellNumber (2 ^ 32 - 1)) ts number × (count ≡ Fixed 1))
    ⊎ First (SpellNumber (2 ^ 32 - 1)) (One IsCount) ts (number, count)

-- a set, and `additive` behind it or not
abbrev pub SpellSetting : List Token → RplSet RectParts × Bool → Type 0
SpellSetting ts (set, additive) = elim additive [
  | true ↦ (front : List Token) × (ts ≡ front ++ (plain (codes "additive") ∷ [])) × SpellSet SpellRect front set
  | false ↦ SpellSet SpellRect ts set
]

-- a statement that changes the route
abbrev pub SpellAction : List Token → Action → Type 0
SpellAction ts (SetMed n) = Behind (codes "set" ∷ codes "med" ∷ []) (One (SpellNumber (2 ^ 32 - 1))) ts n
SpellAction ts (SetLocalPreference n) = Behind (codes "set" ∷ codes "local-preference" ∷ []) (One (SpellNumber (2 ^ 32 - 1))) ts n
SpellAction ts (SetWeight n) = Behind (codes "set" ∷ codes "weight" ∷ []) (One (SpellNumber 65535)) ts n
SpellAction ts (SetOrigin o) = Behind (codes "set" ∷ codes "origin" ∷ []) (One (IsPlain SpellsOrigin)) ts o
SpellAction ts (SetNextHop h) = Behind (codes "set" ∷ codes "next-hop" ∷ []) (One (IsPlain IsNextHop)) ts h
SpellAction ts (SetCommunity s) = Behind (codes "set" ∷ codes "community" ∷ []) SpellSetting ts (s.set, s.additive)
SpellAction ts (DeleteCommunity s) = Behind (codes "delete" ∷ codes "community" ∷ codes "in" ∷ []) (SpellSet SpellRect) ts s
SpellAction ts (PrependPath p) = Behind (codes "prepend" ∷ codes "as-path" ∷ []) SpellPrepend ts (p.number, p.count)

-- what is handed to a policy: a number or a name, or a parameter
abbrev pub IsArgument : List ℕ → Argument → Type 0
IsArgument word (Written text) = IsInnerName word text
IsArgument word (Parameter x) = IsParameter word x

-- a statement of a policy
abbrev pub SpellStatement : List Token → PolicyStatement → Type 0
SpellStatement ts (If terms) = SpellBranch (codes "if") ts terms
SpellStatement ts (ElseIf terms) = SpellBranch (codes "elseif") ts terms
SpellStatement ts Else = ts ≡ plain (codes "else") ∷ []
SpellStatement ts EndIf = ts ≡ plain (codes "endif") ∷ []
SpellStatement ts Pass = ts ≡ plain (codes "pass") ∷ []
SpellStatement ts Done = ts ≡ plain (codes "done") ∷ []
SpellStatement ts Drop = ts ≡ plain (codes "drop") ∷ []
SpellStatement ts (Act a) = SpellAction ts a
SpellStatement ts (ApplyPolicy a) = Behind (codes "apply" ∷ []) (Called IsInnerName (IsPlain IsArgument)) ts (a.policy, a.arguments)

-- a statement within a block
abbrev pub SpellWithin : BlockKind → List Token → RplForm → Type 0
SpellWithin PrefixBlock ts (OfElement (PrefixOf e)) = SpellPrefixElement false ts e
SpellWithin CommunityBlock ts (OfElement (CommunityOf r)) = SpellRect ts r
SpellWithin PathBlock ts (OfElement (PathOf e)) = SpellPathElement false ts e
SpellWithin PolicyBlock ts (OfStatement s) = SpellStatement ts s
SpellWithin _ ts _ = ⊥

-- the statements that are one word
abbrev pub single_words : List (List ℕ × PolicyStatement)
single_words = (codes "else", Else) ∷ (codes "endif", EndIf) ∷ (codes "pass", Pass) ∷ (codes "done", Done) ∷ (codes "drop", Drop) ∷ []

-- ---- the functions that find them

-- the name of a set behind its keyword
unfoldable pub set_header_in : List ℕ → List Token → Option (List ℕ)
set_header_in key ts = behind (key ∷ []) (only (plain_in header_name_in)) ts

-- the name of a policy and its parameters
unfoldable pub policy_header_in : List Token → Option Header
policy_header_in ts = option_map (λ h. Policy (record { name = h.0; parameters = h.1 })) (behind (codes "route-policy" ∷ []) (called_in header_name_in (plain_in parameter_in)) ts)

-- the first line of a block
unfoldable pub header_in : BlockKind → List Token → Option Header
header_in PrefixBlock ts = option_map (λ n. PrefixSet n) (set_header_in (codes "prefix-set") ts)
header_in CommunityBlock ts = option_map (λ n. CommunitySet n) (set_header_in (codes "community-set") ts)
header_in PathBlock ts = option_map (λ n. PathSet n) (set_header_in (codes "as-path-set") ts)
header_in PolicyBlock ts = policy_header_in ts

-- a number that may be a parameter
unfoldable pub number_in_policy : ℕ → Token → Option (RplNumber ℕ)
number_in_policy most t = plain_in (rpl_number_in true most) t

-- a condition between this word and `then`
unfoldable pub branch_in : List ℕ → List Token → Option (List Term)
branch_in key ts = behind (key ∷ []) (up_to (codes "then") condition_in) ts

-- the next hop
unfoldable pub next_hop_in : List ℕ → Option NextHop
next_hop_in word = first_some (option_map (λ a. At a) (address_in word)) (when (bytes_eq word (codes "self")) Own)

-- a number is put before the path at least once
abbrev pub is_some : RplNumber ℕ → Bool
is_some (Fixed n) = nat_le 1 n
is_some (GivenNumber x) = true

-- how often a number is put before the path
unfoldable pub count_in : Token → Option (RplNumber ℕ)
count_in t = do
  n ← number_in_policy 63 t
  when (is_some n) n

-- how often it is put there, where that is written
abbrev pub count_or_once : List Token → Option (RplNumber ℕ)
count_or_once [] = Some (Fixed 1)
count_or_once (t ∷ ts) = only count_in (t ∷ ts)

-- a number, and how often it is put before the path
unfoldable pub prepend_in : List Token → Option (RplNumber ℕ × RplNumber ℕ)
prepend_in ts = first_of (number_in_policy (2 ^ 32 - 1)) count_or_once ts

-- the words before the last one, where that is this keyword
unfoldable pub before_last : List ℕ → List Token → Option (List Token)
before_last key [] = None
before_last key (t ∷ []) = when (is_key key t) []
before_last key (t ∷ u ∷ ts) = option_map (λ front. t ∷ front) (before_last key (u ∷ ts))

-- a set with `additive` behind it
unfoldable pub added_in : List Token → Option (RplSet RectParts)
added_in ts = before_last (codes "additive") ts >>= set_in rect_element_in

-- a set, and whether `additive` stands behind it
unfoldable pub setting_in : List Token → Option (RplSet RectParts × Bool)
setting_in ts = first_some (option_map (λ s. (s, false)) (set_in rect_element_in ts)) (option_map (λ s. (s, true)) (added_in ts))

-- a statement that sets a number
unfoldable pub set_number_in : List Token → Option Action
set_number_in ts =
    first_some (option_map (λ n. SetMed n) (behind (codes "med" ∷ []) (only (number_in_policy (2 ^ 32 - 1))) ts))
    (first_some (option_map (λ n. SetLocalPreference n) (behind (codes "local-preference" ∷ []) (only (number_in_policy (2 ^ 32 - 1))) ts))
    (option_map (λ n. SetWeight n) (behind (codes "weight" ∷ []) (only (number_in_policy 65535)) ts)))

-- a statement that sets another attribute
unfoldable pub set_value_in : List Token → Option Action
set_value_in ts =
    first_some (option_map (λ o. SetOrigin o) (behind (codes "origin" ∷ []) (only (plain_in origin_in)) ts))
    (first_some (option_map (λ h. SetNextHop h) (behind (codes "next-hop" ∷ []) (only (plain_in next_hop_in)) ts))
    (option_map (λ s. SetCommunity (record { set = s.0; additive = s.1 })) (behind (codes "community" ∷ []) setting_in ts)))

-- what stands behind `set`
unfoldable pub set_action_in : List Token → Option Action
set_action_in ts = first_some (set_number_in ts) (set_value_in ts)

-- a statement that changes the route
unfoldable pub action_in : List Token → Option Action
action_in ts =
    first_some (behind (codes "set" ∷ []) set_action_in ts)
    (first_some (option_map (λ s. DeleteCommunity s) (behind (codes "delete" ∷ codes "community" ∷ codes "in" ∷ []) (set_in rect_element_in) ts))
    (option_map (λ p. PrependPath (record { number = p.0; count = p.1 })) (behind (codes "prepend" ∷ codes "as-path" ∷ []) prepend_in ts)))

-- what is handed to a policy
unfoldable pub argument_in : List ℕ → Option Argument
argument_in word = first_some (option_map (λ text. Written text) (inner_name_in word)) (option_map (λ x. Parameter x) (parameter_in word))

-- the policy that is applied, and what is handed to it
unfoldable pub apply_in : List Token → Option PolicyStatement
apply_in ts = option_map (λ a. ApplyPolicy (record { policy = a.0; arguments = a.1 })) (behind (codes "apply" ∷ []) (called_in inner_name_in (plain_in argument_in)) ts)

-- a statement of one word
unfoldable pub single_word_in : List Token → Option PolicyStatement
single_word_in ts = only (plain_in (one_of single_words)) ts

-- a statement with a condition
unfoldable pub conditional_in : List Token → Option PolicyStatement
conditional_in ts = first_some (option_map (λ terms. If terms) (branch_in (codes "if") ts)) (option_map (λ terms. ElseIf terms) (branch_in (codes "elseif") ts))

-- a statement of a policy
unfoldable pub statement_in : List Token → Option PolicyStatement
statement_in ts =
    first_some (single_word_in ts)
    (first_some (conditional_in ts)
    (first_some (option_map (λ a. Act a) (action_in ts)) (apply_in ts)))

-- a statement within a block
unfoldable pub form_in : BlockKind → List Token → Option RplForm
form_in PrefixBlock ts = option_map (λ e. OfElement (PrefixOf e)) (prefix_element_in false ts)
form_in CommunityBlock ts = option_map (λ r. OfElement (CommunityOf r)) (rect_element_in ts)
form_in PathBlock ts = option_map (λ e. OfElement (PathOf e)) (path_element_in false ts)
form_in PolicyBlock ts = option_map (λ s. OfStatement s) (statement_in ts)

-- where the tests stand in a statement with a condition, in their order
unfoldable pub tests_in : List Word → List Span
tests_in [] = []
tests_in (w ∷ ws) = elim (is_key (codes "if") (token w) || is_key (codes "elseif") (token w)) [ true ↦ spans_behind 0 (before (codes "then") ws) | false ↦ [] ]
