-- The functions that find which form a statement has. `Spelling` says what the forms are.
use Rattle.std.specs.Prelude.{ℕ, ◌-◌, ◌^◌, Bool, true, false, List, [], ◌∷◌, Option, Some, None, codes, bytes_eq, option_map}
use Rattle.route_types.specs.Community.{RectParts}
use Rattle.route_types.specs.RouteLines.{origin_in}
use Rattle.route_types.specs.Words.{◌>>=◌, number_in, prefix_in, address_in}
use Rattle.prefix_sets.specs.Range.{RangeParts}
use Rattle.path_patterns.specs.declared.items.TokenPattern.{TokenPattern}
use Rattle.text_words.specs.declared.statement.Ender.{Ender}
use Rattle.text_words.specs.declared.statement.Ender.TheVariants.{Semi, Open}
use Rattle.policy_text.specs.Names.{first_some}
use Rattle.policy_text.specs.Phrases.{behind, only, value_at, first_of, some_each, one_of, name_in}
use Rattle.route_types.specs.RouteLines.{next_hop_in}
use Rattle.junos_tree.specs.Words.{ends, nexts, verbs, filter_types, types, member_in, list_member_in, up_to_in, lengths_in, prepended_in, pattern_in}
use Rattle.junos_tree.specs.declared.item.Condition.{Condition}
use Rattle.junos_tree.specs.declared.item.Condition.TheVariants.{Protocol, Community, AsPath, NextHop, Policy, PrefixList, RouteFilter, ListFilter, Metric, LocalPreference, Origin}
use Rattle.junos_tree.specs.declared.item.Action.{Action}
use Rattle.junos_tree.specs.declared.item.Action.TheVariants.{Flow as FlowAction, Metric as SetMetric, LocalPreference as SetLocalPreference, Origin as SetOrigin, NextHop as SetNextHop, Community as ChangeCommunities, Prepend}
use Rattle.junos_tree.specs.declared.item.Flow.{Flow}
use Rattle.junos_tree.specs.declared.item.JunosForm.{JunosForm}
use Rattle.junos_tree.specs.declared.item.JunosForm.TheVariants.{PrefixList as ListForm, Member, Community as CommunityForm, AsPath as PathForm, Policy as PolicyForm, Term, Condition as IsCondition, Action as IsAction}
use Rattle.junos_tree.specs.declared.place.Place.{Place}
use Rattle.junos_tree.specs.declared.place.Place.TheVariants.{Outside, Options, Members, InPolicy, InTerm, From, Then, Passed}

-- what is made of the value behind the first words
unfoldable pub of_keys : {A B : Type 0} → (A → B) → List (List ℕ) → (List (List ℕ) → Option A) → List (List ℕ) → Option B
of_keys make ks f ws = option_map make (behind ks f ws)

-- the words before a last `]`
abbrev pub before_bracket : List (List ℕ) → Option (List (List ℕ))
before_bracket [] = None
before_bracket (w ∷ []) = elim (bytes_eq w (codes "]")) [ true ↦ Some [] | false ↦ None ]
before_bracket (w ∷ v ∷ ws) = before_bracket (v ∷ ws) >>= λ front. Some (w ∷ front)

-- the values between brackets
abbrev pub bracketed_in : {A : Type 0} → (List ℕ → Option A) → List (List ℕ) → Option (List A)
bracketed_in f ws = before_bracket ws >>= some_each f

-- `V`, or `[ V V ]`
unfoldable pub values_in : {A : Type 0} → (List ℕ → Option A) → List (List ℕ) → Option (List A)
values_in f ws = first_some (option_map (λ x. x ∷ []) (only f ws)) (behind (codes "[" ∷ []) (bracketed_in f) ws)

-- ---- conditions

-- the lengths that a type gives behind a prefix of length n
unfoldable pub type_in : ℕ → List (List ℕ) → Option (ℕ × ℕ)
type_in n ws =
    first_some (only (one_of (types n)) ws)
    (first_some (behind (codes "upto" ∷ []) (only (up_to_in n)) ws)
    (behind (codes "prefix-length-range" ∷ []) (only (lengths_in n)) ws))

-- `P TYPE`
unfoldable pub range_in : List (List ℕ) → Option RangeParts
range_in ws = do
  prefix ← value_at prefix_in ws
  lengths ← type_in prefix.0.length prefix.1
  Some (record { prefix = prefix.0; least = lengths.0; most = lengths.1 })

-- a condition that names what is defined elsewhere
unfoldable pub named_in : List (List ℕ) → Option Condition
named_in ws =
    first_some (of_keys (λ names. Protocol names) (codes "protocol" ∷ []) (values_in name_in) ws)
    (first_some (of_keys (λ names. Community names) (codes "community" ∷ []) (values_in name_in) ws)
    (first_some (of_keys (λ names. AsPath names) (codes "as-path" ∷ []) (values_in name_in) ws)
    (first_some (of_keys (λ names. Policy names) (codes "policy" ∷ []) (values_in name_in) ws)
    (of_keys (λ names. PrefixList names) (codes "prefix-list" ∷ []) (values_in name_in) ws))))

-- a condition on the prefix of a route that is written in place, or on a list in its own way
unfoldable pub filter_in : List (List ℕ) → Option Condition
filter_in ws =
    first_some (of_keys (λ r. RouteFilter r) (codes "route-filter" ∷ []) range_in ws)
    (of_keys (λ l. ListFilter (record { list = l.0; or_longer = l.1 })) (codes "prefix-list-filter" ∷ []) (first_of name_in (only (one_of filter_types))) ws)

-- a condition on one attribute of a route
unfoldable pub attribute_in : List (List ℕ) → Option Condition
attribute_in ws =
    first_some (of_keys (λ hops. NextHop hops) (codes "next-hop" ∷ []) (values_in address_in) ws)
    (first_some (of_keys (λ n. Metric n) (codes "metric" ∷ []) (only (number_in (2 ^ 32 - 1))) ws)
    (first_some (of_keys (λ n. LocalPreference n) (codes "local-preference" ∷ []) (only (number_in (2 ^ 32 - 1))) ws)
    (of_keys (λ o. Origin o) (codes "origin" ∷ []) (only origin_in) ws)))

-- a condition
unfoldable pub condition_in : List (List ℕ) → Option Condition
condition_in ws = first_some (named_in ws) (first_some (filter_in ws) (attribute_in ws))

-- ---- actions

-- `accept`, `reject`, `next term`, `next policy`
unfoldable pub flow_in : List (List ℕ) → Option Flow
flow_in ws = first_some (only (one_of ends) ws) (behind (codes "next" ∷ []) (only (one_of nexts)) ws)

-- an action on one attribute of a route
unfoldable pub setting_in : List (List ℕ) → Option Action
setting_in ws =
    first_some (of_keys (λ n. SetMetric n) (codes "metric" ∷ []) (only (number_in (2 ^ 32 - 1))) ws)
    (first_some (of_keys (λ n. SetLocalPreference n) (codes "local-preference" ∷ []) (only (number_in (2 ^ 32 - 1))) ws)
    (first_some (of_keys (λ o. SetOrigin o) (codes "origin" ∷ []) (only origin_in) ws)
    (of_keys (λ h. SetNextHop h) (codes "next-hop" ∷ []) (only next_hop_in) ws)))

-- an action on the communities or the path of a route
unfoldable pub change_in : List (List ℕ) → Option Action
change_in ws =
    first_some (of_keys (λ c. ChangeCommunities (record { verb = c.0; community = c.1 })) (codes "community" ∷ []) (first_of (one_of verbs) (only name_in)) ws)
    (of_keys (λ ns. Prepend ns) (codes "as-path-prepend" ∷ []) (only prepended_in) ws)

-- an action
unfoldable pub action_in : List (List ℕ) → Option Action
action_in ws = first_some (option_map (λ f. FlowAction f) (flow_in ws)) (first_some (setting_in ws) (change_in ws))

-- ---- definitions

-- `prefix-list N`
unfoldable pub list_in : List (List ℕ) → Option JunosForm
list_in ws = of_keys (λ name. ListForm name) (codes "prefix-list" ∷ []) (only name_in) ws

-- `policy-statement N`
unfoldable pub policy_in : List (List ℕ) → Option JunosForm
policy_in ws = of_keys (λ name. PolicyForm name) (codes "policy-statement" ∷ []) (only name_in) ws

-- `term N`
unfoldable pub term_in : List (List ℕ) → Option JunosForm
term_in ws = of_keys (λ name. Term name) (codes "term" ∷ []) (only name_in) ws

abbrev pub community_form : List ℕ × List RectParts → JunosForm
community_form c = CommunityForm (record { name = c.0; members = c.1 })

-- `community N members M`, `community N members [ M M ]`
unfoldable pub community_in : List (List ℕ) → Option JunosForm
community_in ws = of_keys community_form (codes "community" ∷ []) (first_of name_in (behind (codes "members" ∷ []) (values_in member_in))) ws

abbrev pub path_form : List ℕ × (TokenPattern × List ℕ) → JunosForm
path_form (name, (pattern, text)) = PathForm (record { name = name; pattern = pattern; text = text })

-- `as-path N X`
unfoldable pub path_in : List (List ℕ) → Option JunosForm
path_in ws = of_keys path_form (codes "as-path" ∷ []) (first_of name_in (only pattern_in)) ws

-- ---- what stands at a place

abbrev pub condition_form : Bool → Condition → JunosForm
condition_form unnamed c = IsCondition (record { unnamed = unnamed; condition = c })

abbrev pub action_form : Bool → Action → JunosForm
action_form unnamed a = IsAction (record { unnamed = unnamed; action = a })

-- a definition, by what ends its statement
abbrev pub definition_in : Ender → List (List ℕ) → Option JunosForm
definition_in Semi ws = first_some (list_in ws) (first_some (community_in ws) (path_in ws))
definition_in Open ws = first_some (list_in ws) (policy_in ws)
definition_in _ ws = None

-- a form that `;` ends
abbrev pub ended : Ender → Option JunosForm → Option JunosForm
ended Semi form = form
ended _ form = None

-- a form that opens a block
abbrev pub opening : Ender → Option JunosForm → Option JunosForm
opening Open form = form
opening _ form = None

-- `from C`, `then T`
unfoldable pub clause_in : Bool → List (List ℕ) → Option JunosForm
clause_in unnamed ws = first_some (of_keys (condition_form unnamed) (codes "from" ∷ []) condition_in ws) (of_keys (action_form unnamed) (codes "then" ∷ []) action_in ws)

-- the form of a statement at a place, by the texts of its words
unfoldable pub form_in : Place → Ender → List (List ℕ) → Option JunosForm
form_in Outside ender ws = definition_in ender ws
form_in Options ender ws = definition_in ender ws
form_in Members ender ws = ended ender (option_map (λ p. Member p) (only list_member_in ws))
form_in InPolicy ender ws = first_some (opening ender (term_in ws)) (ended ender (clause_in true ws))
form_in InTerm ender ws = ended ender (clause_in false ws)
form_in (From unnamed) ender ws = ended ender (option_map (condition_form unnamed) (condition_in ws))
form_in (Then unnamed) ender ws = ended ender (option_map (action_form unnamed) (action_in ws))
form_in Passed ender ws = None
