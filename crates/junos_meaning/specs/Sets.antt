-- What stands under names in a tree: prefix lists, communities, AS paths and policies. Where a name has more than one
-- definition of a sort the first one counts; where it has none, it names a list or a community without members, a pattern
-- that matches no path, or a policy without terms.
use Rattle.std.specs.Prelude.{ℕ, true, false, List, [], ◌∷◌, Option, Some, None, map}
use Rattle.route_types.specs.Address.{PrefixParts}
use Rattle.route_types.specs.Community.{RectParts}
use Rattle.policy_text.specs.Names.{is_named}
use Rattle.path_patterns.specs.declared.items.TokenPattern.{TokenPattern}
use Rattle.junos_tree.specs.Terms.{Content, own_forms, terms_of}
use Rattle.junos_tree.specs.declared.item.JunosForm.{JunosForm}
use Rattle.junos_tree.specs.declared.item.JunosForm.TheVariants.{PrefixList as ListForm, Member, Community as CommunityForm, AsPath as PathForm, Policy as PolicyForm}

-- the name under which a form defines something of one sort
abbrev pub Naming : Type 0
Naming = JunosForm → Option (List ℕ)

abbrev pub list_named : Naming
list_named (ListForm name) = Some name
list_named _ = None

abbrev pub community_named : Naming
community_named (CommunityForm c) = Some c.name
community_named _ = None

abbrev pub path_named : Naming
path_named (PathForm p) = Some p.name
path_named _ = None

abbrev pub policy_named : Naming
policy_named (PolicyForm name) = Some name
policy_named _ = None

-- the forms from the definition of this name on
unfoldable pub defined_at : Naming → List ℕ → List JunosForm → List JunosForm
defined_at named name [] = []
defined_at named name (f ∷ fs) = elim (is_named name (named f)) [ true ↦ f ∷ fs | false ↦ defined_at named name fs ]

-- the forms behind the first one
abbrev pub behind : List JunosForm → List JunosForm
behind [] = []
behind (f ∷ fs) = fs

-- a form that is a member of a prefix list
abbrev pub member_in : JunosForm → Option PrefixParts
member_in (Member p) = Some p
member_in _ = None

-- the members at the front of forms
unfoldable pub members : List JunosForm → List PrefixParts
members [] = []
members (f ∷ fs) = elim (member_in f) [ None ↦ [] | Some p ↦ p ∷ members fs ]

-- the members of the prefix list of this name
abbrev pub list_members : List JunosForm → List ℕ → List PrefixParts
list_members all name = members (behind (defined_at list_named name all))

-- the members of a community, by the form that defines it
abbrev pub members_in : JunosForm → List RectParts
members_in (CommunityForm c) = c.members
members_in _ = []

abbrev pub members_first : List JunosForm → List RectParts
members_first [] = []
members_first (f ∷ fs) = members_in f

-- the members of the community of this name
abbrev pub community_members : List JunosForm → List ℕ → List RectParts
community_members all name = members_first (defined_at community_named name all)

-- the pattern of an AS path, by the form that defines it
abbrev pub pattern_in : JunosForm → Option TokenPattern
pattern_in (PathForm p) = Some p.pattern
pattern_in _ = None

abbrev pub pattern_first : List JunosForm → Option TokenPattern
pattern_first [] = None
pattern_first (f ∷ fs) = pattern_in f

-- the pattern of the AS path of this name
abbrev pub path_pattern : List JunosForm → List ℕ → Option TokenPattern
path_pattern all name = pattern_first (defined_at path_named name all)

-- what the terms of forms ask for and do, in order, the term without a name behind the others
abbrev pub contents_of : List JunosForm → List Content
contents_of forms = map (λ t. t.content) (terms_of forms)

-- the terms of the policy of this name
abbrev pub policy_terms : List JunosForm → List ℕ → List Content
policy_terms all name = contents_of (own_forms (behind (defined_at policy_named name all)))
