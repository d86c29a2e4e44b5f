-- Which words spell which form (Junos OS Routing Policies, Firewall Filters, and Traffic Policers User
-- Guide: 'prefix-list', 'community', 'as-path', 'policy-statement', match conditions and actions).
use Rattle.std.specs.Prelude.{◌≡◌, ℕ, ◌-◌, ◌^◌, Bool, true, false, ◌⊎◌, List, [], ◌∷◌, ◌++◌, codes}
use Rattle.route_types.specs.RouteText.{SpellsOrigin}
use Rattle.route_types.specs.Words.{IsNumber, IsAddress, IsPrefix}
use Rattle.prefix_sets.specs.Range.{RangeParts}
use Rattle.text_words.specs.declared.statement.Ender.{Ender}
use Rattle.text_words.specs.declared.statement.Ender.TheVariants.{Semi, Open}
use Rattle.text_words.specs.declared.statement.Word.{Word}
use Rattle.policy_text.specs.Phrases.{texts, Behind, One, First, AreSome, IsOneOf, IsNameWord}
use Rattle.junos_tree.specs.Tree.{quotes_fit}
use Rattle.junos_tree.specs.Words.{ends, nexts, verbs, filter_types, types, IsMember, IsListMember, IsUpTo, AreLengths, IsNextHop, ArePrepended, IsPattern}
use Rattle.junos_tree.specs.declared.item.Condition.{Condition}
use Rattle.junos_tree.specs.declared.item.Condition.TheVariants.{Protocol, Community, AsPath, NextHop, Policy, PrefixList, RouteFilter, ListFilter, Metric, LocalPreference, Origin}
use Rattle.junos_tree.specs.declared.item.Action.{Action}
use Rattle.junos_tree.specs.declared.item.Action.TheVariants.{Flow as FlowAction, Metric as SetMetric, LocalPreference as SetLocalPreference, Origin as SetOrigin, NextHop as SetNextHop, Community as ChangeCommunities, Prepend}
use Rattle.junos_tree.specs.declared.item.Flow.{Flow}
use Rattle.junos_tree.specs.declared.item.JunosForm.{JunosForm}
use Rattle.junos_tree.specs.declared.item.JunosForm.TheVariants.{PrefixList as ListForm, Member, Community as CommunityForm, AsPath as PathForm, Policy as PolicyForm, Term, Condition as IsCondition, Action as IsAction}
use Rattle.junos_tree.specs.declared.place.Place.{Place}
use Rattle.junos_tree.specs.declared.place.Place.TheVariants.{Outside, Options, Members, InPolicy, InTerm, From, Then, Passed}

-- ---- values

-- one word `V`, or one or more in brackets `[ V V ]`
abbrev pub SpellValues : {A : Type 0} → (List ℕ → A → Type 0) → List (List ℕ) → List A → Type 0
SpellValues {A} P ws xs =
    ((x : A) × (xs ≡ x ∷ []) × One P ws x)
    ⊎ ((inner : List (List ℕ)) × (ws ≡ codes "[" ∷ (inner ++ (codes "]" ∷ []))) × AreSome P inner xs)

-- one or more names
abbrev pub SpellNames : List (List ℕ) → List (List ℕ) → Type 0
SpellNames ws names = SpellValues IsNameWord ws names

-- one number of 32 bits
abbrev pub SpellNumber : List (List ℕ) → ℕ → Type 0
SpellNumber ws n = One (IsNumber (2 ^ 32 - 1)) ws n

-- the type of a route filter with a prefix of length n, and the lengths that it gives
abbrev pub SpellType : ℕ → List (List ℕ) → ℕ × ℕ → Type 0
SpellType n ws lengths =
    One (IsOneOf (types n)) ws lengths
    ⊎ Behind (codes "upto" ∷ []) (One (IsUpTo n)) ws lengths
    ⊎ Behind (codes "prefix-length-range" ∷ []) (One (AreLengths n)) ws lengths

-- `P TYPE`
pub record SpellRange (ws : List (List ℕ)) (r : RangeParts) : Type 0 where
  pub prefix_word : List ℕ
  pub rest : List (List ℕ)
  pub words : ws ≡ prefix_word ∷ rest
  pub prefix : IsPrefix prefix_word r.prefix
  pub lengths : SpellType r.prefix.length rest (r.least, r.most)

-- ---- conditions and actions

-- words spell a condition
abbrev pub SpellCondition : List (List ℕ) → Condition → Type 0
SpellCondition ws (Protocol names) = Behind (codes "protocol" ∷ []) SpellNames ws names
SpellCondition ws (Community names) = Behind (codes "community" ∷ []) SpellNames ws names
SpellCondition ws (AsPath names) = Behind (codes "as-path" ∷ []) SpellNames ws names
SpellCondition ws (NextHop hops) = Behind (codes "next-hop" ∷ []) (SpellValues IsAddress) ws hops
SpellCondition ws (Policy names) = Behind (codes "policy" ∷ []) SpellNames ws names
SpellCondition ws (PrefixList names) = Behind (codes "prefix-list" ∷ []) SpellNames ws names
SpellCondition ws (RouteFilter r) = Behind (codes "route-filter" ∷ []) SpellRange ws r
SpellCondition ws (ListFilter l) = Behind (codes "prefix-list-filter" ∷ []) (First IsNameWord (One (IsOneOf filter_types))) ws (l.list, l.or_longer)
SpellCondition ws (Metric n) = Behind (codes "metric" ∷ []) SpellNumber ws n
SpellCondition ws (LocalPreference n) = Behind (codes "local-preference" ∷ []) SpellNumber ws n
SpellCondition ws (Origin o) = Behind (codes "origin" ∷ []) (One SpellsOrigin) ws o

-- `accept`, `reject`, `next term`, `next policy`
abbrev pub SpellFlow : List (List ℕ) → Flow → Type 0
SpellFlow ws flow = One (IsOneOf ends) ws flow ⊎ Behind (codes "next" ∷ []) (One (IsOneOf nexts)) ws flow

-- words spell an action
abbrev pub SpellAction : List (List ℕ) → Action → Type 0
SpellAction ws (FlowAction flow) = SpellFlow ws flow
SpellAction ws (SetMetric n) = Behind (codes "metric" ∷ []) SpellNumber ws n
SpellAction ws (SetLocalPreference n) = Behind (codes "local-preference" ∷ []) SpellNumber ws n
SpellAction ws (SetOrigin o) = Behind (codes "origin" ∷ []) (One SpellsOrigin) ws o
SpellAction ws (SetNextHop h) = Behind (codes "next-hop" ∷ []) (One IsNextHop) ws h
SpellAction ws (ChangeCommunities c) = Behind (codes "community" ∷ []) (First (IsOneOf verbs) (One IsNameWord)) ws (c.verb, c.community)
SpellAction ws (Prepend ns) = Behind (codes "as-path-prepend" ∷ []) (One ArePrepended) ws ns

-- ---- definitions

-- this word, and a name
abbrev pub SpellNamed : List ℕ → List (List ℕ) → List ℕ → Type 0
SpellNamed key ws name = Behind (key ∷ []) (One IsNameWord) ws name

-- words spell a definition: `prefix-list N`, `community N members M`, `as-path N X` or `policy-statement N`
abbrev pub SpellDefinition : List (List ℕ) → JunosForm → Type 0
SpellDefinition ws (ListForm name) = SpellNamed (codes "prefix-list") ws name
SpellDefinition ws (CommunityForm c) = Behind (codes "community" ∷ []) (First IsNameWord (Behind (codes "members" ∷ []) (SpellValues IsMember))) ws (c.name, c.members)
SpellDefinition ws (PathForm p) = Behind (codes "as-path" ∷ []) (First IsNameWord (One IsPattern)) ws (p.name, (p.pattern, p.text))
SpellDefinition ws (PolicyForm name) = SpellNamed (codes "policy-statement") ws name
SpellDefinition ws _ = ⊥

-- how a definition's statement ends
abbrev pub EndsDefinition : Ender → JunosForm → Type 0
EndsDefinition ender (ListForm name) = (ender ≡ Semi) ⊎ (ender ≡ Open)
EndsDefinition ender (PolicyForm name) = ender ≡ Open
EndsDefinition ender _ = ender ≡ Semi

-- `from C`, `then T`, directly in a policy or in a term
abbrev pub SpellClause : Bool → List (List ℕ) → JunosForm → Type 0
SpellClause unnamed ws (IsCondition c) = Behind (codes "from" ∷ []) SpellCondition ws c.condition × (c.unnamed ≡ unnamed)
SpellClause unnamed ws (IsAction a) = Behind (codes "then" ∷ []) SpellAction ws a.action × (a.unnamed ≡ unnamed)
SpellClause unnamed ws _ = ⊥

-- `C` in `from {`
abbrev pub SpellFrom : Bool → List (List ℕ) → JunosForm → Type 0
SpellFrom unnamed ws (IsCondition c) = SpellCondition ws c.condition × (c.unnamed ≡ unnamed)
SpellFrom unnamed ws _ = ⊥

-- `T` in `then {`
abbrev pub SpellThen : Bool → List (List ℕ) → JunosForm → Type 0
SpellThen unnamed ws (IsAction a) = SpellAction ws a.action × (a.unnamed ≡ unnamed)
SpellThen unnamed ws _ = ⊥

-- `P` or `A` in a prefix list
abbrev pub SpellMember : List (List ℕ) → JunosForm → Type 0
SpellMember ws (Member p) = One IsListMember ws p
SpellMember ws _ = ⊥

-- `term N {`
abbrev pub SpellTerm : Ender → List (List ℕ) → JunosForm → Type 0
SpellTerm ender ws (Term name) = SpellNamed (codes "term") ws name × (ender ≡ Open)
SpellTerm ender ws _ = ⊥

-- ---- statements

-- the texts of words spell a form at a place, where the statement ends so
abbrev pub SpellTexts : Place → Ender → List (List ℕ) → JunosForm → Type 0
SpellTexts Outside ender ws form = SpellDefinition ws form × EndsDefinition ender form
SpellTexts Options ender ws form = SpellDefinition ws form × EndsDefinition ender form
SpellTexts Members ender ws form = SpellMember ws form × (ender ≡ Semi)
SpellTexts InPolicy ender ws form = SpellTerm ender ws form ⊎ (SpellClause true ws form × (ender ≡ Semi))
SpellTexts InTerm ender ws form = SpellClause false ws form × (ender ≡ Semi)
SpellTexts (From unnamed) ender ws form = SpellFrom unnamed ws form × (ender ≡ Semi)
SpellTexts (Then unnamed) ender ws form = SpellThen unnamed ws form × (ender ≡ Semi)
SpellTexts Passed ender ws form = ⊥

-- a statement of these words spells a form at a place; a word is quoted only where it may be
abbrev pub Spell : Place → Ender → List Word → JunosForm → Type 0
Spell place ender ws form = SpellTexts place ender (texts ws) form × (quotes_fit form ws ≡ true)
