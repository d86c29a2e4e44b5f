-- The tree of a Junos text: what each statement says by the block that it stands in, and what stands in the
-- block that it opens. Forms stand outside blocks and directly in a block `policy-options`; a statement
-- there that starts with one of the four keywords and a name, but spells no form, is an item under this
-- name. All other statements there are foreign and passed over, with their blocks.
use Rattle.std.specs.Prelude.{ℕ, Bool, true, false, not, ◌&&◌, List, [], ◌∷◌, ◌++◌, Option, Some, None, codes, bytes_eq, drop, option_map}
use Rattle.std.specs.List.{list_all}
use Rattle.route_types.specs.Words.{◌>>=◌, when}
use Rattle.text_words.specs.JunosCut.{junos_cut}
use Rattle.text_words.specs.declared.statement.Ender.{Ender}
use Rattle.text_words.specs.declared.statement.Ender.TheVariants.{Open, Close}
use Rattle.text_words.specs.declared.statement.Span.{Span}
use Rattle.text_words.specs.declared.statement.Statement.{Statement}
use Rattle.text_words.specs.declared.statement.Word.{Word}
use Rattle.policy_text.specs.Names.{is_name, or_else}
use Rattle.policy_text.specs.Phrases.{texts, one_of}
use Rattle.junos_tree.specs.Forms.{form_in}
use Rattle.junos_tree.specs.declared.item.Action.{Action}
use Rattle.junos_tree.specs.declared.item.Action.TheVariants.{Prepend}
use Rattle.junos_tree.specs.declared.item.StatementSort.{StatementSort}
use Rattle.junos_tree.specs.declared.item.StatementSort.TheVariants.{PrefixList, Community, AsPath, Policy, Inner}
use Rattle.junos_tree.specs.declared.item.JunosForm.{JunosForm}
use Rattle.junos_tree.specs.declared.item.JunosForm.TheVariants.{PrefixList as ListForm, AsPath as PathForm, Policy as PolicyForm, Term, Action as IsAction, Other}
use Rattle.junos_tree.specs.declared.item.JunosItem.{JunosItem}
use Rattle.junos_tree.specs.declared.item.OtherItem.{OtherItem}
use Rattle.junos_tree.specs.declared.place.Place.{Place}
use Rattle.junos_tree.specs.declared.place.Place.TheVariants.{Outside, Options, Members, InPolicy, InTerm, From, Then, Passed}
use Rattle.junos_tree.specs.declared.place.Said.{Said}
use Rattle.junos_tree.specs.declared.place.Said.TheVariants.{Foreign, Opens, Says}

-- ---- quoted words

-- no word is quoted
abbrev pub are_plain : List Word → Bool
are_plain ws = list_all (λ w. not w.quoted) ws

-- no word is quoted, but the last one may be
abbrev pub are_plain_but_last : List Word → Bool
are_plain_but_last [] = true
are_plain_but_last (w ∷ []) = true
are_plain_but_last (w ∷ v ∷ ws) = not w.quoted && are_plain_but_last (v ∷ ws)

-- the action's last word may be quoted
abbrev pub action_takes_quoted : Action → Bool
action_takes_quoted (Prepend ns) = true
action_takes_quoted _ = false

-- the form's last word may be quoted: the pattern of an AS path, and the numbers that are put before a path
abbrev pub takes_quoted : JunosForm → Bool
takes_quoted (PathForm p) = true
takes_quoted (IsAction a) = action_takes_quoted a.action
takes_quoted _ = false

-- words are quoted only where the form takes it
abbrev pub quotes_fit : JunosForm → List Word → Bool
quotes_fit form ws = elim (takes_quoted form) [ true ↦ are_plain_but_last ws | false ↦ are_plain ws ]

-- the known form of a statement of these words at a place, if it has one
unfoldable pub known_form : Place → Ender → List Word → Option JunosForm
known_form place ender ws = do
  form ← form_in place ender (texts ws)
  when (quotes_fit form ws) form

-- ---- the name that a statement stands under

-- the four keywords of definitions
abbrev pub keywords : List (List ℕ × StatementSort)
keywords = (codes "prefix-list", PrefixList) ∷ (codes "community", Community) ∷ (codes "as-path", AsPath) ∷ (codes "policy-statement", Policy) ∷ []

-- the first two words are a keyword and a name, neither of them quoted: what the statement stands under
abbrev pub head_in : List Word → Option OtherItem
head_in (w ∷ v ∷ ws) = do
  sort ← one_of keywords w.text
  when (not w.quoted && not v.quoted && is_name v.text) (record { sort = sort; name = Some v.text })
head_in _ = None

-- what a statement at a place stands under; none where it is foreign, if it opens no known block there
abbrev pub other_at : Place → List Word → Option OtherItem
other_at Outside ws = head_in ws
other_at Options ws = head_in ws
other_at Passed ws = None
other_at _ ws = Some (record { sort = Inner; name = None })

-- ---- what a statement says

-- the statement is this one word, and opens a block
abbrev pub is_opener : List ℕ → Ender → List Word → Bool
is_opener key Open (w ∷ []) = not w.quoted && bytes_eq w.text key
is_opener key _ _ = false

-- `from {` or `then {`
abbrev pub clause_opened : Bool → Ender → List Word → Option Place
clause_opened unnamed ender ws = elim (is_opener (codes "from") ender ws) [ true ↦ Some (From unnamed) | false ↦ when (is_opener (codes "then") ender ws) (Then unnamed) ]

-- a block that is opened by its keyword alone, and says nothing else
unfoldable pub opened_at : Place → Ender → List Word → Option Place
opened_at Outside ender ws = when (is_opener (codes "policy-options") ender ws) Options
opened_at InPolicy ender ws = clause_opened true ender ws
opened_at InTerm ender ws = clause_opened false ender ws
opened_at _ ender ws = None

-- the form of a statement that stands under this, where it has no known one
abbrev pub or_other : Option OtherItem → Option JunosForm → Said
or_other None known = Foreign
or_other (Some other) known = Says (or_else known (Other other))

-- a statement says that it opens such a block, or what its form is; one that spells no form is an Other
abbrev pub opens_or_says : Option Place → Said → Said
opens_or_says (Some inner) said = Opens inner
opens_or_says None said = said

-- what a statement at a place says
unfoldable pub said_at : Place → Ender → List Word → Said
said_at place ender ws = opens_or_says (opened_at place ender ws) (or_other (other_at place ws) (known_form place ender ws))

-- ---- blocks

-- what stands in the block of a form
abbrev pub inside_form : JunosForm → Place
inside_form (ListForm name) = Members
inside_form (PolicyForm name) = InPolicy
inside_form (Term name) = InTerm
inside_form _ = Passed

-- what stands in the block of a statement that says this
abbrev pub inside : Said → Place
inside Foreign = Passed
inside (Opens place) = place
inside (Says form) = inside_form form

-- the place of the innermost open block
abbrev pub here : List Place → Place
here [] = Outside
here (place ∷ around) = place

-- what a statement says in the innermost of these blocks; `}` says nothing
abbrev pub said_by : List Place → Ender → List Word → Said
said_by places Close ws = Foreign
said_by places ender ws = said_at (here places) ender ws

-- the open blocks behind a statement that says this, the innermost first
abbrev pub places_behind : Ender → Said → List Place → List Place
places_behind Open said places = inside said ∷ places
places_behind Close said places = drop 1 places
places_behind _ said places = places

-- ---- the tree

-- the item of a statement that says this
abbrev pub item_of : Said → Span → List JunosItem
item_of (Says form) span = record { form = form; span = span } ∷ []
item_of _ span = []

-- the items of statements behind those that opened these blocks
unfoldable pub items_from : List Place → List Statement → List JunosItem
items_from places [] = []
items_from places (s ∷ ss) = let said = said_by places s.ender s.words in item_of said s.span ++ items_from (places_behind s.ender said places) ss

-- the tree that a Junos text reads as; none where the text has a fault
unfoldable pub junos_tree : List ℕ → Option (List JunosItem)
junos_tree text = option_map (items_from []) (junos_cut text)
