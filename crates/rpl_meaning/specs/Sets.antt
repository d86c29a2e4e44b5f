-- The sets and policies of an RPL text by their names, and what parameters stand for. Where a name has more
-- than one definition the first one counts, where it has none it names a set without elements.
use Rattle.std.specs.Prelude.{ℕ, Bool, true, false, List, [], ◌∷◌, Option, Some, None, bytes_eq, unwrap_or}
use Rattle.route_types.specs.Community.{RectParts}
use Rattle.route_types.specs.Words.{number_in}
use Rattle.rpl_words.specs.declared.element.Element.TheVariants.{Prefix, Community, Path}
use Rattle.rpl_words.specs.declared.element.PathElement.{PathElement}
use Rattle.rpl_words.specs.declared.element.PrefixElement.{PrefixElement}
use Rattle.rpl_forms.specs.declared.item.Argument.{Argument}
use Rattle.rpl_forms.specs.declared.item.Argument.TheVariants.{Written, Parameter as HandedOn}
use Rattle.rpl_forms.specs.declared.item.Header.TheVariants.{PrefixSet, CommunitySet, PathSet, Policy}
use Rattle.rpl_forms.specs.declared.item.RplForm.{RplForm}
use Rattle.rpl_forms.specs.declared.item.RplForm.TheVariants.{Header, Element}
use Rattle.rpl_words.specs.declared.number.RplNumber.{RplNumber}
use Rattle.rpl_words.specs.declared.number.RplNumber.TheVariants.{Fixed, Parameter as GivenNumber}
use Rattle.rpl_words.specs.declared.number.RplSet.{RplSet}
use Rattle.rpl_words.specs.declared.number.RplSet.TheVariants.{Named, Parameter as GivenSet, Listed}

-- ---- what stands under names

-- the name under which a form opens a block of some sort
abbrev pub Naming : Type 0
Naming = RplForm → Option (List ℕ)

-- the names of the four sorts
abbrev pub prefix_set_named : Naming
prefix_set_named (Header (PrefixSet name)) = Some name
prefix_set_named _ = None

abbrev pub community_set_named : Naming
community_set_named (Header (CommunitySet name)) = Some name
community_set_named _ = None

abbrev pub path_set_named : Naming
path_set_named (Header (PathSet name)) = Some name
path_set_named _ = None

abbrev pub policy_named : Naming
policy_named (Header (Policy h)) = Some h.name
policy_named _ = None

-- it is this name
abbrev pub is_name : List ℕ → Option (List ℕ) → Bool
is_name name None = false
is_name name (Some n) = bytes_eq name n

-- what begins with the first line of the block of this name
unfoldable pub block_at : Naming → List ℕ → List RplForm → List RplForm
block_at named name [] = []
block_at named name (f ∷ fs) = elim (is_name name (named f)) [ true ↦ f ∷ fs | false ↦ block_at named name fs ]

-- what stands below a first line
abbrev pub below : List RplForm → List RplForm
below [] = []
below (f ∷ fs) = fs

-- ---- elements

-- an element of a prefix set, of a community set, of a path set
abbrev pub prefix_in : RplForm → Option PrefixElement
prefix_in (Element (Prefix e)) = Some e
prefix_in _ = None

abbrev pub community_in : RplForm → Option RectParts
community_in (Element (Community r)) = Some r
community_in _ = None

abbrev pub path_in : RplForm → Option PathElement
path_in (Element (Path e)) = Some e
path_in _ = None

-- the elements at the front of forms
unfoldable pub elements : {E : Type 0} → (RplForm → Option E) → List RplForm → List E
elements read [] = []
elements read (f ∷ fs) = elim (read f) [ None ↦ [] | Some e ↦ e ∷ elements read fs ]

-- ---- parameters

-- what the parameters of a policy stand for: for each the word that was handed to it, empty where none was
abbrev pub Bindings : Type 0
Bindings = List ℕ → List ℕ

-- the named policy has no parameters
abbrev pub unbound : Bindings
unbound x = []

-- the word that an argument hands on
abbrev pub word_given : Bindings → Argument → List ℕ
word_given bs (Written word) = word
word_given bs (HandedOn x) = bs x

-- the word that is handed to a parameter of an applied policy: that of the argument in its place
unfoldable pub handed : Bindings → List (List ℕ) → List Argument → Bindings
handed bs [] given x = []
handed bs (y ∷ ys) [] x = []
handed bs (y ∷ ys) (a ∷ given) x = elim (bytes_eq x y) [ true ↦ word_given bs a | false ↦ handed bs ys given x ]

-- the parameters of a first line
abbrev pub parameters_of : List RplForm → List (List ℕ)
parameters_of [] = []
parameters_of (Header (Policy h) ∷ fs) = h.parameters
parameters_of (f ∷ fs) = []

-- a number as it is written, or the one that the parameter stands for
abbrev pub value : ℕ → Bindings → RplNumber ℕ → ℕ
value most bs (Fixed n) = n
value most bs (GivenNumber x) = unwrap_or (number_in most (bs x)) 0

-- the elements of a set: those of the set of its name, of the name that the parameter stands for, or its own
abbrev pub members : {E : Type 0} → Naming → (RplForm → Option E) → List RplForm → Bindings → RplSet E → List E
members named read all bs (Named name) = elements read (below (block_at named name all))
members named read all bs (GivenSet x) = elements read (below (block_at named (bs x) all))
members named read all bs (Listed es) = es
