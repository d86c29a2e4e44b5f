-- How the forms of RPL are spelled: the words of each, one behind another.
use Rattle.std.specs.Prelude.{ℕ, Bool, true, false, ◌&&◌, ◌==◌, List, [], ◌∷◌, ◌++◌, codes, decimal, map}
use Rattle.route_types.specs.Community.{RectParts}
use Rattle.route_types.specs.Print.{address_text, prefix_text}
use Rattle.route_types.specs.RouteText.{origin_text}
use Rattle.route_types.specs.declared.route.NextHop.{NextHop}
use Rattle.route_types.specs.declared.route.NextHop.TheVariants.{At, Own}
use Rattle.text_words.specs.Pieces.{Piece, pieces_text}
use Rattle.text_words.specs.RplText.{bare}
use Rattle.rpl_words.specs.declared.condition.RplTest.{RplTest}
use Rattle.rpl_words.specs.declared.condition.RplTest.TheVariants.{Destination, NextHop as OfNextHop, PathIn, Path, MatchesAny, MatchesEvery, IsEmpty, Med, Origin}
use Rattle.rpl_words.specs.declared.condition.Term.{Term}
use Rattle.rpl_words.specs.declared.condition.Term.TheVariants.{Test, Group, Not, And, Or}
use Rattle.rpl_words.specs.declared.element.Comparison.{Comparison}
use Rattle.rpl_words.specs.declared.element.Comparison.TheVariants.{Equal, AtLeast, AtMost}
use Rattle.rpl_words.specs.declared.element.Element.{Element}
use Rattle.rpl_words.specs.declared.element.Element.TheVariants.{Prefix, Community, Path as OfPath}
use Rattle.rpl_words.specs.declared.element.PrefixElement.{PrefixElement}
use Rattle.rpl_words.specs.declared.element.PathElement.{PathElement}
use Rattle.rpl_words.specs.declared.element.PathElement.TheVariants.{Pattern, Test as PathAsks}
use Rattle.rpl_words.specs.declared.element.PathTest.{PathTest}
use Rattle.rpl_words.specs.declared.element.PathTest.TheVariants.{Length, PassesThrough, OriginatesFrom, NeighborIs}
use Rattle.rpl_words.specs.declared.number.RplNumber.{RplNumber}
use Rattle.rpl_words.specs.declared.number.RplNumber.TheVariants.{Fixed, Parameter as GivenNumber}
use Rattle.rpl_words.specs.declared.number.RplSet.{RplSet}
use Rattle.rpl_words.specs.declared.number.RplSet.TheVariants.{Named, Parameter as GivenSet, Listed}
use Rattle.rpl_forms.specs.declared.item.Header.{Header}
use Rattle.rpl_forms.specs.declared.item.Header.TheVariants.{PrefixSet, CommunitySet, PathSet, Policy}
use Rattle.rpl_forms.specs.declared.item.Action.{Action}
use Rattle.rpl_forms.specs.declared.item.Action.TheVariants.{SetMed, SetLocalPreference, SetWeight, SetOrigin, SetNextHop, SetCommunity, DeleteCommunity, Prepend}
use Rattle.rpl_forms.specs.declared.item.Argument.{Argument}
use Rattle.rpl_forms.specs.declared.item.Argument.TheVariants.{Written, Parameter}
use Rattle.rpl_forms.specs.declared.item.PolicyStatement.{PolicyStatement}
use Rattle.rpl_forms.specs.declared.item.PolicyStatement.TheVariants.{If, ElseIf, Else, EndIf, Pass, Done, Drop, Act, Apply}
use Rattle.rpl_text.specs.Patterns.{pattern_text}

-- ---- words one behind another

-- words: the text of the first, which has no quotes, and the others with the spaces in front of them
pub record Phrase : Type 0 where
  pub first : List ℕ
  pub behind : List Piece

-- a word behind one space
abbrev pub spaced : List ℕ → Piece
spaced text = record { gap = 1; text = text; quoted = false }

-- a word in quotes behind one space
abbrev pub in_quotes : List ℕ → Piece
in_quotes text = record { gap = 1; text = text; quoted = true }

-- the words, the first behind so many spaces
abbrev pub laid : ℕ → Phrase → List Piece
laid gap p = record { gap = gap; text = p.first; quoted = false } ∷ p.behind

-- the text of the words
abbrev pub phrase_text : Phrase → List ℕ
phrase_text p = p.first ++ pieces_text 39 p.behind

-- one word
abbrev pub word : List ℕ → Phrase
word text = record { first = text; behind = [] }

-- a word, and others behind it
abbrev pub word_and : List ℕ → List Piece → Phrase
word_and text xs = record { first = text; behind = xs }

-- words in parentheses
abbrev pub in_parentheses : Phrase → Phrase
in_parentheses p = word_and (codes "(") (laid 0 p ++ (bare (codes ")") ∷ []))

-- `not` in front of words
abbrev pub negated : Phrase → Phrase
negated p = word_and (codes "not") (laid 1 p)

-- words, a word that joins them, and other words
abbrev pub joined : List ℕ → Phrase → Phrase → Phrase
joined key p q = word_and p.first (p.behind ++ (spaced key ∷ laid 1 q))

-- phrases with a comma between each two, the first behind so many spaces
abbrev pub commas : ℕ → List Phrase → List Piece
commas gap [] = []
commas gap (p ∷ []) = laid gap p
commas gap (p ∷ q ∷ ps) = laid gap p ++ (bare (codes ",") ∷ commas 1 (q ∷ ps))

-- phrases in parentheses, with a comma between each two
abbrev pub listed : List Phrase → Phrase
listed ps = word_and (codes "(") (commas 0 ps ++ (bare (codes ")") ∷ []))

-- a name, and words in parentheses behind it, if there are any
abbrev pub called : {A : Type 0} → (A → List ℕ) → List ℕ → List A → Phrase
called f name [] = word name
called f name (x ∷ xs) = word_and name (laid 0 (listed (map (λ y. word (f y)) (x ∷ xs))))

-- ---- values

-- a parameter: `$` and its name
abbrev pub given : List ℕ → List ℕ
given x = 36 ∷ x

-- a number, or a parameter
abbrev pub number_text : RplNumber ℕ → List ℕ
number_text (Fixed n) = decimal n
number_text (GivenNumber x) = given x

-- the word of a comparison
abbrev pub comparison_text : Comparison → List ℕ
comparison_text Equal = codes "eq"
comparison_text AtLeast = codes "ge"
comparison_text AtMost = codes "le"

-- half of a community element by two tests, that it is one number and that it is all of them
abbrev pub half_by : Bool → Bool → ℕ → ℕ → List ℕ
half_by true all least most = decimal least
half_by false true least most = codes "*"
half_by false false least most = 91 ∷ (decimal least ++ (46 ∷ 46 ∷ (decimal most ++ (93 ∷ []))))

-- half of a community element: a number, `*`, or `[x..y]`
abbrev pub half_text : ℕ → ℕ → List ℕ
half_text least most = half_by (least == most) ((least == 0) && (most == 65535)) least most

-- an element of a community set: two halves joined by `:`
abbrev pub rect_text : RectParts → List ℕ
rect_text r = half_text r.high_least r.high_most ++ (58 ∷ half_text r.low_least r.low_most)

-- an address, or `self`
abbrev pub next_hop_text : NextHop → List ℕ
next_hop_text (At a) = address_text a
next_hop_text Own = codes "self"

-- ---- elements

-- `ge G le E`
abbrev pub two_bounds : RplNumber ℕ → RplNumber ℕ → List Piece
two_bounds least most = spaced (codes "ge") ∷ spaced (number_text least) ∷ spaced (codes "le") ∷ spaced (number_text most) ∷ []

-- two lengths by three tests: they are one, the least is that of the prefix, the most is 32
abbrev pub bounds_by : Bool → Bool → Bool → ℕ → ℕ → List Piece
bounds_by true true full least most = []
bounds_by true false full least most = spaced (codes "eq") ∷ spaced (decimal most) ∷ []
bounds_by false true full least most = spaced (codes "le") ∷ spaced (decimal most) ∷ []
bounds_by false false true least most = spaced (codes "ge") ∷ spaced (decimal least) ∷ []
bounds_by false false false least most = two_bounds (Fixed least) (Fixed most)

-- the lengths behind a prefix of this length, in the first form that fits
abbrev pub bounds_words : ℕ → RplNumber ℕ → RplNumber ℕ → List Piece
bounds_words length (Fixed least) (Fixed most) = bounds_by (least == most) (least == length) (most == 32) least most
bounds_words length least most = two_bounds least most

-- an element of a prefix set
abbrev pub prefix_phrase : PrefixElement → Phrase
prefix_phrase e = word_and (prefix_text e.prefix) (bounds_words e.prefix.length e.least e.most)

-- an element of a community set
abbrev pub rect_phrase : RectParts → Phrase
rect_phrase r = word (rect_text r)

-- a test of a path
abbrev pub path_test_phrase : PathTest → Phrase
path_test_phrase (Length t) = word_and (codes "length") (spaced (comparison_text t.comparison) ∷ spaced (number_text t.length) ∷ [])
path_test_phrase (PassesThrough n) = word_and (codes "passes-through") (in_quotes (number_text n) ∷ [])
path_test_phrase (OriginatesFrom n) = word_and (codes "originates-from") (in_quotes (number_text n) ∷ [])
path_test_phrase (NeighborIs n) = word_and (codes "neighbor-is") (in_quotes (number_text n) ∷ [])

-- an element of a path set
abbrev pub path_phrase : PathElement → Phrase
path_phrase (Pattern bs) = word_and (codes "ios-regex") (in_quotes (pattern_text bs) ∷ [])
path_phrase (PathAsks t) = path_test_phrase t

-- an element of a set
abbrev pub element_phrase : Element → Phrase
element_phrase (Prefix e) = prefix_phrase e
element_phrase (Community r) = rect_phrase r
element_phrase (OfPath e) = path_phrase e

-- a set within a policy: a name, a parameter, or elements in parentheses
abbrev pub set_phrase : {E : Type 0} → (E → Phrase) → RplSet E → Phrase
set_phrase f (Named n) = word n
set_phrase f (GivenSet x) = word (given x)
set_phrase f (Listed es) = listed (map f es)

-- ---- conditions

-- a test
abbrev pub test_phrase : RplTest → Phrase
test_phrase (Destination s) = word_and (codes "destination") (spaced (codes "in") ∷ laid 1 (set_phrase prefix_phrase s))
test_phrase (OfNextHop s) = word_and (codes "next-hop") (spaced (codes "in") ∷ laid 1 (set_phrase prefix_phrase s))
test_phrase (PathIn s) = word_and (codes "as-path") (spaced (codes "in") ∷ laid 1 (set_phrase path_phrase s))
test_phrase (Path t) = word_and (codes "as-path") (laid 1 (path_test_phrase t))
test_phrase (MatchesAny s) = word_and (codes "community") (spaced (codes "matches-any") ∷ laid 1 (set_phrase rect_phrase s))
test_phrase (MatchesEvery s) = word_and (codes "community") (spaced (codes "matches-every") ∷ laid 1 (set_phrase rect_phrase s))
test_phrase IsEmpty = word_and (codes "community") (spaced (codes "is-empty") ∷ [])
test_phrase (Med t) = word_and (codes "med") (spaced (comparison_text t.comparison) ∷ spaced (number_text t.med) ∷ [])
test_phrase (Origin o) = word_and (codes "origin") (spaced (codes "is") ∷ spaced (origin_text o) ∷ [])

-- the words of terms behind operands that are already put into words, the last one first
unfoldable pub operands_joined : List Phrase → List Term → Phrase
operands_joined ps (Test t ∷ ts) = operands_joined (test_phrase t ∷ ps) ts
operands_joined (p ∷ ps) (Group ∷ ts) = operands_joined (in_parentheses p ∷ ps) ts
operands_joined (p ∷ ps) (Not ∷ ts) = operands_joined (negated p ∷ ps) ts
operands_joined (q ∷ p ∷ ps) (And ∷ ts) = operands_joined (joined (codes "and") p q ∷ ps) ts
operands_joined (q ∷ p ∷ ps) (Or ∷ ts) = operands_joined (joined (codes "or") p q ∷ ps) ts
operands_joined (p ∷ ps) [] = p
operands_joined [] [] = word []
operands_joined ps (t ∷ ts) = operands_joined ps ts

-- a condition by its terms, each of which stands behind what it joins
abbrev pub condition_phrase : List Term → Phrase
condition_phrase terms = operands_joined [] terms

-- ---- statements

-- how often a number is put before the path, where that isn't once
abbrev pub count_words : RplNumber ℕ → List Piece
count_words (Fixed n) = elim (n == 1) [ true ↦ [] | false ↦ spaced (decimal n) ∷ [] ]
count_words (GivenNumber x) = spaced (given x) ∷ []

-- `additive`, or nothing
abbrev pub additive_words : Bool → List Piece
additive_words true = spaced (codes "additive") ∷ []
additive_words false = []

-- a statement that changes the route
abbrev pub action_phrase : Action → Phrase
action_phrase (SetMed n) = word_and (codes "set") (spaced (codes "med") ∷ spaced (number_text n) ∷ [])
action_phrase (SetLocalPreference n) = word_and (codes "set") (spaced (codes "local-preference") ∷ spaced (number_text n) ∷ [])
action_phrase (SetWeight n) = word_and (codes "set") (spaced (codes "weight") ∷ spaced (number_text n) ∷ [])
action_phrase (SetOrigin o) = word_and (codes "set") (spaced (codes "origin") ∷ spaced (origin_text o) ∷ [])
action_phrase (SetNextHop h) = word_and (codes "set") (spaced (codes "next-hop") ∷ spaced (next_hop_text h) ∷ [])
action_phrase (SetCommunity s) = word_and (codes "set") (spaced (codes "community") ∷ (laid 1 (set_phrase rect_phrase s.set) ++ additive_words s.additive))
action_phrase (DeleteCommunity s) = word_and (codes "delete") (spaced (codes "community") ∷ spaced (codes "in") ∷ laid 1 (set_phrase rect_phrase s))
action_phrase (Prepend p) = word_and (codes "prepend") (spaced (codes "as-path") ∷ spaced (number_text p.number) ∷ count_words p.count)

-- what is handed to a policy
abbrev pub argument_text : Argument → List ℕ
argument_text (Written text) = text
argument_text (Parameter x) = given x

-- a condition between this word and `then`
abbrev pub branch_phrase : List ℕ → List Term → Phrase
branch_phrase key terms = word_and key (laid 1 (condition_phrase terms) ++ (spaced (codes "then") ∷ []))

-- a statement of a policy
abbrev pub statement_phrase : PolicyStatement → Phrase
statement_phrase (If terms) = branch_phrase (codes "if") terms
statement_phrase (ElseIf terms) = branch_phrase (codes "elseif") terms
statement_phrase Else = word (codes "else")
statement_phrase EndIf = word (codes "endif")
statement_phrase Pass = word (codes "pass")
statement_phrase Done = word (codes "done")
statement_phrase Drop = word (codes "drop")
statement_phrase (Act a) = action_phrase a
statement_phrase (Apply a) = word_and (codes "apply") (laid 1 (called argument_text a.policy a.arguments))

-- what stands behind the keyword in the first line of a block
abbrev pub header_phrase : Header → Phrase
header_phrase (PrefixSet n) = word n
header_phrase (CommunitySet n) = word n
header_phrase (PathSet n) = word n
header_phrase (Policy h) = called given h.name h.parameters
