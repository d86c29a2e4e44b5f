-- In profile no line with `exact-match` names an expanded list.
use Rattle.std.proofs.Common.{◌≡◌, refl, Bool, true, false, List, [], ◌∷◌, ℕ, Option, Some, None}
use Rattle.std.specs.Prelude.{bytes_eq}
use Rattle.std.specs.List.{list_any, AllByRecursion}
use Rattle.text_words.specs.declared.statement.Span.{Span}
use Rattle.policy_text.specs.Causes.{first_cause, first_fault_from}
use Rattle.policy_text.specs.declared.fault.Cause.{Cause}
use Rattle.policy_text.specs.declared.fault.Cause.TheVariants.{ExactExpanded}
use Rattle.policy_text.proofs.FirstFaults.{none_holds}
use Rattle.ios_tree.specs.declared.item.CommunityListEntry.{CommunityListEntry}
use Rattle.ios_tree.specs.declared.item.CommunityShape.{CommunityShape}
use Rattle.ios_tree.specs.declared.item.CommunityShape.TheVariants.{Standard, Expanded}
use Rattle.ios_tree.specs.declared.item.ItemSort.{ItemSort}
use Rattle.ios_tree.specs.declared.item.ItemSort.TheVariants.{Line as LineSort}
use Rattle.ios_tree.specs.declared.item.IosForm.{IosForm}
use Rattle.ios_tree.specs.declared.item.IosForm.TheVariants.{CommunityEntry, MapHeader, Line, Other}
use Rattle.ios_tree.specs.declared.item.IosItem.{IosItem}
use Rattle.ios_tree.specs.declared.item.MapHeader.{MapHeader as Header}
use Rattle.ios_tree.specs.declared.item.MapLine.{MapLine}
use Rattle.ios_reader.specs.Entries.{Entry, lines_below, entry_from, entries_of}
use Rattle.ios_reader.specs.Facts.{facts_of, before_of, is_inside}
use Rattle.ios_reader.specs.Items.{is_marked}
use Rattle.ios_reader.specs.Profile.{is_exact_expanded, all_forms, is_fault, rules_of, span_of, first_fault, first_fault_within}
use Rattle.ios_meaning.specs.Drafts.{entry_named, entries_named}
use Rattle.granted_policies.proofs.Lists.{not_false, none_passes}
use Rattle.granted_policies.proofs.Lines.{AreSuch}

-- an item of this form
abbrev item : IosForm → Span → IosItem
item form s = record { form = form; span = s }

-- an item of no form
abbrev other : ItemSort → Option (List ℕ) → IosForm
other sort under = Other (record { sort = sort; name = under })

-- ---- no fault at a place

-- no fault is there from here on
abbrev Sound : List ℕ → List IosItem → List IosItem → List IosItem → Type 0
Sound name all before is = first_fault_from span_of (rules_of all_forms name all) before is ≡ None

-- no cause holds of a form with these items before it
abbrev IsFine : List ℕ → List IosItem → List IosItem → IosForm → Type 0
IsFine name all before form = (cause : Cause) → is_fault all_forms (facts_of name all) (before_of name before) form cause ≡ false

abbrev fault_or : Option Cause → Span → Option (Span × Cause) → Option (Span × Cause)
fault_or f s rest = elim f [ Some cause ↦ Some (s, cause) | None ↦ rest ]

none_first : (f : Option Cause) (s : Span) (rest : Option (Span × Cause)) → fault_or f s rest ≡ None → (f ≡ None) × (rest ≡ None)
none_first (Some cause) s rest e = absurd cc
none_first None s rest e = (refl, e)

sound_parts : (name : List ℕ) (all before : List IosItem) (i : IosItem) (is : List IosItem) → Sound name all before (i ∷ is) → IsFine name all before i.form × Sound name all (i ∷ before) is
unfolding first_fault_from
sound_parts name all before i is sound =
    let holds = rules_of all_forms name all before i in
    let parts = none_first (first_cause holds) i.span (first_fault_from span_of (rules_of all_forms name all) (i ∷ before) is) sound in
    (none_holds holds parts.0, parts.1)

-- ---- the lines of the map

-- a line with `exact-match` names no expanded list
abbrev pub IsStandardLine : List ℕ → List IosItem → MapLine → Type 0
IsStandardLine name all l = is_exact_expanded (facts_of name all) l ≡ false

abbrev LinesOfStandards : List ℕ → List IosItem → List MapLine → Type 0
LinesOfStandards name all ls = AllByRecursion (IsStandardLine name all) ls

abbrev pub AreOfStandards : List ℕ → List IosItem → List Entry → Type 0
AreOfStandards name all es = AreSuch (IsStandardLine name all) es

line_standard : (name : List ℕ) (all before : List IosItem) (l : MapLine) → is_inside name before ≡ true → IsFine name all before (Line l) → IsStandardLine name all l
line_standard name all before l inside fine = not_false (is_inside name before) (is_exact_expanded (facts_of name all) l) inside (fine ExactExpanded)

-- the statement for the lines behind `before`
abbrev LinesStandard : List ℕ → List IosItem → List IosItem → List IosItem → Type 0
LinesStandard name all before is = is_inside name before ≡ true → Sound name all before is → LinesOfStandards name all (lines_below is)

other_standard : (name : List ℕ) (all before is : List IosItem) (sort : ItemSort) (under : Option (List ℕ)) (s : Span) → LinesStandard name all (item (other sort under) s ∷ before) is
    → LinesStandard name all before (item (other sort under) s ∷ is)
other_standard name all before is LineSort under s more inside sound = more inside (sound_parts name all before (item (other LineSort under) s) is sound).1
other_standard name all before is _ under s more inside sound = tt

form_standard : (name : List ℕ) (all before is : List IosItem) (form : IosForm) (s : Span) → LinesStandard name all (item form s ∷ before) is → LinesStandard name all before (item form s ∷ is)
form_standard name all before is (Line l) s more inside sound =
    let parts = sound_parts name all before (item (Line l) s) is sound in
    (line_standard name all before l inside parts.0, more inside parts.1)
form_standard name all before is (Other o) s more inside sound = other_standard name all before is o.sort o.name s more inside sound
form_standard name all before is _ s more inside sound = tt

lines_standard : (name : List ℕ) (all is before : List IosItem) → LinesStandard name all before is
lines_standard name all [] before inside sound = tt
lines_standard name all (i ∷ is) before inside sound = form_standard name all before is i.form i.span (lines_standard name all is (i ∷ before)) inside sound

header_standard : (name : List ℕ) (all : List IosItem) (h : Header) (lines : List MapLine) (rest : List Entry) (b : Bool) → (b ≡ true → LinesOfStandards name all lines) → AreOfStandards name all rest
    → AreOfStandards name all (elim b [ true ↦ record { number = h.number; permit = h.permit; lines = lines } ∷ rest | false ↦ rest ])
header_standard name all h lines rest true here behind = (here refl, behind)
header_standard name all h lines rest false here behind = behind

entry_standard : (name : List ℕ) (all before is : List IosItem) (form : IosForm) (s : Span) → Sound name all (item form s ∷ before) is → AreOfStandards name all (entries_of name is)
    → AreOfStandards name all (entry_from name form (lines_below is) (entries_of name is))
entry_standard name all before is (MapHeader h) s sound behind =
    header_standard name all h (lines_below is) (entries_of name is) (bytes_eq name h.map) (λ named. lines_standard name all is (item (MapHeader h) s ∷ before) named sound) behind
entry_standard name all before is _ s sound behind = behind

entries_standard : (name : List ℕ) (all is before : List IosItem) → Sound name all before is → AreOfStandards name all (entries_of name is)
entries_standard name all [] before sound = tt
entries_standard name all (i ∷ is) before sound =
    let behind = (sound_parts name all before i is sound).1 in
    entry_standard name all before is i.form i.span behind (entries_standard name all is (i ∷ before) behind)

pub policy_standard : (name : List ℕ) (all : List IosItem) → first_fault name all ≡ None → AreOfStandards name all (entries_of name all)
unfolding first_fault_within
policy_standard name all sound = entries_standard name all all [] sound

-- ---- the entries of a list

abbrev pub IsStandard : CommunityShape → Type 0
IsStandard (Standard cs) = Unit {0}
IsStandard (Expanded r) = ⊥

-- the entries are of standard lists, and so are those of each list of these names
abbrev pub AreStandard : List CommunityListEntry → Type 0
AreStandard es = AllByRecursion (λ e. IsStandard e.shape) es

abbrev pub ListsStandard : List IosItem → List (List ℕ) → Type 0
ListsStandard all lists = AllByRecursion (λ list. AreStandard (entries_named list all)) lists

-- a form is marked as an entry of the expanded list of this name
abbrev pub marks_expanded : List IosItem → List ℕ → Bool
marks_expanded all list = list_any (λ i. is_marked list 1 1 i.form) all

-- e: whether the entry is of the list; the mark of an expanded one is 1
shape_standard : (list : List ℕ) (e : CommunityListEntry) (shape : CommunityShape) (es : List CommunityListEntry) (b : Bool) → bytes_eq list e.list ≡ b
    → is_marked list 1 1 (CommunityEntry (record { list = e.list; permit = e.permit; shape = shape })) ≡ false → AreStandard es
    → AreStandard (elim b [ true ↦ record { list = e.list; permit = e.permit; shape = shape } ∷ es | false ↦ es ])
shape_standard list e (Standard cs) es true same h more = (tt, more)
shape_standard list e (Expanded r) es true same h more = absurd cc
shape_standard list e shape es false same h more = more

form_named : (list : List ℕ) (form : IosForm) (es : List CommunityListEntry) → is_marked list 1 1 form ≡ false → AreStandard es → AreStandard (entry_named list form es)
form_named list (CommunityEntry e) es h more = shape_standard list e e.shape es (bytes_eq list e.list) refl h more
form_named list _ es h more = more

named_standard : (list : List ℕ) (is : List IosItem) → AllByRecursion (λ i. is_marked list 1 1 i.form ≡ false) is → AreStandard (entries_named list is)
named_standard list [] h = tt
named_standard list (i ∷ is) h = form_named list i.form (entries_named list is) h.0 (named_standard list is h.1)

-- the entries of the lists that a line with `exact-match` names are of standard lists
lists_standard : (all : List IosItem) (lists : List (List ℕ)) → AllByRecursion (λ list. marks_expanded all list ≡ false) lists → ListsStandard all lists
lists_standard all [] h = tt
lists_standard all (list ∷ lists) h = (named_standard list all (none_passes (λ i. is_marked list 1 1 i.form) all h.0), lists_standard all lists h.1)

pub exact_standard : (all : List IosItem) (lists : List (List ℕ)) → list_any (marks_expanded all) lists ≡ false → ListsStandard all lists
exact_standard all lists h = lists_standard all lists (none_passes (marks_expanded all) lists h)
