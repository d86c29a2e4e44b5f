-- What a text can spell: prefixes and addresses in range, and rectangles with plain halves.
use Rattle.std.proofs.Common.{◌≡◌, refl, sym, subst, ℕ, ◌+◌, ◌-◌, ◌<◌, Bool, true, false, ◌&&◌, List, [], ◌∷◌, ◌++◌, Option, Some, None, inl, inr, arith}
use Rattle.std.specs.Prelude.{◌^◌, IfSome, nat_le, nat_lt}
use Rattle.std.specs.List.{AllByRecursion}
use Rattle.std.proofs.lemmas.Bool.{lt-ltb, eq-eqb}
use Rattle.text_words.specs.declared.statement.Statement.{Statement}
use Rattle.text_words.specs.IosCut.{ios_cut}
use Rattle.policy_text.specs.Names.{or_else}
use Rattle.policy_text.specs.Phrases.{texts}
use Rattle.policy_text.proofs.Values.{prefix_agrees}
use Rattle.route_types.specs.Address.{width, same_family}
use Rattle.route_types.specs.Community.{RectParts}
use Rattle.route_types.specs.Words.{IsAddress, address_of}
use Rattle.route_types.specs.declared.address.Address.{Address}
use Rattle.route_types.specs.declared.address.Family.{Family}
use Rattle.route_types.specs.declared.address.Family.TheVariants.{V4, V6}
use Rattle.route_types.proofs.Printed.{prefix_in_plain}
use Rattle.policy_core.specs.Ranges.{address_in_range, prefix_in_range}
use Rattle.policy_core.specs.Sayable.{is_plain_half, is_plain}
use Rattle.ios_tree.specs.Spelling.{IsHalf, IsShape, SpellCommunityEntry, SpellLine, Spell}
use Rattle.ios_tree.specs.Tree.{known_form, name_under, form_of, sort_of, belongs, opens, items_of, family_of, greatest_number, entry_with_number, numbered, numbered_item, numbered_from, ios_tree}
use Rattle.ios_tree.specs.declared.item.CommunityShape.{CommunityShape}
use Rattle.ios_tree.specs.declared.item.CommunityShape.TheVariants.{Standard, Expanded}
use Rattle.ios_tree.specs.declared.item.ItemSort.{ItemSort}
use Rattle.ios_tree.specs.declared.item.ItemSort.TheVariants.{PrefixList}
use Rattle.ios_tree.specs.declared.item.IosForm.{IosForm}
use Rattle.ios_tree.specs.declared.item.IosForm.TheVariants.{PrefixEntry, PrefixDescription, CommunityEntry, PathEntry, MapHeader, Line, Other}
use Rattle.ios_tree.specs.declared.item.MapLine.{MapLine}
use Rattle.ios_tree.specs.declared.item.MapLine.TheVariants.{MatchNextHop, SetNextHop}
use Rattle.ios_tree.specs.declared.item.PrefixListEntry.{PrefixListEntry}
use Rattle.ios_tree.specs.declared.item.IosItem.{IosItem}
use Rattle.ios_tree.proofs.Forms.Entries.{spelled_range}
use Rattle.ios_tree.proofs.Spelled.{is_spelled}
use Rattle.granted_policies.proofs.Lists.{both_true}

-- ---- what is asked

-- the prefix of an entry is in range
abbrev pub HasRange : PrefixListEntry → Type 0
HasRange e = prefix_in_range e.entry.range.prefix ≡ true

-- the halves of an expanded entry are plain
abbrev pub IsPlainShape : CommunityShape → Type 0
IsPlainShape (Standard cs) = Unit {0}
IsPlainShape (Expanded r) = is_plain r ≡ true

-- the lists of a next-hop line are of IPv4, and an address that is set is in range
abbrev pub IsWrittenLine : MapLine → Type 0
IsWrittenLine (MatchNextHop m) = m.family ≡ V4
IsWrittenLine (SetNextHop a) = address_in_range a ≡ true
IsWrittenLine _ = Unit {0}

abbrev pub IsWrittenForm : IosForm → Type 0
IsWrittenForm (PrefixEntry e) = HasRange e
IsWrittenForm (CommunityEntry e) = IsPlainShape e.shape
IsWrittenForm (Line l) = IsWrittenLine l
IsWrittenForm _ = Unit {0}

abbrev pub IsWritten : IosItem → Type 0
IsWritten i = IsWrittenForm i.form

abbrev pub AreWritten : List IosItem → Type 0
AreWritten is = AllByRecursion IsWritten is

-- ---- words

in_range_by : (family : Family) (bits : ℕ) → family ≡ V4 → bits < 2 ^ width family → (same_family V4 family && nat_lt bits (2 ^ 32)) ≡ true
in_range_by V4 bits e h = lt-ltb bits (2 ^ 32) h
in_range_by V6 bits e h = absurd cc

address_written : (word : List ℕ) (a : Address) → IsAddress word a → address_in_range a ≡ true
address_written word a h =
    let fits : (address_of h.octets).bits < 2 ^ 32 = omega (arith, h.first, h.second, h.third, h.fourth) in
    subst (λ (x : Address). address_in_range x ≡ true) (sym h.value) (lt-ltb (address_of h.octets).bits (2 ^ 32) fits)

one_half : (least most : ℕ) → most ≡ least → is_plain_half least most ≡ true
one_half least most e = rw (eq-eqb least most (sym e)) refl

all_half : (least most : ℕ) → least ≡ 0 → most ≡ 65535 → is_plain_half least most ≡ true
all_half least most e f = rw (e, f) refl

half_plain : (word : List ℕ) (least most : ℕ) → IsHalf word least most → is_plain_half least most ≡ true
half_plain word least most (inl (number, same)) = one_half least most same
half_plain word least most (inr (spelled, none, greatest)) = all_half least most none greatest

shape_plain : (word : List ℕ) (r : RectParts) → IsShape word r → is_plain r ≡ true
shape_plain word r h =
    both_true (is_plain_half r.high_least r.high_most) (is_plain_half r.low_least r.low_most)
    (half_plain h.high r.high_least r.high_most h.high_half) (half_plain h.low r.low_least r.low_most h.low_half)

-- ---- forms

line_written : (words : List (List ℕ)) (line : MapLine) → SpellLine words line → IsWrittenLine line
line_written words (MatchNextHop m) h = h.1
line_written words (SetNextHop a) h = address_written h.2.0 a h.2.2
line_written words _ h = tt

community_written : (words : List (List ℕ)) (list : List ℕ) (permit : Bool) (shape : CommunityShape) → SpellCommunityEntry words list permit shape → IsPlainShape shape
community_written words list permit (Standard cs) h = tt
community_written words list permit (Expanded r) (inl h) = shape_plain h.2.4.4.0 r h.2.4.4.2
community_written words list permit (Expanded r) (inr h) = shape_plain h.2.4.4.0 r h.2.4.4.2

form_written : (words : List (List ℕ)) (form : IosForm) → Spell words form → IsWrittenForm form
form_written words (PrefixEntry e) h =
    let prefix = e.entry.range.prefix in
    let r = spelled_range words e.list h.seq e.entry h.words in
    let plain = prefix_in_plain r.1.prefix_word prefix (prefix_agrees.only r.1.prefix_word prefix r.1.prefix) in
    in_range_by prefix.address.family prefix.address.bits plain.family plain.masked.fits
form_written words (CommunityEntry e) h = community_written words e.list e.permit e.shape h
form_written words (Line l) h = line_written words l h
form_written words (Other o) h = absurd h
form_written words (PrefixDescription d) h = tt
form_written words (PathEntry e) h = tt
form_written words (MapHeader m) h = tt

known_written : (sort : ItemSort) (words : List (List ℕ)) (o : Option IosForm) → known_form sort words ≡ o → IfSome o IsWrittenForm
known_written sort words (Some form) e = form_written words form (is_spelled words form sort e)
known_written sort words None e = tt

other_written : (sort : ItemSort) (words : List (List ℕ)) (o : Option IosForm) → IfSome o IsWrittenForm → IsWrittenForm (or_else o (Other (record { sort = sort; name = name_under sort words })))
other_written sort words (Some form) h = h
other_written sort words None h = tt

form_of_written : (sort : ItemSort) (words : List (List ℕ)) → IsWrittenForm (form_of sort words)
unfolding form_of
form_of_written sort words = other_written sort words (known_form sort words) (known_written sort words (known_form sort words) refl)

-- ---- items

kept_written : (b : Bool) (s : Statement) (sort : ItemSort) (kept dropped : List IosItem) → AreWritten kept → AreWritten dropped
    → AreWritten (elim b [ true ↦ record { form = form_of sort (texts s.words); span = s.span } ∷ kept | false ↦ dropped ])
kept_written true s sort kept dropped k d = (form_of_written sort (texts s.words), k)
kept_written false s sort kept dropped k d = d

sorted_written : (entry_open : Bool) (s : Statement) (o : Option ItemSort) (ss : List Statement) → ((b : Bool) → AreWritten (items_of b ss))
    → AreWritten (elim o [
      | None ↦ items_of false ss
      | Some sort ↦ elim (belongs entry_open sort) [
        | true ↦ record { form = form_of sort (texts s.words); span = s.span } ∷ items_of (opens sort) ss
        | false ↦ items_of false ss
      ]
    ])
sorted_written entry_open s None ss behind = behind false
sorted_written entry_open s (Some sort) ss behind = kept_written (belongs entry_open sort) s sort (items_of (opens sort) ss) (items_of false ss) (behind (opens sort)) (behind false)

items_written : (ss : List Statement) (entry_open : Bool) → AreWritten (items_of entry_open ss)
unfolding items_of
items_written [] entry_open = tt
items_written (s ∷ ss) entry_open = sorted_written entry_open s (sort_of s.depth (texts s.words)) ss (items_written ss)

-- ---- numbers

with_number_written : (e : PrefixListEntry) (n : ℕ) (b : Bool) → HasRange e
    → IsWrittenForm (elim b [ true ↦ PrefixEntry (record e { number = n }) | false ↦ Other (record { sort = PrefixList (family_of e); name = Some e.list }) ])
with_number_written e n true h = h
with_number_written e n false h = tt

entry_written : (before : List IosItem) (e : PrefixListEntry) (b : Bool) → HasRange e
    → IsWrittenForm (elim b [ true ↦ PrefixEntry e | false ↦ entry_with_number e (greatest_number (family_of e) e.list before + 5) ])
entry_written before e true h = h
entry_written before e false h =
    let n = greatest_number (family_of e) e.list before + 5 in
    with_number_written e n (nat_le n (2 ^ 64 - 1)) h

numbered_written : (before : List IosItem) (form : IosForm) → IsWrittenForm form → IsWrittenForm (numbered before form)
numbered_written before (PrefixEntry e) h = entry_written before e e.has_seq h
numbered_written before (CommunityEntry e) h = h
numbered_written before (Line l) h = h
numbered_written before (PrefixDescription d) h = tt
numbered_written before (PathEntry e) h = tt
numbered_written before (MapHeader m) h = tt
numbered_written before (Other o) h = tt

items_numbered_written : (is before : List IosItem) → AreWritten is → AreWritten (numbered_from before is)
unfolding numbered_from
items_numbered_written [] before h = tt
items_numbered_written (i ∷ is) before h = (numbered_written before i.form h.0, items_numbered_written is (before ++ numbered_item before i ∷ []) h.1)

pub tree_is_written : (text : List ℕ) → AreWritten (ios_tree text)
unfolding ios_tree
tree_is_written text = items_numbered_written (items_of false (ios_cut text)) [] (items_written (ios_cut text) false)
