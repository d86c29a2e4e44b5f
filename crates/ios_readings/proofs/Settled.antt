-- In profile no line tests what an entry of lower number sets that continues, and no two entries have one number.
use Rattle.std.proofs.Common.{◌≡◌, refl, sym, ap, subst, ◌∙◌, ℕ, ◌<◌, Bool, true, false, ◌&&◌, ◌||◌, List, [], ◌∷◌, Option, Some, None}
use Rattle.std.specs.Prelude.{nat_lt, bytes_eq}
use Rattle.std.specs.List.{list_any, AllByRecursion}
use Rattle.std.proofs.lemmas.Bool.{or_parts, eq-eqb, lt-ltb, true≢false}
use Rattle.policy_text.specs.Names.{is_named}
use Rattle.policy_text.specs.Causes.{Place, behind}
use Rattle.policy_text.specs.declared.fault.Cause.TheVariants.{SequenceTwice, UnsettledTest}
use Rattle.policy_text.proofs.Phrases.{same_bytes}
use Rattle.ios_tree.specs.Sorts.{is_line_sort, is_header_sort, sort_of_form, name_of_form, is_line, heads}
use Rattle.ios_tree.specs.declared.item.IosForm.{IosForm}
use Rattle.ios_tree.specs.declared.item.IosForm.TheVariants.{MapHeader, Line}
use Rattle.ios_tree.specs.declared.item.IosItem.{IosItem}
use Rattle.ios_tree.specs.declared.item.MapHeader.{MapHeader as Header}
use Rattle.ios_tree.specs.declared.item.MapLine.{MapLine}
use Rattle.ios_reader.specs.Entries.{Entry, onto_lines, lines_below, entry_from, entries_of}
use Rattle.ios_reader.specs.Items.{header_in, is_marked}
use Rattle.ios_reader.specs.Lines.{continues, sets, tested_by}
use Rattle.ios_reader.specs.Facts.{sets_below, facts_of, is_inside, open_header, before_of}
use Rattle.ios_reader.specs.Profile.{passes, all_forms, is_fault, IsSoundWithin}
use Rattle.ios_readings.proofs.Kept.{some_sets}
use Rattle.ios_readings.proofs.Ordered.{Apart}

module _ (name : List ℕ) (all : List IosItem) (sound : IsSoundWithin all_forms name all) where
  -- no entry below the number that continues sets what the line tests
  abbrev pub IsSettledAt : ℕ → MapLine → Type 0
  IsSettledAt n t = passes (λ setting. list_any (sets_below setting n) (entries_of name all)) (tested_by t) ≡ false

  -- an entry's lines are settled at its number
  abbrev pub IsSettledEntry : Entry → Type 0
  IsSettledEntry e = AllByRecursion (IsSettledAt e.number) e.lines

  -- ---- the lines below a header

  module _ (before : List IosItem) (i : IosItem) (is : List IosItem) (here : all ≡ behind before (i ∷ is)) where
    abbrev at_place : Place all
    at_place = record { before = before; item = i; rest = is; is = here }

    line_settled : (h : Header) (l : MapLine) → i.form ≡ Line l → is_inside name before ≡ true → open_header before ≡ Some h → IsSettledAt h.number l
    line_settled h l form inside header =
        let tests : Option Header → Bool = λ o. passes (λ g. passes (λ setting. list_any (sets_below setting g.number) (entries_of name all)) (tested_by l)) o in
        let fault : (is_inside name before && tests (open_header before)) ≡ false =
        subst (λ (f : IosForm). is_fault all_forms (facts_of name all) (before_of name before) f UnsettledTest ≡ false) form (sound at_place UnsettledTest) in
        subst (λ (o : Option Header). tests o ≡ false) header (subst (λ (b : Bool). (b && tests (open_header before)) ≡ false) inside fault)

    onto_settled : (h : Header) (f : IosForm) → i.form ≡ f → is_inside name before ≡ true → open_header before ≡ Some h → AllByRecursion (IsSettledAt h.number) (lines_below is)
        → AllByRecursion (IsSettledAt h.number) (onto_lines f (lines_below is))
    onto_settled h (Line l) form inside header more = (line_settled h l form inside header, more)
    onto_settled h _ form inside header more = more

    below_settled : (h : Header) (b : Bool) → is_inside name before ≡ true → open_header before ≡ Some h → (b ≡ true → AllByRecursion (IsSettledAt h.number) (lines_below is))
        → AllByRecursion (IsSettledAt h.number) (elim b [ true ↦ onto_lines i.form (lines_below is) | false ↦ [] ])
    below_settled h true inside header more = onto_settled h i.form refl inside header (more refl)
    below_settled h false inside header more = tt

  inside_still : (before : List IosItem) (i : IosItem) → is_line i ≡ true → is_inside name before ≡ true → is_inside name (i ∷ before) ≡ true
  inside_still before i line inside = ap (λ (b : Bool). elim b [ true ↦ is_inside name before | false ↦ heads name i ]) line ∙ inside

  header_still : (before : List IosItem) (i : IosItem) (h : Header) → is_line i ≡ true → open_header before ≡ Some h → open_header (i ∷ before) ≡ Some h
  header_still before i h line header = ap (λ (b : Bool). elim b [ true ↦ open_header before | false ↦ header_in i.form ]) line ∙ header

  lines_settled : (before is : List IosItem) (h : Header) → all ≡ behind before is → is_inside name before ≡ true → open_header before ≡ Some h → AllByRecursion (IsSettledAt h.number) (lines_below is)
  lines_settled before [] h here inside header = tt
  lines_settled before (i ∷ is) h here inside header =
      below_settled before i is here h (is_line i) inside header
      (λ line. lines_settled (i ∷ before) is h here (inside_still before i line inside) (header_still before i h line header))

  -- ---- the entries

  inside_below : (before : List IosItem) (i : IosItem) (h : Header) → i.form ≡ MapHeader h → bytes_eq name h.map ≡ true → is_inside name (i ∷ before) ≡ true
  inside_below before i h form named =
      ap (λ (f : IosForm). elim (is_line_sort (sort_of_form f)) [ true ↦ is_inside name before | false ↦ is_header_sort (sort_of_form f) && is_named name (name_of_form f) ]) form ∙ named

  header_below : (before : List IosItem) (i : IosItem) (h : Header) → i.form ≡ MapHeader h → open_header (i ∷ before) ≡ Some h
  header_below before i h form = ap (λ (f : IosForm). elim (is_line_sort (sort_of_form f)) [ true ↦ open_header before | false ↦ header_in f ]) form

  entry_by : (before : List IosItem) (i : IosItem) (is : List IosItem) (h : Header) (b : Bool) → all ≡ behind before (i ∷ is) → i.form ≡ MapHeader h → bytes_eq name h.map ≡ b → AllByRecursion IsSettledEntry (entries_of name is)
      → AllByRecursion IsSettledEntry (elim b [ true ↦ record { number = h.number; permit = h.permit; lines = lines_below is } ∷ entries_of name is | false ↦ entries_of name is ])
  entry_by before i is h true here form named more = (lines_settled (i ∷ before) is h here (inside_below before i h form named) (header_below before i h form), more)
  entry_by before i is h false here form named more = more

  entry_settled : (before : List IosItem) (i : IosItem) (is : List IosItem) (f : IosForm) → all ≡ behind before (i ∷ is) → i.form ≡ f → AllByRecursion IsSettledEntry (entries_of name is)
      → AllByRecursion IsSettledEntry (entry_from name f (lines_below is) (entries_of name is))
  entry_settled before i is (MapHeader h) here form more = entry_by before i is h (bytes_eq name h.map) here form refl more
  entry_settled before i is _ here form more = more

  pub entries_settled : (before is : List IosItem) → all ≡ behind before is → AllByRecursion IsSettledEntry (entries_of name is)
  entries_settled before [] here = tt
  entries_settled before (i ∷ is) here = entry_settled before i is i.form here refl (entries_settled (i ∷ before) is here)

  -- ---- the numbers

  -- some header of the map before has the number
  abbrev stands : ℕ → List IosItem → Bool
  stands n before = list_any (λ i. is_marked name 3 n i.form) before

  new_number : (before : List IosItem) (i : IosItem) (is : List IosItem) (h : Header) → all ≡ behind before (i ∷ is) → i.form ≡ MapHeader h → bytes_eq name h.map ≡ true → stands h.number before ≡ false
  new_number before i is h here form named =
      let seen : List ℕ → Bool = λ q. list_any (λ j. is_marked q 3 h.number j.form) before in
      let fault : (bytes_eq name h.map && (seen h.map || false)) ≡ false =
      subst (λ (f : IosForm). is_fault all_forms (facts_of name all) (before_of name before) f SequenceTwice ≡ false) form (sound (at_place before i is here) SequenceTwice) in
      let both : (seen h.map || false) ≡ false = subst (λ (b : Bool). (b && (seen h.map || false)) ≡ false) named fault in
      subst (λ (q : List ℕ). seen q ≡ false) (sym (same_bytes name h.map named)) (or_parts (seen h.map) false both).0

  differs : (n m : ℕ) (before : List IosItem) → stands n before ≡ true → stands m before ≡ false → n ≡ m → ⊥
  differs n m before there none same = true≢false (sym there ∙ ap (λ (k : ℕ). stands k before) same ∙ none)

  stands_still : (n : ℕ) (i : IosItem) (before : List IosItem) → stands n before ≡ true → stands n (i ∷ before) ≡ true
  stands_still n i before h = or_true (is_marked name 3 n i.form) (stands n before) h
    where
      or_true : (b c : Bool) → c ≡ true → (b || c) ≡ true
      or_true true c e = refl
      or_true false c e = e

  marks_itself : (before : List IosItem) (i : IosItem) (h : Header) → i.form ≡ MapHeader h → bytes_eq name h.map ≡ true → stands h.number (i ∷ before) ≡ true
  marks_itself before i h form named =
      ap (λ (f : IosForm). is_marked name 3 h.number f || stands h.number before) form
      ∙ ap (λ (b : Bool). ((b && true) && bytes_eq name h.map) || stands h.number before) (eq-eqb h.number h.number refl)
      ∙ ap (λ (b : Bool). b || stands h.number before) named

  -- the entry has another number than those of the list
  abbrev IsOther : ℕ → Entry → Type 0
  IsOther n e = n ≡ e.number → ⊥

  other_by : (n : ℕ) (before : List IosItem) (i : IosItem) (is : List IosItem) (h : Header) (b : Bool) → all ≡ behind before (i ∷ is) → i.form ≡ MapHeader h → bytes_eq name h.map ≡ b → stands n before ≡ true → AllByRecursion (IsOther n) (entries_of name is)
      → AllByRecursion (IsOther n) (elim b [ true ↦ record { number = h.number; permit = h.permit; lines = lines_below is } ∷ entries_of name is | false ↦ entries_of name is ])
  other_by n before i is h true here form named there more = (differs n h.number before there (new_number before i is h here form named), more)
  other_by n before i is h false here form named there more = more

  other_from : (n : ℕ) (before : List IosItem) (i : IosItem) (is : List IosItem) (f : IosForm) → all ≡ behind before (i ∷ is) → i.form ≡ f → stands n before ≡ true → AllByRecursion (IsOther n) (entries_of name is)
      → AllByRecursion (IsOther n) (entry_from name f (lines_below is) (entries_of name is))
  other_from n before i is (MapHeader h) here form there more = other_by n before i is h (bytes_eq name h.map) here form refl there more
  other_from n before i is _ here form there more = more

  others : (n : ℕ) (before is : List IosItem) → all ≡ behind before is → stands n before ≡ true → AllByRecursion (IsOther n) (entries_of name is)
  others n before [] here there = tt
  others n before (i ∷ is) here there = other_from n before i is i.form here refl there (others n (i ∷ before) is here (stands_still n i before there))

  apart_by : (before : List IosItem) (i : IosItem) (is : List IosItem) (h : Header) (b : Bool) → all ≡ behind before (i ∷ is) → i.form ≡ MapHeader h → bytes_eq name h.map ≡ b → Apart (λ e. e.number) (entries_of name is)
      → Apart (λ e. e.number) (elim b [ true ↦ record { number = h.number; permit = h.permit; lines = lines_below is } ∷ entries_of name is | false ↦ entries_of name is ])
  apart_by before i is h true here form named more = (others h.number (i ∷ before) is here (marks_itself before i h form named), more)
  apart_by before i is h false here form named more = more

  apart_from : (before : List IosItem) (i : IosItem) (is : List IosItem) (f : IosForm) → all ≡ behind before (i ∷ is) → i.form ≡ f → Apart (λ e. e.number) (entries_of name is) → Apart (λ e. e.number) (entry_from name f (lines_below is) (entries_of name is))
  apart_from before i is (MapHeader h) here form more = apart_by before i is h (bytes_eq name h.map) here form refl more
  apart_from before i is _ here form more = more

  pub entries_apart : (before is : List IosItem) → all ≡ behind before is → Apart (λ e. e.number) (entries_of name is)
  entries_apart before [] here = tt
  entries_apart before (i ∷ is) here = apart_from before i is i.form here refl (entries_apart (i ∷ before) is here)

  -- ---- an entry and one of greater number

  -- what no entry of the map has, the entry hasn't
  abbrev pub IsAmong : List Entry → Entry → Type 0
  IsAmong es e = (test : Entry → Bool) → list_any test es ≡ false → test e ≡ false

  pub all_among : (es fs : List Entry) → ((test : Entry → Bool) → list_any test es ≡ false → list_any test fs ≡ false) → AllByRecursion (IsAmong es) fs
  all_among es [] h = tt
  all_among es (f ∷ fs) h =
      ((λ test n. (or_parts (test f) (list_any test fs) (h test n)).0), all_among es fs (λ test n. (or_parts (test f) (list_any test fs) (h test n)).1))

  sets_none : {S : Type 0} (has : S → MapLine → Bool) (o : Option S) (e : Entry) (n : ℕ) → IsAmong (entries_of name all) e → e.number < n → list_any continues e.lines ≡ true
      → passes (λ s. list_any (λ f. nat_lt f.number n && (list_any continues f.lines && list_any (has s) f.lines)) (entries_of name all)) o ≡ false → passes (λ s. list_any (has s) e.lines) o ≡ false
  sets_none has None e n among l c none = refl
  sets_none has (Some s) e n among l c none =
      let own = among (λ f. nat_lt f.number n && (list_any continues f.lines && list_any (has s) f.lines)) none in
      let first = subst (λ (b : Bool). (b && (list_any continues e.lines && list_any (has s) e.lines)) ≡ false) (lt-ltb e.number n l) own in
      subst (λ (b : Bool). (b && list_any (has s) e.lines) ≡ false) c first

  -- an entry that continues sets nothing that settled lines of greater number test
  pub leaves : (e : Entry) (n : ℕ) (ts : List MapLine) → IsAmong (entries_of name all) e → e.number < n → list_any continues e.lines ≡ true → AllByRecursion (IsSettledAt n) ts → AllByRecursion (λ t. some_sets e.lines t ≡ false) ts
  leaves e n [] among l c settled = tt
  leaves e n (t ∷ ts) among l c settled = (sets_none sets (tested_by t) e n among l c settled.0, leaves e n ts among l c settled.1)
