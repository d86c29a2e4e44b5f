-- What stands before, behind one more item.
use Rattle.std.proofs.Common.{◌≡◌, refl, sym, ap, ◌∙◌, ℕ, ◌<◌, Bool, true, false, ◌||◌, List, [], ◌∷◌, length, get_or, None, inl, inr, arith}
use Rattle.std.specs.Prelude.{◌==◌, option_map, set, IfSome}
use Rattle.std.specs.List.{list_any}
use Rattle.std.proofs.lemmas.Bool.{cases_order, eq-eqb, ne_eqb}
use Rattle.std.proofs.lemmas.Grind.{get_or-set_at}
use Rattle.std.proofs.lemmas.List.{get_or-set_other, get_or-replicate, get_or_past, length-set}
use Rattle.policy_text.specs.NameSets.{has_name}
use Rattle.policy_text.proofs.Flags.{flag_more}
use Rattle.ios_tree.specs.Sorts.{is_line, heads}
use Rattle.ios_tree.specs.declared.item.IosForm.{IosForm}
use Rattle.ios_tree.specs.declared.item.IosForm.TheVariants.{Line}
use Rattle.ios_tree.specs.declared.item.IosItem.{IosItem}
use Rattle.ios_tree.specs.declared.item.MapLine.{MapLine}
use Rattle.ios_reader.specs.Entries.{onto_lines}
use Rattle.ios_reader.specs.Items.{header_in, line_in, sort_code, is_marked}
use Rattle.ios_reader.specs.Lines.{kind_of}
use Rattle.ios_reader.specs.Facts.{Before, is_inside, open_header, open_lines}
use Rattle.ios_reader.specs.Walk.{has_kind, no_kinds, kinds_with, Marks, KeepsMark, IsBehind}
use Rattle.ios_reader.specs.declared.place.Place.{Place}

-- ---- the kinds of lines

no_kind : (kind : ℕ) → has_kind no_kinds kind ≡ false
no_kind kind = elim (cases_order kind 15) [
  | inl same ↦ get_or_past no_kinds kind false (omega arith)
  | inr apart ↦ elim apart [ inl lt ↦ get_or-replicate 15 kind false false lt | inr gt ↦ get_or_past no_kinds kind false (omega arith) ]
]

-- the lines have one of this kind
abbrev among : ℕ → List MapLine → Bool
among kind lines = list_any (λ l. kind == kind_of l) lines

kinds_more : (kinds : List Bool) (lines : List MapLine) (form : IosForm) → length kinds ≡ 15 → IfSome (line_in form) (λ l. kind_of l < 15)
    → ((kind : ℕ) → has_kind kinds kind ≡ among kind lines)
    → (kind : ℕ) → has_kind (kinds_with kinds form) kind ≡ among kind (onto_lines form lines)
kinds_more kinds lines (Line l) len within are kind = flag_more kinds (kind_of l) kind (omega (arith, within, len)) ∙ ap (λ (b : Bool). (kind == kind_of l) || b) (are kind)
kinds_more kinds lines _ len within are kind = are kind

kinds_len : (kinds : List Bool) (form : IosForm) → length (kinds_with kinds form) ≡ length kinds
kinds_len kinds (Line l) = length-set kinds (kind_of l) true
kinds_len kinds _ = refl

-- ---- one more item

module _ (name : List ℕ) (before : List IosItem) (place next : Place) (marks more : Marks) (i : IosItem) (behind : IsBehind name before place marks) (keeps : KeepsMark marks more i) where
  one_more : next.inside ≡ is_inside name (i ∷ before) → option_map (λ h. h.now) next.header ≡ open_header (i ∷ before)
      → ((k : ℕ) → has_kind next.kinds k ≡ among k (open_lines (i ∷ before)))
      → length next.kinds ≡ 15 → IsBehind name (i ∷ before) next more
  one_more inside header kinds len = record {
    tells = λ j. record {
      inside = inside j;
      header = header j;
      kinds = λ k. kinds k j;
      marked = λ sort q n. (keeps q (sort_code sort) n ∙ ap (λ (b : Before). is_marked q (sort_code sort) n i.form || b.marked sort q n) behind.tells) j;
    };
    len = len;
  }

  -- behind a line
  pub behind_line : is_line i ≡ true → next.inside ≡ place.inside → option_map (λ h. h.now) next.header ≡ option_map (λ h. h.now) place.header
      → next.kinds ≡ kinds_with place.kinds i.form
      → IfSome (line_in i.form) (λ l. kind_of l < 15) → IsBehind name (i ∷ before) next more
  behind_line line inside header kinds within =
      let more_kinds : (k : ℕ) → has_kind (kinds_with place.kinds i.form) k ≡ among k (onto_lines i.form (open_lines before)) =
      kinds_more place.kinds (open_lines before) i.form behind.len within (λ k. ap (λ (b : Before). b.kinds k) behind.tells) in
      one_more (rw (is_inside, line) (inside ∙ ap (λ (b : Before). b.inside) behind.tells)) (rw (open_header, line) (header ∙ ap (λ (b : Before). b.header) behind.tells))
      (λ k. rw (open_lines, line) (ap (λ (ks : List Bool). has_kind ks k) kinds ∙ more_kinds k)) (ap (λ (ks : List Bool). length ks) kinds ∙ kinds_len place.kinds i.form ∙ behind.len)

  -- behind any other item
  pub behind_other : is_line i ≡ false → next.inside ≡ heads name i → option_map (λ h. h.now) next.header ≡ header_in i.form → next.kinds ≡ no_kinds
      → IsBehind name (i ∷ before) next more
  behind_other line inside header kinds =
      one_more (rw (is_inside, line) inside) (rw (open_header, line) header)
      (λ k. rw (open_lines, line) (ap (λ (ks : List Bool). has_kind ks k) kinds ∙ no_kind k)) (ap (λ (ks : List Bool). length ks) kinds)

-- before the first item
pub nothing_before : (name : List ℕ) (place : Place) (marks : Marks) → place ≡ record { inside = false; header = None; kinds = no_kinds } → marks.keys ≡ [] → IsBehind name [] place marks
nothing_before name place marks start none = rw start (record {
  tells = λ j. record {
    inside = false;
    header = None;
    kinds = λ k. no_kind k j;
    marked = λ sort q n. (let empty : has_name marks q (sort_code sort) n ≡ false = rw none refl in empty) j;
  };
  len = refl;
})
