-- The texts of AS paths may stand in quotes: no byte of a pattern is a quote or ends a line.
use Rattle.std.proofs.Common.{◌≡◌, refl, sym, ap, subst, ◌∙◌, ℕ, ◌≤◌, Bool, false, ◌||◌, true, List, [], ◌∷◌, ◌++◌, arith, inl, inr, Option, Some, None, lit<}
use Rattle.std.specs.Prelude.{codes, decimal, ◌==◌}
use Rattle.std.specs.List.{list_any}
use Rattle.std.proofs.lemmas.Bool.{or_from}
use Rattle.route_types.specs.RouteText.{Each}
use Rattle.aspath_text.specs.IosGrammar.{joined_by}
use Rattle.aspath_text.specs.JunosGrammar.{SpellsSet, SpellsCount, SpellsItem, AreSpaced, SpellsItems, SpellsJunos}
use Rattle.aspath_text.proofs.JunosBytes.{NoDigit, below_digits, Spares, number_avoids, range_avoids, blanks_avoid, append_avoids, joined_avoids}
use Rattle.aspath_text.proofs.JunosRead.{junos_pattern_found}
use Rattle.path_patterns.specs.declared.items.NumberSet.{NumberSet}
use Rattle.path_patterns.specs.declared.items.TokenItem.{TokenItem}
use Rattle.path_patterns.specs.declared.items.TokenPattern.{TokenPattern}
use Rattle.text_words.specs.JunosWritten.{quoted_bytes}
use Rattle.junos_text.specs.Written.{FitsName, FitsPath}
use Rattle.junos_text.proofs.Plain.{bytes_quotable}
use Rattle.junos_plans.specs.Fits.{FitsText}
use Rattle.junos_layout.specs.Options.{pattern_of}

-- a byte that may not stand in quotes
breaks_quotes : ℕ → Bool
breaks_quotes c = (c == 34) || (c == 13)

no_digit : NoDigit breaks_quotes
unfolding breaks_quotes
no_digit c low high = or_from (c == 34) (c == 13) (below_digits 34 (lit< tt) c low high) (below_digits 13 (lit< tt) c low high)

spared : Spares breaks_quotes
unfolding breaks_quotes
spared = record { digit = no_digit; dash = refl; dot = refl; space = refl; tab = refl }

number_free : (n : ℕ) → n ≤ 255 → list_any breaks_quotes (decimal n) ≡ false
number_free n small = number_avoids breaks_quotes no_digit n (omega (arith, small))

set_free : (text : List ℕ) (set : NumberSet) → SpellsSet text set → list_any breaks_quotes text ≡ false
unfolding breaks_quotes
set_free text set (inl h) = range_avoids breaks_quotes no_digit refl refl text h.0 h.2
set_free text set (inr h) =
    ap (λ (w : List ℕ). list_any breaks_quotes w) h.1
    ∙ append_avoids breaks_quotes (joined_by 124 h.0) (41 ∷ []) (joined_avoids breaks_quotes spared refl h.0 set.ranges h.2) refl

count_free : (text : List ℕ) (least : ℕ) (most : Option ℕ) → SpellsCount text least most → list_any breaks_quotes text ≡ false
unfolding breaks_quotes
count_free text least None (inl h) = ap (λ (w : List ℕ). list_any breaks_quotes w) h.0
count_free text least None (inr (inl h)) = ap (λ (w : List ℕ). list_any breaks_quotes w) h.0
count_free text least None (inr (inr h)) =
    ap (λ (w : List ℕ). list_any breaks_quotes w) h.0 ∙ append_avoids breaks_quotes (decimal least) (codes ",}") (number_free least h.1) refl
count_free text least (Some most) (inl h) = ap (λ (w : List ℕ). list_any breaks_quotes w) h.0
count_free text least (Some most) (inr (inl h)) = ap (λ (w : List ℕ). list_any breaks_quotes w) h.0
count_free text least (Some most) (inr (inr (inl h))) =
    ap (λ (w : List ℕ). list_any breaks_quotes w) h.0 ∙ append_avoids breaks_quotes (decimal least) (codes "}") (number_free least h.1) refl
count_free text least (Some most) (inr (inr (inr h))) =
    let few : least ≤ 255 = omega (arith, h.1, h.2) in
    ap (λ (w : List ℕ). list_any breaks_quotes w) h.0
    ∙ append_avoids breaks_quotes (decimal least) (44 ∷ (decimal most ++ codes "}")) (number_free least few) (append_avoids breaks_quotes (decimal most) (codes "}") (number_free most h.2) refl)

item_free : (text : List ℕ) (i : TokenItem) → SpellsItem text i → list_any breaks_quotes text ≡ false
item_free text i h =
    ap (λ (w : List ℕ). list_any breaks_quotes w) h.spelled
    ∙ append_avoids breaks_quotes h.set h.count (set_free h.set i.set h.numbers) (count_free h.count i.least i.most h.counted)

spaced_free : (text : List ℕ) (parts : List (List ℕ)) (items : List TokenItem) → AreSpaced text parts → Each SpellsItem parts items → list_any breaks_quotes text ≡ false
unfolding AreSpaced breaks_quotes
spaced_free text [] items h k = absurd h
spaced_free text (p ∷ ps) [] h k = absurd k
spaced_free text (p ∷ []) (i ∷ is) h k = ap (λ (w : List ℕ). list_any breaks_quotes w) h ∙ item_free p i k.0
spaced_free text (p ∷ q ∷ ps) (i ∷ is) (blanks, rest, is_text, some, are, more) k =
    ap (λ (w : List ℕ). list_any breaks_quotes w) is_text
    ∙ append_avoids breaks_quotes p (blanks ++ rest) (item_free p i k.0)
    (append_avoids breaks_quotes blanks rest (blanks_avoid breaks_quotes refl refl blanks are) (spaced_free rest (q ∷ ps) is more k.1))

items_free : (text : List ℕ) (items : List TokenItem) → SpellsItems text items → list_any breaks_quotes text ≡ false
unfolding breaks_quotes
items_free text items (inl h) = ap (λ (w : List ℕ). list_any breaks_quotes w) h.0
items_free text items (inr (parts, spaced, each)) = spaced_free text parts items spaced each

-- the text of a pattern may stand in quotes
pattern_quotable : (text : List ℕ) (p : TokenPattern) → SpellsJunos text p → quoted_bytes text ≡ true
unfolding breaks_quotes
pattern_quotable text p (items, branches, spelled) = bytes_quotable text (items_free text items spelled)

-- the definition of an AS path
pub path_fits : (name text : List ℕ) → FitsName name → FitsText text → FitsPath (record { name = name; pattern = pattern_of text; text = text })
path_fits name text named h =
    let spelled : SpellsJunos text h.0 = junos_pattern_found text h.0 h.1 in
    record {
      name = named;
      spelled = subst (λ (o : Option TokenPattern). SpellsJunos text (elim o [ None ↦ record { branches = [] } | Some p ↦ p ])) (sym h.1) spelled;
      quotable = pattern_quotable text h.0 spelled;
    }
