-- Lines of definitions are cut into their statements, and these read as the forms.
use Rattle.std.proofs.Common.{◌≡◌, refl, sym, ap, subst, ◌∙◌, ℕ, suc, ◌+◌, ◌*◌, ◌-◌, ◌^◌, Bool, true, false, ◌&&◌, List, [], ◌∷◌, ◌++◌, Option, Some, None, Result, Ok, append_assoc, append-nil, map, arith, inl, inr}
use Rattle.std.specs.Prelude.{codes, decimal, option_map, IfOk}
use Rattle.std.specs.List.{AllByRecursion, flat_map}
use Rattle.std.proofs.lemmas.Bool.{and_from}
use Rattle.text_words.specs.JunosCut.{junos_cut}
use Rattle.text_words.specs.JunosWritten.{junos_signs, JunosLine, Says, Opens, Closes, may_be_written, junos_text, junos_placed, words_end, plain_bytes, quoted_bytes}
use Rattle.text_words.specs.Pieces.{Piece, placed, line_pieces}
use Rattle.text_words.specs.Signs.{are_words}
use Rattle.text_words.specs.declared.statement.Ender.{Ender}
use Rattle.text_words.specs.declared.statement.Ender.TheVariants.{Semi, Open}
use Rattle.text_words.specs.declared.statement.Statement.{Statement}
use Rattle.text_words.specs.declared.statement.Word.{Word}
use Rattle.text_words.proofs.JunosLaw.{junos_written}
use Rattle.policy_text.specs.Phrases.{texts}
use Rattle.junos_tree.specs.Forms.{condition_form, action_form}
use Rattle.junos_tree.specs.Reading.{IsRead}
use Rattle.junos_tree.specs.Spelling.{SpellTexts, Spell}
use Rattle.junos_tree.specs.Tree.{takes_quoted, quotes_fit, known_form, other_at, opened_at, said_at, or_other, opens_or_says, inside_form, items_from, junos_tree, are_plain, are_plain_but_last}
use Rattle.junos_tree.specs.declared.item.JunosForm.{JunosForm}
use Rattle.junos_tree.specs.declared.item.JunosItem.{JunosItem}
use Rattle.junos_tree.specs.declared.item.OtherItem.{OtherItem}
use Rattle.junos_tree.specs.declared.place.Place.{Place}
use Rattle.junos_tree.proofs.Spelled.{is_found}
use Rattle.junos_text.specs.Words.{quoted_last}
use Rattle.junos_text.specs.Written.{forms}
use Rattle.junos_text.proofs.Phrases.{ArePlain, line_words, quoted_words, line_texts, quoted_texts, line_plain, quoted_plain}
use Rattle.junos_text.proofs.Spelled.{AreWords}

-- ---- statements

-- pieces that may stand on a line, and that as a statement with this end at a place are this form
pub record Speaks (place : Place) (ender : Ender) (form : JunosForm) (xs : List Piece) : Type 0 where
  pub may : are_words junos_signs xs ≡ true
  pub known : (p : ℕ) → known_form place ender (placed p xs) ≡ Some form

-- a line without quotes
pub line_speaks : (place : Place) (ender : Ender) (form : JunosForm) (ws : List (List ℕ)) → takes_quoted form ≡ false → AreWords ws (λ vs. SpellTexts place ender vs form) → Speaks place ender form (line_pieces 0 ws)
line_speaks place ender form ws quotes h = record {
  may = subst (λ (vs : List (List ℕ)). are_words junos_signs (line_pieces 0 vs) ≡ true) (sym h.is) (line_words h.first h.others h.plain);
  known = λ p. is_found place ender (placed p (line_pieces 0 ws)) form (
    subst (λ (vs : List (List ℕ)). SpellTexts place ender vs form) (sym (line_texts p ws)) h.says,
    rw (quotes, quotes_fit) (line_plain p ws),
  );
}

-- a line whose last word is in quotes
pub quoted_speaks : (place : Place) (ender : Ender) (form : JunosForm) (w : List ℕ) (ws : List (List ℕ)) (text : List ℕ) → takes_quoted form ≡ true → ArePlain (w ∷ ws) → quoted_bytes text ≡ true
    → SpellTexts place ender (w ∷ (ws ++ (text ∷ []))) form → Speaks place ender form (quoted_last (w ∷ ws) text)
quoted_speaks place ender form w ws text quotes plain quotable says = record {
  may = quoted_words w ws text plain quotable;
  known = λ p. is_found place ender (placed p (quoted_last (w ∷ ws) text)) form (
    subst (λ (vs : List (List ℕ)). SpellTexts place ender vs form) (sym (quoted_texts p w ws text)) says,
    rw (quotes, quotes_fit) (quoted_plain p w ws text),
  );
}

-- such a statement is no opener, and stands under something
pub record Stands (place : Place) (ender : Ender) (form : JunosForm) (xs : List Piece) : Type 0 where
  pub speaks : Speaks place ender form xs
  pub opens : (p : ℕ) → opened_at place ender (placed p xs) ≡ None
  pub other : OtherItem
  pub under : (p : ℕ) → other_at place (placed p xs) ≡ Some other

said_form : (place : Place) (ender : Ender) (form : JunosForm) (xs : List Piece) (k : Stands place ender form xs) (p : ℕ) → said_at place ender (placed p xs) ≡ or_other (Some k.other) (Some form)
unfolding said_at
said_form place ender form xs k p = rw (k.opens p, k.under p, k.speaks.known p) refl

said_opener : (place inner : Place) (ws : List Word) → opened_at place Open ws ≡ Some inner → said_at place Open ws ≡ opens_or_says (Some inner) (or_other None None)
unfolding said_at
said_opener place inner ws h = rw h refl

-- ---- lines

-- lines at a place that may be written, and whose statements say these forms
pub record ReadsIn (place : Place) (ls : List JunosLine) (fs : List JunosForm) : Type 0 where
  pub may : (depth : ℕ) (more : List JunosLine) → may_be_written depth more ≡ true → may_be_written depth (ls ++ more) ≡ true
  pub told : (depth : ℕ) (around : List Place) (more : List JunosLine) (gs : List JunosForm) → ((q : ℕ) → forms (items_from (place ∷ around) (junos_placed depth q more)) ≡ gs)
      → (p : ℕ) → forms (items_from (place ∷ around) (junos_placed depth p (ls ++ more))) ≡ fs ++ gs

pub no_lines : (place : Place) → ReadsIn place [] []
no_lines place = record { may = λ depth more h. h; told = λ depth around more gs h p. h p }

-- lines, and others behind them
pub then_lines : (place : Place) (ls ms : List JunosLine) (fs gs : List JunosForm) → ReadsIn place ls fs → ReadsIn place ms gs → ReadsIn place (ls ++ ms) (fs ++ gs)
then_lines place ls ms fs gs a b = record {
  may = λ depth more h. subst (λ (xs : List JunosLine). may_be_written depth xs ≡ true) (sym (append_assoc ls ms more)) (a.may depth (ms ++ more) (b.may depth more h));
  told = λ depth around more ks h p.
      ap (λ (xs : List JunosLine). forms (items_from (place ∷ around) (junos_placed depth p xs))) (append_assoc ls ms more)
      ∙ a.told depth around (ms ++ more) (gs ++ ks) (λ q. b.told depth around more ks h q) p
      ∙ sym (append_assoc fs gs ks);
}

-- a statement that `;` ends
pub says_line : (place : Place) (form : JunosForm) (xs : List Piece) → Stands place Semi form xs → ReadsIn place (Says xs ∷ []) (form ∷ [])
unfolding may_be_written junos_placed items_from
says_line place form xs k = record {
  may = λ depth more h. and_from (are_words junos_signs xs) (may_be_written depth more) k.speaks.may h;
  told = λ depth around more gs h p. rw (said_form place Semi form xs k (p + 4 * depth)) (ap (λ (ks : List JunosForm). form ∷ ks) (h (words_end depth p xs + 2)));
}

closes : (place inner : Place) (depth : ℕ) (around : List Place) (more : List JunosLine) (gs : List JunosForm) → ((q : ℕ) → forms (items_from (place ∷ around) (junos_placed depth q more)) ≡ gs)
    → (p : ℕ) → forms (items_from (inner ∷ place ∷ around) (junos_placed (suc depth) p (Closes ∷ more))) ≡ gs
unfolding junos_placed items_from
closes place inner depth around more gs h p = h (p + 4 * depth + 2)

may_close : (inner following more : List JunosLine) (depth : ℕ) (place : Place) (fs : List JunosForm) → ReadsIn place inner fs → may_be_written depth (following ++ more) ≡ true → may_be_written (suc depth) ((inner ++ (Closes ∷ following)) ++ more) ≡ true
unfolding may_be_written
may_close inner following more depth place fs a h = subst (λ (xs : List JunosLine). may_be_written (suc depth) xs ≡ true) (sym (append_assoc inner (Closes ∷ following) more)) (a.may (suc depth) (Closes ∷ (following ++ more)) h)

-- what stands in a block and behind it
block_told : (place inner : Place) (ls following more : List JunosLine) (fs gs ks : List JunosForm) (depth : ℕ) (around : List Place) → ReadsIn inner ls fs → ReadsIn place following gs
    → ((q : ℕ) → forms (items_from (place ∷ around) (junos_placed depth q more)) ≡ ks) → (p : ℕ)
    → forms (items_from (inner ∷ place ∷ around) (junos_placed (suc depth) p ((ls ++ (Closes ∷ following)) ++ more))) ≡ (fs ++ gs) ++ ks
block_told place inner ls following more fs gs ks depth around a b h p =
    ap (λ (xs : List JunosLine). forms (items_from (inner ∷ place ∷ around) (junos_placed (suc depth) p xs))) (append_assoc ls (Closes ∷ following) more)
    ∙ a.told (suc depth) (place ∷ around) (Closes ∷ (following ++ more)) (gs ++ ks) (λ q. closes place inner depth around (following ++ more) (gs ++ ks) (λ r. b.told depth around more ks h r) q) p
    ∙ sym (append_assoc fs gs ks)

-- a block that a form opens, and lines behind it
pub form_block : (place : Place) (form : JunosForm) (xs : List Piece) (ls following : List JunosLine) (fs gs : List JunosForm) → Stands place Open form xs → ReadsIn (inside_form form) ls fs → ReadsIn place following gs
    → ReadsIn place (Opens xs ∷ (ls ++ (Closes ∷ following))) (form ∷ (fs ++ gs))
unfolding may_be_written junos_placed items_from
form_block place form xs ls following fs gs k a b = record {
  may = λ depth more h. and_from (are_words junos_signs xs) (may_be_written (suc depth) ((ls ++ (Closes ∷ following)) ++ more)) k.speaks.may (may_close ls following more depth (inside_form form) fs a (b.may depth more h));
  told = λ depth around more ks h p. rw (said_form place Open form xs k (p + 4 * depth)) (ap (λ (js : List JunosForm). form ∷ js) (block_told place (inside_form form) ls following more fs gs ks depth around a b h (words_end depth p xs + 3)));
}

-- a block that a keyword opens, and lines behind it
pub keyword_block : (place inner : Place) (xs : List Piece) (ls following : List JunosLine) (fs gs : List JunosForm) → are_words junos_signs xs ≡ true → ((p : ℕ) → opened_at place Open (placed p xs) ≡ Some inner)
    → ReadsIn inner ls fs → ReadsIn place following gs → ReadsIn place (Opens xs ∷ (ls ++ (Closes ∷ following))) (fs ++ gs)
unfolding may_be_written junos_placed items_from
keyword_block place inner xs ls following fs gs words opener a b = record {
  may = λ depth more h. and_from (are_words junos_signs xs) (may_be_written (suc depth) ((ls ++ (Closes ∷ following)) ++ more)) words (may_close ls following more depth inner fs a (b.may depth more h));
  told = λ depth around more ks h p. rw (said_opener place inner (placed (p + 4 * depth) xs) (opener (p + 4 * depth))) (block_told place inner ls following more fs gs ks depth around a b h (words_end depth p xs + 3));
}
