-- Statements read as their items, and as no other ones.
use Rattle.std.proofs.Common.{◌≡◌, refl, sym, ap, ◌∙◌, Bool, true, false, List, [], ◌∷◌, Option, Some, None, inl, inr}
use Rattle.std.specs.Prelude.{option_map}
use Rattle.policy_text.specs.Names.{or_else}
use Rattle.text_words.specs.declared.rpl_blocks.BlockKind.{BlockKind}
use Rattle.text_words.specs.declared.statement.Statement.{Statement}
use Rattle.text_words.specs.declared.statement.Word.{Word}
use Rattle.rpl_forms.specs.Statements.{SpellHeader, SpellWithin, header_in, form_in}
use Rattle.rpl_words.specs.Tokens.{tokens}
use Rattle.rpl_forms.specs.declared.item.Header.{Header}
use Rattle.rpl_forms.specs.declared.item.RplForm.{RplForm}
use Rattle.rpl_forms.specs.declared.item.RplForm.TheVariants.{Header as OfHeader}
use Rattle.rpl_forms.specs.declared.item.RplItem.{RplItem}
use Rattle.rpl_forms.proofs.Agree.Statements.{header_found, header_only}
use Rattle.rpl_forms.proofs.Spelled.{form_found, form_only}
use Rattle.rpl_tree.specs.Blocks.{opens, ends_block}
use Rattle.rpl_tree.specs.Reading.{SaysHeader, Says, IsHeader, IsStatement, IsEnd, ReadsFrom}
use Rattle.rpl_tree.specs.Tree.{other_header, other_statement, header_item, statement_item, end_item, items_of}

-- ---- what a statement says

header_says : (kind : BlockKind) (ws : List Word) (o : Option Header) → header_in kind (tokens ws) ≡ o → SaysHeader kind ws (or_else (option_map OfHeader o) (other_header kind ws))
header_says kind ws (Some h) e = inl (h, header_found kind (tokens ws) h e, refl)
header_says kind ws None e = inr (λ h spelled. let k : ◌≡◌ {A = Option Header} None (Some h) = sym e ∙ header_only kind (tokens ws) h spelled in cc, refl)

statement_says : (kind : BlockKind) (ws : List Word) (o : Option RplForm) → form_in kind (tokens ws) ≡ o → Says kind ws (or_else o (other_statement kind ws))
statement_says kind ws (Some form) e = inl (form_found kind (tokens ws) form e)
statement_says kind ws None e = inr (λ form spelled. let k : ◌≡◌ {A = Option RplForm} None (Some form) = sym e ∙ form_only kind (tokens ws) form spelled in cc, refl)

no_header : (kind : BlockKind) (ws : List Word) (o : Option Header) → header_in kind (tokens ws) ≡ o → ((h : Header) → SpellHeader kind (tokens ws) h → ⊥) → or_else (option_map OfHeader o) (other_header kind ws) ≡ other_header kind ws
no_header kind ws (Some h) e none = absurd (none h (header_found kind (tokens ws) h e))
no_header kind ws None e none = refl

no_form : (kind : BlockKind) (ws : List Word) (o : Option RplForm) → form_in kind (tokens ws) ≡ o → ((form : RplForm) → SpellWithin kind (tokens ws) form → ⊥) → or_else o (other_statement kind ws) ≡ other_statement kind ws
no_form kind ws (Some form) e none = absurd (none form (form_found kind (tokens ws) form e))
no_form kind ws None e none = refl

one_header : (kind : BlockKind) (ws : List Word) (form : RplForm) → SaysHeader kind ws form → form ≡ or_else (option_map OfHeader (header_in kind (tokens ws))) (other_header kind ws)
one_header kind ws form (inl (h, spelled, e)) = e ∙ ap (λ (o : Option Header). or_else (option_map OfHeader o) (other_header kind ws)) (sym (header_only kind (tokens ws) h spelled))
one_header kind ws form (inr (none, e)) = e ∙ sym (no_header kind ws (header_in kind (tokens ws)) refl none)

one_form : (kind : BlockKind) (ws : List Word) (form : RplForm) → Says kind ws form → form ≡ or_else (form_in kind (tokens ws)) (other_statement kind ws)
one_form kind ws form (inl spelled) = ap (λ (o : Option RplForm). or_else o (other_statement kind ws)) (sym (form_only kind (tokens ws) form spelled))
one_form kind ws form (inr (none, e)) = e ∙ sym (no_form kind ws (form_in kind (tokens ws)) refl none)

-- ---- the item of a statement

header_reads : (kind : BlockKind) (s : Statement) → IsHeader kind s (header_item kind s)
unfolding header_item
header_reads kind s = record { says = header_says kind s.words (header_in kind (tokens s.words)) refl; span = refl; tests = refl }

statement_reads : (kind : BlockKind) (s : Statement) → IsStatement kind s (statement_item kind s)
unfolding statement_item
statement_reads kind s = record { says = statement_says kind s.words (form_in kind (tokens s.words)) refl; span = refl; tests = refl }

end_reads : (s : Statement) → IsEnd s (end_item s)
end_reads s = record { says = refl; span = refl; tests = refl }

only_header : (kind : BlockKind) (s : Statement) (i : RplItem) → IsHeader kind s i → i ≡ header_item kind s
unfolding header_item
only_header kind s i h =
    let form = one_header kind s.words i.form h.says in
    let span = h.span in
    let tests = h.tests in
    λ j. record { form = form j; span = span j; tests = tests j }

only_statement : (kind : BlockKind) (s : Statement) (i : RplItem) → IsStatement kind s i → i ≡ statement_item kind s
unfolding statement_item
only_statement kind s i h =
    let form = one_form kind s.words i.form h.says in
    let span = h.span in
    let tests = h.tests in
    λ j. record { form = form j; span = span j; tests = tests j }

only_end : (s : Statement) (i : RplItem) → IsEnd s i → i ≡ end_item s
only_end s i h =
    let form = h.says in
    let span = h.span in
    let tests = h.tests in
    λ j. record { form = form j; span = span j; tests = tests j }

-- ---- the items of statements

line_reads : (s : Statement) (ss : List Statement) (o : Option BlockKind) → opens s.words ≡ o → ((block : Option BlockKind) → ReadsFrom block ss (items_of block ss))
    → ReadsFrom None (s ∷ ss) (elim o [ None ↦ items_of None ss | Some kind ↦ header_item kind s ∷ items_of (Some kind) ss ])
line_reads s ss None e rest = inl (e, rest None)
line_reads s ss (Some kind) e rest = inr (kind, header_item kind s, items_of (Some kind) ss, refl, e, header_reads kind s, rest (Some kind))

within_reads : (kind : BlockKind) (s : Statement) (ss : List Statement) (b : Bool) → ends_block kind s.words ≡ b → ((block : Option BlockKind) → ReadsFrom block ss (items_of block ss))
    → ReadsFrom (Some kind) (s ∷ ss) (elim b [ true ↦ end_item s ∷ items_of None ss | false ↦ statement_item kind s ∷ items_of (Some kind) ss ])
within_reads kind s ss true e rest = inl (end_item s, items_of None ss, refl, e, end_reads s, rest None)
within_reads kind s ss false e rest = inr (statement_item kind s, items_of (Some kind) ss, refl, e, statement_reads kind s, rest (Some kind))

pub reads_items : (ss : List Statement) (block : Option BlockKind) → ReadsFrom block ss (items_of block ss)
unfolding items_of
reads_items [] block = refl
reads_items (s ∷ ss) None = line_reads s ss (opens s.words) refl (reads_items ss)
reads_items (s ∷ ss) (Some kind) = within_reads kind s ss (ends_block kind s.words) refl (reads_items ss)

put_in_front : (i j : RplItem) (is js : List RplItem) → i ≡ j → is ≡ js → i ∷ is ≡ j ∷ js
put_in_front i j is js e f = ap (λ (x : RplItem). x ∷ is) e ∙ ap (λ (xs : List RplItem). j ∷ xs) f

pub only_items : (ss : List Statement) (block : Option BlockKind) (is : List RplItem) → ReadsFrom block ss is → is ≡ items_of block ss
unfolding items_of
only_items [] block is e = e
only_items (s ∷ ss) None is (inl (e, h)) = rw (e, items_of) (only_items ss None is h)
only_items (s ∷ ss) None is (inr (kind, i, more, e, opened, item, h)) =
    rw (opened, items_of) (e ∙ put_in_front i (header_item kind s) more (items_of (Some kind) ss) (only_header kind s i item) (only_items ss (Some kind) more h))
only_items (s ∷ ss) (Some kind) is (inl (i, more, e, ends, item, h)) =
    rw (ends, items_of) (e ∙ put_in_front i (end_item s) more (items_of None ss) (only_end s i item) (only_items ss None more h))
only_items (s ∷ ss) (Some kind) is (inr (i, more, e, goes_on, item, h)) =
    rw (goes_on, items_of) (e ∙ put_in_front i (statement_item kind s) more (items_of (Some kind) ss) (only_statement kind s i item) (only_items ss (Some kind) more h))

-- statements read as at most one tree
pub one_reading : (ss : List Statement) (is js : List RplItem) → ReadsFrom None ss is → ReadsFrom None ss js → is ≡ js
one_reading ss is js h k = only_items ss None is h ∙ sym (only_items ss None js k)
