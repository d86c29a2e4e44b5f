-- Lines of forms are cut into their statements, and these read as the forms.
use Rattle.std.proofs.Common.{◌≡◌, refl, sym, ap, ap₂, subst, ◌∙◌, ℕ, ◌+◌, ◌*◌, Bool, true, false, ◌||◌, List, [], ◌∷◌, Option, Some, None, Result, Ok, Err}
use Rattle.std.specs.Prelude.{codes, option_map, IfOk}
use Rattle.policy_text.specs.Names.{or_else}
use Rattle.text_words.specs.Pieces.{Piece, placed, word_at}
use Rattle.text_words.specs.Signs.{are_words}
use Rattle.text_words.specs.RplCut.{is_word, opening, rpl_cut}
use Rattle.text_words.specs.RplText.{rpl_signs, as_word, bare, is_line, RplLine, Header as HeaderLine, rpl_placed, Outside, InSet, InPolicy, within, behind, MayBeWritten as MayFollow}
use Rattle.text_words.specs.declared.fault.TextFault.{TextFault}
use Rattle.text_words.specs.declared.memory.Memory.{Memory}
use Rattle.text_words.specs.declared.rpl_blocks.BlockKind.{BlockKind}
use Rattle.text_words.specs.declared.rpl_blocks.BlockKind.TheVariants.{PrefixSet as PrefixBlock, CommunitySet as CommunityBlock, PathSet as PathBlock, Policy as PolicyBlock}
use Rattle.text_words.specs.declared.statement.Statement.{Statement}
use Rattle.text_words.specs.declared.statement.Word.{Word}
use Rattle.text_words.proofs.RplWritten.{written_cut}
use Rattle.rpl_words.specs.Tokens.{Token, tokens}
use Rattle.rpl_forms.specs.Statements.{SpellHeader, SpellWithin}
use Rattle.rpl_forms.specs.declared.item.Header.{Header}
use Rattle.rpl_forms.specs.declared.item.RplForm.{RplForm}
use Rattle.rpl_forms.specs.declared.item.RplForm.TheVariants.{Header as OfHeader, Element as OfElement, Statement as OfStatement, End}
use Rattle.rpl_forms.specs.declared.item.RplItem.{RplItem}
use Rattle.rpl_forms.specs.declared.item.IfWord.{IfWord}
use Rattle.rpl_forms.specs.declared.item.PolicyStatement.{PolicyStatement}
use Rattle.rpl_words.specs.declared.element.Element.{Element}
use Rattle.rpl_forms.proofs.Agree.Statements.{header_only}
use Rattle.rpl_forms.proofs.Spelled.{form_only}
use Rattle.rpl_tree.specs.Blocks.{opens, end_word, ends_block, keyword, ifs_behind, past, past_in}
use Rattle.rpl_tree.specs.Broken.{have_end, fault_of_end, fault_unless, fault_of_line, fault_at, broken_from}
use Rattle.rpl_tree.specs.Reading.{Reads}
use Rattle.rpl_tree.specs.Tree.{second_word, other_header, other_statement, header_item, statement_item, end_item, items_of, tree_or, tree_in, rpl_tree, forms}
use Rattle.rpl_tree.proofs.Trees.{found_reads}
use Rattle.rpl_text.specs.Blocks.{ReadsAs, named_first, block_names, name_of, names_of}
use Rattle.rpl_text.specs.Layout.{kind_of, goes_on, level_at, level_behind, lines_of, text_of}
use Rattle.rpl_text.specs.Words.{Phrase, laid, element_phrase, statement_phrase, header_phrase}
use Rattle.rpl_text.specs.Written.{starts_as, MayStand, MayBeWritten}
use Rattle.rpl_text.proofs.ElementLines.{IsPut, put, put_line}
use Rattle.rpl_text.proofs.Lines.{first_word}
use Rattle.rpl_text.proofs.Pieces.{tokens_placed}
use Rattle.rpl_text.proofs.SpelledStatements.{IsSaid, said, IsHead, head}

-- ---- statements say forms

-- a block has its end
abbrev HasEnd : Option BlockKind → List Statement → Type 0
HasEnd None ss = Unit {0}
HasEnd (Some kind) ss = have_end kind ss ≡ true

-- statements in a block with these `if`s open, or outside, are whole, say these forms, and open these blocks
record Says (block : Option BlockKind) (ifs : List Bool) (ss : List Statement) (fs : List RplForm) : Type 0 where
  whole : broken_from (record { block = block; ifs = ifs }) ss ≡ None
  told : forms (items_of block ss) ≡ fs
  names : block_names block ss ≡ Some (names_of fs)
  ends : HasEnd block ss

whole_on : (block next : Option BlockKind) (ifs more : List Bool) (s : Statement) (ss : List Statement) → fault_at block ifs s ss ≡ None → past block ifs s.words ≡ record { block = next; ifs = more }
    → broken_from (record { block = next; ifs = more }) ss ≡ None → broken_from (record { block = block; ifs = ifs }) (s ∷ ss) ≡ None
unfolding broken_from
whole_on block next ifs more s ss none there rest = rw (none, there) rest

past_same : (kind : BlockKind) (ifs more : List Bool) (ws : List Word) → ends_block kind ws ≡ false → ifs_behind (keyword kind ws) ifs ≡ Some more → past (Some kind) ifs ws ≡ record { block = Some kind; ifs = more }
unfolding past
past_same kind ifs more ws inner stands = rw (inner, past, past_in) (rw stands refl)

past_end : (kind : BlockKind) (ifs : List Bool) (ws : List Word) → ends_block kind ws ≡ true → past (Some kind) ifs ws ≡ record { block = None; ifs = [] }
unfolding past
past_end kind ifs ws last = rw (last, past, past_in) refl

past_first : (kind : BlockKind) (ifs : List Bool) (ws : List Word) → opens ws ≡ Some kind → past None ifs ws ≡ record { block = Some kind; ifs = [] }
unfolding past
past_first kind ifs ws opened = rw opened refl

-- a statement of a block
statement_says : (kind : BlockKind) (ifs more : List Bool) (s : Statement) (ss : List Statement) (f : RplForm) (fs : List RplForm) → ends_block kind s.words ≡ false → ifs_behind (keyword kind s.words) ifs ≡ Some more
    → SpellWithin kind (tokens s.words) f → names_of (f ∷ fs) ≡ names_of fs → Says (Some kind) more ss fs → Says (Some kind) ifs (s ∷ ss) (f ∷ fs)
unfolding fault_at items_of statement_item block_names
statement_says kind ifs more s ss f fs inner stands spelled same rest =
    let none : fault_at (Some kind) ifs s ss ≡ None =
    ap (λ (b : Bool). elim b [ true ↦ fault_of_end ifs s | false ↦ fault_unless (ifs_behind (keyword kind s.words) ifs) s ]) inner ∙ ap (λ (o : Option (List Bool)). fault_unless o s) stands in
    let form : (statement_item kind s).form ≡ f = ap (λ (o : Option RplForm). or_else o (other_statement kind s.words)) (form_only kind (tokens s.words) f spelled) in
    record {
      whole = whole_on (Some kind) (Some kind) ifs more s ss none (past_same kind ifs more s.words inner stands) rest.whole;
      told = ap (λ (b : Bool). forms (elim b [ true ↦ end_item s ∷ items_of None ss | false ↦ statement_item kind s ∷ items_of (Some kind) ss ])) inner
          ∙ ap₂ (λ (x : RplForm) (xs : List RplForm). x ∷ xs) form rest.told;
      names = ap (λ (b : Bool). block_names (elim b [ true ↦ None | false ↦ Some kind ]) ss) inner ∙ rest.names ∙ ap (λ (ns : List (List ℕ)). Some ns) (sym same);
      ends = ap (λ (b : Bool). b || have_end kind ss) inner ∙ rest.ends;
    }

-- the end of a block
end_says : (kind : BlockKind) (s : Statement) (ss : List Statement) (fs : List RplForm) → ends_block kind s.words ≡ true → Says None [] ss fs → Says (Some kind) [] (s ∷ ss) (End ∷ fs)
unfolding fault_at items_of block_names names_of
end_says kind s ss fs last rest =
    let none : fault_at (Some kind) [] s ss ≡ None = ap (λ (b : Bool). elim b [ true ↦ fault_of_end [] s | false ↦ fault_unless (ifs_behind (keyword kind s.words) []) s ]) last in
    record {
      whole = whole_on (Some kind) None [] [] s ss none (past_end kind [] s.words last) rest.whole;
      told = ap (λ (b : Bool). forms (elim b [ true ↦ end_item s ∷ items_of None ss | false ↦ statement_item kind s ∷ items_of (Some kind) ss ])) last
          ∙ ap (λ (xs : List RplForm). End ∷ xs) rest.told;
      names = ap (λ (b : Bool). block_names (elim b [ true ↦ None | false ↦ Some kind ]) ss) last ∙ rest.names;
      ends = ap (λ (b : Bool). b || have_end kind ss) last;
    }

-- the first line of a block
header_says : (h : Header) (ifs : List Bool) (s : Statement) (ss : List Statement) (fs : List RplForm) → opens s.words ≡ Some (kind_of h) → SpellHeader (kind_of h) (tokens s.words) h → second_word s.words ≡ Some (name_of h)
    → Says (Some (kind_of h)) [] ss fs → Says None ifs (s ∷ ss) (OfHeader h ∷ fs)
unfolding fault_at items_of header_item block_names names_of
header_says h ifs s ss fs opened spelled named rest =
    let kind = kind_of h in
    let none : fault_at None ifs s ss ≡ None = ap (λ (o : Option BlockKind). fault_of_line o s ss) opened ∙ rw (rest.ends, fault_of_line) refl in
    let form : (header_item kind s).form ≡ OfHeader h = ap (λ (o : Option Header). or_else (option_map OfHeader o) (other_header kind s.words)) (header_only kind (tokens s.words) h spelled) in
    record {
      whole = whole_on None (Some kind) ifs [] s ss none (past_first kind ifs s.words opened) rest.whole;
      told = ap (λ (o : Option BlockKind). forms (elim o [ None ↦ items_of None ss | Some k ↦ header_item k s ∷ items_of (Some k) ss ])) opened
          ∙ ap₂ (λ (x : RplForm) (xs : List RplForm). x ∷ xs) form rest.told;
      names = ap (λ (o : Option BlockKind). elim o [ None ↦ None | Some k ↦ named_first (second_word s.words) (block_names (Some k) ss) ]) opened
          ∙ ap₂ (λ (o : Option (List ℕ)) (ns : Option (List (List ℕ))). named_first o ns) named rest.names;
      ends = tt;
    }

-- ---- lines of forms

-- lines that may follow in a block or outside
abbrev Follow : Option BlockKind → List RplForm → List RplLine → Type 0
Follow None fs ls = MayFollow Outside ls
Follow (Some PolicyBlock) fs ls = MayFollow InPolicy ls
Follow (Some _) fs ls = MayFollow InSet ls × MayFollow (behind (goes_on fs)) ls

-- the lines of forms may be written, and their statements say the forms
record Writes (block : Option BlockKind) (ifs : List Bool) (level : ℕ) (fs : List RplForm) : Type 0 where
  may : Follow block fs (lines_of block level fs)
  says : (p : ℕ) → Says block ifs (rpl_placed p (lines_of block level fs)) fs

follow_header : (kind : BlockKind) (fs : List RplForm) (ls : List RplLine) → Follow (Some kind) fs ls → MayFollow (within kind) ls
follow_header PrefixBlock fs ls h = h.0
follow_header CommunityBlock fs ls h = h.0
follow_header PathBlock fs ls h = h.0
follow_header PolicyBlock fs ls h = h

header_line : (kind : BlockKind) (p : Phrase) → are_words rpl_signs (laid 1 p) ≡ true → is_line (HeaderLine kind (laid 1 p)) ≡ true
unfolding are_words
header_line PrefixBlock p h = first_word 0 (opening PrefixBlock) (laid 1 p) refl refl h
header_line CommunityBlock p h = first_word 0 (opening CommunityBlock) (laid 1 p) refl refl h
header_line PathBlock p h = first_word 0 (opening PathBlock) (laid 1 p) refl refl h
header_line PolicyBlock p h = first_word 0 (opening PolicyBlock) (laid 1 p) refl refl h

opens_kind : (kind : BlockKind) (p : ℕ) (xs : List Piece) → opens (placed p (bare (opening kind) ∷ xs)) ≡ Some kind
unfolding placed
opens_kind PrefixBlock p xs = refl
opens_kind CommunityBlock p xs = refl
opens_kind PathBlock p xs = refl
opens_kind PolicyBlock p xs = refl

header_writes : (h : Header) (ifs : List Bool) (level : ℕ) (fs : List RplForm) → IsHead h → Writes (Some (kind_of h)) [] 1 fs → Writes None ifs level (OfHeader h ∷ fs)
unfolding lines_of MayFollow rpl_placed placed
header_writes h ifs level fs k rest =
    let kind = kind_of h in
    let xs = bare (opening kind) ∷ laid 1 (header_phrase h) in
    record {
      may = (header_line kind (header_phrase h) k.words, follow_header kind fs (lines_of (Some kind) 1 fs) rest.may);
      says = λ p. header_says h ifs _ _ fs (opens_kind kind p (laid 1 (header_phrase h))) (subst (λ (ts : List Token). SpellHeader kind ts h) (sym (tokens_placed xs p)) k.spelled) (k.named p) (rest.says _);
    }

step_writes : (s : PolicyStatement) (ifs more : List Bool) (level : ℕ) (fs : List RplForm) → IsSaid s → ifs_behind (starts_as s) ifs ≡ Some more → Writes (Some PolicyBlock) more (level_behind level s) fs → Writes (Some PolicyBlock) ifs level (OfStatement s ∷ fs)
unfolding lines_of MayFollow rpl_placed placed names_of
step_writes s ifs more level fs k stands rest =
    let at = 2 * level_at level s in
    let xs = laid at (statement_phrase s) in
    record {
      may = (k.line at, rest.may);
      says = λ p. statement_says PolicyBlock ifs more _ _ (OfStatement s) fs (k.inside p at) (ap (λ (o : Option IfWord). ifs_behind o ifs) (k.begins p at) ∙ stands)
          (subst (λ (ts : List Token). SpellWithin PolicyBlock ts (OfStatement s)) (sym (tokens_placed xs p)) k.spelled) refl (rest.says _);
    }

-- a set
record IsSetBlock (kind : BlockKind) : Type 0 where
  ender : end_word kind ≡ codes "end-set"
  no_if : (ws : List Word) → keyword kind ws ≡ None

element_inside : (kind : BlockKind) (p : ℕ) (x : Piece) (xs : List Piece) → IsSetBlock kind → is_word (codes "end-set") (as_word x) ≡ false → ends_block kind (placed p (x ∷ xs)) ≡ false
unfolding placed
element_inside kind p x [] k h = ap (λ (key : List ℕ). is_word key (word_at (p + x.gap) x.text x.quoted)) k.ender ∙ h
element_inside kind p x (y ∷ ys) k h = refl

element_writes : (kind : BlockKind) (e : Element) (ifs : List Bool) (level : ℕ) (fs : List RplForm) → IsSetBlock kind → IsPut kind e → (MayFollow InSet (lines_of (Some kind) level fs) × MayFollow (behind (goes_on fs)) (lines_of (Some kind) level fs))
    → ((p : ℕ) → Says (Some kind) ifs (rpl_placed p (lines_of (Some kind) level fs)) fs)
    → (MayFollow InSet (lines_of (Some kind) level (OfElement e ∷ fs)) × MayFollow (behind true) (lines_of (Some kind) level (OfElement e ∷ fs)))
    × ((p : ℕ) → Says (Some kind) ifs (rpl_placed p (lines_of (Some kind) level (OfElement e ∷ fs))) (OfElement e ∷ fs))
unfolding lines_of MayFollow rpl_placed placed names_of ifs_behind
element_writes kind e ifs level fs k h may says =
    let xs = laid 2 (element_phrase e) in
    let line = put_line kind e (goes_on fs) h in (
      ((line, may.1), (line, may.1)),
      λ p. statement_says kind ifs ifs _ _ (OfElement e) fs (element_inside kind p (record { gap = 2; text = (element_phrase e).first; quoted = false }) ((element_phrase e).behind) k h.no_end) (ap (λ (o : Option IfWord). ifs_behind o ifs) (k.no_if (placed p xs)))
          (subst (λ (ts : List Token). SpellWithin kind ts (OfElement e)) (sym (tokens_placed xs p)) h.spelled) refl (says _),
    )

reads : (block : Option BlockKind) (ifs : List Bool) (level : ℕ) (fs : List RplForm) → MayStand block ifs fs → Writes block ifs level fs
unfolding MayStand lines_of MayFollow rpl_placed placed broken_from items_of block_names names_of
reads None ifs level [] h = record { may = tt; says = λ p. record { whole = refl; told = refl; names = refl; ends = tt } }
reads None ifs level (OfHeader x ∷ fs) h = header_writes x ifs level fs (head x h.0) (reads (Some (kind_of x)) [] 1 fs h.1)
reads (Some PolicyBlock) ifs level (OfStatement s ∷ fs) h = step_writes s ifs h.1.0 level fs (said s h.0) h.1.1 (reads (Some PolicyBlock) h.1.0 (level_behind level s) fs h.1.2)
reads (Some PrefixBlock) ifs level (OfElement e ∷ fs) h =
    let m = reads (Some PrefixBlock) ifs level fs h.1 in
    let w = element_writes PrefixBlock e ifs level fs (record { ender = refl; no_if = λ ws. refl }) (put PrefixBlock e h.0) m.may m.says in
    record { may = w.0; says = w.1 }
reads (Some CommunityBlock) ifs level (OfElement e ∷ fs) h =
    let m = reads (Some CommunityBlock) ifs level fs h.1 in
    let w = element_writes CommunityBlock e ifs level fs (record { ender = refl; no_if = λ ws. refl }) (put CommunityBlock e h.0) m.may m.says in
    record { may = w.0; says = w.1 }
reads (Some PathBlock) ifs level (OfElement e ∷ fs) h =
    let m = reads (Some PathBlock) ifs level fs h.1 in
    let w = element_writes PathBlock e ifs level fs (record { ender = refl; no_if = λ ws. refl }) (put PathBlock e h.0) m.may m.says in
    record { may = w.0; says = w.1 }
reads (Some PrefixBlock) [] level (End ∷ fs) h = let m = reads None [] 1 fs h in record { may = (m.may, m.may); says = λ p. end_says PrefixBlock _ _ fs refl (m.says _) }
reads (Some CommunityBlock) [] level (End ∷ fs) h = let m = reads None [] 1 fs h in record { may = (m.may, m.may); says = λ p. end_says CommunityBlock _ _ fs refl (m.says _) }
reads (Some PathBlock) [] level (End ∷ fs) h = let m = reads None [] 1 fs h in record { may = (m.may, m.may); says = λ p. end_says PathBlock _ _ fs refl (m.says _) }
reads (Some PolicyBlock) [] level (End ∷ fs) h = let m = reads None [] 1 fs h in record { may = m.may; says = λ p. end_says PolicyBlock _ _ fs refl (m.says _) }
reads (Some PolicyBlock) ifs level (OfElement e ∷ fs) h = absurd h.0
reads block ifs level fs h = absurd h

-- ---- the laws

-- the text of forms is cut into their statements
text_cut : (fs : List RplForm) → MayBeWritten fs → rpl_cut (text_of fs) ≡ rpl_placed 0 (lines_of None 1 fs)
unfolding text_of
text_cut fs h = written_cut (lines_of None 1 fs) (reads None [] 1 fs h).may

placed_tree : (fs : List RplForm) → MayBeWritten fs → tree_in (rpl_placed 0 (lines_of None 1 fs)) ≡ Some (items_of None (rpl_placed 0 (lines_of None 1 fs)))
unfolding tree_in
placed_tree fs h =
    let ss = rpl_placed 0 (lines_of None 1 fs) in
    ap (λ (o : Option TextFault). tree_or o (items_of None ss)) ((reads None [] 1 fs h).says 0).whole

pub forms_tree : (fs : List RplForm) → MayBeWritten fs → option_map forms (rpl_tree (text_of fs)) ≡ Some fs
forms_tree fs h =
    ap (λ (ss : List Statement). option_map forms (tree_in ss)) (text_cut fs h) ∙ ap (λ (o : Option (List RplItem)). option_map forms o) (placed_tree fs h)
    ∙ ap (λ (gs : List RplForm). Some gs) ((reads None [] 1 fs h).says 0).told

pub forms_read : (fs : List RplForm) → MayBeWritten fs → ReadsAs (text_of fs) fs
forms_read fs h =
    let ss = rpl_placed 0 (lines_of None 1 fs) in
    let tree = items_of None ss in
    (tree, subst (λ (xs : List Statement). Reads xs tree) (sym (text_cut fs h)) (found_reads ss tree (placed_tree fs h)), ((reads None [] 1 fs h).says 0).told)

pub forms_named : (fs : List RplForm) → MayBeWritten fs → block_names None (rpl_cut (text_of fs)) ≡ Some (names_of fs)
forms_named fs h = ap (λ (ss : List Statement). block_names None ss) (text_cut fs h) ∙ ((reads None [] 1 fs h).says 0).names

-- ---- what is written

pub reads_written : (fs : List RplForm) (r : Result (List ℕ) Memory) → MayBeWritten fs → IfOk r (λ t. t ≡ text_of fs) → IfOk r (λ t. ReadsAs t fs)
reads_written fs (Ok t) h e = subst (λ (x : List ℕ). ReadsAs x fs) (sym e) (forms_read fs h)
reads_written fs (Err m) h e = tt

pub tree_written : (fs : List RplForm) (r : Result (List ℕ) Memory) → MayBeWritten fs → IfOk r (λ t. t ≡ text_of fs) → IfOk r (λ t. option_map forms (rpl_tree t) ≡ Some fs)
tree_written fs (Ok t) h e = ap (λ (x : List ℕ). option_map forms (rpl_tree x)) e ∙ forms_tree fs h
tree_written fs (Err m) h e = tt

pub blocks_written : (fs : List RplForm) (r : Result (List ℕ) Memory) → MayBeWritten fs → IfOk r (λ t. t ≡ text_of fs) → IfOk r (λ t. block_names None (rpl_cut t) ≡ Some (names_of fs))
blocks_written fs (Ok t) h e = ap (λ (x : List ℕ). block_names None (rpl_cut x)) e ∙ forms_named fs h
blocks_written fs (Err m) h e = tt
