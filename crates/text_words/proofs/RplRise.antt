-- The statements of an RPL cut stand one behind another, and lie within the text.
use Rattle.std.proofs.Common.{◌≡◌, refl, sym, subst, ℕ, ◌+◌, ◌<◌, ◌≤◌, ◌⊎◌, inl, inr, Bool, true, false, List, [], ◌∷◌, ◌++◌, length, append_assoc, append-nil, Option, Some, None, add-zero, arith}
use Rattle.std.specs.Prelude.{◌==◌, codes}
use Rattle.text_words.specs.declared.statement.Span.{Span}
use Rattle.text_words.specs.declared.statement.Word.{Word}
use Rattle.text_words.specs.declared.statement.Ender.{Ender}
use Rattle.text_words.specs.declared.statement.Ender.TheVariants.{Line, Comma, Plain}
use Rattle.text_words.specs.declared.statement.Statement.{Statement}
use Rattle.text_words.specs.declared.rpl_blocks.BlockKind.{BlockKind}
use Rattle.text_words.specs.declared.rpl_blocks.BlockKind.TheVariants.{PrefixSet, CommunitySet, PathSet, Policy}
use Rattle.text_words.specs.declared.rpl_blocks.Place.{Place}
use Rattle.text_words.specs.declared.rpl_blocks.Place.TheVariants.{Outside, InSet, InPolicy}
use Rattle.text_words.specs.declared.rpl_words.Begun.{Begun}
use Rattle.text_words.specs.declared.rpl_words.ByteSort.{ByteSort}
use Rattle.text_words.specs.declared.rpl_words.ByteSort.TheVariants.{LineEnd, Blank, Single, Quote, Ordinary}
use Rattle.text_words.specs.declared.rpl_words.Standing.{Standing}
use Rattle.text_words.specs.declared.rpl_words.Standing.TheVariants.{Margin, Remark, Behind, Within, Quoted}
use Rattle.text_words.specs.LineCut.{end_of}
use Rattle.text_words.specs.Rising.{StandsBehind, StatementsStandBehind, StartsRise}
use Rattle.text_words.specs.RplWords.{Lexeme, EndsLine, IsWord, is_remark, sort_at, word_to, ended, past_blank, with_byte, past_remark, past, given, lexemes}
use Rattle.text_words.specs.RplCut.{is_word, inside, opened_by, behind_line, said, element, in_condition, starts_with, ends_with, Taken, goes_on, end_block, in_set, in_statement, in_policy, taken, cut_from, rpl_cut}
use Rattle.text_words.proofs.Rise.{WordsRise, words_end, end_within}

-- ---- words and line ends

-- the words rise from place p on, and end at `end` or before
abbrev LexemesRise : ℕ → ℕ → List Lexeme → Type 0
LexemesRise p end [] = p ≤ end
LexemesRise p end (EndsLine ∷ ls) = LexemesRise p end ls
LexemesRise p end (IsWord w ∷ ls) = (p ≤ w.span.start) × (w.span.start < w.span.end) × LexemesRise w.span.end end ls

lexemes_lower : (q p end : ℕ) (ls : List Lexeme) → q ≤ p → LexemesRise p end ls → LexemesRise q end ls
lexemes_lower q p end [] le h = omega arith
lexemes_lower q p end (EndsLine ∷ ls) le h = lexemes_lower q p end ls le h
lexemes_lower q p end (IsWord w ∷ ls) le h = (omega (arith, h.0), h.1, h.2)

-- what has begun starts from place p on, and before q
abbrev IsBegun : ℕ → ℕ → Standing → Type 0
IsBegun p q Margin = p ≤ q
IsBegun p q Remark = p ≤ q
IsBegun p q Behind = p ≤ q
IsBegun p q (Within b) = (p ≤ b.start) × (b.start < q)
IsBegun p q (Quoted b) = (p ≤ b.start) × (b.start < q)

-- what the words of the rest do
abbrev RestRises : ℕ → ℕ → List ℕ → Type 0
RestRises q end text = (p : ℕ) (s : Standing) → IsBegun p q s → LexemesRise p end (lexemes s q text)

ended_rises : (p q end : ℕ) (s : Standing) (ls : List Lexeme) → IsBegun p q s → LexemesRise q end ls → LexemesRise p end (ended s q ls)
ended_rises p q end Margin ls h rest = lexemes_lower p q end ls h rest
ended_rises p q end Remark ls h rest = lexemes_lower p q end ls h rest
ended_rises p q end Behind ls h rest = lexemes_lower p q end ls h rest
ended_rises p q end (Within b) ls h rest = (h.0, h.1, rest)
ended_rises p q end (Quoted b) ls h rest = lexemes_lower p q end ls (omega (arith, h.0, h.1)) rest

blank_begun : (q : ℕ) (s : Standing) → IsBegun q (q + 1) (past_blank s)
blank_begun q Margin = omega arith
blank_begun q Remark = omega arith
blank_begun q Behind = omega arith
blank_begun q (Within b) = omega arith
blank_begun q (Quoted b) = omega arith

byte_begun : (p q c : ℕ) (s : Standing) → IsBegun p q s → IsBegun p (q + 1) (with_byte s q c)
byte_begun p q c Margin h = (h, omega arith)
byte_begun p q c Remark h = (h, omega arith)
byte_begun p q c Behind h = (h, omega arith)
byte_begun p q c (Within b) h = (h.0, omega (arith, h.1))
byte_begun p q c (Quoted b) h = (omega (arith, h.0, h.1), omega arith)

given_rises : (p q c end : ℕ) (text : List ℕ) (s : Standing) (sort : ByteSort) → IsBegun p q s → RestRises (q + 1) end text → LexemesRise p end (given s q c sort (lexemes (past s q c sort) (q + 1) text))
given_rises p q c end text s LineEnd h rest = ended_rises p q end s (EndsLine ∷ lexemes Margin (q + 1) text) h (rest q Margin (omega arith))
given_rises p q c end text s Blank h rest = ended_rises p q end s (lexemes (past_blank s) (q + 1) text) h (rest q (past_blank s) (blank_begun q s))
given_rises p q c end text s Single h rest = ended_rises p q end s _ h (omega arith, omega arith, rest (q + 1) Behind (omega arith))
given_rises p q c end text s Quote h rest = ended_rises p q end s _ h (rest q _ (omega arith, omega arith))
given_rises p q c end text s Ordinary h rest = rest p (with_byte s q c) (byte_begun p q c s h)

remark_begun : (p q c : ℕ) (line_end : Bool) → (c == 10) ≡ line_end → p ≤ q → IsBegun p (q + 1) (past_remark c)
remark_begun p q c true e h = rw (e, past_remark) (omega (arith, h))
remark_begun p q c false e h = rw (e, past_remark) (omega (arith, h))

quoted_rises : (p q c end : ℕ) (text : List ℕ) (b : Begun) (closes : Bool) → (c == 39) ≡ closes → IsBegun p q (Quoted b) → RestRises (q + 1) end text → LexemesRise p end (lexemes (Quoted b) q (c ∷ text))
unfolding lexemes
quoted_rises p q c end text b true e h rest = rw (e, lexemes) (h.0, omega (arith, h.1), rest (q + 1) Behind (omega arith))
quoted_rises p q c end text b false e h rest = rw (e, lexemes) (rest p _ (h.0, omega (arith, h.1)))

margin_rises : (p q c end : ℕ) (text : List ℕ) (remark : Bool) → is_remark c ≡ remark → p ≤ q → RestRises (q + 1) end text → LexemesRise p end (lexemes Margin q (c ∷ text))
unfolding lexemes
margin_rises p q c end text true e h rest = rw (e, lexemes) (rest p Remark (omega (arith, h)))
margin_rises p q c end text false e h rest = rw (e, lexemes) (given_rises p q c end text Margin (sort_at c text) h rest)

last_rises : (p q end : ℕ) (s : Standing) → q ≡ end → IsBegun p q s → LexemesRise p end (ended s q (EndsLine ∷ []))
last_rises p q end s e h = ended_rises p q end s (EndsLine ∷ []) h (omega (arith, e))

words_rise : (q end : ℕ) (text : List ℕ) → q + length text ≡ end → RestRises q end text
unfolding lexemes
words_rise q end [] e p Margin h = last_rises p q end Margin (omega (arith, e)) h
words_rise q end [] e p Remark h = last_rises p q end Remark (omega (arith, e)) h
words_rise q end [] e p Behind h = last_rises p q end Behind (omega (arith, e)) h
words_rise q end [] e p (Within b) h = last_rises p q end (Within b) (omega (arith, e)) h
words_rise q end [] e p (Quoted b) h = last_rises p q end (Quoted b) (omega (arith, e)) h
words_rise q end (c ∷ cs) e p Margin h = margin_rises p q c end cs (is_remark c) refl h (words_rise (q + 1) end cs (omega (arith, e)))
words_rise q end (c ∷ cs) e p Remark h = words_rise (q + 1) end cs (omega (arith, e)) p (past_remark c) (remark_begun p q c (c == 10) refl h)
words_rise q end (c ∷ cs) e p Behind h = given_rises p q c end cs Behind (sort_at c cs) h (words_rise (q + 1) end cs (omega (arith, e)))
words_rise q end (c ∷ cs) e p (Within b) h = given_rises p q c end cs (Within b) (sort_at c cs) h (words_rise (q + 1) end cs (omega (arith, e)))
words_rise q end (c ∷ cs) e p (Quoted b) h = quoted_rises p q c end cs b (c == 39) refl h (words_rise (q + 1) end cs (omega (arith, e)))

-- ---- a statement begun

-- the words of a statement stand behind this place
abbrev place_before : Span → Place → ℕ
place_before before (InSet (Some comma)) = comma.end
place_before before _ = before.end

-- the comma of an empty element stands behind the last statement, or this is the empty element of the same comma
abbrev IsComma : Span → Option Span → Type 0
IsComma before None = Unit {0}
IsComma before (Some comma) = (comma.start < comma.end) × ((before.end ≤ comma.start) ⊎ (comma ≡ before))

abbrev HasComma : Span → Place → Type 0
HasComma before (InSet comma) = IsComma before comma
HasComma before _ = Unit {0}

-- how a cut stands behind the last statement, with the words so far up to q
record Stands (before : Span) (q : ℕ) (place : Place) (ws : List Word) : Type 0 where
  comma : HasComma before place
  words : WordsRise (place_before before place) q ws

-- what stands behind a statement that ends by q
abbrev GoesOn : ℕ → ℕ → List Statement → Type 0
GoesOn q end rest = (b : Span) → b.end ≤ q → StatementsStandBehind b end rest

words_lower : (q p end : ℕ) (ws : List Word) → q ≤ p → WordsRise p end ws → WordsRise q end ws
words_lower q p end [] le h = omega arith
words_lower q p end (w ∷ ws) le h = (omega (arith, h.0), h.1, h.2)

with_word : (p q : ℕ) (ws : List Word) (w : Word) → WordsRise p q ws → q ≤ w.span.start → w.span.start < w.span.end → WordsRise p w.span.end (ws ++ w ∷ [])
with_word p q [] w h le some = (omega (arith, h), some, omega arith)
with_word p q (v ∷ ws) w h le some = (h.0, h.1, with_word v.span.end q ws w h.2 le some)

said_then : (before : Span) (q end depth : ℕ) (ender : Ender) (ws : List Word) (rest : List Statement) → WordsRise before.end q ws → GoesOn q end rest → StatementsStandBehind before end (said ender depth ws ++ rest)
said_then before q end depth ender [] rest h more = more before h
said_then before q end depth ender (w ∷ ws) rest h more =
    let within = end_within w.span.end q ws h.2 in
    (inl h.0, omega (arith, h.1, within.0), more (record { start = w.span.start; end = end_of w.span.end ws }) within.1)

-- a comma of an empty element stands behind the last statement, or has its span
comma_behind : (before comma : Span) → IsComma before (Some comma) → before.end ≤ comma.end
comma_behind before comma (some, inl behind) = omega (arith, some, behind)
comma_behind before comma (some, inr same) = subst (λ (s : Span). s.end ≤ comma.end) same (omega arith)

empty_element : (before comma : Span) (ender : Ender) → IsComma before (Some comma) → StandsBehind before (record { words = []; ender = ender; depth = 1; span = comma })
empty_element before comma ender (some, inl behind) = inl behind
empty_element before comma ender (some, inr same) = inr (refl, same)

element_then : (before : Span) (q end : ℕ) (ender : Ender) (comma : Option Span) (ws : List Word) (rest : List Statement) → Stands before q (InSet comma) ws → GoesOn q end rest
    → StatementsStandBehind before end (element ender comma ws ++ rest)
element_then before q end ender None (w ∷ ws) rest h more = said_then before q end 1 ender (w ∷ ws) rest h.words more
element_then before q end ender (Some comma) (w ∷ ws) rest h more =
    said_then before q end 1 ender (w ∷ ws) rest (words_lower before.end comma.end q (w ∷ ws) (comma_behind before comma h.comma) h.words) more
element_then before q end ender None [] rest h more = more before h.words
element_then before q end ender (Some comma) [] rest h more = (empty_element before comma ender h.comma, h.comma.0, more comma h.words)

-- ---- the cut

-- what the statements of the rest do
abbrev CutRises : ℕ → ℕ → List Lexeme → Type 0
CutRises q end ls = (before : Span) (place : Place) (words : List Word) → Stands before q place words → StatementsStandBehind before end (cut_from place words ls)

-- what a step ends, and what stands behind it
abbrev StepRises : Span → ℕ → Taken → List Lexeme → Type 0
StepRises before end t ls = StatementsStandBehind before end (t.ended ++ cut_from t.place t.words ls)

inside_stands : (b : Span) (q : ℕ) (o : Option BlockKind) → b.end ≤ q → Stands b q (inside o) []
inside_stands b q None h = record { comma = tt; words = h }
inside_stands b q (Some PrefixSet) h = record { comma = tt; words = h }
inside_stands b q (Some CommunitySet) h = record { comma = tt; words = h }
inside_stands b q (Some PathSet) h = record { comma = tt; words = h }
inside_stands b q (Some Policy) h = record { comma = tt; words = h }

line_stands : (b : Span) (q : ℕ) (ws : List Word) → b.end ≤ q → Stands b q (behind_line ws) []
line_stands b q [] h = record { comma = tt; words = h }
line_stands b q (w ∷ ws) h = inside_stands b q (opened_by w) h

-- the word that ends a block is a statement
end_word : (before : Span) (q end : ℕ) (w : Word) (ls : List Lexeme) → before.end ≤ q → q ≤ w.span.start → w.span.start < w.span.end → CutRises w.span.end end ls
    → StatementsStandBehind before end (said Plain 0 (w ∷ []) ++ cut_from Outside [] ls)
end_word before q end w ls h le some rest = (inl (omega (arith, h, le)), some, rest (record { start = w.span.start; end = w.span.end }) Outside [] (record { comma = tt; words = omega arith }))

-- statements, and behind them the word that ends their block
block_ends : (before : Span) (end : ℕ) (ss : List Statement) (w : Word) (ls : List Lexeme) → StatementsStandBehind before end (ss ++ (said Plain 0 (w ∷ []) ++ cut_from Outside [] ls)) → StepRises before end (end_block ss w) ls
block_ends before end ss w ls h = subst (StatementsStandBehind before end) (sym (append_assoc ss (said Plain 0 (w ∷ [])) (cut_from Outside [] ls))) h

module _ (before : Span) (q end : ℕ) (w : Word) (ls : List Lexeme) (le : q ≤ w.span.start) (some : w.span.start < w.span.end) (rest : CutRises w.span.end end ls) where
  behind_comma : (comma : Option Span) (ws : List Word) → Stands before q (InSet comma) ws → StepRises before end (record { ended = element Comma (Some w.span) ws; place = InSet (Some w.span); words = [] }) ls
  behind_comma comma [] h =
      let behind : before.end ≤ w.span.start = omega (arith, le, words_low comma h) in
      (inl behind, some, rest w.span (InSet (Some w.span)) [] (record { comma = (some, inr refl); words = omega arith }))
    where
      words_low : (c : Option Span) → Stands before q (InSet c) [] → before.end ≤ q
      words_low None h = h.words
      words_low (Some c) h = omega (arith, comma_behind before c h.comma, h.words)
  behind_comma comma (v ∷ ws) h = element_then before q end Comma comma (v ∷ ws) (cut_from (InSet (Some w.span)) [] ls) h (λ b e. rest b (InSet (Some w.span)) [] (record { comma = (some, inl (omega (arith, e, le))); words = omega arith }))

  in_set_rises : (comma : Option Span) (ws : List Word) (ends is_comma : Bool) → is_word (codes "end-set") w ≡ ends → is_word (codes ",") w ≡ is_comma → Stands before q (InSet comma) ws
      → StepRises before end (in_set comma ws w) ls
  in_set_rises comma ws true is_comma e f h = rw (e, in_set)
      (block_ends before end (element Plain comma ws) w ls (element_then before q end Plain comma ws (said Plain 0 (w ∷ []) ++ cut_from Outside [] ls) h (λ b g. end_word b q end w ls g le some rest)))
  in_set_rises comma ws false true e f h = rw (e, in_set) (rw (f, in_set) (behind_comma comma ws h))
  in_set_rises comma ws false false e f h = rw (e, in_set) (rw (f, in_set) (rest before (InSet comma) (ws ++ w ∷ []) (record { comma = h.comma; words = with_word (place_before before (InSet comma)) q ws w h.words le some })))

  -- a word of a statement, which it ends or not, behind other statements
  abbrev step_by : Bool → Bool → List Statement → List Word → Taken
  step_by ends condition ss ws = elim ends [
    | true ↦ record { ended = ss ++ said Plain 1 (ws ++ w ∷ []); place = InPolicy (in_condition condition w); words = [] }
    | false ↦ record { ended = ss; place = InPolicy (in_condition condition w); words = ws ++ w ∷ [] }
  ]

  step_rises : (b : Span) (condition : Bool) (ws : List Word) (ends : Bool) → WordsRise b.end q ws → StepRises b end (step_by ends condition [] ws) ls
  step_rises b condition ws true h =
      said_then b w.span.end end 1 Plain (ws ++ w ∷ []) (cut_from (InPolicy (in_condition condition w)) [] ls) (with_word b.end q ws w h le some) (λ c g. rest c (InPolicy (in_condition condition w)) [] (record { comma = tt; words = g }))
  step_rises b condition ws false h = rest b (InPolicy (in_condition condition w)) (ws ++ w ∷ []) (record { comma = tt; words = with_word b.end q ws w h le some })

  -- the step with what stands behind it
  abbrev with_behind : Taken → List Statement
  with_behind t = t.ended ++ cut_from t.place t.words ls

  step_behind : (condition : Bool) (ss : List Statement) (ends : Bool) → StatementsStandBehind before end (ss ++ with_behind (step_by ends condition [] [])) → StepRises before end (step_by ends condition ss []) ls
  step_behind condition ss true h = subst (StatementsStandBehind before end) (sym (append_assoc ss (said Plain 1 (w ∷ [])) (cut_from (InPolicy (in_condition condition w)) [] ls))) h
  step_behind condition ss false h = h

  in_policy_rises : (condition : Bool) (ws : List Word) (ends starts : Bool) → is_word (codes "end-policy") w ≡ ends → starts_with condition w ≡ starts → WordsRise before.end q ws → StepRises before end (in_policy condition ws w) ls
  in_policy_rises condition ws true starts e f h = rw (e, in_policy)
      (block_ends before end (said Plain 1 ws) w ls (said_then before q end 1 Plain ws (said Plain 0 (w ∷ []) ++ cut_from Outside [] ls) h (λ b g. end_word b q end w ls g le some rest)))
  in_policy_rises condition ws false true e f h = rw (e, in_policy) (rw (f, in_policy)
      (step_behind condition (said Plain 1 ws) (ends_with condition w) (said_then before q end 1 Plain ws (with_behind (step_by (ends_with condition w) condition [] [])) h (λ b g. step_rises b condition [] (ends_with condition w) g))))
  in_policy_rises condition ws false false e f h = rw (e, in_policy) (rw (f, in_policy) (step_rises before condition ws (ends_with condition w) h))

  word_rises : (place : Place) (ws : List Word) → Stands before q place ws → StepRises before end (taken place ws (IsWord w)) ls
  unfolding taken
  word_rises Outside ws h = rest before Outside (ws ++ w ∷ []) (record { comma = tt; words = with_word before.end q ws w h.words le some })
  word_rises (InSet comma) ws h = in_set_rises comma ws (is_word (codes "end-set") w) (is_word (codes ",") w) refl refl h
  word_rises (InPolicy condition) ws h = in_policy_rises condition ws (is_word (codes "end-policy") w) (starts_with condition w) refl refl h.words

-- the words of a statement begun, wherever it stands, are behind the last statement
words_behind : (before : Span) (q : ℕ) (place : Place) (ws : List Word) → Stands before q place ws → WordsRise before.end q ws
words_behind before q Outside ws h = h.words
words_behind before q (InSet None) ws h = h.words
words_behind before q (InSet (Some comma)) ws h = words_lower before.end comma.end q ws (comma_behind before comma h.comma) h.words
words_behind before q (InPolicy condition) ws h = h.words

line_rises : (before : Span) (q end : ℕ) (place : Place) (ws : List Word) (ls : List Lexeme) → Stands before q place ws → CutRises q end ls → StepRises before end (taken place ws EndsLine) ls
unfolding taken
line_rises before q end Outside ws ls h rest = said_then before q end 0 Line ws (cut_from (behind_line ws) [] ls) h.words (λ b g. rest b (behind_line ws) [] (line_stands b q ws g))
line_rises before q end (InSet comma) ws ls h rest = rest before (InSet comma) ws h
line_rises before q end (InPolicy condition) ws ls h rest = rest before (InPolicy condition) ws h

cut_rises : (q end : ℕ) (ls : List Lexeme) → LexemesRise q end ls → CutRises q end ls
unfolding cut_from
cut_rises q end [] rise before place ws h =
    subst (StatementsStandBehind before end) (append-nil (said Plain 1 ws)) (said_then before q end 1 Plain ws [] (words_behind before q place ws h) (λ b g. omega (arith, g, rise)))
cut_rises q end (EndsLine ∷ ls) rise before place ws h = line_rises before q end place ws ls h (cut_rises q end ls rise)
cut_rises q end (IsWord w ∷ ls) rise before place ws h = word_rises before q end w ls rise.0 rise.1 (cut_rises w.span.end end ls rise.2) place ws h

-- the statements of an RPL text stand one behind another, and lie within it
pub rpl_stand_behind : (text : List ℕ) → StatementsStandBehind (record { start = 0; end = 0 }) (length text) (rpl_cut text)
unfolding rpl_cut
rpl_stand_behind text =
    cut_rises 0 (length text) (lexemes Margin 0 text) (words_rise 0 (length text) text (omega arith) 0 Margin (omega arith)) (record { start = 0; end = 0 }) Outside [] (record { comma = tt; words = omega arith })

-- ---- the starts

-- the first statement behind a span starts there, or behind its end
start_behind : (before : Span) (s : Statement) → before.start ≤ before.end → StandsBehind before s → before.start ≤ s.span.start
start_behind before s le (inl h) = omega (arith, le, h)
start_behind before s le (inr (none, same)) = subst (λ (b : Span). b.start ≤ s.span.start) same (omega arith)

ends_within : (end : ℕ) (before : Span) (ss : List Statement) → StatementsStandBehind before end ss → before.end ≤ end
ends_within end before [] h = h
ends_within end before (s ∷ ss) (inl behind, some, more) = omega (arith, behind, some, ends_within end s.span ss more)
ends_within end before (s ∷ ss) (inr (none, same), some, more) = subst (λ (b : Span). b.end ≤ end) same (ends_within end s.span ss more)

starts_rise : (end : ℕ) (before : Span) (ss : List Statement) → before.start ≤ before.end → StatementsStandBehind before end ss → StartsRise before.start end ss
starts_rise end before [] le h = tt
starts_rise end before (s ∷ ss) le h = (start_behind before s le h.0, h.1, ends_within end s.span ss h.2, starts_rise end s.span ss (omega (arith, h.1)) h.2)

-- the statements of an RPL text start in its order
pub rpl_starts_rise : (text : List ℕ) → StartsRise 0 (length text) (rpl_cut text)
rpl_starts_rise text = starts_rise (length text) (record { start = 0; end = 0 }) (rpl_cut text) (omega arith) (rpl_stand_behind text)
