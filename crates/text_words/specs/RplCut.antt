-- The cut of an RPL text. Outside blocks each line is a statement, and a line whose first word is one of
-- four keywords opens a block; within a block line ends are blanks. In a set the word lists between
-- commas are statements, up to `end-set`. In a policy a statement starts at certain words, up to
-- `end-policy`. A quoted word is none of these words.
use Rattle.std.specs.Prelude.{ℕ, Bool, true, false, ◌&&◌, ◌||◌, not, List, [], ◌∷◌, ◌++◌, Option, Some, None, codes, bytes_eq}
use Rattle.std.specs.List.{list_any}
use Rattle.text_words.specs.LineCut.{end_of}
use Rattle.text_words.specs.declared.statement.Span.{Span}
use Rattle.text_words.specs.declared.statement.Word.{Word}
use Rattle.text_words.specs.declared.statement.Ender.{Ender}
use Rattle.text_words.specs.declared.statement.Ender.TheVariants.{Line, Comma, Plain}
use Rattle.text_words.specs.declared.statement.Statement.{Statement}
use Rattle.text_words.specs.declared.rpl_blocks.BlockKind.{BlockKind}
use Rattle.text_words.specs.declared.rpl_blocks.BlockKind.TheVariants.{PrefixSet, CommunitySet, PathSet, Policy}
use Rattle.text_words.specs.declared.rpl_blocks.Place.{Place}
use Rattle.text_words.specs.declared.rpl_blocks.Place.TheVariants.{Outside, InSet, InPolicy}
use Rattle.text_words.specs.declared.rpl_words.Standing.TheVariants.{Margin}
use Rattle.text_words.specs.RplWords.{Lexeme, EndsLine, IsWord, lexemes}

-- the word is this keyword: a quoted word is none
abbrev pub is_word : List ℕ → Word → Bool
is_word key w = not w.quoted && bytes_eq key w.text

-- the word is one of these keywords
abbrev pub is_one_of : List (List ℕ) → Word → Bool
is_one_of keys w = list_any (λ key. is_word key w) keys

-- the words at which a statement of a policy starts
abbrev pub starts : List (List ℕ)
starts = codes "if" ∷ codes "elseif" ∷ codes "else" ∷ codes "endif" ∷ codes "pass" ∷ codes "done" ∷ codes "drop" ∷ codes "set" ∷ codes "delete" ∷ codes "prepend" ∷ codes "apply" ∷ []

-- the word that opens a block
abbrev pub opening : BlockKind → List ℕ
opening PrefixSet = codes "prefix-set"
opening CommunitySet = codes "community-set"
opening PathSet = codes "as-path-set"
opening Policy = codes "route-policy"

-- the block that a line with this first word opens
abbrev pub opened_by : Word → Option BlockKind
opened_by w = elim (is_word (opening PrefixSet) w) [
  | true ↦ Some PrefixSet
  | false ↦ elim (is_word (opening CommunitySet) w) [
    | true ↦ Some CommunitySet
    | false ↦ elim (is_word (opening PathSet) w) [
      | true ↦ Some PathSet
      | false ↦ elim (is_word (opening Policy) w) [ true ↦ Some Policy | false ↦ None ]
    ]
  ]
]

-- where the words behind a line stand
abbrev pub inside : Option BlockKind → Place
inside None = Outside
inside (Some Policy) = InPolicy false
inside (Some _) = InSet None

-- the same, by the words of the line
abbrev pub behind_line : List Word → Place
behind_line [] = Outside
behind_line (w ∷ ws) = inside (opened_by w)

-- from the first word to the end of the last
abbrev pub words_span : List Word → Option Span
words_span [] = None
words_span (w ∷ ws) = Some (record { start = w.span.start; end = end_of w.span.end ws })

-- the statement of these words, if there are any
abbrev pub said : Ender → ℕ → List Word → List Statement
said ender depth [] = []
said ender depth (w ∷ ws) = record { words = w ∷ ws; ender = ender; depth = depth; span = record { start = w.span.start; end = end_of w.span.end ws } } ∷ []

-- an element of a set; one without words stands where a comma is beside it, with the span of that
abbrev pub element : Ender → Option Span → List Word → List Statement
element ender beside (w ∷ ws) = said ender 1 (w ∷ ws)
element ender None [] = []
element ender (Some comma) [] = record { words = []; ender = ender; depth = 1; span = comma } ∷ []

-- whether a condition goes on behind a word: behind each but `then` where one has begun, else behind `if` and `elseif`
abbrev pub in_condition : Bool → Word → Bool
in_condition condition w = (condition && not (is_word (codes "then") w)) || (not condition && is_one_of (codes "if" ∷ codes "elseif" ∷ []) w)

-- a statement of a policy starts with this word
abbrev pub starts_with : Bool → Word → Bool
starts_with condition w = not condition && is_one_of starts w

-- a statement of a policy ends with this word
abbrev pub ends_with : Bool → Word → Bool
ends_with condition w = is_word (codes "then") w || (not condition && is_one_of (codes "else" ∷ codes "endif" ∷ []) w)

-- statements that are ended, and where what follows stands, with the words of a statement begun
pub record Taken : Type 0 where
  pub ended : List Statement
  pub place : Place
  pub words : List Word

-- no statement ends
abbrev pub goes_on : Place → List Word → Taken
goes_on place words = record { ended = []; place = place; words = words }

-- the word ends its block
abbrev pub end_block : List Statement → Word → Taken
end_block before w = record { ended = before ++ said Plain 0 (w ∷ []); place = Outside; words = [] }

-- a word of a set
abbrev pub in_set : Option Span → List Word → Word → Taken
in_set comma words w = elim (is_word (codes "end-set") w) [
  | true ↦ end_block (element Plain comma words) w
  | false ↦ elim (is_word (codes ",") w) [
    | true ↦ record { ended = element Comma (Some w.span) words; place = InSet (Some w.span); words = [] }
    | false ↦ goes_on (InSet comma) (words ++ w ∷ [])
  ]
]

-- a word of a statement of a policy, behind these words of it
abbrev pub in_statement : Bool → List Statement → List Word → Word → Taken
in_statement condition before words w = elim (ends_with condition w) [
  | true ↦ record { ended = before ++ said Plain 1 (words ++ w ∷ []); place = InPolicy (in_condition condition w); words = [] }
  | false ↦ record { ended = before; place = InPolicy (in_condition condition w); words = words ++ w ∷ [] }
]

-- a word of a policy
abbrev pub in_policy : Bool → List Word → Word → Taken
in_policy condition words w = elim (is_word (codes "end-policy") w) [
  | true ↦ end_block (said Plain 1 words) w
  | false ↦ elim (starts_with condition w) [
    | true ↦ in_statement condition (said Plain 1 words) [] w
    | false ↦ in_statement condition [] words w
  ]
]

-- a word or a line end, behind the words of a statement begun
unfoldable pub taken : Place → List Word → Lexeme → Taken
taken Outside words EndsLine = record { ended = said Line 0 words; place = behind_line words; words = [] }
taken place words EndsLine = goes_on place words
taken Outside words (IsWord w) = goes_on Outside (words ++ w ∷ [])
taken (InSet comma) words (IsWord w) = in_set comma words w
taken (InPolicy condition) words (IsWord w) = in_policy condition words w

-- the statements from here on, behind the words of a statement begun
unfoldable pub cut_from : Place → List Word → List Lexeme → List Statement
cut_from place words [] = said Plain 1 words
cut_from place words (l ∷ ls) = (taken place words l).ended ++ cut_from (taken place words l).place (taken place words l).words ls

-- the statements of an RPL text
unfoldable pub rpl_cut : List ℕ → List Statement
rpl_cut text = cut_from Outside [] (lexemes Margin 0 text)
