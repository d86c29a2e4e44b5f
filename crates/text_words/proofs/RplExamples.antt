-- Worked examples of the cut of RPL texts, computed by the checker.
use Rattle.std.proofs.Common.{◌≡◌, refl, ℕ, List, [], ◌∷◌, ◌++◌, map}
use Rattle.std.specs.Prelude.{codes}
use Rattle.text_words.specs.declared.statement.Ender.{Ender}
use Rattle.text_words.specs.declared.statement.Ender.TheVariants.{Line, Comma, Plain}
use Rattle.text_words.specs.declared.statement.Statement.{Statement}
use Rattle.text_words.specs.RplWords.{has_quote, sort_at, lexemes}
use Rattle.text_words.specs.RplCut.{taken, cut_from, rpl_cut}

-- lines, each with its LF
abbrev text : List (List ℕ) → List ℕ
text [] = []
text (l ∷ ls) = l ++ (10 ∷ text ls)

-- a statement without the places of its words
record Seen : Type 0 where
  words : List (List ℕ)
  ender : Ender
  depth : ℕ
  start : ℕ
  end : ℕ

abbrev seen : Statement → Seen
seen s = record { words = map (λ w. w.text) s.words; ender = s.ender; depth = s.depth; start = s.span.start; end = s.span.end }

abbrev line : List (List ℕ) → ℕ → ℕ → Seen
line words start end = record { words = words; ender = Line; depth = 0; start = start; end = end }

abbrev says : List (List ℕ) → ℕ → ℕ → Seen
says words start end = record { words = words; ender = Plain; depth = 1; start = start; end = end }

abbrev listed : List (List ℕ) → ℕ → ℕ → Seen
listed words start end = record { words = words; ender = Comma; depth = 1; start = start; end = end }

abbrev ends : List ℕ → ℕ → ℕ → Seen
ends word start end = record { words = word ∷ []; ender = Plain; depth = 0; start = start; end = end }

-- a comment between the elements of a set, and a CR before each LF
remark_between : map seen (rpl_cut (text (codes "prefix-set S\r" ∷ codes " 1.0.0.0/8 le 9,\r" ∷ codes " # 2.0.0.0/8," ∷ codes "\t3.0.0.0/8" ∷ codes "end-set" ∷ [])))
    ≡ line (codes "prefix-set" ∷ codes "S" ∷ []) 0 12
    ∷ listed (codes "1.0.0.0/8" ∷ codes "le" ∷ codes "9" ∷ []) 15 29
    ∷ says (codes "3.0.0.0/8" ∷ []) 47 56
    ∷ ends (codes "end-set") 57 64 ∷ []
unfolding rpl_cut cut_from taken lexemes sort_at has_quote
remark_between = refl

-- a quoted word ends no block
quoted_end : map seen (rpl_cut (text (codes "as-path-set A" ∷ codes " ios-regex 'end-set'" ∷ codes "end-set" ∷ [])))
    ≡ line (codes "as-path-set" ∷ codes "A" ∷ []) 0 13
    ∷ says (codes "ios-regex" ∷ codes "end-set" ∷ []) 15 34
    ∷ ends (codes "end-set") 35 42 ∷ []
unfolding rpl_cut cut_from taken lexemes sort_at has_quote
quoted_end = refl

-- a quote without another in its line is an ordinary byte; with one it begins a word
lone_quote : map seen (rpl_cut (text (codes "don't x" ∷ codes "re'a b'c" ∷ [])))
    ≡ line (codes "don't" ∷ codes "x" ∷ []) 0 7
    ∷ line (codes "re" ∷ codes "a b" ∷ codes "c" ∷ []) 8 16 ∷ []
unfolding rpl_cut cut_from taken lexemes sort_at has_quote
lone_quote = refl

-- the empty lists before the first comma and behind the last are elements
empty_elements : map seen (rpl_cut (text (codes "prefix-set S" ∷ codes ",1.0.0.0/8," ∷ codes "end-set" ∷ [])))
    ≡ line (codes "prefix-set" ∷ codes "S" ∷ []) 0 12
    ∷ listed ([]) 13 14
    ∷ listed (codes "1.0.0.0/8" ∷ []) 14 23
    ∷ says ([]) 23 24
    ∷ ends (codes "end-set") 25 32 ∷ []
unfolding rpl_cut cut_from taken lexemes sort_at has_quote
empty_elements = refl

-- a header is its line; a statement starts at its words and behind `then`, `else` and `endif`
starts_of_statements : map seen (rpl_cut (text (codes "route-policy pass" ∷ codes "if med eq 1 then drop else" ∷ codes "pass done" ∷ codes "endif end-policy x" ∷ [])))
    ≡ line (codes "route-policy" ∷ codes "pass" ∷ []) 0 17
    ∷ says (codes "if" ∷ codes "med" ∷ codes "eq" ∷ codes "1" ∷ codes "then" ∷ []) 18 34
    ∷ says (codes "drop" ∷ []) 35 39
    ∷ says (codes "else" ∷ []) 40 44
    ∷ says (codes "pass" ∷ []) 45 49
    ∷ says (codes "done" ∷ []) 50 54
    ∷ says (codes "endif" ∷ []) 55 60
    ∷ ends (codes "end-policy") 61 71
    ∷ line (codes "x" ∷ []) 72 73 ∷ []
unfolding rpl_cut cut_from taken lexemes sort_at has_quote
starts_of_statements = refl

-- parentheses are words; a condition without `then` runs to the end of the policy
no_then : map seen (rpl_cut (text (codes "route-policy N($a)" ∷ codes " if a set 'then' b" ∷ codes "end-policy" ∷ [])))
    ≡ line (codes "route-policy" ∷ codes "N" ∷ codes "(" ∷ codes "$a" ∷ codes ")" ∷ []) 0 18
    ∷ says (codes "if" ∷ codes "a" ∷ codes "set" ∷ codes "then" ∷ codes "b" ∷ []) 20 37
    ∷ ends (codes "end-policy") 38 48 ∷ []
unfolding rpl_cut cut_from taken lexemes sort_at has_quote
no_then = refl
