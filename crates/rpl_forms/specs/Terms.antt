-- The function that finds the terms of a condition: its words are marks, each a test or one of `(`, `)`,
-- `not`, `and` and `or`, and the marks are read from the front, what waits for an operand kept aside.
use Rattle.std.specs.Prelude.{ℕ, zero, suc, ◌+◌, ◌-◌, Bool, true, false, List, [], ◌∷◌, ◌++◌, Option, Some, None, codes, length, take, drop, option_map}
use Rattle.route_types.specs.Words.{◌>>=◌}
use Rattle.text_words.specs.LineCut.{end_of}
use Rattle.text_words.specs.declared.statement.Span.{Span}
use Rattle.text_words.specs.declared.statement.Word.{Word}
use Rattle.policy_text.specs.Phrases.{one_of}
use Rattle.rpl_words.specs.Tokens.{Token, token, tokens, plain_in}
use Rattle.rpl_words.specs.Conditions.{test_in, words_behind}
use Rattle.rpl_words.specs.declared.condition.RplTest.{RplTest}
use Rattle.rpl_words.specs.declared.condition.Term.{Term}
use Rattle.rpl_words.specs.declared.condition.Term.TheVariants.{Test, Group, Not, And, Or}
use Rattle.rpl_forms.specs.declared.marks.Mark.{Mark}
use Rattle.rpl_forms.specs.declared.marks.Mark.TheVariants.{Asks, Opens, Closes, Negates, Joins, Divides}
use Rattle.rpl_forms.specs.declared.marks.Level.{Level}
use Rattle.rpl_forms.specs.declared.marks.Standing.{Standing}
use Rattle.rpl_forms.specs.declared.marks.Standing.TheVariants.{Wants, Has}

-- the marks that are one word
abbrev pub signs : List (List ℕ × Mark)
signs = (codes "(", Opens) ∷ (codes ")", Closes) ∷ (codes "not", Negates) ∷ (codes "and", Joins) ∷ (codes "or", Divides) ∷ []

-- the mark that a word is
unfoldable pub sign_in : Token → Option Mark
sign_in t = plain_in (one_of signs) t

-- the word is a mark by itself
abbrev pub is_sign : Token → Bool
is_sign t = elim (sign_in t) [ None ↦ false | Some m ↦ true ]

-- the mark that begins with this word, and how many words it takes behind it
unfoldable pub mark_at : Token → List Token → Option (Mark × ℕ)
mark_at t ts = elim (sign_in t) [
  | Some m ↦ Some (m, 0)
  | None ↦ option_map (λ test. (Asks test, words_behind (t ∷ ts))) (test_in (t ∷ take (words_behind (t ∷ ts)) ts))
]

-- the mark that begins here, and the words behind it
unfoldable pub marked_at : List Token → Option (Mark × List Token)
marked_at [] = None
marked_at (t ∷ ts) = option_map (λ m. (m.0, drop m.1 ts)) (mark_at t ts)

-- the marks behind so many words, which belong to a mark before them
unfoldable pub marks_behind : ℕ → List Token → Option (List Mark)
marks_behind n [] = Some []
marks_behind (suc n) (t ∷ ts) = marks_behind n ts
marks_behind zero (t ∷ ts) = do
  m ← mark_at t ts
  ms ← marks_behind m.1 ts
  Some (m.0 ∷ ms)

-- nothing waits for an operand
abbrev pub nothing_waits : Level
nothing_waits = record { either = false; both = false; nots = 0 }

-- `not` so many times
unfoldable pub repeated_not : ℕ → List Term
repeated_not zero = []
repeated_not (suc n) = Not ∷ repeated_not n

-- the terms that an operand completes: the `not`s that wait for it, and then the `and`
unfoldable pub completed : Level → List Term
completed level = repeated_not level.nots ++ elim level.both [ true ↦ And ∷ [] | false ↦ [] ]

-- the term that the end of an operand of `or` completes: the `or` that waits for it
abbrev pub divided : Bool → List Term
divided either = elim either [ true ↦ Or ∷ [] | false ↦ [] ]

-- the terms that a mark completes, and what stands behind it
pub record Taken : Type 0 where
  pub terms : List Term
  pub standing : Standing
  pub around : List Level

-- a mark where an operand is wanted, or behind one, within these groups; None where it may not stand there
unfoldable pub taken : Standing → List Level → Mark → Option Taken
taken (Wants level) around (Asks t) = Some (record { terms = Test t ∷ completed level; standing = Has level.either; around = around })
taken (Wants level) around Opens = Some (record { terms = []; standing = Wants nothing_waits; around = level ∷ around })
taken (Wants level) around Negates = Some (record { terms = []; standing = Wants (record level { nots = level.nots + 1 }); around = around })
taken (Wants level) around _ = None
taken (Has either) around Joins = Some (record { terms = []; standing = Wants (record { either = either; both = true; nots = 0 }); around = around })
taken (Has either) around Divides = Some (record { terms = divided either; standing = Wants (record { either = true; both = false; nots = 0 }); around = around })
taken (Has either) (level ∷ around) Closes = Some (record { terms = divided either ++ Group ∷ completed level; standing = Has level.either; around = around })
taken (Has either) around _ = None

-- the terms of the marks
unfoldable pub terms_from : Standing → List Level → List Mark → Option (List Term)
terms_from (Has either) [] [] = Some (divided either)
terms_from standing around [] = None
terms_from standing around (m ∷ ms) = taken standing around m >>= λ t. option_map (λ ts. t.terms ++ ts) (terms_from t.standing t.around ms)

-- a reading under way: the terms so far, and those of the marks behind them
abbrev pub read_on : List Term → Standing → List Level → List Mark → Option (List Term)
read_on terms standing around ms = option_map (λ ts. terms ++ ts) (terms_from standing around ms)

-- a reading under way behind a mark
abbrev pub after_mark : List Term → Option Taken → Option (List Term × Standing × List Level)
after_mark terms o = option_map (λ t. (terms ++ t.terms, t.standing, t.around)) o

-- a reading under way: the terms so far, and those of the words behind them
abbrev pub read_words : List Term → Standing → List Level → List Token → Option (List Term)
read_words terms standing around ts = marks_behind 0 ts >>= read_on terms standing around

-- the same, where words are left that may stand there
abbrev pub read_left : List Term → Standing → List Level → Option (List Token) → Option (List Term)
read_left terms standing around o = o >>= read_words terms standing around

-- how many `not`s wait for the operand that is wanted
abbrev pub nots_of : Standing → ℕ
nots_of (Wants level) = level.nots
nots_of (Has either) = 0

-- the terms of a condition
unfoldable pub condition_in : List Token → Option (List Term)
condition_in ts = read_words [] (Wants nothing_waits) [] ts

-- where the tests stand behind so many words, which belong to a mark before them: each from its first word to the end of its last
unfoldable pub spans_behind : ℕ → List Word → List Span
spans_behind n [] = []
spans_behind (suc n) (w ∷ ws) = spans_behind n ws
spans_behind zero (w ∷ ws) = elim (is_sign (token w)) [
  | true ↦ spans_behind 0 ws
  | false ↦ record { start = w.span.start; end = end_of w.span.end (take (words_behind (tokens (w ∷ ws))) ws) } ∷ spans_behind (words_behind (tokens (w ∷ ws))) ws
]
