-- Statements in the order of a text, none within another and all within the text.
use Rattle.std.specs.Prelude.{◌≡◌, ℕ, ◌<◌, ◌≤◌, ◌⊎◌, List, [], ◌∷◌}
use Rattle.text_words.specs.declared.statement.Span.{Span}
use Rattle.text_words.specs.declared.statement.Statement.{Statement}

-- the statements rise from place p on, and the last one ends at `end` or before
abbrev pub StatementsRise : ℕ → ℕ → List Statement → Type 0
StatementsRise p end [] = p ≤ end
StatementsRise p end (s ∷ ss) = (p ≤ s.span.start) × (s.span.start < s.span.end) × StatementsRise s.span.end end ss

-- a statement stands behind this span, or it has no words and has this very span: an empty element of a set has the span of a comma
-- beside it, and a first and a last one the same where the set has one comma
abbrev pub StandsBehind : Span → Statement → Type 0
StandsBehind before s = (before.end ≤ s.span.start) ⊎ ((s.words ≡ []) × (s.span ≡ before))

-- the statements stand one behind another, the first behind this span, and the last one ends at `end` or before
abbrev pub StatementsStandBehind : Span → ℕ → List Statement → Type 0
StatementsStandBehind before end [] = before.end ≤ end
StatementsStandBehind before end (s ∷ ss) = StandsBehind before s × (s.span.start < s.span.end) × StatementsStandBehind s.span end ss

-- each statement starts at or behind the start of the one before it, none is empty, and all end at `end` or before
abbrev pub StartsRise : ℕ → ℕ → List Statement → Type 0
StartsRise p end [] = Unit {0}
StartsRise p end (s ∷ ss) = (p ≤ s.span.start) × (s.span.start < s.span.end) × (s.span.end ≤ end) × StartsRise s.span.start end ss
