-- Where an RPL text is broken: a block that doesn't end, and `elseif`, `else`, `endif` or `end-policy` out
-- of its place.
use Rattle.std.specs.Prelude.{◌≡◌, ◌≢◌, ◌≤◌, Bool, true, false, ◌⊎◌, List, [], ◌∷◌, ◌++◌, length, Option, Some, None}
use Rattle.std.specs.List.{list_any}
use Rattle.policy_text.specs.Names.{first_some}
use Rattle.text_words.specs.declared.statement.Word.{Word}
use Rattle.text_words.specs.declared.statement.Span.{Span}
use Rattle.text_words.specs.declared.statement.Statement.{Statement}
use Rattle.text_words.specs.declared.fault.BrokenKind.{BrokenKind}
use Rattle.text_words.specs.declared.fault.BrokenKind.TheVariants.{Misplaced, Unended}
use Rattle.text_words.specs.declared.fault.TextFault.{TextFault}
use Rattle.text_words.specs.declared.fault.TextFault.TheVariants.{Broken, Memory}
use Rattle.text_words.specs.declared.rpl_blocks.BlockKind.{BlockKind}
use Rattle.rpl_forms.specs.declared.item.IfWord.TheVariants.{ElseIf, Else, EndIf}
use Rattle.rpl_tree.specs.declared.standing.Standing.{Standing}
use Rattle.rpl_tree.specs.Blocks.{opens, ends_block, keyword, ifs_behind, outside, past, standing}

-- ---- in words

-- no `if` is open, or the innermost has its `else`
abbrev pub HasNoBranch : List Bool → Type 0
HasNoBranch ifs = (ifs ≡ []) ⊎ ((outer : List Bool) × (ifs ≡ true ∷ outer))

-- out of its place in a block with these `if`s open: the end while an `if` is open; `endif` where none is;
-- `elseif` or `else` where none is, or behind an `else`
abbrev pub IsMisplaced : BlockKind → List Bool → List Word → Type 0
IsMisplaced kind ifs ws =
    ((ends_block kind ws ≡ true) × (ifs ≢ []))
    ⊎ ((keyword kind ws ≡ Some EndIf) × (ifs ≡ []))
    ⊎ ((keyword kind ws ≡ Some ElseIf) × HasNoBranch ifs)
    ⊎ ((keyword kind ws ≡ Some Else) × HasNoBranch ifs)

-- these statements have one that ends the block
abbrev pub have_end : BlockKind → List Statement → Bool
have_end kind ss = list_any (λ s. ends_block kind s.words) ss

-- the text is broken at a statement that stands there, before those behind it: in a block it is out of its
-- place, or it opens a block that doesn't end
abbrev pub IsBroken : Standing → Statement → List Statement → BrokenKind → Type 0
IsBroken p s behind Misplaced = (kind : BlockKind) × (p.block ≡ Some kind) × IsMisplaced kind p.ifs s.words
IsBroken p s behind Unended = (kind : BlockKind) × (p.block ≡ None) × (opens s.words ≡ Some kind) × (have_end kind behind ≡ false)
IsBroken p s behind _ = ⊥

-- statements that stand there are broken so at the one with `before` before it
pub record BreaksAt (p : Standing) (ss before : List Statement) (s : Statement) (kind : BrokenKind) : Type 0 where
  pub behind : List Statement
  pub parts : ss ≡ before ++ s ∷ behind
  pub broken : IsBroken (standing p before) s behind kind

-- statements that stand there are broken first here, with the span of the statement: nowhere before it
pub record BreaksFirst (p : Standing) (ss : List Statement) (place : Span) (kind : BrokenKind) : Type 0 where
  pub before : List Statement
  pub statement : Statement
  pub here : BreaksAt p ss before statement kind
  pub span : place ≡ statement.span
  pub first : (others : List Statement) (other : Statement) (sort : BrokenKind) → BreaksAt p ss others other sort → length before ≤ length others

-- the statements of a text are broken nowhere
abbrev pub IsWhole : List Statement → Type 0
IsWhole ss = (before : List Statement) (s : Statement) (kind : BrokenKind) → BreaksAt outside ss before s kind → ⊥

-- ---- as a function

-- the fault of a statement out of its place
abbrev pub misplaced : Statement → Option TextFault
misplaced s = Some (Broken s.span Misplaced)

-- the fault of the end of a block with these `if`s open
abbrev pub fault_of_end : List Bool → Statement → Option TextFault
fault_of_end [] s = None
fault_of_end (b ∷ ifs) s = misplaced s

-- the fault of a statement behind which these `if`s are open; none where it is out of its place
abbrev pub fault_unless : Option (List Bool) → Statement → Option TextFault
fault_unless None s = misplaced s
fault_unless (Some ifs) s = None

-- the fault of a statement of a block
abbrev pub fault_within : BlockKind → List Bool → Statement → Option TextFault
fault_within kind ifs s = elim (ends_block kind s.words) [
  | true ↦ fault_of_end ifs s
  | false ↦ fault_unless (ifs_behind (keyword kind s.words) ifs) s
]

-- the fault of a first line, which may open a block, before those behind it
abbrev pub fault_of_line : Option BlockKind → Statement → List Statement → Option TextFault
fault_of_line None s behind = None
fault_of_line (Some kind) s behind = elim (have_end kind behind) [ true ↦ None | false ↦ Some (Broken s.span Unended) ]

-- the fault of a statement, before those behind it
unfoldable pub fault_at : Option BlockKind → List Bool → Statement → List Statement → Option TextFault
fault_at None ifs s behind = fault_of_line (opens s.words) s behind
fault_at (Some kind) ifs s behind = fault_within kind ifs s

-- the first fault of statements that stand there
unfoldable pub broken_from : Standing → List Statement → Option TextFault
broken_from p [] = None
broken_from p (s ∷ ss) = first_some (fault_at p.block p.ifs s ss) (broken_from (past p.block p.ifs s.words) ss)

-- the first fault of the statements of a text
abbrev pub broken : List Statement → Option TextFault
broken ss = broken_from outside ss

-- the fault is this one; want of memory says nothing of the text
abbrev pub IsFault : Option TextFault → TextFault → Type 0
IsFault fault (Broken span kind) = fault ≡ Some (Broken span kind)
IsFault fault Memory = Unit {0}

-- statements that stand there are broken first as a fault says
abbrev pub IsFirst : Standing → List Statement → TextFault → Type 0
IsFirst p ss (Broken span kind) = BreaksFirst p ss span kind
IsFirst p ss Memory = ⊥

-- the statements of a text are broken first as a fault says; want of memory says nothing of them
abbrev pub BreakAsTold : List Statement → TextFault → Type 0
BreakAsTold ss (Broken span kind) = BreaksFirst outside ss span kind
BreakAsTold ss Memory = Unit {0}
