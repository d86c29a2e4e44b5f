-- Which statements of an RPL text open and end blocks, and the `if`s that are open in a policy.
use Rattle.std.specs.Prelude.{ℕ, Bool, true, false, List, [], ◌∷◌, Option, Some, None, codes}
use Rattle.policy_text.specs.Names.{or_else}
use Rattle.text_words.specs.declared.statement.Word.{Word}
use Rattle.text_words.specs.declared.statement.Statement.{Statement}
use Rattle.text_words.specs.declared.rpl_blocks.BlockKind.{BlockKind}
use Rattle.text_words.specs.declared.rpl_blocks.BlockKind.TheVariants.{Policy}
use Rattle.text_words.specs.RplCut.{is_word, opened_by}
use Rattle.rpl_forms.specs.declared.item.IfWord.{IfWord}
use Rattle.rpl_forms.specs.declared.item.IfWord.TheVariants.{If, ElseIf, Else, EndIf}
use Rattle.rpl_tree.specs.declared.standing.Standing.{Standing}

-- the block that a statement outside blocks opens, by its first word
abbrev pub opens : List Word → Option BlockKind
opens [] = None
opens (w ∷ ws) = opened_by w

-- the word that ends a block
abbrev pub end_word : BlockKind → List ℕ
end_word Policy = codes "end-policy"
end_word _ = codes "end-set"

-- the statement ends the block: it is that one word
abbrev pub ends_block : BlockKind → List Word → Bool
ends_block kind [] = false
ends_block kind (w ∷ []) = is_word (end_word kind) w
ends_block kind (v ∷ w ∷ ws) = false

-- the word of `if`s that a word is
abbrev pub if_word : Word → Option IfWord
if_word w = elim (is_word (codes "if") w) [
  | true ↦ Some If
  | false ↦ elim (is_word (codes "elseif") w) [
    | true ↦ Some ElseIf
    | false ↦ elim (is_word (codes "else") w) [
      | true ↦ Some Else
      | false ↦ elim (is_word (codes "endif") w) [ true ↦ Some EndIf | false ↦ None ]
    ]
  ]
]

-- the word of `if`s that a statement begins with
abbrev pub begins_with : List Word → Option IfWord
begins_with [] = None
begins_with (w ∷ ws) = if_word w

-- the same in a block: a set has no `if`s
abbrev pub keyword : BlockKind → List Word → Option IfWord
keyword Policy ws = begins_with ws
keyword _ ws = None

-- Open `if`s are a list, the innermost first, of whether their `else` has come.

-- another branch of the innermost, the last one or not; None where none is open or its `else` has come
abbrev pub branched : Bool → List Bool → Option (List Bool)
branched last [] = None
branched last (true ∷ ifs) = None
branched last (false ∷ ifs) = Some (last ∷ ifs)

-- the innermost is closed; None where none is open
abbrev pub closed : List Bool → Option (List Bool)
closed [] = None
closed (b ∷ ifs) = Some ifs

-- the `if`s that are open behind a statement that begins so; None where it is out of its place
unfoldable pub ifs_behind : Option IfWord → List Bool → Option (List Bool)
ifs_behind None ifs = Some ifs
ifs_behind (Some If) ifs = Some (false ∷ ifs)
ifs_behind (Some ElseIf) ifs = branched false ifs
ifs_behind (Some Else) ifs = branched true ifs
ifs_behind (Some EndIf) ifs = closed ifs

-- no block is open
abbrev pub outside : Standing
outside = record { block = None; ifs = [] }

-- where what stands behind a statement of a block stands
abbrev pub past_in : BlockKind → List Bool → List Word → Standing
past_in kind ifs ws = elim (ends_block kind ws) [
  | true ↦ outside
  | false ↦ record { block = Some kind; ifs = or_else (ifs_behind (keyword kind ws) ifs) ifs }
]

-- where what stands behind a statement stands: in which block, and with which `if`s open
unfoldable pub past : Option BlockKind → List Bool → List Word → Standing
past None ifs ws = record { block = opens ws; ifs = [] }
past (Some kind) ifs ws = past_in kind ifs ws

-- where what stands behind statements stands
unfoldable pub standing : Standing → List Statement → Standing
standing p [] = p
standing p (s ∷ ss) = standing (past p.block p.ifs s.words) ss
