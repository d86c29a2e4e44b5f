-- Worked examples of the grammars that the checker computes, and what they spell by the laws.
use Rattle.std.proofs.Common.{◌≡◌, refl, sym, ◌∙◌, ℕ, List, [], ◌∷◌, Option, Some, None}
use Rattle.std.specs.Prelude.{codes}
use Rattle.route_types.specs.Words.{number_in, parts_at}
use Rattle.route_types.specs.RouteLines.{each_in}
use Rattle.aspath_text.specs.IosGrammar.{SpellsPattern}
use Rattle.aspath_text.specs.IosRead.{parts_by, cut_at, runs_after, set_at, sets_in, word_in, set_in, tail_in, piece_in, pieces_end, between, branch_in, ios_pattern_in}
use Rattle.aspath_text.specs.JunosGrammar.{SpellsJunos}
use Rattle.aspath_text.specs.JunosRead.{range_in, behind_blanks, member_in, members_of, count_in, item_in, items_of, items_in, junos_pattern_in}
use Rattle.path_patterns.specs.declared.items.TokenItem.{TokenItem}
use Rattle.path_patterns.specs.declared.items.TokenPattern.{TokenPattern}
use Rattle.path_patterns.specs.declared.pattern.IosBranch.{IosBranch}
use Rattle.path_patterns.specs.declared.pattern.IosBranch.TheVariants.{EmptyPath, Pieces}
use Rattle.path_patterns.specs.declared.pattern.Mark.TheVariants.{Anchor, Under, Nothing}
use Rattle.path_patterns.specs.declared.pattern.Piece.TheVariants.{Anything, Set}
use Rattle.path_patterns.specs.declared.pattern.DigitWord.{DigitWord}
use Rattle.path_patterns.specs.declared.pattern.DigitWord.TheVariants.{Any, Digits}
use Rattle.path_patterns.specs.declared.pattern.Repeat.TheVariants.{Maybe}
use Rattle.aspath_text.proofs.IosReadSpelled.{ios_pattern_found, ios_pattern_only}
use Rattle.aspath_text.proofs.JunosRead.{junos_pattern_found}

-- a word of one digit set, by its bits: bit d for digit d
abbrev word : ℕ → DigitWord
word bits = Digits (record { 0 = bits } ∷ [])

-- `^7_.*|^$`
abbrev two_branches : List IosBranch
two_branches = Pieces (record { left = Anchor; pieces = Set (record { words = word 128 ∷ []; tails = [] }) ∷ Anything ∷ []; right = Nothing }) ∷ EmptyPath ∷ []

two_branches_found : ios_pattern_in (codes "^7_.*|^$") ≡ Some two_branches
unfolding ios_pattern_in parts_by cut_at runs_after set_at sets_in word_in set_in tail_in piece_in pieces_end between branch_in each_in
two_branches_found = refl

two_branches_spelled : SpellsPattern (codes "^7_.*|^$") two_branches
two_branches_spelled = ios_pattern_found (codes "^7_.*|^$") two_branches two_branches_found

-- `_(1|[0-9]+)(_[35-7])?_`
group_and_tail : ios_pattern_in (codes "_(1|[0-9]+)(_[35-7])?_")
    ≡ Some (Pieces (record { left = Under; pieces = Set (record { words = word 2 ∷ Any ∷ []; tails = record { words = word 232 ∷ []; repeat = Maybe } ∷ [] }) ∷ []; right = Under }) ∷ [])
unfolding ios_pattern_in parts_by cut_at runs_after set_at sets_in word_in set_in tail_in piece_in pieces_end between branch_in parts_at each_in
group_and_tail = refl

-- a number that isn't anchored, and a class with a sign behind it
no_anchors : ios_pattern_in (codes "65001") ≡ None
unfolding ios_pattern_in parts_by cut_at runs_after set_at sets_in word_in set_in tail_in piece_in pieces_end between branch_in each_in
no_anchors = refl

spells_no_pattern : (bs : List IosBranch) → SpellsPattern (codes "65001") bs → ⊥
spells_no_pattern bs h =
    let e = sym no_anchors ∙ ios_pattern_only (codes "65001") bs h in
    absurd cc

class_repeated : ios_pattern_in (codes "^[3-5]+$") ≡ None
unfolding ios_pattern_in parts_by cut_at runs_after set_at sets_in word_in set_in tail_in piece_in pieces_end between branch_in parts_at each_in
class_repeated = refl

-- `1? (2-3 | .){2,}`
abbrev two_items : TokenPattern
two_items = record {
  branches = record {
    items =
        record { set = record { ranges = record { least = 1; most = 1 } ∷ [] }; least = 0; most = Some 1 }
        ∷ record { set = record { ranges = record { least = 2; most = 3 } ∷ record { least = 0; most = 4294967295 } ∷ [] }; least = 2; most = None }
        ∷ [];
  } ∷ [];
}

two_items_found : junos_pattern_in (codes "1? (2-3 | .){2,}") ≡ Some two_items
unfolding junos_pattern_in items_in items_of item_in count_in members_of member_in behind_blanks range_in number_in parts_at each_in
two_items_found = refl

two_items_spelled : SpellsJunos (codes "1? (2-3 | .){2,}") two_items
two_items_spelled = junos_pattern_found (codes "1? (2-3 | .){2,}") two_items two_items_found

-- a range that falls
falling : junos_pattern_in (codes "5-4") ≡ None
unfolding junos_pattern_in items_in items_of item_in count_in members_of member_in behind_blanks range_in number_in parts_at each_in
falling = refl

-- counts: `{m}`, `{m,n}`, and none above 255; tabs between items
abbrev seven_times : ℕ → Option ℕ → TokenItem
seven_times least most = record { set = record { ranges = record { least = 7; most = 7 } ∷ [] }; least = least; most = most }

exactly : junos_pattern_in (codes "7{2}") ≡ Some (record { branches = record { items = seven_times 2 (Some 2) ∷ [] } ∷ [] })
unfolding junos_pattern_in items_in items_of item_in count_in members_of member_in behind_blanks range_in number_in parts_at each_in
exactly = refl

from_to : junos_pattern_in (codes "7{2,3}") ≡ Some (record { branches = record { items = seven_times 2 (Some 3) ∷ [] } ∷ [] })
unfolding junos_pattern_in items_in items_of item_in count_in members_of member_in behind_blanks range_in number_in parts_at each_in
from_to = refl

too_many : junos_pattern_in (codes "7{256}") ≡ None
unfolding junos_pattern_in items_in items_of item_in count_in members_of member_in behind_blanks range_in number_in parts_at each_in
too_many = refl

by_a_tab : junos_pattern_in (55 ∷ 9 ∷ 55 ∷ []) ≡ Some (record { branches = record { items = seven_times 1 (Some 1) ∷ seven_times 1 (Some 1) ∷ [] } ∷ [] })
unfolding junos_pattern_in items_in items_of item_in count_in members_of member_in behind_blanks range_in number_in parts_at each_in
by_a_tab = refl
