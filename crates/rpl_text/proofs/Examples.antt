-- Worked examples that the checker computes.
use Rattle.std.proofs.Common.{◌≡◌, refl, List, [], ◌∷◌, ◌++◌, ℕ, true}
use Rattle.std.specs.Prelude.{codes}
use Rattle.std.specs.Fmt.{digits}
use Rattle.route_types.specs.Print.{prefix_text}
use Rattle.route_types.specs.declared.address.Family.TheVariants.{V4}
use Rattle.text_words.specs.Pieces.{pieces_text}
use Rattle.text_words.specs.RplText.{rpl_text}
use Rattle.path_patterns.specs.declared.pattern.IosBranch.TheVariants.{Pieces}
use Rattle.path_patterns.specs.declared.pattern.Mark.TheVariants.{Under, Anchor}
use Rattle.path_patterns.specs.declared.pattern.Piece.TheVariants.{Set}
use Rattle.path_patterns.specs.declared.pattern.DigitWord.TheVariants.{Digits}
use Rattle.path_patterns.specs.declared.pattern.DigitSet.{DigitSet}
use Rattle.aspath_text.specs.IosText.{first_in}
use Rattle.rpl_words.specs.declared.condition.RplTest.TheVariants.{Destination, Med}
use Rattle.rpl_words.specs.declared.condition.Term.{Term}
use Rattle.rpl_words.specs.declared.condition.Term.TheVariants.{Test, Group, Not, And, Or}
use Rattle.rpl_words.specs.declared.element.Comparison.TheVariants.{AtLeast}
use Rattle.rpl_words.specs.declared.element.Element.TheVariants.{Prefix}
use Rattle.rpl_words.specs.declared.element.PrefixElement.{PrefixElement}
use Rattle.rpl_words.specs.declared.number.RplNumber.TheVariants.{Fixed}
use Rattle.rpl_words.specs.declared.number.RplSet.TheVariants.{Named, Listed}
use Rattle.rpl_forms.specs.declared.item.Header.TheVariants.{PrefixSet, Policy}
use Rattle.rpl_forms.specs.declared.item.Action.TheVariants.{SetMed, SetCommunity, Prepend}
use Rattle.rpl_forms.specs.declared.item.PolicyStatement.TheVariants.{If, EndIf, Done, Drop, Act}
use Rattle.rpl_forms.specs.declared.item.RplForm.TheVariants.{Header as OfHeader, Element as OfElement, Statement as OfStatement, End}
use Rattle.rpl_text.specs.Layout.{lines_of, text_of}
use Rattle.rpl_text.specs.Patterns.{is_run, pattern_text}
use Rattle.rpl_text.specs.Words.{operands_joined, condition_phrase, phrase_text}

-- lines, each with its LF
abbrev text : List (List ℕ) → List ℕ
text [] = []
text (l ∷ ls) = l ++ (10 ∷ text ls)

-- 10.0.0.0 with a length, and the least and the most length
abbrev ten : ℕ → ℕ → ℕ → PrefixElement
ten n least most = record { prefix = record { address = record { family = V4; bits = 167772160 }; length = n }; least = Fixed least; most = Fixed most }

-- a set has an element a line, with a comma behind all but the last
set_lines : text_of (OfHeader (PrefixSet (codes "P-p1")) ∷ OfElement (Prefix (ten 8 8 24)) ∷ OfElement (Prefix (ten 8 8 8)) ∷ OfElement (Prefix (ten 8 24 32)) ∷ End ∷ [])
    ≡ text (codes "prefix-set P-p1" ∷ codes "  10.0.0.0/8 le 24," ∷ codes "  10.0.0.0/8," ∷ codes "  10.0.0.0/8 ge 24" ∷ codes "end-set" ∷ codes "!" ∷ [])
unfolding digits text_of lines_of rpl_text pieces_text prefix_text
set_lines = refl

-- a set without elements
no_lines : text_of (OfHeader (PrefixSet (codes "P-p1")) ∷ End ∷ []) ≡ text (codes "prefix-set P-p1" ∷ codes "end-set" ∷ codes "!" ∷ [])
unfolding text_of lines_of rpl_text pieces_text
no_lines = refl

-- `destination in S`
abbrev asks : List ℕ → Term
asks name = Test (Destination (Named name))

-- a statement stands behind two spaces a level
policy_lines : text_of (OfHeader (Policy (record { name = codes "P"; parameters = [] })) ∷ OfStatement (If (asks (codes "P-p1") ∷ Not ∷ asks (codes "P-p2") ∷ And ∷ []))
    ∷ OfStatement (Act (SetMed (Fixed 5))) ∷ OfStatement Done ∷ OfStatement EndIf ∷ OfStatement Drop ∷ End ∷ [])
    ≡ text (codes "route-policy P" ∷ codes "  if not destination in P-p1 and destination in P-p2 then" ∷ codes "    set med 5" ∷ codes "    done" ∷ codes "  endif" ∷ codes "  drop" ∷ codes "end-policy" ∷ codes "!" ∷ [])
unfolding digits text_of lines_of rpl_text pieces_text operands_joined
policy_lines = refl

-- parentheses stand right beside what they group
grouped : phrase_text (condition_phrase (Test (Med (record { comparison = AtLeast; med = Fixed 5 })) ∷ asks (codes "A") ∷ asks (codes "B") ∷ Or ∷ Group ∷ Not ∷ And ∷ []))
    ≡ codes "med ge 5 and not (destination in A or destination in B)"
unfolding digits pieces_text operands_joined
grouped = refl

-- elements in parentheses, with a comma and a space between each two
added : text_of (OfStatement (Act (SetCommunity (record {
  set = Listed (record { high_least = 65000; high_most = 65000; low_least = 1; low_most = 1 } ∷ record { high_least = 0; high_most = 65535; low_least = 7; low_most = 9 } ∷ []);
  additive = true;
}))) ∷ OfStatement (Act (Prepend (record { number = Fixed 65001; count = Fixed 1 }))) ∷ OfStatement (Act (Prepend (record { number = Fixed 65001; count = Fixed 3 }))) ∷ [])
    ≡ text (codes "  set community (65000:1, *:[7..9]) additive" ∷ codes "  prepend as-path 65001" ∷ codes "  prepend as-path 65001 3" ∷ [])
unfolding digits text_of lines_of rpl_text pieces_text
added = refl

-- the set of the digit 6, of 5 to 8, and of 1 and 3
abbrev six : DigitSet
six = record { 0 = 64 }

abbrev run : DigitSet
run = record { 0 = 480 }

abbrev apart : DigitSet
apart = record { 0 = 10 }

pattern : pattern_text (Pieces (record { left = Under; pieces = Set (record { words = Digits (six ∷ run ∷ apart ∷ []) ∷ []; tails = [] }) ∷ []; right = Anchor }) ∷ []) ≡ codes "_6[5-8][13]$"
unfolding is_run first_in
pattern = refl
