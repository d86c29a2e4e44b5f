-- The first fault of small trees, which the checker computes: one for each cause, and path lists.
use Rattle.std.proofs.Common.{◌≡◌, refl, List, [], ◌∷◌, ◌+◌, ℕ, Bool, true, false}
use Rattle.std.specs.Prelude.{Some, None, Option, codes, map}
use Rattle.text_words.specs.declared.statement.Span.{Span}
use Rattle.policy_text.specs.declared.fault.Cause.{Cause}
use Rattle.policy_text.specs.declared.fault.Cause.TheVariants.{UnknownForm, DefinedTwice, SequenceTwice, Undefined, SameKindTwice, BackwardContinue, DenyContinue, UnsettledTest, ExactExpanded}
use Rattle.path_patterns.specs.declared.pattern.IosBranch.TheVariants.{EmptyPath}
use Rattle.policy_text.specs.Causes.{first_cause, first_fault_from}
use Rattle.ios_reader.specs.Profile.{first_fault, first_fault_within}
use Rattle.ios_tree.specs.declared.item.IosForm.{IosForm}
use Rattle.ios_tree.specs.declared.item.IosForm.TheVariants.{CommunityEntry, PathEntry, MapHeader, Line, Other}
use Rattle.ios_tree.specs.declared.item.CommunityShape.{CommunityShape}
use Rattle.ios_tree.specs.declared.item.CommunityShape.TheVariants.{Standard, Expanded}
use Rattle.ios_tree.specs.declared.item.ItemSort.{ItemSort}
use Rattle.ios_tree.specs.declared.item.ItemSort.TheVariants.{PathList}
use Rattle.ios_tree.specs.declared.item.ItemSort.TheVariants.{Line as LineSort}
use Rattle.ios_tree.specs.declared.item.IosItem.{IosItem}
use Rattle.ios_tree.specs.declared.item.MapLine.{MapLine}
use Rattle.ios_tree.specs.declared.item.MapLine.TheVariants.{MatchCommunity, MatchPath, SetMetric, SetPrepend, Continue}

-- the statement at a place
abbrev span : ℕ → Span
span n = record { start = n; end = n + 1 }

abbrev item : ℕ → IosForm → IosItem
item n form = record { form = form; span = span n }

-- forms of a policy IN and of its lists C and 10
abbrev header : Bool → ℕ → IosForm
header permit n = MapHeader (record { map = codes "IN"; permit = permit; number = n })

abbrev communities : CommunityShape → IosForm
communities shape = CommunityEntry (record { list = codes "C"; permit = true; shape = shape })

abbrev standard : CommunityShape
standard = Standard (record { 0 = 4259905537 } ∷ [])

abbrev expanded : CommunityShape
expanded = Expanded (record { high_least = 65001; high_most = 65001; low_least = 0; low_most = 65535 })

abbrev has_communities : Bool → MapLine
has_communities exact = MatchCommunity (record { lists = codes "C" ∷ []; exact = exact })

abbrev empty_path : IosForm
empty_path = PathEntry (record { list = codes "10"; permit = true; pattern = EmptyPath ∷ [] })

abbrev has_path : MapLine
has_path = MatchPath (record { lists = codes "10" ∷ [] })

abbrev no_form : ItemSort → Option (List ℕ) → IosForm
no_form sort name = Other (record { sort = sort; name = name })

-- a tree with the span and the cause of the first fault of IN
abbrev Row : Type 0
Row = List IosItem × Option (Span × Cause)

abbrev faults_are : List Row → Type 0
faults_are rows = map (λ r. first_fault (codes "IN") r.0) rows ≡ map (λ r. r.1) rows

-- one for each cause
a_row_a_cause : faults_are (
    (item 0 (header true 10) ∷ item 1 (no_form LineSort None) ∷ [], Some (span 1, UnknownForm))
    ∷ (item 0 (communities standard) ∷ item 1 (communities expanded) ∷ item 2 (header true 10) ∷ item 3 (Line (has_communities false)) ∷ [], Some (span 1, DefinedTwice))
    ∷ (item 0 (header true 10) ∷ item 1 (header false 10) ∷ [], Some (span 1, SequenceTwice))
    ∷ (item 0 (header true 10) ∷ item 1 (Line has_path) ∷ [], Some (span 1, Undefined))
    ∷ (item 0 empty_path ∷ item 1 (header true 10) ∷ item 2 (Line has_path) ∷ item 3 (Line has_path) ∷ [], Some (span 3, SameKindTwice))
    ∷ (item 0 (header true 10) ∷ item 1 (Line (Continue (Some 10))) ∷ [], Some (span 1, BackwardContinue))
    ∷ (item 0 (header false 10) ∷ item 1 (Line (Continue None)) ∷ [], Some (span 1, DenyContinue))
    ∷ (item 0 empty_path ∷ item 1 (header true 10) ∷ item 2 (Line (SetPrepend (65001 ∷ []))) ∷ item 3 (Line (Continue None)) ∷ item 4 (header true 20) ∷ item 5 (Line has_path) ∷ [], Some (span 5, UnsettledTest))
    ∷ (item 0 (communities expanded) ∷ item 1 (header true 10) ∷ item 2 (Line (has_communities true)) ∷ [], Some (span 2, ExactExpanded)) ∷ [])
unfolding first_fault_within first_fault_from first_cause
a_row_a_cause = refl

-- an entry of no form is there, and its list is reached by the line that names it; a list that no line names isn't
-- reached; a path test is settled where another attribute is set
path_lists : faults_are (
    (item 0 (no_form PathList (Some (codes "10"))) ∷ item 1 (header true 10) ∷ item 2 (Line has_path) ∷ [], Some (span 0, UnknownForm))
    ∷ (item 0 (no_form PathList (Some (codes "10"))) ∷ item 1 (header true 10) ∷ [], None)
    ∷ (item 0 empty_path ∷ item 1 (header true 10) ∷ item 2 (Line (SetMetric 5)) ∷ item 3 (Line (Continue None)) ∷ item 4 (header true 20) ∷ item 5 (Line has_path) ∷ [], None) ∷ [])
unfolding first_fault_within first_fault_from first_cause
path_lists = refl
