-- Where the table grants each construct of a policy, each of its tests and changes can be said.
use Rattle.std.proofs.Common.{◌≡◌, sym, subst, ℕ, true, List, [], ◌∷◌, Option, Some, None}
use Rattle.std.specs.Prelude.{IfSome}
use Rattle.std.specs.List.{AllByRecursion}
use Rattle.path_patterns.specs.Items.{SomeOf}
use Rattle.core_nodes.specs.declared.atom.Atom.{Atom}
use Rattle.ios_tree.specs.declared.item.IosForm.{IosForm}
use Rattle.ios_tree.specs.declared.item.IosForm.TheVariants.{Line}
use Rattle.ios_tree.specs.declared.item.IosItem.{IosItem}
use Rattle.ios_tree.specs.declared.item.MapLine.{MapLine}
use Rattle.ios_reader.specs.Entries.{Entry, entries_of}
use Rattle.ios_reader.specs.Profile.{PolicyParts, first_fault}
use Rattle.ios_meaning.specs.Meaning.{name_of, first_name}
use Rattle.ios_lower.specs.Atoms.{atom_of}
use Rattle.ios_lower.specs.Changes.{IsChangeOf}
use Rattle.ios_lower.specs.OfPolicy.{PolicySays}
use Rattle.expressible_table.specs.Constructs.{map_constructs, named_constructs, constructs_of}
use Rattle.expressible_table.specs.Missing.{AllGranted}
use Rattle.expressible_table.specs.declared.kind.Dialect.{Dialect}
use Rattle.granted_policies.specs.Granted.{IsGranted}
use Rattle.granted_policies.proofs.Lists.{all_wider, some_such}
use Rattle.granted_policies.proofs.Written.{IsWrittenForm, IsWrittenLine, IsWritten, AreWritten, tree_is_written}
use Rattle.granted_policies.proofs.Lines.{AreSuch, FormIs, IsGrantedLine, entries_such, entries_granted}
use Rattle.granted_policies.proofs.Standard.{IsStandardLine, AreOfStandards, policy_standard}
use Rattle.granted_policies.proofs.Changes.{atom_says, change_says, IsKnown, line_tests, line_sets}

-- ---- what is known of each line

-- lines are granted, and entries
abbrev LinesGranted : Dialect → List IosItem → List MapLine → Type 0
LinesGranted target all ls = AllByRecursion (IsGrantedLine target all) ls

abbrev AreKnown : Dialect → List ℕ → List IosItem → List Entry → Type 0
AreKnown target name all es = AreSuch (IsKnown target name all) es

line_form : (form : IosForm) → IsWrittenForm form → FormIs IsWrittenLine form
line_form (Line l) h = h
line_form _ h = tt

lines_known : (target : Dialect) (name : List ℕ) (all : List IosItem) (ls : List MapLine) → LinesGranted target all ls → AllByRecursion IsWrittenLine ls → AllByRecursion (IsStandardLine name all) ls
    → AllByRecursion (IsKnown target name all) ls
lines_known target name all [] g w s = tt
lines_known target name all (l ∷ ls) g w s = (record { granted = g.0; written = w.0; standard = s.0 }, lines_known target name all ls g.1 w.1 s.1)

entries_known : (target : Dialect) (name : List ℕ) (all : List IosItem) (es : List Entry) → AreSuch (IsGrantedLine target all) es → AreSuch IsWrittenLine es → AreOfStandards name all es
    → AreKnown target name all es
entries_known target name all [] g w s = tt
entries_known target name all (e ∷ es) g w s = (lines_known target name all e.lines g.0 w.0 s.0, entries_known target name all es g.1 w.1 s.1)

-- ---- policies

-- each test and change of the route-map of this name can be said in the language
abbrev SaysIn : Dialect → List IosItem → List ℕ → Type 0
SaysIn target all name = PolicySays (atom_says target) (change_says target) all name

test_says : (target : Dialect) (o : Option Atom) (a : Atom) → IfSome o (λ b. atom_says target b ≡ true) → o ≡ Some a → atom_says target a ≡ true
test_says target o a h e = subst (λ (p : Option Atom). IfSome p (λ b. atom_says target b ≡ true)) e h

map_says : (target : Dialect) (name : List ℕ) (all : List IosItem) → AreWritten all → first_fault name all ≡ None → AllGranted target (map_constructs name all) → SaysIn target all name
map_says target name all w sound g =
    let known : AreKnown target name all (entries_of name all) =
    entries_known target name all (entries_of name all) (entries_granted target all name all g)
    (entries_such IsWrittenLine name all (all_wider IsWritten (λ i. FormIs IsWrittenLine i.form) (λ i. line_form i.form) all w))
    (policy_standard name all sound) in
    record {
      tests = λ a h.
          some_such (λ (e : Entry). AllByRecursion (IsKnown target name all) e.lines) (λ (e : Entry). SomeOf (λ l. atom_of all l ≡ Some a) e.lines)
          (λ e k. some_such (IsKnown target name all) (λ (l : MapLine). atom_of all l ≡ Some a) (λ l p q. test_says target (atom_of all l) a (line_tests target name all l w p) q) e.lines k)
          (entries_of name all) known h;
      sets = λ c h.
          some_such (λ (e : Entry). AllByRecursion (IsKnown target name all) e.lines) (λ (e : Entry). SomeOf (λ l. IsChangeOf all l c) e.lines)
          (λ e k. some_such (IsKnown target name all) (λ (l : MapLine). IsChangeOf all l c) (λ l p q. line_sets target name all l c w p q) e.lines k)
          (entries_of name all) known h;
    }

pub policy_says : (target : Dialect) (text : List ℕ) (policy : PolicyParts) → IsGranted target text policy → SaysIn target policy.items (name_of policy)
unfolding constructs_of
policy_says target text policy h =
    let one = h.checked in
    let granted : AllGranted target (map_constructs one.name policy.items) = subst (λ (ns : List (List ℕ)). AllGranted target (named_constructs ns policy.items)) one.one h.granted in
    let written : AreWritten policy.items = subst AreWritten (sym h.read) (tree_is_written text) in
    subst (λ (ns : List (List ℕ)). SaysIn target policy.items (first_name ns)) (sym one.one) (map_says target one.name policy.items written one.in_profile.sound granted)
