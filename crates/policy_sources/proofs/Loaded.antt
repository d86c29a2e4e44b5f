-- What the reading and the check of a policy say of its source.
use Rattle.std.proofs.Common.{◌≡◌, refl, sym, ap, subst, ◌∙◌, ℕ, List, [], ◌∷◌, Some, None}
use Rattle.std.specs.Prelude.{option_map}
use Rattle.text_words.specs.JunosCut.{junos_fault, IsFault}
use Rattle.text_words.specs.declared.fault.TextFault.{TextFault}
use Rattle.text_words.specs.declared.fault.TextFault.TheVariants as unread
use Rattle.policy_text.specs.declared.fault.CheckFault.{CheckFault}
use Rattle.policy_text.specs.declared.fault.CheckFault.TheVariants as unchecked
use Rattle.ios_tree.specs.declared.item.IosItem.{IosItem}
use Rattle.ios_tree.specs.Tree.{ios_tree}
use Rattle.ios_reader.specs.Faults.{IsCheckFault}
use Rattle.ios_reader.specs.Profile.{PolicyParts, InProfile, all_forms, first_fault_within}
use Rattle.ios_meaning.specs.Meaning.{name_of}
use Rattle.junos_tree.specs.Tree.{junos_tree}
use Rattle.junos_tree.specs.declared.item.JunosItem.{JunosItem}
use Rattle.junos_reader.specs.Faults as junos
use Rattle.junos_reader.specs.Profile as chain
use Rattle.text_words.specs.RplCut.{rpl_cut}
use Rattle.rpl_forms.specs.declared.item.RplItem.{RplItem}
use Rattle.rpl_tree.specs.Broken as rpl_text
use Rattle.rpl_tree.specs.Tree.{rpl_tree}
use Rattle.rpl_reader.specs.Profile as rpl
use Rattle.rpl_meaning.specs.Meaning as rpl_means
use Rattle.policy_sources.specs.Source.{Taken, OfIos, OfJunos, OfRpl, Loaded, Loads, broken_at, ios_source, junos_source, rpl_source}
use Rattle.policy_sources.specs.Loading.{FailsToLoad, IsLoaded, fault_of_text, fault_of_check}
use Rattle.policy_sources.specs.declared.loads.LoadFault.{LoadFault}

-- ---- IOS

-- a checked policy of the tree of a text is loaded from the text
pub loaded : (taken : Taken) (text policy : List ℕ) (tree : List IosItem) (checked : PolicyParts) → tree ≡ ios_tree text → checked ≡ record { items = tree; names = policy ∷ [] }
    → InProfile policy tree → first_fault_within taken policy tree ≡ None → IsLoaded taken text policy checked
loaded taken text policy tree checked read is profile sound = record {
  is = is ∙ ap (λ (items : List IosItem). record { items = items; names = policy ∷ [] }) read;
  loads = (refl, subst (λ (items : List IosItem). InProfile policy items) read profile, subst (λ (items : List IosItem). first_fault_within taken policy items ≡ None) read sound);
}

-- a fault of the check is one of the load
check_fails : (taken : Taken) (text policy : List ℕ) (tree : List IosItem) (fault : CheckFault) → tree ≡ ios_tree text → IsCheckFault taken policy tree fault
    → FailsToLoad taken (ios_source policy text) (fault_of_check fault)
check_fails taken text policy tree (unchecked.NoPolicy place) read is = subst (λ (items : List IosItem). IsCheckFault taken policy items (unchecked.NoPolicy place)) read is
check_fails taken text policy tree (unchecked.Outside span cause) read is = subst (λ (items : List IosItem). IsCheckFault taken policy items (unchecked.Outside span cause)) read is
check_fails taken text policy tree unchecked.Memory read is = tt

pub fails : (taken : Taken) (text policy : List ℕ) (tree : List IosItem) (fault : CheckFault) (about : LoadFault) → tree ≡ ios_tree text → IsCheckFault taken policy tree fault
    → about ≡ fault_of_check fault → FailsToLoad taken (ios_source policy text) about
fails taken text policy tree fault about read is same = subst (FailsToLoad taken (ios_source policy text)) (sym same) (check_fails taken text policy tree fault read is)

-- what is loaded of an IOS text is its policy
pub map_loaded : (text policy : List ℕ) (checked : PolicyParts) → IsLoaded all_forms text policy checked → Loads all_forms (ios_source policy text) (Loaded (OfIos checked.items (name_of checked)))
map_loaded text policy checked loaded = subst (λ (c : PolicyParts). Loads all_forms (ios_source policy text) (Loaded (OfIos c.items (name_of c)))) (sym loaded.is) loaded.loads

-- ---- Junos

-- a checked chain of the tree of a text is loaded from the text
pub chain_loaded : (text : List ℕ) (names rows : List (List ℕ)) (tree : List JunosItem) (checked : chain.PolicyParts) → rows ≡ names → junos_tree text ≡ Some tree
    → checked ≡ record { items = tree; names = rows }
    → chain.InProfile rows tree → Loads all_forms (junos_source names text) (Loaded (OfJunos checked.items checked.names))
chain_loaded text names rows tree checked same read is profile = (
  tree,
  read,
  (ap (λ (c : chain.PolicyParts). OfJunos c.items c.names) is ∙ ap (OfJunos tree) same, subst (λ (ns : List (List ℕ)). chain.InProfile ns tree) same profile),
)

broken : (text : List ℕ) (names : List (List ℕ)) (fault : TextFault) → IsFault (junos_fault text) fault → FailsToLoad all_forms (junos_source names text) (fault_of_text fault)
broken text names (unread.Broken span kind) is = ap (option_map broken_at) is
broken text names unread.Memory is = tt

-- a fault of the text is one of the load
pub chain_broken : (text : List ℕ) (names : List (List ℕ)) (fault : TextFault) (about : LoadFault) → IsFault (junos_fault text) fault → about ≡ fault_of_text fault
    → FailsToLoad all_forms (junos_source names text) about
chain_broken text names fault about is same = subst (FailsToLoad all_forms (junos_source names text)) (sym same) (broken text names fault is)

chain_check : (text : List ℕ) (names : List (List ℕ)) (tree : List JunosItem) (fault : CheckFault) → junos_tree text ≡ Some tree → junos.IsCheckFault names tree fault
    → FailsToLoad all_forms (junos_source names text) (fault_of_check fault)
chain_check text names tree (unchecked.NoPolicy place) read is = (tree, read, is)
chain_check text names tree (unchecked.Outside span cause) read is = (tree, read, is)
chain_check text names tree unchecked.Memory read is = tt

-- a fault of the check is one of the load
pub chain_fails : (text : List ℕ) (names rows : List (List ℕ)) (tree : List JunosItem) (fault : CheckFault) (about : LoadFault) → rows ≡ names → junos_tree text ≡ Some tree
    → junos.IsCheckFault rows tree fault
    → about ≡ fault_of_check fault → FailsToLoad all_forms (junos_source names text) about
chain_fails text names rows tree fault about named read is same =
    subst (FailsToLoad all_forms (junos_source names text)) (sym same)
    (chain_check text names tree fault read (subst (λ (ns : List (List ℕ)). junos.IsCheckFault ns tree fault) named is))

-- ---- RPL

-- a checked policy of the tree of a text is loaded from the text
pub named_loaded : (text name : List ℕ) (items : List RplItem) (checked : rpl.PolicyParts) → rpl_tree text ≡ Some items → checked ≡ record { items = items; names = name ∷ [] }
    → rpl.InProfile name items → Loads all_forms (rpl_source name text) (Loaded (OfRpl checked.items (rpl_means.name_of checked)))
named_loaded text name items checked read is profile = (items, read, (ap (λ (c : rpl.PolicyParts). OfRpl c.items (rpl_means.name_of c)) is, profile))

named_text : (text name : List ℕ) (fault : TextFault) → rpl_text.IsFault (rpl_text.broken (rpl_cut text)) fault → FailsToLoad all_forms (rpl_source name text) (fault_of_text fault)
named_text text name (unread.Broken span kind) is = ap (option_map broken_at) is
named_text text name unread.Memory is = tt

-- a fault of the text is one of the load
pub named_broken : (text name : List ℕ) (fault : TextFault) (about : LoadFault) → rpl_text.IsFault (rpl_text.broken (rpl_cut text)) fault → about ≡ fault_of_text fault
    → FailsToLoad all_forms (rpl_source name text) about
named_broken text name fault about is same = subst (FailsToLoad all_forms (rpl_source name text)) (sym same) (named_text text name fault is)

named_check : (text name : List ℕ) (items : List RplItem) (fault : CheckFault) → rpl_tree text ≡ Some items → rpl.IsCheckFault name items fault
    → FailsToLoad all_forms (rpl_source name text) (fault_of_check fault)
named_check text name items (unchecked.NoPolicy place) read is = (items, read, is)
named_check text name items (unchecked.Outside span cause) read is = (items, read, is)
named_check text name items unchecked.Memory read is = tt

-- a fault of the check is one of the load
pub named_fails : (text name : List ℕ) (items : List RplItem) (fault : CheckFault) (about : LoadFault) → rpl_tree text ≡ Some items → rpl.IsCheckFault name items fault
    → about ≡ fault_of_check fault → FailsToLoad all_forms (rpl_source name text) about
named_fails text name items fault about read is same = subst (FailsToLoad all_forms (rpl_source name text)) (sym same) (named_check text name items fault read is)
