-- In each language something comes of a source, and all that comes of it is alike.
use Rattle.std.proofs.Common.{◌≡◌, inl, inr, refl, sym, ap, subst, ◌∙◌, ℕ, ◌+◌, Bool, true, false, ◌&&◌, List, [], ◌∷◌, Option, Some, None}
use Rattle.std.specs.List.{list_all}
use Rattle.std.proofs.lemmas.Option.{same_Some}
use Rattle.text_words.specs.declared.fault.BrokenKind.{BrokenKind}
use Rattle.text_words.specs.declared.fault.TextFault.{TextFault}
use Rattle.text_words.specs.declared.statement.Span.{Span}
use Rattle.text_words.specs.JunosCut.{junos_fault, HasOne}
use Rattle.text_words.specs.RplCut.{rpl_cut}
use Rattle.policy_text.specs.declared.fault.Cause.{Cause}
use Rattle.ios_tree.specs.Tree.{ios_tree}
use Rattle.ios_tree.specs.declared.item.IosItem.{IosItem}
use Rattle.ios_reader.specs.Profile.{is_defined, first_fault_within}
use Rattle.ios_reader.proofs.LeastFault.{is_in_profile}
use Rattle.junos_tree.specs.Tree.{junos_tree}
use Rattle.junos_tree.specs.declared.item.JunosItem.{JunosItem}
use Rattle.junos_tree.proofs.Reading.{one_of_both}
use Rattle.junos_reader.specs.Faults.{undefined_from}
use Rattle.junos_reader.specs.Profile as junos
use Rattle.junos_reader.proofs.LeastFault.{all_defined}
use Rattle.rpl_forms.specs.declared.item.RplItem.{RplItem}
use Rattle.rpl_tree.specs.Broken.{broken}
use Rattle.rpl_tree.specs.Tree as rpl_tree
use Rattle.rpl_reader.specs.Profile as rpl
use Rattle.rpl_reader.proofs.OneFirst.{one_is, sound_is}
use Rattle.policy_request.specs.Languages.{names_in}
use Rattle.policy_request.specs.declared.language.Language.{Language}
use Rattle.policy_request.specs.declared.language.Language.TheVariants.{Ios, Junos, Rpl}
use Rattle.policy_sources.specs.Source.{Taken, OfIos, OfJunos, OfRpl, Load, Loaded, Broken, NoPolicy, Outside, LoadsIos, LoadsTree, LoadsChain, LoadsNamed, LoadsIn, AreAlike, broken_at}
use Rattle.policy_sources.proofs.FirstOrNone.{first_or_none}

-- ---- IOS

-- first faults that are the same are alike
same_fault : (found : Option (Span × Cause)) (span other : Span) (cause why : Cause) → found ≡ Some (span, cause) → found ≡ Some (other, why) → AreAlike (Outside span cause) (Outside other why)
same_fault found span other cause why is also =
    let both : (span, cause) ≡ (other, why) = same_Some (span, cause) (other, why) (sym is ∙ also) in
    (ap (λ (fault : Span × Cause). fault.0.start) both, ap (λ (fault : Span × Cause). fault.1) both)

-- what an IOS text loads as is alike
ios_alike : (taken : Taken) (names : List (List ℕ)) (items : List IosItem) (a b : Load) → LoadsIos taken names items a → LoadsIos taken names items b → AreAlike a b
ios_alike taken [] items a b x y = absurd x
ios_alike taken (name ∷ other ∷ names) items a b x y = absurd x
ios_alike taken (name ∷ []) items (Broken span kind) b x y = absurd x
ios_alike taken (name ∷ []) items a (Broken span kind) x y = absurd y
ios_alike taken (name ∷ []) items (Loaded p) (Loaded q) x y = x.0 ∙ sym y.0
ios_alike taken (name ∷ []) items (Loaded p) (NoPolicy n) x y = let no : true ≡ false = sym x.1.defined ∙ y.1 in absurd cc
ios_alike taken (name ∷ []) items (Loaded p) (Outside span cause) x y = let no : ◌≡◌ {A = Option (Span × Cause)} None (Some (span, cause)) = sym x.2 ∙ y.1 in absurd cc
ios_alike taken (name ∷ []) items (NoPolicy n) (Loaded q) x y = let no : true ≡ false = sym y.1.defined ∙ x.1 in absurd cc
ios_alike taken (name ∷ []) items (NoPolicy n) (NoPolicy m) x y = x.0 ∙ sym y.0
ios_alike taken (name ∷ []) items (NoPolicy n) (Outside span cause) x y = let no : true ≡ false = sym y.0 ∙ x.1 in absurd cc
ios_alike taken (name ∷ []) items (Outside span cause) (Loaded q) x y = let no : ◌≡◌ {A = Option (Span × Cause)} None (Some (span, cause)) = sym y.2 ∙ x.1 in absurd cc
ios_alike taken (name ∷ []) items (Outside span cause) (NoPolicy n) x y = let no : true ≡ false = sym x.0 ∙ y.1 in absurd cc
ios_alike taken (name ∷ []) items (Outside span cause) (Outside other why) x y = same_fault (first_fault_within taken name items) span other cause why x.1 y.1

-- something comes of an IOS text
ios_some : (taken : Taken) (name text : List ℕ) → (load : Load) × LoadsIos taken (name ∷ []) (ios_tree text) load
ios_some taken name text = go (is_defined name (ios_tree text)) refl (first_fault_within taken name (ios_tree text)) refl
  where
    go : (t : Bool) → is_defined name (ios_tree text) ≡ t → (o : Option (Span × Cause)) → first_fault_within taken name (ios_tree text) ≡ o → (load : Load) × LoadsIos taken (name ∷ []) (ios_tree text) load
    go false absent o sound = (NoPolicy 0, (refl, absent))
    go true defined None sound = (Loaded (OfIos (ios_tree text) name), (refl, is_in_profile taken name (ios_tree text) defined sound, sound))
    go true defined (Some fault) sound = (Outside fault.0 fault.1, (defined, sound))

-- ---- texts that may be broken

-- of a text that is not broken comes what comes of its tree
of_tree : {Item : Type 0} (items : List Item) (OfTree : List Item → Load → Type 0) (a : Load) → LoadsTree None (Some items) OfTree a → OfTree items a
of_tree items OfTree (Broken span kind) x = absurd cc
of_tree items OfTree (Loaded policy) x = subst (λ (is : List _). OfTree is (Loaded policy)) (sym (same_Some items x.0 x.1)) x.2
of_tree items OfTree (NoPolicy place) x = subst (λ (is : List _). OfTree is (NoPolicy place)) (sym (same_Some items x.0 x.1)) x.2
of_tree items OfTree (Outside span cause) x = subst (λ (is : List _). OfTree is (Outside span cause)) (sym (same_Some items x.0 x.1)) x.2

-- what comes of a broken text is alike
broken_alike : {Item : Type 0} (fault : TextFault) (OfTree : List Item → Load → Type 0) (a b : Load) → LoadsTree (Some fault) None OfTree a → LoadsTree (Some fault) None OfTree b → AreAlike a b
broken_alike fault OfTree (Broken s k) (Broken t l) x y =
    let both : (s, k) ≡ (t, l) = same_Some (s, k) (t, l) (sym x ∙ y) in
    (ap (λ (f : Span × BrokenKind). f.0.start) both, ap (λ (f : Span × BrokenKind). f.1) both)
broken_alike fault OfTree (Loaded p) b x y = let no = x.1 in absurd cc
broken_alike fault OfTree (NoPolicy n) b x y = let no = x.1 in absurd cc
broken_alike fault OfTree (Outside s c) b x y = let no = x.1 in absurd cc
broken_alike fault OfTree a (Loaded p) x y = let no = y.1 in absurd cc
broken_alike fault OfTree a (NoPolicy n) x y = let no = y.1 in absurd cc
broken_alike fault OfTree a (Outside s c) x y = let no = y.1 in absurd cc

-- what comes of a text is alike, where just one of its tree and its fault is there and what comes of its tree is
tree_alike : {Item : Type 0} (tree : Option (List Item)) (fault : Option TextFault) (OfTree : List Item → Load → Type 0) → HasOne tree fault
    → ((items : List Item) (a b : Load) → OfTree items a → OfTree items b → AreAlike a b)
    → (a b : Load) → LoadsTree fault tree OfTree a → LoadsTree fault tree OfTree b → AreAlike a b
tree_alike (Some items) None OfTree one alike a b x y = alike items a b (of_tree items OfTree a x) (of_tree items OfTree b y)
tree_alike None (Some fault) OfTree one alike a b x y = broken_alike fault OfTree a b x y
tree_alike (Some items) (Some fault) OfTree one alike a b x y = absurd one
tree_alike None None OfTree one alike a b x y = absurd one

-- what comes of the tree comes of the text; no tree is broken
to_tree : {Item : Type 0} (fault : Option TextFault) (tree : Option (List Item)) (OfTree : List Item → Load → Type 0) (items : List Item) → tree ≡ Some items
    → ((span : Span) (kind : BrokenKind) → OfTree items (Broken span kind) → ⊥) → (load : Load) → OfTree items load → LoadsTree fault tree OfTree load
to_tree fault tree OfTree items read whole (Broken span kind) x = absurd (whole span kind x)
to_tree fault tree OfTree items read whole (Loaded p) x = (items, read, x)
to_tree fault tree OfTree items read whole (NoPolicy n) x = (items, read, x)
to_tree fault tree OfTree items read whole (Outside s c) x = (items, read, x)

-- something comes of a text, where just one of its tree and its fault is there and something comes of each tree
tree_some : {Item : Type 0} (tree : Option (List Item)) (fault : Option TextFault) (OfTree : List Item → Load → Type 0) → HasOne tree fault
    → ((items : List Item) (span : Span) (kind : BrokenKind) → OfTree items (Broken span kind) → ⊥)
    → ((items : List Item) → (load : Load) × OfTree items load) → (load : Load) × LoadsTree fault tree OfTree load
tree_some (Some items) None OfTree one whole some = let found = some items in (found.0, to_tree None (Some items) OfTree items refl (whole items) found.0 found.1)
tree_some None (Some fault) OfTree one whole some = (Broken (broken_at fault).0 (broken_at fault).1, refl)
tree_some (Some items) (Some fault) OfTree one whole some = absurd one
tree_some None None OfTree one whole some = absurd one

-- ---- Junos

-- where a name is the first that is not defined, not all are
not_all : (all : List JunosItem) (place : ℕ) (names : List (List ℕ)) (n : ℕ) → undefined_from all place names ≡ Some n → list_all (junos.is_defined all) names ≡ true → ⊥
unfolding undefined_from
not_all all place [] n e defined = absurd cc
not_all all place (name ∷ names) n e defined = here (junos.is_defined all name) e defined (not_all all (place + 1) names n)
  where
    here : (b : Bool) → ◌≡◌ {A = Option ℕ} (elim b [ true ↦ undefined_from all (place + 1) names | false ↦ Some place ]) (Some n) → (b && list_all (junos.is_defined all) names) ≡ true
        → (undefined_from all (place + 1) names ≡ Some n → list_all (junos.is_defined all) names ≡ true → ⊥) → ⊥
    here true e defined rest = rest e defined
    here false e defined rest = absurd cc

-- what comes of a tree is alike
chain_alike : (names : List (List ℕ)) (items : List JunosItem) (a b : Load) → LoadsChain names items a → LoadsChain names items b → AreAlike a b
chain_alike names items (Broken span kind) b x y = absurd x
chain_alike names items a (Broken span kind) x y = absurd y
chain_alike names items (Loaded p) (Loaded q) x y = x.0 ∙ sym y.0
chain_alike names items (Loaded p) (NoPolicy n) x y = absurd (not_all items 0 names n y x.1.defined)
chain_alike names items (Loaded p) (Outside span cause) x y = let no : ◌≡◌ {A = Option (Span × Cause)} None (Some (span, cause)) = sym x.1.sound ∙ y.1 in absurd cc
chain_alike names items (NoPolicy n) (Loaded q) x y = absurd (not_all items 0 names n x y.1.defined)
chain_alike names items (NoPolicy n) (NoPolicy m) x y = same_Some n m (sym x ∙ y)
chain_alike names items (NoPolicy n) (Outside span cause) x y = absurd (not_all items 0 names n x y.0)
chain_alike names items (Outside span cause) (Loaded q) x y = let no : ◌≡◌ {A = Option (Span × Cause)} None (Some (span, cause)) = sym y.1.sound ∙ x.1 in absurd cc
chain_alike names items (Outside span cause) (NoPolicy n) x y = absurd (not_all items 0 names n y x.0)
chain_alike names items (Outside span cause) (Outside other why) x y = same_fault (junos.first_fault names items) span other cause why x.1 y.1

-- something comes of a tree
chain_some : (names : List (List ℕ)) (items : List JunosItem) → (load : Load) × LoadsChain names items load
chain_some names items = go (undefined_from items 0 names) refl (junos.first_fault names items) refl
  where
    go : (o : Option ℕ) → undefined_from items 0 names ≡ o → (f : Option (Span × Cause)) → junos.first_fault names items ≡ f → (load : Load) × LoadsChain names items load
    go (Some place) absent f sound = (NoPolicy place, absent)
    go None there None sound = (Loaded (OfJunos items names), (refl, record { defined = all_defined items 0 names there; sound = sound }))
    go None there (Some fault) sound = (Outside fault.0 fault.1, (all_defined items 0 names there, sound))

chain_whole : (names : List (List ℕ)) (items : List JunosItem) (span : Span) (kind : BrokenKind) → LoadsChain names items (Broken span kind) → ⊥
chain_whole names items span kind x = x

-- ---- RPL

-- what comes of a tree is alike
named_alike : (names : List (List ℕ)) (items : List RplItem) (a b : Load) → LoadsNamed names items a → LoadsNamed names items b → AreAlike a b
named_alike [] items a b x y = absurd x
named_alike (name ∷ other ∷ names) items a b x y = absurd x
named_alike (name ∷ []) items (Broken span kind) b x y = absurd x
named_alike (name ∷ []) items a (Broken span kind) x y = absurd y
named_alike (name ∷ []) items (Loaded p) (Loaded q) x y = x.0 ∙ sym y.0
named_alike (name ∷ []) items (Loaded p) (NoPolicy n) x y = let no : true ≡ false = sym x.1.defined ∙ y.1 in absurd cc
named_alike (name ∷ []) items (Loaded p) (Outside span cause) x y = absurd (sound_is name items span cause x.1.sound y.1)
named_alike (name ∷ []) items (NoPolicy n) (Loaded q) x y = let no : true ≡ false = sym y.1.defined ∙ x.1 in absurd cc
named_alike (name ∷ []) items (NoPolicy n) (NoPolicy m) x y = x.0 ∙ sym y.0
named_alike (name ∷ []) items (NoPolicy n) (Outside span cause) x y = let no : true ≡ false = sym y.0 ∙ x.1 in absurd cc
named_alike (name ∷ []) items (Outside span cause) (Loaded q) x y = absurd (sound_is name items span cause y.1.sound x.1)
named_alike (name ∷ []) items (Outside span cause) (NoPolicy n) x y = let no : true ≡ false = sym x.0 ∙ y.1 in absurd cc
named_alike (name ∷ []) items (Outside span cause) (Outside other why) x y = one_is name items span other cause why x.1 y.1

-- something comes of a tree
named_some : (name : List ℕ) (items : List RplItem) → (load : Load) × LoadsNamed (name ∷ []) items load
named_some name items = go (rpl.is_defined name items) refl
  where
    go : (t : Bool) → rpl.is_defined name items ≡ t → (load : Load) × LoadsNamed (name ∷ []) items load
    go false absent = (NoPolicy 0, (refl, absent))
    go true defined = elim (first_or_none name items) [
      | inl sound ↦ (Loaded (OfRpl items name), (refl, record { defined = defined; sound = sound }))
      | inr first ↦ (Outside first.0 first.1, (defined, first.2))
    ]

named_whole : (name : List ℕ) (items : List RplItem) (span : Span) (kind : BrokenKind) → LoadsNamed (name ∷ []) items (Broken span kind) → ⊥
named_whole name items span kind x = x

-- a text has a tree, or it is broken
tree_or_fault : (fault : Option TextFault) (items : List RplItem) → HasOne (rpl_tree.tree_or fault items) fault
tree_or_fault None items = tt
tree_or_fault (Some fault) items = tt

one_of_rpl : (text : List ℕ) → HasOne (rpl_tree.rpl_tree text) (broken (rpl_cut text))
unfolding rpl_tree.tree_in
one_of_rpl text = tree_or_fault (broken (rpl_cut text)) (rpl_tree.items_of None (rpl_cut text))

-- ---- any language

-- what comes of a source is alike
pub loads_alike : (taken : Taken) (language : Language) (names : List (List ℕ)) (text : List ℕ) (a b : Load) → LoadsIn language taken names text a → LoadsIn language taken names text b → AreAlike a b
loads_alike taken Ios names text a b x y = ios_alike taken names (ios_tree text) a b x y
loads_alike taken Junos names text a b x y = tree_alike (junos_tree text) (junos_fault text) (LoadsChain names) (one_of_both text) (chain_alike names) a b x y
loads_alike taken Rpl names text a b x y = tree_alike (rpl_tree.rpl_tree text) (broken (rpl_cut text)) (LoadsNamed names) (one_of_rpl text) (named_alike names) a b x y

-- something comes of what a policy word names in a text
pub some_load : (taken : Taken) (language : Language) (word text : List ℕ) → (load : Load) × LoadsIn language taken (names_in language word) text load
some_load taken Ios word text = ios_some taken word text
some_load taken Junos word text =
    tree_some (junos_tree text) (junos_fault text) (LoadsChain (names_in Junos word)) (one_of_both text) (chain_whole (names_in Junos word)) (chain_some (names_in Junos word))
some_load taken Rpl word text =
    tree_some (rpl_tree.rpl_tree text) (broken (rpl_cut text)) (LoadsNamed (word ∷ [])) (one_of_rpl text) (named_whole word) (named_some word)
