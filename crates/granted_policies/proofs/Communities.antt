-- What community lists test can be said, and what they take away.
use Rattle.std.proofs.Common.{◌≡◌, refl, sym, subst, ℕ, Bool, true, false, ◌&&◌, not, List, [], ◌∷◌}
use Rattle.std.specs.Prelude.{◌==◌, ◌/◌, ◌%◌, ◌^◌, bytes_eq, map}
use Rattle.std.specs.List.{list_all, AllByRecursion}
use Rattle.std.proofs.lemmas.Bool.{eq-eqb}
use Rattle.route_types.specs.Community.{RectParts}
use Rattle.route_types.specs.declared.community.Community.{Community}
use Rattle.community_sets.specs.declared.list.CommEntry.{CommEntry}
use Rattle.community_sets.specs.declared.list.CommList.{CommList}
use Rattle.community_sets.specs.declared.list.CommTest.{CommTest}
use Rattle.path_patterns.proofs.Lists.{all_append}
use Rattle.policy_core.specs.Sayable.{is_plain_half, is_plain, is_all_of, is_plain_all_of, is_exactly, lists_are}
use Rattle.ios_tree.specs.declared.item.CommunityListEntry.{CommunityListEntry}
use Rattle.ios_tree.specs.declared.item.CommunityShape.{CommunityShape}
use Rattle.ios_tree.specs.declared.item.CommunityShape.TheVariants.{Standard, Expanded}
use Rattle.ios_tree.specs.declared.item.IosForm.{IosForm}
use Rattle.ios_tree.specs.declared.item.IosForm.TheVariants.{CommunityEntry}
use Rattle.ios_tree.specs.declared.item.IosItem.{IosItem}
use Rattle.ios_meaning.specs.Drafts.{entry_named, entries_named}
use Rattle.ios_meaning.specs.Lists.{single, test_of}
use Rattle.ios_lower.specs.Atoms.{community_list_of}
use Rattle.ios_lower.specs.AtomSteps.{community_entry_of}
use Rattle.ios_lower.specs.Deletions.{alone_in, alone, all_alone, AreTaken}
use Rattle.ios_lower.proofs.AtomLaws.{entries_listed}
use Rattle.expressible_table.specs.Kinds.{is_deny, has_deny}
use Rattle.granted_policies.proofs.Lists.{both_true, all_pass, made_pass, each_is, all_wider, none_passes}
use Rattle.granted_policies.proofs.Standard.{IsStandard, AreStandard, ListsStandard}
use Rattle.granted_policies.proofs.Written.{IsPlainShape, AreWritten, IsWrittenForm}

-- the shapes of entries are plain
abbrev ArePlain : List CommunityListEntry → Type 0
ArePlain es = AllByRecursion (λ e. IsPlainShape e.shape) es

-- ---- lists of entries

-- what is tested by each entry of the list of a name
abbrev TestsAre : (CommTest → Bool) → Bool → List IosItem → List ℕ → Type 0
TestsAre sort exact all list = AllByRecursion (λ e. sort (test_of exact e.shape) ≡ true) (entries_named list all)

-- each entry of a list tests what is of the sort
abbrev list_tests : (CommTest → Bool) → List CommEntry → Bool
list_tests sort es = list_all (λ e. sort e.test) es

list_is : (sort : CommTest → Bool) (exact : Bool) (all : List IosItem) (list : List ℕ) → TestsAre sort exact all list → list_tests sort (community_list_of exact all list).entries ≡ true
list_is sort exact all list h =
    subst (λ (es : List CommEntry). list_tests sort es ≡ true) (entries_listed exact list all)
    (made_pass (community_entry_of exact) (λ e. sort e.test) (entries_named list all) h)

lists_is : (sort : CommTest → Bool) (exact : Bool) (all : List IosItem) (lists : List (List ℕ)) → AllByRecursion (TestsAre sort exact all) lists
    → lists_are sort (map (community_list_of exact all) lists) ≡ true
lists_is sort exact all lists h =
    made_pass (community_list_of exact all) (λ (l : CommList). list_tests sort l.entries) lists
    (all_wider (TestsAre sort exact all) (λ list. list_tests sort (community_list_of exact all list).entries ≡ true) (list_is sort exact all) lists h)

plain_from : (list : List ℕ) (form : IosForm) (es : List CommunityListEntry) → IsWrittenForm form → ArePlain es → ArePlain (entry_named list form es)
plain_from list (CommunityEntry e) es here more = by (bytes_eq list e.list)
  where
    by : (b : Bool) → ArePlain (elim b [ true ↦ e ∷ es | false ↦ es ])
    by true = (here, more)
    by false = more
plain_from list _ es here more = more

-- the shapes of the entries of a text's list are plain
named_plain : (list : List ℕ) (is : List IosItem) → AreWritten is → ArePlain (entries_named list is)
named_plain list [] h = tt
named_plain list (i ∷ is) h = plain_from list i.form (entries_named list is) h.0 (named_plain list is h.1)

-- ---- what they test

all_of : (shape : CommunityShape) → is_all_of (test_of false shape) ≡ true
all_of (Standard cs) = refl
all_of (Expanded r) = refl

same_half : (n : ℕ) → is_plain_half n n ≡ true
same_half n = rw (eq-eqb n n refl) refl

single_plain : (c : Community) → is_plain (single c) ≡ true
single_plain c =
    let high = c.0 / 2 ^ 16 in
    let low = c.0 % 2 ^ 16 in
    both_true (is_plain_half high high) (is_plain_half low low) (same_half high) (same_half low)

plain_all_of : (shape : CommunityShape) → IsPlainShape shape → is_plain_all_of (test_of false shape) ≡ true
plain_all_of (Standard cs) h = made_pass single is_plain cs (each_is (λ c. is_plain (single c) ≡ true) single_plain cs)
plain_all_of (Expanded r) h = both_true (is_plain r) true h refl

exactly : (shape : CommunityShape) → IsStandard shape → is_exactly (test_of true shape) ≡ true
exactly (Standard cs) h = refl
exactly (Expanded r) h = absurd h

pub lists_all_of : (all : List IosItem) (lists : List (List ℕ)) → lists_are is_all_of (map (community_list_of false all) lists) ≡ true
lists_all_of all lists =
    lists_is is_all_of false all lists (each_is (TestsAre is_all_of false all) (λ list. each_is (λ e. is_all_of (test_of false e.shape) ≡ true) (λ e. all_of e.shape) (entries_named list all)) lists)

pub lists_plain : (all : List IosItem) (lists : List (List ℕ)) → AreWritten all → lists_are is_plain_all_of (map (community_list_of false all) lists) ≡ true
lists_plain all lists w =
    lists_is is_plain_all_of false all lists (each_is (TestsAre is_plain_all_of false all)
    (λ list. all_wider (λ e. IsPlainShape e.shape) (λ e. is_plain_all_of (test_of false e.shape) ≡ true) (λ e. plain_all_of e.shape) (entries_named list all) (named_plain list all w)) lists)

pub lists_exactly : (all : List IosItem) (lists : List (List ℕ)) → ListsStandard all lists → lists_are is_exactly (map (community_list_of true all) lists) ≡ true
lists_exactly all lists h =
    lists_is is_exactly true all lists (all_wider (λ list. AreStandard (entries_named list all)) (TestsAre is_exactly true all)
    (λ list k. all_wider (λ x. IsStandard x.shape) (λ e. is_exactly (test_of true e.shape) ≡ true) (λ e. exactly e.shape) (entries_named list all) k) lists h)

-- ---- what they take away

abbrev ArePermitted : List CommunityListEntry → Type 0
ArePermitted es = AllByRecursion (λ e. e.permit ≡ true) es

abbrev PlainRects : List RectParts → Type 0
PlainRects rects = AllByRecursion (λ r. is_plain r ≡ true) rects

permit_from : (list : List ℕ) (form : IosForm) (es : List CommunityListEntry) → is_deny list form ≡ false → ArePermitted es → ArePermitted (entry_named list form es)
permit_from list (CommunityEntry e) es here more = by (bytes_eq list e.list) e.permit refl here
  where
    by : (b p : Bool) → e.permit ≡ p → (b && not p) ≡ false → ArePermitted (elim b [ true ↦ e ∷ es | false ↦ es ])
    by true true is h = (is, more)
    by true false is h = absurd cc
    by false p is h = more
permit_from list _ es here more = more

permits : (list : List ℕ) (is : List IosItem) → AllByRecursion (λ i. is_deny list i.form ≡ false) is → ArePermitted (entries_named list is)
permits list [] h = tt
permits list (i ∷ is) h = permit_from list i.form (entries_named list is) h.0 (permits list is h.1)

alone_by : (c : Community) (b : Bool) → PlainRects (elim b [ true ↦ single c ∷ [] | false ↦ [] ])
alone_by c true = (single_plain c, tt)
alone_by c false = tt

alone_in_plain : (cs : List Community) → PlainRects (alone_in cs)
alone_in_plain [] = (refl, tt)
alone_in_plain (c ∷ cs) = alone_by c (list_all (λ d. d.0 == c.0) cs)

alone_plain : (shape : CommunityShape) → IsPlainShape shape → PlainRects (alone shape)
alone_plain (Standard cs) h = alone_in_plain cs
alone_plain (Expanded r) h = (h, tt)

all_alone_plain : (es : List CommunityListEntry) → ArePlain es → PlainRects (all_alone es)
all_alone_plain [] h = tt
all_alone_plain (e ∷ es) h = all_append (λ r. is_plain r ≡ true) (alone e.shape) (all_alone es) (alone_plain e.shape h.0) (all_alone_plain es h.1)

-- what a list without an entry that denies takes away has plain halves
pub taken_plain : (all : List IosItem) (list : List ℕ) (rects : List RectParts) → AreWritten all → has_deny all list ≡ false → AreTaken (entries_named list all) rects → list_all is_plain rects ≡ true
taken_plain all list rects w h taken =
    let es = entries_named list all in
    let same = taken.plain (all_pass (λ e. e.permit) es (permits list all (none_passes (λ i. is_deny list i.form) all h))) in
    subst (λ (rs : List RectParts). list_all is_plain rs ≡ true) (sym same) (all_pass is_plain (all_alone es) (all_alone_plain es (named_plain list all w)))
