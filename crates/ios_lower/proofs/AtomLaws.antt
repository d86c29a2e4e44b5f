-- What an atom tests is what its line tests.
use Rattle.std.proofs.Common.{◌≡◌, refl, sym, ap, ◌∙◌, ℕ, Bool, true, false, ◌||◌, List, [], ◌∷◌, Option, arith}
use Rattle.std.specs.Prelude.{◌==◌, bytes_eq, map}
use Rattle.std.specs.List.{list_any, AllByRecursion}
use Rattle.route_types.specs.Address.{width}
use Rattle.route_types.specs.Route.{RouteParts}
use Rattle.route_types.specs.declared.address.Family.{Family}
use Rattle.route_types.specs.declared.route.NextHop.{NextHop as Hop}
use Rattle.route_types.specs.declared.route.NextHop.TheVariants.{At, Own}
use Rattle.prefix_sets.specs.FirstMatch.{first_match, hop_match}
use Rattle.prefix_sets.specs.declared.list.PrefixList.{PrefixList}
use Rattle.community_sets.specs.Tests.{list_answers}
use Rattle.community_sets.specs.declared.list.CommEntry.{CommEntry}
use Rattle.community_sets.specs.declared.list.CommList.{CommList}
use Rattle.path_patterns.specs.Finds.{finds_in}
use Rattle.path_patterns.specs.Items.{IsPath}
use Rattle.core_nodes.specs.Atoms.{path_answers as nodes_answer, atom_holds}
use Rattle.core_nodes.specs.declared.atom.Atom.{Atom}
use Rattle.core_nodes.specs.declared.atom.Atom.TheVariants.{Prefix, Path, Community}
use Rattle.core_nodes.specs.declared.atom.PathList.{PathList}
use Rattle.ios_tree.specs.declared.item.CommunityListEntry.{CommunityListEntry}
use Rattle.ios_tree.specs.declared.item.IosForm.{IosForm}
use Rattle.ios_tree.specs.declared.item.IosForm.TheVariants.{CommunityEntry as OfCommunityList}
use Rattle.ios_tree.specs.declared.item.IosItem.{IosItem}
use Rattle.ios_tree.specs.declared.item.MapLine.{MapLine}
use Rattle.ios_tree.specs.declared.item.MapLine.TheVariants.{MatchPrefix, MatchNextHop, MatchCommunity, MatchPath, MatchMetric}
use Rattle.ios_tree.specs.declared.item.PathListEntry.{PathListEntry}
use Rattle.ios_meaning.specs.Lists.{test_of, prefix_list, community_list, community_entry_from, path_list, path_answers}
use Rattle.ios_meaning.specs.Drafts.{entries_named, entry_named}
use Rattle.ios_meaning.specs.Meaning.{next_hop_holds, line_holds}
use Rattle.ios_lower.specs.Atoms.{prefix_list_of, community_list_of, path_entry_of, path_list_of, atom_of}
use Rattle.ios_lower.specs.AtomSteps.{community_entry_of, IsMatched, holds_if}

-- ---- community lists

entry_by : (exact : Bool) (e : CommunityListEntry) (es : List CommunityListEntry) (fs : List CommEntry) (b : Bool) → map (community_entry_of exact) es ≡ fs
    → map (community_entry_of exact) (elim b [ true ↦ e ∷ es | false ↦ es ]) ≡ elim b [ true ↦ record { permit = e.permit; test = test_of exact e.shape } ∷ fs | false ↦ fs ]
entry_by exact e es fs true h = ap (λ (w : List CommEntry). community_entry_of exact e ∷ w) h
entry_by exact e es fs false h = h

form_by : (exact : Bool) (list : List ℕ) (form : IosForm) (es : List CommunityListEntry) (fs : List CommEntry) → map (community_entry_of exact) es ≡ fs → map (community_entry_of exact) (entry_named list form es) ≡ community_entry_from exact list form fs
form_by exact list (OfCommunityList e) es fs h = entry_by exact e es fs (bytes_eq list e.list) h
form_by exact list _ es fs h = h

-- the entries of a name are those of its list
pub entries_listed : (exact : Bool) (list : List ℕ) (all : List IosItem) → map (community_entry_of exact) (entries_named list all) ≡ community_list exact list all
entries_listed exact list [] = refl
entries_listed exact list (i ∷ is) = form_by exact list i.form (entries_named list is) (community_list exact list is) (entries_listed exact list is)

-- what is made of the entries under a name is the list of the name
pub community_list_found : (exact : Bool) (all : List IosItem) (name : List ℕ) (es : List CommunityListEntry) (fs : List CommEntry) → es ≡ entries_named name all → fs ≡ map (community_entry_of exact) es → fs ≡ community_list exact name all
community_list_found exact all name es fs e f = f ∙ ap (λ (w : List CommunityListEntry). map (community_entry_of exact) w) e ∙ entries_listed exact name all

-- ---- some list answers yes

-- a test of what is made of each element is the test of the elements
any_made : {A B : Type 0} (f : A → B) (t : B → Bool) (u : A → Bool) → ((x : A) → t (f x) ≡ u x) → (xs : List A) → list_any t (map f xs) ≡ list_any u xs
any_made f t u same [] = refl
any_made f t u same (x ∷ xs) = ap (λ (b : Bool). b || list_any t (map f xs)) (same x) ∙ ap (λ (b : Bool). u x || b) (any_made f t u same xs)

any_none : {A : Type 0} (xs : List A) → list_any (λ x. false) xs ≡ false
any_none [] = refl
any_none (x ∷ xs) = any_none xs

pub prefixes_hold : (all : List IosItem) (family : Family) (lists : List (List ℕ)) (r : RouteParts) → atom_holds (Prefix (map (prefix_list_of all family) lists)) r ≡ list_any (λ list. first_match (prefix_list family list all) r.prefix) lists
prefixes_hold all family lists r = any_made (prefix_list_of all family) (λ (l : PrefixList). first_match l.entries r.prefix) (λ list. first_match (prefix_list family list all) r.prefix) (λ x. refl) lists

hops_by : (all : List IosItem) (family : Family) (lists : List (List ℕ)) (hop : Hop) → list_any (λ (l : PrefixList). hop_match l.entries hop) (map (prefix_list_of all family) lists) ≡ next_hop_holds all family lists hop
hops_by all family lists (At a) = any_made (prefix_list_of all family) (λ (l : PrefixList). hop_match l.entries (At a)) (λ list. first_match (prefix_list family list all) (record { address = a; length = width a.family })) (λ x. refl) lists
hops_by all family lists Own = any_made (prefix_list_of all family) (λ (l : PrefixList). hop_match l.entries Own) (λ list. false) (λ x. refl) lists ∙ any_none lists

pub communities_hold : (all : List IosItem) (exact : Bool) (lists : List (List ℕ)) (r : RouteParts) → atom_holds (Community (map (community_list_of exact all) lists)) r ≡ list_any (λ list. list_answers (community_list exact list all) r.communities) lists
communities_hold all exact lists r = any_made (community_list_of exact all) (λ (l : CommList). list_answers l.entries r.communities) (λ list. list_answers (community_list exact list all) r.communities) (λ x. refl) lists

-- ---- path lists

entries_matched : (es : List PathListEntry) (path : List ℕ) → AllByRecursion IsMatched es → IsPath path → nodes_answer (map path_entry_of es) path ≡ path_answers es path
unfolding nodes_answer path_answers
entries_matched [] path h p = refl
entries_matched (e ∷ es) path h p =
    ap (λ (b : Bool). elim b [ true ↦ e.permit | false ↦ nodes_answer (map path_entry_of es) path ]) (h.0 path p)
    ∙ ap (λ (o : Bool). elim (finds_in e.pattern path) [ true ↦ e.permit | false ↦ o ]) (entries_matched es path h.1 p)

any_by : {A B : Type 0} (f : A → B) (t : B → Bool) (u : A → Bool) (P : A → Type 0) → ((x : A) → P x → t (f x) ≡ u x) → (xs : List A) → AllByRecursion P xs → list_any t (map f xs) ≡ list_any u xs
any_by f t u P same [] h = refl
any_by f t u P same (x ∷ xs) h = ap (λ (b : Bool). b || list_any t (map f xs)) (same x h.0) ∙ ap (λ (b : Bool). u x || b) (any_by f t u P same xs h.1)

-- the path lists of a line, whose entries are matched
abbrev pub PathsMatched : List IosItem → List (List ℕ) → Type 0
PathsMatched all lists = AllByRecursion (λ list. AllByRecursion IsMatched (path_list list all)) lists

paths_hold : (all : List IosItem) (lists : List (List ℕ)) (r : RouteParts) → PathsMatched all lists → IsPath r.path → atom_holds (Path (map (path_list_of all) lists)) r ≡ list_any (λ list. path_answers (path_list list all) r.path) lists
paths_hold all lists r m h =
    any_by (path_list_of all) (λ (l : PathList). nodes_answer l.entries r.path) (λ list. path_answers (path_list list all) r.path) (λ list. AllByRecursion IsMatched (path_list list all))
    (λ list k. entries_matched (path_list list all) r.path k h) lists m

-- ---- lines

same_number : (a b : ℕ) → (a == b) ≡ (b == a)
same_number a b = grind arith

any_same : (t u : ℕ → Bool) → ((n : ℕ) → t n ≡ u n) → (ns : List ℕ) → list_any t ns ≡ list_any u ns
any_same t u same [] = refl
any_same t u same (n ∷ ns) = ap (λ (b : Bool). b || list_any t ns) (same n) ∙ ap (λ (b : Bool). u n || b) (any_same t u same ns)

-- the patterns of a line's path lists are matched
abbrev pub LineMatched : List IosItem → MapLine → Type 0
LineMatched all (MatchPath m) = PathsMatched all m.lists
LineMatched all _ = Unit {0}

line_by : (all : List IosItem) (l : MapLine) (r : RouteParts) → LineMatched all l → IsPath r.path → holds_if (atom_of all l) r ≡ line_holds all r l
line_by all (MatchPrefix m) r k h = prefixes_hold all m.family m.lists r
line_by all (MatchNextHop m) r k h = hops_by all m.family m.lists r.next_hop
line_by all (MatchCommunity m) r k h = communities_hold all m.exact m.lists r
line_by all (MatchPath m) r k h = paths_hold all m.lists r k h
line_by all (MatchMetric ns) r k h = any_same (λ n. r.med == n) (λ n. n == r.med) (λ n. same_number r.med n) ns
line_by all _ r k h = refl

-- what a line tests holds where the line does
pub line_tested : (all : List IosItem) (l : MapLine) (o : Option Atom) → o ≡ atom_of all l → LineMatched all l → (r : RouteParts) → IsPath r.path → holds_if o r ≡ line_holds all r l
line_tested all l o e k r h = ap (λ (x : Option Atom). holds_if x r) e ∙ line_by all l r k h

-- the same for a line that is this one
pub tested_line : (all : List IosItem) (l m : MapLine) (o : Option Atom) → l ≡ m → o ≡ atom_of all m → LineMatched all m → (r : RouteParts) → IsPath r.path → holds_if o r ≡ line_holds all r l
tested_line all l m o same e k r h = line_tested all m o e k r h ∙ ap (λ (x : MapLine). line_holds all r x) (sym same)
