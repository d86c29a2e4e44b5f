-- The changes of a line do what the line does.
use Rattle.std.proofs.Common.{◌≡◌, refl, sym, ap, subst, ◌∙◌, ℕ, ◌<◌, Bool, true, false, cond, not, nat_lt, List, [], ◌∷◌, ◌++◌, arith, inl, inr}
use Rattle.std.specs.Prelude.{◌^◌, map, filter, reverse}
use Rattle.std.specs.List.{AllByRecursion}
use Rattle.std.proofs.lemmas.Bool.Decides.{nat_tests}
use Rattle.std.proofs.lemmas.Grind.{reverse_onto}
use Rattle.std.proofs.lemmas.List.{append-nil}
use Rattle.route_types.specs.Change.{changed, changed_by}
use Rattle.route_types.specs.Community.{fits, number, with_member, set_of, IsAscending}
use Rattle.route_types.specs.Sets.{fits_some}
use Rattle.route_types.specs.Route.{RouteParts}
use Rattle.route_types.specs.declared.change.Change.{Change}
use Rattle.route_types.specs.declared.change.Change.TheVariants.{NextHop, Prepend, Origin, LocalPreference, Med, Weight, Communities}
use Rattle.route_types.specs.declared.community.Community.{Community}
use Rattle.route_types.proofs.Sets.{same_community, set_of_ascending, set_itself, set_kept}
use Rattle.community_sets.specs.Tests.{list_answers}
use Rattle.path_patterns.specs.Items.{SomeOf}
use Rattle.path_patterns.proofs.Lists.{all_append}
use Rattle.ios_tree.specs.declared.item.CommunitySetting.{CommunitySetting}
use Rattle.ios_tree.specs.declared.item.IosItem.{IosItem}
use Rattle.ios_tree.specs.declared.item.MapLine.{MapLine}
use Rattle.ios_tree.specs.declared.item.MapLine.TheVariants.{MatchPrefix, MatchNextHop, MatchCommunity, MatchPath, MatchMetric, SetLocalPreference, SetMetric, SetWeight, SetPrepend, SetOrigin, SetNextHop, SetCommunity, DeleteCommunities, Continue, Description}
use Rattle.ios_meaning.specs.Lists.{community_list}
use Rattle.ios_meaning.specs.Meaning.{deletes, set_by}
use Rattle.ios_meaning.proofs.Drafts.{same_answers}
use Rattle.ios_lower.specs.Deletions.{every}
use Rattle.ios_lower.specs.Changes.{setting_change, changes_of, Deletes, IsChangeOf}
use Rattle.ios_lower.specs.ChangeSteps.{AreSmall, IsSmall, IsTestable, AreOfLine}

-- ---- changes one after the other

pub changed_both : (xs ys : List Change) (r : RouteParts) → changed_by (xs ++ ys) r ≡ changed_by ys (changed_by xs r)
changed_both [] ys r = refl
changed_both (x ∷ xs) ys r = changed_both xs ys (changed x r)

-- each element of a list is one of it
members_by : {A : Type 0} (x : A) (xs ys : List A) → AllByRecursion (λ c. SomeOf (λ d. c ≡ d) ys) xs → AllByRecursion (λ c. SomeOf (λ d. c ≡ d) (x ∷ ys)) xs
members_by x [] ys h = tt
members_by x (z ∷ zs) ys h = (inr h.0, members_by x zs ys h.1)

members : {A : Type 0} (xs : List A) → AllByRecursion (λ c. SomeOf (λ d. c ≡ d) xs) xs
members [] = tt
members (x ∷ xs) = (inl refl, members_by x xs xs (members xs))

-- ---- numbers put before the path

prepended : (ns : List ℕ) (r : RouteParts) → changed_by (reverse (map (λ n. Prepend n) ns)) r ≡ record r { path = ns ++ r.path }
prepended [] r = refl
prepended (n ∷ ns) r =
    ap (λ (cs : List Change). changed_by cs r) (reverse_onto (map (λ m. Prepend m) ns) (Prepend n) [])
    ∙ changed_both (reverse (map (λ m. Prepend m) ns)) (Prepend n ∷ []) r ∙ ap (λ (x : RouteParts). changed (Prepend n) x) (prepended ns r)

-- ---- sets of communities

small_kept : (p : Community → Bool) (cs : List Community) → AreSmall cs → AreSmall (filter p cs)
small_kept p [] h = tt
small_kept p (c ∷ cs) h = by (p c) (small_kept p cs h.1)
  where
    by : (b : Bool) → AreSmall (filter p cs) → AreSmall (cond b (c ∷ filter p cs) (filter p cs))
    by true more = (h.0, more)
    by false more = more

small_both : (cs ds : List Community) → AreSmall cs → AreSmall ds → AreSmall (cs ++ ds)
small_both [] ds h k = k
small_both (c ∷ cs) ds h k = (h.0, small_both cs ds h.1 k)

member_by : (c d : Community) (ds more : List Community) (a b : Bool) → c.0 < 2 ^ 32 → AreSmall (d ∷ ds) → AreSmall more → AreSmall (cond a (c ∷ d ∷ ds) (cond b (d ∷ more) (d ∷ ds)))
member_by c d ds more true b h k m = (h, k)
member_by c d ds more false true h k m = (k.0, m)
member_by c d ds more false false h k m = k

small_member : (c : Community) (ds : List Community) → c.0 < 2 ^ 32 → AreSmall ds → AreSmall (with_member c ds)
small_member c [] h k = (h, tt)
small_member c (d ∷ ds) h k = member_by c d ds (with_member c ds) (nat_lt c.0 d.0) (nat_lt d.0 c.0) h k (small_member c ds h k.1)

small_set : (cs : List Community) → AreSmall cs → AreSmall (set_of cs)
small_set [] h = tt
small_set (c ∷ cs) h = small_member c (set_of cs) h.0 (small_set cs h.1)

base_small : (b : Bool) (cs ds : List Community) → AreSmall cs → AreSmall ds → AreSmall (elim b [ true ↦ cs | false ↦ [] ] ++ ds)
base_small true cs ds h k = small_both cs ds h k
base_small false cs ds h k = k

-- two tests that agree on the communities of a list keep the same
same_kept : (p q : Community → Bool) (cs : List Community) → ((c : Community) → c.0 < 2 ^ 32 → p c ≡ q c) → AreSmall cs → filter p cs ≡ filter q cs
same_kept p q [] same h = refl
same_kept p q (c ∷ cs) same h =
    ap (λ (b : Bool). cond b (c ∷ filter p cs) (filter p cs)) (same c h.0) ∙ ap (λ (w : List Community). cond (q c) (c ∷ w) w) (same_kept p q cs same h.1)

all_kept : (cs : List Community) → filter (λ c. true) cs ≡ cs
all_kept [] = refl
all_kept (c ∷ cs) = ap (λ (w : List Community). c ∷ w) (all_kept cs)

none_kept : (cs : List Community) → filter (λ c. false) cs ≡ []
none_kept [] = refl
none_kept (c ∷ cs) = none_kept cs

every_fits : (c : Community) → c.0 < 2 ^ 32 → not (fits_some fits (every ∷ []) c) ≡ false
every_fits c h = grind (arith, nat_tests)

-- what `set community` starts from
base_left : (b : Bool) (cs : List Community) → AreSmall cs → filter (λ c. not (fits_some fits (elim b [ true ↦ [] | false ↦ every ∷ [] ]) c)) cs ≡ elim b [ true ↦ cs | false ↦ [] ]
base_left true cs h = all_kept cs
base_left false cs h = same_kept (λ c. not (fits_some fits (every ∷ []) c)) (λ c. false) cs every_fits h ∙ none_kept cs

set_acts : (s : CommunitySetting) (all : List IosItem) (r : RouteParts) → AreSmall r.communities → changed (Communities (setting_change s)) r ≡ set_by all (SetCommunity s) r
set_acts s all r h = ap (λ (w : List Community). record r { communities = set_of (w ++ s.communities) }) (base_left s.additive r.communities h)

-- what stays of communities in order is in order
kept_ascending : (p : Community → Bool) (cs : List Community) → IsAscending cs → set_of (filter p cs) ≡ filter p cs
kept_ascending p cs h = set_kept number same_community p cs ∙ ap (λ (w : List Community). filter p w) (set_itself number same_community cs h)

delete_acts : (all : List IosItem) (list : List ℕ) (c : Change) (r : RouteParts) → Deletes all list c → IsTestable r → changed c r ≡ set_by all (DeleteCommunities list) r
delete_acts all list (Communities c) r d h =
    let p : Community → Bool = λ x. not (list_answers (community_list false list all) (x ∷ [])) in
    let same : filter (λ x. not (fits_some fits c.removed x)) r.communities ≡ filter p r.communities =
    same_kept (λ x. not (fits_some fits c.removed x)) p r.communities (λ x k. ap (λ (b : Bool). not b) (d.1.fitted x k ∙ same_answers list all x)) h.small in
    ap (λ (w : List Community). record r { communities = set_of (filter (λ x. not (fits_some fits c.removed x)) r.communities ++ w) }) d.0
    ∙ ap (λ (w : List Community). record r { communities = set_of w }) (append-nil (filter (λ x. not (fits_some fits c.removed x)) r.communities) ∙ same)
    ∙ ap (λ (w : List Community). record r { communities = w }) (kept_ascending p r.communities h.ascending)
delete_acts all list (NextHop n) r d h = absurd d
delete_acts all list (Prepend n) r d h = absurd d
delete_acts all list (Origin o) r d h = absurd d
delete_acts all list (LocalPreference n) r d h = absurd d
delete_acts all list (Med n) r d h = absurd d
delete_acts all list (Weight n) r d h = absurd d

-- ---- the path and the communities stay in range

kept_in_range : (p : Community → Bool) (cs : List Community) → IsAscending cs → IsAscending (filter p cs)
kept_in_range p cs h = subst IsAscending (kept_ascending p cs h) (set_of_ascending (filter p cs))

line_keeps : (all : List IosItem) (l : MapLine) (r : RouteParts) → IsSmall l → IsTestable r → IsTestable (set_by all l r)
line_keeps all (SetCommunity s) r k h =
    record { path = h.path; small = small_set (elim s.additive [ true ↦ r.communities | false ↦ [] ] ++ s.communities) (base_small s.additive r.communities s.communities h.small k); ascending = set_of_ascending (elim s.additive [ true ↦ r.communities | false ↦ [] ] ++ s.communities) }
line_keeps all (DeleteCommunities list) r k h =
    let p : Community → Bool = λ c. not (list_answers (community_list false list all) (c ∷ [])) in
    record { path = h.path; small = small_kept p r.communities h.small; ascending = kept_in_range p r.communities h.ascending }
line_keeps all (SetLocalPreference n) r k h = record { path = h.path; small = h.small; ascending = h.ascending }
line_keeps all (SetMetric n) r k h = record { path = h.path; small = h.small; ascending = h.ascending }
line_keeps all (SetWeight n) r k h = record { path = h.path; small = h.small; ascending = h.ascending }
line_keeps all (SetPrepend ns) r k h = record { path = all_append (λ n. n < 2 ^ 32) ns r.path k h.path; small = h.small; ascending = h.ascending }
line_keeps all (SetOrigin o) r k h = record { path = h.path; small = h.small; ascending = h.ascending }
line_keeps all (SetNextHop a) r k h = record { path = h.path; small = h.small; ascending = h.ascending }
line_keeps all (MatchPrefix m) r k h = h
line_keeps all (MatchNextHop m) r k h = h
line_keeps all (MatchCommunity m) r k h = h
line_keeps all (MatchPath m) r k h = h
line_keeps all (MatchMetric ns) r k h = h
line_keeps all (Continue s) r k h = h
line_keeps all Description r k h = h

-- ---- the changes of a line

of_line : (all : List IosItem) (l : MapLine) (cs : List Change) → IsSmall l → ((r : RouteParts) → IsTestable r → changed_by cs r ≡ set_by all l r) → AllByRecursion (IsChangeOf all l) cs → AreOfLine all l cs
of_line all l cs k acts own = record { acts = acts; keeps = λ r h. subst IsTestable (sym (acts r h)) (line_keeps all l r k h); own = own }

-- the changes of a line that doesn't delete
exact_line : (all : List IosItem) (l : MapLine) → deletes l ≡ false → IsSmall l → AreOfLine all l (changes_of l)
exact_line all (SetLocalPreference n) d k = of_line all (SetLocalPreference n) (changes_of (SetLocalPreference n)) k (λ r h. refl) (members (changes_of (SetLocalPreference n)))
exact_line all (SetMetric n) d k = of_line all (SetMetric n) (changes_of (SetMetric n)) k (λ r h. refl) (members (changes_of (SetMetric n)))
exact_line all (SetWeight n) d k = of_line all (SetWeight n) (changes_of (SetWeight n)) k (λ r h. refl) (members (changes_of (SetWeight n)))
exact_line all (SetPrepend ns) d k = of_line all (SetPrepend ns) (changes_of (SetPrepend ns)) k (λ r h. prepended ns r) (members (changes_of (SetPrepend ns)))
exact_line all (SetOrigin o) d k = of_line all (SetOrigin o) (changes_of (SetOrigin o)) k (λ r h. refl) (members (changes_of (SetOrigin o)))
exact_line all (SetNextHop a) d k = of_line all (SetNextHop a) (changes_of (SetNextHop a)) k (λ r h. refl) (members (changes_of (SetNextHop a)))
exact_line all (SetCommunity s) d k = of_line all (SetCommunity s) (changes_of (SetCommunity s)) k (λ r h. set_acts s all r h.small) (members (changes_of (SetCommunity s)))
exact_line all (DeleteCommunities list) d k = absurd cc
exact_line all (MatchPrefix m) d k = of_line all (MatchPrefix m) [] k (λ r h. refl) tt
exact_line all (MatchNextHop m) d k = of_line all (MatchNextHop m) [] k (λ r h. refl) tt
exact_line all (MatchCommunity m) d k = of_line all (MatchCommunity m) [] k (λ r h. refl) tt
exact_line all (MatchPath m) d k = of_line all (MatchPath m) [] k (λ r h. refl) tt
exact_line all (MatchMetric ns) d k = of_line all (MatchMetric ns) [] k (λ r h. refl) tt
exact_line all (Continue s) d k = of_line all (Continue s) [] k (λ r h. refl) tt
exact_line all Description d k = of_line all Description [] k (λ r h. refl) tt

pub plain_line : (all : List IosItem) (l : MapLine) (cs : List Change) → deletes l ≡ false → IsSmall l → cs ≡ changes_of l → AreOfLine all l cs
plain_line all l cs d k e = subst (λ (xs : List Change). AreOfLine all l xs) (sym e) (exact_line all l d k)

-- the change of a line that deletes
pub delete_line : (all : List IosItem) (list : List ℕ) (c : Change) (cs : List Change) → Deletes all list c → cs ≡ c ∷ [] → AreOfLine all (DeleteCommunities list) cs
delete_line all list c cs d e =
    subst (λ (xs : List Change). AreOfLine all (DeleteCommunities list) xs) (sym e) (of_line all (DeleteCommunities list) (c ∷ []) tt (λ r h. delete_acts all list c r d h) (d, tt))

-- a line that is no `set comm-list` deletes nothing
pub not_deleting : (l : MapLine) → ((list : List ℕ) → l ≡ DeleteCommunities list → ⊥) → deletes l ≡ false
not_deleting (DeleteCommunities list) h = absurd (h list refl)
not_deleting _ h = refl
