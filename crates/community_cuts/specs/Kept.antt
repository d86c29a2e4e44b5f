-- Which tests of entries, and which community lists, one list can still say before a change of the communities (Cisco
-- IOS command reference, 'ip community-list').
use Rattle.std.specs.Prelude.{◌≡◌, Bool, true, false, ◌&&◌, ◌||◌, List, [], ◌∷◌}
use Rattle.std.specs.List.{list_any, list_all, AllByRecursion}
use Rattle.route_types.specs.Community.{RectParts}
use Rattle.route_types.specs.declared.community.Community.{Community}
use Rattle.route_types.specs.declared.community.CommChange.{CommChange}
use Rattle.community_sets.specs.Tests.{all_fitted, test_holds, list_answers}
use Rattle.community_sets.specs.declared.list.CommTest.{CommTest}
use Rattle.community_sets.specs.declared.list.CommTest.TheVariants.{AllOf, Exactly}
use Rattle.community_sets.specs.declared.list.CommEntry.{CommEntry}
use Rattle.community_sets.specs.declared.list.CommList.{CommList}
use Rattle.community_cuts.specs.Earlier.{fitted, behind, IsCutInPart}
use Rattle.community_cuts.specs.declared.kept.TestBefore.{TestBefore}
use Rattle.community_cuts.specs.declared.kept.TestBefore.TheVariants.{Never, Asked, Split}
use Rattle.community_cuts.specs.declared.kept.Turn.{Turn}
use Rattle.community_cuts.specs.declared.kept.Turn.TheVariants.{GoesOn, Fails, Parts}

-- ---- what can be said in one list

-- no rectangle of the test is cut in part, and it doesn't ask for the whole set
abbrev pub TestUncut : CommChange → CommTest → Type 0
TestUncut change (AllOf rects) = AllByRecursion (λ r. IsCutInPart r change → ⊥) rects
TestUncut change (Exactly set) = ⊥

-- the same of each entry
abbrev pub EntriesUncut : CommChange → List CommEntry → Type 0
EntriesUncut change entries = AllByRecursion (λ e. TestUncut change e.test) entries

-- and of each list
abbrev pub ListsUncut : CommChange → List CommList → Type 0
ListsUncut change lists = AllByRecursion (λ l. EntriesUncut change l.entries) lists

-- the test asks for rectangles, each of which passes
abbrev pub asks_for : (RectParts → Bool) → CommTest → Bool
asks_for on_rect (AllOf rects) = list_all on_rect rects
asks_for on_rect (Exactly set) = false

abbrev pub entries_ask : (RectParts → Bool) → List CommEntry → Bool
entries_ask on_rect entries = list_all (λ e. asks_for on_rect e.test) entries

abbrev pub lists_ask : (RectParts → Bool) → List CommList → Bool
lists_ask on_rect lists = list_all (λ l. entries_ask on_rect l.entries) lists

-- one of the lists permits the set
abbrev pub some_permits : List CommList → List Community → Bool
some_permits lists set = list_any (λ l. list_answers l.entries set) lists

-- ---- what a test comes to

-- what is known of a test, by what it comes to
abbrev pub TestComesTo : TestBefore → CommTest → CommChange → Type 0
TestComesTo Never test change = (set : List Community) → test_holds test (behind change set) ≡ false
TestComesTo (Asked rects) test change = (set : List Community) → test_holds test (behind change set) ≡ all_fitted rects set
TestComesTo Split test change = TestUncut change test → ⊥

-- the rectangles that are still asked for pass
abbrev pub still_asks : (RectParts → Bool) → TestBefore → Bool
still_asks on_rect Never = true
still_asks on_rect (Asked rects) = list_all on_rect rects
still_asks on_rect Split = true

-- ---- one rectangle after the other

-- the rectangle is taken: it is asked for still, or it holds
pub record TakesRect (old new : List RectParts) (r : RectParts) (change : CommChange) : Type 0 where
  pub fits : (set : List Community) → all_fitted new set ≡ (all_fitted old set && fitted r (behind change set))
  pub said : (on_rect : RectParts → Bool) → list_all on_rect old ≡ true → on_rect r ≡ true → list_all on_rect new ≡ true

abbrev pub RectTaken : Turn → List RectParts → List RectParts → RectParts → CommChange → Type 0
RectTaken GoesOn old new r change = TakesRect old new r change
RectTaken Fails old new r change = (set : List Community) → fitted r (behind change set) ≡ false
RectTaken Parts old new r change = IsCutInPart r change

-- those kept and those ahead ask for what all of them do
pub record RectsSoFar (all kept ahead : List RectParts) (change : CommChange) : Type 0 where
  pub fits : (set : List Community) → (all_fitted kept set && all_fitted ahead (behind change set)) ≡ all_fitted all (behind change set)
  pub said : (on_rect : RectParts → Bool) → list_all on_rect all ≡ true → (list_all on_rect kept && list_all on_rect ahead) ≡ true
  pub uncut : AllByRecursion (λ r. IsCutInPart r change → ⊥) all → AllByRecursion (λ r. IsCutInPart r change → ⊥) ahead

-- ---- one entry after the other

-- the first entry whose test holds decides, and where none does the answer is this
unfoldable pub answers_or : List CommEntry → Bool → List Community → Bool
answers_or [] other set = other
answers_or (e ∷ es) other set = elim (test_holds e.test set) [ true ↦ e.permit | false ↦ answers_or es other set ]

pub record TakesEntry (old new : List CommEntry) (e : CommEntry) (change : CommChange) : Type 0 where
  pub answers : (other : Bool) (set : List Community) → answers_or new other set ≡ answers_or old (elim (test_holds e.test (behind change set)) [ true ↦ e.permit | false ↦ other ]) set
  pub said : (on_rect : RectParts → Bool) → entries_ask on_rect old ≡ true → asks_for on_rect e.test ≡ true → entries_ask on_rect new ≡ true

-- the entry is taken, or can't be said in one list
abbrev pub EntryTaken : Bool → List CommEntry → List CommEntry → CommEntry → CommChange → Type 0
EntryTaken true old new e change = TakesEntry old new e change
EntryTaken false old new e change = TestUncut change e.test → ⊥

pub record EntriesSoFar (all kept ahead : List CommEntry) (change : CommChange) : Type 0 where
  pub answers : (set : List Community) → answers_or kept (list_answers ahead (behind change set)) set ≡ list_answers all (behind change set)
  pub said : (on_rect : RectParts → Bool) → entries_ask on_rect all ≡ true → (entries_ask on_rect kept && entries_ask on_rect ahead) ≡ true
  pub uncut : EntriesUncut change all → EntriesUncut change ahead

-- ---- one list after the other

pub record ListsSoFar (all kept ahead : List CommList) (change : CommChange) : Type 0 where
  pub permits : (set : List Community) → (some_permits kept set || some_permits ahead (behind change set)) ≡ some_permits all (behind change set)
  pub said : (on_rect : RectParts → Bool) → lists_ask on_rect all ≡ true → (lists_ask on_rect kept && lists_ask on_rect ahead) ≡ true
  pub uncut : ListsUncut change all → ListsUncut change ahead

-- ---- what lists come to

-- entries that ask before the change what these ask behind it
pub record EntriesBefore (found entries : List CommEntry) (change : CommChange) : Type 0 where
  pub answers : (set : List Community) → list_answers found set ≡ list_answers entries (behind change set)
  pub said : (on_rect : RectParts → Bool) → entries_ask on_rect entries ≡ true → entries_ask on_rect found ≡ true

-- lists that ask before the change what these ask behind it
pub record ListsBefore (found lists : List CommList) (change : CommChange) : Type 0 where
  pub permits : (set : List Community) → some_permits found set ≡ some_permits lists (behind change set)
  pub said : (on_rect : RectParts → Bool) → lists_ask on_rect lists ≡ true → lists_ask on_rect found ≡ true
