-- One rectangle, one entry and one list after the other: what is kept asks before the change what all of them ask behind.
use Rattle.std.proofs.Common.{◌≡◌, refl, sym, ap, subst, ◌∙◌, ℕ, ◌-◌, ◌≤◌, Bool, true, false, ◌&&◌, ◌||◌, List, [], ◌∷◌, ◌++◌, length, get_or, take, drop}
use Rattle.std.specs.List.{list_all}
use Rattle.std.proofs.lemmas.Bool.{and_parts, and_from}
use Rattle.std.proofs.lemmas.List.Folds.{list_all-append, list_any-append}
use Rattle.route_types.specs.Community.{RectParts}
use Rattle.route_types.specs.declared.community.Community.{Community}
use Rattle.route_types.specs.declared.community.CommChange.{CommChange}
use Rattle.community_sets.specs.Tests.{all_fitted, test_holds, list_answers}
use Rattle.community_sets.specs.declared.list.CommTest.{CommTest}
use Rattle.community_sets.specs.declared.list.CommTest.TheVariants.{AllOf}
use Rattle.community_sets.specs.declared.list.CommEntry.{CommEntry}
use Rattle.community_sets.specs.declared.list.CommList.{CommList}
use Rattle.community_cuts.specs.Earlier.{fitted, behind, IsCutInPart, ComesTo}
use Rattle.community_cuts.specs.Kept.{TestUncut, EntriesUncut, ListsUncut, asks_for, entries_ask, lists_ask, some_permits, TestComesTo, still_asks, TakesRect, RectsSoFar, answers_or, TakesEntry, EntryTaken, EntriesSoFar, ListsSoFar, EntriesBefore, ListsBefore}
use Rattle.community_cuts.specs.declared.member.Member.{Member}
use Rattle.community_cuts.specs.declared.member.Member.TheVariants.{Held, Kept, Gone, Parted}
use Rattle.community_cuts.specs.declared.kept.TestBefore.{TestBefore}
use Rattle.community_cuts.specs.declared.kept.TestBefore.TheVariants.{Never, Asked, Split}
use Rattle.community_cuts.proofs.Tails.{tail_is, none_ahead}

and_right : (a : Bool) → (a && true) ≡ a
and_right true = refl
and_right false = refl

and_none : (a b : Bool) → (a && (false && b)) ≡ false
and_none true b = refl
and_none false b = refl

and_three : (a b c : Bool) → ((a && b) && c) ≡ (a && (b && c))
and_three true b c = refl
and_three false b c = refl

or_none : (a : Bool) → (a || false) ≡ a
or_none true = refl
or_none false = refl

or_three : (a b c : Bool) → ((a || b) || c) ≡ (a || (b || c))
or_three true b c = refl
or_three false b c = refl

-- a test of all that was kept, and of one more, and of what is ahead
said_next : {A : Type 0} (test : A → Bool) (kept new : List A) (x : A) (ahead : List A) → (list_all test kept && (test x && list_all test ahead)) ≡ true → (list_all test kept ≡ true → test x ≡ true → list_all test new ≡ true) → (list_all test new && list_all test ahead) ≡ true
said_next test kept new x ahead all taken =
    let p = and_parts (list_all test kept) (test x && list_all test ahead) all in
    let q = and_parts (test x) (list_all test ahead) p.1 in
    and_from (list_all test new) (list_all test ahead) (taken p.0 q.0) q.1

said_pushed : {A : Type 0} (test : A → Bool) (kept new : List A) (x : A) → new ≡ kept ++ x ∷ [] → list_all test kept ≡ true → test x ≡ true → list_all test new ≡ true
said_pushed {A} test kept new x e a b =
    ap (λ (xs : List A). list_all test xs) e ∙ list_all-append test kept (x ∷ []) ∙ and_from (list_all test kept) (test x && true) a (and_from (test x) true b refl)

-- ---- one rectangle after the other

pub takes_held : (kept : List RectParts) (r : RectParts) (change : CommChange) (m : Member) → m ≡ Held → ComesTo m r change → TakesRect kept kept r change
takes_held kept r change m e h =
    let k : (set : List Community) → fitted r (behind change set) ≡ true = subst (λ (x : Member). ComesTo x r change) e h in
    record { fits = λ set. sym (ap (λ (b : Bool). all_fitted kept set && b) (k set) ∙ and_right (all_fitted kept set)); said = λ on_rect a b. a }

pub takes_kept : (kept new : List RectParts) (r : RectParts) (change : CommChange) (m : Member) → m ≡ Kept → ComesTo m r change → new ≡ kept ++ r ∷ [] → TakesRect kept new r change
takes_kept kept new r change m e h n =
    let k : (set : List Community) → fitted r (behind change set) ≡ fitted r set = subst (λ (x : Member). ComesTo x r change) e h in
    record {
      fits = λ set.
          ap (λ (xs : List RectParts). all_fitted xs set) n ∙ list_all-append (λ (x : RectParts). fitted x set) kept (r ∷ []) ∙ ap (λ (b : Bool). all_fitted kept set && b) (and_right (fitted r set) ∙ sym (k set));
      said = λ on_rect a b. said_pushed on_rect kept new r n a b;
    }

pub gone_from : (r : RectParts) (change : CommChange) (m : Member) → m ≡ Gone → ComesTo m r change → (set : List Community) → fitted r (behind change set) ≡ false
gone_from r change m e h = subst (λ (x : Member). ComesTo x r change) e h

pub parted_from : (r : RectParts) (change : CommChange) (m : Member) → m ≡ Parted → ComesTo m r change → IsCutInPart r change
parted_from r change m e h = (subst (λ (x : Member). ComesTo x r change) e h).cut

pub rects_first : (all : List RectParts) (change : CommChange) → RectsSoFar all [] all change
rects_first all change = record { fits = λ set. refl; said = λ on_rect h. h; uncut = λ h. h }

rects_on : (all kept new : List RectParts) (r : RectParts) (ahead : List RectParts) (change : CommChange) → RectsSoFar all kept (r ∷ ahead) change → TakesRect kept new r change → RectsSoFar all new ahead change
rects_on all kept new r ahead change s t = record {
  fits = λ set.
      ap (λ (b : Bool). b && all_fitted ahead (behind change set)) (t.fits set) ∙ and_three (all_fitted kept set) (fitted r (behind change set)) (all_fitted ahead (behind change set)) ∙ s.fits set;
  said = λ on_rect h. said_next on_rect kept new r ahead (s.said on_rect h) (t.said on_rect);
  uncut = λ h. (s.uncut h).1;
}

pub rects_next : (all kept new rest : List RectParts) (r : RectParts) (m : ℕ) (change : CommChange) → RectsSoFar all kept rest change → TakesRect kept new r change → 1 ≤ length rest → r ≡ get_or rest 0 r → m ≡ length rest - 1 → RectsSoFar all new (take m (drop 1 rest)) change
rects_next all kept new rest r m change s t long first short =
    rects_on all kept new r (take m (drop 1 rest)) change (subst (λ (xs : List RectParts). RectsSoFar all kept xs change) (tail_is rest r m long first short) s) t

pub rects_fail : (all kept rest : List RectParts) (r : RectParts) (change : CommChange) → RectsSoFar all kept rest change → ((set : List Community) → fitted r (behind change set) ≡ false) → 1 ≤ length rest → r ≡ get_or rest 0 r → (set : List Community) → all_fitted all (behind change set) ≡ false
rects_fail all kept rest r change s none long first set =
    let ahead : List RectParts = take (length rest - 1) (drop 1 rest) in
    let t : RectsSoFar all kept (r ∷ ahead) change = subst (λ (xs : List RectParts). RectsSoFar all kept xs change) (tail_is rest r (length rest - 1) long first refl) s in
    sym (t.fits set) ∙ ap (λ (b : Bool). all_fitted kept set && (b && all_fitted ahead (behind change set))) (none set) ∙ and_none (all_fitted kept set) (all_fitted ahead (behind change set))

pub rects_part : (all kept rest : List RectParts) (r : RectParts) (change : CommChange) → RectsSoFar all kept rest change → IsCutInPart r change → 1 ≤ length rest → r ≡ get_or rest 0 r → TestUncut change (AllOf all) → ⊥
rects_part all kept rest r change s part long first uncut =
    let t : RectsSoFar all kept (r ∷ take (length rest - 1) (drop 1 rest)) change = subst (λ (xs : List RectParts). RectsSoFar all kept xs change) (tail_is rest r (length rest - 1) long first refl) s in
    (t.uncut uncut).0 part

pub rects_end : (all kept rest : List RectParts) (change : CommChange) → RectsSoFar all kept rest change → length rest ≤ 0 → (set : List Community) → all_fitted all (behind change set) ≡ all_fitted kept set
rects_end all kept rest change s h set =
    let t : RectsSoFar all kept [] change = subst (λ (xs : List RectParts). RectsSoFar all kept xs change) (none_ahead rest h) s in
    sym (t.fits set) ∙ and_right (all_fitted kept set)

pub rects_said : (all kept rest : List RectParts) (change : CommChange) → RectsSoFar all kept rest change → (on_rect : RectParts → Bool) → list_all on_rect all ≡ true → list_all on_rect kept ≡ true
rects_said all kept rest change s on_rect h = (and_parts (list_all on_rect kept) (list_all on_rect rest) (s.said on_rect h)).0

-- ---- one entry after the other

-- the answer of an entry, or of what comes behind it
abbrev entry_or : CommEntry → Bool → List Community → Bool
entry_or e other set = elim (test_holds e.test set) [ true ↦ e.permit | false ↦ other ]

one_more : (es : List CommEntry) (e : CommEntry) (other : Bool) (set : List Community) → answers_or (es ++ e ∷ []) other set ≡ answers_or es (entry_or e other set) set
unfolding answers_or
one_more [] e other set = refl
one_more (x ∷ es) e other set = ap (λ (b : Bool). elim (test_holds x.test set) [ true ↦ x.permit | false ↦ b ]) (one_more es e other set)

or_denied : (es : List CommEntry) (set : List Community) → answers_or es false set ≡ list_answers es set
unfolding answers_or list_answers
or_denied [] set = refl
or_denied (x ∷ es) set = ap (λ (b : Bool). elim (test_holds x.test set) [ true ↦ x.permit | false ↦ b ]) (or_denied es set)

pub takes_never : (kept : List CommEntry) (e : CommEntry) (change : CommChange) (b : TestBefore) → b ≡ Never → TestComesTo b e.test change → TakesEntry kept kept e change
takes_never kept e change b is h =
    let k : (set : List Community) → test_holds e.test (behind change set) ≡ false = subst (λ (x : TestBefore). TestComesTo x e.test change) is h in
    record {
      answers = λ other set. sym (ap (λ (t : Bool). answers_or kept (elim t [ true ↦ e.permit | false ↦ other ]) set) (k set));
      said = λ on_rect a b. a;
    }

pub takes_asked : (kept new : List CommEntry) (e f : CommEntry) (change : CommChange) (b : TestBefore) (rects : List RectParts) → b ≡ Asked rects → TestComesTo b e.test change
    → ((on_rect : RectParts → Bool) → asks_for on_rect e.test ≡ true → still_asks on_rect b ≡ true) → f ≡ record { permit = e.permit; test = AllOf rects } → new ≡ kept ++ f ∷ [] → TakesEntry kept new e change
takes_asked kept new e f change b rects is h asked f_is new_is =
    let k : (set : List Community) → test_holds e.test (behind change set) ≡ all_fitted rects set = subst (λ (x : TestBefore). TestComesTo x e.test change) is h in
    let g : CommEntry = record { permit = e.permit; test = AllOf rects } in
    let pushed : new ≡ kept ++ g ∷ [] = new_is ∙ ap (λ (x : CommEntry). kept ++ x ∷ []) f_is in
    record {
      answers = λ other set.
          ap (λ (es : List CommEntry). answers_or es other set) pushed ∙ one_more kept g other set ∙ sym (ap (λ (t : Bool). answers_or kept (elim t [ true ↦ e.permit | false ↦ other ]) set) (k set));
      said = λ on_rect a s. said_pushed (λ (x : CommEntry). asks_for on_rect x.test) kept new g pushed a (subst (λ (x : TestBefore). still_asks on_rect x ≡ true) is (asked on_rect s));
    }

pub split_from : (change : CommChange) (test : CommTest) (b : TestBefore) → b ≡ Split → TestComesTo b test change → TestUncut change test → ⊥
split_from change test b is h = subst (λ (x : TestBefore). TestComesTo x test change) is h

pub entries_first : (all : List CommEntry) (change : CommChange) → EntriesSoFar all [] all change
unfolding answers_or
entries_first all change = record { answers = λ set. refl; said = λ on_rect h. h; uncut = λ h. h }

entries_on : (all kept new : List CommEntry) (e : CommEntry) (ahead : List CommEntry) (change : CommChange) → EntriesSoFar all kept (e ∷ ahead) change → TakesEntry kept new e change → EntriesSoFar all new ahead change
unfolding list_answers
entries_on all kept new e ahead change s t = record {
  answers = λ set. t.answers (list_answers ahead (behind change set)) set ∙ s.answers set;
  said = λ on_rect h. said_next (λ (x : CommEntry). asks_for on_rect x.test) kept new e ahead (s.said on_rect h) (t.said on_rect);
  uncut = λ h. (s.uncut h).1;
}

pub entries_next : (all kept new rest : List CommEntry) (e : CommEntry) (m : ℕ) (change : CommChange) (goes_on : Bool) → EntriesSoFar all kept rest change → goes_on ≡ true → EntryTaken goes_on kept new e change → 1 ≤ length rest → e ≡ get_or rest 0 e → m ≡ length rest - 1 → EntriesSoFar all new (take m (drop 1 rest)) change
entries_next all kept new rest e m change goes_on s is t long first short =
    entries_on all kept new e (take m (drop 1 rest)) change (subst (λ (xs : List CommEntry). EntriesSoFar all kept xs change) (tail_is rest e m long first short) s) (subst (λ (b : Bool). EntryTaken b kept new e change) is t)

pub entries_part : (all kept new rest : List CommEntry) (e : CommEntry) (change : CommChange) (goes_on : Bool) → EntriesSoFar all kept rest change → goes_on ≡ false → EntryTaken goes_on kept new e change → 1 ≤ length rest → e ≡ get_or rest 0 e → EntriesUncut change all → ⊥
entries_part all kept new rest e change goes_on s is t long first uncut =
    let u : EntriesSoFar all kept (e ∷ take (length rest - 1) (drop 1 rest)) change = subst (λ (xs : List CommEntry). EntriesSoFar all kept xs change) (tail_is rest e (length rest - 1) long first refl) s in
    let cut : TestUncut change e.test → ⊥ = subst (λ (b : Bool). EntryTaken b kept new e change) is t in
    cut (u.uncut uncut).0

pub entries_end : (all kept rest : List CommEntry) (change : CommChange) → EntriesSoFar all kept rest change → length rest ≤ 0 → EntriesBefore kept all change
unfolding list_answers
entries_end all kept rest change s h =
    let t : EntriesSoFar all kept [] change = subst (λ (xs : List CommEntry). EntriesSoFar all kept xs change) (none_ahead rest h) s in
    record {
      answers = λ set. sym (or_denied kept set) ∙ t.answers set;
      said = λ on_rect a. (and_parts (entries_ask on_rect kept) true (t.said on_rect a)).0;
    }

-- ---- one list after the other

pub lists_first : (all : List CommList) (change : CommChange) → ListsSoFar all [] all change
lists_first all change = record { permits = λ set. refl; said = λ on_rect h. h; uncut = λ h. h }

lists_on : (all kept new : List CommList) (l found : CommList) (ahead : List CommList) (change : CommChange) → ListsSoFar all kept (l ∷ ahead) change → EntriesBefore found.entries l.entries change → new ≡ kept ++ found ∷ [] → ListsSoFar all new ahead change
lists_on all kept new l found ahead change s t n = record {
  permits = λ set.
      let first : some_permits new set ≡ (some_permits kept set || list_answers l.entries (behind change set)) =
      ap (λ (xs : List CommList). some_permits xs set) n ∙ list_any-append (λ (x : CommList). list_answers x.entries set) kept (found ∷ []) ∙ ap (λ (b : Bool). some_permits kept set || b) (or_none (list_answers found.entries set) ∙ t.answers set) in
      ap (λ (b : Bool). b || some_permits ahead (behind change set)) first ∙ or_three (some_permits kept set) (list_answers l.entries (behind change set)) (some_permits ahead (behind change set)) ∙ s.permits set;
  said = λ on_rect h.
      said_next (λ (x : CommList). entries_ask on_rect x.entries) kept new l ahead (s.said on_rect h) (λ a b. said_pushed (λ (x : CommList). entries_ask on_rect x.entries) kept new found n a (t.said on_rect b));
  uncut = λ h. (s.uncut h).1;
}

pub lists_next : (all kept new rest : List CommList) (l found : CommList) (m : ℕ) (change : CommChange) → ListsSoFar all kept rest change → EntriesBefore found.entries l.entries change → new ≡ kept ++ found ∷ [] → 1 ≤ length rest → l ≡ get_or rest 0 l → m ≡ length rest - 1 → ListsSoFar all new (take m (drop 1 rest)) change
lists_next all kept new rest l found m change s t n long first short =
    lists_on all kept new l found (take m (drop 1 rest)) change (subst (λ (xs : List CommList). ListsSoFar all kept xs change) (tail_is rest l m long first short) s) t n

pub lists_part : (all kept rest : List CommList) (l : CommList) (change : CommChange) → ListsSoFar all kept rest change → (EntriesUncut change l.entries → ⊥) → 1 ≤ length rest → l ≡ get_or rest 0 l → ListsUncut change all → ⊥
lists_part all kept rest l change s cut long first uncut =
    let u : ListsSoFar all kept (l ∷ take (length rest - 1) (drop 1 rest)) change = subst (λ (xs : List CommList). ListsSoFar all kept xs change) (tail_is rest l (length rest - 1) long first refl) s in
    cut (u.uncut uncut).0

pub lists_end : (all kept rest : List CommList) (change : CommChange) → ListsSoFar all kept rest change → length rest ≤ 0 → ListsBefore kept all change
lists_end all kept rest change s h =
    let t : ListsSoFar all kept [] change = subst (λ (xs : List CommList). ListsSoFar all kept xs change) (none_ahead rest h) s in
    record {
      permits = λ set. sym (or_none (some_permits kept set)) ∙ t.permits set;
      said = λ on_rect a. (and_parts (lists_ask on_rect kept) true (t.said on_rect a)).0;
    }
