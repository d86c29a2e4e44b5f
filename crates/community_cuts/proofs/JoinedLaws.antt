-- Two changes as one: what is removed, and what is added, in one form.
use Rattle.std.proofs.Common.{◌≡◌, refl, sym, ap, ◌∙◌, Bool, true, false, cond, ◌&&◌, ◌||◌, List, [], ◌∷◌, ◌++◌}
use Rattle.std.specs.Prelude.{not, filter}
use Rattle.std.specs.List.{list_any, list_all}
use Rattle.std.proofs.lemmas.Bool.{and_parts, and_from}
use Rattle.std.proofs.lemmas.List.Folds.{list_any-append}
use Rattle.route_types.specs.Sets.{fits_some, set_by}
use Rattle.route_types.specs.Community.{RectParts, fits, number, set_of, set_after}
use Rattle.route_types.specs.declared.community.Community.{Community}
use Rattle.route_types.proofs.Sets.{same_community, any-set, ascending_same, set_ascending}

-- ---- the same removals and the same members

filter_same : {C : Type 0} (p q : C → Bool) (cs : List C) → ((c : C) → p c ≡ q c) → filter p cs ≡ filter q cs
filter_same p q [] h = refl
filter_same {C} p q (c ∷ cs) h =
    ap (λ (b : Bool). cond b (c ∷ filter p cs) (filter p cs)) (h c) ∙ ap (λ (xs : List C). cond (q c) (c ∷ xs) xs) (filter_same p q cs h)

set_behind : (xs ys : List Community) → set_by number (xs ++ set_by number ys) ≡ set_by number (xs ++ ys)
set_behind xs ys =
    ascending_same number same_community (set_by number (xs ++ set_by number ys)) (set_by number (xs ++ ys)) (set_ascending number (xs ++ set_by number ys)) (set_ascending number (xs ++ ys))
    (λ q. any-set number same_community q (xs ++ set_by number ys) ∙ list_any-append q xs (set_by number ys) ∙ ap (λ (b : Bool). list_any q xs || b) (any-set number same_community q ys)
    ∙ sym (list_any-append q xs ys) ∙ sym (any-set number same_community q (xs ++ ys)))

-- changes that remove the same and add the same set act alike
pub same_acts : (rs qs : List RectParts) (added more : List Community) → ((c : Community) → fits_some fits rs c ≡ fits_some fits qs c) → more ≡ set_of added → (set : List Community) → set_after rs more set ≡ set_after qs added set
same_acts rs qs added more same e set =
    ap (λ (xs : List Community). set_by number (filter (λ c. not (fits_some fits rs c)) set ++ xs)) e
    ∙ set_behind (filter (λ c. not (fits_some fits rs c)) set) added
    ∙ ap (λ (xs : List Community). set_by number (xs ++ added)) (filter_same (λ c. not (fits_some fits rs c)) (λ c. not (fits_some fits qs c)) set (λ c. ap (λ (b : Bool). not b) (same c)))

-- what is removed by the two, in the one form and in the other
pub same_removed : (rs qs both kept : List RectParts) → both ≡ rs ++ qs → ((c : Community) → fits_some fits kept c ≡ (fits_some fits rs c || fits_some fits qs c)) → (c : Community) → fits_some fits kept c ≡ fits_some fits both c
same_removed rs qs both kept e h c =
    h c ∙ sym (list_any-append (λ (r : RectParts). fits r c) rs qs) ∙ sym (ap (λ (xs : List RectParts). fits_some fits xs c) e)

-- ---- rectangles that no removed one has all of

-- some rectangles are looked at, and those kept and those ahead remove what all of them do, beside the later removals
pub record Uncovered (all later kept ahead : List RectParts) : Type 0 where
  pub fits : (c : Community) → (fits_some fits kept c || (fits_some fits ahead c || fits_some fits later c)) ≡ (fits_some fits all c || fits_some fits later c)
  pub said : (on_rect : RectParts → Bool) → list_all on_rect all ≡ true → (list_all on_rect kept && list_all on_rect ahead) ≡ true

pub uncovered_at_first : (all later : List RectParts) → Uncovered all later [] all
uncovered_at_first all later = record { fits = λ c. refl; said = λ on_rect h. h }

next_by : (old new here ahead later : Bool) → (new || later) ≡ (old || (here || later)) → (new || (ahead || later)) ≡ (old || ((here || ahead) || later))
next_by old new here ahead true e = after old new here ahead
  where
    or_true : (b : Bool) → (b || true) ≡ true
    or_true true = refl
    or_true false = refl

    after : (old new here ahead : Bool) → (new || (ahead || true)) ≡ (old || ((here || ahead) || true))
    after true true here ahead = refl
    after true false here ahead = or_true ahead
    after false true here ahead = sym (or_true (here || ahead))
    after false false here ahead = or_true ahead ∙ sym (or_true (here || ahead))
next_by old new here ahead false e = plain old new here ahead e
  where
    plain : (old new here ahead : Bool) → (new || false) ≡ (old || (here || false)) → (new || (ahead || false)) ≡ (old || ((here || ahead) || false))
    plain old true here ahead e = both old here ahead e
      where
        both : (old here ahead : Bool) → true ≡ (old || (here || false)) → true ≡ (old || ((here || ahead) || false))
        both true here ahead e = refl
        both false true ahead e = refl
        both false false ahead e = absurd cc
    plain true false here ahead e = absurd cc
    plain false false true ahead e = absurd cc
    plain false false false ahead e = refl

pub uncovered_next : (all later kept new : List RectParts) (r : RectParts) (ahead : List RectParts) → Uncovered all later kept (r ∷ ahead)
    → ((c : Community) → (fits_some fits new c || fits_some fits later c) ≡ (fits_some fits kept c || (fits r c || fits_some fits later c)))
    → ((on_rect : RectParts → Bool) → list_all on_rect kept ≡ true → on_rect r ≡ true → list_all on_rect new ≡ true)
    → Uncovered all later new ahead
uncovered_next all later kept new r ahead u fit said = record {
  fits = λ c. next_by (fits_some fits kept c) (fits_some fits new c) (fits r c) (fits_some fits ahead c) (fits_some fits later c) (fit c) ∙ u.fits c;
  said = λ on_rect h.
      let p = and_parts (list_all on_rect kept) (on_rect r && list_all on_rect ahead) (u.said on_rect h) in
      let q = and_parts (on_rect r) (list_all on_rect ahead) p.1 in
      and_from (list_all on_rect new) (list_all on_rect ahead) (said on_rect p.0 q.0) q.1;
}

-- a rectangle that a removed one has all of removes nothing more
pub removed_anyway : (r : RectParts) (later : List RectParts) (c : Community) → (fits r c ≡ true → fits_some fits later c ≡ true) → (fits r c || fits_some fits later c) ≡ fits_some fits later c
removed_anyway r later c h = by (fits r c) (fits_some fits later c) h
  where
    by : (a b : Bool) → (a ≡ true → b ≡ true) → (a || b) ≡ b
    by true b h = sym (h refl)
    by false b h = refl
