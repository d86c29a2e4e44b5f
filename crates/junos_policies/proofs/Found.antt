-- Values that are noted stand at their places, each once.
use Rattle.std.proofs.Common.{◌≡◌, refl, sym, ap, ◌∙◌, suc, Bool, true, false, ◌||◌, List, [], ◌∷◌, ◌++◌, Some, if◌then◌else◌}
use Rattle.std.specs.Prelude.{slice_get}
use Rattle.std.specs.List.{list_any, AllByRecursion}
use Rattle.std.proofs.lemmas.List.Folds.{list_any-append}
use Rattle.junos_policies.specs.Noting.{noted, noted_all, place_in}

or_true : (a b : Bool) → b ≡ true → (a || b) ≡ true
or_true true b e = refl
or_true false b e = e

or_left : (a b : Bool) → a ≡ true → (a || b) ≡ true
or_left a b e = ap (λ k. k || b) e

module _ {D : Type 0} (same : D → D → Bool) (one_value : (a b : D) → same a b ≡ true → a ≡ b) (itself : (a : D) → same a a ≡ true) where
  -- the value is among these
  abbrev pub Has : List D → D → Type 0
  Has ds d = list_any (same d) ds ≡ true

  -- a value that is among others stands at its place
  pub place_found : (ds : List D) (d : D) → Has ds d → slice_get ds (place_in (same d) ds) ≡ Some d
  unfolding place_in
  place_found [] d h = absurd cc
  place_found (e ∷ es) d h = one (same d e) refl h (place_found es d) where
    one : (b : Bool) → same d e ≡ b → (b || list_any (same d) es) ≡ true → (list_any (same d) es ≡ true → slice_get es (place_in (same d) es) ≡ Some d)
        → slice_get (e ∷ es) (elim b [ true ↦ 0 | false ↦ suc (place_in (same d) es) ]) ≡ Some d
    one true is k more = ap (λ x. Some x) (sym (one_value d e is))
    one false is k more = more k

  still : (ds : List D) (x d : D) → Has ds d → Has (noted same ds x) d
  still ds x d h = one (list_any (same x) ds) where
    one : (b : Bool) → list_any (same d) (if b then ds else ds ++ x ∷ []) ≡ true
    one true = h
    one false = list_any-append (same d) ds (x ∷ []) ∙ or_left (list_any (same d) ds) (list_any (same d) (x ∷ [])) h

  -- it stays among them
  pub still_all : (xs ds : List D) (d : D) → Has ds d → Has (noted_all same ds xs) d
  unfolding noted_all
  still_all [] ds d h = h
  still_all (x ∷ xs) ds d h = still_all xs (noted same ds x) d (still ds x d h)

  now_there : (ds : List D) (x : D) → Has (noted same ds x) x
  now_there ds x = one (list_any (same x) ds) refl where
    one : (b : Bool) → list_any (same x) ds ≡ b → list_any (same x) (if b then ds else ds ++ x ∷ []) ≡ true
    one true e = e
    one false e = list_any-append (same x) ds (x ∷ []) ∙ or_true (list_any (same x) ds) (list_any (same x) (x ∷ [])) (or_left (same x x) false (itself x))

  -- those that were noted are there
  pub all_there : (xs ds : List D) → AllByRecursion (Has (noted_all same ds xs)) xs
  unfolding noted_all
  all_there [] ds = tt
  all_there (x ∷ xs) ds = (still_all xs (noted same ds x) x (now_there ds x), all_there xs (noted same ds x))

  -- those of a list that are there still are when more were noted
  pub all_still : (ys xs ds : List D) → AllByRecursion (Has ds) ys → AllByRecursion (Has (noted_all same ds xs)) ys
  all_still [] xs ds h = tt
  all_still (y ∷ ys) xs ds h = (still_all xs ds y h.0, all_still ys xs ds h.1)

module _ {D : Type 0} (same : D → D → Bool) (P : D → Type 0) where
  behind : (ds : List D) (x : D) → AllByRecursion P ds → P x → AllByRecursion P (ds ++ x ∷ [])
  behind [] x h p = (p, tt)
  behind (d ∷ ds) x h p = (h.0, behind ds x h.1 p)

  one_more : (ds : List D) (x : D) → AllByRecursion P ds → P x → AllByRecursion P (noted same ds x)
  one_more ds x h p = at (list_any (same x) ds) where
    at : (b : Bool) → AllByRecursion P (if b then ds else ds ++ x ∷ [])
    at true = h
    at false = behind ds x h p

  -- what holds for all that were noted holds for those that stand there
  pub noted_fit : (xs ds : List D) → AllByRecursion P ds → AllByRecursion P xs → AllByRecursion P (noted_all same ds xs)
  unfolding noted_all
  noted_fit [] ds h k = h
  noted_fit (x ∷ xs) ds h k = noted_fit xs (noted same ds x) (one_more ds x h k.0) k.1
