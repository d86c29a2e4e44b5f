-- The function that matches a path answers by the relation, and as the rows and the search do.
use Rattle.std.proofs.Common.{◌≡◌, refl, sym, ap, subst, ℕ, suc, ◌-◌, ◌≤◌, Bool, true, false, ◌&&◌, ◌||◌, nat_le, List, [], ◌∷◌, ◌++◌, length, Option, Some, None, map, arith, inl, inr, ◌⊎◌}
use Rattle.std.specs.Bool.{Decides}
use Rattle.std.specs.List.{list_all}
use Rattle.std.proofs.lemmas.Bool.{and_parts, and_from, leb-true, le-leb}
use Rattle.std.proofs.lemmas.Bool.Decides.{Decides-like, same_from_decides}
use Rattle.path_patterns.specs.Finds.{finds_in}
use Rattle.path_patterns.specs.Items.{IsPath, Takes, AtMost, Taken, takes_of, BranchMatches, Matches}
use Rattle.path_patterns.specs.PathMatches.{has_room, one_fewer, front_fits, whole_path, path_matches}
use Rattle.path_patterns.specs.Rows.{pattern_takes}
use Rattle.path_patterns.specs.Shape.{IsShaped}
use Rattle.path_patterns.specs.TokenForm.{token_form}
use Rattle.path_patterns.specs.declared.items.TokenBranch.{TokenBranch}
use Rattle.path_patterns.specs.declared.items.TokenPattern.{TokenPattern}
use Rattle.path_patterns.specs.declared.pattern.IosBranch.{IosBranch}
use Rattle.path_patterns.proofs.FindsFound.{finds_in_decides}
use Rattle.path_patterns.proofs.Lists.{any_decides}
use Rattle.path_patterns.proofs.RowLaws.{pattern_decides}
use Rattle.path_patterns.proofs.TokensFound.{tokens_found}

-- the front of a path is taken, and the rest of it is as told
abbrev FrontTaken : (ℕ → Bool) → ℕ → Option ℕ → (List ℕ → Type 0) → List ℕ → Type 0
FrontTaken fits least most K path =
    (front : List ℕ) × (rest : List ℕ) × (path ≡ front ++ rest) × (list_all fits front ≡ true) × ((least ≤ length front) × AtMost (length front) most) × K rest

none_at_most : (most : Option ℕ) → AtMost 0 most
none_at_most None = tt
none_at_most (Some most) = omega arith

more_at_most : (n : ℕ) (most : Option ℕ) → has_room most ≡ true → AtMost n (one_fewer most) → AtMost (suc n) most
more_at_most n None e h = tt
more_at_most n (Some most) e h = let l : 1 ≤ most = leb-true 1 most e in omega (arith, l, h)

room_for_more : (n : ℕ) (most : Option ℕ) → AtMost (suc n) most → (has_room most ≡ true) × AtMost n (one_fewer most)
room_for_more n None h = (refl, tt)
room_for_more n (Some most) h = (le-leb 1 most (omega (arith, h)), omega (arith, h))

-- the first number is not taken, or it is
first_by : (f : ℕ → Bool) (k : List ℕ → Bool) (K : List ℕ → Type 0) → ((rest : List ℕ) → Decides (k rest) (K rest)) → (n : ℕ) (ns : List ℕ) (least : ℕ) (most : Option ℕ) (more : Bool)
    → (more ≡ true → FrontTaken f (least - 1) (one_fewer most) K ns) → ((nat_le least 0 && k (n ∷ ns)) ≡ true) ⊎ ((has_room most && (f n && more)) ≡ true) → FrontTaken f least most K (n ∷ ns)
first_by f k K d n ns least most more taken (inl h) =
    let a = and_parts (nat_le least 0) (k (n ∷ ns)) h in
    ([], n ∷ ns, refl, refl, (leb-true least 0 a.0, none_at_most most), (d (n ∷ ns)).0 a.1)
first_by f k K d n ns least most more taken (inr h) =
    let a = and_parts (has_room most) (f n && more) h in
    let b = and_parts (f n) more a.1 in
    let t = taken b.1 in
    let low : least - 1 ≤ length t.0 = t.4.0 in
    (n ∷ t.0, t.1, ap (λ (x : List ℕ). n ∷ x) t.2, and_from (f n) (list_all f t.0) b.0 t.3, (omega (arith, low), more_at_most (length t.0) most a.0 t.4.1), t.5)

-- one of two tests holds
one_of_two : (x y : Bool) → (x || y) ≡ true → (x ≡ true) ⊎ (y ≡ true)
one_of_two true y e = inl refl
one_of_two false y e = inr e

first_or : (x y : Bool) → x ≡ true → (x || y) ≡ true
first_or true y e = refl
first_or false y e = absurd cc

second_or : (x y : Bool) → y ≡ true → (x || y) ≡ true
second_or true y e = refl
second_or false y e = e

front_to : (f : ℕ → Bool) (k : List ℕ → Bool) (K : List ℕ → Type 0) → ((rest : List ℕ) → Decides (k rest) (K rest)) → (path : List ℕ) (least : ℕ) (most : Option ℕ) → front_fits f least most k path ≡ true → FrontTaken f least most K path
unfolding front_fits
front_to f k K d [] least most e =
    let a = and_parts (nat_le least 0) (k []) e in
    ([], [], refl, refl, (leb-true least 0 a.0, none_at_most most), (d []).0 a.1)
front_to f k K d (n ∷ ns) least most e =
    first_by f k K d n ns least most (front_fits f (least - 1) (one_fewer most) k ns) (front_to f k K d ns (least - 1) (one_fewer most))
    (one_of_two (nat_le least 0 && k (n ∷ ns)) (has_room most && (f n && front_fits f (least - 1) (one_fewer most) k ns)) e)

front_here : (f : ℕ → Bool) (k : List ℕ → Bool) (rest : List ℕ) (least : ℕ) (most : Option ℕ) → nat_le least 0 ≡ true → k rest ≡ true → front_fits f least most k rest ≡ true
unfolding front_fits
front_here f k [] least most e h = and_from (nat_le least 0) (k []) e h
front_here f k (n ∷ ns) least most e h =
    first_or (nat_le least 0 && k (n ∷ ns)) (has_room most && (f n && front_fits f (least - 1) (one_fewer most) k ns)) (and_from (nat_le least 0) (k (n ∷ ns)) e h)

front_from : (f : ℕ → Bool) (k : List ℕ → Bool) (front rest : List ℕ) (least : ℕ) (most : Option ℕ) → list_all f front ≡ true → least ≤ length front → AtMost (length front) most → k rest ≡ true → front_fits f least most k (front ++ rest) ≡ true
unfolding front_fits
front_from f k [] rest least most e low high h = front_here f k rest least most (le-leb least 0 low) h
front_from f k (n ∷ ns) rest least most e low high h =
    let a = and_parts (f n) (list_all f ns) e in
    let r = room_for_more (length ns) most high in
    let b = front_from f k ns rest (least - 1) (one_fewer most) a.1 (omega (arith, low)) r.1 h in
    second_or (nat_le least 0 && k (n ∷ (ns ++ rest))) (has_room most && (f n && front_fits f (least - 1) (one_fewer most) k (ns ++ rest)))
    (and_from (has_room most) (f n && front_fits f (least - 1) (one_fewer most) k (ns ++ rest)) r.0 (and_from (f n) (front_fits f (least - 1) (one_fewer most) k (ns ++ rest)) a.0 b))

front_decides : (f : ℕ → Bool) (least : ℕ) (most : Option ℕ) (k : List ℕ → Bool) (K : List ℕ → Type 0) → ((rest : List ℕ) → Decides (k rest) (K rest)) → (path : List ℕ) → Decides (front_fits f least most k path) (FrontTaken f least most K path)
front_decides f least most k K d path = (
  front_to f k K d path least most,
  λ t. subst (λ (x : List ℕ). front_fits f least most k x ≡ true) (sym t.2) (front_from f k t.0 t.1 least most t.3 t.4.0 t.4.1 ((d t.1).1 t.5)),
)

whole_decides : (ts : List Takes) (path : List ℕ) → Decides (whole_path ts path) (Taken ts path)
unfolding whole_path Taken
whole_decides [] [] = (λ e. refl, λ e. refl)
whole_decides [] (n ∷ ns) = (λ e. absurd cc, λ e. absurd cc)
whole_decides (t ∷ ts) path = front_decides t.fits t.least t.most (λ rest. whole_path ts rest) (λ rest. Taken ts rest) (λ rest. whole_decides ts rest) path

-- the function is true exactly where the pattern matches the path
pub path_decides : (p : TokenPattern) (path : List ℕ) → Decides (path_matches p path) (Matches p path)
unfolding path_matches
path_decides p path =
    any_decides (λ (b : TokenBranch). whole_path (map takes_of b.items) path) (λ (b : TokenBranch). BranchMatches b path) (λ (b : TokenBranch). whole_decides (map takes_of b.items) path) p.branches

-- the rows answer as the function does
pub rows_match : (p : TokenPattern) (path : List ℕ) → pattern_takes p path ≡ path_matches p path
rows_match p path = same_from_decides (pattern_takes p path) (path_matches p path) (pattern_decides p path) (path_decides p path)

-- the items of an IOS pattern match a path where the search finds the pattern
pub tokens_match : (bs : List IosBranch) (t : TokenPattern) → IsShaped bs → t ≡ token_form bs → (path : List ℕ) → IsPath path → path_matches t path ≡ finds_in bs path
tokens_match bs t shaped e path p =
    let f = tokens_found bs t shaped e path p in
    same_from_decides (path_matches t path) (finds_in bs path) (Decides-like (path_matches t path) f.0 f.1 (path_decides t path)) (finds_in_decides bs path)
