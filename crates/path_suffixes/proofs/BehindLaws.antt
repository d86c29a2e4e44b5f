-- What a pattern still asks behind a number matches a path exactly where the pattern matches the longer path.
use Rattle.std.proofs.Common.{◌≡◌, refl, sym, ap, ◌∙◌, ℕ, ◌-◌, ◌↔◌, Bool, true, false, ◌&&◌, ◌||◌, List, [], ◌∷◌, ◌++◌, map}
use Rattle.std.specs.List.{list_any}
use Rattle.std.proofs.lemmas.List.Folds.{list_any-append}
use Rattle.path_patterns.specs.Items.{in_set, takes_of, Matches}
use Rattle.path_patterns.specs.PathMatches.{has_room, one_fewer, front_fits, whole_path, path_matches}
use Rattle.path_patterns.specs.declared.items.TokenItem.{TokenItem}
use Rattle.path_patterns.specs.declared.items.TokenBranch.{TokenBranch}
use Rattle.path_patterns.specs.declared.items.TokenPattern.{TokenPattern}
use Rattle.path_patterns.proofs.PathMatches.{path_decides}
use Rattle.path_suffixes.specs.Behind.{may_take, may_pass, one_taken, taken_first, items_behind, branches_behind, pattern_behind, pattern_behind_all}

-- some branch takes the whole path
abbrev some_whole : List TokenBranch → List ℕ → Bool
some_whole bs path = list_any (λ b. whole_path (map takes_of b.items) path) bs

taken_by : (n : ℕ) (i : TokenItem) (is : List TokenItem) (path : List ℕ) (b : Bool) → may_take n i ≡ b
    → some_whole (elim b [ true ↦ record { items = one_taken i ∷ is } ∷ [] | false ↦ [] ]) path ≡ (b && front_fits (in_set i.set) (i.least - 1) (one_fewer i.most) (λ rest. whole_path (map takes_of is) rest) path)
unfolding whole_path
taken_by n i is path true e = or_false (front_fits (in_set i.set) (i.least - 1) (one_fewer i.most) (λ rest. whole_path (map takes_of is) rest) path)
  where
    or_false : (b : Bool) → (b || false) ≡ b
    or_false true = refl
    or_false false = refl
taken_by n i is path false e = refl

passed_by : (bs : List TokenBranch) (path : List ℕ) (b : Bool) → some_whole (elim b [ true ↦ bs | false ↦ [] ]) path ≡ (b && some_whole bs path)
passed_by bs path true = refl
passed_by bs path false = refl

either_way : (pass room set front : Bool) → (((room && set) && front) || pass) ≡ (pass || (room && (set && front)))
either_way true true true true = refl
either_way true true true false = refl
either_way true true false front = refl
either_way true false set front = refl
either_way false true true true = refl
either_way false true true false = refl
either_way false true false front = refl
either_way false false set front = refl

-- the item takes the number, or passes it on
swapped : (take pass room set front : Bool) → take ≡ ((room && set) && front) → (take || pass) ≡ (pass || (room && (set && front)))
swapped take pass room set front e = ap (λ (b : Bool). b || pass) e ∙ either_way pass room set front

items_law : (n : ℕ) (is : List TokenItem) (path : List ℕ) → some_whole (items_behind n is) path ≡ whole_path (map takes_of is) (n ∷ path)
unfolding items_behind whole_path front_fits
items_law n [] path = refl
items_law n (i ∷ is) path =
    list_any-append (λ (b : TokenBranch). whole_path (map takes_of b.items) path) (taken_first n i is) (elim (may_pass i) [ true ↦ items_behind n is | false ↦ [] ])
    ∙ ap (λ (b : Bool). some_whole (taken_first n i is) path || b) (passed_by (items_behind n is) path (may_pass i) ∙ ap (λ (b : Bool). may_pass i && b) (items_law n is path))
    ∙ swapped (some_whole (taken_first n i is) path) (may_pass i && whole_path (map takes_of is) (n ∷ path)) (has_room i.most) (in_set i.set n) (front_fits (in_set i.set) (i.least - 1) (one_fewer i.most) (λ rest. whole_path (map takes_of is) rest) path)
    (taken_by n i is path (may_take n i) refl)

branches_law : (n : ℕ) (bs : List TokenBranch) (path : List ℕ) → some_whole (branches_behind n bs) path ≡ some_whole bs (n ∷ path)
unfolding branches_behind
branches_law n [] path = refl
branches_law n (b ∷ bs) path =
    list_any-append (λ (x : TokenBranch). whole_path (map takes_of x.items) path) (items_behind n b.items) (branches_behind n bs)
    ∙ ap (λ (x : Bool). x || some_whole (branches_behind n bs) path) (items_law n b.items path)
    ∙ ap (λ (x : Bool). whole_path (map takes_of b.items) (n ∷ path) || x) (branches_law n bs path)

-- what is left matches a path exactly where the pattern matches the path with the number in front
pub matches_behind : (n : ℕ) (p q : TokenPattern) → q ≡ pattern_behind n p → (path : List ℕ) → path_matches q path ≡ path_matches p (n ∷ path)
unfolding path_matches
matches_behind n p q e path = ap (λ (x : TokenPattern). path_matches x path) e ∙ branches_law n p.branches path

-- the same of the relation
pub relation_behind : (n : ℕ) (p q : TokenPattern) → q ≡ pattern_behind n p → (path : List ℕ) → Matches q path ↔ Matches p (n ∷ path)
relation_behind n p q e path =
    let same = matches_behind n p q e path in
    let one = path_decides q path in
    let other = path_decides p (n ∷ path) in
    (λ m. other.0 (sym same ∙ one.1 m), λ m. one.0 (same ∙ other.1 m))

-- the same of some numbers
all_law : (ns : List ℕ) (p : TokenPattern) (path : List ℕ) → path_matches (pattern_behind_all ns p) path ≡ path_matches p (ns ++ path)
unfolding pattern_behind_all
all_law [] p path = refl
all_law (n ∷ ns) p path = all_law ns (pattern_behind n p) path ∙ matches_behind n p (pattern_behind n p) refl (ns ++ path)

pub matches_behind_all : (ns : List ℕ) (p q : TokenPattern) → q ≡ pattern_behind_all ns p → (path : List ℕ) → path_matches q path ≡ path_matches p (ns ++ path)
matches_behind_all ns p q e path = ap (λ (x : TokenPattern). path_matches x path) e ∙ all_law ns p path
