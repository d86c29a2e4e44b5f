-- Worked examples that the checker computes.
use Rattle.std.proofs.Common.{◌≡◌, refl, ℕ, List, [], ◌∷◌, Some, None, true, false}
use Rattle.path_patterns.specs.Items.{greatest}
use Rattle.path_patterns.specs.PathMatches.{path_matches, whole_path, front_fits}
use Rattle.path_patterns.specs.declared.items.TokenItem.{TokenItem}
use Rattle.path_patterns.specs.declared.items.TokenPattern.{TokenPattern}
use Rattle.path_suffixes.specs.Behind.{items_behind, branches_behind, pattern_behind, pattern_behind_all}

-- one number, once
abbrev one : ℕ → TokenItem
one n = record { set = record { ranges = record { least = n; most = n } ∷ [] }; least = 1; most = Some 1 }

-- any numbers
abbrev any : TokenItem
any = record { set = record { ranges = record { least = 0; most = greatest } ∷ [] }; least = 0; most = None }

abbrev pattern : List TokenItem → TokenPattern
pattern items = record { branches = record { items = items } ∷ [] }

-- `.* 65001 .*` is matched behind 65001 by every path ..
found : path_matches (pattern_behind 65001 (pattern (any ∷ one 65001 ∷ any ∷ []))) [] ≡ true
unfolding path_matches whole_path front_fits items_behind branches_behind pattern_behind_all
found = refl

-- .. and behind another number only where it is still to come
not_yet : path_matches (pattern_behind 65002 (pattern (any ∷ one 65001 ∷ any ∷ []))) [] ≡ false
unfolding path_matches whole_path front_fits items_behind branches_behind pattern_behind_all
not_yet = refl

still_to_come : path_matches (pattern_behind 65002 (pattern (any ∷ one 65001 ∷ any ∷ []))) (65001 ∷ []) ≡ true
unfolding path_matches whole_path front_fits items_behind branches_behind pattern_behind_all
still_to_come = refl

-- one number behind that number is the empty path, and behind another number none
taken_whole : path_matches (pattern_behind 65001 (pattern (one 65001 ∷ []))) [] ≡ true
unfolding path_matches whole_path front_fits items_behind branches_behind pattern_behind_all
taken_whole = refl

none_left : path_matches (pattern_behind 65001 (pattern (one 65001 ∷ []))) (65001 ∷ []) ≡ false
unfolding path_matches whole_path front_fits items_behind branches_behind pattern_behind_all
none_left = refl

-- the first of two numbers stands first
in_turn : path_matches (pattern_behind_all (1 ∷ 2 ∷ []) (pattern (one 1 ∷ one 2 ∷ one 3 ∷ []))) (3 ∷ []) ≡ true
unfolding path_matches whole_path front_fits items_behind branches_behind pattern_behind_all
in_turn = refl
