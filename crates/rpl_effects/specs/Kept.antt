-- What stands under the name of a policy and the words that are handed to it, all of them lent.
use Rattle.std.specs.Prelude.{ℕ, List, Option, Vec, map}
use Rattle.std.specs.Borrow.{Bor}
use Rattle.std.specs.declared.alloc.Global.{Global}
use Rattle.std.specs.Ordering.{nat_cmp}
use Rattle.std.specs.Cmp.Lexicographic.{slice_cmp}
use Rattle.std.specs.BTreeMap.{BTreeMap, get}
use Rattle.rpl_effects.specs.declared.kept.Found.{Found}

-- the name and the words, in the code
abbrev pub Key : Type 0
Key = Vec (Bor (List ℕ)) Global

-- what they are
abbrev pub words_of : Key → List (List ℕ)
words_of key = map (λ w. w.now) key.items

-- what was found under them
abbrev pub kept_at : BTreeMap Key Found → Key → Option Found
kept_at m key = get (λ x y. slice_cmp (λ v w. slice_cmp nat_cmp v.now w.now) x.items y.items) m key
