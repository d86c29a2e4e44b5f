-- Worked examples that the checker computes.
use Rattle.std.proofs.Common.{◌≡◌, refl, List, [], ◌∷◌, ◌++◌, ℕ, map}
use Rattle.std.specs.Prelude.{Some, None, codes}
use Rattle.route_types.specs.Words.{number_in}
use Rattle.policy_text.specs.Phrases.{texts, after, only, each, some_each, name_in, optional_at}

behind : after (codes "set" ∷ codes "metric" ∷ []) (codes "set" ∷ codes "metric" ∷ codes "5" ∷ []) ≡ Some (codes "5" ∷ [])
unfolding after
behind = refl

too_short : after (codes "set" ∷ codes "metric" ∷ []) (codes "set" ∷ []) ≡ None
unfolding after
too_short = refl

other_word : after (codes "set" ∷ codes "metric" ∷ []) (codes "set" ∷ codes "weight" ∷ codes "5" ∷ []) ≡ None
unfolding after
other_word = refl

two_words : only (number_in 9) (codes "5" ∷ codes "6" ∷ []) ≡ None
two_words = refl

both : some_each (number_in 9) (codes "5" ∷ codes "6" ∷ []) ≡ Some (5 ∷ 6 ∷ [])
unfolding each number_in
both = refl

no_word : some_each (number_in 9) [] ≡ None
no_word = refl

one_of_two : some_each (number_in 9) (codes "5" ∷ codes "10" ∷ []) ≡ None
unfolding each number_in
one_of_two = refl

no_name : name_in (codes "a{b") ≡ None
no_name = refl

-- `seq 5` behind the name, and what stands behind it
with_number : optional_at (codes "seq" ∷ []) (number_in 9) (codes "seq" ∷ codes "5" ∷ codes "permit" ∷ []) ≡ Some (Some 5, codes "permit" ∷ [])
unfolding after number_in
with_number = refl

without_number : optional_at (codes "seq" ∷ []) (number_in 9) (codes "permit" ∷ []) ≡ Some (None, codes "permit" ∷ [])
unfolding after
without_number = refl
