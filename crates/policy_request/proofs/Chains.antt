-- The names of a chain: the walks over its word find them.
use Rattle.std.proofs.Common.{◌≡◌, refl, sym, ap, subst, ◌∙◌, ℕ, zero, suc, ◌+◌, ◌-◌, ◌<◌, ◌≤◌, Bool, true, false, ◌&&◌, not, List, [], ◌∷◌, ◌++◌, append_assoc, length, get_or, take, drop, arith}
use Rattle.std.specs.Prelude.{◌==◌}
use Rattle.std.specs.Borrow.{Bor}
use Rattle.std.proofs.lemmas.Bool.Decides.{nat_tests}
use Rattle.std.proofs.lemmas.List.{take_all, map_push}
use Rattle.policy_request.specs.Languages.{names_from, are_given, are_given_from}
use Rattle.policy_request.specs.Languages.{texts_of}

-- ---- no name is empty

and_true : (b : Bool) → b ≡ (b && true)
and_true true = refl
and_true false = refl

longer : (begun : List ℕ) (c : ℕ) → not (length (begun ++ c ∷ []) == 0) ≡ true
longer [] c = refl
longer (b ∷ bs) c = grind (arith, nat_tests)

given_from : (begun cs : List ℕ) → are_given_from (not (length begun == 0)) cs ≡ are_given (names_from begun cs)
unfolding are_given_from names_from
given_from begun [] = and_true (not (length begun == 0))
given_from begun (c ∷ cs) = here (c == 44) (given_from [] cs) (given_from (begun ++ c ∷ []) cs)
  where
    here : (t : Bool) → are_given_from false cs ≡ are_given (names_from [] cs) → are_given_from (not (length (begun ++ c ∷ []) == 0)) cs ≡ are_given (names_from (begun ++ c ∷ []) cs)
        → ◌≡◌ {A = Bool} (elim t [ true ↦ not (length begun == 0) && are_given_from false cs | false ↦ are_given_from true cs ])
        (are_given (elim t [ true ↦ begun ∷ names_from [] cs | false ↦ names_from (begun ++ c ∷ []) cs ]))
    here true rest more = ap (λ (b : Bool). not (length begun == 0) && b) rest
    here false rest more = ap (λ (b : Bool). are_given_from b cs) (sym (longer begun c)) ∙ more

-- the walk tells whether no name is empty
pub given : (word : List ℕ) → are_given_from false word ≡ are_given (names_from [] word)
given word = given_from [] word

-- the walk at its end
pub given_at_end : (begun : Bool) (rest word : List ℕ) → length rest < 1 → are_given_from begun rest ≡ are_given_from false word → begun ≡ are_given (names_from [] word)
unfolding are_given_from
given_at_end begun [] word none so_far = so_far ∙ given word
given_at_end begun (b ∷ bs) word none so_far = absurd (omega arith)

-- ---- the names

-- so far these names were found of a word; of the next one so many bytes of a text, and what is left is the rest of it
pub record Splits (so_far : List (Bor (List ℕ))) (from : List ℕ) (begun : ℕ) (rest word : List ℕ) : Type 0 where
  pub names : texts_of so_far ++ names_from (take begun from) rest ≡ names_from [] word
  pub left : rest ≡ drop begun from
  pub within : begun ≤ length from
  pub few : begun + length rest ≤ length word

-- what is left behind the first byte
abbrev pub behind : List ℕ → List ℕ
behind rest = take (length rest - 1) (drop 1 rest)

apart : (rest : List ℕ) (byte : ℕ) → 1 ≤ length rest → byte ≡ get_or rest 0 0 → rest ≡ byte ∷ behind rest
apart [] byte some is = absurd (omega arith)
apart (b ∷ bs) byte some is =
    let whole : take (length (b ∷ bs) - 1) bs ≡ bs = take_all (length (b ∷ bs) - 1) bs (omega arith) in
    rw (whole, is) refl

at_comma : (begun cs : List ℕ) (byte : ℕ) → byte ≡ 44 → names_from begun (byte ∷ cs) ≡ begun ∷ names_from [] cs
unfolding names_from
at_comma begun cs byte is = ap (λ (t : Bool). elim t [ true ↦ begun ∷ names_from [] cs | false ↦ names_from (begun ++ byte ∷ []) cs ]) (comma byte is)
  where
    comma : (b : ℕ) → b ≡ 44 → (b == 44) ≡ true
    comma b e = grind (arith, nat_tests)

at_other : (begun cs : List ℕ) (byte : ℕ) → (byte ≡ 44 → ⊥) → names_from begun (byte ∷ cs) ≡ names_from (begun ++ byte ∷ []) cs
unfolding names_from
at_other begun cs byte is = ap (λ (t : Bool). elim t [ true ↦ begun ∷ names_from [] cs | false ↦ names_from (begun ++ byte ∷ []) cs ]) (other byte is)
  where
    other : (b : ℕ) → (b ≡ 44 → ⊥) → (b == 44) ≡ false
    other b e = grind (arith, nat_tests)

-- a comma ends a name
pub one_name : (names more : List (Bor (List ℕ))) (name : Bor (List ℕ)) (from rest word : List ℕ) (begun byte : ℕ) → 1 ≤ length rest → byte ≡ get_or rest 0 0 → byte ≡ 44 → name.now ≡ take begun from
    → more ≡ names ++ name ∷ [] → Splits names from begun rest word → Splits more (behind rest) 0 (behind rest) word
one_name names more name from rest word begun byte some first is named pushed so_far = record {
  names = ap (λ (ns : List (Bor (List ℕ))). texts_of ns ++ names_from [] (behind rest)) pushed
      ∙ ap (λ (ns : List (List ℕ)). ns ++ names_from [] (behind rest)) (map_push (λ (n : Bor (List ℕ)). n.now) names name)
      ∙ append_assoc (texts_of names) (name.now ∷ []) (names_from [] (behind rest))
      ∙ ap (λ (n : List ℕ). texts_of names ++ n ∷ names_from [] (behind rest)) named
      ∙ ap (λ (ns : List (List ℕ)). texts_of names ++ ns) (sym (at_comma (take begun from) (behind rest) byte is))
      ∙ ap (λ (bytes : List ℕ). texts_of names ++ names_from (take begun from) bytes) (sym (apart rest byte some first))
      ∙ so_far.names;
  left = refl;
  within = omega arith;
  few = let longer : length rest ≡ suc (length (behind rest)) = ap (λ (bytes : List ℕ). length bytes) (apart rest byte some first) in omega (arith, so_far.few);
}

next_byte : (from : List ℕ) (begun byte : ℕ) (tail : List ℕ) → drop begun from ≡ byte ∷ tail
    → (begun < length from) × (take (begun + 1) from ≡ take begun from ++ byte ∷ []) × (tail ≡ drop (begun + 1) from)
next_byte [] zero byte tail e = absurd cc
next_byte [] (suc n) byte tail e = absurd cc
next_byte (b ∷ bs) zero byte tail e =
    let first : b ≡ byte = cc in
    let others : bs ≡ tail = cc in
    (omega arith, ap (λ (x : ℕ). x ∷ []) first, sym others)
next_byte (b ∷ bs) (suc n) byte tail e =
    let more = next_byte bs n byte tail e in
    let one_more : suc n + 1 ≡ suc (n + 1) = omega arith in (
      omega (arith, more.0),
      ap (λ (m : ℕ). take m (b ∷ bs)) one_more ∙ ap (λ (xs : List ℕ). b ∷ xs) more.1,
      more.2 ∙ ap (λ (m : ℕ). drop m (b ∷ bs)) (sym one_more),
    )

-- another byte goes on with a name
pub one_byte : (names : List (Bor (List ℕ))) (from rest word : List ℕ) (begun byte : ℕ) → 1 ≤ length rest → byte ≡ get_or rest 0 0 → (byte ≡ 44 → ⊥)
    → Splits names from begun rest word → Splits names from (begun + 1) (behind rest) word
one_byte names from rest word begun byte some first is so_far =
    let cut = apart rest byte some first in
    let next = next_byte from begun byte (behind rest) (sym so_far.left ∙ cut) in
    record {
      names = ap (λ (bytes : List ℕ). texts_of names ++ names_from bytes (behind rest)) next.1
          ∙ ap (λ (ns : List (List ℕ)). texts_of names ++ ns) (sym (at_other (take begun from) (behind rest) byte is))
          ∙ ap (λ (bytes : List ℕ). texts_of names ++ names_from (take begun from) bytes) (sym cut)
          ∙ so_far.names;
      left = next.2;
      within = omega (arith, next.0);
      few = let longer : length rest ≡ suc (length (behind rest)) = ap (λ (bytes : List ℕ). length bytes) cut in omega (arith, so_far.few);
    }

taken_whole : (from : List ℕ) (begun : ℕ) → drop begun from ≡ [] → take begun from ≡ from
taken_whole [] zero e = refl
taken_whole [] (suc n) e = refl
taken_whole (b ∷ bs) zero e = absurd cc
taken_whole (b ∷ bs) (suc n) e = ap (λ (xs : List ℕ). b ∷ xs) (taken_whole bs n e)

-- the last name
pub last_name : (names more : List (Bor (List ℕ))) (name : Bor (List ℕ)) (from rest word : List ℕ) (begun : ℕ) → length rest < 1 → name.now ≡ from → more ≡ names ++ name ∷ []
    → Splits names from begun rest word → texts_of more ≡ names_from [] word
unfolding names_from
last_name names more name from (b ∷ bs) word begun none named pushed so_far = absurd (omega arith)
last_name names more name from [] word begun none named pushed so_far =
    ap texts_of pushed
    ∙ map_push (λ (n : Bor (List ℕ)). n.now) names name
    ∙ ap (λ (n : List ℕ). texts_of names ++ n ∷ []) (named ∙ sym (taken_whole from begun (sym so_far.left)))
    ∙ so_far.names

-- ---- there is a name

some_from : (begun cs : List ℕ) → 0 < length (names_from begun cs)
unfolding names_from
some_from begun [] = omega arith
some_from begun (c ∷ cs) = here (c == 44) (some_from (begun ++ c ∷ []) cs)
  where
    here : (t : Bool) → 0 < length (names_from (begun ++ c ∷ []) cs) → 0 < length {A = List ℕ} (elim t [ true ↦ begun ∷ names_from [] cs | false ↦ names_from (begun ++ c ∷ []) cs ])
    here true more = omega arith
    here false more = more

length_some : (names : List (Bor (List ℕ))) → 0 < length (texts_of names) → 0 < length names
length_some [] some = absurd (omega (arith, some))
length_some (n ∷ ns) some = omega arith

-- there is a name in a word
pub some_names : (word : List ℕ) (lent names : List (Bor (List ℕ))) → lent ≡ names → texts_of names ≡ names_from [] word → 0 < length lent
some_names word lent names same is = length_some lent (subst (λ (ns : List (List ℕ)). 0 < length ns) (sym (ap texts_of same ∙ is)) (some_from [] word))
