-- Maps of words: the words that the parameters of an applied policy stand for.
use Rattle.std.proofs.Common.{◌≡◌, refl, ap, ◌∙◌, ℕ, ◌-◌, ◌<◌, ◌≤◌, Bool, true, false, List, [], ◌∷◌, Option, Some, None, length, get_or, take, drop, arith}
use Rattle.std.proofs.lemmas.List.{take_all}
use Rattle.std.specs.Prelude.{bytes_eq}
use Rattle.std.specs.Borrow.{Bor}
use Rattle.std.specs.Option.{option_map_or}
use Rattle.name_maps.specs.Under.{under, first_of}
use Rattle.rpl_forms.specs.declared.item.Argument.{Argument}
use Rattle.rpl_meaning.specs.Blocks.{WordMap, word_or, word_in}
use Rattle.rpl_meaning.specs.Handed.{first_word}
use Rattle.rpl_meaning.specs.Sets.{Bindings, handed}

abbrev word_of : Option (Bor (List ℕ)) → List ℕ → List ℕ
word_of o rest = option_map_or (λ w. w.now) o rest

-- what is put under a name stands in front of what is found behind
put_in_front : (o n : Option (Bor (List ℕ))) (v : Bor (List ℕ)) (word rest : List ℕ) (b : Bool) → v.now ≡ word → n ≡ elim b [ true ↦ first_of o v | false ↦ o ]
    → word_of n rest ≡ word_of o (elim b [ true ↦ word | false ↦ rest ])
put_in_front (Some x) n v word rest true same e = ap (λ (m : Option (Bor (List ℕ))). word_of m rest) e
put_in_front None n v word rest true same e = ap (λ (m : Option (Bor (List ℕ))). word_of m rest) e ∙ same
put_in_front (Some x) n v word rest false same e = ap (λ (m : Option (Bor (List ℕ))). word_of m rest) e
put_in_front None n v word rest false same e = ap (λ (m : Option (Bor (List ℕ))). word_of m rest) e

-- without arguments nothing is handed on
nothing_handed : (bs : Bindings) (names : List (List ℕ)) (x : List ℕ) → handed bs names [] x ≡ []
unfolding handed
nothing_handed bs [] x = refl
nothing_handed bs (y ∷ names) x = refl

either_way : (b : Bool) → elim b as (λ _. List ℕ) [ true ↦ [] | false ↦ [] ] ≡ []
either_way true = refl
either_way false = refl

-- the first name is handed the first argument
first_handed : (bs : Bindings) (y : List ℕ) (names : List (List ℕ)) (given : List Argument) (x : List ℕ) → elim (bytes_eq x y) [ true ↦ first_word bs given | false ↦ handed bs names (drop 1 given) x ] ≡ handed bs (y ∷ names) given x
unfolding handed
first_handed bs y names [] x = ap (λ (ws : List ℕ). elim (bytes_eq x y) [ true ↦ [] | false ↦ ws ]) (nothing_handed bs names x) ∙ either_way (bytes_eq x y)
first_handed bs y names (a ∷ given) x = refl

pub one_handed : (bs : Bindings) (m more : WordMap) (n : ℕ) (names : List (List ℕ)) (given next : List Argument) (first name : List ℕ) (v : Bor (List ℕ)) (whole : Bindings)
    → 1 ≤ length names → first ≡ get_or names 0 first → n ≡ length names - 1 → name ≡ first → v.now ≡ first_word bs given → next ≡ drop 1 given
    → ((x : List ℕ) → under more x ≡ elim (bytes_eq x name) [ true ↦ first_of (under m x) v | false ↦ under m x ])
    → ((x : List ℕ) → word_or m (handed bs names given x) x ≡ whole x) → (x : List ℕ) → word_or more (handed bs (take n (drop 1 names)) next x) x ≡ whole x
one_handed bs m more n [] given next first name v whole long is len same word rest put sofar x = absurd (omega arith)
one_handed bs m more n (y ∷ names) given next first name v whole long is len same word rest put sofar x =
    ap (λ (ys : List (List ℕ)). word_or more (handed bs ys next x) x) (take_all n names (omega (arith, len)))
    ∙ ap (λ (gs : List Argument). word_or more (handed bs names gs x) x) rest
    ∙ put_in_front (under m x) (under more x) v (first_word bs given) (handed bs names (drop 1 given) x) (bytes_eq x y) word
    (put x ∙ ap (λ (w : List ℕ). elim (bytes_eq x w) [ true ↦ first_of (under m x) v | false ↦ under m x ]) (same ∙ is))
    ∙ ap (λ (ws : List ℕ). word_or m ws x) (first_handed bs y names given x)
    ∙ sofar x

pub all_handed : (bs : Bindings) (m : WordMap) (names : List (List ℕ)) (given : List Argument) (whole : Bindings) → length names < 1
    → ((x : List ℕ) → word_or m (handed bs names given x) x ≡ whole x) → (x : List ℕ) → word_in m x ≡ whole x
unfolding handed
all_handed bs m [] given whole short sofar x = sofar x
all_handed bs m (y ∷ names) given whole short sofar x = absurd (omega arith)
