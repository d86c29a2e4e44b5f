-- The walks over words, as the program takes them.
use Rattle.std.proofs.Common.{◌≡◌, refl, sym, ap, ◌∙◌, ℕ, suc, ◌+◌, ◌-◌, true, false, List, [], ◌∷◌, ◌++◌, append_assoc, length, take, drop, Option, Some, None, arith}
use Rattle.std.specs.Prelude.{option_map, codes}
use Rattle.std.proofs.lemmas.List.{take_all, length-drop, take-map, drop-map}
use Rattle.route_types.specs.Words.{◌>>=◌}
use Rattle.text_words.specs.declared.statement.Word.{Word}
use Rattle.rpl_words.specs.Tokens.{Token, token, tokens, is_key, place_of, parted, between, with_first, each_of, commas}

-- ---- the place of a keyword

-- a place counted from one word further
pub place_more : (n : ℕ) (o : Option ℕ) → option_map (λ k. n + 1 + k) o ≡ option_map (λ k. n + k) (option_map (λ k. suc k) o)
place_more n None = refl
place_more n (Some k) = ap (λ (x : ℕ). Some x) (omega arith)

-- the two parts at a place
abbrev cut_at : List Token → ℕ → List Token × List Token
cut_at ts n = (take n ts, drop (suc n) ts)

-- one more word in front of the first part
abbrev in_front : Token → List Token × List Token → List Token × List Token
in_front t p = (t ∷ p.0, p.1)

cut_more : (t : Token) (ts : List Token) (o : Option ℕ) → option_map (in_front t) (option_map (cut_at ts) o) ≡ option_map (cut_at (t ∷ ts)) (option_map (λ n. suc n) o)
cut_more t ts None = refl
cut_more t ts (Some n) = refl

-- the parts stand before and behind the place of the keyword
parted_place : (key : List ℕ) (ts : List Token) → parted key ts ≡ option_map (cut_at ts) (place_of key ts)
unfolding parted place_of
parted_place key [] = refl
parted_place key (t ∷ ts) =
    elim (is_key key t) as (λ b. (elim b [ true ↦ Some ([], ts) | false ↦ option_map (in_front t) (parted key ts) ]) ≡ option_map (cut_at (t ∷ ts)) (elim b [ true ↦ Some 0 | false ↦ option_map (λ n. suc n) (place_of key ts) ])) [
      | true ↦ refl
      | false ↦ ap (λ (o : Option (List Token × List Token)). option_map (in_front t) o) (parted_place key ts) ∙ cut_more t ts (place_of key ts)
    ]

-- the two parts, as the program cuts them
pub parted_cut : (key : List ℕ) (n : ℕ) (ws : List Word) → Some n ≡ place_of key (tokens ws)
    → Some (tokens (take n ws), tokens (take (length ws - (n + 1)) (drop (n + 1) ws))) ≡ parted key (tokens ws)
parted_cut key n ws e =
    let one : n + 1 ≡ suc n = omega arith in
    let whole : tokens (take (length ws - (n + 1)) (drop (n + 1) ws)) ≡ drop (suc n) (tokens ws) =
    ap (λ (x : List Word). tokens x) (take_all (length ws - (n + 1)) (drop (n + 1) ws) (omega (arith, length-drop (n + 1) ws))) ∙ ap (λ (k : ℕ). tokens (drop k ws)) one ∙ sym (drop-map token (suc n) ws) in
    ap (λ (x : List Token). Some (x, tokens (take (length ws - (n + 1)) (drop (n + 1) ws)))) (sym (take-map token n ws))
    ∙ ap (λ (x : List Token). Some (take n (tokens ws), x)) whole
    ∙ ap (λ (o : Option ℕ). option_map (cut_at (tokens ws)) o) e ∙ sym (parted_place key (tokens ws))

-- nothing is parted where the keyword stands nowhere
pub parted_none : (key : List ℕ) (ws : List Word) → None ≡ place_of key (tokens ws) → None ≡ parted key (tokens ws)
parted_none key ws e = ap (λ (o : Option ℕ). option_map (cut_at (tokens ws)) o) e ∙ sym (parted_place key (tokens ws))

-- ---- what stands between commas

abbrev pub between_by : List Token → Option (List Token × List Token) → List (List Token)
between_by ts None = ts ∷ []
between_by ts (Some p) = p.0 ∷ between p.1

first_more : (t : Token) (ts : List Token) (o : Option (List Token × List Token)) → with_first t (between_by ts o) ≡ between_by (t ∷ ts) (option_map (in_front t) o)
first_more t ts None = refl
first_more t ts (Some p) = refl

-- the first word list ends at the first comma
pub between_parted : (ts : List Token) → between ts ≡ between_by ts (parted (codes ",") ts)
unfolding between parted
between_parted [] = refl
between_parted (t ∷ ts) =
    elim (is_key (codes ",") t) as (λ b. (elim b [ true ↦ [] ∷ between ts | false ↦ with_first t (between ts) ]) ≡ between_by (t ∷ ts) (elim b [ true ↦ Some ([], ts) | false ↦ option_map (in_front t) (parted (codes ",") ts) ])) [
      | true ↦ refl
      | false ↦ ap (λ (x : List (List Token)). with_first t x) (between_parted ts) ∙ first_more t ts (parted (codes ",") ts)
    ]

-- the values behind those that were found
abbrev pub found_before : {A : Type 0} → List A → Option (List A) → Option (List A)
found_before found o = option_map (λ xs. found ++ xs) o

one_more : {A : Type 0} (found : List A) (x : A) (o : Option (List A)) → found_before (found ++ x ∷ []) o ≡ found_before found (o >>= λ xs. Some (x ∷ xs))
one_more found x None = refl
one_more {A} found x (Some xs) = ap (λ (ys : List A). Some ys) (append_assoc found (x ∷ []) xs)

-- a comma, and a value before it
pub comma_found : {A : Type 0} (f : List Token → Option A) (found more : List A) (x : A) (ts front tail : List Token)
    → more ≡ found ++ x ∷ [] → Some (front, tail) ≡ parted (codes ",") ts → Some x ≡ f front → found_before more (commas f tail) ≡ found_before found (commas f ts)
unfolding each_of
comma_found {A} f found more x ts front tail m e h =
    ap (λ (xs : List A). found_before xs (commas f tail)) m ∙ one_more found x (commas f tail)
    ∙ sym (ap (λ (o : List (List Token)). found_before found (each_of f o)) (between_parted ts ∙ ap (λ (o : Option (List Token × List Token)). between_by ts o) (sym e)) ∙ rw (sym h) refl)

-- a comma, and no value before it
pub comma_none : {A : Type 0} (f : List Token → Option A) (found : List A) (ts front tail : List Token)
    → Some (front, tail) ≡ parted (codes ",") ts → None ≡ f front → None ≡ found_before found (commas f ts)
unfolding each_of
comma_none f found ts front tail e h =
    sym (ap (λ (o : List (List Token)). found_before found (each_of f o)) (between_parted ts ∙ ap (λ (o : Option (List Token × List Token)). between_by ts o) (sym e)) ∙ rw (sym h) refl)

-- no comma, and a value
pub last_found : {A : Type 0} (f : List Token → Option A) (found more : List A) (x : A) (ts : List Token)
    → more ≡ found ++ x ∷ [] → None ≡ parted (codes ",") ts → Some x ≡ f ts → Some more ≡ found_before found (commas f ts)
unfolding each_of
last_found {A} f found more x ts m e h =
    ap (λ (xs : List A). Some xs) m ∙ sym (ap (λ (o : List (List Token)). found_before found (each_of f o)) (between_parted ts ∙ ap (λ (o : Option (List Token × List Token)). between_by ts o) (sym e)) ∙ rw (sym h) refl)

-- no comma, and no value
pub last_none : {A : Type 0} (f : List Token → Option A) (found : List A) (ts : List Token) → None ≡ parted (codes ",") ts → None ≡ f ts → None ≡ found_before found (commas f ts)
unfolding each_of
last_none f found ts e h =
    sym (ap (λ (o : List (List Token)). found_before found (each_of f o)) (between_parted ts ∙ ap (λ (o : Option (List Token × List Token)). between_by ts o) (sym e)) ∙ rw (sym h) refl)
