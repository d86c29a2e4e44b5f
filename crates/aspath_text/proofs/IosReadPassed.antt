-- Sets, tails and pieces stand whole where a text is cut.
use Rattle.std.proofs.Common.{◌≡◌, refl, sym, ap, ◌∙◌, subst, ℕ, ◌+◌, ◌-◌, false, ◌&&◌, List, [], ◌∷◌, ◌++◌, arith, inl, inr}
use Rattle.std.specs.Prelude.{◌==◌, codes}
use Rattle.std.specs.List.{concat, AllByRecursion}
use Rattle.route_types.specs.RouteText.{Each}
use Rattle.aspath_text.specs.IosGrammar.{joined_by, SpellsWord, SpellsSet, SpellsTail, SpellsPiece, repeat_sign}
use Rattle.aspath_text.specs.IosRead.{depth_behind}
use Rattle.path_patterns.specs.declared.pattern.DigitWord.{DigitWord}
use Rattle.path_patterns.specs.declared.pattern.Piece.{Piece}
use Rattle.path_patterns.specs.declared.pattern.Piece.TheVariants.{Anything, Set}
use Rattle.path_patterns.specs.declared.pattern.Tail.{Tail}
use Rattle.path_patterns.specs.declared.pattern.Repeat.{Repeat}
use Rattle.path_patterns.specs.declared.pattern.Repeat.TheVariants.{Star, Plus, Maybe}
use Rattle.aspath_text.proofs.IosReadFoundPieces.{led}
use Rattle.aspath_text.proofs.IosReadPasses.{Passes, AllPass, Cuts, AllPlain, passes_append, plain_passes, inside_test, word_plain, opening_cuts}

-- what follows of each pair holds of each text
pub each_text : {A B : Type 0} (P : A → B → Type 0) (Q : A → Type 0) → ((x : A) (y : B) → P x y → Q x) → (xs : List A) (ys : List B) → Each P xs ys → AllByRecursion Q xs
each_text P Q to [] ys h = tt
each_text P Q to (x ∷ xs) [] h = absurd h
each_text P Q to (x ∷ xs) (y ∷ ys) h = (to x y h.0, each_text P Q to xs ys h.1)

-- ---- sets

-- words joined by `|` cut nothing where `|` doesn't
joined_passes : (b d : ℕ) (ts : List (List ℕ)) → Cuts b → (124 == b && d == 0) ≡ false → AllByRecursion AllPlain ts → Passes b d (joined_by 124 ts) d
unfolding joined_by
joined_passes b d [] other bar h = refl
joined_passes b d (t ∷ []) other bar h = plain_passes b d t other h.0
joined_passes b d (t ∷ u ∷ us) other bar h = passes_append b d d d t (124 ∷ joined_by 124 (u ∷ us)) (plain_passes b d t other h.0) (bar, joined_passes b d (u ∷ us) other bar h.1)

-- words joined by `|`
pub words_pass : (b d : ℕ) (parts : List (List ℕ)) (ws : List DigitWord) → Cuts b → (124 == b && d == 0) ≡ false → Each SpellsWord parts ws → Passes b d (joined_by 124 parts) d
words_pass b d parts ws other bar h = joined_passes b d parts other bar (each_text SpellsWord AllPlain word_plain parts ws h)

closed : (d : ℕ) → d + 1 - 1 ≡ d
closed d = omega arith

-- a group behind its parenthesis
group_passes : (b d : ℕ) (parts : List (List ℕ)) (ws : List DigitWord) → Cuts b → Each SpellsWord parts ws → Passes b (d + 1) (joined_by 124 parts ++ (41 ∷ [])) d
group_passes b d parts ws other h =
    passes_append b (d + 1) (d + 1) d (joined_by 124 parts) (41 ∷ []) (words_pass b (d + 1) parts ws other (inside_test (124 == b) d) h) (inside_test (41 == b) d, closed d)

pub set_passes : (b d : ℕ) (t : List ℕ) (ws : List DigitWord) → Cuts b → (40 == b && d == 0) ≡ false → SpellsSet t ws → Passes b d t d
set_passes b d t ws other test (inl h) = plain_passes b d t other (word_plain t h.0 h.2)
set_passes b d t ws other test (inr h) = subst (λ (x : List ℕ). Passes b d x d) (sym h.1) (test, group_passes b d h.0 ws other h.2)

head_is : (a b : ℕ) (xs ys : List ℕ) → a ∷ xs ≡ b ∷ ys → (b ≡ a) × (ys ≡ xs)
head_is a b xs ys e = (cc, cc)

plain_inner : (c : ℕ) (cs : List ℕ) → AllPlain (c ∷ cs) → Passes 40 (depth_behind 0 c) cs 0
plain_inner c cs h = (plain_passes 40 0 (c ∷ cs) opening_cuts h).1

-- a set behind its first byte
pub set_inner : (c : ℕ) (cs : List ℕ) (ws : List DigitWord) → SpellsSet (c ∷ cs) ws → Passes 40 (depth_behind 0 c) cs 0
set_inner c cs ws (inl h) = plain_inner c cs (word_plain (c ∷ cs) h.0 h.2)
set_inner c cs ws (inr h) =
    let k = head_is c 40 cs (joined_by 124 h.0 ++ (41 ∷ [])) h.1 in
    subst (λ (x : ℕ). Passes 40 (depth_behind 0 x) cs 0) k.0 (subst (λ (x : List ℕ). Passes 40 1 x 0) k.1 (group_passes 40 0 h.0 ws opening_cuts h.2))

-- ---- tails

sign_plain : (r : Repeat) → AllPlain (repeat_sign r ∷ [])
sign_plain Star = refl
sign_plain Plus = refl
sign_plain Maybe = refl

-- a tail behind its parenthesis
tail_rest : (b d : ℕ) (set : List ℕ) (ws : List DigitWord) (r : Repeat) → Cuts b → SpellsSet set ws → Passes b (d + 1) (95 ∷ (set ++ (41 ∷ repeat_sign r ∷ []))) d
tail_rest b d set ws r other h = (
  inside_test (95 == b) d,
  passes_append b (d + 1) (d + 1) d set (41 ∷ repeat_sign r ∷ []) (set_passes b (d + 1) set ws other (inside_test (40 == b) d) h)
      (inside_test (41 == b) d, subst (λ (x : ℕ). Passes b x (repeat_sign r ∷ []) d) (sym (closed d)) (plain_passes b d (repeat_sign r ∷ []) other (sign_plain r))),
)

pub tail_passes : (b d : ℕ) (u : List ℕ) (t : Tail) → Cuts b → SpellsTail (40 ∷ u) t → Passes b (d + 1) u d
tail_passes b d u t other h =
    let k = head_is 40 40 u (95 ∷ (h.0 ++ (41 ∷ repeat_sign t.repeat ∷ []))) h.1 in
    subst (λ (x : List ℕ). Passes b (d + 1) x d) k.1 (tail_rest b d h.0 t.words t.repeat other h.2)

-- tails are texts that a parenthesis leads
pub record AreLed (tails : List (List ℕ)) (ts : List Tail) : Type 0 where
  pub texts : List (List ℕ)
  pub are : tails ≡ led 40 texts
  pub each : Each (λ u t. SpellsTail (40 ∷ u) t) texts ts

led_more : (x : List ℕ) (xs : List (List ℕ)) (t : Tail) (ts : List Tail) → SpellsTail x t → AreLed xs ts → AreLed (x ∷ xs) (t ∷ ts)
led_more x xs t ts h f =
    let u : List ℕ = 95 ∷ (h.0 ++ (41 ∷ repeat_sign t.repeat ∷ [])) in
    record { texts = u ∷ f.texts; are = (let e = h.1 in let g = f.are in λ i. e i ∷ g i); each = ((h.0, refl, h.2), f.each) }

pub are_led : (tails : List (List ℕ)) (ts : List Tail) → Each SpellsTail tails ts → AreLed tails ts
are_led [] [] h = record { texts = []; are = refl; each = tt }
are_led [] (t ∷ ts) h = absurd h
are_led (x ∷ xs) [] h = absurd h
are_led (x ∷ xs) (t ∷ ts) h = led_more x xs t ts h.0 (are_led xs ts h.1)

pub tails_pass_each : (us : List (List ℕ)) (ts : List Tail) → Each (λ u t. SpellsTail (40 ∷ u) t) us ts → AllPass 40 us
tails_pass_each [] ts h = tt
tails_pass_each (u ∷ us) [] h = absurd h
tails_pass_each (u ∷ us) (t ∷ ts) h = (tail_passes 40 0 u t opening_cuts h.0, tails_pass_each us ts h.1)

tails_pass : (b : ℕ) (us : List (List ℕ)) (ts : List Tail) → Cuts b → (40 == b && 0 == 0) ≡ false → Each (λ u t. SpellsTail (40 ∷ u) t) us ts → Passes b 0 (concat (led 40 us)) 0
tails_pass b [] ts other test h = refl
tails_pass b (u ∷ us) [] other test h = absurd h
tails_pass b (u ∷ us) (t ∷ ts) other test h =
    passes_append b 0 0 0 (40 ∷ u) (concat (led 40 us)) (test, tail_passes b 0 u t other h.0) (tails_pass b us ts other test h.1)

-- ---- pieces

pub piece_passes : (b : ℕ) (t : List ℕ) (p : Piece) → Cuts b → (40 == b && 0 == 0) ≡ false → SpellsPiece t p → Passes b 0 t 0
piece_passes b t Anything other test h = subst (λ (x : List ℕ). Passes b 0 x 0) (sym h) (plain_passes b 0 (codes ".*") other refl)
piece_passes b t (Set s) other test h =
    let f = are_led h.1 s.tails h.4 in
    subst (λ (x : List ℕ). Passes b 0 x 0) (sym (h.2 ∙ ap (λ (xs : List (List ℕ)). h.0 ++ concat xs) f.are))
    (passes_append b 0 0 0 h.0 (concat (led 40 f.texts)) (set_passes b 0 h.0 s.words other test h.3) (tails_pass b f.texts s.tails other test f.each))
