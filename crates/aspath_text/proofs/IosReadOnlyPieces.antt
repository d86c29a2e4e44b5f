-- The sets, tails and pieces that a text spells are found in it.
use Rattle.std.proofs.Common.{◌≡◌, refl, sym, ap, ◌∙◌, subst, ℕ, ◌≤◌, Bool, true, false, List, [], ◌∷◌, ◌++◌, length, Option, Some, None, arith, inl, inr}
use Rattle.std.specs.Prelude.{codes, bytes_eq}
use Rattle.std.specs.List.{concat}
use Rattle.route_types.specs.RouteText.{Each}
use Rattle.route_types.specs.Words.{◌>>=◌}
use Rattle.policy_text.specs.Phrases.{each}
use Rattle.policy_text.proofs.Phrases.{each_spelled}
use Rattle.aspath_text.specs.IosGrammar.{joined_by, SpellsWord, SpellsSet, SpellsTail, SpellsPiece, repeat_sign}
use Rattle.aspath_text.specs.IosRead.{depth_behind, onto_first, parts_by, cut_at, set_at, sets_in, word_in, lone, grouped, set_in, repeat_in, repeated, tail_in, tailed, tailed_in, piece_in}
use Rattle.path_patterns.specs.declared.pattern.DigitWord.{DigitWord}
use Rattle.path_patterns.specs.declared.pattern.Piece.{Piece}
use Rattle.path_patterns.specs.declared.pattern.Piece.TheVariants.{Anything, Set}
use Rattle.path_patterns.specs.declared.pattern.PieceSet.{PieceSet}
use Rattle.path_patterns.specs.declared.pattern.Tail.{Tail}
use Rattle.path_patterns.specs.declared.pattern.Repeat.{Repeat}
use Rattle.path_patterns.specs.declared.pattern.Repeat.TheVariants.{Star, Plus, Maybe}
use Rattle.aspath_text.proofs.IosReadFoundPieces.{led, joined_led}
use Rattle.path_patterns.proofs.Lists.{same_bytes}
use Rattle.aspath_text.proofs.IosReadOnlyWords.{word_only}
use Rattle.aspath_text.proofs.IosReadPassed.{each_text, words_pass, set_passes, set_inner, are_led, tails_pass_each}
use Rattle.aspath_text.proofs.IosReadPasses.{Passes, AllPass, AllPlain, is_plain, plain_is, plain_passes, parts_spelled, cut_spelled, word_plain, bar_cuts, closing_cuts}
use Rattle.std.proofs.lemmas.Bool.{and_parts}
use Rattle.std.specs.List.{list_all, AllByRecursion}

-- ---- parts joined by a byte

first_pass : (b : ℕ) (t : List ℕ) → depth_behind 0 b ≡ 0 → Passes b (depth_behind 0 b) t 0 → Passes b 0 t 0
first_pass b t level h = subst (λ (d : ℕ). Passes b d t 0) level h

-- texts that are joined by a byte that cuts none of them are its parts
pub parts_of_joined : (b : ℕ) (ts : List (List ℕ)) → depth_behind 0 b ≡ 0 → 1 ≤ length ts → AllPass b ts → parts_by b 0 (joined_by b ts) ≡ ts
parts_of_joined b [] level some h = absurd (omega (arith, some))
parts_of_joined b (t ∷ ts) level some h = ap (λ (x : List ℕ). parts_by b 0 x) (joined_led b t ts) ∙ parts_spelled b 0 t ts (first_pass b t level h.0) h.1

-- there are as many parts as values
pub as_many : {A : Type 0} (P : List ℕ → A → Type 0) (parts : List (List ℕ)) (xs : List A) → 1 ≤ length xs → Each P parts xs → 1 ≤ length parts
as_many P [] [] some h = some
as_many P [] (x ∷ xs) some h = absurd h
as_many P (t ∷ ts) xs some h = omega arith

-- ---- sets

plain_each : (ts : List (List ℕ)) → AllByRecursion AllPlain ts → AllPass 124 ts
plain_each [] h = tt
plain_each (t ∷ ts) h = (plain_passes 124 0 t bar_cuts h.0, plain_each ts h.1)

words_only : (parts : List (List ℕ)) (ws : List DigitWord) → 1 ≤ length ws → Each SpellsWord parts ws → each word_in (parts_by 124 0 (joined_by 124 parts)) ≡ Some ws
words_only parts ws some h =
    ap (λ (ts : List (List ℕ)). each word_in ts) (parts_of_joined 124 parts refl (as_many SpellsWord parts ws some h) (plain_each parts (each_text SpellsWord AllPlain word_plain parts ws h)))
    ∙ each_spelled word_in SpellsWord word_only parts ws h

group_only : (parts : List (List ℕ)) (ws : List DigitWord) → 1 ≤ length ws → Each SpellsWord parts ws → set_in (40 ∷ (joined_by 124 parts ++ (41 ∷ []))) ≡ Some ws
unfolding set_in
group_only parts ws some h =
    rw (cut_spelled 41 0 (joined_by 124 parts) [] (words_pass 41 0 parts ws closing_cuts refl h)) (words_only parts ws some h)

no_word : word_in [] ≡ None
unfolding word_in
no_word = refl

lone_only : (t : List ℕ) (w : DigitWord) → AllPlain t → word_in t ≡ Some w → set_in t ≡ Some (w ∷ [])
unfolding set_in
lone_only [] w plain e = absurd (let k = no_word in cc)
lone_only (c ∷ cs) w plain e =
    let p = (and_parts (is_plain c) (list_all is_plain cs) plain).0 in
    ap (λ (x : Bool). elim x [ true ↦ cut_at 41 0 cs >>= λ parts. grouped parts.0 parts.1 | false ↦ lone (c ∷ cs) ]) (plain_is c p).opens
    ∙ ap (λ (o : Option DigitWord). o >>= λ v. Some (v ∷ [])) e

pub set_only : (t : List ℕ) (ws : List DigitWord) → SpellsSet t ws → set_in t ≡ Some ws
set_only t ws (inl h) = lone_only t h.0 (word_plain t h.0 h.2) (word_only t h.0 h.2) ∙ ap (λ (vs : List DigitWord). Some vs) (sym h.1)
set_only t ws (inr h) = ap (λ (x : List ℕ). set_in x) h.1 ∙ group_only h.0 ws h.3 h.2

-- ---- tails

repeat_only : (r : Repeat) → repeat_in (repeat_sign r ∷ []) ≡ Some r
repeat_only Star = refl
repeat_only Plus = refl
repeat_only Maybe = refl

tail_by : (set : List ℕ) (ws : List DigitWord) (r : Repeat) → SpellsSet set ws → tail_in (95 ∷ (set ++ (41 ∷ repeat_sign r ∷ []))) ≡ Some (record { words = ws; repeat = r })
unfolding tail_in
tail_by set ws r h =
    ap (λ (o : Option (List ℕ × List ℕ)). o >>= λ parts. repeated parts.0 parts.1) (cut_spelled 41 0 set (repeat_sign r ∷ []) (set_passes 41 0 set ws closing_cuts refl h))
    ∙ ap (λ (o : Option (List DigitWord)). o >>= λ vs. repeat_in (repeat_sign r ∷ []) >>= λ q. Some (record { words = vs; repeat = q })) (set_only set ws h)
    ∙ ap (λ (o : Option Repeat). o >>= λ q. Some (record { words = ws; repeat = q })) (repeat_only r)

tail_text : (xs ys : List ℕ) → 40 ∷ xs ≡ 40 ∷ ys → xs ≡ ys
tail_text xs ys e = cc

pub tail_only : (u : List ℕ) (t : Tail) → SpellsTail (40 ∷ u) t → tail_in u ≡ Some t
tail_only u t h = ap (λ (x : List ℕ). tail_in x) (tail_text u (95 ∷ (h.0 ++ (41 ∷ repeat_sign t.repeat ∷ []))) h.1) ∙ tail_by h.0 t.words t.repeat h.2

-- ---- pieces

no_set : set_in [] ≡ None
unfolding set_in
no_set = refl

tailed_only : (set : List ℕ) (us : List (List ℕ)) (s : PieceSet) → SpellsSet set s.words → set_in set ≡ Some s.words → Each (λ u t. SpellsTail (40 ∷ u) t) us s.tails → tailed_in (set ++ concat (led 40 us)) ≡ Some (Set s)
tailed_only [] us s spells found h = absurd (let k = no_set in cc)
tailed_only (c ∷ cs) us s spells found h =
    ap (λ (ts : List (List ℕ)). tailed (onto_first c ts)) (parts_spelled 40 (depth_behind 0 c) cs us (set_inner c cs s.words spells) (tails_pass_each us s.tails h))
    ∙ ap (λ (o : Option (List DigitWord)). o >>= λ ws. each tail_in us >>= λ others. Some (Set (record { words = ws; tails = others }))) found
    ∙ ap (λ (o : Option (List Tail)). o >>= λ others. Some (Set (record { words = s.words; tails = others }))) (each_spelled tail_in (λ u t. SpellsTail (40 ∷ u) t) tail_only us s.tails h)

anything_is_no_set : tailed_in (codes ".*") ≡ None
unfolding parts_by set_in word_in sets_in set_at
anything_is_no_set = refl

anything_found : piece_in (codes ".*") ≡ Some Anything
unfolding piece_in
anything_found = refl

piece_by : (t : Bool) (text : List ℕ) (s : PieceSet) → bytes_eq text (codes ".*") ≡ t → tailed_in text ≡ Some (Set s) → (elim t [ true ↦ Some Anything | false ↦ tailed_in text ]) ≡ Some (Set s)
piece_by true text s test e = absurd (let k = anything_is_no_set in let l : tailed_in text ≡ tailed_in (codes ".*") = ap (λ (x : List ℕ). tailed_in x) (same_bytes text (codes ".*") test) in cc)
piece_by false text s test e = e

set_piece : (text : List ℕ) (s : PieceSet) → tailed_in text ≡ Some (Set s) → piece_in text ≡ Some (Set s)
unfolding piece_in
set_piece text s e = piece_by (bytes_eq text (codes ".*")) text s refl e

-- the piece that a text spells is found
pub piece_only : (t : List ℕ) (p : Piece) → SpellsPiece t p → piece_in t ≡ Some p
piece_only t Anything h = ap (λ (x : List ℕ). piece_in x) h ∙ anything_found
piece_only t (Set s) h =
    let f = are_led h.1 s.tails h.4 in
    set_piece t s
    (ap (λ (x : List ℕ). tailed_in x) (h.2 ∙ ap (λ (xs : List (List ℕ)). h.0 ++ concat xs) f.are) ∙ tailed_only h.0 f.texts s h.3 (set_only h.0 s.words h.3) f.each)
