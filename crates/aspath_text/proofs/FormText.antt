-- The text of items is the text of their branches.
use Rattle.std.proofs.Common.{◌≡◌, refl, sym, ap, ap₂, ◌∙◌, ℕ, zero, suc, ◌-◌, Bool, true, false, cond, ◌&&◌, List, [], ◌∷◌, ◌++◌, map, flat_map, codes, Option, Some, None, append_assoc, append-nil, replicate}
use Rattle.std.proofs.lemmas.Grind.{flat_map-append}
use Rattle.std.specs.List.{repeat as repeated}
use Rattle.aspath_text.specs.IosGrammar.{joined_by, left_text, right_text}
use Rattle.path_patterns.specs.IosForm.{PathStep, One, More, pieces_from, further_steps, item_steps, takes_one, is_free, closes, steps_behind, right_behind, behind_first, branch_from, branches_from, anything, item_branches}
use Rattle.aspath_text.specs.IosText.{set_text, tail_text, piece_text, branch_text, ios_text, barred_text, further_text, item_text, rest_text, start_text, starts_text, items_text}
use Rattle.path_patterns.specs.declared.word_item.WordItem.{WordItem}
use Rattle.path_patterns.specs.declared.pattern.IosBranch.{IosBranch}
use Rattle.path_patterns.specs.declared.pattern.DigitWord.{DigitWord}
use Rattle.path_patterns.specs.declared.pattern.Mark.{Mark}
use Rattle.path_patterns.specs.declared.pattern.Mark.TheVariants.{Anchor, Under}
use Rattle.path_patterns.specs.declared.pattern.Piece.{Piece}
use Rattle.path_patterns.specs.declared.pattern.Piece.TheVariants.{Set}
use Rattle.path_patterns.specs.declared.pattern.PieceSet.{PieceSet}
use Rattle.path_patterns.specs.declared.pattern.Tail.{Tail}
use Rattle.path_patterns.specs.declared.pattern.Repeat.TheVariants.{Star, Maybe}
use Rattle.aspath_text.proofs.JoinedLaws.{joined_behind}

-- the text of branches is what stands behind the first bar
pub behind_bar : (b : IosBranch) (bs : List IosBranch) → barred_text (b ∷ bs) ≡ 124 ∷ ios_text (b ∷ bs)
behind_bar b bs = ap (λ (t : List ℕ). 124 ∷ t) (sym (joined_behind 124 branch_text b bs))

-- ---- the text of steps

-- a step behind a piece
abbrev step_text : PathStep → List ℕ
step_text (One ws) = 95 ∷ set_text ws
step_text (More t) = tail_text t.words t.repeat

-- steps behind a piece
abbrev steps_text : List PathStep → List ℕ
steps_text us = flat_map step_text us

pieces_barred : (s : PieceSet) (us : List PathStep) → flat_map (λ (p : Piece). 95 ∷ piece_text p) (pieces_from s us) ≡ 95 ∷ (piece_text (Set s) ++ steps_text us)
unfolding pieces_from
pieces_barred s [] = refl
pieces_barred s (One ws ∷ us) =
    ap (λ (t : List ℕ). 95 ∷ (piece_text (Set s) ++ t)) (pieces_barred (record { words = ws; tails = [] }) us ∙ ap (λ (t : List ℕ). 95 ∷ (t ++ steps_text us)) (append-nil (set_text ws)))
pieces_barred s (More t ∷ us) =
    let f = λ (t : Tail). tail_text t.words t.repeat in
    pieces_barred (record { words = s.words; tails = s.tails ++ (t ∷ []) }) us
    ∙ ap (λ (x : List ℕ). 95 ∷ ((set_text s.words ++ x) ++ steps_text us)) (flat_map-append f s.tails (t ∷ []) ∙ ap (λ (y : List ℕ). flat_map f s.tails ++ y) (append-nil (f t)))
    ∙ ap (λ (x : List ℕ). 95 ∷ (x ++ steps_text us)) (sym (append_assoc (set_text s.words) (flat_map f s.tails) (f t)))
    ∙ ap (λ (x : List ℕ). 95 ∷ x) (append_assoc (set_text s.words ++ flat_map f s.tails) (f t) (steps_text us))

-- pieces made of steps: the first of them
abbrev Starts : PieceSet → List PathStep → Type 0
Starts s us = (p : Piece) × (ps : List Piece) × (pieces_from s us ≡ p ∷ ps)

pieces_start : (s : PieceSet) (us : List PathStep) → Starts s us
unfolding pieces_from
pieces_start s [] = (Set s, [], refl)
pieces_start s (One ws ∷ us) = (Set s, pieces_from (record { words = ws; tails = [] }) us, refl)
pieces_start s (More t ∷ us) = pieces_start (record { words = s.words; tails = s.tails ++ (t ∷ []) }) us

same_behind : (b : ℕ) (xs ys : List ℕ) → b ∷ xs ≡ b ∷ ys → xs ≡ ys
same_behind b xs ys e = cc

pieces_joined : (ps qs : List Piece) (p : Piece) → ps ≡ p ∷ qs → 95 ∷ joined_by 95 (map piece_text ps) ≡ flat_map (λ (p : Piece). 95 ∷ piece_text p) ps
pieces_joined ps qs p e =
    ap (λ (x : List Piece). 95 ∷ joined_by 95 (map piece_text x)) e
    ∙ ap (λ (t : List ℕ). 95 ∷ t) (joined_behind 95 piece_text p qs)
    ∙ ap (λ (x : List Piece). flat_map (λ (p : Piece). 95 ∷ piece_text p) x) (sym e)

pieces_text : (s : PieceSet) (us : List PathStep) → joined_by 95 (map piece_text (pieces_from s us)) ≡ piece_text (Set s) ++ steps_text us
pieces_text s us =
    let h = pieces_start s us in
    same_behind 95 (joined_by 95 (map piece_text (pieces_from s us))) (piece_text (Set s) ++ steps_text us)
    (pieces_joined (pieces_from s us) h.1 h.0 h.2 ∙ pieces_barred s us)

-- ---- the text of items

copies_text : (n : ℕ) (u : PathStep) → steps_text (replicate n u) ≡ repeated n (step_text u)
copies_text zero u = refl
copies_text (suc n) u = ap (λ (t : List ℕ). step_text u ++ t) (copies_text n u)

further_is : (ws : List DigitWord) (least : ℕ) (most : Option ℕ) → steps_text (further_steps ws least most) ≡ further_text ws least most
further_is ws least None = append-nil (tail_text ws Star)
further_is ws least (Some most) = copies_text (most - least) (More (record { words = ws; repeat = Maybe }))

item_is : (i : WordItem) (us : List PathStep) → steps_text (item_steps i ++ us) ≡ item_text i ++ steps_text us
item_is i us =
    let ones : List PathStep = replicate i.least (One i.words) in
    let more : List PathStep = further_steps i.words i.least i.most in
    flat_map-append step_text (ones ++ more) us
    ∙ ap (λ (t : List ℕ). t ++ steps_text us) (flat_map-append step_text ones more ∙ ap₂ (λ (x y : List ℕ). x ++ y) (copies_text i.least (One i.words)) (further_is i.words i.least i.most))

rest_at : (t : Bool) (i : WordItem) (us : List PathStep) (mark : Mark) (rest : List ℕ) → steps_text us ++ right_text mark ≡ rest → steps_text (cond t [] (item_steps i ++ us)) ++ right_text (cond t Under mark) ≡ cond t (95 ∷ []) (item_text i ++ rest)
rest_at true i us mark rest e = refl
rest_at false i us mark rest e =
    ap (λ (t : List ℕ). t ++ right_text mark) (item_is i us)
    ∙ append_assoc (item_text i) (steps_text us) (right_text mark)
    ∙ ap (λ (t : List ℕ). item_text i ++ t) e

rest_is : (behind : Bool) (is : List WordItem) → steps_text (steps_behind behind is) ++ right_text (right_behind behind is) ≡ rest_text behind is
unfolding steps_behind right_behind rest_text
rest_is behind [] = refl
rest_is behind (i ∷ is) = rest_at (closes behind i is) i (steps_behind (takes_one i) is) (right_behind (takes_one i) is) (rest_text (takes_one i) is) (rest_is (takes_one i) is)

-- the text of a branch of items of which the first one is there
start_is : (mark : Mark) (i : WordItem) (is : List WordItem) → branch_text (branch_from mark i is) ≡ start_text mark i is
start_is mark i is =
    let s : PieceSet = record { words = i.words; tails = [] } in
    let first : List ℕ = set_text i.words in
    let us : List PathStep = steps_behind true is in
    let right : List ℕ = right_text (right_behind true is) in
    let item : List ℕ = item_text (behind_first i) in
    ap (λ (t : List ℕ). left_text mark ++ (t ++ right))
    (pieces_text s (item_steps (behind_first i) ++ us) ∙ ap₂ (λ (x y : List ℕ). x ++ y) (append-nil first) (item_is (behind_first i) us))
    ∙ ap (λ (t : List ℕ). left_text mark ++ t) (append_assoc first (item ++ steps_text us) right ∙ ap (λ (t : List ℕ). first ++ t) (append_assoc item (steps_text us) right ∙ ap (λ (t : List ℕ). item ++ t) (rest_is true is)))

one_barred : (mark : Mark) (i : WordItem) (is : List WordItem) → 124 ∷ start_text mark i is ≡ barred_text (branch_from mark i is ∷ [])
one_barred mark i is =
    ap (λ (t : List ℕ). 124 ∷ t) (sym (start_is mark i is)) ∙ sym (ap (λ (t : List ℕ). 124 ∷ t) (append-nil (branch_text (branch_from mark i is))))

starts_at : (t : Bool) (i : WordItem) (is : List WordItem) (text : List ℕ) → text ≡ barred_text (branches_from is) → 124 ∷ (start_text Anchor i is ++ cond t [] text) ≡ barred_text (branch_from Anchor i is ∷ cond t [] (branches_from is))
starts_at true i is text e = ap (λ (t : List ℕ). 124 ∷ (t ++ [])) (sym (start_is Anchor i is))
starts_at false i is text e = ap₂ (λ (x y : List ℕ). 124 ∷ (x ++ y)) (sym (start_is Anchor i is)) e

starts_are : (is : List WordItem) → starts_text is ≡ barred_text (branches_from is)
unfolding starts_text branches_from
starts_are [] = refl
starts_are (i ∷ is) = starts_at (takes_one i) i is (starts_text is) (starts_are is)

anything_text : codes "|.*" ≡ barred_text (anything ∷ [])
unfolding joined_by
anything_text = refl

alone_at : (t : Bool) (i : WordItem) → cond t (codes "|.*") (starts_text (i ∷ [])) ≡ barred_text (cond t (anything ∷ []) (branches_from (i ∷ [])))
alone_at true i = anything_text
alone_at false i = starts_are (i ∷ [])

several_at : (t : Bool) (i j : WordItem) (js : List WordItem) → cond t (124 ∷ start_text Under j js) (starts_text (i ∷ j ∷ js)) ≡ barred_text (cond t (branch_from Under j js ∷ []) (branches_from (i ∷ j ∷ js)))
several_at true i j js = one_barred Under j js
several_at false i j js = starts_are (i ∷ j ∷ js)

-- the text of items is that of their branches
pub items_text_is : (is : List WordItem) → items_text is ≡ barred_text (item_branches is)
items_text_is [] = starts_are []
items_text_is (i ∷ []) = alone_at (is_free i) i
items_text_is (i ∷ j ∷ js) = several_at (is_free i && takes_one j) i j js
