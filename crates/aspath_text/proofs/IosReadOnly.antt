-- The branches and the pattern that a text spells are found in it.
use Rattle.std.proofs.Common.{◌≡◌, refl, sym, ap, ◌∙◌, subst, ℕ, ◌≤◌, Bool, true, false, ◌&&◌, List, [], ◌∷◌, ◌++◌, length, take, get_or, append_assoc, Option, Some, None, arith}
use Rattle.std.specs.Prelude.{codes, bytes_eq}
use Rattle.std.specs.List.{concat, AllByRecursion}
use Rattle.std.proofs.lemmas.List.{append-nil}
use Rattle.route_types.specs.RouteText.{Each}
use Rattle.route_types.specs.Words.{◌>>=◌, when}
use Rattle.route_types.proofs.Numbers.{when_true}
use Rattle.policy_text.specs.Phrases.{each}
use Rattle.policy_text.proofs.Phrases.{each_spelled}
use Rattle.aspath_text.specs.IosGrammar.{joined_by, SpellsPiece, SpellsBranch, SpellsPattern, left_text, right_text}
use Rattle.aspath_text.specs.IosRead.{parts_by, set_at, sets_in, word_in, set_in, piece_in, left_in, right_by, right_in, mark_fits, pieces_fit, pieces_end, pieces_start, between, pieces_in, branch_in, ios_pattern_in}
use Rattle.path_patterns.specs.Shape.{MarkFits, PiecesFit, PiecesEnd, PiecesStart}
use Rattle.path_patterns.specs.declared.pattern.IosBranch.{IosBranch}
use Rattle.path_patterns.specs.declared.pattern.IosBranch.TheVariants.{EmptyPath, Pieces}
use Rattle.path_patterns.specs.declared.pattern.Mark.{Mark}
use Rattle.path_patterns.specs.declared.pattern.Mark.TheVariants.{Anchor, Under, Nothing}
use Rattle.path_patterns.specs.declared.pattern.PathPieces.{PathPieces}
use Rattle.path_patterns.specs.declared.pattern.Piece.{Piece}
use Rattle.path_patterns.specs.declared.pattern.Piece.TheVariants.{Anything, Set}
use Rattle.aspath_text.proofs.IosReadFoundPieces.{led, joined_led}
use Rattle.path_patterns.proofs.Lists.{same_bytes}
use Rattle.aspath_text.proofs.IosReadOnlyPieces.{parts_of_joined, as_many, piece_only}
use Rattle.aspath_text.proofs.IosReadPassed.{each_text, piece_passes}
use Rattle.aspath_text.proofs.IosReadPasses.{Passes, AllPass, passes_append, plain_passes, under_cuts, bar_cuts}

-- ---- pieces that fit

mark_only : (m : Mark) (p : Piece) → MarkFits m p → mark_fits m p ≡ true
mark_only Anchor p h = refl
mark_only Under Anything h = absurd h
mark_only Under (Set s) h = refl
mark_only Nothing Anything h = refl
mark_only Nothing (Set s) h = absurd h

fit_only : (p q : Piece) → PiecesFit p q → pieces_fit p q ≡ true
fit_only Anything Anything h = absurd h
fit_only Anything (Set s) h = refl
fit_only (Set s) q h = refl

start_only : (left : Mark) (ps : List Piece) → PiecesStart left ps → pieces_start left ps ≡ true
start_only left [] h = absurd h
start_only left (p ∷ ps) h = mark_only left p h

end_only : (ps : List Piece) (right : Mark) → PiecesEnd ps right → pieces_end ps right ≡ true
unfolding pieces_end
end_only [] right h = absurd h
end_only (p ∷ []) right h = mark_only right p h
end_only (p ∷ q ∷ ps) right h = rw (fit_only p q h.0) (end_only (q ∷ ps) right h.1)

some_pieces : (ps : List Piece) (right : Mark) → PiecesEnd ps right → 1 ≤ length ps
some_pieces [] right h = absurd h
some_pieces (p ∷ ps) right h = omega arith

both : (a b : Bool) → a ≡ true → b ≡ true → (a && b) ≡ true
both a b h k = rw (h, k) refl

-- ---- pieces between marks

pieces_pass : (parts : List (List ℕ)) (ps : List Piece) → Each SpellsPiece parts ps → AllPass 95 parts
pieces_pass [] ps h = tt
pieces_pass (t ∷ ts) [] h = absurd h
pieces_pass (t ∷ ts) (p ∷ ps) h = (piece_passes 95 t p under_cuts refl h.0, pieces_pass ts ps h.1)

pieces_only : (parts : List (List ℕ)) (ps : List Piece) → 1 ≤ length ps → Each SpellsPiece parts ps → each piece_in (parts_by 95 0 (joined_by 95 parts)) ≡ Some ps
pieces_only parts ps some h =
    ap (λ (ts : List (List ℕ)). each piece_in ts) (parts_of_joined 95 parts refl (as_many SpellsPiece parts ps some h) (pieces_pass parts ps h))
    ∙ each_spelled piece_in SpellsPiece piece_only parts ps h

between_only : (parts : List (List ℕ)) (b : PathPieces) → Each SpellsPiece parts b.pieces → PiecesStart b.left b.pieces → PiecesEnd b.pieces b.right → between b.left (joined_by 95 parts) b.right ≡ Some (Pieces b)
unfolding between
between_only parts b h starts ends =
    ap (λ (o : Option (List Piece)). o >>= λ ps. when (pieces_start b.left ps && pieces_end ps b.right) (Pieces (record { left = b.left; pieces = ps; right = b.right }))) (pieces_only parts b.pieces (some_pieces b.pieces b.right ends) h)
    ∙ when_true (pieces_start b.left b.pieces && pieces_end b.pieces b.right) (Pieces b) (both (pieces_start b.left b.pieces) (pieces_end b.pieces b.right) (start_only b.left b.pieces starts) (end_only b.pieces b.right ends))

-- ---- marks

-- where nothing is written on the left, a dot stands first
starts_with_dot : (parts : List (List ℕ)) (ps : List Piece) → Each SpellsPiece parts ps → PiecesStart Nothing ps → (u : List ℕ) × (joined_by 95 parts ≡ 46 ∷ u)
starts_with_dot [] [] h k = absurd k
starts_with_dot [] (p ∷ ps) h k = absurd h
starts_with_dot (t ∷ ts) [] h k = absurd h
starts_with_dot (t ∷ ts) (Anything ∷ ps) h k = (42 ∷ concat (led 95 ts), joined_led 95 t ts ∙ ap (λ (x : List ℕ). x ++ concat (led 95 ts)) h.0)
starts_with_dot (t ∷ ts) (Set s ∷ ps) h k = absurd k

left_only : (left : Mark) (parts : List (List ℕ)) (ps : List Piece) (rest : List ℕ) → Each SpellsPiece parts ps → PiecesStart left ps → left_in (left_text left ++ (joined_by 95 parts ++ rest)) ≡ (left, joined_by 95 parts ++ rest)
left_only Anchor parts ps rest h k = refl
left_only Under parts ps rest h k = refl
left_only Nothing parts ps rest h k =
    let dot = starts_with_dot parts ps h k in
    subst (λ (x : List ℕ). left_in (x ++ rest) ≡ (Nothing, x ++ rest)) (sym dot.1) refl

one_star : (t : List ℕ) (p : Piece) → SpellsPiece t p → MarkFits Nothing p → t ≡ (46 ∷ []) ++ (42 ∷ [])
one_star t Anything h k = h
one_star t (Set s) h k = absurd k

star_behind : (t u : List ℕ) (us : List (List ℕ)) (f : List ℕ) → joined_by 95 (u ∷ us) ≡ f ++ (42 ∷ []) → joined_by 95 (t ∷ u ∷ us) ≡ (t ++ (95 ∷ f)) ++ (42 ∷ [])
unfolding joined_by
star_behind t u us f e = ap (λ (x : List ℕ). t ++ (95 ∷ x)) e ∙ sym (append_assoc t (95 ∷ f) (42 ∷ []))

one_text : (t : List ℕ) → joined_by 95 (t ∷ []) ≡ t
unfolding joined_by
one_text t = refl

-- where nothing is written on the right, a star stands last
ends_with_star : (parts : List (List ℕ)) (ps : List Piece) → Each SpellsPiece parts ps → PiecesEnd ps Nothing → (f : List ℕ) × (joined_by 95 parts ≡ f ++ (42 ∷ []))
ends_with_star parts [] h k = absurd k
ends_with_star [] (p ∷ ps) h k = absurd h
ends_with_star (t ∷ []) (p ∷ []) h k = (46 ∷ [], one_text t ∙ one_star t p h.0 k)
ends_with_star (t ∷ []) (p ∷ q ∷ ps) h k = absurd h.1
ends_with_star (t ∷ u ∷ us) (p ∷ []) h k = absurd h.1
ends_with_star (t ∷ u ∷ us) (p ∷ q ∷ ps) h k =
    let f = ends_with_star (u ∷ us) (q ∷ ps) h.1 k.1 in
    (t ++ (95 ∷ f.0), star_behind t u us f.0 f.1)

front_of : (d : ℕ) (ds : List ℕ) (c : ℕ) → take (length (ds ++ (c ∷ []))) (d ∷ (ds ++ (c ∷ []))) ≡ d ∷ ds
front_of d [] c = refl
front_of d (e ∷ es) c = ap (λ (x : List ℕ). d ∷ x) (front_of e es c)

last_of : (d : ℕ) (ds : List ℕ) (c : ℕ) → get_or (d ∷ (ds ++ (c ∷ []))) (length (ds ++ (c ∷ []))) 0 ≡ c
last_of d [] c = refl
last_of d (e ∷ es) c = last_of e es c

right_last : (f : List ℕ) (c : ℕ) → right_in (f ++ (c ∷ [])) ≡ right_by (f ++ (c ∷ [])) f c
right_last [] c = refl
right_last (d ∷ ds) c =
    ap (λ (x : List ℕ). right_by (d ∷ (ds ++ (c ∷ []))) x (get_or (d ∷ (ds ++ (c ∷ []))) (length (ds ++ (c ∷ []))) 0)) (front_of d ds c)
    ∙ ap (λ (x : ℕ). right_by (d ∷ (ds ++ (c ∷ []))) (d ∷ ds) x) (last_of d ds c)

right_star : (f : List ℕ) → right_in (f ++ (42 ∷ [])) ≡ (Nothing, f ++ (42 ∷ []))
right_star f = right_last f 42

right_only : (right : Mark) (parts : List (List ℕ)) (ps : List Piece) → Each SpellsPiece parts ps → PiecesEnd ps right → right_in (joined_by 95 parts ++ right_text right) ≡ (right, joined_by 95 parts)
right_only Anchor parts ps h k = right_last (joined_by 95 parts) 36
right_only Under parts ps h k = right_last (joined_by 95 parts) 95
right_only Nothing parts ps h k =
    let star = ends_with_star parts ps h k in
    ap (λ (x : List ℕ). right_in x) (append-nil (joined_by 95 parts))
    ∙ subst (λ (x : List ℕ). right_in x ≡ (Nothing, x)) (sym star.1) (right_star star.0)

-- ---- branches

marked_only : (text : List ℕ) (parts : List (List ℕ)) (b : PathPieces) → text ≡ left_text b.left ++ (joined_by 95 parts ++ right_text b.right) → Each SpellsPiece parts b.pieces → PiecesStart b.left b.pieces → PiecesEnd b.pieces b.right → pieces_in text ≡ Some (Pieces b)
marked_only text parts b is h starts ends =
    let l : left_in text ≡ (b.left, joined_by 95 parts ++ right_text b.right) = ap (λ (x : List ℕ). left_in x) is ∙ left_only b.left parts b.pieces (right_text b.right) h starts in
    ap (λ (m : Mark × List ℕ). between m.0 (right_in m.1).1 (right_in m.1).0) l
    ∙ ap (λ (m : Mark × List ℕ). between b.left m.1 m.0) (right_only b.right parts b.pieces h ends)
    ∙ between_only parts b h starts ends

empty_is_no_pieces : pieces_in (codes "^$") ≡ None
unfolding between parts_by piece_in set_in word_in sets_in set_at each
empty_is_no_pieces = refl

empty_found : branch_in (codes "^$") ≡ Some EmptyPath
unfolding branch_in
empty_found = refl

branch_by : (t : Bool) (text : List ℕ) (b : IosBranch) → bytes_eq text (codes "^$") ≡ t → pieces_in text ≡ Some b → (elim t [ true ↦ Some EmptyPath | false ↦ pieces_in text ]) ≡ Some b
branch_by true text b test e = absurd (let k = empty_is_no_pieces in let l : pieces_in text ≡ pieces_in (codes "^$") = ap (λ (x : List ℕ). pieces_in x) (same_bytes text (codes "^$") test) in cc)
branch_by false text b test e = e

marked_branch : (text : List ℕ) (b : IosBranch) → pieces_in text ≡ Some b → branch_in text ≡ Some b
unfolding branch_in
marked_branch text b e = branch_by (bytes_eq text (codes "^$")) text b refl e

-- the branch that a text spells is found
pub branch_only : (text : List ℕ) (b : IosBranch) → SpellsBranch text b → branch_in text ≡ Some b
branch_only text EmptyPath h = ap (λ (x : List ℕ). branch_in x) h ∙ empty_found
branch_only text (Pieces b) h = marked_branch text (Pieces b) (marked_only text h.0 b h.1 h.2 h.3.1 h.3.2)

-- ---- patterns

joined_pass : (ts : List (List ℕ)) → AllByRecursion (λ t. Passes 124 0 t 0) ts → Passes 124 0 (joined_by 95 ts) 0
unfolding joined_by
joined_pass [] h = refl
joined_pass (t ∷ []) h = h.0
joined_pass (t ∷ u ∷ us) h = passes_append 124 0 0 0 t (95 ∷ joined_by 95 (u ∷ us)) h.0 (refl, joined_pass (u ∷ us) h.1)

left_passes : (m : Mark) → Passes 124 0 (left_text m) 0
left_passes Anchor = (refl, refl)
left_passes Under = (refl, refl)
left_passes Nothing = refl

right_passes : (m : Mark) → Passes 124 0 (right_text m) 0
right_passes Anchor = (refl, refl)
right_passes Under = (refl, refl)
right_passes Nothing = refl

branch_passes : (text : List ℕ) (b : IosBranch) → SpellsBranch text b → Passes 124 0 text 0
branch_passes text EmptyPath h = subst (λ (x : List ℕ). Passes 124 0 x 0) (sym h) (plain_passes 124 0 (codes "^$") bar_cuts refl)
branch_passes text (Pieces b) h =
    let inner = joined_pass h.0 (each_text SpellsPiece (λ t. Passes 124 0 t 0) (λ t p k. piece_passes 124 t p bar_cuts refl k) h.0 b.pieces h.2) in
    subst (λ (x : List ℕ). Passes 124 0 x 0) (sym h.1)
    (passes_append 124 0 0 0 (left_text b.left) (joined_by 95 h.0 ++ right_text b.right) (left_passes b.left) (passes_append 124 0 0 0 (joined_by 95 h.0) (right_text b.right) inner (right_passes b.right)))

branches_pass : (parts : List (List ℕ)) (bs : List IosBranch) → Each SpellsBranch parts bs → AllPass 124 parts
branches_pass [] bs h = tt
branches_pass (t ∷ ts) [] h = absurd h
branches_pass (t ∷ ts) (b ∷ bs) h = (branch_passes t b h.0, branches_pass ts bs h.1)

-- what is spelled is found
pub pattern_only : (text : List ℕ) (bs : List IosBranch) → SpellsPattern text bs → ios_pattern_in text ≡ Some bs
unfolding ios_pattern_in
pattern_only text bs h =
    ap (λ (x : List ℕ). each branch_in (parts_by 124 0 x)) h.spelled
    ∙ ap (λ (ts : List (List ℕ)). each branch_in ts) (parts_of_joined 124 h.parts refl (as_many SpellsBranch h.parts bs h.some h.each) (branches_pass h.parts bs h.each))
    ∙ each_spelled branch_in SpellsBranch branch_only h.parts bs h.each
