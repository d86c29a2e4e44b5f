-- The pieces, branches and patterns that are found in a text are spelled by it.
use Rattle.std.proofs.Common.{◌≡◌, refl, sym, ap, ◌∙◌, subst, ℕ, Bool, true, false, ◌&&◌, List, [], ◌∷◌, ◌++◌, length, take, get_or, Some}
use Rattle.std.specs.Prelude.{◌==◌, codes, bytes_eq}
use Rattle.std.specs.List.{concat}
use Rattle.std.proofs.lemmas.Bool.{and_parts, eqb-true}
use Rattle.std.proofs.lemmas.List.{append-nil}
use Rattle.route_types.specs.RouteText.{Each}
use Rattle.route_types.proofs.Numbers.{bind_found, some_is}
use Rattle.policy_text.specs.Phrases.{each}
use Rattle.policy_text.proofs.Phrases.{each_found, when_found}
use Rattle.aspath_text.specs.IosGrammar.{joined_by, SpellsTail, SpellsPiece, SpellsBranch, SpellsPattern, left_text, right_text}
use Rattle.aspath_text.specs.IosRead.{depth_behind, onto_first, parts_by, set_in, tail_in, tailed, tailed_in, piece_in, left_in, right_in, mark_fits, pieces_fit, pieces_end, pieces_start, between, pieces_in, branch_in, ios_pattern_in}
use Rattle.path_patterns.specs.Shape.{IsPiece, MarkFits, PiecesFit, PiecesEnd, PiecesStart}
use Rattle.path_patterns.specs.declared.pattern.IosBranch.{IosBranch}
use Rattle.path_patterns.specs.declared.pattern.IosBranch.TheVariants.{EmptyPath}
use Rattle.path_patterns.specs.declared.pattern.Mark.{Mark}
use Rattle.path_patterns.specs.declared.pattern.Mark.TheVariants.{Anchor, Under, Nothing}
use Rattle.path_patterns.specs.declared.pattern.Piece.{Piece}
use Rattle.path_patterns.specs.declared.pattern.Piece.TheVariants.{Anything, Set}
use Rattle.path_patterns.specs.declared.pattern.Tail.{Tail}
use Rattle.aspath_text.proofs.IosReadCuts.{parts_split}
use Rattle.aspath_text.proofs.IosReadFound.{joined_onto, joined_parts}
use Rattle.aspath_text.proofs.IosReadFoundWords.{many, set_found, tail_found}
use Rattle.path_patterns.proofs.Lists.{same_bytes}
use Rattle.aspath_text.proofs.IosReadShaped.{each_all, piece_shaped}

-- ---- pieces

-- each text with a byte before it
abbrev pub led : ℕ → List (List ℕ) → List (List ℕ)
led b [] = []
led b (t ∷ ts) = (b ∷ t) ∷ led b ts

-- texts that are joined stand behind one another, with the byte before each but the first
pub joined_led : (b : ℕ) (t : List ℕ) (ts : List (List ℕ)) → joined_by b (t ∷ ts) ≡ t ++ concat (led b ts)
unfolding joined_by
joined_led b t [] = sym (append-nil t)
joined_led b t (u ∷ us) = ap (λ (x : List ℕ). t ++ (b ∷ x)) (joined_led b u us)

each_led : (ts : List (List ℕ)) (xs : List Tail) → Each (λ t x. SpellsTail (40 ∷ t) x) ts xs → Each SpellsTail (led 40 ts) xs
each_led [] [] h = tt
each_led [] (x ∷ xs) h = absurd h
each_led (t ∷ ts) [] h = absurd h
each_led (t ∷ ts) (x ∷ xs) h = (h.0, each_led ts xs h.1)

tailed_found : (ts : List (List ℕ)) (p : Piece) → tailed ts ≡ Some p → SpellsPiece (joined_by 40 ts) p
tailed_found [] p e = absurd cc
tailed_found (t ∷ ts) p e =
    let ws = bind_found (set_in t) _ p e in
    let others = bind_found (each tail_in ts) _ p ws.2 in
    let are : Each (λ u x. SpellsTail (40 ∷ u) x) ts others.0 = each_found tail_in (λ u x. SpellsTail (40 ∷ u) x) tail_found ts others.0 others.1 in
    subst (λ (x : Piece). SpellsPiece (joined_by 40 (t ∷ ts)) x) (some_is (Set (record { words = ws.0; tails = others.0 })) p others.2)
    (t, led 40 ts, joined_led 40 t ts, set_found t ws.0 ws.1, each_led ts others.0 are)

tailed_in_found : (text : List ℕ) (p : Piece) → tailed_in text ≡ Some p → SpellsPiece text p
tailed_in_found [] p e = absurd cc
tailed_in_found (c ∷ cs) p e =
    let ts = onto_first c (parts_by 40 (depth_behind 0 c) cs) in
    subst (λ (x : List ℕ). SpellsPiece x p) (joined_onto 40 c (parts_by 40 (depth_behind 0 c) cs) ∙ ap (λ (x : List ℕ). c ∷ x) (joined_parts 40 (depth_behind 0 c) cs)) (tailed_found ts p e)

piece_case : (t : Bool) (text : List ℕ) (p : Piece) → bytes_eq text (codes ".*") ≡ t → (elim t [ true ↦ Some Anything | false ↦ tailed_in text ]) ≡ Some p → SpellsPiece text p
piece_case true text p test e = subst (λ (x : Piece). SpellsPiece text x) (some_is Anything p e) (same_bytes text (codes ".*") test)
piece_case false text p test e = tailed_in_found text p e

pub piece_found : (text : List ℕ) (p : Piece) → piece_in text ≡ Some p → SpellsPiece text p
unfolding piece_in
piece_found text p e = piece_case (bytes_eq text (codes ".*")) text p refl e

-- ---- marks

left_case : (t u : Bool) (c : ℕ) (cs : List ℕ) (m : Mark × List ℕ) → (c == 94) ≡ t → (c == 95) ≡ u → (elim t [ true ↦ (Anchor, cs) | false ↦ elim u [ true ↦ (Under, cs) | false ↦ (Nothing, c ∷ cs) ] ]) ≡ m → left_text m.0 ++ m.1 ≡ c ∷ cs
left_case true u c cs m e f is = subst (λ (x : Mark × List ℕ). left_text x.0 ++ x.1 ≡ c ∷ cs) is (ap (λ (x : ℕ). x ∷ cs) (sym (eqb-true c 94 e)))
left_case false true c cs m e f is = subst (λ (x : Mark × List ℕ). left_text x.0 ++ x.1 ≡ c ∷ cs) is (ap (λ (x : ℕ). x ∷ cs) (sym (eqb-true c 95 f)))
left_case false false c cs m e f is = subst (λ (x : Mark × List ℕ). left_text x.0 ++ x.1 ≡ c ∷ cs) is refl

left_found : (text : List ℕ) → left_text (left_in text).0 ++ (left_in text).1 ≡ text
left_found [] = refl
left_found (c ∷ cs) = left_case (c == 94) (c == 95) c cs (left_in (c ∷ cs)) refl refl refl

-- what stands before the last byte, and that byte
pub front_last : (c : ℕ) (cs : List ℕ) → take (length cs) (c ∷ cs) ++ (get_or (c ∷ cs) (length cs) 0 ∷ []) ≡ c ∷ cs
front_last c [] = refl
front_last c (d ∷ ds) = ap (λ (x : List ℕ). c ∷ x) (front_last d ds)

right_case : (t u : Bool) (text front : List ℕ) (c : ℕ) (m : Mark × List ℕ) → front ++ (c ∷ []) ≡ text → (c == 36) ≡ t → (c == 95) ≡ u → (elim t [ true ↦ (Anchor, front) | false ↦ elim u [ true ↦ (Under, front) | false ↦ (Nothing, text) ] ]) ≡ m → m.1 ++ right_text m.0 ≡ text
right_case true u text front c m all e f is = subst (λ (x : Mark × List ℕ). x.1 ++ right_text x.0 ≡ text) is (ap (λ (x : ℕ). front ++ (x ∷ [])) (sym (eqb-true c 36 e)) ∙ all)
right_case false true text front c m all e f is = subst (λ (x : Mark × List ℕ). x.1 ++ right_text x.0 ≡ text) is (ap (λ (x : ℕ). front ++ (x ∷ [])) (sym (eqb-true c 95 f)) ∙ all)
right_case false false text front c m all e f is = subst (λ (x : Mark × List ℕ). x.1 ++ right_text x.0 ≡ text) is (append-nil text)

right_found : (text : List ℕ) → (right_in text).1 ++ right_text (right_in text).0 ≡ text
right_found [] = refl
right_found (c ∷ cs) =
    let last = get_or (c ∷ cs) (length cs) 0 in
    right_case (last == 36) (last == 95) (c ∷ cs) (take (length cs) (c ∷ cs)) last (right_in (c ∷ cs)) (front_last c cs) refl refl refl

-- ---- branches

mark_found : (m : Mark) (p : Piece) → mark_fits m p ≡ true → MarkFits m p
mark_found Anchor p e = tt
mark_found Under Anything e = absurd cc
mark_found Under (Set s) e = tt
mark_found Nothing Anything e = tt
mark_found Nothing (Set s) e = absurd cc

fit_found : (p q : Piece) → pieces_fit p q ≡ true → PiecesFit p q
fit_found Anything Anything e = absurd cc
fit_found Anything (Set s) e = tt
fit_found (Set s) q e = tt

start_found : (left : Mark) (ps : List Piece) → pieces_start left ps ≡ true → PiecesStart left ps
start_found left [] e = absurd cc
start_found left (p ∷ ps) e = mark_found left p e

end_found : (ps : List Piece) (right : Mark) → pieces_end ps right ≡ true → PiecesEnd ps right
unfolding pieces_end
end_found [] right e = absurd cc
end_found (p ∷ []) right e = mark_found right p e
end_found (p ∷ q ∷ ps) right e =
    let k = and_parts (pieces_fit p q) (pieces_end (q ∷ ps) right) e in
    (fit_found p q k.0, end_found (q ∷ ps) right k.1)

between_found : (left : Mark) (text : List ℕ) (right : Mark) (b : IosBranch) → between left text right ≡ Some b → SpellsBranch (left_text left ++ (text ++ right_text right)) b
unfolding between
between_found left text right b e =
    let ps = bind_found (each piece_in (parts_by 95 0 text)) _ b e in
    let k = when_found (pieces_start left ps.0 && pieces_end ps.0 right) _ b ps.2 in
    let fits = and_parts (pieces_start left ps.0) (pieces_end ps.0 right) k.0 in
    let parts = parts_by 95 0 text in
    let are : Each SpellsPiece parts ps.0 = each_found piece_in SpellsPiece piece_found parts ps.0 ps.1 in
    subst (λ (x : IosBranch). SpellsBranch (left_text left ++ (text ++ right_text right)) x) k.1
    (parts, ap (λ (x : List ℕ). left_text left ++ (x ++ right_text right)) (sym (joined_parts 95 0 text)), are, (each_all SpellsPiece IsPiece piece_shaped parts ps.0 are, start_found left ps.0 fits.0, end_found ps.0 right fits.1))

pieces_found : (text : List ℕ) (b : IosBranch) → pieces_in text ≡ Some b → SpellsBranch text b
pieces_found text b e =
    let l = left_in text in
    let r = right_in l.1 in
    subst (λ (x : List ℕ). SpellsBranch x b) (ap (λ (x : List ℕ). left_text l.0 ++ x) (right_found l.1) ∙ left_found text) (between_found l.0 r.1 r.0 b e)

branch_case : (t : Bool) (text : List ℕ) (b : IosBranch) → bytes_eq text (codes "^$") ≡ t → (elim t [ true ↦ Some EmptyPath | false ↦ pieces_in text ]) ≡ Some b → SpellsBranch text b
branch_case true text b test e = subst (λ (x : IosBranch). SpellsBranch text x) (some_is EmptyPath b e) (same_bytes text (codes "^$") test)
branch_case false text b test e = pieces_found text b e

pub branch_found : (text : List ℕ) (b : IosBranch) → branch_in text ≡ Some b → SpellsBranch text b
unfolding branch_in
branch_found text b e = branch_case (bytes_eq text (codes "^$")) text b refl e

-- what is found is spelled
pub pattern_found : (text : List ℕ) (bs : List IosBranch) → ios_pattern_in text ≡ Some bs → SpellsPattern text bs
unfolding ios_pattern_in
pattern_found text bs e =
    let parts = parts_by 124 0 text in
    let are : Each SpellsBranch parts bs = each_found branch_in SpellsBranch branch_found parts bs e in
    record { parts = parts; spelled = sym (joined_parts 124 0 text); each = are; some = many SpellsBranch parts bs _ _ (parts_split 124 0 text) are }
