-- The texts of lists, conditions and statements, as they are put together.
use Rattle.std.proofs.Common.{◌≡◌, refl, sym, ap, ap₂, ◌∙◌, ℕ, zero, suc, ◌-◌, ◌*◌, ◌<◌, Bool, true, false, List, [], ◌∷◌, ◌++◌, length, map, flat_map, Option, Some, None, Result, Ok, Err, append_assoc, append-nil, arith}
use Rattle.std.specs.Prelude.{codes, IfOk}
use Rattle.text_words.specs.Pieces.{Piece, spaces, pieces_text}
use Rattle.text_words.specs.RplCut.{opening}
use Rattle.text_words.specs.RplText.{bare, mark_behind, line_bytes, rpl_text}
use Rattle.text_words.specs.declared.rpl_blocks.BlockKind.{BlockKind}
use Rattle.rpl_forms.specs.declared.item.Action.TheVariants.{SetCommunity}
use Rattle.rpl_forms.specs.declared.item.CommunitySetting.{CommunitySetting}
use Rattle.rpl_forms.specs.declared.item.RplForm.{RplForm}
use Rattle.rpl_forms.specs.declared.item.RplForm.TheVariants.{Header as OfHeader, Element as OfElement, Statement as OfStatement, End, Other}
use Rattle.rpl_text.specs.Layout.{kind_of, closing, goes_on, level_at, level_behind, lines_of, text_of}
use Rattle.rpl_words.specs.declared.condition.Term.{Term}
use Rattle.rpl_words.specs.declared.condition.Term.TheVariants.{Test, Group, Not, And, Or}
use Rattle.rpl_text.specs.Texts.{operands_text, comma_text, form_text, block_after, level_after}
use Rattle.rpl_text.specs.Words.{Phrase, spaced, laid, phrase_text, in_parentheses, negated, joined, commas, listed, test_phrase, element_phrase, statement_phrase, header_phrase, operands_joined, condition_phrase, branch_phrase, set_phrase, rect_phrase, action_phrase, additive_words}
use Rattle.rpl_text.proofs.Pieces.{text_append}

-- what stands behind the first item of a list
abbrev later : {A : Type 0} → (A → Phrase) → List A → List ℕ
later f xs = flat_map (λ y. 44 ∷ 32 ∷ phrase_text (f y)) xs

commas_text : {A : Type 0} (f : A → Phrase) (gap : ℕ) (x : A) (xs : List A) → pieces_text 39 (commas gap (map f (x ∷ xs))) ≡ pieces_text 39 (laid gap (f x)) ++ later f xs
unfolding pieces_text
commas_text f gap x [] = sym (append-nil (pieces_text 39 (laid gap (f x))))
commas_text f gap x (y ∷ ys) =
    text_append (laid gap (f x)) (bare (codes ",") ∷ commas 1 (map f (y ∷ ys)))
    ∙ ap (λ (t : List ℕ). pieces_text 39 (laid gap (f x)) ++ (44 ∷ t)) (commas_text f 1 y ys)

-- a list in parentheses
pub listed_text : {A : Type 0} (f : A → Phrase) (x : A) (xs : List A) → phrase_text (listed (map f (x ∷ xs))) ≡ 40 ∷ (phrase_text (f x) ++ (flat_map (λ y. 44 ∷ 32 ∷ phrase_text (f y)) xs ++ (41 ∷ [])))
unfolding pieces_text
listed_text f x xs =
    ap (λ (t : List ℕ). 40 ∷ t) (text_append (commas 0 (map f (x ∷ xs))) (bare (codes ")") ∷ [])
    ∙ ap (λ (t : List ℕ). t ++ (41 ∷ [])) (commas_text f 0 x xs)
    ∙ append_assoc (phrase_text (f x)) (later f xs) (41 ∷ []))

-- words in parentheses
group_text : (p : Phrase) → phrase_text (in_parentheses p) ≡ 40 ∷ (phrase_text p ++ (41 ∷ []))
unfolding pieces_text
group_text p = ap (λ (t : List ℕ). 40 ∷ t) (text_append (laid 0 p) (bare (codes ")") ∷ []))

-- words that are joined
joined_text : (key : List ℕ) (p q : Phrase) → phrase_text (joined key p q) ≡ phrase_text p ++ (32 ∷ (key ++ (32 ∷ phrase_text q)))
unfolding pieces_text
joined_text key p q =
    ap (λ (t : List ℕ). p.first ++ t) (text_append p.behind (spaced key ∷ laid 1 q))
    ∙ sym (append_assoc p.first (pieces_text 39 p.behind) (32 ∷ (key ++ (32 ∷ phrase_text q))))

not_text : (p : Phrase) → phrase_text (negated p) ≡ codes "not " ++ phrase_text p
unfolding pieces_text
not_text p = refl

first_text : (t u : List ℕ) (ts : List (List ℕ)) (more : List Term) → t ≡ u → operands_text (t ∷ ts) more ≡ operands_text (u ∷ ts) more
first_text t u ts more e = ap (λ (x : List ℕ). operands_text (x ∷ ts) more) e

-- the text of a condition is put together from those of its operands
pub operands_are : (ps : List Phrase) (ts : List Term) → operands_text (map phrase_text ps) ts ≡ phrase_text (operands_joined ps ts)
unfolding operands_text operands_joined pieces_text
operands_are ps (Test t ∷ ts) = operands_are (test_phrase t ∷ ps) ts
operands_are (p ∷ ps) (Group ∷ ts) = first_text _ _ (map phrase_text ps) ts (sym (group_text p)) ∙ operands_are (in_parentheses p ∷ ps) ts
operands_are (p ∷ ps) (Not ∷ ts) = operands_are (negated p ∷ ps) ts
operands_are (q ∷ p ∷ ps) (And ∷ ts) = first_text _ _ (map phrase_text ps) ts (sym (joined_text (codes "and") p q)) ∙ operands_are (joined (codes "and") p q ∷ ps) ts
operands_are (q ∷ p ∷ ps) (Or ∷ ts) = first_text _ _ (map phrase_text ps) ts (sym (joined_text (codes "or") p q)) ∙ operands_are (joined (codes "or") p q ∷ ps) ts
operands_are (p ∷ ps) [] = refl
operands_are [] [] = refl
operands_are [] (Group ∷ ts) = operands_are [] ts
operands_are [] (Not ∷ ts) = operands_are [] ts
operands_are [] (And ∷ ts) = operands_are [] ts
operands_are [] (Or ∷ ts) = operands_are [] ts
operands_are (p ∷ []) (And ∷ ts) = operands_are (p ∷ []) ts
operands_are (p ∷ []) (Or ∷ ts) = operands_are (p ∷ []) ts

-- the text of a condition
pub condition_text : (ts : List Term) → operands_text [] ts ≡ phrase_text (condition_phrase ts)
condition_text ts = operands_are [] ts

-- a condition between a word and `then`
branch_text : (key : List ℕ) (ts : List Term) → phrase_text (branch_phrase key ts) ≡ key ++ (32 ∷ (phrase_text (condition_phrase ts) ++ codes " then"))
unfolding pieces_text
branch_text key ts = ap (λ (t : List ℕ). key ++ t) (text_append (laid 1 (condition_phrase ts)) (spaced (codes "then") ∷ []))

pub branch_line : (key : List ℕ) (ts : List Term) (text : List ℕ) → text ≡ phrase_text (condition_phrase ts) → key ++ (32 ∷ (text ++ codes " then")) ≡ phrase_text (branch_phrase key ts)
branch_line key ts text e = ap (λ (t : List ℕ). key ++ (32 ∷ (t ++ codes " then"))) e ∙ sym (branch_text key ts)

-- a set with `additive` behind it or not
setting_text : (p : Phrase) (additive : Bool) → pieces_text 39 (laid 1 p ++ additive_words additive) ≡ 32 ∷ (phrase_text p ++ pieces_text 39 (additive_words additive))
unfolding pieces_text
setting_text p additive = text_append (laid 1 p) (additive_words additive)

pub setting_line : (s : CommunitySetting) → codes "set community " ++ (phrase_text (set_phrase rect_phrase s.set) ++ pieces_text 39 (additive_words s.additive)) ≡ phrase_text (action_phrase (SetCommunity s))
unfolding pieces_text
setting_line s = ap (λ (t : List ℕ). codes "set community" ++ t) (sym (setting_text (set_phrase rect_phrase s.set) s.additive))

-- an element and the comma behind it
element_text : (p : Phrase) (mark : List Piece) → pieces_text 39 (laid 2 p ++ mark) ≡ codes "  " ++ (phrase_text p ++ pieces_text 39 mark)
unfolding pieces_text
element_text p mark = text_append (laid 2 p) mark

-- ---- lines

element_line : (p : Phrase) (comma : Bool) → pieces_text 39 (laid 2 p ++ mark_behind comma) ++ (10 ∷ []) ≡ codes "  " ++ (phrase_text p ++ (comma_text comma ++ (10 ∷ [])))
unfolding pieces_text
element_line p true = ap (λ (t : List ℕ). t ++ (10 ∷ [])) (element_text p (mark_behind true)) ∙ ap (λ (t : List ℕ). codes "  " ++ t) (append_assoc (phrase_text p) (44 ∷ []) (10 ∷ []))
element_line p false = ap (λ (t : List ℕ). t ++ (10 ∷ [])) (element_text p []) ∙ ap (λ (t : List ℕ). codes "  " ++ (t ++ (10 ∷ []))) (append-nil (phrase_text p))

-- text that ends with a line end, and more behind it
line_then : (text line rest : List ℕ) → text ++ (10 ∷ []) ≡ line → text ++ (10 ∷ rest) ≡ line ++ rest
line_then text line rest e = sym (append_assoc text (10 ∷ []) rest) ∙ ap (λ (t : List ℕ). t ++ rest) e

statement_line : (gap : ℕ) (p : Phrase) → pieces_text 39 (laid gap p) ++ (10 ∷ []) ≡ spaces gap ++ (phrase_text p ++ (10 ∷ []))
unfolding pieces_text
statement_line gap p = append_assoc (spaces gap) (phrase_text p) (10 ∷ [])

header_line : (key : List ℕ) (p : Phrase) → pieces_text 39 (bare key ∷ laid 1 p) ++ (10 ∷ []) ≡ key ++ (32 ∷ (phrase_text p ++ (10 ∷ [])))
unfolding pieces_text
header_line key p = append_assoc key (32 ∷ phrase_text p) (10 ∷ [])

-- the text of forms begins with the line of the first
pub form_line : (block : Option BlockKind) (level : ℕ) (f : RplForm) (fs : List RplForm)
    → rpl_text (lines_of block level (f ∷ fs)) ≡ form_text block level (goes_on fs) f ++ rpl_text (lines_of (block_after block f) (level_after level f) fs)
unfolding lines_of rpl_text
form_line block level (OfHeader h) fs = line_then _ _ (rpl_text (lines_of (Some (kind_of h)) 1 fs)) (header_line (opening (kind_of h)) (header_phrase h))
form_line block level (OfElement e) fs = line_then _ _ (rpl_text (lines_of block level fs)) (element_line (element_phrase e) (goes_on fs))
form_line block level (OfStatement s) fs = line_then _ _ (rpl_text (lines_of block (level_behind level s) fs)) (statement_line (2 * level_at level s) (statement_phrase s))
form_line block level End fs = sym (append_assoc (line_bytes (closing block)) (10 ∷ 33 ∷ 10 ∷ []) (rpl_text (lines_of None 1 fs)))
form_line block level (Other o) fs = refl

-- the line of a form is written before others
pub line_written : {A E : Type 0} (block : Option BlockKind) (level : ℕ) (f : RplForm) (fs : List RplForm) (more : Bool) (now before : List ℕ) (r : Result A E) → more ≡ goes_on fs
    → IfOk r (λ _. now ≡ before ++ form_text block level more f) → IfOk r (λ _. now ++ rpl_text (lines_of (block_after block f) (level_after level f) fs) ≡ before ++ rpl_text (lines_of block level (f ∷ fs)))
line_written block level f fs more now before (Ok x) same e =
    let rest = rpl_text (lines_of (block_after block f) (level_after level f) fs) in
    ap (λ (t : List ℕ). t ++ rest) e ∙ append_assoc before (form_text block level more f) rest ∙ ap (λ (b : Bool). before ++ (form_text block level b f ++ rest)) same
    ∙ ap (λ (t : List ℕ). before ++ t) (sym (form_line block level f fs))
line_written block level f fs more now before (Err m) same e = tt

-- all lines are written
pub all_written : (block : Option BlockKind) (level : ℕ) (rest fs : List RplForm) (now before : List ℕ) → length rest < 1 → now ++ rpl_text (lines_of block level rest) ≡ before ++ rpl_text (lines_of None 1 fs) → now ≡ before ++ text_of fs
unfolding lines_of rpl_text text_of
all_written block level [] fs now before none h = sym (append-nil now) ∙ h
all_written block level (f ∷ rest) fs now before none h = absurd (omega arith)

-- two spaces more
pub margin_more : (now before whole : List ℕ) (n : ℕ) → now ≡ before ++ codes "  " → before ++ spaces (2 * n) ≡ whole → 0 < n → now ++ spaces (2 * (n - 1)) ≡ whole
margin_more now before whole zero e h left = absurd (omega (arith, left))
margin_more now before whole (suc n) e h left =
    let double : 2 * suc n ≡ suc (suc (2 * n)) = omega arith in
    let same : suc n - 1 ≡ n = omega arith in
    ap₂ (λ (t : List ℕ) (k : ℕ). t ++ spaces (2 * k)) e same ∙ append_assoc before (codes "  ") (spaces (2 * n)) ∙ ap (λ (k : ℕ). before ++ spaces k) (sym double) ∙ h
