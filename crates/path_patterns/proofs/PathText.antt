-- The text of a path: its numbers and the places between them.
use Rattle.std.proofs.Common.{◌≡◌, refl, sym, ap, subst, ◌∙◌, ℕ, ◌^◌, ◌<◌, ◌≤◌, Bool, true, ◌&&◌, List, [], ◌∷◌, ◌++◌, length, arith, inl, inr, ◌⊎◌, append_assoc, append-nil}
use Rattle.std.specs.Prelude.{decimal}
use Rattle.std.specs.List.{list_all}
use Rattle.std.proofs.lemmas.Bool.{and_parts}
use Rattle.route_types.specs.Words.{is_digit}
use Rattle.route_types.proofs.Numbers.{all_digits, decimal_plain}
use Rattle.path_patterns.specs.Items.{IsPath}
use Rattle.path_patterns.specs.Search.{path_text}
use Rattle.path_patterns.proofs.Lists.{all_behind}

-- what stands behind a number of the text: a space and the other numbers, or nothing
abbrev pub behind : List ℕ → List ℕ
behind [] = []
behind (m ∷ ns) = 32 ∷ path_text (m ∷ ns)

-- a number's text, and what stands behind it
pub path_text_is : (n : ℕ) (ns : List ℕ) → path_text (n ∷ ns) ≡ decimal n ++ behind ns
unfolding path_text
path_text_is n [] = sym (append-nil (decimal n))
path_text_is n (m ∷ ns) = refl

pub path_text_none : path_text [] ≡ []
unfolding path_text
path_text_none = refl

-- a place at which no number goes on
abbrev pub Edge : List ℕ → Type 0
Edge t = (t ≡ []) ⊎ ((u : List ℕ) × (t ≡ 32 ∷ u))

pub behind_edge : (ns : List ℕ) → Edge (behind ns)
behind_edge [] = inl refl
behind_edge (m ∷ ns) = inr (path_text (m ∷ ns), refl)

-- each byte is a digit
abbrev pub Plain : List ℕ → Type 0
Plain ds = list_all is_digit ds ≡ true

all_digits_is : (cs : List ℕ) → all_digits cs ≡ list_all is_digit cs
all_digits_is [] = refl
all_digits_is (c ∷ cs) = ap (λ (b : Bool). is_digit c && b) (all_digits_is cs)

pub decimal_digits : (n : ℕ) → n < 2 ^ 32 → Plain (decimal n)
decimal_digits n small = sym (all_digits_is (decimal n)) ∙ (decimal_plain n (omega arith)).digits

pub decimal_some : (n : ℕ) → n < 2 ^ 32 → 1 ≤ length (decimal n)
decimal_some n small = omega (arith, (decimal_plain n (omega arith)).some)

pub digit_no_space : (c : ℕ) → is_digit c ≡ true → c ≡ 32 → ⊥
digit_no_space c d e =
    let k : is_digit 32 ≡ true = subst (λ (x : ℕ). is_digit x ≡ true) e d in
    absurd cc

edge_no_digit : (t : List ℕ) (c : ℕ) (cs : List ℕ) → Edge t → is_digit c ≡ true → t ≡ c ∷ cs → ⊥
edge_no_digit t c cs (inl e) d h = absurd cc
edge_no_digit t c cs (inr e) d h =
    let same : 32 ∷ e.0 ≡ c ∷ cs = sym e.1 ∙ h in
    let k : c ≡ 32 = cc in
    digit_no_space c d k

-- a run of digits before an edge is cut in one way
pub same_cut : (xs ys a b : List ℕ) → Plain xs → Plain ys → Edge a → Edge b → xs ++ a ≡ ys ++ b → (xs ≡ ys) × (a ≡ b)
same_cut [] [] a b p q e f h = (refl, h)
same_cut [] (y ∷ ys) a b p q e f h = absurd (edge_no_digit a y (ys ++ b) e (and_parts (is_digit y) (list_all is_digit ys) q).0 h)
same_cut (x ∷ xs) [] a b p q e f h = absurd (edge_no_digit b x (xs ++ a) f (and_parts (is_digit x) (list_all is_digit xs) p).0 (sym h))
same_cut (x ∷ xs) (y ∷ ys) a b p q e f h =
    let first : x ≡ y = cc in
    let others : xs ++ a ≡ ys ++ b = cc in
    let r = same_cut xs ys a b (and_parts (is_digit x) (list_all is_digit xs) p).1 (and_parts (is_digit y) (list_all is_digit ys) q).1 e f others in
    (ap (λ (c : ℕ). c ∷ xs) first ∙ ap (λ (cs : List ℕ). y ∷ cs) r.0, r.1)

pub nothing_before : (front t : List ℕ) (c : ℕ) → [] ≡ front ++ (c ∷ t) → ⊥
nothing_before [] t c h = absurd cc
nothing_before (x ∷ xs) t c h = absurd cc

-- a space stands behind a run of digits, never in it
space_behind : (xs b front t : List ℕ) → Plain xs → xs ++ b ≡ front ++ (32 ∷ t) → (more : List ℕ) × (b ≡ more ++ (32 ∷ t))
space_behind [] b front t p h = (front, h)
space_behind (x ∷ xs) b [] t p h =
    let k : x ≡ 32 = cc in
    absurd (digit_no_space x (and_parts (is_digit x) (list_all is_digit xs) p).0 k)
space_behind (x ∷ xs) b (y ∷ ys) t p h =
    let others : xs ++ b ≡ ys ++ (32 ∷ t) = cc in
    space_behind xs b ys t (and_parts (is_digit x) (list_all is_digit xs) p).1 others

-- a place at the start of a number, behind others of the path
pub record Start (path : List ℕ) (place : List ℕ) : Type 0 where
  pub taken : List ℕ
  pub left : List ℕ
  pub is : path ≡ taken ++ left
  pub place_is : place ≡ path_text left

-- the same, behind one number or more
pub record Later (path : List ℕ) (place : List ℕ) : Type 0 where
  pub start : Start path place
  pub some : 1 ≤ length start.taken

later_more : (n : ℕ) (ns place : List ℕ) → Later ns place → Later (n ∷ ns) place
later_more n ns place h = record {
  start = record { taken = n ∷ h.start.taken; left = h.start.left; is = ap (λ (xs : List ℕ). n ∷ xs) h.start.is; place_is = h.start.place_is };
  some = omega arith;
}

later_next : (n : ℕ) (ns place front : List ℕ) → ((more : List ℕ) → path_text ns ≡ more ++ (32 ∷ place) → Later ns place) → behind ns ≡ front ++ (32 ∷ place) → Later (n ∷ ns) place
later_next n [] place front more h = absurd (nothing_before front place 32 h)
later_next n (m ∷ ms) place [] more h =
    let k : place ≡ path_text (m ∷ ms) = cc in
    record { start = record { taken = n ∷ []; left = m ∷ ms; is = refl; place_is = k }; some = omega arith }
later_next n (m ∷ ms) place (x ∷ xs) more h =
    let k : path_text (m ∷ ms) ≡ xs ++ (32 ∷ place) = cc in
    later_more n (m ∷ ms) place (more xs k)

-- behind a space of the text a number starts
pub behind_space : (path front place : List ℕ) → IsPath path → path_text path ≡ front ++ (32 ∷ place) → Later path place
behind_space [] front place p h = absurd (nothing_before front place 32 (sym path_text_none ∙ h))
behind_space (n ∷ ns) front place p h =
    let b = space_behind (decimal n) (behind ns) front place (decimal_digits n p.0) (sym (path_text_is n ns) ∙ h) in
    later_next n ns place b.0 (λ more e. behind_space ns more place p.1 e) b.1

-- what stands in the text behind numbers of the path
pub ends_behind : (front left : List ℕ) → 1 ≤ length front → (before : List ℕ) × (path_text (front ++ left) ≡ before ++ behind left)
ends_behind [] left some = absurd (omega arith)
ends_behind (n ∷ []) left some = (decimal n, path_text_is n left)
ends_behind (n ∷ m ∷ ms) left some =
    let more = ends_behind (m ∷ ms) left (omega arith) in
    (decimal n ++ (32 ∷ more.0), path_text_is n ((m ∷ ms) ++ left) ∙ ap (λ (t : List ℕ). decimal n ++ (32 ∷ t)) more.1 ∙ sym (append_assoc (decimal n) (32 ∷ more.0) (behind left)))

ends_next : (before left text : List ℕ) → text ≡ before ++ behind left → (front : List ℕ) × (text ≡ front ++ path_text left)
ends_next before [] text h = (before, h ∙ ap (λ (t : List ℕ). before ++ t) (sym path_text_none))
ends_next before (m ∷ ms) text h = (before ++ (32 ∷ []), h ∙ sym (append_assoc before (32 ∷ []) (path_text (m ∷ ms))))

pub ends_at : (front left : List ℕ) → (before : List ℕ) × (path_text (front ++ left) ≡ before ++ path_text left)
ends_at [] left = ([], refl)
ends_at (n ∷ ns) left =
    let b = ends_behind (n ∷ ns) left (omega arith) in
    ends_next b.0 left (path_text ((n ∷ ns) ++ left)) b.1

-- the numbers that are left are numbers of the path
pub path_left : (front left path : List ℕ) → path ≡ front ++ left → IsPath path → IsPath left
path_left front left path e p = all_behind (λ n. n < 2 ^ 32) front left (subst IsPath e p)
