-- Letters: what is added, and that numbers of one letter are alike.
use Rattle.std.proofs.Common.{◌≡◌, refl, sym, ap, ◌∙◌, subst, ℕ, zero, suc, ◌-◌, ◌<◌, ◌≤◌, ◌^◌, Bool, true, false, List, [], ◌∷◌, ◌++◌, length, drop, take, map, Some, slice_get, get_or, arith, add-one}
use Rattle.std.proofs.lemmas.List.{map-append, append-nil, length_push, length-drop, take_all}
use Rattle.std.proofs.lemmas.Option.{same_Some}
use Rattle.path_patterns.specs.Items.{IsPath}
use Rattle.path_classes.specs.Letters.{signature, AreTold, HasLetter, LetterAdded, AreLetters, AllLettered}
use Rattle.path_classes.specs.declared.lines.Line.{Line}
use Rattle.path_classes.proofs.Keys.{get_left, IsPut}

-- ---- what is added

pub path_push : (xs : List ℕ) (n : ℕ) → IsPath xs → n < 2 ^ 32 → IsPath (xs ++ n ∷ [])
path_push [] n h below = (below, tt)
path_push (x ∷ xs) n h below = (h.0, path_push xs n h.1 below)

-- what stands at a place of what a function makes of numbers is made of the number there
pub made_there : {A : Type 0} (f : ℕ → A) (xs : List ℕ) (i : ℕ) (a : A) → slice_get (map f xs) i ≡ Some a → (n : ℕ) × (slice_get xs i ≡ Some n) × (f n ≡ a)
made_there f [] i a e = absurd cc
made_there f (x ∷ xs) zero a e = (x, refl, same_Some (f x) a e)
made_there f (x ∷ xs) (suc i) a e = made_there f xs i a e

module _ (lines : List Line) where
  has_letter : (rows : List (List Bool)) (numbers : List ℕ) (n x : ℕ) → AreTold lines rows numbers → slice_get rows x ≡ Some (signature lines n) → HasLetter lines numbers n x
  has_letter rows numbers n x told there =
      let made = made_there (λ (m : ℕ). signature lines m) numbers x (signature lines n) (ap (λ (rs : List (List Bool)). slice_get rs x) (sym told.rows_told) ∙ there) in
      record { number = made.0; there = made.1; alike = made.2 }

  pub letter_added : (before rows : List (List Bool)) (numbers more : List ℕ) (n x : ℕ) (row : List Bool) (is_new : Bool) → row ≡ signature lines n → n < 2 ^ 32
      → IsPut before rows row is_new → slice_get rows x ≡ Some row → IsPut numbers more n is_new → AreTold lines before numbers → LetterAdded lines numbers rows more n x
  letter_added before rows numbers more n x row true is below put there pushed told =
      let now : AreTold lines rows more = record {
        rows_told = put ∙ (λ i. told.rows_told i ++ is i ∷ []) ∙ sym (map-append (λ (m : ℕ). signature lines m) numbers (n ∷ [])) ∙ ap (λ (ns : List ℕ). map (λ m. signature lines m) ns) (sym pushed);
        in_range = subst (λ (ns : List ℕ). IsPath ns) (sym pushed) (path_push numbers n told.in_range below);
      } in
      record { extra = n ∷ []; grown = pushed; told = now; has = has_letter rows more n x now (there ∙ ap Some is) }
  letter_added before rows numbers more n x row false is below put there pushed told =
      let now : AreTold lines rows more = record {
        rows_told = put ∙ told.rows_told ∙ ap (λ (ns : List ℕ). map (λ m. signature lines m) ns) (sym pushed);
        in_range = subst (λ (ns : List ℕ). IsPath ns) (sym pushed) told.in_range;
      } in
      record { extra = []; grown = pushed ∙ sym (append-nil numbers); told = now; has = has_letter rows more n x now (there ∙ ap Some is) }

  has_more : (numbers extra more : List ℕ) (n x : ℕ) → more ≡ numbers ++ extra → HasLetter lines numbers n x → HasLetter lines more n x
  has_more numbers extra more n x grown h = record {
    number = h.number;
    there = ap (λ (ns : List ℕ). slice_get ns x) grown ∙ get_left numbers extra x h.number h.there;
    alike = h.alike;
  }

  letters_more : (numbers extra more es xs : List ℕ) → more ≡ numbers ++ extra → AreLetters lines numbers es xs → AreLetters lines more es xs
  letters_more numbers extra more es [] grown h = tt
  letters_more numbers extra more [] (x ∷ xs) grown h = absurd h
  letters_more numbers extra more (e ∷ es) (x ∷ xs) grown h = (has_more numbers extra more e x grown h.0, letters_more numbers extra more es xs grown h.1)

  letters_push : (numbers es xs tail : List ℕ) (n x : ℕ) → n ∷ tail ≡ drop (length xs) es → AreLetters lines numbers es xs → HasLetter lines numbers n x → AreLetters lines numbers es (xs ++ x ∷ [])
  letters_push numbers [] [] tail n x rest h has = absurd cc
  letters_push numbers (e ∷ es) [] tail n x rest h has =
      let same : n ≡ e = cc in
      (subst (λ (m : ℕ). HasLetter lines numbers m x) same has, tt)
  letters_push numbers [] (y ∷ xs) tail n x rest h has = absurd h
  letters_push numbers (e ∷ es) (y ∷ xs) tail n x rest h has = (h.0, letters_push numbers es xs tail n x rest h.1 has)

pub rest_suc : {A : Type 0} (es : List A) (k : ℕ) (n : A) (tail : List A) → n ∷ tail ≡ drop k es → tail ≡ drop (suc k) es
rest_suc [] zero n tail e = absurd cc
rest_suc [] (suc k) n tail e = absurd cc
rest_suc (x ∷ es) zero n tail e = cc
rest_suc (x ∷ es) (suc k) n tail e = rest_suc es k n tail e

pub front_and_rest : (rest : List ℕ) → 1 ≤ length rest → get_or rest 0 0 ∷ take (length rest - 1) (drop 1 rest) ≡ rest
front_and_rest [] long = absurd (omega arith)
front_and_rest (n ∷ rest) long = ap (λ (ns : List ℕ). n ∷ ns) (take_all (suc (length rest) - 1) rest (omega arith))

abbrev pub rest_of : List ℕ → List ℕ
rest_of rest = take (length rest - 1) (drop 1 rest)

-- one letter more stands for the next number
pub record OneMore (lines : List Line) (es numbers xs rest : List ℕ) : Type 0 where
  pub lettered : AreLetters lines numbers es xs
  pub rest_is : rest ≡ drop (length xs) es

pub one_more : (lines : List Line) (es numbers more xs ys rest : List ℕ) (rows : List (List Bool)) (x : ℕ) → 1 ≤ length rest → OneMore lines es numbers xs rest
    → LetterAdded lines numbers rows more (get_or rest 0 0) x → ys ≡ xs ++ x ∷ [] → OneMore lines es more ys (rest_of rest)
one_more lines es numbers more xs ys rest rows x long before added pushed =
    let front : get_or rest 0 0 ∷ rest_of rest ≡ drop (length xs) es = front_and_rest rest long ∙ before.rest_is in
    record {
      lettered = subst (λ (zs : List ℕ). AreLetters lines more es zs) (sym pushed)
          (letters_push lines more es xs (rest_of rest) (get_or rest 0 0) x front (letters_more lines numbers added.extra more es xs added.grown before.lettered) added.has);
      rest_is = rest_suc es (length xs) (get_or rest 0 0) (rest_of rest) front ∙ ap (λ (k : ℕ). drop k es) (sym (ap length pushed ∙ length_push xs x ∙ add-one (length xs)));
    }

pub all_lettered : (lines : List Line) (es numbers xs rest : List ℕ) → length rest < 1 → OneMore lines es numbers xs rest → IsPath numbers → AllLettered lines es xs numbers
all_lettered lines es numbers xs rest none way in_range = record {
  lettered = way.lettered;
  full = omega (arith, length-drop (length xs) es, ap length way.rest_is);
  in_range = in_range;
}
