-- The text of a pattern: branch by branch, and as a whole.
use Rattle.std.proofs.Common.{◌≡◌, refl, sym, ap, subst, ◌∙◌, ℕ, ◌≤◌, ◌↔◌, List, [], ◌∷◌, ◌++◌, length, map, Option, Some, None, Ok, Err, IfOk, Result, arith, inl, inr, ◌⊎◌, append_assoc, append-nil}
use Rattle.std.specs.List.{AllByRecursion}
use Rattle.std.proofs.lemmas.Grind.{flat_map-append}
use Rattle.path_patterns.specs.Items.{IsPath, SomeOf, Taken, BranchMatches}
use Rattle.path_patterns.specs.PathItems.{branch_takes}
use Rattle.path_patterns.specs.Shape.{IsBranch, IsShaped}
use Rattle.aspath_text.specs.IosGrammar.{SpellsPattern}
use Rattle.aspath_text.specs.Printing.{PrintsIos}
use Rattle.path_patterns.specs.SamePaths.{BranchesTake}
use Rattle.path_patterns.specs.IosForm.{word_takes, item_branches}
use Rattle.aspath_text.specs.IosText.{branch_text, ios_text, barred_text, items_text, IsRunBranch, IsPrintable}
use Rattle.path_patterns.specs.WordItems.{AreWordItems, BecomeWords}
use Rattle.aspath_text.specs.Written.{SomeMatches, IsWritten, AddsBranch, behind_first_byte}
use Rattle.path_patterns.specs.declared.items.TokenBranch.{TokenBranch}
use Rattle.path_patterns.specs.declared.items.TokenItem.{TokenItem}
use Rattle.path_patterns.specs.declared.items.TokenPattern.{TokenPattern}
use Rattle.path_patterns.specs.declared.word_item.WordItem.{WordItem}
use Rattle.path_patterns.specs.declared.pattern.IosBranch.{IosBranch}
use Rattle.path_patterns.proofs.FoundTaken.{found_taken, taken_found}
use Rattle.aspath_text.proofs.SomePath.{SomeTaken, none_taken, more_taken}
use Rattle.aspath_text.proofs.FormTakes.{form_taken}
use Rattle.path_patterns.proofs.Lists.{all_append, all_both}
use Rattle.aspath_text.proofs.FormShape.{form_printable}
use Rattle.aspath_text.proofs.FormText.{items_text_is, behind_bar}
use Rattle.aspath_text.proofs.TextSpelled.{pattern_spelled}

-- ---- a path that items take

path_of : (is : List WordItem) → AreWordItems is → SomeTaken (map word_takes is)
path_of [] h = none_taken
path_of (i ∷ is) h = more_taken (word_takes i) h.0.number (map word_takes is) h.0.small h.0.spelled h.0.counts (path_of is h.1)

-- ---- the branches of one pattern behind those of another

some_append : {A : Type 0} (P : A → Type 0) (xs ys : List A) → SomeOf P (xs ++ ys) ↔ (SomeOf P xs ⊎ SomeOf P ys)
some_append P [] ys = (λ h. inr h, λ h. elim h [ inl x ↦ absurd x | inr y ↦ y ])
some_append P (x ∷ xs) ys =
    let k = some_append P xs ys in (
      λ h. elim h [
        | inl a ↦ inl (inl a)
        | inr b ↦ elim (k.0 b) [ inl c ↦ inl (inr c) | inr d ↦ inr d ]
      ],
      λ h. elim h [
        | inl a ↦ elim a [ inl c ↦ inl c | inr d ↦ inr (k.1 (inl d)) ]
        | inr b ↦ inr (k.1 (inr b))
      ],
    )

some_both : {A B : Type 0} (P : A → Type 0) (Q : B → Type 0) (xs ys : List A) (us vs : List B) → SomeOf P xs ↔ SomeOf Q us → SomeOf P ys ↔ SomeOf Q vs → SomeOf P (xs ++ ys) ↔ SomeOf Q (us ++ vs)
some_both P Q xs ys us vs h k =
    let a = some_append P xs ys in
    let b = some_append Q us vs in (
      λ x. b.1 (elim (a.0 x) [ inl y ↦ inl (h.0 y) | inr y ↦ inr (k.0 y) ]),
      λ x. a.1 (elim (b.0 x) [ inl y ↦ inl (h.1 y) | inr y ↦ inr (k.1 y) ]),
    )

-- some path is matched
abbrev SomePath : List TokenBranch → Type 0
SomePath branches = (path : List ℕ) × IsPath path × SomeMatches branches path

some_first : (bs cs : List TokenBranch) → SomePath bs → SomePath (bs ++ cs)
some_first bs cs h = (h.0, h.1, (some_append (λ b. BranchMatches b h.0) bs cs).1 (inl h.2))

some_last : (bs cs : List TokenBranch) → SomePath cs → SomePath (bs ++ cs)
some_last bs cs h = (h.0, h.1, (some_append (λ b. BranchMatches b h.0) bs cs).1 (inr h.2))

none_both : (xs ys : List IosBranch) → xs ≡ [] → ys ≡ [] → xs ++ ys ≡ []
none_both xs ys e f = ap (λ (zs : List IosBranch). zs ++ ys) e ∙ f

some_of_both : (bs cs : List TokenBranch) (xs ys : List IosBranch) → ((xs ≡ []) ⊎ SomePath bs) → ((ys ≡ []) ⊎ SomePath cs) → (xs ++ ys ≡ []) ⊎ SomePath (bs ++ cs)
some_of_both bs cs xs ys (inr h) k = inr (some_first bs cs h)
some_of_both bs cs xs ys (inl e) (inr k) = inr (some_last bs cs k)
some_of_both bs cs xs ys (inl e) (inl f) = inl (none_both xs ys e f)

written_both : (bs cs : List TokenBranch) (text more : List ℕ) → IsWritten bs text → IsWritten cs more → IsWritten (bs ++ cs) (text ++ more)
written_both bs cs text more h k = record {
  written = h.written ++ k.written;
  spelled = ap (λ (t : List ℕ). t ++ more) h.spelled ∙ ap (λ (t : List ℕ). barred_text h.written ++ t) k.spelled ∙ sym (flat_map-append (λ (b : IosBranch). 124 ∷ branch_text b) h.written k.written);
  printable = all_append IsPrintable h.written k.written h.printable k.printable;
  same = λ path within. some_both (λ (b : IosBranch). Taken (branch_takes b) path) (λ (b : TokenBranch). BranchMatches b path) h.written k.written bs cs (h.same path within) (k.same path within);
  some = some_of_both bs cs h.written k.written h.some k.some;
}

-- ---- one branch

alone : (b : TokenBranch) (path : List ℕ) → SomeMatches (b ∷ []) path ↔ BranchMatches b path
alone b path = (λ h. elim h [ inl x ↦ x | inr y ↦ absurd y ], λ h. inl h)

-- a branch that matches no path is left out
pub written_never : (b : TokenBranch) → BecomeWords b.items None → IsWritten (b ∷ []) []
written_never b h = record {
  written = [];
  spelled = refl;
  printable = tt;
  same = λ path within. (λ x. absurd x, λ x. absurd (h path within ((alone b path).0 x)));
  some = inl refl;
}

-- a branch is written by the text of its items
pub written_items : (b : TokenBranch) (is : List WordItem) → BecomeWords b.items (Some is) → IsWritten (b ∷ []) (items_text is)
written_items b is h =
    let some = path_of is h.0 in
    record {
      written = item_branches is;
      spelled = items_text_is is;
      printable = form_printable is h.0;
      same = λ path within.
          let taken = form_taken is path h.0 within in
          let matched = h.1 path within in
          (λ x. inl (matched.0 (taken.0 x)), λ x. taken.1 (matched.1 ((alone b path).0 x)));
      some = inr (some.0, some.1, inl ((h.1 some.0 some.1).0 some.2));
    }

pub adds_never : (before : List ℕ) (b : TokenBranch) → BecomeWords b.items None → AddsBranch before b before
adds_never before b h = ([], sym (append-nil before), written_never b h)

adds_same : (before now : List ℕ) (b : TokenBranch) (is : List WordItem) → BecomeWords b.items (Some is) → now ≡ before ++ items_text is → AddsBranch before b now
adds_same before now b is h e = (items_text is, e, written_items b is h)

pub adds_items : (before now : List ℕ) (b : TokenBranch) (items : List TokenItem) (o : Option (List WordItem)) (is lent : List WordItem) → BecomeWords items o → items ≡ b.items → o ≡ Some is → lent ≡ is → now ≡ before ++ items_text lent → AddsBranch before b now
adds_items before now b items o is lent h of_branch found same e =
    adds_same before now b is
    (subst (λ (x : List TokenItem). BecomeWords x (Some is)) of_branch (subst (BecomeWords items) found h))
    (e ∙ ap (λ (x : List WordItem). before ++ items_text x) same)

-- ---- all branches

-- the text of the branches in front of the rest
pub record IsWrittenBefore (text : List ℕ) (rest all : List TokenBranch) : Type 0 where
  pub front : List TokenBranch
  pub whole : front ++ rest ≡ all
  pub is : IsWritten front text

pub none_before : (all : List TokenBranch) → IsWrittenBefore [] all all
none_before all = record {
  front = [];
  whole = refl;
  is = record { written = []; spelled = refl; printable = tt; same = λ path within. (λ x. absurd x, λ x. absurd x); some = inl refl };
}

pub one_more : (text now : List ℕ) (b : TokenBranch) (rest all : List TokenBranch) → IsWrittenBefore text (b ∷ rest) all → AddsBranch text b now → IsWrittenBefore now rest all
one_more text now b rest all h k = record {
  front = h.front ++ (b ∷ []);
  whole = append_assoc h.front (b ∷ []) rest ∙ h.whole;
  is = subst (IsWritten (h.front ++ (b ∷ []))) (sym k.1) (written_both h.front (b ∷ []) text k.0 h.is k.2);
}

pub all_written : (text : List ℕ) (all : List TokenBranch) → IsWrittenBefore text [] all → IsWritten all text
all_written text all h =
    subst (λ (bs : List TokenBranch). IsWritten bs text) (sym (append-nil h.front) ∙ h.whole) h.is

-- ---- the pattern

no_branch : (bs : List IosBranch) → [] ≡ barred_text bs → bs ≡ []
no_branch [] e = refl
no_branch (b ∷ bs) e = absurd cc

none_printed : (p : TokenPattern) (bs : List IosBranch) → bs ≡ [] → ((path : List ℕ) → IsPath path → BranchesTake bs path ↔ SomeMatches p.branches path) → PrintsIos p None
none_printed p bs e same path within matched =
    subst (λ (xs : List IosBranch). BranchesTake xs path) e ((same path within).1 matched)

some_printed : (p : TokenPattern) (text : List ℕ) (bs : List IosBranch) → 1 ≤ length bs → text ≡ ios_text bs → AllByRecursion IsPrintable bs
    → ((path : List ℕ) → IsPath path → BranchesTake bs path ↔ SomeMatches p.branches path) → SomePath p.branches → PrintsIos p (Some text)
some_printed p text bs some e printable same path =
    let shaped : IsShaped bs = (some, (all_both IsBranch IsRunBranch bs printable).0) in (
      path,
      (
        bs,
        subst (λ (t : List ℕ). SpellsPattern t bs) (sym e) (pattern_spelled bs some printable),
        λ path within.
            let k = same path within in
            (λ x. k.0 (found_taken bs path shaped within x), λ x. taken_found bs path shaped within (k.1 x)),
      ),
    )

written_some : (p : TokenPattern) (c : ℕ) (cs : List ℕ) (bs : List IosBranch) → c ∷ cs ≡ barred_text bs → AllByRecursion IsPrintable bs
    → ((path : List ℕ) → IsPath path → BranchesTake bs path ↔ SomeMatches p.branches path) → ((bs ≡ []) ⊎ SomePath p.branches) → PrintsIos p (Some cs)
written_some p c cs [] e printable same some = absurd cc
written_some p c cs (b ∷ bs) e printable same (inl none) = absurd cc
written_some p c cs (b ∷ bs) e printable same (inr some) =
    let k : c ∷ cs ≡ 124 ∷ ios_text (b ∷ bs) = e ∙ behind_bar b bs in
    some_printed p cs (b ∷ bs) (omega arith) (cc) printable same some

-- what stands behind the first bar is the text of the pattern
pub written_prints : (p : TokenPattern) (text : List ℕ) → IsWritten p.branches text → PrintsIos p (behind_first_byte text)
written_prints p [] h = none_printed p h.written (no_branch h.written h.spelled) h.same
written_prints p (c ∷ cs) h = written_some p c cs h.written h.spelled h.printable h.same h.some

pub printed : (p : TokenPattern) (branches : List TokenBranch) (text lent : List ℕ) (o : Option (List ℕ)) → IsWritten branches text → branches ≡ p.branches → lent ≡ text → o ≡ behind_first_byte lent → PrintsIos p o
printed p branches text lent o h of_pattern same e =
    subst (PrintsIos p) (sym (e ∙ ap behind_first_byte same)) (written_prints p text (subst (λ (x : List TokenBranch). IsWritten x text) of_pattern h))

-- what follows from what is known of a result that is there
pub if_ok : {T E : Type 0} (r : Result T E) (P Q : T → Type 0) → ((x : T) → P x → Q x) → IfOk r P → IfOk r Q
if_ok (Ok x) P Q h k = h x k
if_ok (Err e) P Q h k = tt
