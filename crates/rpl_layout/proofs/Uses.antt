-- What the condition of a guard uses is there where what its tests use is.
use Rattle.std.proofs.Common.{◌≡◌, sym, ap, ◌∙◌, Bool, false, ◌||◌, List, [], ◌∷◌, ◌++◌, append_assoc, append-nil}
use Rattle.std.specs.List.{list_any, flat_map}
use Rattle.std.proofs.lemmas.List.Folds.{list_any-append}
use Rattle.rpl_words.specs.Conditions.{Condition, Asks, Grouped, Negated, Both, Either, terms_of}
use Rattle.rpl_words.specs.declared.condition.RplTest.{RplTest}
use Rattle.rpl_words.specs.declared.condition.Term.{Term}
use Rattle.rpl_words.specs.declared.condition.Term.TheVariants.{Group, Not, And, Or}
use Rattle.rpl_facts.specs.Uses.{Use, of_test, of_term}
use Rattle.rpl_layout.proofs.Asked.{Keeps}

-- each test of a condition
pub AllAsk : (RplTest → Type 0) → Condition → Type 0
AllAsk P (Asks t) = P t
AllAsk P (Grouped c) = AllAsk P c
AllAsk P (Negated c) = AllAsk P c
AllAsk P (Both c d) = AllAsk P c × AllAsk P d
AllAsk P (Either c d) = AllAsk P c × AllAsk P d

pub asks_keep : (P : RplTest → Type 0) → Keeps (AllAsk P) (AllAsk P)
unfolding AllAsk
asks_keep P = record {
  negated = λ c h. h;
  both = λ c d h k. (h, k);
  either = λ c d h k. (h, k);
  grouped = λ c h. h;
  flat = λ c h. h;
  negated_deep = λ c h. h;
  both_deep = λ c d h k. (h, k);
}

pub asked : (P : RplTest → Type 0) (t : RplTest) → P t → AllAsk P (Asks t)
unfolding AllAsk
asked P t h = h

module _ (fails : Use → Bool) where
  -- nothing that the test uses fails
  abbrev pub None_fails : RplTest → Type 0
  None_fails t = list_any fails (of_test t) ≡ false

  uses_behind : (c : Condition) (ts : List Term) → AllAsk None_fails c → list_any fails (flat_map of_term (terms_of c ++ ts)) ≡ list_any fails (flat_map of_term ts)
  unfolding AllAsk terms_of
  uses_behind (Asks t) ts h = list_any-append fails (of_test t) (flat_map of_term ts) ∙ ap (λ b. b || list_any fails (flat_map of_term ts)) h
  uses_behind (Grouped c) ts h =
      ap (λ (us : List Term). list_any fails (flat_map of_term us)) (append_assoc (terms_of c) (Group ∷ []) ts) ∙ uses_behind c (Group ∷ ts) h
  uses_behind (Negated c) ts h =
      ap (λ (us : List Term). list_any fails (flat_map of_term us)) (append_assoc (terms_of c) (Not ∷ []) ts) ∙ uses_behind c (Not ∷ ts) h
  uses_behind (Both c d) ts h =
      ap (λ (us : List Term). list_any fails (flat_map of_term us)) (append_assoc (terms_of c) (terms_of d ++ (And ∷ [])) ts ∙ ap (λ (us : List Term). terms_of c ++ us) (append_assoc (terms_of d) (And ∷ []) ts))
      ∙ uses_behind c (terms_of d ++ (And ∷ ts)) h.0
      ∙ uses_behind d (And ∷ ts) h.1
  uses_behind (Either c d) ts h =
      ap (λ (us : List Term). list_any fails (flat_map of_term us)) (append_assoc (terms_of c) (terms_of d ++ (Or ∷ [])) ts ∙ ap (λ (us : List Term). terms_of c ++ us) (append_assoc (terms_of d) (Or ∷ []) ts))
      ∙ uses_behind c (terms_of d ++ (Or ∷ ts)) h.0
      ∙ uses_behind d (Or ∷ ts) h.1

  pub uses_sound : (c : Condition) → AllAsk None_fails c → list_any fails (flat_map of_term (terms_of c)) ≡ false
  uses_sound c h = ap (λ (us : List Term). list_any fails (flat_map of_term us)) (sym (append-nil (terms_of c))) ∙ uses_behind c [] h
