-- The terms of a condition answer as the condition does.
use Rattle.std.proofs.Common.{◌≡◌, refl, sym, ap, ◌∙◌, Bool, List, [], ◌∷◌, ◌++◌, append_assoc, append-nil}
use Rattle.rpl_words.specs.Conditions.{Condition, Asks, Grouped, Negated, Both, Either, terms_of}
use Rattle.rpl_words.specs.declared.condition.RplTest.{RplTest}
use Rattle.rpl_words.specs.declared.condition.Term.{Term}
use Rattle.rpl_words.specs.declared.condition.Term.TheVariants.{Group, Not, And, Or}
use Rattle.rpl_meaning.specs.Conditions.{condition_holds, terms_hold}

-- behind the terms of a condition its answer stands last
stands_last : (test : RplTest → Bool) (c : Condition) (bs : List Bool) (ts : List Term) → terms_hold test bs (terms_of c ++ ts) ≡ terms_hold test (condition_holds test c ∷ bs) ts
unfolding terms_hold condition_holds terms_of
stands_last test (Asks t) bs ts = refl
stands_last test (Grouped c) bs ts = ap (λ (us : List Term). terms_hold test bs us) (append_assoc (terms_of c) (Group ∷ []) ts) ∙ stands_last test c bs (Group ∷ ts)
stands_last test (Negated c) bs ts = ap (λ (us : List Term). terms_hold test bs us) (append_assoc (terms_of c) (Not ∷ []) ts) ∙ stands_last test c bs (Not ∷ ts)
stands_last test (Both c d) bs ts =
    ap (λ (us : List Term). terms_hold test bs us) (append_assoc (terms_of c) (terms_of d ++ (And ∷ [])) ts ∙ ap (λ (us : List Term). terms_of c ++ us) (append_assoc (terms_of d) (And ∷ []) ts))
    ∙ stands_last test c bs (terms_of d ++ (And ∷ ts))
    ∙ stands_last test d (condition_holds test c ∷ bs) (And ∷ ts)
stands_last test (Either c d) bs ts =
    ap (λ (us : List Term). terms_hold test bs us) (append_assoc (terms_of c) (terms_of d ++ (Or ∷ [])) ts ∙ ap (λ (us : List Term). terms_of c ++ us) (append_assoc (terms_of d) (Or ∷ []) ts))
    ∙ stands_last test c bs (terms_of d ++ (Or ∷ ts))
    ∙ stands_last test d (condition_holds test c ∷ bs) (Or ∷ ts)

pub terms_answer : (test : RplTest → Bool) (c : Condition) → terms_hold test [] (terms_of c) ≡ condition_holds test c
unfolding terms_hold
terms_answer test c = ap (λ (us : List Term). terms_hold test [] us) (sym (append-nil (terms_of c))) ∙ stands_last test c [] []
