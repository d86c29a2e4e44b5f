-- Steps that are spelled as statements nest as these steps.
use Rattle.std.proofs.Common.{◌≡◌, refl, sym, ap, ◌∙◌, List, ◌∷◌}
use Rattle.rpl_words.specs.declared.condition.Term.{Term}
use Rattle.rpl_forms.specs.declared.item.PolicyStatement.TheVariants.{If, ElseIf, Else, EndIf}
use Rattle.rpl_forms.specs.declared.item.RplForm.{RplForm}
use Rattle.rpl_forms.specs.declared.item.RplForm.TheVariants.{Statement, End}
use Rattle.rpl_tree.specs.Nesting.{Steps, Stop, TakeTicket, AcceptNow, RejectNow, Act, Call, Branch, Rest, with_form, nested, steps_in, spelled, elseif_of, else_if_of}

-- steps, and others behind them where they go on
abbrev followed : Steps → Steps → Steps
followed Stop next = next
followed (TakeTicket more) next = TakeTicket (followed more next)
followed AcceptNow next = AcceptNow
followed RejectNow next = RejectNow
followed (Act action more) next = Act action (followed more next)
followed (Call apply more) next = Call apply (followed more next)
followed (Branch condition these those more) next = Branch condition these those (followed more next)

by_nothing : (s : Steps) → followed s Stop ≡ s
by_nothing Stop = refl
by_nothing (TakeTicket more) = ap (λ (x : Steps). TakeTicket x) (by_nothing more)
by_nothing AcceptNow = refl
by_nothing RejectNow = refl
by_nothing (Act action more) = ap (λ (x : Steps). Act action x) (by_nothing more)
by_nothing (Call apply more) = ap (λ (x : Steps). Call apply x) (by_nothing more)
by_nothing (Branch condition these those more) = ap (λ (x : Steps). Branch condition these those x) (by_nothing more)

-- the steps before the rest
abbrev ahead : Steps → Rest → Rest
ahead s r = record { here = followed s r.here; around = r.around }

-- the same where the rest says nothing of its own
before_nothing : (s : Steps) (r : Rest) → r.here ≡ Stop → ahead s r ≡ record { here = s; around = r.around }
before_nothing s r e = ap (λ (x : Steps). record { here = followed s x; around = r.around }) e ∙ ap (λ (x : Steps). record { here = x; around = r.around }) (by_nothing s)

-- a branch before the rest
branched : (condition : List Term) (these those : Steps) (r : Rest)
    → with_form (Statement (If condition)) (ahead these (with_form (Statement Else) (ahead those (with_form (Statement EndIf) r))))
    ≡ record { here = Branch condition these those r.here; around = r.around }
branched condition these those r =
    let ended = with_form (Statement EndIf) r in
    ap (λ (x : Rest). with_form (Statement (If condition)) (ahead these (with_form (Statement Else) x))) (before_nothing those ended refl)
    ∙ ap (λ (x : Rest). with_form (Statement (If condition)) x) (before_nothing these (with_form (Statement Else) (record { here = those; around = ended.around })) refl)

pub nests : (s : Steps) (rest : List RplForm) → nested (spelled s rest) ≡ ahead s (nested rest)
unfolding nested spelled
nests Stop rest = refl
nests (TakeTicket more) rest = ap (λ (x : Rest). record { here = TakeTicket x.here; around = x.around }) (nests more rest)
nests AcceptNow rest = refl
nests RejectNow rest = refl
nests (Act action more) rest = ap (λ (x : Rest). record { here = Act action x.here; around = x.around }) (nests more rest)
nests (Call apply more) rest = ap (λ (x : Rest). record { here = Call apply x.here; around = x.around }) (nests more rest)
nests (Branch condition these those more) rest =
    let last = Statement EndIf ∷ spelled more rest in
    let other = Statement Else ∷ spelled those last in
    ap (λ (x : Rest). with_form (Statement (If condition)) x) (nests these other ∙ ap (λ (x : Rest). ahead these (with_form (Statement Else) x)) (nests those last))
    ∙ branched condition these those (nested (spelled more rest))
    ∙ ap (λ (x : Rest). record { here = Branch condition these those x.here; around = x.around }) (nests more rest)

pub whole_policy : (s : Steps) (behind : List RplForm) → steps_in (spelled s (End ∷ behind)) ≡ s
unfolding nested
whole_policy s behind = ap (λ (x : Rest). x.here) (nests s (End ∷ behind)) ∙ by_nothing s

-- `elseif` and its branch before the rest
elsewhere : (condition : List Term) (these those : Steps) (r : Rest)
    → with_form (Statement (ElseIf condition)) (ahead these (with_form (Statement Else) (ahead those (with_form (Statement EndIf) r))))
    ≡ with_form (Statement Else) (ahead (Branch condition these those Stop) (with_form (Statement EndIf) r))
elsewhere condition these those r =
    let ended = with_form (Statement EndIf) r in
    ap (λ (x : Rest). with_form (Statement (ElseIf condition)) (ahead these (with_form (Statement Else) x))) (before_nothing those ended refl)
    ∙ ap (λ (x : Rest). with_form (Statement (ElseIf condition)) x) (before_nothing these (with_form (Statement Else) (record { here = those; around = ended.around })) refl)

pub elseif_nests : (condition : List Term) (these those : Steps) (rest : List RplForm) → nested (elseif_of condition these those rest) ≡ nested (else_if_of condition these those rest)
unfolding nested
elseif_nests condition these those rest =
    let last = Statement EndIf ∷ rest in
    let other = Statement Else ∷ spelled those last in
    ap (λ (x : Rest). with_form (Statement (ElseIf condition)) x) (nests these other ∙ ap (λ (x : Rest). ahead these (with_form (Statement Else) x)) (nests those last))
    ∙ elsewhere condition these those (nested rest)
    ∙ sym (ap (λ (x : Rest). with_form (Statement Else) x) (nests (Branch condition these those Stop) last))

pub no_else : (rest : List RplForm) → nested (Statement EndIf ∷ rest) ≡ nested (Statement Else ∷ Statement EndIf ∷ rest)
unfolding nested
no_else rest = refl
