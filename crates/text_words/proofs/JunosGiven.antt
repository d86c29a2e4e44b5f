-- What the cut of a Junos text gives: its statements, or its fault, and never both.
use Rattle.std.proofs.Common.{◌≡◌, ap, sym, subst, ◌∙◌, ℕ, ◌+◌, ◌-◌, ◌≤◌, length, get_or, take, drop, arith, List, [], ◌∷◌, ◌++◌, Some, Result, Ok, Err, IfOk, IfErr}
use Rattle.std.proofs.lemmas.List.{take_all}
use Rattle.text_words.specs.declared.fault.TextFault.{TextFault}
use Rattle.text_words.specs.declared.fault.TextFault.TheVariants.{Broken, Memory}
use Rattle.text_words.specs.declared.junos_groups.Groups.{Groups}
use Rattle.text_words.specs.declared.junos_words.Within.{Within}
use Rattle.text_words.specs.declared.statement.Word.{Word}
use Rattle.text_words.specs.JunosWords.{Token, IsWord, step_at, tokens_at}
use Rattle.text_words.specs.JunosCut.{Outcome, cut_in, fault_in, FaultIs, Gives, IsFault, HasOne}
use Rattle.text_words.specs.JunosWalk.{outcome_behind, Took, Takes}

pub given_cut : (outcome result : Outcome) → Gives outcome result → IfOk result (λ s. cut_in outcome ≡ Some s)
given_cut outcome (Ok s) h = ap cut_in h
given_cut outcome (Err fault) h = tt

pub given_fault : (outcome result : Outcome) → Gives outcome result → IfErr result (IsFault (fault_in outcome))
given_fault outcome (Ok s) h = tt
given_fault outcome (Err (Broken place kind)) h = ap fault_in h
given_fault outcome (Err Memory) h = tt

pub given_one : (outcome : Outcome) → HasOne (cut_in outcome) (fault_in outcome)
given_one (Ok s) = tt
given_one (Err fault) = tt

-- behind a word that was taken, what is taken next
pub takes_more : {A : Type 0} (old mid new : Groups) (word taken : Word) (tokens : List Token) (result : Result A TextFault) → taken ≡ word → Took old mid (IsWord taken ∷ []) → Takes mid new tokens result → Takes old new (IsWord word ∷ tokens) result
takes_more old mid new word taken tokens (Ok x) same first next = λ ts. next ts ∙ first (tokens ++ ts) ∙ ap (λ (w : Word). outcome_behind old (IsWord w ∷ (tokens ++ ts))) same
takes_more old mid new word taken tokens (Err (Broken place kind)) same first next = λ ts. ap (λ (w : Word). outcome_behind old (IsWord w ∷ (tokens ++ ts))) (sym same) ∙ sym (first (tokens ++ ts)) ∙ next ts
takes_more old mid new word taken tokens (Err Memory) same first next = λ ts. tt

-- a last word was taken, and the text ends
pub gives_behind : (old mid : Groups) (word taken : Word) (result : Outcome) → taken ≡ word → Took old mid (IsWord taken ∷ []) → Gives (outcome_behind mid []) result → Gives (outcome_behind old (IsWord word ∷ [])) result
gives_behind old mid word taken result same first next =
    subst (λ (o : Outcome). Gives o result) (first [] ∙ ap (λ (w : Word). outcome_behind old (IsWord w ∷ [])) same) next

-- the first fault stands at the byte that comes
pub stops_at : (groups : Groups) (within : Within) (p : ℕ) (rest : List ℕ) (outcome : Outcome) (fault : TextFault) → 1 ≤ length rest → outcome_behind groups (tokens_at within p rest) ≡ outcome → ((ts : List Token) → FaultIs (outcome_behind groups ((step_at within p (get_or rest 0 0) (take (length rest - 1) (drop 1 rest))).tokens ++ ts)) fault) → FaultIs outcome fault
unfolding tokens_at
stops_at groups within p [] outcome fault long found stops = absurd (omega arith)
stops_at groups within p (c ∷ cs) outcome fault long found stops =
    let tail : take (length (c ∷ cs) - 1) cs ≡ cs = take_all (length (c ∷ cs) - 1) cs (omega arith) in
    let here = subst (λ (xs : List ℕ). (ts : List Token) → FaultIs (outcome_behind groups ((step_at within p c xs).tokens ++ ts)) fault) tail stops in
    subst (λ (o : Outcome). FaultIs o fault) found (here (tokens_at (step_at within p c cs).within (p + 1) cs))
