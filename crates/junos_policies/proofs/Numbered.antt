-- Terms that are put behind others, each under its number.
use Rattle.std.proofs.Common.{◌≡◌, refl, sym, ap, ◌∙◌, ℕ, ◌+◌, ◌-◌, ◌≤◌, ◌<◌, ◌^◌, subst, Bool, true, false, take, drop, get_or, List, [], ◌∷◌, ◌++◌, ◌==◌, suc, length, append_assoc, append-nil, length-append, arith}
use Rattle.std.proofs.lemmas.List.{take_all}
use Rattle.junos_tree.specs.Terms.{Content}
use Rattle.junos_plans.specs.declared.step.PlannedStep.{PlannedStep}
use Rattle.junos_tree.specs.declared.item.Condition.{Condition}
use Rattle.junos_text.specs.declared.option.PolicyTerm.{PolicyTerm}
use Rattle.junos_layout.specs.Options.{numbered}
use Rattle.junos_layout.specs.Actions.{actions_of}
use Rattle.junos_layout.specs.Terms.{behind_from, from_of, ending, step_terms}
use Rattle.junos_layout.specs.Writing.{Writing}
use Rattle.junos_policies.specs.Terms.{term_named, with_terms, reached}
use Rattle.junos_policies.proofs.Literals.{some_items}

-- those of two lists, one behind the other
pub with_append : (out : List PolicyTerm) (xs ys : List Content) → with_terms out (xs ++ ys) ≡ with_terms (with_terms out xs) ys
unfolding with_terms
with_append out [] ys = refl
with_append out (x ∷ xs) ys = with_append (out ++ term_named (length out + 1) x ∷ []) xs ys

-- what follows a term with a `from`, and one without
pub behind_some : (from : List Condition) (rest : List Content) → false ≡ (length from == 0) → behind_from from rest ≡ rest
behind_some [] rest e = absurd cc
behind_some (c ∷ cs) rest e = refl

pub behind_none : (from : List Condition) (rest : List Content) → true ≡ (length from == 0) → behind_from from rest ≡ []
behind_none [] rest e = refl
behind_none (c ∷ cs) rest e = absurd (some_items (length cs) e)

-- they are numbered from the one behind those that are there
numbered_behind : (out : List PolicyTerm) (ts : List Content) → with_terms out ts ≡ out ++ numbered (length out + 1) ts
unfolding with_terms numbered
numbered_behind out [] = sym (append-nil out)
numbered_behind out (t ∷ ts) =
    let one : List PolicyTerm = out ++ term_named (length out + 1) t ∷ [] in
    numbered_behind one ts
    ∙ ap (λ (n : ℕ). one ++ numbered (n + 1) ts) (length-append out (term_named (length out + 1) t ∷ []))
    ∙ append_assoc out (term_named (length out + 1) t ∷ []) (numbered (length out + 1 + 1) ts)

pub numbered_all : (ts : List Content) → with_terms [] ts ≡ numbered 1 ts
numbered_all ts = numbered_behind [] ts

-- as many as there are terms
pub numbered_length : (n : ℕ) (ts : List Content) → length (numbered n ts) ≡ length ts
unfolding numbered
numbered_length n [] = refl
numbered_length n (t ∷ ts) = ap suc (numbered_length (n + 1) ts)

-- terms that are few when they are numbered are few
pub few_terms : (rows : List PolicyTerm) (ts : List Content) → rows ≡ numbered 1 ts → length rows < 2 ^ 63 → length ts < 2 ^ 63
few_terms rows ts e few = subst (λ (n : ℕ). n < 2 ^ 63) (ap length e ∙ numbered_length 1 ts) few

-- ---- steps

abbrev Says : Writing → PlannedStep → List PolicyTerm → List PolicyTerm → Bool → Type 0
Says w s out new more = (following : List Content) → with_terms new (reached more following) ≡ with_terms out (record { conditions = from_of w s.guard; actions = actions_of w s.changes ++ ending s.accept ∷ [] } ∷ behind_from (from_of w s.guard) following)

-- a step, and those behind it
pub more_steps : (w : Writing) (items : List PlannedStep) (first : PlannedStep) (m : ℕ) (out new : List PolicyTerm) (more : Bool)
    → 1 ≤ length items → first ≡ get_or items 0 first → m ≡ length items - 1 → more ≡ true → Says w first out new more
    → with_terms new (step_terms w (take m (drop 1 items))) ≡ with_terms out (step_terms w items)
unfolding step_terms
more_steps w [] first m out new more long is len e said = absurd (omega arith)
more_steps w (s ∷ ss) first m out new false long is len e said = absurd cc
more_steps w (s ∷ ss) first m out new true long is len e said =
    ap (λ (ys : List PlannedStep). with_terms new (step_terms w ys)) (take_all m ss (omega (arith, len)))
    ∙ said (step_terms w ss)
    ∙ ap (λ (x : PlannedStep). with_terms out (record { conditions = from_of w x.guard; actions = actions_of w x.changes ++ ending x.accept ∷ [] } ∷ behind_from (from_of w x.guard) (step_terms w ss))) is

-- a step behind which nothing is reached
pub last_step : (w : Writing) (items : List PlannedStep) (first : PlannedStep) (out new : List PolicyTerm) (more : Bool)
    → 1 ≤ length items → first ≡ get_or items 0 first → more ≡ false → Says w first out new more → new ≡ with_terms out (step_terms w items)
unfolding step_terms with_terms
last_step w [] first out new more long is e said = absurd (omega arith)
last_step w (s ∷ ss) first out new true long is e said = absurd cc
last_step w (s ∷ ss) first out new false long is e said =
    said (step_terms w ss)
    ∙ ap (λ (x : PlannedStep). with_terms out (record { conditions = from_of w x.guard; actions = actions_of w x.changes ++ ending x.accept ∷ [] } ∷ behind_from (from_of w x.guard) (step_terms w ss))) is
