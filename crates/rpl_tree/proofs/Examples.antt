-- Worked examples that the checker computes: where texts are broken, what is dropped, and how statements nest.
use Rattle.std.proofs.Common.{◌≡◌, refl, ℕ, List, [], ◌∷◌, ◌++◌, Option, Some, None}
use Rattle.std.specs.Prelude.{codes}
use Rattle.text_words.specs.RplWords.{has_quote, sort_at, lexemes}
use Rattle.text_words.specs.RplCut.{taken, cut_from, rpl_cut}
use Rattle.text_words.specs.declared.fault.BrokenKind.{BrokenKind}
use Rattle.text_words.specs.declared.fault.BrokenKind.TheVariants.{Misplaced, Unended}
use Rattle.text_words.specs.declared.fault.TextFault.{TextFault}
use Rattle.text_words.specs.declared.fault.TextFault.TheVariants.{Broken}
use Rattle.rpl_words.specs.declared.condition.Term.{Term}
use Rattle.rpl_forms.specs.declared.item.Apply.{Apply}
use Rattle.rpl_forms.specs.declared.item.PolicyStatement.TheVariants.{If, ElseIf, Else, EndIf, Pass, Done, Drop, Apply as ApplyPolicy}
use Rattle.rpl_forms.specs.declared.item.RplForm.TheVariants.{Statement, End}
use Rattle.rpl_tree.specs.Blocks.{ifs_behind, past}
use Rattle.rpl_tree.specs.Broken.{fault_at, broken_from, broken}
use Rattle.rpl_tree.specs.Nesting.{Stop, TakeTicket, AcceptNow, RejectNow, Call, Branch, nested, steps_in}

-- lines, each with its LF
abbrev text : List (List ℕ) → List ℕ
text [] = []
text (l ∷ ls) = l ++ (10 ∷ text ls)

-- the first fault of the lines
abbrev breaks : List (List ℕ) → Option TextFault
breaks ls = broken (rpl_cut (text ls))

-- a fault from one place to another
abbrev fault : BrokenKind → ℕ → ℕ → Option TextFault
fault kind start end = Some (Broken (record { start = start; end = end }) kind)

-- `endif` without an open `if`
endif_alone : breaks (codes "route-policy P" ∷ codes " endif" ∷ codes "end-policy" ∷ []) ≡ fault Misplaced 16 21
unfolding rpl_cut cut_from taken lexemes sort_at has_quote broken_from fault_at past ifs_behind
endif_alone = refl

-- `elseif` without an open `if`
elseif_alone : breaks (codes "route-policy P" ∷ codes " elseif a then" ∷ codes "end-policy" ∷ []) ≡ fault Misplaced 16 29
unfolding rpl_cut cut_from taken lexemes sort_at has_quote broken_from fault_at past ifs_behind
elseif_alone = refl

-- `else` behind an `endif`
else_behind : breaks (codes "route-policy P" ∷ codes "if a then endif else" ∷ codes "end-policy" ∷ []) ≡ fault Misplaced 31 35
unfolding rpl_cut cut_from taken lexemes sort_at has_quote broken_from fault_at past ifs_behind
else_behind = refl

-- a second `else`
else_twice : breaks (codes "route-policy P" ∷ codes "if a then else else endif" ∷ codes "end-policy" ∷ []) ≡ fault Misplaced 30 34
unfolding rpl_cut cut_from taken lexemes sort_at has_quote broken_from fault_at past ifs_behind
else_twice = refl

-- `elseif` behind an `else`; before it it is in its place
elseif_late : breaks (codes "route-policy P" ∷ codes "if a then elseif b then else elseif c then endif" ∷ codes "end-policy" ∷ []) ≡ fault Misplaced 44 57
unfolding rpl_cut cut_from taken lexemes sort_at has_quote broken_from fault_at past ifs_behind
elseif_late = refl

-- the end of a policy while an `if` is open
if_open : breaks (codes "route-policy P" ∷ codes "if a then if b then endif" ∷ codes "end-policy" ∷ []) ≡ fault Misplaced 41 51
unfolding rpl_cut cut_from taken lexemes sort_at has_quote broken_from fault_at past ifs_behind
if_open = refl

-- an `if` without `then` runs to the end of the policy, and is open there
no_then : breaks (codes "route-policy P" ∷ codes "if a endif" ∷ codes "end-policy" ∷ []) ≡ fault Misplaced 26 36
unfolding rpl_cut cut_from taken lexemes sort_at has_quote broken_from fault_at past ifs_behind
no_then = refl

-- a set that doesn't end: the place is its first line
unended_set : breaks (codes "prefix-set S" ∷ codes " 10.0.0.0/8," ∷ codes " 'end-set'" ∷ []) ≡ fault Unended 0 12
unfolding rpl_cut cut_from taken lexemes sort_at has_quote broken_from fault_at past ifs_behind
unended_set = refl

-- a policy that doesn't end, with a statement out of its place: the first line comes first
unended_first : breaks (codes "route-policy P" ∷ codes " endif" ∷ []) ≡ fault Unended 0 14
unfolding rpl_cut cut_from taken lexemes sort_at has_quote broken_from fault_at past ifs_behind
unended_first = refl

-- a statement out of its place, and behind it a block that doesn't end
misplaced_first : breaks (codes "route-policy P" ∷ codes "else" ∷ codes "end-policy" ∷ codes "prefix-set S" ∷ []) ≡ fault Misplaced 15 19
unfolding rpl_cut cut_from taken lexemes sort_at has_quote broken_from fault_at past ifs_behind
misplaced_first = refl

-- in a set and outside blocks no word belongs to an `if`, nor does a quoted one in a policy
no_ifs : breaks (codes "else" ∷ codes "community-set S" ∷ codes "if, else" ∷ codes "end-set" ∷ codes "route-policy else" ∷ codes "'endif'" ∷ codes "end-policy" ∷ codes "endif" ∷ []) ≡ None
unfolding rpl_cut cut_from taken lexemes sort_at has_quote broken_from fault_at past ifs_behind
no_ifs = refl

-- ---- how statements nest

-- `if`, `elseif`, `else`, each with its branch, and a statement behind `endif`
branches : (a b : List Term) (apply : Apply) → steps_in (Statement (If a) ∷ Statement Pass ∷ Statement (ElseIf b) ∷ Statement Done ∷ Statement Else ∷ Statement Drop ∷ Statement EndIf ∷ Statement (ApplyPolicy apply) ∷ End ∷ Statement Drop ∷ [])
    ≡ Branch a (TakeTicket Stop) (Branch b AcceptNow RejectNow Stop) (Call apply Stop)
unfolding nested
branches a b apply = refl

-- an `if` within a branch
within : (a b : List Term) → steps_in (Statement (If a) ∷ Statement (If b) ∷ Statement Drop ∷ Statement EndIf ∷ Statement Pass ∷ Statement EndIf ∷ Statement Done ∷ [])
    ≡ Branch a (Branch b RejectNow Stop (TakeTicket Stop)) Stop AcceptNow
unfolding nested
within a b = refl

-- a missing `endif` stands at the end
missing : (a : List Term) → steps_in (Statement (If a) ∷ Statement Drop ∷ Statement Else ∷ Statement Pass ∷ []) ≡ Branch a RejectNow (TakeTicket Stop) Stop
unfolding nested
missing a = refl
