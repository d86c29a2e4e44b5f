-- Where statements are broken: what the function finds is the first place, and the first place is found.
use Rattle.std.proofs.Common.{◌≡◌, ◌≢◌, refl, not, ◌&&◌, sym, ap, ◌∙◌, subst, ℕ, ◌≤◌, Bool, true, false, List, [], ◌∷◌, ◌++◌, length, Option, Some, None, inl, inr, arith}
use Rattle.std.specs.Prelude.{codes, bytes_eq}
use Rattle.policy_text.specs.Names.{first_some}
use Rattle.policy_text.proofs.Phrases.{same_bytes}
use Rattle.text_words.specs.declared.fault.BrokenKind.{BrokenKind}
use Rattle.text_words.specs.declared.fault.BrokenKind.TheVariants.{OpenQuote, OpenComment, OpenBrace, StrayBrace, NoEnder, Misplaced, Unended}
use Rattle.text_words.specs.declared.fault.TextFault.{TextFault}
use Rattle.text_words.specs.declared.fault.TextFault.TheVariants.{Broken, Memory}
use Rattle.text_words.specs.declared.rpl_blocks.BlockKind.{BlockKind}
use Rattle.text_words.specs.declared.rpl_blocks.BlockKind.TheVariants.{Policy}
use Rattle.text_words.specs.declared.statement.Span.{Span}
use Rattle.text_words.specs.declared.statement.Statement.{Statement}
use Rattle.text_words.specs.declared.statement.Word.{Word}
use Rattle.rpl_forms.specs.declared.item.IfWord.{IfWord}
use Rattle.rpl_forms.specs.declared.item.IfWord.TheVariants.{If, ElseIf, Else, EndIf}
use Rattle.rpl_tree.specs.declared.standing.Standing.{Standing}
use Rattle.rpl_tree.specs.Blocks.{opens, ends_block, if_word, keyword, ifs_behind, branched, closed, past, standing}
use Rattle.rpl_tree.specs.Broken.{HasNoBranch, IsMisplaced, have_end, IsBroken, BreaksAt, BreaksFirst, misplaced, fault_of_end, fault_unless, fault_within, fault_of_line, fault_at, broken_from, IsFirst}

-- ---- a statement

-- it is broken so, and the fault has its span
abbrev Breaks : Standing → Statement → List Statement → TextFault → Type 0
Breaks p s behind f = (kind : BrokenKind) × (f ≡ Broken s.span kind) × IsBroken p s behind kind

-- a word of `if`s has no place
out_of_place : (kind : BlockKind) (ws : List Word) (k : Option IfWord) (ifs : List Bool) → keyword kind ws ≡ k → ifs_behind k ifs ≡ None → IsMisplaced kind ifs ws
unfolding ifs_behind
out_of_place kind ws None ifs e h = absurd cc
out_of_place kind ws (Some If) ifs e h = absurd cc
out_of_place kind ws (Some ElseIf) [] e h = inr (inr (inl (e, inl refl)))
out_of_place kind ws (Some ElseIf) (true ∷ ifs) e h = inr (inr (inl (e, inr (ifs, refl))))
out_of_place kind ws (Some ElseIf) (false ∷ ifs) e h = absurd cc
out_of_place kind ws (Some Else) [] e h = inr (inr (inr (e, inl refl)))
out_of_place kind ws (Some Else) (true ∷ ifs) e h = inr (inr (inr (e, inr (ifs, refl))))
out_of_place kind ws (Some Else) (false ∷ ifs) e h = absurd cc
out_of_place kind ws (Some EndIf) [] e h = inr (inl (e, refl))
out_of_place kind ws (Some EndIf) (b ∷ ifs) e h = absurd cc

no_branch : (last : Bool) (ifs : List Bool) → HasNoBranch ifs → branched last ifs ≡ None
no_branch last ifs (inl e) = ap (λ (xs : List Bool). branched last xs) e
no_branch last ifs (inr (outer, e)) = ap (λ (xs : List Bool). branched last xs) e

-- the end of a policy is no word of `if`s
end_is_none : (quoted : Bool) (text : List ℕ) (span : Span) → (not quoted && bytes_eq (codes "end-policy") text) ≡ true → if_word (record { text = text; quoted = quoted; span = span }) ≡ None
end_is_none true text span e = absurd cc
end_is_none false text span e = subst (λ (x : List ℕ). if_word (record { text = x; quoted = false; span = span }) ≡ None) (same_bytes (codes "end-policy") text e) refl

end_of_policy : (ws : List Word) → ends_block Policy ws ≡ true → keyword Policy ws ≡ None
end_of_policy [] e = refl
end_of_policy (w ∷ []) e = end_is_none w.quoted w.text w.span e
end_of_policy (v ∷ w ∷ ws) e = absurd cc

end_has_none : (kind : BlockKind) (ws : List Word) → ends_block kind ws ≡ true → keyword kind ws ≡ None
end_has_none Policy ws e = end_of_policy ws e
end_has_none _ ws e = refl

-- what is found in a block where a word of `if`s has no place
found_by : (kind : BlockKind) (k : IfWord) (ifs : List Bool) (s : Statement) (ends : Bool) → ends_block kind s.words ≡ ends → keyword kind s.words ≡ Some k → ifs_behind (keyword kind s.words) ifs ≡ None
    → (elim ends [ true ↦ fault_of_end ifs s | false ↦ fault_unless (ifs_behind (keyword kind s.words) ifs) s ]) ≡ misplaced s
found_by kind k ifs s true e is h = let none = end_has_none kind s.words e in absurd cc
found_by kind k ifs s false e is h = ap (λ (o : Option (List Bool)). fault_unless o s) h

found_out : (kind : BlockKind) (k : IfWord) (ifs : List Bool) (s : Statement) → keyword kind s.words ≡ Some k → ifs_behind (Some k) ifs ≡ None → fault_within kind ifs s ≡ misplaced s
found_out kind k ifs s e h = found_by kind k ifs s (ends_block kind s.words) refl e (ap (λ (o : Option IfWord). ifs_behind o ifs) e ∙ h)

found_by_end : (ifs : List Bool) (s : Statement) → ifs ≢ [] → fault_of_end ifs s ≡ misplaced s
found_by_end [] s some = absurd (some refl)
found_by_end (b ∷ ifs) s some = refl

found_misplaced : (kind : BlockKind) (ifs : List Bool) (s : Statement) → IsMisplaced kind ifs s.words → fault_within kind ifs s ≡ misplaced s
unfolding ifs_behind
found_misplaced kind ifs s (inl (e, some)) = rw (e, fault_within) (found_by_end ifs s some)
found_misplaced kind ifs s (inr (inl (e, none))) = found_out kind EndIf ifs s e (ap (λ (xs : List Bool). closed xs) none)
found_misplaced kind ifs s (inr (inr (inl (e, none)))) = found_out kind ElseIf ifs s e (no_branch false ifs none)
found_misplaced kind ifs s (inr (inr (inr (e, none)))) = found_out kind Else ifs s e (no_branch true ifs none)

found_unended : (kind : BlockKind) (s : Statement) (behind : List Statement) → opens s.words ≡ Some kind → have_end kind behind ≡ false → fault_of_line (opens s.words) s behind ≡ Some (Broken s.span Unended)
found_unended kind s behind e none = ap (λ (o : Option BlockKind). fault_of_line o s behind) e ∙ rw (none, fault_of_line) refl

-- a statement that is broken has its fault
is_found : (p : Standing) (s : Statement) (behind : List Statement) (kind : BrokenKind) → IsBroken p s behind kind → fault_at p.block p.ifs s behind ≡ Some (Broken s.span kind)
unfolding fault_at
is_found p s behind Misplaced (kind, e, out) = ap (λ (o : Option BlockKind). fault_at o p.ifs s behind) e ∙ found_misplaced kind p.ifs s out
is_found p s behind Unended (kind, e, first, none) = ap (λ (o : Option BlockKind). fault_at o p.ifs s behind) e ∙ found_unended kind s behind first none
is_found p s behind OpenQuote h = absurd h
is_found p s behind OpenComment h = absurd h
is_found p s behind OpenBrace h = absurd h
is_found p s behind StrayBrace h = absurd h
is_found p s behind NoEnder h = absurd h

placed_breaks : (kind : BlockKind) (ifs : List Bool) (s : Statement) (behind : List Statement) (f : TextFault) (o : Option (List Bool)) → ifs_behind (keyword kind s.words) ifs ≡ o → fault_unless o s ≡ Some f → Breaks (record { block = Some kind; ifs = ifs }) s behind f
placed_breaks kind ifs s behind f None e h = (Misplaced, cc, (kind, refl, out_of_place kind s.words (keyword kind s.words) ifs refl e))
placed_breaks kind ifs s behind f (Some more) e h = absurd cc

end_breaks : (kind : BlockKind) (ifs : List Bool) (s : Statement) (behind : List Statement) (f : TextFault) → ends_block kind s.words ≡ true → fault_of_end ifs s ≡ Some f → Breaks (record { block = Some kind; ifs = ifs }) s behind f
end_breaks kind [] s behind f e h = absurd cc
end_breaks kind (b ∷ ifs) s behind f e h = (Misplaced, cc, (kind, refl, inl (e, λ k. cc)))

within_breaks : (kind : BlockKind) (ifs : List Bool) (s : Statement) (behind : List Statement) (f : TextFault) (ends : Bool) → ends_block kind s.words ≡ ends
    → (elim ends [ true ↦ fault_of_end ifs s | false ↦ fault_unless (ifs_behind (keyword kind s.words) ifs) s ]) ≡ Some f → Breaks (record { block = Some kind; ifs = ifs }) s behind f
within_breaks kind ifs s behind f true e h = end_breaks kind ifs s behind f e h
within_breaks kind ifs s behind f false e h = placed_breaks kind ifs s behind f (ifs_behind (keyword kind s.words) ifs) refl h

line_breaks : (kind : BlockKind) (ifs : List Bool) (s : Statement) (behind : List Statement) (f : TextFault) (b : Bool) → opens s.words ≡ Some kind → have_end kind behind ≡ b → (elim b [ true ↦ None | false ↦ Some (Broken s.span Unended) ]) ≡ Some f → Breaks (record { block = None; ifs = ifs }) s behind f
line_breaks kind ifs s behind f true e none h = absurd cc
line_breaks kind ifs s behind f false e none h = (Unended, cc, (kind, refl, e, none))

opened_breaks : (ifs : List Bool) (s : Statement) (behind : List Statement) (f : TextFault) (o : Option BlockKind) → opens s.words ≡ o → fault_of_line o s behind ≡ Some f → Breaks (record { block = None; ifs = ifs }) s behind f
opened_breaks ifs s behind f None e h = absurd cc
opened_breaks ifs s behind f (Some kind) e h = line_breaks kind ifs s behind f (have_end kind behind) e refl h

-- a statement that has a fault is broken
breaks : (block : Option BlockKind) (ifs : List Bool) (s : Statement) (behind : List Statement) (f : TextFault) → fault_at block ifs s behind ≡ Some f → Breaks (record { block = block; ifs = ifs }) s behind f
unfolding fault_at
breaks None ifs s behind f h = opened_breaks ifs s behind f (opens s.words) refl h
breaks (Some kind) ifs s behind f h = within_breaks kind ifs s behind f (ends_block kind s.words) refl h

-- ---- statements

-- a place behind the first statement
behind_first : (p : Standing) (s : Statement) (ss before : List Statement) (t : Statement) (kind : BrokenKind) → BreaksAt (past p.block p.ifs s.words) ss before t kind → BreaksAt p (s ∷ ss) (s ∷ before) t kind
unfolding standing
behind_first p s ss before t kind h = record { behind = h.behind; parts = ap (λ (xs : List Statement). s ∷ xs) h.parts; broken = h.broken }

tail_breaks : (p : Standing) (s o : Statement) (ss os : List Statement) (t : Statement) (kind : BrokenKind) → BreaksAt p (s ∷ ss) (o ∷ os) t kind → BreaksAt (past p.block p.ifs s.words) ss os t kind
unfolding standing
tail_breaks p s o ss os t kind h =
    let parts : s ∷ ss ≡ o ∷ (os ++ t ∷ h.behind) = h.parts in
    let first : o ≡ s = cc in
    let rest : ss ≡ os ++ t ∷ h.behind = cc in
    record { behind = h.behind; parts = rest; broken = subst (λ (x : Statement). IsBroken (standing (past p.block p.ifs x.words) os) t h.behind kind) first h.broken }

head_breaks : (p : Standing) (s : Statement) (ss : List Statement) (t : Statement) (kind : BrokenKind) → BreaksAt p (s ∷ ss) [] t kind → fault_at p.block p.ifs s ss ≡ Some (Broken t.span kind)
unfolding standing
head_breaks p s ss t kind h =
    let parts : s ∷ ss ≡ t ∷ h.behind = h.parts in
    let first : t ≡ s = cc in
    let rest : h.behind ≡ ss = cc in
    let Found : Statement → List Statement → Type 0 = λ x xs. fault_at p.block p.ifs x xs ≡ Some (Broken t.span kind) in
    subst (λ (x : Statement). Found x ss) first (subst (λ (xs : List Statement). Found t xs) rest (is_found p t h.behind kind h.broken))

no_parts : (before behind : List Statement) (t : Statement) → [] ≡ before ++ t ∷ behind → ⊥
no_parts [] behind t e = cc
no_parts (b ∷ bs) behind t e = let k : ◌≡◌ {A = List Statement} [] (b ∷ (bs ++ t ∷ behind)) = e in cc

-- ---- what is found is the first place

breaks_here : (p : Standing) (s : Statement) (ss : List Statement) (kind : BrokenKind) → IsBroken p s ss kind → BreaksAt p (s ∷ ss) [] s kind
unfolding standing
breaks_here p s ss kind b = record { behind = ss; parts = refl; broken = b }

here_first : (p : Standing) (s : Statement) (ss : List Statement) (f : TextFault) → Breaks p s ss f → IsFirst p (s ∷ ss) f
here_first p s ss f (kind, e, b) =
    subst (IsFirst p (s ∷ ss)) (sym e) (record { before = []; statement = s; here = breaks_here p s ss kind b; span = refl; first = λ others other sort h. omega arith })

-- no place behind a statement without fault comes before the first of the rest
least_behind : (p : Standing) (s : Statement) (ss before others : List Statement) (other : Statement) (sort : BrokenKind) → fault_at p.block p.ifs s ss ≡ None
    → ((os : List Statement) (o : Statement) (k : BrokenKind) → BreaksAt (past p.block p.ifs s.words) ss os o k → length before ≤ length os)
    → BreaksAt p (s ∷ ss) others other sort → length (s ∷ before) ≤ length others
least_behind p s ss before [] other sort none first h = let found = head_breaks p s ss other sort h in absurd cc
least_behind p s ss before (o ∷ os) other sort none first h = omega (arith, first os other sort (tail_breaks p s o ss os other sort h))

later_first : (p : Standing) (s : Statement) (ss : List Statement) (f : TextFault) → fault_at p.block p.ifs s ss ≡ None → IsFirst (past p.block p.ifs s.words) ss f → IsFirst p (s ∷ ss) f
later_first p s ss (Broken place kind) none h = record {
  before = s ∷ h.before;
  statement = h.statement;
  here = behind_first p s ss h.before h.statement kind h.here;
  span = h.span;
  first = λ others other sort k. least_behind p s ss h.before others other sort none h.first k;
}
later_first p s ss Memory none h = absurd h

step_first : (p : Standing) (s : Statement) (ss : List Statement) (f : TextFault) (o : Option TextFault) → fault_at p.block p.ifs s ss ≡ o → first_some o (broken_from (past p.block p.ifs s.words) ss) ≡ Some f
    → (broken_from (past p.block p.ifs s.words) ss ≡ Some f → IsFirst (past p.block p.ifs s.words) ss f) → IsFirst p (s ∷ ss) f
step_first p s ss f (Some g) e h more = here_first p s ss f (breaks p.block p.ifs s ss f (e ∙ h))
step_first p s ss f None e h more = later_first p s ss f e (more h)

pub found_first : (ss : List Statement) (p : Standing) (f : TextFault) → broken_from p ss ≡ Some f → IsFirst p ss f
unfolding broken_from
found_first [] p f e = absurd cc
found_first (s ∷ ss) p f e = step_first p s ss f (fault_at p.block p.ifs s ss) refl e (found_first ss (past p.block p.ifs s.words) f)

-- ---- where nothing is found, there is none

step_whole : (p : Standing) (s : Statement) (ss before : List Statement) (t : Statement) (kind : BrokenKind) (o : Option TextFault) → fault_at p.block p.ifs s ss ≡ o → first_some o (broken_from (past p.block p.ifs s.words) ss) ≡ None
    → (broken_from (past p.block p.ifs s.words) ss ≡ None → (os : List Statement) (x : Statement) (k : BrokenKind) → BreaksAt (past p.block p.ifs s.words) ss os x k → ⊥)
    → BreaksAt p (s ∷ ss) before t kind → ⊥
step_whole p s ss before t kind (Some g) e h more b = cc
step_whole p s ss [] t kind None e h more b = let found = head_breaks p s ss t kind b in cc
step_whole p s ss (o ∷ os) t kind None e h more b = more h os t kind (tail_breaks p s o ss os t kind b)

pub none_found : (ss : List Statement) (p : Standing) → broken_from p ss ≡ None → (before : List Statement) (t : Statement) (kind : BrokenKind) → BreaksAt p ss before t kind → ⊥
unfolding broken_from
none_found [] p e before t kind b = no_parts before b.behind t b.parts
none_found (s ∷ ss) p e before t kind b = step_whole p s ss before t kind (fault_at p.block p.ifs s ss) refl e (none_found ss (past p.block p.ifs s.words)) b

-- ---- the first place is found

step_only : (p : Standing) (s b : Statement) (ss bs : List Statement) (f : TextFault) (o : Option TextFault) → fault_at p.block p.ifs s ss ≡ o
    → ((others : List Statement) (other : Statement) (sort : BrokenKind) → BreaksAt p (s ∷ ss) others other sort → length (b ∷ bs) ≤ length others)
    → broken_from (past p.block p.ifs s.words) ss ≡ Some f → first_some o (broken_from (past p.block p.ifs s.words) ss) ≡ Some f
step_only p s b ss bs f (Some g) e first h =
    let broken = breaks p.block p.ifs s ss g e in
    absurd (omega (arith, first [] s broken.0 (breaks_here p s ss broken.0 broken.2)))
step_only p s b ss bs f None e first h = h

only_at : (ss : List Statement) (p : Standing) (before : List Statement) (t : Statement) (kind : BrokenKind) → BreaksAt p ss before t kind
    → ((others : List Statement) (other : Statement) (sort : BrokenKind) → BreaksAt p ss others other sort → length before ≤ length others)
    → broken_from p ss ≡ Some (Broken t.span kind)
unfolding broken_from
only_at [] p before t kind h first = absurd (no_parts before h.behind t h.parts)
only_at (s ∷ ss) p [] t kind h first = ap (λ (o : Option TextFault). first_some o (broken_from (past p.block p.ifs s.words) ss)) (head_breaks p s ss t kind h)
only_at (s ∷ ss) p (b ∷ bs) t kind h first =
    step_only p s b ss bs (Broken t.span kind) (fault_at p.block p.ifs s ss) refl first
    (only_at ss (past p.block p.ifs s.words) bs t kind (tail_breaks p s b ss bs t kind h) (λ others other sort k. omega (arith, first (s ∷ others) other sort (behind_first p s ss others other sort k))))

pub first_found : (ss : List Statement) (p : Standing) (place : Span) (kind : BrokenKind) → BreaksFirst p ss place kind → broken_from p ss ≡ Some (Broken place kind)
first_found ss p place kind h = only_at ss p h.before h.statement kind h.here h.first ∙ ap (λ (x : Span). Some (Broken x kind)) (sym h.span)
