-- Headers, statements of policies and elements agree with what they spell, where conditions do.
use Rattle.std.proofs.Common.{◌≡◌, refl, sym, ap, ◌∙◌, subst, ℕ, false, List, [], ◌∷◌, Option, Some, None, inl, inr}
use Rattle.std.specs.Prelude.{codes, option_map}
use Rattle.text_words.specs.declared.rpl_blocks.BlockKind.{BlockKind}
use Rattle.text_words.specs.declared.rpl_blocks.BlockKind.TheVariants.{PrefixSet as PrefixBlock, CommunitySet as CommunityBlock, PathSet as PathBlock, Policy as PolicyBlock}
use Rattle.policy_text.specs.Names.{first_some}
use Rattle.policy_text.specs.Phrases.{Agrees, IsOneOf, one_of}
use Rattle.policy_text.proofs.Phrases.{first_found, map_found}
use Rattle.policy_text.proofs.Agree.{one_of_agrees}
use Rattle.rpl_words.specs.Tokens.{Token, plain, IsPlain, One, Behind, UpTo, Called, plain_in, only, after, behind, up_to, called_in}
use Rattle.rpl_words.specs.Values.{IsHeaderName, IsInnerName, IsParameter, header_name_in, inner_name_in, parameter_in}
use Rattle.rpl_words.specs.Elements.{prefix_element_in, rect_element_in, path_element_in}
use Rattle.rpl_words.specs.Conditions.{SpellTerms}
use Rattle.rpl_forms.specs.Terms.{condition_in}
use Rattle.rpl_forms.specs.Statements.{SpellHeader, SpellBranch, SpellAction, IsArgument, SpellStatement, SpellWithin, single_words, set_header_in, policy_header_in, header_in, branch_in, action_in, argument_in, apply_in, single_word_in, conditional_in, statement_in, form_in}
use Rattle.rpl_words.specs.declared.condition.Term.{Term}
use Rattle.rpl_words.specs.declared.element.Element.TheVariants.{Prefix as PrefixOf, Community as CommunityOf, Path as PathOf}
use Rattle.rpl_forms.specs.declared.item.Action.{Action}
use Rattle.rpl_forms.specs.declared.item.Action.TheVariants.{SetMed, SetLocalPreference, SetWeight, SetOrigin, SetNextHop, SetCommunity, DeleteCommunity, Prepend as PrependPath}
use Rattle.rpl_forms.specs.declared.item.Argument.{Argument}
use Rattle.rpl_forms.specs.declared.item.Argument.TheVariants.{Written, Parameter}
use Rattle.rpl_forms.specs.declared.item.Header.{Header}
use Rattle.rpl_forms.specs.declared.item.Header.TheVariants.{PrefixSet, CommunitySet, PathSet, Policy}
use Rattle.rpl_forms.specs.declared.item.PolicyStatement.{PolicyStatement}
use Rattle.rpl_forms.specs.declared.item.PolicyStatement.TheVariants.{If, ElseIf, Else, EndIf, Pass, Done, Drop, Act, Apply as ApplyPolicy}
use Rattle.rpl_forms.specs.declared.item.RplForm.{RplForm}
use Rattle.rpl_forms.specs.declared.item.RplForm.TheVariants.{Element as OfElement, Statement as OfStatement}
use Rattle.rpl_words.proofs.Agree.Tokens.{plain_agrees, one_agrees, behind_agrees, up_to_agrees, called_agrees}
use Rattle.rpl_words.proofs.Agree.Values.{header_name_agrees, inner_name_agrees, parameter_agrees}
use Rattle.rpl_words.proofs.Agree.Elements.{no_name, prefix_element_agrees, rect_element_agrees, path_element_agrees}
use Rattle.rpl_forms.proofs.Agree.Actions.{action_agrees}

-- ---- headers

set_header_agrees : (key : List ℕ) → Agrees (set_header_in key) (Behind (key ∷ []) (One (IsPlain IsHeaderName)))
unfolding set_header_in
set_header_agrees key =
    behind_agrees (key ∷ []) (only (plain_in header_name_in)) (One (IsPlain IsHeaderName)) (one_agrees (plain_in header_name_in) (IsPlain IsHeaderName) (plain_agrees header_name_in IsHeaderName header_name_agrees))

named_agrees : Agrees (behind (codes "route-policy" ∷ []) (called_in header_name_in (plain_in parameter_in))) (Behind (codes "route-policy" ∷ []) (Called IsHeaderName (IsPlain IsParameter)))
named_agrees =
    behind_agrees (codes "route-policy" ∷ []) (called_in header_name_in (plain_in parameter_in)) (Called IsHeaderName (IsPlain IsParameter))
    (called_agrees header_name_in (plain_in parameter_in) IsHeaderName (IsPlain IsParameter) header_name_agrees (plain_agrees parameter_in IsParameter parameter_agrees))

-- the header of a policy
abbrev of_policy : List ℕ × List (List ℕ) → Header
of_policy h = Policy (record { name = h.0; parameters = h.1 })

pub header_found : (kind : BlockKind) (ts : List Token) (h : Header) → header_in kind ts ≡ Some h → SpellHeader kind ts h
unfolding header_in policy_header_in
header_found PrefixBlock ts h e = let n = map_found (set_header_in (codes "prefix-set") ts) (λ x. PrefixSet x) h e in subst (SpellHeader PrefixBlock ts) n.2 ((set_header_agrees (codes "prefix-set")).found ts n.0 n.1)
header_found CommunityBlock ts h e = let n = map_found (set_header_in (codes "community-set") ts) (λ x. CommunitySet x) h e in subst (SpellHeader CommunityBlock ts) n.2 ((set_header_agrees (codes "community-set")).found ts n.0 n.1)
header_found PathBlock ts h e = let n = map_found (set_header_in (codes "as-path-set") ts) (λ x. PathSet x) h e in subst (SpellHeader PathBlock ts) n.2 ((set_header_agrees (codes "as-path-set")).found ts n.0 n.1)
header_found PolicyBlock ts h e =
    let n = map_found (behind (codes "route-policy" ∷ []) (called_in header_name_in (plain_in parameter_in)) ts) of_policy h e in
    subst (SpellHeader PolicyBlock ts) n.2 (named_agrees.found ts n.0 n.1)

pub header_only : (kind : BlockKind) (ts : List Token) (h : Header) → SpellHeader kind ts h → header_in kind ts ≡ Some h
unfolding header_in policy_header_in
header_only PrefixBlock ts (PrefixSet n) h = ap (λ (o : Option (List ℕ)). option_map (λ x. PrefixSet x) o) ((set_header_agrees (codes "prefix-set")).only ts n h)
header_only CommunityBlock ts (CommunitySet n) h = ap (λ (o : Option (List ℕ)). option_map (λ x. CommunitySet x) o) ((set_header_agrees (codes "community-set")).only ts n h)
header_only PathBlock ts (PathSet n) h = ap (λ (o : Option (List ℕ)). option_map (λ x. PathSet x) o) ((set_header_agrees (codes "as-path-set")).only ts n h)
header_only PolicyBlock ts (Policy p) h = ap (λ (o : Option (List ℕ × List (List ℕ))). option_map of_policy o) (named_agrees.only ts (p.name, p.parameters) h)
header_only _ ts _ h = absurd h

-- ---- arguments

argument_found : (w : List ℕ) (a : Argument) → argument_in w ≡ Some a → IsArgument w a
unfolding argument_in
argument_found w a e =
    first_found (option_map (λ x. Written x) (inner_name_in w)) (option_map (λ x. Parameter x) (parameter_in w)) a (IsArgument w a)
    (λ h. let x = map_found (inner_name_in w) (λ y. Written y) a h in subst (IsArgument w) x.2 (inner_name_agrees.found w x.0 x.1))
    (λ h. let x = map_found (parameter_in w) (λ y. Parameter y) a h in subst (IsArgument w) x.2 (parameter_agrees.found w x.0 x.1))
    e

argument_only : (w : List ℕ) (a : Argument) → IsArgument w a → argument_in w ≡ Some a
unfolding argument_in
argument_only w (Written text) h = rw (inner_name_agrees.only w text h) refl
argument_only w (Parameter x) h = rw (no_name w x h.spelled, parameter_agrees.only w x h) refl

applied_agrees : Agrees (called_in inner_name_in (plain_in argument_in)) (Called IsInnerName (IsPlain IsArgument))
applied_agrees = called_agrees inner_name_in (plain_in argument_in) IsInnerName (IsPlain IsArgument) inner_name_agrees (plain_agrees argument_in IsArgument (record { found = argument_found; only = argument_only }))

-- ---- statements of one word

single_by : (ts : List Token) (w : List ℕ) (s : PolicyStatement) → ts ≡ plain w ∷ [] → IsOneOf single_words w s → SpellStatement ts s
single_by ts w s e (inl (k, is)) = subst (SpellStatement ts) (sym is) (e ∙ ap (λ (x : List ℕ). plain x ∷ []) k)
single_by ts w s e (inr (inl (k, is))) = subst (SpellStatement ts) (sym is) (e ∙ ap (λ (x : List ℕ). plain x ∷ []) k)
single_by ts w s e (inr (inr (inl (k, is)))) = subst (SpellStatement ts) (sym is) (e ∙ ap (λ (x : List ℕ). plain x ∷ []) k)
single_by ts w s e (inr (inr (inr (inl (k, is))))) = subst (SpellStatement ts) (sym is) (e ∙ ap (λ (x : List ℕ). plain x ∷ []) k)
single_by ts w s e (inr (inr (inr (inr (inl (k, is)))))) = subst (SpellStatement ts) (sym is) (e ∙ ap (λ (x : List ℕ). plain x ∷ []) k)
single_by ts w s e (inr (inr (inr (inr (inr h))))) = absurd h

single_found : (ts : List Token) (s : PolicyStatement) → single_word_in ts ≡ Some s → SpellStatement ts s
unfolding single_word_in
single_found ts s e =
    let h = (one_agrees (plain_in (one_of single_words)) (IsPlain (IsOneOf single_words)) (plain_agrees (one_of single_words) (IsOneOf single_words) (one_of_agrees single_words refl))).found ts s e in
    single_by ts h.2.0 s (h.1 ∙ ap (λ (t : Token). t ∷ []) h.2.1) h.2.2

-- ---- statements of policies

-- a condition between a word and `then`
branch_agrees : Agrees condition_in SpellTerms → (key : List ℕ) → Agrees (branch_in key) (SpellBranch key)
unfolding branch_in
branch_agrees a key = behind_agrees (key ∷ []) (up_to (codes "then") condition_in) (UpTo (codes "then") SpellTerms) (up_to_agrees (codes "then") condition_in SpellTerms a)

conditional_found : Agrees condition_in SpellTerms → (ts : List Token) (s : PolicyStatement) → conditional_in ts ≡ Some s → SpellStatement ts s
unfolding conditional_in
conditional_found a ts s e =
    first_found (option_map (λ x. If x) (branch_in (codes "if") ts)) (option_map (λ x. ElseIf x) (branch_in (codes "elseif") ts)) s (SpellStatement ts s)
    (λ h. let x = map_found (branch_in (codes "if") ts) (λ y. If y) s h in subst (SpellStatement ts) x.2 ((branch_agrees a (codes "if")).found ts x.0 x.1))
    (λ h. let x = map_found (branch_in (codes "elseif") ts) (λ y. ElseIf y) s h in subst (SpellStatement ts) x.2 ((branch_agrees a (codes "elseif")).found ts x.0 x.1))
    e

-- the policy that is applied, and what is handed to it
abbrev of_apply : List ℕ × List Argument → PolicyStatement
of_apply a = ApplyPolicy (record { policy = a.0; arguments = a.1 })

apply_agrees : Agrees (behind (codes "apply" ∷ []) (called_in inner_name_in (plain_in argument_in))) (Behind (codes "apply" ∷ []) (Called IsInnerName (IsPlain IsArgument)))
apply_agrees = behind_agrees (codes "apply" ∷ []) (called_in inner_name_in (plain_in argument_in)) (Called IsInnerName (IsPlain IsArgument)) applied_agrees

apply_found : (ts : List Token) (s : PolicyStatement) → apply_in ts ≡ Some s → SpellStatement ts s
unfolding apply_in
apply_found ts s e = let a = map_found (behind (codes "apply" ∷ []) (called_in inner_name_in (plain_in argument_in)) ts) of_apply s e in subst (SpellStatement ts) a.2 (apply_agrees.found ts a.0 a.1)

statement_found : Agrees condition_in SpellTerms → (ts : List Token) (s : PolicyStatement) → statement_in ts ≡ Some s → SpellStatement ts s
unfolding statement_in
statement_found a ts s e =
    let acts = option_map (λ x. Act x) (action_in ts) in
    first_found (single_word_in ts) (first_some (conditional_in ts) (first_some acts (apply_in ts))) s (SpellStatement ts s) (λ h. single_found ts s h)
    (λ h. first_found (conditional_in ts) (first_some acts (apply_in ts)) s (SpellStatement ts s) (λ k. conditional_found a ts s k)
    (λ k. first_found acts (apply_in ts) s (SpellStatement ts s)
    (λ l. let x = map_found (action_in ts) (λ y. Act y) s l in subst (SpellStatement ts) x.2 (action_agrees.found ts x.0 x.1))
    (λ l. apply_found ts s l)
    k)
    h)
    e

-- a word that is no statement by itself begins none of one word
not_single : (key : List ℕ) (rest : List Token) → one_of single_words key ≡ None → single_word_in (plain key ∷ rest) ≡ None
unfolding single_word_in
not_single key [] e = e
not_single key (t ∷ ts) e = refl

-- a statement that changes the route begins with a word that begins no other
action_alone : (ts : List Token) (a : Action) → SpellAction ts a → (single_word_in ts ≡ None) × (conditional_in ts ≡ None)
unfolding single_word_in conditional_in branch_in after
action_alone ts (SetMed n) (rest, e, h) = (ap (λ (us : List Token). single_word_in us) e, ap (λ (us : List Token). conditional_in us) e)
action_alone ts (SetLocalPreference n) (rest, e, h) = (ap (λ (us : List Token). single_word_in us) e, ap (λ (us : List Token). conditional_in us) e)
action_alone ts (SetWeight n) (rest, e, h) = (ap (λ (us : List Token). single_word_in us) e, ap (λ (us : List Token). conditional_in us) e)
action_alone ts (SetOrigin o) (rest, e, h) = (ap (λ (us : List Token). single_word_in us) e, ap (λ (us : List Token). conditional_in us) e)
action_alone ts (SetNextHop n) (rest, e, h) = (ap (λ (us : List Token). single_word_in us) e, ap (λ (us : List Token). conditional_in us) e)
action_alone ts (SetCommunity s) (rest, e, h) = (ap (λ (us : List Token). single_word_in us) e, ap (λ (us : List Token). conditional_in us) e)
action_alone ts (DeleteCommunity s) (rest, e, h) = (ap (λ (us : List Token). single_word_in us) e, ap (λ (us : List Token). conditional_in us) e)
action_alone ts (PrependPath p) (rest, e, h) = (ap (λ (us : List Token). single_word_in us) e, ap (λ (us : List Token). conditional_in us) e)

-- nor does `apply`
apply_alone : (rest : List Token) → (conditional_in (plain (codes "apply") ∷ rest) ≡ None) × (action_in (plain (codes "apply") ∷ rest) ≡ None)
unfolding conditional_in branch_in action_in after
apply_alone rest = (refl, refl)

conditional_only : Agrees condition_in SpellTerms → (ts : List Token) (terms : List Term) → (SpellBranch (codes "if") ts terms → statement_in ts ≡ Some (If terms)) × (SpellBranch (codes "elseif") ts terms → statement_in ts ≡ Some (ElseIf terms))
unfolding statement_in conditional_in branch_in after
conditional_only a ts terms =
    let inner = up_to_agrees (codes "then") condition_in SpellTerms a in (
      λ h. ap (λ (us : List Token). statement_in us) h.1 ∙ rw (not_single (codes "if") h.0 refl, inner.only h.0 terms h.2) refl,
      λ h. ap (λ (us : List Token). statement_in us) h.1 ∙ rw (not_single (codes "elseif") h.0 refl, inner.only h.0 terms h.2) refl,
    )

statement_only : Agrees condition_in SpellTerms → (ts : List Token) (s : PolicyStatement) → SpellStatement ts s → statement_in ts ≡ Some s
unfolding statement_in single_word_in apply_in
statement_only a ts (If terms) h = (conditional_only a ts terms).0 h
statement_only a ts (ElseIf terms) h = (conditional_only a ts terms).1 h
statement_only a ts Else e = ap (λ (us : List Token). statement_in us) e
statement_only a ts EndIf e = ap (λ (us : List Token). statement_in us) e
statement_only a ts Pass e = ap (λ (us : List Token). statement_in us) e
statement_only a ts Done e = ap (λ (us : List Token). statement_in us) e
statement_only a ts Drop e = ap (λ (us : List Token). statement_in us) e
statement_only a ts (Act x) h = let alone = action_alone ts x h in rw (alone.0, alone.1, action_agrees.only ts x h) refl
statement_only a ts (ApplyPolicy x) h =
    let text = h.1 in
    let single : single_word_in ts ≡ None = ap (λ (us : List Token). single_word_in us) text ∙ not_single (codes "apply") h.0 refl in
    let conditional : conditional_in ts ≡ None = ap (λ (us : List Token). conditional_in us) text ∙ (apply_alone h.0).0 in
    let action : action_in ts ≡ None = ap (λ (us : List Token). action_in us) text ∙ (apply_alone h.0).1 in
    rw (single, conditional, action, apply_agrees.only ts (x.policy, x.arguments) h) refl

pub statement_agrees : Agrees condition_in SpellTerms → Agrees statement_in SpellStatement
statement_agrees a = record { found = statement_found a; only = statement_only a }

-- ---- statements within blocks

pub within_found : Agrees condition_in SpellTerms → (kind : BlockKind) (ts : List Token) (form : RplForm) → form_in kind ts ≡ Some form → SpellWithin kind ts form
unfolding form_in
within_found a PrefixBlock ts form e = let x = map_found (prefix_element_in false ts) (λ y. OfElement (PrefixOf y)) form e in subst (SpellWithin PrefixBlock ts) x.2 ((prefix_element_agrees false).found ts x.0 x.1)
within_found a CommunityBlock ts form e = let x = map_found (rect_element_in ts) (λ y. OfElement (CommunityOf y)) form e in subst (SpellWithin CommunityBlock ts) x.2 (rect_element_agrees.found ts x.0 x.1)
within_found a PathBlock ts form e = let x = map_found (path_element_in false ts) (λ y. OfElement (PathOf y)) form e in subst (SpellWithin PathBlock ts) x.2 ((path_element_agrees false).found ts x.0 x.1)
within_found a PolicyBlock ts form e = let x = map_found (statement_in ts) (λ y. OfStatement y) form e in subst (SpellWithin PolicyBlock ts) x.2 (statement_found a ts x.0 x.1)

pub within_only : Agrees condition_in SpellTerms → (kind : BlockKind) (ts : List Token) (form : RplForm) → SpellWithin kind ts form → form_in kind ts ≡ Some form
unfolding form_in
within_only a PrefixBlock ts (OfElement (PrefixOf x)) h = rw ((prefix_element_agrees false).only ts x h) refl
within_only a CommunityBlock ts (OfElement (CommunityOf x)) h = rw (rect_element_agrees.only ts x h) refl
within_only a PathBlock ts (OfElement (PathOf x)) h = rw ((path_element_agrees false).only ts x h) refl
within_only a PolicyBlock ts (OfStatement x) h = rw (statement_only a ts x h) refl
within_only a _ ts _ h = absurd h
