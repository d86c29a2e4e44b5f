-- The forms, both ways: a form that is found at a place is spelled by the words, and what is spelled there is
-- found.
use Rattle.std.proofs.Common.{◌≡◌, refl, sym, ap, ◌∙◌, subst, ℕ, Bool, true, false, List, [], ◌∷◌, Option, Some, inl, inr, ◌⊎◌}
use Rattle.std.specs.Prelude.{codes, option_map}
use Rattle.route_types.specs.Address.{PrefixParts}
use Rattle.route_types.specs.Words.{◌>>=◌, when}
use Rattle.route_types.proofs.Numbers.{bind_found, when_true}
use Rattle.text_words.specs.declared.statement.Ender.{Ender}
use Rattle.text_words.specs.declared.statement.Ender.TheVariants.{Semi, Open, Line, Close, Comma, Plain}
use Rattle.text_words.specs.declared.statement.Word.{Word}
use Rattle.policy_text.specs.Names.{first_some}
use Rattle.policy_text.specs.Phrases.{texts, Agrees, Behind, One, First, IsNameWord, after, behind, only, name_in, first_of}
use Rattle.policy_text.proofs.Phrases.{first_found, when_found}
use Rattle.policy_text.proofs.Agree.{one_agrees, first_agrees, behind_agrees, made_found}
use Rattle.policy_text.proofs.Values.{name_agrees}
use Rattle.junos_tree.specs.Words.{list_member_in, member_in, pattern_in, IsMember, IsPattern, IsListMember}
use Rattle.junos_tree.specs.Forms.{of_keys, values_in, list_in, policy_in, term_in, community_in, path_in, community_form, path_form, condition_form, action_form, condition_in, action_in, definition_in, ended, opening, clause_in, form_in}
use Rattle.junos_tree.specs.Spelling.{SpellValues, SpellDefinition, EndsDefinition, SpellClause, SpellFrom, SpellThen, SpellMember, SpellTerm, SpellTexts, SpellCondition, SpellAction, Spell}
use Rattle.junos_tree.specs.Tree.{quotes_fit, known_form}
use Rattle.junos_tree.specs.declared.item.Action.{Action}
use Rattle.junos_tree.specs.declared.item.Condition.{Condition}
use Rattle.junos_tree.specs.declared.item.JunosForm.{JunosForm}
use Rattle.junos_tree.specs.declared.item.JunosForm.TheVariants.{PrefixList as ListForm, Member, Community as CommunityForm, AsPath as PathForm, Policy as PolicyForm, Term, Condition as IsCondition, Action as IsAction}
use Rattle.junos_tree.specs.declared.place.Place.{Place}
use Rattle.junos_tree.specs.declared.place.Place.TheVariants.{Outside, Options, Members, InPolicy, InTerm, From, Then, Passed}
use Rattle.junos_tree.proofs.ActionForms.{action_agrees}
use Rattle.junos_tree.proofs.ValueLists.{values_agree}
use Rattle.junos_tree.proofs.ConditionForms.{of_keys_found, condition_agrees}
use Rattle.junos_tree.proofs.WordForms.{member_agrees, pattern_agrees, list_member_agrees}

-- ---- definitions

name_alone : Agrees (only name_in) (One IsNameWord)
name_alone = one_agrees _ _ name_agrees

members_agree : Agrees (first_of name_in (behind (codes "members" ∷ []) (values_in member_in))) (First IsNameWord (Behind (codes "members" ∷ []) (SpellValues IsMember)))
members_agree = first_agrees _ _ _ _ name_agrees (behind_agrees _ _ _ (values_agree _ _ member_agrees))

path_agrees : Agrees (first_of name_in (only pattern_in)) (First IsNameWord (One IsPattern))
path_agrees = first_agrees _ _ _ _ name_agrees (one_agrees _ _ pattern_agrees)

-- a definition that a statement with this end spells
abbrev Defines : Ender → List (List ℕ) → JunosForm → Type 0
Defines ender ws form = SpellDefinition ws form × EndsDefinition ender form

list_found : (ender : Ender) → (ender ≡ Semi) ⊎ (ender ≡ Open) → (ws : List (List ℕ)) (form : JunosForm) → list_in ws ≡ Some form → Defines ender ws form
unfolding list_in
list_found ender end ws form e = of_keys_found _ _ _ _ (Defines ender) name_alone (λ vs x h. (h, end)) ws form e

policy_found : (ws : List (List ℕ)) (form : JunosForm) → policy_in ws ≡ Some form → Defines Open ws form
unfolding policy_in
policy_found ws form e = of_keys_found _ _ _ _ (Defines Open) name_alone (λ vs x h. (h, refl)) ws form e

community_found : (ws : List (List ℕ)) (form : JunosForm) → community_in ws ≡ Some form → Defines Semi ws form
unfolding community_in
community_found ws form e = of_keys_found community_form _ _ _ (Defines Semi) members_agree (λ vs x h. (h, refl)) ws form e

path_found : (ws : List (List ℕ)) (form : JunosForm) → path_in ws ≡ Some form → Defines Semi ws form
unfolding path_in
path_found ws form e = of_keys_found path_form _ _ _ (Defines Semi) path_agrees (λ vs x h. (h, refl)) ws form e

definition_found : (ender : Ender) (ws : List (List ℕ)) (form : JunosForm) → definition_in ender ws ≡ Some form → Defines ender ws form
definition_found Semi ws form e =
    first_found (list_in ws) _ form (Defines Semi ws form) (list_found Semi (inl refl) ws form)
    (λ e1. first_found (community_in ws) (path_in ws) form (Defines Semi ws form) (community_found ws form) (path_found ws form) e1) e
definition_found Open ws form e = first_found (list_in ws) (policy_in ws) form (Defines Open ws form) (list_found Open (inr refl) ws form) (policy_found ws form) e
definition_found _ ws form e = absurd cc

ended_only : (ws : List (List ℕ)) (form : JunosForm) → Defines Semi ws form → definition_in Semi ws ≡ Some form
unfolding list_in community_in path_in of_keys after
ended_only ws (ListForm name) ((rest, e, h), end) = rw e (rw (name_alone.only rest name h) refl)
ended_only ws (CommunityForm c) ((rest, e, h), end) = rw e (rw (members_agree.only rest (c.name, c.members) h) refl)
ended_only ws (PathForm p) ((rest, e, h), end) = rw e (rw (path_agrees.only rest (p.name, (p.pattern, p.text)) h) refl)
ended_only ws (PolicyForm name) (h, end) = absurd cc
ended_only ws _ h = absurd h.0

opening_only : (ws : List (List ℕ)) (form : JunosForm) → Defines Open ws form → definition_in Open ws ≡ Some form
unfolding list_in policy_in of_keys after
opening_only ws (ListForm name) ((rest, e, h), end) = rw e (rw (name_alone.only rest name h) refl)
opening_only ws (CommunityForm c) (h, end) = absurd cc
opening_only ws (PathForm p) (h, end) = absurd cc
opening_only ws (PolicyForm name) ((rest, e, h), end) = rw e (rw (name_alone.only rest name h) refl)
opening_only ws _ h = absurd h.0

-- how a definition's statement ends
definition_ends : (ender : Ender) (ws : List (List ℕ)) (form : JunosForm) → Defines ender ws form → (ender ≡ Semi) ⊎ (ender ≡ Open)
definition_ends ender ws (ListForm name) h = h.1
definition_ends ender ws (CommunityForm c) h = inl h.1
definition_ends ender ws (PathForm p) h = inl h.1
definition_ends ender ws (PolicyForm name) h = inr h.1
definition_ends ender ws _ h = absurd h.0

ends_somehow : (ender : Ender) (ws : List (List ℕ)) (form : JunosForm) → (ender ≡ Semi) ⊎ (ender ≡ Open) → Defines ender ws form → definition_in ender ws ≡ Some form
ends_somehow Semi ws form end h = ended_only ws form h
ends_somehow Open ws form end h = opening_only ws form h
ends_somehow Line ws form (inl e) h = absurd cc
ends_somehow Line ws form (inr e) h = absurd cc
ends_somehow Close ws form (inl e) h = absurd cc
ends_somehow Close ws form (inr e) h = absurd cc
ends_somehow Comma ws form (inl e) h = absurd cc
ends_somehow Comma ws form (inr e) h = absurd cc
ends_somehow Plain ws form (inl e) h = absurd cc
ends_somehow Plain ws form (inr e) h = absurd cc

definition_only : (ender : Ender) (ws : List (List ℕ)) (form : JunosForm) → Defines ender ws form → definition_in ender ws ≡ Some form
definition_only ender ws form h = ends_somehow ender ws form (definition_ends ender ws form h) h

-- ---- forms that `;` ends, and headers

ended_is : (ender : Ender) (o : Option JunosForm) (form : JunosForm) → ended ender o ≡ Some form → (o ≡ Some form) × (ender ≡ Semi)
ended_is Semi o form e = (e, refl)
ended_is _ o form e = absurd cc

opening_is : (ender : Ender) (o : Option JunosForm) (form : JunosForm) → opening ender o ≡ Some form → (o ≡ Some form) × (ender ≡ Open)
opening_is Open o form e = (e, refl)
opening_is _ o form e = absurd cc

member_found : (ws : List (List ℕ)) (form : JunosForm) → option_map (λ p. Member p) (only list_member_in ws) ≡ Some form → SpellMember ws form
member_found ws form e = made_found (only list_member_in) (One IsListMember) (λ p. Member p) SpellMember (one_agrees _ _ list_member_agrees) (λ vs p h. h) ws form e

member_only : (ws : List (List ℕ)) (form : JunosForm) → SpellMember ws form → option_map (λ p. Member p) (only list_member_in ws) ≡ Some form
member_only ws (Member p) h = ap (λ (o : Option PrefixParts). option_map (λ q. Member q) o) ((one_agrees _ _ list_member_agrees).only ws p h)
member_only ws _ h = absurd h

term_found : (ws : List (List ℕ)) (form : JunosForm) → term_in ws ≡ Some form → SpellTerm Open ws form
unfolding term_in
term_found ws form e = of_keys_found _ _ _ _ (SpellTerm Open) name_alone (λ vs x h. (h, refl)) ws form e

term_only : (ender : Ender) (ws : List (List ℕ)) (form : JunosForm) → SpellTerm ender ws form → (ender ≡ Open) × (term_in ws ≡ Some form)
unfolding term_in of_keys after
term_only ender ws (Term name) ((rest, e, h), end) = (end, rw e (rw (name_alone.only rest name h) refl))
term_only ender ws _ h = absurd h

-- ---- conditions and actions

from_found : (unnamed : Bool) (ws : List (List ℕ)) (form : JunosForm) → option_map (condition_form unnamed) (condition_in ws) ≡ Some form → SpellFrom unnamed ws form
from_found unnamed ws form e = made_found condition_in SpellCondition (condition_form unnamed) (SpellFrom unnamed) condition_agrees (λ vs c h. (h, refl)) ws form e

from_only : (unnamed : Bool) (ws : List (List ℕ)) (form : JunosForm) → SpellFrom unnamed ws form → option_map (condition_form unnamed) (condition_in ws) ≡ Some form
from_only unnamed ws (IsCondition c) (h, e) = rw e (ap (λ (o : Option Condition). option_map (condition_form unnamed) o) (condition_agrees.only ws c.condition h))
from_only unnamed ws _ h = absurd h

then_found : (unnamed : Bool) (ws : List (List ℕ)) (form : JunosForm) → option_map (action_form unnamed) (action_in ws) ≡ Some form → SpellThen unnamed ws form
then_found unnamed ws form e = made_found action_in SpellAction (action_form unnamed) (SpellThen unnamed) action_agrees (λ vs a h. (h, refl)) ws form e

then_only : (unnamed : Bool) (ws : List (List ℕ)) (form : JunosForm) → SpellThen unnamed ws form → option_map (action_form unnamed) (action_in ws) ≡ Some form
then_only unnamed ws (IsAction a) (h, e) = rw e (ap (λ (o : Option Action). option_map (action_form unnamed) o) (action_agrees.only ws a.action h))
then_only unnamed ws _ h = absurd h

clause_found : (unnamed : Bool) (ws : List (List ℕ)) (form : JunosForm) → clause_in unnamed ws ≡ Some form → SpellClause unnamed ws form
unfolding clause_in
clause_found unnamed ws form e =
    first_found _ _ form (SpellClause unnamed ws form) (of_keys_found (condition_form unnamed) _ _ _ (SpellClause unnamed) condition_agrees (λ vs c h. (h, refl)) ws form)
    (of_keys_found (action_form unnamed) _ _ _ (SpellClause unnamed) action_agrees (λ vs a h. (h, refl)) ws form) e

clause_only : (unnamed : Bool) (ws : List (List ℕ)) (form : JunosForm) → SpellClause unnamed ws form → clause_in unnamed ws ≡ Some form
unfolding clause_in of_keys after
clause_only unnamed ws (IsCondition c) ((rest, e, h), named) = rw (e, named) (rw (condition_agrees.only rest c.condition h) refl)
clause_only unnamed ws (IsAction a) ((rest, e, h), named) = rw (e, named) (rw (action_agrees.only rest a.action h) refl)
clause_only unnamed ws _ h = absurd h

-- ---- a place

-- a header of a term is no clause that `;` ends
policy_part_only : (ender : Ender) (ws : List (List ℕ)) (form : JunosForm) → SpellTexts InPolicy ender ws form → first_some (opening ender (term_in ws)) (ended ender (clause_in true ws)) ≡ Some form
policy_part_only ender ws form (inl h) =
    let t = term_only ender ws form h in
    rw t.0 (rw t.1 refl)
policy_part_only ender ws form (inr (h, e)) = rw e (clause_only true ws form h)

texts_found : (place : Place) (ender : Ender) (ws : List (List ℕ)) (form : JunosForm) → form_in place ender ws ≡ Some form → SpellTexts place ender ws form
unfolding form_in
texts_found Outside ender ws form e = definition_found ender ws form e
texts_found Options ender ws form e = definition_found ender ws form e
texts_found Members ender ws form e = let h = ended_is ender _ form e in (member_found ws form h.0, h.1)
texts_found InPolicy ender ws form e =
    first_found (opening ender (term_in ws)) (ended ender (clause_in true ws)) form (SpellTexts InPolicy ender ws form)
    (λ g. let h = opening_is ender (term_in ws) form g in inl (subst (λ (x : Ender). SpellTerm x ws form) (sym h.1) (term_found ws form h.0)))
    (λ g. let h = ended_is ender (clause_in true ws) form g in inr (clause_found true ws form h.0, h.1)) e
texts_found InTerm ender ws form e = let h = ended_is ender (clause_in false ws) form e in (clause_found false ws form h.0, h.1)
texts_found (From unnamed) ender ws form e = let h = ended_is ender _ form e in (from_found unnamed ws form h.0, h.1)
texts_found (Then unnamed) ender ws form e = let h = ended_is ender _ form e in (then_found unnamed ws form h.0, h.1)
texts_found Passed ender ws form e = absurd cc

texts_only : (place : Place) (ender : Ender) (ws : List (List ℕ)) (form : JunosForm) → SpellTexts place ender ws form → form_in place ender ws ≡ Some form
unfolding form_in
texts_only Outside ender ws form h = definition_only ender ws form h
texts_only Options ender ws form h = definition_only ender ws form h
texts_only Members ender ws form (h, e) = rw e (member_only ws form h)
texts_only InPolicy ender ws form h = policy_part_only ender ws form h
texts_only InTerm ender ws form (h, e) = rw e (clause_only false ws form h)
texts_only (From unnamed) ender ws form (h, e) = rw e (from_only unnamed ws form h)
texts_only (Then unnamed) ender ws form (h, e) = rw e (then_only unnamed ws form h)
texts_only Passed ender ws form h = absurd h

-- ---- statements

pub is_spelled : (place : Place) (ender : Ender) (ws : List Word) (form : JunosForm) → known_form place ender ws ≡ Some form → Spell place ender ws form
unfolding known_form
is_spelled place ender ws form e =
    let found = bind_found (form_in place ender (texts ws)) (λ f. when (quotes_fit f ws) f) form e in
    let fits = when_found (quotes_fit found.0 ws) found.0 form found.2 in
    subst (Spell place ender ws) fits.1 (texts_found place ender (texts ws) found.0 found.1, fits.0)

pub is_found : (place : Place) (ender : Ender) (ws : List Word) (form : JunosForm) → Spell place ender ws form → known_form place ender ws ≡ Some form
unfolding known_form
is_found place ender ws form h =
    ap (λ (o : Option JunosForm). o >>= λ f. when (quotes_fit f ws) f) (texts_only place ender (texts ws) form h.0) ∙ when_true (quotes_fit form ws) form h.1
