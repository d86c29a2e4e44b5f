-- The actions of terms, both ways: an action that is found is spelled by the words, and what is spelled is
-- found.
use Rattle.std.proofs.Common.{◌≡◌, refl, ap, ℕ, ◌-◌, ◌^◌, List, [], ◌∷◌, Option, Some, inl, inr, lit<}
use Rattle.std.specs.Prelude.{codes, option_map}
use Rattle.route_types.specs.Words.{number_in, IsNumber}
use Rattle.policy_text.specs.Names.{first_some}
use Rattle.policy_text.specs.Phrases.{Agrees, One, First, IsOneOf, IsNameWord, after, behind, only, name_in, one_of, first_of}
use Rattle.policy_text.proofs.Phrases.{first_found}
use Rattle.policy_text.proofs.Agree.{one_agrees, first_agrees, behind_agrees, made_found}
use Rattle.policy_text.proofs.Values.{number_agrees, name_agrees, origin_agrees}
use Rattle.junos_tree.specs.Words.{ends, nexts, verbs}
use Rattle.junos_tree.specs.Forms.{of_keys, flow_in, setting_in, change_in, action_in}
use Rattle.junos_tree.specs.Spelling.{SpellFlow, SpellAction}
use Rattle.junos_tree.specs.declared.item.Action.{Action}
use Rattle.junos_tree.specs.declared.item.Action.TheVariants.{Flow as FlowAction, Metric, LocalPreference, Origin, NextHop, Community, Prepend}
use Rattle.junos_tree.specs.declared.item.Flow.{Flow}
use Rattle.junos_tree.proofs.ConditionForms.{of_keys_found}
use Rattle.junos_tree.proofs.Spaces.{prepended_agree}
use Rattle.junos_tree.proofs.WordForms.{ends_agree, nexts_agree, verbs_agree, hop_agrees}

-- ---- flows

flow_found : (ws : List (List ℕ)) (f : Flow) → flow_in ws ≡ Some f → SpellFlow ws f
unfolding flow_in
flow_found ws f e =
    first_found (only (one_of ends) ws) (behind (codes "next" ∷ []) (only (one_of nexts)) ws) f (SpellFlow ws f)
    (λ h. inl ((one_agrees _ _ ends_agree).found ws f h)) (λ h. inr ((behind_agrees (codes "next" ∷ []) _ _ (one_agrees _ _ nexts_agree)).found ws f h)) e

flow_only : (ws : List (List ℕ)) (f : Flow) → SpellFlow ws f → flow_in ws ≡ Some f
unfolding flow_in after
flow_only ws f (inl h) = ap (λ (o : Option Flow). first_some o (behind (codes "next" ∷ []) (only (one_of nexts)) ws)) ((one_agrees _ _ ends_agree).only ws f h)
flow_only ws f (inr (rest, e, (w, g, h))) = rw (e, g) (rw (nexts_agree.only w f h) refl)

flow_agrees : Agrees flow_in SpellFlow
flow_agrees = record { found = flow_found; only = flow_only }

-- ---- what is found is spelled

number_alone : Agrees (only (number_in (2 ^ 32 - 1))) (One (IsNumber (2 ^ 32 - 1)))
number_alone = one_agrees _ _ (number_agrees (2 ^ 32 - 1) (lit< tt))

communities_agree : Agrees (first_of (one_of verbs) (only name_in)) (First (IsOneOf verbs) (One IsNameWord))
communities_agree = first_agrees _ _ _ _ verbs_agree (one_agrees _ _ name_agrees)

setting_found : (ws : List (List ℕ)) (a : Action) → setting_in ws ≡ Some a → SpellAction ws a
unfolding setting_in
setting_found ws a e =
    first_found _ _ a (SpellAction ws a) (of_keys_found _ _ _ _ SpellAction number_alone (λ vs x h. h) ws a)
    (λ e1. first_found _ _ a (SpellAction ws a) (of_keys_found _ _ _ _ SpellAction number_alone (λ vs x h. h) ws a)
    (λ e2. first_found _ _ a (SpellAction ws a) (of_keys_found _ _ _ _ SpellAction (one_agrees _ _ origin_agrees) (λ vs x h. h) ws a)
    (of_keys_found _ _ _ _ SpellAction (one_agrees _ _ hop_agrees) (λ vs x h. h) ws a) e2) e1) e

change_found : (ws : List (List ℕ)) (a : Action) → change_in ws ≡ Some a → SpellAction ws a
unfolding change_in
change_found ws a e =
    first_found _ _ a (SpellAction ws a) (of_keys_found _ _ _ _ SpellAction communities_agree (λ vs x h. h) ws a)
    (of_keys_found _ _ _ _ SpellAction (one_agrees _ _ prepended_agree) (λ vs x h. h) ws a) e

action_found : (ws : List (List ℕ)) (a : Action) → action_in ws ≡ Some a → SpellAction ws a
unfolding action_in
action_found ws a e =
    first_found (option_map (λ f. FlowAction f) (flow_in ws)) _ a (SpellAction ws a) (made_found flow_in SpellFlow (λ f. FlowAction f) SpellAction flow_agrees (λ vs f h. h) ws a)
    (λ e1. first_found (setting_in ws) (change_in ws) a (SpellAction ws a) (setting_found ws a) (change_found ws a) e1) e

-- ---- what is spelled is found

action_only : (ws : List (List ℕ)) (a : Action) → SpellAction ws a → action_in ws ≡ Some a
unfolding action_in setting_in change_in flow_in of_keys after
action_only ws (FlowAction f) h = ap (λ (o : Option Flow). first_some (option_map (λ x. FlowAction x) o) (first_some (setting_in ws) (change_in ws))) (flow_only ws f h)
action_only ws (Metric n) (rest, e, (w, f, h)) = rw (e, f) (rw ((number_agrees (2 ^ 32 - 1) (lit< tt)).only w n h) refl)
action_only ws (LocalPreference n) (rest, e, (w, f, h)) = rw (e, f) (rw ((number_agrees (2 ^ 32 - 1) (lit< tt)).only w n h) refl)
action_only ws (Origin o) (rest, e, (w, f, h)) = rw (e, f) (rw (origin_agrees.only w o h) refl)
action_only ws (NextHop n) (rest, e, (w, f, h)) = rw (e, f) (rw (hop_agrees.only w n h) refl)
action_only ws (Community c) (rest, e, (w, more, f, h, k)) = rw (e, f) (rw (verbs_agree.only w c.verb h) (rw ((one_agrees _ _ name_agrees).only more c.community k) refl))
action_only ws (Prepend ns) (rest, e, (w, f, h)) = rw (e, f) (rw (prepended_agree.only w ns h) refl)

pub action_agrees : Agrees action_in SpellAction
action_agrees = record { found = action_found; only = action_only }
