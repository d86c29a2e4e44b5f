-- The lines of an entry, both ways: a line that is found is spelled by the words, and what is spelled is
-- found.
use Rattle.std.proofs.Common.{◌≡◌, refl, sym, ap, ◌∙◌, subst, ℕ, ◌-◌, ◌^◌, Bool, true, false, List, [], ◌∷◌, ◌++◌, length, Option, Some, None, arith, inl, inr, lit<}
use Rattle.std.specs.Prelude.{codes, bytes_eq, ◌==◌}
use Rattle.std.proofs.lemmas.List.{append-nil}
use Rattle.std.proofs.lemmas.Slice.Eq.{bytes_eq-Decides}
use Rattle.route_types.specs.Words.{◌>>=◌, when, number_in, parts_at, community_in}
use Rattle.route_types.specs.declared.community.Community.{Community}
use Rattle.route_types.proofs.Numbers.{bind_found, some_is}
use Rattle.policy_text.specs.Phrases.{Agrees, Behind, after, behind, some_each}
use Rattle.policy_text.proofs.Phrases.{when_found, same_bytes, after_found, first_found}
use Rattle.policy_text.proofs.Agree.{one_agrees, some_agrees, behind_agrees, made_found, made_only}
use Rattle.policy_text.proofs.Values.{number_agrees, address_agrees}
use Rattle.ios_tree.specs.Names.{community_word_in}
use Rattle.ios_tree.specs.Forms.{option_in, with_option, none_in, communities_in, followed_in, target_in, line_of, match_prefix_in, match_line_in, set_number_in, set_value_in, set_list_in, other_line_in, line_in}
use Rattle.ios_tree.specs.Spelling.{IsCommunityWord, AreCommunities, SpellOption, WithOption, SpellCommunities, Followed, SpellTarget, SpellLine}
use Rattle.ios_tree.specs.declared.item.CommunitySetting.{CommunitySetting}
use Rattle.ios_tree.specs.declared.item.MapLine.{MapLine}
use Rattle.ios_tree.specs.declared.item.MapLine.TheVariants.{MatchPrefix, MatchNextHop, MatchCommunity, MatchPath, MatchMetric, SetLocalPreference, SetMetric, SetWeight, SetPrepend, SetOrigin, SetNextHop, SetCommunity, DeleteCommunities, Continue, Description}
use Rattle.ios_tree.proofs.Forms.Words.{list_agrees, numbered_list_agrees, origin_agrees, community_word_agrees, no_bytes}
use Rattle.ios_tree.proofs.Forms.Options.{option_found, option_spelled}

-- ---- values behind the first words

with_option_agrees : {A : Type 0} (key : List ℕ) (f : List ℕ → Option A) (P : List ℕ → A → Type 0) → Agrees f P → Agrees (with_option key f) (WithOption key P)
unfolding with_option
with_option_agrees key f P a = record {
  found = λ ws x e.
      let xs = bind_found (some_each f (option_in key ws).0) _ x e in
      subst (WithOption key P ws) (some_is _ x xs.2) (record { words = (option_in key ws).0; option = option_found key ws; values = (some_agrees f P a).found (option_in key ws).0 xs.0 xs.1 });
  only = λ ws x h. rw (option_spelled key ws h.words x.1 h.values.some h.option) (rw ((some_agrees f P a).only h.words x.0 h.values) refl);
}

none_found : (ws : List (List ℕ)) (s : CommunitySetting) → none_in ws ≡ Some s → SpellCommunities ws s
none_found ws s e =
    let rest = bind_found (after (codes "none" ∷ []) ws) _ s e in
    let k = when_found (length rest.0 == 0) _ s rest.2 in
    inl (
      after_found (codes "none" ∷ []) ws rest.0 rest.1 ∙ ap (λ (vs : List (List ℕ)). codes "none" ∷ vs) (no_bytes rest.0 k.0),
      ap (λ (t : CommunitySetting). t.communities) (sym k.1),
      ap (λ (t : CommunitySetting). t.additive) (sym k.1),
    )

communities_found : (ws : List (List ℕ)) (s : CommunitySetting) → communities_in ws ≡ Some s → SpellCommunities ws s
unfolding communities_in
communities_found ws s e =
    first_found (none_in ws) _ s (SpellCommunities ws s) (none_found ws s)
    (made_found _ _ _ SpellCommunities (with_option_agrees (codes "additive") community_word_in IsCommunityWord community_word_agrees) (λ vs x h. inr h) ws s)
    e

not_none_here : (t : Bool) (w : List ℕ) (c : Community) (ws : List (List ℕ)) → bytes_eq (codes "none") w ≡ t → IsCommunityWord w c
    → ◌≡◌ {A = Option CommunitySetting} ((elim t [ true ↦ Some ws | false ↦ None ]) >>= λ rest. when (length rest == 0) (record { communities = []; additive = false })) None
unfolding community_in community_word_in parts_at number_in
not_none_here true w c ws t h =
    let none : community_word_in (codes "none") ≡ Some c = ap (λ (x : List ℕ). community_word_in x) (same_bytes (codes "none") w t) ∙ community_word_agrees.only w c h in
    absurd (let k : ◌≡◌ {A = Option Community} None (Some c) = none in cc)
not_none_here false w c ws t h = refl

-- communities aren't `none`
not_none : (words : List (List ℕ)) (cs : List Community) (more : List (List ℕ)) → AreCommunities words cs → none_in (words ++ more) ≡ None
unfolding after
not_none [] cs more h = absurd (omega (arith, h.some))
not_none (w ∷ ws) [] more h = absurd h.each
not_none (w ∷ ws) (c ∷ cs) more h = not_none_here (bytes_eq (codes "none") w) w c (ws ++ more) refl h.each.0

with_words : (rest words : List (List ℕ)) (t : Bool) → SpellOption (codes "additive") rest t words → (more : List (List ℕ)) × (rest ≡ words ++ more)
with_words rest words true h = (codes "additive" ∷ [], h)
with_words rest words false h = ([], h.0 ∙ sym (append-nil words))

communities_only : (ws : List (List ℕ)) (s : CommunitySetting) → SpellCommunities ws s → communities_in ws ≡ Some s
unfolding after communities_in
communities_only ws s (inl (e, f, g)) = rw (e, f, g) refl
communities_only ws s (inr h) =
    let more = with_words ws h.words s.additive h.option in
    let none : none_in ws ≡ None = ap (λ (x : List (List ℕ)). none_in x) more.1 ∙ not_none h.words s.communities more.0 h.values in
    rw (none, none_in) (made_only _ _ _ (with_option_agrees (codes "additive") community_word_in IsCommunityWord community_word_agrees) ws (s.communities, s.additive) h)

communities_agree : Agrees communities_in SpellCommunities
communities_agree = record { found = communities_found; only = communities_only }

followed_here : {A : Type 0} (t : Bool) (key w v : List ℕ) (o : Option A) (P : List ℕ → A → Type 0) (x : A) → bytes_eq v key ≡ t → (o ≡ Some x → P w x)
    → (elim t [ true ↦ o | false ↦ None ]) ≡ Some x → Followed key P (w ∷ v ∷ []) x
followed_here true key w v o P x t is e = (w, ap (λ (y : List ℕ). w ∷ y ∷ []) (same_bytes v key t), is e)
followed_here false key w v o P x t is e = absurd cc

followed_found : {A : Type 0} (key : List ℕ) (f : List ℕ → Option A) (P : List ℕ → A → Type 0) → Agrees f P → (ws : List (List ℕ)) (x : A) → followed_in key f ws ≡ Some x
    → Followed key P ws x
followed_found key f P a [] x e = absurd cc
followed_found key f P a (w ∷ []) x e = absurd cc
followed_found key f P a (w ∷ v ∷ []) x e = followed_here (bytes_eq v key) key w v (f w) P x refl (a.found w x) e
followed_found key f P a (w ∷ v ∷ u ∷ ws) x e = absurd cc

followed_agrees : {A : Type 0} (key : List ℕ) (f : List ℕ → Option A) (P : List ℕ → A → Type 0) → Agrees f P → Agrees (followed_in key f) (Followed key P)
followed_agrees key f P a = record { found = followed_found key f P a; only = λ ws x h. rw h.1 (rw ((bytes_eq-Decides key key).1 refl, followed_in) (a.only h.0 x h.2)) }

target_found : (ws : List (List ℕ)) (target : Option ℕ) → target_in ws ≡ Some target → SpellTarget ws target
target_found [] target e = subst (SpellTarget []) (some_is None target e) refl
target_found (w ∷ ws) target e = made_found _ _ (λ n. Some n) SpellTarget (one_agrees _ _ (number_agrees (2 ^ 64 - 1) (lit< tt))) (λ vs n h. h) (w ∷ ws) target e

target_only : (ws : List (List ℕ)) (target : Option ℕ) → SpellTarget ws target → target_in ws ≡ Some target
target_only ws None e = rw e refl
target_only ws (Some n) (w, e, h) = rw e (rw ((number_agrees (2 ^ 64 - 1) (lit< tt)).only w n h) refl)

target_agrees : Agrees target_in SpellTarget
target_agrees = record { found = target_found; only = target_only }

anything_agrees : Agrees (λ (ws : List (List ℕ)). Some ws) (λ ws rest. ws ≡ rest)
anything_agrees = record { found = λ ws rest e. some_is ws rest e; only = λ ws rest e. ap (λ (x : List (List ℕ)). Some x) e }

-- ---- what is found is spelled

-- a line that is found by its first words is spelled
of_line : {A : Type 0} (make : A → MapLine) (ks : List (List ℕ)) (f : List (List ℕ) → Option A) (P : List (List ℕ) → A → Type 0) → Agrees f P
    → ((ws : List (List ℕ)) (x : A) → Behind ks P ws x → SpellLine ws (make x))
    → (ws : List (List ℕ)) (l : MapLine) → line_of make ks f ws ≡ Some l → SpellLine ws l
unfolding line_of
of_line make ks f P a is ws l e = made_found (behind ks f) (Behind ks P) make SpellLine (behind_agrees ks f P a) is ws l e

match_prefix_found : (ws : List (List ℕ)) (l : MapLine) → match_prefix_in ws ≡ Some l → SpellLine ws l
unfolding match_prefix_in
match_prefix_found ws l e =
    first_found _ _ l (SpellLine ws l) (of_line _ _ _ _ (some_agrees _ _ list_agrees) (λ vs x h. (h, refl)) ws l)
    (of_line _ _ _ _ (some_agrees _ _ list_agrees) (λ vs x h. (h, refl)) ws l) e

match_line_found : (ws : List (List ℕ)) (l : MapLine) → match_line_in ws ≡ Some l → SpellLine ws l
unfolding match_line_in
match_line_found ws l e =
    first_found (match_prefix_in ws) _ l (SpellLine ws l) (match_prefix_found ws l)
    (λ e1. first_found _ _ l (SpellLine ws l) (of_line _ _ _ _ (with_option_agrees _ _ _ list_agrees) (λ vs x h. h) ws l)
    (λ e2. first_found _ _ l (SpellLine ws l) (of_line _ _ _ _ (some_agrees _ _ (numbered_list_agrees 1 (2 ^ 64 - 1) (lit< tt))) (λ vs x h. h) ws l)
    (of_line _ _ _ _ (some_agrees _ _ (number_agrees (2 ^ 32 - 1) (lit< tt))) (λ vs x h. h) ws l) e2) e1) e

set_number_found : (ws : List (List ℕ)) (l : MapLine) → set_number_in ws ≡ Some l → SpellLine ws l
unfolding set_number_in
set_number_found ws l e =
    first_found _ _ l (SpellLine ws l) (of_line _ _ _ _ (one_agrees _ _ (number_agrees (2 ^ 32 - 1) (lit< tt))) (λ vs x h. h) ws l)
    (λ e1. first_found _ _ l (SpellLine ws l) (of_line _ _ _ _ (one_agrees _ _ (number_agrees (2 ^ 32 - 1) (lit< tt))) (λ vs x h. h) ws l)
    (of_line _ _ _ _ (one_agrees _ _ (number_agrees 65535 (lit< tt))) (λ vs x h. h) ws l) e1) e

set_value_found : (ws : List (List ℕ)) (l : MapLine) → set_value_in ws ≡ Some l → SpellLine ws l
unfolding set_value_in
set_value_found ws l e =
    first_found (set_number_in ws) _ l (SpellLine ws l) (set_number_found ws l)
    (λ e1. first_found _ _ l (SpellLine ws l) (of_line _ _ _ _ (one_agrees _ _ origin_agrees) (λ vs x h. h) ws l)
    (of_line _ _ _ _ (one_agrees _ _ address_agrees) (λ vs x h. h) ws l) e1) e

set_list_found : (ws : List (List ℕ)) (l : MapLine) → set_list_in ws ≡ Some l → SpellLine ws l
unfolding set_list_in
set_list_found ws l e =
    first_found _ _ l (SpellLine ws l) (of_line _ _ _ _ (some_agrees _ _ (number_agrees (2 ^ 32 - 1) (lit< tt))) (λ vs x h. h) ws l)
    (λ e1. first_found _ _ l (SpellLine ws l) (of_line _ _ _ _ communities_agree (λ vs x h. h) ws l)
    (of_line _ _ _ _ (followed_agrees _ _ _ list_agrees) (λ vs x h. h) ws l) e1) e

other_line_found : (ws : List (List ℕ)) (l : MapLine) → other_line_in ws ≡ Some l → SpellLine ws l
unfolding other_line_in
other_line_found ws l e =
    first_found _ _ l (SpellLine ws l) (of_line _ _ _ _ target_agrees (λ vs x h. h) ws l)
    (of_line _ _ _ _ anything_agrees (λ vs x h. (h.0, h.1)) ws l) e

pub line_found : (ws : List (List ℕ)) (l : MapLine) → line_in ws ≡ Some l → SpellLine ws l
unfolding line_in
line_found ws l e =
    first_found (match_line_in ws) _ l (SpellLine ws l) (match_line_found ws l)
    (λ e1. first_found (set_value_in ws) _ l (SpellLine ws l) (set_value_found ws l)
    (λ e2. first_found (set_list_in ws) _ l (SpellLine ws l) (set_list_found ws l) (other_line_found ws l) e2) e1) e

-- ---- what is spelled is found

pub line_only : (ws : List (List ℕ)) (l : MapLine) → SpellLine ws l → line_in ws ≡ Some l
unfolding line_in match_prefix_in match_line_in set_number_in set_value_in set_list_in other_line_in line_of after
line_only ws (MatchPrefix m) ((rest, e, h), family) = rw e (rw ((some_agrees _ _ list_agrees).only rest m.lists h, family) refl)
line_only ws (MatchNextHop m) ((rest, e, h), family) = rw e (rw ((some_agrees _ _ list_agrees).only rest m.lists h, family) refl)
line_only ws (MatchCommunity m) (rest, e, h) = rw e (rw ((with_option_agrees (codes "exact-match") _ _ list_agrees).only rest (m.lists, m.exact) h) refl)
line_only ws (MatchPath m) (rest, e, h) = rw e (rw ((some_agrees _ _ (numbered_list_agrees 1 (2 ^ 64 - 1) (lit< tt))).only rest m.lists h) refl)
line_only ws (MatchMetric ns) (rest, e, h) = rw e (rw ((some_agrees _ _ (number_agrees (2 ^ 32 - 1) (lit< tt))).only rest ns h) refl)
line_only ws (SetLocalPreference n) (rest, e, (w, f, h)) = rw (e, f) (rw ((number_agrees (2 ^ 32 - 1) (lit< tt)).only w n h) refl)
line_only ws (SetMetric n) (rest, e, (w, f, h)) = rw (e, f) (rw ((number_agrees (2 ^ 32 - 1) (lit< tt)).only w n h) refl)
line_only ws (SetWeight n) (rest, e, (w, f, h)) = rw (e, f) (rw ((number_agrees 65535 (lit< tt)).only w n h) refl)
line_only ws (SetPrepend ns) (rest, e, h) = rw e (rw ((some_agrees _ _ (number_agrees (2 ^ 32 - 1) (lit< tt))).only rest ns h) refl)
line_only ws (SetOrigin o) (rest, e, (w, f, h)) = rw (e, f) (rw (origin_agrees.only w o h) refl)
line_only ws (SetNextHop a) (rest, e, (w, f, h)) = rw (e, f) (rw (address_agrees.only w a h) refl)
line_only ws (SetCommunity s) (rest, e, h) = rw e (rw (communities_only rest s h) refl)
line_only ws (DeleteCommunities list) (rest, e, h) = rw e (rw ((followed_agrees (codes "delete") _ _ list_agrees).only rest list h) refl)
line_only ws (Continue target) (rest, e, h) = rw e (rw (target_only rest target h) refl)
line_only ws Description (rest, e) = rw e refl
