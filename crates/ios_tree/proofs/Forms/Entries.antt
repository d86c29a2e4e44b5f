-- The entries of lists and the headers of route-maps, both ways: a form that is found is spelled by the
-- words, and what is spelled is found.
use Rattle.std.proofs.Common.{◌≡◌, refl, sym, ap, ◌∙◌, subst, ℕ, ◌-◌, ◌^◌, ◌≤◌, ◌<◌, Bool, false, List, [], ◌∷◌, ◌++◌, Option, Some, None, arith, inl, inr, lit<}
use Rattle.std.specs.Prelude.{codes, decimal, bytes_eq, option_map}
use Rattle.route_types.specs.Community.{RectParts}
use Rattle.route_types.specs.Words.{is_digit, number_in, prefix_in, IsNumber}
use Rattle.route_types.specs.declared.address.Family.{Family}
use Rattle.route_types.specs.declared.address.Family.TheVariants.{V4}
use Rattle.route_types.specs.declared.community.Community.{Community}
use Rattle.route_types.proofs.Numbers.{bind_found, some_is}
use Rattle.route_types.proofs.Printed.{prefix_in_plain}
use Rattle.route_types.proofs.Spelled.{ap2}
use Rattle.prefix_sets.specs.declared.list.PrefixEntry.{PrefixEntry as Entry}
use Rattle.policy_text.specs.Bounds.{bounds_in}
use Rattle.policy_text.specs.Phrases.{Agrees, IsOneOf, IsNameWord, One, Optional, name_in, after, behind, only, value_at, first_of, optional, some_each}
use Rattle.policy_text.proofs.Phrases.{after_found, after_spelled, first_found, no_keyword, bytes_sym}
use Rattle.policy_text.proofs.Agree.{one_agrees, some_agrees, behind_agrees, first_agrees, optional_agrees, made_found, made_only}
use Rattle.policy_text.proofs.Lengths.{bounds_agree}
use Rattle.policy_text.proofs.Values.{name_agrees, number_agrees, prefix_agrees}
use Rattle.ios_tree.specs.Forms.{range_in, range_or_in, prefix_form, prefix_list_in, head_in, entry_in, standard_form, expanded_form, standard_in, expanded_in, community_list_in, path_form, path_entry_in, header_form, map_header_in}
use Rattle.aspath_text.specs.IosGrammar.{SpellsPattern}
use Rattle.aspath_text.specs.IosRead.{ios_pattern_in}
use Rattle.ios_tree.specs.Names.{actions, permit_in, list_in, numbered_list_in, community_word_in, shape_in}
use Rattle.ios_tree.specs.Reading.{SpellsAs}
use Rattle.ios_tree.specs.Spelling.{IsListNumber, IsPathListWord, AreCommunities, IsShape, SpellEntry, SpellRange, SpellRangeOr, SpellPrefixList, SpellPrefixEntry, SpellPrefixDescription, SpellCommunityEntry, Spell}
use Rattle.ios_tree.specs.declared.item.CommunityShape.{CommunityShape}
use Rattle.ios_tree.specs.declared.item.CommunityShape.TheVariants.{Standard, Expanded}
use Rattle.ios_tree.specs.declared.item.IosForm.{IosForm}
use Rattle.ios_tree.specs.declared.item.IosForm.TheVariants.{PrefixEntry, PrefixDescription, CommunityEntry, PathEntry, MapHeader}
use Rattle.ios_tree.specs.declared.item.ItemSort.TheVariants.{PrefixList, CommunityList, PathList, Map}
use Rattle.ios_tree.specs.declared.item.MapHeader.{MapHeader as Header}
use Rattle.ios_tree.specs.declared.item.PathListEntry.{PathListEntry}
use Rattle.ios_tree.specs.declared.item.PrefixListEntry.{PrefixListEntry}
use Rattle.ios_tree.specs.declared.item.PrefixDescription.{PrefixDescription as Described}
use Rattle.ios_tree.proofs.Forms.Words.{list_agrees, numbered_list_agrees, permit_agrees, community_word_agrees, shape_agrees, pattern_agrees}

value_found : {A : Type 0} (f : List ℕ → Option A) (ws : List (List ℕ)) (x : A × List (List ℕ)) → value_at f ws ≡ Some x → (w : List ℕ) × (ws ≡ w ∷ x.1) × (f w ≡ Some x.0)
value_found f [] x e = absurd cc
value_found {A} f (w ∷ ws) x e =
    let v = bind_found (f w) (λ y. Some (y, ws)) x e in
    let k = some_is (v.0, ws) x v.2 in
    (w, ap (λ (p : A × List (List ℕ)). w ∷ p.1) k, v.1 ∙ ap (λ (p : A × List (List ℕ)). Some p.0) k)

-- ---- prefix lists

range_found : (ws : List (List ℕ)) (x : Entry) → range_in ws ≡ Some x → SpellRange ws x
range_found ws x e =
    let p = bind_found (value_at permit_in ws) _ x e in
    let a = value_found permit_in ws p.0 p.1 in
    let q = bind_found (value_at prefix_in p.0.1) _ x p.2 in
    let b = value_found prefix_in p.0.1 q.0 q.1 in
    let l = bind_found (bounds_in q.0.0.length q.0.1) _ x q.2 in
    subst (SpellRange ws) (some_is _ x l.2) (record {
      action = a.0;
      prefix_word = b.0;
      bounds = q.0.1;
      words = a.1 ∙ ap (λ (r : List (List ℕ)). a.0 ∷ r) b.1;
      permit = permit_agrees.found a.0 p.0.0 a.2;
      prefix = prefix_agrees.found b.0 q.0.0 b.2;
      lengths = (bounds_agree q.0.0.length).found q.0.1 l.0 l.1;
    })

range_only : (ws : List (List ℕ)) (x : Entry) → SpellRange ws x → range_in ws ≡ Some x
range_only ws x h =
    rw h.words (rw (permit_agrees.only h.action x.permit h.permit) (rw (prefix_agrees.only h.prefix_word x.range.prefix h.prefix) (rw ((bounds_agree x.range.prefix.length).only h.bounds (x.range.least, x.range.most) h.lengths) refl)))

range_agrees : Agrees range_in SpellRange
range_agrees = record { found = range_found; only = range_only }

after_agrees : (ks : List (List ℕ)) → Agrees (after ks) (λ ws rest. ws ≡ ks ++ rest)
after_agrees ks = record { found = after_found ks; only = after_spelled ks }

range_or_found : (ws : List (List ℕ)) (o : Option Entry) → range_or_in ws ≡ Some o → SpellRangeOr ws o
unfolding range_or_in
range_or_found ws o e =
    first_found (option_map (λ x. Some x) (range_in ws)) (option_map (λ rest. None) (after (codes "description" ∷ []) ws)) o (SpellRangeOr ws o)
    (made_found range_in SpellRange (λ x. Some x) SpellRangeOr range_agrees (λ vs x h. h) ws o)
    (made_found (after (codes "description" ∷ [])) (λ vs rest. vs ≡ (codes "description" ∷ []) ++ rest) (λ rest. None) SpellRangeOr (after_agrees (codes "description" ∷ [])) (λ vs rest h. (rest, h)) ws o)
    e

range_or_only : (ws : List (List ℕ)) (o : Option Entry) → SpellRangeOr ws o → range_or_in ws ≡ Some o
unfolding after permit_in range_or_in
range_or_only ws (Some x) h = rw (range_only ws x h) refl
range_or_only ws None (rest, e) = rw e refl

action_first : (action : List ℕ) (permit : Bool) (rest : List (List ℕ)) → IsOneOf actions action permit → after (codes "seq" ∷ []) (action ∷ rest) ≡ None
unfolding after
action_first action permit rest (inl (e, f)) = rw e refl
action_first action permit rest (inr (inl (e, f))) = rw e refl
action_first action permit rest (inr (inr h)) = absurd h

-- neither an entry nor a description begins with `seq`
no_seq : (ws : List (List ℕ)) (o : Option Entry) → SpellRangeOr ws o → after (codes "seq" ∷ []) ws ≡ None
unfolding after
no_seq ws (Some x) h = ap (λ (vs : List (List ℕ)). after (codes "seq" ∷ []) vs) h.words ∙ action_first h.action x.permit (h.prefix_word ∷ h.bounds) h.permit
no_seq ws None (rest, e) = rw e refl

prefix_list_agrees : Agrees (behind (codes "ip" ∷ codes "prefix-list" ∷ []) (first_of list_in (optional (codes "seq" ∷ []) (number_in (2 ^ 64 - 1)) range_or_in))) SpellPrefixList
prefix_list_agrees =
    behind_agrees (codes "ip" ∷ codes "prefix-list" ∷ []) _ _ (first_agrees _ _ _ _ list_agrees
    (optional_agrees (codes "seq" ∷ []) _ _ _ _ (number_agrees (2 ^ 64 - 1) (lit< tt)) (record { found = range_or_found; only = range_or_only }) no_seq))

-- what is asked for, behind a number or none
behind_seq : (ws : List (List ℕ)) (seq : Option ℕ) (x : Entry) (Number : List ℕ → ℕ → Type 0) → Optional (codes "seq" ∷ []) Number SpellRangeOr ws (seq, Some x)
    → (rest : List (List ℕ)) × SpellRange rest x
behind_seq ws (Some n) x Number h = (h.2.1, h.2.4)
behind_seq ws None x Number h = (ws, h)

-- what an entry of a prefix list asks for
pub spelled_range : (ws : List (List ℕ)) (list : List ℕ) (seq : Option ℕ) (x : Entry) → SpellPrefixList ws (list, (seq, Some x)) → (rest : List (List ℕ)) × SpellRange rest x
spelled_range ws list seq x h = behind_seq h.2.1 seq x _ h.2.4

family_is : (rest : List (List ℕ)) (x : Entry) → SpellRange rest x → x.range.prefix.address.family ≡ V4
family_is rest x h = let plain = prefix_in_plain h.prefix_word x.range.prefix (prefix_agrees.only h.prefix_word x.range.prefix h.prefix) in plain.family

prefix_spelled : (ws : List (List ℕ)) (x : List ℕ × (Option ℕ × Option Entry)) → SpellPrefixList ws x → SpellsAs (PrefixList V4) ws (prefix_form x)
prefix_spelled ws (list, (seq, Some x)) h =
    let r = spelled_range ws list seq x h in
    (record { seq = seq; words = h; written = refl; number = refl }, ap (λ (f : Family). PrefixList f) (family_is r.0 x r.1))
prefix_spelled ws (list, (seq, None)) h = (record { seq = seq; words = h; family = refl }, refl)

pub prefix_list_found : (ws : List (List ℕ)) (form : IosForm) → prefix_list_in ws ≡ Some form → SpellsAs (PrefixList V4) ws form
unfolding prefix_list_in
prefix_list_found ws form e = made_found _ _ prefix_form (SpellsAs (PrefixList V4)) prefix_list_agrees prefix_spelled ws form e

pub prefix_entry_only : (ws : List (List ℕ)) (e : PrefixListEntry) → SpellPrefixEntry ws e → prefix_list_in ws ≡ Some (PrefixEntry e)
unfolding prefix_list_in
prefix_entry_only ws e h =
    made_only _ _ prefix_form prefix_list_agrees ws (e.list, (h.seq, Some e.entry)) h.words
    ∙ ap2 (λ (t : Bool) (n : ℕ). Some (PrefixEntry (record { list = e.list; has_seq = t; number = n; entry = e.entry }))) (sym h.written) (sym h.number)

-- the family of a prefix list entry that is spelled
pub prefix_entry_family : (ws : List (List ℕ)) (e : PrefixListEntry) → SpellPrefixEntry ws e → e.entry.range.prefix.address.family ≡ V4
prefix_entry_family ws e h = let r = spelled_range ws e.list h.seq e.entry h.words in family_is r.0 e.entry r.1

pub prefix_description_only : (ws : List (List ℕ)) (d : Described) → SpellPrefixDescription ws d → prefix_list_in ws ≡ Some (PrefixDescription d)
unfolding prefix_list_in
prefix_description_only ws d h =
    made_only _ _ prefix_form prefix_list_agrees ws (d.list, (h.seq, None)) h.words
    ∙ ap (λ (f : Family). Some (PrefixDescription (record { family = f; list = d.list }))) (sym h.family)

-- ---- other entries

-- the words behind the first ones: a name, an action, and a shape
module _ (ks : List (List ℕ)) (name : List ℕ → Option (List ℕ)) (Name : List ℕ → List ℕ → Type 0) (a : Agrees name Name) where
  module _ {A : Type 0} (shape : List (List ℕ) → Option A) (Shape : List (List ℕ) → A → Type 0) (b : Agrees shape Shape) where
    entry_found : (ws : List (List ℕ)) (x : List ℕ × (Bool × A)) → entry_in ks name shape ws ≡ Some x → SpellEntry ks Name Shape ws x
    entry_found ws x e =
        let h = bind_found (head_in ks name ws) _ x e in
        let rest = bind_found (after ks ws) _ h.0 h.1 in
        let list = bind_found (value_at name rest.0) _ h.0 rest.2 in
        let n = value_found name rest.0 list.0 list.1 in
        let permit = bind_found (value_at permit_in list.0.1) _ h.0 list.2 in
        let p = value_found permit_in list.0.1 permit.0 permit.1 in
        let made = some_is _ h.0 permit.2 in
        let y = bind_found (shape h.0.2) _ x h.2 in
        subst (SpellEntry ks Name Shape ws) (some_is _ x y.2) (
          rest.0,
          after_found ks ws rest.0 rest.1,
          (
            n.0,
            list.0.1,
            n.1,
            a.found n.0 h.0.0 (n.2 ∙ ap (λ (i : List ℕ × Bool × List (List ℕ)). Some i.0) made),
            (
              p.0,
              h.0.2,
              p.1 ∙ ap (λ (i : List ℕ × Bool × List (List ℕ)). p.0 ∷ i.2) made,
              permit_agrees.found p.0 h.0.1 (p.2 ∙ ap (λ (i : List ℕ × Bool × List (List ℕ)). Some i.1) made),
              b.found h.0.2 y.0 y.1,
            ),
          ),
        )

    entry_only : (ws : List (List ℕ)) (x : List ℕ × (Bool × A)) → SpellEntry ks Name Shape ws x → entry_in ks name shape ws ≡ Some x
    entry_only ws (list, (permit, x)) (rest, e, (w, r, e1, n, (v, s, e2, p, q))) =
        rw (after_spelled ks ws rest e, head_in) (rw e1 (rw (a.only w list n) (rw e2 (rw (permit_agrees.only v permit p) (rw (b.only s x q) refl)))))

    entry_agrees : Agrees (entry_in ks name shape) (SpellEntry ks Name Shape)
    entry_agrees = record { found = entry_found; only = entry_only }

  -- ---- community lists

  -- an entry of a standard list is one of a community list under this name
  abbrev AreStandard : Type 0
  AreStandard = (ws : List (List ℕ)) (x : List ℕ × (Bool × List Community)) → SpellEntry ks Name AreCommunities ws x → SpellCommunityEntry ws x.0 x.1.0 (Standard x.1.1)

  abbrev AreExpanded : Type 0
  AreExpanded = (ws : List (List ℕ)) (x : List ℕ × (Bool × RectParts)) → SpellEntry ks Name (One IsShape) ws x → SpellCommunityEntry ws x.0 x.1.0 (Expanded x.1.1)

  standard_agrees : Agrees (entry_in ks name (some_each community_word_in)) (SpellEntry ks Name AreCommunities)
  standard_agrees = entry_agrees _ AreCommunities (some_agrees _ _ community_word_agrees)

  expanded_agrees : Agrees (entry_in ks name (only shape_in)) (SpellEntry ks Name (One IsShape))
  expanded_agrees = entry_agrees _ (One IsShape) (one_agrees _ _ shape_agrees)

  standard_found : AreStandard → (ws : List (List ℕ)) (form : IosForm) → standard_in ks name ws ≡ Some form → SpellsAs CommunityList ws form
  unfolding standard_in
  standard_found are ws form e = made_found _ _ standard_form (SpellsAs CommunityList) standard_agrees (λ vs x h. (are vs x h, refl)) ws form e

  expanded_found : AreExpanded → (ws : List (List ℕ)) (form : IosForm) → expanded_in ks name ws ≡ Some form → SpellsAs CommunityList ws form
  unfolding expanded_in
  expanded_found are ws form e = made_found _ _ expanded_form (SpellsAs CommunityList) expanded_agrees (λ vs x h. (are vs x h, refl)) ws form e

  standard_only : (ws : List (List ℕ)) (x : List ℕ × (Bool × List Community)) → SpellEntry ks Name AreCommunities ws x → standard_in ks name ws ≡ Some (standard_form x)
  unfolding standard_in
  standard_only ws x h = made_only _ _ standard_form standard_agrees ws x h

  expanded_only : (ws : List (List ℕ)) (x : List ℕ × (Bool × RectParts)) → SpellEntry ks Name (One IsShape) ws x → expanded_in ks name ws ≡ Some (expanded_form x)
  unfolding expanded_in
  expanded_only ws x h = made_only _ _ expanded_form expanded_agrees ws x h

pub community_list_found : (ws : List (List ℕ)) (form : IosForm) → community_list_in ws ≡ Some form → SpellsAs CommunityList ws form
unfolding community_list_in
community_list_found ws form e =
    first_found _ _ form (SpellsAs CommunityList ws form) (standard_found _ _ _ list_agrees (λ vs x h. inl h) ws form)
    (λ e1. first_found _ _ form (SpellsAs CommunityList ws form) (expanded_found _ _ _ list_agrees (λ vs x h. inl h) ws form)
    (λ e2. first_found _ _ form (SpellsAs CommunityList ws form) (standard_found _ _ _ (numbered_list_agrees 1 99 (lit< tt)) (λ vs x h. inr h) ws form)
    (expanded_found _ _ _ (numbered_list_agrees 100 500 (lit< tt)) (λ vs x h. inr h) ws form) e2) e1) e

-- a number stands in no keyword's place
not_keyword : (k : ℕ) (ks : List ℕ) (w : List ℕ) (n : ℕ) → is_digit k ≡ false → n < 2 ^ 64 → w ≡ decimal n → bytes_eq (k ∷ ks) w ≡ false
not_keyword k ks w n other small e = ap (λ (x : List ℕ). bytes_eq (k ∷ ks) x) e ∙ bytes_sym (k ∷ ks) (decimal n) ∙ no_keyword n k ks small other

-- behind `ip community-list` a number names the list
none_behind : {A : Type 0} (k : ℕ) (ks : List ℕ) (name : List ℕ → Option (List ℕ)) (shape : List (List ℕ) → Option A)
    → (ws rest : List (List ℕ)) (w : List ℕ) (behind_name : List (List ℕ)) → bytes_eq (k ∷ ks) w ≡ false
    → ws ≡ codes "ip" ∷ codes "community-list" ∷ rest → rest ≡ w ∷ behind_name → entry_in (codes "ip" ∷ codes "community-list" ∷ (k ∷ ks) ∷ []) name shape ws ≡ None
unfolding after
none_behind k ks name shape ws rest w behind_name other e f = rw e (rw f (rw (other, after) refl))

no_number : (w : List ℕ) (n : ℕ) (o : Option ℕ) → IsNumber 500 w n → 100 ≤ n → number_in 99 w ≡ o → o ≡ None
no_number w n None h some e = refl
no_number w n (Some m) h some e =
    let low = (number_agrees 99 (lit< tt)).found w m e in
    let one : number_in 500 w ≡ Some n = (number_agrees 500 (lit< tt)).only w n h in
    let two : number_in 500 w ≡ Some m = (number_agrees 500 (lit< tt)).only w m (record { spelled = low.spelled; within = omega (arith, low.within) }) in
    let same : n ≡ m = some_is n m (sym one ∙ two) in
    absurd (omega (arith, same, low.within, some))

-- a number above those of standard lists
above : {A : Type 0} (shape : List (List ℕ) → Option A) (ws rest : List (List ℕ)) (w list : List ℕ) (behind_name : List (List ℕ)) → IsListNumber 100 500 w list
    → ws ≡ codes "ip" ∷ codes "community-list" ∷ rest → rest ≡ w ∷ behind_name → entry_in (codes "ip" ∷ codes "community-list" ∷ []) (numbered_list_in 1 99) shape ws ≡ None
unfolding after numbered_list_in
above shape ws rest w list behind_name h e f = rw e (rw f (rw (no_number w h.number (number_in 99 w) h.spelled h.some refl) refl))

-- no standard list's entry is found where its shape isn't
standard_none : (ks : List (List ℕ)) (name : List ℕ → Option (List ℕ)) (ws : List (List ℕ)) → entry_in ks name (some_each community_word_in) ws ≡ None → standard_in ks name ws ≡ None
unfolding standard_in
standard_none ks name ws e = ap (λ (o : Option (List ℕ × (Bool × List Community))). option_map standard_form o) e

expanded_none : (ks : List (List ℕ)) (name : List ℕ → Option (List ℕ)) (ws : List (List ℕ)) → entry_in ks name (only shape_in) ws ≡ None → expanded_in ks name ws ≡ None
unfolding expanded_in
expanded_none ks name ws e = ap (λ (o : Option (List ℕ × (Bool × RectParts))). option_map expanded_form o) e

-- no entry with this keyword is found
abbrev NoStandard : List (List ℕ) → Type 0
NoStandard ws = standard_in (codes "ip" ∷ codes "community-list" ∷ codes "standard" ∷ []) list_in ws ≡ None

abbrev NoExpanded : List (List ℕ) → Type 0
NoExpanded ws = expanded_in (codes "ip" ∷ codes "community-list" ∷ codes "expanded" ∷ []) list_in ws ≡ None

-- a number behind `ip community-list` is neither `standard` nor `expanded`
numbered_apart : (ws rest : List (List ℕ)) (w : List ℕ) (behind_name : List (List ℕ)) (n : ℕ) → n < 2 ^ 64 → w ≡ decimal n → ws ≡ codes "ip" ∷ codes "community-list" ∷ rest
    → rest ≡ w ∷ behind_name
    → NoStandard ws × NoExpanded ws
numbered_apart ws rest w behind_name n small number e f = (
  standard_none _ _ ws (none_behind 115 (codes "tandard") list_in _ ws rest w behind_name (not_keyword 115 (codes "tandard") w n refl small number) e f),
  expanded_none _ _ ws (none_behind 101 (codes "xpanded") list_in _ ws rest w behind_name (not_keyword 101 (codes "xpanded") w n refl small number) e f),
)

pub community_list_only : (ws : List (List ℕ)) (list : List ℕ) (permit : Bool) (shape : CommunityShape) → SpellCommunityEntry ws list permit shape
    → community_list_in ws ≡ Some (CommunityEntry (record { list = list; permit = permit; shape = shape }))
unfolding community_list_in
community_list_only ws list permit (Standard cs) (inl h) = rw (standard_only _ _ _ list_agrees ws (list, (permit, cs)) h) refl
community_list_only ws list permit (Standard cs) (inr h) =
    let n = h.2.3 in
    let apart = numbered_apart ws h.0 h.2.0 h.2.1 n.number (omega (arith, n.spelled.within)) n.spelled.spelled h.1 h.2.2 in
    rw apart.0 (rw apart.1 (rw (standard_only _ _ _ (numbered_list_agrees 1 99 (lit< tt)) ws (list, (permit, cs)) h) refl))
community_list_only ws list permit (Expanded r) (inl h) =
    rw (standard_none (codes "ip" ∷ codes "community-list" ∷ codes "standard" ∷ []) list_in ws (none_behind 115 (codes "tandard") list_in _ ws (codes "expanded" ∷ h.0) (codes "expanded") h.0 refl h.1 refl))
    (rw (expanded_only _ _ _ list_agrees ws (list, (permit, r)) h) refl)
community_list_only ws list permit (Expanded r) (inr h) =
    let n = h.2.3 in
    let apart = numbered_apart ws h.0 h.2.0 h.2.1 n.number (omega (arith, n.spelled.within)) n.spelled.spelled h.1 h.2.2 in
    rw apart.0 (rw apart.1 (rw (standard_none _ _ ws (above _ ws h.0 h.2.0 list h.2.1 n h.1 h.2.2)) (rw (expanded_only _ _ _ (numbered_list_agrees 100 500 (lit< tt)) ws (list, (permit, r)) h) refl)))

-- ---- path lists and route-maps

abbrev path_keys : List (List ℕ)
path_keys = codes "ip" ∷ codes "as-path" ∷ codes "access-list" ∷ []

path_agrees : Agrees (entry_in path_keys (numbered_list_in 1 (2 ^ 64 - 1)) (only ios_pattern_in)) (SpellEntry path_keys IsPathListWord (One SpellsPattern))
path_agrees = entry_agrees _ _ _ (numbered_list_agrees 1 (2 ^ 64 - 1) (lit< tt)) _ _ (one_agrees _ _ pattern_agrees)

pub path_entry_found : (ws : List (List ℕ)) (form : IosForm) → path_entry_in ws ≡ Some form → SpellsAs PathList ws form
unfolding path_entry_in
path_entry_found ws form e = made_found _ _ path_form (SpellsAs PathList) path_agrees (λ vs x h. (h, refl)) ws form e

pub path_entry_only : (ws : List (List ℕ)) (e : PathListEntry) → Spell ws (PathEntry e) → path_entry_in ws ≡ Some (PathEntry e)
unfolding path_entry_in
path_entry_only ws e h = made_only _ _ path_form path_agrees ws (e.list, (e.permit, e.pattern)) h

header_agrees : Agrees (entry_in (codes "route-map" ∷ []) name_in (only (number_in (2 ^ 64 - 1)))) (SpellEntry (codes "route-map" ∷ []) IsNameWord (One (IsNumber (2 ^ 64 - 1))))
header_agrees = entry_agrees _ _ _ name_agrees _ _ (one_agrees _ _ (number_agrees (2 ^ 64 - 1) (lit< tt)))

pub map_header_found : (ws : List (List ℕ)) (form : IosForm) → map_header_in ws ≡ Some form → SpellsAs Map ws form
unfolding map_header_in
map_header_found ws form e = made_found _ _ header_form (SpellsAs Map) header_agrees (λ vs x h. (h, refl)) ws form e

pub map_header_only : (ws : List (List ℕ)) (h : Header) → Spell ws (MapHeader h) → map_header_in ws ≡ Some (MapHeader h)
unfolding map_header_in
map_header_only ws h s = made_only _ _ header_form header_agrees ws (h.map, (h.permit, h.number)) s
