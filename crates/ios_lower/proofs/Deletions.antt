-- What the entries of a list take away, one entry after the other.
use Rattle.std.proofs.Common.{◌≡◌, refl, sym, ap, ◌∙◌, ℕ, ◌<◌, Bool, true, false, not, ◌&&◌, ◌||◌, List, [], ◌∷◌, ◌++◌, append_assoc, arith}
use Rattle.std.specs.Prelude.{◌==◌, ◌^◌}
use Rattle.std.specs.List.{list_all}
use Rattle.std.proofs.lemmas.Bool.{and_parts}
use Rattle.std.proofs.lemmas.Bool.Decides.{nat_tests}
use Rattle.std.proofs.lemmas.List.{append-nil}
use Rattle.std.proofs.lemmas.List.Folds.{list_any-append}
use Rattle.route_types.specs.Sets.{fits_some}
use Rattle.route_types.specs.Community.{RectParts, fits}
use Rattle.route_types.specs.declared.community.Community.{Community}
use Rattle.community_sets.specs.Tests.{test_holds}
use Rattle.ios_tree.specs.declared.item.CommunityListEntry.{CommunityListEntry}
use Rattle.ios_tree.specs.declared.item.CommunityShape.{CommunityShape}
use Rattle.ios_tree.specs.declared.item.CommunityShape.TheVariants.{Standard, Expanded}
use Rattle.ios_meaning.specs.Lists.{single, test_of}
use Rattle.ios_meaning.specs.Drafts.{answers_alone}
use Rattle.ios_meaning.proofs.Members.{standard_alone}
use Rattle.ios_lower.specs.Deletions.{every, alone_in, alone, all_alone, AreTaken}
use Rattle.ios_lower.specs.DeletionSteps.{is_taken, TakesOne}

-- ---- an entry alone

or_false : (b : Bool) → (b || false) ≡ b
or_false true = refl
or_false false = refl

or_and : (b : Bool) → (b || false) ≡ ((b || false) && true)
or_and true = refl
or_and false = refl

every_fits : (c : Community) → c.0 < 2 ^ 32 → fits_some fits (every ∷ []) c ≡ true
every_fits c h = grind (arith, nat_tests)

single_fits : (d c : Community) → fits (single d) c ≡ (d.0 == c.0)
single_fits d c = grind arith

same_number : (a b : ℕ) → (a == b) ≡ true → a ≡ b
same_number a b h = grind arith

-- a: the first member is the community; b: the others are the first
members_by : (d c : Community) (ds : List Community) (a b : Bool) → (d.0 == c.0) ≡ a → list_all (λ m. m.0 == d.0) ds ≡ b
    → fits_some fits (elim b [ true ↦ single d ∷ [] | false ↦ [] ]) c ≡ (a && list_all (λ m. m.0 == c.0) ds)
members_by d c ds true true h k =
    or_false (fits (single d) c) ∙ single_fits d c ∙ h ∙ sym k ∙ ap (λ (n : ℕ). list_all (λ (m : Community). m.0 == n) ds) (same_number d.0 c.0 h)
members_by d c ds true false h k = sym k ∙ ap (λ (n : ℕ). list_all (λ (m : Community). m.0 == n) ds) (same_number d.0 c.0 h)
members_by d c ds false true h k = or_false (fits (single d) c) ∙ single_fits d c ∙ h
members_by d c ds false false h k = refl

alone_members : (cs : List Community) (c : Community) → c.0 < 2 ^ 32 → fits_some fits (alone_in cs) c ≡ list_all (λ m. m.0 == c.0) cs
alone_members [] c h = every_fits c h
alone_members (d ∷ ds) c h = members_by d c ds (d.0 == c.0) (list_all (λ m. m.0 == d.0) ds) refl refl

-- a community alone fits where the entry's test holds for it alone
alone_holds : (s : CommunityShape) (c : Community) → c.0 < 2 ^ 32 → fits_some fits (alone s) c ≡ test_holds (test_of false s) (c ∷ [])
alone_holds (Standard cs) c h = alone_members cs c h ∙ standard_alone cs c
alone_holds (Expanded r) c h = or_and (fits r c)

-- ---- one more entry

-- one answer or the other
abbrev either : Bool → Bool → Bool → Bool
either h p b = elim h [ true ↦ p | false ↦ b ]

-- r: removed before; k: kept before; h: the entry holds
keeps_by : (r k h b : Bool) → (r || (not (k || h) && b)) ≡ (r || (not k && either h false b))
keeps_by r true h b = refl
keeps_by r false true b = refl
keeps_by r false false b = refl

removes_by : (r k h b : Bool) → ((r || (h && not k)) || (not k && b)) ≡ (r || (not k && either h true b))
removes_by true k h b = refl
removes_by false true true b = refl
removes_by false true false b = refl
removes_by false false true b = refl
removes_by false false false b = refl

plain_by : (r h b : Bool) → ((r || h) || b) ≡ (r || either h true b)
plain_by true h b = refl
plain_by false true b = refl
plain_by false false b = refl

permits : (e : CommunityListEntry) (p h b : Bool) → e.permit ≡ p → either h p b ≡ either h e.permit b
permits e p h b k = ap (λ (t : Bool). either h t b) (sym k)

-- an entry that denies keeps what it holds for
pub takes_deny : (e : CommunityListEntry) (removed kept kept_after rects : List RectParts) → rects ≡ alone e.shape → e.permit ≡ false → kept_after ≡ kept ++ rects → TakesOne e removed kept removed kept_after
takes_deny e removed kept kept_after rects s p k =
    record {
      answers = λ c b.
          ap (λ (xs : List RectParts). fits_some fits removed c || (not (fits_some fits xs c) && b)) (k ∙ ap (λ (xs : List RectParts). kept ++ xs) s)
          ∙ ap (λ (t : Bool). fits_some fits removed c || (not t && b)) (list_any-append (λ r. fits r c) kept (alone e.shape))
          ∙ keeps_by (fits_some fits removed c) (fits_some fits kept c) (fits_some fits (alone e.shape) c) b
          ∙ ap (λ (t : Bool). fits_some fits removed c || (not (fits_some fits kept c) && t)) (permits e false (fits_some fits (alone e.shape) c) b p);
      plain = λ n q. absurd cc;
    }

-- where nothing is kept, an entry that permits takes away what it holds for
pub takes_plain : (e : CommunityListEntry) (removed kept removed_after rects : List RectParts) → rects ≡ alone e.shape → e.permit ≡ true → kept ≡ [] → removed_after ≡ removed ++ rects → TakesOne e removed kept removed_after kept
takes_plain e removed kept removed_after rects s p n k =
    let more : removed_after ≡ removed ++ alone e.shape = k ∙ ap (λ (xs : List RectParts). removed ++ xs) s in
    record {
      answers = λ c b.
          ap (λ (xs : List RectParts). fits_some fits xs c || (not (fits_some fits kept c) && b)) more
          ∙ ap (λ (xs : List RectParts). fits_some fits (removed ++ alone e.shape) c || (not (fits_some fits xs c) && b)) n
          ∙ ap (λ (t : Bool). t || b) (list_any-append (λ r. fits r c) removed (alone e.shape))
          ∙ plain_by (fits_some fits removed c) (fits_some fits (alone e.shape) c) b
          ∙ ap (λ (t : Bool). fits_some fits removed c || t) (permits e true (fits_some fits (alone e.shape) c) b p)
          ∙ ap (λ (xs : List RectParts). fits_some fits removed c || (not (fits_some fits xs c) && either (fits_some fits (alone e.shape) c) e.permit b)) (sym n);
      plain = λ m q. (more, n);
    }

-- else it takes away what isn't kept
pub takes_left : (e : CommunityListEntry) (removed kept removed_after rects : List RectParts) → rects ≡ alone e.shape → e.permit ≡ true → (kept ≡ [] → ⊥)
    → ((c : Community) → fits_some fits removed_after c ≡ (fits_some fits removed c || (fits_some fits rects c && not (fits_some fits kept c)))) → TakesOne e removed kept removed_after kept
takes_left e removed kept removed_after rects s p n h =
    record {
      answers = λ c b.
          ap (λ (t : Bool). t || (not (fits_some fits kept c) && b)) (h c ∙ ap (λ (xs : List RectParts). fits_some fits removed c || (fits_some fits xs c && not (fits_some fits kept c))) s)
          ∙ removes_by (fits_some fits removed c) (fits_some fits kept c) (fits_some fits (alone e.shape) c) b
          ∙ ap (λ (t : Bool). fits_some fits removed c || (not (fits_some fits kept c) && t)) (permits e true (fits_some fits (alone e.shape) c) b p);
      plain = λ m q. absurd (n m);
    }

-- ---- the entries of a list

-- what has been found, before the entries that are left
pub record Found (es rest : List CommunityListEntry) (removed kept : List RectParts) : Type 0 where
  pub answers : (c : Community) → c.0 < 2 ^ 32 → is_taken removed kept c (answers_alone rest c) ≡ answers_alone es c
  pub plain : list_all (λ e. e.permit) es ≡ true → (list_all (λ e. e.permit) rest ≡ true) × (kept ≡ []) × (removed ++ all_alone rest ≡ all_alone es)

pub found_none : (es : List CommunityListEntry) → Found es es [] []
found_none es = record { answers = λ c h. refl; plain = λ p. (p, refl, refl) }

pub found_more : (es rest : List CommunityListEntry) (e : CommunityListEntry) (removed kept removed_after kept_after : List RectParts) → Found es (e ∷ rest) removed kept → TakesOne e removed kept removed_after kept_after → Found es rest removed_after kept_after
found_more es rest e removed kept removed_after kept_after f t =
    record {
      answers = λ c h.
          t.answers c (answers_alone rest c)
          ∙ ap (λ (x : Bool). is_taken removed kept c (elim x [ true ↦ e.permit | false ↦ answers_alone rest c ])) (alone_holds e.shape c h)
          ∙ f.answers c h;
      plain = λ p.
          let before = f.plain p in
          let parts = and_parts e.permit (list_all (λ x. x.permit) rest) before.0 in
          let one = t.plain before.1 parts.0 in
          (parts.1, one.1, ap (λ (xs : List RectParts). xs ++ all_alone rest) one.0 ∙ append_assoc removed (alone e.shape) (all_alone rest) ∙ before.2);
    }

pub found_all : (es : List CommunityListEntry) (removed kept : List RectParts) → Found es [] removed kept → AreTaken es removed
found_all es removed kept f =
    record {
      fitted = λ c h. all_found (fits_some fits removed c) (fits_some fits kept c) ∙ f.answers c h;
      plain = λ p. sym (append-nil removed) ∙ (f.plain p).2;
    }
  where
    all_found : (r k : Bool) → r ≡ (r || (not k && false))
    all_found true k = refl
    all_found false true = refl
    all_found false false = refl
