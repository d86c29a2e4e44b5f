-- Blocks under their names, and community sets that have an element that isn't a single community.
use Rattle.std.proofs.Common.{◌≡◌, refl, sym, ap, ◌∙◌, subst, ℕ, ◌-◌, ◌<◌, ◌≤◌, Bool, true, false, ◌&&◌, ◌||◌, ◌==◌, List, [], ◌∷◌, length, get_or, take, drop, Option, Some, None, arith}
use Rattle.std.specs.Prelude.{bytes_eq}
use Rattle.std.specs.List.{list_any}
use Rattle.std.proofs.lemmas.List.{take_all}
use denote.Ref.{Bor}
use Rattle.policy_text.specs.Names.{is_named}
use Rattle.policy_text.specs.NameSets.{has_name, is_key}
use Rattle.text_words.specs.declared.rpl_blocks.BlockKind.{BlockKind}
use Rattle.text_words.specs.declared.rpl_blocks.BlockKind.TheVariants.{PrefixSet, CommunitySet, PathSet, Policy}
use Rattle.rpl_forms.specs.declared.item.RplItem.{RplItem}
use Rattle.rpl_calls.specs.Policies.{opens}
use Rattle.rpl_facts.specs.Blocks.{is_kind, name_opened, heads, is_there, is_wide, has_wide}
use Rattle.rpl_facts.specs.Told.{Names, kind_code, is_block, gives_block, lent, IsWidening, TellsWide}

pub kinds : (a b : BlockKind) → (kind_code a == kind_code b) ≡ is_kind a b
kinds PrefixSet PrefixSet = refl
kinds PrefixSet CommunitySet = refl
kinds PrefixSet PathSet = refl
kinds PrefixSet Policy = refl
kinds CommunitySet PrefixSet = refl
kinds CommunitySet CommunitySet = refl
kinds CommunitySet PathSet = refl
kinds CommunitySet Policy = refl
kinds PathSet PrefixSet = refl
kinds PathSet CommunitySet = refl
kinds PathSet PathSet = refl
kinds PathSet Policy = refl
kinds Policy PrefixSet = refl
kinds Policy CommunitySet = refl
kinds Policy PathSet = refl
kinds Policy Policy = refl

pub one_block : (kind : BlockKind) (q : List ℕ) (o : Option BlockKind) (name : Option (List ℕ)) → is_block q (kind_code kind) 0 o name ≡ elim o [ None ↦ false | Some k ↦ is_kind kind k && is_named q name ]
one_block kind q None name = refl
one_block kind q (Some k) name = ap (λ (b : Bool). b && is_named q name) (kinds kind k)

-- what the numbers of kinds tell is what the kinds do
pub blocks_tell : (items : List RplItem) (kind : BlockKind) (q : List ℕ) → list_any (gives_block q (kind_code kind) 0) items ≡ is_there kind q items
blocks_tell [] kind q = refl
blocks_tell (i ∷ is) kind q = λ j. one_block kind q (opens i.form) (name_opened i.form) j || blocks_tell is kind q j

-- ---- elements that aren't single communities

module _ (i : RplItem) (rest all : List RplItem) (old new : Names) (name behind : Option (Bor (List ℕ))) where
  -- whether a set has such an element from the item on, by the block that it opens and what it is
  abbrev from_item : List ℕ → Option BlockKind → Bool → Bool
  from_item q o wide = elim o [
    | Some kind ↦ has_wide q (is_kind CommunitySet kind && is_named q (name_opened i.form)) rest
    | None ↦ (is_named q (lent name) && wide) || has_wide q (is_named q (lent name)) rest
  ]

  heads_is : (q : List ℕ) (o : Option BlockKind) → opens i.form ≡ o → has_wide q (is_named q (lent name)) (i ∷ rest) ≡ from_item q o (is_wide i.form)
  unfolding has_wide
  heads_is q None e = ap (λ (o : Option BlockKind). elim o [ Some kind ↦ has_wide q (heads CommunitySet q i.form) rest | None ↦ (is_named q (lent name) && is_wide i.form) || has_wide q (is_named q (lent name)) rest ]) e
  heads_is q (Some kind) e =
      ap (λ (o : Option BlockKind). elim o [ Some k ↦ has_wide q (heads CommunitySet q i.form) rest | None ↦ (is_named q (lent name) && is_wide i.form) || has_wide q (is_named q (lent name)) rest ]) e
      ∙ ap (λ (o : Option BlockKind). has_wide q (elim o [ None ↦ false | Some k ↦ is_kind CommunitySet k && is_named q (name_opened i.form) ]) rest) e

  pub opened : (kind : BlockKind) → opens i.form ≡ Some kind → ((q : List ℕ) → is_named q (lent behind) ≡ (is_kind CommunitySet kind && is_named q (name_opened i.form)))
      → IsWidening old name (i ∷ rest) all → IsWidening old behind rest all
  opened kind e is widening q =
      ap (λ (b : Bool). has_name old q 0 0 || has_wide q b rest) (is q) ∙ ap (λ (b : Bool). has_name old q 0 0 || b) (sym (heads_is q (Some kind) e)) ∙ widening q

  or_none : (a b w : Bool) → b ≡ false → (a || w) ≡ (a || ((b) || w))
  or_none a b w e = ap (λ (x : Bool). a || (x || w)) (sym e)

  and_false : (a : Bool) → (a && false) ≡ false
  and_false true = refl
  and_false false = refl

  pub passed : opens i.form ≡ None → is_wide i.form ≡ false → IsWidening old name (i ∷ rest) all → IsWidening old name rest all
  passed e single widening q =
      or_none (has_name old q 0 0) (is_named q (lent name) && is_wide i.form) (has_wide q (is_named q (lent name)) rest) (ap (λ (b : Bool). is_named q (lent name) && b) single ∙ and_false (is_named q (lent name)))
      ∙ ap (λ (b : Bool). has_name old q 0 0 || b) (sym (heads_is q None e)) ∙ widening q

  pub unnamed : opens i.form ≡ None → name ≡ None → IsWidening old name (i ∷ rest) all → IsWidening old None rest all
  unnamed e none widening q =
      ap (λ (n : Option (Bor (List ℕ))). has_name old q 0 0 || has_wide q (is_named q (lent n)) rest) (sym none)
      ∙ or_none (has_name old q 0 0) (is_named q (lent name) && is_wide i.form) (has_wide q (is_named q (lent name)) rest) (ap (λ (n : Option (Bor (List ℕ))). is_named q (lent n) && is_wide i.form) none)
      ∙ ap (λ (b : Bool). has_name old q 0 0 || b) (sym (heads_is q None e)) ∙ widening q

  turned : (a b w : Bool) → ((b || a) || w) ≡ (a || ((b && true) || w))
  turned true true w = refl
  turned true false w = refl
  turned false true w = refl
  turned false false w = refl

  pub noted : (set : Bor (List ℕ)) → opens i.form ≡ None → is_wide i.form ≡ true → name ≡ Some set → ((q : List ℕ) (s n : ℕ) → has_name new q s n ≡ (is_key q s n set.now 0 0 || has_name old q s n))
      → IsWidening old name (i ∷ rest) all → IsWidening new (Some set) rest all
  noted set e wide some put widening q =
      ap (λ (b : Bool). b || has_wide q (bytes_eq q set.now) rest) (put q 0 0)
      ∙ turned (has_name old q 0 0) (bytes_eq q set.now) (has_wide q (bytes_eq q set.now) rest)
      ∙ ap (λ (b : Bool). has_name old q 0 0 || ((bytes_eq q set.now && b) || has_wide q (bytes_eq q set.now) rest)) (sym wide)
      ∙ ap (λ (n : Option (Bor (List ℕ))). has_name old q 0 0 || ((is_named q (lent n) && is_wide i.form) || has_wide q (is_named q (lent n)) rest)) (sym some)
      ∙ ap (λ (b : Bool). has_name old q 0 0 || b) (sym (heads_is q None e)) ∙ widening q

-- ---- the loop

pub goes : (all rest : List RplItem) (first : RplItem) (m : ℕ) (old new : Names) (name behind : Option (Bor (List ℕ))) → 1 ≤ length rest → first ≡ get_or rest 0 first → m ≡ length rest - 1
    → ((rest all : List RplItem) → IsWidening old name (first ∷ rest) all → IsWidening new behind rest all) → IsWidening old name rest all → IsWidening new behind (take m (drop 1 rest)) all
goes all [] first m old new name behind long is len step widening = absurd (omega arith)
goes all (i ∷ rest) first m old new name behind long is len step widening =
    subst (λ (xs : List RplItem). IsWidening new behind xs all) (sym (take_all m rest (omega (arith, len))))
    (step rest all (subst (λ (j : RplItem). IsWidening old name (j ∷ rest) all) (sym is) widening))

or_false : (a : Bool) → (a || false) ≡ a
or_false true = refl
or_false false = refl

pub ends : (all rest : List RplItem) (names : Names) (name : Option (Bor (List ℕ))) → length rest < 1 → IsWidening names name rest all → TellsWide names all
unfolding has_wide
ends all [] names name short widening q = sym (or_false (has_name names q 0 0)) ∙ widening q
ends all (i ∷ rest) names name short widening q = absurd (omega arith)

pub begins : (all : List RplItem) (names : Names) → ((q : List ℕ) → has_name names q 0 0 ≡ false) → IsWidening names None all all
begins all names none q = ap (λ (b : Bool). b || has_wide q false all) (none q)
