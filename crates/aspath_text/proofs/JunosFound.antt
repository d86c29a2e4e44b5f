-- What is found in the text of a Junos pattern is spelled there.
use Rattle.std.proofs.Common.{◌≡◌, refl, sym, ap, subst, ◌∙◌, ℕ, ◌≤◌, Bool, true, false, List, [], ◌∷◌, ◌++◌, length, take, drop, append_assoc, Option, Some, None, arith, inl, inr, lit<}
use Rattle.std.specs.Prelude.{◌==◌, codes, bytes_eq, nat_le}
use Rattle.std.specs.List.{list_all, position_or_len}
use Rattle.std.proofs.lemmas.Bool.{eqb-true, leb-true, and_from}
use Rattle.std.proofs.lemmas.List.{take-append-drop, nil_from_length}
use Rattle.text_words.specs.Text.{is_blank}
use Rattle.route_types.specs.RouteText.{onto_word, Each}
use Rattle.route_types.specs.Words.{parts_at, number_in, IsNumber}
use Rattle.route_types.proofs.Numbers.{some_is, bind_found, number_in_found}
use Rattle.route_types.proofs.Spelled.{parts_at_found, ap2}
use Rattle.policy_text.specs.Phrases.{each, Each as Agree}
use Rattle.policy_text.proofs.Phrases.{when_found, each_found}
use Rattle.path_patterns.proofs.Lists.{same_bytes}
use Rattle.aspath_text.specs.IosGrammar.{joined_by}
use Rattle.path_patterns.specs.Items.{greatest}
use Rattle.aspath_text.specs.JunosGrammar.{AreBlanks, SpellsRange, SpellsMember, SpellsCount, SpellsItem, AreSpaced, SpellsItems}
use Rattle.aspath_text.specs.JunosRead.{ends_in, range_in, behind_blanks, member_in, members_of, count_of, upper_in, bounds_in, braced_in, count_in, plain_in, group_in, item_in, parts_items, in_group, starts_blank, items_of, items_in, is_sign}
use Rattle.path_patterns.specs.declared.items.NumberRange.{NumberRange}
use Rattle.path_patterns.specs.declared.items.TokenItem.{TokenItem}
use Rattle.aspath_text.specs.declared.junos_words.Count.{Count}
use Rattle.aspath_text.proofs.JunosCut.{texts_step, blanks_step, items_behind, items_step, blank_is, behind_blank, one_blank}

-- ---- ranges and members

ends_found : (o : Option (List ℕ × List ℕ)) (word : List ℕ) (r : NumberRange) → parts_at 45 word ≡ o → ends_in o word ≡ Some r → SpellsRange word r
ends_found None word r parts e =
    let n = bind_found (number_in greatest word) _ r e in
    subst (λ (q : NumberRange). SpellsRange word q) (some_is _ r n.2) (inr (inl (number_in_found greatest word n.0 (lit< tt) n.1, refl)))
ends_found (Some p) word r parts e =
    let least = bind_found (number_in greatest p.0) _ r e in
    let most = bind_found (number_in greatest p.1) _ r least.2 in
    let k = when_found (nat_le least.0 most.0) (record { least = least.0; most = most.0 }) r most.2 in
    let l = number_in_found greatest p.0 least.0 (lit< tt) least.1 in
    let m = number_in_found greatest p.1 most.0 (lit< tt) most.1 in
    subst (λ (q : NumberRange). SpellsRange word q) k.1
    (inr (inr (parts_at_found 45 word p parts ∙ ap2 (λ (x y : List ℕ). x ++ (45 ∷ y)) l.spelled m.spelled, leb-true least.0 most.0 k.0, m.within)))

dot_found : (t : Bool) (word : List ℕ) (r : NumberRange) → bytes_eq word (codes ".") ≡ t → (elim t [ true ↦ Some (record { least = 0; most = greatest }) | false ↦ ends_in (parts_at 45 word) word ]) ≡ Some r → SpellsRange word r
dot_found true word r t e = subst (λ (q : NumberRange). SpellsRange word q) (some_is _ r e) (inl (same_bytes word (codes ".") t, refl, refl))
dot_found false word r t e = ends_found (parts_at 45 word) word r refl e

pub range_found : (word : List ℕ) (r : NumberRange) → range_in word ≡ Some r → SpellsRange word r
unfolding range_in
range_found word r e = dot_found (bytes_eq word (codes ".")) word r refl e

-- the blanks in front of a text
record HasBlanks (text behind : List ℕ) : Type 0 where
  before : List ℕ
  is : text ≡ before ++ behind
  blanks : AreBlanks before

has_test : (t : Bool) (c : ℕ) (cs behind : List ℕ) → is_blank c ≡ t → HasBlanks cs behind → HasBlanks (c ∷ cs) (blanks_step t c cs behind)
has_test true c cs behind t h = record { before = c ∷ h.before; is = ap (λ (x : List ℕ). c ∷ x) h.is; blanks = and_from (is_blank c) (list_all is_blank h.before) t h.blanks }
has_test false c cs behind t h = record { before = []; is = refl; blanks = refl }

has_blanks : (text : List ℕ) → HasBlanks text (behind_blanks text)
unfolding behind_blanks
has_blanks [] = record { before = []; is = refl; blanks = refl }
has_blanks (c ∷ cs) = has_test (is_blank c) c cs (behind_blanks cs) refl (has_blanks cs)

before_found : (t : Bool) (place : ℕ) (text behind : List ℕ) (r : NumberRange) → list_all is_blank (drop place behind) ≡ t → HasBlanks text behind → (elim t [ true ↦ range_in (take place behind) | false ↦ None ]) ≡ Some r → SpellsMember text r
before_found true place text behind r t h e = record {
  before = h.before;
  word = take place behind;
  behind = drop place behind;
  spelled = h.is ∙ ap (λ (x : List ℕ). h.before ++ x) (sym (take-append-drop place behind));
  range = range_found (take place behind) r e;
  blanks_before = h.blanks;
  blanks_behind = t;
}
before_found false place text behind r t h e = absurd cc

pub member_found : (text : List ℕ) (r : NumberRange) → member_in text ≡ Some r → SpellsMember text r
unfolding member_in
member_found text r e =
    let behind = behind_blanks text in
    let place = position_or_len is_blank behind in
    before_found (list_all is_blank (drop place behind)) place text behind r refl (has_blanks text) e

-- ---- counts

-- the count is spelled
abbrev pub IsCount : List ℕ → Count → Type 0
IsCount text k = SpellsCount text k.least k.most

question_found : (t : Bool) (c : ℕ) (k : Count) → (c == 63) ≡ t → (elim t [ true ↦ Some (count_of 0 (Some 1)) | false ↦ None ]) ≡ Some k → IsCount (c ∷ []) k
question_found true c k t e = subst (IsCount (c ∷ [])) (some_is _ k e) (inr (inl (ap (λ (x : ℕ). x ∷ []) (eqb-true c 63 t), refl, refl)))
question_found false c k t e = absurd cc

plus_found : (t : Bool) (c : ℕ) (k : Count) → (c == 43) ≡ t → (elim t [ true ↦ Some (count_of 1 None) | false ↦ elim (c == 63) [ true ↦ Some (count_of 0 (Some 1)) | false ↦ None ] ]) ≡ Some k → IsCount (c ∷ []) k
plus_found true c k t e = subst (IsCount (c ∷ [])) (some_is _ k e) (inr (inl (ap (λ (x : ℕ). x ∷ []) (eqb-true c 43 t), refl)))
plus_found false c k t e = question_found (c == 63) c k refl e

star_found : (t : Bool) (c : ℕ) (k : Count) → (c == 42) ≡ t → (elim t [ true ↦ Some (count_of 0 None) | false ↦ elim (c == 43) [ true ↦ Some (count_of 1 None) | false ↦ elim (c == 63) [ true ↦ Some (count_of 0 (Some 1)) | false ↦ None ] ] ]) ≡ Some k → IsCount (c ∷ []) k
star_found true c k t e = subst (IsCount (c ∷ [])) (some_is _ k e) (inl (ap (λ (x : ℕ). x ∷ []) (eqb-true c 42 t), refl))
star_found false c k t e = plus_found (c == 43) c k refl e

-- bounds in braces
abbrev in_braces : List ℕ → List ℕ
in_braces text = 123 ∷ (text ++ (125 ∷ []))

upper_found : (least : ℕ) (front behind : List ℕ) (k : Count) → IsNumber 255 front least → upper_in least behind ≡ Some k → IsCount (in_braces (front ++ (44 ∷ behind))) k
upper_found least front [] k l e =
    subst (IsCount (in_braces (front ++ (44 ∷ [])))) (some_is _ k e)
    (inr (inr (ap (λ (x : List ℕ). 123 ∷ x) (append_assoc front (44 ∷ []) (125 ∷ []) ∙ ap (λ (x : List ℕ). x ++ (44 ∷ 125 ∷ [])) l.spelled), l.within)))
upper_found least front (c ∷ cs) k l e =
    let most = bind_found (number_in 255 (c ∷ cs)) _ k e in
    let w = when_found (nat_le least most.0) (count_of least (Some most.0)) k most.2 in
    let m = number_in_found 255 (c ∷ cs) most.0 (lit< tt) most.1 in
    subst (IsCount (in_braces (front ++ (44 ∷ (c ∷ cs))))) w.1
    (inr (inr (inr (ap (λ (x : List ℕ). 123 ∷ x) (append_assoc front (44 ∷ (c ∷ cs)) (125 ∷ []) ∙ ap2 (λ (x y : List ℕ). x ++ (44 ∷ (y ++ (125 ∷ [])))) l.spelled m.spelled), leb-true least most.0 w.0, m.within))))

bounds_found : (o : Option (List ℕ × List ℕ)) (text : List ℕ) (k : Count) → parts_at 44 text ≡ o → bounds_in o text ≡ Some k → IsCount (in_braces text) k
bounds_found None text k parts e =
    let n = bind_found (number_in 255 text) _ k e in
    let m = number_in_found 255 text n.0 (lit< tt) n.1 in
    subst (IsCount (in_braces text)) (some_is _ k n.2)
    (inr (inr (inl (ap (λ (x : List ℕ). 123 ∷ (x ++ (125 ∷ []))) m.spelled, m.within, refl))))
bounds_found (Some p) text k parts e =
    let least = bind_found (number_in 255 p.0) _ k e in
    subst (λ (x : List ℕ). IsCount (in_braces x) k) (sym (parts_at_found 44 text p parts))
    (upper_found least.0 p.0 p.1 k (number_in_found 255 p.0 least.0 (lit< tt) least.1) least.2)

closed_found : (t : Bool) (p : List ℕ × List ℕ) (text : List ℕ) (k : Count) → (length p.1 == 0) ≡ t → text ≡ p.0 ++ (125 ∷ p.1) → (elim t [ true ↦ bounds_in (parts_at 44 p.0) p.0 | false ↦ None ]) ≡ Some k → IsCount (123 ∷ text) k
closed_found true p text k t is e =
    let none : p.1 ≡ [] = nil_from_length p.1 (eqb-true (length p.1) 0 t) in
    subst (λ (x : List ℕ). IsCount (123 ∷ x) k) (sym (is ∙ ap (λ (x : List ℕ). p.0 ++ (125 ∷ x)) none))
    (bounds_found (parts_at 44 p.0) p.0 k refl e)
closed_found false p text k t is e = absurd cc

brace_found : (t : Bool) (c : ℕ) (text : List ℕ) (k : Count) → (c == 123) ≡ t → (elim t [ true ↦ braced_in text | false ↦ None ]) ≡ Some k → IsCount (c ∷ text) k
brace_found true c text k t e =
    let p = bind_found (parts_at 125 text) _ k e in
    subst (λ (x : ℕ). IsCount (x ∷ text) k) (sym (eqb-true c 123 t))
    (closed_found (length p.0.1 == 0) p.0 text k refl (parts_at_found 125 text p.0 p.1) p.2)
brace_found false c text k t e = absurd cc

pub count_found : (text : List ℕ) (k : Count) → count_in text ≡ Some k → IsCount text k
unfolding count_in
count_found [] k e = subst (IsCount []) (some_is _ k e) (inl (refl, refl, refl))
count_found (c ∷ []) k e = star_found (c == 42) c k refl e
count_found (c ∷ d ∷ cs) k e = brace_found (c == 123) c (d ∷ cs) k refl e

-- ---- items

-- the two ways to say that texts and values agree one by one
pub each_one : {A : Type 0} (P : List ℕ → A → Type 0) (ws : List (List ℕ)) (xs : List A) → Agree P ws xs → Each P ws xs
each_one P [] [] h = tt
each_one P [] (x ∷ xs) h = h
each_one P (w ∷ ws) [] h = h
each_one P (w ∷ ws) (x ∷ xs) h = (h.0, each_one P ws xs h.1)

-- where there is a text there is a value
each_some : {A : Type 0} (P : List ℕ → A → Type 0) (ws : List (List ℕ)) (xs : List A) → Each P ws xs → 1 ≤ length ws → 1 ≤ length xs
each_some P [] xs h some = absurd (omega (arith, some))
each_some P (w ∷ ws) [] h some = absurd h
each_some P (w ∷ ws) (x ∷ xs) h some = omega arith

onto_some : (c : ℕ) (ws : List (List ℕ)) → 1 ≤ length (onto_word c ws)
onto_some c [] = omega arith
onto_some c (w ∷ ws) = omega arith

texts_some : (t : Bool) (c : ℕ) (ws : List (List ℕ)) → 1 ≤ length (texts_step t c ws)
texts_some true c ws = omega arith
texts_some false c ws = onto_some c ws

pub members_some : (text : List ℕ) → 1 ≤ length (members_of text)
unfolding members_of
members_some [] = omega arith
members_some (c ∷ cs) = texts_some (c == 124) c (members_of cs)

joined_test : (t : Bool) (c : ℕ) (cs : List ℕ) (ws : List (List ℕ)) → (t ≡ true → c ≡ 124) → 1 ≤ length ws → joined_by 124 ws ≡ cs → joined_by 124 (texts_step t c ws) ≡ c ∷ cs
unfolding joined_by
joined_test t c cs [] is some e = absurd (omega (arith, some))
joined_test true c cs (w ∷ ws) is some e = ap2 (λ (x : ℕ) (y : List ℕ). x ∷ y) (sym (is refl)) e
joined_test false c cs (w ∷ []) is some e = ap (λ (x : List ℕ). c ∷ x) e
joined_test false c cs (w ∷ v ∷ ws) is some e = ap (λ (x : List ℕ). c ∷ x) e

-- the members make up the text
joined_members : (text : List ℕ) → joined_by 124 (members_of text) ≡ text
unfolding members_of joined_by
joined_members [] = refl
joined_members (c ∷ cs) = joined_test (c == 124) c cs (members_of cs) (eqb-true c 124) (members_some cs) (joined_members cs)

group_found : (text : List ℕ) (i : TokenItem) → group_in text ≡ Some i → SpellsItem (40 ∷ text) i
group_found text i e =
    let p = bind_found (parts_at 41 text) _ i e in
    let ranges = bind_found (each member_in (members_of p.0.0)) _ i p.2 in
    let count = bind_found (count_in p.0.1) _ i ranges.2 in
    let members = each_one SpellsMember (members_of p.0.0) ranges.0 (each_found member_in SpellsMember member_found (members_of p.0.0) ranges.0 ranges.1) in
    subst (SpellsItem (40 ∷ text)) (some_is _ i count.2) (record {
      set = 40 ∷ (p.0.0 ++ (41 ∷ []));
      count = p.0.1;
      spelled = ap (λ (x : List ℕ). 40 ∷ x) (parts_at_found 41 text p.0 p.1 ∙ sym (append_assoc p.0.0 (41 ∷ []) p.0.1));
      numbers = inr (members_of p.0.0, ap (λ (x : List ℕ). 40 ∷ (x ++ (41 ∷ []))) (sym (joined_members p.0.0)), members, each_some SpellsMember (members_of p.0.0) ranges.0 members (members_some p.0.0));
      counted = count_found p.0.1 count.0 count.1;
    })

plain_found : (place : ℕ) (text : List ℕ) (i : TokenItem) → plain_in place text ≡ Some i → SpellsItem text i
plain_found place text i e =
    let range = bind_found (range_in (take place text)) _ i e in
    let count = bind_found (count_in (drop place text)) _ i range.2 in
    subst (SpellsItem text) (some_is _ i count.2) (record {
      set = take place text;
      count = drop place text;
      spelled = sym (take-append-drop place text);
      numbers = inl (range.0, refl, range_found (take place text) range.0 range.1);
      counted = count_found (drop place text) count.0 count.1;
    })

paren_found : (t : Bool) (place c : ℕ) (cs : List ℕ) (i : TokenItem) → (c == 40) ≡ t → (elim t [ true ↦ group_in cs | false ↦ plain_in place (c ∷ cs) ]) ≡ Some i → SpellsItem (c ∷ cs) i
paren_found true place c cs i t e = subst (λ (x : ℕ). SpellsItem (x ∷ cs) i) (sym (eqb-true c 40 t)) (group_found cs i e)
paren_found false place c cs i t e = plain_found place (c ∷ cs) i e

pub item_found : (text : List ℕ) (i : TokenItem) → item_in text ≡ Some i → SpellsItem text i
unfolding item_in
item_found [] i e = absurd cc
item_found (c ∷ cs) i e = paren_found (c == 40) (position_or_len is_sign (c ∷ cs)) c cs i refl e

-- ---- the text

behind_some : (t : Bool) (ws : List (List ℕ)) → 1 ≤ length ws → 1 ≤ length (items_behind t ws)
behind_some true ws h = h
behind_some false ws h = omega arith

step_some : (t : Bool) (c : ℕ) (cs : List ℕ) (ws : List (List ℕ)) → 1 ≤ length (items_of false cs) → 1 ≤ length (items_step t c cs ws)
step_some true c cs ws h = behind_some (starts_blank cs) (items_of false cs) h
step_some false c cs ws h = onto_some c ws

pub items_some : (inside : Bool) (text : List ℕ) → 1 ≤ length (items_of inside text)
unfolding items_of
items_some inside [] = omega arith
items_some inside (c ∷ cs) = step_some (parts_items inside c) c cs (items_of (in_group inside c) cs) (items_some false cs)

first_test : (t : Bool) (c : ℕ) (cs : List ℕ) (ws : List (List ℕ)) → t ≡ true → is_blank c ≡ true → items_step t c cs ws ≡ [] ∷ items_of false (behind_blanks (c ∷ cs))
first_test true c cs ws t blank = behind_blank cs ∙ ap (λ (x : List ℕ). [] ∷ items_of false x) (sym (one_blank c cs blank))
first_test false c cs ws t blank = absurd cc

-- in front of blanks there is an empty text
pub starts_empty : (text : List ℕ) → starts_blank text ≡ true → items_of false text ≡ [] ∷ items_of false (behind_blanks text)
unfolding items_of
starts_empty [] h = absurd cc
starts_empty (c ∷ cs) h = first_test (is_blank c) c cs (items_of (in_group false c) cs) h h

more_blanks : (c : ℕ) (cs : List ℕ) (ws : List (List ℕ)) → is_blank c ≡ true → 1 ≤ length ws → AreSpaced cs ([] ∷ ws) → AreSpaced (c ∷ cs) ([] ∷ ws)
unfolding AreSpaced
more_blanks c cs [] blank some h = absurd (omega (arith, some))
more_blanks c cs (w ∷ ws) blank some h =
    (c ∷ h.0, h.1, ap (λ (x : List ℕ). c ∷ x) h.2, omega arith, and_from (is_blank c) (list_all is_blank h.0) blank h.4, h.5)

first_blank : (c : ℕ) (cs : List ℕ) (ws : List (List ℕ)) → is_blank c ≡ true → 1 ≤ length ws → AreSpaced cs ws → AreSpaced (c ∷ cs) ([] ∷ ws)
unfolding AreSpaced
first_blank c cs [] blank some h = absurd (omega (arith, some))
first_blank c cs (w ∷ ws) blank some h = (c ∷ [], cs, refl, omega arith, and_from (is_blank c) true blank refl, h)

one_byte : (c : ℕ) (cs : List ℕ) (ws : List (List ℕ)) → AreSpaced cs ws → AreSpaced (c ∷ cs) (onto_word c ws)
unfolding AreSpaced
one_byte c cs [] h = absurd h
one_byte c cs (w ∷ []) h = ap (λ (x : List ℕ). c ∷ x) h
one_byte c cs (w ∷ v ∷ ws) h = (h.0, h.1, ap (λ (x : List ℕ). c ∷ x) h.2, h.3, h.4, h.5)

blank_spaced : (t : Bool) (c : ℕ) (cs : List ℕ) → starts_blank cs ≡ t → is_blank c ≡ true → AreSpaced cs (items_of false cs) → AreSpaced (c ∷ cs) (items_behind t (items_of false cs))
blank_spaced true c cs t blank h =
    let e = starts_empty cs t in
    subst (AreSpaced (c ∷ cs)) (sym e) (more_blanks c cs (items_of false (behind_blanks cs)) blank (items_some false (behind_blanks cs)) (subst (AreSpaced cs) e h))
blank_spaced false c cs t blank h = first_blank c cs (items_of false cs) blank (items_some false cs) h

step_spaced : (t : Bool) (c : ℕ) (cs : List ℕ) (ws : List (List ℕ)) → (t ≡ true → is_blank c ≡ true) → AreSpaced cs (items_of false cs) → AreSpaced cs ws → AreSpaced (c ∷ cs) (items_step t c cs ws)
step_spaced true c cs ws blank h more = blank_spaced (starts_blank cs) c cs refl (blank refl) h
step_spaced false c cs ws blank h more = one_byte c cs ws more

-- blanks stand between the items
pub items_spaced : (inside : Bool) (text : List ℕ) → AreSpaced text (items_of inside text)
unfolding items_of AreSpaced
items_spaced inside [] = refl
items_spaced inside (c ∷ cs) = step_spaced (parts_items inside c) c cs (items_of (in_group inside c) cs) (blank_is inside c) (items_spaced false cs) (items_spaced (in_group inside c) cs)

empty_found : (t : Bool) (text : List ℕ) (items : List TokenItem) → bytes_eq text (codes "()") ≡ t → (elim t [ true ↦ Some [] | false ↦ each item_in (items_of false text) ]) ≡ Some items → SpellsItems text items
empty_found true text items t e = inl (same_bytes text (codes "()") t, sym (some_is _ items e))
empty_found false text items t e =
    inr (items_of false text, items_spaced false text, each_one SpellsItem (items_of false text) items (each_found item_in SpellsItem item_found (items_of false text) items e))

pub items_found : (text : List ℕ) (items : List TokenItem) → items_in text ≡ Some items → SpellsItems text items
unfolding items_in
items_found text items e = empty_found (bytes_eq text (codes "()")) text items refl e
