-- The cut of a Junos pattern, step by step: the first member and the members behind the bar, the first item
-- and the items behind the blanks.
use Rattle.std.proofs.Common.{◌≡◌, refl, sym, ap, subst, ◌∙◌, ℕ, suc, ◌+◌, ◌<◌, ◌≤◌, Bool, true, false, not, List, [], ◌∷◌, ◌++◌, length, take, drop, Option, Some, None, arith}
use Rattle.std.specs.Prelude.{◌==◌, Result, Ok, Err, IsErr, IsErrAnd}
use Rattle.std.specs.List.{position_or_len}
use Rattle.std.proofs.lemmas.Bool.{and_parts, false≢true}
use Rattle.std.proofs.lemmas.List.{length-append}
use Rattle.std.proofs.lemmas.List.Sums.{prefix_len-le-length}
use Rattle.text_words.specs.Text.{is_blank}
use Rattle.route_types.specs.RouteText.{onto_word}
use Rattle.route_types.specs.Words.{parts_at, ◌>>=◌}
use Rattle.route_types.proofs.Numbers.{some_is, bind_found}
use Rattle.route_types.proofs.Spelled.{parts_at_found}
use Rattle.policy_text.specs.Phrases.{each_onto}
use Rattle.aspath_text.specs.Printing.{Reads}
use Rattle.aspath_text.specs.declared.fault.PatternFault.{PatternFault}
use Rattle.aspath_text.specs.declared.fault.PatternFault.TheVariants.{NotShaped, Memory}
use Rattle.aspath_text.specs.JunosRead.{members_of, behind_blanks, parts_items, in_group, starts_blank, items_of}
use Rattle.aspath_text.specs.JunosWalk.{item_end}

-- the first place at which a test passes is not past the end
pub place_within : (t : ℕ → Bool) (text : List ℕ) → position_or_len t text ≤ length text
place_within t text = prefix_len-le-length (λ c. not (t c)) text

-- ---- members

-- the parts at a byte, by a test of the first one
abbrev pub parts_step : Bool → ℕ → List ℕ → Option (List ℕ × List ℕ) → Option (List ℕ × List ℕ)
parts_step t c cs o = elim t [ true ↦ Some ([], cs) | false ↦ o >>= λ q. Some (c ∷ q.0, q.1) ]

-- the texts with one byte more in front, by a test of it
abbrev pub texts_step : Bool → ℕ → List (List ℕ) → List (List ℕ)
texts_step t c ws = elim t [ true ↦ [] ∷ ws | false ↦ onto_word c ws ]

member_test : (t : Bool) (c : ℕ) (cs : List ℕ) (o : Option (List ℕ × List ℕ)) (p : List ℕ × List ℕ) → ((q : List ℕ × List ℕ) → o ≡ Some q → members_of cs ≡ q.0 ∷ members_of q.1) → parts_step t c cs o ≡ Some p → texts_step t c (members_of cs) ≡ p.0 ∷ members_of p.1
member_test true c cs o p more e = subst (λ (q : List ℕ × List ℕ). [] ∷ members_of cs ≡ q.0 ∷ members_of q.1) (some_is ([], cs) p e) refl
member_test false c cs o p more e =
    let f = bind_found o (λ q. Some (c ∷ q.0, q.1)) p e in
    subst (λ (q : List ℕ × List ℕ). onto_word c (members_of cs) ≡ q.0 ∷ members_of q.1) (some_is (c ∷ f.0.0, f.0.1) p f.2) (ap (λ (ws : List (List ℕ)). onto_word c ws) (more f.0 f.1))

-- a bar parts the first member from the others
pub members_parted : (text : List ℕ) (p : List ℕ × List ℕ) → parts_at 124 text ≡ Some p → members_of text ≡ p.0 ∷ members_of p.1
unfolding parts_at members_of
members_parted [] p e = absurd cc
members_parted (c ∷ cs) p e = member_test (c == 124) c cs (parts_at 124 cs) p (members_parted cs) e

alone_test : (t : Bool) (c : ℕ) (cs : List ℕ) (o : Option (List ℕ × List ℕ)) → (o ≡ None → members_of cs ≡ cs ∷ []) → parts_step t c cs o ≡ None → texts_step t c (members_of cs) ≡ (c ∷ cs) ∷ []
alone_test true c cs o more e = absurd cc
alone_test false c cs None more e = ap (λ (ws : List (List ℕ)). onto_word c ws) (more refl)
alone_test false c cs (Some q) more e = absurd cc

-- a text without a bar is one member
pub members_alone : (text : List ℕ) → parts_at 124 text ≡ None → members_of text ≡ text ∷ []
unfolding parts_at members_of
members_alone [] e = refl
members_alone (c ∷ cs) e = alone_test (c == 124) c cs (parts_at 124 cs) (members_alone cs) e

-- what stands behind the byte is shorter
pub parts_shorter : (b : ℕ) (text : List ℕ) (p : List ℕ × List ℕ) → parts_at b text ≡ Some p → length p.1 < length text
parts_shorter b text p e = omega (arith, ap (λ (t : List ℕ). length t) (parts_at_found b text p e), length-append p.0 (b ∷ p.1))

-- ---- items

-- the text behind the blanks, by a test of the first byte
abbrev pub blanks_step : Bool → ℕ → List ℕ → List ℕ → List ℕ
blanks_step t c cs behind = elim t [ true ↦ behind | false ↦ c ∷ cs ]

behind_test : (t : Bool) (c : ℕ) (cs : List ℕ) → length (behind_blanks cs) ≤ length cs → length (blanks_step t c cs (behind_blanks cs)) ≤ length (c ∷ cs)
behind_test true c cs h = omega arith
behind_test false c cs h = omega arith

-- what stands behind blanks is no longer than the text
pub behind_length : (text : List ℕ) → length (behind_blanks text) ≤ length text
unfolding behind_blanks
behind_length [] = omega arith
behind_length (c ∷ cs) = behind_test (is_blank c) c cs (behind_length cs)

-- the items behind a blank, by a test of the byte behind it
abbrev pub items_behind : Bool → List (List ℕ) → List (List ℕ)
items_behind t ws = elim t [ true ↦ ws | false ↦ [] ∷ ws ]

-- the items of a text, by a test of its first byte
abbrev pub items_step : Bool → ℕ → List ℕ → List (List ℕ) → List (List ℕ)
items_step t c cs ws = elim t [ true ↦ items_behind (starts_blank cs) (items_of false cs) | false ↦ onto_word c ws ]

behind_blank_test : (t : Bool) (c : ℕ) (cs : List ℕ) (ws all : List (List ℕ)) → all ≡ items_step t c cs ws → all ≡ items_of false (c ∷ cs) → items_behind (starts_blank cs) (items_of false cs) ≡ [] ∷ items_of false (behind_blanks cs) → items_behind t all ≡ [] ∷ items_of false (blanks_step t c cs (behind_blanks cs))
behind_blank_test true c cs ws all step is h = step ∙ h
behind_blank_test false c cs ws all step is h = ap (λ (vs : List (List ℕ)). [] ∷ vs) is

-- behind a blank the next item starts behind all blanks
pub behind_blank : (text : List ℕ) → items_behind (starts_blank text) (items_of false text) ≡ [] ∷ items_of false (behind_blanks text)
unfolding items_of behind_blanks
behind_blank [] = refl
behind_blank (c ∷ cs) = behind_blank_test (is_blank c) c cs (items_of (in_group false c) cs) (items_of false (c ∷ cs)) refl refl (behind_blank cs)

-- the place of an item's end, by a test of the first byte
abbrev end_step : Bool → ℕ → Option ℕ → Option ℕ
end_step t n o = elim t [ true ↦ Some n | false ↦ o ]

-- a byte that parts items is a blank
pub blank_is : (inside : Bool) (c : ℕ) → parts_items inside c ≡ true → is_blank c ≡ true
blank_is inside c t = (and_parts (not inside) (is_blank c) t).1

-- a blank in front is one of the blanks
pub one_blank : (c : ℕ) (cs : List ℕ) → is_blank c ≡ true → behind_blanks (c ∷ cs) ≡ behind_blanks cs
unfolding behind_blanks
one_blank c cs t = ap (λ (b : Bool). blanks_step b c cs (behind_blanks cs)) t

-- an item ends so many bytes behind place n, and behind it the others start behind all blanks
record IsEnd (ws : List (List ℕ)) (n place : ℕ) (text : List ℕ) : Type 0 where
  size : ℕ
  is : place ≡ n + size
  within : size < length text
  shorter : length (behind_blanks (drop size text)) < length text
  items : ws ≡ take size text ∷ items_of false (behind_blanks (drop size text))

end_here : (n place c : ℕ) (cs : List ℕ) → is_blank c ≡ true → place ≡ n → IsEnd (items_behind (starts_blank cs) (items_of false cs)) n place (c ∷ cs)
end_here n place c cs blank is =
    let more = one_blank c cs blank in
    record {
      size = 0;
      is = omega (arith, is);
      within = omega arith;
      shorter = omega (arith, ap (λ (t : List ℕ). length t) more, behind_length cs);
      items = behind_blank cs ∙ ap (λ (t : List ℕ). [] ∷ items_of false t) (sym more);
    }

end_test : (t : Bool) (n place c : ℕ) (cs : List ℕ) (ws : List (List ℕ)) (o : Option ℕ) → (t ≡ true → is_blank c ≡ true) → (o ≡ Some place → IsEnd ws (n + 1) place cs) → end_step t n o ≡ Some place → IsEnd (items_step t c cs ws) n place (c ∷ cs)
end_test true n place c cs ws o blank more e = end_here n place c cs (blank refl) (sym (some_is n place e))
end_test false n place c cs ws o blank more e =
    let h = more e in
    record { size = suc h.size; is = omega (arith, h.is); within = omega (arith, h.within); shorter = omega (arith, h.shorter); items = ap (λ (vs : List (List ℕ)). onto_word c vs) h.items }

end_found : (inside : Bool) (n place : ℕ) (text : List ℕ) → item_end inside n text ≡ Some place → IsEnd (items_of inside text) n place text
unfolding item_end items_of
end_found inside n place [] e = absurd cc
end_found inside n place (c ∷ cs) e = end_test (parts_items inside c) n place c cs (items_of (in_group inside c) cs) (item_end (in_group inside c) (n + 1) cs) (blank_is inside c) (end_found (in_group inside c) (n + 1) place cs) e

none_test : (t : Bool) (n c : ℕ) (cs : List ℕ) (ws : List (List ℕ)) (o : Option ℕ) → (o ≡ None → ws ≡ cs ∷ []) → end_step t n o ≡ None → items_step t c cs ws ≡ (c ∷ cs) ∷ []
none_test true n c cs ws o more e = absurd cc
none_test false n c cs ws o more e = ap (λ (vs : List (List ℕ)). onto_word c vs) (more e)

none_found : (inside : Bool) (n : ℕ) (text : List ℕ) → item_end inside n text ≡ None → items_of inside text ≡ text ∷ []
unfolding item_end items_of
none_found inside n [] e = refl
none_found inside n (c ∷ cs) e = none_test (parts_items inside c) n c cs (items_of (in_group inside c) cs) (item_end (in_group inside c) (n + 1) cs) (none_found (in_group inside c) (n + 1) cs) e

-- a text without a blank outside of groups is one item
pub items_alone : (text : List ℕ) → item_end false 0 text ≡ None → items_of false text ≡ text ∷ []
items_alone text e = none_found false 0 text e

-- the first item ends at this place, and behind it the others start behind all blanks
pub record IsItem (place : ℕ) (text : List ℕ) : Type 0 where
  pub within : place < length text
  pub shorter : length (behind_blanks (drop place text)) < length text
  pub items : items_of false text ≡ take place text ∷ items_of false (behind_blanks (drop place text))

item_at : (place size : ℕ) (text : List ℕ) → size ≡ place → size < length text → length (behind_blanks (drop size text)) < length text → items_of false text ≡ take size text ∷ items_of false (behind_blanks (drop size text)) → IsItem place text
item_at place size text is within shorter items = subst (λ (n : ℕ). IsItem n text) is (record { within = within; shorter = shorter; items = items })

pub first_item : (place : ℕ) (text : List ℕ) → item_end false 0 text ≡ Some place → IsItem place text
first_item place text e =
    let h = end_found false 0 place text e in
    item_at place h.size text (omega (arith, h.is)) h.within h.shorter h.items

-- ---- the walk over texts that are cut off one by one

-- a text that has a value
pub text_found : {A : Type 0} (f : List ℕ → Option A) (found longer : List A) (x : A) (w : List ℕ) (ws rest : List (List ℕ)) (all : Option (List A)) → ws ≡ w ∷ rest → f w ≡ Some x → longer ≡ found ++ x ∷ [] → each_onto f found ws ≡ all → each_onto f longer rest ≡ all
unfolding each_onto
text_found f found longer x w ws rest all is value more so_far =
    ap (λ xs. each_onto f xs rest) more
    ∙ ap (λ o. o >>= λ y. each_onto f (found ++ y ∷ []) rest) (sym value)
    ∙ ap (λ vs. each_onto f found vs) (sym is)
    ∙ so_far

-- a text that has none
pub text_not_found : {A : Type 0} (f : List ℕ → Option A) (found : List A) (w : List ℕ) (ws rest : List (List ℕ)) (all : Option (List A)) → ws ≡ w ∷ rest → f w ≡ None → each_onto f found ws ≡ all → all ≡ None
unfolding each_onto
text_not_found f found w ws rest all is value so_far =
    sym so_far
    ∙ ap (λ vs. each_onto f found vs) is
    ∙ ap (λ o. o >>= λ y. each_onto f (found ++ y ∷ []) rest) value

-- the last text
pub last_found : {A : Type 0} (f : List ℕ → Option A) (found longer : List A) (x : A) (w : List ℕ) (ws : List (List ℕ)) (all : Option (List A)) → ws ≡ w ∷ [] → f w ≡ Some x → longer ≡ found ++ x ∷ [] → each_onto f found ws ≡ all → all ≡ Some longer
unfolding each_onto
last_found f found longer x w ws all is value more so_far = sym (text_found f found longer x w ws [] all is value more so_far)

-- a text that is refused
pub text_refused : {A : Type 0} (f : List ℕ → Option A) (found : List A) (w : List ℕ) (ws rest : List (List ℕ)) (all : Option (List A)) (e : PatternFault) → ws ≡ w ∷ rest → Reads (f w) (Err e) → each_onto f found ws ≡ all → Reads all (Err e)
text_refused f found w ws rest all NotShaped is value so_far = text_not_found f found w ws rest all is value so_far
text_refused f found w ws rest all Memory is value so_far = tt

-- a reading that ends with the fault of a step
pub reads_by : {A : Type 0} (all : Option A) (r : Result A PatternFault) (e : PatternFault) → IsErr r × IsErrAnd r (λ f. f ≡ e) → Reads all (Err e) → Reads all r
reads_by all (Ok x) e h reads = absurd (false≢true h.0)
reads_by {A} all (Err f) e h reads = subst (λ (g : PatternFault). Reads all (Err g)) (sym h.1) reads
