-- Statements of a policy and first lines of blocks: each is a line of its own, and spells the form.
use Rattle.std.proofs.Common.{◌≡◌, refl, sym, ap, subst, ◌∙◌, ℕ, ◌+◌, ◌-◌, ◌^◌, ◌≤◌, Bool, true, false, ◌||◌, not, List, [], ◌∷◌, ◌++◌, map, append-nil, Some, None, arith, inl, inr}
use Rattle.std.specs.Prelude.{codes, bytes_eq, decimal, ◌==◌}
use Rattle.std.specs.List.{list_any, AllByRecursion}
use Rattle.std.proofs.lemmas.Bool.{eqb-true, and_parts, and_from, or_from, or_right, not_from_false, false_from_ne_true}
use Rattle.std.proofs.lemmas.Slice.Eq.{bytes_eq-Decides}
use Rattle.std.proofs.lemmas.List.{map-append}
use Rattle.route_types.specs.RouteText.{origin_text}
use Rattle.route_types.specs.declared.route.NextHop.{NextHop}
use Rattle.route_types.specs.declared.route.NextHop.TheVariants.{At, Own}
use Rattle.text_words.specs.Pieces.{Piece, placed, word_at}
use Rattle.text_words.specs.Signs.{ends_word, are_words, is_mark_text}
use Rattle.text_words.specs.Text.{starts_with_byte}
use Rattle.text_words.proofs.RplLexes.{not_true}
use Rattle.text_words.specs.RplCut.{opening, in_condition, ends_with}
use Rattle.text_words.specs.RplText.{rpl_signs, is_plain, bare, Step, is_line, goes_to_end}
use Rattle.text_words.specs.declared.rpl_blocks.BlockKind.TheVariants.{Policy as PolicyBlock}
use Rattle.route_types.specs.Community.{RectParts}
use Rattle.rpl_words.specs.Tokens.{Token, IsPlain, One, Called}
use Rattle.rpl_words.specs.Values.{IsHeaderName, IsInnerName, IsParameter, is_rpl_name}
use Rattle.policy_text.specs.Names.{is_name, is_mark}
use Rattle.rpl_words.specs.Conditions.{Condition, terms_of}
use Rattle.rpl_words.specs.declared.condition.Term.{Term}
use Rattle.rpl_words.specs.declared.number.RplNumber.{RplNumber}
use Rattle.rpl_words.specs.declared.number.RplNumber.TheVariants.{Fixed, Parameter as GivenNumber}
use Rattle.rpl_words.specs.declared.number.RplSet.{RplSet}
use Rattle.rpl_forms.specs.Statements.{SpellHeader, SpellStatement, SpellSetting, SpellPrepend, SpellBranch, IsNextHop, IsArgument}
use Rattle.rpl_forms.specs.declared.item.Header.{Header}
use Rattle.rpl_forms.specs.declared.item.Header.TheVariants.{PrefixSet, CommunitySet, PathSet, Policy}
use Rattle.rpl_forms.specs.declared.item.Action.{Action}
use Rattle.rpl_forms.specs.declared.item.Action.TheVariants.{SetMed, SetLocalPreference, SetWeight, SetOrigin, SetNextHop, SetCommunity, DeleteCommunity, Prepend}
use Rattle.rpl_forms.specs.declared.item.Argument.{Argument}
use Rattle.rpl_forms.specs.declared.item.Argument.TheVariants.{Written, Parameter}
use Rattle.rpl_forms.specs.declared.item.PolicyStatement.{PolicyStatement}
use Rattle.rpl_forms.specs.declared.item.PolicyStatement.TheVariants.{If, ElseIf, Else, EndIf, Pass, Done, Drop, Act, Apply}
use Rattle.rpl_tree.specs.Blocks.{if_word, keyword, ends_block}
use Rattle.rpl_tree.specs.Tree.{second_word}
use Rattle.rpl_text.specs.Blocks.{name_of}
use Rattle.rpl_text.specs.Layout.{kind_of}
use Rattle.rpl_text.specs.Words.{Phrase, spaced, laid, word, listed, called, given, number_text, next_hop_text, rect_phrase, set_phrase, condition_phrase, operands_joined, count_words, additive_words, argument_text, branch_phrase, statement_phrase, header_phrase}
use Rattle.rpl_text.specs.Written.{HeadsBlock, NamesWithin, FitsNumber, FitsRect, FitsSet, FitsCondition, FitsNextHop, FitsCount, FitsAction, FitsArgument, FitsStatement, FitsHeader, starts_as}
use Rattle.rpl_text.proofs.SpelledConditions.{origin_part, words_of, operands, condition_good}
use Rattle.rpl_text.proofs.SpelledElements.{IsItem, AreBehind, one_part, text_behind, values_laid, list_values, list_spelled, rect_set}
use Rattle.rpl_text.proofs.Lines.{IsStart, no_key_of, values_end, condition_ends, first_word, step_line}
use Rattle.rpl_text.proofs.Pieces.{keys, is_value, is_listed, AreValues, IsPartText, no_values, no_parts, value_cons, words_append, values_append, token_of, tokens_of, none_key, all_listed}
use Rattle.rpl_text.proofs.SpelledValues.{decimal_part, given_part, given_spelled, number_part, number_spelled, address_part, address_spelled, name_value}

-- a statement is a line of its own, spells the form, and stands in a policy as the form says
pub record IsSaid (s : PolicyStatement) : Type 0 where
  pub line : (gap : ℕ) → is_line (Step (laid gap (statement_phrase s))) ≡ true
  pub spelled : SpellStatement (tokens_of (laid 0 (statement_phrase s))) s
  pub begins : (p gap : ℕ) → keyword PolicyBlock (placed p (laid gap (statement_phrase s))) ≡ starts_as s
  pub inside : (p gap : ℕ) → ends_block PolicyBlock (placed p (laid gap (statement_phrase s))) ≡ false

-- ---- statements that begin with a word that is no `if`

-- a word at which a statement starts that has nothing to do with an `if`
record IsKey (key : List ℕ) : Type 0 where
  start : IsStart key
  closed : in_condition false (word_at 0 key false) ≡ false
  goes_on : ends_with false (word_at 0 key false) ≡ false
  no_if : (p : ℕ) → if_word (word_at p key false) ≡ None

set_key : IsKey (codes "set")
set_key = record { start = record { word = refl; kept = refl; inner = refl; starts = refl }; closed = refl; goes_on = refl; no_if = λ p. refl }

delete_key : IsKey (codes "delete")
delete_key = record { start = record { word = refl; kept = refl; inner = refl; starts = refl }; closed = refl; goes_on = refl; no_if = λ p. refl }

prepend_key : IsKey (codes "prepend")
prepend_key = record { start = record { word = refl; kept = refl; inner = refl; starts = refl }; closed = refl; goes_on = refl; no_if = λ p. refl }

apply_key : IsKey (codes "apply")
apply_key = record { start = record { word = refl; kept = refl; inner = refl; starts = refl }; closed = refl; goes_on = refl; no_if = λ p. refl }

-- what such a word and words behind it are
record IsKeyed (key : List ℕ) (xs : List Piece) : Type 0 where
  line : (gap : ℕ) → is_line (Step (record { gap = gap; text = key; quoted = false } ∷ xs)) ≡ true
  begins : (p gap : ℕ) → keyword PolicyBlock (placed p (record { gap = gap; text = key; quoted = false } ∷ xs)) ≡ None
  inside : (p gap : ℕ) → ends_block PolicyBlock (placed p (record { gap = gap; text = key; quoted = false } ∷ xs)) ≡ false

keyed : (key : List ℕ) (y : Piece) (ys : List Piece) → IsKey key → ends_word rpl_signs (y ∷ ys) ≡ true → AreValues (y ∷ ys) → IsKeyed key (y ∷ ys)
unfolding placed
keyed key y ys k ends h = record {
  line = λ gap. step_line gap key (y ∷ ys) k.start ends h.words (values_end (record { gap = gap; text = key; quoted = false }) (y ∷ ys) k.closed k.goes_on h.values);
  begins = λ p gap. k.no_if (p + gap);
  inside = λ p gap. refl;
}

keyed_phrase : (key : List ℕ) (p : Phrase) → IsKey key → AreValues (laid 1 p) → IsKeyed key (laid 1 p)
keyed_phrase key p k h = keyed key (record { gap = 1; text = p.first; quoted = false }) p.behind k refl h

-- a value behind a word
one_behind : (key text : List ℕ) → is_value (spaced key) ≡ true → IsPartText text → AreValues (spaced key ∷ spaced text ∷ [])
one_behind key text k h = value_cons (spaced key) (spaced text ∷ []) k refl (text_behind text [] h (no_parts, refl)).0.values

number_set : (key : List ℕ) (most : ℕ) (n : RplNumber ℕ) → is_value (spaced key) ≡ true → most ≤ 2 ^ 32 - 1 → FitsNumber true most n → IsKeyed (codes "set") (spaced key ∷ spaced (number_text n) ∷ [])
number_set key most n k small h = keyed (codes "set") (spaced key) (spaced (number_text n) ∷ []) set_key refl (one_behind key (number_text n) k (number_part true most n (omega arith) h))

hop_part : (h : NextHop) → FitsNextHop h → IsPartText (next_hop_text h)
hop_part (At a) h = address_part a h.1
hop_part Own h = record { plain = refl; no_key = refl; no_ender = refl }

hop_spelled : (h : NextHop) → FitsNextHop h → IsNextHop (next_hop_text h) h
hop_spelled (At a) h = address_spelled a h.0 h.1
hop_spelled Own h = refl

-- a set, with `additive` behind it or not
setting_values : (s : RplSet RectParts) (additive : Bool) → FitsSet FitsRect s → AreValues (laid 1 (set_phrase rect_phrase s) ++ additive_words additive)
setting_values s true h = values_append (laid 1 (set_phrase rect_phrase s)) (spaced (codes "additive") ∷ []) (values_laid 1 (set_phrase rect_phrase s) (rect_set s h).values) (value_cons (spaced (codes "additive")) [] refl refl no_values) refl
setting_values s false h = values_append (laid 1 (set_phrase rect_phrase s)) [] (values_laid 1 (set_phrase rect_phrase s) (rect_set s h).values) no_values refl

setting_spelled : (s : RplSet RectParts) (additive : Bool) → FitsSet FitsRect s → SpellSetting (tokens_of (laid 1 (set_phrase rect_phrase s) ++ additive_words additive)) (s, additive)
setting_spelled s true h = (tokens_of (laid 1 (set_phrase rect_phrase s)), map-append token_of (laid 1 (set_phrase rect_phrase s)) (spaced (codes "additive") ∷ []), (rect_set s h).spelled)
setting_spelled s false h = subst (λ (ts : List Token). SpellSetting ts (s, false)) (ap (λ (xs : List Piece). tokens_of xs) (sym (append-nil (laid 1 (set_phrase rect_phrase s))))) (rect_set s h).spelled

-- how often a number is put before the path
count_behind : (t : Bool) (n : ℕ) → n ≤ 63 → AreBehind (elim t [ true ↦ [] | false ↦ spaced (decimal n) ∷ [] ])
count_behind true n h = (no_parts, refl)
count_behind false n h = text_behind (decimal n) [] (decimal_part n (omega arith)) (no_parts, refl)

count_values : (c : RplNumber ℕ) → FitsCount c → AreBehind (count_words c)
count_values (Fixed n) h = count_behind (n == 1) n h.1
count_values (GivenNumber x) h = text_behind (given x) [] (given_part x h) (no_parts, refl)

prepend_by : (t : Bool) (number : RplNumber ℕ) (n : ℕ) → (n == 1) ≡ t → FitsNumber true (2 ^ 32 - 1) number → 1 ≤ n → n ≤ 63
    → SpellPrepend (tokens_of (spaced (number_text number) ∷ elim t [ true ↦ [] | false ↦ spaced (decimal n) ∷ [] ])) (number, Fixed n)
prepend_by true number n e h low high = inl ((_, refl, (_, refl, number_spelled true (2 ^ 32 - 1) number h)), ap (λ (k : ℕ). Fixed k) (eqb-true n 1 e))
prepend_by false number n e h low high = inr (_, _, refl, (_, refl, number_spelled true (2 ^ 32 - 1) number h), (_, refl, ((_, refl, record { spelled = refl; within = high }), low)))

prepend_spelled : (number count : RplNumber ℕ) → FitsNumber true (2 ^ 32 - 1) number → FitsCount count → SpellPrepend (tokens_of (spaced (number_text number) ∷ count_words count)) (number, count)
prepend_spelled number (Fixed n) h k = prepend_by (n == 1) number n refl h k.0 k.1
prepend_spelled number (GivenNumber x) h k = inr (_, _, refl, (_, refl, number_spelled true (2 ^ 32 - 1) number h), (_, refl, (given x, refl, (refl, given_spelled x k))))

acts : (a : Action) → FitsAction a → IsSaid (Act a)
acts (SetMed n) h =
    let k = number_set (codes "med") (2 ^ 32 - 1) n refl (omega arith) h in
    record { line = k.line; spelled = (_, refl, (_, refl, (_, refl, number_spelled true (2 ^ 32 - 1) n h))); begins = k.begins; inside = k.inside }
acts (SetLocalPreference n) h =
    let k = number_set (codes "local-preference") (2 ^ 32 - 1) n refl (omega arith) h in
    record { line = k.line; spelled = (_, refl, (_, refl, (_, refl, number_spelled true (2 ^ 32 - 1) n h))); begins = k.begins; inside = k.inside }
acts (SetWeight n) h =
    let k = number_set (codes "weight") 65535 n refl (omega arith) h in
    record { line = k.line; spelled = (_, refl, (_, refl, (_, refl, number_spelled true 65535 n h))); begins = k.begins; inside = k.inside }
acts (SetOrigin o) h =
    let k = keyed (codes "set") (spaced (codes "origin")) (spaced (origin_text o) ∷ []) set_key refl (one_behind (codes "origin") (origin_text o) refl (origin_part o)) in
    record { line = k.line; spelled = (_, refl, (_, refl, (origin_text o, refl, refl))); begins = k.begins; inside = k.inside }
acts (SetNextHop hop) h =
    let k = keyed (codes "set") (spaced (codes "next-hop")) (spaced (next_hop_text hop) ∷ []) set_key refl (one_behind (codes "next-hop") (next_hop_text hop) refl (hop_part hop h)) in
    record { line = k.line; spelled = (_, refl, (_, refl, (next_hop_text hop, refl, hop_spelled hop h))); begins = k.begins; inside = k.inside }
acts (SetCommunity s) h =
    let behind = laid 1 (set_phrase rect_phrase s.set) ++ additive_words s.additive in
    let k = keyed (codes "set") (spaced (codes "community")) behind set_key refl (value_cons (spaced (codes "community")) behind refl refl (setting_values s.set s.additive h)) in
    record { line = k.line; spelled = (_, refl, setting_spelled s.set s.additive h); begins = k.begins; inside = k.inside }
acts (DeleteCommunity s) h =
    let set = rect_set s h in
    let behind = laid 1 (set_phrase rect_phrase s) in
    let values = value_cons (spaced (codes "community")) (spaced (codes "in") ∷ behind) refl refl (value_cons (spaced (codes "in")) behind refl refl (values_laid 1 (set_phrase rect_phrase s) set.values)) in
    let k = keyed (codes "delete") (spaced (codes "community")) (spaced (codes "in") ∷ behind) delete_key refl values in
    record { line = k.line; spelled = (_, refl, set.spelled); begins = k.begins; inside = k.inside }
acts (Prepend p) h =
    let number = text_behind (number_text p.number) (count_words p.count) (number_part true (2 ^ 32 - 1) p.number (omega arith) h.0) (count_values p.count h.1) in
    let behind = spaced (number_text p.number) ∷ count_words p.count in
    let k = keyed (codes "prepend") (spaced (codes "as-path")) behind prepend_key refl (value_cons (spaced (codes "as-path")) behind refl refl number.0.values) in
    record { line = k.line; spelled = (_, refl, prepend_spelled p.number p.count h.0 h.1); begins = k.begins; inside = k.inside }

-- ---- policies that are applied, and first lines

-- a name, and words in parentheses behind it
called_spelled : {A : Type 0} (f : A → List ℕ) (N : List ℕ → List ℕ → Type 0) (P : Token → A → Type 0) (name : List ℕ) (xs : List A) → N name name → AllByRecursion (IsItem (λ x. word (f x)) (One P)) xs
    → Called N P (tokens_of (laid 1 (called f name xs))) (name, xs)
called_spelled f N P name [] n h = (_, refl, (name, refl, n))
called_spelled f N P name (x ∷ xs) n h = (_, _, refl, (name, refl, n), list_spelled (λ y. word (f y)) (One P) (x ∷ xs) (omega arith) h)

called_values : {A : Type 0} (f : A → List ℕ) (P : Token → A → Type 0) (name : List ℕ) (xs : List A) → NamesWithin name → AllByRecursion (IsItem (λ x. word (f x)) (One P)) xs → AreValues (laid 1 (called f name xs))
called_values f P name [] n h = value_cons _ [] (name_value 1 name n) refl no_values
called_values f P name (x ∷ xs) n h = value_cons _ (laid 0 (listed (map (λ y. word (f y)) (x ∷ xs)))) (name_value 1 name n) refl (list_values (λ y. word (f y)) (One P) (x ∷ xs) h)

called_words : {A : Type 0} (f : A → List ℕ) (P : Token → A → Type 0) (name : List ℕ) (xs : List A) → HeadsBlock name → AllByRecursion (IsItem (λ x. word (f x)) (One P)) xs → are_words rpl_signs (laid 1 (called f name xs)) ≡ true
unfolding are_words
called_words f P name [] n h = first_word 1 name [] (or_right (is_mark_text rpl_signs name) (is_plain name) n.plain) refl refl
called_words f P name (x ∷ xs) n h =
    first_word 1 name (laid 0 (listed (map (λ y. word (f y)) (x ∷ xs)))) (or_right (is_mark_text rpl_signs name) (is_plain name) n.plain) refl (list_values (λ y. word (f y)) (One P) (x ∷ xs) h).words

given_item : (x : List ℕ) → HeadsBlock x → IsItem (λ y. word (given y)) (One (IsPlain IsParameter)) x
given_item x h =
    let parts = one_part 0 (given x) (given_part x h) in
    record { values = parts.values; listed = all_listed (laid 0 (word (given x))) parts.free; spelled = (_, refl, (given x, refl, given_spelled x h)) }

given_items : (xs : List (List ℕ)) → AllByRecursion HeadsBlock xs → AllByRecursion (IsItem (λ y. word (given y)) (One (IsPlain IsParameter))) xs
given_items [] h = tt
given_items (x ∷ xs) h = (given_item x h.0, given_items xs h.1)

-- a text with a mark is no name
no_mark : (key n : List ℕ) → list_any is_mark key ≡ true → list_any is_mark n ≡ false → bytes_eq key n ≡ false
no_mark key n has none = false_from_ne_true (bytes_eq key n) (λ e. let k : list_any is_mark n ≡ true = subst (λ (w : List ℕ). list_any is_mark w ≡ true) ((bytes_eq-Decides key n).0 e) has in absurd cc)

name_listed : (n : List ℕ) → NamesWithin n → is_listed (record { gap = 0; text = n; quoted = false }) ≡ true
name_listed n h =
    let q = and_parts (is_rpl_name n) (not (list_any (λ key. bytes_eq key n) keys)) h.named in
    let r = and_parts (is_name n) (not (starts_with_byte 36 n)) q.0 in
    let none = not_true (list_any is_mark n) r.0 in
    not_from_false (bytes_eq (codes ",") n || (bytes_eq (codes ")") n || false))
    (or_from (bytes_eq (codes ",") n) (bytes_eq (codes ")") n || false) (no_mark (codes ",") n refl none) (or_from (bytes_eq (codes ")") n) false (no_mark (codes ")") n refl none) refl))

argument_item : (a : Argument) → FitsArgument a → IsItem (λ y. word (argument_text y)) (One (IsPlain IsArgument)) a
argument_item (Written text) h = record {
  values = value_cons _ [] (name_value 0 text h) refl no_values;
  listed = and_from (is_listed (record { gap = 0; text = text; quoted = false })) true (name_listed text h) refl;
  spelled = (_, refl, (text, refl, record { named = h.named; is = refl }));
}
argument_item (Parameter x) h = let i = given_item x h in record { values = i.values; listed = i.listed; spelled = (_, refl, (given x, refl, given_spelled x h)) }

argument_items : (xs : List Argument) → AllByRecursion FitsArgument xs → AllByRecursion (IsItem (λ y. word (argument_text y)) (One (IsPlain IsArgument))) xs
argument_items [] h = tt
argument_items (x ∷ xs) h = (argument_item x h.0, argument_items xs h.1)

-- ---- conditions

-- a word that opens a condition
record OpensCondition (key : List ℕ) : Type 0 where
  start : IsStart key
  opens : in_condition false (word_at 0 key false) ≡ true
  goes_on : ends_with false (word_at 0 key false) ≡ false

then_words : are_words rpl_signs (spaced (codes "then") ∷ []) ≡ true
unfolding are_words
then_words = refl

condition_is : (terms : List Term) (c : Condition) → terms ≡ terms_of c → condition_phrase terms ≡ words_of c
unfolding operands_joined
condition_is terms c e = ap (λ (ts : List Term). operands_joined [] ts) (e ∙ sym (append-nil (terms_of c))) ∙ operands c [] []

branch_line : (key : List ℕ) (terms : List Term) (gap : ℕ) → OpensCondition key → FitsCondition terms → is_line (Step (laid gap (branch_phrase key terms))) ≡ true
branch_line key terms gap k (c, shaped, fits, e) =
    let good = condition_good c fits in
    let q = words_of c in
    let close = spaced (codes "then") ∷ [] in
    subst (λ (p : Phrase). is_line (Step (record { gap = gap; text = key; quoted = false } ∷ (laid 1 p ++ close))) ≡ true) (sym (condition_is terms c e))
    (step_line gap key (laid 1 q ++ close) k.start refl (words_append (laid 1 q) close (values_laid 1 q good.values).words then_words refl)
    (condition_ends false (record { gap = gap; text = key; quoted = false }) (laid 1 q) k.opens k.goes_on (values_laid 1 q good.values).values))

branch_spelled : (key : List ℕ) (terms : List Term) → FitsCondition terms → SpellBranch key (tokens_of (laid 0 (branch_phrase key terms))) terms
branch_spelled key terms (c, shaped, fits, e) =
    let good = condition_good c fits in
    let q = words_of c in
    let close = spaced (codes "then") ∷ [] in
    subst (λ (p : Phrase). SpellBranch key (tokens_of (record { gap = 0; text = key; quoted = false } ∷ (laid 1 p ++ close))) terms) (sym (condition_is terms c e))
    (tokens_of (laid 1 q ++ close), refl, (tokens_of (laid 1 q), map-append token_of (laid 1 q) close, none_key is_value (codes "then") (laid 1 q) (λ x h. (no_key_of x h).no_then) (values_laid 1 q good.values).values, (c, shaped, good.spelled, e)))

-- ---- statements

one_word : (key : List ℕ) → IsStart key → goes_to_end false (record { gap = 0; text = key; quoted = false }) [] ≡ true → (gap : ℕ) → is_line (Step (laid gap (word key))) ≡ true
unfolding are_words
one_word key k goes gap = step_line gap key [] k refl refl goes

pub said : (s : PolicyStatement) → FitsStatement s → IsSaid s
unfolding placed
said (If terms) h = record {
  line = λ gap. branch_line (codes "if") terms gap (record { start = record { word = refl; kept = refl; inner = refl; starts = refl }; opens = refl; goes_on = refl }) h;
  spelled = branch_spelled (codes "if") terms h;
  begins = λ p gap. refl;
  inside = λ p gap. refl;
}
said (ElseIf terms) h = record {
  line = λ gap. branch_line (codes "elseif") terms gap (record { start = record { word = refl; kept = refl; inner = refl; starts = refl }; opens = refl; goes_on = refl }) h;
  spelled = branch_spelled (codes "elseif") terms h;
  begins = λ p gap. refl;
  inside = λ p gap. refl;
}
said Else h = record { line = one_word (codes "else") (record { word = refl; kept = refl; inner = refl; starts = refl }) refl; spelled = refl; begins = λ p gap. refl; inside = λ p gap. refl }
said EndIf h = record { line = one_word (codes "endif") (record { word = refl; kept = refl; inner = refl; starts = refl }) refl; spelled = refl; begins = λ p gap. refl; inside = λ p gap. refl }
said Pass h = record { line = one_word (codes "pass") (record { word = refl; kept = refl; inner = refl; starts = refl }) refl; spelled = refl; begins = λ p gap. refl; inside = λ p gap. refl }
said Done h = record { line = one_word (codes "done") (record { word = refl; kept = refl; inner = refl; starts = refl }) refl; spelled = refl; begins = λ p gap. refl; inside = λ p gap. refl }
said Drop h = record { line = one_word (codes "drop") (record { word = refl; kept = refl; inner = refl; starts = refl }) refl; spelled = refl; begins = λ p gap. refl; inside = λ p gap. refl }
said (Act a) h = acts a h
said (Apply a) h =
    let items = argument_items a.arguments h.1 in
    let p = called argument_text a.policy a.arguments in
    let k = keyed_phrase (codes "apply") p apply_key (called_values argument_text (IsPlain IsArgument) a.policy a.arguments h.0 items) in
    record {
      line = k.line;
      spelled = (_, refl, called_spelled argument_text IsInnerName (IsPlain IsArgument) a.policy a.arguments (record { named = h.0.named; is = refl }) items);
      begins = k.begins;
      inside = k.inside;
    }

-- ---- first lines of blocks

-- a first line may stand in a text, spells the form, and has its name
pub record IsHead (h : Header) : Type 0 where
  pub words : are_words rpl_signs (laid 1 (header_phrase h)) ≡ true
  pub spelled : SpellHeader (kind_of h) (token_of (bare (opening (kind_of h))) ∷ tokens_of (laid 1 (header_phrase h))) h
  pub named : (p : ℕ) → second_word (placed p (bare (opening (kind_of h)) ∷ laid 1 (header_phrase h))) ≡ Some (name_of h)

name_words : (n : List ℕ) → HeadsBlock n → are_words rpl_signs (laid 1 (word n)) ≡ true
unfolding are_words
name_words n h = first_word 1 n [] (or_right (is_mark_text rpl_signs n) (is_plain n) h.plain) refl refl

called_second : {A : Type 0} (f : A → List ℕ) (name key : List ℕ) (xs : List A) (p : ℕ) → second_word (placed p (bare key ∷ laid 1 (called f name xs))) ≡ Some name
unfolding placed
called_second f name key [] p = refl
called_second f name key (x ∷ xs) p = refl

pub head : (h : Header) → FitsHeader h → IsHead h
unfolding placed
head (PrefixSet n) h = record { words = name_words n h; spelled = (_, refl, (_, refl, (n, refl, record { named = h.named; is = refl }))); named = λ p. refl }
head (CommunitySet n) h = record { words = name_words n h; spelled = (_, refl, (_, refl, (n, refl, record { named = h.named; is = refl }))); named = λ p. refl }
head (PathSet n) h = record { words = name_words n h; spelled = (_, refl, (_, refl, (n, refl, record { named = h.named; is = refl }))); named = λ p. refl }
head (Policy x) h =
    let items = given_items x.parameters h.1 in
    record {
      words = called_words given (IsPlain IsParameter) x.name x.parameters h.0 items;
      spelled = (_, refl, called_spelled given IsHeaderName (IsPlain IsParameter) x.name x.parameters (record { named = h.0.named; is = refl }) items);
      named = called_second given x.name (codes "route-policy") x.parameters;
    }
