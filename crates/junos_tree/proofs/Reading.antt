-- A text reads as its tree, and as no other one; the spans of the tree rise.
use Rattle.std.proofs.Common.{◌≡◌, refl, sym, ap, ◌∙◌, subst, ℕ, ◌≤◌, ◌<◌, List, [], ◌∷◌, ◌++◌, append_assoc, length, Option, Some, None, Result, Ok, Err, arith, inl, inr}
use Rattle.std.specs.Prelude.{IfOk, IfSome, option_map}
use Rattle.route_types.proofs.Numbers.{some_is}
use Rattle.text_words.specs.JunosCut.{Outcome, cut_in, fault_in, cut_or_fault, junos_cut, junos_fault, HasOne}
use Rattle.text_words.specs.Rising.{StatementsRise}
use Rattle.text_words.specs.declared.statement.Ender.{Ender}
use Rattle.text_words.specs.declared.statement.Ender.TheVariants.{Line, Semi, Open, Close, Comma, Plain}
use Rattle.text_words.specs.declared.statement.Span.{Span}
use Rattle.text_words.specs.declared.statement.Statement.{Statement}
use Rattle.text_words.specs.declared.statement.Word.{Word}
use Rattle.text_words.proofs.JunosRise.{junos_rises}
use Rattle.policy_text.specs.Names.{or_else}
use Rattle.junos_tree.specs.Reading.{HasForm, SaysAt, ReadsFrom, Reads, IsRead}
use Rattle.junos_tree.specs.Spans.{RiseFrom, SpansRise}
use Rattle.junos_tree.specs.Spelling.{Spell}
use Rattle.junos_tree.specs.Tree.{known_form, other_at, opened_at, or_other, opens_or_says, said_at, here, said_by, places_behind, item_of, items_from, junos_tree}
use Rattle.junos_tree.specs.declared.item.JunosForm.{JunosForm}
use Rattle.junos_tree.specs.declared.item.JunosForm.TheVariants.{Other}
use Rattle.junos_tree.specs.declared.item.JunosItem.{JunosItem}
use Rattle.junos_tree.specs.declared.item.OtherItem.{OtherItem}
use Rattle.junos_tree.specs.declared.place.Place.{Place}
use Rattle.junos_tree.specs.declared.place.Place.TheVariants.{Outside, InPolicy, InTerm}
use Rattle.junos_tree.specs.declared.place.Said.{Said}
use Rattle.junos_tree.specs.declared.place.Said.TheVariants.{Foreign, Opens, Says}
use Rattle.junos_tree.proofs.Spelled.{is_spelled, is_found}

-- ---- what a statement says

has_form_here : (place : Place) (ender : Ender) (ws : List Word) (other : OtherItem) (o : Option JunosForm) → known_form place ender ws ≡ o → HasForm place ender ws other (or_else o (Other other))
has_form_here place ender ws other (Some form) e = inl (is_spelled place ender ws form e)
has_form_here place ender ws other None e = inr (λ f h. let k : ◌≡◌ {A = Option JunosForm} None (Some f) = sym e ∙ is_found place ender ws f h in cc, refl)

none_known : (place : Place) (ender : Ender) (ws : List Word) (other : OtherItem) (o : Option JunosForm) → known_form place ender ws ≡ o → ((f : JunosForm) → Spell place ender ws f → ⊥) → or_else o (Other other) ≡ Other other
none_known place ender ws other (Some form) e none = absurd (none form (is_spelled place ender ws form e))
none_known place ender ws other None e none = refl

one_form : (place : Place) (ender : Ender) (ws : List Word) (other : OtherItem) (form : JunosForm) → HasForm place ender ws other form → form ≡ or_else (known_form place ender ws) (Other other)
one_form place ender ws other form (inl h) = ap (λ (o : Option JunosForm). or_else o (Other other)) (sym (is_found place ender ws form h))
one_form place ender ws other form (inr (none, e)) = e ∙ sym (none_known place ender ws other (known_form place ender ws) refl none)

says_by : (place : Place) (ender : Ender) (ws : List Word) (inner : Option Place) (other : Option OtherItem) → opened_at place ender ws ≡ inner → other_at place ws ≡ other → (ender ≡ Close → ⊥) → SaysAt place ender ws (opens_or_says inner (or_other other (known_form place ender ws)))
says_by place ender ws (Some inner) other e f unclosed = e
says_by place ender ws None None e f unclosed = inr (e, f)
says_by place ender ws None (Some other) e f unclosed = (unclosed, e, (other, f, has_form_here place ender ws other (known_form place ender ws) refl))

says_at : (place : Place) (ender : Ender) (ws : List Word) → (ender ≡ Close → ⊥) → SaysAt place ender ws (said_at place ender ws)
unfolding said_at
says_at place ender ws unclosed = says_by place ender ws (opened_at place ender ws) (other_at place ws) refl refl unclosed

says : (places : List Place) (ender : Ender) (ws : List Word) → SaysAt (here places) ender ws (said_by places ender ws)
says places Close ws = inl refl
says places Semi ws = says_at (here places) Semi ws (λ (e : Semi ≡ Close). cc)
says places Open ws = says_at (here places) Open ws (λ (e : Open ≡ Close). cc)
says places Line ws = says_at (here places) Line ws (λ (e : Line ≡ Close). cc)
says places Comma ws = says_at (here places) Comma ws (λ (e : Comma ≡ Close). cc)
says places Plain ws = says_at (here places) Plain ws (λ (e : Plain ≡ Close). cc)

one_at : (place : Place) (ender : Ender) (ws : List Word) (said : Said) → SaysAt place ender ws said → (ender ≡ Close → ⊥) → said ≡ said_at place ender ws
unfolding said_at
one_at place ender ws Foreign (inl e) unclosed = absurd (unclosed e)
one_at place ender ws Foreign (inr (e, f)) unclosed = rw (e, f) refl
one_at place ender ws (Opens inner) e unclosed = rw e refl
one_at place ender ws (Says form) (shut, e, (other, f, h)) unclosed = rw (e, f) (ap (λ (x : JunosForm). Says x) (one_form place ender ws other form h))

-- `}` opens nothing
opens_nothing : (place : Place) (ws : List Word) → opened_at place Close ws ≡ None
unfolding opened_at
opens_nothing Outside ws = refl
opens_nothing InPolicy ws = refl
opens_nothing InTerm ws = refl
opens_nothing _ ws = refl

one_at_close : (place : Place) (ws : List Word) (said : Said) → SaysAt place Close ws said → said ≡ Foreign
one_at_close place ws Foreign h = refl
one_at_close place ws (Opens inner) e = let k : ◌≡◌ {A = Option Place} None (Some inner) = sym (opens_nothing place ws) ∙ e in absurd cc
one_at_close place ws (Says form) h = absurd (h.0 refl)

one_said : (places : List Place) (ender : Ender) (ws : List Word) (said : Said) → SaysAt (here places) ender ws said → said ≡ said_by places ender ws
one_said places Close ws said h = one_at_close (here places) ws said h
one_said places Semi ws said h = one_at (here places) Semi ws said h (λ (e : Semi ≡ Close). cc)
one_said places Open ws said h = one_at (here places) Open ws said h (λ (e : Open ≡ Close). cc)
one_said places Line ws said h = one_at (here places) Line ws said h (λ (e : Line ≡ Close). cc)
one_said places Comma ws said h = one_at (here places) Comma ws said h (λ (e : Comma ≡ Close). cc)
one_said places Plain ws said h = one_at (here places) Plain ws said h (λ (e : Plain ≡ Close). cc)

-- ---- the items of statements

-- one statement taken, as the program takes it
pub took : (items taken : List JunosItem) (places same behind : List Place) (s : Statement) (more : List Statement) (said : Said) → said ≡ said_by places s.ender s.words → same ≡ places → behind ≡ places_behind s.ender said same → taken ≡ items ++ item_of said s.span
    → taken ++ items_from behind more ≡ items ++ items_from places (s ∷ more)
unfolding items_from
took items taken places same behind s more said e f g h =
    ap (λ (xs : List JunosItem). xs ++ items_from behind more) h
    ∙ append_assoc items (item_of said s.span) (items_from behind more)
    ∙ ap (λ (ps : List Place). items ++ (item_of said s.span ++ items_from ps more)) (g ∙ ap (λ (ps : List Place). places_behind s.ender said ps) f)
    ∙ ap (λ (x : Said). items ++ (item_of x s.span ++ items_from (places_behind s.ender x places) more)) e

-- statements read as their items
reads_items : (ss : List Statement) (places : List Place) → ReadsFrom places ss (items_from places ss)
unfolding items_from
reads_items [] places = refl
reads_items (s ∷ ss) places =
    let said = said_by places s.ender s.words in
    (said, items_from (places_behind s.ender said places) ss, says places s.ender s.words, refl, reads_items ss (places_behind s.ender said places))

-- ... and as no others
only_items : (ss : List Statement) (places : List Place) (is : List JunosItem) → ReadsFrom places ss is → is ≡ items_from places ss
unfolding items_from
only_items [] places is e = e
only_items (s ∷ ss) places is (said, more, h, e, rest) =
    e ∙ ap (λ (xs : List JunosItem). item_of said s.span ++ xs) (only_items ss (places_behind s.ender said places) more rest)
    ∙ ap (λ (x : Said). item_of x s.span ++ items_from (places_behind s.ender x places) ss) (one_said places s.ender s.words said h)

-- a text reads as at most one tree
pub one_reading : (ss : List Statement) (is js : List JunosItem) → Reads ss is → Reads ss js → is ≡ js
one_reading ss is js h k = only_items ss [] is h ∙ sym (only_items ss [] js k)

-- ---- texts

reads_cut : (text : List ℕ) (o : Option (List Statement)) (t : List JunosItem) → junos_cut text ≡ o → option_map (items_from []) o ≡ Some t → IsRead text t
reads_cut text (Some ss) t e f = (ss, e, subst (Reads ss) (some_is (items_from [] ss) t f) (reads_items ss []))
reads_cut text None t e f = absurd cc

reads_tree : (text : List ℕ) (t : List JunosItem) → junos_tree text ≡ Some t → IsRead text t
unfolding junos_tree
reads_tree text t e = reads_cut text (junos_cut text) t refl e

-- a text's tree that was made
pub tree_is_read : {E : Type 0} (text : List ℕ) (r : Result (List JunosItem) E) → IfOk r (λ t. junos_tree text ≡ Some t) → IfOk r (λ t. IsRead text t)
tree_is_read text (Ok t) e = reads_tree text t e
tree_is_read text (Err m) e = tt

-- ---- spans

items_lower : (q p end : ℕ) (is : List JunosItem) → q ≤ p → RiseFrom p end is → RiseFrom q end is
items_lower q p end [] le h = omega arith
items_lower q p end (i ∷ is) le h = (omega (arith, h.0), h.1, h.2)

said_rises : (said : Said) (span : Span) (p end : ℕ) (more : List JunosItem) → p ≤ span.start → span.start < span.end → RiseFrom span.end end more → RiseFrom p end (item_of said span ++ more)
said_rises Foreign span p end more low some h = items_lower p span.end end more (omega arith) h
said_rises (Opens place) span p end more low some h = items_lower p span.end end more (omega arith) h
said_rises (Says form) span p end more low some h = (low, some, h)

items_rise : (ss : List Statement) (places : List Place) (p end : ℕ) → StatementsRise p end ss → RiseFrom p end (items_from places ss)
unfolding items_from
items_rise [] places p end h = h
items_rise (s ∷ ss) places p end h =
    let said = said_by places s.ender s.words in
    said_rises said s.span p end (items_from (places_behind s.ender said places) ss) h.0 h.1 (items_rise ss (places_behind s.ender said places) s.span.end end h.2)

cut_rises : (end : ℕ) (o : Option (List Statement)) (t : List JunosItem) → IfSome o (StatementsRise 0 end) → option_map (items_from []) o ≡ Some t → SpansRise end t
cut_rises end (Some ss) t h e = subst (SpansRise end) (some_is (items_from [] ss) t e) (items_rise ss [] 0 end h)
cut_rises end None t h e = absurd cc

tree_rises_with : (text : List ℕ) (t : List JunosItem) → junos_tree text ≡ Some t → SpansRise (length text) t
unfolding junos_tree
tree_rises_with text t e = cut_rises (length text) (junos_cut text) t (junos_rises text) e

pub tree_rises : {E : Type 0} (text : List ℕ) (r : Result (List JunosItem) E) → IfOk r (λ t. junos_tree text ≡ Some t) → IfOk r (λ t. SpansRise (length text) t)
tree_rises text (Ok t) e = tree_rises_with text t e
tree_rises text (Err m) e = tt

-- ---- a tree or a fault

one_outcome : (o : Outcome) → HasOne (option_map (items_from []) (cut_in o)) (fault_in o)
one_outcome (Ok ss) = tt
one_outcome (Err fault) = tt

pub one_of_both : (text : List ℕ) → HasOne (junos_tree text) (junos_fault text)
unfolding junos_tree
one_of_both text = one_outcome (cut_or_fault text)
