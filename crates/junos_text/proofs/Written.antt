-- What is written, from the text that is put together.
use Rattle.std.proofs.Common.{◌≡◌, refl, sym, ap, subst, ◌∙◌, ℕ, List, [], ◌∷◌, ◌++◌, Some, Result, Ok, Err, append_assoc, append-nil, length, arith}
use Rattle.std.specs.Prelude.{codes, IfOk, option_map}
use Rattle.route_types.specs.Address.{PrefixParts}
use Rattle.route_types.specs.Print.{prefix_text}
use Rattle.text_words.specs.Pieces.{text_behind, words_text}
use Rattle.text_words.specs.declared.memory.Memory.{Memory}
use Rattle.junos_tree.specs.Tree.{junos_tree}
use Rattle.junos_text.specs.Layout.{forms_of, text_of}
use Rattle.junos_text.specs.Texts.{whole_text}
use Rattle.junos_text.specs.Words.{type_words, values_words}
use Rattle.junos_text.specs.Written.{MayBeWritten, ReadsAs, forms}
use Rattle.junos_text.specs.declared.option.PolicyOption.{PolicyOption}
use Rattle.junos_text.proofs.Definitions.{options_are_read, options_found}
use Rattle.junos_text.proofs.Texts.{text_is_whole}

behind_both : (ws vs : List (List ℕ)) → text_behind (ws ++ vs) ≡ text_behind ws ++ text_behind vs
behind_both [] vs = refl
behind_both (w ∷ ws) vs = ap (λ (t : List ℕ). 32 ∷ t) (ap (λ (t : List ℕ). w ++ t) (behind_both ws vs) ∙ sym (append_assoc w (text_behind ws) (text_behind vs)))

bracketed : (ws : List (List ℕ)) → text_behind (codes "[" ∷ (ws ++ (codes "]" ∷ []))) ≡ 32 ∷ 91 ∷ (text_behind ws ++ (32 ∷ 93 ∷ []))
bracketed ws = ap (λ (t : List ℕ). 32 ∷ 91 ∷ t) (behind_both ws (codes "]" ∷ []))

-- words behind others
pub type_behind : (v w : List ℕ) (ws : List (List ℕ)) → words_text (v ∷ w ∷ []) ++ text_behind ws ≡ words_text (v ∷ w ∷ ws)
unfolding words_text
type_behind v w ws = append_assoc v (text_behind (w ∷ [])) (text_behind ws) ∙ ap (λ (t : List ℕ). v ++ (32 ∷ t)) (ap (λ (t : List ℕ). t ++ text_behind ws) (append-nil w))

pub members_behind : (u v w : List ℕ) (ws : List (List ℕ)) → words_text (u ∷ v ∷ w ∷ []) ++ text_behind ws ≡ words_text (u ∷ v ∷ w ∷ ws)
unfolding words_text
members_behind u v w ws = append_assoc u (text_behind (v ∷ w ∷ [])) (text_behind ws) ∙ ap (λ (t : List ℕ). u ++ t) (sym (behind_both (v ∷ w ∷ []) ws))

-- one word alone
pub alone_behind : (ws : List (List ℕ)) → length ws ≡ 1 → text_behind ws ≡ text_behind (values_words ws)
alone_behind [] one = absurd (omega (arith, one))
alone_behind (w ∷ []) one = refl
alone_behind (w ∷ v ∷ ws) one = absurd (omega (arith, one))

-- several in brackets
pub brackets_behind : (ws : List (List ℕ)) → (length ws ≡ 1 → ⊥) → 32 ∷ 91 ∷ (text_behind ws ++ (32 ∷ 93 ∷ [])) ≡ text_behind (values_words ws)
brackets_behind [] other = refl
brackets_behind (w ∷ []) other = absurd (other refl)
brackets_behind (w ∷ v ∷ ws) other = sym (bracketed (w ∷ v ∷ ws))

pub text_written : (os : List PolicyOption) (r : Result (List ℕ) Memory) → IfOk r (λ t. t ≡ whole_text os) → IfOk r (λ t. t ≡ text_of os)
text_written os (Ok t) e = e ∙ sym (text_is_whole os)
text_written os (Err m) e = tt

pub reads_written : (os : List PolicyOption) (r : Result (List ℕ) Memory) → MayBeWritten os → IfOk r (λ t. t ≡ whole_text os) → IfOk r (λ t. ReadsAs t os)
reads_written os (Ok t) h e = subst (λ (x : List ℕ). ReadsAs x os) (sym (e ∙ sym (text_is_whole os))) (options_are_read os h)
reads_written os (Err m) h e = tt

pub tree_written : (os : List PolicyOption) (r : Result (List ℕ) Memory) → MayBeWritten os → IfOk r (λ t. t ≡ whole_text os) → IfOk r (λ t. option_map forms (junos_tree t) ≡ Some (forms_of os))
tree_written os (Ok t) h e = ap (λ (x : List ℕ). option_map forms (junos_tree x)) (e ∙ sym (text_is_whole os)) ∙ options_found os h
tree_written os (Err m) h e = tt

-- a text that is put behind another one
pub ends_so : {A E : Type 0} (r : Result A E) (new mid before t u v : List ℕ) → mid ≡ before ++ t → t ++ u ≡ v → IfOk r (λ _. new ≡ mid ++ u) → IfOk r (λ _. new ≡ before ++ v)
ends_so (Ok x) new mid before t u v m e h = h ∙ ap (λ (w : List ℕ). w ++ u) m ∙ append_assoc before t u ∙ ap (λ (w : List ℕ). before ++ w) e
ends_so (Err x) new mid before t u v m e h = tt

pub range_said : (key : List ℕ) (p q : PrefixParts) (a b d l m : ℕ) → p ≡ q → a ≡ p.length → b ≡ l → d ≡ m → words_text (key ∷ prefix_text p ∷ []) ++ text_behind (type_words a b d) ≡ words_text (key ∷ prefix_text q ∷ type_words q.length l m)
range_said key p q a b d l m e f g h = rw (sym e, f, g, h) (type_behind key (prefix_text p) (type_words p.length l m))
