-- What is kept of a term: nothing at its start, and one more form.
use Rattle.std.proofs.Common.{◌≡◌, refl, sym, ap, ◌∙◌, ℕ, ◌<◌, Bool, true, false, ◌||◌, List, [], ◌∷◌, length, get_or, Option, Some, None, inl, inr, arith}
use Rattle.std.specs.Prelude.{◌==◌, set, IfSome}
use Rattle.std.specs.List.{list_any}
use Rattle.std.proofs.lemmas.Bool.{cases_order, eq-eqb, ne_eqb}
use Rattle.std.proofs.lemmas.Grind.{get_or-set_at}
use Rattle.std.proofs.lemmas.List.{get_or-set_other, get_or-replicate, get_or_past, length-set}
use Rattle.route_types.specs.Address.{PrefixParts}
use Rattle.policy_text.proofs.Flags.{flag_more}
use Rattle.junos_tree.specs.declared.item.JunosForm.{JunosForm}
use Rattle.junos_reader.specs.Forms.{kind_of, is_kind, filter_of, is_prefix}
use Rattle.junos_reader.specs.Before.{Earlier, earlier}
use Rattle.junos_reader.specs.Known.{no_kinds, kinds_with, has_prefix, told_term, earlier_behind, IsEmptyTerm, IsNoted}
use Rattle.junos_reader.specs.declared.state.TermState.{TermState}

no_kind : (k : ℕ) → get_or no_kinds k false ≡ false
no_kind k = elim (cases_order k 8) [
  | inl same ↦ get_or_past no_kinds k false (omega arith)
  | inr apart ↦ elim apart [ inl lt ↦ get_or-replicate 8 k false false lt | inr gt ↦ get_or_past no_kinds k false (omega arith) ]
]

pub empty_is : (t : TermState) → t.kinds ≡ no_kinds → ((p : PrefixParts) → has_prefix t.filters p ≡ false) → IsEmptyTerm t
empty_is t kinds filters = record {
  tells = λ j. record { kinds = λ k. (ap (λ (ks : List Bool). get_or ks k false) kinds ∙ no_kind k) j; filters = λ p. filters p j };
  len = ap (λ (ks : List Bool). length ks) kinds;
}

kinds_more : (xs : List Bool) (kind : Option ℕ) (k : ℕ) → length xs ≡ 8 → IfSome kind (λ m. m < 8) → get_or (kinds_with xs kind) k false ≡ (is_kind k kind || get_or xs k false)
kinds_more xs None k len within = refl
kinds_more xs (Some m) k len within = flag_more xs m k (omega (arith, within, len))

kinds_len : (xs : List Bool) (kind : Option ℕ) → length (kinds_with xs kind) ≡ length xs
kinds_len xs None = refl
kinds_len xs (Some m) = length-set xs m true

module _ (f : JunosForm) (old new : TermState) (noted : IsNoted f old new) (len : length old.kinds ≡ 8) where
  pub noted_tells : told_term new ≡ earlier_behind f (told_term old)
  noted_tells = λ j. record {
    kinds = λ k. (ap (λ (ks : List Bool). get_or ks k false) noted.kinds ∙ kinds_more old.kinds (kind_of f) k len noted.within) j;
    filters = λ p. noted.filters p j;
  }

  pub noted_len : length new.kinds ≡ 8
  noted_len = ap (λ (ks : List Bool). length ks) noted.kinds ∙ kinds_len old.kinds (kind_of f) ∙ len
