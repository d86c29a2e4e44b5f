-- Sorts of one number are one, so that a set of names with the numbers of sorts tells definitions.
use Rattle.std.proofs.Common.{◌≡◌, refl, sym, ap, ◌∙◌, ℕ, Bool, true, false, ◌&&◌, ◌||◌, List, [], ◌∷◌, Option, Some, None}
use Rattle.std.specs.Prelude.{bytes_eq, ◌==◌}
use Rattle.std.specs.List.{list_any}
use denote.Ref.{Bor}
use Rattle.policy_text.specs.Names.{is_named}
use Rattle.policy_text.specs.NameSets.{has_name, is_key}
use Rattle.junos_tree.specs.Sorts.{same_sort}
use Rattle.junos_tree.specs.declared.item.StatementSort.{StatementSort}
use Rattle.junos_tree.specs.declared.item.StatementSort.TheVariants.{PrefixList, Community, AsPath, Policy, Inner}
use Rattle.junos_reader.specs.Forms.{sort_code}

pub same_codes : (a b : StatementSort) → same_sort a b ≡ (sort_code a == sort_code b)
same_codes PrefixList PrefixList = refl
same_codes PrefixList Community = refl
same_codes PrefixList AsPath = refl
same_codes PrefixList Policy = refl
same_codes PrefixList Inner = refl
same_codes Community PrefixList = refl
same_codes Community Community = refl
same_codes Community AsPath = refl
same_codes Community Policy = refl
same_codes Community Inner = refl
same_codes AsPath PrefixList = refl
same_codes AsPath Community = refl
same_codes AsPath AsPath = refl
same_codes AsPath Policy = refl
same_codes AsPath Inner = refl
same_codes Policy PrefixList = refl
same_codes Policy Community = refl
same_codes Policy AsPath = refl
same_codes Policy Policy = refl
same_codes Policy Inner = refl
same_codes Inner PrefixList = refl
same_codes Inner Community = refl
same_codes Inner AsPath = refl
same_codes Inner Policy = refl
same_codes Inner Inner = refl

-- the names that a form names are in the set
pub named_added : (sort other : StatementSort) (found : Bool) → ((0 == 0) && (sort_code sort == sort_code other) && found) ≡ (same_sort sort other && found)
named_added sort other found = ap (λ (b : Bool). b && found) (sym (same_codes sort other))

-- the definition of a name is in the set
pub definition_added : (sort other : StatementSort) (q name : List ℕ) → is_key q (sort_code sort) 0 name (sort_code other) 0 ≡ (same_sort sort other && is_named q (Some name))
definition_added sort other q name = ap (λ (b : Bool). b && bytes_eq q name) (sym (same_codes sort other))
