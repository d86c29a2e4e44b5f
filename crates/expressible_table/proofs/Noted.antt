-- The prefix lists that are noted are those that have an entry which isn't of full length.
use Rattle.std.proofs.Common.{◌≡◌, refl, ap, ◌∙◌, ℕ, Bool, ◌&&◌, ◌||◌, not, List, [], ◌∷◌, bytes_eq}
use Rattle.std.specs.Prelude.{◌==◌}
use Rattle.std.specs.List.{list_any}
use Rattle.route_types.specs.Address.{width, same_family}
use Rattle.route_types.specs.declared.address.Family.{Family}
use Rattle.route_types.specs.declared.address.Family.TheVariants.{V4, V6}
use Rattle.ios_tree.specs.Tree.{family_of}
use Rattle.ios_tree.specs.declared.item.IosForm.{IosForm}
use Rattle.ios_tree.specs.declared.item.IosForm.TheVariants.{PrefixEntry}
use Rattle.ios_tree.specs.declared.item.IosItem.{IosItem}
use Rattle.expressible_table.specs.Kinds.{is_short, has_short}
use Rattle.expressible_table.specs.Noted.{gives_short}

-- families are the same where their widths are
widths_same : (asked family : Family) (named : Bool) (length : ℕ)
    → (((width asked == width family) && named) && not (length == width family)) ≡ ((same_family asked family && named) && not (length == width asked))
widths_same V4 V4 named length = refl
widths_same V4 V6 named length = refl
widths_same V6 V4 named length = refl
widths_same V6 V6 named length = refl

form_same : (family : Family) (list : List ℕ) (f : IosForm) → gives_short list (width family) 0 f ≡ is_short family list f
form_same family list (PrefixEntry e) = widths_same family (family_of e) (bytes_eq list e.list) e.entry.range.prefix.length
form_same family list _ = refl

pub short_same : (family : Family) (list : List ℕ) (all : List IosItem) → list_any (λ i. gives_short list (width family) 0 i.form) all ≡ has_short all family list
short_same family list [] = refl
short_same family list (i ∷ is) =
    ap (λ (b : Bool). b || list_any (λ i. gives_short list (width family) 0 i.form) is) (form_same family list i.form)
    ∙ ap (λ (b : Bool). is_short family list i.form || b) (short_same family list is)
