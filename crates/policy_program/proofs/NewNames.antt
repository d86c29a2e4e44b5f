-- The name of a policy that is written may stand at the head of a block.
use Rattle.std.proofs.Common.{◌≡◌, refl, ℕ, true, ◌&&◌, List, [], ◌∷◌, length, arith}
use Rattle.std.specs.Prelude.{nat_le}
use Rattle.std.specs.List.{list_all}
use Rattle.std.proofs.lemmas.Bool.{and_parts, and_from}
use Rattle.policy_request.specs.NewNames.{is_letter, is_name_byte, is_new_name}
use Rattle.rpl_text.specs.Written.{HeadsBlock}
use Rattle.rpl_writable.proofs.NameLaws.{sort_heads}

letter_named : (c : ℕ) → is_letter c ≡ true → is_name_byte c ≡ true
letter_named c e = rw e refl

pub new_name_heads : (name : List ℕ) → is_new_name name ≡ true → HeadsBlock name
new_name_heads [] named = absurd cc
new_name_heads (c ∷ cs) named =
    let parts = and_parts (is_letter c && list_all is_name_byte cs) (nat_le (length cs) 62) named in
    let bytes = and_parts (is_letter c) (list_all is_name_byte cs) parts.0 in
    sort_heads is_name_byte (c ∷ cs) refl (omega arith) (and_from (is_name_byte c) (list_all is_name_byte cs) (letter_named c bytes.0) bytes.1)
