-- Worked examples that the checker computes.
use Rattle.std.proofs.Common.{◌≡◌, refl, ℕ, Bool, ◌&&◌, inr, arith}
use Rattle.std.specs.Prelude.{codes, nat_le}
use Rattle.std.specs.Fmt.{digits}
use Rattle.rpl_layout.specs.Forms.{prefix_name}
use Rattle.rpl_text.specs.Written.{HeadsBlock}
use Rattle.rpl_writable.specs.Names.{IsOwnName}
use Rattle.rpl_writable.proofs.NameLaws.{sort_heads}

-- a small letter
is_small : ℕ → Bool
is_small c = nat_le 97 c && nat_le c 122

-- no byte that breaks a name is a small letter, so `drop` may name a block
letters : HeadsBlock (codes "drop")
unfolding is_small
letters = sort_heads is_small (codes "drop") refl (omega arith) refl

-- the third set of prefixes stands under the policy's name
third : prefix_name (codes "PEER") 2 ≡ codes "PEER-p3"
unfolding digits
third = refl

own : IsOwnName (codes "PEER") (codes "PEER-p3")
own = inr (codes "p3", refl)
