-- Worked examples that the checker computes.
use Rattle.std.proofs.Common.{◌≡◌, refl}
use Rattle.std.specs.Prelude.{Some, None, codes}
use Rattle.route_types.specs.Words.{number_in, prefix_in, parts_at, address_in, community_in}
use Rattle.route_types.specs.declared.address.Family.TheVariants.{V4}

number : number_in 32 (codes "24") ≡ Some 24
unfolding number_in
number = refl

too_large : number_in 32 (codes "33") ≡ None
unfolding number_in
too_large = refl

leading_zero : number_in 32 (codes "08") ≡ None
unfolding number_in
leading_zero = refl

ten_slash_eight : prefix_in (codes "10.1.0.0/8") ≡ Some (record { address = record { family = V4; bits = 167772160 }; length = 8 })
unfolding prefix_in number_in parts_at address_in
ten_slash_eight = refl

community : community_in (codes "65001:7") ≡ Some (record { 0 = 4259905543 })
unfolding number_in parts_at community_in
community = refl
