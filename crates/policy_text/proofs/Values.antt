-- The values of words agree with what they spell.
use Rattle.std.proofs.Common.{◌≡◌, sym, ap, ◌∙◌, ℕ, ◌<◌, ◌^◌, List, ◌∷◌, ◌++◌, Some, arith}
use Rattle.std.specs.Prelude.{decimal}
use Rattle.route_types.specs.Address.{PrefixParts, prefix_of}
use Rattle.route_types.specs.Words.{number_in, address_in, prefix_in, community_in, IsNumber, IsAddress, IsPrefix, IsCommunity}
use Rattle.route_types.specs.declared.address.Address.{Address}
use Rattle.route_types.specs.declared.community.Community.{Community}
use Rattle.route_types.specs.RouteLines.{origin_in}
use Rattle.route_types.specs.RouteText.{SpellsOrigin}
use Rattle.route_types.proofs.RouteWords.{origins}
use Rattle.route_types.proofs.Numbers.{when_true, number_in_found, number_in_spelled}
use Rattle.route_types.proofs.Spelled.{address_in_found, address_in_spelled, prefix_in_found, prefix_in_spelled, community_in_found, community_in_spelled}
use Rattle.policy_text.specs.Names.{is_name}
use Rattle.policy_text.specs.Phrases.{Agrees, IsNameWord, name_in}
use Rattle.policy_text.proofs.Phrases.{when_found}

pub name_agrees : Agrees name_in IsNameWord
name_agrees = record {
  found = λ w v e. let h = when_found (is_name w) w v e in record { named = h.0; is = sym h.1 };
  only = λ w v h. when_true (is_name w) w h.named ∙ ap (λ (x : List ℕ). Some x) (sym h.is);
}

pub number_agrees : (most : ℕ) → most < 2 ^ 64 → Agrees (number_in most) (IsNumber most)
number_agrees most small = record {
  found = λ w n e. number_in_found most w n small e;
  only = λ w n h. ap (λ (x : List ℕ). number_in most x) h.spelled ∙ number_in_spelled most n h.within (omega (arith, h.within));
}

pub address_agrees : Agrees address_in IsAddress
address_agrees = record {
  found = address_in_found;
  only = λ w a h.
      ap (λ (x : List ℕ). address_in x) h.spelled
      ∙ address_in_spelled h.octets (record { first = h.first; second = h.second; third = h.third; fourth = h.fourth })
      ∙ ap (λ (b : Address). Some b) (sym h.value);
}

prefix_only : (w : List ℕ) (p : PrefixParts) → IsPrefix w p → prefix_in w ≡ Some p
prefix_only w p h =
    let a = h.spells_address in
    let text : w ≡ _ = h.spelled ∙ ap (λ (x : List ℕ). x ++ (47 ∷ decimal h.length)) a.spelled in
    ap (λ (x : List ℕ). prefix_in x) text
    ∙ prefix_in_spelled a.octets h.length (record { first = a.first; second = a.second; third = a.third; fourth = a.fourth }) h.within
    ∙ ap (λ (q : PrefixParts). Some q) (sym (h.value ∙ ap (λ x. prefix_of x h.length) a.value))

pub prefix_agrees : Agrees prefix_in IsPrefix
prefix_agrees = record { found = prefix_in_found; only = prefix_only }

pub community_agrees : Agrees community_in IsCommunity
community_agrees = record {
  found = community_in_found;
  only = λ w c h.
      ap (λ (x : List ℕ). community_in x) h.spelled ∙ community_in_spelled h.high h.low h.high_within h.low_within
      ∙ ap (λ (d : Community). Some d) (sym h.value);
}

pub origin_agrees : Agrees origin_in SpellsOrigin
origin_agrees = record { found = origins.found; only = origins.again }
