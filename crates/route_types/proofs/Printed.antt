-- A printed prefix reads as itself.
use Rattle.std.proofs.Common.{◌≡◌, sym, ap, subst, ◌∙◌, ℕ, Bool, false, ◌||◌, ◌+◌, ◌-◌, ◌*◌, ◌/◌, ◌%◌, ◌^◌, ◌<◌, ◌≤◌, List, ◌∷◌, ◌++◌, Some, arith}
use Rattle.std.specs.Prelude.{decimal}
use Rattle.std.specs.List.{list_any}
use Rattle.std.proofs.lemmas.Bool.{or_from}
use Rattle.std.proofs.lemmas.List.Folds.{list_any-append}
use Rattle.std.proofs.Math.Nat.{mul-mod_left}
use Rattle.std.proofs.lemmas.Nat.{div-add-mod'}
use Rattle.route_types.specs.Address.{PrefixParts, IsMasked, width, prefix_of}
use Rattle.route_types.specs.Words.{Octets, dotted, address_of, prefix_in}
use Rattle.route_types.specs.Print.{octets_of, prefix_text}
use Rattle.route_types.specs.declared.address.Address.{Address}
use Rattle.route_types.specs.declared.address.Family.{Family}
use Rattle.route_types.specs.declared.address.Family.TheVariants.{V4}
use Rattle.route_types.proofs.Spelled.{ap2, AreOctets, prefix_in_spelled, prefix_in_found}
use Rattle.route_types.proofs.Numbers.{StartsWithDigit, decimal_avoids, decimal_starts}

multiple : (n m : ℕ) → n % m ≡ 0 → n / m * m ≡ n
multiple n m e = omega (arith, div-add-mod' n m, e)

pub octets_within : (a : Address) → a.bits < 2 ^ 32 → AreOctets (octets_of a)
octets_within a h = record { first = omega arith; second = omega arith; third = omega arith; fourth = omega arith }

octets_value : (b : ℕ) → b < 2 ^ 32 → ((b / 256 / 256 / 256 % 256 * 256 + b / 256 / 256 % 256) * 256 + b / 256 % 256) * 256 + b % 256 ≡ b
octets_value b small = omega arith

pub octets_address : (a : Address) → a.family ≡ V4 → a.bits < 2 ^ 32 → address_of (octets_of a) ≡ a
octets_address a e small = ap2 (λ (f : Family) (b : ℕ). record { family = f; bits = b }) (sym e) (octets_value a.bits small)

-- a masked address is its own masked address
pub masked_is : (p : PrefixParts) → IsMasked p.address p.length → prefix_of p.address p.length ≡ p
masked_is p h =
    let block = 2 ^ (width p.address.family - p.length) in
    let e : p.address.bits / block * block ≡ p.address.bits = multiple p.address.bits block h.masked in
    ap (λ (b : ℕ). record { address = record { family = p.address.family; bits = b }; length = p.length }) e

small : (p : PrefixParts) → p.address.family ≡ V4 → IsMasked p.address p.length → (p.address.bits < 2 ^ 32) × (p.length ≤ 32)
small p v4 h =
    (subst (λ (f : Family). p.address.bits < 2 ^ width f) v4 h.fits, subst (λ (f : Family). p.length ≤ width f) v4 h.within)

-- each IPv4 prefix is that of four numbers and a length
pub octets_prefix : (p : PrefixParts) → p.address.family ≡ V4 → IsMasked p.address p.length → prefix_of (address_of (octets_of p.address)) p.length ≡ p
octets_prefix p v4 h = ap (λ (a : Address). prefix_of a p.length) (octets_address p.address v4 (small p v4 h).0) ∙ masked_is p h

-- the text of an IPv4 prefix reads as that prefix
pub prefix_in_printed : (p : PrefixParts) → p.address.family ≡ V4 → IsMasked p.address p.length → prefix_in (prefix_text p) ≡ Some p
unfolding prefix_text
prefix_in_printed p v4 h =
    let s = small p v4 h in
    prefix_in_spelled (octets_of p.address) p.length (octets_within p.address s.0) s.1 ∙ ap (λ (q : PrefixParts). Some q) (octets_prefix p v4 h)

-- a prefix that a word spells is an IPv4 one, and its host bits are 0
pub record IsPlain (p : PrefixParts) : Type 0 where
  pub family : p.address.family ≡ V4
  pub masked : IsMasked p.address p.length

-- the prefix of an IPv4 address and a length
pub prefix_of_plain : (a : Address) (n : ℕ) → a.family ≡ V4 → a.bits < 2 ^ 32 → n ≤ 32 → IsPlain (prefix_of a n)
prefix_of_plain a n v4 small within =
    let block = 2 ^ (width a.family - n) in
    record {
      family = v4;
      masked = record {
        fits = subst (λ (f : Family). a.bits / block * block < 2 ^ width f) (sym v4) (omega (arith, div-add-mod' a.bits block));
        within = subst (λ (f : Family). n ≤ width f) (sym v4) within;
        masked = mul-mod_left (a.bits / block) block;
      };
    }

-- four bytes make an address of 32 bits
pub address_fits : (o : Octets) → AreOctets o → (address_of o).bits < 2 ^ 32
address_fits o h = omega (arith, h.first, h.second, h.third, h.fourth)

pub prefix_in_plain : (word : List ℕ) (p : PrefixParts) → prefix_in word ≡ Some p → IsPlain p
prefix_in_plain word p e =
    let f = prefix_in_found word p e in
    let a = f.spells_address in
    let octets : AreOctets a.octets = record { first = a.first; second = a.second; third = a.third; fourth = a.fourth } in
    subst IsPlain (sym f.value) (prefix_of_plain f.address f.length (ap (λ (x : Address). x.family) a.value) (subst (λ (x : Address). x.bits < 2 ^ 32) (sym a.value) (address_fits a.octets octets)) f.within)

-- a test that holds for no digit, no dot and no slash
pub record Avoids (t : ℕ → Bool) : Type 0 where
  pub digit : (c : ℕ) → 48 ≤ c → c ≤ 57 → t c ≡ false
  pub dot : t 46 ≡ false
  pub slash : t 47 ≡ false

joined_avoids : (t : ℕ → Bool) (b n : ℕ) (rest : List ℕ) → Avoids t → t b ≡ false → n < 2 ^ 64 → list_any t rest ≡ false → list_any t (decimal n ++ (b ∷ rest)) ≡ false
joined_avoids t b n rest h mark small more =
    list_any-append t (decimal n) (b ∷ rest)
    ∙ or_from (list_any t (decimal n)) (t b || list_any t rest) (decimal_avoids t h.digit n small) (or_from (t b) (list_any t rest) mark more)

-- it holds for no byte of four numbers joined by dots
pub dotted_avoids : (t : ℕ → Bool) (o : Octets) → Avoids t → AreOctets o → list_any t (dotted o) ≡ false
dotted_avoids t o h a =
    joined_avoids t 46 o.first (decimal o.second ++ (46 ∷ decimal o.third ++ (46 ∷ decimal o.fourth))) h h.dot (omega (arith, a.first))
    (joined_avoids t 46 o.second (decimal o.third ++ (46 ∷ decimal o.fourth)) h h.dot (omega (arith, a.second))
    (joined_avoids t 46 o.third (decimal o.fourth) h h.dot (omega (arith, a.third)) (decimal_avoids t h.digit o.fourth (omega (arith, a.fourth)))))

-- it holds for no byte of an IPv4 prefix's text
pub prefix_text_avoids : (t : ℕ → Bool) (p : PrefixParts) → Avoids t → IsPlain p → list_any t (prefix_text p) ≡ false
unfolding prefix_text
prefix_text_avoids t p h plain =
    let s = small p plain.family plain.masked in
    list_any-append t (dotted (octets_of p.address)) (47 ∷ decimal p.length)
    ∙ or_from (list_any t (dotted (octets_of p.address))) (t 47 || list_any t (decimal p.length))
    (dotted_avoids t (octets_of p.address) h (octets_within p.address s.0))
    (or_from (t 47) (list_any t (decimal p.length)) h.slash (decimal_avoids t h.digit p.length (omega (arith, s.1))))

-- what starts with a digit still does with more behind it
pub append_starts : (front rest : List ℕ) → StartsWithDigit front → StartsWithDigit (front ++ rest)
append_starts front rest h = record { first = h.first; behind = h.behind ++ rest; is = ap (λ (x : List ℕ). x ++ rest) h.is; digit = h.digit }

-- an IPv4 prefix's text has a first byte, a digit
pub prefix_text_starts : (p : PrefixParts) → IsPlain p → StartsWithDigit (prefix_text p)
unfolding prefix_text
prefix_text_starts p plain =
    let o = octets_of p.address in
    let s = small p plain.family plain.masked in
    let first = decimal_starts o.first (omega (arith, s.0)) in
    append_starts (dotted o) (47 ∷ decimal p.length) (append_starts (decimal o.first) (46 ∷ decimal o.second ++ (46 ∷ decimal o.third ++ (46 ∷ decimal o.fourth))) first)
