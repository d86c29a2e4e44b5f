-- The text of items that can be written spells them, and they match some path.
use Rattle.std.proofs.Common.{◌≡◌, refl, sym, ◌∙◌, ℕ, ◌≤◌, Bool, true, false, ◌&&◌, ◌==◌, if◌then◌else◌, List, [], ◌∷◌, ◌++◌, length, map, Option, Some, None, codes, decimal, arith, inl, inr, append-nil}
use Rattle.std.specs.List.{list_any, AllByRecursion}
use Rattle.std.proofs.lemmas.Bool.{and_parts, eqb-true, or_left}
use Rattle.path_patterns.specs.Items.{Takes, AtMost, in_range, takes_of, greatest}
use Rattle.aspath_text.specs.JunosGrammar.{SpellsRange, SpellsMember, SpellsSet, SpellsCount, SpellsItem, SpellsItems}
use Rattle.path_patterns.specs.JunosItems.{HasNumbers, IsSmallBound, IsWritable, item_of}
use Rattle.aspath_text.specs.JunosText.{range_text, set_text, exact_text, between_text, count_text, item_text, items_text}
use Rattle.path_patterns.specs.declared.items.NumberRange.{NumberRange}
use Rattle.path_patterns.specs.declared.items.TokenItem.{TokenItem}
use Rattle.path_patterns.proofs.MergedLaws.{holds_least}
use Rattle.path_patterns.proofs.Lists.{each_spelled}
use Rattle.aspath_text.proofs.JoinedLaws.{joined_spaced}
use Rattle.aspath_text.proofs.SomePath.{SomeTaken, none_taken, more_taken}

-- ---- ranges and sets

range_by : (r : NumberRange) (b c : Bool) → (r.least == r.most) ≡ b → ((r.least == 0) && (r.most == greatest)) ≡ c → HasNumbers r → SpellsRange (if b then decimal r.least else (if c then codes "." else decimal r.least ++ (45 ∷ decimal r.most))) r
range_by r true c e f h = inr (inl (record { spelled = refl; within = omega (arith, h.0, h.1) }, sym (eqb-true r.least r.most e)))
range_by r false true e f h =
    let p = and_parts (r.least == 0) (r.most == greatest) f in
    inl (refl, eqb-true r.least 0 p.0, eqb-true r.most greatest p.1)
range_by r false false e f h = inr (inr (refl, h.0, h.1))

range_spelled : (r : NumberRange) → HasNumbers r → SpellsRange (range_text r) r
unfolding range_text
range_spelled r h = range_by r (r.least == r.most) ((r.least == 0) && (r.most == greatest)) refl refl h

member_spelled : (r : NumberRange) → HasNumbers r → SpellsMember (range_text r) r
member_spelled r h = record {
  before = [];
  word = range_text r;
  behind = [];
  spelled = sym (append-nil (range_text r));
  range = range_spelled r h;
  blanks_before = refl;
  blanks_behind = refl;
}

set_spelled : (rs : List NumberRange) → 1 ≤ length rs → AllByRecursion HasNumbers rs → SpellsSet (set_text rs) (record { ranges = rs })
unfolding set_text
set_spelled [] some h = absurd (omega (arith, some))
set_spelled (r ∷ []) some h = inl (r, refl, range_spelled r h.0)
set_spelled (r ∷ s ∷ rs) some h = inr (map range_text (r ∷ s ∷ rs), refl, each_spelled HasNumbers SpellsMember range_text member_spelled (r ∷ s ∷ rs) h, some)

-- ---- counts

more_by : (least : ℕ) (b c : Bool) → (least == 0) ≡ b → (least == 1) ≡ c → least ≤ 255 → SpellsCount (if b then codes "*" else (if c then codes "+" else 123 ∷ (decimal least ++ codes ",}"))) least None
more_by least true c e f h = inl (refl, eqb-true least 0 e)
more_by least false true e f h = inr (inl (refl, eqb-true least 1 f))
more_by least false false e f h = inr (inr (refl, h))

exact_by : (least most : ℕ) (b : Bool) → (least == 1) ≡ b → least ≡ most → least ≤ 255 → SpellsCount (if b then [] else 123 ∷ (decimal least ++ codes "}")) least (Some most)
exact_by least most true e same h = inl (refl, eqb-true least 1 e, sym same ∙ eqb-true least 1 e)
exact_by least most false e same h = inr (inr (inl (refl, h, sym same)))

between_by : (least most : ℕ) (b : Bool) → ((least == 0) && (most == 1)) ≡ b → least ≤ most → most ≤ 255 → SpellsCount (if b then codes "?" else 123 ∷ (decimal least ++ (44 ∷ (decimal most ++ codes "}")))) least (Some most)
between_by least most true e h k =
    let p = and_parts (least == 0) (most == 1) e in
    inr (inl (refl, eqb-true least 0 p.0, eqb-true most 1 p.1))
between_by least most false e h k = inr (inr (inr (refl, h, k)))

ending_by : (least most : ℕ) (b : Bool) → (least == most) ≡ b → least ≤ 255 → least ≤ most → most ≤ 255 → SpellsCount (if b then exact_text least else between_text least most) least (Some most)
ending_by least most true e l h k = exact_by least most (least == 1) refl (eqb-true least most e) l
ending_by least most false e l h k = between_by least most ((least == 0) && (most == 1)) refl h k

count_spelled : (least : ℕ) (most : Option ℕ) → least ≤ 255 → IsSmallBound least most → SpellsCount (count_text least most) least most
unfolding count_text
count_spelled least None l h = more_by least (least == 0) (least == 1) refl refl l
count_spelled least (Some most) l h = ending_by least most (least == most) refl l h.0 h.1

-- ---- items

item_spelled : (i : TokenItem) → IsWritable i → SpellsItem (item_text i) i
unfolding item_text
item_spelled i h =
    record { set = set_text i.set.ranges; count = count_text i.least i.most; spelled = refl; numbers = set_spelled i.set.ranges h.some h.ranges; counted = count_spelled i.least i.most h.least h.most }

-- the text of items spells them
pub items_spelled : (is : List TokenItem) → AllByRecursion IsWritable is → SpellsItems (items_text is) is
unfolding items_text
items_spelled [] h = inl (refl, refl)
items_spelled (i ∷ is) h = inr (map item_text (i ∷ is), joined_spaced (item_text i) (map item_text is), each_spelled IsWritable SpellsItem item_text item_spelled (i ∷ is) h)

-- ---- a path that is matched

in_first : (r : NumberRange) (rs : List NumberRange) → HasNumbers r → list_any (λ x. in_range x r.least) (r ∷ rs) ≡ true
in_first r rs h = or_left (in_range r r.least) (list_any (λ x. in_range x r.least) rs) (holds_least r h.0)

at_most_bound : (least : ℕ) (most : Option ℕ) → IsSmallBound least most → AtMost least most
at_most_bound least None h = tt
at_most_bound least (Some most) h = h.0

item_taken : (rs : List NumberRange) (least : ℕ) (most : Option ℕ) (ts : List Takes) → 1 ≤ length rs → AllByRecursion HasNumbers rs → AtMost least most → SomeTaken ts → SomeTaken (takes_of (item_of rs least most) ∷ ts)
item_taken [] least most ts some h bound more = absurd (omega (arith, some))
item_taken (r ∷ rs) least most ts some h bound more =
    more_taken (takes_of (item_of (r ∷ rs) least most)) r.least ts (omega (arith, h.0.0, h.0.1)) (in_first r rs h.0) bound more

-- items that can be written match some path
pub some_path : (is : List TokenItem) → AllByRecursion IsWritable is → SomeTaken (map takes_of is)
some_path [] h = none_taken
some_path (i ∷ is) h = item_taken i.set.ranges i.least i.most (map takes_of is) h.0.some h.0.ranges (at_most_bound i.least i.most h.0.most) (some_path is h.1)
