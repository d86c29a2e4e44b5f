-- The walk that keeps the entry of lowest number that holds finds what the first match in order answers.
use Rattle.std.proofs.Common.{◌≡◌, refl, sym, ap, subst, ◌∙◌, ℕ, ◌<◌, ◌≤◌, Bool, true, false, ◌&&◌, List, [], ◌∷◌, Option, Some, None, arith}
use Rattle.std.specs.Prelude.{nat_le, nat_lt, map, bytes_eq}
use Rattle.std.specs.Option.{option_map_or}
use Rattle.std.specs.List.{list_any}
use Rattle.std.proofs.lemmas.Bool.{leb-true, leb-false, ltb-true, ltb-false, lt-ltb, le-ltb, le-leb, lt-leb}
use Rattle.route_types.specs.Address.{PrefixParts, width, same_family}
use Rattle.route_types.specs.declared.address.Address.{Address}
use Rattle.route_types.specs.declared.address.Family.{Family}
use Rattle.route_types.specs.declared.route.NextHop.{NextHop}
use Rattle.route_types.specs.declared.route.NextHop.TheVariants.{At}
use Rattle.route_types.specs.declared.address.Family.TheVariants.{V4, V6}
use Rattle.prefix_sets.specs.Range.{in_range}
use Rattle.prefix_sets.specs.FirstMatch.{first_match}
use Rattle.name_maps.specs.declared.map.NameMap.{NameMap}
use Rattle.ios_tree.specs.Tree.{family_of}
use Rattle.ios_tree.specs.declared.item.PrefixListEntry.{PrefixListEntry}
use Rattle.ios_tree.specs.declared.item.IosForm.{IosForm}
use Rattle.ios_tree.specs.declared.item.IosForm.TheVariants.{PrefixEntry as OfPrefixList}
use Rattle.ios_tree.specs.declared.item.IosItem.{IosItem}
use Rattle.ios_meaning.specs.Order.{put_in_order, in_order}
use Rattle.ios_meaning.specs.Lists.{prefix_entry_from, prefix_entries, prefix_list}
use Rattle.ios_meaning.specs.Answers.{lower, decided_by, decided_from, held_at, permits_at, ArePrefixAnswers, AreNextHopAnswers}
use Rattle.ios_meaning.specs.Meaning.{next_hop_holds}
use Rattle.ios_meaning.specs.declared.prefix_answers.Deciding.{Deciding}
use Rattle.ios_meaning.proofs.Alike.{any_alike}
use Rattle.ios_meaning.proofs.InOrder.{Rises, rises_behind, rises_in_order}

abbrev number : PrefixListEntry → ℕ
number e = e.number

abbrev holds : PrefixParts → PrefixListEntry → Bool
holds p e = in_range e.entry.range p

abbrev deciding : PrefixListEntry → Deciding
deciding e = record { number = e.number; permit = e.entry.permit }

-- ---- the first entry that holds

abbrev first_hit : PrefixParts → List PrefixListEntry → Option Deciding
first_hit p [] = None
first_hit p (e ∷ es) = elim (holds p e) [ true ↦ Some (deciding e) | false ↦ first_hit p es ]

abbrev permit_of : Option Deciding → Bool
permit_of o = option_map_or (λ d. d.permit) o false

hit_by : (b permit : Bool) (d : Deciding) (rest : Bool) (o : Option Deciding) → d.permit ≡ permit → rest ≡ permit_of o → elim b [ true ↦ permit | false ↦ rest ] ≡ permit_of (elim b [ true ↦ Some d | false ↦ o ])
hit_by true permit d rest o e more = sym e
hit_by false permit d rest o e more = more

first_match_hit : (p : PrefixParts) (es : List PrefixListEntry) → first_match (map (λ e. e.entry) es) p ≡ permit_of (first_hit p es)
unfolding first_match
first_match_hit p [] = refl
first_match_hit p (e ∷ es) = hit_by (holds p e) e.entry.permit (deciding e) (first_match (map (λ e. e.entry) es) p) (first_hit p es) refl (first_match_hit p es)

-- ---- the first one in order is the one of lowest number

-- of an entry that holds and the one behind it, the one of lower number; of equal ones the first
abbrev before : PrefixListEntry → Option Deciding → Option Deciding
before e None = Some (deciding e)
before e (Some d) = elim (nat_le e.number d.number) [ true ↦ Some (deciding e) | false ↦ Some d ]

abbrev IsNoLower : ℕ → Option Deciding → Type 0
IsNoLower n None = Unit {0}
IsNoLower n (Some d) = n ≤ d.number

no_lower_by : (n : ℕ) (e : PrefixListEntry) (o : Option Deciding) (b : Bool) → n ≤ e.number → IsNoLower n o → IsNoLower n (elim b [ true ↦ Some (deciding e) | false ↦ o ])
no_lower_by n e o true l h = l
no_lower_by n e o false l h = h

no_lower : (p : PrefixParts) (n : ℕ) (e : PrefixListEntry) (es : List PrefixListEntry) → n ≤ e.number → Rises number (e ∷ es) → IsNoLower n (first_hit p (e ∷ es))
no_lower p n e [] l h = no_lower_by n e None (holds p e) l tt
no_lower p n e (f ∷ es) l h = no_lower_by n e (first_hit p (f ∷ es)) (holds p e) l (no_lower p n f es (omega arith) h.1)

stays_before : (e : PrefixListEntry) (o : Option Deciding) → IsNoLower e.number o → before e o ≡ Some (deciding e)
stays_before e None h = refl
stays_before e (Some d) h = ap (λ (b : Bool). elim b [ true ↦ Some (deciding e) | false ↦ Some d ]) (le-leb e.number d.number h)

held_by : (e : PrefixListEntry) (o : Option Deciding) (b : Bool) → before e o ≡ Some (deciding e) → ◌≡◌ {A = Option Deciding} (elim b [ true ↦ Some (deciding e) | false ↦ o ]) (elim b [ true ↦ before e o | false ↦ o ])
held_by e o true h = sym h
held_by e o false h = refl

goes_behind : (x y : PrefixListEntry) (b c : Bool) (o : Option Deciding) → y.number < x.number → ◌≡◌ {A = Option Deciding} (elim c [ true ↦ Some (deciding y) | false ↦ elim b [ true ↦ before x o | false ↦ o ] ]) (elim b [ true ↦ before x (elim c [ true ↦ Some (deciding y) | false ↦ o ]) | false ↦ elim c [ true ↦ Some (deciding y) | false ↦ o ] ])
goes_behind x y true true o l = sym (ap (λ (t : Bool). elim t [ true ↦ Some (deciding x) | false ↦ Some (deciding y) ]) (lt-leb x.number y.number l))
goes_behind x y true false o l = refl
goes_behind x y false true o l = refl
goes_behind x y false false o l = refl

hit_put_by : (p : PrefixParts) (x y : PrefixListEntry) (ys : List PrefixListEntry) (b : Bool) → nat_le x.number y.number ≡ b → Rises number (y ∷ ys)
    → first_hit p (put_in_order number x ys) ≡ elim (holds p x) [ true ↦ before x (first_hit p ys) | false ↦ first_hit p ys ]
    → first_hit p (elim b [ true ↦ x ∷ y ∷ ys | false ↦ y ∷ put_in_order number x ys ]) ≡ elim (holds p x) [ true ↦ before x (first_hit p (y ∷ ys)) | false ↦ first_hit p (y ∷ ys) ]
hit_put_by p x y ys true e h more =
    held_by x (first_hit p (y ∷ ys)) (holds p x) (stays_before x (first_hit p (y ∷ ys)) (no_lower p x.number y ys (leb-true x.number y.number e) h))
hit_put_by p x y ys false e h more =
    ap (λ (o : Option Deciding). elim (holds p y) [ true ↦ Some (deciding y) | false ↦ o ]) more
    ∙ goes_behind x y (holds p x) (holds p y) (first_hit p ys) (leb-false x.number y.number e)

hit_put : (p : PrefixParts) (x : PrefixListEntry) (xs : List PrefixListEntry) → Rises number xs → first_hit p (put_in_order number x xs) ≡ elim (holds p x) [ true ↦ before x (first_hit p xs) | false ↦ first_hit p xs ]
hit_put p x [] h = refl
hit_put p x (y ∷ ys) h = hit_put_by p x y ys (nat_le x.number y.number) refl h (hit_put p x ys (rises_behind number y ys h))

-- ---- the walk

abbrev lowest_from : PrefixParts → Option Deciding → List PrefixListEntry → Option Deciding
lowest_from p o [] = o
lowest_from p o (e ∷ es) = lowest_from p (elim (holds p e) [ true ↦ lower e o | false ↦ o ]) es

-- of an entry that was found and one behind it, the one of lower number; of equal ones the first
abbrev merged : Option Deciding → Option Deciding → Option Deciding
merged None r = r
merged (Some d) None = Some d
merged (Some d) (Some r) = elim (nat_lt r.number d.number) [ true ↦ Some r | false ↦ Some d ]

merged_none : (o : Option Deciding) → o ≡ merged o None
merged_none None = refl
merged_none (Some d) = refl

-- b: e is below d; c: e is not above r
merged_by : (e : PrefixListEntry) (d r : Deciding) (b c : Bool) → nat_lt e.number d.number ≡ b → nat_le e.number r.number ≡ c
    → merged (elim b [ true ↦ Some (deciding e) | false ↦ Some d ]) (Some r) ≡ merged (Some d) (elim c [ true ↦ Some (deciding e) | false ↦ Some r ])
merged_by e d r true true h k =
    ap (λ (t : Bool). elim t [ true ↦ Some r | false ↦ Some (deciding e) ]) (le-ltb r.number e.number (leb-true e.number r.number k))
    ∙ sym (ap (λ (t : Bool). elim t [ true ↦ Some (deciding e) | false ↦ Some d ]) h)
merged_by e d r true false h k =
    ap (λ (t : Bool). elim t [ true ↦ Some r | false ↦ Some (deciding e) ]) (lt-ltb r.number e.number (leb-false e.number r.number k))
    ∙ sym (ap (λ (t : Bool). elim t [ true ↦ Some r | false ↦ Some d ]) (lt-ltb r.number d.number (omega (arith, leb-false e.number r.number k, ltb-true e.number d.number h))))
merged_by e d r false true h k =
    ap (λ (t : Bool). elim t [ true ↦ Some r | false ↦ Some d ]) (le-ltb r.number d.number (omega (arith, leb-true e.number r.number k, ltb-false e.number d.number h)))
    ∙ sym (ap (λ (t : Bool). elim t [ true ↦ Some (deciding e) | false ↦ Some d ]) h)
merged_by e d r false false h k = refl

merged_alone : (e : PrefixListEntry) (d : Deciding) (b : Bool) → merged (elim b [ true ↦ Some (deciding e) | false ↦ Some d ]) None ≡ elim b [ true ↦ Some (deciding e) | false ↦ Some d ]
merged_alone e d true = refl
merged_alone e d false = refl

first_alone : (e : PrefixListEntry) (r : Deciding) (c : Bool) → nat_le e.number r.number ≡ c → ◌≡◌ {A = Option Deciding} (elim (nat_lt r.number e.number) [ true ↦ Some r | false ↦ Some (deciding e) ]) (elim c [ true ↦ Some (deciding e) | false ↦ Some r ])
first_alone e r true k = ap (λ (t : Bool). elim t [ true ↦ Some r | false ↦ Some (deciding e) ]) (le-ltb r.number e.number (leb-true e.number r.number k))
first_alone e r false k = ap (λ (t : Bool). elim t [ true ↦ Some r | false ↦ Some (deciding e) ]) (lt-ltb r.number e.number (leb-false e.number r.number k))

merged_step : (e : PrefixListEntry) (o r : Option Deciding) → merged (lower e o) r ≡ merged o (before e r)
merged_step e None None = refl
merged_step e None (Some r) = first_alone e r (nat_le e.number r.number) refl
merged_step e (Some d) None = merged_alone e d (nat_lt e.number d.number)
merged_step e (Some d) (Some r) = merged_by e d r (nat_lt e.number d.number) (nat_le e.number r.number) refl refl

merged_held : (e : PrefixListEntry) (o r : Option Deciding) (b : Bool) → merged (elim b [ true ↦ lower e o | false ↦ o ]) r ≡ merged o (elim b [ true ↦ before e r | false ↦ r ])
merged_held e o r true = merged_step e o r
merged_held e o r false = refl

lowest_is_first : (p : PrefixParts) (es : List PrefixListEntry) (o : Option Deciding) → lowest_from p o es ≡ merged o (first_hit p (in_order number es))
lowest_is_first p [] o = merged_none o
lowest_is_first p (e ∷ es) o =
    lowest_is_first p es (elim (holds p e) [ true ↦ lower e o | false ↦ o ])
    ∙ merged_held e o (first_hit p (in_order number es)) (holds p e)
    ∙ ap (λ (r : Option Deciding). merged o r) (sym (hit_put p e (in_order number es) (rises_in_order number es)))

-- ---- the entries of one list

other_family : (f g k : Family) → same_family f k ≡ true → same_family f g ≡ false → same_family g k ≡ false
other_family V4 V4 k h e = absurd cc
other_family V6 V6 k h e = absurd cc
other_family V4 V6 V4 h e = refl
other_family V4 V6 V6 h e = absurd cc
other_family V6 V4 V6 h e = refl
other_family V6 V4 V4 h e = absurd cc

not_the_family : (f g k : Family) → same_family f k ≡ false → same_family f g ≡ true → same_family g k ≡ false
not_the_family V4 V4 k h e = h
not_the_family V6 V6 k h e = h
not_the_family V4 V6 k h e = absurd cc
not_the_family V6 V4 k h e = absurd cc

of_no_family : (p : PrefixParts) (e : PrefixListEntry) → same_family (family_of e) p.address.family ≡ false → holds p e ≡ false
of_no_family p e h = rw h refl

nothing_by : (b : Bool) (o : Option Deciding) → o ≡ elim b [ true ↦ o | false ↦ o ]
nothing_by true o = refl
nothing_by false o = refl

-- a: the entry is of the family; b: of the name; h: it holds
step_by : (p : PrefixParts) (e : PrefixListEntry) (o : Option Deciding) (rest : List PrefixListEntry) (a b : Bool) → (a ≡ false → holds p e ≡ false)
    → lowest_from p o (elim (a && b) [ true ↦ e ∷ rest | false ↦ rest ]) ≡ lowest_from p (elim (holds p e) [ true ↦ elim b [ true ↦ lower e o | false ↦ o ] | false ↦ o ]) rest
step_by p e o rest true true h = refl
step_by p e o rest true false h = ap (λ (x : Option Deciding). lowest_from p x rest) (nothing_by (holds p e) o)
step_by p e o rest false true h = sym (ap (λ (t : Bool). lowest_from p (elim t [ true ↦ lower e o | false ↦ o ]) rest) (h refl))
step_by p e o rest false false h = ap (λ (x : Option Deciding). lowest_from p x rest) (nothing_by (holds p e) o)

decided_form : (p : PrefixParts) (f : Family) (list : List ℕ) → same_family f p.address.family ≡ true → (form : IosForm) (o : Option Deciding) (rest : List PrefixListEntry)
    → lowest_from p o (prefix_entry_from f list form rest) ≡ lowest_from p (decided_by p list form o) rest
decided_form p f list s (OfPrefixList e) o rest =
    step_by p e o rest (same_family f (family_of e)) (bytes_eq list e.list) (λ a. of_no_family p e (other_family f (family_of e) p.address.family s a))
decided_form p f list s _ o rest = refl

decided_is : (p : PrefixParts) (f : Family) (list : List ℕ) → same_family f p.address.family ≡ true → (is : List IosItem) (o : Option Deciding) → lowest_from p o (prefix_entries f list is) ≡ decided_from p list o is
unfolding decided_from
decided_is p f list s [] o = refl
decided_is p f list s (i ∷ is) o = decided_form p f list s i.form o (prefix_entries f list is) ∙ decided_is p f list s is (decided_by p list i.form o)

none_by : (p : PrefixParts) (e : PrefixListEntry) (rest : List PrefixListEntry) (a b : Bool) → (a ≡ true → holds p e ≡ false) → lowest_from p None (elim (a && b) [ true ↦ e ∷ rest | false ↦ rest ]) ≡ lowest_from p None rest
none_by p e rest true true h = ap (λ (t : Bool). lowest_from p (elim t [ true ↦ lower e None | false ↦ None ]) rest) (h refl)
none_by p e rest true false h = refl
none_by p e rest false b h = refl

none_form : (p : PrefixParts) (f : Family) (list : List ℕ) → same_family f p.address.family ≡ false → (form : IosForm) (rest : List PrefixListEntry) → lowest_from p None (prefix_entry_from f list form rest) ≡ lowest_from p None rest
none_form p f list s (OfPrefixList e) rest =
    none_by p e rest (same_family f (family_of e)) (bytes_eq list e.list) (λ a. of_no_family p e (not_the_family f (family_of e) p.address.family s a))
none_form p f list s _ rest = refl

none_is : (p : PrefixParts) (f : Family) (list : List ℕ) → same_family f p.address.family ≡ false → (is : List IosItem) → lowest_from p None (prefix_entries f list is) ≡ None
none_is p f list s [] = refl
none_is p f list s (i ∷ is) = none_form p f list s i.form (prefix_entries f list is) ∙ none_is p f list s is

list_answer : (p : PrefixParts) (f : Family) (list : List ℕ) (all : List IosItem) → first_match (prefix_list f list all) p ≡ permit_of (lowest_from p None (prefix_entries f list all))
list_answer p f list all = first_match_hit p (in_order number (prefix_entries f list all)) ∙ ap permit_of (sym (lowest_is_first p (prefix_entries f list all) None))

answer_by : (p : PrefixParts) (f : Family) (list : List ℕ) (all : List IosItem) (o : Option Deciding) (b : Bool) → same_family f p.address.family ≡ b → o ≡ decided_from p list None all → (b && permit_of o) ≡ first_match (prefix_list f list all) p
answer_by p f list all o true s h = ap permit_of (h ∙ sym (decided_is p f list s all None)) ∙ sym (list_answer p f list all)
answer_by p f list all o false s h = sym (list_answer p f list all ∙ ap permit_of (none_is p f list s all))

-- a map that holds for each name the entry that decides has the answers of the prefix lists
pub prefix_answers : (all : List IosItem) (p : PrefixParts) (m : NameMap Deciding) → ((list : List ℕ) → held_at m list ≡ decided_from p list None all) → ArePrefixAnswers all p m
prefix_answers all p m h = λ f list. answer_by p f list all (held_at m list) (same_family f p.address.family) refl (h list)

-- ---- lines

any_by : (b : Bool) (g : List ℕ → Bool) (lists : List (List ℕ)) → (b && list_any g lists) ≡ list_any (λ list. b && g list) lists
any_by true g lists = refl
any_by false g [] = refl
any_by false g (x ∷ xs) = any_by false g xs

-- some list of these names answers yes where the map says so
pub some_of_family : (all : List IosItem) (p : PrefixParts) (m : NameMap Deciding) (f : Family) (lists : List (List ℕ)) → ArePrefixAnswers all p m → (same_family f p.address.family && list_any (permits_at m) lists) ≡ list_any (λ list. first_match (prefix_list f list all) p) lists
some_of_family all p m f lists h = any_by (same_family f p.address.family) (permits_at m) lists ∙ any_alike (λ list. same_family f p.address.family && permits_at m list) (λ list. first_match (prefix_list f list all) p) (h f) lists

-- the same on a next hop that is an address
pub next_hop_of_family : (all : List IosItem) (hop : NextHop) (a : Address) (m : NameMap Deciding) (f : Family) (lists : List (List ℕ)) (r : Bool) → hop ≡ At a → AreNextHopAnswers all hop m
    → r ≡ (same_family f a.family && list_any (permits_at m) lists) → r ≡ next_hop_holds all f lists hop
next_hop_of_family all hop a m f lists r e h found =
    rw e (found ∙ some_of_family all (record { address = a; length = width a.family }) m f lists (subst (λ (x : NextHop). AreNextHopAnswers all x m) e h))
