-- What is found in the words of a line is what they spell, and what they spell is found.
use Rattle.std.proofs.Common.{◌≡◌, refl, sym, ap, ◌∙◌, subst, ℕ, ◌^◌, ◌<◌, Bool, true, false, List, [], ◌∷◌, ◌++◌, Option, Some, None, arith}
use Rattle.std.specs.Prelude.{decimal, bytes_eq, codes}
use Rattle.std.proofs.lemmas.Slice.Eq.{bytes_eq-Decides}
use Rattle.route_types.specs.Address.{PrefixParts, prefix_of}
use Rattle.route_types.specs.Community.{set_of}
use Rattle.route_types.specs.Words.{parts_at, IsNumber, IsAddress, IsPrefix, IsCommunity, number_in, address_in, prefix_in, community_in, when, ◌>>=◌}
use Rattle.route_types.specs.RouteText.{Each, IsOne, IsMany, IsCommunitySet, SpellsNextHop, SpellsOrigin, origin_text}
use Rattle.route_types.specs.RouteLines.{words_behind, only_word, word_in, each_in, next_hop_in, origin_in, communities_of_line}
use Rattle.route_types.specs.declared.address.Address.{Address}
use Rattle.route_types.specs.declared.community.Community.{Community}
use Rattle.route_types.specs.declared.route.NextHop.{NextHop}
use Rattle.route_types.specs.declared.route.NextHop.TheVariants.{At, Own}
use Rattle.route_types.specs.declared.route.Origin.{Origin}
use Rattle.route_types.specs.declared.route.Origin.TheVariants.{Igp, Egp, Incomplete}
use Rattle.route_types.proofs.Numbers.{bind_found, some_is, number_in_found, number_in_spelled}
use Rattle.route_types.proofs.Spelled.{address_in_found, address_in_spelled, prefix_in_found, prefix_in_spelled, community_in_found, community_in_spelled}

-- what is found is spelled, and what is spelled is found
pub record Joins {W A : Type 0} (find : W → Option A) (Spells : W → A → Type 0) : Type 0 where
  pub found : (w : W) (x : A) → find w ≡ Some x → Spells w x
  pub again : (w : W) (x : A) → Spells w x → find w ≡ Some x

same_bytes : (a b : List ℕ) → bytes_eq a b ≡ true → a ≡ b
same_bytes a b e = (bytes_eq-Decides a b).0 e

bytes_same : (a b : List ℕ) → a ≡ b → bytes_eq a b ≡ true
bytes_same a b e = (bytes_eq-Decides a b).1 e

when_gave : {A : Type 0} (b : Bool) (x y : A) → when b x ≡ Some y → (b ≡ true) × (x ≡ y)
when_gave true x y e = (refl, some_is x y e)
when_gave false x y e = absurd cc

-- ---- the words of a line

behind_found : (name : List ℕ) (words behind : List (List ℕ)) → words_behind name words ≡ Some behind → words ≡ name ∷ behind
behind_found name [] behind e = absurd cc
behind_found name (w ∷ ws) behind e =
    let p = when_gave (bytes_eq w name) ws behind e in
    let q = same_bytes w name p.0 in
    rw (q, p.1) refl

behind_again : (name : List ℕ) (behind : List (List ℕ)) → words_behind name (name ∷ behind) ≡ Some behind
behind_again name behind = rw (bytes_same name name refl) refl

only_found : (words : List (List ℕ)) (word : List ℕ) → only_word words ≡ Some word → words ≡ word ∷ []
only_found [] word e = absurd cc
only_found (w ∷ []) word e = ap (λ x. x ∷ []) (some_is w word e)
only_found (w ∷ x ∷ ws) word e = absurd cc

word_found : (name : List ℕ) (words : List (List ℕ)) (word : List ℕ) → word_in name words ≡ Some word → words ≡ name ∷ word ∷ []
unfolding word_in
word_found name words word e =
    let b = bind_found (words_behind name words) _ word e in
    behind_found name words b.0 b.1 ∙ ap (λ ws. name ∷ ws) (only_found b.0 word b.2)

word_again : (name word : List ℕ) → word_in name (name ∷ word ∷ []) ≡ Some word
unfolding word_in
word_again name word = ap (λ o. o >>= only_word) (behind_again name (word ∷ []))

-- a name and one word
pub one : {A : Type 0} (name : List ℕ) (find : List ℕ → Option A) (Spells : List ℕ → A → Type 0) → Joins find Spells → Joins (λ words. word_in name words >>= find) (IsOne name Spells)
one name find Spells h = record {
  found = λ words x e.
      let b = bind_found (word_in name words) find x e in
      record { word = b.0; are = word_found name words b.0 b.1; spelled = h.found b.0 x b.2 };
  again = λ words x s. ap (λ ws. word_in name ws >>= find) s.are ∙ ap (λ o. o >>= find) (word_again name s.word) ∙ h.again s.word x s.spelled;
}

each_found : {A : Type 0} (find : List ℕ → Option A) (Spells : List ℕ → A → Type 0) → Joins find Spells → (words : List (List ℕ)) (values : List A) → each_in find words ≡ Some values → Each Spells words values
unfolding each_in
each_found find Spells h [] [] e = tt
each_found find Spells h [] (x ∷ xs) e = absurd cc
each_found {A} find Spells h (w ∷ ws) values e =
    let x = bind_found (find w) _ values e in
    let xs = bind_found (each_in find ws) _ values x.2 in
    subst (λ (ys : List A). Each Spells (w ∷ ws) ys) (some_is (x.0 ∷ xs.0) values xs.2) (h.found w x.0 x.1, each_found find Spells h ws xs.0 xs.1)

each_again : {A : Type 0} (find : List ℕ → Option A) (Spells : List ℕ → A → Type 0) → Joins find Spells → (words : List (List ℕ)) (values : List A) → Each Spells words values → each_in find words ≡ Some values
unfolding each_in
each_again find Spells h [] [] s = refl
each_again find Spells h [] (x ∷ xs) s = absurd s
each_again find Spells h (w ∷ ws) [] s = absurd s
each_again find Spells h (w ∷ ws) (x ∷ xs) s = rw (h.again w x s.0, each_again find Spells h ws xs s.1) refl

-- a name and any count of words
pub many : {A : Type 0} (name : List ℕ) (find : List ℕ → Option A) (Spells : List ℕ → A → Type 0) → Joins find Spells → Joins (λ words. words_behind name words >>= each_in find) (IsMany name Spells)
many name find Spells h = record {
  found = λ words xs e.
      let b = bind_found (words_behind name words) (each_in find) xs e in
      record { behind = b.0; are = behind_found name words b.0 b.1; spelled = each_found find Spells h b.0 xs b.2 };
  again = λ words xs s. ap (λ ws. words_behind name ws >>= each_in find) s.are ∙ ap (λ o. o >>= each_in find) (behind_again name s.behind) ∙ each_again find Spells h s.behind xs s.spelled;
}

-- ---- single words

pub numbers : (most : ℕ) → most < 2 ^ 64 → Joins (number_in most) (IsNumber most)
numbers most small = record {
  found = λ w n e. number_in_found most w n small e;
  again = λ w n s. ap (number_in most) s.spelled ∙ number_in_spelled most n s.within (omega (arith, s.within));
}

address_again : (word : List ℕ) (a : Address) → IsAddress word a → address_in word ≡ Some a
address_again word a s =
    ap address_in s.spelled
    ∙ address_in_spelled s.octets (record { first = s.first; second = s.second; third = s.third; fourth = s.fourth })
    ∙ ap (λ (x : Address). Some x) (sym s.value)

pub prefix_again : (word : List ℕ) (p : PrefixParts) → IsPrefix word p → prefix_in word ≡ Some p
prefix_again word p s =
    let a = s.spells_address in
    ap prefix_in (s.spelled ∙ ap (λ (x : List ℕ). x ++ (47 ∷ decimal s.length)) a.spelled)
    ∙ prefix_in_spelled a.octets s.length (record { first = a.first; second = a.second; third = a.third; fourth = a.fourth }) s.within
    ∙ ap (λ (q : PrefixParts). Some q) (sym (s.value ∙ ap (λ (x : Address). prefix_of x s.length) a.value))

community_again : (word : List ℕ) (c : Community) → IsCommunity word c → community_in word ≡ Some c
community_again word c s =
    ap community_in s.spelled ∙ community_in_spelled s.high s.low s.high_within s.low_within ∙ ap (λ (x : Community). Some x) (sym s.value)

pub prefixes : Joins prefix_in IsPrefix
prefixes = record { found = prefix_in_found; again = prefix_again }

pub communities : Joins community_in IsCommunity
communities = record { found = community_in_found; again = community_again }

hop_found : (word : List ℕ) (n : NextHop) (b : Bool) → bytes_eq word (codes "self") ≡ b → ◌≡◌ {A = Option NextHop} (elim b [ true ↦ Some Own | false ↦ address_in word >>= λ a. Some (At a) ]) (Some n) → SpellsNextHop word n
hop_found word n true t e = subst (λ (x : NextHop). SpellsNextHop word x) (some_is Own n e) (same_bytes word (codes "self") t)
hop_found word n false t e =
    let a = bind_found (address_in word) (λ x. Some (At x)) n e in
    subst (λ (x : NextHop). SpellsNextHop word x) (some_is (At a.0) n a.2) (address_in_found word a.0 a.1)

self_no_address : address_in (codes "self") ≡ None
unfolding address_in parts_at
self_no_address = refl

other_word : (word : List ℕ) (a : Address) (b : Bool) → bytes_eq word (codes "self") ≡ b → address_in word ≡ Some a → ◌≡◌ {A = Option NextHop} (elim b [ true ↦ Some Own | false ↦ address_in word >>= λ x. Some (At x) ]) (Some (At a))
other_word word a true t e =
    let k : address_in (codes "self") ≡ Some a = subst (λ (w : List ℕ). address_in w ≡ Some a) (same_bytes word (codes "self") t) e in
    let n : address_in (codes "self") ≡ None = self_no_address in
    absurd cc
other_word word a false t e = rw e refl

hop_again : (word : List ℕ) (n : NextHop) → SpellsNextHop word n → next_hop_in word ≡ Some n
unfolding next_hop_in
hop_again word (At a) s = other_word word a (bytes_eq word (codes "self")) refl (address_again word a s)
hop_again word Own s = ap next_hop_in s

hop_in_found : (word : List ℕ) (n : NextHop) → next_hop_in word ≡ Some n → SpellsNextHop word n
unfolding next_hop_in
hop_in_found word n e = hop_found word n (bytes_eq word (codes "self")) refl e

pub next_hops : Joins next_hop_in SpellsNextHop
next_hops = record { found = hop_in_found; again = hop_again }

origin_tests : (word : List ℕ) (o : Origin) (a b c : Bool) → bytes_eq word (codes "igp") ≡ a → bytes_eq word (codes "egp") ≡ b → bytes_eq word (codes "incomplete") ≡ c → ◌≡◌ {A = Option Origin} (elim a [ true ↦ Some Igp | false ↦ elim b [ true ↦ Some Egp | false ↦ when c Incomplete ] ]) (Some o) → SpellsOrigin word o
origin_tests word o true b c s t u e = subst (λ (x : Origin). word ≡ origin_text x) (some_is Igp o e) (same_bytes word (codes "igp") s)
origin_tests word o false true c s t u e = subst (λ (x : Origin). word ≡ origin_text x) (some_is Egp o e) (same_bytes word (codes "egp") t)
origin_tests word o false false true s t u e = subst (λ (x : Origin). word ≡ origin_text x) (some_is Incomplete o e) (same_bytes word (codes "incomplete") u)
origin_tests word o false false false s t u e = absurd cc

origin_found : (word : List ℕ) (o : Origin) → origin_in word ≡ Some o → SpellsOrigin word o
unfolding origin_in
origin_found word o e = origin_tests word o (bytes_eq word (codes "igp")) (bytes_eq word (codes "egp")) (bytes_eq word (codes "incomplete")) refl refl refl e

origin_reads : (o : Origin) → origin_in (origin_text o) ≡ Some o
unfolding origin_in
origin_reads Igp = refl
origin_reads Egp = refl
origin_reads Incomplete = refl

pub origins : Joins origin_in SpellsOrigin
origins = record { found = origin_found; again = λ word o s. ap origin_in s ∙ origin_reads o }

-- ---- the set of communities

set_found : (words : List (List ℕ)) (set : List Community) → communities_of_line words ≡ Some set → IsCommunitySet (codes "communities") words set
set_found words set e =
    let b = bind_found (words_behind (codes "communities") words) _ set e in
    let l = bind_found (each_in community_in b.0) _ set b.2 in
    record {
      listed = l.0;
      many = record { behind = b.0; are = behind_found (codes "communities") words b.0 b.1; spelled = each_found community_in IsCommunity communities b.0 l.0 l.1 };
      is = sym (some_is (set_of l.0) set l.2);
    }

set_again : (words : List (List ℕ)) (set : List Community) → IsCommunitySet (codes "communities") words set → communities_of_line words ≡ Some set
set_again words set s =
    ap communities_of_line s.many.are
    ∙ ap (λ o. o >>= λ behind. each_in community_in behind >>= λ listed. Some (set_of listed)) (behind_again (codes "communities") s.many.behind)
    ∙ ap (λ o. o >>= λ listed. Some (set_of listed)) (each_again community_in IsCommunity communities s.many.behind s.listed s.many.spelled)
    ∙ ap (λ x. Some x) (sym s.is)

pub sets : Joins communities_of_line (IsCommunitySet (codes "communities"))
sets = record { found = set_found; again = set_again }
