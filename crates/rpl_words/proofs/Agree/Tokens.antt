-- The phrases of RPL agree with what they spell, where their parts do.
use Rattle.std.proofs.Common.{◌≡◌, refl, sym, ap, ◌∙◌, subst, ℕ, Bool, true, false, not, ◌&&◌, ◌||◌, List, [], ◌∷◌, ◌++◌, map, Option, Some, None}
use Rattle.std.specs.Prelude.{codes, bytes_eq, option_map}
use Rattle.std.specs.List.{list_any}
use Rattle.std.proofs.lemmas.Slice.Eq.{bytes_eq-Decides}
use Rattle.route_types.specs.Words.{◌>>=◌}
use Rattle.route_types.proofs.Numbers.{some_is, bind_found}
use Rattle.policy_text.specs.Phrases.{Agrees}
use Rattle.policy_text.proofs.Phrases.{same_bytes, map_found}
use Rattle.rpl_words.specs.Tokens.{Token, plain, is_key, IsPlain, IsQuoted, One, Behind, First, UpTo, Commas, Listed, Called, plain_in, quoted_in, only, after, behind, first_of, parted, ended_by, up_to, between, with_first, each_of, commas, listed_in, arguments_in, called_in}

-- ---- words

key_by : (quoted : Bool) (key text : List ℕ) → (not quoted && bytes_eq key text) ≡ true → ◌≡◌ {A = Token} (record { text = text; quoted = quoted }) (plain key)
key_by true key text e = absurd cc
key_by false key text e = ap (λ (x : List ℕ). plain x) (sym (same_bytes key text e))

-- a word that is a keyword
pub key_found : (key : List ℕ) (t : Token) → is_key key t ≡ true → t ≡ plain key
key_found key t e = key_by t.quoted key t.text e

pub key_is : (key : List ℕ) → is_key key (plain key) ≡ true
key_is key = (bytes_eq-Decides key key).1 refl

plain_by : {A : Type 0} (f : List ℕ → Option A) (P : List ℕ → A → Type 0) → Agrees f P → (quoted : Bool) (text : List ℕ) (x : A) → plain_in f (record { text = text; quoted = quoted }) ≡ Some x → IsPlain P (record { text = text; quoted = quoted }) x
plain_by f P a true text x e = absurd cc
plain_by f P a false text x e = (text, refl, a.found text x e)

pub plain_agrees : {A : Type 0} (f : List ℕ → Option A) (P : List ℕ → A → Type 0) → Agrees f P → Agrees (plain_in f) (IsPlain P)
plain_agrees f P a = record {
  found = λ t x e. plain_by f P a t.quoted t.text x e;
  only = λ t x h. ap (λ (u : Token). plain_in f u) h.1 ∙ a.only h.0 x h.2;
}

quoted_by : {A : Type 0} (f : List ℕ → Option A) (P : List ℕ → A → Type 0) → Agrees f P → (quoted : Bool) (text : List ℕ) (x : A) → quoted_in f (record { text = text; quoted = quoted }) ≡ Some x → IsQuoted P (record { text = text; quoted = quoted }) x
quoted_by f P a false text x e = absurd cc
quoted_by f P a true text x e = (text, refl, a.found text x e)

pub quoted_agrees : {A : Type 0} (f : List ℕ → Option A) (P : List ℕ → A → Type 0) → Agrees f P → Agrees (quoted_in f) (IsQuoted P)
quoted_agrees f P a = record {
  found = λ t x e. quoted_by f P a t.quoted t.text x e;
  only = λ t x h. ap (λ (u : Token). quoted_in f u) h.1 ∙ a.only h.0 x h.2;
}

-- ---- one word, words behind others

only_found : {A : Type 0} (f : Token → Option A) (ts : List Token) (x : A) → only f ts ≡ Some x → One (λ t y. f t ≡ Some y) ts x
only_found f [] x e = absurd cc
only_found f (t ∷ []) x e = (t, refl, e)
only_found f (t ∷ u ∷ ts) x e = absurd cc

pub one_agrees : {A : Type 0} (f : Token → Option A) (P : Token → A → Type 0) → Agrees f P → Agrees (only f) (One P)
one_agrees f P a = record {
  found = λ ts x e. let t = only_found f ts x e in (t.0, t.1, a.found t.0 x t.2);
  only = λ ts x h. ap (λ (us : List Token). only f us) h.1 ∙ a.only h.0 x h.2;
}

first_key : (b : Bool) (k : List ℕ) (t : Token) (ks : List (List ℕ)) (ts rest : List Token) → is_key k t ≡ b → (after ks ts ≡ Some rest → ts ≡ map plain ks ++ rest) → (elim b [ true ↦ after ks ts | false ↦ None ]) ≡ Some rest → t ∷ ts ≡ map plain (k ∷ ks) ++ rest
first_key true k t ks ts rest b more e = let key = key_found k t b in let behind = more e in λ i. key i ∷ behind i
first_key false k t ks ts rest b more e = absurd cc

pub after_found : (ks : List (List ℕ)) (ts rest : List Token) → after ks ts ≡ Some rest → ts ≡ map plain ks ++ rest
unfolding after
after_found [] ts rest e = some_is ts rest e
after_found (k ∷ ks) [] rest e = absurd cc
after_found (k ∷ ks) (t ∷ ts) rest e = first_key (is_key k t) k t ks ts rest refl (after_found ks ts rest) e

behind_keys : (ks : List (List ℕ)) (rest : List Token) → after ks (map plain ks ++ rest) ≡ Some rest
unfolding after
behind_keys [] rest = refl
behind_keys (k ∷ ks) rest = rw (after, (bytes_eq-Decides k k).1 refl) (behind_keys ks rest)

pub after_spelled : (ks : List (List ℕ)) (ts rest : List Token) → ts ≡ map plain ks ++ rest → after ks ts ≡ Some rest
after_spelled ks ts rest e = ap (λ (x : List Token). after ks x) e ∙ behind_keys ks rest

pub behind_agrees : {A : Type 0} (ks : List (List ℕ)) (f : List Token → Option A) (P : List Token → A → Type 0) → Agrees f P → Agrees (behind ks f) (Behind ks P)
behind_agrees ks f P a = record {
  found = λ ts x e. let rest = bind_found (after ks ts) f x e in (rest.0, after_found ks ts rest.0 rest.1, a.found rest.0 x rest.2);
  only = λ ts x h. ap (λ (o : Option (List Token)). o >>= f) (after_spelled ks ts h.0 h.1) ∙ a.only h.0 x h.2;
}

-- ---- a word, and what stands behind it

word_found : {A B : Type 0} (f : Token → Option A) (g : List Token → Option B) (ts : List Token) (x : A × B) → first_of f g ts ≡ Some x → First (λ t y. f t ≡ Some y) (λ us y. g us ≡ Some y) ts x
word_found f g [] x e = absurd cc
word_found {A} {B} f g (t ∷ ts) x e =
    let v = bind_found (f t) (λ y. g ts >>= λ z. Some (y, z)) x e in
    let w = bind_found (g ts) (λ z. Some (v.0, z)) x v.2 in
    let k = some_is (v.0, w.0) x w.2 in
    (t, ts, refl, v.1 ∙ ap (λ (p : A × B). Some p.0) k, w.1 ∙ ap (λ (p : A × B). Some p.1) k)

word_only : {A B : Type 0} (f : Token → Option A) (g : List Token → Option B) (t : Token) (ts : List Token) (x : A × B) → f t ≡ Some x.0 → g ts ≡ Some x.1 → first_of f g (t ∷ ts) ≡ Some x
word_only f g t ts x e h = rw e (rw h refl)

pub first_agrees : {A B : Type 0} (f : Token → Option A) (g : List Token → Option B) (P : Token → A → Type 0) (Q : List Token → B → Type 0) → Agrees f P → Agrees g Q → Agrees (first_of f g) (First P Q)
first_agrees f g P Q a b = record {
  found = λ ts x e. let h = word_found f g ts x e in (h.0, h.1, h.2, a.found h.0 x.0 h.3, b.found h.1 x.1 h.4);
  only = λ ts x h. ap (λ (us : List Token). first_of f g us) h.2 ∙ word_only f g h.0 h.1 x (a.only h.0 x.0 h.3) (b.only h.1 x.1 h.4);
}

-- ---- words before a keyword

-- the keyword stands behind words in which it doesn't stand
abbrev Parts : List ℕ → List Token → List Token → List Token → Type 0
Parts key ts front rest = (ts ≡ front ++ plain key ∷ rest) × (list_any (is_key key) front ≡ false)

part_found : (b : Bool) (key : List ℕ) (t : Token) (ts : List Token) (p : List Token × List Token) → is_key key t ≡ b → ((q : List Token × List Token) → parted key ts ≡ Some q → Parts key ts q.0 q.1)
    → (elim b [ true ↦ Some ([], ts) | false ↦ option_map (λ q. (t ∷ q.0, q.1)) (parted key ts) ]) ≡ Some p → Parts key (t ∷ ts) p.0 p.1
part_found true key t ts p b more e =
    let k = some_is ([], ts) p e in
    let Here : List Token × List Token → Type 0 = λ q. Parts key (t ∷ ts) q.0 q.1 in
    subst Here k (ap (λ (u : Token). u ∷ ts) (key_found key t b), refl)
part_found false key t ts p b more e =
    let q = map_found (parted key ts) (λ q. (t ∷ q.0, q.1)) p e in
    let parts = more q.0 q.1 in
    let Here : List Token × List Token → Type 0 = λ x. Parts key (t ∷ ts) x.0 x.1 in
    subst Here q.2 (ap (λ (us : List Token). t ∷ us) parts.0, rw b parts.1)

pub parted_found : (key : List ℕ) (ts : List Token) (p : List Token × List Token) → parted key ts ≡ Some p → Parts key ts p.0 p.1
unfolding parted
parted_found key [] p e = absurd cc
parted_found key (t ∷ ts) p e = part_found (is_key key t) key t ts p refl (parted_found key ts) e

-- neither of two tests holds
neither : (a b : Bool) → (a || b) ≡ false → (a ≡ false) × (b ≡ false)
neither true b e = absurd cc
neither false b e = (refl, e)

pub parted_spelled : (key : List ℕ) (front rest : List Token) → list_any (is_key key) front ≡ false → parted key (front ++ plain key ∷ rest) ≡ Some (front, rest)
unfolding parted
parted_spelled key [] rest none = rw (parted, key_is key) refl
parted_spelled key (t ∷ front) rest none =
    let h = neither (is_key key t) (list_any (is_key key) front) none in
    rw (parted, h.0) (ap (λ (o : Option (List Token × List Token)). option_map (λ q. (t ∷ q.0, q.1)) o) (parted_spelled key front rest h.1))

pub parted_nowhere : (key : List ℕ) (ts : List Token) → list_any (is_key key) ts ≡ false → parted key ts ≡ None
unfolding parted
parted_nowhere key [] none = refl
parted_nowhere key (t ∷ ts) none =
    let h = neither (is_key key t) (list_any (is_key key) ts) none in
    rw (parted, h.0) (ap (λ (o : Option (List Token × List Token)). option_map (λ q. (t ∷ q.0, q.1)) o) (parted_nowhere key ts h.1))

none_mapped : {A B : Type 0} (f : A → B) (o : Option A) → option_map f o ≡ None → o ≡ None
none_mapped f None e = refl
none_mapped f (Some x) e = absurd cc

none_parted : (b : Bool) (key : List ℕ) (t : Token) (ts : List Token) → is_key key t ≡ b → (parted key ts ≡ None → list_any (is_key key) ts ≡ false)
    → ◌≡◌ {A = Option (List Token × List Token)} (elim b [ true ↦ Some ([], ts) | false ↦ option_map (λ q. (t ∷ q.0, q.1)) (parted key ts) ]) None → list_any (is_key key) (t ∷ ts) ≡ false
none_parted true key t ts b more e = absurd cc
none_parted false key t ts b more e = rw b (more (none_mapped (λ q. (t ∷ q.0, q.1)) (parted key ts) e))

pub nowhere_parted : (key : List ℕ) (ts : List Token) → parted key ts ≡ None → list_any (is_key key) ts ≡ false
unfolding parted
nowhere_parted key [] e = refl
nowhere_parted key (t ∷ ts) e = none_parted (is_key key t) key t ts refl (nowhere_parted key ts) e

-- nothing stands behind the keyword
last_part : (front rest us : List Token) → (elim rest [ [] ↦ Some front | (v ∷ vs) ↦ None ]) ≡ Some us → (front ≡ us) × (rest ≡ [])
last_part front [] us e = (some_is front us e, refl)
last_part front (v ∷ vs) us e = absurd cc

ended_found : (key : List ℕ) (ts front : List Token) → ended_by key ts ≡ Some front → Parts key ts front []
ended_found key ts front e =
    let p = bind_found (parted key ts) _ front e in
    let last = last_part p.0.0 p.0.1 front p.2 in
    let parts = parted_found key ts p.0 p.1 in
    (parts.0 ∙ ap (λ (x : List Token). x ++ plain key ∷ p.0.1) last.0 ∙ ap (λ (x : List Token). front ++ plain key ∷ x) last.1, ap (λ (x : List Token). list_any (is_key key) x) (sym last.0) ∙ parts.1)

ended_spelled : (key : List ℕ) (ts front : List Token) → Parts key ts front [] → ended_by key ts ≡ Some front
ended_spelled key ts front h = rw (ap (λ (x : List Token). parted key x) h.0 ∙ parted_spelled key front [] h.1) refl

pub up_to_agrees : {A : Type 0} (key : List ℕ) (f : List Token → Option A) (P : List Token → A → Type 0) → Agrees f P → Agrees (up_to key f) (UpTo key P)
up_to_agrees key f P a = record {
  found = λ ts x e.
      let front = bind_found (ended_by key ts) f x e in
      let parts = ended_found key ts front.0 front.1 in
      (front.0, parts.0, parts.1, a.found front.0 x front.2);
  only = λ ts x h. ap (λ (o : Option (List Token)). o >>= f) (ended_spelled key ts h.0 (h.1, h.2)) ∙ a.only h.0 x h.3;
}

-- ---- values between commas

-- the word lists, by the parts at the first comma
abbrev between_by : List Token → Option (List Token × List Token) → List (List Token)
between_by ts None = ts ∷ []
between_by ts (Some p) = p.0 ∷ between p.1

first_more : (t : Token) (ts : List Token) (o : Option (List Token × List Token)) → with_first t (between_by ts o) ≡ between_by (t ∷ ts) (option_map (λ q. (t ∷ q.0, q.1)) o)
first_more t ts None = refl
first_more t ts (Some p) = refl

between_is : (b : Bool) (t : Token) (ts : List Token) → between ts ≡ between_by ts (parted (codes ",") ts)
    → (elim b [ true ↦ [] ∷ between ts | false ↦ with_first t (between ts) ]) ≡ between_by (t ∷ ts) (elim b [ true ↦ Some ([], ts) | false ↦ option_map (λ q. (t ∷ q.0, q.1)) (parted (codes ",") ts) ])
between_is true t ts e = refl
between_is false t ts e = ap (λ (x : List (List Token)). with_first t x) e ∙ first_more t ts (parted (codes ",") ts)

between_parted : (ts : List Token) → between ts ≡ between_by ts (parted (codes ",") ts)
unfolding between parted
between_parted [] = refl
between_parted (t ∷ ts) = between_is (is_key (codes ",") t) t ts (between_parted ts)

-- the values of word lists, the first of which is there
each_cons : {A : Type 0} (f : List Token → Option A) (us : List Token) (ls : List (List Token)) (xs : List A) → each_of f (us ∷ ls) ≡ Some xs → (x : A) × (more : List A) × (f us ≡ Some x) × (each_of f ls ≡ Some more) × (x ∷ more ≡ xs)
unfolding each_of
each_cons f us ls xs e =
    let x = bind_found (f us) (λ y. each_of f ls >>= λ ys. Some (y ∷ ys)) xs e in
    let more = bind_found (each_of f ls) (λ ys. Some (x.0 ∷ ys)) xs x.2 in
    (x.0, more.0, x.1, more.1, some_is (x.0 ∷ more.0) xs more.2)

each_put : {A : Type 0} (f : List Token → Option A) (us : List Token) (ls : List (List Token)) (x : A) (xs : List A) → f us ≡ Some x → each_of f ls ≡ Some xs → each_of f (us ∷ ls) ≡ Some (x ∷ xs)
unfolding each_of
each_put f us ls x xs e h = rw e (rw h refl)

-- there is at least one word list, and so a value
some_between : {A : Type 0} (f : List Token → Option A) (ts : List Token) (o : Option (List Token × List Token)) → each_of f (between_by ts o) ≡ Some [] → ⊥
some_between f ts None e = let h = each_cons f ts [] [] e in let k : h.0 ∷ h.1 ≡ [] = h.4 in cc
some_between f ts (Some p) e = let h = each_cons f p.0 (between p.1) [] e in let k : h.0 ∷ h.1 ≡ [] = h.4 in cc

never_none : {A : Type 0} (f : List Token → Option A) (ts : List Token) → each_of f (between ts) ≡ Some [] → ⊥
never_none f ts e = some_between f ts (parted (codes ",") ts) (ap (λ (ls : List (List Token)). each_of f ls) (sym (between_parted ts)) ∙ e)

last_value : {A : Type 0} (f : List Token → Option A) (P : List Token → A → Type 0) → Agrees f P → (x : A) (ts : List Token) (o : Option (List Token × List Token)) → parted (codes ",") ts ≡ o → each_of f (between_by ts o) ≡ Some (x ∷ []) → Commas P ts (x ∷ [])
last_value f P a x ts None none e =
    let h = each_cons f ts [] (x ∷ []) e in
    let k : h.0 ∷ h.1 ≡ x ∷ [] = h.4 in
    (nowhere_parted (codes ",") ts none, a.found ts x (h.2 ∙ cc))
last_value f P a x ts (Some p) none e =
    let h = each_cons f p.0 (between p.1) (x ∷ []) e in
    let k : h.0 ∷ h.1 ≡ x ∷ [] = h.4 in
    absurd (never_none f p.1 (h.3 ∙ cc))

nil_of : {A : Type 0} (f : List Token → Option A) (xs : List A) → each_of f [] ≡ Some xs → [] ≡ xs
unfolding each_of
nil_of f xs e = some_is [] xs e

first_value : {A : Type 0} (f : List Token → Option A) (P : List Token → A → Type 0) → Agrees f P → (x y : A) (xs : List A) (ts : List Token) (o : Option (List Token × List Token)) → parted (codes ",") ts ≡ o
    → ((us : List Token) → each_of f (between us) ≡ Some (y ∷ xs) → Commas P us (y ∷ xs)) → each_of f (between_by ts o) ≡ Some (x ∷ y ∷ xs) → Commas P ts (x ∷ y ∷ xs)
first_value f P a x y xs ts None none more e =
    let h = each_cons f ts [] (x ∷ y ∷ xs) e in
    let k : h.0 ∷ h.1 ≡ x ∷ y ∷ xs = h.4 in
    let nil = nil_of f h.1 h.3 in
    absurd cc
first_value f P a x y xs ts (Some p) none more e =
    let h = each_cons f p.0 (between p.1) (x ∷ y ∷ xs) e in
    let k : h.0 ∷ h.1 ≡ x ∷ y ∷ xs = h.4 in
    let parts = parted_found (codes ",") ts p none in
    (p.0, p.1, parts.0, parts.1, a.found p.0 x (h.2 ∙ cc), more p.1 (h.3 ∙ cc))

commas_found : {A : Type 0} (f : List Token → Option A) (P : List Token → A → Type 0) → Agrees f P → (xs : List A) (ts : List Token) → each_of f (between ts) ≡ Some xs → Commas P ts xs
commas_found f P a [] ts e = absurd (never_none f ts e)
commas_found f P a (x ∷ []) ts e = last_value f P a x ts (parted (codes ",") ts) refl (ap (λ (ls : List (List Token)). each_of f ls) (sym (between_parted ts)) ∙ e)
commas_found f P a (x ∷ y ∷ xs) ts e = first_value f P a x y xs ts (parted (codes ",") ts) refl (commas_found f P a (y ∷ xs)) (ap (λ (ls : List (List Token)). each_of f ls) (sym (between_parted ts)) ∙ e)

commas_only : {A : Type 0} (f : List Token → Option A) (P : List Token → A → Type 0) → Agrees f P → (xs : List A) (ts : List Token) → Commas P ts xs → each_of f (between ts) ≡ Some xs
unfolding each_of
commas_only f P a [] ts h = absurd h
commas_only f P a (x ∷ []) ts h =
    ap (λ (ls : List (List Token)). each_of f ls) (between_parted ts ∙ ap (λ (o : Option (List Token × List Token)). between_by ts o) (parted_nowhere (codes ",") ts h.0)) ∙ each_put f ts [] x [] (a.only ts x h.1) refl
commas_only f P a (x ∷ y ∷ xs) ts (front, rest, e, none, p, more) =
    let parts : parted (codes ",") ts ≡ Some (front, rest) = ap (λ (us : List Token). parted (codes ",") us) e ∙ parted_spelled (codes ",") front rest none in
    ap (λ (ls : List (List Token)). each_of f ls) (between_parted ts ∙ ap (λ (o : Option (List Token × List Token)). between_by ts o) parts)
    ∙ each_put f front (between rest) x (y ∷ xs) (a.only front x p) (commas_only f P a (y ∷ xs) rest more)

pub commas_agrees : {A : Type 0} (f : List Token → Option A) (P : List Token → A → Type 0) → Agrees f P → Agrees (commas f) (Commas P)
commas_agrees f P a = record { found = λ ts xs e. commas_found f P a xs ts e; only = λ ts xs h. commas_only f P a xs ts h }

pub listed_agrees : {A : Type 0} (f : List Token → Option A) (P : List Token → A → Type 0) → Agrees f P → Agrees (listed_in f) (Listed P)
unfolding listed_in
listed_agrees f P a = behind_agrees (codes "(" ∷ []) (up_to (codes ")") (commas f)) (UpTo (codes ")") (Commas P)) (up_to_agrees (codes ")") (commas f) (Commas P) (commas_agrees f P a))

-- ---- a name, and values in parentheses behind it

-- values in parentheses are some
some_listed : {A : Type 0} (P : List Token → A → Type 0) (ts : List Token) → Listed P ts [] → ⊥
some_listed P ts (rest, e, (front, k, none, h)) = h

-- words, if there are any, are values in parentheses
abbrev Arguments : {A : Type 0} → (Token → A → Type 0) → List Token → List A → Type 0
Arguments P ts [] = ts ≡ []
Arguments P ts (x ∷ xs) = Listed (One P) ts (x ∷ xs)

arguments_by : {A : Type 0} (P : Token → A → Type 0) (ts : List Token) (xs : List A) → Listed (One P) ts xs → Arguments P ts xs
arguments_by P ts [] h = absurd (some_listed (One P) ts h)
arguments_by P ts (x ∷ xs) h = h

arguments_found : {A : Type 0} (f : Token → Option A) (P : Token → A → Type 0) → Agrees f P → (ts : List Token) (xs : List A) → arguments_in f ts ≡ Some xs → Arguments P ts xs
arguments_found f P a [] xs e = subst (Arguments P []) (some_is [] xs e) refl
arguments_found f P a (t ∷ ts) xs e = arguments_by P (t ∷ ts) xs ((listed_agrees (only f) (One P) (one_agrees f P a)).found (t ∷ ts) xs e)

nothing_listed : {A : Type 0} (P : List Token → A → Type 0) (xs : List A) → Listed P [] xs → ⊥
nothing_listed P xs (rest, e, h) = cc

arguments_some : {A : Type 0} (f : Token → Option A) (P : Token → A → Type 0) → Agrees f P → (ts : List Token) (x : A) (xs : List A) → Listed (One P) ts (x ∷ xs) → arguments_in f ts ≡ Some (x ∷ xs)
arguments_some f P a [] x xs h = absurd (nothing_listed (One P) (x ∷ xs) h)
arguments_some f P a (t ∷ ts) x xs h = (listed_agrees (only f) (One P) (one_agrees f P a)).only (t ∷ ts) (x ∷ xs) h

arguments_only : {A : Type 0} (f : Token → Option A) (P : Token → A → Type 0) → Agrees f P → (ts : List Token) (xs : List A) → Arguments P ts xs → arguments_in f ts ≡ Some xs
arguments_only f P a ts [] e = ap (λ (us : List Token). arguments_in f us) e
arguments_only f P a ts (x ∷ xs) h = arguments_some f P a ts x xs h

arguments_agrees : {A : Type 0} (f : Token → Option A) (P : Token → A → Type 0) → Agrees f P → Agrees (arguments_in f) (Arguments P)
arguments_agrees f P a = record { found = arguments_found f P a; only = arguments_only f P a }

called_by : {A : Type 0} (N : List ℕ → List ℕ → Type 0) (P : Token → A → Type 0) (ts : List Token) (name : List ℕ) (xs : List A) → First (IsPlain N) (Arguments P) ts (name, xs) → Called N P ts (name, xs)
called_by N P ts name [] (t, rest, e, h, none) = (t, e ∙ ap (λ (us : List Token). t ∷ us) none, h)
called_by N P ts name (x ∷ xs) h = h

by_called : {A : Type 0} (N : List ℕ → List ℕ → Type 0) (P : Token → A → Type 0) (ts : List Token) (name : List ℕ) (xs : List A) → Called N P ts (name, xs) → First (IsPlain N) (Arguments P) ts (name, xs)
by_called N P ts name [] (t, e, h) = (t, [], e, h, refl)
by_called N P ts name (x ∷ xs) h = h

pub called_agrees : {A : Type 0} (name : List ℕ → Option (List ℕ)) (f : Token → Option A) (N : List ℕ → List ℕ → Type 0) (P : Token → A → Type 0) → Agrees name N → Agrees f P → Agrees (called_in name f) (Called N P)
unfolding called_in
called_agrees name f N P a b =
    let whole = first_agrees (plain_in name) (arguments_in f) (IsPlain N) (Arguments P) (plain_agrees name N a) (arguments_agrees f P b) in
    record { found = λ ts x e. called_by N P ts x.0 x.1 (whole.found ts x e); only = λ ts x h. whole.only ts x (by_called N P ts x.0 x.1 h) }
