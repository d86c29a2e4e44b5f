-- The numbers that the reader keeps and gives.
use Rattle.std.proofs.Common.{◌≡◌, refl, sym, ap, ◌∙◌, subst, ℕ, ◌+◌, ◌<◌, max, Bool, true, false, cond, List, [], ◌∷◌, ◌++◌, append_assoc, Option, Some, None, arith}
use Rattle.std.specs.Prelude.{bytes_eq, nat_le, option_map, slice_get, codes}
use Rattle.std.specs.BTreeMap.{BTreeMap, UpdatesBy, get_by}
use Rattle.std.specs.Cmp.Lexicographic.{slice_cmp}
use Rattle.std.specs.Ordering.{nat_cmp}
use Rattle.std.proofs.lemmas.Map.Text.{btree_map_updates_str}
use Rattle.std.proofs.lemmas.Bool.{leb-true, leb-false, lt-leb}
use denote.Ref.{Bor}
use Rattle.route_types.specs.declared.address.Family.{Family}
use Rattle.policy_text.specs.Names.{or_else}
use Rattle.policy_text.proofs.Phrases.{same_bytes, bytes_sym}
use Rattle.text_words.specs.declared.statement.Span.{Span}
use Rattle.ios_tree.specs.Names.{list_name}
use Rattle.ios_tree.specs.Numbering.{greatest_in, greatest_of, numbered_by, NamesList, Tells}
use Rattle.ios_tree.specs.Spelling.{Spell, SpellPrefixEntry}
use Rattle.ios_tree.specs.Tree.{greater, greatest_with, greatest_number, is_of_list, family_of, entry_with_number, numbered, numbered_item, numbered_from, known_form, form_of, name_under}
use Rattle.ios_tree.specs.declared.item.IosForm.{IosForm}
use Rattle.ios_tree.specs.declared.item.IosForm.TheVariants.{PrefixEntry, Other}
use Rattle.ios_tree.specs.declared.item.IosItem.{IosItem}
use Rattle.ios_tree.specs.declared.item.ItemSort.{ItemSort}
use Rattle.ios_tree.specs.declared.item.PrefixListEntry.{PrefixListEntry}
use Rattle.ios_tree.specs.declared.number.Greatest.{Greatest}
use Rattle.ios_tree.proofs.Spelled.{is_spelled}

greater_raised : (n m : ℕ) → m < n → greater n m ≡ n
greater_raised n m h = rw (lt-leb n m h, greater) refl

raised_here : (t : Bool) (list q : List ℕ) (number : ℕ) (m : BTreeMap (Bor (List ℕ)) ℕ) → bytes_eq q list ≡ t → greatest_in m list < number
    → or_else (cond t (Some number) (get_by (λ k. slice_cmp nat_cmp q k.now) m)) 0 ≡ elim t [ true ↦ greater number (greatest_in m q) | false ↦ greatest_in m q ]
raised_here true list q number m t less = sym (greater_raised number (greatest_in m q) (subst (λ (x : List ℕ). greatest_in m x < number) (sym (same_bytes q list t)) less))
raised_here false list q number m t less = refl

-- a greater number that was put into a map
pub raised : (list : List ℕ) (number : ℕ) (m n : BTreeMap (Bor (List ℕ)) ℕ) → greatest_in m list < number
    → UpdatesBy (λ x y. slice_cmp nat_cmp x.now y.now) (λ k. slice_cmp nat_cmp list k.now) m n (Some number) → (q : List ℕ)
    → greatest_in n q ≡ elim (bytes_eq q list) [ true ↦ greater number (greatest_in m q) | false ↦ greatest_in m q ]
raised list number m n less h q =
    ap (λ (o : Option ℕ). or_else o 0) (btree_map_updates_str list m n (Some number) h q)
    ∙ ap (λ (t : Bool). or_else (cond t (Some number) (get_by (λ k. slice_cmp nat_cmp q k.now) m)) 0) (bytes_sym list q)
    ∙ raised_here (bytes_eq q list) list q number m refl less

-- ---- the greatest numbers of items

max_case : (t : Bool) (a b : ℕ) → nat_le a b ≡ t → (elim t [ true ↦ b | false ↦ a ]) ≡ max a b
max_case true a b e = omega (arith, leb-true a b e)
max_case false a b e = omega (arith, leb-false a b e)

greater_max : (a b : ℕ) → greater a b ≡ max a b
greater_max a b = max_case (nat_le a b) a b refl

max_swaps : (a b c : ℕ) → max a (max b c) ≡ max b (max a c)
max_swaps a b c = omega arith

greater_swaps : (a b c : ℕ) → greater a (greater b c) ≡ greater b (greater a c)
greater_swaps a b c =
    greater_max a (greater b c) ∙ ap (λ x. max a x) (greater_max b c) ∙ max_swaps a b c
    ∙ sym (greater_max b (greater a c) ∙ ap (λ x. max b x) (greater_max a c))

-- the number that a form has in a list
abbrev entry_number : Bool → ℕ → Option ℕ
entry_number true n = Some n
entry_number false n = None

abbrev number_in_list : Family → List ℕ → IosForm → Option ℕ
number_in_list family list (PrefixEntry e) = entry_number (is_of_list family list e) e.number
number_in_list family list _ = None

abbrev raised_by : Option ℕ → ℕ → ℕ
raised_by (Some m) n = greater m n
raised_by None n = n

entry_raises : (t : Bool) (m n : ℕ) → (elim t [ true ↦ greater m n | false ↦ n ]) ≡ raised_by (entry_number t m) n
entry_raises true m n = refl
entry_raises false m n = refl

form_raises : (family : Family) (list : List ℕ) (form : IosForm) (n : ℕ) → greatest_with family list form n ≡ raised_by (number_in_list family list form) n
form_raises family list (PrefixEntry e) n = entry_raises (is_of_list family list e) e.number n
form_raises family list _ n = refl

raises_swap : (o p : Option ℕ) (n : ℕ) → raised_by o (raised_by p n) ≡ raised_by p (raised_by o n)
raises_swap (Some a) (Some b) n = greater_swaps a b n
raises_swap (Some a) None n = refl
raises_swap None p n = refl

forms_swap : (family : Family) (list : List ℕ) (f g : IosForm) (n : ℕ)
    → greatest_with family list f (greatest_with family list g n) ≡ greatest_with family list g (greatest_with family list f n)
forms_swap family list f g n =
    form_raises family list f (greatest_with family list g n) ∙ ap (raised_by (number_in_list family list f)) (form_raises family list g n)
    ∙ raises_swap (number_in_list family list f) (number_in_list family list g) n
    ∙ sym (form_raises family list g (greatest_with family list f n) ∙ ap (raised_by (number_in_list family list g)) (form_raises family list f n))

-- the greatest number of a list with one more item at the end
greatest_more : (family : Family) (list : List ℕ) (items : List IosItem) (i : IosItem)
    → greatest_number family list (items ++ i ∷ []) ≡ greatest_with family list i.form (greatest_number family list items)
greatest_more family list [] i = refl
greatest_more family list (j ∷ js) i =
    ap (λ (n : ℕ). greatest_with family list j.form n) (greatest_more family list js i)
    ∙ forms_swap family list j.form i.form (greatest_number family list js)

-- what is kept are the greatest numbers with one more item
pub tells_more : (old new : Greatest) (items : List IosItem) (i : IosItem) → Tells old items
    → ((family : Family) (list : List ℕ) → greatest_of new family list ≡ greatest_with family list i.form (greatest_of old family list)) → Tells new (items ++ i ∷ [])
tells_more old new items i told raised family list =
    raised family list ∙ ap (λ (n : ℕ). greatest_with family list i.form n) (told family list) ∙ sym (greatest_more family list items i)

-- the number by what is kept is the number
by_told : (g : Greatest) (items : List IosItem) (form : IosForm) → Tells g items → numbered_by (greatest_of g) form ≡ numbered items form
by_told g items (PrefixEntry e) told = ap (λ (n : ℕ). elim e.has_seq [ true ↦ PrefixEntry e | false ↦ entry_with_number e (n + 5) ]) (told (family_of e) e.list)
by_told g items _ told = refl

-- an item that was put behind the others
pub item_put : (g : Greatest) (old new more : List IosItem) (written form : IosForm) (span : Span) → Tells g old → form ≡ numbered_by (greatest_of g) written
    → new ≡ old ++ record { form = form; span = span } ∷ [] → new ++ numbered_from new more ≡ old ++ numbered_from old (record { form = written; span = span } ∷ more)
unfolding numbered_from
item_put g old new more written form span told is put =
    let i : IosItem = record { form = written; span = span } in
    let whole : new ≡ old ++ numbered_item old i ∷ [] = put ∙ ap (λ (f : IosForm). old ++ record { form = f; span = span } ∷ []) (is ∙ by_told g old written told) in
    ap (λ (xs : List IosItem). xs ++ numbered_from xs more) whole ∙ append_assoc old (numbered_item old i ∷ []) (numbered_from (old ++ numbered_item old i ∷ []) more)

-- ---- the list of an entry

third_word : (ws : List (List ℕ)) (e : PrefixListEntry) → SpellPrefixEntry ws e → option_map list_name (slice_get ws 2) ≡ Some e.list
third_word ws e h =
    let name = h.words.2 in
    ap (λ (x : List (List ℕ)). option_map list_name (slice_get x 2)) (h.words.1 ∙ ap (λ (x : List (List ℕ)). codes "ip" ∷ codes "prefix-list" ∷ x) name.2) ∙ ap (λ (x : List ℕ). Some x) (sym name.3.names)

spelled_names : (ws : List (List ℕ)) (form : IosForm) → Spell ws form → NamesList ws form
spelled_names ws (PrefixEntry e) h = third_word ws e h
spelled_names ws _ h = tt

known_names : (ws : List (List ℕ)) (sort : ItemSort) (o : Option IosForm) → known_form sort ws ≡ o → NamesList ws (or_else o (Other (record { sort = sort; name = name_under sort ws })))
known_names ws sort (Some form) e = spelled_names ws form (is_spelled ws form sort e)
known_names ws sort None e = tt

-- the third word of a statement names the list of its entry
pub form_names : (ws : List (List ℕ)) (sort : ItemSort) (form : IosForm) → form ≡ form_of sort ws → NamesList ws form
unfolding form_of
form_names ws sort form e = subst (NamesList ws) (sym e) (known_names ws sort (known_form sort ws) refl)
