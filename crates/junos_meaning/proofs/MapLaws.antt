-- Maps of what a tree defines.
use Rattle.std.proofs.Common.{◌≡◌, sym, ap, ◌∙◌, ℕ, Bool, true, false, List, [], ◌∷◌, Option, Some, None, Result, Ok, Err, IfOk, length, ◌<◌, arith}
use Rattle.std.specs.Prelude.{bytes_eq, unwrap_or, OnOk}
use Rattle.std.specs.Borrow.{Bor}
use Rattle.std.specs.Option.{option_map_or}
use Rattle.route_types.specs.Address.{PrefixParts}
use Rattle.name_maps.specs.Under.{under, first_of}
use Rattle.policy_text.specs.Names.{is_named}
use Rattle.junos_tree.specs.declared.item.JunosForm.{JunosForm}
use Rattle.junos_tree.specs.declared.item.JunosItem.{JunosItem}
use Rattle.junos_reader.specs.Facts.{forms_of}
use Rattle.junos_meaning.specs.Sets.{Naming, defined_at, behind, members, list_named}
use Rattle.junos_meaning.specs.Maps.{BlockMap, block_or, Tells, Goes, AnswerMap, answers_on, answers_or, TellsAnswers, GoesAnswers}
use Rattle.junos_meaning.specs.declared.lists.ListAnswers.{ListAnswers}

-- ---- definitions

abbrev forms_in : Option (Bor (List JunosItem)) → List JunosForm → List JunosForm
forms_in o rest = option_map_or (λ b. forms_of b.now) o rest

-- a definition that is found stands in front of those behind it
added_by : (o n : Option (Bor (List JunosItem))) (block : Bor (List JunosItem)) (rest : List JunosForm) (b : Bool)
    → n ≡ elim b [ true ↦ first_of o block | false ↦ o ]
    → forms_in n rest ≡ forms_in o (elim b [ true ↦ forms_of block.now | false ↦ rest ])
added_by (Some x) n block rest true e = ap (λ (m : Option (Bor (List JunosItem))). forms_in m rest) e
added_by None n block rest true e = ap (λ (m : Option (Bor (List JunosItem))). forms_in m rest) e
added_by (Some x) n block rest false e = ap (λ (m : Option (Bor (List JunosItem))). forms_in m rest) e
added_by None n block rest false e = ap (λ (m : Option (Bor (List JunosItem))). forms_in m rest) e

-- the map behind a definition of this name
pub added : (named : Naming) (old new : BlockMap) (name q : List ℕ) (block : Bor (List JunosItem)) (i : JunosItem) (tail : List JunosItem)
    → block.now ≡ i ∷ tail → named i.form ≡ Some name → under new q ≡ elim (bytes_eq q name) [ true ↦ first_of (under old q) block | false ↦ under old q ]
    → block_or new q (defined_at named q (forms_of tail)) ≡ block_or old q (defined_at named q (forms_of (i ∷ tail)))
unfolding defined_at
added named old new name q block i tail is here put =
    added_by (under old q) (under new q) block (defined_at named q (forms_of tail)) (bytes_eq q name) put
    ∙ ap (λ (fs : List JunosForm). block_or old q (elim (bytes_eq q name) [ true ↦ fs | false ↦ defined_at named q (forms_of tail) ])) (ap (λ (is : List JunosItem). forms_of is) is)
    ∙ ap (λ (o : Option (List ℕ)). block_or old q (elim (is_named q o) [ true ↦ forms_of (i ∷ tail) | false ↦ defined_at named q (forms_of tail) ])) (sym here)

-- the map behind a form that defines nothing of the sort
pub passed : (named : Naming) (m : BlockMap) (q : List ℕ) (i : JunosItem) (tail : List JunosItem) → named i.form ≡ None
    → block_or m q (defined_at named q (forms_of tail)) ≡ block_or m q (defined_at named q (forms_of (i ∷ tail)))
unfolding defined_at
passed named m q i tail none = ap (λ (o : Option (List ℕ)). block_or m q (elim (is_named q o) [ true ↦ forms_of (i ∷ tail) | false ↦ defined_at named q (forms_of tail) ])) (sym none)

-- the map behind a definition that was put in, if it was
pub added_ok : {T E : Type 0} (named : Naming) (old new : BlockMap) (name : List ℕ) (block : Bor (List JunosItem)) (i : JunosItem) (tail : List JunosItem) (put : Result T E)
    → block.now ≡ i ∷ tail → named i.form ≡ Some name → IfOk put (λ _. (q : List ℕ) → under new q ≡ elim (bytes_eq q name) [ true ↦ first_of (under old q) block | false ↦ under old q ])
    → OnOk put ((q : List ℕ) → block_or new q (defined_at named q (forms_of tail)) ≡ block_or old q (defined_at named q (forms_of (i ∷ tail))))
added_ok named old new name block i tail (Ok u) is here done = λ q. added named old new name q block i tail is here (done q)
added_ok named old new name block i tail (Err e) is here done = tt

-- behind the last item the map tells all
pub tells : (named : Naming) (m : BlockMap) (rest items : List JunosItem) → length rest < 1 → Goes named m rest items → Tells named m items
unfolding defined_at
tells named m [] items none goes name = goes name
tells named m (i ∷ rest) items none goes name = absurd (omega (arith, none))

-- ---- prefix lists

-- the answers of a list that is found stand in front of those behind it
listed_by : (p : PrefixParts) (o n : Option ListAnswers) (v : ListAnswers) (f : JunosForm) (tail rest : List JunosForm) (b : Bool)
    → v ≡ answers_on p tail → n ≡ elim b [ true ↦ first_of o v | false ↦ o ]
    → unwrap_or n (answers_on p (behind rest)) ≡ unwrap_or o (answers_on p (behind (elim b [ true ↦ f ∷ tail | false ↦ rest ])))
listed_by p (Some x) n v f tail rest true is e = ap (λ (m : Option ListAnswers). unwrap_or m (answers_on p (behind rest))) e
listed_by p None n v f tail rest true is e = ap (λ (m : Option ListAnswers). unwrap_or m (answers_on p (behind rest))) e ∙ is
listed_by p (Some x) n v f tail rest false is e = ap (λ (m : Option ListAnswers). unwrap_or m (answers_on p (behind rest))) e
listed_by p None n v f tail rest false is e = ap (λ (m : Option ListAnswers). unwrap_or m (answers_on p (behind rest))) e

-- the map behind a list of this name
listed : (p : PrefixParts) (old new : AnswerMap) (name q : List ℕ) (v : ListAnswers) (f : JunosForm) (tail : List JunosForm)
    → list_named f ≡ Some name → v ≡ answers_on p tail → under new q ≡ elim (bytes_eq q name) [ true ↦ first_of (under old q) v | false ↦ under old q ]
    → answers_or new q (answers_on p (behind (defined_at list_named q tail))) ≡ answers_or old q (answers_on p (behind (defined_at list_named q (f ∷ tail))))
unfolding defined_at
listed p old new name q v f tail here is put =
    listed_by p (under old q) (under new q) v f tail (defined_at list_named q tail) (bytes_eq q name) is put
    ∙ ap (λ (o : Option (List ℕ)). answers_or old q (answers_on p (behind (elim (is_named q o) [ true ↦ f ∷ tail | false ↦ defined_at list_named q tail ])))) (sym here)

-- the map behind a list whose answers were put in, if they were
pub listed_ok : {T E : Type 0} (p : PrefixParts) (old new : AnswerMap) (name : List ℕ) (v : ListAnswers) (f : JunosForm) (tail : List JunosForm) (put : Result T E)
    → list_named f ≡ Some name → v ≡ answers_on p tail → IfOk put (λ _. (q : List ℕ) → under new q ≡ elim (bytes_eq q name) [ true ↦ first_of (under old q) v | false ↦ under old q ])
    → OnOk put ((q : List ℕ) → answers_or new q (answers_on p (behind (defined_at list_named q tail))) ≡ answers_or old q (answers_on p (behind (defined_at list_named q (f ∷ tail)))))
listed_ok p old new name v f tail (Ok u) here is done = λ q. listed p old new name q v f tail here is (done q)
listed_ok p old new name v f tail (Err e) here is done = tt

-- the map behind a form that defines no list
pub unlisted : (p : PrefixParts) (m : AnswerMap) (q : List ℕ) (f : JunosForm) (tail : List JunosForm) → list_named f ≡ None
    → answers_or m q (answers_on p (behind (defined_at list_named q tail))) ≡ answers_or m q (answers_on p (behind (defined_at list_named q (f ∷ tail))))
unfolding defined_at
unlisted p m q f tail none = ap (λ (o : Option (List ℕ)). answers_or m q (answers_on p (behind (elim (is_named q o) [ true ↦ f ∷ tail | false ↦ defined_at list_named q tail ])))) (sym none)

-- behind the last item the map tells all
pub tells_answers : (p : PrefixParts) (m : AnswerMap) (rest items : List JunosItem) → length rest < 1 → GoesAnswers p m rest items → TellsAnswers p m items
unfolding defined_at members
tells_answers p m [] items none goes name = goes name
tells_answers p m (i ∷ rest) items none goes name = absurd (omega (arith, none))
