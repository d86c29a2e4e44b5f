-- Where no entry has a `continue` line, the run ends at the first entry that holds.
use Rattle.std.proofs.Common.{◌≡◌, refl, ap, ◌∙◌, ℕ, Bool, true, false, ◌&&◌, ◌||◌, nat_le, List, [], ◌∷◌, ◌++◌, Option, Some, None, arith}
use Rattle.std.specs.List.{list_any}
use Rattle.std.proofs.lemmas.Bool.{or_parts, le-leb}
use Rattle.route_types.specs.Route.{RouteParts}
use Rattle.route_types.specs.declared.route.Outcome.{Outcome}
use Rattle.route_types.specs.declared.route.Outcome.TheVariants.{Reject, Accept}
use Rattle.ios_tree.specs.declared.item.IosItem.{IosItem}
use Rattle.ios_tree.specs.declared.item.MapLine.{MapLine}
use Rattle.ios_tree.specs.declared.item.MapLine.TheVariants.{Continue}
use Rattle.ios_reader.specs.Entries.{Entry, entries_of}
use Rattle.ios_reader.specs.Lines.{continues}
use Rattle.ios_meaning.specs.Order.{put_in_order, in_order}
use Rattle.ios_meaning.specs.Meaning.{entry_holds, set_by_entry, continuation_in, continuation_of, run, ios_meaning}
use Rattle.ios_lower.specs.Continues.{goes_on, has_continue}
use Rattle.ios_lower.specs.Runs.{given_by, entry_or, entries_or}

-- ---- lines that don't continue

line_ends : (l : MapLine) (rest : Option (Option ℕ)) → continues l ≡ false → continuation_in l rest ≡ rest
line_ends (Continue s) rest e = absurd cc
line_ends _ rest e = refl

lines_end : (ls : List MapLine) → list_any continues ls ≡ false → continuation_of ls ≡ None
lines_end [] e = refl
lines_end (l ∷ ls) e =
    let parts = or_parts (continues l) (list_any continues ls) e in
    line_ends l (continuation_of ls) parts.0 ∙ lines_end ls parts.1

-- b: a line continues
continues_by : (ls : List MapLine) (b : Bool) (target : Option ℕ) → list_any continues ls ≡ b → continuation_of ls ≡ Some target → b ≡ true
continues_by ls true target e c = refl
continues_by ls false target e c = let none = lines_end ls e in absurd cc

-- lines behind which the run goes on continue
pub lines_continue : (ls : List MapLine) (target : Option ℕ) → continuation_of ls ≡ Some target → list_any continues ls ≡ true
lines_continue ls target c = continues_by ls (list_any continues ls) target refl c

-- ---- the run

-- what an entry that holds makes of the run, by where it goes on
abbrev decided : Bool → Outcome → (Option ℕ → Outcome) → Option (Option ℕ) → Outcome
decided permit accepted on next = elim permit [
  | false ↦ Reject
  | true ↦ elim next [ None ↦ accepted | Some target ↦ on target ]
]

no_number_below : (n : ℕ) → nat_le 0 n ≡ true
no_number_below n = le-leb 0 n (omega arith)

ends_here : (permit : Bool) (accepted : Outcome) (on : Option ℕ → Outcome) (next : Option (Option ℕ)) → next ≡ None → decided permit accepted on next ≡ elim permit [ true ↦ accepted | false ↦ Reject ]
ends_here true accepted on None none = refl
ends_here true accepted on (Some target) none = absurd cc
ends_here false accepted on next none = refl

abbrev pick : Bool → Outcome → Outcome → Outcome
pick b x y = elim b [ true ↦ x | false ↦ y ]

first_holds : (all : List IosItem) (r : RouteParts) (es : List Entry) → list_any goes_on es ≡ false → run all r 0 [] es ≡ entries_or all es r Reject
unfolding run entries_or
first_holds all r [] n = refl
first_holds all r (e ∷ es) n =
    let parts = or_parts (goes_on e) (list_any goes_on es) n in
    let on : Option ℕ → Outcome = λ target. elim target [ None ↦ run all r 0 (e ∷ []) es | Some s ↦ run all r s (e ∷ []) es ] in
    ap (λ (b : Bool). pick (b && entry_holds all r e) (decided e.permit (Accept (set_by_entry all e r)) on (continuation_of e.lines)) (run all r 0 [] es)) (no_number_below e.number)
    ∙ ap (λ (o : Outcome). pick (entry_holds all r e) o (run all r 0 [] es)) (ends_here e.permit (Accept (set_by_entry all e r)) on (continuation_of e.lines) (lines_end e.lines parts.0))
    ∙ ap (λ (o : Outcome). pick (entry_holds all r e) (given_by all e r) o) (first_holds all r es parts.1)

-- ---- the entries in order

put_by : (e f : Entry) (es : List Entry) (key : Entry → ℕ) (b : Bool) → list_any goes_on (e ∷ f ∷ es) ≡ false → list_any goes_on (put_in_order key e es) ≡ false
    → list_any goes_on (elim b [ true ↦ e ∷ f ∷ es | false ↦ f ∷ put_in_order key e es ]) ≡ false
put_by e f es key true n more = n
put_by e f es key false n more =
    let first = or_parts (goes_on e) (list_any goes_on (f ∷ es)) n in
    let second = or_parts (goes_on f) (list_any goes_on es) first.1 in
    ap (λ (b : Bool). b || list_any goes_on (put_in_order key e es)) second.0 ∙ more

none_put : (key : Entry → ℕ) (e : Entry) (es : List Entry) → list_any goes_on (e ∷ es) ≡ false → list_any goes_on (put_in_order key e es) ≡ false
none_put key e [] n = n
none_put key e (f ∷ es) n =
    let first = or_parts (goes_on e) (list_any goes_on (f ∷ es)) n in
    let second = or_parts (goes_on f) (list_any goes_on es) first.1 in
    put_by e f es key (nat_le (key e) (key f)) n (none_put key e es (ap (λ (b : Bool). b || list_any goes_on es) first.0 ∙ second.1))

none_in_order : (key : Entry → ℕ) (es : List Entry) → list_any goes_on es ≡ false → list_any goes_on (in_order key es) ≡ false
none_in_order key [] n = refl
none_in_order key (e ∷ es) n =
    let parts = or_parts (goes_on e) (list_any goes_on es) n in
    none_put key e (in_order key es) (ap (λ (b : Bool). b || list_any goes_on (in_order key es)) parts.0 ∙ none_in_order key es parts.1)

-- the meaning of a policy without `continue` is what the first entry in order that holds gives
pub first_decides : (all : List IosItem) (name : List ℕ) (r : RouteParts) → has_continue all name ≡ false → ios_meaning all name r ≡ entries_or all (in_order (λ e. e.number) (entries_of name all)) r Reject
unfolding ios_meaning
first_decides all name r n =
    first_holds all r (in_order (λ e. e.number) (entries_of name all)) (none_in_order (λ (e : Entry). e.number) (entries_of name all) n)

-- the last entry decides before what comes behind all of them
pub last_of : (all : List IosItem) (es : List Entry) (e : Entry) (r : RouteParts) (behind : Outcome) → entries_or all (es ++ e ∷ []) r behind ≡ entries_or all es r (entry_or all e r behind)
unfolding entries_or
last_of all [] e r behind = refl
last_of all (f ∷ es) e r behind = ap (λ (o : Outcome). entry_or all f r o) (last_of all es e r behind)
