-- In words in which clap's definition finds no fault, each argument that is required has a value.
use Rattle.std.proofs.Common.{◌≡◌, refl, sym, ap, subst, ◌∙◌, Bool, true, false, ◌&&◌, ◌||◌, not, List, [], ◌∷◌, Some}
use Rattle.std.specs.Prelude.{cond, find, fold, if◌then◌else◌, option_and_then, slice_get}
use Rattle.std.specs.List.{list_all, list_any}
use Rattle.std.specs.Option.{option_map_or}
use Rattle.std.specs.Str.{bytes_eq}
use Rattle.std.proofs.lemmas.Bool.{and_parts}
use Rattle.std.proofs.lemmas.Slice.Eq.{bytes_eq-Decides}
use Rattle.clap.specs.Facts.{explicit_source, unwrap_or_range}
use Rattle.clap.specs.Faults.{defaults_fault, entered_fault, settle_fault, walk_fault}
use Rattle.clap.specs.Kinds.{check_kinds}
use Rattle.clap.specs.Simple.{App, argument_words, names_of}
use Rattle.clap.specs.Takes.{is_given}
use Rattle.clap.specs.Walk.{Row, Rule, Text, action_of, default_rows, finished, first_of, has_row, nothing_held, reading_by, settled, walk, walk_from, with_default}
use Rattle.clap.specs.Words.{built, fault_of, matches_of}
use Rattle.policy_request.proofs.ClapRows.{AllValued, both_none, gives_value, has_first, has_value, is_sound, settled_valued, walk_valued}

-- each argument of the command is sound, and no subcommand lifts what is required
abbrev pub is_sound_command : App → Bool
is_sound_command command = list_all is_sound command.top.rules && not command.top.subcommand_negates_reqs

-- the command has a required argument of this name
abbrev pub requires_name : Text → List Rule → Bool
requires_name id rules = list_any (λ a. a.required && bytes_eq a.id id) rules

-- arguments with no default add no row
defaults_kept : (rules : List Rule) (rows : List Row) → list_all is_sound rules ≡ true → fold with_default rows rules ≡ rows
defaults_kept [] rows s = refl
defaults_kept (a ∷ rest) rows s =
    let parts = and_parts (is_sound a) (list_all is_sound rest) s in
    let plain = and_parts (gives_value (action_of a) (unwrap_or_range a.range).start_inclusive) (not (has_first a.defaults)) parts.0 in
    ap (λ (rs : List Row). fold with_default rs rest) (go (has_row a.id rows) a.defaults plain.1) ∙ defaults_kept rest rows parts.1
  where
    go : (t : Bool) (ds : List Text) → not (has_first ds) ≡ true → (if t then rows else default_rows a.id (reading_by a) ds rows) ≡ rows
    go true ds none = refl
    go false [] none = refl
    go false (d ∷ ds) none = absurd cc

last_none : (a b x : Bool) → check_kinds a b x ≡ [] → x ≡ false
last_none true b x e = absurd cc
last_none false true x e = absurd cc
last_none false false true e = absurd cc
last_none false false false e = refl

not_lifted : (lifts sub x : Bool) → not lifts ≡ true → (not (lifts && sub) && x) ≡ false → x ≡ false
not_lifted false sub x kept e = e
not_lifted true sub x kept e = absurd cc

-- what is required is given
given_by_name : (id : Text) (rows : List Row) (rules : List Rule) → requires_name id rules ≡ true → list_any (λ a. a.required && not (is_given a.id rows)) rules ≡ false
    → is_given id rows ≡ true
given_by_name id rows [] wanted missed = absurd cc
given_by_name id rows (a ∷ rest) wanted missed =
    go a.required (bytes_eq a.id id) (is_given a.id rows) refl refl wanted missed (given_by_name id rows rest)
  where
    go : (r n g : Bool) → bytes_eq a.id id ≡ n → is_given a.id rows ≡ g → ((r && n) || requires_name id rest) ≡ true
        → ((r && not g) || list_any (λ a. a.required && not (is_given a.id rows)) rest) ≡ false
        → (requires_name id rest ≡ true → list_any (λ a. a.required && not (is_given a.id rows)) rest ≡ false → is_given id rows ≡ true)
        → is_given id rows ≡ true
    go true true true is_name is_there w m more = ap (λ (i : Text). is_given i rows) (sym ((bytes_eq-Decides a.id id).0 is_name)) ∙ is_there
    go true true false is_name is_there w m more = absurd cc
    go true false true is_name is_there w m more = more w m
    go true false false is_name is_there w m more = absurd cc
    go false n g is_name is_there w m more = more w m

-- what is given has a value, where each row has one
value_by_row : (id : Text) (rows : List Row) → AllValued rows → is_given id rows ≡ true → (word : Text) × (first_of id rows ≡ Some word)
value_by_row id [] valued given = absurd cc
value_by_row id (r ∷ rs) valued given =
    let parts = and_parts (has_value r) (list_all has_value rs) valued in
    go (bytes_eq r.id id) given (value_by_row id rs parts.1)
  where
    first : (vs : List Text) → has_first vs ≡ true → (word : Text) × (slice_get vs 0 ≡ Some word)
    first [] has = absurd cc
    first (v ∷ vs) has = (v, refl)

    go : (t : Bool) → option_map_or (λ r. explicit_source r.source) (cond t (Some r) (find (λ r. bytes_eq r.id id) rs)) false ≡ true
        → (is_given id rs ≡ true → (word : Text) × (first_of id rs ≡ Some word))
        → (word : Text) × (option_and_then (λ (r : Row). slice_get r.values 0) (cond t (Some r) (find (λ r. bytes_eq r.id id) rs)) ≡ Some word)
    go true g more = first r.values (and_parts (has_value r) (list_all has_value rs) valued).0
    go false g more = more g

-- in words in which clap's definition finds no fault, a required argument has a value
pub value_given : (command : App) (words : List Text) (id : Text) → is_sound_command (built command) ≡ true → requires_name id (built command).top.rules ≡ true
    → fault_of command words ≡ [] → (word : Text) × (first_of id (matches_of command words) ≡ Some word)
value_given command words id sound wanted e =
    let whole = built command in
    let rules = whole.top.rules in
    let ws = argument_words command words in
    let stands = walk rules (names_of whole) nothing_held ws in
    let fit = and_parts (list_all is_sound rules) (not whole.top.subcommand_negates_reqs) sound in
    let one = both_none (walk_fault whole.top (names_of whole) (walk_from nothing_held) ws) _ e in
    let two = both_none (entered_fault whole stands.stopped) _ one.1 in
    let three = both_none (settle_fault rules whole.top.args_override_self stands.held) _ two.1 in
    let four = both_none (defaults_fault (settled rules stands.held).rows rules) _ three.1 in
    let walked_rows = walk_valued whole.top fit.0 (names_of whole) (walk_from nothing_held) ws one.0 refl in
    let settled_rows = settled_valued rules whole.top.args_override_self fit.0 stands.held three.0 walked_rows in
    let same : finished rules stands.held ≡ (settled rules stands.held).rows = defaults_kept rules (settled rules stands.held).rows fit.0 in
    let missing = not_lifted whole.top.subcommand_negates_reqs _ _ fit.1 (last_none _ _ _ four.1) in
    value_by_row id (finished rules stands.held) (subst AllValued (sym same) settled_rows) (given_by_name id (finished rules stands.held) rules wanted missing)
