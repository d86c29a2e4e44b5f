-- In words in which clap's definition finds no fault, each row of the values has a value.
use Rattle.std.proofs.Common.{◌≡◌, ℕ, zero, suc, refl, sym, subst, ◌∙◌, Bool, true, false, ◌&&◌, not, List, [], ◌∷◌, ◌++◌, length, drop, Option, Some, None}
use Rattle.std.specs.Prelude.{IfSome, encode_utf8, fold, is_some, find, if◌then◌else◌, nat_lt, slice_get, cond}
use Rattle.std.specs.List.{list_all}
use Rattle.std.specs.Option.{option_map_or}
use Rattle.std.specs.Str.{bytes_eq, chars}
use Rattle.std.proofs.lemmas.Bool.{and_parts, and_from}
use Rattle.std.proofs.lemmas.List.Folds.{list_all-append}
use Rattle.clap.specs.Faults.{bundle_fault, bundle_step_fault, flag_word_fault, flags_fault, long_fault, option_fault, other_fault, positional_fault, react_fault, settle_fault, short_fault, step_fault, stray_fault, turn_fault, use_fault, walk_fault, word_fault}
use Rattle.clap.specs.Facts.{unwrap_or_range}
use Rattle.clap.specs.Kinds.{Kinds, or_else, range_kinds}
use Rattle.clap.specs.Lexer.{long_of, short_of}
use Rattle.clap.specs.Simple.{Shape}
use Rattle.clap.specs.Values.{is_request}
use Rattle.clap.specs.Walk.{Held, Names, Outcome, Row, Rule, Step, Text, Waiting, Walk, action_of, after_flag, after_step, arg_by_id, arg_by_index, arg_by_long, arg_by_short, at_row, attached_value, bundle, bundle_met, bundle_step, done, flag_met, idle, is_pending, long_met, long_or_other, more_values, most_values, next, option, option_met, option_word, plain, plain_word, positional, positional_held, reacted, reading_by, refused, settled, settled_rows, short_met, short_or_plain, subcommand, subcommand_met, subcommand_or_other, takes_several, takes_values, to_positional, trailing, used, used_as, used_by_id, value, values_or_missing, waits, walked, walked_from, with_values, without, word_met}
use Rattle.clap.specs.declared.builder.action.ArgAction.{ArgAction}
use Rattle.clap.specs.declared.builder.action.ArgAction.TheVariants.{Append, Count, Help, HelpLong, HelpShort, Set, SetFalse, SetTrue, Version}
use Rattle.clap.specs.declared.builder.value_parser.Reading.{Reading}
use Rattle.clap.specs.declared.error.kind.ErrorKind.TheVariants.{TooManyValues}
use Rattle.clap.specs.declared.parser.matches.ValueSource.TheVariants.{CommandLine}

-- the list is not empty
abbrev pub has_first : {X : Type 0} → List X → Bool
has_first [] = false
has_first (x ∷ xs) = true

-- the row has a value
abbrev pub has_value : Row → Bool
has_value r = has_first r.values

-- each row has a value
abbrev pub AllValued : List Row → Type 0
AllValued rows = list_all has_value rows ≡ true

-- a use by this action with at least so many values gives a value, or asks for help or version
abbrev pub gives_value : ArgAction → ℕ → Bool
gives_value Set least = nat_lt 0 least
gives_value x least = is_request x

-- each use of the argument without a fault leaves a value, and no default does
abbrev pub is_sound : Rule → Bool
is_sound a = gives_value (action_of a) (unwrap_or_range a.range).start_inclusive && not (has_first a.defaults)

pub both_none : (a b : Kinds) → or_else a b ≡ [] → (a ≡ []) × (b ≡ [])
both_none [] b e = (refl, e)
both_none (k ∷ ks) b e = absurd cc

pub find_sound : (test : Rule → Bool) (c : List Rule) → list_all is_sound c ≡ true → IfSome (find test c) (λ a. is_sound a ≡ true)
find_sound test [] s = tt
find_sound test (x ∷ xs) s =
    let parts = and_parts (is_sound x) (list_all is_sound xs) s in
    go (test x) parts.0 (find_sound test xs parts.1)
  where
    go : (t : Bool) → is_sound x ≡ true → IfSome (find test xs) (λ a. is_sound a ≡ true) → IfSome (cond t (Some x) (find test xs)) (λ a. is_sound a ≡ true)
    go true here rest = here
    go false here rest = rest

-- ---- one use

at_row_valued : (id : Text) (change : Row → List Row) (missing rows : List Row) → ((r : Row) → has_value r ≡ true → AllValued (change r)) → AllValued missing
    → AllValued rows → AllValued (at_row id change missing rows)
at_row_valued id change missing [] changed missed f = missed
at_row_valued id change missing (r ∷ rs) changed missed f =
    let parts = and_parts (has_value r) (list_all has_value rs) f in
    go (bytes_eq r.id id) parts.0 parts.1 (at_row_valued id change missing rs changed missed parts.1)
  where
    go : (b : Bool) → has_value r ≡ true → AllValued rs → AllValued (at_row id change missing rs) → AllValued (if b then change r ++ rs else r ∷ at_row id change missing rs)
    go true here rest below =
        list_all-append has_value (change r) rs ∙ and_from (list_all has_value (change r)) (list_all has_value rs) (changed r here) rest
    go false here rest below = and_from (has_value r) (list_all has_value (at_row id change missing rs)) here below

values_valued : (id : Text) (how : Reading) (v : Text) (vs : List Text) (rows : List Row) → AllValued rows → AllValued (with_values id how CommandLine (v ∷ vs) rows)
values_valued id how v vs rows f = at_row_valued id (more_values CommandLine (v ∷ vs)) _ rows (λ r here. grown r.values here) refl f
  where
    grown : (xs : List Text) → has_first xs ≡ true → (has_first (xs ++ v ∷ vs) && true) ≡ true
    grown [] here = absurd cc
    grown (x ∷ xs) here = refl

without_valued : (id : Text) (rows : List Row) → AllValued rows → AllValued (without id rows)
without_valued id rows f = at_row_valued id (λ _. []) [] rows (λ r here. refl) refl f

pub used_valued : (again : Bool) (a : Rule) (values : List Text) (rows : List Row) → is_sound a ≡ true → use_fault again a values rows ≡ [] → AllValued rows
    → AllValued (used a values rows)
used_valued again a values rows sound e f =
    go (action_of a) values (and_parts (gives_value (action_of a) (unwrap_or_range a.range).start_inclusive) (not (has_first a.defaults)) sound).0
    (both_none (range_kinds (unwrap_or_range a.range).start_inclusive (most_values a) (length values)) _ e).0
  where
    no_use : (some : Bool) (k : _) (others : Kinds) → some ≡ true → (if some && true then k ∷ [] else others) ≡ [] → ⊥
    no_use true k others t e = cc
    no_use false k others t e = cc

    go : (x : ArgAction) (values : List Text) → gives_value x (unwrap_or_range a.range).start_inclusive ≡ true
        → range_kinds (unwrap_or_range a.range).start_inclusive (most_values a) (length values) ≡ []
        → AllValued (used_as x a.id (reading_by a) (values_or_missing a values) rows)
    go Set [] gives ranged = absurd (no_use (nat_lt 0 (unwrap_or_range a.range).start_inclusive) _ _ gives ranged)
    go Set (v ∷ vs) gives ranged = values_valued a.id (reading_by a) v vs (without a.id rows) (without_valued a.id rows f)
    go Append values gives ranged = absurd cc
    go SetTrue values gives ranged = absurd cc
    go SetFalse values gives ranged = absurd cc
    go Count values gives ranged = absurd cc
    go Help values gives ranged = f
    go HelpShort values gives ranged = f
    go HelpLong values gives ranged = f
    go Version values gives ranged = f

-- ---- the walk

module _ (c : List Rule) (again : Bool) (sound : list_all is_sound c ≡ true) where
  by_id_valued : (o : Option Rule) (values : List Text) (rows : List Row) → IfSome o (λ a. is_sound a ≡ true)
      → option_map_or (λ a. use_fault again a values rows) o [] ≡ [] → AllValued rows → AllValued (used_by_id o values rows)
  by_id_valued None values rows s e f = f
  by_id_valued (Some a) values rows s e f = used_valued again a values rows s e f

  settled_rows_valued : (p : Option (Text × List Text)) (rows : List Row)
      → option_map_or (λ p. option_map_or (λ a. use_fault again a p.1 rows) (arg_by_id c p.0) []) p [] ≡ [] → AllValued rows → AllValued (settled_rows c p rows)
  settled_rows_valued None rows e f = f
  settled_rows_valued (Some p) rows e f = by_id_valued (arg_by_id c p.0) p.1 rows (find_sound (λ a. bytes_eq a.id p.0) c sound) e f

  pub settled_valued : (h : Held) → settle_fault c again h ≡ [] → AllValued h.rows → AllValued (settled c h).rows
  settled_valued h e f = settled_rows_valued h.pending h.rows e f

  reacted_valued : (a : Rule) (values : List Text) (h : Held) → is_sound a ≡ true → react_fault c again a values h ≡ [] → AllValued h.rows → AllValued (reacted c a values h).rows
  reacted_valued a values h s e f =
      let parts = both_none (settle_fault c again h) (use_fault again a values (settled c h).rows) e in
      used_valued again a values (settled c h).rows s parts.1 (settled_valued h parts.0 f)

  option_valued : (a : Rule) (v : Option Text) (h : Held) → is_sound a ≡ true → option_fault c again a v h ≡ [] → AllValued h.rows → AllValued (option_met c a v h).0.rows
  option_valued a (Some v) h s e f = reacted_valued a (v ∷ []) h s e f
  option_valued a None h s e f = settled_valued h e f

  long_valued : (o : Option Rule) (v : Option Text) (h : Held) → IfSome o (λ a. is_sound a ≡ true) → long_fault c again o v h ≡ [] → AllValued h.rows
      → AllValued (long_met c o v h).0.rows
  long_valued None v h s e f = f
  long_valued (Some a) v h s e f = go (takes_values a) v e
    where
      go : (t : Bool) (v : Option Text)
          → (if t then option_fault c again a v h else (if is_some v then TooManyValues ∷ [] else react_fault c again a [] h)) ≡ []
          → AllValued (if t then option_met c a v h else flag_met c a v h).0.rows
      go true v e = option_valued a v h s e f
      go false (Some v) e = f
      go false None e = reacted_valued a [] h s e f

  short_valued : (o : Option Rule) (rest : Text) (h : Held) (next_fault : Held → Kinds) (next_met : Held → Held × Outcome) → IfSome o (λ a. is_sound a ≡ true)
      → ((k : Held) → next_fault k ≡ [] → AllValued k.rows → AllValued (next_met k).0.rows)
      → short_fault c again o rest h next_fault ≡ [] → AllValued h.rows → AllValued (short_met c o rest h next_met).0.rows
  short_valued None rest h next_fault next_met s more e f = f
  short_valued (Some a) rest h next_fault next_met s more e f = go (takes_values a) e
    where
      go : (t : Bool) → (if t then option_fault c again a (attached_value rest) h else or_else (react_fault c again a [] h) (next_fault (reacted c a [] h))) ≡ []
          → AllValued (if t then option_met c a (attached_value rest) h else next_met (reacted c a [] h)).0.rows
      go true e = option_valued a (attached_value rest) h s e f
      go false e =
          let parts = both_none (react_fault c again a [] h) (next_fault (reacted c a [] h)) e in
          more (reacted c a [] h) parts.1 (reacted_valued a [] h s parts.0 f)

  step_valued : (o : Option ℕ) (flags : Text) (skip : ℕ) (so_far : Outcome) (h : Held) (fault : Text → ℕ → Held → Kinds) (met : Text → ℕ → Outcome → Held → Held × Outcome)
      → ((rest : Text) (n : ℕ) (x : Outcome) (k : Held) → fault rest n k ≡ [] → AllValued k.rows → AllValued (met rest n x k).0.rows)
      → bundle_step_fault c again o flags skip h fault ≡ [] → AllValued h.rows → AllValued (bundle_step c o flags skip so_far h met).0.rows
  step_valued None flags skip so_far h fault met more e f = f
  step_valued (Some x) flags zero so_far h fault met more e f =
      let rest = drop (length (encode_utf8 x)) flags in
      short_valued (arg_by_short c x) rest h (fault rest 0) (met rest 0 done) (find_sound _ c sound) (more rest 0 done) e f
  step_valued (Some x) flags (suc skip) so_far h fault met more e f = more (drop (length (encode_utf8 x)) flags) skip so_far h e f

  flags_valued : (k : ℕ) (flags : Text) (skip : ℕ) (so_far : Outcome) (h : Held) → flags_fault c again k flags skip h ≡ [] → AllValued h.rows
      → AllValued (bundle_met c k flags skip so_far h).0.rows
  unfolding flags_fault bundle_met
  flags_valued zero flags skip so_far h e f = f
  flags_valued (suc k) flags skip so_far h e f =
      step_valued (slice_get (chars flags) 0) flags skip so_far h (flags_fault c again k) (bundle_met c k) (flags_valued k) e f

  bundle_valued : (flags : Text) (h : Held) → bundle_fault c again flags h ≡ [] → AllValued h.rows → AllValued (bundle c flags h).0.rows
  bundle_valued flags h e f = flags_valued (length flags) flags h.skip plain (record h { skip = 0 }) e f

  -- a word that is no flag changes no row
  option_word_rows : (o : Option Rule) (id word : Text) (h : Held) → (option_word o id word h).0.rows ≡ h.rows
  option_word_rows None id word h = refl
  option_word_rows (Some a) id word h = refl

  plain_word_rows : (w : Waiting) (word : Text) (h : Held) → (plain_word c w word h).0.rows ≡ h.rows
  plain_word_rows idle word h = refl
  plain_word_rows positional word h = refl
  plain_word_rows (option id) word h = option_word_rows (arg_by_id c id) id word h

  after_flag_rows : (w : Waiting) (word : Text) (h : Held) (o : Outcome) → (after_flag c w word h o).0.rows ≡ h.rows
  after_flag_rows w word h done = refl
  after_flag_rows w word h (waits id) = refl
  after_flag_rows w word h plain = plain_word_rows w word h
  after_flag_rows w word h refused = plain_word_rows w word h

  after_flag_valued : (w : Waiting) (word : Text) (h : Held) (o : Outcome) → AllValued h.rows → AllValued (after_flag c w word h o).0.rows
  after_flag_valued w word h o f = subst AllValued (sym (after_flag_rows w word h o)) f

  flag_word_valued : (o : Option (Text × Option Text)) (w : Waiting) (word : Text) (h : Held) → flag_word_fault c again o word h ≡ [] → AllValued h.rows
      → AllValued (long_or_other c w word o h).0.rows
  flag_word_valued (Some p) w word h e f =
      let met = long_met c (arg_by_long c p.0) p.1 h in
      after_flag_valued w word met.0 met.1 (long_valued (arg_by_long c p.0) p.1 h (find_sound _ c sound) e f)
  flag_word_valued None w word h e f = go (short_of word) e
    where
      go : (o : Option Text) → option_map_or (λ flags. bundle_fault c again flags h) o [] ≡ [] → AllValued (short_or_plain c w word o h).0.rows
      go (Some flags) e = after_flag_valued w word (bundle c flags h).0 (bundle c flags h).1 (bundle_valued flags h e f)
      go None e = subst AllValued (sym (plain_word_rows w word h)) f

module _ (s : Shape) (sound : list_all is_sound s.rules ≡ true) (names : Names) where
  other_valued : (name : Option Text) (w : Waiting) (position : ℕ) (word : Text) (h : Held) → other_fault s name word h ≡ [] → AllValued h.rows
      → AllValued (subcommand_or_other s.rules name w position word h).0.rows
  other_valued (Some name) w position word h e f = f
  other_valued None w position word h e f = go (bytes_eq word (45 ∷ 45 ∷ [])) e
    where
      go : (t : Bool) → (if t then [] else flag_word_fault s.rules s.args_override_self (long_of word) word h) ≡ []
          → AllValued (if t then (h, trailing position) else long_or_other s.rules w word (long_of word) h).0.rows
      go true e = f
      go false e = flag_word_valued s.rules s.args_override_self sound (long_of word) w word h e f

  word_valued : (is_trailing : Bool) (w : Waiting) (position : ℕ) (word : Text) (h : Held) → word_fault s names is_trailing w word h ≡ [] → AllValued h.rows
      → AllValued (word_met s.rules names is_trailing w position word h).0.rows
  word_valued true w position word h e f = f
  word_valued false w position word h e f = other_valued (subcommand_met names w word) w position word h e f

  positional_valued : (a : Rule) (word : Text) (h : Held) → positional_fault s.rules s.args_override_self a h ≡ [] → AllValued h.rows
      → AllValued (positional_held s.rules a word h).rows
  positional_valued a word h e f = go (is_pending a h.pending && takes_several a) e
    where
      go : (t : Bool) → (if t then [] else settle_fault s.rules s.args_override_self h) ≡ [] → AllValued (if t then h else settled s.rules h).rows
      go true e = f
      go false e = settled_valued s.rules s.args_override_self sound h e f

  after_step_valued : (word : Text) (w : Walk) (h : Held) (step : Step) → step_fault s w.position h step ≡ [] → AllValued h.rows
      → AllValued (after_step s.rules word w h step).held.rows
  after_step_valued word w h (next waiting) e f = f
  after_step_valued word w h (trailing position) e f = f
  after_step_valued word w h (subcommand name) e f = f
  after_step_valued word w h value e f = go (arg_by_index s.rules w.position) e
    where
      go : (o : Option Rule) → option_map_or (λ a. positional_fault s.rules s.args_override_self a h) o (stray_fault s) ≡ [] → AllValued (to_positional s.rules o word w h).held.rows
      go None e = f
      go (Some a) e = positional_valued a word h e f

  turn_valued : (w : Walk) (word : Text) → turn_fault s names w word ≡ [] → AllValued w.held.rows → AllValued (walked s.rules names w word).held.rows
  unfolding walked
  turn_valued w word e f = go w.stopped e
    where
      go : (o : Option (Text × List Text))
          → (if is_some o then [] else or_else (word_fault s names w.is_trailing w.waiting word w.held)
          (step_fault s w.position (word_met s.rules names w.is_trailing w.waiting w.position word w.held).0
          (word_met s.rules names w.is_trailing w.waiting w.position word w.held).1)) ≡ []
          → AllValued (walked_from s.rules names o w word).held.rows
      go (Some p) e = f
      go None e =
          let met = word_met s.rules names w.is_trailing w.waiting w.position word w.held in
          let parts = both_none (word_fault s names w.is_trailing w.waiting word w.held) (step_fault s w.position met.0 met.1) e in
          after_step_valued word w met.0 met.1 parts.1 (word_valued w.is_trailing w.waiting w.position word w.held parts.0 f)

  pub walk_valued : (w : Walk) (words : List Text) → walk_fault s names w words ≡ [] → AllValued w.held.rows
      → AllValued (fold (walked s.rules names) w words).held.rows
  unfolding walk_fault
  walk_valued w [] e f = f
  walk_valued w (word ∷ rest) e f =
      let parts = both_none (turn_fault s names w word) (walk_fault s names (walked s.rules names w word) rest) e in
      walk_valued (walked s.rules names w word) rest parts.1 (turn_valued w word parts.0 f)
