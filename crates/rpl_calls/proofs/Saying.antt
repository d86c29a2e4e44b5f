-- What one more item of a text says.
use Rattle.std.proofs.Common.{◌≡◌, refl, sym, ap, ◌∙◌, subst, ℕ, ◌-◌, ◌<◌, ◌≤◌, List, [], ◌∷◌, ◌++◌, length, get_or, take, drop, Option, Some, None, append_assoc, arith}
use Rattle.std.specs.List.{flat_map}
use Rattle.std.proofs.lemmas.List.{take_all, append-nil}
use Rattle.name_maps.specs.Under.{under}
use Rattle.text_words.specs.declared.rpl_blocks.BlockKind.{BlockKind}
use Rattle.rpl_forms.specs.declared.item.RplForm.{RplForm}
use Rattle.rpl_forms.specs.declared.item.RplItem.{RplItem}
use Rattle.rpl_calls.specs.Policies.{Spoken, spoken_from, opens, policy_line, name_under}
use Rattle.rpl_calls.specs.Open.{IsOpen}
use Rattle.rpl_calls.specs.Asks.{own_asks, asks_of, form_asks, OwnAsk}
use Rattle.rpl_calls.specs.Calls.{CallParts, call_of, call_in, calls_of}
use Rattle.rpl_calls.specs.Settings.{Setting, setting_in, setting_of, settings_of}
use Rattle.rpl_calls.specs.Said.{calls_in, asks_in, settings_in, IsSaying}
use Rattle.rpl_calls.specs.declared.policies.Open.{Open}
use Rattle.rpl_calls.specs.declared.said.Said.{Said}

module _ (all rest : List RplItem) (i : RplItem) where
  -- the statements from the item on, by the block that it opens
  abbrev step : Option RplForm → Option BlockKind → List Spoken
  step line o = elim o [
    | Some kind ↦ spoken_from (policy_line kind i.form) rest
    | None ↦ elim line [ None ↦ spoken_from None rest | Some l ↦ record { line = l; item = i } ∷ spoken_from (Some l) rest ]
  ]

  spoken : (line : Option RplForm) (o : Option BlockKind) → opens i.form ≡ o → spoken_from line (i ∷ rest) ≡ step line o
  unfolding spoken_from
  spoken line o e = ap (step line) e

  pub opened : (said : Said) (policy behind : Option Open) (kind : BlockKind) → opens i.form ≡ Some kind → IsOpen (policy_line kind i.form) behind → IsSaying all said policy (i ∷ rest) → IsSaying all said behind rest
  opened said policy behind kind e is saying = record {
    line = policy_line kind i.form;
    is_open = is;
    calls = ap (λ (ss : List Spoken). calls_in said.calls ++ flat_map call_of ss) (sym (spoken saying.line (Some kind) e)) ∙ saying.calls;
    asks = ap (λ (ss : List Spoken). asks_in said.asks ++ flat_map own_asks ss) (sym (spoken saying.line (Some kind) e)) ∙ saying.asks;
    settings = ap (λ (ss : List Spoken). settings_in said.settings ++ flat_map setting_of ss) (sym (spoken saying.line (Some kind) e)) ∙ saying.settings;
  }

  passed_at : (said : Said) (line : Option RplForm) → IsOpen line None → opens i.form ≡ None → calls_in said.calls ++ flat_map call_of (spoken_from line (i ∷ rest)) ≡ calls_of all → asks_in said.asks ++ flat_map own_asks (spoken_from line (i ∷ rest)) ≡ asks_of all
      → settings_in said.settings ++ flat_map setting_of (spoken_from line (i ∷ rest)) ≡ settings_of all → IsSaying all said None rest
  passed_at said None is e calls asks settings = record {
    line = None;
    is_open = tt;
    calls = ap (λ (ss : List Spoken). calls_in said.calls ++ flat_map call_of ss) (sym (spoken None None e)) ∙ calls;
    asks = ap (λ (ss : List Spoken). asks_in said.asks ++ flat_map own_asks ss) (sym (spoken None None e)) ∙ asks;
    settings = ap (λ (ss : List Spoken). settings_in said.settings ++ flat_map setting_of ss) (sym (spoken None None e)) ∙ settings;
  }
  passed_at said (Some line) is e calls asks settings = absurd is

  pub passed : (said : Said) (policy : Option Open) → opens i.form ≡ None → policy ≡ None → IsSaying all said policy (i ∷ rest) → IsSaying all said None rest
  passed said policy e none saying = passed_at said saying.line (subst (λ (o : Option Open). IsOpen saying.line o) none saying.is_open) e saying.calls saying.asks saying.settings

  -- what the statement calls, asks and sets, by what is kept of the policy
  abbrev pub calls_kept : Open → List CallParts
  calls_kept o = call_in (name_under o.line.now) (under o.places.entries) i.span i.form

  abbrev pub asks_kept : Open → List OwnAsk
  asks_kept o = flat_map (λ ask. record { policy = name_under o.line.now; ask = ask } ∷ []) (form_asks (under o.places.entries) i.form)

  abbrev pub settings_kept : Open → List Setting
  settings_kept o = setting_in (name_under o.line.now) (under o.places.entries) i.span i.form

  more_at : (old new : Said) (line : Option RplForm) (o : Open) → IsOpen line (Some o) → opens i.form ≡ None → calls_in new.calls ≡ calls_in old.calls ++ calls_kept o → asks_in new.asks ≡ asks_in old.asks ++ asks_kept o
      → settings_in new.settings ≡ settings_in old.settings ++ settings_kept o
      → calls_in old.calls ++ flat_map call_of (spoken_from line (i ∷ rest)) ≡ calls_of all → asks_in old.asks ++ flat_map own_asks (spoken_from line (i ∷ rest)) ≡ asks_of all
      → settings_in old.settings ++ flat_map setting_of (spoken_from line (i ∷ rest)) ≡ settings_of all → IsSaying all new (Some o) rest
  more_at old new None o is e calls asks settings all_calls all_asks all_settings = absurd is
  more_at old new (Some line) o is e calls asks settings all_calls all_asks all_settings =
      let call : calls_kept o ≡ call_of (record { line = line; item = i }) = λ j. call_in (name_under (is.line_is j)) (λ x. is.places x j) i.span i.form in
      let ask : asks_kept o ≡ own_asks (record { line = line; item = i }) = λ j. flat_map (λ ask. record { policy = name_under (is.line_is j); ask = ask } ∷ []) (form_asks (λ x. is.places x j) i.form) in
      let setting : settings_kept o ≡ setting_of (record { line = line; item = i }) = λ j. setting_in (name_under (is.line_is j)) (λ x. is.places x j) i.span i.form in
      let front_calls : List CallParts = flat_map call_of (spoken_from (Some line) rest) in
      let front_asks : List OwnAsk = flat_map own_asks (spoken_from (Some line) rest) in
      let front_settings : List Setting = flat_map setting_of (spoken_from (Some line) rest) in
      record {
        line = Some line;
        is_open = is;
        calls = ap (λ (xs : List CallParts). xs ++ front_calls) (calls ∙ ap (λ (xs : List CallParts). calls_in old.calls ++ xs) call)
            ∙ append_assoc (calls_in old.calls) (call_of (record { line = line; item = i })) front_calls
            ∙ ap (λ (ss : List Spoken). calls_in old.calls ++ flat_map call_of ss) (sym (spoken (Some line) None e)) ∙ all_calls;
        asks = ap (λ (xs : List OwnAsk). xs ++ front_asks) (asks ∙ ap (λ (xs : List OwnAsk). asks_in old.asks ++ xs) ask)
            ∙ append_assoc (asks_in old.asks) (own_asks (record { line = line; item = i })) front_asks
            ∙ ap (λ (ss : List Spoken). asks_in old.asks ++ flat_map own_asks ss) (sym (spoken (Some line) None e)) ∙ all_asks;
        settings = ap (λ (xs : List Setting). xs ++ front_settings) (settings ∙ ap (λ (xs : List Setting). settings_in old.settings ++ xs) setting)
            ∙ append_assoc (settings_in old.settings) (setting_of (record { line = line; item = i })) front_settings
            ∙ ap (λ (ss : List Spoken). settings_in old.settings ++ flat_map setting_of ss) (sym (spoken (Some line) None e)) ∙ all_settings;
      }

  pub more : (old new : Said) (policy : Option Open) (o : Open) → opens i.form ≡ None → policy ≡ Some o → calls_in new.calls ≡ calls_in old.calls ++ calls_kept o → asks_in new.asks ≡ asks_in old.asks ++ asks_kept o
      → settings_in new.settings ≡ settings_in old.settings ++ settings_kept o → IsSaying all old policy (i ∷ rest) → IsSaying all new (Some o) rest
  more old new policy o e some calls asks settings saying =
      more_at old new saying.line o (subst (λ (p : Option Open). IsOpen saying.line p) some saying.is_open) e calls asks settings saying.calls saying.asks saying.settings

-- ---- the loop

pub begins : (all : List RplItem) (said : Said) → said.calls ≡ [] → said.asks ≡ [] → said.settings ≡ [] → IsSaying all said None all
begins all said calls asks settings = record {
  line = None;
  is_open = tt;
  calls = ap (λ xs. calls_in xs ++ calls_of all) calls;
  asks = ap (λ xs. asks_in xs ++ asks_of all) asks;
  settings = ap (λ xs. settings_in xs ++ settings_of all) settings;
}

pub goes : (all rest : List RplItem) (first : RplItem) (m : ℕ) (old new : Said) (policy behind : Option Open) → 1 ≤ length rest → first ≡ get_or rest 0 first → m ≡ length rest - 1
    → ((all rest : List RplItem) → IsSaying all old policy (first ∷ rest) → IsSaying all new behind rest) → IsSaying all old policy rest → IsSaying all new behind (take m (drop 1 rest))
goes all [] first m old new policy behind long is len step saying = absurd (omega arith)
goes all (i ∷ rest) first m old new policy behind long is len step saying =
    subst (λ (xs : List RplItem). IsSaying all new behind xs) (sym (take_all m rest (omega (arith, len))))
    (step all rest (subst (λ (j : RplItem). IsSaying all old policy (j ∷ rest)) (sym is) saying))

module _ (all rest : List RplItem) (said : Said) (policy : Option Open) (saying : IsSaying all said policy rest) (short : length rest < 1) where
  none : {A : Type 0} (f : Spoken → List A) (line : Option RplForm) (xs : List RplItem) → length xs < 1 → flat_map f (spoken_from line xs) ≡ []
  unfolding spoken_from
  none f line [] short = refl
  none f line (i ∷ xs) short = absurd (omega arith)

  pub all_calls : calls_in said.calls ≡ calls_of all
  all_calls = sym (append-nil (calls_in said.calls)) ∙ ap (λ (xs : List CallParts). calls_in said.calls ++ xs) (sym (none call_of saying.line rest short)) ∙ saying.calls

  pub all_asks : asks_in said.asks ≡ asks_of all
  all_asks = sym (append-nil (asks_in said.asks)) ∙ ap (λ (xs : List OwnAsk). asks_in said.asks ++ xs) (sym (none own_asks saying.line rest short)) ∙ saying.asks

  pub all_settings : settings_in said.settings ≡ settings_of all
  all_settings = sym (append-nil (settings_in said.settings)) ∙ ap (λ (xs : List Setting). settings_in said.settings ++ xs) (sym (none setting_of saying.line rest short)) ∙ saying.settings
