-- What the code keeps of the calls, the asks and the settings of a text, and how far it has come.
use Rattle.std.specs.Prelude.{◌≡◌, List, ◌++◌, Option, map}
use Rattle.std.specs.List.{flat_map}
use Rattle.rpl_forms.specs.declared.item.RplForm.{RplForm}
use Rattle.rpl_forms.specs.declared.item.RplItem.{RplItem}
use Rattle.rpl_calls.specs.Policies.{spoken_from}
use Rattle.rpl_calls.specs.Open.{IsOpen}
use Rattle.rpl_calls.specs.Asks.{own_asks, asks_of}
use Rattle.rpl_calls.specs.Asks.{OwnAsk as AskParts}
use Rattle.rpl_calls.specs.Calls.{CallParts, call_of, calls_of}
use Rattle.rpl_calls.specs.Settings.{setting_of, settings_of}
use Rattle.rpl_calls.specs.Settings.{Setting as SettingParts}
use Rattle.rpl_calls.specs.declared.policies.Open.{Open}
use Rattle.rpl_calls.specs.declared.said.Call.{Call}
use Rattle.rpl_calls.specs.declared.said.OwnAsk.{OwnAsk}
use Rattle.rpl_calls.specs.declared.said.Said.{Said}
use Rattle.rpl_calls.specs.declared.said.Setting.{Setting}

-- a call as clauses see it
abbrev pub call_parts : Call → CallParts
call_parts c = record { caller = c.caller.now; apply = c.apply.now; own = c.own; span = c.span }

-- an ask as clauses see it
abbrev pub ask_parts : OwnAsk → AskParts
ask_parts a = record { policy = a.policy.now; ask = a.ask }

abbrev pub calls_in : List Call → List CallParts
calls_in cs = map call_parts cs

abbrev pub asks_in : List OwnAsk → List AskParts
asks_in xs = map ask_parts xs

-- a setting as clauses see it
abbrev pub setting_parts : Setting → SettingParts
setting_parts s = record { policy = s.policy.now; place = s.place; span = s.span }

abbrev pub settings_in : List Setting → List SettingParts
settings_in xs = map setting_parts xs

-- what is said so far, and what the rest says where this policy is open, is what the whole says
pub record IsSaying (all : List RplItem) (said : Said) (policy : Option Open) (rest : List RplItem) : Type 0 where
  pub line : Option RplForm
  pub is_open : IsOpen line policy
  pub calls : calls_in said.calls ++ flat_map call_of (spoken_from line rest) ≡ calls_of all
  pub asks : asks_in said.asks ++ flat_map own_asks (spoken_from line rest) ≡ asks_of all
  pub settings : settings_in said.settings ++ flat_map setting_of (spoken_from line rest) ≡ settings_of all
