-- What the code keeps of the statements of policies.
use Rattle.std.specs.Prelude.{List, Option, map, option_map}
use denote.Ref.{Bor}
use Rattle.rpl_forms.specs.declared.item.RplForm.{RplForm}
use Rattle.rpl_calls.specs.Policies.{Spoken as SpokenParts}
use Rattle.rpl_facts.specs.declared.spoken.Spoken.{Spoken}

-- a statement as clauses see it
abbrev pub spoken_parts : Spoken → SpokenParts
spoken_parts s = record { line = s.line.now; item = s.item.now }

abbrev pub spoken_in : List Spoken → List SpokenParts
spoken_in ss = map spoken_parts ss

-- the first line that is lent
abbrev pub line_in : Option (Bor RplForm) → Option RplForm
line_in line = option_map (λ l. l.now) line
