-- A text that is longer than is taken is none, where the shelf tells.
use Rattle.std.proofs.Common.{ℕ, List, Option, Some, None}
use Rattle.std.specs.Prelude.{IfSome}
use Rattle.policy_outside.specs.Texts.{Texts, IsLonger}
use Rattle.policy_program.specs.Answer.{IsTooLong}
use Rattle.policy_program.specs.Requests.{HasNoText, most_bytes}

pub is_long : (told : Option Texts) (file : List ℕ) → IfSome told (λ texts. IsLonger texts file most_bytes) → HasNoText told file IsTooLong
is_long None file longer = tt
is_long (Some texts) file longer = longer
