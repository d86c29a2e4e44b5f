-- A line that was put is received, or a prefix of it where a count rose.
use Rattle.std.proofs.Common.{inl, inr, ℕ, List, Result, Ok, Err}
use Rattle.policy_outside.specs.declared.faults.PutFault.{PutFault}
use Rattle.policy_outside.specs.Sink.{SinkView, Puts}
use Rattle.policy_outside.proofs.PutLaws.{fault_has_cause}
use Rattle.policy_program.specs.Ends.{ReceivedLine}

pub received_line : (before now : SinkView) (line : List ℕ) (answer : Result (Unit {0}) PutFault) → Puts before now line answer → ReceivedLine (record { before = before; now = now }) line
received_line before now line (Ok done) puts = inl puts.whole
received_line before now line (Err fault) puts = inr (puts.prefix, fault_has_cause before now line fault puts)
