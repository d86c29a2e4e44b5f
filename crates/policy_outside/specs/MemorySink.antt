-- What contracts see of a sink in memory.
use Rattle.std.specs.Prelude.{◌≡◌, ℕ, List, ◌++◌, true, false, Some, Result, Ok, Err}
use Rattle.policy_outside.specs.declared.faults.PutFault.{PutFault}
use Rattle.policy_outside.specs.declared.faults.PutFault.TheVariants.{Failed, Memory}
use Rattle.policy_outside.specs.Counts.{raised, next_fails}
use Rattle.policy_outside.specs.Sink.{SinkView}

-- the bytes so far, the numbers of the calls that are to fail, how many calls there were, and the two counts
pub record SinkInMemory : Type 0 where
  pub bytes : List ℕ
  pub failing : List ℕ
  pub calls : ℕ
  pub faults : ℕ
  pub shortages : ℕ

-- such a sink tells its bytes
abbrev pub sink_view : SinkInMemory → SinkView
sink_view sink =
    record { bytes = Some sink.bytes; faults = sink.faults; shortages = sink.shortages }

-- the next answer, but for want of memory: Failed exactly where the call is to fail
abbrev pub AnswersNextPut : SinkInMemory → Result (Unit {0}) PutFault → Type 0
AnswersNextPut sink (Ok _) = next_fails sink.failing sink.calls ≡ false
AnswersNextPut sink (Err Failed) = next_fails sink.failing sink.calls ≡ true
AnswersNextPut sink (Err Memory) = next_fails sink.failing sink.calls ≡ false

-- the sink after a call with this answer: every call is counted, Ok alone appends, each other answer raises its count
abbrev pub after_put : SinkInMemory → List ℕ → Result (Unit {0}) PutFault → SinkInMemory
after_put sink piece (Ok _) =
    record sink { bytes = sink.bytes ++ piece; calls = raised sink.calls }
after_put sink piece (Err Failed) =
    record sink { calls = raised sink.calls; faults = raised sink.faults }
after_put sink piece (Err Memory) =
    record sink { calls = raised sink.calls; shortages = raised sink.shortages }

-- one call of put over memory
pub record PutsInMemory
    (before now : SinkInMemory) (piece : List ℕ) (answer : Result (Unit {0}) PutFault) : Type 0 where
  pub answers : AnswersNextPut before answer
  pub leaves : now ≡ after_put before piece answer
