-- The records of a run as the code keeps them. Assumes nothing.
use Rattle.std.specs.Prelude.{ℕ, Option, Result}
use Rattle.refusal.specs.Replies.{Reply, fault_values}
use Rattle.refusal.specs.declared.refusal.Fault.{Fault}
use Rattle.refusal.specs.declared.refusal.Refusal.{Refusal}
use Rattle.bench_call.specs.declared.PortCall.{PortCall}
use Rattle.bench_run.specs.Performed.{answer_reply}
use Rattle.port_ledger.specs.Moments.{Moment}
use Rattle.port_ledger.specs.declared.Record.{Record}

-- the reply of a port, a word, or nothing more than yes, or why not
abbrev pub pile_reply : Result (Option ℕ) (Refusal Fault) → Reply
pile_reply a = answer_reply fault_values a

-- a call and its reply
pub record Exchange : Type 0 where
  pub call : PortCall
  pub reply : Reply

abbrev pub record_exchange : Record → Exchange
record_exchange s = record { call = s.call; reply = pile_reply s.reply }

abbrev pub moment_exchange : Moment → Exchange
moment_exchange m = record { call = m.call; reply = m.reply }

abbrev pub call_of : Record → PortCall
call_of s = s.call
