-- What the calls of a sheet come to. Assumes nothing.
use Rattle.std.specs.Prelude.{◌≡◌, ℕ, List, [], ◌∷◌, length, Some, None, Option, Result}
use Rattle.patch.specs.Patch.{patch_of}
use Rattle.refusal.specs.Replies.{Reply, acceptance, reply_by, word_value}
use Rattle.refusal.specs.declared.refusal.Refusal.{Refusal}
use Rattle.trace.specs.Traces.{Traced}
use Rattle.bus.specs.Meaning.{BusMachine}
use Rattle.port.specs.Meaning.{PortMachine}
use Rattle.bench_call.specs.Asked.{Asked, get, put, measure, down, up}
use Rattle.bench_call.specs.declared.PileCall.{PileCall}
use Rattle.bench_call.specs.declared.PileCall.TheVariants.{Port, Suspend, Resume}
use Rattle.bench_call.specs.declared.PortCall.{PortCall}
use Rattle.bench_call.specs.declared.PortCall.TheVariants.{Read, Update, Sync, Measure, Down, Up}
use Rattle.port_rest.specs.Rests.{resume}
use Rattle.bench_run.specs.declared.answer.Outcome.{Outcome}

-- what an acceptance answers: a word, or nothing more than yes
abbrev pub answer_values : Option ℕ → List ℕ
answer_values (Some w) = word_value w
answer_values None = []

-- the reply of a call, where tells gives the values of a failed transfer
abbrev pub answer_reply : {F : Type 0} → (F → List ℕ) → Result (Option ℕ) (Refusal F) → Reply
answer_reply tells a = reply_by tells answer_values a

-- the reply of a call, and how many events had passed on the wire when it was over
pub record Seen : Type 0 where
  pub reply : Reply
  pub passed : ℕ

-- what is seen of an outcome
abbrev pub seen_of : {F : Type 0} → (F → List ℕ) → Outcome F → Seen
seen_of tells o = record { reply = answer_reply tells o.answer; passed = o.passed }

-- one call on a bus that is at m
abbrev pub bus_call : {M : Type 0} → BusMachine M → Asked → M → Reply × M
bus_call bus (get raw) m = bus.get m raw
bus_call bus (put raw ws) m = bus.put m raw ws
bus_call bus (measure n w) m = bus.measure m n w
bus_call bus down m = (acceptance [], bus.down m)
bus_call bus up m = (acceptance [], bus.up m)

-- one call on the port on top of a pile, which is at m
abbrev pub port_call : {M : Type 0} → PortMachine M → PortCall → M → Reply × M
port_call port (Read n) m = port.read m n
port_call port (Update n mask bits) m = port.update m n (patch_of mask bits)
port_call port Sync m = port.sync m
port_call port (Measure n w) m = port.measure m n w
port_call port Down m = (acceptance [], port.down m)
port_call port Up m = (acceptance [], port.up m)

-- one call of a sheet on a pile: one of the port's, or an end of a rest
abbrev pub pile_call : {M : Type 0} → PortMachine M → PileCall → M → Reply × M
pile_call port (Port c) m = port_call port c m
pile_call port Suspend m = (acceptance [], port.down m)
pile_call port Resume m = resume port m

-- what is seen of a call that led to p
abbrev pub seen_after : {M : Type 0} → (M → Traced) → Reply × M → Seen
seen_after trace p = record { reply = p.0; passed = length (trace p.1).events }

-- a call done first, and what is seen of the calls after it
abbrev pub then : {M : Type 0} → (M → Traced) → Reply × M → (M → List Seen × M) → List Seen × M
then trace first rest = (seen_after trace first ∷ (rest first.1).0, (rest first.1).1)

-- by the last call, if there is one, all that passed had passed
abbrev pub AllPassedAtLast : List Seen → Traced → Type 0
AllPassedAtLast [] t = Unit {0}
AllPassedAtLast (x ∷ []) t = x.passed ≡ length t.events
AllPassedAtLast (x ∷ y ∷ xs) t = AllPassedAtLast (y ∷ xs) t

-- a list of calls, by what each does: what is seen of each in order, and where all lead
abbrev pub walk : {C M : Type 0} → (C → M → Reply × M) → (M → Traced) → List C → M
    → List Seen × M
walk does trace [] m = ([], m)
walk does trace (c ∷ cs) m = then trace (does c m) (walk does trace cs)
