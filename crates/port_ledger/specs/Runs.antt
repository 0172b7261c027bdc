-- A list of calls on a port, by the port's machine. Assumes nothing.
use Rattle.std.specs.Prelude.{List, [], ◌∷◌}
use Rattle.refusal.specs.Replies.{Reply}
use Rattle.port.specs.Meaning.{PortMachine}
use Rattle.bench_call.specs.declared.PortCall.{PortCall}
use Rattle.bench_run.specs.Performed.{port_call}
use Rattle.port_ledger.specs.Moments.{Moment}

-- a call on a port that was at m, and what it came to
abbrev pub moment : {M : Type 0} → PortMachine M → PortCall → M → Reply × M → Moment
moment port c m p =
    record { call = c; reply = p.0; before = port.chip m; after = port.chip p.1 }

-- the moments of a list of calls, each on what the one before it left
abbrev pub moments : {M : Type 0} → PortMachine M → List PortCall → M → List Moment
moments port [] m = []
moments port (c ∷ cs) m =
    let p = port_call port c m in
    moment port c m p ∷ moments port cs p.1

-- what they lead to
abbrev pub after : {M : Type 0} → PortMachine M → List PortCall → M → M
after port [] m = m
after port (c ∷ cs) m = after port cs (port_call port c m).1
