-- The calls of a sheet as calls on the port of its pile. Assumes nothing.
use Rattle.std.specs.Prelude.{List, [], ◌∷◌}
use Rattle.std.specs.List.{flat_map}
use Rattle.bench_call.specs.declared.PileCall.{PileCall}
use Rattle.bench_call.specs.declared.PileCall.TheVariants.{Port, Suspend, Resume}
use Rattle.bench_call.specs.declared.PortCall.{PortCall}
use Rattle.bench_call.specs.declared.PortCall.TheVariants.{Sync, Down, Up}

-- to suspend is down; to resume is up, and then a sync
abbrev pub calls_of : PileCall → List PortCall
calls_of (Port call) = call ∷ []
calls_of Suspend = Down ∷ []
calls_of Resume = Up ∷ Sync ∷ []

-- those of a list, in order
abbrev pub port_calls : List PileCall → List PortCall
port_calls cs = flat_map calls_of cs
