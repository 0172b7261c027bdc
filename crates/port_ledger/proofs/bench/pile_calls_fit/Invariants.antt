use Rattle.std.proofs.Common.{take}
use Rattle.bench_call.specs.Rests.{port_calls}
use Rattle.port_ledger.specs.Fits.{CallsFit}
use Rattle.port_ledger.proofs.bench.pile_calls_fit.Given as goal

abbrev pub invariant-loop-call : goal.invariant-loop-call
invariant-loop-call l = CallsFit (port_calls (take l.call-index l.calls))
