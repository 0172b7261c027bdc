use Rattle.port_ledger.proofs.Running.{Underway}
use Rattle.port_ledger.proofs.perform_run.Given as goal

-- what was told so far, and what the calls that are left come to from here, is what all come to
abbrev pub invariant-loop-record : goal.invariant-loop-record
invariant-loop-record g l =
    Underway g.P.Port.machine l.record-index l.record-items l.fn.run l.fn.pile l.pile
