use Rattle.std.proofs.Common.{◌≡◌}
use Rattle.port_layer.specs.Layer.{send_pieces}
use Rattle.port_keeper_marks.specs.Runs.{runs}
use Rattle.port_keeper_marks.proofs.Running.{Within}
use Rattle.port_keeper_laws.specs.Machine.{keeper_sending}
use Rattle.port_keeper.proofs.keeper.Keeper.send_runs.Given as goal

-- the runs that are left, sent from here, come to the same as all of them
abbrev pub invariant-loop-run : goal.invariant-loop-run
invariant-loop-run g l =
    let sending = keeper_sending g.P.Port.machine in
    (goal.iterator-loop-run g).can_next l.run-iterator
    × (goal.iterator-loop-run g).is_finite l.run-iterator
    × Within 128 l.run-iterator
    × (send_pieces sending l.run-iterator l.self ≡ send_pieces sending (runs l.fn.marks) l.fn.self)
