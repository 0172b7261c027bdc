use Rattle.std.proofs.Common.{◌≡◌, ◌-◌}
use Rattle.port_keeper_marks.specs.Runs.{unmark, clear}
use Rattle.port_keeper_marks.proofs.marks.Marks.clear.Given as goal

-- what is left of the run gives what the whole run gives
abbrev pub invariant-loop-register : goal.invariant-loop-register
invariant-loop-register l =
    let first = l.register-iterator.start in
    unmark first (l.register-iterator.end - first) l.self ≡ clear l.fn.run l.initial.self
