use Rattle.port_keeper_marks.proofs.Marking.{TellsBelow}
use Rattle.port_keeper_marks.proofs.marks.Marks.differing.Given as goal

abbrev pub invariant-loop-register : goal.invariant-loop-register
invariant-loop-register g l = TellsBelow g.C.Chart.resets l.words l.register l.marks
