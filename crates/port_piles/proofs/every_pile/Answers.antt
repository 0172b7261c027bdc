use Rattle.port_piles.proofs.Auditing.{every_pile_audited, every_pile_meaning}
use Rattle.port_piles.proofs.every_pile.Goals as goal

pub returns-clause-audited : goal.returns-clause-audited
returns-clause-audited g c =
    every_pile_audited g.met.B.Chart.Chart.rules g.B.Bus.machine g.met.B.Bus.meaning

pub returns-clause-meaning : goal.returns-clause-meaning
returns-clause-meaning g c =
    every_pile_meaning g.met.B.Chart.Chart.rules g.B.Bus.machine g.met.B.Bus.meaning
