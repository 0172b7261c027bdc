use Rattle.port_keeper_laws.proofs.KeeperLaws.{keeper_laws}
use Rattle.port_keeper.proofs.keeper.Keeper.new.Goals as goal

pub returns-clause-laws : goal.returns-clause-laws
returns-clause-laws g c =
    keeper_laws g.met.P.Chart.Chart.rules g.P.Port.KEEPS g.P.Port.machine
