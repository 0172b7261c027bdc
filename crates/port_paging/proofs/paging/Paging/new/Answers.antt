use Rattle.port_paging_laws.proofs.PagingLaws.{paging_laws}
use Rattle.port_paging.proofs.paging.Paging.new.Goals as goal

pub returns-clause-laws : goal.returns-clause-laws
returns-clause-laws g c =
    paging_laws g.met.B.Chart.Chart.rules g.B.Bus.machine g.met.B.Bus.meaning
