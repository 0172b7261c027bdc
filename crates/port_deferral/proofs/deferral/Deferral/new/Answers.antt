use Rattle.port_deferral_laws.proofs.DeferralLaws.{deferral_laws}
use Rattle.port_deferral.proofs.deferral.Deferral.new.Goals as goal

pub returns-clause-laws : goal.returns-clause-laws
returns-clause-laws g c =
    let port = g.P.Port in
    deferral_laws port.machine port.KEEPS g.P.Chart.Chart.classed
