use Rattle.port_ledger.proofs.Planting.{none_audited}
use Rattle.port_ledger.proofs.wrong_runs.Goals as goal

pub returns : goal.returns
returns c = none_audited
