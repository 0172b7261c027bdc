use Rattle.port_ledger.proofs.Working.{worked_audited}
use Rattle.port_ledger.proofs.worked_run.Goals as goal

pub returns-clause-audited : goal.returns-clause-audited
returns-clause-audited c = worked_audited
