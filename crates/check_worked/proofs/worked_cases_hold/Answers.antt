use Rattle.check_worked.proofs.Shown.{worked_cases}
use Rattle.check_worked.proofs.worked_cases_hold.Goals as goal

pub returns : goal.returns
returns c = worked_cases
