use Rattle.std.proofs.Common.{arith}
use Rattle.std.proofs.lemmas.Grind.{common_steps}
use Rattle.bench_call.proofs.Hexing.{byte_written}
use Rattle.bench_text.proofs.text.SentDisplay.fmt.Goals as goal

pub returns-after-acknowledged-clause-writes : goal.returns-after-acknowledged-clause-writes
returns-after-acknowledged-clause-writes g c = grind (arith, common_steps, byte_written)
