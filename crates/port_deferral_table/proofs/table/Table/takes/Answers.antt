use Rattle.std.proofs.Common.{rules}
use Rattle.port_deferral_table.proofs.Placing.{takes_finds}
use Rattle.port_deferral_table.proofs.table.Table.takes.Goals as goal

pub returns-then-is_some-clause-law : goal.returns-then-is_some-clause-law
returns-then-is_some-clause-law c =
    takes_finds c.args.register c.args.patch c.args.self.now _ (search rules)

pub returns-else-is_some-clause-law : goal.returns-else-is_some-clause-law
returns-else-is_some-clause-law c =
    takes_finds c.args.register c.args.patch c.args.self.now _ (search rules)
