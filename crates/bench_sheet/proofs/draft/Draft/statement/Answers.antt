use Rattle.std.proofs.Common.{◌≡◌, false, codes, rules}
use Rattle.std.specs.Str.{bytes_eq}
use Rattle.bench_sheet.proofs.Naming.{names}
use Rattle.bench_sheet.proofs.draft.Draft.statement.Goals as goal

-- one search finds too many cases where it looks at all names at once
pub returns-in_default : goal.returns-in_default
returns-in_default c =
    let bus : bytes_eq c.args.name.now (codes "bus") ≡ false = search (rules, names) in
    let chart : bytes_eq c.args.name.now (codes "chart") ≡ false = search (rules, names) in
    let marks : bytes_eq c.args.name.now (codes "marks") ≡ false = search (rules, names) in
    let pile : bytes_eq c.args.name.now (codes "pile") ≡ false = search (rules, names) in
    rw (bus, chart, marks, pile) c.call.ensures
